pub mod Changes
pub mod Inside
