pub mod Lines
pub mod Drive
pub mod Model
