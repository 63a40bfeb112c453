pub mod Visit
pub mod Even
