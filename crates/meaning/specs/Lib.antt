pub mod Check
pub mod Laid
pub mod Meaning
pub mod Perform
pub mod Step
pub mod Store
pub mod Undo
