mod Admitted
mod CheckSteps
pub mod Course
pub mod DropRead
pub mod Laying
pub mod Passed
pub mod Stores
pub mod Writes
