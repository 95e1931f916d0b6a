pub mod Limits
pub mod Overlay
pub mod Path
pub mod Folding
