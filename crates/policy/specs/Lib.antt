pub mod Gates
pub mod Maps
pub mod Orec
pub mod Packing
pub mod Precedence
pub mod Priority
