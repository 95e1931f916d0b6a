pub mod Fitting
mod Laying
pub mod Listed
