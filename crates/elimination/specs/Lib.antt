pub mod Arithmetic
pub mod Lift
pub mod Rows
