pub mod Arrays
pub mod Continuing
pub mod Equal
pub mod Filling
pub mod Meaning
pub mod Sounding
pub mod Turns
pub mod Writing
