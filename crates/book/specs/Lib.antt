pub mod Laws
pub mod Rulebook
