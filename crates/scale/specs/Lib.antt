pub mod Accents
pub mod Gates
pub mod Inverse
pub mod Lanes
pub mod Model
