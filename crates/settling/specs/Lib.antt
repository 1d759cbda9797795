pub mod Backing
pub mod Draft
pub mod Settling
pub mod Trimming
