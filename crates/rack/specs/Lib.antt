pub mod Describing
