pub mod Answered
pub mod Laws
pub mod Tables
