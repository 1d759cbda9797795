pub mod Alike
pub mod Continued
pub mod Forms
pub mod Keeping
pub mod Sounding
