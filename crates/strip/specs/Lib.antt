pub mod Bytes
pub mod Row
pub mod Words
pub mod WordRows
pub mod Bits
