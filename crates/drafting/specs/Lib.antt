pub mod Arcs
pub mod Drafts
pub mod Forms
pub mod Limits
pub mod Meaning
pub mod Plan
