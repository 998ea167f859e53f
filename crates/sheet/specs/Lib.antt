pub mod Stored
pub mod Views
pub mod Adding
