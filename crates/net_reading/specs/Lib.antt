pub mod Opening
pub mod Owed
pub mod Names
pub mod Reading
