pub mod Arcs
pub mod Views
pub mod Columns
pub mod Making
