mod CellBytes
mod SoFar
mod FirstFaults
mod Parsing
mod Sizes
pub mod Exactly
