pub mod Putting
pub mod Blocks
pub mod Writing
pub mod Refusals
