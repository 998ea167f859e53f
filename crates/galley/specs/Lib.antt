pub mod Standing
pub mod Rows
pub mod Galleys
pub mod Refusals
pub mod Texts
