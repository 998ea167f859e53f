pub mod Laws
pub mod Signed
