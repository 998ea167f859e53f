mod Decimals
pub mod FirstBytes
pub mod FirstWords
pub mod NumberLines
pub mod Refused
