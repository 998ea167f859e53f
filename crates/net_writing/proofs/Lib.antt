mod Answered
mod Blocks
mod Decimals
mod Joins
mod Puts
