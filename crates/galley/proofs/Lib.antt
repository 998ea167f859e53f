mod Playing
mod Rows
mod Trying
