pub mod Proper
mod Stored
