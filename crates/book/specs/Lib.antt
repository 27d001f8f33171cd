pub mod Names
pub mod Rules
pub mod Standing
pub mod Calls
