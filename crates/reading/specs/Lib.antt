pub mod Tokens
pub mod Front
pub mod Rows
pub mod Names
