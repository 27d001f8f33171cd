pub mod Lexing
pub mod Rows
pub mod Looking
