pub mod Truth
pub mod Sheet
pub mod Answers
pub mod Weak
