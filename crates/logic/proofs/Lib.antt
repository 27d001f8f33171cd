pub mod Unfold
pub mod Words
