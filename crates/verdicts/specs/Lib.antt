pub mod Marked
pub mod Decide
