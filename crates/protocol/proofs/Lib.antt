pub mod Cutting
pub mod Growing
pub mod Digits
