pub mod Runs
pub mod Marks
pub mod Form
pub mod Truth
pub mod Laws
pub mod Basics
