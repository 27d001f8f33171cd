pub mod Lassos
pub mod Shown
pub mod Onward
pub mod Asking
pub mod Ordered
