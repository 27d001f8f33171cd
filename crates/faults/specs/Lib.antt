pub mod Numbers
pub mod Layers
pub mod Refusals
pub mod Carried
