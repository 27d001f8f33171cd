pub mod Edges
pub mod Past
pub mod Bits
