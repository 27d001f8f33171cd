pub mod Naming
pub mod Holding
pub mod Tallies
pub mod Counting
pub mod Sets
pub mod Taking
pub mod Known
pub mod Looks
