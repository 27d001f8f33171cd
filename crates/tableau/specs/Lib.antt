pub mod Machine
pub mod Small
pub mod MachineLawful
pub mod Promises
pub mod Standing
