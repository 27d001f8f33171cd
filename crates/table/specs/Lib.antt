pub mod Rows
pub mod Loads
pub mod TableLawful
pub mod Standing
pub mod StandingLawful
pub mod Granting
