pub mod Lines
pub mod Numbers
pub mod Forms
pub mod Answers
pub mod Responses
pub mod Listings
