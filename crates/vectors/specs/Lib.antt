-- What is left where a read fails.
pub mod Fetching
