pub mod Lent
pub mod Room
