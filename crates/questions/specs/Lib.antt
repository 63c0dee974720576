-- What is left where a record is not whole.
pub mod Cut
-- What digits spell.
pub mod Digits
