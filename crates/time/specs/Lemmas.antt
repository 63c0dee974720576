-- What the laws and the proofs lean on, of numbers alone. A reader of document 01 can pass these by.
pub mod Integers
