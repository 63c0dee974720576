-- Lemmas that several of the functions' proofs cite, and laws of two words.
pub mod Machine
mod Checked
