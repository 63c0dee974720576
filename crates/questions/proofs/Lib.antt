-- What the proofs share: bytes that are spelled one after another.
mod Spelled
