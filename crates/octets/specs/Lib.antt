-- Numbers in bytes. To be believed: `Bytes`. What follows from it: the laws.
pub mod Bytes
pub mod BytesLaws
