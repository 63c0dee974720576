-- Nothing here has to be believed: it says where the loop keeps what it has read, and how it goes on.
pub mod Becomes
pub mod BecomesLaws
