-- Nothing here has to be believed: it says where the loop keeps what it has read, and what of the log's lines is still due.
pub mod Between
pub mod BetweenLaws
pub mod Written
