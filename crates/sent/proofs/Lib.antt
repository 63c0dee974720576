-- Laws of what specs/ defines, for the crates above to cite.
pub mod CarriedLaws
pub mod Examples
pub mod Laws
pub mod NumberLaws
pub mod SentLaws
