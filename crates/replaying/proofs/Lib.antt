-- Laws of what specs/ defines, for the crates above to cite.
pub mod EndsLaws
pub mod OwedLaws
pub mod RunLaws
pub mod SessionLaws
pub mod TurnLaws
pub mod WritesLaws
