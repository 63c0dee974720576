-- Laws of what specs/ defines, for the crates above to cite.
pub mod AnswersLaws
pub mod SameLaws
