-- Laws of what specs/ defines, for the crates above to cite.
pub mod Examples
pub mod FitLaws
