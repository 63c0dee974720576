-- What the code answers, as cases of crate `rules`' definitions, and the laws that turn the one into the other.
pub mod Taking
pub mod TakingLaws
