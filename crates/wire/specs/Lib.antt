-- Messages, and where each of their fields stands. To be believed: `Layout`. What follows from it: the laws.
pub mod Layout
pub mod LayoutLaws
