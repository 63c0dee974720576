-- To be believed: `Fit`. What follows from it: its laws and the examples.
pub mod Fit
pub mod FitLaws
pub mod Examples
