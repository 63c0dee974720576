-- Messages written. To be believed: `Writing`, `Numbers`. What follows: its laws, the round trips with crate `reading`, and whole packets both ways.
pub mod Writing
pub mod Numbers
pub mod WritingLaws
pub mod LentLaws
pub mod RoundTrips
pub mod Examples
