-- Document 01's marked examples. To be believed: `Cases`, in `Marked` what is said of a case, in `CaseA` the bytes and the lines. `Marked` has the statement over all.
pub mod Cases
pub mod Marked
pub mod CaseA
