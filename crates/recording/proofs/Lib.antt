-- Laws of what specs/ defines, for the crates above to cite.
pub mod FoundLaws
pub mod LayingLaws
pub mod ReadsBack
pub mod RecordingLaws
pub mod StandsLaws
