-- Writing an event log. To be believed: `Recording`, and for the theorems `Fitting`. What follows from them: `ReadsBack`, by the laws before it.
pub mod Recording
pub mod Fitting
pub mod RecordingLaws
pub mod StandsLaws
pub mod ReadsBack
