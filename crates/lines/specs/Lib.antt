-- The lines that the programs write. To be believed: `Lines`. What follows from it: `LinesLaws`.
pub mod Lines
pub mod LinesLaws
