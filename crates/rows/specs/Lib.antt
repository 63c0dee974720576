-- The rows of the table as the values that the code answers. Nothing here has to be believed: `RowLaws` shows that `step` says the same.
pub mod Rows
pub mod RowLaws
