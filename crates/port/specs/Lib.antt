-- To be believed: `Entries`, which only spells what `step` of crate `rules` answers. What the functions between have for it: `Pieces` and its laws.
pub mod Entries
pub mod Pieces
pub mod SendLaws
pub mod EntryLaws
pub mod ToldLaws
