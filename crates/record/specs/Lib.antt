-- To be believed: `Ids`, `Record`, `Answers`. What follows from them: `Same`, which is equality by `SameLaws`, the laws and the examples.
pub mod Ids
pub mod Record
pub mod Same
pub mod Answers
pub mod JoinedLaws
pub mod ExactLaws
pub mod AnswersLaws
pub mod Examples
