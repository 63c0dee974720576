-- Text in a lent buffer. To be believed: `Page`, `Lent`, `Ascii`, `Digits`. What follows from them: `PageLaws`, `LentLaws`, `DigitsLaws`; `Laying` is private to the code.
pub mod Page
pub mod Lent
pub mod Ascii
pub mod Digits
pub mod Laying
pub mod PageLaws
pub mod LentLaws
pub mod DigitsLaws
