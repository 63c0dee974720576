-- Messages read. To be believed: `Reading`, `Unread`, `Numbers`. What follows from them: the laws.
pub mod Reading
pub mod Unread
pub mod Numbers
pub mod ReadingLaws
pub mod UnreadLaws
