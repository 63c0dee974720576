-- Document 01, 'Event log': what a whole log holds. To be believed: `Log`. `Streaming` says what reading by pieces is, and its laws that it comes to the same.
pub mod Log
pub mod Streaming
pub mod FrontLaws
pub mod Examples
