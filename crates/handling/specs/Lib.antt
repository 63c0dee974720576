-- What a handler hands on, as crate `rules` says it, and what is left once it is sent. Nothing here says what an event does.
pub mod Handling
pub mod Sending
