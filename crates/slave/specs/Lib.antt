-- What the measuring half hands from function to function, as crate `rules` says it. Nothing here says what an event does.
pub mod Keeping
