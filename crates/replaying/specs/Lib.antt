-- Replaying a log. To be believed: `Replay`, and for what the theorems say `Turns` and `Sessions`: what a window and a buffer make of a log, and turn after turn. What follows from them: the laws; `session_writes` in `SessionLaws` and `session_ends` in `EndsLaws` are the theorems.
pub mod Replay
pub mod Turns
pub mod Sessions
pub mod OneLaws
pub mod AnsweringLaws
pub mod TurnLaws
pub mod RunLaws
pub mod WritesLaws
pub mod SessionLaws
pub mod Owed
