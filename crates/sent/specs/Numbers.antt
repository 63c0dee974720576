-- What is made of a message in document 01's terms: 7 where its seconds or its correction leave their range, and otherwise 0.
use Rattle.std.specs.Prelude.{ℕ, Result, Ok, Err}
use Rattle.time.specs.declared.WireTimestamp.{WireTimestamp}
use Rattle.time.specs.declared.TimeError.{TimeError}
use Rattle.sent.specs.declared.Message.{Message}

abbrev pub correction_number : Result ℕ TimeError → ℕ
correction_number (Ok c) = 0
correction_number (Err e) = 7

abbrev pub carried_number : Result (WireTimestamp × ℕ) TimeError → ℕ
carried_number (Ok (w, c)) = 0
carried_number (Err e) = 7

abbrev pub message_number : Result Message TimeError → ℕ
message_number (Ok m) = 0
message_number (Err e) = 7
