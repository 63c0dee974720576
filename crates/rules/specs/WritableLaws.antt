-- What the laws of proofs/WritableLaws.antt speak of.
use Rattle.std.specs.Prelude.{ℕ, ◌≤◌, ◌≡◌, length, Option, Some, None, Ok}
use Rattle.wire.specs.Layout.{message_bytes}
use Rattle.writing.specs.Writing.{write_of}
use Rattle.rules.specs.Names.{Message}
use Rattle.rules.specs.Events.{Done}

-- ---- a message that any buffer of 64 bytes or more takes whole; where none is sent, nothing is said

abbrev pub Writable : Option Message → Type 0
Writable None = Unit {0}
Writable (Some m) =
    (room : ℕ) → 64 ≤ room → write_of m.header m.body room ≡ Ok (length (message_bytes m.header m.body))

abbrev pub DoneWritable : Done → Type 0
DoneWritable d = Writable d.message
