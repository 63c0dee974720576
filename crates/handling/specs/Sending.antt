-- What a message that is sent leaves of the buffer, and the length that is told.
use Rattle.std.specs.Prelude.{ℕ, List, Option, Some, None, Result, Ok, Err}
use Rattle.writing.specs.Writing.{write_of, left_of}
use Rattle.sent.specs.declared.Message.{Message}
use Rattle.writing.specs.declared.WriteError.{WriteError}

-- how many bytes were written, n where none were
abbrev pub written_or : ℕ → Result ℕ WriteError → ℕ
written_or n (Ok k) = k
written_or n (Err e) = n

-- the second ℕ is the buffer's length
unfoldable pub length_left : Option Message → ℕ → ℕ → ℕ
length_left None n room = n
length_left (Some m) n room = written_or n (write_of m.header m.body room)

unfoldable pub buffer_left : Option Message → List ℕ → List ℕ
buffer_left None l = l
buffer_left (Some m) l = left_of m.header m.body l
