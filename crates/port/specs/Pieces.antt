-- What the private functions answer. Nothing here has to be believed: `EntryLaws` shows that `step` says the same.
use Rattle.std.specs.Prelude.{ℕ, ◌≡◌, List, [], ◌++◌, length, drop, Option, Some, None, Ok}
use Rattle.wire.specs.Layout.{message_bytes}
use Rattle.writing.specs.Writing.{write_of}
use Rattle.record.specs.declared.Answer.{Answer}
use Rattle.record.specs.Answers.{with_length, refused_with}
use Rattle.rules.specs.Names.{Port}
use Rattle.rules.specs.Worked.{Worked, worked, refused}
use Rattle.handling.specs.declared.Handled.{Handled}
use Rattle.handling.specs.Sending.{length_left, buffer_left}
use Rattle.sent.specs.declared.Message.{Message}

-- ---- what is sent

abbrev pub bytes_in : Option Message → List ℕ
bytes_in None = []
bytes_in (Some m) = message_bytes m.header m.body

-- a buffer of so many bytes takes the message
abbrev pub Ready : Option Message → ℕ → Type 0
Ready None room = Unit {0}
Ready (Some m) room =
    write_of m.header m.body room ≡ Ok (length (message_bytes m.header m.body))

-- the length that is told, n where nothing is sent
abbrev pub length_sent : Option Message → ℕ → ℕ
length_sent None n = n
length_sent (Some m) n = length (message_bytes m.header m.body)

abbrev pub answer_sent : Option Message → Answer → Answer
answer_sent m a = with_length a (length_sent m a.length)

unfoldable pub buffer_sent : Option Message → List ℕ → List ℕ
buffer_sent m l = bytes_in m ++ drop (length (bytes_in m)) l

-- ---- what an entry gives back of what its handler answered: a refusal is told with the record that was found, and leaves the buffer

abbrev pub answer_by : Port → Worked Handled → ℕ → Answer
answer_by p (worked h) room = with_length h.answer (length_left h.message h.answer.length room)
answer_by p (refused o) room = refused_with o p

abbrev pub buffer_by : Worked Handled → List ℕ → List ℕ
buffer_by (worked h) l = buffer_left h.message l
buffer_by (refused o) l = l
