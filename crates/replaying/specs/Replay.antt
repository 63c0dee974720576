-- Document 01, 'Event log': what a replay answers and writes. The log's events go to a fresh port one after another.
use Rattle.std.specs.Prelude.{ℕ, ◌+◌, ◌%◌, ◌^◌, List, [], ◌∷◌, ◌++◌, Option, Some, None}
use Rattle.record.specs.declared.Config.{Config}
use Rattle.record.specs.declared.Port.{Port}
use Rattle.record.specs.Record.{port_of}
use Rattle.rules.specs.Events.{Event, Answered}
use Rattle.rules.specs.Step.{step}
use Rattle.streaming.specs.Log.{Log, Ending, end, bad_at, read_log}
use Rattle.lines.specs.declared.Style.{Style}
use Rattle.lines.specs.Lines.{line_of, bad_line, last_line}

-- the packet buffer of a replay, in bytes
abbrev pub packet_room : ℕ
packet_room = 128

abbrev pub answer_to : Port → Event → Answered
answer_to p e = step p packet_room e

-- ---- answers

-- each event finds the record that the one before it left
unfoldable pub results_from : Port → List Event → List Answered
results_from p [] = []
results_from p (e ∷ es) = answer_to p e ∷ results_from (answer_to p e).port es

-- the record at the end
unfoldable pub record_after : Port → List Event → Port
record_after p [] = p
record_after p (e ∷ es) = record_after (answer_to p e).port es

-- from a fresh port (`port_of`): Listening, nothing stored, first ids
unfoldable pub replay_of : Log → List Answered
replay_of l = from l.configuration
  where
    from : Option Config → List Answered
    from None = []
    from (Some c) = results_from (port_of c) l.events

-- ---- lines: numbers and offsets count in 64 bits

unfoldable pub numbered : Style → ℕ → List Answered → List ℕ
numbered style n [] = []
numbered style n (r ∷ rs) = line_of style (n % 2 ^ 64) r ++ numbered style (n + 1) rs

-- the line at a bad field, or what a good log ends with
unfoldable pub last_of : Style → Port → Ending → List ℕ
last_of style p end = last_line style p
last_of style p (bad_at offset) = bad_line (offset % 2 ^ 64)

-- with no configuration nothing can come but a bad field
unfoldable pub without_port : Ending → List ℕ
without_port end = []
without_port (bad_at offset) = bad_line (offset % 2 ^ 64)

unfoldable pub lines_for : Style → Option Config → List Event → Ending → List ℕ
lines_for style None es x = without_port x
lines_for style (Some c) es x =
    numbered style 1 (results_from (port_of c) es) ++ last_of style (record_after (port_of c) es) x

unfoldable pub lines_of : Style → Log → List ℕ
lines_of style l = lines_for style l.configuration l.events l.ending

-- THE DEFINITION: what is written for a log of these bytes
unfoldable pub replay_lines : Style → List ℕ → List ℕ
replay_lines style s = lines_of style (read_log s)
