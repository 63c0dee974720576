-- What the laws of proofs/WritesLaws.antt speak of.
use Rattle.std.specs.Prelude.{ℕ, ◌+◌, ◌%◌, ◌^◌, List, ◌++◌}
use Rattle.record.specs.declared.Port.{Port}
use Rattle.record.specs.Record.{port_of}
use Rattle.streaming.specs.Log.{Fields, starts, next, good, bad, rest}
use Rattle.lines.specs.declared.Style.{Style}
use Rattle.lines.specs.Lines.{line_of, bad_line, last_line}
use Rattle.replaying.specs.Replay.{answer_to}

unfoldable pub writes : Style → Port → ℕ → Fields → List ℕ
writes style p n (starts c k l) = writes style (port_of c) n l
writes style p n (next e k l) = line_of style (n % 2 ^ 64) (answer_to p e) ++ writes style (answer_to p e).port (n + 1) l
writes style p n good = last_line style p
writes style p n (bad at) = bad_line (at % 2 ^ 64)
writes style p n (rest at f u) = bad_line (at % 2 ^ 64)

-- ---- behind the configuration there is no other

abbrev pub NoStart : Fields → Type 0
NoStart (starts c n l) = ⊥
NoStart (next e n l) = NoStart l
NoStart good = Unit {0}
NoStart (bad n) = Unit {0}
NoStart (rest n f u) = Unit {0}
