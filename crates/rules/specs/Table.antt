-- Document 01, 'Numbers the port answers': the condition of each row, in the table's order. (Row 2 is `unfit` of crate `fitness`; row 7 is `row7` of `WorkedOut`.)
use Rattle.std.specs.Prelude.{ℕ, Bool, true, false, cond, ◌&&◌, not, List, [], ◌∷◌, ltb, eqb}
use Rattle.rules.specs.Names.{Kind, Header, Config, Port, Outcome}
use Rattle.wire.specs.Layout.{header_of, sdo_id}
use Rattle.reading.specs.Reading as Wire
use Rattle.fitness.specs.Fit.{time_out, draw_out, unfit}
use Rattle.rules.specs.Events.{Event, event, general, stamp, sync_timer, delay_timer, filter_answer, set_state}
use Rattle.rules.specs.WorkedOut.{row7}

-- row 1: too short a packet buffer, whatever the event is (reading 8)
abbrev pub least_buffer : Config → Event → ℕ
least_buffer c e = 64

unfoldable pub row1 : Config → Event → ℕ → Bool
row1 c e room = ltb room (least_buffer c e)

-- row 3: a time or a draw that the event brings, used or not
unfoldable pub row3 : Event → Bool
row3 (event at message) = time_out at
row3 (general message) = false
row3 (stamp at context) = time_out at
row3 sync_timer = false
row3 (delay_timer draw) = draw_out draw
row3 (filter_answer update) = false
row3 (set_state new) = false

-- rows 4, 5, 6 and 8 look at a message, on both entries
abbrev pub of_message : (List ℕ → Bool) → Event → Bool
of_message test (event at message) = test message
of_message test (general message) = test message
of_message test (stamp at context) = false
of_message test sync_timer = false
of_message test (delay_timer draw) = false
of_message test (filter_answer update) = false
of_message test (set_state new) = false

-- row 4: no version byte, or another version
unfoldable pub row4 : Config → Event → Bool
row4 c e = of_message Wire.row4 e

-- row 5: no whole header, a stated length that cannot be, a type that is none, or a body that is cut short
unfoldable pub row5 : Config → Event → Bool
row5 c e = of_message Wire.row5 e

-- row 6: for another domain, or another sdo id
abbrev pub ours : Config → Header → Bool
ours c h = eqb (sdo_id h) c.sdo && eqb h.domain c.domain

unfoldable pub row6 : Config → Event → Bool
row6 c e = of_message (λ message. not (ours c (header_of message))) e

-- row 8: a type that is left to the host
abbrev pub hosts : Kind → Bool
hosts (Kind.Table t) = false
hosts Kind.Host = true
hosts Kind.Reserved = false

unfoldable pub row8 : Config → Event → Bool
row8 c e = of_message (λ message. hosts (Wire.kind_in message)) e

-- ---- the rows one after another; the first that holds is the answer, and `Taken` where none does

abbrev pub table : Port → ℕ → Event → List (Bool × Outcome)
table p room e =
    (row1 p.config e room, Outcome.Buffer)
    ∷ (unfit p, Outcome.Unfit)
    ∷ (row3 e, Outcome.Limits)
    ∷ (row4 p.config e, Outcome.Version)
    ∷ (row5 p.config e, Outcome.Malformed)
    ∷ (row6 p.config e, Outcome.Foreign)
    ∷ (row8 p.config e, Outcome.Host)
    ∷ (row7 p e, Outcome.Range)
    ∷ []

abbrev pub first_hit : List (Bool × Outcome) → Outcome
first_hit [] = Outcome.Taken
first_hit ((row, outcome) ∷ rows) = cond row outcome (first_hit rows)
