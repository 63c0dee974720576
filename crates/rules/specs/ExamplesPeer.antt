-- What the laws of proofs/ExamplesPeer.antt speak of.
use Rattle.std.specs.Prelude.{ℕ, ◌+◌, ◌-◌, ◌*◌, ◌^◌, ◌≡◌, List, [], ◌∷◌, ℤ, pos}
use Rattle.time.specs.Units.{time_words}
use Rattle.wire.specs.Layout.{two_step_flag}
use Rattle.sent.specs.Messages.{no_flag}
use Rattle.rules.specs.Names.{Time, Identity, Body, Mechanism, Port, Context, Measurement}
use Rattle.rules.specs.Events.{Event, event, general, stamp, delay_timer}
use Rattle.rules.specs.Running.{run_of, lines, quiet, measures, us, master, stranger, ns, in_units, set_up, message, wire_ns}

-- ---- a request of id 0, stamped at 1,000 ns, and what may answer it

abbrev pub asker : Port
asker = set_up Mechanism.Peer 0

abbrev pub asked : List Event → List Event
asked es = delay_timer 0 ∷ stamp (ns 1000) (Context.PDelayReq 0) ∷ es

-- the request came at 5,000 ns; the correction is in 2 ^ -16 ns
abbrev pub answer : Identity → ℕ → ℕ → List ℕ
answer source flags correction = message source flags correction 0 (Body.PDelayResp (wire_ns 5000) us)

abbrev pub answer_follow_up : Identity → ℕ → List ℕ
answer_follow_up source n = message source no_flag 0 0 (Body.PDelayRespFollowUp (wire_ns n) us)

-- 30.5 ns
abbrev pub half_ns : ℕ
half_ns = 2 ^ 31

abbrev pub MeasuresPeer : List Event → Time → Type 0
MeasuresPeer es at = lines (run_of asker (asked es)) ≡ quiet ∷ quiet ∷ quiet ∷ measures (Measurement.Peer at (in_units (pos (61 * half_ns)))) ∷ []

-- F: the correction of 40 ns is taken off the receive time, which is what the measurement is dated by
abbrev pub MeasuresOneStep : Time → List ℕ → Time → ℤ → Type 0
MeasuresOneStep at message dated delay =
    lines (run_of asker (asked (event at message ∷ []))) ≡ quiet ∷ quiet ∷ measures (Measurement.Peer dated (in_units delay)) ∷ []

-- H: a one-step response that came 3 units before the request left, and 3 units after
abbrev pub early : Time
early = time_words (pos (1000 * 2 ^ 32 - 3))

abbrev pub later : Time
later = time_words (pos (1000 * 2 ^ 32 + 3))

-- ---- slips

-- a second responder is looked for before a duplicate: the state becomes Faulty, 3, with a reset; the exchange stays, so the first responder's follow-up completes it, and the port listens again, with a reset
abbrev pub two_answers : List Event
two_answers =
    asked (event (ns 1101) (answer master two_step_flag 0) ∷ event (ns 1101) (answer stranger two_step_flag 0) ∷ [])

abbrev pub recovering : List Event
recovering =
    asked (event (ns 1101) (answer master two_step_flag 0) ∷ event (ns 1101) (answer stranger two_step_flag 0) ∷ general (answer_follow_up master 5040) ∷ [])
