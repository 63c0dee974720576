-- What the laws of proofs/StateLaws.antt speak of.
use Rattle.std.specs.Prelude.{◌≡◌, Bool, false, cond, ◌&&◌, ◌||◌}
use Rattle.record.specs.Record.{state_number, is_faulty}
use Rattle.rules.specs.Names.{Port}
use Rattle.rules.specs.Events.{Event, Done, Answered}
use Rattle.rules.specs.WorkedOut.{Sums}
use Rattle.rules.specs.Changes.{is_peer, state_after, resets}

-- ---- events that touch neither

pub record Quiet (p : Port) (d : Done) : Type 0 where
  pub state : state_number d.port.state ≡ state_number p.state
  pub reset : d.reset ≡ false

-- ---- what a message or a stamp does to state and reset

pub record Turns (p : Port) (two back : Bool) (d : Done) : Type 0 where
  pub state : state_number d.port.state ≡ cond two 3 (cond back 0 (state_number p.state))
  pub reset : d.reset ≡ (two || back)

-- by a second responder, and by the peer exchange that the sums complete
abbrev pub TurnsBy : Port → Bool → Sums → Done → Type 0
TurnsBy p two sums d = Turns p two (is_faulty p.state && is_peer sums.completes) d

-- ---- all events

pub record AfterState (p : Port) (e : Event) (r : Answered) : Type 0 where
  pub state : state_number r.port.state ≡ state_after p e
  pub reset : r.reset ≡ resets p e
