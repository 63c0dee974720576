-- What the laws of proofs/ReadsBack.antt speak of.
use Rattle.std.specs.Prelude.{ℕ, ◌≡◌, Bool, true, false}
use mathlib.Core.List.{List, [], ◌∷◌, ◌++◌}
use Rattle.std.proofs.Math.ListN.{length}
use Rattle.rules.specs.Events.{Event}
use Rattle.event_log.specs.Told.{Next}
use Rattle.event_log.specs.Fields.{front_of}
use Rattle.recording.specs.Recording.{event_bytes, recordable}
use Rattle.recording.specs.Fitting.{Fitting}

-- ---- what is said

-- at the front of its bytes, whatever follows them, stands the event e, and it has all of them
abbrev pub ReadsBack : Event → List ℕ → Bool → Type 0
ReadsBack e t last = front_of false (event_bytes e ++ t) last ≡ Next.Event e (length (event_bytes e))

-- events' bytes, one behind the other
unfoldable pub events_bytes : List Event → List ℕ
events_bytes [] = []
events_bytes (e ∷ es) = event_bytes e ++ events_bytes es

-- each of them can be recorded, and its numbers are within their types
abbrev pub Recordable : List Event → Type 0
Recordable [] = Unit {0}
Recordable (e ∷ es) = ((recordable e ≡ true) × Fitting e) × Recordable es
