-- Document 01, 'Event log': a whole log. Its bytes as the configuration, the events in their order, and how it ends.
use Rattle.std.specs.Prelude.{ℕ, zero, suc, ◌+◌, ◌-◌, Bool, true, false, List, [], ◌∷◌, Option, Some, None}
use Rattle.record.specs.declared.Config.{Config}
use Rattle.rules.specs.Events.{Event}
use Rattle.event_log.specs.Told.{Next}
use Rattle.event_log.specs.Fields.{front_of}

-- ---- field after field

-- what the fields hold, each with its size; then the end, a bad field at an offset, or bytes from an offset on that are no whole field yet
pub data Fields : Type 0 where
  starts : Config → ℕ → Fields → Fields
  next : Event → ℕ → Fields → Fields
  good : Fields
  bad : ℕ → Fields
  rest : ℕ → Bool → List ℕ → Fields

-- what stands at the front of s, which begins at the offset `at`; behind a field of n bytes it goes on as `go n` says
abbrev pub onward : Next → ℕ → Bool → List ℕ → (ℕ → Fields) → Fields
onward (Next.Config c) at first s go = starts c 36 (go 36)
onward (Next.Event e n) at first s go = next e n (go n)
onward Next.More at first s go = rest at first s
onward Next.End at first s go = good
onward Next.Bad at first s go = bad at

-- byte by byte: the first `skip` bytes belong to a field that has been read
unfoldable pub scan_from : Bool → List ℕ → ℕ → Bool → ℕ → Fields
scan_from last [] skip first at = onward (front_of first [] last) at first [] (λ n. bad at)
scan_from last (b ∷ s) (suc skip) first at = scan_from last s skip first at
scan_from last (b ∷ s) zero first at =
    onward (front_of first (b ∷ s) last) at first (b ∷ s) (λ n. scan_from last s (n - 1) false (at + n))

-- the fields of s: `last` says that nothing follows s, `first` that the configuration is due
unfoldable pub scan : Bool → Bool → ℕ → List ℕ → Fields
scan last first at s = scan_from last s 0 first at

-- ---- a log

-- at its end, or at the offset of a bad field
pub data Ending : Type 0 where
  end : Ending
  bad_at : ℕ → Ending

pub record Log : Type 0 where
  pub configuration : Option Config
  pub events : List Event
  pub ending : Ending

abbrev pub ended : Ending → Log
ended x = record { configuration = None; events = []; ending = x }

unfoldable pub gathered : Fields → Log
gathered (starts c n l) = record { configuration = Some c; events = (gathered l).events; ending = (gathered l).ending }
gathered (next e n l) =
    record { configuration = (gathered l).configuration; events = e ∷ (gathered l).events; ending = (gathered l).ending }
gathered good = ended end
gathered (bad n) = ended (bad_at n)
gathered (rest n f u) = ended (bad_at n)

-- THE DEFINITION: what a log of these bytes says
unfoldable pub read_log : List ℕ → Log
read_log s = gathered (scan true true 0 s)
