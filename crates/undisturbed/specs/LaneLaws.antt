-- What the laws of proofs/LaneLaws.antt speak of.
use Rattle.std.specs.Prelude.{◌≡◌, Bool, Option}
use Rattle.std.proofs.Math.Bool.{true, false}
use mathlib.Core.List.{List, [], ◌∷◌, ◌++◌}
use Rattle.rules.specs.Names.{Config, Outcome, Measurement}
use Rattle.rules.specs.Events.{Event}
use Rattle.rules.specs.Given.{BytesIn}
use Rattle.undisturbed.specs.Runs.{Lane, new, again, in_full, short, a_part, the_last, Place, within, free, Item, placed}
use Rattle.undisturbed.specs.Times.{times_in, times_of, comes_to}
use Rattle.undisturbed.specs.Undisturbed.{Reply, TakenButForeign}
use Rattle.undisturbed.specs.TimesLaws.{overlap, finished}

-- what is known of an event of the given run
abbrev pub Admitted : Place → Event × Reply → Type 0
Admitted place a = TakenButForeign place a × BytesIn a.0

-- answered 0, with a measurement or without
abbrev pub replied : Option Measurement → Reply
replied m = record { outcome = Outcome.Taken; measurement = m; packet = []; actions = []; reset = false }

-- ---- an exchange as its proof takes it: each event brings what is missing, and the last what is missing last

pub record Brought (c : Config) (l : Lane) (es : List Event) (e : Event) (done : Bool) : Type 0 where
  pub missing : overlap (times_of c es) (times_in c e) ≡ false
  pub finishes : finished (comes_to c l (es ++ (e ∷ []))) ≡ done

abbrev pub NoMore : {A : Type 0} → List A → Type 0
NoMore [] = Unit {0}
NoMore (a ∷ as') = ⊥

-- what is left of an exchange after the events es
unfoldable pub Rest : Config → Lane → (Event → Type 0) → List Event → List (Item Event) → Type 0
Rest c l Of es [] = ⊥
Rest c l Of es (placed (within k (a_part new)) e ∷ more) =
    Of e × Brought c l es e false × Rest c l Of (es ++ (e ∷ [])) more
Rest c l Of es (placed (within k (a_part again)) e ∷ more) = ⊥
Rest c l Of es (placed (within k (the_last in_full)) e ∷ more) = Of e × Brought c l es e true × NoMore more
Rest c l Of es (placed (within k (the_last (short w))) e ∷ more) = ⊥
Rest c l Of es (placed (free b) e ∷ more) = ⊥
