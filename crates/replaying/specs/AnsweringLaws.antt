-- Laws of an event that is handed to its entry.
use Rattle.std.specs.Prelude.{◌≡◌, ℕ, ◌+◌, List, length, take, drop}
use Rattle.std.proofs.Common.{sym, ◌∙◌, ap, subst, arith, take_all}
use Rattle.time.specs.declared.Time.{Time}
use Rattle.record.specs.declared.Answer.{Answer}
use Rattle.record.specs.declared.Port.{Port}
use Rattle.rules.specs.Events.{Event, event, general}
use Rattle.port.specs.Entries.{Answers}
use Rattle.event_log.specs.declared.Logged.{Logged}
use Rattle.event_log.specs.Told.{told}
use Rattle.streaming.specs.FrontLaws.{EndsWith, Placed}

-- a message lies within its field, at the place that `Placed` gives: it ends where the field does
module _ (f : List ℕ) (x : Event) (m : List ℕ) where
  within : EndsWith f m → (a : ℕ) × (a + length m ≡ length f) × (take (length m) (drop a f) ≡ m)
  within (a, b, c) = (a, b, ap (take (length m)) c ∙ take_all (length m) m (omega arith))

  pub event_within : (t : Time) → x ≡ event t m → Placed f x → (a : ℕ) × (a + length m ≡ length f) × (take (length m) (drop a f) ≡ m)
  event_within t e h = within (subst (Placed f) e h).1

  pub general_within : x ≡ general m → Placed f x → (a : ℕ) × (a + length m ≡ length f) × (take (length m) (drop a f) ≡ m)
  general_within e h = within (subst (Placed f) e h).1

-- what an entry promises of an event's parts it promises of the event
module _ (p : Port) (l : List ℕ) (a : Answer) (left : List ℕ) (x : Logged) where
  pub answers_told : (y : Logged) → x ≡ y → Answers p (told y) l a left → Answers p (told x) l a left
  answers_told y e h = subst (λ (z : Logged). Answers p (told z) l a left) (sym e) h

  pub answers_event : (t : Time) (m : _) → x ≡ Logged.Event t m → Answers p (event t m.now) l a left → Answers p (told x) l a left
  answers_event t m e h = answers_told (Logged.Event t m) e h

  pub answers_general : (m : _) → x ≡ Logged.General m → Answers p (general m.now) l a left → Answers p (told x) l a left
  answers_general m e h = answers_told (Logged.General m) e h
