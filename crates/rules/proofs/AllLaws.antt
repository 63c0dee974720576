-- Laws of what a rule comes to, each once for any property of what is worked out and any property of a refusal. A theorem on a rule follows the rule's own shape: one law for each step of it.
use Rattle.std.specs.Prelude.{◌≡◌, refl, Bool, true, false, cond, ◌&&◌, not, ℕ, ◌+ℤ◌, ◌-ℤ◌, Option, Some, None, Result, Ok, Err}
use Rattle.std.proofs.Common.{subst}
use Rattle.time.specs.Units.{time, time_of, duration, duration_of, correction}
use Rattle.rules.specs.Names.{Message, Time, Duration, Header, Identity, Exchange, SlaveState, PortState, PeerState, Port, Outcome, TimeError, TimerError}
use Rattle.record.specs.Record.{as_slave, is_slave}
use Rattle.fitness.specs.Fit.{there, full}
use Rattle.rules.specs.Worked.{Worked, worked, refused, ◌then◌, a_time, a_duration, a_message, a_timer, less_correction, plus_correction, elapsed, less_duration}
use Rattle.rules.specs.Events.{Done, changed}
use Rattle.rules.specs.Measuring.{complete, peer_complete, settle}
use Rattle.rules.specs.Exchanges.{Change, stays, becomes, awaited}
use Rattle.rules.specs.Rules.{keeping}
use Rattle.rules.specs.AllLaws.{Comes, Anything, All, peer_done}

-- what all of them have, one of them has
pub all_is : {A : Type 0} (P : A → Type 0) (R : Outcome → Type 0) (w : Worked A) (a : A) → w ≡ worked a → Comes P R w → P a
all_is {A = A} P R w a e h = subst (λ (x : Worked A). Comes P R x) e h

-- what every refusal has may be said of them too
pub all_fill : {A : Type 0} (P : A → Type 0) (R : Outcome → Type 0) (w : Worked A) → ((o : Outcome) → R o) → All P w → Comes P R w
all_fill P R (worked a) f h = h
all_fill P R (refused o) f h = f o

pub all_map : {A : Type 0} (P Q : A → Type 0) (R : Outcome → Type 0) (w : Worked A) → ((a : A) → P a → Q a) → Comes P R w → Comes Q R w
all_map P Q R (worked a) f h = f a h
all_map P Q R (refused o) f h = h

module _ {A : Type 0} (P : A → Type 0) (R : Outcome → Type 0) where
  -- ---- what comes next, with the equation of what came first
  pub all_then : {B : Type 0} (w : Worked B) (next : B → Worked A) → Comes Anything R w → ((b : B) → w ≡ worked b → Comes P R (next b)) → Comes P R (w then next)
  all_then (worked b) next f g = g b refl
  all_then (refused o) next f g = f

  -- ---- a test, with what it said
  pub all_cond : (b : Bool) (x y : Worked A) → (b ≡ true → Comes P R x) → (b ≡ false → Comes P R y) → Comes P R (cond b x y)
  all_cond true x y f g = f refl
  all_cond false x y f g = g refl

  -- ---- a Slave's part, with the state that has it
  pub all_as_slave : (state : PortState) (other : Worked A) (f : SlaveState → Worked A) → (is_slave state ≡ false → Comes P R other) → ((s : SlaveState) → state ≡ PortState.Slave s → Comes P R (f s)) → Comes P R (as_slave state other f)
  all_as_slave PortState.Listening other f g h = g refl
  all_as_slave PortState.Master other f g h = g refl
  all_as_slave PortState.Passive other f g h = g refl
  all_as_slave PortState.Faulty other f g h = g refl
  all_as_slave (PortState.Slave s) other f g h = h s refl

  -- ---- a complete exchange, with its times
  pub all_complete : (x : Exchange) (missing : Worked A) (k : Time → Time → Worked A) → (full x ≡ false → Comes P R missing) → ((id : ℕ) (a b : Time) → x ≡ Exchange.Measuring id (Some a) (Some b) → Comes P R (k a b)) → Comes P R (complete x missing k)
  all_complete Exchange.Empty missing k g h = g refl
  all_complete (Exchange.Measuring id None None) missing k g h = g refl
  all_complete (Exchange.Measuring id None (Some b)) missing k g h = g refl
  all_complete (Exchange.Measuring id (Some a) None) missing k g h = g refl
  all_complete (Exchange.Measuring id (Some a) (Some b)) missing k g h = h id a b refl

  pub all_peer_complete : (q : PeerState) (missing : Worked A) (k : ℕ → Identity → Time → Time → Time → Time → Worked A) → (peer_done q ≡ false → Comes P R missing) → ((id : ℕ) (i : Identity) (a b c d : Time) → q ≡ PeerState.Measuring id (Some i) (Some a) (Some b) (Some c) (Some d) → Comes P R (k id i a b c d)) → Comes P R (peer_complete q missing k)
  all_peer_complete PeerState.Empty missing k g h = g refl
  all_peer_complete (PeerState.Measuring id r None b c d) missing k g h = g refl
  all_peer_complete (PeerState.Measuring id r (Some a) None c d) missing k g h = g refl
  all_peer_complete (PeerState.Measuring id r (Some a) (Some b) None d) missing k g h = g refl
  all_peer_complete (PeerState.Measuring id r (Some a) (Some b) (Some c) None) missing k g h = g refl
  all_peer_complete (PeerState.Measuring id None (Some a) (Some b) (Some c) (Some d)) missing k g h = g refl
  all_peer_complete (PeerState.Measuring id (Some i) (Some a) (Some b) (Some c) (Some d)) missing k g h = h id i a b c d refl
  all_peer_complete (PeerState.Measured id r) missing k g h = g refl

-- a message that is waited for: where its exchange is not open, or has this time, nothing changes; else the sum is stored
pub all_awaited : {X : Type 0} (P : Change X → Type 0) (R : Outcome → Type 0) (is_open : Bool) (place : Option Time) (sum : Worked Time) (put : Time → X) → Comes Anything R sum → (is_open && not (there place) ≡ false → P stays) → ((t : Time) → is_open && not (there place) ≡ true → sum ≡ worked t → P (becomes (put t))) → Comes P R (awaited is_open place sum put)
all_awaited P R false place sum put s f g = f refl
all_awaited P R true (Some u) sum put s f g = f refl
all_awaited P R true None (worked t) put s f g = g t refl refl
all_awaited P R true None (refused o) put s f g = s

-- ---- an exchange that stays, or is stored
pub all_kept : (P : Done → Type 0) (R : Outcome → Type 0) {X : Type 0} (p : Port) (store : X → Port) (c : Change X) → (c ≡ stays → P (changed p false)) → ((x : X) → c ≡ becomes x → Comes P R (settle (store x))) → Comes P R (keeping p store c)
all_kept P R p store stays g h = g refl
all_kept P R p store (becomes x) g h = h x refl

-- ---- the steps that refuse: a sum or a message by row 7 alone; a timer by rows 2 and 3, which come before
pub all_silent : {A : Type 0} (w : Worked A) → All Anything w
all_silent (worked a) = tt
all_silent (refused o) = tt

module _ (R : Outcome → Type 0) (range : R Outcome.Range) where
  a_time_lem : (a : Result Time TimeError) → Comes Anything R (a_time a)
  a_time_lem (Ok t) = tt
  a_time_lem (Err TimeError.OutOfRange) = range

  a_duration_lem : (a : Result Duration TimeError) → Comes Anything R (a_duration a)
  a_duration_lem (Ok t) = tt
  a_duration_lem (Err TimeError.OutOfRange) = range

  pub all_less_correction : (t : Time) (h : Header) → Comes Anything R (less_correction t h)
  unfolding less_correction
  all_less_correction t h = a_time_lem (time_of (time t -ℤ correction h.correction))

  pub all_plus_correction : (t : Time) (h : Header) → Comes Anything R (plus_correction t h)
  unfolding plus_correction
  all_plus_correction t h = a_time_lem (time_of (time t +ℤ correction h.correction))

  pub all_between : (a b : Time) → Comes Anything R (elapsed a b)
  unfolding elapsed
  all_between a b = a_duration_lem (duration_of (time a -ℤ time b))

  pub all_less : (a b : Duration) → Comes Anything R (less_duration a b)
  unfolding less_duration
  all_less a b = a_duration_lem (duration_of (duration a -ℤ duration b))

module _ {A : Type 0} (P : A → Type 0) (R : Outcome → Type 0) where
  pub all_sent : R Outcome.Range → (a : Result Message TimeError) (next : Message → Worked A) → ((m : Message) → a ≡ Ok m → Comes P R (next m)) → Comes P R (a_message a then next)
  all_sent range (Ok m) next f = f m refl
  all_sent range (Err TimeError.OutOfRange) next f = range

  pub all_timed : R Outcome.Unfit → R Outcome.Limits → (a : Result ℕ TimerError) (next : ℕ → Worked A) → ((ns : ℕ) → a ≡ Ok ns → Comes P R (next ns)) → Comes P R (a_timer a then next)
  all_timed unfit limits (Ok ns) next f = f ns refl
  all_timed unfit limits (Err TimerError.Interval) next f = unfit
  all_timed unfit limits (Err TimerError.Draw) next f = limits
