-- A Slave's record by its sides: the sync exchange, what asks for delays, and what both share. Which row answers an event depends on the sides no more than its rule does, so what one record is answered tells what all are.
use Rattle.std.specs.Prelude.{ℕ, ◌≡◌, refl, Bool, true, false, cond, Option}
use Rattle.std.proofs.Common.{sym, ◌∙◌}
use Rattle.std.proofs.Math.Path.{ap}
use Rattle.octets.proofs.BytesLaws.{apart}
use Rattle.fitness.specs.Fit.{config_out, unfit}
use Rattle.fitness.specs.FitLaws.{FitSync, FitDelay, FitPeer}
use Rattle.fitness.proofs.FitLaws.{fit_is, fit_when}
use Rattle.rules.specs.Names.{Identity, Exchange, SlaveState, PortState, PeerState, Mechanism, Config, Ids, Port, Outcome, Duration}
use Rattle.rules.specs.Worked.{Worked, worked, refused, ◌then◌}
use Rattle.rules.specs.Events.{Event, Done, answered}
use Rattle.rules.specs.Table.{row1, row3}
use Rattle.rules.specs.Step.{unless, rule_of, step}
use Rattle.rules.specs.WorkedOut.{opened, peer_opened}
use Rattle.rules.specs.AllLaws.{Comes, Anything}
use Rattle.rules.proofs.AllLaws.{all_then}
use Rattle.rules.proofs.AgreeLaws.{then_then}
use Rattle.rules.specs.RefusalLaws.{NotTaken}

-- ---- the sides

pub record Asking : Type 0 where
  pub delay : Exchange
  pub peer : PeerState
  pub ids : Ids

pub record Shared : Type 0 where
  pub raw : Option Duration
  pub mean : Option Duration

module _ (c : Config) (master : Identity) where
  abbrev pub slave_with : Exchange → Exchange → Option Duration → SlaveState
  slave_with x d raw = record { master = master; sync = x; delay = d; raw = raw }

  abbrev pub stands : Exchange → Asking → Shared → Port
  stands x y z =
      record { config = c; state = PortState.Slave (slave_with x y.delay z.raw); peer = y.peer; mean = z.mean; ids = y.ids }

  -- a fit side; only the configured request can be open, with this id
  pub record FitAsking (id : ℕ) (y : Asking) : Type 0 where
    pub delay : FitDelay y.delay
    pub peer : FitPeer y.peer
    pub only_delay : (j : ℕ) → opened j y.delay ≡ true → (c.mechanism ≡ Mechanism.EndToEnd) × (j ≡ id)
    pub only_peer : (j : ℕ) → peer_opened j y.peer ≡ true → (c.mechanism ≡ Mechanism.Peer) × (j ≡ id)

  -- with fit sides a record is as fit as its configuration
  module _ (x : Exchange) (y : Asking) (z : Shared) (fx : FitSync x) (fd : FitDelay y.delay) (fp : FitPeer y.peer) where
    as_config : (b u : Bool) → config_out c ≡ b → unfit (stands x y z) ≡ u → u ≡ b
    as_config false u e f = sym f ∙ fit_when (stands x y z) (record { config = e; state = (fx, fd); peer = fp })
    as_config true true e f = refl
    as_config true false e f = sym (fit_is (stands x y z) f).config ∙ e

    pub unfit-stands : unfit (stands x y z) ≡ config_out c
    unfit-stands = as_config (config_out c) (unfit (stands x y z)) refl refl
    -- ---- rows 1, 2 and 3 in front of a rule

  abbrev pub gated : ℕ → Event → Worked Done → Worked Done
  gated room e w =
      unless (row1 c e room) Outcome.Buffer (unless (config_out c) Outcome.Unfit (unless (row3 e) Outcome.Limits w))

  pub step-stands : (room : ℕ) (e : Event) (x : Exchange) (y : Asking) (z : Shared) → FitSync x → FitDelay y.delay → FitPeer y.peer → step (stands x y z) room e ≡ answered (stands x y z) (gated room e (rule_of (stands x y z) e))
  unfolding step
  step-stands room e x y z fx fd fp =
      ap (λ (b : Bool). answered (stands x y z) (unless (row1 c e room) Outcome.Buffer (unless b Outcome.Unfit (unless (row3 e) Outcome.Limits (rule_of (stands x y z) e))))) (unfit-stands x y z fx fd fp)

-- ---- a rule that works out one value and then does something with it, behind tests: where it is taken once, all tests let it through, and so they do everywhere

abbrev behind : {A : Type 0} → Bool → Bool → Bool → Bool → Worked A → (A → Worked Done) → Worked Done
behind a b d g sum k =
    unless a Outcome.Buffer (unless b Outcome.Unfit (unless d Outcome.Limits (cond g (sum then k) (refused Outcome.Foreign))))

pub record LetThrough {A : Type 0} (a b d g : Bool) (sum : Worked A) : Type 1 where
  pub value : A
  pub is : sum ≡ worked value
  pub through : (k : A → Worked Done) → behind a b d g sum k ≡ k value

pub let_through : {A : Type 0} (p : Port) (a b d g : Bool) (sum : Worked A) (k : A → Worked Done) → Comes Anything NotTaken sum → (answered p (behind a b d g sum k)).outcome ≡ Outcome.Taken → LetThrough a b d g sum
let_through p true b d g sum k n t = absurd (apart cc)
let_through p false true d g sum k n t = absurd (apart cc)
let_through p false false true g sum k n t = absurd (apart cc)
let_through p false false false false sum k n t = absurd (apart cc)
let_through p false false false true (refused o) k n t = absurd (n t)
let_through p false false false true (worked v) k n t = record { value = v; is = refl; through = λ k. refl }

-- ---- three values worked out one after another, as each measurement has them: what is made of them may wait until all are there, and where each refuses as it may, so do all

module _ {A B C P : Type 0} (a : Worked A) (f : A → Worked B) (g : A → B → Worked C) (pack : A → B → C → P) where
  abbrev pub three_steps : Worked P
  three_steps = a then λ x. f x then λ y. g x y then λ z. worked (pack x y z)

  module _ (done : P → Worked Done) where
    third : (x : A) (y : B) (w : Worked C) → ((w then λ z. worked (pack x y z)) then done) ≡ (w then λ z. done (pack x y z))
    third x y w = then_then w (λ z. worked (pack x y z)) done

    second : (x : A) (w : Worked B) → ((w then λ y. g x y then λ z. worked (pack x y z)) then done) ≡ (w then λ y. g x y then λ z. done (pack x y z))
    second x (worked y) = third x y (g x y)
    second x (refused o) = refl

    first : (w : Worked A) → ((w then λ x. f x then λ y. g x y then λ z. worked (pack x y z)) then done) ≡ (w then λ x. f x then λ y. g x y then λ z. done (pack x y z))
    first (worked x) = second x (f x)
    first (refused o) = refl

    pub three_steps_lem : (three_steps then done) ≡ (a then λ x. f x then λ y. g x y then λ z. done (pack x y z))
    three_steps_lem = first a

  pub three_come : (R : Outcome → Type 0) → Comes Anything R a → ((x : A) → Comes Anything R (f x)) → ((x : A) (y : B) → Comes Anything R (g x y)) → Comes Anything R three_steps
  three_come R ca cf cg =
      all_then Anything R a _ ca (λ x e. all_then Anything R (f x) _ (cf x) (λ y e. all_then Anything R (g x y) _ (cg x y) (λ z e. tt)))
