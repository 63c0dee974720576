-- Laws of sameness: each test of `Same` is true exactly when its two values are equal.
use Rattle.std.specs.Prelude.{ℕ, ◌<◌, ◌≡◌, refl, Bool, true, false, cond, [], ◌∷◌, ◌↔◌, eqb, Option, Some, None}
use Rattle.std.proofs.Common.{sym, ap, ◌∙◌, lit<, arith, eqb-true}
use Rattle.std.proofs.lemmas.Bool.{false≢true}
use Rattle.time.specs.declared.Time.{Time}
use Rattle.time.specs.declared.Duration.{Duration}
use Rattle.wire.specs.declared.Identity.{Identity}
use Rattle.record.specs.declared.Exchange.{Exchange}
use Rattle.record.specs.declared.SlaveState.{SlaveState}
use Rattle.record.specs.declared.PortState.{PortState}
use Rattle.record.specs.declared.PeerState.{PeerState}
use Rattle.record.specs.declared.Mechanism.{Mechanism}
use Rattle.record.specs.declared.Config.{Config}
use Rattle.record.specs.declared.Ids.{Ids}
use Rattle.record.specs.declared.Port.{Port}
use Rattle.record.specs.Record.{state_number}
use Rattle.record.specs.JoinedLaws.{all_true}
use Rattle.record.specs.ExactLaws.{Exact, same_exactly, same_differ, exact_number, exact_two}
use Rattle.record.specs.Same.{same_identity}
use Rattle.record.proofs.SameLaws.{exact_identity}
use Rattle.same.specs.Same.{same_time, same_duration, same_maybe_time, same_maybe_duration, same_maybe_identity, same_exchange, same_slave, same_state, same_peer, same_mechanism, same_config, same_ids, same_port}

-- ---- what two numbers make up

pub exact_time : Exact same_time
unfolding same_time
exact_time = exact_two (λ h l. record { hi = h; lo = l }) (λ a. a.hi) (λ a. a.lo) (λ a. refl)

pub exact_duration : Exact same_duration
unfolding same_duration
exact_duration = exact_two (λ h l. record { hi = h; lo = l }) (λ a. a.hi) (λ a. a.lo) (λ a. refl)

-- ---- what may be missing: a type M that has nothing, what holds an A, and no more; two that hold something are the same if what they hold is

module _ {A M : Type 0} (nothing : M) (holds : A → M) (cases : (P : M → Type 0) → P nothing → ((a : A) → P (holds a)) → (m : M) → P m) (held : A → A → Bool) (x : Exact held) (same : M → M → Bool) where
  exact_maybe : same nothing nothing ≡ true → ((b : A) → same nothing (holds b) ≡ false) → ((a : A) → same (holds a) nothing ≡ false) → ((a b : A) → same (holds a) (holds b) ≡ held a b) → Exact same
  exact_maybe neither second first both =
      record {
        equal = cases (λ a. (b : M) → same a b ≡ true → a ≡ b)
            (cases (λ b. same nothing b ≡ true → nothing ≡ b) (λ e. refl) (λ b e. absurd (false≢true (sym (second b) ∙ e))))
            (λ a. cases (λ b. same (holds a) b ≡ true → holds a ≡ b) (λ e. absurd (false≢true (sym (first a) ∙ e))) (λ b e. ap holds (x.equal a b (sym (both a b) ∙ e))));
        same_self = cases (λ a. same a a ≡ true) neither (λ a. both a a ∙ x.same_self a);
      }

time_cases : (P : Option Time → Type 0) → P None → ((a : Time) → P (Some a)) → (m : Option Time) → P m
time_cases P n s None = n
time_cases P n s (Some a) = s a

pub exact_maybe_time : Exact same_maybe_time
unfolding same_maybe_time
exact_maybe_time = exact_maybe None Some time_cases same_time exact_time same_maybe_time refl (λ b. refl) (λ a. refl) (λ a b. refl)

duration_cases : (P : Option Duration → Type 0) → P None → ((a : Duration) → P (Some a)) → (m : Option Duration) → P m
duration_cases P n s None = n
duration_cases P n s (Some a) = s a

pub exact_maybe_duration : Exact same_maybe_duration
unfolding same_maybe_duration
exact_maybe_duration = exact_maybe None Some duration_cases same_duration exact_duration same_maybe_duration refl (λ b. refl) (λ a. refl) (λ a b. refl)

identity_cases : (P : Option Identity → Type 0) → P None → ((a : Identity) → P (Some a)) → (m : Option Identity) → P m
identity_cases P n s None = n
identity_cases P n s (Some a) = s a

pub exact_maybe_identity : Exact same_maybe_identity
unfolding same_maybe_identity
exact_maybe_identity = exact_maybe None Some identity_cases same_identity exact_identity same_maybe_identity refl (λ b. refl) (λ a. refl) (λ a b. refl)

-- ---- exchanges

exchange_equal : (a b : Exchange) → same_exchange a b ≡ true → a ≡ b
unfolding same_exchange
exchange_equal Exchange.Empty Exchange.Empty e = refl
exchange_equal Exchange.Empty (Exchange.Measuring j t u) e = absurd (false≢true e)
exchange_equal (Exchange.Measuring i s r) Exchange.Empty e = absurd (false≢true e)
exchange_equal (Exchange.Measuring i s r) (Exchange.Measuring j t u) e =
    let (x, (y, z)) = all_true (eqb i j) (same_maybe_time s t ∷ same_maybe_time r u ∷ []) e in
    λ k. Exchange.Measuring (eqb-true i j x k) (exact_maybe_time.equal s t y k) (exact_maybe_time.equal r u z k)

exchange_itself : (a : Exchange) → same_exchange a a ≡ true
unfolding same_exchange
exchange_itself Exchange.Empty = refl
exchange_itself (Exchange.Measuring i s r) = simp (exact_number.same_self, exact_maybe_time.same_self)

pub exact_exchange : Exact same_exchange
exact_exchange = record { equal = exchange_equal; same_self = exchange_itself }

peer_equal : (a b : PeerState) → same_peer a b ≡ true → a ≡ b
unfolding same_peer
peer_equal PeerState.Empty PeerState.Empty e = refl
peer_equal PeerState.Empty (PeerState.Measuring j x t u v w) e = absurd (false≢true e)
peer_equal PeerState.Empty (PeerState.Measured j x) e = absurd (false≢true e)
peer_equal (PeerState.Measuring i o a b c d) PeerState.Empty e = absurd (false≢true e)
peer_equal (PeerState.Measuring i o a b c d) (PeerState.Measuring j x t u v w) e =
    let (m, (n, (p, (q, (r, s))))) = all_true (eqb i j) (same_maybe_identity o x ∷ same_maybe_time a t ∷ same_maybe_time b u ∷ same_maybe_time c v ∷ same_maybe_time d w ∷ []) e in
    λ k. PeerState.Measuring (eqb-true i j m k) (exact_maybe_identity.equal o x n k) (exact_maybe_time.equal a t p k) (exact_maybe_time.equal b u q k) (exact_maybe_time.equal c v r k) (exact_maybe_time.equal d w s k)
peer_equal (PeerState.Measuring i o a b c d) (PeerState.Measured j x) e = absurd (false≢true e)
peer_equal (PeerState.Measured i o) PeerState.Empty e = absurd (false≢true e)
peer_equal (PeerState.Measured i o) (PeerState.Measuring j x t u v w) e = absurd (false≢true e)
peer_equal (PeerState.Measured i o) (PeerState.Measured j x) e =
    let (m, n) = all_true (eqb i j) (same_identity o x ∷ []) e in
    λ k. PeerState.Measured (eqb-true i j m k) (exact_identity.equal o x n k)

peer_itself : (a : PeerState) → same_peer a a ≡ true
unfolding same_peer
peer_itself PeerState.Empty = refl
peer_itself (PeerState.Measuring i o a b c d) = simp (exact_number.same_self, exact_maybe_identity.same_self, exact_maybe_time.same_self)
peer_itself (PeerState.Measured i o) = simp (exact_number.same_self, exact_identity.same_self)

pub exact_peer : Exact same_peer
exact_peer = record { equal = peer_equal; same_self = peer_itself }

-- ---- states

slave_equal : (a b : SlaveState) → same_slave a b ≡ true → a ≡ b
unfolding same_slave
slave_equal a b e =
    let (m, (s, (d, r))) = all_true (same_identity a.master b.master) (same_exchange a.sync b.sync ∷ same_exchange a.delay b.delay ∷ same_maybe_duration a.raw b.raw ∷ []) e in
    λ k.
    record {
      master = exact_identity.equal a.master b.master m k;
      sync = exchange_equal a.sync b.sync s k;
      delay = exchange_equal a.delay b.delay d k;
      raw = exact_maybe_duration.equal a.raw b.raw r k;
    }

slave_itself : (a : SlaveState) → same_slave a a ≡ true
unfolding same_slave
slave_itself a = simp (exact_identity.same_self, exchange_itself, exact_maybe_duration.same_self)

pub exact_slave : Exact same_slave
exact_slave = record { equal = slave_equal; same_self = slave_itself }

-- the states that hold nothing, by their numbers
abbrev numbered : ℕ → PortState
numbered n =
    cond (eqb n 0) PortState.Listening (cond (eqb n 1) PortState.Master (cond (eqb n 2) PortState.Passive PortState.Faulty))

number_back : (b : PortState) → state_number b < 4 → numbered (state_number b) ≡ b
number_back PortState.Listening h = refl
number_back PortState.Master h = refl
number_back PortState.Passive h = refl
number_back PortState.Faulty h = refl
number_back (PortState.Slave s) h = absurd (omega arith)

by_number : (n : ℕ) (b : PortState) → n < 4 → eqb (state_number b) n ≡ true → numbered n ≡ b
by_number n b h e =
    let g : state_number b ≡ n = eqb-true (state_number b) n e in
    ap numbered (sym g) ∙ number_back b (omega arith)

state_equal : (a b : PortState) → same_state a b ≡ true → a ≡ b
unfolding same_state
state_equal PortState.Listening b e = by_number 0 b (lit< tt) e
state_equal PortState.Master b e = by_number 1 b (lit< tt) e
state_equal PortState.Passive b e = by_number 2 b (lit< tt) e
state_equal PortState.Faulty b e = by_number 3 b (lit< tt) e
state_equal (PortState.Slave s) PortState.Listening e = absurd (false≢true e)
state_equal (PortState.Slave s) PortState.Master e = absurd (false≢true e)
state_equal (PortState.Slave s) PortState.Passive e = absurd (false≢true e)
state_equal (PortState.Slave s) PortState.Faulty e = absurd (false≢true e)
state_equal (PortState.Slave s) (PortState.Slave t) e = ap PortState.Slave (slave_equal s t e)

state_itself : (a : PortState) → same_state a a ≡ true
unfolding same_state
state_itself PortState.Listening = refl
state_itself PortState.Master = refl
state_itself PortState.Passive = refl
state_itself PortState.Faulty = refl
state_itself (PortState.Slave s) = slave_itself s

pub exact_state : Exact same_state
exact_state = record { equal = state_equal; same_self = state_itself }

-- ---- the record

mechanism_equal : (a b : Mechanism) → same_mechanism a b ≡ true → a ≡ b
unfolding same_mechanism
mechanism_equal Mechanism.EndToEnd Mechanism.EndToEnd e = refl
mechanism_equal Mechanism.EndToEnd Mechanism.Peer e = absurd (false≢true e)
mechanism_equal Mechanism.Peer Mechanism.EndToEnd e = absurd (false≢true e)
mechanism_equal Mechanism.Peer Mechanism.Peer e = refl

mechanism_itself : (a : Mechanism) → same_mechanism a a ≡ true
unfolding same_mechanism
mechanism_itself Mechanism.EndToEnd = refl
mechanism_itself Mechanism.Peer = refl

pub exact_mechanism : Exact same_mechanism
exact_mechanism = record { equal = mechanism_equal; same_self = mechanism_itself }

config_equal : (a b : Config) → same_config a b ≡ true → a ≡ b
unfolding same_config
config_equal a b e =
    let (i, (s, (d, (m, (w, (x, (y, z))))))) = all_true (same_identity a.identity b.identity) (eqb a.sdo b.sdo ∷ eqb a.domain b.domain ∷ eqb a.minor b.minor ∷ same_mechanism a.mechanism b.mechanism ∷ eqb a.delay_interval b.delay_interval ∷ eqb a.sync_interval b.sync_interval ∷ same_duration a.asymmetry b.asymmetry ∷ []) e in
    λ k.
    record {
      identity = exact_identity.equal a.identity b.identity i k;
      sdo = eqb-true a.sdo b.sdo s k;
      domain = eqb-true a.domain b.domain d k;
      minor = eqb-true a.minor b.minor m k;
      mechanism = mechanism_equal a.mechanism b.mechanism w k;
      delay_interval = eqb-true a.delay_interval b.delay_interval x k;
      sync_interval = eqb-true a.sync_interval b.sync_interval y k;
      asymmetry = exact_duration.equal a.asymmetry b.asymmetry z k;
    }

config_itself : (a : Config) → same_config a a ≡ true
unfolding same_config
config_itself a = simp (exact_identity.same_self, exact_number.same_self, mechanism_itself, exact_duration.same_self)

pub exact_config : Exact same_config
exact_config = record { equal = config_equal; same_self = config_itself }

ids_equal : (a b : Ids) → same_ids a b ≡ true → a ≡ b
unfolding same_ids
ids_equal a b e =
    let (s, (d, p)) = all_true (eqb a.sync b.sync) (eqb a.delay b.delay ∷ eqb a.peer b.peer ∷ []) e in
    λ k. record { sync = eqb-true a.sync b.sync s k; delay = eqb-true a.delay b.delay d k; peer = eqb-true a.peer b.peer p k }

ids_itself : (a : Ids) → same_ids a a ≡ true
unfolding same_ids
ids_itself a = simp exact_number.same_self

pub exact_ids : Exact same_ids
exact_ids = record { equal = ids_equal; same_self = ids_itself }

port_equal : (a b : Port) → same_port a b ≡ true → a ≡ b
unfolding same_port
port_equal a b e =
    let (c, (s, (p, (m, i)))) = all_true (same_config a.config b.config) (same_state a.state b.state ∷ same_peer a.peer b.peer ∷ same_maybe_duration a.mean b.mean ∷ same_ids a.ids b.ids ∷ []) e in
    λ k.
    record {
      config = config_equal a.config b.config c k;
      state = state_equal a.state b.state s k;
      peer = peer_equal a.peer b.peer p k;
      mean = exact_maybe_duration.equal a.mean b.mean m k;
      ids = ids_equal a.ids b.ids i k;
    }

port_itself : (a : Port) → same_port a a ≡ true
unfolding same_port
port_itself a = simp (config_itself, state_itself, peer_itself, exact_maybe_duration.same_self, ids_itself)

pub exact_port : Exact same_port
exact_port = record { equal = port_equal; same_self = port_itself }

-- ---- for callers: true exactly when equal, and false only where they differ

pub same_time_lem : (a b : Time) → (same_time a b ≡ true) ↔ (a ≡ b)
same_time_lem = same_exactly same_time exact_time

pub same_duration_lem : (a b : Duration) → (same_duration a b ≡ true) ↔ (a ≡ b)
same_duration_lem = same_exactly same_duration exact_duration

pub same_port_lem : (a b : Port) → (same_port a b ≡ true) ↔ (a ≡ b)
same_port_lem = same_exactly same_port exact_port

pub other_time : (a b : Time) → same_time a b ≡ false → a ≡ b → ⊥
other_time = same_differ same_time exact_time

pub other_duration : (a b : Duration) → same_duration a b ≡ false → a ≡ b → ⊥
other_duration = same_differ same_duration exact_duration

pub other_port : (a b : Port) → same_port a b ≡ false → a ≡ b → ⊥
other_port = same_differ same_port exact_port
