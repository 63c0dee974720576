-- Laws of wire timestamps, for callers to cite: which are taken, what a time becomes when it is sent, and that what is read of it is the time cut to 16 bits of a nanosecond.
use Rattle.std.specs.Prelude.{◌≡◌, Bool, true, ℕ, ◌*◌, ◌/◌, ◌%◌, ◌^◌, ◌<◌, ◌≤◌, ltb, ℤ, nat_abs, ◌+ℤ◌, ◌*ℤ◌, Result, Ok, Err}
use Rattle.std.proofs.Math.Path.{ap, subst}
use Rattle.std.proofs.Common.{◌∙◌, lt_trans, lit<}
use native.Mathlib.Omega.{arith}
use Rattle.std.proofs.Math.Nat.{mod-lt}
use Rattle.std.proofs.Math.IntN.{pos}
use borrow.Author.Tests.{lt-ltb, le-ltb, ltb-true, ltb-false}
use Rattle.time.specs.declared.WireTimestamp.{WireTimestamp}
use Rattle.time.specs.declared.Time.{Time}
use Rattle.time.specs.Units.{in_time, time_words, wire, time_of_wire, wire_of, correction}
use Rattle.time.specs.Laws.{was_value, was_refused, in_time_lem, signed_low, IsTime, time_is, time_in}
use Rattle.time.specs.declared.TimeError.{TimeError}

-- ---- read

-- a timestamp of the wire's widths means a time
module _ (w : WireTimestamp) (p : w.seconds < 2 ^ 48) (q : w.nanos < 2 ^ 32) where
  small : nat_abs (wire w) < 2 ^ 111
  unfolding wire
  small = omega arith

  pub wire_in : in_time (wire w) ≡ true
  unfolding wire
  wire_in = in_time_lem (nat_abs (wire w)) ∙ lt-ltb (nat_abs (wire w)) (2 ^ 127) (lt_trans small (lit< tt))

-- it is taken below 2 ^ 48 seconds, and only there
pub read_in : (w : WireTimestamp) → w.seconds < 2 ^ 48 → time_of_wire w ≡ Ok (time_words (wire w))
unfolding time_of_wire
read_in w p = simp (lt-ltb w.seconds (2 ^ 48) p)

pub read_out : (w : WireTimestamp) → 2 ^ 48 ≤ w.seconds → time_of_wire w ≡ Err TimeError.OutOfRange
unfolding time_of_wire
read_out w p = simp (le-ltb w.seconds (2 ^ 48) p)

same_read : (a b : Time) → ◌≡◌ {A = Result Time TimeError} (Ok a) (Ok b) → a ≡ b
same_read a b e = cc

not_read : (t : Time) → Ok t ≡ Err TimeError.OutOfRange → ⊥
not_read t e =
    let y : ◌≡◌ {A = ℕ} 0 1 = cc in
    omega arith

-- what was read is the time that the timestamp means
pub read_is : (w : WireTimestamp) (t : Time) → w.nanos < 2 ^ 32 → time_of_wire w ≡ Ok t → IsTime (wire w) t
unfolding time_of_wire
read_is w t q e =
    let g : (ltb w.seconds (2 ^ 48) ≡ true) × (time_words (wire w) ≡ t) = was_value Ok (Err TimeError.OutOfRange) same_read not_read (ltb w.seconds (2 ^ 48)) (time_words (wire w)) t e in
    time_is (wire w) t (time_in (wire w) (wire_in w (ltb-true w.seconds (2 ^ 48) g.0) q) ∙ ap Ok g.1)

pub read_out_is : (w : WireTimestamp) → time_of_wire w ≡ Err TimeError.OutOfRange → 2 ^ 48 ≤ w.seconds
unfolding time_of_wire
read_out_is w e =
    ltb-false w.seconds (2 ^ 48) (was_refused Ok (Err TimeError.OutOfRange) same_read not_read (ltb w.seconds (2 ^ 48)) (time_words (wire w)) e)

-- ---- sent

-- what a time of n units is sent as: nanoseconds below a second, and f, which as a correction makes up all of n but its last 16 bits
pub record Sent (n : ℕ) (w : WireTimestamp) (f : ℕ) : Type 0 where
  pub seconds : w.seconds < 2 ^ 48
  pub nanos : w.nanos < 10 ^ 9
  pub fraction : f < 2 ^ 16
  pub cut : wire w +ℤ correction f ≡ pos (n / 2 ^ 16 * 2 ^ 16)

same_sent : (a b : WireTimestamp × ℕ) → ◌≡◌ {A = Result (WireTimestamp × ℕ) TimeError} (Ok (a.0, a.1)) (Ok (b.0, b.1)) → a ≡ b
same_sent a b e =
    let p : a.0 ≡ b.0 = cc in
    let q : a.1 ≡ b.1 = cc in
    λ i. (p i, q i)

not_sent : (a : WireTimestamp × ℕ) → ◌≡◌ {A = Result (WireTimestamp × ℕ) TimeError} (Ok (a.0, a.1)) (Err TimeError.OutOfRange) → ⊥
not_sent a e =
    let y : ◌≡◌ {A = ℕ} 0 1 = cc in
    omega arith

module _ (n : ℕ) where
  abbrev sent : WireTimestamp × ℕ
  sent = (record { seconds = n / 2 ^ 32 / 10 ^ 9; nanos = n / 2 ^ 32 % 10 ^ 9 }, n % 2 ^ 32 / 2 ^ 16)

  abbrev short : Bool
  short = ltb (n / 2 ^ 32 / 10 ^ 9) (2 ^ 48)

  small_fraction : sent.1 < 2 ^ 16
  small_fraction = omega arith

  whole : wire sent.0 +ℤ correction sent.1 ≡ pos (n / 2 ^ 16 * 2 ^ 16)
  unfolding wire correction
  whole =
      ap (λ (z : ℤ). wire sent.0 +ℤ z *ℤ pos 65536) (signed_low 64 sent.1 (lt_trans small_fraction (lit< tt)))
      ∙ ap pos (omega arith)

  pub wire_is : (w : WireTimestamp) (f : ℕ) → wire_of (pos n) ≡ Ok (w, f) → Sent n w f
  unfolding wire_of
  wire_is w f e =
      let g : (short ≡ true) × (sent ≡ (w, f)) = was_value (λ (x : WireTimestamp × ℕ). Ok (x.0, x.1)) (Err TimeError.OutOfRange) same_sent not_sent short sent (w, f) e in
      subst (λ (x : WireTimestamp × ℕ). Sent n x.0 x.1) g.1
      record { seconds = ltb-true _ _ g.0; nanos = mod-lt _ (lit< tt); fraction = small_fraction; cut = whole }

  -- a time is refused from 2 ^ 48 seconds on, and only there
  pub wire_sent : n < 2 ^ 48 * 10 ^ 9 * 2 ^ 32 → wire_of (pos n) ≡ Ok (sent.0, sent.1)
  unfolding wire_of
  wire_sent h = simp (lt-ltb (n / 2 ^ 32 / 10 ^ 9) (2 ^ 48) (omega arith))

  pub wire_out : 2 ^ 48 * 10 ^ 9 * 2 ^ 32 ≤ n → wire_of (pos n) ≡ Err TimeError.OutOfRange
  unfolding wire_of
  wire_out h = simp (le-ltb (n / 2 ^ 32 / 10 ^ 9) (2 ^ 48) (omega arith))

  pub wire_out_is : wire_of (pos n) ≡ Err TimeError.OutOfRange → 2 ^ 48 * 10 ^ 9 * 2 ^ 32 ≤ n
  unfolding wire_of
  wire_out_is e =
      let h : 2 ^ 48 ≤ n / 2 ^ 32 / 10 ^ 9 = ltb-false _ _ (was_refused (λ (x : WireTimestamp × ℕ). Ok (x.0, x.1)) (Err TimeError.OutOfRange) same_sent not_sent short sent e) in
      omega arith

-- what is sent of a whole number of nanoseconds is what was read
module _ (w : WireTimestamp) (p : w.seconds < 2 ^ 48) (q : w.nanos < 10 ^ 9) where
  short_enough : nat_abs (wire w) < 2 ^ 48 * 10 ^ 9 * 2 ^ 32
  unfolding wire
  short_enough = omega arith

  seconds_are : nat_abs (wire w) / 2 ^ 32 / 10 ^ 9 ≡ w.seconds
  unfolding wire
  seconds_are = omega arith

  nanos_are : nat_abs (wire w) / 2 ^ 32 % 10 ^ 9 ≡ w.nanos
  unfolding wire
  nanos_are = omega (arith, seconds_are)

  rest_is : nat_abs (wire w) % 2 ^ 32 / 2 ^ 16 ≡ 0
  unfolding wire
  rest_is = omega arith

  pub wire_back : wire_of (wire w) ≡ Ok (w, 0)
  unfolding wire
  wire_back =
      wire_sent (nat_abs (wire w)) short_enough
      ∙ (λ i. Ok (record { seconds = seconds_are i; nanos = nanos_are i }, (rest_is i)))
