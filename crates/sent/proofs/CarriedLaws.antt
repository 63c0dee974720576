-- Laws of what is carried of a stamp: the room that it takes, what it means, and exactly when nothing is carried.
use Prim.Native.Nat.{ℕ, suc, ◌+◌, ◌*◌, ◌^◌, ◌≤◌, ◌<◌}
use Rattle.std.specs.Prelude.{◌≡◌, refl, false, ◌⊎◌, ℤ, negsuc, ◌+ℤ◌, ◌-ℤ◌, ◌*ℤ◌, Result, Ok, Err}
use Rattle.std.proofs.Common.{sym, ◌∙◌, subst, inl, inr, arith, lt_trans, lit<}
use Rattle.std.proofs.Math.Path.{ap}
use Rattle.std.proofs.Math.Decide.{dec_lt}
use Rattle.std.proofs.Math.IntN.{pos, sub_ℕ}
use Rattle.time.specs.declared.Time.{Time}
use Rattle.time.specs.declared.WireTimestamp.{WireTimestamp}
use Rattle.time.specs.Units.{time, wire, wire_of, signed, correction}
use Rattle.time.specs.Laws.{signed_low}
use Rattle.time.specs.WireLaws.{Sent, wire_is, wire_sent, wire_out, wire_out_is}
use Rattle.time.specs.Lemmas.Integers.{pos_sub, negsuc_sub, difference_is, product_is, not_below}
use Rattle.octets.proofs.BytesLaws.{apart}
use Rattle.sent.specs.Messages.{in_correction, correction_of, with_correction, less_fraction, answer_stamp, fraction, follow_stamp}
use Rattle.sent.specs.Laws.{IsCorrection}
use Rattle.sent.proofs.Laws.{correction_is, correction_out_when, correction_out_is}
use Rattle.sent.specs.CarriedLaws.{units_of, fraction_of, cut_to16, late_from, less_of, HasRoom, Parts, Scaled, stamp_of}
use Rattle.time.specs.declared.TimeError.{TimeError}

-- ---- what was carried

fraction_from : (a : Result (WireTimestamp × ℕ) TimeError) (w : WireTimestamp) (c : ℕ) → fraction a ≡ Ok (w, c) → a ≡ Ok (w, c)
fraction_from (Ok (v, f)) w c e = e
fraction_from (Err TimeError.OutOfRange) w c e = absurd (apart cc)

module _ (t : Time) (w : WireTimestamp) (c : ℕ) (e : follow_stamp t ≡ Ok (w, c)) where
  follow_sent : Sent (units_of t) w c
  unfolding follow_stamp time
  follow_sent = wire_is (units_of t) w c (fraction_from (wire_of (time t)) w c e)

  pub follow_room : HasRoom w c
  follow_room = record { seconds = follow_sent.seconds; nanos = follow_sent.nanos; correction = lt_trans follow_sent.fraction (lit< tt) }

  -- timestamp and correction together are the stamp, cut
  pub follow_means : wire w +ℤ correction c ≡ pos (cut_to16 (units_of t))
  follow_means = follow_sent.cut

less_from : (c : ℕ) (a : Result (WireTimestamp × ℕ) TimeError) (w : WireTimestamp) (r : ℕ) → less_fraction c a ≡ Ok (w, r) → Parts c a w r
less_from c (Ok (v, f)) w r e = go (correction_of (signed 64 c -ℤ pos f)) refl
  where
    go : (k : Result ℕ TimeError) → correction_of (signed 64 c -ℤ pos f) ≡ k → Parts c (Ok (v, f)) w r
    go (Ok k) g =
        let h : ◌≡◌ {A = Result (WireTimestamp × ℕ) TimeError} (Ok (v, k)) (Ok (w, r)) = sym (ap (with_correction v) g) ∙ e in
        let same : ◌≡◌ {A = WireTimestamp × ℕ} (v, k) (w, r) = cc in
        let p : v ≡ w = ap (λ (x : WireTimestamp × ℕ). x.0) same in
        let q : k ≡ r = ap (λ (x : WireTimestamp × ℕ). x.1) same in
        record { f = f; stamp = ap (λ (x : WireTimestamp). Ok (x, f)) p; less = g ∙ ap Ok q }
    go (Err TimeError.OutOfRange) g =
        let h : ◌≡◌ {A = Result (WireTimestamp × ℕ) TimeError} (Err TimeError.OutOfRange) (Ok (w, r)) = sym (ap (with_correction v) g) ∙ e in
        absurd (apart cc)
less_from c (Err TimeError.OutOfRange) w r e = absurd (apart cc)

scaled_difference : (x f p q : ℕ) → Scaled x f (sub_ℕ p q)
scaled_difference x f p q =
    let a : ℕ = x + (q + f) * 65536 in
    let b : ℕ = p * 65536 in
    let less : sub_ℕ p q -ℤ pos f ≡ sub_ℕ p (q + f) = ap (λ (y : ℤ). sub_ℕ p q -ℤ y) (pos_sub f) ∙ difference_is p q f 0 p (q + f) (omega arith) in
    let minus : (n c : ℕ) → n + c ≡ a → pos n -ℤ sub_ℕ b c ≡ sub_ℕ a b = λ n c e. ap (λ (y : ℤ). y -ℤ sub_ℕ b c) (pos_sub n) ∙ difference_is n 0 b c a b (omega arith) in
    ap (λ (y : ℤ). pos x -ℤ y *ℤ pos 65536) less
    ∙ ap (λ (y : ℤ). pos x -ℤ y) (product_is p (q + f) 65536)
    ∙ minus x ((q + f) * 65536) refl
    ∙ sym (minus (x + f * 65536) (q * 65536) (omega arith))
    ∙ ap (λ (y : ℤ). pos (x + f * 65536) -ℤ y) (sym (product_is p q 65536))

scaled : (x f : ℕ) (z : ℤ) → Scaled x f z
scaled x f (pos n) = subst (Scaled x f) (sym (pos_sub n)) (scaled_difference x f n 0)
scaled x f (negsuc n) = subst (Scaled x f) (sym (negsuc_sub n)) (scaled_difference x f 0 (suc n))

module _ (asked : ℕ) (t : Time) (w : WireTimestamp) (c : ℕ) (e : answer_stamp asked t ≡ Ok (w, c)) where
  parts : Parts asked (wire_of (time t)) w c
  unfolding answer_stamp
  parts = less_from asked (wire_of (time t)) w c e

  answer_sent : Sent (units_of t) w parts.f
  unfolding time
  answer_sent = wire_is (units_of t) w parts.f parts.stamp

  answer_correction : IsCorrection (signed 64 asked -ℤ pos parts.f) c
  answer_correction = correction_is (signed 64 asked -ℤ pos parts.f) c parts.less

  pub answer_room : HasRoom w c
  answer_room = record { seconds = answer_sent.seconds; nanos = answer_sent.nanos; correction = answer_correction.small }

  -- timestamp less correction, as the requester takes them, is the stamp, cut, less the request's own correction
  pub answer_means : wire w -ℤ correction c ≡ pos (cut_to16 (units_of t)) -ℤ correction asked
  unfolding wire correction
  answer_means =
      let x : ℕ = (w.seconds * 10 ^ 9 + w.nanos) * 2 ^ 32 in
      let small : signed 64 parts.f ≡ pos parts.f = signed_low 64 parts.f (lt_trans answer_sent.fraction (lit< tt)) in
      let whole : pos (x + parts.f * 65536) ≡ pos (cut_to16 (units_of t)) = ap (λ (z : ℤ). pos x +ℤ z *ℤ pos 65536) (sym small) ∙ answer_sent.cut in
      ap (λ (z : ℤ). pos x -ℤ z *ℤ pos 65536) answer_correction.value
      ∙ scaled x parts.f (signed 64 asked)
      ∙ ap (λ (z : ℤ). z -ℤ correction asked) whole

-- ---- when something is carried, and when nothing

pub follow_timely : (t : Time) → units_of t < late_from → follow_stamp t ≡ Ok ((stamp_of t), (fraction_of t))
unfolding follow_stamp time
follow_timely t h = ap fraction (wire_sent (units_of t) h)

pub follow_out_when : (t : Time) → late_from ≤ units_of t → follow_stamp t ≡ Err TimeError.OutOfRange
unfolding follow_stamp time
follow_out_when t h = ap fraction (wire_out (units_of t) h)

fraction_out : (a : Result (WireTimestamp × ℕ) TimeError) → fraction a ≡ Err TimeError.OutOfRange → a ≡ Err TimeError.OutOfRange
fraction_out (Ok (w, f)) e = absurd (apart cc)
fraction_out (Err TimeError.OutOfRange) e = refl

pub follow_out_is : (t : Time) → follow_stamp t ≡ Err TimeError.OutOfRange → late_from ≤ units_of t
unfolding follow_stamp time
follow_out_is t e = wire_out_is (units_of t) (fraction_out (wire_of (time t)) e)

-- an answer may be too late too, and where it is not its correction may leave 64 bits
pub answer_timely : (asked : ℕ) (t : Time) → units_of t < late_from → answer_stamp asked t ≡ with_correction (stamp_of t) (correction_of (less_of asked t))
unfolding answer_stamp time
answer_timely asked t h = ap (less_fraction asked) (wire_sent (units_of t) h)

answer_late : (asked : ℕ) (t : Time) → late_from ≤ units_of t → answer_stamp asked t ≡ Err TimeError.OutOfRange
unfolding answer_stamp time
answer_late asked t h = ap (less_fraction asked) (wire_out (units_of t) h)

with_out : (w : WireTimestamp) (k : Result ℕ TimeError) → with_correction w k ≡ Err TimeError.OutOfRange → k ≡ Err TimeError.OutOfRange
with_out w (Ok c) e = absurd (apart cc)
with_out w (Err TimeError.OutOfRange) e = refl

module _ (asked : ℕ) (t : Time) where
  abbrev pub Unanswered : Type 0
  Unanswered = (late_from ≤ units_of t) ⊎ (in_correction (less_of asked t) ≡ false)

  pub answer_out_when : Unanswered → answer_stamp asked t ≡ Err TimeError.OutOfRange
  answer_out_when (inl h) = answer_late asked t h
  answer_out_when (inr h) = go (dec_lt (units_of t) late_from)
    where
      go : Dec (units_of t < late_from) → answer_stamp asked t ≡ Err TimeError.OutOfRange
      go (yes k) = answer_timely asked t k ∙ ap (with_correction (stamp_of t)) (correction_out_when (less_of asked t) h)
      go (no k) = answer_late asked t (not_below (units_of t) late_from k)

  pub answer_out_is : answer_stamp asked t ≡ Err TimeError.OutOfRange → Unanswered
  answer_out_is e = go (dec_lt (units_of t) late_from)
    where
      go : Dec (units_of t < late_from) → Unanswered
      go (yes k) = inr (correction_out_is (less_of asked t) (with_out (stamp_of t) (correction_of (less_of asked t)) (sym (answer_timely asked t k) ∙ e)))
      go (no k) = inl (not_below (units_of t) late_from k)
