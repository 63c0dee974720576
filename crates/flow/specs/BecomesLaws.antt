-- Laws of what becomes of a flow: each case, by what the code finds.
use Rattle.std.specs.Prelude.{ℕ, zero, suc, min, ◌≡◌, refl, Result, Ok, Err, ⊤, Bool, false, T, ℤ, pos, negsuc, nat_abs}
use Rattle.std.proofs.Common.{sym, ◌∙◌, ap, subst, true≢false, arith, to_z, of_z, Fits, SFits}
use Rattle.std.specs.Int.Signed.{lt_z, non_neg}
use Rattle.std.specs.Int.{w64}
use Rattle.std.proofs.lemmas.Int.{to_z-of_z}
use Rattle.replaying.specs.declared.Stop.{Stop}
use Rattle.replaying.specs.declared.TurnEnd.{TurnEnd}
use Rattle.flow.specs.declared.Flow.{Flow}
use Rattle.flow.specs.Becomes.{ended, grown, onwards, after_of, came_of}

module _ {E : Type 0} (f : Flow) where
  -- ---- behind a turn

  pub after_unwritten : (t : TurnEnd) (e : E) → Err e ≡ after_of f t (Err e)
  unfolding after_of
  after_unwritten t e = refl

  pub after_written : (t : TurnEnd) (w : ⊤) (s : Stop) → t.stop ≡ s → Ok (onwards f t s) ≡ after_of {E = E} f t (Ok w)
  unfolding after_of
  after_written t w s h = ap (λ (x : Stop). Ok (onwards f t x)) (sym h)

  -- ---- behind a read, by its answer

  below : (z : Result ℕ E) (e : E) (room : ℕ) → z ≡ Err e → Err e ≡ came_of f z room
  unfolding came_of
  below z e room h = ap (λ (x : Result ℕ E). came_of f x room) (sym h)

  none : (room : ℕ) → Ok (ended f) ≡ came_of {E = E} f (Ok 0) room
  unfolding came_of
  none room = refl

  above : (z : Result ℕ E) (n room : ℕ) → z ≡ Ok n → (n ≡ 0 → ⊥) → Ok (grown f (min n room)) ≡ came_of f z room
  unfolding came_of
  above z n room h e = some n e ∙ ap (λ (x : Result ℕ E). came_of f x room) (sym h)
    where
      some : (k : ℕ) → (k ≡ 0 → ⊥) → Ok (grown f (min k room)) ≡ came_of {E = E} f (Ok k) room
      some zero g = absurd (g refl)
      some (suc k) g = refl

  pub came_failed : (e : E) (room : ℕ) → Err e ≡ came_of f (Err e) room
  came_failed e room = below (Err e) e room refl

  pub came_nothing : (room : ℕ) → Ok (ended f) ≡ came_of {E = E} f (Ok 0) room
  came_nothing room = none room

  pub came_some : (n room : ℕ) → (n ≡ 0 → ⊥) → Ok (grown f (min n room)) ≡ came_of {E = E} f (Ok n) room
  came_some n room h = above (Ok n) n room refl h

-- ---- a number with a sign, as it is kept in 64 bits and read back from them

not_below : (z : ℤ) → lt_z z (pos 0) ≡ false → T (non_neg z)
not_below (pos n) h = tt
not_below (negsuc n) h = absurd (true≢false h)

fits_above : (z : ℤ) → SFits w64 z → lt_z z (pos 0) ≡ false → Fits w64 (nat_abs z)
fits_above (pos n) s h = record { fits = omega (arith, s.sfits) }
fits_above (negsuc n) s h = absurd (true≢false h)

module _ (got : ℤ) (fits : SFits w64 got) where
  read_back : to_z w64 (of_z w64 got) ≡ got
  read_back = to_z-of_z w64 got fits

  test : {b : Bool} → lt_z (to_z w64 (of_z w64 got)) (pos 0) ≡ b → lt_z got (pos 0) ≡ b
  test h = ap (λ (z : ℤ). lt_z z (pos 0)) (sym read_back) ∙ h

  -- the number of a read that did not fail can be taken as one without a sign. (A read answers one without a sign today.)
  pub came_number : lt_z (to_z w64 (of_z w64 got)) (pos 0) ≡ false → T (non_neg (to_z w64 (of_z w64 got))) × Fits w64 (nat_abs (to_z w64 (of_z w64 got)))
  came_number h = (not_below (to_z w64 (of_z w64 got)) h, subst (λ (z : ℤ). Fits w64 (nat_abs z)) (sym read_back) (fits_above got fits (test h)))
