-- Two words h and l as a duration, and a half that is rounded towards zero.
use mathlib.Core.Path.{◌≡◌, sym, ap, ◌∙◌}
use Prim.Native.Nat.{ℕ, suc, ◌+◌, ◌-◌, ◌*◌, ◌/◌, ◌^◌, ◌<◌, ◌≤◌}
use native.Mathlib.Omega.{arith}
use native.Mathlib.Decide.{dec_lt}
use lib.IntN.{pos, negsuc, sub_ℕ}
use Rattle.time.specs.declared.Duration.{Duration}
use Rattle.time.specs.Units.{spelled, signed, duration}
use Rattle.time.specs.Laws.{below_half, from_half, below_whole, signed_low, signed_high}
use Rattle.time.specs.Lemmas.Integers.{not_below, sub_lt, pos_sub}

-- the top bit of a word
no_top : (h : ℕ) → h < 2 ^ 63 → h / 2 ^ 63 ≡ 0
no_top h p = omega arith

one_top : (h : ℕ) → 2 ^ 63 ≤ h → h < 2 ^ 64 → h / 2 ^ 63 ≡ 1
one_top h p q = omega arith

module _ (h l : ℕ) (hh : h < 2 ^ 64) (hl : l < 2 ^ 64) where
  abbrev n : ℕ
  n = spelled h l

  abbrev both : Duration
  both = record { hi = h; lo = l }

  -- n, less k powers of 2 ^ 128, at k = 0 and at k = 1
  none_off : (k : ℕ) → k ≡ 0 → sub_ℕ n (k * 2 ^ 128) ≡ pos n
  none_off k e = ap (λ (x : ℕ). sub_ℕ n (x * 2 ^ 128)) e ∙ sym (pos_sub n)

  one_off : (k : ℕ) → k ≡ 1 → sub_ℕ n (k * 2 ^ 128) ≡ negsuc (2 ^ 128 - suc n)
  one_off k e = ap (λ (x : ℕ). sub_ℕ n (x * 2 ^ 128)) e ∙ sub_lt n (2 ^ 128) (below_whole h l hh hl)

  -- a duration as a difference of naturals: its words, less 2 ^ 128 where the top bit is set
  pub duration_sub : duration both ≡ sub_ℕ n (h / 2 ^ 63 * 2 ^ 128)
  unfolding duration
  duration_sub = go (dec_lt h (2 ^ 63))
    where
      go : Dec (h < 2 ^ 63) → signed 128 n ≡ sub_ℕ n (h / 2 ^ 63 * 2 ^ 128)
      go (yes p) = signed_low 128 n (below_half h l p hl) ∙ sym (none_off (h / 2 ^ 63) (no_top h p))
      go (no p) =
          signed_high 128 n (from_half h l (not_below h (2 ^ 63) p)) ∙ sub_lt n (2 ^ 128) (below_whole h l hh hl)
          ∙ sym (one_off (h / 2 ^ 63) (one_top h (not_below h (2 ^ 63) p) hh))

-- below zero N stands for N - M, and N is 2 F + o. What is added up, F + H + o, is R with k carried: it stands for (N + o - M) / 2, towards zero
pub towards : (N F R o k H M : ℕ) → M ≡ H + H → N + 0 ≡ 0 + 2 * F + o → R + k * M ≡ F + H + o → M + 2 * (R + k * M) ≡ N + 2 * M + o
towards N F R o k H M e₁ e₂ e₃ = omega arith
