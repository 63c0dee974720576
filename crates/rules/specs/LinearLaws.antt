-- Sums and differences of ℤ: two of them are equal where their parts above and below zero are, which is an equation of ℕ that `omega` reads.
use Rattle.std.specs.Prelude.{ℕ, suc, ◌+◌, ◌≡◌, refl, ℤ, pos, negsuc, ◌+ℤ◌, ◌-ℤ◌}
use Rattle.std.proofs.Common.{sym, ◌∙◌}
use Rattle.std.proofs.Math.IntN.{sub_ℕ}
use Rattle.time.specs.Lemmas.Integers.{sub_eq, pos_sub, negsuc_sub, sum_is, difference_is}

infixl 6 ◌⊕◌
infixl 6 ◌⊖◌
pub data Terms : Type 0 where
  num : ℤ → Terms
  ◌⊕◌ ◌⊖◌ : Terms → Terms → Terms

-- the number that a sum is
abbrev pub worth : Terms → ℤ
worth (num z) = z
worth (a ⊕ b) = worth a +ℤ worth b
worth (a ⊖ b) = worth a -ℤ worth b

-- a number's part above zero, and below it
unfoldable pub over_zero : ℤ → ℕ
over_zero (pos n) = n
over_zero (negsuc n) = 0

unfoldable pub under_zero : ℤ → ℕ
under_zero (pos n) = 0
under_zero (negsuc n) = suc n

-- and a sum's, with neither taken from the other
abbrev mutual
  pub ups : Terms → ℕ
  ups (num z) = over_zero z
  ups (a ⊕ b) = ups a + ups b
  ups (a ⊖ b) = ups a + downs b

  pub downs : Terms → ℕ
  downs (num z) = under_zero z
  downs (a ⊕ b) = downs a + downs b
  downs (a ⊖ b) = downs a + ups b

parts : (z : ℤ) → z ≡ sub_ℕ (over_zero z) (under_zero z)
unfolding over_zero under_zero
parts (pos n) = pos_sub n
parts (negsuc n) = negsuc_sub n

of_parts : (a : Terms) → worth a ≡ sub_ℕ (ups a) (downs a)
of_parts (num z) = parts z
of_parts (a ⊕ b) =
    (λ i. of_parts a i +ℤ of_parts b i) ∙ sum_is (ups a) (downs a) (ups b) (downs b) (ups a + ups b) (downs a + downs b) refl
of_parts (a ⊖ b) =
    (λ i. of_parts a i -ℤ of_parts b i) ∙ difference_is (ups a) (downs a) (ups b) (downs b) (ups a + downs b) (downs a + ups b) refl

pub equal_sums : (a b : Terms) → ups a + downs b ≡ ups b + downs a → worth a ≡ worth b
equal_sums a b e = of_parts a ∙ sub_eq (ups a) (downs a) (ups b) (downs b) e ∙ sym (of_parts b)
