-- Tests that are true exactly of equal values, over any type.
use Rattle.std.specs.Prelude.{ℕ, ◌≡◌, refl, Bool, true, false, ◌&&◌, [], ◌∷◌, ◌↔◌, eqb}
use Rattle.std.proofs.Common.{sym, ap, ◌∙◌, eq-eqb, eqb-true}
use Rattle.std.proofs.lemmas.Bool.{false≢true}
use Rattle.record.specs.JoinedLaws.{all_true}

-- two values that it calls the same are equal, and each value is the same as itself
pub record Exact {A : Type 0} (same : A → A → Bool) : Type 0 where
  pub equal : (a b : A) → same a b ≡ true → a ≡ b
  pub same_self : (a : A) → same a a ≡ true

module _ {A : Type 0} (same : A → A → Bool) (x : Exact same) (a b : A) where
  pub same_when : a ≡ b → same a b ≡ true
  same_when e = ap (same a) (sym e) ∙ x.same_self a

  pub same_exactly : (same a b ≡ true) ↔ (a ≡ b)
  same_exactly = (x.equal a b, same_when)

  pub same_differ : same a b ≡ false → a ≡ b → ⊥
  same_differ f e = false≢true (sym f ∙ same_when e)

-- ---- numbers, and what two numbers make up

pub exact_number : Exact eqb
exact_number = record { equal = eqb-true; same_self = λ n. eq-eqb n n refl }

module _ {R : Type 0} (make : ℕ → ℕ → R) (first second : R → ℕ) (made : (r : R) → make (first r) (second r) ≡ r) where
  pub exact_two : Exact (λ a b. eqb (first a) (first b) && eqb (second a) (second b))
  exact_two =
      record {
        equal = λ a b e.
            let (f, g) = all_true (eqb (first a) (first b)) (eqb (second a) (second b) ∷ []) e in
            let f' : first a ≡ first b = eqb-true (first a) (first b) f in
            let g' : second a ≡ second b = eqb-true (second a) (second b) g in
            sym (made a) ∙ (λ i. make (f' i) (g' i)) ∙ made b;
        same_self = λ a. simp exact_number.same_self;
      }
