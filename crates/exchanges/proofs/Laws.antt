-- What a test picked, for a value that is made of it.
use Prim.Native.Nat.{ℕ}
use mathlib.Core.Path.{◌≡◌, ap}
use mathlib.Core.Bool.{Bool, cond}
use lib.Dec.{eqb}
use borrow.Author.Tests.{eq-eqb, ne_eqb}

module _ {A B : Type 0} (f : A → B) (a b : ℕ) (x y : A) where
  pub picked_same : a ≡ b → f (cond (eqb a b) x y) ≡ f x
  picked_same h = ap (λ (t : Bool). f (cond t x y)) (eq-eqb a b h)

  pub picked_other : (a ≡ b → ⊥) → f (cond (eqb a b) x y) ≡ f y
  picked_other h = ap (λ (t : Bool). f (cond t x y)) (ne_eqb a b h)
