-- ℤ by differences of naturals. `sub_ℕ a b` is a - b, so an equation between two of them is an equation of ℕ, which `omega` reads; sums, differences, products and halves of such differences are such differences again.
-- `omega` refuses a numeral of more than 38 digits, so powers as large as 2 ^ 128 stand here as variables.
use Rattle.std.specs.Prelude.{◌≡◌, ℕ, suc, ◌+◌, ◌-◌, ◌*◌, ◌/◌, ◌<◌, ◌≤◌, ℤ, pos, negsuc, neg_ℤ, ◌+ℤ◌, ◌-ℤ◌, ◌*ℤ◌}
use Rattle.std.proofs.Common.{sym, ap, ◌∙◌, arith, lt-ltb, le-ltb}
use Rattle.std.proofs.Math.Decide.{dec_lt}
use Rattle.std.specs.Int.Signed.{quot_z}
use Rattle.std.proofs.Math.IntN.{sub_ℕ}

pub not_below : (a b : ℕ) → (a < b → ⊥) → b ≤ a
not_below a b h = omega arith

pub sub_ge : (a b : ℕ) → b ≤ a → sub_ℕ a b ≡ pos (a - b)
sub_ge a b h = simp (le-ltb a b h)

pub sub_lt : (a b : ℕ) → a < b → sub_ℕ a b ≡ negsuc (b - suc a)
sub_lt a b h = simp (lt-ltb a b h)

-- two differences are equal where their cross sums are
pub sub_eq : (a b c d : ℕ) → a + d ≡ c + b → sub_ℕ a b ≡ sub_ℕ c d
sub_eq a b c d e = go (dec_lt a b)
  where
    go : Dec (a < b) → sub_ℕ a b ≡ sub_ℕ c d
    go (yes h) = sub_lt a b h ∙ ap negsuc (omega arith) ∙ sym (sub_lt c d (omega arith))
    go (no h) = sub_ge a b (omega arith) ∙ ap pos (omega arith) ∙ sym (sub_ge c d (omega arith))

-- each number of ℤ is a difference
pub pos_sub : (n : ℕ) → pos n ≡ sub_ℕ n 0
pos_sub n = ap pos (omega arith) ∙ sym (sub_ge n 0 (omega arith))

pub negsuc_sub : (n : ℕ) → negsuc n ≡ sub_ℕ 0 (suc n)
negsuc_sub n = ap negsuc (omega arith) ∙ sym (sub_lt 0 (suc n) (omega arith))

pub neg_sub : (a b : ℕ) → neg_ℤ (sub_ℕ a b) ≡ sub_ℕ b a
neg_sub a b = go (dec_lt a b) (dec_lt b a)
  where
    neg_pos : (n m : ℕ) → n ≡ m → neg_ℤ (pos n) ≡ neg_ℤ (pos m)
    neg_pos n m e = ap (λ (k : ℕ). neg_ℤ (pos k)) e

    go : Dec (a < b) → Dec (b < a) → neg_ℤ (sub_ℕ a b) ≡ sub_ℕ b a
    go (yes h) k = ap neg_ℤ (sub_lt a b h) ∙ ap pos (omega arith) ∙ sym (sub_ge b a (omega arith))
    go (no h) (yes k) = ap neg_ℤ (sub_ge a b (omega arith)) ∙ neg_pos (a - b) (suc (a - suc b)) (omega arith) ∙ sym (sub_lt b a k)
    go (no h) (no k) =
        ap neg_ℤ (sub_ge a b (omega arith)) ∙ neg_pos (a - b) 0 (omega arith) ∙ ap pos (omega arith) ∙ sym (sub_ge b a (omega arith))

-- (a - b) + (c - d) is e - f where a + c + f is e + b + d
pub sum_is : (a b c d e f : ℕ) → (a + c) + f ≡ e + (b + d) → sub_ℕ a b +ℤ sub_ℕ c d ≡ sub_ℕ e f
sum_is a b c d e f h = go (dec_lt a b) (dec_lt c d)
  where
    both : {x x' y y' : ℤ} → x ≡ x' → y ≡ y' → x +ℤ y ≡ x' +ℤ y'
    both {x} {x'} {y} {y'} p q = ap (λ (z : ℤ). z +ℤ y) p ∙ ap (λ (z : ℤ). x' +ℤ z) q

    negatives : (x y : ℕ) → f ≡ e + suc (suc (x + y)) → negsuc x +ℤ negsuc y ≡ sub_ℕ e f
    negatives x y k = negsuc_sub (suc (x + y)) ∙ sub_eq 0 (suc (suc (x + y))) e f (omega arith)

    go : Dec (a < b) → Dec (c < d) → sub_ℕ a b +ℤ sub_ℕ c d ≡ sub_ℕ e f
    go (yes p) (yes q) = both (sub_lt a b p) (sub_lt c d q) ∙ negatives (b - suc a) (d - suc c) (omega arith)
    go (yes p) (no q) = both (sub_lt a b p) (sub_ge c d (omega arith)) ∙ sub_eq (c - d) (suc (b - suc a)) e f (omega arith)
    go (no p) (yes q) = both (sub_ge a b (omega arith)) (sub_lt c d q) ∙ sub_eq (a - b) (suc (d - suc c)) e f (omega arith)
    go (no p) (no q) =
        both (sub_ge a b (omega arith)) (sub_ge c d (omega arith)) ∙ pos_sub ((a - b) + (c - d)) ∙ sub_eq ((a - b) + (c - d)) 0 e f (omega arith)

-- (a - b) - (c - d) is e - f where a + d + f is e + b + c
pub difference_is : (a b c d e f : ℕ) → (a + d) + f ≡ e + (b + c) → sub_ℕ a b -ℤ sub_ℕ c d ≡ sub_ℕ e f
difference_is a b c d e f h = ap (λ (z : ℤ). sub_ℕ a b +ℤ z) (neg_sub c d) ∙ sum_is a b d c e f h

pub pos_minus : (a b : ℕ) → pos a -ℤ pos b ≡ sub_ℕ a b
pos_minus a b =
    ap (λ (z : ℤ). z -ℤ pos b) (pos_sub a) ∙ ap (λ (z : ℤ). sub_ℕ a 0 -ℤ z) (pos_sub b) ∙ difference_is a 0 b 0 a b (omega arith)

-- (a - b) × k is a × k - b × k
pub product_is : (a b k : ℕ) → sub_ℕ a b *ℤ pos k ≡ sub_ℕ (a * k) (b * k)
product_is a b k = go (dec_lt a b)
  where
    up : (x : ℕ) → a ≡ b + x → pos (x * k) ≡ sub_ℕ (a * k) (b * k)
    up x e = pos_sub (x * k) ∙ sub_eq (x * k) 0 (a * k) (b * k) (omega (arith, ap (λ (n : ℕ). n * k) e))

    down : (x : ℕ) → b ≡ a + x → neg_ℤ (pos (x * k)) ≡ sub_ℕ (a * k) (b * k)
    down x e =
        ap neg_ℤ (pos_sub (x * k)) ∙ neg_sub (x * k) 0 ∙ sub_eq 0 (x * k) (a * k) (b * k) (omega (arith, ap (λ (n : ℕ). n * k) e))

    go : Dec (a < b) → sub_ℕ a b *ℤ pos k ≡ sub_ℕ (a * k) (b * k)
    go (yes h) = ap (λ (z : ℤ). z *ℤ pos k) (sub_lt a b h) ∙ down (suc (b - suc a)) (omega arith)
    go (no h) = ap (λ (z : ℤ). z *ℤ pos k) (sub_ge a b (omega arith)) ∙ up (a - b) (omega arith)

-- half of a - b, towards zero, is e - f, where o is the odd unit: first for a - b not negative, then for it negative
pub half_up : (a b e f o : ℕ) → b ≤ a → o ≤ 1 → a + 2 * f ≡ b + 2 * e + o → quot_z (sub_ℕ a b) (pos 2) ≡ sub_ℕ e f
half_up a b e f o h h₁ k =
    ap (λ (z : ℤ). quot_z z (pos 2)) (sub_ge a b h) ∙ ap pos (omega arith) ∙ sym (sub_ge e f (omega arith))

pub half_down : (a b e f o : ℕ) → a < b → o ≤ 1 → b + 2 * e ≡ a + 2 * f + o → quot_z (sub_ℕ a b) (pos 2) ≡ sub_ℕ e f
half_down a b e f o h h₁ k =
    ap (λ (z : ℤ). quot_z z (pos 2)) (sub_lt a b h)
    ∙ ap (λ (n : ℕ). neg_ℤ (pos n)) {x = suc (b - suc a) / 2} {y = f - e} (omega arith)
    ∙ ap neg_ℤ (pos_sub (f - e)) ∙ neg_sub (f - e) 0 ∙ sub_eq 0 (f - e) e f (omega arith)
