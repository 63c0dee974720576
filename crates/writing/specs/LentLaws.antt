-- A part of a buffer from a byte on that was lent: which bytes it has, and what the buffer holds once it was written.
use Rattle.std.specs.Prelude.{ℕ, ◌-◌, ◌≤◌, ◌≡◌, List, ◌++◌, length, take, drop}
use Rattle.std.proofs.Common.{◌∙◌, ap, append-nil, arith, length-drop, drop_of_length-le, take_all}
use borrow.Rule.Slice.PartMut.{put_mid, mid_of}

-- what is there behind byte n is all that is left
behind : (n : ℕ) (xs : List ℕ) → length (drop n xs) ≤ length xs - n
behind n xs = simp length-drop (omega arith)

pub lent_part : (n : ℕ) (xs : List ℕ) → mid_of n (length xs - n) xs ≡ drop n xs
lent_part n xs = take_all (length xs - n) (drop n xs) (behind n xs)

pub put_part : (n : ℕ) (xs ys : List ℕ) → put_mid n (length xs - n) xs ys ≡ take n xs ++ ys
put_part n xs ys =
    ap (λ (z : List ℕ). take n xs ++ (ys ++ z)) (drop_of_length-le (drop n xs) (behind n xs))
    ∙ ap (λ (z : List ℕ). take n xs ++ z) (append-nil ys)
