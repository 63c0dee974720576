use Rattle.std.proofs.Common.{◌≡◌, ℕ, ◌+◌, ◌-◌, ◌≤◌, List, ◌++◌, rules, length, take, drop, sym, ap, ◌∙◌, subst, le_refl, drop_at, length-take-le}
use Rattle.std.proofs.lemmas.Slice.{take-put_mid_below}
use Rattle.std.specs.Io.KnownBytes.{Consumes}
use Rattle.std.proofs.KnownBytes.{Consumes-trans}
use borrow.Rule.Slice.PartMut.{put_mid, post_of}
use lib.Seq.{take-add, take-append-le}
use Rattle.questions.proofs.read_full.Goals as goal

-- the front of xs with the first n bytes of ys that were put behind it
put_front : (a n : ℕ) (xs ys : List ℕ) → a ≤ length xs → n ≤ length ys → take a xs ++ take n ys ≡ take (a + n) (put_mid a (length xs - a) xs ys)
put_front a n xs ys within fits =
    let k : ℕ = length xs - a in
    let after : List ℕ = post_of a k xs in
    let front : take a (put_mid a k xs ys) ≡ take a xs = take-put_mid_below _ _ _ _ _ (le_refl _) within in
    ap (λ l. take a xs ++ l) (sym (take-append-le n ys after fits) ∙ ap (take n) (sym (drop_at (take a xs) (ys ++ after) a (length-take-le a xs within))))
    ∙ ap (λ l. l ++ take n (drop a (put_mid a k xs ys))) (sym front) ∙ sym (take-add a n (put_mid a k xs ys))

pub loop-done-preserved : goal.loop-done-preserved
loop-done-preserved g c =
    (search rules, subst (Consumes _ _) (put_front _ _ _ _ c.loop-done.invariant.0 c.in_ok-n.ensures.bound.0) (Consumes-trans _ _ _ _ _ c.loop-done.invariant.1 c.in_ok-n.ensures.bytes.0))
