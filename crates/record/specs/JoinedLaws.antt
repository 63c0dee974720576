-- Tests joined by `&&` or by `||`, which nest to the left: what the whole says of each. Both are one law: joined so that one test can spoil it, the whole is b only if each of them is, with b true for `&&` and false for `||`.
use Rattle.std.specs.Prelude.{◌≡◌, refl, Bool, true, false, cond, ◌&&◌, ◌||◌, not, List, [], ◌∷◌}
use Rattle.std.proofs.Common.{true≢false}
use Rattle.std.proofs.lemmas.Bool.{false≢true}

abbrev pub joined : Bool → Bool → List Bool → Bool
joined b t [] = t
joined b t (u ∷ us) = joined b (cond b (t && u) (t || u)) us

abbrev pub Each : Bool → Bool → List Bool → Type 0
Each b t [] = t ≡ b
Each b t (u ∷ us) = (t ≡ b) × Each b u us

-- what is spoiled stays so
spoiled : (b : Bool) (us : List Bool) → joined b (not b) us ≡ b → ⊥
spoiled true [] e = false≢true e
spoiled false [] e = true≢false e
spoiled true (u ∷ us) e = spoiled true us e
spoiled false (u ∷ us) e = spoiled false us e

each_is : (b t : Bool) (us : List Bool) → joined b t us ≡ b → Each b t us
each_is b t [] e = e
each_is true true (u ∷ us) e = (refl, each_is true u us e)
each_is false false (u ∷ us) e = (refl, each_is false u us e)
each_is true false (u ∷ us) e = absurd (spoiled true us e)
each_is false true (u ∷ us) e = absurd (spoiled false us e)

pub all_true : (t : Bool) (us : List Bool) → joined true t us ≡ true → Each true t us
all_true t us e = each_is true t us e

pub all_false : (t : Bool) (us : List Bool) → joined false t us ≡ false → Each false t us
all_false t us e = each_is false t us e

pub none_true : (t : Bool) (us : List Bool) → Each false t us → joined false t us ≡ false
none_true t [] e = e
none_true false (u ∷ us) (e, es) = none_true u us es
none_true true (u ∷ us) (e, es) = absurd (true≢false e)
