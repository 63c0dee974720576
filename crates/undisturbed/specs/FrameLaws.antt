-- What the laws of proofs/FrameLaws.antt speak of.

-- ---- the induction

-- fit for one exchange or another
-- ---- the induction

abbrev pub FitAny : {I Y : Type 0} → (I → Y → Type 0) → Y → Type 0
FitAny {I} FitY y = (i : I) × FitY i y

abbrev pub swapped : {X Y Z S : Type 0} → (X → Y → Z → S) → Y → X → Z → S
swapped mk y x z = mk x y z
