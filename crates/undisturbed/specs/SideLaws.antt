-- What must hold of each event, one by one, for a run to go through: of the events of an exchange on their own side of what stands, and of those that belong to none. Nothing here knows what an event is.
use Rattle.std.specs.Prelude.{◌≡◌, List, [], ◌∷◌, ◌++◌}
use Rattle.undisturbed.specs.Runs.{syncs, requests, a_part, the_last, Place, within, free, Item, placed, Once}

-- one side, l, of what stands, put l r z: r is the other side, and z what both share. i says which exchange of the side is open or comes next
module _ {L R Z I S E A C M : Type 0} (put : L → R → Z → S) (act : S → E → S × A) (FitL : I → L → Type 0) (FitR : R → Type 0) (next : I → I)
    (Admitted : Place → E × A → Type 0) (measured : A → List M) (Says : S → C → A → S → Type 0) (due : List E → C) where
  -- a part reads and writes its own side alone, and measures nothing
  pub record PartDone (i : I) (e : E) (l : L) (Then : L → Type 0) : Type 0 where
    pub side : L
    pub answer : A
    pub fits : FitL i side
    pub does : (r : R) (z : Z) → FitR r → act (put l r z) e ≡ (put side r z, answer)
    pub silent : measured answer ≡ []
    pub goes_on : Then side

  abbrev pub PartGoes : I → Place → E → L → (L → Type 0) → Type 0
  PartGoes i p e l Then = (r : R) (z : Z) → FitR r → Admitted p (e, (act (put l r z) e).1) → PartDone i e l Then

  -- a last reads and writes its own side and what is shared, not the other side; what it measures is what its exchange comes to
  pub record LastDone (i : I) (p : Place) (es : List E) (e : E) (l : L) (r : R) (z : Z) (Then : L → Type 0) : Type 0 where
    pub side : L
    pub shared : Z
    pub answer : A
    pub fits : FitL (next i) side
    pub does : (r : R) → FitR r → act (put l r z) e ≡ (put side r shared, answer)
    pub says : Says (put l r z) (due (es ++ (e ∷ []))) answer (put side r shared)
    pub once : Once measured p (e, answer)
    pub goes_on : Then side

  abbrev pub LastGoes : I → Place → List E → E → L → (L → Type 0) → Type 0
  LastGoes i p es e l Then = (r : R) (z : Z) → FitR r → Admitted p (e, (act (put l r z) e).1) → LastDone i p es e l r z Then

  -- the events of this side go through, from l, with es of the open exchange behind them
  unfoldable pub Goes : I → List E → L → List (Item E) → Type 0
  Goes i es l [] = Unit {0}
  Goes i es l (placed (within k (a_part w)) e ∷ more) = PartGoes i (within k (a_part w)) e l (λ m. Goes i (es ++ (e ∷ [])) m more)
  Goes i es l (placed (within k (the_last w)) e ∷ more) = LastGoes i (within k (the_last w)) es e l (λ m. Goes (next i) [] m more)
  Goes i es l (placed (free b) e ∷ more) = ⊥

-- an event that belongs to no exchange reads and writes what is shared alone, and measures nothing
module _ {X Y Z I S E A M : Type 0} (mk : X → Y → Z → S) (act : S → E → S × A) (FitX : X → Type 0) (FitY : I → Y → Type 0) (next : I → I) (measured : A → List M) where
  pub record FreeDone (i : I) (e : E) (z : Z) : Type 0 where
    pub shared : Z
    pub answer : A
    pub does : (x : X) (y : Y) → FitX x → FitY i y → act (mk x y z) e ≡ (mk x y shared, answer)
    pub silent : measured answer ≡ []

  unfoldable pub Frees : I → List (Item E) → Type 0
  Frees i [] = Unit {0}
  Frees i (placed (within syncs r) e ∷ es) = Frees i es
  Frees i (placed (within requests (a_part w)) e ∷ es) = Frees i es
  Frees i (placed (within requests (the_last w)) e ∷ es) = Frees (next i) es
  Frees i (placed (free b) e ∷ es) = ((z : Z) → FreeDone i e z) × Frees i es
