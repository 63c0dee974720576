-- Equations of texts that do not hold by computation alone.
use Prim.Native.Nat.{ℕ, zero, suc}
use mathlib.Core.Path.{◌≡◌, refl, sym, ◌∙◌, ap}
use mathlib.Core.List.{List, [], ◌∷◌, ◌++◌, append_assoc, append-nil}
use native.Mathlib.Omega.{arith}
use lib.ListN.{length, get_or}
use Rattle.record.specs.declared.Todo.{Todo}
use Rattle.record.specs.Answers.{first_actions}
use Rattle.text.specs.Page.{Wrote, Page, typed}
use Rattle.text.specs.PageLaws.{wrote_as, typed_append}
use Rattle.text.specs.Digits.{hex_of}
use Rattle.lines.specs.Lines.{following, joined_by, dash, sent_text}

-- nothing stands behind the last text
pub wrote_end : {d : List ℕ} {at : ℕ} {w e : List ℕ} {k : ℕ} → Wrote d at w e k → Wrote d at (w ++ []) e k
wrote_end {w = w} p = wrote_as (sym (append-nil w)) p

pub behind_append : (mark : ℕ) (xs ys : List (List ℕ)) → following mark xs ++ following mark ys ≡ following mark (xs ++ ys)
behind_append mark [] ys = refl
behind_append mark (x ∷ xs) ys =
    append_assoc (mark ∷ x) (following mark xs) (following mark ys) ∙ ap (λ (l : List ℕ). mark ∷ x ++ l) (behind_append mark xs ys)

pub joined_append : (mark : ℕ) (x : List ℕ) (xs ys : List (List ℕ)) → joined_by mark x xs ++ following mark ys ≡ joined_by mark x (xs ++ ys)
joined_append mark x xs ys = append_assoc x (following mark xs) (following mark ys) ∙ ap (λ (l : List ℕ). x ++ l) (behind_append mark xs ys)

-- texts in three parts
pub behind_three : (mark : ℕ) (xs ys zs : List (List ℕ)) → following mark xs ++ (following mark ys ++ following mark zs) ≡ following mark (xs ++ (ys ++ zs))
behind_three mark xs ys zs = ap (λ (l : List ℕ). following mark xs ++ l) (behind_append mark ys zs) ∙ behind_append mark xs (ys ++ zs)

-- texts in two parts
pub typed_following : (p : Page) (mark : ℕ) (xs ys : List (List ℕ)) → typed p (following mark (xs ++ ys)) ≡ typed (typed p (following mark xs)) (following mark ys)
typed_following p mark xs ys = ap (λ (l : List ℕ). typed p l) (sym (behind_append mark xs ys)) ∙ typed_append p (following mark xs) (following mark ys)

-- ---- the packet

pub sent_none : (s : List ℕ) → length s ≡ 0 → dash ≡ sent_text s
sent_none [] h = refl
sent_none (b ∷ s) h = absurd (omega (arith, h))

pub sent_some : (s : List ℕ) → (length s ≡ 0 → ⊥) → hex_of s ≡ sent_text s
sent_some [] h = absurd (h refl)
sent_some (b ∷ s) h = refl

-- ---- the actions in the first of two places

pub first_none : (n : ℕ) (l : List Todo) → n ≡ 0 → [] ≡ first_actions n l
first_none n l h = rw h refl

pub first_one : (n : ℕ) (l : List Todo) (d : Todo) → length l ≡ 2 → n ≡ 1 → (get_or l 0 d).action ∷ [] ≡ first_actions n l
first_one n [] d h e = absurd (omega (arith, h))
first_one n (a ∷ l) d h e = rw e refl

pub first_two : (n : ℕ) (l : List Todo) (d : Todo) → length l ≡ 2 → (n ≡ 0 → ⊥) → (n ≡ 1 → ⊥) → (get_or l 0 d).action ∷ (get_or l 1 d).action ∷ [] ≡ first_actions n l
first_two n [] d h x y = absurd (omega (arith, h))
first_two n (a ∷ []) d h x y = absurd (omega (arith, h))
first_two n (a ∷ b ∷ c ∷ l) d h x y = absurd (omega (arith, h))
first_two zero (a ∷ b ∷ []) d h x y = absurd (x refl)
first_two (suc zero) (a ∷ b ∷ []) d h x y = absurd (y refl)
first_two (suc (suc zero)) (a ∷ b ∷ []) d h x y = refl
first_two (suc (suc (suc n))) (a ∷ b ∷ []) d h x y = refl
