-- Laws of pages: one text behind another, and what fits stands on the page whole.
use Rattle.std.specs.Prelude.{ℕ, suc, ◌+◌, ◌≤◌, ◌<◌, ◌≡◌, refl, Bool, true, false, cond, List, [], ◌∷◌, ◌++◌, length, get_or, set, take, drop, ltb}
use Rattle.std.proofs.Common.{sym, ◌∙◌, ap, append_assoc, arith, add-zero, add-one, lt-ltb, le-ltb, length-set, drop_of_length-le, drop-cons}
use Rattle.std.proofs.lemmas.List.Edits.{sets, sets-eq}
use Rattle.std.proofs.lemmas.List.{set_comm}
use Rattle.text.specs.Page.{Page, page, typed_one, typed, Wrote}

pub typed_append : (p : Page) (a b : List ℕ) → typed p (a ++ b) ≡ typed (typed p a) b
typed_append p [] b = refl
typed_append p (x ∷ a) b = typed_append (typed_one p x) a b

length_one : (p : Page) (x : ℕ) → length (typed_one p x).bytes ≡ length p.bytes
unfolding typed_one
length_one p x = by (ltb p.at (length p.bytes))
  where
    by : (b : Bool) → length (cond b (page (set p.bytes p.at x) (p.at + 1)) p).bytes ≡ length p.bytes
    by true = length-set p.bytes p.at x
    by false = refl

pub length-typed : (p : Page) (w : List ℕ) → length (typed p w).bytes ≡ length p.bytes
length-typed p [] = refl
length-typed p (x ∷ w) = length-typed (typed_one p x) w ∙ length_one p x

-- one byte, where there is room for it and where there is none
pub wrote_byte : (d : List ℕ) (at x : ℕ) → at < length d → Wrote d at (x ∷ []) (set d at x) (at + 1)
unfolding typed_one
wrote_byte d at x h = record { text = simp (lt-ltb at (length d) h) }

pub wrote_full : (d : List ℕ) (at x : ℕ) → length d ≤ at → Wrote d at (x ∷ []) d at
unfolding typed_one
wrote_full d at x h = record { text = simp (le-ltb at (length d) h) }

pub wrote_nothing : {d : List ℕ} {at : ℕ} → Wrote d at [] d at
wrote_nothing {d} {at} = record { text = refl }

module _ {d : List ℕ} {at : ℕ} {w e : List ℕ} {k : ℕ} where
  -- one text behind another
  pub wrote_then : {u f : List ℕ} {m : ℕ} → Wrote d at w e k → Wrote e k u f m → Wrote d at (w ++ u) f m
  wrote_then {u} {f} {m} p q = record { text = q.text ∙ ap (λ (x : Page). typed x u) p.text ∙ sym (typed_append (page d at) w u) }

  -- the same text, said otherwise
  pub wrote_as : {u : List ℕ} → w ≡ u → Wrote d at w e k → Wrote d at u e k
  wrote_as {u} h p = record { text = p.text ∙ ap (λ (l : List ℕ). typed (page d at) l) h }

  pub wrote_same : Wrote d at w e k → length e ≡ length d
  wrote_same p = ap (λ (x : Page). length x.bytes) p.text ∙ length-typed (page d at) w

-- a text that fits stands whole behind what was written before, and what lies behind it is as it was
pub typed-sets : (w d : List ℕ) (at : ℕ) → at + length w ≤ length d → typed (page d at) w ≡ page (sets d at w) (at + length w)
typed-sets [] d at h = ap (λ (k : ℕ). page d k) (omega arith)
typed-sets (x ∷ w) d at h =
    let room : at < length d = omega arith in
    let one : typed_one (page d at) x ≡ page (set d at x) (suc at) = sym (wrote_byte d at x room).text ∙ ap (λ (k : ℕ). page (set d at x) k) (add-one at) in
    let fits : suc at + length w ≤ length (set d at x) = omega (arith, length-set d at x) in
    ap (λ (p : Page). typed p w) one ∙ typed-sets w (set d at x) (suc at) fits ∙ ap (λ (k : ℕ). page (sets (set d at x) (suc at) w) k) (omega arith)

-- a text that was laid where there is room for it
pub wrote_laid : {d e : List ℕ} {at k : ℕ} (w : List ℕ) → at + length w ≤ length d → e ≡ sets d at w → k ≡ at + length w → Wrote d at w e k
wrote_laid {d} {e} {at} {k} w h x y =
    record { text = ap (λ (l : List ℕ). page l k) x ∙ ap (λ (i : ℕ). page (sets d at w) i) y ∙ sym (typed-sets w d at h) }

-- the last byte of a text may be laid before the others
pub sets_last : (l w : List ℕ) (i x : ℕ) → sets (set l (i + length w) x) i w ≡ sets l i (w ++ (x ∷ []))
sets_last l [] i x = ap (λ (k : ℕ). set l k x) (add-zero i)
sets_last l (v ∷ w) i x =
    let apart : i + suc (length w) ≡ i → ⊥ = λ e. omega (arith, e) in
    let place : i + suc (length w) ≡ suc i + length w = omega arith in
    ap (λ (z : List ℕ). sets z (suc i) w) (set_comm l (i + suc (length w)) i x v apart ∙ ap (λ (k : ℕ). set (set l i v) k x) place)
    ∙ sets_last (set l i v) w (suc i) x

module _ {d w e : List ℕ} {k : ℕ} where
  pub wrote_whole : {at : ℕ} → Wrote d at w e k → at ≤ length d → at + length w ≤ length d
      → (k ≡ at + length w) × (e ≡ take at d ++ (w ++ drop (at + length w) d))
  wrote_whole {at} p l h =
      let q : page e k ≡ page (sets d at w) (at + length w) = p.text ∙ typed-sets w d at h in
      (ap (λ (x : Page). x.at) q, ap (λ (x : Page). x.bytes) q ∙ sets-eq w d at h ∙ append_assoc (take at d) w (drop (at + length w) d))

  -- from the front on
  pub wrote_first : Wrote d 0 w e k → length w ≤ length d → (k ≡ length w) × (e ≡ w ++ drop (length w) d)
  wrote_first p h =
      let q = wrote_whole p (omega arith) (omega arith) in
      let n : 0 + length w ≡ length w = omega arith in
      (q.0 ∙ n, q.1 ∙ ap (λ (i : ℕ). w ++ drop i d) n)

-- byte after byte: what is left of s is one shorter
pub typed_next : {d : List ℕ} {to x : ℕ} {e : List ℕ} {k : ℕ} (s : List ℕ) (i : ℕ)
    → i < length s → x ≡ get_or s i 0 → Wrote d to (x ∷ []) e k
    → typed (page e k) (drop (i + 1) s) ≡ typed (page d to) (drop i s)
typed_next {d} {to} {x} {e} {k} s i h g p =
    let rest : x ∷ drop (i + 1) s ≡ drop i s = ap (λ (n : ℕ). x ∷ drop n s) (add-one i) ∙ ap (λ (y : ℕ). y ∷ drop (suc i) s) g ∙ sym (drop-cons s i 0 h) in
    ap (λ (q : Page). typed q (drop (i + 1) s)) p.text ∙ sym (typed_append (page d to) (x ∷ []) (drop (i + 1) s)) ∙ ap (λ (l : List ℕ). typed (page d to) l) rest

-- at the end of s nothing is left
pub typed_done : {d : List ℕ} {at : ℕ} {e : List ℕ} {k : ℕ} (s : List ℕ) (i : ℕ)
    → length s ≤ i → typed (page e k) (drop i s) ≡ typed (page d at) s → Wrote d at s e k
typed_done {d} {at} {e} {k} s i h p = record { text = sym (ap (λ (l : List ℕ). typed (page e k) l) (drop_of_length-le s h)) ∙ p }
