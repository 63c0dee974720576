-- Laws of fields: where an inner field lies, what stands at the front of some bytes, and that no field is longer than `possible` says.
use Rattle.std.specs.Prelude.{ℕ, ◌+◌, ◌≤◌, ◌<◌, ◌≡◌, refl, Bool, ◌&&◌, cond, List, length, get_or, take, leb, eqb, Option, Some, None}
use Rattle.std.proofs.Common.{◌∙◌, subst, zero-add, zero-mul, add-zero, arith}
use Rattle.std.proofs.Math.Path.{ap}
use Rattle.std.proofs.Math.Bool.{true, false}
use borrow.Author.Tests.{leb-true, leb-false, eqb-true, lt-leb, le-leb, eq-eqb, ne_eqb}
use Rattle.time.specs.declared.Time.{Time}
use Rattle.octets.specs.Bytes.{number}
use Rattle.octets.proofs.BytesLaws.{both}
use Rattle.rules.specs.Events.{Event}
use Rattle.event_log.specs.Told.{Field, Next}
use Rattle.event_log.specs.Fields.{inner_of, needed, exactly, perhaps, ends, context_at, state_at, stamp_found, state_found, event_of, general_of, stamp_of, sync_timer_of, delay_timer_of, update_of}
use Rattle.event_log.specs.Fields.{filter_of, set_state_of, config_of, field_of, stated_of, possible, seen, none_of, cut_of, front_of}
use Rattle.event_log.specs.FieldsLaws.{Lies}
use Rattle.time.specs.declared.Duration.{Duration}

-- ---- inner fields

lies_by : (at n e : ℕ) (b t : Bool) → (b ≡ true → at + 3 + n ≤ e) → Lies at e (cond b (cond t (Some (at + 3, n)) None) None)
lies_by at n e true true h = (refl, h refl)
lies_by at n e true false h = tt
lies_by at n e false t h = tt

lies : (f : List ℕ) (at tag : ℕ) → Lies at (length f) (inner_of f at tag)
unfolding inner_of
lies f at tag =
    lies_by at (number (at + 1) 2 f) (length f) (leb (at + 3 + number (at + 1) 2 f) (length f)) (eqb (number at 1 f) tag)
    (leb-true (at + 3 + number (at + 1) 2 f) (length f))

lies_at : (at e a n : ℕ) (r : Option (ℕ × ℕ)) → r ≡ Some (a, n) → Lies at e r → (a ≡ at + 3) × (a + n ≤ e)
lies_at at e a n r p l = subst (Lies at e) p l

-- it starts behind its three bytes, and lies within the field around it
pub inner_starts : (f : List ℕ) (at tag a n : ℕ) → inner_of f at tag ≡ Some (a, n) → a ≡ at + 3
inner_starts f at tag a n p = (lies_at at (length f) a n (inner_of f at tag) p (lies f at tag)).0

pub inner_fits : (f : List ℕ) (at tag a n : ℕ) → inner_of f at tag ≡ Some (a, n) → a + n ≤ length f
inner_fits f at tag a n p = (lies_at at (length f) a n (inner_of f at tag) p (lies f at tag)).1

pub inner_short : (f : List ℕ) (at tag : ℕ) → length f < at + 3 + number (at + 1) 2 f → None ≡ inner_of f at tag
unfolding inner_of
inner_short f at tag h = simp (lt-leb (at + 3 + number (at + 1) 2 f) (length f) h)

pub inner_is : (f : List ℕ) (at tag n : ℕ) → n ≡ number (at + 1) 2 f → at + 3 + n ≤ length f → number at 1 f ≡ tag → Some (at + 3, n) ≡ inner_of f at tag
unfolding inner_of
inner_is f at tag n e h t = rw e (simp (le-leb (at + 3 + number (at + 1) 2 f) (length f) (rw e at h), eq-eqb (number at 1 f) tag t))

pub inner_other : (f : List ℕ) (at tag n : ℕ) → n ≡ number (at + 1) 2 f → at + 3 + n ≤ length f → (number at 1 f ≡ tag → ⊥) → None ≡ inner_of f at tag
unfolding inner_of
inner_other f at tag n e h t = simp (le-leb (at + 3 + number (at + 1) 2 f) (length f) (rw e at h), ne_eqb (number at 1 f) tag t)

-- ---- what stands at the front

-- a number of one byte is that byte
pub number_one : (at : ℕ) (l : List ℕ) → get_or l at 0 ≡ number at 1 l
unfolding number
number_one at l = simp (zero-mul, zero-add, add-zero)

module _ (f l : Bool) (s : List ℕ) where
  pub front_none : (r : Next) → length s ≡ 0 → r ≡ none_of f l → r ≡ front_of f s l
  unfolding front_of
  front_none r h e = simp (eq-eqb (length s) 0 h) e

  pub front_cut : (tag n : ℕ) (r : Next) → tag ≡ number 0 1 s → (length s ≡ 0 → ⊥) → n ≡ stated_of s → length s < 3 + n → r ≡ cut_of f tag n l → r ≡ front_of f s l
  unfolding front_of
  front_cut tag n r t h e b p =
      simp (ne_eqb (length s) 0 h, lt-leb (3 + stated_of s) (length s) (rw e at b))
      (p ∙ ap (λ (k : ℕ). cut_of f k n l) t ∙ ap (λ (k : ℕ). cut_of f (number 0 1 s) k l) e)

  pub front_whole : (tag n : ℕ) (w : Option Field) → tag ≡ number 0 1 s → (length s ≡ 0 → ⊥) → n ≡ stated_of s → 3 + n ≤ length s → w ≡ field_of f tag (take (3 + n) s) → seen (3 + n) w ≡ front_of f s l
  unfolding front_of
  front_whole tag n w t h e b p =
      simp (ne_eqb (length s) 0 h, le-leb (3 + stated_of s) (length s) (rw e at b))
      (ap (seen (3 + n)) (p ∙ ap (λ (k : ℕ). field_of f k (take (3 + n) s)) t) ∙ ap (λ (k : ℕ). seen (3 + k) (field_of f (number 0 1 s) (take (3 + k) s))) e)

-- ---- no field is longer than `possible` says

no_cond : (b : Bool) (x : Option Field) → (b ≡ true → x ≡ None) → cond b x None ≡ None
no_cond true x h = h refl
no_cond false x h = refl

no_needs : (r : Option (ℕ × ℕ)) (k : ℕ → ℕ → Option Field) → ((a n : ℕ) → r ≡ Some (a, n) → k a n ≡ None) → needed r k ≡ None
no_needs None k h = refl
no_needs (Some (a, n)) k h = h a n refl

no_exactly : (r : Option (ℕ × ℕ)) (m : ℕ) (k : ℕ → Option Field) → ((a n : ℕ) → r ≡ Some (a, n) → k a ≡ None) → exactly r m k ≡ None
no_exactly None m k h = refl
no_exactly (Some (a, n)) m k h = no_cond (eqb n m) (k a) (λ _. h a n refl)

no_perhaps : (r : Option (ℕ × ℕ)) (m : ℕ) (o : Option Field) (k : ℕ → Option Field) → o ≡ None → ((a n : ℕ) → r ≡ Some (a, n) → k a ≡ None) → perhaps r m o k ≡ None
no_perhaps None m o k g h = g
no_perhaps (Some (a, n)) m o k g h = no_cond (eqb n m) (k a) (λ _. h a n refl)

no_end : (f : List ℕ) (at : ℕ) (e : Event) → at < length f → ends f at e ≡ None
no_end f at e h = simp (ne_eqb at (length f) (λ p. omega arith))

no_context : (b m : ℕ) (f : List ℕ) (t : Time) → 13 < m → stamp_found t (context_at b m f) ≡ None
unfolding context_at
no_context b m f t h = simp (ne_eqb m 3 (λ p. omega arith), ne_eqb m 13 (λ p. omega arith))

no_state : (b m : ℕ) (f : List ℕ) → 11 < m → state_found (state_at b m f) ≡ None
unfolding state_at
no_state b m f h = simp (ne_eqb m 1 (λ p. omega arith), ne_eqb m 11 (λ p. omega arith))

-- each tag by itself, where f has a value of n bytes
module _ (f : List ℕ) (n : ℕ) (h : length f ≡ 3 + n) where
  event_long : possible false 0x10 n ≡ false → event_of f ≡ None
  unfolding possible event_of
  event_long g =
      no_exactly (inner_of f 3 1) 16 _ (λ a m p. no_needs (inner_of f (a + 16) 2) _ (λ b k q. no_cond (leb k 1024) _ (λ l.
      no_end f (b + k) _ (omega (arith, h, leb-false n _ g, inner_starts f 3 1 a m p, inner_starts f (a + 16) 2 b k q, leb-true k 1024 l)))))

  general_long : possible false 0x11 n ≡ false → general_of f ≡ None
  unfolding possible general_of
  general_long g =
      no_needs (inner_of f 3 2) _ (λ b k q. no_cond (leb k 1024) _ (λ l.
      no_end f (b + k) _ (omega (arith, h, leb-false n _ g, inner_starts f 3 2 b k q, leb-true k 1024 l))))

  stamp_long : possible false 0x12 n ≡ false → stamp_of f ≡ None
  unfolding possible stamp_of
  stamp_long g =
      no_exactly (inner_of f 3 1) 16 _ (λ a m p. no_needs (inner_of f (a + 16) 3) _ (λ b k q. no_cond (eqb (b + k) (length f)) _ (λ l.
      no_context b k f _ (omega (arith, h, leb-false n _ g, inner_starts f 3 1 a m p, inner_starts f (a + 16) 3 b k q, eqb-true (b + k) (length f) l)))))

  sync_long : possible false 0x13 n ≡ false → sync_timer_of f ≡ None
  unfolding possible sync_timer_of
  sync_long g = no_end f 3 _ (omega (arith, h, leb-false n _ g))

  delay_long : possible false 0x14 n ≡ false → delay_timer_of f ≡ None
  unfolding possible delay_timer_of
  delay_long g = no_exactly (inner_of f 3 4) 8 _ (λ a m p. no_end f (a + 8) _ (omega (arith, h, leb-false n _ g, inner_starts f 3 4 a m p)))

  update_long : (at : ℕ) (mean : Option Duration) → at + 8 < n → update_of f at mean ≡ None
  unfolding update_of
  update_long at mean g =
      no_perhaps (inner_of f at 6) 8 _ _ (no_end f at _ (omega (arith, h, g)))
      (λ b k q. no_end f (b + 8) _ (omega (arith, h, g, inner_starts f at 6 b k q)))

  filter_long : possible false 0x15 n ≡ false → filter_of f ≡ None
  unfolding possible filter_of
  filter_long g =
      no_perhaps (inner_of f 3 5) 16 _ _ (update_long 3 _ (omega (arith, leb-false n _ g)))
      (λ a k q. update_long (a + 16) _ (omega (arith, leb-false n _ g, inner_starts f 3 5 a k q)))

  state_long : possible false 0x16 n ≡ false → set_state_of f ≡ None
  unfolding possible set_state_of
  state_long g =
      no_needs (inner_of f 3 7) _ (λ b k q. no_cond (eqb (b + k) (length f)) _ (λ l.
      no_state b k f (omega (arith, h, leb-false n _ g, inner_starts f 3 7 b k q, eqb-true (b + k) (length f) l))))

  config_long : possible true 0x0F n ≡ false → config_of f ≡ None
  unfolding possible config_of
  config_long g = simp (ne_eqb (length f) 36 (λ p. omega (arith, h, p, leb-false n _ g)))

  -- a row of the two tables: the bound's, and what a field of this tag holds
  row : (b p q : Bool) (x y : Option Field) → (p ≡ false → x ≡ None) → (q ≡ false → y ≡ None) → cond b p q ≡ false → cond b x y ≡ None
  row true p q x y g k e = g e
  row false p q x y g k e = k e

  last_row : (b p : Bool) (x : Option Field) → (p ≡ false → x ≡ None) → (b && p) ≡ false → cond b x None ≡ None
  last_row true p x g e = g e
  last_row false p x g e = refl

  pub impossible : (first : Bool) (tag : ℕ) → possible first tag n ≡ false → field_of first tag f ≡ None
  unfolding possible field_of
  impossible true tag e = last_row (eqb tag 0x0F) (leb n 33) (config_of f) config_long e
  impossible false tag e =
      row (eqb tag 0x10) _ _ _ _ event_long
      (row (eqb tag 0x11) _ _ _ _ general_long
      (row (eqb tag 0x12) _ _ _ _ stamp_long
      (row (eqb tag 0x13) _ _ _ _ sync_long
      (row (eqb tag 0x14) _ _ _ _ delay_long
      (row (eqb tag 0x15) _ _ _ _ filter_long
      (last_row (eqb tag 0x16) _ _ state_long)))))) e

-- ---- `possible` by the length: the longest field there is, and what is too long stays so

module _ (n : ℕ) where
  within : (k : ℕ) → k ≤ 1046 → leb n k ≡ true → n ≤ 1046
  within k h e = omega (arith, h, leb-true n k e)

  row_within : (b p q : Bool) → (p ≡ true → n ≤ 1046) → (q ≡ true → n ≤ 1046) → cond b p q ≡ true → n ≤ 1046
  row_within true p q g h e = g e
  row_within false p q g h e = h e

  both_within : (b p : Bool) → (p ≡ true → n ≤ 1046) → (b && p) ≡ true → n ≤ 1046
  both_within b p g e = g (both b p e).1

  pub possible_small : (first : Bool) (tag : ℕ) → possible first tag n ≡ true → n ≤ 1046
  unfolding possible
  possible_small true tag e = both_within (eqb tag 0x0F) (leb n 33) (within 33 (omega arith)) e
  possible_small false tag e =
      row_within (eqb tag 0x10) _ _ (within 1046 (omega arith))
      (row_within (eqb tag 0x11) _ _ (within 1027 (omega arith))
      (row_within (eqb tag 0x12) _ _ (within 35 (omega arith))
      (row_within (eqb tag 0x13) _ _ (within 0 (omega arith))
      (row_within (eqb tag 0x14) _ _ (within 11 (omega arith))
      (row_within (eqb tag 0x15) _ _ (within 30 (omega arith))
      (both_within (eqb tag 0x16) (leb n 14) (within 14 (omega arith)))))))) e

module _ (n m : ℕ) (h : n ≤ m) where
  over : (k : ℕ) → leb n k ≡ false → leb m k ≡ false
  over k e = lt-leb m k (omega (arith, h, leb-false n k e))

  row_over : (b p q x y : Bool) → (p ≡ false → x ≡ false) → (q ≡ false → y ≡ false) → cond b p q ≡ false → cond b x y ≡ false
  row_over true p q x y f g e = f e
  row_over false p q x y f g e = g e

  both_over : (b p x : Bool) → (p ≡ false → x ≡ false) → (b && p) ≡ false → (b && x) ≡ false
  both_over true p x f e = f e
  both_over false p x f e = refl

  pub impossible_grows : (first : Bool) (tag : ℕ) → possible first tag n ≡ false → possible first tag m ≡ false
  unfolding possible
  impossible_grows true tag e = both_over (eqb tag 0x0F) (leb n 33) (leb m 33) (over 33) e
  impossible_grows false tag e =
      row_over (eqb tag 0x10) _ _ _ _ (over 1046)
      (row_over (eqb tag 0x11) _ _ _ _ (over 1027)
      (row_over (eqb tag 0x12) _ _ _ _ (over 35)
      (row_over (eqb tag 0x13) _ _ _ _ (over 0)
      (row_over (eqb tag 0x14) _ _ _ _ (over 11)
      (row_over (eqb tag 0x15) _ _ _ _ (over 30)
      (both_over (eqb tag 0x16) (leb n 14) (leb m 14) (over 14))))))) e
