-- Where bytes stand in a field: a part of what stands at a place stands there too or behind it, and it is read as it was written.
use Rattle.std.specs.Prelude.{ℕ, ◌+◌, ◌^◌, ◌≤◌, ◌<◌, ◌≡◌, Bool, List, [], ◌∷◌, ◌++◌, length, get_or, take, drop, Some, None}
use Rattle.std.proofs.Math.Path.{refl, sym}
use Rattle.std.proofs.Common.{◌∙◌, ap, append_assoc, append-nil, arith, le-ltb, length-append, drop_at, take_at}
use Rattle.std.proofs.Math.Seq.{take-append_seam}
use Rattle.std.proofs.lemmas.List.{get_or_at}
use Rattle.time.specs.declared.Time.{Time}
use Rattle.time.specs.declared.Duration.{Duration}
use Rattle.wire.specs.declared.Identity.{Identity}
use Rattle.octets.specs.Bytes.{number, spell}
use Rattle.octets.proofs.BytesLaws.{length-spell, number_past, number_inside, number-spell}
use Rattle.wire.specs.Layout.{identity_at}
use Rattle.wire.specs.LayoutLaws.{InWidths}
use Rattle.event_log.specs.Fields.{inner_of, time_at, duration_at, field_of, stated_of, seen, front_of}
use Rattle.event_log.proofs.FieldsLaws.{inner_is, inner_other, front_whole, number_one}
use Rattle.recording.specs.Recording.{field_bytes, time_bytes, duration_bytes, identity_bytes}
use Rattle.recording.proofs.RecordingLaws.{length_field}
use Rattle.recording.specs.StandsLaws.{Stands}

-- ---- parts

pub stands_whole : (f t : List ℕ) → Stands (f ++ t) 0 f
stands_whole f t = record { before = []; behind = t; whole = refl; place = refl }

pub stands_all : (f : List ℕ) → Stands f 0 f
stands_all f = record { before = []; behind = []; whole = sym (append-nil f); place = refl }

module _ {f : List ℕ} {at : ℕ} where
  pub stands_first : (a b : List ℕ) → Stands f at (a ++ b) → Stands f at a
  stands_first a b s =
      record { before = s.before; behind = b ++ s.behind; whole = s.whole ∙ ap (λ (l : List ℕ). s.before ++ l) (append_assoc a b s.behind); place = s.place }

  pub stands_then : (a b : List ℕ) (k : ℕ) → at + length a ≡ k → Stands f at (a ++ b) → Stands f k b
  stands_then a b k h s =
      record {
        before = s.before ++ a;
        behind = s.behind;
        whole = s.whole ∙ ap (λ (l : List ℕ). s.before ++ l) (append_assoc a b s.behind) ∙ sym (append_assoc s.before a (b ++ s.behind));
        place = length-append s.before a ∙ omega (arith, s.place, h);
      }

  pub stands_fits : (l : List ℕ) → Stands f at l → at + length l ≤ length f
  stands_fits l s =
      let n : length f ≡ length (s.before ++ (l ++ s.behind)) = ap (λ (x : List ℕ). length x) s.whole in
      omega (arith, n, length-append s.before (l ++ s.behind), length-append l s.behind, s.place)

-- ---- read as written

module _ {f : List ℕ} {at : ℕ} where
  pub stands_bytes : (l : List ℕ) → Stands f at l → take (length l) (drop at f) ≡ l
  stands_bytes l s =
      ap (λ (x : List ℕ). take (length l) (drop at x)) s.whole
      ∙ ap (λ (x : List ℕ). take (length l) x) (drop_at s.before (l ++ s.behind) at s.place)
      ∙ take-append_seam l s.behind

  pub stands_number : (w v : ℕ) → v < 256 ^ w → Stands f at (spell w v) → number at w f ≡ v
  stands_number w v h s =
      let place : at ≡ length s.before + 0 = omega (arith, s.place) in
      let n = length-spell w v in
      ap (λ (x : List ℕ). number at w x) s.whole
      ∙ ap (λ (k : ℕ). number k w (s.before ++ (spell w v ++ s.behind))) place
      ∙ number_past s.before (spell w v ++ s.behind) 0 w
      ∙ number_inside (spell w v) s.behind 0 w (omega arith)
      ∙ number-spell w v h

  pub stands_byte : (x : ℕ) (l : List ℕ) → Stands f at (x ∷ l) → number at 1 f ≡ x
  stands_byte x l s =
      sym (number_one at f) ∙ ap (λ (y : List ℕ). get_or y at 0) s.whole ∙ get_or_at s.before x (l ++ s.behind) 0 at s.place

-- two numbers, one behind the other
module _ {f : List ℕ} {at : ℕ} (v w a b : ℕ) (g : a < 256 ^ v) (h : b < 256 ^ w) (s : Stands f at (spell v a ++ spell w b)) where
  stands_high : number at v f ≡ a
  stands_high = stands_number v a g (stands_first (spell v a) (spell w b) s)

  stands_low : number (at + v) w f ≡ b
  stands_low = stands_number w b h (stands_then (spell v a) (spell w b) (at + v) (omega (arith, length-spell v a)) s)

module _ {f : List ℕ} {at : ℕ} where
  pub stands_time : (t : Time) → t.hi < 2 ^ 64 → t.lo < 2 ^ 64 → Stands f at (time_bytes t) → time_at at f ≡ t
  unfolding time_at
  stands_time t g h s = rw (stands_high 8 8 t.hi t.lo g h s, stands_low 8 8 t.hi t.lo g h s) refl

  pub stands_duration : (d : Duration) → d.hi < 2 ^ 64 → d.lo < 2 ^ 64 → Stands f at (duration_bytes d) → duration_at at f ≡ d
  unfolding duration_at
  stands_duration d g h s = rw (stands_high 8 8 d.hi d.lo g h s, stands_low 8 8 d.hi d.lo g h s) refl

  pub stands_identity : (i : Identity) → InWidths i → Stands f at (identity_bytes i) → identity_at at f ≡ i
  unfolding identity_at
  stands_identity i w s =
      rw (stands_high 8 2 i.clock i.port w.clock w.port s, stands_low 8 2 i.clock i.port w.clock w.port s) refl

-- ---- a field

module _ {f : List ℕ} {at : ℕ} (tag : ℕ) (v : List ℕ) (s : Stands f at (field_bytes tag v)) where
  pub stands_value : Stands f (at + 3) v
  unfolding field_bytes
  stands_value = stands_then (tag ∷ spell 2 (length v)) v (at + 3) (omega (arith, length-spell 2 (length v))) s

  pub stands_tag : number at 1 f ≡ tag
  unfolding field_bytes
  stands_tag = stands_byte tag (spell 2 (length v) ++ v) s

  stands_room : at + 3 + length v ≤ length f
  stands_room = omega (arith, stands_fits (field_bytes tag v) s, length_field tag v)

-- its length has two bytes
module _ {f : List ℕ} {at : ℕ} (tag : ℕ) (v : List ℕ) (small : length v < 65536) (s : Stands f at (field_bytes tag v)) where
  pub stands_length : length v ≡ number (at + 1) 2 f
  unfolding field_bytes
  stands_length =
      let lying : Stands f (at + 1) (spell 2 (length v) ++ v) = stands_then (tag ∷ []) (spell 2 (length v) ++ v) (at + 1) refl s in
      sym (stands_number 2 (length v) small (stands_first (spell 2 (length v)) v lying))

  -- it is found as the inner field at its place
  pub stands_inner : inner_of f at tag ≡ Some (at + 3, length v)
  stands_inner = sym (inner_is f at tag (length v) stands_length (stands_room tag v s) (stands_tag tag v s))

  -- and not as one of another tag
  pub stands_other : (k : ℕ) → (tag ≡ k → ⊥) → inner_of f at k ≡ None
  stands_other k h = sym (inner_other f at k (length v) stands_length (stands_room tag v s) (λ p. h (sym (stands_tag tag v s) ∙ p)))

-- and at the front of some bytes it is read alone
pub front_field : (first : Bool) (tag : ℕ) (v t : List ℕ) (last : Bool) → length v < 65536
    → front_of first (field_bytes tag v ++ t) last ≡ seen (length (field_bytes tag v)) (field_of first tag (field_bytes tag v))
unfolding stated_of
front_field first tag v t last small =
    let s = stands_whole (field_bytes tag v) t in
    let n : length (field_bytes tag v) ≡ 3 + length v = length_field tag v in
    let m : length (field_bytes tag v ++ t) ≡ length (field_bytes tag v) + length t = length-append (field_bytes tag v) t in
    let stated : length v ≡ stated_of (field_bytes tag v ++ t) = simp (le-ltb (length (field_bytes tag v ++ t)) 3 (omega (arith, n, m))) (stands_length tag v small s) in
    let alone : take (3 + length v) (field_bytes tag v ++ t) ≡ field_bytes tag v = take_at (field_bytes tag v) t (3 + length v) n in
    sym (front_whole first last (field_bytes tag v ++ t) tag (length v) (field_of first tag (field_bytes tag v)) (sym (stands_tag tag v s)) (λ p. omega (arith, p, n, m)) stated (omega (arith, n, m))
    (ap (λ (x : List ℕ). field_of first tag x) (sym alone)))
    ∙ ap (λ (k : ℕ). seen k (field_of first tag (field_bytes tag v))) (sym n)
