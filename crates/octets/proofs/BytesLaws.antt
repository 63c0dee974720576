-- Laws of numbers in bytes, each once over the place and the width, for proofs to cite.
use Rattle.std.specs.Prelude.{ℕ, zero, suc, ◌+◌, ◌-◌, ◌*◌, ◌^◌, ◌/◌, ◌%◌, ◌≤◌, ◌<◌, ◌≡◌, refl, Bool, true, false, ◌&&◌, ◌||◌, List, [], ◌∷◌, ◌++◌, length, get_or, set, take, drop, eqb, ltb}
use Rattle.std.proofs.Common.{sym, ◌∙◌, ap, append_assoc, add-zero, zero-add, add-suc, suc-add, add_assoc, pow-suc, div-add-mod', add-one, arith, length-append, length-drop, get_or-append-add, get_or-drop, take-suc, eqb-true, ltb-true, lt-ltb}
use Rattle.std.proofs.Math.Nat.{pow-le-pow_right}
use Rattle.std.proofs.Math.ListN.{get_or-append}
use Rattle.std.proofs.lemmas.List.Edits.{sets, sets-eq}
use Rattle.std.proofs.lemmas.List.{set_comm, get_or_at}
use Rattle.octets.specs.Bytes.{Entry, number, spell, put, puts, bytes_of, tiles, size_of, roomy, Bytes}
use Rattle.octets.specs.BytesLaws.{Fits, Reads}

below : (v b : ℕ) → v < b * 256 → v / 256 < b
below v b h = omega arith

pub length-spell : (w v : ℕ) → length (spell w v) ≡ w
unfolding spell
length-spell zero v = refl
length-spell (suc w) v = omega (arith, length-append (spell w (v / 256)) (v % 256 ∷ []), length-spell w (v / 256))

pub sets_joined : (l : List ℕ) (i : ℕ) (a b : List ℕ) → sets l i (a ++ b) ≡ sets (sets l i a) (i + length a) b
sets_joined l i [] b = rw add-zero refl
sets_joined l i (x ∷ a) b = rw (add-suc, ← suc-add) (sets_joined (set l i x) (suc i) a b)

pub length-bytes_of : (es : List Entry) → length (bytes_of es) ≡ size_of es
unfolding bytes_of size_of
length-bytes_of [] = refl
length-bytes_of (e ∷ es) = omega (arith, length-append (spell e.place.width e.value) (bytes_of es), length-spell e.place.width e.value, length-bytes_of es)

pub both : (a b : Bool) → a && b ≡ true → (a ≡ true) × (b ≡ true)
both true b h = (refl, h)
both false b h = (h, cc)

pub neither : (a b : Bool) → a || b ≡ false → (a ≡ false) × (b ≡ false)
neither true b e = (e, cc)
neither false b e = (refl, e)

-- `cc` makes this path of two constructors that are said to be one
pub apart : ◌≡◌ {A = ℕ} 0 1 → ⊥
apart e = omega arith

-- entries that stand one behind another, written each at its place, are their bytes written in one run
pub puts_run : (n : ℕ) (es : List Entry) (l : List ℕ) → tiles n es ≡ true → puts es l ≡ sets l n (bytes_of es)
unfolding tiles puts bytes_of put
puts_run n [] l h = refl
puts_run n (e ∷ es) l h =
    let t = both (eqb e.place.at n) (tiles (n + e.place.width) es) h in
    rw (eqb-true e.place.at n t.0, sets_joined, length-spell) (puts_run (n + e.place.width) es (sets l n (spell e.place.width e.value)) t.1)

-- and that is the bytes, then what stood behind them
pub written : (es : List Entry) (l : List ℕ) → tiles 0 es ≡ true → size_of es ≤ length l → puts es l ≡ bytes_of es ++ drop (size_of es) l
written es l t h =
    let e : length (bytes_of es) ≡ size_of es = length-bytes_of es in
    puts_run 0 es l t ∙ sets-eq (bytes_of es) l 0 (omega arith) ∙ ap (λ (k : ℕ). bytes_of es ++ drop k l) (zero-add (length (bytes_of es)) ∙ e)

pub puts_append : (a b : List Entry) (l : List ℕ) → puts (a ++ b) l ≡ puts b (puts a l)
unfolding puts
puts_append [] b l = refl
puts_append (e ∷ a) b l = puts_append a b (put e.place.at e.place.width e.value l)

-- what stands before a place, and what stands behind it, does not matter
pub number_past : (p q : List ℕ) (k w : ℕ) → number (length p + k) w (p ++ q) ≡ number k w q
unfolding number
number_past p q k zero = refl
number_past p q k (suc w) = rw (number_past p q k w, add_assoc, get_or-append-add) refl

pub number_inside : (p q : List ℕ) (k w : ℕ) → k + w ≤ length p → number k w (p ++ q) ≡ number k w p
unfolding number
number_inside p q k zero h = refl
number_inside p q k (suc w) h =
    let i : k + w < length p = omega arith in
    let j : k + w ≤ length p = omega arith in
    rw (number_inside p q k w j, get_or-append p q 0 (k + w) i) refl

pub number-spell : (w v : ℕ) → v < 256 ^ w → number 0 w (spell w v) ≡ v
unfolding number spell
number-spell zero v h = omega arith
number-spell (suc w) v h =
    let d : v / 256 < 256 ^ w = below v (256 ^ w) (rw pow-suc at h) in
    let n = length-spell w (v / 256) in
    let i : 0 + w ≤ length (spell w (v / 256)) = omega arith in
    rw (number_inside (spell w (v / 256)) (v % 256 ∷ []) 0 w i, number-spell w (v / 256) d, zero-add, get_or_at (spell w (v / 256)) (v % 256) [] 0 w n) (div-add-mod' v 256)

pub roomy_fits : (es : List Entry) → roomy es ≡ true → Fits es
unfolding roomy
roomy_fits [] h = tt
roomy_fits (e ∷ es) h =
    let (a, b) = both (ltb e.value (256 ^ e.place.width)) (roomy es) h in
    (ltb-true e.value (256 ^ e.place.width) a, roomy_fits es b)

pub fits_roomy : (es : List Entry) → Fits es → roomy es ≡ true
unfolding roomy
fits_roomy [] f = refl
fits_roomy (e ∷ es) (f, fs) = simp (lt-ltb e.value (256 ^ e.place.width) f, fits_roomy es fs)

pub fits_parts : (a b : List Entry) → Fits (a ++ b) → Fits a × Fits b
fits_parts [] b f = (tt, f)
fits_parts (e ∷ a) b (f, fs) =
    let (p, q) = fits_parts a b fs in
    ((f, p), q)

pub reads_parts : (a b : List Entry) (l : List ℕ) → Reads (a ++ b) l → Reads a l × Reads b l
reads_parts [] b l r = (tt, r)
reads_parts (e ∷ a) b l (r, rs) =
    let (p, q) = reads_parts a b l rs in
    ((r, p), q)

-- what is written reads back, whatever stands before and behind it
pub reads_back : (p : List ℕ) (es : List Entry) (q : List ℕ) → tiles (length p) es ≡ true → Fits es → Reads es (p ++ (bytes_of es ++ q))
unfolding tiles bytes_of
reads_back p [] q t f = f
reads_back p (e ∷ es) q t (f, fs) =
    let w = e.place.width in
    let v = e.value in
    let t = both (eqb e.place.at (length p)) (tiles (length p + w) es) t in
    let n = length-spell w v in
    let i : 0 + w ≤ length (spell w v) = omega arith in
    let here : number (length p + 0) w (p ++ (spell w v ++ (bytes_of es ++ q))) ≡ v
    = number_past p (spell w v ++ (bytes_of es ++ q)) 0 w ∙ number_inside (spell w v) (bytes_of es ++ q) 0 w i ∙ number-spell w v f in
    let m : length (p ++ spell w v) ≡ length p + w = simp (length-append, length-spell) in
    let rest = reads_back (p ++ spell w v) es q (rw m t.1) fs in
    (rw (append_assoc, eqb-true e.place.at (length p) t.0) (simp add-zero at here), rw append_assoc (rw append_assoc at rest))

-- a number is what its own bytes say
pub number_same : (at w : ℕ) (l m : List ℕ) → ((i : ℕ) → at ≤ i → i < at + w → get_or l i 0 ≡ get_or m i 0) → number at w l ≡ number at w m
unfolding number
number_same at zero l m e = refl
number_same at (suc w) l m e =
    let f : (i : ℕ) → at ≤ i → i < at + w → get_or l i 0 ≡ get_or m i 0 = λ i a b. e i a (omega arith) in
    rw (number_same at w l m f, e (at + w) (omega arith) (omega arith)) refl

pub number_lt : (at w : ℕ) (l : List ℕ) → Bytes l → number at w l < 256 ^ w
unfolding number
number_lt at zero l b = omega arith
number_lt at (suc w) l b = omega (arith, pow-suc 256 w, number_lt at w l b, b (at + w))

-- the bytes of what is read are the bytes that were read
pub spell-number : (at w : ℕ) (l : List ℕ) → Bytes l → at + w ≤ length l → spell w (number at w l) ≡ take w (drop at l)
unfolding spell number
spell-number at zero l b h = refl
spell-number at (suc w) l b h =
    let y = get_or l (at + w) 0 in
    let g : w < length (drop at l) = simp length-drop (omega arith) in
    let k : at + w ≤ length l = omega arith in
    let q : (number at w l * 256 + y) / 256 ≡ number at w l = omega (arith, b (at + w)) in
    let r : (number at w l * 256 + y) % 256 ≡ y = omega (arith, b (at + w)) in
    rw (q, r, spell-number at w l b k, take-suc (drop at l) w 0 g, get_or-drop) refl

pub bytes_of_append : (a b : List Entry) → bytes_of (a ++ b) ≡ bytes_of a ++ bytes_of b
unfolding bytes_of
bytes_of_append [] b = refl
bytes_of_append (e ∷ a) b = rw (bytes_of_append a b, append_assoc) refl

pub set-sets : (l vs : List ℕ) (i k x : ℕ) → i + length vs ≤ k → sets (set l k x) i vs ≡ set (sets l i vs) k x
set-sets l [] i k x h = refl
set-sets l (v ∷ vs) i k x h =
    let n : k ≡ i → ⊥ = λ e. omega (arith, e) in
    let m : suc i + length vs ≤ k = omega arith in
    ap (λ (z : List ℕ). sets z (suc i) vs) (set_comm l k i x v n) ∙ set-sets (set l i v) vs (suc i) k x m

-- the last byte first
pub put_last : (at w v : ℕ) (l : List ℕ) → put at (suc w) v l ≡ put at w (v / 256) (set l (at + w) (v % 256))
unfolding put spell
put_last at w v l =
    let n = length-spell w (v / 256) in
    rw (sets_joined, n) (sym (set-sets l (spell w (v / 256)) at (at + w) (v % 256) (omega arith)))

pub room : (r i b : ℕ) → r < 256 ^ i → i < 8 → b < 256 → r * 256 + b < 18446744073709551616
room r i b h g k =
    let p : 256 ^ i ≤ 256 ^ 7 = pow-le-pow_right {n = 256} (omega arith) {i = i} {j = 7} (omega arith) in
    let q : r < 72057594037927936 = omega (arith, p) in
    omega arith

pub grow : (r i b : ℕ) → r < 256 ^ i → b < 256 → r * 256 + b < 256 ^ (i + 1)
grow r i b h k = rw (add-one, pow-suc) (omega arith)

pub number_next : (at i : ℕ) (l : List ℕ) → number at (i + 1) l ≡ number at i l * 256 + get_or l (at + i) 0
unfolding number
number_next at i l = rw add-one refl

pub put_next : (at i v : ℕ) (l : List ℕ) → 0 < i → put at (i - 1) (v / 256) (set l (at + (i - 1)) (v % 256)) ≡ put at i v l
put_next at i v l h =
    let e : suc (i - 1) ≡ i = omega arith in
    sym (put_last at (i - 1) v l) ∙ ap (λ (k : ℕ). put at k v l) e

pub number_zero : (at : ℕ) (l : List ℕ) → 0 ≡ number at 0 l
unfolding number
number_zero at l = refl

pub put_zero : (at v : ℕ) (l : List ℕ) → put at 0 v l ≡ l
unfolding put spell
put_zero at v l = refl
