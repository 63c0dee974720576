-- Digits in any base, laid from the last one on: what the loops keep, and that they are those of `Digits`.
use Rattle.std.specs.Prelude.{ℕ, zero, suc, ◌+◌, ◌*◌, ◌-◌, ◌/◌, ◌%◌, ◌^◌, ◌≤◌, ◌<◌, ◌≡◌, refl, List, [], ◌∷◌, ◌++◌, length, get_or, set, take, drop}
use Rattle.std.proofs.Common.{sym, ◌∙◌, ap, arith, add-one, pow-suc, lt-ltb, le-ltb, length-append, length-set, length-take, length-drop, append_assoc, append-nil, take-suc}
use Rattle.std.proofs.lemmas.List.Edits.{sets, sets-eq}
use Rattle.std.proofs.lemmas.List.{drop-set, drop-drop}
use Rattle.std.proofs.lemmas.Bool.Decides.{nat_tests}
use Rattle.text.specs.Digits.{decimal_in, decimal_of, hex_in, hex_of, glyph_of}
use Rattle.text.specs.Laying.{last_in, digits_in}
use Rattle.text.specs.Page.{Page, page, typed_one, typed}
use Rattle.text.specs.PageLaws.{typed-sets, wrote_byte, wrote_then}
use Rattle.text.specs.DigitsLaws.{decimal_last}

pub length_digits : (b k n : ℕ) → length (digits_in b k n) ≡ k
unfolding digits_in
length_digits b zero n = refl
length_digits b (suc k) n = length-append (digits_in b k (n / b)) (glyph_of (n % b) ∷ []) ∙ omega (arith, length_digits b k (n / b))

-- what is left to lay is one shorter, and in the end nothing
pub digits_next : (b i m x : ℕ) (l : List ℕ) → 0 < i → i ≤ length l → x ≡ glyph_of (m % b)
    → digits_in b (i - 1) (m / b) ++ drop (i - 1) (set l (i - 1) x) ≡ digits_in b i m ++ drop i l
unfolding digits_in
digits_next b zero m x l h k e = absurd (omega (arith, h))
digits_next b (suc i) m x l h k e =
    let s : suc i - 1 ≡ i = omega arith in
    let one : drop i (set l i x) ≡ x ∷ drop (i + 1) l = drop-set l i x (omega (arith, k)) in
    let last : x ∷ drop (i + 1) l ≡ glyph_of (m % b) ∷ drop (suc i) l = ap (λ (y : ℕ). y ∷ drop (i + 1) l) e ∙ ap (λ (j : ℕ). glyph_of (m % b) ∷ drop j l) (add-one i) in
    ap (λ (j : ℕ). digits_in b j (m / b) ++ drop j (set l j x)) s
    ∙ ap (λ (t : List ℕ). digits_in b i (m / b) ++ t) (one ∙ last)
    ∙ sym (append_assoc (digits_in b i (m / b)) (glyph_of (m % b) ∷ []) (drop (suc i) l))

pub digits_laid : (b m : ℕ) (l : List ℕ) → digits_in b 0 m ++ drop 0 l ≡ l
unfolding digits_in
digits_laid b m l = refl

-- on a page that is full nothing more is written
pub typed_full : (p : Page) (w : List ℕ) → length p.bytes ≤ p.at → typed p w ≡ p
unfolding typed_one
typed_full p [] h = refl
typed_full p (x ∷ w) h = simp (le-ltb p.at (length p.bytes) h) (typed_full p w h)

one_on : (p : Page) (x n : ℕ) → length p.bytes ≤ p.at + (n + 1) → length (typed_one p x).bytes ≤ (typed_one p x).at + n
unfolding typed_one
one_on p x n h = grind (arith, nat_tests, length-set {A = ℕ})

typed_cut : (p : Page) (w v : List ℕ) → length p.bytes ≤ p.at + length w → typed p (w ++ v) ≡ typed p w
typed_cut p [] v h = typed_full p v (omega arith)
typed_cut p (x ∷ w) v h = typed_cut (typed_one p x) w v (one_on p x (length w) (omega arith))

-- where the last digit has no room, the others are written all the same
pub digits_cut : (p : Page) (b i m : ℕ) → 0 < i → length p.bytes ≤ p.at + (i - 1) → typed p (digits_in b i m) ≡ typed p (digits_in b (i - 1) (m / b))
unfolding digits_in
digits_cut p b zero m h l = absurd (omega (arith, h))
digits_cut p b (suc j) m h l =
    let s : suc j - 1 ≡ j = omega arith in
    rw s (typed_cut p (digits_in b j (m / b)) (glyph_of (m % b) ∷ []) (omega (arith, l, length_digits b j (m / b))))

-- digits laid in the part of a buffer that has room for them
pub digits_fit : (d o : List ℕ) (at b k m : ℕ) → at + k ≤ length d → o ≡ digits_in b (length (take ((at + k) - at) (drop at d))) m
    → page (take at d ++ (o ++ drop ((at + k) - at) (drop at d))) (at + k) ≡ typed (page d at) (digits_in b k m)
digits_fit d o at b k m h e =
    let w = digits_in b k m in
    let n : length w ≡ k = length_digits b k m in
    let fits : at + length w ≤ length d = omega (arith, h, n) in
    let s : (at + k) - at ≡ k = omega arith in
    let long : length (take k (drop at d)) ≡ k = omega (arith, length-take k (drop at d), length-drop at d) in
    let all : o ≡ w = e ∙ ap (λ (j : ℕ). digits_in b (length (take j (drop at d))) m) s ∙ ap (λ (j : ℕ). digits_in b j m) long in
    let behind : drop ((at + k) - at) (drop at d) ≡ drop (at + length w) d = ap (λ (j : ℕ). drop j (drop at d)) s ∙ drop-drop k at d ∙ ap (λ (j : ℕ). drop j d) (omega arith) in
    ap (λ (l : List ℕ). page (take at d ++ (l ++ drop ((at + k) - at) (drop at d))) (at + k)) all
    ∙ ap (λ (l : List ℕ). page (take at d ++ (w ++ l)) (at + k)) behind
    ∙ ap (λ (l : List ℕ). page l (at + k)) (sym (sets-eq w d at fits ∙ append_assoc (take at d) w (drop (at + length w) d)))
    ∙ ap (λ (i : ℕ). page (sets d at w) (at + i)) (sym n)
    ∙ sym (typed-sets w d at fits)

pub hex_digits : (k n : ℕ) → digits_in 16 k n ≡ hex_in k n
unfolding digits_in hex_in
hex_digits zero n = refl
hex_digits (suc k) n = ap (λ (l : List ℕ). l ++ (glyph_of (n % 16) ∷ [])) (hex_digits k (n / 16))

last_digits : (k n : ℕ) → digits_in 10 k n ≡ last_in k n
unfolding digits_in last_in glyph_of
last_digits zero n = refl
last_digits (suc k) n =
    let small : n % 10 < 10 = omega arith in
    simp (lt-ltb (n % 10) 10 small) (ap (λ (l : List ℕ). l ++ ((48 + n % 10) ∷ [])) (last_digits k (n / 10)))

pub decimal_one : (n : ℕ) → n < 10 → decimal_of n ≡ (48 + n) ∷ []
unfolding decimal_in
decimal_one n h = simp (lt-ltb n 10 h)

ten_power : (k : ℕ) → 0 < 10 ^ k
ten_power zero = omega arith
ten_power (suc k) = let one = ten_power k in rw pow-suc (omega arith)

-- a number between two powers of ten
width_of : (f k n : ℕ) → k < f → 10 ^ k ≤ n → n < 10 * 10 ^ k → length (decimal_in f n) ≡ k + 1
unfolding decimal_in
width_of zero k n h l g = absurd (omega (arith, h))
width_of (suc f) zero n h l g = simp (lt-ltb n 10 g)
width_of (suc f) (suc k) n h l g =
    let p : 10 ^ k * 10 ≤ n = rw pow-suc at l in
    let q : n < 10 * (10 ^ k * 10) = rw pow-suc at g in
    let one : 0 < 10 ^ k = ten_power k in
    let many : 10 ≤ n = omega arith in
    let rest = width_of f k (n / 10) (omega arith) (omega arith) (omega arith) in
    simp (le-ltb n 10 many) (omega (arith, rest, length-append (decimal_in f (n / 10)) ((48 + n % 10) ∷ [])))

pub decimal_many : (k n : ℕ) → k < 20 → 10 ^ k ≤ n → n < 10 * 10 ^ k → digits_in 10 (k + 1) n ≡ decimal_of n
decimal_many k n h l g =
    let w : length (decimal_of n) ≡ k + 1 = width_of 20 k n h l g in
    ap (λ (j : ℕ). digits_in 10 j n) (sym w) ∙ last_digits (length (decimal_of n)) n ∙ decimal_last 20 n

-- bytes, one after another
hex_of_append : (a b : List ℕ) → hex_of (a ++ b) ≡ hex_of a ++ hex_of b
unfolding hex_of
hex_of_append [] b = refl
hex_of_append (x ∷ a) b = ap (λ (l : List ℕ). hex_in 2 x ++ l) (hex_of_append a b) ∙ sym (append_assoc (hex_in 2 x) (hex_of a) (hex_of b))

pub hex_of_more : (s : List ℕ) (i : ℕ) → i < length s → hex_of (take (i + 1) s) ≡ hex_of (take i s) ++ hex_in 2 (get_or s i 0)
unfolding hex_of
hex_of_more s i h = rw (add-one, take-suc s i 0 h, hex_of_append, append-nil) refl

-- a byte has two digits
pub hex_two : (x : ℕ) → x < 256 → hex_in 2 x ≡ glyph_of (x / 16) ∷ (glyph_of (x % 16) ∷ [])
unfolding hex_in
hex_two x h =
    let high : x / 16 % 16 ≡ x / 16 = omega arith in
    ap (λ (d : ℕ). glyph_of d ∷ (glyph_of (x % 16) ∷ [])) high

-- two bytes that both have room
pub typed_two : (d : List ℕ) (at x y : ℕ) → at + 1 < length d → page (set (set d at x) (at + 1) y) (at + 2) ≡ typed (page d at) (x ∷ (y ∷ []))
typed_two d at x y h =
    let first = wrote_byte d at x (omega arith) in
    let second = wrote_byte (set d at x) (at + 1) y (omega (arith, length-set d at x)) in
    ap (λ (k : ℕ). page (set (set d at x) (at + 1) y) k) (omega arith) ∙ (wrote_then first second).text
