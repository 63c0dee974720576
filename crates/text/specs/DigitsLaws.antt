-- Laws of digits: how many there are, and how the last one is told from the others.
use Rattle.std.specs.Prelude.{ℕ, zero, suc, ◌+◌, ◌*◌, ◌-◌, ◌/◌, ◌%◌, ◌≤◌, ◌<◌, ◌≡◌, refl, Bool, true, false, cond, List, [], ◌∷◌, ◌++◌, length, get_or, set, drop, ltb}
use Rattle.std.proofs.Common.{sym, ◌∙◌, ap, arith, add-zero, zero-add, add-one, lt-ltb, le-ltb, ltb-true, length-append, drop_of_length-le, drop-cons}
use Rattle.std.proofs.lemmas.List.Edits.{sets}
use Rattle.text.specs.Ascii.{ascii}
use Rattle.text.specs.Digits.{decimal_in, hex_in, hex_of, glyph_of}
use Rattle.text.specs.Laying.{last_in, glyphs}
use Rattle.text.specs.Page.{Page, page, typed, Wrote}
use Rattle.text.specs.PageLaws.{typed_append, wrote_then, wrote_as, wrote_laid, sets_last}

pub length_hex : (k n : ℕ) → length (hex_in k n) ≡ k
unfolding hex_in
length_hex zero n = refl
length_hex (suc k) n = length-append (hex_in k (n / 16)) (glyph_of (n % 16) ∷ []) ∙ omega (arith, length_hex k (n / 16))

pub length-hex_of : (s : List ℕ) → length (hex_of s) ≡ 2 * length s
unfolding hex_of
length-hex_of [] = refl
length-hex_of (b ∷ s) = length-append (hex_in 2 b) (hex_of s) ∙ omega (arith, length_hex 2 b, length-hex_of s)

pub length_decimal : (k n : ℕ) → length (decimal_in k n) ≤ k
unfolding decimal_in
length_decimal zero n = omega arith
length_decimal (suc k) n = by (ltb n 10) (length_decimal k (n / 10))
  where
    by : (b : Bool) → length (decimal_in k (n / 10)) ≤ k → length (cond b ((48 + n) ∷ []) (decimal_in k (n / 10) ++ ((48 + n % 10) ∷ []))) ≤ suc k
    by true h = omega arith
    by false h = omega (arith, length-append (decimal_in k (n / 10)) ((48 + n % 10) ∷ []))

pub length_last : (k n : ℕ) → length (last_in k n) ≡ k
unfolding last_in
length_last zero n = refl
length_last (suc k) n = length-append (last_in k (n / 10)) ((48 + n % 10) ∷ []) ∙ omega (arith, length_last k (n / 10))

-- digit before digit: what is left to lay is one shorter
one_less : (l w : List ℕ) (at i j x : ℕ) → length w ≡ j → i ≡ j → sets (set l (at + i) x) at w ≡ sets l at (w ++ (x ∷ []))
one_less l w at i j x n e = ap (λ (k : ℕ). sets (set l (at + k) x) at w) (e ∙ sym n) ∙ sets_last l w at x

-- digits of any base b: g k n are the last k digits of n, and d n is the last one
module _ (g : ℕ → ℕ → List ℕ) (b : ℕ) (d : ℕ → ℕ) (none : (n : ℕ) → g 0 n ≡ []) (one : (k n : ℕ) → g (suc k) n ≡ g k (n / b) ++ (d n ∷ [])) (many : (k n : ℕ) → length (g k n) ≡ k) where
  next : (at i m x : ℕ) (l : List ℕ) → 0 < i → x ≡ d m → sets (set l (at + (i - 1)) x) at (g (i - 1) (m / b)) ≡ sets l at (g i m)
  next at zero m x l h e = absurd (omega (arith, h))
  next at (suc i) m x l h e =
      let s : suc i - 1 ≡ i = omega arith in
      ap (λ (k : ℕ). sets (set l (at + (suc i - 1)) x) at (g k (m / b))) s
      ∙ one_less l (g i (m / b)) at (suc i - 1) i x (many i (m / b)) s
      ∙ ap (λ (y : ℕ). sets l at (g i (m / b) ++ (y ∷ []))) e
      ∙ ap (sets l at) (sym (one i m))

  laid : (at i m : ℕ) (l r : List ℕ) → i ≡ 0 → sets l at (g i m) ≡ r → l ≡ r
  laid at i m l r h p = sym (ap (λ (k : ℕ). sets l at (g k m)) h ∙ ap (sets l at) (none m)) ∙ p

pub hex_next : (at i m x : ℕ) (l : List ℕ) → 0 < i → x ≡ glyph_of (m % 16) → sets (set l (at + (i - 1)) x) at (hex_in (i - 1) (m / 16)) ≡ sets l at (hex_in i m)
unfolding hex_in
hex_next = next hex_in 16 (λ m. glyph_of (m % 16)) (λ n. refl) (λ k n. refl) length_hex

pub last_next : (at i m x : ℕ) (l : List ℕ) → 0 < i → x ≡ 48 + m % 10 → sets (set l (at + (i - 1)) x) at (last_in (i - 1) (m / 10)) ≡ sets l at (last_in i m)
unfolding last_in
last_next = next last_in 10 (λ m. 48 + m % 10) (λ n. refl) (λ k n. refl) length_last

pub hex_laid : (at i m : ℕ) (l r : List ℕ) → i ≡ 0 → sets l at (hex_in i m) ≡ r → l ≡ r
unfolding hex_in
hex_laid = laid hex_in 16 (λ m. glyph_of (m % 16)) (λ n. refl) (λ k n. refl) length_hex

pub last_laid : (at i m : ℕ) (l r : List ℕ) → i ≡ 0 → sets l at (last_in i m) ≡ r → l ≡ r
unfolding last_in
last_laid = laid last_in 10 (λ m. 48 + m % 10) (λ n. refl) (λ k n. refl) length_last

-- the table that a digit is looked up in
pub glyph_at : (n i k : ℕ) → k < n → get_or (glyphs i n) k 0 ≡ glyph_of (i + k)
unfolding glyphs
glyph_at zero i k h = absurd (omega (arith, h))
glyph_at (suc n) i zero h = ap glyph_of (sym (add-zero i))
glyph_at (suc n) i (suc k) h = glyph_at n (suc i) k (omega (arith, h)) ∙ ap glyph_of (omega arith)

the_table : ascii "0123456789abcdef" ≡ glyphs 0 16
unfolding glyphs glyph_of
the_table = refl

pub looked_up : (d : ℕ) → d < 16 → get_or (ascii "0123456789abcdef") d 0 ≡ glyph_of d
looked_up d h = ap (λ (l : List ℕ). get_or l d 0) the_table ∙ glyph_at 16 0 d h ∙ ap glyph_of (zero-add d)

-- a number's own digits are its last ones, if there are as many
pub decimal_last : (k n : ℕ) → last_in (length (decimal_in k n)) n ≡ decimal_in k n
unfolding decimal_in last_in
decimal_last zero n = refl
decimal_last (suc k) n = by (ltb n 10) refl (decimal_last k (n / 10))
  where
    by : (b : Bool) → ltb n 10 ≡ b → last_in (length (decimal_in k (n / 10))) (n / 10) ≡ decimal_in k (n / 10)
        → last_in (length (cond b ((48 + n) ∷ []) (decimal_in k (n / 10) ++ ((48 + n % 10) ∷ [])))) n
        ≡ cond b ((48 + n) ∷ []) (decimal_in k (n / 10) ++ ((48 + n % 10) ∷ []))
    by true h p =
        let small : n < 10 = ltb-true n 10 h in
        let same : 48 + n % 10 ≡ 48 + n = omega arith in
        ap (λ (x : ℕ). x ∷ []) same
    by false h p =
        let more : length (decimal_in k (n / 10) ++ ((48 + n % 10) ∷ [])) ≡ suc (length (decimal_in k (n / 10)))
        = length-append (decimal_in k (n / 10)) ((48 + n % 10) ∷ []) ∙ add-one (length (decimal_in k (n / 10))) in
        ap (λ (j : ℕ). last_in j n) more ∙ ap (λ (l : List ℕ). l ++ ((48 + n % 10) ∷ [])) p

-- digits that were laid where there is room for them
pub hex_wrote : {d e : List ℕ} {at : ℕ} (k n : ℕ) → at + k ≤ length d → e ≡ sets d at (hex_in k n) → Wrote d at (hex_in k n) e (at + k)
hex_wrote k n h x = wrote_laid (hex_in k n) (omega (arith, length_hex k n)) x (omega (arith, length_hex k n))

pub decimal_wrote : {d e : List ℕ} {at : ℕ} (k n w : ℕ) → w ≡ length (decimal_in k n) → at + w ≤ length d → e ≡ sets d at (last_in w n)
    → Wrote d at (decimal_in k n) e (at + w)
decimal_wrote {d} {e} {at} k n w s h x =
    let same : last_in w n ≡ decimal_in k n = ap (λ (j : ℕ). last_in j n) s ∙ decimal_last k n in
    wrote_laid (decimal_in k n) (omega (arith, s)) (x ∙ ap (λ (l : List ℕ). sets d at l) same) (omega (arith, s))

pub width_one : (k n : ℕ) → (k ≡ 0 → ⊥) → n < 10 → 1 ≡ length (decimal_in k n)
unfolding decimal_in
width_one zero n h l = absurd (h refl)
width_one (suc k) n h l = simp (lt-ltb n 10 l)

pub width_more : (k n : ℕ) → (k ≡ 0 → ⊥) → 10 ≤ n → length (decimal_in (k - 1) (n / 10)) + 1 ≡ length (decimal_in k n)
unfolding decimal_in
width_more zero n h l = absurd (h refl)
width_more (suc k) n h l =
    let j : suc k - 1 ≡ k = omega arith in
    ap (λ (i : ℕ). length (decimal_in i (n / 10)) + 1) j ∙ sym (length-append (decimal_in k (n / 10)) ((48 + n % 10) ∷ []))
    ∙ simp (le-ltb n 10 l)

pub hex_none : (k n : ℕ) → k ≡ 0 → [] ≡ hex_in k n
unfolding hex_in
hex_none k n h = rw h refl

-- the digits before the last are those of n / 16
pub hex_more : {d : List ℕ} {at : ℕ} {e : List ℕ} {i g : ℕ} {f : List ℕ} {m : ℕ} (k n j q : ℕ)
    → Wrote d at (hex_in j q) e i → Wrote e i (g ∷ []) f m
    → (k ≡ 0 → ⊥) → j ≡ k - 1 → q ≡ n / 16 → g ≡ glyph_of (n % 16) → Wrote d at (hex_in k n) f m
unfolding hex_in
hex_more zero n j q a b h x y z = absurd (h refl)
hex_more {g = g} (suc k) n j q a b h x y z =
    let before : j ≡ k = omega (arith, x) in
    wrote_as (ap (λ (l : List ℕ). l ++ (g ∷ [])) (ap (λ (i : ℕ). hex_in i q) before ∙ ap (λ (i : ℕ). hex_in k i) y) ∙ ap (λ (c : ℕ). hex_in k (n / 16) ++ (c ∷ [])) z) (wrote_then a b)

pub decimal_none : (k n : ℕ) → k ≡ 0 → [] ≡ decimal_in k n
unfolding decimal_in
decimal_none k n h = rw h refl

pub decimal_one : (k n g : ℕ) → (k ≡ 0 → ⊥) → n < 10 → g ≡ 48 + n % 10 → g ∷ [] ≡ decimal_in k n
unfolding decimal_in
decimal_one zero n g h l e = absurd (h refl)
decimal_one (suc k) n g h l e = let last : g ≡ 48 + n = omega (arith, e) in simp (lt-ltb n 10 l, last)

pub decimal_more : (k n g : ℕ) → (k ≡ 0 → ⊥) → 10 ≤ n → g ≡ 48 + n % 10 → decimal_in (k - 1) (n / 10) ++ (g ∷ []) ≡ decimal_in k n
unfolding decimal_in
decimal_more zero n g h l e = absurd (h refl)
decimal_more (suc k) n g h l e =
    let j : suc k - 1 ≡ k = omega arith in
    simp (le-ltb n 10 l, e) (ap (λ (i : ℕ). decimal_in i (n / 10) ++ ((48 + n % 10) ∷ [])) j)

-- byte after byte: what is left of s is one shorter
pub hex_of_next : {d : List ℕ} {to x : ℕ} {e : List ℕ} {k : ℕ} (s : List ℕ) (i : ℕ)
    → i < length s → x ≡ get_or s i 0 → Wrote d to (hex_in 2 x) e k
    → typed (page e k) (hex_of (drop (i + 1) s)) ≡ typed (page d to) (hex_of (drop i s))
unfolding hex_of
hex_of_next {d} {to} {x} {e} {k} s i h g p =
    let rest : hex_in 2 x ++ hex_of (drop (i + 1) s) ≡ hex_of (drop i s)
    = ap (λ (n : ℕ). hex_of (x ∷ drop n s)) (add-one i) ∙ ap (λ (y : ℕ). hex_of (y ∷ drop (suc i) s)) g ∙ sym (ap hex_of (drop-cons s i 0 h)) in
    ap (λ (q : Page). typed q (hex_of (drop (i + 1) s))) p.text ∙ sym (typed_append (page d to) (hex_in 2 x) (hex_of (drop (i + 1) s)))
    ∙ ap (λ (l : List ℕ). typed (page d to) l) rest

-- at the end of s nothing is left
pub hex_of_done : {d : List ℕ} {at : ℕ} {e : List ℕ} {k : ℕ} (s : List ℕ) (i : ℕ)
    → length s ≤ i → typed (page e k) (hex_of (drop i s)) ≡ typed (page d at) (hex_of s) → Wrote d at (hex_of s) e k
unfolding hex_of
hex_of_done {d} {at} {e} {k} s i h p = record { text = sym (ap (λ (l : List ℕ). typed (page e k) (hex_of l)) (drop_of_length-le s h)) ∙ p }
