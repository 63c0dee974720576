-- Numbers and fields on a page: what the functions of src/laying.rt rest on.
use Rattle.std.specs.Prelude.{ℕ, ◌≤◌, Bool, true, zero, suc, ◌/◌, ◌%◌, ◌^◌, ◌≡◌, refl, List, [], ◌∷◌, ◌++◌, length, Ok}
use Rattle.std.specs.Int.{byte_at, bytes_high_first}
use Rattle.std.proofs.Common.{sym, ◌∙◌, ap, pow-suc, mul_comm, length-append}
use Rattle.std.proofs.Math.Nat.{div-div-eq-div-mul}
use Rattle.octets.specs.Bytes.{spell}
use Rattle.octets.proofs.BytesLaws.{length-spell}
use Rattle.text.specs.Page.{Page, page, typed_one, typed}
use Rattle.text.specs.PageLaws.{typed_append}
use Rattle.recording.specs.Recording.{field_bytes, Appends}
use Rattle.recording.proofs.RecordingLaws.{appends}

-- a byte of v / 256 is the next one of v
next_byte : (i v : ℕ) → byte_at (suc i) v ≡ byte_at i (v / 256)
next_byte zero v = refl
next_byte (suc i) v = ap (λ (x : ℕ). x % 256) (ap (λ (k : ℕ). v / k) (pow-suc 256 (suc i) ∙ mul_comm (256 ^ suc i) 256) ∙ sym (div-div-eq-div-mul v 256 (256 ^ suc i)))

last_byte : (w v : ℕ) → bytes_high_first (suc w) v ≡ bytes_high_first w (v / 256) ++ (v % 256 ∷ [])
last_byte zero v = refl
last_byte (suc w) v = ap (λ (l : List ℕ). byte_at (suc w) v ∷ l) (last_byte w v) ∙ ap (λ (x : ℕ). x ∷ bytes_high_first w (v / 256) ++ (v % 256 ∷ [])) (next_byte w v)

-- a number in w bytes, big-endian, as the library has it
spelled : (w v : ℕ) → spell w v ≡ bytes_high_first w v
unfolding spell
spelled zero v = refl
spelled (suc w) v = ap (λ (l : List ℕ). l ++ (v % 256 ∷ [])) (spelled w (v / 256)) ∙ sym (last_byte w v)

pub typed_short : (p : Page) (v : ℕ) → typed p (spell 2 v) ≡ typed p (bytes_high_first 2 v)
typed_short p v = ap (typed p) (spelled 2 v)

pub typed_long : (p : Page) (v : ℕ) → typed p (spell 8 v) ≡ typed p (bytes_high_first 8 v)
typed_long p v = ap (typed p) (spelled 8 v)

-- tag and length, and behind them the value
pub typed_field : (p : Page) (tag : ℕ) (v : List ℕ) → typed p (field_bytes tag v) ≡ typed (typed (typed_one p tag) (spell 2 (length v))) v
unfolding field_bytes
typed_field p tag v = typed_append (typed_one p tag) (spell 2 (length v)) v

pub length_spelled : (w v : ℕ) → length (spell w v) ≡ w
length_spelled = length-spell

pub length_asked : (id clock port : ℕ) → length (spell 2 id ++ (spell 8 clock ++ spell 2 port)) ≡ 12
length_asked id clock port = simp (length-append, length-spell)

-- what is answered where there is room: the bytes stand in front, and behind them what lay there
pub appends_typed : (fits : Bool) (w d e : List ℕ) (k n : ℕ) → fits ≡ true → length w ≡ n → n ≤ length d
    → page e k ≡ typed (page d 0) w → Appends fits w d (Ok n) e
appends_typed fits w d e k n f s h t = appends w d n s fits f h (record { text = t })
