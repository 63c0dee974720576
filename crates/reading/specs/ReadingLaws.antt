-- Laws of reading, for callers and auditors: which bytes each answer is given for, both ways round, and what an answer says.
use Rattle.std.specs.Prelude.{ℕ, ◌≤◌, ◌≡◌, refl, Bool, true, false, cond, ◌||◌, not, List, length, ltb, eqb, Result, Ok, Err}
use Rattle.std.proofs.Common.{sym, ◌∙◌, ap, ltb-false, le-ltb, eqb-true, eq-eqb}
use Rattle.std.proofs.lemmas.Bool.{false≢true, not-false}
use Rattle.time.specs.declared.Time.{Time}
use Rattle.time.specs.Units.{time_of_wire, time_words, wire}
use Rattle.time.specs.WireLaws.{read_in}
use Rattle.wire.specs.declared.MessageType.{MessageType}
use Rattle.wire.specs.declared.Kind.{Kind}
use Rattle.wire.specs.declared.Kind.TheVariants as K
use Rattle.wire.specs.declared.Header.{Header}
use Rattle.wire.specs.declared.Body.{Body}
use Rattle.octets.specs.Bytes.{field_at, Bytes}
use Rattle.wire.specs.Layout.{row, header_of, body_of, type_of, timestamp_of, timestamp_at, body, low_half, minor_version_ptp_version_ptp, major_sdo_id_message_type, message_length}
use Rattle.reading.specs.Reading.{row4, row5, reserved, short_for, timed, message_of, decoded, read_of, kind_in, Reading}
use Rattle.reading.specs.Numbers.{number_of, kind_number}
use Rattle.octets.proofs.BytesLaws.{neither, apart, number_lt}
use Rattle.wire.proofs.LayoutLaws.{kind_number_lem, type_body, timestamp_body}
use Rattle.time.specs.declared.TimeError.{TimeError}
use Rattle.reading.specs.declared.Received.{Received}
use Rattle.reading.specs.declared.ReadError.{ReadError}

-- each timestamp of bytes is a time, so row 5 is all that makes bytes malformed (`malformed_is`)
pub timestamp_read : (at : ℕ) (l : List ℕ) → Bytes l → time_of_wire (timestamp_at at l) ≡ Ok (time_words (wire (timestamp_at at l)))
unfolding timestamp_at
timestamp_read at l b = read_in (timestamp_at at l) (number_lt at 6 l b)

-- ---- what the rows say of the bytes that they let through

pub record PastRow4 (l : List ℕ) : Type 0 where
  pub two_bytes : 2 ≤ length l
  pub version : low_half (field_at minor_version_ptp_version_ptp l) ≡ 2

pub past_row4 : (l : List ℕ) → row4 l ≡ false → PastRow4 l
unfolding row4
past_row4 l e =
    let v : Bool = eqb (low_half (field_at minor_version_ptp_version_ptp l)) 2 in
    let (a, b) = neither (ltb (length l) 2) (not v) e in
    record { two_bytes = ltb-false (length l) 2 a; version = eqb-true (low_half (field_at minor_version_ptp_version_ptp l)) 2 (not-false v b) }

pub row4_passed : (l : List ℕ) → PastRow4 l → row4 l ≡ false
unfolding row4
row4_passed l p = simp (le-ltb (length l) 2 p.two_bytes, eq-eqb (low_half (field_at minor_version_ptp_version_ptp l)) 2 p.version)

pub record PastRow5 (l : List ℕ) : Type 0 where
  pub header_there : 34 ≤ length l
  pub header_stated : 34 ≤ field_at message_length l
  pub stated_there : field_at message_length l ≤ length l
  pub a_type : reserved (kind_in l) ≡ false
  pub body_stated : short_for (kind_in l) (field_at message_length l) ≡ false

pub past_row5 : (l : List ℕ) → row5 l ≡ false → PastRow5 l
unfolding row5
past_row5 l e =
    let n : ℕ = length l in
    let s : ℕ = field_at message_length l in
    let lengths : Bool = ltb n 34 || (ltb s 34 || ltb n s) in
    let (p, f) = neither (lengths || reserved (kind_in l)) (short_for (kind_in l) s) e in
    let (q, d) = neither lengths (reserved (kind_in l)) p in
    let (a, r) = neither (ltb n 34) (ltb s 34 || ltb n s) q in
    let (b, c) = neither (ltb s 34) (ltb n s) r in
    record { header_there = ltb-false n 34 a; header_stated = ltb-false s 34 b; stated_there = ltb-false n s c; a_type = d; body_stated = f }

pub row5_passed : (l : List ℕ) → PastRow5 l → row5 l ≡ false
unfolding row5
row5_passed l p =
    let s : ℕ = field_at message_length l in
    simp (le-ltb (length l) 34 p.header_there, le-ltb s 34 p.header_stated, le-ltb (length l) s p.stated_there, p.a_type, p.body_stated)

-- ---- which of the three an answer came from

data Came (a b : Bool) (r x : Reading) : Type 0 where
  by_row4 : a ≡ true → x ≡ Err ReadError.Version → Came a b r x
  by_row5 : a ≡ false → b ≡ true → x ≡ Err ReadError.Malformed → Came a b r x
  by_type : a ≡ false → b ≡ false → r ≡ x → Came a b r x

came : (a b : Bool) (r x : Reading) → cond a (Err ReadError.Version) (cond b (Err ReadError.Malformed) r) ≡ x → Came a b r x
came true b r x e = by_row4 refl (sym e)
came false true r x e = by_row5 refl refl (sym e)
came false false r x e = by_type refl refl e

pub read_decoded : (l : List ℕ) → row4 l ≡ false → row5 l ≡ false → read_of l ≡ decoded (kind_in l) l
unfolding read_of
read_decoded l a b = simp (a, b)

-- ---- row 4

pub version_when : (l : List ℕ) → row4 l ≡ true → read_of l ≡ Err ReadError.Version
unfolding read_of
version_when l a = simp a

timed_not_version : (a : Result Time TimeError) (h : Header) (b : Body) → timed a h b ≡ Err ReadError.Version → ⊥
timed_not_version (Ok t) h b e = apart cc
timed_not_version (Err TimeError.OutOfRange) h b e = apart cc

not_version : (k : Kind) (l : List ℕ) → decoded k l ≡ Err ReadError.Version → ⊥
unfolding message_of
not_version (K.Table t) l e = timed_not_version (time_of_wire (timestamp_at body l)) (header_of l) (body_of t l) e
not_version K.Host l e = apart cc
not_version K.Reserved l e = apart cc

pub version_is : (l : List ℕ) → read_of l ≡ Err ReadError.Version → row4 l ≡ true
unfolding read_of
version_is l e = go (came (row4 l) (row5 l) (decoded (kind_in l) l) (Err ReadError.Version) e)
  where
    go : Came (row4 l) (row5 l) (decoded (kind_in l) l) (Err ReadError.Version) → row4 l ≡ true
    go (by_row4 a x) = a
    go (by_row5 a b x) = absurd (apart cc)
    go (by_type a b x) = absurd (not_version (kind_in l) l x)

-- ---- row 5

pub malformed_when : (l : List ℕ) → row4 l ≡ false → row5 l ≡ true → read_of l ≡ Err ReadError.Malformed
unfolding read_of
malformed_when l a b = simp (a, b)

not_malformed : (k : Kind) (l : List ℕ) → Bytes l → reserved k ≡ false → decoded k l ≡ Err ReadError.Malformed → ⊥
unfolding message_of
not_malformed (K.Table t) l b r e =
    let g : timed (Ok (time_words (wire (timestamp_at body l)))) (header_of l) (body_of t l) ≡ Err ReadError.Malformed = rw (timestamp_read body l b) at e in
    apart cc
not_malformed K.Host l b r e = apart cc
not_malformed K.Reserved l b r e = apart cc

pub malformed_is : (l : List ℕ) → Bytes l → read_of l ≡ Err ReadError.Malformed → (row4 l ≡ false) × (row5 l ≡ true)
unfolding read_of
malformed_is l bytes e = go (came (row4 l) (row5 l) (decoded (kind_in l) l) (Err ReadError.Malformed) e)
  where
    go : Came (row4 l) (row5 l) (decoded (kind_in l) l) (Err ReadError.Malformed) → (row4 l ≡ false) × (row5 l ≡ true)
    go (by_row4 a x) = absurd (apart cc)
    go (by_row5 a b x) = (a, b)
    go (by_type a b x) = absurd (not_malformed (kind_in l) l bytes (past_row5 l b).a_type x)

-- ---- the host's

pub record IsHost (l : List ℕ) (h : Header) : Type 0 where
  pub not_row4 : row4 l ≡ false
  pub not_row5 : row5 l ≡ false
  pub kind : kind_in l ≡ K.Host
  pub header_is : h ≡ header_of l

pub host_when : (l : List ℕ) → row4 l ≡ false → row5 l ≡ false → kind_in l ≡ K.Host → read_of l ≡ Ok (Received.Host (header_of l))
host_when l a b k = read_decoded l a b ∙ ap (λ (x : Kind). decoded x l) k

timed_not_host : (a : Result Time TimeError) (h : Header) (b : Body) (g : Header) → timed a h b ≡ Ok (Received.Host g) → ⊥
timed_not_host (Ok t) h b g e = apart cc
timed_not_host (Err TimeError.OutOfRange) h b g e = apart cc

decoded_host : (k : Kind) (l : List ℕ) (h : Header) → decoded k l ≡ Ok (Received.Host h) → (k ≡ K.Host) × (h ≡ header_of l)
unfolding message_of
decoded_host (K.Table t) l h e = absurd (timed_not_host (time_of_wire (timestamp_at body l)) (header_of l) (body_of t l) h e)
decoded_host K.Host l h e = (refl, cc)
decoded_host K.Reserved l h e = absurd (apart cc)

pub host_is : (l : List ℕ) (h : Header) → read_of l ≡ Ok (Received.Host h) → IsHost l h
unfolding read_of
host_is l h e = go (came (row4 l) (row5 l) (decoded (kind_in l) l) (Ok (Received.Host h)) e)
  where
    go : Came (row4 l) (row5 l) (decoded (kind_in l) l) (Ok (Received.Host h)) → IsHost l h
    go (by_row4 a x) = absurd (apart cc)
    go (by_row5 a b x) = absurd (apart cc)
    go (by_type a b x) =
        let (k, g) = decoded_host (kind_in l) l h x in
        record { not_row4 = a; not_row5 = b; kind = k; header_is = g }

-- ---- a message

pub record IsMessage (l : List ℕ) (h : Header) (b : Body) (t : Time) : Type 0 where
  pub not_row4 : row4 l ≡ false
  pub not_row5 : row5 l ≡ false
  pub kind : kind_in l ≡ K.Table (type_of b)
  pub header_is : h ≡ header_of l
  pub body_is : b ≡ body_of (type_of b) l
  pub time : time_of_wire (timestamp_of b) ≡ Ok t
  pub header_there : 34 ≤ length l
  pub body_stated : (row (type_of b)).length ≤ h.length
  pub stated_there : h.length ≤ length l
  pub version : h.version ≡ 2
  pub number : h.kind ≡ (row (type_of b)).number

-- where neither row refuses and the type is in the table: with the time of its timestamp, which bytes always have
pub message_when : (l : List ℕ) (m : MessageType) (t : Time) → row4 l ≡ false → row5 l ≡ false → kind_in l ≡ K.Table m → time_of_wire (timestamp_at body l) ≡ Ok t → read_of l ≡ Ok (Received.Message (header_of l) (body_of m l) t)
unfolding message_of
message_when l m t a b k e =
    read_decoded l a b ∙ ap (λ (x : Kind). decoded x l) k ∙ ap (λ (x : Result Time TimeError). timed x (header_of l) (body_of m l)) e

pub message_of_bytes : (l : List ℕ) (m : MessageType) → Bytes l → row4 l ≡ false → row5 l ≡ false → kind_in l ≡ K.Table m → read_of l ≡ Ok (Received.Message (header_of l) (body_of m l) (time_words (wire (timestamp_at body l))))
message_of_bytes l m bytes a b k = message_when l m (time_words (wire (timestamp_at body l))) a b k (timestamp_read body l bytes)

timed_message : (a : Result Time TimeError) (g h : Header) (c b : Body) (t : Time) → timed a g c ≡ Ok (Received.Message h b t) → (a ≡ Ok t) × (h ≡ g) × (b ≡ c)
timed_message (Ok s) g h c b t e = (cc, cc, cc)
timed_message (Err TimeError.OutOfRange) g h c b t e = absurd (apart cc)

decoded_message : (k : Kind) (l : List ℕ) (h : Header) (b : Body) (t : Time) → decoded k l ≡ Ok (Received.Message h b t) → (k ≡ K.Table (type_of b)) × (h ≡ header_of l) × (b ≡ body_of (type_of b) l) × (time_of_wire (timestamp_of b) ≡ Ok t)
unfolding message_of
decoded_message (K.Table m) l h b t e =
    let (v, g, c) = timed_message (time_of_wire (timestamp_at body l)) (header_of l) h (body_of m l) b t e in
    let same : m ≡ type_of b = sym (ap type_of c ∙ type_body m l) in
    let stamp : timestamp_of b ≡ timestamp_at body l = ap timestamp_of c ∙ timestamp_body m l in
    (ap K.Table same, g, c ∙ ap (λ (x : MessageType). body_of x l) same, ap time_of_wire stamp ∙ v)
decoded_message K.Host l h b t e = absurd (apart cc)
decoded_message K.Reserved l h b t e = absurd (apart cc)

pub message_is : (l : List ℕ) (h : Header) (b : Body) (t : Time) → read_of l ≡ Ok (Received.Message h b t) → IsMessage l h b t
unfolding read_of header_of
message_is l h b t e = go (came (row4 l) (row5 l) (decoded (kind_in l) l) (Ok (Received.Message h b t)) e)
  where
    go : Came (row4 l) (row5 l) (decoded (kind_in l) l) (Ok (Received.Message h b t)) → IsMessage l h b t
    go (by_row4 a x) = absurd (apart cc)
    go (by_row5 a b x) = absurd (apart cc)
    go (by_type p q x) =
        let (k, g, c, v) = decoded_message (kind_in l) l h b t x in
        let w : PastRow5 l = past_row5 l q in
        let stated : h.length ≡ field_at message_length l = ap (λ (y : Header). y.length) g in
        let least : short_for (K.Table (type_of b)) (field_at message_length l) ≡ false = rw k at w.body_stated in
        record {
          not_row4 = p;
          not_row5 = q;
          kind = k;
          header_is = g;
          body_is = c;
          time = v;
          header_there = w.header_there;
          body_stated = rw stated (ltb-false (field_at message_length l) (row (type_of b)).length least);
          stated_there = rw stated w.stated_there;
          version = ap (λ (y : Header). y.version) g ∙ (past_row4 l p).version;
          number = ap (λ (y : Header). y.kind) g ∙ kind_number_lem (low_half (field_at major_sdo_id_message_type l)) (type_of b) k;
        }

-- ---- the number that is answered, for any bytes

-- a type that row 5 lets through is one
not_reserved : (k : Kind) → k ≡ K.Reserved → reserved k ≡ false → ⊥
not_reserved k e r = false≢true (sym r ∙ ap reserved e)

module _ (l : List ℕ) (b : Bytes l) where
  past : row4 l ≡ false → row5 l ≡ false → (k : Kind) → kind_in l ≡ k → number_of (read_of l) ≡ kind_number k
  past p q (K.Table m) e = ap number_of (message_of_bytes l m b p q e)
  past p q K.Host e = ap number_of (host_when l p q e)
  past p q K.Reserved e = absurd (not_reserved (kind_in l) e (past_row5 l q).a_type)

  told : (v m : Bool) → row4 l ≡ v → row5 l ≡ m → number_of (read_of l) ≡ cond v 4 (cond m 5 (kind_number (kind_in l)))
  told true m p q = ap number_of (version_when l p)
  told false true p q = ap number_of (malformed_when l p q)
  told false false p q = past p q (kind_in l) refl

  pub number_is : number_of (read_of l) ≡ cond (row4 l) 4 (cond (row5 l) 5 (kind_number (kind_in l)))
  number_is = told (row4 l) (row5 l) refl refl
