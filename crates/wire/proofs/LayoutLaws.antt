-- Laws of the layout: each table fills its part of a message without gap or overlap, and each message has the length of its row.
use Rattle.std.specs.Prelude.{ℕ, ◌+◌, ◌/◌, ◌≤◌, ◌<◌, ◌≡◌, refl, Bool, true, false, cond, List, [], ◌∷◌, ◌++◌, length, take, drop, eqb}
use Rattle.std.proofs.Common.{sym, ◌∙◌, ap, arith, length-append, lit<, lit≤, eq-eqb, eqb-true}
use Rattle.wire.specs.declared.Header.{Header}
use Rattle.wire.specs.declared.MessageType.{MessageType}
use Rattle.wire.specs.declared.MessageType.TheVariants as M
use Rattle.wire.specs.declared.Kind.{Kind}
use Rattle.wire.specs.declared.Kind.TheVariants as K
use Rattle.wire.specs.declared.Body.{Body}
use Rattle.wire.specs.declared.Body.TheVariants as B
use Rattle.wire.specs.declared.Rest.{Rest}
use Rattle.wire.specs.declared.Rest.TheVariants as Q
use Rattle.octets.specs.Bytes.{puts, bytes_of, size_of, tiles, Bytes, number}
use Rattle.wire.specs.Layout.{header_entries, timestamp_entries, identity_entries, rest_entries, rest_in, body_entries, row, named, kind_of, type_of, body_of, timestamp_of, timestamp_at, body, message_entries, message_bytes, header_of, identity_at}
use Rattle.octets.proofs.BytesLaws.{apart, written, puts_append, length-bytes_of, bytes_of_append, number_lt}
use Rattle.wire.specs.LayoutLaws.{RowBounds, InWidths, HeaderWidths}

-- ---- the header

-- its first seven entries, and then the others: the two halves that code writes
pub header_written : (h : Header) (c : ℕ) (l : List ℕ) → 34 ≤ length l → puts (drop 7 (header_entries h c)) (puts (take 7 (header_entries h c)) l) ≡ bytes_of (header_entries h c) ++ drop 34 l
unfolding tiles size_of header_entries identity_entries
header_written h c l n =
    sym (puts_append (take 7 (header_entries h c)) (drop 7 (header_entries h c)) l) ∙ written (header_entries h c) l refl n

pub length_header : (h : Header) (c : ℕ) → length (bytes_of (header_entries h c)) ≡ 34
unfolding size_of header_entries identity_entries
length_header h c = length-bytes_of (header_entries h c)

-- ---- the bodies, which stand the same wherever they start

rest_tiles : (at : ℕ) (q : Rest) → tiles at (rest_entries at q) ≡ true
unfolding tiles identity_entries
rest_tiles at Q.Nothing = refl
rest_tiles at Q.Reserved = simp (eq-eqb at at refl)
rest_tiles at (Q.Requester i) = simp (eq-eqb at at refl, eq-eqb (at + 8) (at + 8) refl)

pub body_tiles : (at : ℕ) (b : Body) → tiles at (body_entries at b) ≡ true
unfolding tiles body_entries timestamp_entries
body_tiles at b =
    let e : at + 6 + 4 ≡ at + 10 = omega arith in
    simp (eq-eqb at at refl, eq-eqb (at + 6) (at + 6) refl, e, rest_tiles (at + 10) (rest_in b))

rest_bytes : (at : ℕ) (q : Rest) → bytes_of (rest_entries at q) ≡ bytes_of (rest_entries 10 q)
unfolding identity_entries bytes_of
rest_bytes at Q.Nothing = refl
rest_bytes at Q.Reserved = refl
rest_bytes at (Q.Requester i) = refl

pub body_bytes : (at : ℕ) (b : Body) → bytes_of (body_entries at b) ≡ bytes_of (body_entries 0 b)
unfolding body_entries timestamp_entries bytes_of
body_bytes at b = simp (rest_bytes (at + 10) (rest_in b))

pub body_size : (at : ℕ) (b : Body) → size_of (body_entries at b) + 34 ≡ (row (type_of b)).length
unfolding body_entries timestamp_entries identity_entries size_of
body_size at (B.Sync t) = refl
body_size at (B.DelayReq t) = refl
body_size at (B.PDelayReq t) = refl
body_size at (B.PDelayResp t i) = refl
body_size at (B.FollowUp t) = refl
body_size at (B.DelayResp t i) = refl
body_size at (B.PDelayRespFollowUp t i) = refl

-- the timestamp has ten bytes, and the rest what is left
pub rest_room : (b : Body) (q : Rest) → rest_in b ≡ q → size_of (body_entries 0 b) ≡ 10 + size_of (rest_entries 10 q)
unfolding body_entries timestamp_entries size_of
rest_room b q e = omega (arith, ap (λ (x : Rest). size_of (rest_entries 10 x)) e)

pub body_written : (b : Body) (l : List ℕ) → size_of (body_entries 0 b) ≤ length l → puts (body_entries 0 b) l ≡ bytes_of (body_entries 0 b) ++ drop (size_of (body_entries 0 b)) l
body_written b l n = written (body_entries 0 b) l (body_tiles 0 b) n

-- ---- the whole message

pub message_tiles : (h : Header) (b : Body) → tiles 0 (message_entries h b) ≡ true
unfolding message_entries header_entries identity_entries tiles
message_tiles h b = body_tiles body b

pub head_then_body : (h : Header) (b : Body) → message_bytes h b ≡ bytes_of (header_entries h (row (type_of b)).control) ++ bytes_of (body_entries 0 b)
unfolding message_bytes message_entries
head_then_body h b =
    let c : ℕ = (row (type_of b)).control in
    bytes_of_append (header_entries h c) (body_entries body b) ∙ ap (λ (x : List ℕ). bytes_of (header_entries h c) ++ x) (body_bytes body b)

pub length_message : (h : Header) (b : Body) → length (message_bytes h b) ≡ (row (type_of b)).length
length_message h b =
    let n : length (bytes_of (body_entries 0 b)) ≡ size_of (body_entries 0 b) = length-bytes_of (body_entries 0 b) in
    ap length (head_then_body h b) ∙ length-append (bytes_of (header_entries h (row (type_of b)).control)) (bytes_of (body_entries 0 b))
    ∙ omega (arith, length_header h (row (type_of b)).control, n, body_size 0 b)

-- ---- the types

pub row_bounds : (t : MessageType) → RowBounds t
row_bounds M.Sync = record { number = lit< tt; control = lit< tt; length = lit< tt; stamped = lit≤ tt }
row_bounds M.DelayReq = record { number = lit< tt; control = lit< tt; length = lit< tt; stamped = lit≤ tt }
row_bounds M.PDelayReq = record { number = lit< tt; control = lit< tt; length = lit< tt; stamped = lit≤ tt }
row_bounds M.PDelayResp = record { number = lit< tt; control = lit< tt; length = lit< tt; stamped = lit≤ tt }
row_bounds M.FollowUp = record { number = lit< tt; control = lit< tt; length = lit< tt; stamped = lit≤ tt }
row_bounds M.DelayResp = record { number = lit< tt; control = lit< tt; length = lit< tt; stamped = lit≤ tt }
row_bounds M.PDelayRespFollowUp = record { number = lit< tt; control = lit< tt; length = lit< tt; stamped = lit≤ tt }

pub number_kind : (t : MessageType) → kind_of (row t).number ≡ K.Table t
unfolding kind_of
number_kind M.Sync = refl
number_kind M.DelayReq = refl
number_kind M.PDelayReq = refl
number_kind M.PDelayResp = refl
number_kind M.FollowUp = refl
number_kind M.DelayResp = refl
number_kind M.PDelayRespFollowUp = refl

picked : (q : Bool) (k : ℕ) (s t : MessageType) (other : Kind) → (q ≡ true → k ≡ (row s).number) → (other ≡ K.Table t → k ≡ (row t).number) → cond q (K.Table s) other ≡ K.Table t → k ≡ (row t).number
picked true k s t other f g e =
    let same : s ≡ t = cc in
    f refl ∙ ap (λ (x : MessageType). (row x).number) same
picked false k s t other f g e = g e

named-number : (ts : List MessageType) (k : ℕ) (none : Kind) (t : MessageType) → (none ≡ K.Table t → ⊥) → named ts k none ≡ K.Table t → k ≡ (row t).number
named-number [] k none t n e = absurd (n e)
named-number (s ∷ ts) k none t n e =
    picked (eqb k (row s).number) k s t (named ts k none) (eqb-true k (row s).number) (named-number ts k none t n) e

host_not : (q : Bool) (other : Kind) (t : MessageType) → (other ≡ K.Table t → ⊥) → cond q K.Host other ≡ K.Table t → ⊥
host_not true other t n e = apart cc
host_not false other t n e = n e

reserved_not : (t : MessageType) → K.Reserved ≡ K.Table t → ⊥
reserved_not t e = apart cc

pub kind_number_lem : (k : ℕ) (t : MessageType) → kind_of k ≡ K.Table t → k ≡ (row t).number
unfolding kind_of
kind_number_lem k t e =
    named-number (M.Sync ∷ M.DelayReq ∷ M.PDelayReq ∷ M.PDelayResp ∷ M.FollowUp ∷ M.DelayResp ∷ M.PDelayRespFollowUp ∷ []) k _ t
    (host_not (eqb k 11) _ t (host_not (eqb k 12) _ t (host_not (eqb k 13) _ t (reserved_not t)))) e

pub type_body : (t : MessageType) (l : List ℕ) → type_of (body_of t l) ≡ t
unfolding body_of
type_body M.Sync l = refl
type_body M.DelayReq l = refl
type_body M.PDelayReq l = refl
type_body M.PDelayResp l = refl
type_body M.FollowUp l = refl
type_body M.DelayResp l = refl
type_body M.PDelayRespFollowUp l = refl

pub timestamp_body : (t : MessageType) (l : List ℕ) → timestamp_of (body_of t l) ≡ timestamp_at body l
unfolding body_of
timestamp_body M.Sync l = refl
timestamp_body M.DelayReq l = refl
timestamp_body M.PDelayReq l = refl
timestamp_body M.PDelayResp l = refl
timestamp_body M.FollowUp l = refl
timestamp_body M.DelayResp l = refl
timestamp_body M.PDelayRespFollowUp l = refl

-- ---- what is read of bytes has the widths of its places

pub identity_widths : (at : ℕ) (l : List ℕ) → Bytes l → InWidths (identity_at at l)
unfolding identity_at
identity_widths at l b = record { clock = number_lt at 8 l b; port = number_lt (at + 8) 2 l b }

half_width : (x : ℕ) → x < 256 → x / 16 < 16
half_width x h = omega arith

pub header_widths : (l : List ℕ) → Bytes l → HeaderWidths (header_of l)
unfolding header_of
header_widths l b =
    record {
      major = half_width (number 0 1 l) (number_lt 0 1 l b);
      minor = half_width (number 1 1 l) (number_lt 1 1 l b);
      domain = number_lt 4 1 l b;
      minor_sdo = number_lt 5 1 l b;
      flags = number_lt 6 2 l b;
      correction = number_lt 8 8 l b;
      source = identity_widths 20 l b;
      id = number_lt 30 2 l b;
      interval = number_lt 33 1 l b;
    }
