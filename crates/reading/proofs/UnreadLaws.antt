-- Which bytes do not matter: those that `Layout` calls unread, and all behind the stated length.
use Rattle.std.specs.Prelude.{ℕ, ◌+◌, ◌≤◌, ◌<◌, ◌≡◌, Bool, ◌&&◌, List, [], ◌∷◌, ◌++◌, length, get_or, ltb, leb, Ok, Err}
use Rattle.std.proofs.Math.Path.{refl, ap}
use Rattle.std.proofs.Common.{sym, ◌∙◌, length-append, lit≤, ltb-true, ltb-false, leb-true, leb-false, le-leb, lt-ltb, le-ltb}
use Rattle.std.proofs.Math.Bool.{true, false, cond}
use Rattle.std.proofs.lemmas.Bool.{false≢true, lt-leb}
use native.Mathlib.Omega.{arith}
use Rattle.std.proofs.Math.ListN.{get_or-append}
use Rattle.time.specs.Units.{time_of_wire}
use Rattle.wire.specs.declared.Header.{Header}
use Rattle.wire.specs.declared.MessageType.{MessageType}
use Rattle.wire.specs.declared.MessageType.TheVariants as M
use Rattle.wire.specs.declared.Kind.{Kind}
use Rattle.wire.specs.declared.Kind.TheVariants as K
use Rattle.wire.specs.declared.Body.TheVariants as B
use Rattle.octets.specs.Bytes.{Place, field_at, number}
use Rattle.wire.specs.Layout.{row, header_of, body_of, timestamp_at, identity_at, body, low_half, kind_of, message_length}
use Rattle.reading.specs.Unread.{read_to, unread, lies, unread_at, reserved_in}
use Rattle.reading.specs.Reading.{row4, row5, timed, message_of, decoded, read_of, short_for, kind_in, stated_end}
use Rattle.octets.proofs.BytesLaws.{neither, number_same, number_inside}
use Rattle.wire.proofs.LayoutLaws.{row_bounds}
use Rattle.reading.specs.ReadingLaws.{past_row5}
use Rattle.reading.specs.UnreadLaws.{Outside, Agree, Alike}
use Rattle.reading.specs.declared.Received.{Received}
use Rattle.reading.specs.declared.ReadError.{ReadError}

lies_outside : (ps : List Place) (i : ℕ) → lies ps i ≡ false → Outside ps i
lies_outside [] i e = tt
lies_outside (p ∷ ps) i e =
    let (a, b) = neither (leb p.at i && ltb i (p.at + p.width)) (lies ps i) e in
    (λ g h. false≢true (sym a ∙ simp (le-leb p.at i g, lt-ltb i (p.at + p.width) h)), lies_outside ps i b)

unless : (a b : Bool) → (a ≡ true → b ≡ true → ⊥) → a && b ≡ false
unless true true f = absurd (f refl refl)
unless true false f = refl
unless false b f = refl

outside_lies : (ps : List Place) (i : ℕ) → Outside ps i → lies ps i ≡ false
outside_lies [] i o = refl
outside_lies (p ∷ ps) i (o, os) =
    let a : leb p.at i && ltb i (p.at + p.width) ≡ false = unless _ _ (λ g h. o (leb-true p.at i g) (ltb-true i (p.at + p.width) h)) in
    simp (a, outside_lies ps i os)

pub read_at_when : (k : Kind) (i : ℕ) → i < read_to k → Outside (unread k) i → unread_at k i ≡ false
unfolding unread_at
read_at_when k i h o = simp (lt-leb (read_to k) i h, outside_lies (unread k) i o)

pub read_at_is : (k : Kind) (i : ℕ) → unread_at k i ≡ false → (i < read_to k) × Outside (unread k) i
unfolding unread_at
read_at_is k i e =
    let (a, b) = neither (leb (read_to k) i) (lies (unread k) i) e in
    (leb-false (read_to k) i a, lies_outside (unread k) i b)

-- ---- each part of a message, over the bytes that it has

timestamp_same : (at : ℕ) (l m : List ℕ) → ((i : ℕ) → at ≤ i → i < at + 10 → get_or l i 0 ≡ get_or m i 0) → timestamp_at at l ≡ timestamp_at at m
unfolding timestamp_at
timestamp_same at l m e =
    let s : number at 6 l ≡ number at 6 m = number_same at 6 l m (λ i a b. e i a (omega arith)) in
    let n : number (at + 6) 4 l ≡ number (at + 6) 4 m = number_same (at + 6) 4 l m (λ i a b. e i (omega arith) (omega arith)) in
    simp (s, n)

identity_same : (at : ℕ) (l m : List ℕ) → ((i : ℕ) → at ≤ i → i < at + 10 → get_or l i 0 ≡ get_or m i 0) → identity_at at l ≡ identity_at at m
unfolding identity_at
identity_same at l m e =
    let c : number at 8 l ≡ number at 8 m = number_same at 8 l m (λ i a b. e i a (omega arith)) in
    let p : number (at + 8) 2 l ≡ number (at + 8) 2 m = number_same (at + 8) 2 l m (λ i a b. e i (omega arith) (omega arith)) in
    simp (c, p)

-- the bytes of the header that are read: before messageTypeSpecific, between it and control, and the last one
header_same : (l m : List ℕ) → ((i : ℕ) → i < 34 → (16 ≤ i → i < 20 → ⊥) → (32 ≤ i → i < 33 → ⊥) → get_or l i 0 ≡ get_or m i 0) → header_of l ≡ header_of m
unfolding header_of
header_same l m e =
    let front : (at w : ℕ) → at + w ≤ 16 → number at w l ≡ number at w m = λ at w h. number_same at w l m (λ i a b. e i (omega arith) (λ c d. omega arith) (λ c d. omega arith)) in
    let back : (at w : ℕ) → 20 ≤ at → at + w ≤ 32 → number at w l ≡ number at w m = λ at w g h. number_same at w l m (λ i a b. e i (omega arith) (λ c d. omega arith) (λ c d. omega arith)) in
    let last : number 33 1 l ≡ number 33 1 m = number_same 33 1 l m (λ i a b. e i (omega arith) (λ c d. omega arith) (λ c d. omega arith)) in
    let source : identity_at 20 l ≡ identity_at 20 m = identity_same 20 l m (λ i a b. e i (omega arith) (λ c d. omega arith) (λ c d. omega arith)) in
    simp (front 0 1 (lit≤ tt), front 1 1 (lit≤ tt), front 2 2 (lit≤ tt), front 4 1 (lit≤ tt), front 5 1 (lit≤ tt), front 6 2 (lit≤ tt), front 8 8 (lit≤ tt), source, back 30 2 (lit≤ tt) (lit≤ tt), last)

-- ---- the kinds: what is read of a header, and of a body

to_header : (k : Kind) → 34 ≤ read_to k
to_header (K.Table t) = omega (arith, (row_bounds t).stamped)
to_header K.Host = lit≤ tt
to_header K.Reserved = lit≤ tt

-- reserved bytes lie behind a timestamp
reserved_behind : (k : Kind) (i : ℕ) → i < 44 → Outside (reserved_in k) i
reserved_behind (K.Table M.Sync) i h = tt
reserved_behind (K.Table M.DelayReq) i h = tt
reserved_behind (K.Table M.PDelayReq) i h = (λ a b. omega arith, tt)
reserved_behind (K.Table M.PDelayResp) i h = tt
reserved_behind (K.Table M.FollowUp) i h = tt
reserved_behind (K.Table M.DelayResp) i h = tt
reserved_behind (K.Table M.PDelayRespFollowUp) i h = tt
reserved_behind K.Host i h = tt
reserved_behind K.Reserved i h = tt

header_read : (k : Kind) (l m : List ℕ) → Agree k l m → header_of l ≡ header_of m
unfolding unread
header_read k l m e =
    header_same l m (λ i h a b. e i (read_at_when k i (omega (arith, to_header k)) (a, (b, reserved_behind k i (omega arith)))))

module _ (t : MessageType) (l m : List ℕ) (e : Agree (K.Table t) l m) where
  stamp_read : timestamp_at body l ≡ timestamp_at body m
  unfolding unread
  stamp_read =
      timestamp_same body l m (λ i a b. e i (read_at_when (K.Table t) i (omega (arith, (row_bounds t).stamped)) (λ c d. omega arith, (λ c d. omega arith, reserved_behind (K.Table t) i (omega arith)))))

  requester_read : (row t).length ≡ 54 → ((i : ℕ) → Outside (reserved_in (K.Table t)) i) → identity_at (body + 10) l ≡ identity_at (body + 10) m
  unfolding unread
  requester_read n o =
      identity_same (body + 10) l m (λ i a b. e i (read_at_when (K.Table t) i (omega arith) (λ c d. omega arith, (λ c d. omega arith, o i))))

body_read : (t : MessageType) (l m : List ℕ) → Agree (K.Table t) l m → body_of t l ≡ body_of t m
unfolding body_of
body_read M.Sync l m e = ap B.Sync (stamp_read M.Sync l m e)
body_read M.DelayReq l m e = ap B.DelayReq (stamp_read M.DelayReq l m e)
body_read M.PDelayReq l m e = ap B.PDelayReq (stamp_read M.PDelayReq l m e)
body_read M.PDelayResp l m e = λ j. B.PDelayResp (stamp_read M.PDelayResp l m e j) (requester_read M.PDelayResp l m e refl (λ i. tt) j)
body_read M.FollowUp l m e = ap B.FollowUp (stamp_read M.FollowUp l m e)
body_read M.DelayResp l m e = λ j. B.DelayResp (stamp_read M.DelayResp l m e j) (requester_read M.DelayResp l m e refl (λ i. tt) j)
body_read M.PDelayRespFollowUp l m e = λ j. B.PDelayRespFollowUp (stamp_read M.PDelayRespFollowUp l m e j) (requester_read M.PDelayRespFollowUp l m e refl (λ i. tt) j)

decoded_same : (k : Kind) (l m : List ℕ) → Agree k l m → decoded k l ≡ decoded k m
unfolding message_of
decoded_same (K.Table t) l m e = λ j. timed (time_of_wire (stamp_read t l m e j)) (header_read (K.Table t) l m e j) (body_read t l m e j)
decoded_same K.Host l m e = ap (λ (h : Header). Ok (Received.Host h)) (header_read K.Host l m e)
decoded_same K.Reserved l m e = refl

-- ---- the whole

module _ (l m : List ℕ) (n : Alike (field_at message_length l) (length l) (length m)) (first : (i : ℕ) → i < 4 → get_or l i 0 ≡ get_or m i 0) where
  start : (at w : ℕ) → at + w ≤ 4 → number at w l ≡ number at w m
  start at w h = number_same at w l m (λ i a b. first i (omega arith))

  row4_same : row4 l ≡ row4 m
  unfolding row4
  row4_same = simp (n.0, start 1 1 (lit≤ tt))

  row5_same : row5 l ≡ row5 m
  unfolding row5
  row5_same = simp (n.1, n.2) (simp (start 0 1 (lit≤ tt), start 2 2 (lit≤ tt)))

  same : (row5 l ≡ false → Agree (kind_in l) l m) → read_of l ≡ read_of m
  unfolding read_of
  same e =
      ap (λ (x : Bool). cond x (Err ReadError.Version) (cond (row5 l) (Err ReadError.Malformed) (decoded (kind_in l) l))) row4_same
      ∙ ap (cond (row4 m) (Err ReadError.Version)) (go (row5 l) refl)
      ∙ ap (λ (x : Bool). cond (row4 m) (Err ReadError.Version) (cond x (Err ReadError.Malformed) (decoded (kind_in m) m))) row5_same
    where
      go : (b : Bool) → row5 l ≡ b → cond b (Err ReadError.Malformed) (decoded (kind_in l) l) ≡ cond b (Err ReadError.Malformed) (decoded (kind_in m) m)
      go true h = refl
      go false h = decoded_same (kind_in l) l m (e h) ∙ ap (λ (x : ℕ). decoded (kind_of (low_half x)) m) (start 0 1 (lit≤ tt))

-- type, version and stated length are always read
first_read : (k : Kind) (i : ℕ) → i < 4 → unread_at k i ≡ false
unfolding unread
first_read k i h =
    read_at_when k i (omega (arith, to_header k)) (λ c d. omega arith, (λ c d. omega arith, reserved_behind k i (omega arith)))

-- as long, and the same bytes wherever they are read: read the same
pub unread_same : (l m : List ℕ) → length l ≡ length m → ((i : ℕ) → unread_at (kind_in l) i ≡ false → get_or l i 0 ≡ get_or m i 0) → read_of l ≡ read_of m
unread_same l m n e =
    let alike : (x : ℕ) → ltb (length l) x ≡ ltb (length m) x = λ x. ap (λ (k : ℕ). ltb k x) n in
    same l m (alike 2, alike 34, alike (field_at message_length l)) (λ i h. e i (first_read (kind_in l) i h)) (λ r. e)

read_there : (k : Kind) (stated : ℕ) → 34 ≤ stated → short_for k stated ≡ false → read_to k ≤ stated
read_there (K.Table t) stated h e = ltb-false stated (row t).length e
read_there K.Host stated h e = h
read_there K.Reserved stated h e = h

-- where both are all there, what lies behind does not matter, nor how much of it there is
pub behind_same : (l m : List ℕ) → stated_end l ≤ length l → stated_end m ≤ length m → ((i : ℕ) → i < stated_end l → unread_at (kind_in l) i ≡ false → get_or l i 0 ≡ get_or m i 0) → read_of l ≡ read_of m
behind_same l m p q e =
    let s : ℕ = field_at message_length l in
    let first : (i : ℕ) → i < 4 → get_or l i 0 ≡ get_or m i 0 = λ i h. e i (omega arith) (first_read (kind_in l) i h) in
    let stated : s ≡ field_at message_length m = number_same 2 2 l m (λ i a b. first i (omega arith)) in
    let alike : (x : ℕ) → x ≤ stated_end l → ltb (length l) x ≡ ltb (length m) x = λ x h. le-ltb (length l) x (omega arith) ∙ sym (le-ltb (length m) x (omega arith)) in
    same l m (alike 2 (omega arith), alike 34 (omega arith), alike s (omega arith)) first
    (λ r i u.
    let w = past_row5 l r in
    let there : read_to (kind_in l) ≤ s = read_there (kind_in l) s w.header_stated w.body_stated in
    e i (omega (arith, there, (read_at_is (kind_in l) i u).0)) u)

pub behind_appended : (l q : List ℕ) → 34 ≤ length l → field_at message_length l ≤ length l → read_of (l ++ q) ≡ read_of l
behind_appended l q h s =
    let n = length-append l q in
    let stated : field_at message_length (l ++ q) ≡ field_at message_length l = number_inside l q 2 2 (omega arith) in
    sym (behind_same l (l ++ q) (omega arith) (omega arith) (λ i g u. sym (get_or-append l q 0 i (omega arith))))
