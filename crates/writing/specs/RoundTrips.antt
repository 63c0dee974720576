-- What is written reads back as it was, and what was read and is written again has the same bytes wherever it is read.
use Rattle.std.specs.Prelude.{ℕ, ◌+◌, ◌-◌, ◌*◌, ◌/◌, ◌%◌, ◌^◌, ◌≤◌, ◌<◌, ◌≡◌, refl, true, length, get_or, take, drop, eqb, Ok}
use Rattle.std.proofs.Common.{sym, ◌∙◌, subst, zero-add, arith, length-append, length-drop, get_or-take, get_or-drop, get_or-append-add, take_at, drop_at, lit<}
use Rattle.std.proofs.Math.Path.{ap}
use Rattle.std.proofs.Math.Bool.{false}
use mathlib.Core.List.{List, [], ◌∷◌, ◌++◌, append-nil}
use Rattle.std.proofs.Math.Decide.{dec_lt}
use Rattle.std.proofs.Math.ListN.{get_or-append}
use borrow.Author.Tests.{le-ltb, eqb-true}
use Rattle.time.specs.declared.Time.{Time}
use Rattle.time.specs.Units.{time_of_wire, time_words, wire}
use Rattle.wire.specs.declared.MessageType.{MessageType}
use Rattle.wire.specs.declared.MessageType.TheVariants as M
use Rattle.wire.specs.declared.Kind.{Kind}
use Rattle.wire.specs.declared.Kind.TheVariants as K
use Rattle.wire.specs.declared.Identity.{Identity}
use Rattle.wire.specs.declared.Header.{Header}
use Rattle.wire.specs.declared.Body.{Body}
use Rattle.wire.specs.declared.Body.TheVariants as B
use Rattle.octets.specs.Bytes.{Entry, number, spell, bytes_of, size_of, tiles, field_at, Bytes}
use Rattle.wire.specs.Layout.{header_entries, header_of, timestamp_entries, timestamp_at, identity_entries, identity_at, body_entries, body_of, body, row, kind_of, type_of, timestamp_of, message_length, message_entries, message_bytes}
use Rattle.reading.specs.Unread.{unread, unread_at}
use Rattle.reading.specs.Reading.{row4, row5, read_of, short_for, reserved, kind_in}
use Rattle.writing.specs.Writing.{fits_of, write_of, left_of, is_time}
use Rattle.octets.specs.BytesLaws.{Fits, Reads}
use Rattle.octets.proofs.BytesLaws.{both, reads_parts, reads_back, number_lt, length-bytes_of, length-spell, spell-number}
use Rattle.wire.proofs.LayoutLaws.{message_tiles, length_message, number_kind, row_bounds, body_size}
use Rattle.reading.specs.ReadingLaws.{row4_passed, row5_passed, IsMessage, message_when, message_is}
use Rattle.writing.specs.WritingLaws.{Fitting, fits_is, fits_when, write_when, write_is, left_when, time_given}
use Rattle.reading.proofs.UnreadLaws.{read_at_is}
use Rattle.reading.specs.declared.Received.{Received}

-- ---- tables that stand in l read back

stamp_reads : (b : Body) (l : List ℕ) → Reads (body_entries body b) l → timestamp_at body l ≡ timestamp_of b
unfolding body_entries timestamp_entries timestamp_at
stamp_reads b l (s, (n, r)) = simp (s, n)

identity_reads : (at : ℕ) (i : Identity) (l : List ℕ) → Reads (identity_entries at i) l → identity_at at l ≡ i
unfolding identity_entries identity_at
identity_reads at i l (c, (p, r)) = simp (c, p)

body_reads : (b : Body) (l : List ℕ) → Reads (body_entries body b) l → body_of (type_of b) l ≡ b
unfolding body_entries timestamp_entries body_of
body_reads (B.Sync t) l r = ap B.Sync (stamp_reads (B.Sync t) l r)
body_reads (B.DelayReq t) l r = ap B.DelayReq (stamp_reads (B.DelayReq t) l r)
body_reads (B.PDelayReq t) l r = ap B.PDelayReq (stamp_reads (B.PDelayReq t) l r)
body_reads (B.PDelayResp t i) l r =
    λ j. B.PDelayResp (stamp_reads (B.PDelayResp t i) l r j) (identity_reads (body + 10) i l r.1.1 j)
body_reads (B.FollowUp t) l r = ap B.FollowUp (stamp_reads (B.FollowUp t) l r)
body_reads (B.DelayResp t i) l r =
    λ j. B.DelayResp (stamp_reads (B.DelayResp t i) l r j) (identity_reads (body + 10) i l r.1.1 j)
body_reads (B.PDelayRespFollowUp t i) l r =
    λ j. B.PDelayRespFollowUp (stamp_reads (B.PDelayRespFollowUp t i) l r j) (identity_reads (body + 10) i l r.1.1 j)

-- a byte that two fields share gives both back
halves_back : (a b : ℕ) → b < 16 → ((a * 16 + b) / 16 ≡ a) × ((a * 16 + b) % 16 ≡ b)
halves_back a b h = (omega arith, omega arith)

-- what is written reads back, whatever lies behind it
module _ (h : Header) (b : Body) (f : Fitting h b) (q : List ℕ) where
  abbrev control : ℕ
  control = (row (type_of b)).control

  abbrev whole : List ℕ
  whole = message_bytes h b ++ q

  stands : Reads (header_entries h control) whole × Reads (body_entries body b) whole
  unfolding message_bytes message_entries
  stands = reads_parts (header_entries h control) (body_entries body b) whole (reads_back [] (message_entries h b) q (message_tiles h b) f.each)

  header_back : header_of whole ≡ h
  unfolding header_of header_entries identity_entries identity_at
  header_back =
      let (r0, (r1, (r2, (r4, (r5, (r6, (r8, (r16, (r20, (r28, (r30, (r32, (r33, r))))))))))))) = stands.0 in
      let (major, kind) = halves_back h.major_sdo h.kind (rw f.number_is (row_bounds (type_of b)).number) in
      let (minor, version) = halves_back h.minor h.version (rw f.version (lit< tt)) in
      simp (r0, r1, r2, r4, r5, r6, r8, r20, r28, r30, r33, major, kind, minor, version)

  kind_back : kind_in whole ≡ K.Table (type_of b)
  unfolding header_of
  kind_back = ap (λ (x : Header). kind_of x.kind) header_back ∙ ap kind_of f.number_is ∙ number_kind (type_of b)

  stated : field_at message_length whole ≡ (row (type_of b)).length
  unfolding header_of
  stated = ap (λ (x : Header). x.length) header_back ∙ f.length_is

  there : (row (type_of b)).length ≤ length whole
  there = omega (arith, length-append (message_bytes h b) q, length_message h b)

  has_time : time_of_wire (timestamp_of b) ≡ Ok (time_words (wire (timestamp_of b)))
  has_time = time_given (timestamp_of b) f.timed

  pub message_back : read_of whole ≡ Ok (Received.Message h b (time_words (wire (timestamp_of b))))
  unfolding header_of
  message_back =
      let t : Time = time_words (wire (timestamp_of b)) in
      let least = body_size 0 b in
      let a : row4 whole ≡ false = row4_passed whole record { two_bytes = omega (arith, there, least); version = ap (λ (x : Header). x.version) header_back ∙ f.version } in
      let c : row5 whole ≡ false = row5_passed whole record {
        header_there = omega (arith, there, least);
        header_stated = omega (arith, stated, least);
        stated_there = omega (arith, stated, there);
        a_type = ap reserved kind_back;
        body_stated = ap (λ (k : Kind). short_for k (field_at message_length whole)) kind_back ∙ le-ltb (field_at message_length whole) (row (type_of b)).length (omega (arith, stated));
      } in
      message_when whole (type_of b) t a c kind_back (ap time_of_wire (stamp_reads b whole stands.1) ∙ has_time)
      ∙ (λ j. Ok (Received.Message (header_back j) (body_reads b whole stands.1 j) t))

-- ---- written, then read

-- the message of length n was written to l: what is there now, and what it reads as
pub record Wrote (h : Header) (b : Body) (l : List ℕ) (n : ℕ) : Type 0 where
  pub length_is : n ≡ (row (type_of b)).length
  pub room : n ≤ length l
  pub same_length : length (left_of h b l) ≡ length l
  pub front : take n (left_of h b l) ≡ message_bytes h b
  pub behind : drop n (left_of h b l) ≡ drop n l
  pub time : Time
  pub time_is : time_of_wire (timestamp_of b) ≡ Ok time
  pub reads_all : read_of (left_of h b l) ≡ Ok (Received.Message h b time)
  pub reads_front : read_of (message_bytes h b) ≡ Ok (Received.Message h b time)

pub written_reads : (h : Header) (b : Body) (l : List ℕ) (n : ℕ) → write_of h b (length l) ≡ Ok n → Wrote h b l n
written_reads h b l n e =
    let (fit, enough, same) = write_is h b (length l) n e in
    let f : Fitting h b = fits_is h b fit in
    let whole : length (message_bytes h b) ≡ n = length_message h b ∙ sym same in
    let there : n ≤ length l = rw same enough in
    let left : left_of h b l ≡ message_bytes h b ++ drop n l = left_when h b l n e in
    record {
      length_is = same;
      room = there;
      same_length = ap length left ∙ length-append (message_bytes h b) (drop n l) ∙ omega (arith, whole, length-drop n l, there);
      front = ap (take n) left ∙ take_at (message_bytes h b) (drop n l) n whole;
      behind = ap (drop n) left ∙ drop_at (message_bytes h b) (drop n l) n whole;
      time = time_words (wire (timestamp_of b));
      time_is = has_time h b f [];
      reads_all = ap read_of left ∙ message_back h b f (drop n l);
      reads_front = ap read_of (sym (append-nil (message_bytes h b))) ∙ message_back h b f [];
    }

-- ---- read, then written

-- where an entry's value comes from: it is what stands in l, or the writer's own and at a place that is not read
data Origin (k : Kind) (l : List ℕ) (e : Entry) : Type 0 where
  copied : field_at e.place l ≡ e.value → Origin k l e
  own : e.value < 256 ^ e.place.width → ((i : ℕ) → e.place.at ≤ i → i < e.place.at + e.place.width → unread_at k i ≡ false → ⊥) → Origin k l e

abbrev Origins : Kind → List ℕ → List Entry → Type 0
Origins k l [] = Unit {0}
Origins k l (e ∷ es) = Origin k l e × Origins k l es

origins_joined : (k : Kind) (l : List ℕ) (a b : List Entry) → Origins k l a → Origins k l b → Origins k l (a ++ b)
origins_joined k l [] b o p = p
origins_joined k l (e ∷ a) b (o, os) p = (o, origins_joined k l a b os p)

origins_fit : (k : Kind) (l : List ℕ) (es : List Entry) → Bytes l → Origins k l es → Fits es
origins_fit k l [] b o = tt
origins_fit k l (e ∷ es) b (o, os) = (fit o, origins_fit k l es b os)
  where
    fit : Origin k l e → e.value < 256 ^ e.place.width
    fit (copied v) = rw (← v) (number_lt e.place.at e.place.width l b)
    fit (own v u) = v

-- p has the bytes that l has from n on, where they are read
abbrev Same : Kind → ℕ → List ℕ → List ℕ → Type 0
Same k n p l = (i : ℕ) → i < length p → unread_at k (n + i) ≡ false → get_or p i 0 ≡ get_or l (n + i) 0

same_joined : (k : Kind) (n : ℕ) (p q l : List ℕ) → Same k n p l → Same k (n + length p) q l → Same k n (p ++ q) l
same_joined k n p q l f g i h u = go (dec_lt i (length p))
  where
    go : Dec (i < length p) → get_or (p ++ q) i 0 ≡ get_or l (n + i) 0
    go (yes a) = get_or-append p q 0 i a ∙ f i a u
    go (no a) =
        let j : ℕ = i - length p in
        let here : length p + j ≡ i = omega arith in
        let there : n + length p + j ≡ n + i = omega arith in
        let inside : j < length q = omega (arith, length-append p q) in
        ap (λ (x : ℕ). get_or (p ++ q) x 0) (sym here) ∙ get_or-append-add p q j 0 ∙ g j inside (rw there u) ∙ ap (λ (x : ℕ). get_or l x 0) there

entry_same : (k : Kind) (l : List ℕ) (e : Entry) → Bytes l → e.place.at + e.place.width ≤ length l → Origin k l e → Same k e.place.at (spell e.place.width e.value) l
entry_same k l e b n (copied v) i h u =
    let at = e.place.at in
    let w = e.place.width in
    let g : i < w = rw length-spell at h in
    ap (λ (x : ℕ). get_or (spell w x) i 0) (sym v) ∙ ap (λ (x : List ℕ). get_or x i 0) (spell-number at w l b n) ∙ get_or-take w (drop at l) i 0 g ∙ get_or-drop at l i 0
entry_same k l e b n (own v o) i h u =
    absurd (o (e.place.at + i) (omega arith) (omega (arith, length-spell e.place.width e.value)) u)

table_same : (k : Kind) (l : List ℕ) (n : ℕ) (es : List Entry) → Bytes l → n + size_of es ≤ length l → tiles n es ≡ true → Origins k l es → Same k n (bytes_of es) l
unfolding size_of tiles bytes_of
table_same k l n [] b s t o = λ i h u. omega arith
table_same k l n (e ∷ es) b s t (o, os) =
    let w = e.place.width in
    let (p, q) = both (eqb e.place.at n) (tiles (n + w) es) t in
    let starts : e.place.at ≡ n = eqb-true e.place.at n p in
    let here : Same k n (spell w e.value) l = rw starts at (entry_same k l e b (omega arith) o) in
    let rest : Same k (n + w) (bytes_of es) l = table_same k l (n + w) es b (omega arith) q os in
    same_joined k n (spell w e.value) (bytes_of es) l here (rw length-spell rest)

-- every entry of a message that was read, written again
halves_joined : (x : ℕ) → x ≡ x / 16 * 16 + x % 16
halves_joined x = omega arith

header_origins : (k : Kind) (l : List ℕ) (c : ℕ) → c < 256 → Origins k l (header_entries (header_of l) c)
unfolding header_entries header_of identity_entries identity_at unread
header_origins k l c h =
    let type_specific : (i : ℕ) → 16 ≤ i → i < 20 → unread_at k i ≡ false → ⊥ = λ i a b u. (read_at_is k i u).1.0 a b in
    let control : (i : ℕ) → 32 ≤ i → i < 33 → unread_at k i ≡ false → ⊥ = λ i a b u. (read_at_is k i u).1.1.0 a b in
    (copied (halves_joined (number 0 1 l)), (copied (halves_joined (number 1 1 l)), (copied refl, (copied refl, (copied refl, (copied refl, (copied refl, (own (lit< tt) type_specific, (copied refl, (copied refl, (copied refl, (own h control, (copied refl, tt)))))))))))))

body_origins : (t : MessageType) (l : List ℕ) → Origins (K.Table t) l (body_entries body (body_of t l))
unfolding body_entries body_of timestamp_entries timestamp_at identity_entries identity_at unread
body_origins M.Sync l = (copied refl, (copied refl, tt))
body_origins M.DelayReq l = (copied refl, (copied refl, tt))
body_origins M.PDelayReq l = (copied refl, (copied refl, (own (lit< tt) (λ i a b u. (read_at_is (K.Table M.PDelayReq) i u).1.1.1.0 a b), tt)))
body_origins M.PDelayResp l = (copied refl, (copied refl, (copied refl, (copied refl, tt))))
body_origins M.FollowUp l = (copied refl, (copied refl, tt))
body_origins M.DelayResp l = (copied refl, (copied refl, (copied refl, (copied refl, tt))))
body_origins M.PDelayRespFollowUp l = (copied refl, (copied refl, (copied refl, (copied refl, tt))))

-- what was read can be written, and has the bytes that were read wherever they are read; those are all below its length
pub record Rewrites (l : List ℕ) (h : Header) (b : Body) : Type 0 where
  pub fits : fits_of h b ≡ true
  pub writes : (room : ℕ) → (row (type_of b)).length ≤ room → write_of h b room ≡ Ok (row (type_of b)).length
  pub same : (i : ℕ) → unread_at (K.Table (type_of b)) i ≡ false → get_or (message_bytes h b) i 0 ≡ get_or l i 0

-- a stated length above the table's own is read and cannot be written, hence the last hypothesis
pub read_writes : (l : List ℕ) (h : Header) (b : Body) (t : Time) → Bytes l → read_of l ≡ Ok (Received.Message h b t) → h.length ≡ (row (type_of b)).length → Rewrites l h b
unfolding header_of message_bytes message_entries
read_writes l h b t bytes e n =
    let m : IsMessage l h b t = message_is l h b t e in
    let k : Kind = K.Table (type_of b) in
    let c : ℕ = (row (type_of b)).control in
    let head : Origins k l (header_entries h c) = subst (λ (x : Header). Origins k l (header_entries x c)) (sym m.header_is) (header_origins k l c (row_bounds (type_of b)).control) in
    let rest : Origins k l (body_entries body b) = subst (λ (x : Body). Origins k l (body_entries body x)) (sym m.body_is) (body_origins (type_of b) l) in
    let o : Origins k l (message_entries h b) = origins_joined k l (header_entries h c) (body_entries body b) head rest in
    let long : length (message_bytes h b) ≡ (row (type_of b)).length = length_message h b in
    let major : h.major_sdo ≡ number 0 1 l / 16 = ap (λ (x : Header). x.major_sdo) m.header_is in
    let minor : h.minor ≡ number 1 1 l / 16 = ap (λ (x : Header). x.minor) m.header_is in
    let fit : fits_of h b ≡ true = fits_when h b record {
      version = m.version;
      number_is = m.number;
      length_is = n;
      major = omega (arith, major, number_lt 0 1 l bytes);
      minor = omega (arith, minor, number_lt 1 1 l bytes);
      each = origins_fit k l (message_entries h b) bytes o;
      timed = ap is_time m.time;
    } in
    let there : 0 + size_of (message_entries h b) ≤ length l = omega (arith, length-bytes_of (message_entries h b), long, n, m.stated_there) in
    record {
      fits = fit;
      writes = λ room r. write_when h b room fit r;
      same = λ i u. rw zero-add at (table_same k l 0 (message_entries h b) bytes there (message_tiles h b) o i (omega (arith, long, (read_at_is k i u).0)) (rw zero-add u));
    }
