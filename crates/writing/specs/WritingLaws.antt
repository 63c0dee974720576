-- Laws of writing, for callers: what fits, and when a message is written.
use Rattle.std.specs.Prelude.{ℕ, ◌≤◌, ◌<◌, ◌^◌, ◌≡◌, refl, Bool, true, false, cond, ◌&&◌, List, [], ◌∷◌, ◌++◌, ltb, eqb, pos, length, drop, Result, Ok, Err}
use Rattle.std.proofs.Common.{ap, sym, ◌∙◌, ltb-true, ltb-false, lt-ltb, le-ltb, eqb-true, eq-eqb}
use Rattle.std.proofs.lemmas.Bool.{false≢true}
use Rattle.wire.specs.declared.Header.{Header}
use Rattle.wire.specs.declared.Body.{Body}
use Rattle.time.specs.Numbers.{answered, refusal}
use Rattle.octets.specs.Bytes.{roomy}
use Rattle.wire.specs.Layout.{row, type_of, message_entries, message_bytes, timestamp_of}
use Rattle.writing.specs.Writing.{together, fits_of, write_of, left_by, left_of, is_time}
use Rattle.writing.specs.Numbers.{told}
use Rattle.octets.specs.BytesLaws.{Fits}
use Rattle.octets.proofs.BytesLaws.{both, apart, roomy_fits, fits_roomy}
use Rattle.std.proofs.Math.Decide.{dec_lt}
use Rattle.time.specs.Units.{time_of_wire, time_words, wire}
use Rattle.time.specs.WireLaws.{read_in, read_out}
use Rattle.time.specs.Lemmas.Integers.{not_below}
use Rattle.time.specs.declared.WireTimestamp.{WireTimestamp}
use Rattle.writing.specs.declared.WriteError.{WriteError}

-- `fits_of` as facts
pub record Fitting (h : Header) (b : Body) : Type 0 where
  pub version : h.version ≡ 2
  pub number_is : h.kind ≡ (row (type_of b)).number
  pub length_is : h.length ≡ (row (type_of b)).length
  pub major : h.major_sdo < 16
  pub minor : h.minor < 16
  pub each : Fits (message_entries h b)
  pub timed : is_time (time_of_wire (timestamp_of b)) ≡ true

pub fits_is : (h : Header) (b : Body) → fits_of h b ≡ true → Fitting h b
unfolding fits_of together
fits_is h b e =
    let v : Bool = eqb h.version 2 in
    let k : Bool = eqb h.kind (row (type_of b)).number in
    let n : Bool = eqb h.length (row (type_of b)).length in
    let four : Bool = ltb h.major_sdo 16 && ltb h.minor 16 in
    let (u, time) = both (v && k && n && four && roomy (message_entries h b)) (is_time (time_of_wire (timestamp_of b))) e in
    let (p, r) = both (v && k && n && four) (roomy (message_entries h b)) u in
    let (q, s) = both (v && k && n) four p in
    let (x, y) = both (ltb h.major_sdo 16) (ltb h.minor 16) s in
    let (z, c) = both (v && k) n q in
    let (a, d) = both v k z in
    record {
      version = eqb-true h.version 2 a;
      number_is = eqb-true h.kind (row (type_of b)).number d;
      length_is = eqb-true h.length (row (type_of b)).length c;
      major = ltb-true h.major_sdo 16 x;
      minor = ltb-true h.minor 16 y;
      each = roomy_fits (message_entries h b) r;
      timed = time;
    }

pub fits_when : (h : Header) (b : Body) → Fitting h b → fits_of h b ≡ true
unfolding fits_of together
fits_when h b f =
    simp (eq-eqb h.version 2 f.version, eq-eqb h.kind (row (type_of b)).number f.number_is, eq-eqb h.length (row (type_of b)).length f.length_is, lt-ltb h.major_sdo 16 f.major, lt-ltb h.minor 16 f.minor, fits_roomy (message_entries h b) f.each, f.timed)

-- a timestamp that reads as a time has seconds of 48 bits, and reads as the time that it means
pub seconds_given : (w : WireTimestamp) → is_time (time_of_wire w) ≡ true → w.seconds < 2 ^ 48
seconds_given w e = go (dec_lt w.seconds (2 ^ 48))
  where
    go : Dec (w.seconds < 2 ^ 48) → w.seconds < 2 ^ 48
    go (yes h) = h
    go (no h) = absurd (false≢true (sym (ap is_time (read_out w (not_below w.seconds (2 ^ 48) h))) ∙ e))

pub time_given : (w : WireTimestamp) → is_time (time_of_wire w) ≡ true → time_of_wire w ≡ Ok (time_words (wire w))
time_given w e = read_in w (seconds_given w e)

-- written exactly where it fits and the room is enough
pub write_when : (h : Header) (b : Body) (room : ℕ) → fits_of h b ≡ true → (row (type_of b)).length ≤ room → write_of h b room ≡ Ok (row (type_of b)).length
unfolding write_of
write_when h b room f r = simp (f, le-ltb room (row (type_of b)).length r)

picked : (fit short : Bool) (k n : ℕ) → cond fit (cond short (Err WriteError.Short) (Ok k)) (Err WriteError.Unfit) ≡ Ok n → (fit ≡ true) × (short ≡ false) × (n ≡ k)
picked true true k n e = absurd (apart cc)
picked true false k n e = (refl, refl, cc)
picked false short k n e = absurd (apart cc)

pub write_is : (h : Header) (b : Body) (room n : ℕ) → write_of h b room ≡ Ok n → (fits_of h b ≡ true) × ((row (type_of b)).length ≤ room) × (n ≡ (row (type_of b)).length)
unfolding write_of
write_is h b room n e =
    let (fit, short, same) = picked (fits_of h b) (ltb room (row (type_of b)).length) (row (type_of b)).length n e in
    (fit, ltb-false room (row (type_of b)).length short, same)

-- what is left of the buffer then
pub left_when : (h : Header) (b : Body) (l : List ℕ) (n : ℕ) → write_of h b (length l) ≡ Ok n → left_of h b l ≡ message_bytes h b ++ drop n l
unfolding left_of
left_when h b l n e = ap (λ (w : Result ℕ WriteError). left_by w (message_bytes h b) l) e

-- and in 01's terms, for all inputs
told_picked : (fit short : Bool) (n : ℕ) → told (cond fit (cond short (Err WriteError.Short) (Ok n)) (Err WriteError.Unfit)) ≡ cond fit (cond short (refusal 1) (answered (pos n ∷ []))) (refusal 7)
told_picked true true n = refl
told_picked true false n = refl
told_picked false short n = refl

pub told_write : (h : Header) (b : Body) (room : ℕ) → told (write_of h b room) ≡ cond (fits_of h b) (cond (ltb room (row (type_of b)).length) (refusal 1) (answered (pos (row (type_of b)).length ∷ []))) (refusal 7)
unfolding write_of
told_write h b room = told_picked (fits_of h b) (ltb room (row (type_of b)).length) (row (type_of b)).length
