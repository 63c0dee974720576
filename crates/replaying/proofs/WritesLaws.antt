-- What fields write one after another, with numbers and offsets counted without limit, is what `Replay` says of the log that they make.
use Rattle.std.specs.Prelude.{◌≡◌, ℕ, zero, suc, ◌+◌, ◌%◌, ◌^◌, ◌<◌, ◌≤◌, Bool, true, false, List, ◌++◌, length, drop}
use Rattle.std.proofs.Math.Path.{refl, sym, ap, subst}
use Rattle.std.proofs.Common.{◌∙◌, append_assoc, arith, length-drop}
use Rattle.record.specs.declared.Port.{Port}
use Rattle.record.specs.Record.{port_of}
use Rattle.event_log.specs.Told.{Next}
use Rattle.event_log.specs.Fields.{front_of}
use Rattle.streaming.specs.Log.{Fields, starts, next, good, bad, rest, scan, onward, gathered, read_log}
use Rattle.octets.proofs.BytesLaws.{apart}
use Rattle.streaming.specs.FrontLaws.{Front, front}
use Rattle.streaming.proofs.StreamingLaws.{scan_is}
use Rattle.lines.specs.declared.Style.{Style}
use Rattle.lines.specs.Lines.{line_of}
use Rattle.replaying.specs.Replay.{answer_to, results_from, record_after, numbered, last_of, without_port, lines_for, lines_of, replay_lines}
use Rattle.replaying.specs.WritesLaws.{writes, NoStart}

-- ---- behind the configuration there is no other

front_no_start : (last : Bool) (at : ℕ) (s : List ℕ) → ((n : ℕ) → 3 ≤ n → n ≤ length s → NoStart (scan last false (at + n) (drop n s)))
    → (x : Next) → Front false s last x → NoStart (onward x at false s (λ n. scan last false (at + n) (drop n s)))
front_no_start last at s go (Next.Config c) (f, _) = absurd (apart (cc f))
front_no_start last at s go (Next.Event e n) (_, (a, b)) = go n a b
front_no_start last at s go Next.More f = tt
front_no_start last at s go Next.End f = tt
front_no_start last at s go Next.Bad f = tt

no_start_by : (fuel : ℕ) (last : Bool) (at : ℕ) (s : List ℕ) → length s < fuel → NoStart (scan last false at s)
no_start_by zero last at s h = absurd (omega (arith, h))
no_start_by (suc fuel) last at s h =
    subst NoStart (sym (scan_is last false at s))
    (front_no_start last at s (λ n a b. no_start_by fuel last (at + n) (drop n s) (omega (arith, length-drop n s, a, b, h))) (front_of false s last) (front false s last))

no_start : (last : Bool) (at : ℕ) (s : List ℕ) → NoStart (scan last false at s)
no_start last at s = no_start_by (suc (length s)) last at s (omega arith)

-- ---- the log's lines

module _ (style : Style) where
  writes-gathered : (p : Port) (n : ℕ) (l : Fields) → NoStart l → writes style p n l ≡ numbered style n (results_from p (gathered l).events) ++ last_of style (record_after p (gathered l).events) (gathered l).ending
  unfolding writes gathered numbered results_from record_after last_of
  writes-gathered p n (starts c k l) h = absurd h
  writes-gathered p n (next e k l) h =
      ap (λ (u : List ℕ). line_of style (n % 2 ^ 64) (answer_to p e) ++ u) (writes-gathered (answer_to p e).port (n + 1) l h)
      ∙ sym (append_assoc (line_of style (n % 2 ^ 64) (answer_to p e)) (numbered style (n + 1) (results_from (answer_to p e).port (gathered l).events)) (last_of style (record_after (answer_to p e).port (gathered l).events) (gathered l).ending))
  writes-gathered p n good h = refl
  writes-gathered p n (bad at) h = refl
  writes-gathered p n (rest at f u) h = refl

  -- with the configuration due: whatever port stands there, it is not asked
  abbrev Agree : Port → Fields → Type 0
  Agree p l = writes style p 1 l ≡ lines_for style (gathered l).configuration (gathered l).events (gathered l).ending

  first_writes : (p : Port) (s : List ℕ) (x : Next) → Front true s true x → Agree p (onward x 0 true s (λ n. scan true false (0 + n) (drop n s)))
  unfolding writes gathered lines_for without_port
  first_writes p s (Next.Config c) f = writes-gathered (port_of c) 1 (scan true false (0 + 36) (drop 36 s)) (no_start true (0 + 36) (drop 36 s))
  first_writes p s (Next.Event e n) ((f, _), _) = absurd (apart (cc f))
  first_writes p s Next.More f = refl
  first_writes p s Next.End ((_, f), _) = absurd (apart (cc f))
  first_writes p s Next.Bad f = refl

  pub writes_lines : (p : Port) (s : List ℕ) → writes style p 1 (scan true true 0 s) ≡ replay_lines style s
  unfolding replay_lines read_log lines_of
  writes_lines p s = subst (Agree p) (sym (scan_is true true 0 s)) (first_writes p s (front_of true s true) (front true s true))
