-- One field of a window: what the function that reads it promises, and the laws by which it keeps the promise.
use Rattle.std.specs.Prelude.{◌≡◌, ℕ, ◌+◌, ◌-◌, ◌<◌, ◌≤◌, Bool, true, false, List, [], length, take, drop, refl, Option, Some, None, IsSome, is_some, is_none, not}
use Rattle.std.proofs.Common.{sym, ◌∙◌, subst, le-ltb, arith, add_assoc, length-drop, take_all, drop-drop, length-take-le}
use Rattle.std.proofs.Math.Path.{ap}
use Rattle.std.proofs.Math.Nat.{sub-zero}
use Rattle.std.proofs.Math.Seq.{take_at}
use Rattle.record.specs.declared.Config.{Config}
use Rattle.record.specs.declared.Port.{Port}
use Rattle.rules.specs.Events.{Event, Answered, buffer_after}
use Rattle.rules.proofs.ActionLaws.{actions_orderly}
use Rattle.rules.specs.Step.{step}
use Rattle.port.specs.Entries.{answer_for, Answers}
use Rattle.port.specs.ToldLaws.{TellsResult, answer_tells}
use Rattle.rules.proofs.BufferLaws.{sent_fits, buffer_length}
use Rattle.record.specs.declared.Answer.{Answer}
use Rattle.octets.proofs.BytesLaws.{apart}
use Rattle.event_log.specs.Told.{Next}
use Rattle.event_log.specs.Fields.{front_of}
use Rattle.streaming.specs.Log.{Fields, starts, next, good, bad, rest, scan, onward}
use Rattle.streaming.specs.FrontLaws.{Placed, Front, front}
use Rattle.streaming.proofs.StreamingLaws.{scan_at, front_fits, front_placed, front_config_fits, more_small}
use Rattle.lines.specs.declared.Style.{Style}
use Rattle.lines.specs.Lines.{line_of, line_for, bad_line, last_line}
use Rattle.lines.specs.LinesLaws.{line_short, bad_short, last_short}
use Rattle.text.specs.Page.{Wrote}
use Rattle.text.specs.PageLaws.{wrote_nothing, wrote_as}
use Rattle.replaying.specs.declared.State.{State}
use Rattle.replaying.specs.declared.Stop.{Stop}
use Rattle.replaying.specs.declared.one.Turn.{Turn}
use Rattle.replaying.specs.Replay.{answer_to}
use Rattle.replaying.specs.Turns.{line_room, due, port_in, opened, moved, stopped, after, run_of}

-- ---- a run's next field, where a line has room

module _ (style : Style) (q : State) (room : ℕ) (h : line_room ≤ room) where
  pub run_starts : (c : Config) (n : ℕ) (l : Fields) → run_of style q room (starts c n l) ≡ after [] n (run_of style (opened q c n) room l)
  unfolding run_of
  run_starts c n l = simp (le-ltb room 1024 h)

  pub run_next : (e : Event) (n : ℕ) (l : Fields) → run_of style q room (next e n l) ≡ after (line_of style q.number (answer_to (port_in q) e)) n (run_of style (moved q (answer_to (port_in q) e).port n) (room - length (line_of style q.number (answer_to (port_in q) e))) l)
  unfolding run_of
  run_next e n l = simp (le-ltb room 1024 h)

  pub run_good : run_of style q room good ≡ stopped (last_line style (port_in q)) q Stop.Done
  unfolding run_of
  run_good = simp (le-ltb room 1024 h)

  pub run_bad : (n : ℕ) → run_of style q room (bad n) ≡ stopped (bad_line q.offset) q Stop.Done
  unfolding run_of
  run_bad n = simp (le-ltb room 1024 h)

  pub run_rest : (n : ℕ) (f : Bool) (u : List ℕ) → run_of style q room (rest n f u) ≡ stopped [] q Stop.More
  unfolding run_of
  run_rest n f u = simp (le-ltb room 1024 h)

-- ---- what the function that reads a field promises

-- w is written for a field of n bytes at place i, and the run goes on behind it
pub record Passes (style : Style) (q : State) (s : List ℕ) (i : ℕ) (last : Bool) (d : List ℕ) (to : ℕ) (d' : List ℕ) (p : State) (j k : ℕ) (n : ℕ) (w : List ℕ) : Type 0 where
  pub run : (at room : ℕ) → line_room ≤ room
      → run_of style q room (scan last (due q) (at + i) (drop i s)) ≡ after w n (run_of style p (room - length w) (scan last (due p) (at + j) (drop j s)))
  pub wrote : Wrote d to w d' k
  pub short : length w ≤ line_room
  pub place : j ≡ i + n
  pub ahead : i < j
  pub within : j ≤ length s

-- w is written, and nothing comes behind it
pub record Halts (style : Style) (q : State) (s : List ℕ) (i : ℕ) (last : Bool) (d : List ℕ) (to : ℕ) (d' : List ℕ) (why : Stop) (k : ℕ) (w : List ℕ) : Type 0 where
  pub run : (at room : ℕ) → line_room ≤ room → run_of style q room (scan last (due q) (at + i) (drop i s)) ≡ stopped w q why
  pub wrote : Wrote d to w d' k
  pub short : length w ≤ line_room
  pub small : why ≡ Stop.More → length s - i < 1049

-- with the state p, the place j in the window and the place k in the buffer behind it; or why nothing comes behind it
abbrev pub Field : Style → State → List ℕ → ℕ → Bool → List ℕ → ℕ → List ℕ → State → ℕ → ℕ → Option Stop → Type 0
Field style q s i last d to d' p j k None =
    (n : ℕ) × (w : List ℕ) × Passes style q s i last d to d' p j k n w
Field style q s i last d to d' p j k (Some why) =
    (p ≡ q) × (j ≡ i) × ((w : List ℕ) × Halts style q s i last d to d' why k w)

-- a turn t into the buffer d is t' with d' behind one field
pub record One (t : Turn) (d : List ℕ) (t' : Turn) (d' : List ℕ) (r : Option Stop) : Type 0 where
  pub style : t'.style ≡ t.style
  pub window : t'.s.now ≡ t.s.now
  pub last : t'.last ≡ t.last
  pub field : Field t.style t.state t.s.now t.read t.last d t.wrote d' t'.state t'.read t'.wrote r

-- ---- the line of an answer is that of `step`'s result, and has room

told_line : (style : Style) (n : ℕ) (r : Answered) (a : Answer) (sent : List ℕ) → TellsResult r a → sent ≡ r.sent → line_for style n a sent ≡ line_of style n r
told_line style n r a sent t e = simp (t.outcome, t.measurement, t.actions, t.reset, e)

line_fits : (style : Style) (n : ℕ) (q : State) (e : Event) → length (line_of style n (answer_to (port_in q) e)) ≤ line_room
line_fits style n q e =
    omega (arith, line_short style n (answer_to (port_in q) e).outcome (answer_to (port_in q) e).measurement (answer_to (port_in q) e).sent (answer_to (port_in q) e).actions (answer_to (port_in q) e).reset (actions_orderly (port_in q) 128 e).at_most_two, sent_fits (port_in q) 128 e)

-- ---- the function's returns: x is what stands at place i

part_all : (s : List ℕ) (i : ℕ) → take (length s - i) (drop i s) ≡ drop i s
part_all s i = take_all (length s - i) (drop i s) (omega (arith, length-drop i s))

-- whether there is a port, asked and answered
due_is : {A : Type 0} (o : Option A) (b : Bool) → is_some o ≡ not b → b ≡ is_none o
due_is None true e = refl
due_is None false e = absurd (apart (cc e))
due_is (Some p) true e = absurd (apart (cc e))
due_is (Some p) false e = refl

there_is : {A : Type 0} (o : Option A) → is_none o ≡ false → IsSome o
there_is None e = absurd (apart (cc e))
there_is (Some p) e = refl

-- the front is asked for by that answer
pub front_asked : (o : Option Port) (b : Bool) (x : Next) (u : List ℕ) (last : Bool) → is_some o ≡ not b → x ≡ front_of b u last → x ≡ front_of (is_none o) u last
front_asked o b x u last asked is = is ∙ ap (λ (f : Bool). front_of f u last) (due_is o b asked)

-- a port that is held is the one that the laws are about
port_is : (q : State) (port : Port) → q.port ≡ Some port → port ≡ port_in q
port_is q port e = sym (ap (λ (o : Option Port). port_in (record { port = o; number = q.number; offset = q.offset })) e)

pub held_answers : (q : State) (port : Port) → q.port ≡ Some port → (e : Event) (l : List ℕ) (a : Answer) (l' : List ℕ) → Answers port e l a l' → Answers (port_in q) e l a l'
held_answers q port held e l a l' = subst (λ (z : Port). Answers z e l a l') (port_is q port held)

pub held_end : (q : State) (port : Port) → q.port ≡ Some port → (style : Style) (d : List ℕ) (to : ℕ) (d' : List ℕ) (k : ℕ) → Wrote d to (last_line style port) d' k → Wrote d to (last_line style (port_in q)) d' k
held_end q port held style d to d' k = subst (λ (z : Port). Wrote d to (last_line style z) d' k) (port_is q port held)

module _ (style : Style) (q : State) (s : List ℕ) (i : ℕ) (last : Bool) (d : List ℕ) (to : ℕ) (x : Next) (inside : i ≤ length s) (is : x ≡ front_of (due q) (take (length s - i) (drop i s)) last) where
  at_place : front_of (due q) (drop i s) last ≡ x
  at_place = ap (λ (u : List ℕ). front_of (due q) u last) (sym (part_all s i)) ∙ sym is

  known : Front (due q) (drop i s) last x
  known = subst (Front (due q) (drop i s) last) at_place (front (due q) (drop i s) last)

  -- a port has been made where an event is read, and where a log ends well
  pub event_ported : (e : Event) (n : ℕ) → x ≡ Next.Event e n → IsSome q.port
  event_ported e n p = there_is q.port (subst (Front (due q) (drop i s) last) p known).0.0

  pub end_ported : x ≡ Next.End → IsSome q.port
  end_ported p = there_is q.port (subst (Front (due q) (drop i s) last) p known).0.1

  scanned : (at : ℕ) (y : Next) → x ≡ y → scan last (due q) (at + i) (drop i s) ≡ onward y (at + i) (due q) (drop i s) (λ n. scan last false (at + i + n) (drop n (drop i s)))
  scanned at y e = scan_at last (due q) (at + i) (drop i s) y (at_place ∙ e)

  -- what lies behind a field of n bytes
  behind : (at n : ℕ) → scan last false (at + i + n) (drop n (drop i s)) ≡ scan last false (at + (i + n)) (drop (i + n) s)
  behind at n =
      ap (λ (u : List ℕ). scan last false (at + i + n) u) (drop-drop n i s) ∙ ap (λ (k : ℕ). scan last false k (drop (i + n) s)) (add_assoc at i n)

  pub event_fits : (e : Event) (n : ℕ) → x ≡ Next.Event e n → (3 ≤ n) × (n ≤ length s - i)
  event_fits e n p =
      let (a, b) = front_fits (due q) (drop i s) last e n (at_place ∙ p) in
      (a, omega (arith, b, length-drop i s))

  pub event_placed : (e : Event) (n : ℕ) → x ≡ Next.Event e n → Placed (take n (drop i s)) e
  event_placed e n p = front_placed (due q) (drop i s) last e n (at_place ∙ p)

  pub config_fits : (c : Config) → x ≡ Next.Config c → 36 ≤ length s - i
  config_fits c p = omega (arith, front_config_fits (due q) (drop i s) last c (at_place ∙ p), length-drop i s)

  pub one_config : (c : Config) (p : State) → x ≡ Next.Config c → p ≡ opened q c 36 → Field style q s i last d to d p (i + 36) to None
  one_config c p e o = subst (λ (z : State). Field style q s i last d to d z (i + 36) to None) (sym o) (36, [], passes)
    where
      passes : Passes style q s i last d to d (opened q c 36) (i + 36) to 36 []
      passes =
          record {
            run = λ at room h.
                ap (run_of style q room) (scanned at (Next.Config c) e)
                ∙ run_starts style q room h c 36 (scan last false (at + i + 36) (drop 36 (drop i s)))
                ∙ ap (λ (l : Fields). after [] 36 (run_of style (opened q c 36) room l)) (behind at 36)
                ∙ ap (λ (k : ℕ). after [] 36 (run_of style (opened q c 36) k (scan last false (at + (i + 36)) (drop (i + 36) s)))) (sym (sub-zero room));
            wrote = wrote_nothing;
            short = omega arith;
            place = refl;
            ahead = omega arith;
            within = omega (arith, config_fits c e, inside);
          }

  -- the bytes of the event's field
  abbrev field_of : ℕ → List ℕ
  field_of n = take n (take (length s - i) (drop i s))

  -- whatever is told of them is told of the log's
  pub same_event : {A : Type 0} (told : List ℕ → A) (n : ℕ) → told (field_of n) ≡ told (take n (drop i s))
  same_event told n = ap (λ (u : List ℕ). told (take n u)) (part_all s i)

  pub field_length : (e : Event) (n : ℕ) → x ≡ Next.Event e n → n ≡ length (field_of n)
  field_length e n p =
      let (_, b) = event_fits e n p in
      sym (length-take-le n (take (length s - i) (drop i s)) (omega (arith, b, ap length (part_all s i), length-drop i s)))

  pub field_placed : (e : Event) (n : ℕ) → x ≡ Next.Event e n → Placed (field_of n) e
  field_placed e n p = subst (λ (u : List ℕ). Placed u e) (sym (same_event (λ (u : List ℕ). u) n)) (event_placed e n p)

  -- l is the packet buffer before, and l' after; the packet is what was answered to be sent
  module _ (e : Event) (n : ℕ) (p : x ≡ Next.Event e n) (a : Answer) (l l' : List ℕ) (big : length l ≡ 128) (answers : Answers (port_in q) e l a l') where
    abbrev result : Answered
    result = answer_to (port_in q) e

    same_result : step (port_in q) (length l) e ≡ result
    same_result = ap (λ (k : ℕ). step (port_in q) k e) big

    tells : TellsResult result a
    tells =
        subst (TellsResult result) (sym (answers.0 ∙ ap answer_for same_result)) (answer_tells (port_in q) 128 e)

    packet_is : l' ≡ buffer_after result l
    packet_is = answers.1 ∙ ap (λ (r : Answered). buffer_after r l) same_result

    pub packet_fits : a.length ≤ length l'
    packet_fits =
        let whole : length (buffer_after (step (port_in q) (length l) e) l) ≡ length l = buffer_length (port_in q) e l in
        omega (arith, tells.length_is, sent_fits (port_in q) 128 e, big, ap length answers.1, whole)

    -- the bytes of the packet are what is sent
    sent_is : take a.length l' ≡ result.sent
    unfolding buffer_after
    sent_is = ap (take a.length) packet_is ∙ take_at result.sent (drop (length result.sent) l) a.length (sym tells.length_is)

    pub one_event : (d' : List ℕ) (g : State) (k : ℕ) → Wrote d to (line_for style q.number a (take a.length l')) d' k → g ≡ moved q a.port n → Field style q s i last d to d' g (i + n) k None
    one_event d' g k w o =
        subst (λ (z : State). Field style q s i last d to d' z (i + n) k None) (sym (o ∙ ap (λ (r : Port). moved q r n) tells.port))
        (n, line_of style q.number result, passes)
      where
        passes : Passes style q s i last d to d' (moved q result.port n) (i + n) k n (line_of style q.number result)
        passes =
            record {
              run = λ at room h.
                  ap (run_of style q room) (scanned at (Next.Event e n) p)
                  ∙ run_next style q room h e n (scan last false (at + i + n) (drop n (drop i s)))
                  ∙ ap (λ (l : Fields). after (line_of style q.number result) n (run_of style (moved q result.port n) (room - length (line_of style q.number result)) l)) (behind at n);
              wrote = wrote_as (told_line style q.number result a (take a.length l') tells sent_is) w;
              short = line_fits style q.number q e;
              place = refl;
              ahead = omega (arith, event_fits e n p);
              within = omega (arith, event_fits e n p, inside);
            }

  pub one_more : x ≡ Next.More → Field style q s i last d to d q i to (Some Stop.More)
  one_more e = (
    refl,
    refl,
    (
      [],
      record {
        run = λ at room h. ap (run_of style q room) (scanned at Next.More e) ∙ run_rest style q room h (at + i) (due q) (drop i s);
        wrote = wrote_nothing;
        short = omega arith;
        small = λ _. omega (arith, more_small (due q) (drop i s) last (at_place ∙ e), length-drop i s);
      },
    ),
  )

  pub one_end : (d' : List ℕ) (k : ℕ) → x ≡ Next.End → Wrote d to (last_line style (port_in q)) d' k → Field style q s i last d to d' q i k (Some Stop.Done)
  one_end d' k e w = (
    refl,
    refl,
    (
      last_line style (port_in q),
      record {
        run = λ at room h. ap (run_of style q room) (scanned at Next.End e) ∙ run_good style q room h;
        wrote = w;
        short = omega (arith, last_short style (port_in q));
        small = λ m. absurd (apart (cc m));
      },
    ),
  )

  pub one_bad : (d' : List ℕ) (k : ℕ) → x ≡ Next.Bad → Wrote d to (bad_line q.offset) d' k → Field style q s i last d to d' q i k (Some Stop.Done)
  one_bad d' k e w = (
    refl,
    refl,
    (
      bad_line q.offset,
      record {
        run = λ at room h. ap (run_of style q room) (scanned at Next.Bad e) ∙ run_bad style q room h (at + i);
        wrote = w;
        short = omega (arith, bad_short q.offset);
        small = λ m. absurd (apart (cc m));
      },
    ),
  )
