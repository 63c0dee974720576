-- A session comes to an end: each turn reads a field, wants a piece, or is done.
use Rattle.std.specs.Prelude.{◌≡◌, ℕ, suc, ◌-◌, ◌<◌, ◌≤◌, Bool, true, false, cond, List, [], ◌∷◌, ◌++◌, length, drop, Option, Some}
use Rattle.std.proofs.Math.Path.{refl}
use Rattle.std.proofs.Common.{◌∙◌, ap, arith, length-drop, length-append}
use Rattle.octets.proofs.BytesLaws.{apart}
use Rattle.streaming.specs.Streaming.{joined}
use Rattle.streaming.proofs.StreamingLaws.{more_open}
use Rattle.lines.specs.declared.Style.{Style}
use Rattle.lines.specs.Lines.{line_of}
use Rattle.replaying.specs.declared.State.{State}
use Rattle.replaying.specs.declared.Stop.{Stop}
use Rattle.replaying.specs.Replay.{answer_to}
use Rattle.replaying.specs.Turns.{line_room, due, port_in, Run, stopped, after, run_over}
use Rattle.replaying.specs.Sessions.{start_of, ahead, goes_on, session, Roomy, turns_for, WritesAll}
use Rattle.replaying.specs.RunLaws.{Steps}
use Rattle.replaying.proofs.RunLaws.{every}
use Rattle.replaying.proofs.SessionLaws.{session_writes}

-- ---- what a turn comes to

module _ (style : Style) (last : Bool) where
  pub record Turns (s : List ℕ) (room : ℕ) (x : Run) : Type 0 where
    pub within : x.read ≤ length s
    pub reads : x.stop ≡ Stop.Full → line_room ≤ room → 0 < x.read
    pub wants : x.stop ≡ Stop.More → last ≡ false

  -- a field of k bytes before the rest of the run
  further : (s : List ℕ) (room less k : ℕ) (w : List ℕ) (x : Run) → 3 ≤ k → k ≤ length s → Turns (drop k s) less x → Turns s room (after w k x)
  further s room less k w x three fits t =
      record {
        within = omega (arith, fits, t.within, length-drop k s);
        reads = λ _ _. omega (arith, three);
        wants = t.wants;
      }

  halted : (s : List ℕ) (room : ℕ) (w : List ℕ) (q : State) → Turns s room (stopped w q Stop.Done)
  halted s room w q =
      record { within = omega arith; reads = λ e. absurd (apart (cc e)); wants = λ e. absurd (apart (cc e)) }

  turn_steps : Steps style last (λ q room s x. Turns s room x)
  turn_steps =
      record {
        full = λ q room s h. record { within = omega arith; reads = λ _ g. absurd (omega (arith, h, g)); wants = λ e. absurd (apart (cc e)) };
        config = λ q room s c e fits x t. further s room room 36 [] x (omega arith) fits t;
        event = λ q room s e k f three fits x t.
            let w : List ℕ = line_of style q.number (answer_to (port_in q) e) in
            further s room (room - length w) k w x three fits t;
        more = λ q room s e. record { within = omega arith; reads = λ p. absurd (apart (cc p)); wants = λ _. more_open (due q) s last e };
        good_end = λ q room s e. halted s room _ q;
        bad_end = λ q room s e. halted s room _ q;
      }

  turns : (q : State) (room : ℕ) (s : List ℕ) → Turns s room (run_over style q s last room)
  turns q room s = every style last (λ q room s x. Turns s room x) turn_steps q room q.offset s

-- ---- enough of them

ahead_is : (b : List ℕ) (o : Option (List ℕ)) → ((v : List ℕ) × (o ≡ Some v)) → (w : List ℕ) × (ahead b o ≡ Some w)
ahead_is b o (v, e) = (b ++ v, ap (ahead b) e)

module _ (style : Style) where
  abbrev Ends : List ℕ → Type 0
  Ends rooms =
      (q : State) (u : List ℕ) (last : Bool) (ps : List (List ℕ)) → (last ≡ true → ps ≡ []) → turns_for u last ps < length rooms → (w : List ℕ) × (session style rooms q u last ps ≡ Some w)

  next_turn : (rooms : List ℕ) (room : ℕ) → line_room ≤ room → Ends rooms → (q : State) (u : List ℕ) (last : Bool) (ps : List (List ℕ)) → (last ≡ true → ps ≡ []) → turns_for u last ps < suc (length rooms)
      → (why : Stop) → (run_over style q u last room).stop ≡ why → (w : List ℕ) × (goes_on why (run_over style q u last room) u last ps (session style rooms) ≡ Some w)
  next_turn rooms room h ih q u last ps closed m Stop.Full e =
      let x : Run = run_over style q u last room in
      let t = turns style last q room u in
      ahead_is x.bytes (session style rooms x.state (drop x.read u) last ps)
      (ih x.state (drop x.read u) last ps closed (omega (arith, t.within, t.reads e h, m, length-drop x.read u)))
  next_turn rooms room h ih q u last (p ∷ ps) closed m Stop.More e =
      let x : Run = run_over style q u last room in
      let t = turns style last q room u in
      let still_open : ◌≡◌ {A = ℕ} (cond last 0 1) 1 = ap (λ (b : Bool). cond {A = ℕ} b 0 1) (t.wants e) in
      ahead_is x.bytes (session style rooms x.state (drop x.read u ++ p) false ps)
      (ih x.state (drop x.read u ++ p) false ps (λ l. absurd (apart (cc l)))
      (omega (arith, t.within, m, still_open, length-drop x.read u, length-append (drop x.read u) p, length-append p (joined ps))))
  next_turn rooms room h ih q u last [] closed m Stop.More e =
      let x : Run = run_over style q u last room in
      let t = turns style last q room u in
      let still_open : ◌≡◌ {A = ℕ} (cond last 0 1) 1 = ap (λ (b : Bool). cond {A = ℕ} b 0 1) (t.wants e) in
      ahead_is x.bytes (session style rooms x.state (drop x.read u) true [])
      (ih x.state (drop x.read u) true [] (λ _. refl) (omega (arith, t.within, m, still_open, length-drop x.read u)))
  next_turn rooms room h ih q u last ps closed m Stop.Done e = ((run_over style q u last room).bytes, refl)

  ends_by : (rooms : List ℕ) → Roomy rooms → Ends rooms
  unfolding session
  ends_by [] h q u last ps closed m = absurd (omega (arith, m))
  ends_by (room ∷ rooms) (h, more) q u last ps closed m =
      next_turn rooms room h (ends_by rooms more) q u last ps closed m (run_over style q u last room).stop refl

  -- THE THEOREM: with room for a line in each turn, and more turns than bytes and pieces, all is written, and it is the lines of the whole log
  pub session_ends : (rooms : List ℕ) (ps : List (List ℕ)) → WritesAll style rooms ps
  session_ends rooms ps h m =
      let (w, e) = ends_by rooms h start_of [] false ps (λ l. absurd (apart (cc l))) m in
      e ∙ ap Some (session_writes style rooms ps w e)
