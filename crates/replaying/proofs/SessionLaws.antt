-- Turns put together: what a session has written when it ends is what the whole log writes.
use Rattle.std.specs.Prelude.{◌≡◌, ℕ, ◌+◌, ◌%◌, ◌^◌, ◌≤◌, Bool, true, false, List, [], ◌∷◌, ◌++◌, length, drop, ◌≢◌, Option, Some, None}
use Rattle.std.proofs.Math.Path.{refl, ap}
use Rattle.std.proofs.Common.{sym, ◌∙◌, subst, append_assoc, append-nil, arith, add-zero, add_assoc, length-drop, drop-drop}
use Rattle.std.proofs.Math.Nat.{mod-add-mod}
use Rattle.std.proofs.lemmas.List.{drop-append-le}
use Rattle.record.specs.declared.Config.{Config}
use Rattle.record.specs.declared.Port.{Port}
use Rattle.record.specs.Record.{port_of}
use Rattle.octets.proofs.BytesLaws.{apart}
use Rattle.event_log.specs.Told.{Next}
use Rattle.event_log.specs.Fields.{front_of}
use Rattle.streaming.specs.Log.{next, scan}
use Rattle.streaming.specs.Streaming.{joined}
use Rattle.streaming.specs.FrontLaws.{Steady, steady}
use Rattle.streaming.proofs.StreamingLaws.{scan_at}
use Rattle.lines.specs.declared.Style.{Style}
use Rattle.lines.specs.Lines.{line_of, bad_line, last_line}
use Rattle.replaying.specs.declared.State.{State}
use Rattle.replaying.specs.declared.Stop.{Stop}
use Rattle.replaying.specs.Replay.{answer_to}
use Rattle.replaying.specs.Turns.{due, port_in, opened, moved, Run, stopped, after, run_over}
use Rattle.replaying.specs.Sessions.{start_of, ahead, goes_on, session, WritesTheLines}
use Rattle.replaying.specs.WritesLaws.{writes}
use Rattle.replaying.proofs.WritesLaws.{writes_lines}
use Rattle.replaying.specs.RunLaws.{Steps}
use Rattle.replaying.proofs.RunLaws.{every}
use Rattle.replaying.specs.SessionLaws.{Tracks}

-- ---- a state and the counts that it stands for

tracks_opened : (q : State) (n at k : ℕ) (c : Config) → Tracks q n at → Tracks (opened q c k) n (at + k)
tracks_opened q n at k c t =
    record { number = t.number; offset = ap (λ (x : ℕ). (x + k) % 2 ^ 64) t.offset ∙ mod-add-mod at (2 ^ 64) k }

tracks_moved : (q : State) (n at k : ℕ) (p : Port) → Tracks q n at → Tracks (moved q p k) (n + 1) (at + k)
tracks_moved q n at k p t =
    record {
      number = ap (λ (x : ℕ). (x + 1) % 2 ^ 64) t.number ∙ mod-add-mod n (2 ^ 64) 1;
      offset = ap (λ (x : ℕ). (x + k) % 2 ^ 64) t.offset ∙ mod-add-mod at (2 ^ 64) k;
    }

-- ---- one turn over the window s, where t is all that follows it; nothing does where the window is the last

module _ (style : Style) (t : List ℕ) (last : Bool) (closed : last ≡ true → t ≡ []) where
  -- what was read stays what it is with t behind it
  steady_is : (f : Bool) (s : List ℕ) (x : Next) → (x ≢ Next.More) → Steady x f s t true → front_of f (s ++ t) true ≡ x
  steady_is f s (Next.Config c) m h = h
  steady_is f s (Next.Event e n) m h = h
  steady_is f s Next.More m h = absurd (m refl)
  steady_is f s Next.End m h = absurd h
  steady_is f s Next.Bad m h = h

  front_stays : (f : Bool) (s : List ℕ) (x : Next) → front_of f s last ≡ x → (x ≢ Next.More) → front_of f (s ++ t) true ≡ x
  front_stays f s x e m = by last refl
    where
      by : (b : Bool) → last ≡ b → front_of f (s ++ t) true ≡ x
      by true l =
          ap (λ (u : List ℕ). front_of f (s ++ u) true) (closed l) ∙ ap (λ (u : List ℕ). front_of f u true) (append-nil s) ∙ ap (front_of f s) (sym l) ∙ e
      by false l =
          let g : front_of f s false ≡ x = ap (front_of f s) (sym l) ∙ e in
          steady_is f s x m (subst (λ (y : Next). Steady y f s t true) g (steady f s t true))

  -- what is written from a state on, for a log that goes on with s and then t
  abbrev pub to_come : State → ℕ → ℕ → List ℕ → List ℕ
  to_come q n at s = writes style (port_in q) n (scan true (due q) at (s ++ t))

  -- after a run x over s
  abbrev pub Continues : State → ℕ → ℕ → List ℕ → Run → Type 0
  Continues q n at s x =
      (m : ℕ) × (Tracks x.state m (at + x.read)) × (x.read ≤ length s) × (to_come q n at s ≡ x.bytes ++ to_come x.state m (at + x.read) (drop x.read s))

  abbrev pub By : Stop → State → ℕ → ℕ → List ℕ → Run → Type 0
  By Stop.Full q n at s x = Continues q n at s x
  By Stop.More q n at s x = Continues q n at s x
  By Stop.Done q n at s x = to_come q n at s ≡ x.bytes

  -- a run that did nothing
  still : (q : State) (n at : ℕ) (s : List ℕ) (why : Stop) → Tracks q n at → Continues q n at s (stopped [] q why)
  still q n at s why h =
      (n, subst (Tracks q n) (sym (add-zero at)) h, omega arith, ap (λ (k : ℕ). to_come q n k s) (sym (add-zero at)))

  -- a field of k bytes, for which w is written, before the rest of the run
  before : (q p : State) (n m at k : ℕ) (s w : List ℕ) (x : Run) → k ≤ length s → to_come q n at s ≡ w ++ to_come p m (at + k) (drop k s) → By x.stop p m (at + k) (drop k s) x → By x.stop q n at s (after w k x)
  before q p n m at k s w x h e = by x.stop
    where
      far : Continues p m (at + k) (drop k s) x → Continues q n at s (after w k x)
      far (i, g, r, y) = (
        i,
        subst (Tracks x.state i) (add_assoc at k x.read) g,
        omega (arith, length-drop k s, r, h),
        e
            ∙ ap (λ (u : List ℕ). w ++ u) y
            ∙ sym (append_assoc w x.bytes (to_come x.state i (at + k + x.read) (drop x.read (drop k s))))
            ∙ ap (λ (j : ℕ). (w ++ x.bytes) ++ to_come x.state i j (drop x.read (drop k s))) (add_assoc at k x.read)
            ∙ ap (λ (u : List ℕ). (w ++ x.bytes) ++ to_come x.state i (at + (k + x.read)) u) (drop-drop x.read k s),
      )

      by : (why : Stop) → By why p m (at + k) (drop k s) x → By why q n at s (after w k x)
      by Stop.Full g = far g
      by Stop.More g = far g
      by Stop.Done g = e ∙ ap (λ (u : List ℕ). w ++ u) g

  -- ---- the whole log, told by the front of the window

  starts_with : (q : State) (n at : ℕ) (s : List ℕ) (c : Config) → front_of (due q) s last ≡ Next.Config c → 36 ≤ length s → to_come q n at s ≡ to_come (opened q c 36) n (at + 36) (drop 36 s)
  unfolding writes
  starts_with q n at s c e h =
      ap (writes style (port_in q) n) (scan_at true (due q) at (s ++ t) (Next.Config c) (front_stays (due q) s (Next.Config c) e (λ p. apart (cc p))))
      ∙ ap (λ (u : List ℕ). writes style (port_of c) n (scan true false (at + 36) u)) (drop-append-le 36 s t h)

  goes_on_with : (q : State) (n at : ℕ) (s : List ℕ) (e : _) (k : ℕ) → Tracks q n at → front_of (due q) s last ≡ Next.Event e k → k ≤ length s
      → to_come q n at s ≡ line_of style q.number (answer_to (port_in q) e) ++ to_come (moved q (answer_to (port_in q) e).port k) (n + 1) (at + k) (drop k s)
  unfolding writes
  goes_on_with q n at s e k g x h =
      ap (writes style (port_in q) n) (scan_at true (due q) at (s ++ t) (Next.Event e k) (front_stays (due q) s (Next.Event e k) x (λ p. apart (cc p))))
      ∙ ap (λ (u : List ℕ). writes style (port_in q) n (next e k (scan true false (at + k) u))) (drop-append-le k s t h)
      ∙ ap (λ (i : ℕ). line_of style i (answer_to (port_in q) e) ++ writes style (answer_to (port_in q) e).port (n + 1) (scan true false (at + k) (drop k s ++ t))) (sym g.number)

  good_end : (q : State) (n at : ℕ) (s : List ℕ) → front_of (due q) s last ≡ Next.End → to_come q n at s ≡ last_line style (port_in q)
  unfolding writes
  good_end q n at s e =
      ap (writes style (port_in q) n) (scan_at true (due q) at (s ++ t) Next.End (front_stays (due q) s Next.End e (λ p. apart (cc p))))

  bad_end : (q : State) (n at : ℕ) (s : List ℕ) → Tracks q n at → front_of (due q) s last ≡ Next.Bad → to_come q n at s ≡ bad_line q.offset
  unfolding writes
  bad_end q n at s g e =
      ap (writes style (port_in q) n) (scan_at true (due q) at (s ++ t) Next.Bad (front_stays (due q) s Next.Bad e (λ p. apart (cc p))))
      ∙ ap bad_line (sym g.offset)

  -- ---- a run over the window: it goes on, or has written all

  abbrev pub Good : State → ℕ → ℕ → List ℕ → Run → Type 0
  Good q n at s x = By x.stop q n at s x

  -- of every run over the window, from whatever counts its state stands for
  abbrev Told : State → ℕ → List ℕ → Run → Type 0
  Told q room s x = (n at : ℕ) → Tracks q n at → Good q n at s x

  told_steps : Steps style last Told
  told_steps =
      record {
        full = λ q room s h n at g. still q n at s Stop.Full g;
        config = λ q room s c e fits x go n at g.
            before q (opened q c 36) n n at 36 s [] x fits (starts_with q n at s c e fits) (go n (at + 36) (tracks_opened q n at 36 c g));
        event = λ q room s e k f three fits x go n at g.
            before q (moved q (answer_to (port_in q) e).port k) n (n + 1) at k s (line_of style q.number (answer_to (port_in q) e)) x fits (goes_on_with q n at s e k g f fits)
            (go (n + 1) (at + k) (tracks_moved q n at k (answer_to (port_in q) e).port g));
        more = λ q room s e n at g. still q n at s Stop.More g;
        good_end = λ q room s e n at g. good_end q n at s e;
        bad_end = λ q room s e n at g. bad_end q n at s g e;
      }

  pub window : (q : State) (n at room : ℕ) (s : List ℕ) → Tracks q n at → Good q n at s (run_over style q s last room)
  window q n at room s g = every style last Told told_steps q room q.offset s n at g

-- ---- a session

ahead-some : (b : List ℕ) (o : Option (List ℕ)) (w : List ℕ) → ahead b o ≡ Some w → (v : List ℕ) × (o ≡ Some v) × (w ≡ b ++ v)
ahead-some b None w e = absurd (apart (cc e))
ahead-some b (Some v) w e = let f : b ++ v ≡ w = cc e in (v, refl, sym f)

module _ (style : Style) where
  -- a session that ends has written what was to come
  abbrev Writes : List ℕ → Type 0
  Writes rooms =
      (q : State) (u : List ℕ) (last : Bool) (ps : List (List ℕ)) (w : List ℕ) (n at : ℕ) → (last ≡ true → joined ps ≡ []) → Tracks q n at → session style rooms q u last ps ≡ Some w → w ≡ writes style (port_in q) n (scan true (due q) at (u ++ joined ps))

  turn_writes : (rooms : List ℕ) (room : ℕ) → Writes rooms → (q : State) (u : List ℕ) (last : Bool) (ps : List (List ℕ)) (closed : last ≡ true → joined ps ≡ []) (w : List ℕ) (n at : ℕ)
      → (why : Stop) → By style (joined ps) last closed why q n at u (run_over style q u last room) → goes_on why (run_over style q u last room) u last ps (session style rooms) ≡ Some w → w ≡ writes style (port_in q) n (scan true (due q) at (u ++ joined ps))
  turn_writes rooms room ih q u last ps closed w n at Stop.Full (m, g, r, y) e =
      let x : Run = run_over style q u last room in
      let (v, o, f) = ahead-some x.bytes (session style rooms x.state (drop x.read u) last ps) w e in
      f ∙ ap (λ (z : List ℕ). x.bytes ++ z) (ih x.state (drop x.read u) last ps v m (at + x.read) closed g o) ∙ sym y
  turn_writes rooms room ih q u last (p ∷ ps) closed w n at Stop.More (m, g, r, y) e =
      let x : Run = run_over style q u last room in
      let (v, o, f) = ahead-some x.bytes (session style rooms x.state (drop x.read u ++ p) false ps) w e in
      f
      ∙ ap (λ (z : List ℕ). x.bytes ++ z) (ih x.state (drop x.read u ++ p) false ps v m (at + x.read) (λ l. absurd (apart (cc l))) g o)
      ∙ ap (λ (z : List ℕ). x.bytes ++ writes style (port_in x.state) m (scan true (due x.state) (at + x.read) z)) (append_assoc (drop x.read u) p (joined ps))
      ∙ sym y
  turn_writes rooms room ih q u last [] closed w n at Stop.More (m, g, r, y) e =
      let x : Run = run_over style q u last room in
      let (v, o, f) = ahead-some x.bytes (session style rooms x.state (drop x.read u) true []) w e in
      f ∙ ap (λ (z : List ℕ). x.bytes ++ z) (ih x.state (drop x.read u) true [] v m (at + x.read) (λ l. refl) g o) ∙ sym y
  turn_writes rooms room ih q u last ps closed w n at Stop.Done y e =
      let f : (run_over style q u last room).bytes ≡ w = cc e in sym f ∙ sym y

  session_by : (rooms : List ℕ) → Writes rooms
  unfolding session
  session_by [] q u last ps w n at closed g e = absurd (apart (cc e))
  session_by (room ∷ rooms) q u last ps w n at closed g e =
      turn_writes rooms room (session_by rooms) q u last ps closed w n at (run_over style q u last room).stop (window style (joined ps) last closed q n at room u g) e

  -- THE THEOREM: in whatever pieces a log comes, and whatever room there is in each turn, a session that ends has written the lines of the whole log
  pub session_writes : (rooms : List ℕ) (ps : List (List ℕ)) (w : List ℕ) → WritesTheLines style rooms ps w
  unfolding start_of
  session_writes rooms ps w e =
      session_by rooms start_of [] false ps w 1 0 (λ l. absurd (apart (cc l))) (record { number = refl; offset = refl }) e ∙ writes_lines style (port_in start_of) (joined ps)
