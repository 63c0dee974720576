-- A turn over a window, field by field: what holds between two fields, and what a turn promises once it stops.
use Rattle.std.specs.Prelude.{◌≡◌, ℕ, ◌+◌, ◌-◌, ◌<◌, ◌≤◌, Bool, List, [], ◌++◌, length, drop, refl, Option, Some, None}
use Rattle.std.proofs.Common.{sym, ◌∙◌, ap, subst, append_assoc, append-nil, arith, add-zero, zero-add, add_assoc, lt-ltb, length-append}
use Rattle.std.proofs.Math.Nat.{sub-zero}
use Rattle.streaming.specs.Log.{Fields, starts, next, good, bad, rest, scan}
use Rattle.lines.specs.declared.Style.{Style}
use Rattle.text.specs.Page.{Wrote}
use Rattle.text.specs.PageLaws.{wrote_then, wrote_nothing, wrote_same, wrote_first}
use Rattle.replaying.specs.declared.State.{State}
use Rattle.replaying.specs.declared.Stop.{Stop}
use Rattle.replaying.specs.declared.TurnEnd.{TurnEnd}
use Rattle.replaying.specs.declared.one.Turn.{Turn}
use Rattle.octets.proofs.BytesLaws.{apart}
use Rattle.replaying.specs.Turns.{line_room, due, Run, stopped, after, run_of, Turned, Leaves}
use Rattle.replaying.specs.OneLaws.{Field, One}
use Rattle.replaying.specs.TurnLaws.{Goes, Going, Underway}

-- ---- runs put together

after-after : (w : List ℕ) (n : ℕ) (u : List ℕ) (m : ℕ) (r : Run) → after w n (after u m r) ≡ after (w ++ u) (n + m) r
after-after w n u m r =
    ap (λ (b : List ℕ). record { bytes = b; read = n + (m + r.read); state = r.state; stop = r.stop }) (sym (append_assoc w u r.bytes))
    ∙ ap (λ (k : ℕ). record { bytes = (w ++ u) ++ r.bytes; read = k; state = r.state; stop = r.stop }) (sym (add_assoc n m r.read))

after_none : (r : Run) → after [] 0 r ≡ r
after_none r = ap (λ (k : ℕ). record { bytes = r.bytes; read = k; state = r.state; stop = r.stop }) (zero-add r.read)

-- where no line has room, nothing is done
pub full_run : (style : Style) (p : State) (room : ℕ) (l : Fields) → room < line_room → run_of style p room l ≡ stopped [] p Stop.Full
unfolding run_of
full_run style p room (starts c n l) h = simp (lt-ltb room 1024 h)
full_run style p room (next e n l) h = simp (lt-ltb room 1024 h)
full_run style p room good h = simp (lt-ltb room 1024 h)
full_run style p room (bad n) h = simp (lt-ltb room 1024 h)
full_run style p room (rest n f u) h = simp (lt-ltb room 1024 h)

-- ---- between two fields: w was written, and the run goes on from place i with the state p

pub going_start : (style : Style) (q : State) (s : List ℕ) (last : Bool) (d : List ℕ) → Going style q s last d d q 0 0
going_start style q s last d = (
  [],
  record {
    run = λ at.
        sym (after_none (run_of style q (length d) (scan last (due q) at s)))
        ∙ ap (λ (n : ℕ). after [] 0 (run_of style q n (scan last (due q) at s))) (sym (sub-zero (length d)))
        ∙ ap (λ (n : ℕ). after [] 0 (run_of style q (length d - 0) (scan last (due q) n s))) (sym (add-zero at));
    wrote = wrote_nothing;
    place = refl;
    room = omega arith;
    read = omega arith;
    same = refl;
  },
)

-- the measure of the loop
pub one_ahead : (style : Style) (s : List ℕ) (last : Bool) (d : List ℕ) (p : State) (i to : ℕ) (d' : List ℕ) (x : Option Stop) (p' : State) (j k : ℕ) → Field style p s i last d to d' p' j k x → x ≡ None → (i < j) × (j ≤ length s)
one_ahead style s last d p i to d' x p' j k o e = by (subst (Field style p s i last d to d' p' j k) e o)
  where
    by : Field style p s i last d to d' p' j k None → (i < j) × (j ≤ length s)
    by (n, v, b) = (b.ahead, b.within)

module _ (style : Style) (q : State) (s : List ℕ) (last : Bool) (d d₁ : List ℕ) (p : State) (i to : ℕ) where
  pub going_place : Going style q s last d d₁ p i to → to ≤ length d₁
  going_place (w, g) = omega (arith, g.place, g.room, g.same)

  pub going_read : Going style q s last d d₁ p i to → i ≤ length s
  going_read (w, g) = g.read

  pub going_same : Going style q s last d d₁ p i to → length d₁ ≡ length d
  going_same (w, g) = g.same

  -- how much more was written, and where it ends
  ends_at : (w v d₂ : List ℕ) (k : ℕ) → Goes style q s last d d₁ p i to w → Wrote d₁ to v d₂ k → length v ≤ line_room → to + line_room ≤ length d₁ → (length (w ++ v) ≤ length d) × (k ≡ length (w ++ v)) × (d₂ ≡ (w ++ v) ++ drop (length (w ++ v)) d)
  ends_at w v d₂ k g o short h =
      let fits : length (w ++ v) ≤ length d = omega (arith, length-append w v, g.place, g.same, short, h) in
      let (e, b) = wrote_first (wrote_then g.wrote o) fits in
      (fits, e, b)

  pub going_on : (d₂ : List ℕ) (x : Option Stop) (p' : State) (j k : ℕ) → Going style q s last d d₁ p i to → Field style p s i last d₁ to d₂ p' j k x → x ≡ None → to + line_room ≤ length d₁ → Going style q s last d d₂ p' j k
  going_on d₂ x p' j k (w, g) o e h = on (subst (Field style p s i last d₁ to d₂ p' j k) e o)
    where
      on : Field style p s i last d₁ to d₂ p' j k None → Going style q s last d d₂ p' j k
      on (n, v, b) =
          let (fits, at_end, _) = ends_at w v d₂ k g b.wrote b.short h in (
            w ++ v,
            record {
              run = λ at.
                  g.run at
                  ∙ ap (after w i) (b.run at (length d - length w) (omega (arith, g.place, g.same, h)))
                  ∙ after-after w i v n (run_of style p' (length d - length w - length v) (scan last (due p') (at + j) (drop j s)))
                  ∙ ap (λ (m : ℕ). after (w ++ v) m (run_of style p' (length d - length w - length v) (scan last (due p') (at + j) (drop j s)))) (sym b.place)
                  ∙ ap (λ (m : ℕ). after (w ++ v) j (run_of style p' m (scan last (due p') (at + j) (drop j s)))) (omega (arith, length-append w v));
              wrote = wrote_then g.wrote b.wrote;
              place = at_end;
              room = fits;
              read = b.within;
              same = wrote_same b.wrote ∙ g.same;
            },
          )

  -- ---- the turn's end

  turned : (w v d₂ : List ℕ) (why : Stop) (k : ℕ) → ((at : ℕ) → run_of style q (length d) (scan last (due q) at s) ≡ after w i (stopped v p why)) → k ≡ length (w ++ v) → d₂ ≡ (w ++ v) ++ drop (length (w ++ v)) d → Turned style q s last d (record { state = p; read = i; wrote = k; stop = why }) d₂
  turned w v d₂ why k r e b =
      let x : run_of style q (length d) (scan last (due q) q.offset s) ≡ record { bytes = w ++ v; read = i; state = p; stop = why } =
      r q.offset ∙ ap (λ (n : ℕ). record { bytes = w ++ v; read = n; state = p; stop = why }) (add-zero i) in (
        ap (λ (n : ℕ). record { state = p; read = i; wrote = n; stop = why }) e
            ∙ sym (ap (λ (y : Run). record { state = y.state; read = y.read; wrote = length y.bytes; stop = y.stop }) x),
        b ∙ sym (ap (λ (y : Run). y.bytes ++ drop (length y.bytes) d) x),
      )

  pub going_stop : (d₂ : List ℕ) (x : Option Stop) (why : Stop) (p' : State) (j k : ℕ) → Going style q s last d d₁ p i to → Field style p s i last d₁ to d₂ p' j k x → x ≡ Some why → to + line_room ≤ length d₁ → Turned style q s last d (record { state = p'; read = j; wrote = k; stop = why }) d₂
  going_stop d₂ x why p' j k (w, g) o e h = by (subst (Field style p s i last d₁ to d₂ p' j k) e o)
    where
      by : Field style p s i last d₁ to d₂ p' j k (Some why) → Turned style q s last d (record { state = p'; read = j; wrote = k; stop = why }) d₂
      by (same, still, (v, b)) =
          let (_, at_end, left) = ends_at w v d₂ k g b.wrote b.short h in
          subst (λ (z : State). Turned style q s last d (record { state = z; read = j; wrote = k; stop = why }) d₂) (sym same)
          (subst (λ (z : ℕ). Turned style q s last d (record { state = p; read = z; wrote = k; stop = why }) d₂) (sym still)
          (turned w v d₂ why k (λ at. g.run at ∙ ap (after w i) (b.run at (length d - length w) (omega (arith, g.place, g.same, h)))) at_end left))

  pub going_full : Going style q s last d d₁ p i to → length d₁ - to < line_room → Turned style q s last d (record { state = p; read = i; wrote = to; stop = Stop.Full }) d₁
  going_full (w, g) h =
      let (e, b) = wrote_first g.wrote g.room in
      turned w [] d₁ Stop.Full to
      (λ at. g.run at ∙ ap (after w i) (full_run style p (length d - length w) (scan last (due p) (at + i) (drop i s)) (omega (arith, g.place, g.same, h))))
      (e ∙ ap length (sym (append-nil w)))
      (b ∙ ap (λ (u : List ℕ). u ++ drop (length u) d) (sym (append-nil w)))

  -- ---- what the caller goes on with

  pub stop_leaves : (d₂ : List ℕ) (x : Option Stop) (why : Stop) (p' : State) (j k : ℕ) → Going style q s last d d₁ p i to → Field style p s i last d₁ to d₂ p' j k x → x ≡ Some why → to + line_room ≤ length d₁ → Leaves (length s) (length d) (record { state = p'; read = j; wrote = k; stop = why })
  stop_leaves d₂ x why p' j k (w, g) o e h = by (subst (Field style p s i last d₁ to d₂ p' j k) e o)
    where
      by : Field style p s i last d₁ to d₂ p' j k (Some why) → Leaves (length s) (length d) (record { state = p'; read = j; wrote = k; stop = why })
      by (_, still, (v, b)) =
          let (fits, at_end, _) = ends_at w v d₂ k g b.wrote b.short h in
          record { read = omega (arith, still, g.read); wrote = omega (arith, fits, at_end); small = λ m. omega (arith, still, b.small m) }

  pub full_leaves : Going style q s last d d₁ p i to → Leaves (length s) (length d) (record { state = p; read = i; wrote = to; stop = Stop.Full })
  full_leaves (w, g) = record { read = g.read; wrote = omega (arith, g.place, g.room); small = λ m. absurd (apart (cc m)) }

-- ---- a turn, as the code has it

abbrev pub ended : Turn → Stop → TurnEnd
ended t why = record { state = t.state; read = t.read; wrote = t.wrote; stop = why }

-- what a turn promises of its answer
abbrev pub Ends : Style → State → List ℕ → Bool → List ℕ → TurnEnd → List ℕ → Type 0
Ends style q s last d r d' = Turned style q s last d r d' × Leaves (length s) (length d) r

module _ (style : Style) (q : State) (s : List ℕ) (last : Bool) (d d₁ : List ℕ) (t : Turn) (u : Underway style q s last d t d₁) where
  pub under_place : t.wrote ≤ length d₁
  under_place = going_place style q s last d d₁ t.state t.read t.wrote u.going

  pub under_read : t.read ≤ length t.s.now
  under_read = omega (arith, going_read style q s last d d₁ t.state t.read t.wrote u.going, ap length u.same_window)

  pub under_same : length d₁ ≡ length d
  under_same = going_same style q s last d d₁ t.state t.read t.wrote u.going

  module _ (d₂ : List ℕ) (t' : Turn) where
    field_at : (r : Option Stop) → One t d₁ t' d₂ r → Field style t.state s t.read last d₁ t.wrote d₂ t'.state t'.read t'.wrote r
    field_at r o =
        subst (λ (z : Style). Field z t.state s t.read last d₁ t.wrote d₂ t'.state t'.read t'.wrote r) u.same_style
        (subst (λ (z : List ℕ). Field t.style t.state z t.read last d₁ t.wrote d₂ t'.state t'.read t'.wrote r) u.same_window
        (subst (λ (z : Bool). Field t.style t.state t.s.now t.read z d₁ t.wrote d₂ t'.state t'.read t'.wrote r) u.same_last o.field))

    -- the measure of the loop
    pub under_ahead : One t d₁ t' d₂ None → (t.read < t'.read) × (t'.read ≤ length s)
    under_ahead o = one_ahead style s last d₁ t.state t.read t.wrote d₂ None t'.state t'.read t'.wrote (field_at None o) refl

    pub under_on : One t d₁ t' d₂ None → t.wrote + line_room ≤ length d₁ → Underway style q s last d t' d₂
    under_on o h =
        record {
          same_style = o.style ∙ u.same_style;
          same_window = o.window ∙ u.same_window;
          same_last = o.last ∙ u.same_last;
          going = going_on style q s last d d₁ t.state t.read t.wrote d₂ None t'.state t'.read t'.wrote u.going (field_at None o) refl h;
        }

    pub under_stops : (why : Stop) (r : TurnEnd) → One t d₁ t' d₂ (Some why) → t.wrote + line_room ≤ length d₁ → r ≡ ended t' why → Ends style q s last d r d₂
    under_stops why r o h e =
        subst (λ (z : TurnEnd). Ends style q s last d z d₂) (sym e) (
          going_stop style q s last d d₁ t.state t.read t.wrote d₂ (Some why) why t'.state t'.read t'.wrote u.going (field_at (Some why) o) refl h,
          stop_leaves style q s last d d₁ t.state t.read t.wrote d₂ (Some why) why t'.state t'.read t'.wrote u.going (field_at (Some why) o) refl h,
        )

  pub under_full : (r : TurnEnd) → length d₁ - t.wrote < line_room → r ≡ ended t Stop.Full → Ends style q s last d r d₁
  under_full r h e =
      subst (λ (z : TurnEnd). Ends style q s last d z d₁) (sym e) (
        going_full style q s last d d₁ t.state t.read t.wrote u.going h,
        full_leaves style q s last d d₁ t.state t.read t.wrote u.going,
      )
