-- Demand 1, first part: each number is answered exactly under its condition, for every record, buffer and event, and for any bytes.
use Rattle.std.specs.Prelude.{ℕ, ◌≡◌, Bool, true, false, cond, not, List, [], ◌∷◌, ◌++◌, Result, Ok}
use Rattle.std.proofs.Math.Path.{refl}
use Rattle.std.proofs.Common.{sym, ◌∙◌, ap, subst}
use Rattle.std.proofs.lemmas.Bool.{false≢true, not-false}
use Rattle.rules.specs.Names.{Time, Header, Body, Kind, Mechanism, SlaveState, PortState, Port, Outcome, TimerError, Received, Reading}
use Rattle.time.specs.Units.{time_words, wire}
use Rattle.timers.specs.Timers.{in_draw, delay_timer_of}
use Rattle.timers.proofs.TimerLaws.{sync_in, delay_in}
use Rattle.octets.specs.Bytes.{Bytes}
use Rattle.wire.specs.Layout.{header_of, body_of, timestamp_at, body}
use Rattle.reading.specs.Reading as Wire
use Rattle.reading.specs.ReadingLaws.{version_when, malformed_when, host_when, message_of_bytes, past_row5}
use Rattle.record.specs.Record.{is_master, as_slave}
use Rattle.fitness.specs.Fit.{unfit, draw_out}
use Rattle.fitness.specs.FitLaws.{FitConfig}
use Rattle.fitness.proofs.FitLaws.{config_is, fit_is}
use Rattle.rules.specs.Worked.{Worked, worked, refused, ◌then◌, a_timer}
use Rattle.rules.specs.Events.{Event, event, general, stamp, sync_timer, delay_timer, filter_answer, set_state, Done, answered, nothing}
use Rattle.rules.specs.Rules.{on_event, on_general, stamped, request, sync_timer_ends, delay_timer_ends, filtered, state_set}
use Rattle.rules.specs.Table.{row1, row3, row4, row5, row6, row8, ours, hosts, table, first_hit}
use Rattle.rules.specs.WorkedOut.{Number, Sums, no_sums, numbers_of, outside, of_reading, event_sums, later_sums, stamp_sums, sums_of, worked_out, row7}
use Rattle.rules.specs.Step.{unless, viewed, rule_of, step}
use Rattle.rules.specs.Given.{BytesIn}
use Rattle.rules.specs.AgreeLaws.{Agrees}
use Rattle.rules.proofs.AgreeLaws.{by_test}
use Rattle.rules.specs.Formulas.{Says}
use Rattle.rules.specs.MeasureLaws.{SumsJudged}
use Rattle.rules.proofs.SumsLaws.{fit_open, event_judged, later_judged, stamp_judged}
use Rattle.rules.specs.TableLaws.{outcome_of}

answered_outcome : (p : Port) (w : Worked Done) → (answered p w).outcome ≡ outcome_of w
answered_outcome p (worked d) = refl
answered_outcome p (refused o) = refl

-- a rule that agrees with its numbers answers 7 or 0 by them
agrees_outcome : (ns : List Number) (Says : Done → Type 0) (w : Worked Done) → Agrees ns Says w → outcome_of w ≡ cond (outside ns) Outcome.Range Outcome.Taken
agrees_outcome ns Says (worked d) a = simp a.0
agrees_outcome ns Says (refused o) a = a.0 ∙ simp a.1

-- ---- rows 4 to 8 of a message, whatever its entry's rule is

module _ (p : Port) (l : List ℕ) (bytes : Bytes l) (rule : Header → Body → Time → Worked Done) (sums : Header → Body → Time → Sums) (judged : (h : Header) (b : Body) (t : Time) → SumsJudged p (sums h b t) (rule h b t)) where
  abbrev tests : Reading → Bool
  tests r = outside ((of_reading no_sums sums r).numbers ++ numbers_of p (of_reading no_sums sums r).completes)

  -- the rows' conditions and the reading as variables
  abbrev Rows : Bool → Bool → Kind → Reading → Type 0
  Rows v m k r =
      outcome_of (viewed p.config r rule)
      ≡ cond v Outcome.Version
      (cond m Outcome.Malformed
      (cond (not (ours p.config (header_of l))) Outcome.Foreign
      (cond (hosts k) Outcome.Host (cond (tests r) Outcome.Range Outcome.Taken))))

  shown : (v m : Bool) (k : Kind) → Wire.row4 l ≡ v → Wire.row5 l ≡ m → Wire.kind_in l ≡ k → Rows v m k (Wire.read_of l)
  shown true m k a b c = subst (Rows true m k) (sym (version_when l a)) refl
  shown false true k a b c = subst (Rows false true k) (sym (malformed_when l a b)) refl
  shown false false (Kind.Table t) a b c =
      let h : Header = header_of l in
      let u : Time = time_words (wire (timestamp_at body l)) in
      subst (Rows false false (Kind.Table t)) (sym (message_of_bytes l t bytes a b c))
      (by_test (λ o w. outcome_of w ≡ cond (not o) Outcome.Foreign (cond (tests (Ok (Received.Message h (body_of t l) u))) Outcome.Range Outcome.Taken)) (ours p.config h) _ (refused Outcome.Foreign)
      (agrees_outcome ((sums h (body_of t l) u).numbers ++ numbers_of p (sums h (body_of t l) u).completes) (λ d. Says p (sums h (body_of t l) u).completes d.measurement d.port) (rule h (body_of t l) u) (judged h (body_of t l) u))
      refl)
  shown false false Kind.Host a b c =
      subst (Rows false false Kind.Host) (sym (host_when l a b c))
      (by_test (λ o w. outcome_of w ≡ cond (not o) Outcome.Foreign Outcome.Host) (ours p.config (header_of l)) (refused Outcome.Host) (refused Outcome.Foreign) refl refl)
  shown false false Kind.Reserved a b c = absurd (false≢true (sym (past_row5 l b).a_type ∙ ap Wire.reserved c))

  message_rows : Rows (Wire.row4 l) (Wire.row5 l) (Wire.kind_in l) (Wire.read_of l)
  message_rows = shown (Wire.row4 l) (Wire.row5 l) (Wire.kind_in l) refl refl refl

-- ---- timers: on a fit record, with a draw in its limits, one is always worked out

-- what comes after a timer that there is
timer_taken : (a : Result ℕ TimerError) (ns : ℕ) (next : ℕ → Done) → a ≡ Ok ns → outcome_of (a_timer a then λ n. worked (next n)) ≡ Outcome.Taken
timer_taken a ns next e = ap (λ (x : Result ℕ TimerError). outcome_of (a_timer x then λ n. worked (next n))) e

module _ (p : Port) (fit : unfit p ≡ false) where
  config : FitConfig p.config
  config = config_is p.config (fit_is p fit).config

  sync_timer_there : outcome_of (sync_timer_ends p) ≡ Outcome.Taken
  unfolding sync_timer_ends
  sync_timer_there =
      by_test (λ b w. outcome_of w ≡ Outcome.Taken) (is_master p.state) _ (nothing p)
      (timer_taken _ _ _ (sync_in p.config.sync_interval config.sync))
      refl

  module _ (draw : ℕ) (d : in_draw draw ≡ true) where
    end_to_end : (state : PortState) (next : SlaveState → ℕ → Done) → outcome_of (as_slave state (nothing p) (λ s. a_timer (delay_timer_of p.config.delay_interval draw) then λ n. worked (next s n))) ≡ Outcome.Taken
    end_to_end PortState.Listening next = refl
    end_to_end PortState.Master next = refl
    end_to_end PortState.Passive next = refl
    end_to_end PortState.Faulty next = refl
    end_to_end (PortState.Slave s) next = timer_taken _ _ (next s) (delay_in p.config.delay_interval draw config.delay d)

    requested_taken : (m : Mechanism) → outcome_of (request p draw m) ≡ Outcome.Taken
    requested_taken Mechanism.EndToEnd = end_to_end p.state _
    requested_taken Mechanism.Peer = timer_taken _ _ _ (delay_in p.config.delay_interval draw config.delay d)

  delay_timer_there : (draw : ℕ) → draw_out draw ≡ false → outcome_of (delay_timer_ends p draw) ≡ Outcome.Taken
  unfolding delay_timer_ends draw_out
  delay_timer_there draw d = requested_taken draw (not-false (in_draw draw) d) p.config.mechanism

-- ---- the table

rule_rows : (p : Port) (e : Event) → unfit p ≡ false → row3 e ≡ false → BytesIn e → outcome_of (rule_of p e) ≡ first_hit ((row4 p.config e, Outcome.Version) ∷ (row5 p.config e, Outcome.Malformed) ∷ (row6 p.config e, Outcome.Foreign) ∷ (row8 p.config e, Outcome.Host) ∷ (row7 p e, Outcome.Range) ∷ [])
unfolding rule_of row3 row4 row5 row6 row8 row7 worked_out sums_of filtered state_set
rule_rows p (event at message) fit limits b = message_rows p message b (on_event p at) (event_sums p at) (event_judged p (fit_open p fit) at)
rule_rows p (general message) fit limits b = message_rows p message b (on_general p) (later_sums p) (later_judged p (fit_open p fit))
rule_rows p (stamp at context) fit limits b = agrees_outcome ((stamp_sums p at context).numbers ++ numbers_of p (stamp_sums p at context).completes) (λ d. Says p (stamp_sums p at context).completes d.measurement d.port) (stamped p at context) (stamp_judged p (fit_open p fit) at context)
rule_rows p sync_timer fit limits b = sync_timer_there p fit
rule_rows p (delay_timer draw) fit limits b = delay_timer_there p fit draw limits
rule_rows p (filter_answer update) fit limits b = refl
rule_rows p (set_state new) fit limits b = refl

-- a row in front of others, and the same in the table
in_front : (t : Bool) (o : Outcome) (w : Worked Done) (rest : Outcome) → (t ≡ false → outcome_of w ≡ rest) → outcome_of (cond t (refused o) w) ≡ cond t o rest
in_front true o w rest e = refl
in_front false o w rest e = e refl

-- the answer is the first row whose condition holds
pub first_row : (p : Port) (room : ℕ) (e : Event) → BytesIn e → (step p room e).outcome ≡ first_hit (table p room e)
unfolding step
first_row p room e b =
    let r : Worked Done = rule_of p e in
    let third : Worked Done = unless (row3 e) Outcome.Limits r in
    let second : Worked Done = unless (unfit p) Outcome.Unfit third in
    answered_outcome p (unless (row1 p.config e room) Outcome.Buffer second)
    ∙ in_front (row1 p.config e room) Outcome.Buffer second _ (λ enough.
    in_front (unfit p) Outcome.Unfit third _ (λ fit.
    in_front (row3 e) Outcome.Limits r _ (λ limits.
    rule_rows p e fit limits b)))
