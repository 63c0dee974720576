-- Every measurement is 01's formula, and each exchange that is completed is measured: for a taken event, what is answered says of the exchange that the event completes what 01 says of it.
use Rattle.std.specs.Prelude.{ℕ, ◌≡◌, ◌++◌, Ok, Err}
use Rattle.rules.specs.Names.{Time, Header, Body, Port, Outcome, Received, ReadError, Reading}
use Rattle.reading.specs.Reading.{read_of}
use Rattle.rules.specs.Worked.{Worked, refused}
use Rattle.rules.specs.Events.{Event, event, general, stamp, sync_timer, delay_timer, filter_answer, set_state, Done}
use Rattle.rules.specs.Rules.{on_event, on_general, stamped, filtered, state_set}
use Rattle.rules.specs.Table.{ours}
use Rattle.rules.specs.WorkedOut.{Sums, no_sums, unfinished, numbers_of, of_reading, event_sums, later_sums, stamp_sums, sums_of}
use Rattle.rules.specs.Step.{viewed, rule_of, step}
use Rattle.rules.specs.Formulas.{Says}
use Rattle.rules.proofs.AgreeLaws.{by_test, agrees_all}
use Rattle.rules.specs.MeasureLaws.{SumsJudged}
use Rattle.rules.specs.SumsLaws.{Open}
use Rattle.rules.proofs.SumsLaws.{fit_open, event_judged, later_judged, stamp_judged}
use Rattle.rules.specs.AllLaws.{All, Silent}
use Rattle.rules.proofs.RuleLaws.{all_sync_timer_ends, all_delay_timer_ends}
use Rattle.rules.proofs.RefusalLaws.{taken_has}

module _ (p : Port) where
  -- what is done says what it should of these sums
  abbrev Said : Sums → Worked Done → Type 0
  Said s w = All (λ d. Says p s.completes d.measurement d.port) w

  agreed : (s : Sums) (w : Worked Done) → SumsJudged p s w → Said s w
  agreed s w a = agrees_all (s.numbers ++ numbers_of p s.completes) _ w a

  read_said : (sums : Header → Body → Time → Sums) (rule : Header → Body → Time → Worked Done) → ((h : Header) (b : Body) (t : Time) → SumsJudged p (sums h b t) (rule h b t)) → (r : Reading) → Said (of_reading no_sums sums r) (viewed p.config r rule)
  read_said sums rule judged (Ok (Received.Message h b t)) =
      by_test (λ o w. Said (sums h b t) w) (ours p.config h) (rule h b t) (refused Outcome.Foreign) (agreed (sums h b t) (rule h b t) (judged h b t)) tt
  read_said sums rule judged (Ok (Received.Host h)) =
      by_test (λ o w. Said no_sums w) (ours p.config h) (refused Outcome.Host) (refused Outcome.Foreign) tt tt
  read_said sums rule judged (Err ReadError.Version) = tt
  read_said sums rule judged (Err ReadError.Malformed) = tt

  rule_said : Open p → (e : Event) → Said (sums_of p e) (rule_of p e)
  unfolding rule_of sums_of filtered state_set
  rule_said o (event at message) = read_said (event_sums p at) (on_event p at) (event_judged p o at) (read_of message)
  rule_said o (general message) = read_said (later_sums p) (on_general p) (later_judged p o) (read_of message)
  rule_said o (stamp at context) = agreed (stamp_sums p at context) (stamped p at context) (stamp_judged p o at context)
  rule_said o sync_timer = all_sync_timer_ends (λ d. Says p unfinished d.measurement d.port) Silent tt tt p (λ m. tt) (λ m n e. tt)
  rule_said o (delay_timer draw) = all_delay_timer_ends (λ d. Says p unfinished d.measurement d.port) Silent tt tt p draw (λ s m. tt) (λ s e m n. tt) (λ m n. tt)
  rule_said o (filter_answer update) = tt
  rule_said o (set_state new) = tt

pub measurement_is : (p : Port) (room : ℕ) (e : Event) → (step p room e).outcome ≡ Outcome.Taken → Says p (sums_of p e).completes (step p room e).measurement (step p room e).port
measurement_is p room e t =
    taken_has p room e (λ r. Says p (sums_of p e).completes r.measurement r.port) (λ fit limits. rule_said p (fit_open p fit) e) t
