-- Worked examples of the peer exchange on the whole port, each computed from the bytes of its messages.
use Rattle.std.specs.Prelude.{◌*◌, ◌^◌, ◌≡◌, refl, true, false, [], ◌∷◌, pos, negsuc}
use Rattle.wire.specs.Layout.{two_step_flag}
use Rattle.sent.specs.Messages.{no_flag}
use Rattle.record.specs.Record.{state_number}
use Rattle.rules.specs.Names.{Measurement}
use Rattle.rules.specs.Events.{event, general}
use Rattle.rules.specs.Running.{run_of, lines, quiet, measures, left_by, resets_in, master, stranger, ns, in_units}
use Rattle.rules.specs.ExamplesPeer.{asker, asked, answer, answer_follow_up, half_ns, MeasuresPeer, MeasuresOneStep, early, later, two_answers, recovering}

-- ---- a request of id 0, stamped at 1,000 ns, and what may answer it

-- E, and the same with the follow-up first
pub peer_two_step : MeasuresPeer (event (ns 1101) (answer master two_step_flag 0) ∷ general (answer_follow_up master 5040) ∷ []) (ns 1101)
unfolding run_of
peer_two_step = refl

pub peer_follow_up_first : MeasuresPeer (general (answer_follow_up master 5040) ∷ event (ns 1101) (answer master two_step_flag 0) ∷ []) (ns 1101)
unfolding run_of
peer_follow_up_first = refl

pub peer_one_step : MeasuresOneStep (ns 1101) (answer master no_flag (40 * 2 ^ 16)) (ns 1061) (pos (61 * half_ns))
unfolding run_of
peer_one_step = refl

pub half_of_minus_3 : MeasuresOneStep early (answer master no_flag 0) early (negsuc 0)
unfolding run_of
half_of_minus_3 = refl

pub half_of_3 : MeasuresOneStep later (answer master no_flag 0) later (pos 1)
unfolding run_of
half_of_3 = refl

-- ---- slips

-- a one-step response sets the response's send time to the request's receive time, over the follow-up's that stood there
pub overwrites : lines (run_of asker (asked (general (answer_follow_up master 6000) ∷ event (ns 1061) (answer master no_flag 0) ∷ []))) ≡ quiet ∷ quiet ∷ quiet ∷ measures (Measurement.Peer (ns 1061) (in_units (pos (61 * half_ns)))) ∷ []
unfolding run_of
overwrites = refl

pub second_responder_lem : (state_number (left_by asker (run_of asker two_answers)).state ≡ 3) × (resets_in (run_of asker two_answers) ≡ false ∷ false ∷ false ∷ true ∷ [])
unfolding run_of
second_responder_lem = (refl, refl)

pub recovered_from : (lines (run_of asker recovering) ≡ quiet ∷ quiet ∷ quiet ∷ quiet ∷ measures (Measurement.Peer (ns 1101) (in_units (pos (61 * half_ns)))) ∷ []) × (state_number (left_by asker (run_of asker recovering)).state ≡ 0) × (resets_in (run_of asker recovering) ≡ false ∷ false ∷ false ∷ true ∷ true ∷ [])
unfolding run_of
recovered_from = (refl, refl, refl)

-- also where the exchange is measured; a duplicate of the first responder does nothing
pub second_after : (state_number (left_by asker (run_of asker (asked (event (ns 1061) (answer master no_flag 0) ∷ event (ns 1101) (answer stranger no_flag 0) ∷ [])))).state ≡ 3) × (lines (run_of asker (asked (event (ns 1061) (answer master no_flag 0) ∷ event (ns 1101) (answer master no_flag 0) ∷ []))) ≡ quiet ∷ quiet ∷ measures (Measurement.Peer (ns 1061) (in_units (pos (61 * half_ns)))) ∷ quiet ∷ [])
unfolding run_of
second_after = (refl, refl)
