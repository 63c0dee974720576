-- What the laws of proofs/Marked.antt speak of.
use Rattle.std.specs.Prelude.{◌-◌, ◌*◌, ◌^◌, [], ◌∷◌, pos, negsuc}
use Rattle.wire.specs.Layout.{two_step_flag}
use Rattle.sent.specs.Messages.{no_flag}
use Rattle.record.specs.Record.{with_state}
use Rattle.rules.specs.Names.{PortState}
use Rattle.rules.specs.Events.{event, general, sync_timer, delay_timer}
use Rattle.rules.specs.Exchanges.{sent_at}
use Rattle.rules.specs.Running.{master, ns, lasting, slave, two_step_sync_of, one_step_sync_of, follow_up_at}
use Rattle.rules.specs.Examples.{MeasuresSync, LeavesOpen, Asymmetric, ids_at, TakesLast, TimerIs}
use Rattle.rules.specs.ExamplesPeer.{asker, answer, answer_follow_up, half_ns, MeasuresPeer, MeasuresOneStep, early, later}

-- ---- document 01's marked examples, one statement

pub record Marked : Type 0 where
  pub A : MeasuresSync (event (ns 1000) (two_step_sync_of 7) ∷ general (follow_up_at 7 900) ∷ [])
  pub B : MeasuresSync (general (follow_up_at 7 900) ∷ event (ns 1000) (two_step_sync_of 7) ∷ [])
  pub C : LeavesOpen (general (follow_up_at 7 900) ∷ event (ns 1000) (one_step_sync_of 7 950) ∷ []) (sent_at 7 (ns 900))
  pub D : LeavesOpen (event (ns 1000) (two_step_sync_of 7) ∷ general (follow_up_at 8 900) ∷ []) (sent_at 8 (ns 900))
  pub E : MeasuresPeer (event (ns 1101) (answer master two_step_flag 0) ∷ general (answer_follow_up master 5040) ∷ []) (ns 1101)
  pub F : MeasuresOneStep (ns 1101) (answer master no_flag (40 * 2 ^ 16)) (ns 1061) (pos (61 * half_ns))
  pub G : Asymmetric 10 (lasting 90) (lasting 0) (lasting 45)
  pub H : MeasuresOneStep early (answer master no_flag 0) early (negsuc 0) × MeasuresOneStep later (answer master no_flag 0) later (pos 1)
  pub I : TakesLast (slave 0) (delay_timer 0) (ids_at 65535 0 65535) × TakesLast asker (delay_timer 0) (ids_at 65535 65535 0) × TakesLast (with_state (slave 0) PortState.Master) sync_timer (ids_at 0 65535 65535)
  pub J : TimerIs (2 ^ 51 - 1) 1000000000
