-- What a taken event changes of configuration, ids and mean delay, as `Changes` says it; and what is there once a state is set.
use Rattle.std.specs.Prelude.{◌≡◌, refl, Bool, true, false, cond, ℕ, Option, Some, None}
use Rattle.std.proofs.Common.{sym, ap, ◌∙◌}
use Rattle.record.specs.Ids.{id_after}
use Rattle.record.specs.Record.{is_master, is_slave, with_sync, with_delay, with_slave, with_peer, with_state, slave_of}
use Rattle.rules.specs.Names.{Identity, PortState, Port, NewState, Outcome, Duration}
use Rattle.rules.specs.Worked.{worked}
use Rattle.rules.specs.Events.{Event, event, general, stamp, sync_timer, delay_timer, filter_answer, set_state, Done, answered}
use Rattle.rules.specs.Measuring.{settle, sync_out, delay_out, peer_out}
use Rattle.rules.specs.Rules.{filtered, mean_given, state_set}
use Rattle.rules.specs.WorkedOut.{sync_in, delay_in, last_raw}
use Rattle.rules.specs.Changes.{request_ids, ids_after, last_given, mean_after}
use Rattle.rules.specs.Step.{rule_of, step}
use Rattle.rules.specs.AllLaws.{All, Silent}
use Rattle.rules.proofs.RuleLaws.{all_settle, all_sync_timer_ends, all_delay_timer_ends}
use Rattle.rules.specs.EveryLaws.{Heard}
use Rattle.rules.proofs.EveryLaws.{silent, heard_event_rule, heard_general_rule, heard_stamp_rule}
use Rattle.rules.proofs.RefusalLaws.{taken_has}
use Rattle.rules.specs.ChangeLaws.{Follows, IsSet, BeginsAsSlave}

-- ---- configuration, ids and mean delay

module _ (p : Port) (e : Event) where
  abbrev Following : Done → Type 0
  Following d = Follows p e d.port

  -- an event that leaves all three
  module _ (i : p.ids ≡ ids_after p e) (m : p.mean ≡ mean_after p e) where
    same : (q : Port) → q.config ≡ p.config → q.ids ≡ p.ids → q.mean ≡ p.mean → Follows p e q
    same q a b c = record { config = a; ids = b ∙ i; mean = c ∙ m }

    settled : (q : Port) → q.config ≡ p.config → q.ids ≡ p.ids → q.mean ≡ p.mean → All Following (settle q)
    settled q a b c =
        all_settle Following Silent tt q (same q a b c) (λ s raw m. same (sync_out q s raw) a b c) (λ s m. same (delay_out q s) a b c) (λ id r m. same (peer_out q id r) a b c)

    heard : Heard Following Silent p
    heard =
        record {
          rows = silent;
          idle = same p refl refl refl;
          faulty = same (with_state p PortState.Faulty) refl refl refl;
          new_sync = λ s x e. settled (with_slave p (with_sync s x)) refl refl refl;
          new_delay = λ s x e. settled (with_slave p (with_delay s x)) refl refl refl;
          new_peer = λ x. settled (with_peer p x) refl refl refl;
          delay_resp = λ h at m e. same p refl refl refl;
          pdelay_resp = λ h at m e. same p refl refl refl;
          follow_up = λ id t m e. same p refl refl refl;
          pdelay_resp_follow_up = λ id i t m e. same p refl refl refl;
        }

-- a test that is known picks
picked : {A : Type 0} (b c : Bool) (x y : A) → b ≡ c → cond c x y ≡ cond b x y
picked b c x y e = ap (λ t. cond t x y) (sym e)

mean_given_lem : (p : Port) (given : Option Duration) → (mean_given p given).mean ≡ last_given given p.mean
mean_given_lem p None = refl
mean_given_lem p (Some d) = refl

config_given : (p : Port) (given : Option Duration) → (mean_given p given).config ≡ p.config
config_given p None = refl
config_given p (Some d) = refl

ids_given : (p : Port) (given : Option Duration) → (mean_given p given).ids ≡ p.ids
ids_given p None = refl
ids_given p (Some d) = refl

pub rule_follows : (p : Port) (e : Event) → All (λ d. Follows p e d.port) (rule_of p e)
unfolding rule_of ids_after mean_after id_after filtered state_set
rule_follows p (event at l) = heard_event_rule (Following p (event at l)) Silent p (heard p (event at l) refl refl) at l
rule_follows p (general l) = heard_general_rule (Following p (general l)) Silent p (heard p (general l) refl refl) l
rule_follows p (stamp t c) = heard_stamp_rule (Following p (stamp t c)) Silent p (heard p (stamp t c) refl refl) t c
rule_follows p sync_timer =
    all_sync_timer_ends (Following p sync_timer) Silent tt tt p
    (λ e. record { config = refl; ids = picked (is_master p.state) false _ p.ids e; mean = refl })
    (λ e ns k. record { config = refl; ids = picked (is_master p.state) true _ p.ids e; mean = refl })
rule_follows p (delay_timer draw) =
    all_delay_timer_ends (Following p (delay_timer draw)) Silent tt tt p draw
    (λ n e. record { config = refl; ids = picked (is_slave p.state) false _ p.ids n ∙ ap (λ m. request_ids m p) (sym e); mean = refl })
    (λ s k e ns. record { config = refl; ids = picked (is_slave p.state) true _ p.ids (ap is_slave k) ∙ ap (λ m. request_ids m p) (sym e); mean = refl })
    (λ e ns. record { config = refl; ids = ap (λ m. request_ids m p) (sym e); mean = refl })
rule_follows p (filter_answer u) =
    record { config = config_given p u.mean_delay; ids = ids_given p u.mean_delay; mean = mean_given_lem p u.mean_delay }
rule_follows p (set_state new) = record { config = refl; ids = refl; mean = refl }

module _ (p : Port) (room : ℕ) (e : Event) (t : (step p room e).outcome ≡ Outcome.Taken) where
  follows : Follows p e (step p room e).port
  follows = taken_has p room e (λ r. Follows p e r.port) (λ f l. rule_follows p e) t

  pub config_after : (step p room e).port.config ≡ p.config
  config_after = follows.config

  pub ids_after_lem : (step p room e).port.ids ≡ ids_after p e
  ids_after_lem = follows.ids

  pub mean_after_lem : (step p room e).port.mean ≡ mean_after p e
  mean_after_lem = follows.mean

-- ---- a state that is set

set_rule : (p : Port) (new : NewState) → All (λ d. IsSet p new (answered p (worked d))) (rule_of p (set_state new))
unfolding rule_of state_set
set_rule p new =
    record { state = refl; peer = refl; mean = refl; ids = refl; config = refl; measurement = refl; sent = refl; actions = refl }

pub state_set_lem : (p : Port) (room : ℕ) (new : NewState) → (step p room (set_state new)).outcome ≡ Outcome.Taken → IsSet p new (step p room (set_state new))
state_set_lem p room new t = taken_has p room (set_state new) (IsSet p new) (λ f l. set_rule p new) t

pub slave_begins : (p : Port) (room : ℕ) (master : Identity) → (step p room (set_state (NewState.Slave master))).outcome ≡ Outcome.Taken → BeginsAsSlave master (step p room (set_state (NewState.Slave master))).port.state
slave_begins p room master t =
    let e : (step p room (set_state (NewState.Slave master))).port.state ≡ PortState.Slave (slave_of master) = (state_set_lem p room (NewState.Slave master) t).state in
    record {
      slave = slave_of master;
      state_is_slave = e;
      master_is = refl;
      no_sync = ap sync_in e;
      no_delay = ap delay_in e;
      no_raw = ap last_raw e;
    }
