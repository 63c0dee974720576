-- What the rules of Sync, FollowUp and DelayResp come to, by whom they are for and who is heard.
use Rattle.std.specs.Prelude.{Result, Some, None, Ok, Err}
use mathlib.Core.Path.{◌≡◌, refl, ap, ◌∙◌}
use mathlib.Core.Bool.{Bool, true, false, cond}
use lib.IntN.{◌+ℤ◌, ◌-ℤ◌}
use Rattle.time.specs.Units.{time, time_of, correction}
use Rattle.rules.specs.Names.{Time, TimeError, Identity, Header, Exchange, SlaveState, Port, Outcome}
use Rattle.rules.specs.Worked.{Worked, refused, ◌then◌, a_time, less_correction, plus_correction}
use Rattle.rules.specs.Events.{Done, nothing}
use Rattle.rules.specs.Exchanges.{Change, synced, followed_up, delay_answered}
use Rattle.rules.specs.Rules.{from_master, to_us, keeping, sync, follow_up, delay_resp}
use Rattle.record.specs.Record.{with_sync, with_delay, with_slave}
use Rattle.record.specs.Same.{same_identity}
use Rattle.slave.specs.Keeping.{hearer}
use Rattle.slave.proofs.CaseLaws.{heard_is}

-- ---- a Slave's messages, which are heard or not; then the sum; then the exchange

abbrev store_sync : Port → SlaveState → Exchange → Port
store_sync p s x = with_slave p (with_sync s x)

abbrev store_delay : Port → SlaveState → Exchange → Port
store_delay p s x = with_slave p (with_delay s x)

-- Sync and FollowUp: heard or not, then the sum, then the exchange
pub record Hears (p : Port) (h : Header) (whole : Worked Done) (sum : Result Time TimeError) (change : SlaveState → Time → Change Exchange) : Type 0 where
  pub unheard : hearer p h ≡ None → whole ≡ nothing p
  pub out : (s : SlaveState) (e : TimeError) → hearer p h ≡ Some s → sum ≡ Err e → whole ≡ refused Outcome.Range
  pub stored : (s : SlaveState) (t : Time) → hearer p h ≡ Some s → sum ≡ Ok t → whole ≡ keeping p (store_sync p s) (change s t)

module _ (p : Port) (h : Header) where
  module _ (sum : Result Time TimeError) (change : SlaveState → Time → Change Exchange) where
    abbrev rule : SlaveState → Worked Done
    rule s = a_time sum then λ t. keeping p (store_sync p s) (change s t)

    after_sum : (s : SlaveState) (a : Result Time TimeError) → hearer p h ≡ Some s → sum ≡ a → from_master p h rule ≡ (a_time a then λ t. keeping p (store_sync p s) (change s t))
    after_sum s a heard e =
        heard_is p h (Some s) rule heard ∙ ap (λ (x : Result Time TimeError). a_time x then λ t. keeping p (store_sync p s) (change s t)) e

    hears : (whole : Worked Done) → whole ≡ from_master p h rule → Hears p h whole sum change
    hears whole is =
        record {
          unheard = λ e. is ∙ heard_is p h None rule e;
          out = λ s x heard e. is ∙ after_sum s (Err x) heard e;
          stored = λ s t heard e. is ∙ after_sum s (Ok t) heard e;
        }

  pub sync_hears : (origin at : Time) → Hears p h (sync p h origin at) (time_of (time at -ℤ correction h.correction)) (λ s t. synced h origin t s.sync)
  unfolding sync less_correction
  sync_hears origin at = hears _ (λ s t. synced h origin t s.sync) (sync p h origin at) refl

  pub follow_up_hears : (timestamp : Time) → Hears p h (follow_up p h timestamp) (time_of (time timestamp +ℤ correction h.correction)) (λ s t. followed_up h.id t s.sync)
  unfolding follow_up plus_correction
  follow_up_hears timestamp = hears _ (λ s t. followed_up h.id t s.sync) (follow_up p h timestamp) refl

module _ (p : Port) (requester : Identity) (rule : Worked Done) where
  is_to_us : same_identity p.config.identity requester ≡ true → to_us p requester rule ≡ rule
  is_to_us e = ap (λ (t : Bool). cond t rule (nothing p)) e

  not_to_us : same_identity p.config.identity requester ≡ false → to_us p requester rule ≡ nothing p
  not_to_us e = ap (λ (t : Bool). cond t rule (nothing p)) e

-- answers to a DelayReq, which have to be for us
module _ (p : Port) (h : Header) (timestamp : Time) (requester : Identity) where
  pub delay_foreign : same_identity p.config.identity requester ≡ false → delay_resp p h requester timestamp ≡ nothing p
  unfolding delay_resp
  delay_foreign e = not_to_us p requester _ e

  pub delay_unheard : same_identity p.config.identity requester ≡ true → hearer p h ≡ None → delay_resp p h requester timestamp ≡ nothing p
  unfolding delay_resp
  delay_unheard e f = is_to_us p requester _ e ∙ heard_is p h None _ f

  pub delay_kept : (s : SlaveState) → same_identity p.config.identity requester ≡ true → hearer p h ≡ Some s → delay_resp p h requester timestamp ≡ (delay_answered h.id (less_correction timestamp h) s.delay then keeping p (store_delay p s))
  unfolding delay_resp
  delay_kept s e f = is_to_us p requester _ e ∙ heard_is p h (Some s) _ f
