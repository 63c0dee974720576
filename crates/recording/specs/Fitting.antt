-- What is known of a configuration and of an event beforehand, because code holds its numbers in so many bits: each has room in its place of
-- the log. Of single bytes nothing is asked, a message's among them: they are copied as they are.
use Rattle.std.specs.Prelude.{ℕ, ◌^◌, ◌<◌, Option, Some, None}
use Rattle.time.specs.declared.Time.{Time}
use Rattle.time.specs.declared.Duration.{Duration}
use Rattle.wire.specs.LayoutLaws.{InWidths}
use Rattle.record.specs.declared.Config.{Config}
use Rattle.record.specs.declared.NewState.{NewState}
use Rattle.rules.specs.Events.{Event, event, general, stamp, sync_timer, delay_timer, filter_answer, set_state}
use Rattle.rules.specs.Given.{StampIn}

pub record TimeIn (t : Time) : Type 0 where
  pub hi : t.hi < 2 ^ 64
  pub lo : t.lo < 2 ^ 64

pub record DurationIn (d : Duration) : Type 0 where
  pub hi : d.hi < 2 ^ 64
  pub lo : d.lo < 2 ^ 64

abbrev pub MeanIn : Option Duration → Type 0
MeanIn None = Unit {0}
MeanIn (Some d) = DurationIn d

abbrev pub NextIn : Option ℕ → Type 0
NextIn None = Unit {0}
NextIn (Some ns) = ns < 2 ^ 64

abbrev pub StateIn : NewState → Type 0
StateIn NewState.Listening = Unit {0}
StateIn NewState.Master = Unit {0}
StateIn NewState.Passive = Unit {0}
StateIn NewState.Faulty = Unit {0}
StateIn (NewState.Slave master) = InWidths master

abbrev pub Fitting : Event → Type 0
Fitting (event t message) = TimeIn t
Fitting (general message) = Unit {0}
Fitting (stamp t context) = TimeIn t × StampIn context
Fitting sync_timer = Unit {0}
Fitting (delay_timer draw) = draw < 2 ^ 64
Fitting (filter_answer update) = MeanIn update.mean_delay × NextIn update.next_update
Fitting (set_state new) = StateIn new

pub record ConfigIn (c : Config) : Type 0 where
  pub identity : InWidths c.identity
  pub sdo : c.sdo < 2 ^ 16
  pub asymmetry : DurationIn c.asymmetry
