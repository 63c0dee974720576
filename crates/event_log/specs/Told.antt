-- What a field of the log holds, and what stands at the front of some bytes: the code's answers without their references.
use Rattle.std.specs.Prelude.{ℕ, Option, Some, None}
use Rattle.record.specs.declared.Config.{Config as Configuration}
use Rattle.rules.specs.Events.{Event as PortEvent, event, general, stamp, sync_timer, delay_timer, filter_answer, set_state}
use Rattle.event_log.specs.declared.Logged.{Logged}
use Rattle.event_log.specs.declared.Field.{Field as Lent}
use Rattle.event_log.specs.declared.Next.{Next as Front}

-- what a whole outer field holds, if it is good
pub data Field : Type 0 where
  Config : Configuration → Field
  Event : PortEvent → Field

-- the configuration; an event, and its field's size in bytes; a part of a field, or nothing, where more is to come; the end; or what is no field
pub data Next : Type 0 where
  Config : Configuration → Next
  Event : PortEvent → ℕ → Next
  More : Next
  End : Next
  Bad : Next

-- ---- what the code's answers say

-- the event, with its message's bytes
abbrev pub told : Logged → PortEvent
told (Logged.Event t message) = event t message.now
told (Logged.General message) = general message.now
told (Logged.Stamp t c) = stamp t c
told Logged.SyncTimer = sync_timer
told (Logged.DelayTimer draw) = delay_timer draw
told (Logged.FilterAnswer u) = filter_answer u
told (Logged.SetState s) = set_state s

abbrev pub held : Option Lent → Option Field
held None = None
held (Some (Lent.Config c)) = Some (Field.Config c)
held (Some (Lent.Event e)) = Some (Field.Event (told e))

abbrev pub next_of : Front → Next
next_of (Front.Config c) = Next.Config c
next_of (Front.Event e n) = Next.Event (told e) n
next_of Front.More = Next.More
next_of Front.End = Next.End
next_of Front.Bad = Next.Bad
