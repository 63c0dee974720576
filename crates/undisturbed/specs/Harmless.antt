-- Some of what else may stand in a run of whole exchanges without disturbing it, besides filter answers and foreign traffic (`others_stand` in `UndisturbedLaws`). Document 01 does not list it: it is apart from demand 3.
use Rattle.std.specs.Prelude.{ℕ, ◌<◌, ◌≡◌, List, Ok}
use Rattle.time.specs.declared.WireTimestamp.{WireTimestamp}
use Rattle.wire.specs.Layout.{row, type_of}
use Rattle.rules.specs.Names.{Time, Header, Body, Mechanism, Config, Context, Received}
use Rattle.rules.specs.Events.{Event, general, stamp, sync_timer, reading, Brings}
use Rattle.undisturbed.specs.Whole.{Not}

-- by the id of the request that is open or comes next
pub data Harmless (c : Config) (id : ℕ) : Event → Type 0 where
  -- requests of others, which a Master answers
  a_delay_req : (e : Event) (h : Header) (w : WireTimestamp) (u : Time) → Brings c e h (Body.DelayReq w) u → Harmless c id e
  -- on the general entry, what belongs on the event entry: types 0 to 3
  on_wrong_entry : (message : List ℕ) (h : Header) (b : Body) (u : Time) → reading c message ≡ Ok (Received.Message h b u) → (row (type_of b)).number < 4 → Harmless c id (general message)
  -- a Master's timer, and stamps of its Syncs
  a_sync_timer : Harmless c id sync_timer
  a_sync_stamp : (t : Time) (j : ℕ) → Harmless c id (stamp t (Context.Sync j))
  -- stray stamps: of a request that is not configured, or not with this id
  stray_delay_stamp : (t : Time) (j : ℕ) → (c.mechanism ≡ Mechanism.EndToEnd → Not (j ≡ id)) → Harmless c id (stamp t (Context.DelayReq j))
  stray_peer_stamp : (t : Time) (j : ℕ) → (c.mechanism ≡ Mechanism.Peer → Not (j ≡ id)) → Harmless c id (stamp t (Context.PDelayReq j))
