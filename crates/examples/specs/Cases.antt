-- Document 01, 'Marked examples': A to J in their order, as what a port is told and what `trace` writes of it.
--
-- A line has the event's number, the answer, letter and value (so far it is the line of `replay`), then event time, offset, delay, packet, actions
-- and reset; the last line has state, master, sync and delay exchange, last raw offset, peer exchange, mean delay and the next ids of Sync, DelayReq
-- and PDelayReq. What is not there is `-`. Times and durations are 32 hexadecimal digits in units of 2^-32 ns: the last eight are the fraction.
use Rattle.std.specs.Prelude.{ℕ, ◌-◌, ◌*◌, ◌^◌, List, [], ◌∷◌}
use Prim.Native.String.{String, ◌++◌}
use Rattle.wire.specs.Layout.{two_step_flag}
use Rattle.sent.specs.Messages.{no_flag}
use Rattle.rules.specs.Names.{Mechanism, NewState, Port}
use Rattle.rules.specs.Events.{Event, event, general, sync_timer, delay_timer, set_state}
use Rattle.rules.specs.Running.{us, master, ns, set_up, two_step_sync_of, one_step_sync_of, follow_up_at}
use Rattle.rules.specs.Examples.{delay_resp_from, request_stamped, last_ids}
use Rattle.rules.specs.ExamplesPeer.{asker, asked, answer, answer_follow_up, early, later}

pub record Case : Type 0 where
  pub start : Port
  pub events : List Event
  pub lines : List String

-- ---- who is told, and what is sent

-- as a log starts it, Listening with nothing stored and ids 0: end-to-end, with an asymmetry in nanoseconds. `asker` is the same with the peer mechanism
abbrev pub fresh : ℕ → Port
fresh asymmetry = set_up Mechanism.EndToEnd asymmetry

-- made a Slave by the first event, and the line of that
abbrev pub slave_then : List Event → List Event
slave_then es = set_state (NewState.Slave master) ∷ es

abbrev pub first : String
first = "1 0 - - - - - - - -"

-- a packet: type, versions and length; our domain and sdo id; flags; correction and four bytes of zero; our identity; id; control and interval; body
abbrev pub packet_text : String → String → String → String → String → String
packet_text front flags id rest body =
    front ++ "2122" ++ flags ++ "0000000000000000" ++ "00000000" ++ "30313233343536373839" ++ id ++ rest ++ body

abbrev pub sync_text : String → String
sync_text id = packet_text "a012002c" "0200" id "0000" "00000000000000000000"

abbrev pub delay_req_text : String → String
delay_req_text id = packet_text "a112002c" "0000" id "017f" "00000000000000000000"

abbrev pub p_delay_req_text : String → String
p_delay_req_text id = packet_text "a2120036" "0000" id "057f" "0000000000000000000000000000000000000000"

-- the line of an event, by its number, that measures nothing and sends a packet
abbrev pub sends : String → String → String → String
sends number sent actions = number ++ " 0 - - - - - " ++ sent ++ " " ++ actions ++ " -"

-- what an `asker` begins with: its request, whose timer is 0 ns as the draw is 0, and the stamp
abbrev pub requested : List String → List String
requested more = sends "1" (p_delay_req_text "0000") "delay-timer:0,event:2:0:link" ∷ "2 0 - - - - - - - -" ∷ more

-- ---- the cases

-- a two-step Sync at 1,000 ns and its FollowUp, 900 ns: raw 100 ns, which is 0x64
abbrev pub case_a : Case
case_a =
    record {
      start = fresh 0;
      events = slave_then (event (ns 1000) (two_step_sync_of 7) ∷ general (follow_up_at 7 900) ∷ []);
      lines =
          first
          ∷ "2 0 - - - - - - - -"
          ∷ "3 0 S 00000000000000000000006400000000 0000000000000000000003e800000000 - - - - -"
          ∷ "end 4 5152535455565758595a - - 00000000000000000000006400000000 - - 0:0:0"
          ∷ [];
    }

-- the FollowUp first: the same
abbrev pub case_b : Case
case_b =
    record {
      start = fresh 0;
      events = slave_then (general (follow_up_at 7 900) ∷ event (ns 1000) (two_step_sync_of 7) ∷ []);
      lines = case_a.lines;
    }

-- FollowUp 7, then a one-step Sync 7: no measurement. 7 is still open, with the send time of the FollowUp, 900 ns or 0x384, and no receive time
abbrev pub case_c : Case
case_c =
    record {
      start = fresh 0;
      events = slave_then (general (follow_up_at 7 900) ∷ event (ns 1000) (one_step_sync_of 7 950) ∷ []);
      lines =
          first
          ∷ "2 0 - - - - - - - -"
          ∷ "3 0 - - - - - - - -"
          ∷ "end 4 5152535455565758595a 7:00000000000000000000038400000000:- - - - - 0:0:0"
          ∷ [];
    }

-- Sync 7, then FollowUp 8: no measurement, and 8 is open
abbrev pub case_d : Case
case_d =
    record {
      start = fresh 0;
      events = slave_then (event (ns 1000) (two_step_sync_of 7) ∷ general (follow_up_at 8 900) ∷ []);
      lines =
          first
          ∷ "2 0 - - - - - - - -"
          ∷ "3 0 - - - - - - - -"
          ∷ "end 4 5152535455565758595a 8:00000000000000000000038400000000:- - - - - 0:0:0"
          ∷ [];
    }

-- peer times 1,000, 5,000, 5,040 and 1,101 ns: 30.5 ns, which is 0x1e and a half
abbrev pub case_e : Case
case_e =
    record {
      start = asker;
      events = asked (event (ns 1101) (answer master two_step_flag 0) ∷ general (answer_follow_up master 5040) ∷ []);
      lines =
          requested
          ("3 0 - - - - - - - -"
          ∷ "4 0 P 00000000000000000000001e80000000 00000000000000000000044d00000000 - - - - -"
          ∷ "end 0 - - - - done:0:5152535455565758595a - 0:0:1"
          ∷ []);
    }

-- a one-step response, with a correction of 40 ns, here in 2^-16 ns: 30.5 ns, at 1,061 ns
abbrev pub case_f : Case
case_f =
    record {
      start = asker;
      events = asked (event (ns 1101) (answer master no_flag (40 * 2 ^ 16)) ∷ []);
      lines =
          requested
          ("3 0 P 00000000000000000000001e80000000 00000000000000000000042500000000 - - - - -"
          ∷ "end 0 - - - - done:0:5152535455565758595a - 0:0:1"
          ∷ []);
    }

-- asymmetry 10 ns: raw 90 ns or 0x5a, raw 0, and the delay in its column 45 ns or 0x2d
abbrev pub case_g : Case
case_g =
    record {
      start = fresh 10;
      events = slave_then (event (ns 1100) (one_step_sync_of 7 1000) ∷ request_stamped (general (delay_resp_from master us 1990) ∷ []));
      lines =
          first
          ∷ "2 0 S 00000000000000000000005a00000000 00000000000000000000044c00000000 - - - - -"
          ∷ sends "3" (delay_req_text "0000") "delay-timer:0,event:1:0"
          ∷ "4 0 - - - - - - - -"
          ∷ "5 0 D 00000000000000000000000000000000 0000000000000000000007d000000000 - 00000000000000000000002d00000000 - - -"
          ∷ "end 4 5152535455565758595a - - 00000000000000000000005a00000000 - - 0:1:0"
          ∷ [];
    }

-- a one-step response that came 3 units before the request left: half of -3 is -1. And one that came 3 units after: 1
abbrev pub case_h_minus_3 : Case
case_h_minus_3 =
    record {
      start = asker;
      events = asked (event early (answer master no_flag 0) ∷ []);
      lines =
          requested
          ("3 0 P ffffffffffffffffffffffffffffffff 0000000000000000000003e7fffffffd - - - - -"
          ∷ "end 0 - - - - done:0:5152535455565758595a - 0:0:1"
          ∷ []);
    }

abbrev pub case_h_3 : Case
case_h_3 =
    record {
      start = asker;
      events = asked (event later (answer master no_flag 0) ∷ []);
      lines =
          requested
          ("3 0 P 00000000000000000000000000000001 0000000000000000000003e800000003 - - - - -"
          ∷ "end 0 - - - - done:0:5152535455565758595a - 0:0:1"
          ∷ []);
    }

-- 65535 is sent, then 0, and 1 is next: for each of the three kinds of id, while the others stay
abbrev pub case_i_sync : Case
case_i_sync =
    record {
      start = last_ids (fresh 0);
      events = set_state NewState.Master ∷ sync_timer ∷ sync_timer ∷ [];
      lines =
          first
          ∷ sends "2" (sync_text "ffff") "sync-timer:1000000000,event:0:65535"
          ∷ sends "3" (sync_text "0000") "sync-timer:1000000000,event:0:0"
          ∷ "end 1 - - - - - - 1:65535:65535"
          ∷ [];
    }

abbrev pub case_i_delay : Case
case_i_delay =
    record {
      start = last_ids (fresh 0);
      events = slave_then (delay_timer 0 ∷ delay_timer 0 ∷ []);
      lines =
          first
          ∷ sends "2" (delay_req_text "ffff") "delay-timer:0,event:1:65535"
          ∷ sends "3" (delay_req_text "0000") "delay-timer:0,event:1:0"
          ∷ "end 4 5152535455565758595a - 0:-:- - - - 65535:1:65535"
          ∷ [];
    }

abbrev pub case_i_peer : Case
case_i_peer =
    record {
      start = last_ids asker;
      events = delay_timer 0 ∷ delay_timer 0 ∷ [];
      lines =
          sends "1" (p_delay_req_text "ffff") "delay-timer:0,event:2:65535:link"
          ∷ sends "2" (p_delay_req_text "0000") "delay-timer:0,event:2:0:link"
          ∷ "end 0 - - - - open:0:-:-:-:-:- - 65535:65535:1"
          ∷ [];
    }

-- 2^51 - 1 at interval 0: a timer of 1,000,000,000 ns
abbrev pub case_j : Case
case_j =
    record {
      start = fresh 0;
      events = slave_then (delay_timer (2 ^ 51 - 1) ∷ []);
      lines =
          first
          ∷ sends "2" (delay_req_text "0000") "delay-timer:1000000000,event:1:0"
          ∷ "end 4 5152535455565758595a - 0:-:- - - - 0:1:0"
          ∷ [];
    }

-- ---- all of them, and those that a log starts: example I would take 65,535 timers first

abbrev pub cases : List Case
cases = case_a ∷ case_b ∷ case_c ∷ case_d ∷ case_e ∷ case_f ∷ case_g ∷ case_h_minus_3 ∷ case_h_3 ∷ case_i_sync ∷ case_i_delay ∷ case_i_peer ∷ case_j ∷ []

abbrev pub logs : List Case
logs = case_a ∷ case_b ∷ case_c ∷ case_d ∷ case_e ∷ case_f ∷ case_g ∷ case_h_minus_3 ∷ case_h_3 ∷ case_j ∷ []
