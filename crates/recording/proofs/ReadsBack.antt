-- What is written reads back: a log of these bytes says the same configuration, the same events in their order, and ends well.
use Rattle.std.specs.Prelude.{ℕ, ◌+◌, ◌≤◌, ◌<◌, ◌≡◌, Bool, true, false, Option, Some, None}
use Rattle.std.proofs.Math.Path.{refl, ap}
use Rattle.std.proofs.Common.{◌∙◌, arith, drop_at}
use mathlib.Core.List.{List, [], ◌∷◌, ◌++◌}
use borrow.Author.Tests.{leb-true}
use Rattle.std.proofs.Math.ListN.{length}
use Rattle.std.proofs.Math.Seq.{drop-append_seam}
use Rattle.octets.specs.Bytes.{spell}
use Rattle.record.specs.declared.Config.{Config}
use Rattle.rules.specs.Events.{Event, event, general, stamp, sync_timer, delay_timer, filter_answer, set_state}
use Rattle.event_log.specs.Told.{Field, Next}
use Rattle.event_log.specs.Fields.{field_of, none_of, front_of, seen}
use Rattle.streaming.specs.Log.{Log, end, next, starts, scan, gathered, read_log}
use Rattle.streaming.proofs.StreamingLaws.{scan_at}
use Rattle.recording.specs.Recording.{field_bytes, time_bytes, context_bytes, state_bytes, mean_bytes, next_bytes, config_bytes, event_bytes, recordable}
use Rattle.recording.specs.Fitting.{Fitting, ConfigIn}
use Rattle.recording.proofs.RecordingLaws.{length_timed, length_field, length_filter_value, length_draw, length-config_value, length-event, length-general, length-stamp, length-sync_timer, length-delay_timer, length_filter, length-set_state}
use Rattle.recording.specs.RecordingLaws.{config_value}
use Rattle.recording.proofs.RecordingLaws.{length_config, context_small, state_small, mean_small, next_small}
use Rattle.recording.specs.StandsLaws.{Stands}
use Rattle.recording.proofs.StandsLaws.{stands_all, stands_value, front_field}
use Rattle.recording.proofs.FoundLaws.{event_found, general_found, stamp_found, sync_timer_found, delay_timer_found, filter_found, set_state_found, config_found}
use Rattle.recording.specs.ReadsBack.{ReadsBack, events_bytes, Recordable}

-- ---- an event

-- a field, and the place of its value in it
module _ (tag : ℕ) (v : List ℕ) where
  value : Stands (field_bytes tag v) 3 v
  value = stands_value tag v (stands_all (field_bytes tag v))

  field_back : (small : length v < 65536) (x : Event) (t : List ℕ) (last : Bool) → field_of false tag (field_bytes tag v) ≡ Some (Field.Event x) → front_of false (field_bytes tag v ++ t) last ≡ Next.Event x (length (field_bytes tag v))
  field_back small x t last p = front_field false tag v t last small ∙ ap (λ (w : Option Field). seen (length (field_bytes tag v)) w) p

module _ (t : List ℕ) (last : Bool) where
  -- THE THEOREM for an event
  pub event_reads_back : (e : Event) → recordable e ≡ true → Fitting e → ReadsBack e t last
  unfolding event_bytes field_of
  event_reads_back (event time m) r w =
      let h : length m ≤ 1024 = leb-true (length m) 1024 r in
      let v = field_bytes 1 (time_bytes time) ++ field_bytes 2 m in
      let small : length v < 65536 = omega (arith, h, length_timed time 2 m) in
      let s = value 0x10 v in
      field_back 0x10 v small _ t last (event_found time m w h (length-event time m) s)
  event_reads_back (general m) r w =
      let h : length m ≤ 1024 = leb-true (length m) 1024 r in
      let small : length (field_bytes 2 m) < 65536 = omega (arith, h, length_field 2 m) in
      let s = value 0x11 (field_bytes 2 m) in
      field_back 0x11 (field_bytes 2 m) small _ t last (general_found m h (length-general m) s)
  event_reads_back (stamp time c) r (w, i) =
      let v = field_bytes 1 (time_bytes time) ++ field_bytes 3 (context_bytes c) in
      let small : length v < 65536 = omega (arith, context_small c refl, length_timed time 3 (context_bytes c)) in
      field_back 0x12 v small _ t last (stamp_found time c w i (length-stamp time c) (value 0x12 v))
  event_reads_back sync_timer r w =
      field_back 0x13 [] (omega arith) _ t last (sync_timer_found _ length-sync_timer)
  event_reads_back (delay_timer draw) r w =
      let small : length (field_bytes 4 (spell 8 draw)) < 65536 = omega (arith, length_draw draw) in
      field_back 0x14 (field_bytes 4 (spell 8 draw)) small _ t last (delay_timer_found draw w (length-delay_timer draw) (value 0x14 (field_bytes 4 (spell 8 draw))))
  event_reads_back (filter_answer u) r (g, h) =
      let v = mean_bytes u.mean_delay ++ next_bytes u.next_update in
      let small : length v < 65536 = omega (arith, length_filter_value u _ _ refl refl, mean_small u.mean_delay refl, next_small u.next_update refl) in
      field_back 0x15 v small _ t last (filter_found u.mean_delay u.next_update g h (length_filter u _ _ refl refl) (value 0x15 v))
  event_reads_back (set_state n) r w =
      let small : length (field_bytes 7 (state_bytes n)) < 65536 = omega (arith, length_field 7 (state_bytes n), state_small n refl) in
      field_back 0x16 (field_bytes 7 (state_bytes n)) small _ t last (set_state_found n w (length-set_state n) (value 0x16 (field_bytes 7 (state_bytes n))))

-- ---- the configuration

-- THE THEOREM for the configuration
pub config_reads_back : (c : Config) (t : List ℕ) (last : Bool) → ConfigIn c → front_of true (config_bytes c ++ t) last ≡ Next.Config c
unfolding config_bytes field_of
config_reads_back c t last w =
    let v = config_value c in
    let small : length v < 65536 = omega (arith, length-config_value c) in
    front_field true 0x0F v t last small
    ∙ ap (λ (x : Option Field). seen (length (field_bytes 0x0F v)) x) (config_found c w (length_config c) (value 0x0F v))

-- ---- a whole log

none_left : front_of false [] true ≡ Next.End
unfolding front_of none_of
none_left = refl

events_read_back : (es : List Event) (at : ℕ) → Recordable es → gathered (scan true false at (events_bytes es)) ≡ record { configuration = None; events = es; ending = end }
unfolding events_bytes gathered
events_read_back [] at r = ap gathered (scan_at true false at [] Next.End none_left)
events_read_back (e ∷ es) at (r, rs) =
    let b = event_reads_back (events_bytes es) true e r.0 r.1 in
    let n = length (event_bytes e) in
    let s = event_bytes e ++ events_bytes es in
    ap gathered (scan_at true false at s (Next.Event e n) b)
    ∙ ap (λ (u : List ℕ). gathered (next e n (scan true false (at + n) u))) (drop-append_seam (event_bytes e) (events_bytes es))
    ∙ ap (λ (l : Log). record { configuration = l.configuration; events = e ∷ l.events; ending = l.ending }) (events_read_back es (at + n) rs)

-- THE THEOREM for a log
pub log_reads_back : (c : Config) (es : List Event) → ConfigIn c → Recordable es
    → read_log (config_bytes c ++ events_bytes es) ≡ record { configuration = Some c; events = es; ending = end }
unfolding read_log gathered
log_reads_back c es w r =
    let s = config_bytes c ++ events_bytes es in
    ap gathered (scan_at true true 0 s (Next.Config c) (config_reads_back c (events_bytes es) true w))
    ∙ ap (λ (u : List ℕ). gathered (starts c 36 (scan true false 36 u))) (drop_at (config_bytes c) (events_bytes es) 36 (length_config c))
    ∙ ap (λ (l : Log). record { configuration = Some c; events = l.events; ending = l.ending }) (events_read_back es 36 r)
