-- Document 01, 'Marked examples': one statement for all of them, by computing.
use Rattle.std.specs.Prelude.{ℕ, ◌≡◌, refl, List, [], ◌∷◌, ◌++◌}
use Rattle.std.proofs.Common.{ap}
use Rattle.record.specs.Record.{port_of}
use Rattle.rules.specs.Names.{Config, Port}
use Rattle.rules.specs.Events.{Event}
use Rattle.rules.specs.Running.{run_of}
use Rattle.text.specs.Digits.{decimal_in, glyph_of, hex_in, hex_of}
use Rattle.event_log.specs.Fields.{time_at, duration_at, inner_of, context_at, state_at, event_of, general_of, stamp_of, delay_timer_of, set_state_of, config_of, field_of, stated_of, none_of, front_of}
use Rattle.streaming.specs.Log.{scan_from, scan, gathered, read_log}
use Rattle.lines.specs.declared.Style.{Style}
use Rattle.lines.specs.Lines.{maybe_time, maybe_duration, maybe_identity, shown_of, context_text, link_text, action_text, reset_text, line_with, exchange_text, peer_text, slave_texts, end_line, last_line}
use Rattle.recording.specs.Recording.{field_bytes, context_bytes, state_bytes, config_bytes, event_bytes}
use Rattle.recording.specs.Fitting.{ConfigIn}
use Rattle.recording.specs.ReadsBack.{events_bytes, Recordable}
use Rattle.recording.proofs.ReadsBack.{log_reads_back}
use Rattle.replaying.specs.Replay.{results_from, record_after, numbered, last_of, lines_for, lines_of, replay_lines}
use Rattle.text.specs.Ascii.{text_of}
use Rattle.examples.specs.Cases.{Case, cases, logs}

-- ---- what is written of events on a port. Whoever opens it opens all that a port and its lines are computed with

unfoldable pub written : Style → Port → List Event → List ℕ
unfolding run_of decimal_in glyph_of hex_in hex_of maybe_time maybe_duration maybe_identity shown_of context_text link_text action_text reset_text line_with exchange_text peer_text slave_texts end_line last_line results_from record_after numbered
written style p es = numbered style 1 (results_from p es) ++ last_line style (record_after p es)

-- a log that was recorded is replayed as that, on its configuration's port
pub written_of_log : (style : Style) (c : Config) (es : List Event) → ConfigIn c → Recordable es → replay_lines style (config_bytes c ++ events_bytes es) ≡ written style (port_of c) es
unfolding replay_lines lines_of lines_for last_of written
written_of_log style c es w r = ap (lines_of style) (log_reads_back c es w r)

-- ---- THE STATEMENT

abbrev pub Shown : Case → Type 0
Shown c = written Style.Trace c.start c.events ≡ text_of c.lines

abbrev pub All : (Case → Type 0) → List Case → Type 0
All P [] = Unit {0}
All P (c ∷ more) = P c × All P more

pub marked : All Shown cases
unfolding written text_of
marked = (refl, (refl, (refl, (refl, (refl, (refl, (refl, (refl, (refl, (refl, (refl, (refl, (refl, tt)))))))))))))

-- ---- and of the log's bytes, with the port's configuration

abbrev pub FromLog : Case → Type 0
FromLog c = replay_lines Style.Trace (config_bytes c.start.config ++ events_bytes c.events) ≡ text_of c.lines

pub marked_logs : All FromLog logs
unfolding written text_of field_bytes context_bytes state_bytes config_bytes event_bytes events_bytes time_at duration_at inner_of context_at state_at event_of general_of stamp_of delay_timer_of set_state_of config_of field_of stated_of none_of front_of scan_from scan gathered read_log last_of lines_for lines_of replay_lines
marked_logs = (refl, (refl, (refl, (refl, (refl, (refl, (refl, (refl, (refl, (refl, tt))))))))))
