-- What was written into a field is found in it, for each kind of field.
use Rattle.std.specs.Prelude.{ℕ, ◌+◌, ◌^◌, ◌≤◌, ◌<◌, ◌≡◌, take, drop, Some, None, Option}
use Rattle.std.proofs.Math.Path.{refl, sym, ap}
use Rattle.std.proofs.Common.{◌∙◌, arith, length-append}
use mathlib.Core.List.{List, [], ◌∷◌, ◌++◌}
use borrow.Author.Tests.{le-leb, eq-eqb}
use Rattle.std.proofs.Math.ListN.{length}
use Rattle.time.specs.declared.Time.{Time}
use Rattle.octets.specs.Bytes.{number, spell}
use Rattle.octets.proofs.BytesLaws.{length-spell}
use Rattle.wire.specs.Layout.{identity_at}
use Rattle.record.specs.declared.Config.{Config}
use Rattle.record.specs.declared.Context.{Context}
use Rattle.record.specs.declared.Mechanism.{Mechanism}
use Rattle.record.specs.declared.NewState.{NewState}
use Rattle.rules.specs.Given.{StampIn}
use Rattle.rules.specs.Events.{event, general, stamp, sync_timer, delay_timer, filter_answer, set_state}
use Rattle.event_log.specs.Told.{Field}
use Rattle.event_log.specs.Fields.{inner_of, time_at, duration_at, context_at, state_at, event_of, general_of, stamp_of, sync_timer_of, delay_timer_of, update_of, filter_of, set_state_of, config_with, config_of}
use Rattle.event_log.proofs.FieldsLaws.{inner_short}
use Rattle.recording.specs.Recording.{field_bytes, time_bytes, duration_bytes, identity_bytes, context_bytes, state_bytes, mean_bytes, next_bytes, mechanism_byte}
use Rattle.recording.specs.Fitting.{TimeIn, MeanIn, NextIn, StateIn, ConfigIn}
use Rattle.recording.specs.RecordingLaws.{config_value}
use Rattle.recording.proofs.RecordingLaws.{length_words, length_identity, length_field_of, length_mean, length_next, context_small, state_small}
use Rattle.recording.specs.StandsLaws.{Stands}
use Rattle.recording.proofs.StandsLaws.{stands_first, stands_then, stands_bytes, stands_number, stands_byte, stands_time, stands_duration, stands_identity, stands_value, stands_inner, stands_other}
use Rattle.time.specs.declared.Duration.{Duration}

-- ---- contexts and states

module _ {f : List ℕ} {at : ℕ} where
  id_behind : (kind id : ℕ) → id < 2 ^ 16 → Stands f at (kind ∷ spell 2 id) → number (at + 1) 2 f ≡ id
  id_behind kind id h s = stands_number 2 id h (stands_then (kind ∷ []) (spell 2 id) (at + 1) refl s)

  pub context_found : (c : Context) → StampIn c → Stands f at (context_bytes c) → context_at at (length (context_bytes c)) f ≡ Some c
  unfolding context_bytes context_at
  context_found (Context.Sync id) h s = simp (length-spell 2 id, stands_byte 0 (spell 2 id) s, id_behind 0 id h s)
  context_found (Context.DelayReq id) h s = simp (length-spell 2 id, stands_byte 1 (spell 2 id) s, id_behind 1 id h s)
  context_found (Context.PDelayReq id) h s = simp (length-spell 2 id, stands_byte 2 (spell 2 id) s, id_behind 2 id h s)
  context_found (Context.PDelayResp id who) (h, w) s =
      let kind = stands_first (3 ∷ spell 2 id) (identity_bytes who) s in
      let behind : Stands f (at + 3) (identity_bytes who) = stands_then (3 ∷ spell 2 id) (identity_bytes who) (at + 3) (omega (arith, length-spell 2 id)) s in
      simp (length-append, length-spell, stands_byte 3 (spell 2 id) kind, id_behind 3 id h kind, stands_identity who w behind)

  pub state_found : (n : NewState) → StateIn n → Stands f at (state_bytes n) → state_at at (length (state_bytes n)) f ≡ Some n
  unfolding state_bytes state_at
  state_found NewState.Listening h s = simp (stands_byte 0 [] s)
  state_found NewState.Master h s = simp (stands_byte 1 [] s)
  state_found NewState.Passive h s = simp (stands_byte 2 [] s)
  state_found NewState.Faulty h s = simp (stands_byte 3 [] s)
  state_found (NewState.Slave master) h s =
      let behind : Stands f (at + 1) (identity_bytes master) = stands_then (4 ∷ []) (identity_bytes master) (at + 1) refl s in
      simp (length-append, length-spell, stands_byte 4 (identity_bytes master) s, stands_identity master h behind)

pub sync_timer_found : (f : List ℕ) → length f ≡ 3 → sync_timer_of f ≡ Some (Field.Event sync_timer)
unfolding sync_timer_of
sync_timer_found f e = simp (eq-eqb 3 (length f) (sym e))

by_mechanism : (f : List ℕ) (m : Mechanism) → length f ≡ 36 → number 17 1 f ≡ mechanism_byte m → config_of f ≡ Some (Field.Config (config_with m f))
unfolding config_of
by_mechanism f Mechanism.EndToEnd e h = simp (eq-eqb (length f) 36 e, h)
by_mechanism f Mechanism.Peer e h = simp (eq-eqb (length f) 36 e, h)

-- ---- the seven events: f is the whole field, and its value stands from place 3 on

module _ {f : List ℕ} where
  -- a time comes first
  module _ (t : Time) (tag : ℕ) (v : List ℕ) (s : Stands f 3 (field_bytes 1 (time_bytes t) ++ field_bytes tag v)) where
    n : length (time_bytes t) ≡ 16
    n = length_words t.hi t.lo

    first : Stands f 3 (field_bytes 1 (time_bytes t))
    first = stands_first (field_bytes 1 (time_bytes t)) (field_bytes tag v) s

    time_inner : inner_of f 3 1 ≡ Some (6, 16)
    time_inner = stands_inner 1 (time_bytes t) (omega (arith, n)) first ∙ ap (λ (k : ℕ). Some (6, k)) n

    time_read : TimeIn t → time_at 6 f ≡ t
    time_read w = stands_time t w.hi w.lo (stands_value 1 (time_bytes t) first)

    time_then : Stands f 22 (field_bytes tag v)
    time_then = stands_then (field_bytes 1 (time_bytes t)) (field_bytes tag v) 22 (omega (arith, length_field_of 1 16 (time_bytes t) n)) s

  -- its message's bytes are read as they are
  pub event_message : (t : Time) (m : List ℕ) → length m ≤ 1024 → Stands f 3 (field_bytes 1 (time_bytes t) ++ field_bytes 2 m) → take (length m) (drop 25 f) ≡ m
  event_message t m h s = stands_bytes m (stands_value 2 m (time_then t 2 m s))

  pub event_found : (t : Time) (m : List ℕ) → TimeIn t → length m ≤ 1024 → length f ≡ 25 + length m → Stands f 3 (field_bytes 1 (time_bytes t) ++ field_bytes 2 m)
      → event_of f ≡ Some (Field.Event (event t m))
  unfolding event_of
  event_found t m w h e s =
      let message : inner_of f 22 2 ≡ Some (25, length m) = stands_inner 2 m (omega arith) (time_then t 2 m s) in
      simp (time_inner t 2 m s, message, le-leb (length m) 1024 h, eq-eqb (25 + length m) (length f) (sym e), time_read t 2 m s w, event_message t m h s)

  pub general_message : (m : List ℕ) → length m ≤ 1024 → Stands f 3 (field_bytes 2 m) → take (length m) (drop 6 f) ≡ m
  general_message m h s = stands_bytes m (stands_value 2 m s)

  pub general_found : (m : List ℕ) → length m ≤ 1024 → length f ≡ 6 + length m → Stands f 3 (field_bytes 2 m) → general_of f ≡ Some (Field.Event (general m))
  unfolding general_of
  general_found m h e s =
      let message : inner_of f 3 2 ≡ Some (6, length m) = stands_inner 2 m (omega arith) s in
      simp (message, le-leb (length m) 1024 h, eq-eqb (6 + length m) (length f) (sym e), general_message m h s)

  pub stamp_found : (t : Time) (c : Context) → TimeIn t → StampIn c → length f ≡ 25 + length (context_bytes c)
      → Stands f 3 (field_bytes 1 (time_bytes t) ++ field_bytes 3 (context_bytes c)) → stamp_of f ≡ Some (Field.Event (stamp t c))
  unfolding stamp_of
  stamp_found t c w h e s =
      let small : length (context_bytes c) < 65536 = omega (arith, context_small c refl) in
      let there = time_then t 3 (context_bytes c) s in
      let context : inner_of f 22 3 ≡ Some (25, length (context_bytes c)) = stands_inner 3 (context_bytes c) small there in
      let read : context_at 25 (length (context_bytes c)) f ≡ Some c = context_found c h (stands_value 3 (context_bytes c) there) in
      simp (time_inner t 3 (context_bytes c) s, context, eq-eqb (25 + length (context_bytes c)) (length f) (sym e), time_read t 3 (context_bytes c) s w, read)

  pub delay_timer_found : (draw : ℕ) → draw < 2 ^ 64 → length f ≡ 14 → Stands f 3 (field_bytes 4 (spell 8 draw)) → delay_timer_of f ≡ Some (Field.Event (delay_timer draw))
  unfolding delay_timer_of
  delay_timer_found draw h e s =
      let n = length-spell 8 draw in
      let inner : inner_of f 3 4 ≡ Some (6, 8) = stands_inner 4 (spell 8 draw) (omega arith) s ∙ ap (λ (k : ℕ). Some (6, k)) n in
      let read : number 6 8 f ≡ draw = stands_number 8 draw h (stands_value 4 (spell 8 draw) s) in
      simp (inner, eq-eqb 14 (length f) (sym e), read)

  -- a next update is no mean delay
  no_mean : (next : Option ℕ) → length f ≡ 3 + length (next_bytes next) → Stands f 3 (next_bytes next) → inner_of f 3 5 ≡ None
  unfolding next_bytes
  no_mean None e s = sym (inner_short f 3 5 (omega arith))
  no_mean (Some ns) e s = stands_other _ (spell 8 ns) (omega (arith, length-spell 8 ns)) s 5 (λ p. omega (arith, p))

  update_found : (at : ℕ) (mean : Option Duration) (next : Option ℕ) → NextIn next → length f ≡ at + length (next_bytes next) → Stands f at (next_bytes next)
      → update_of f at mean ≡ Some (Field.Event (filter_answer (record { mean_delay = mean; next_update = next })))
  unfolding update_of next_bytes
  update_found at mean None h e s =
      let none : inner_of f at 6 ≡ None = sym (inner_short f at 6 (omega arith)) in
      simp (none, eq-eqb at (length f) (omega arith))
  update_found at mean (Some ns) h e s =
      let n = length-spell 8 ns in
      let inner : inner_of f at 6 ≡ Some (at + 3, 8) = stands_inner _ (spell 8 ns) (omega arith) s ∙ ap (λ (k : ℕ). Some (at + 3, k)) n in
      let read : number (at + 3) 8 f ≡ ns = stands_number 8 ns h (stands_value _ (spell 8 ns) s) in
      simp (inner, eq-eqb (at + 3 + 8) (length f) (omega (arith, e, length_next ns)), read)

  pub filter_found : (mean : Option Duration) (next : Option ℕ) → MeanIn mean → NextIn next → length f ≡ 3 + (length (mean_bytes mean) + length (next_bytes next))
      → Stands f 3 (mean_bytes mean ++ next_bytes next) → filter_of f ≡ Some (Field.Event (filter_answer (record { mean_delay = mean; next_update = next })))
  unfolding filter_of mean_bytes
  filter_found None next g h e s =
      let size : length f ≡ 3 + length (next_bytes next) = omega (arith, e) in
      simp (no_mean next size s) (update_found 3 None next h size s)
  filter_found (Some d) next g h e s =
      let n = length_words d.hi d.lo in
      let first = stands_first (field_bytes 5 (duration_bytes d)) (next_bytes next) s in
      let inner : inner_of f 3 5 ≡ Some (6, 16) = stands_inner 5 (duration_bytes d) (omega arith) first ∙ ap (λ (k : ℕ). Some (6, k)) n in
      let read : duration_at 6 f ≡ d = stands_duration d g.hi g.lo (stands_value 5 (duration_bytes d) first) in
      let behind : Stands f 22 (next_bytes next) = stands_then (field_bytes 5 (duration_bytes d)) (next_bytes next) 22 (omega (arith, length_field_of 5 16 (duration_bytes d) n)) s in
      simp (inner, read) (update_found 22 (Some d) next h (omega (arith, e, length_mean d)) behind)

  pub set_state_found : (n : NewState) → StateIn n → length f ≡ 6 + length (state_bytes n) → Stands f 3 (field_bytes 7 (state_bytes n)) → set_state_of f ≡ Some (Field.Event (set_state n))
  unfolding set_state_of
  set_state_found n h e s =
      let small : length (state_bytes n) < 65536 = omega (arith, state_small n refl) in
      let inner : inner_of f 3 7 ≡ Some (6, length (state_bytes n)) = stands_inner 7 (state_bytes n) small s in
      let read : state_at 6 (length (state_bytes n)) f ≡ Some n = state_found n h (stands_value 7 (state_bytes n) s) in
      simp (inner, eq-eqb (6 + length (state_bytes n)) (length f) (sym e), read)

  -- ---- the configuration

  pub config_found : (c : Config) → ConfigIn c → length f ≡ 36 → Stands f 3 (config_value c) → config_of f ≡ Some (Field.Config c)
  config_found c w e s =
      let asymmetry = duration_bytes c.asymmetry in
      let syncs = c.sync_interval ∷ asymmetry in
      let delays = c.delay_interval ∷ syncs in
      let mechanism = mechanism_byte c.mechanism ∷ delays in
      let minor = c.minor ∷ mechanism in
      let domain = c.domain ∷ minor in
      let sdo = spell 2 c.sdo ++ domain in
      let who = identity_bytes c.identity in
      let at13 : Stands f 13 sdo = stands_then who sdo 13 (omega (arith, length_identity c.identity)) s in
      let at15 : Stands f 15 domain = stands_then (spell 2 c.sdo) domain 15 (omega (arith, length-spell 2 c.sdo)) at13 in
      let at16 : Stands f 16 minor = stands_then (c.domain ∷ []) minor 16 refl at15 in
      let at17 : Stands f 17 mechanism = stands_then (c.minor ∷ []) mechanism 17 refl at16 in
      let at18 : Stands f 18 delays = stands_then (mechanism_byte c.mechanism ∷ []) delays 18 refl at17 in
      let at19 : Stands f 19 syncs = stands_then (c.delay_interval ∷ []) syncs 19 refl at18 in
      let at20 : Stands f 20 asymmetry = stands_then (c.sync_interval ∷ []) asymmetry 20 refl at19 in
      let identity : identity_at 3 f ≡ c.identity = stands_identity c.identity w.identity (stands_first who sdo s) in
      let id : number 13 2 f ≡ c.sdo = stands_number 2 c.sdo w.sdo (stands_first (spell 2 c.sdo) domain at13) in
      let skew : duration_at 20 f ≡ c.asymmetry = stands_duration c.asymmetry w.asymmetry.hi w.asymmetry.lo at20 in
      by_mechanism f c.mechanism e (stands_byte (mechanism_byte c.mechanism) delays at17)
      ∙ rw (identity, id, stands_byte c.domain minor at15, stands_byte c.minor mechanism at16, stands_byte c.delay_interval syncs at18, stands_byte c.sync_interval asymmetry at19, skew) refl
