-- Laws of what is written: how long each part is, how a field is put together, and what is answered for it.
use Rattle.std.specs.Prelude.{ℕ, zero, suc, ◌+◌, ◌-◌, ◌/◌, ◌%◌, ◌≤◌, ◌<◌, ◌≡◌, refl, Bool, true, false, List, [], ◌∷◌, ◌++◌, leb, Option, Some, None, Ok, Err}
use Rattle.std.proofs.Common.{sym, ◌∙◌, ap, append-nil, arith, length-append}
use borrow.Author.Tests.{lt-leb, le-leb}
use Rattle.std.proofs.Math.ListN.{length}
use Rattle.time.specs.declared.Time.{Time}
use Rattle.time.specs.declared.Duration.{Duration}
use Rattle.wire.specs.declared.Identity.{Identity}
use Rattle.octets.specs.Bytes.{spell}
use Rattle.octets.proofs.BytesLaws.{length-spell}
use Rattle.record.specs.declared.Config.{Config}
use Rattle.record.specs.declared.Context.{Context}
use Rattle.record.specs.declared.FilterUpdate.{FilterUpdate}
use Rattle.record.specs.declared.NewState.{NewState}
use Rattle.rules.specs.Events.{event, general, stamp, sync_timer, delay_timer, filter_answer, set_state}
use Rattle.text.specs.Page.{Wrote}
use Rattle.text.specs.PageLaws.{wrote_then, wrote_as, wrote_first}
use Rattle.recording.specs.Recording.{field_bytes, time_bytes, duration_bytes, identity_bytes, context_bytes, state_bytes, mean_bytes, next_bytes, mechanism_byte, config_bytes, event_bytes, appended, left_after, Appends}
use Rattle.recording.specs.RecordingLaws.{config_value}
use Rattle.writing.specs.declared.WriteError.{WriteError}

-- ---- a number, byte by byte

pub spell_none : (w v : ℕ) → w ≡ 0 → [] ≡ spell w v
unfolding spell
spell_none w v h = rw h refl

-- the bytes before the last are those of v / 256
pub spell_more : {d : List ℕ} {at : ℕ} {e : List ℕ} {i g : ℕ} {f : List ℕ} {m : ℕ} (w v j q : ℕ)
    → Wrote d at (spell j q) e i → Wrote e i (g ∷ []) f m
    → (w ≡ 0 → ⊥) → j ≡ w - 1 → q ≡ v / 256 → g ≡ v % 256 → Wrote d at (spell w v) f m
unfolding spell
spell_more zero v j q a b h x y z = absurd (h refl)
spell_more {g = g} (suc w) v j q a b h x y z =
    let before : j ≡ w = omega (arith, x) in
    wrote_as (ap (λ (l : List ℕ). l ++ (g ∷ [])) (ap (λ (i : ℕ). spell i q) before ∙ ap (λ (i : ℕ). spell w i) y) ∙ ap (λ (c : ℕ). spell w (v / 256) ++ (c ∷ [])) z) (wrote_then a b)

-- ---- how long each part is

pub length_words : (a b : ℕ) → length (spell 8 a ++ spell 8 b) ≡ 16
length_words a b = length-append (spell 8 a) (spell 8 b) ∙ omega (arith, length-spell 8 a, length-spell 8 b)

pub length_identity : (i : Identity) → length (identity_bytes i) ≡ 10
length_identity i = length-append (spell 8 i.clock) (spell 2 i.port) ∙ omega (arith, length-spell 8 i.clock, length-spell 2 i.port)

pub length_field : (tag : ℕ) (v : List ℕ) → length (field_bytes tag v) ≡ 3 + length v
unfolding field_bytes
length_field tag v = omega (arith, length-append (spell 2 (length v)) v, length-spell 2 (length v))

-- a field of a value so long
pub length_field_of : (tag n : ℕ) (v : List ℕ) → length v ≡ n → length (field_bytes tag v) ≡ 3 + n
length_field_of tag n v h = length_field tag v ∙ ap (λ (k : ℕ). 3 + k) h

-- ---- the parts' sizes, and that each is small

pub length_context_with : (kind id : ℕ) (who : Identity) → length (kind ∷ (spell 2 id ++ identity_bytes who)) ≡ 13
length_context_with kind id who = omega (arith, length-append (spell 2 id) (identity_bytes who), length-spell 2 id, length_identity who)

pub length_mean : (d : Duration) → length (mean_bytes (Some d)) ≡ 19
unfolding mean_bytes
length_mean d = length_field_of 5 16 (duration_bytes d) (length_words d.hi d.lo)

pub length_next : (ns : ℕ) → length (next_bytes (Some ns)) ≡ 11
unfolding next_bytes
length_next ns = length_field_of _ 8 (spell 8 ns) (length-spell 8 ns)

context_most : (c : Context) → length (context_bytes c) ≤ 13
unfolding context_bytes
context_most (Context.Sync id) = omega (arith, length-spell 2 id)
context_most (Context.DelayReq id) = omega (arith, length-spell 2 id)
context_most (Context.PDelayReq id) = omega (arith, length-spell 2 id)
context_most (Context.PDelayResp id who) = omega (arith, length_context_with 3 id who)

state_most : (s : NewState) → length (state_bytes s) ≤ 11
unfolding state_bytes
state_most NewState.Listening = omega arith
state_most NewState.Master = omega arith
state_most NewState.Passive = omega arith
state_most NewState.Faulty = omega arith
state_most (NewState.Slave master) = omega (arith, length_identity master)

mean_most : (m : Option Duration) → length (mean_bytes m) ≤ 19
unfolding mean_bytes
mean_most None = omega arith
mean_most (Some d) = omega (arith, length_mean d)

next_most : (n : Option ℕ) → length (next_bytes n) ≤ 11
unfolding next_bytes
next_most None = omega arith
next_most (Some ns) = omega (arith, length_next ns)

-- of what code answers as a size
module _ {n : ℕ} where
  pub context_small : (c : Context) → n ≡ length (context_bytes c) → n ≤ 13
  context_small c h = omega (arith, h, context_most c)

  pub state_small : (s : NewState) → n ≡ length (state_bytes s) → n ≤ 11
  state_small s h = omega (arith, h, state_most s)

  pub mean_small : (m : Option Duration) → n ≡ length (mean_bytes m) → n ≤ 19
  mean_small m h = omega (arith, h, mean_most m)

  pub next_small : (m : Option ℕ) → n ≡ length (next_bytes m) → n ≤ 11
  next_small m h = omega (arith, h, next_most m)

-- ---- the values of the outer fields, and the fields

pub length-config_value : (c : Config) → length (config_value c) ≡ 33
length-config_value c =
    let choices = c.domain ∷ c.minor ∷ mechanism_byte c.mechanism ∷ c.delay_interval ∷ c.sync_interval ∷ duration_bytes c.asymmetry in
    omega (
      arith,
      length-append (identity_bytes c.identity) (spell 2 c.sdo ++ choices),
      length-append (spell 2 c.sdo) choices,
      length_identity c.identity,
      length-spell 2 c.sdo,
      length_words c.asymmetry.hi c.asymmetry.lo,
    )

pub length_config : (c : Config) → length (config_bytes c) ≡ 36
unfolding config_bytes
length_config c = length_field_of 0x0F 33 _ (length-config_value c)

-- a time in front of another field
pub length_timed : (t : Time) (tag : ℕ) (v : List ℕ) → length (field_bytes 1 (time_bytes t) ++ field_bytes tag v) ≡ 22 + length v
length_timed t tag v =
    length-append (field_bytes 1 (time_bytes t)) (field_bytes tag v)
    ∙ omega (arith, length_field_of 1 16 (time_bytes t) (length_words t.hi t.lo), length_field tag v)

pub length-event : (t : Time) (m : List ℕ) → length (event_bytes (event t m)) ≡ 25 + length m
unfolding event_bytes
length-event t m = length_field_of 0x10 _ _ (length_timed t 2 m) ∙ omega arith

pub length-general : (m : List ℕ) → length (event_bytes (general m)) ≡ 6 + length m
unfolding event_bytes
length-general m = length_field_of 0x11 _ _ (length_field 2 m) ∙ omega arith

pub length-stamp : (t : Time) (c : Context) → length (event_bytes (stamp t c)) ≡ 25 + length (context_bytes c)
unfolding event_bytes
length-stamp t c = length_field_of 0x12 _ _ (length_timed t 3 (context_bytes c)) ∙ omega arith

pub length-sync_timer : length (event_bytes sync_timer) ≡ 3
unfolding event_bytes
length-sync_timer = length_field 0x13 []

pub length_draw : (draw : ℕ) → length (field_bytes 4 (spell 8 draw)) ≡ 11
length_draw draw = length_field_of 4 8 _ (length-spell 8 draw)

pub length-delay_timer : (draw : ℕ) → length (event_bytes (delay_timer draw)) ≡ 14
unfolding event_bytes
length-delay_timer draw = length_field_of 0x14 11 _ (length_draw draw)

-- with the sizes of its two parts
module _ (u : FilterUpdate) (a b : ℕ) (mean : a ≡ length (mean_bytes u.mean_delay)) (next : b ≡ length (next_bytes u.next_update)) where
  pub length_filter_value : length (mean_bytes u.mean_delay ++ next_bytes u.next_update) ≡ a + b
  length_filter_value = length-append (mean_bytes u.mean_delay) (next_bytes u.next_update) ∙ omega (arith, mean, next)

  pub length_filter : length (event_bytes (filter_answer u)) ≡ 3 + (a + b)
  unfolding event_bytes
  length_filter = length_field_of 0x15 _ _ length_filter_value

pub length-set_state : (s : NewState) → length (event_bytes (set_state s)) ≡ 6 + length (state_bytes s)
unfolding event_bytes
length-set_state s = length_field_of 0x16 _ _ (length_field 7 (state_bytes s)) ∙ omega arith

-- ---- a field put together

-- tag and length, and behind them the value
pub field_is : (tag n : ℕ) (v : List ℕ) → length v ≡ n → (tag ∷ spell 2 n) ++ v ≡ field_bytes tag v
unfolding field_bytes
field_is tag n v h = ap (λ (k : ℕ). tag ∷ (spell 2 k ++ v)) (sym h)

pub field_then : {d : List ℕ} {at : ℕ} {e : List ℕ} {i : ℕ} {f : List ℕ} {m : ℕ} (tag n : ℕ) (v : List ℕ)
    → length v ≡ n → Wrote d at (tag ∷ spell 2 n) e i → Wrote e i v f m → Wrote d at (field_bytes tag v) f m
field_then tag n v h a b = wrote_as (field_is tag n v h) (wrote_then a b)

-- one with nothing in it
pub field_empty : (tag : ℕ) → tag ∷ spell 2 0 ≡ field_bytes tag []
unfolding field_bytes
field_empty tag = sym (ap (λ (l : List ℕ). tag ∷ l) (append-nil (spell 2 0)))

pub config_then : {d : List ℕ} {at : ℕ} {e : List ℕ} {i : ℕ} {f : List ℕ} {m : ℕ} (c : Config)
    → Wrote d at (0x0F ∷ spell 2 33) e i → Wrote e i (config_value c) f m → Wrote d at (config_bytes c) f m
unfolding config_bytes
config_then c a b = field_then 0x0F 33 _ (length-config_value c) a b

-- ---- what is answered

module _ (w d : List ℕ) (n : ℕ) (size : length w ≡ n) where
  -- there is room: the bytes, and behind them what lay there
  pub appends : (fits : Bool) {e : List ℕ} {k : ℕ} → fits ≡ true → n ≤ length d → Wrote d 0 w e k → Appends fits w d (Ok n) e
  unfolding appended left_after
  appends fits {e} {k} f h p =
      let room : length w ≤ length d = omega (arith, size, h) in
      let t = le-leb (length w) (length d) room in
      (simp (f, t) (ap Ok (sym size)), simp (f, t) (wrote_first p room).1)

  -- there is none
  pub appends_short : (fits : Bool) → fits ≡ true → length d < n → Appends fits w d (Err WriteError.Short) d
  unfolding appended left_after
  appends_short fits f h =
      let t = lt-leb (length w) (length d) (omega (arith, size, h)) in
      (simp (f, t), simp (f, t))

-- a message of k bytes or less, or of more
pub short_message : (n k : ℕ) → n ≤ k → k ≤ 1024 → leb n 1024 ≡ true
short_message n k h g = le-leb n 1024 (omega arith)

pub long_message : (n k : ℕ) → k < n → 1024 ≤ k → leb n 1024 ≡ false
long_message n k h g = lt-leb n 1024 (omega arith)

-- a message that is too long
pub appends_unfit : (w d : List ℕ) (fits : Bool) → fits ≡ false → Appends fits w d (Err WriteError.Unfit) d
unfolding appended left_after
appends_unfit w d fits f = (simp f, simp f)
