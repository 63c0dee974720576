-- What the laws of proofs/RecordingLaws.antt speak of.
use Rattle.std.specs.Prelude.{ℕ, List, ◌∷◌, ◌++◌}
use Rattle.octets.specs.Bytes.{spell}
use Rattle.record.specs.declared.Config.{Config}
use Rattle.recording.specs.Recording.{duration_bytes, identity_bytes, mechanism_byte}

-- ---- the values of the outer fields, and the fields

abbrev pub config_value : Config → List ℕ
config_value c =
    identity_bytes c.identity ++ (spell 2 c.sdo ++ (c.domain ∷ c.minor ∷ mechanism_byte c.mechanism ∷ c.delay_interval ∷ c.sync_interval ∷ duration_bytes c.asymmetry))
