-- What became of a message in document 01's terms: 0 with the packet's length; 1 for a packet buffer that is too short; 7 for a sent field that leaves its range. (A header that does not go with its body is `Unfit` too; no port makes one.)
use Rattle.std.specs.Prelude.{ℕ, [], ◌∷◌, pos, Result, Ok, Err}
use Rattle.time.specs.Numbers.{Told, answered, refusal}
use Rattle.writing.specs.declared.WriteError.{WriteError}

abbrev pub told : Result ℕ WriteError → Told
told (Ok n) = answered (pos n ∷ [])
told (Err WriteError.Short) = refusal 1
told (Err WriteError.Unfit) = refusal 7
