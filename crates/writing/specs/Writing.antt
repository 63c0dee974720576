-- Which header and body make a message, and what a buffer holds once it was asked to take one.
use Rattle.std.specs.Prelude.{ℕ, Bool, cond, ◌&&◌, true, false, List, ◌++◌, length, drop, ltb, eqb, Result, Ok, Err}
use Rattle.time.specs.Units.{time_of_wire}
use Rattle.wire.specs.declared.Header.{Header}
use Rattle.wire.specs.declared.Body.{Body}
use Rattle.octets.specs.Bytes.{roomy}
use Rattle.wire.specs.Layout.{row, type_of, message_entries, message_bytes, timestamp_of}
use Rattle.time.specs.declared.Time.{Time}
use Rattle.time.specs.declared.TimeError.{TimeError}
use Rattle.writing.specs.declared.WriteError.{WriteError}

-- header and body go together: version 2, the body's type and its length
unfoldable pub together : Header → Body → Bool
together h b = eqb h.version 2 && eqb h.kind (row (type_of b)).number && eqb h.length (row (type_of b)).length

-- the answer of a timestamp that reads as a time
abbrev pub is_time : Result Time TimeError → Bool
is_time (Ok t) = true
is_time (Err e) = false

-- each number has room, four bits where two share a byte and its place for every other; and what is written can be read
unfoldable pub fits_of : Header → Body → Bool
fits_of h b = together h b && (ltb h.major_sdo 16 && ltb h.minor 16) && roomy (message_entries h b) && is_time (time_of_wire (timestamp_of b))

unfoldable pub write_of : Header → Body → ℕ → Result ℕ WriteError
write_of h b room = cond (fits_of h b) (cond (ltb room (row (type_of b)).length) (Err WriteError.Short) (Ok (row (type_of b)).length)) (Err WriteError.Unfit)

-- what the buffer holds: the message, then what lay behind it; or all as it was
abbrev pub left_by : Result ℕ WriteError → List ℕ → List ℕ → List ℕ
left_by (Ok n) bytes l = bytes ++ drop n l
left_by (Err WriteError.Short) bytes l = l
left_by (Err WriteError.Unfit) bytes l = l

unfoldable pub left_of : Header → Body → List ℕ → List ℕ
left_of h b l = left_by (write_of h b (length l)) (message_bytes h b) l
