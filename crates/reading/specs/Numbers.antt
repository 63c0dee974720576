-- What is read in document 01's terms: the number of its table ('Numbers the port answers') that the bytes alone decide. 0 stands for a message that these rows let through. (Row 6 asks what the port is, and comes between 5 and 8.)
use Rattle.reading.specs.Reading.{Reading}
use Rattle.std.specs.Prelude.{ℕ, Ok, Err}
use Rattle.wire.specs.declared.Kind.{Kind}
use Rattle.wire.specs.declared.Kind.TheVariants as K
use Rattle.reading.specs.declared.Received.{Received}
use Rattle.reading.specs.declared.ReadError.{ReadError}

abbrev pub number_of : Reading → ℕ
number_of (Ok (Received.Message h b t)) = 0
number_of (Ok (Received.Host h)) = 8
number_of (Err ReadError.Version) = 4
number_of (Err ReadError.Malformed) = 5

-- and what a type number alone decides
abbrev pub kind_number : Kind → ℕ
kind_number (K.Table t) = 0
kind_number K.Host = 8
kind_number K.Reserved = 5
