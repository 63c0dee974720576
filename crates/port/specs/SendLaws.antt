-- Where the buffer takes what is to be sent, it is written whole.
use Rattle.std.specs.Prelude.{ℕ, ◌≡◌, refl, List, length, Option, Some, None}
use Rattle.std.proofs.Common.{ap}
use Rattle.wire.specs.Layout.{message_bytes}
use Rattle.writing.specs.WritingLaws.{left_when}
use Rattle.handling.specs.Sending.{written_or, length_left, buffer_left}
use Rattle.port.specs.Pieces.{Ready, length_sent, buffer_sent}
use Rattle.sent.specs.declared.Message.{Message}

pub ready_length : (mm : Option Message) (n room : ℕ) → Ready mm room → length_left mm n room ≡ length_sent mm n
unfolding length_left
ready_length None n room r = refl
ready_length (Some m) n room r = ap (written_or n) r

pub ready_buffer : (mm : Option Message) (l : List ℕ) → Ready mm (length l) → buffer_left mm l ≡ buffer_sent mm l
unfolding buffer_left buffer_sent
ready_buffer None l r = refl
ready_buffer (Some m) l r = left_when m.header m.body l (length (message_bytes m.header m.body)) r
