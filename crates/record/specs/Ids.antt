-- Document 01, 'Units', on sequence ids: where a generator begins, and what comes next. The last of 16 bits is followed by the first.
use Rattle.std.specs.Prelude.{ℕ, ◌+◌, ◌%◌}

abbrev pub first_id : ℕ
first_id = 0

unfoldable pub id_after : ℕ → ℕ
id_after id = (id + 1) % 65536
