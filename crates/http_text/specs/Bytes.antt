-- The bytes that part targets and lists.
use Rattle.std.specs.Prelude.{ℕ}

-- `b'"'`
abbrev pub quote : ℕ
quote = 34

-- `b'/'`
abbrev pub slash : ℕ
slash = 47

-- `b'?'`
abbrev pub question_mark : ℕ
question_mark = 63

-- `b'\\'`
abbrev pub backslash : ℕ
backslash = 92
