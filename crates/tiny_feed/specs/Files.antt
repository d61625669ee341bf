-- Files by their names and texts.
use Rattle.std.specs.Prelude.{ℕ, List}
use Rattle.std.specs.Borrow.{Bor}
use Rattle.lc_io.specs.declared.file.File.{File}

-- the name and the text of a file
abbrev pub name_and_text : File → List ℕ × List ℕ
name_and_text file = (file.name, file.bytes)

-- a name and a text that are lent
abbrev pub recorded : Bor (List ℕ) × Bor (List ℕ) → List ℕ × List ℕ
recorded pair = (pair.0.now, pair.1.now)
