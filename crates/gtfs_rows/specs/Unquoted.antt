-- The records of a text of which no field is quoted (RFC 4180, section 2, with any line's end and with empty lines passed
-- over).
use Rattle.std.specs.Prelude.{ℕ, ◌<◌, ◌≤◌, ◌≡◌, ◌==◌, ◌||◌, ◌++◌, Bool, true, List, [], Option, Some, drop, length, map, slice_index}
use Rattle.csv.specs.Machine.{Read, next_record}
use Rattle.csv.specs.Reading.{AreRecords, default_config}
use Rattle.csv.specs.declared.parser.State.TheVariants as st
use Rattle.gtfs_rows.specs.Spaces.{without_spaces}

-- a byte is part of a line's end
abbrev pub is_line_end : ℕ → Bool
is_line_end byte = (byte == 13) || (byte == 10)

-- a byte ends a field that is not quoted
abbrev pub ends_field : ℕ → Bool
ends_field byte = (byte == 44) || is_line_end byte

-- these are the records of a text without a byte-order mark, without the spaces at both ends of each field
abbrev pub HasTrimmedRecords : List ℕ → List (List (List ℕ)) → Type 0
HasTrimmedRecords text records =
    (read : List (List (List ℕ))) × AreRecords default_config st.StartRecord text read × (records ≡ map (map without_spaces) read)

-- the first record of a text from a place on, and what is left after it
abbrev pub record_from : List ℕ → ℕ → Option Read
record_from text place = next_record default_config st.StartRecord [] [] (drop place text)

-- the record that begins at one place and ends at another adds its fields to others
pub record AddsRecord (text : List ℕ) (start end : ℕ) (old new : List (List ℕ)) : Type 0 where
  pub low : start ≤ end
  pub high : end ≤ length text
  pub ended : end < length text → is_line_end (slice_index text end) ≡ true
  pub read : Read
  pub next : record_from text start ≡ Some read
  pub added : new ≡ old ++ map without_spaces read.0
  pub after : next_record default_config read.1 [] [] read.2 ≡ record_from text end
