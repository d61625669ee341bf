-- How the records of a text are read, one after the other.
use Rattle.std.specs.Prelude.{ℕ, ◌≡◌, List, true}
use Rattle.std.specs.Borrow.{Bor}
use Rattle.csv.specs.Reading.{Ready, default_config, is_flexible, reader_config, reader_trim}
use Rattle.csv.specs.declared.reader.Reader.{Reader}
use Rattle.csv.specs.declared.reader.Trim.TheVariants as trim

-- the reader gives each record as it is: no field is trimmed, and records may have any number of fields
pub record IsPlain (reader : Reader (Bor (List ℕ))) : Type 0 where
  pub untrimmed : reader_trim reader ≡ trim.None
  pub ready : Ready reader
  pub default : reader_config reader ≡ default_config
  pub flexible : is_flexible reader ≡ true
