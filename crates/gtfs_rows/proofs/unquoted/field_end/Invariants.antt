use Rattle.std.proofs.Common.{◌-◌, drop, take}
use Rattle.csv.specs.Machine.{Runs}
use Rattle.csv.specs.Reading.{default_config}
use Rattle.csv.specs.declared.parser.State.TheVariants as st
use Rattle.gtfs_rows.proofs.unquoted.field_end.Given as goal

abbrev pub invariant-bytes : goal.invariant-bytes
invariant-bytes l = Runs default_config st.InField (take (l.place - l.start) (drop l.start l.text))
