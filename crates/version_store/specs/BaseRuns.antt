-- A run of the timetable in the base version.
use Rattle.std.specs.Prelude.{None}
use Rattle.lc_model.specs.declared.run.Run.{Run}
use Rattle.lc_model.specs.Versions.Live.{live_calls_of}

-- the run with its live calls where there are no news
abbrev pub base_run : Run → Run
base_run run = record { key = run.key; calls = live_calls_of run.calls None }
