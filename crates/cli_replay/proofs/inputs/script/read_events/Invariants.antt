use Rattle.std.proofs.Common.{◌≡◌}
use Rattle.cli_replay.proofs.InputsLemmas.ScriptLemmas.{ReadUntil}
use Rattle.cli_replay.proofs.inputs.script.read_events.Given as goal

abbrev pub invariant-records : goal.invariant-records
invariant-records g l =
    (l.records ≡ l.script) × ReadUntil l.script l.place (g.F.Folder.seen l.fn.folder) (g.F.Folder.seen l.folder) l.events.items
