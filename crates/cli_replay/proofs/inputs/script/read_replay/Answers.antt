use Rattle.cli_replay.proofs.InputsLemmas.ScriptLemmas.{reads_replay, refused_at, script_refused, turns_read}
use Rattle.cli_replay.proofs.inputs.script.read_replay.Goals as goal

pub returns-in-Ok-read_events-clause-read : goal.returns-in-Ok-read_events-clause-read
returns-in-Ok-read_events-clause-read g c =
    reads_replay c.args.scope.now c.args.script (g.F.Folder.seen c.args.folder.now) (g.F.Folder.seen c.read_records.new.folder) c.in-Ok.records c.in-Ok.ensures.read c.read_records.ensures.kept
    (g.F.Folder.seen c.load.new.folder) c.in-Ok-load.made c.in-Ok-load.ensures.ends c.load.ensures.counts (g.F.Folder.seen c.read_events.new.folder) c.in-Ok-read_events.events.items c.in-Ok-read_events.ensures.read

pub returns-in-Ok-read_events-clause-turns : goal.returns-in-Ok-read_events-clause-turns
returns-in-Ok-read_events-clause-turns g c =
    turns_read c.in-Ok.records (g.F.Folder.seen c.load.new.folder) (g.F.Folder.seen c.read_events.new.folder) c.in-Ok-read_events.events.items c.in-Ok-read_events.ensures.read c.in-Ok.ensures.turns

pub returns-in-Ok-load-clause-refused : goal.returns-in-Ok-load-clause-refused
returns-in-Ok-load-clause-refused g c =
    refused_at c.args.scope.now c.args.script (g.F.Folder.seen c.args.folder.now) (g.F.Folder.seen c.read_records.new.folder) c.in-Ok.records c.in-Ok.ensures.read c.read_records.ensures.kept
    (g.F.Folder.seen c.load.new.folder) c.in-Ok-load.made c.in-Ok-load.ensures.ends c.load.ensures.counts (g.F.Folder.seen c.read_events.new.folder) c.faults-before.result c.in-Err-read_events.refusal
    c.faults-before.ensures c.in-Err-read_events.ensures.stops

pub returns-clause-refused : goal.returns-clause-refused
returns-clause-refused g c =
    script_refused c.args.scope.now c.args.script (g.F.Folder.seen c.args.folder.now) (g.F.Folder.seen c.read_records.new.folder) c.in-Err.refusal c.in-Err.ensures.refused
