use Rattle.std.proofs.Common.{◌≡◌, inl, inr, refl}
use Rattle.cli_words.specs.Line.{texts_of}
use Rattle.lc_cli.specs.Command.{IsRightServer}
use Rattle.lc_cli.specs.Top.{IsRight, Past}
use Rattle.lc_cli.proofs.CompleteLemmas.{complete}
use Rattle.lc_cli.proofs.ServingLemmas.{no_door_fell}
use Rattle.lc_cli.proofs.TopLemmas.{not_early, not_memory, usage_only}
use Rattle.lc_cli.proofs.top.run.Goals as goal

-- the run that printed a block, the one that served, and the one that was refused
abbrev printed : (g : _) (c : goal.After-write_block g) → Past g.row.L.Denot
printed g c = record {
  words = texts_of c.args.words.now;
  folder_before = g.F.Folder.seen c.args.folder.now;
  folder_after = g.F.Folder.seen c.outcome-came.new.folder;
  link_before = c.args.link;
  link_after = c.outcome-came.result.1;
  door_before = g.D.Door.seen c.args.door.now;
  door_after = g.D.Door.seen c.args.door.now;
  sink_before = g.S.Sink.seen c.args.out.now;
  sink_after = g.S.Sink.seen c.write_block.new.out;
}

abbrev served : (g : _) (c : goal.After-serve g) → Past g.row.L.Denot
served g c = record {
  words = texts_of c.args.words.now;
  folder_before = g.F.Folder.seen c.args.folder.now;
  folder_after = g.F.Folder.seen c.outcome-came.new.folder;
  link_before = c.args.link;
  link_after = c.outcome-came.result.1;
  door_before = g.D.Door.seen c.args.door.now;
  door_after = g.D.Door.seen c.serve.new.door;
  sink_before = g.S.Sink.seen c.args.out.now;
  sink_after = g.S.Sink.seen c.serve.new.out;
}

abbrev refused : (g : _) (c : goal.After-refuse g) → Past g.row.L.Denot
refused g c = record {
  words = texts_of c.args.words.now;
  folder_before = g.F.Folder.seen c.args.folder.now;
  folder_after = g.F.Folder.seen c.outcome-came.new.folder;
  link_before = c.args.link;
  link_after = c.outcome-came.result.1;
  door_before = g.D.Door.seen c.args.door.now;
  door_after = g.D.Door.seen c.args.door.now;
  sink_before = g.S.Sink.seen c.args.out.now;
  sink_after = g.S.Sink.seen c.refuse.new.out;
}

right_block : (g : _) (c : goal.After-write_block g) → IsRight g.L.Link.seen (printed g c) c.write_block.result
right_block g c =
    inl (record { block = c.in-Ok-Print.block; right = rw c.in-Ok-Print.field-0-is at (rw c.in-Ok-Print.is at c.outcome-came.ensures.work); end = c.write_block.ensures.end; door_stays = refl })

right_server : (g : _) (c : goal.After-serve g) → IsRightServer (texts_of c.args.words.now) (g.F.Folder.seen c.args.folder.now) (g.F.Folder.seen c.outcome-came.new.folder) c.in-Ok-Serve.server
right_server g c = rw c.in-Ok-Serve.field-0-is at (rw c.in-Ok-Serve.is at c.outcome-came.ensures.work)

-- a server leaves the link
link_served : (g : _) (c : goal.After-serve g) → c.outcome-came.result.1 ≡ c.args.link
link_served g c = c.outcome-came.ensures.serve_leaves_link (right_server g c).serve (right_server g c).says

right_served : (g : _) (c : goal.After-serve g) → IsRight g.L.Link.seen (served g c) c.serve.result
right_served g c = inr (inr (record { server = c.in-Ok-Serve.server; right = right_server g c; end = c.serve.ensures.end; link_stays = link_served g c }))

right_refusal : (g : _) (c : goal.After-refuse g) → IsRight g.L.Link.seen (refused g c) c.refuse.result
right_refusal g c =
    inr (inl (record { refusal = c.in-Err.refusal; right = rw c.in-Err.is at c.outcome-came.ensures.refused; end = c.refuse.ensures.end; door_stays = refl }))

pub returns-in-Ok-Print : goal.returns-in-Ok-Print
returns-in-Ok-Print g c = record {
  status = right_block g c;
  usage_only = usage_only g.L.Link.seen (printed g c) c.write_block.result (right_block g c);
  complete =
      complete c.one_command.ensures c.one_timetable.ensures.loads_recorded c.one_timetable.ensures.not_broken c.one_timetable.ensures.not_too_large c.one_outcome.ensures.one c.one_script.ensures.script
      c.one_script.ensures.never_both g.L.Link.seen c.relays_plan_right.ensures
      (printed g c) c.write_block.result (right_block g c);
  folder = c.outcome-came.ensures.kept;
  sink = c.write_block.ensures.kept;
  door = λ no_serve. refl;
  door_counts = no_door_fell (g.D.Door.seen c.args.door.now);
  link = c.outcome-came.ensures.gone_on;
  command_leaves_link = c.outcome-came.ensures.link;
  check_leaves_link = c.outcome-came.ensures.check_leaves_link;
  serve_leaves_link = c.outcome-came.ensures.serve_leaves_link;
  refusal_leaves_link = λ early. absurd (not_early c.in-Ok-Print.block (g.S.Sink.seen c.args.out.now) (g.S.Sink.seen c.write_block.new.out) c.write_block.result c.write_block.ensures.end early);
}

pub returns-in-Ok-Serve : goal.returns-in-Ok-Serve
returns-in-Ok-Serve g c = record {
  status = right_served g c;
  usage_only = usage_only g.L.Link.seen (served g c) c.serve.result (right_served g c);
  complete =
      complete c.one_command.ensures c.one_timetable.ensures.loads_recorded c.one_timetable.ensures.not_broken c.one_timetable.ensures.not_too_large c.one_outcome.ensures.one c.one_script.ensures.script
      c.one_script.ensures.never_both g.L.Link.seen c.relays_plan_right.ensures
      (served g c) c.serve.result (right_served g c);
  folder = c.outcome-came.ensures.kept;
  sink = c.serve.ensures.kept;
  door = λ no_serve. absurd (no_serve (right_server g c).serve (right_server g c).says);
  door_counts = c.serve.ensures.door_counts;
  link = c.outcome-came.ensures.gone_on;
  command_leaves_link = c.outcome-came.ensures.link;
  check_leaves_link = c.outcome-came.ensures.check_leaves_link;
  serve_leaves_link = c.outcome-came.ensures.serve_leaves_link;
  refusal_leaves_link = λ early. link_served g c;
}

pub returns-in-Err : goal.returns-in-Err
returns-in-Err g c = record {
  status = right_refusal g c;
  usage_only = usage_only g.L.Link.seen (refused g c) c.refuse.result (right_refusal g c);
  complete =
      complete c.one_command.ensures c.one_timetable.ensures.loads_recorded c.one_timetable.ensures.not_broken c.one_timetable.ensures.not_too_large c.one_outcome.ensures.one c.one_script.ensures.script
      c.one_script.ensures.never_both g.L.Link.seen c.relays_plan_right.ensures
      (refused g c) c.refuse.result (right_refusal g c);
  folder = c.outcome-came.ensures.kept;
  sink = c.refuse.ensures.kept;
  door = λ no_serve. refl;
  door_counts = no_door_fell (g.D.Door.seen c.args.door.now);
  link = c.outcome-came.ensures.gone_on;
  command_leaves_link = c.outcome-came.ensures.link;
  check_leaves_link = c.outcome-came.ensures.check_leaves_link;
  serve_leaves_link = c.outcome-came.ensures.serve_leaves_link;
  refusal_leaves_link = λ early. (rw c.in-Err.is at c.outcome-came.ensures.refusal_leaves_link)
      (not_memory c.in-Err.refusal (g.S.Sink.seen c.args.out.now) (g.S.Sink.seen c.refuse.new.out) c.refuse.result c.refuse.ensures.end early);
}
