use Rattle.std.proofs.Common.{Err, Ok, subst}
use Rattle.gtfs_tables.specs.Reading.{EndsSo}
use Rattle.timetable.specs.Zone.{ReadsZone}
use Rattle.timetable.proofs.EndLemmas.{fault_ends, kept_then, made_ends}
use Rattle.timetable.proofs.loading.load.Goals as goal

pub returns-in-Ok-read_feed-clause-ends : goal.returns-in-Ok-read_feed-clause-ends
returns-in-Ok-read_feed-clause-ends g c =
    let old = g.F.Folder.seen c.args.folder.now in
    let mid = g.F.Folder.seen c.find_zone.new.folder in
    let new = g.F.Folder.seen c.read_feed.new.folder in
    let scope = c.args.scope.now in
    let zone = subst (λ word. ReadsZone old mid word c.in-Ok.zone) c.as_str.ensures.value c.in-Ok.ensures.ends in
    let ends = subst (λ name. EndsSo mid new name (Ok c.in-Ok-read_feed.tables)) c.as_str-in-Ok.ensures.value c.in-Ok-read_feed.ensures.ends in
    made_ends scope old mid new c.in-Ok.zone zone c.in-Ok-read_feed.tables c.timetable_of.result ends c.timetable_of.ensures.made c.timetable_of.ensures.fault

pub returns-in-Ok-read_feed-clause-counts : goal.returns-in-Ok-read_feed-clause-counts
returns-in-Ok-read_feed-clause-counts g c =
    kept_then (g.F.Folder.seen c.args.folder.now) (g.F.Folder.seen c.find_zone.new.folder) (g.F.Folder.seen c.read_feed.new.folder)
    c.find_zone.ensures.kept c.read_feed.ensures.counts

pub returns-in-Err-clause-ends : goal.returns-in-Err-clause-ends
returns-in-Err-clause-ends g c =
    let old = g.F.Folder.seen c.args.folder.now in
    let mid = g.F.Folder.seen c.find_zone.new.folder in
    let new = g.F.Folder.seen c.read_feed.new.folder in
    let scope = c.args.scope.now in
    let zone = subst (λ word. ReadsZone old mid word c.in-Ok.zone) c.as_str.ensures.value c.in-Ok.ensures.ends in
    let ends = subst (λ name. EndsSo mid new name (Err c.in-Err.fault)) c.as_str-in-Ok.ensures.value c.in-Err.ensures.ends in
    fault_ends scope old mid new c.in-Ok.zone zone c.in-Err.fault c.feed_fault.result c.faults-start.result ends c.feed_fault.ensures c.faults-start.ensures
    c.find_zone.ensures.kept.faults
