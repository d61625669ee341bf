use Rattle.back_scan.proofs.LinkingLemmas.{linked-departed}
use Rattle.back_scan.proofs.progress.Progress.depart.Goals as goal

pub invariant_of-self : goal.invariant_of-self
invariant_of-self c =
    let p = c.args.self.now in
    record {
      linked = linked-departed c.args.query.now c.args.starts.now p.alightings.items p.departures.items p.best p.linked c.args.stop c.requires.free c.args.departure c.requires.within
          c.start_of-start.result c.later-self.result c.start_of-start.ensures c.later-self.ensures;
    }
