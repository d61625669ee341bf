use Rattle.std.proofs.Common.{inr, refl}
use Rattle.page_client.specs.Client.{shown}
use Rattle.page_client.proofs.BeginLemmas.{begun, fewer_at_first, first_shown, scanned_nothing}
use Rattle.page_client.proofs.client.Client.begin.Goals as goal

pub invariant_of-self : goal.invariant_of-self
invariant_of-self c =
    let self = c.args.self.now in
    record { sound = begun self.query self.gate self.scan self.phase c.in-Stops.first c.in-Stops.is self.sound c.args.doc.now c.in-Ok.scan c.in-Ok.ensures.ok }

pub returns-in-Ok-clause-ok : goal.returns-in-Ok-clause-ok
returns-in-Ok-clause-ok c =
    let self = c.args.self.now in
    let known = c.in-Ok.ensures.known in
    inr (inr (
      known.0,
      known.1,
      first_shown (shown self) c.in-Stops.first c.in-Stops.is,
      record {
        scan = c.in-Ok.scan;
        has = refl;
        name = c.in-Stops.first;
        wants = refl;
        scanned = scanned_nothing self.query c.args.doc.now c.in-Stops.first c.in-Ok.scan c.in-Ok.ensures.ok;
      },
    ))

pub returns-in-Ok-clause-fewer : goal.returns-in-Ok-clause-fewer
returns-in-Ok-clause-fewer c =
    let self = c.args.self.now in
    fewer_at_first self.query self.gate self.scan self.phase c.in-Stops.first c.in-Stops.is self.sound
