use Rattle.std.proofs.Common.{◌∙◌, sym}
use Rattle.std.specs.Cmp.Lexicographic.{texts_ties}
use Rattle.gtfs_tables.proofs.TripsLemmas.VisitFacts.{then_apart, then_tied}
use Rattle.gtfs_tables.proofs.trips.visits.compare.Goals as goal

pub returns-then-eq : goal.returns-then-eq
returns-then-eq c =
    c.cmp.ensures ∙ sym (then_tied _ _ (sym (texts_ties c.args.x.now.trip c.args.y.now.trip) ∙ sym c.eq.ensures ∙ c.if-eq.true))

pub returns : goal.returns
returns c =
    c.cmp-2.ensures ∙ sym (then_apart _ _ (sym (texts_ties c.args.x.now.trip c.args.y.now.trip) ∙ sym c.eq.ensures ∙ c.if-eq.false))
