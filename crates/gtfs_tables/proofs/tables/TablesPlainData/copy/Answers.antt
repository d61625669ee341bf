use Rattle.std.proofs.Common.{List, subst, sym}
use Rattle.gtfs_tables.specs.Trips.Stops.{HaveKnownParents}
use Rattle.lc_model.specs.declared.stop.Stop.{Stop}
use Rattle.gtfs_tables.proofs.tables.TablesPlainData.copy.Goals as goal

pub invariant_of-result : goal.invariant_of-result
invariant_of-result c = record {
  parents_known = subst (λ (s : List Stop). ∥ HaveKnownParents s ∥₁) (sym c.in_ok-stops.ensures) c.args.self.now.parents_known;
}
