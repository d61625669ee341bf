use Rattle.std.proofs.Common.{◌≡◌, ◌∙◌, ◌++◌, [], ◌∷◌, ap₂, arith, below_more, rules, sym}
use Rattle.std.proofs.lemmas.List.FromFn.{map-range_with_len_more}
use Rattle.gtfs_tables.specs.Trips.SoundRows.{IsSoundAlone, SaysVisit}
use Rattle.gtfs_tables.specs.Trips.Visits.{visit_at}
use Rattle.gtfs_tables.specs.declared.trips.sound_visits.Reported.{Reported}
use Rattle.gtfs_tables.proofs.TripsLemmas.SoundLemmas.{at_some}
use Rattle.gtfs_tables.proofs.trips.sound_visits.visits_with.Goals as goal

pub rows-preserved : goal.rows-preserved
rows-preserved c =
    let sheet = c.args.rows.now in
    let says = at_some (λ (t : Reported). SaysVisit c.args.stops.now c.args.trips.now sheet c.rows.place t.visit) c.in_ok-recorded.field-0 c.in-Some.recorded c.in-Some.is c.in_ok-recorded.ensures in
    let pushed : c.push.new.self.items ≡ c.rows.visits.items ++ c.in-Some.recorded.visit ∷ [] = search rules in
    record {
      said = pushed ∙ ap₂ (λ xs x. xs ++ x ∷ []) c.rows.invariant.said says.said ∙ sym (map-range_with_len_more (visit_at sheet) 0 c.rows.place c.rows.place (omega arith));
      sound = below_more (IsSoundAlone c.args.stops.now c.args.trips.now sheet) c.rows.place c.rows.invariant.sound says.sound;
    }
