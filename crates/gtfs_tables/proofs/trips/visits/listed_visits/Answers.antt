use Rattle.std.proofs.Common.{◌≡◌, ◌∙◌, ◌++◌, [], ◌∷◌, ap, ap₂, arith, length, map, rules, sym}
use Rattle.std.proofs.lemmas.List.FromFn.{map-range_with_len_more}
use Rattle.std.specs.List.{range_with_len}
use Rattle.gtfs_tables.specs.Trips.Visits.{visit_at}
use Rattle.gtfs_tables.proofs.trips.visits.listed_visits.Goals as goal

pub rows-preserved : goal.rows-preserved
rows-preserved c =
    let sheet = c.args.rows.now in
    let pushed : c.push.new.self.items ≡ c.rows.visits.items ++ c.in_ok-visit_at.field-0 ∷ [] = search rules in
    rw pushed (ap₂ (λ xs x. xs ++ x ∷ []) c.rows.invariant c.in_ok-visit_at.ensures
    ∙ sym (map-range_with_len_more (visit_at sheet) 0 c.rows.place c.rows.place (omega arith)))

pub returns : goal.returns
returns c =
    let sheet = c.args.rows.now in
    let all : c.rows.place ≡ length sheet.rows = omega arith in
    c.rows.invariant ∙ ap (λ n. map (visit_at sheet) (range_with_len 0 n)) all
