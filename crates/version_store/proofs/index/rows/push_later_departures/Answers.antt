use Rattle.std.proofs.Common.{◌++◌, ◌∙◌, List, ap, sym}
use Rattle.std.specs.Map.Iter.{deref}
use Rattle.std.proofs.lemmas.List.{append-nil}
use Rattle.std.proofs.lemmas.Map.Iter.{rest_all, rest_more}
use Rattle.version_store.specs.declared.index.place.Place.{Place}
use Rattle.version_store.proofs.IndexLemmas.RowsLemmas.{departures_at, walk_more}
use Rattle.version_store.proofs.index.rows.push_later_departures.Goals as goal

pub loop-place-preserved : goal.loop-place-preserved
loop-place-preserved c =
    walk_more c.args.states.now c.args.version c.loop-place.departures.items c.push_departure.new.departures.items _ c.in-Some.place.now _ _
    (rest_more (deref {X = Place}) _ _ _ c.in-Some.place c.in-Some.is c.next.ensures.steps) c.loop-place.invariant c.in_ok-push_departure.ensures

pub returns : goal.returns
returns c =
    let done = rest_all (deref {X = Place}) _ _ _ c.in-None.is c.next.ensures.steps in
    let departures = c.loop-place.departures.items in
    sym (append-nil departures) ∙ ap (λ (v : List Place). departures ++ departures_at c.args.states.now c.args.version v) (sym done) ∙ c.loop-place.invariant
