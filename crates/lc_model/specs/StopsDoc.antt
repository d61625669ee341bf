-- The stops document: the stops and the changes, as one closed whole.
use Rattle.std.specs.Prelude.{List}
use Rattle.std.specs.List.{All}
use Rattle.std.specs.Option.{IfSome}
use Rattle.lc_model.specs.Stop.{HasStop}
use Rattle.lc_model.specs.declared.change.Change.{Change}
use Rattle.lc_model.specs.declared.stop.Stop.{Stop}

-- each parent and each end of a change is one of the stops
pub record NamesItsStops (stops : List Stop) (changes : List Change) : Type 0 where
  pub parents : All (λ (s : Stop). IfSome s.parent (HasStop stops)) stops
  pub changes_from : All (λ (c : Change). HasStop stops c.from) changes
  pub changes_to : All (λ (c : Change). HasStop stops c.to) changes
