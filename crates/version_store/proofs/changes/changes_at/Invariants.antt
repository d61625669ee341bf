use Rattle.std.proofs.Common.{List}
use Rattle.lc_model.specs.Versions.News.{TripSaid}
use Rattle.version_store.specs.Changes.{AreChangesAt}
use Rattle.version_store.specs.LastNews.{HasLastOf}
use Rattle.version_store.proofs.changes.changes_at.Given as goal

abbrev pub invariant-loop-key : goal.invariant-loop-key
invariant-loop-key l =
    (before after : List TripSaid) → HasLastOf l.keys before l.old → HasLastOf l.keys after l.new → AreChangesAt l.runs l.stops before after l.keys l.key-iterator l.changes
