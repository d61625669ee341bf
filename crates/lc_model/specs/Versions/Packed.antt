-- What the news that are held small stand for.
use Rattle.std.specs.Prelude.{ℕ, Option, Some, None}
use Rattle.lc_model.specs.Versions.News.{StopSaid}
use Rattle.lc_model.specs.declared.versions.event.Relation.TheVariants as relations
use Rattle.lc_model.specs.declared.versions.stop_news.StopMore.{StopMore}

-- the news of a stop of which no more than this is said
abbrev pub stop_said : Option ℕ → Option StopMore → StopSaid
stop_said seq None = record { seq = seq; stop = None; relation = relations.Scheduled; arr = None; dep = None }
stop_said seq (Some more) = record { seq = seq; stop = more.stop; relation = more.relation; arr = more.arr; dep = more.dep }
