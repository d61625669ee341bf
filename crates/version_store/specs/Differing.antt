-- Which news differ from one list to the next one.
use Rattle.std.specs.Prelude.{◌≡◌, List, filter, false}
use Rattle.lc_model.specs.declared.key.RunKey.{RunKey}
use Rattle.lc_model.specs.Versions.Added.{has_key}
use Rattle.lc_model.specs.Versions.Naming.{names_run}
use Rattle.lc_model.specs.Versions.News.{TripSaid}
use Rattle.version_store.specs.IndexLaws.Touched.{is_touched}

-- the same news of both lists name the run of the key, and the same have exactly the key
pub record AreAlikeAt (key : RunKey) (old new : List TripSaid) : Type 0 where
  pub named : filter (names_run key) old ≡ filter (names_run key) new
  pub of_key : filter (has_key key) old ≡ filter (has_key key) new

-- the lists are alike at each key that none of these news touch
abbrev pub DifferBy : List TripSaid → List TripSaid → List TripSaid → Type 0
DifferBy list old new = (key : RunKey) → is_touched key list ≡ false → AreAlikeAt key old new
