-- The URLs of stops and of runs under a base.
use Rattle.std.specs.Prelude.{ℕ, List, ◌++◌, codes}
use Rattle.lc_model.specs.declared.key.RunKey.{RunKey}
use Rattle.connection_uri.specs.Base.{BaseParts}
use Rattle.connection_uri.specs.Encoding.{encoded}
use Rattle.connection_uri.specs.Name.{run_part_of}

-- {base}stops/ and the id, encoded
abbrev pub stop_url_of : BaseParts → List ℕ → List ℕ
stop_url_of base stop = base.text ++ (codes "stops/" ++ encoded stop)

-- {base}trips/trip/date/start
abbrev pub trip_url_of : BaseParts → RunKey → List ℕ
trip_url_of base key = base.text ++ codes "trips/" ++ run_part_of key
