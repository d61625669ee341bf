-- The parts of a name after its base.
use Rattle.std.specs.Prelude.{◌≡◌, ℕ, List, ◌∷◌, ◌++◌, decimal}
use Rattle.url.specs.Ascii.{slash}
use Rattle.lc_model.specs.declared.key.RunKey.{RunKey}
use Rattle.lc_time.specs.Date.{date_text_of}
use Rattle.connection_uri.specs.declared.parts.NameParts.{NameParts}
use Rattle.connection_uri.specs.Encoding.{encoded}
use Rattle.connection_uri.specs.Name.{start_part_of}

-- the parts with a slash between each two
abbrev pub joined : NameParts → List ℕ
joined p = p.trip.now ++ slash ∷ (p.date.now ++ slash ∷ (p.start.now ++ slash ∷ p.sequence.now))

-- the parts are those of the name of this run and sequence
pub record ArePartsOf (key : RunKey) (sequence : ℕ) (p : NameParts) : Type 0 where
  pub trip_is : p.trip.now ≡ encoded key.trip
  pub date_is : p.date.now ≡ date_text_of key.date.year key.date.month key.date.day
  pub start_is : p.start.now ≡ start_part_of key.start
  pub sequence_is : p.sequence.now ≡ decimal sequence
