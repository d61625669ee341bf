-- What a request says of the version that it means (RFC 7089, section 2.1.1: Accept-Datetime).
use Rattle.std.specs.Prelude.{◌≡◌, ℕ, List, Option, Some, None}
use Rattle.lc_time.specs.Http.{SaysHttpDate}
use Rattle.lc_model.specs.Versions.Named.{version_among}

-- Without a value the newest of these versions is meant; a value says a known moment, by which the version is named.
abbrev pub Negotiates : List ℕ → Option (List ℕ) → ℕ → Type 0
Negotiates versions None version = version_among versions None ≡ Some version
Negotiates versions (Some text) version = (known : ℕ) × SaysHttpDate text known × (version_among versions (Some known) ≡ Some version)
