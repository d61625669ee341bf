-- The names of connections.
use Rattle.std.specs.Prelude.{◌≡◌, ◌≢◌, ℕ, ◌<◌, ◌^◌, List, [], ◌∷◌, ◌++◌, codes, decimal, Option, Some, None}
use Rattle.url.specs.Ascii.{slash}
use Rattle.lc_model.specs.Text.{IsIdText}
use Rattle.lc_model.specs.declared.key.RunKey.{RunKey}
use Rattle.lc_time.specs.Clock.{start_text_of}
use Rattle.lc_time.specs.Date.{date_text_of}
use Rattle.connection_uri.specs.Base.{BaseParts}
use Rattle.connection_uri.specs.Encoding.{encoded}

-- the start as six digits, or `-` where the run has none
abbrev pub start_part_of : Option ℕ → List ℕ
start_part_of None = codes "-"
start_part_of (Some start) = start_text_of start

-- trip/date/start, as in the names of connections and of runs
abbrev pub run_part_of : RunKey → List ℕ
run_part_of key =
    encoded key.trip ++ codes "/" ++ date_text_of key.date.year key.date.month key.date.day ++ codes "/"
    ++ start_part_of key.start

-- {base}connections/trip/date/start/sequence
abbrev pub name_of : BaseParts → RunKey → ℕ → List ℕ
name_of base key sequence =
    base.text ++ codes "connections/" ++ run_part_of key ++ codes "/" ++ decimal sequence

-- different runs and sequences have different names
abbrev pub NamesDiffer : Type 0
NamesDiffer =
    (base : BaseParts) (a b : RunKey) (m n : ℕ) → IsIdText a.trip → IsIdText b.trip → m < 2 ^ 32 → n < 2 ^ 32 → name_of base a m ≡ name_of base b n → (a ≡ b) × (m ≡ n)

-- no byte of the text is a slash
abbrev pub HasNoSlash : List ℕ → Type 0
HasNoSlash [] = Unit {0}
HasNoSlash (byte ∷ rest) = (byte ≢ slash) × HasNoSlash rest
