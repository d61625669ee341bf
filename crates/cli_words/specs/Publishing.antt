-- The options that say how a timetable is published.
use Rattle.std.specs.Prelude.{◌≡◌, ℕ, List, ◌++◌, codes, Some}
use Rattle.url.specs.Parts.{Parts}
use Rattle.clap.specs.Simple.{App}
use Rattle.lc_time.specs.Iso.{SaysMoment}
use Rattle.connection_uri.specs.Base.{BaseParts, ReadsAsBase, base_of}
use Rattle.fragmenter.specs.declared.cutting.Cutting.{Cutting}
use Rattle.fragmenter.specs.declared.cutting.Cutting.TheVariants as ways
use Rattle.cli_words.specs.Line.{value_at}
use Rattle.cli_words.specs.Options.{bounded_said, text_said}
use Rattle.cli_words.specs.declared.command.Publishing.{Publishing}

-- the text says the base
pub record SaysBase (text : List ℕ) (base : BaseParts) : Type 0 where
  -- the URL that the text is read as
  pub url : Parts
  pub reads : ReadsAsBase text url
  pub is : base ≡ base_of url

-- after this front the text says a number, which is between these
pub record SaysBehind (front : List ℕ) (low high : ℕ) (text : List ℕ) (number : ℕ) : Type 0 where
  -- what comes after the front
  pub digits : List ℕ
  pub written : text ≡ front ++ digits
  pub said : bounded_said low high digits ≡ Some number

-- The text says a way to cut: `whole`, `span:` and up to a day of seconds, or `count:` and up to 1,000,000 connections.
abbrev pub SaysCutting : List ℕ → Cutting → Type 0
SaysCutting text ways.Whole = text ≡ codes "whole"
SaysCutting text (ways.Span way) = SaysBehind (codes "span:") 1 86_400 text way.seconds
SaysCutting text (ways.Count way) = SaysBehind (codes "count:") 1 1_000_000 text way.count

-- `--base`, `--base-moment` and `--cuts`, where they are not there with this text for the base and with these for the others
pub record SaysPublishingOr (default_base : List ℕ) (a : App) (words : List (List ℕ)) (publishing : Publishing) : Type 0 where
  pub base_said : SaysBase (text_said default_base (value_at a words (codes "base"))) publishing.base
  pub moment_said : SaysMoment (text_said (codes "1970-01-01T00:00:00Z") (value_at a words (codes "base-moment"))) publishing.base_moment
  pub cutting_said : SaysCutting (text_said (codes "span:1800") (value_at a words (codes "cuts"))) publishing.cutting

-- the base of an in-process publisher where `--base` is not there: it need not be the address of a server
abbrev pub example : List ℕ
example = codes "http://lc.example/"

-- the options of an in-process publisher
abbrev pub SaysPublishing : App → List (List ℕ) → Publishing → Type 0
SaysPublishing a words publishing = SaysPublishingOr example a words publishing
