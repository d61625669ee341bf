-- When a word says no zone.
use Rattle.std.proofs.Common.{◌≡◌, ℕ, List, Option, Some, None, Bool, true, false, ap, sym, ◌∙◌, refl, subst}
use Rattle.std.specs.Prelude.{MatchOption, ⊤, is_some, not}
use Rattle.std.specs.Option.{option_copied}
use Rattle.jiff_tz.specs.PosixReader.{read_whole}
use Rattle.service_days.specs.ZoneWord.{IsBadFile}
use denote.Ref.{Bor}

copied_some : (r : Option (Bor (List ℕ))) → is_some (option_copied r) ≡ is_some r
copied_some None = refl
copied_some (Some x) = refl

pub is_named : (r : Option (Bor (List ℕ))) (name : Option (List ℕ)) (none : Bool) → option_copied r ≡ name → is_some r ≡ not none → none ≡ false → is_some name ≡ true
is_named r name none e some there = ap is_some (sym e) ∙ copied_some r ∙ some ∙ ap not there

-- not where it names a file that is a good one
pub right_file : (rule name : Option (List ℕ)) (file : Option (List ℕ)) (bytes : List ℕ) (Plain : Type 0) → None ≡ rule → is_some name ≡ true → file ≡ Some bytes → (IsBadFile bytes → ⊥) → MatchOption rule (MatchOption name Plain (λ _. MatchOption file ⊤ IsBadFile)) (λ text. read_whole text ≡ None) → ⊥
right_file (Some text) name file bytes Plain none some is good wrong = cc
right_file None None file bytes Plain none some is good wrong = cc
right_file None (Some n) None bytes Plain none some is good wrong = cc
right_file None (Some n) (Some b) bytes Plain none some is good wrong =
    let same : b ≡ bytes = cc in
    good (subst IsBadFile same wrong)
