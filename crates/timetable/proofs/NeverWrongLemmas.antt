-- A word that says a zone is none that says none.
use Rattle.std.proofs.Common.{◌≡◌, ◌≢◌, ℕ, suc, List, [], ◌∷◌, length, take, drop, Bool, true, false, cond, Option, Some, None, arith, subst, codes, get_or, refl}
use Rattle.std.specs.Prelude.{IsSome, IsSomeAnd, MatchOption, ⊤}
use Rattle.std.specs.Str.{bytes_eq}
use Rattle.std.proofs.lemmas.Slice.Eq.{bytes_eq-Decides}
use Rattle.jiff_tz.specs.PosixReader.{read_whole}
use Rattle.jiff_tz.specs.PosixText.{tz_view}
use Rattle.jiff_tz.specs.TzifReader.{read_tzif}
use Rattle.lc_time.specs.declared.zone.Zone.{Zone}
use Rattle.lc_time.specs.declared.zone.Zone.TheVariants.{Utc, Posix, File}
use Rattle.service_days.specs.ZoneWord.{IsBadFile, IsTableOf, IsWrong, SaysZone, behind, file_named, rule_named}
use Rattle.service_days.proofs.RuleLemmas.{good_file}

-- a text with something after a front begins with it
begins : (same : Bool) (rest : List ℕ) (text : List ℕ) → cond same (Some rest) None ≡ Some text → same ≡ true
begins true rest text e = refl
begins false rest text e = cc

front_of : (front text rest : List ℕ) → behind front text ≡ Some rest → take (length front) text ≡ front
front_of front text rest e = (bytes_eq-Decides (take (length front) text) front).0 (begins (bytes_eq (take (length front) text) front) (drop (length front) text) rest e)

-- no word begins in two ways
first_byte : (word : List ℕ) (n : ℕ) (x : ℕ) (front : List ℕ) → take (suc n) word ≡ x ∷ front → get_or word 0 0 ≡ x
first_byte [] n x front e = cc
first_byte (y ∷ word) n x front e = cc

not_both : (word a b : List ℕ) → rule_named word ≡ Some a → file_named word ≡ Some b → ⊥
not_both word a b e f =
    let p : get_or word 0 0 ≡ 112 = first_byte word 5 112 (codes "osix:") (front_of (codes "posix:") word a e) in
    let q : get_or word 0 0 ≡ 102 = first_byte word 4 102 (codes "ile:") (front_of (codes "file:") word b f) in
    omega (arith, p, q)

by_rule : (named : Option (List ℕ)) (rule : _) (other : Type 0) → IsSomeAnd named (λ text. read_whole text ≡ Some (tz_view rule)) → MatchOption named other (λ text. read_whole text ≡ None) → ⊥
by_rule None rule other says wrong = says
by_rule (Some text) rule other says wrong = cc

of_table : (table : _) (file : Option (List ℕ)) → IsSomeAnd file (IsTableOf table) → MatchOption file ⊤ IsBadFile → ⊥
of_table table None is bad = is
of_table table (Some bytes) is bad = good_file table (read_tzif bytes) is.read is.agrees bad

no_file : IsSome {T = List ℕ} None → ⊥
no_file named = cc

by_file : (rule file_name : Option (List ℕ)) (word : List ℕ) (table : _) (file : Option (List ℕ)) → ((a b : List ℕ) → rule ≡ Some a → file_name ≡ Some b → ⊥) → IsSome file_name → IsSomeAnd file (IsTableOf table)
    → MatchOption rule (MatchOption file_name (word ≢ codes "utc") (λ _. MatchOption file ⊤ IsBadFile)) (λ text. read_whole text ≡ None) → ⊥
by_file rule None word table file apart named is wrong = no_file named
by_file None (Some name) word table file apart named is wrong = of_table table file is wrong
by_file (Some text) (Some name) word table file apart named is wrong = apart text name refl refl

pub never_wrong : (word : List ℕ) (file : Option (List ℕ)) (zone : Zone) → SaysZone word file zone → IsWrong word file → ⊥
never_wrong word file Utc says wrong = (subst (λ w. IsWrong w file) says wrong) refl
never_wrong word file (Posix rule) says wrong = by_rule (rule_named word) rule _ says wrong
never_wrong word file (File table) says wrong = by_file (rule_named word) (file_named word) word table file (not_both word) says.0 says.1 wrong
