-- Words that say a zone: utc, posix: and a rule, or file: and the name of a file, whose bytes are beside the word.
use Rattle.std.specs.Prelude.{◌≡◌, ◌≢◌, ◌⊎◌, ℕ, nat_eq, if◌then◌else◌, List, length, take, drop, codes, Option, Some, None, Ok, IsSome, IsSomeAnd, IsErr, MatchOption, ⊤}
use Rattle.std.specs.Cmp.Lexicographic.{pointwise}
use Rattle.jiff_tz.specs.PosixReader.{read_whole}
use Rattle.jiff_tz.specs.PosixText.{tz_view}
use Rattle.jiff_tz.specs.Tzif.{HasBadRule, RuleAgrees, tzif_view}
use Rattle.jiff_tz.specs.TzifReader.{read_tzif}
use Rattle.jiff_tz.specs.declared.tzif.Tzif.{Tzif}
use Rattle.lc_time.specs.declared.zone.Zone.{Zone}
use Rattle.lc_time.specs.declared.zone.Zone.TheVariants.{Utc, Posix, File}
use Rattle.service_days.specs.declared.zone_word.ZoneFault.{ZoneFault}
use Rattle.service_days.specs.declared.zone_word.ZoneFault.TheVariants.{Wrong, NoMemory}

-- what comes after a front in a text that begins with it
abbrev pub behind : List ℕ → List ℕ → Option (List ℕ)
behind front text =
    if pointwise nat_eq (take (length front) text) front then Some (drop (length front) text) else None

-- the rule that the word has
abbrev pub rule_named : List ℕ → Option (List ℕ)
rule_named word = behind (codes "posix:") word

-- the name of the file that the word has
abbrev pub file_named : List ℕ → Option (List ℕ)
file_named word = behind (codes "file:") word

-- the bytes are a file of the Time Zone Database (RFC 9636), and this is what it says
pub record IsTableOf (table : Tzif) (bytes : List ℕ) : Type 0 where
  pub read : read_tzif bytes ≡ Ok (tzif_view table)
  pub agrees : RuleAgrees table

-- the word, with the bytes of its file, says the zone
abbrev pub SaysZone : List ℕ → Option (List ℕ) → Zone → Type 0
SaysZone word file Utc = word ≡ codes "utc"
SaysZone word file (Posix rule) = IsSomeAnd (rule_named word) (λ text. read_whole text ≡ Some (tz_view rule))
SaysZone word file (File table) = IsSome (file_named word) × IsSomeAnd file (IsTableOf table)

-- the bytes are no such file, or the file's rule does not agree with its table
abbrev pub IsBadFile : List ℕ → Type 0
IsBadFile bytes = IsErr (read_tzif bytes) ⊎ HasBadRule (read_tzif bytes)

-- The word says no zone: its rule is none, its file is missing or bad, or it has another form.
abbrev pub IsWrong : List ℕ → Option (List ℕ) → Type 0
IsWrong word file =
    MatchOption (rule_named word)
    (MatchOption (file_named word) (word ≢ codes "utc") (λ _. MatchOption file ⊤ IsBadFile))
    (λ text. read_whole text ≡ None)

-- the text of a fault
abbrev pub fault_text : ZoneFault → List ℕ
fault_text Wrong = codes "no such zone"
fault_text NoMemory = codes "no memory"
