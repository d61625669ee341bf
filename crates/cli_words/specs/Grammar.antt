-- The grammar of the arguments of a command: what they say, in the sentences of its table.
use Rattle.std.specs.Prelude.{◌≡◌, ◌≢◌, ◌&&◌, ◌==◌, not, nat_lt, length, Bool, true, false, List, [], ◌∷◌, ◌++◌, map, codes, Option, Some, None, if◌then◌else◌, IsTrue, All}
use Rattle.std.specs.List.{list_all, list_any}
use Rattle.std.specs.Str.{IsUtf8, bytes_eq}
use Rattle.clap.specs.Lexer.{usize_max}
use Rattle.clap.specs.Simple.{App}
use Rattle.clap.specs.Walk.{Text}
use Rattle.cli_words.specs.Line.{IsLine, IsNoDash, value_at}

-- the argument does not begin with a dash
abbrev pub IsPlainWord : Text → Type 0
IsPlainWord [] = Unit {0}
IsPlainWord (first ∷ rest) = first ≢ 45

-- the name is one of these
abbrev pub is_among : List Text → Text → Bool
is_among names name = list_any (λ n. bytes_eq n name) names

-- no two of the names are one
abbrev pub are_apart : List Text → Bool
are_apart [] = true
are_apart (name ∷ names) = not (is_among names name) && are_apart names

-- a value with the name of its place or option
abbrev pub Value : Type 0
Value = Text × Text

-- the arguments after the first `--`: each is the value of the next place, and no place is left
pub data FillsPlaces : List Text → List Text → List Value → Type 0 where
  none_left : FillsPlaces [] [] []
  filled : {place word : Text} {places words : List Text} {values : List Value} → FillsPlaces places words values
      → FillsPlaces (place ∷ places) (word ∷ words) ((place, word) ∷ values)

-- the arguments say these values of these places, and of options and flags, in the order of the arguments
pub data Reads (options flags : List Text) : List Text → List Text → List Value → Type 0 where
  -- the arguments end where no place is left
  ended : Reads options flags [] [] []
  -- after the first `--` every argument is plain
  trailing : {places words : List Text} {values : List Value} → FillsPlaces places words values
      → Reads options flags places (codes "--" ∷ words) values
  -- an argument that does not begin with a dash is the value of the next place
  plain : {place word : Text} {places words : List Text} {values : List Value} → IsPlainWord word
      → Reads options flags places words values → Reads options flags (place ∷ places) (word ∷ words) ((place, word) ∷ values)
  -- `--name value`, where the value does not begin with a dash
  apart : {name value : Text} {places words : List Text} {values : List Value} → IsTrue (is_among options name) → IsPlainWord value
      → Reads options flags places words values → Reads options flags places ((codes "--" ++ name) ∷ value ∷ words) ((name, value) ∷ values)
  -- `--name=value`
  joined : {name value : Text} {places words : List Text} {values : List Value} → IsTrue (is_among options name)
      → Reads options flags places words values
      → Reads options flags places ((codes "--" ++ name ++ codes "=" ++ value) ∷ words) ((name, value) ∷ values)
  -- `--name` of a flag
  flag : {name : Text} {places words : List Text} {values : List Value} → IsTrue (is_among flags name)
      → Reads options flags places words values
      → Reads options flags places ((codes "--" ++ name) ∷ words) ((name, codes "true") ∷ values)

-- the names of values
abbrev pub names_of : List Value → List Text
names_of values = map (λ v. v.0) values

-- the arguments say these values: no option comes twice, and no argument is a dash alone
pub record SayValues (places options flags words : List Text) (values : List Value) : Type 0 where
  pub reads : Reads options flags places words values
  pub once : IsTrue (are_apart (names_of values))
  pub no_dash : All IsNoDash words

-- the value of a name, if the values have one; of a flag that is not there `false`
abbrev pub value_of : List Text → List Value → Text → Option Text
value_of flags [] name = if is_among flags name then Some (codes "false") else None
value_of flags (value ∷ values) name = if bytes_eq value.0 name then Some value.1 else value_of flags values name

-- the arguments of this command are those that the grammar reads
pub record HasGrammar (a : App) (places options flags : List Text) : Type 0 where
  -- arguments that say values are a line with these values
  pub takes : (words : List Text) (values : List Value) → SayValues places options flags words values
      → IsLine a words × ((name : Text) → value_at a words name ≡ value_of flags values name)
  -- the arguments of a line say values, where they are UTF-8, as the bytes of a `String` are
  pub reads : (words : List Text) → All IsUtf8 words → IsLine a words → (values : List Value) × SayValues places options flags words values

-- the name of an option or a flag: it is not empty and has no equals sign
abbrev pub is_option_name : Text → Bool
is_option_name [] = false
is_option_name (first ∷ rest) = not (list_any (λ byte. byte == 61) (first ∷ rest))

-- names of a command's places, options and flags: no two are one
pub record IsTable (places options flags : List Text) : Type 0 where
  pub apart : IsTrue (are_apart (places ++ options ++ flags))
  pub option_names : IsTrue (list_all is_option_name options)
  pub flag_names : IsTrue (list_all is_option_name flags)
  -- `clap` counts places in 64 bits
  pub fit : IsTrue (nat_lt (length places) usize_max)

-- the argument is one of an option or a flag: `--name`, or `--name=value` of an option
pub data IsOptionWord (options flags : List Text) : Text → Type 0 where
  alone : {name : Text} → IsTrue (is_among options name) → IsOptionWord options flags (codes "--" ++ name)
  with_value : (name value : Text) → IsTrue (is_among options name) → IsOptionWord options flags (codes "--" ++ name ++ codes "=" ++ value)
  switch : {name : Text} → IsTrue (is_among flags name) → IsOptionWord options flags (codes "--" ++ name)

-- the argument begins with a dash, and is not `--`
abbrev pub IsDashWord : Text → Type 0
IsDashWord word = (rest : Text) × (word ≡ 45 ∷ rest) × (word ≢ codes "--")
