-- What comes after the walk over the arguments of a line.
use Rattle.std.proofs.Common.{◌≡◌, ◌∙◌, ℕ, ◌+◌, ◌||◌, ◌&&◌, not, min, Bool, true, false, List, [], ◌∷◌, ◌++◌, map, Option, Some, None, ap, ap₂, refl, sym}
use Rattle.std.specs.Prelude.{fold, is_some, if◌then◌else◌}
use Rattle.std.specs.List.{list_any}
use Rattle.std.specs.Str.{bytes_eq}
use Rattle.std.proofs.lemmas.Bool.{false≢true}
use Rattle.clap.specs.Lexer.{usize_max}
use Rattle.clap.specs.Kinds.{Kinds, or_else}
use Rattle.clap.specs.Faults.{check_fault, default_fault, defaults_fault, entered_fault, fault_of, level_fault}
use Rattle.clap.specs.Simple.{Shape, entered, filled_from}
use Rattle.clap.specs.Takes.{is_given}
use Rattle.clap.specs.declared.error.kind.ErrorKind.TheVariants as kind
use Rattle.clap.specs.Walk.{Row, Rule, Text, finished, first_of, has_row, nothing_held, walk, with_default}
use Rattle.cli_words.specs.Grammar.{is_among}
use Rattle.cli_words.specs.Line.{flagged, line, named, placed, value_at}
use Rattle.cli_words.proofs.StepLemmas.{flag_rule, option_rule, place_rule, same_text, shape}
use Rattle.cli_words.proofs.TableLemmas.{built_rules, first_or_rest, numbered, rules_of}
use Rattle.cli_words.proofs.TestLemmas.{left_false, or_true, right_false}

-- a command without subcommands enters none
enters_none : (top : Shape) (stop : Option (Text × List Text)) → is_some (entered (record { top = top; subs = [] }) stop) ≡ false
enters_none top None = refl
enters_none top (Some p) = refl

fails_none : (top : Shape) (stop : Option (Text × List Text)) → entered_fault (record { top = top; subs = [] }) stop ≡ []
fails_none top None = refl
fails_none top (Some p) = refl

-- what `clap` says of arguments where the line is built so
abbrev pub top_fault : Text → List Rule → List Text → Kinds
top_fault name c words = level_fault (shape name c) [] nothing_held words false []

pub line_fault : (name : Text) (places options flags : List Text) (words : List Text) → fault_of (line name places options flags) words ≡ top_fault name (rules_of places options flags) words
unfolding line
line_fault name places options flags words =
    let c : List Rule = filled_from 1 (map placed places ++ map named options ++ map flagged flags) in
    let stop : Option (Text × List Text) = (walk c [] nothing_held words).stopped in
    ap₂ (level_fault (shape name c) [] nothing_held words) (enters_none (shape name c) stop) (fails_none (shape name c) stop)
    ∙ ap (λ c. top_fault name c words) (built_rules places options flags)

pub line_value : (name : Text) (places options flags : List Text) (words : List Text) (id : Text)
    → value_at (line name places options flags) words id ≡ first_of id (finished (rules_of places options flags) (walk (rules_of places options flags) [] nothing_held words).held)
unfolding line value_at
line_value name places options flags words id = ap (λ c. first_of id (finished c (walk c [] nothing_held words).held)) (built_rules places options flags)

-- ---- defaults

either_way : {X : Type 0} (b : Bool) (x : X) → (if b then x else x) ≡ x
either_way true x = refl
either_way false x = refl

flags_quiet : (flags : List Text) (rows : List Row) → defaults_fault rows (map flag_rule flags) ≡ []
unfolding defaults_fault
flags_quiet [] rows = refl
flags_quiet (f ∷ fs) rows = ap₂ or_else (either_way (has_row f rows || false) []) (flags_quiet fs (with_default rows (flag_rule f)))

option_quiet : (o : Text) (rows : List Row) → default_fault rows (option_rule o) ≡ []
option_quiet o rows = by (has_row o rows) refl
  where
    by : (t : Bool) → has_row o rows ≡ t → default_fault rows (option_rule o) ≡ []
    by true t = simp t
    by false t = simp t

place_quiet : (i : ℕ) (p : Text) (rows : List Row) → default_fault rows (place_rule i p) ≡ []
place_quiet i p rows = by (has_row p rows) refl
  where
    by : (t : Bool) → has_row p rows ≡ t → default_fault rows (place_rule i p) ≡ []
    by true t = simp t
    by false t = simp t

options_quiet : (options flags : List Text) (rows : List Row) → defaults_fault rows (map option_rule options ++ map flag_rule flags) ≡ []
unfolding defaults_fault
options_quiet [] flags rows = flags_quiet flags rows
options_quiet (o ∷ os) flags rows =
    ap₂ or_else (option_quiet o rows) (options_quiet os flags (with_default rows (option_rule o)))

pub places_quiet : (i : ℕ) (places options flags : List Text) (rows : List Row) → defaults_fault rows (numbered i places ++ (map option_rule options ++ map flag_rule flags)) ≡ []
unfolding defaults_fault
places_quiet i [] options flags rows = options_quiet options flags rows
places_quiet i (p ∷ ps) options flags rows =
    ap₂ or_else (place_quiet i p rows) (places_quiet (min (i + 1) usize_max) ps options flags (with_default rows (place_rule i p)))

options_add_none : (options flags : List Text) (rows : List Row) → fold with_default rows (map option_rule options ++ map flag_rule flags) ≡ fold with_default rows (map flag_rule flags)
options_add_none [] flags rows = refl
options_add_none (o ∷ os) flags rows =
    ap (λ rows. fold with_default rows (map option_rule os ++ map flag_rule flags)) (either_way (has_row o rows) rows) ∙ options_add_none os flags rows

-- only flags have defaults
pub only_flags : (i : ℕ) (places options flags : List Text) (rows : List Row)
    → fold with_default rows (numbered i places ++ (map option_rule options ++ map flag_rule flags)) ≡ fold with_default rows (map flag_rule flags)
only_flags i [] options flags rows = options_add_none options flags rows
only_flags i (p ∷ ps) options flags rows =
    ap (λ rows. fold with_default rows (numbered (min (i + 1) usize_max) ps ++ (map option_rule options ++ map flag_rule flags))) (either_way (has_row p rows) rows)
    ∙ only_flags (min (i + 1) usize_max) ps options flags rows

-- ---- what is required

abbrev pub unmet : List Row → Rule → Bool
unmet rows a = a.required && not (is_given a.id rows)

no_option_unmet : (options flags : List Text) (rows : List Row) → list_any (unmet rows) (map option_rule options ++ map flag_rule flags) ≡ false
no_option_unmet [] [] rows = refl
no_option_unmet [] (f ∷ fs) rows = no_option_unmet [] fs rows
no_option_unmet (o ∷ os) flags rows = no_option_unmet os flags rows

pub all_met : (i : ℕ) (places options flags : List Text) (rows : List Row) → ((p : Text) → is_among places p ≡ true → is_given p rows ≡ true)
    → list_any (unmet rows) (numbered i places ++ (map option_rule options ++ map flag_rule flags)) ≡ false
all_met i [] options flags rows all = no_option_unmet options flags rows
all_met i (p ∷ ps) options flags rows all =
    ap₂ (λ (a b : Bool). a || b) (ap not (all p (simp (same_text p))))
    (all_met (min (i + 1) usize_max) ps options flags rows (λ q e. all q (ap (λ (b : Bool). bytes_eq p q || b) e ∙ or_true (bytes_eq p q))))

not_true : (a : Bool) → not a ≡ false → a ≡ true
not_true true e = refl
not_true false e = absurd (false≢true (sym e))

pub met_all : (i : ℕ) (places options flags : List Text) (rows : List Row) → list_any (unmet rows) (numbered i places ++ (map option_rule options ++ map flag_rule flags)) ≡ false
    → (p : Text) → is_among places p ≡ true → is_given p rows ≡ true
met_all i [] options flags rows e p among = absurd (false≢true among)
met_all i (x ∷ xs) options flags rows e p among =
    first_or_rest {R = is_given p rows ≡ true} x xs p among
    (λ same. ap (λ (p : Text). is_given p rows) (sym same) ∙ not_true _ (left_false _ _ e))
    (λ rest. met_all (min (i + 1) usize_max) xs options flags rows (right_false _ _ e) p rest)

pub check_passes : (name : Text) (c : List Rule) (rows : List Row) → list_any (unmet rows) c ≡ false → check_fault (shape name c) rows false ≡ []
check_passes name c rows e = simp e

pub check_met : (name : Text) (c : List Rule) (rows : List Row) → check_fault (shape name c) rows false ≡ [] → list_any (unmet rows) c ≡ false
check_met name c rows none = by (list_any (unmet rows) c) refl
  where
    by : (t : Bool) → list_any (unmet rows) c ≡ t → list_any (unmet rows) c ≡ false
    by false t = t
    by true t =
        let f : check_fault (shape name c) rows false ≡ kind.MissingRequiredArgument ∷ [] = simp t in
        absurd (cc (f, none))
