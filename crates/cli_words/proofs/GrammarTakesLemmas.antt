-- Lines are what the grammar reads.
use Rattle.std.proofs.Common.{◌≡◌, ◌∙◌, ℕ, ◌+◌, ◌≤◌, ◌||◌, Bool, true, false, List, [], ◌∷◌, ◌++◌, map, length, codes, Option, Some, None, ap, ap₂, refl, sym, arith}
use Rattle.std.specs.Prelude.{fold, nat_lt, option_and_then, slice_get, if◌then◌else◌}
use Rattle.std.specs.Option.{option_map_or}
use Rattle.std.specs.Str.{bytes_eq}
use Rattle.std.proofs.lemmas.Bool.{false≢true}
use Rattle.std.proofs.lemmas.Bool.Decides.{nat_tests}
use Rattle.std.proofs.lemmas.List.Folds.{list_any-append}
use Rattle.clap.specs.Facts.{explicit_source}
use Rattle.clap.specs.Lexer.{usize_max}
use Rattle.clap.specs.Kinds.{or_else}
use Rattle.clap.specs.Takes.{is_given}
use Rattle.clap.specs.Walk.{Row, Rule, Text, finished, first_of, has_row, idle, with_default}
use Rattle.cli_words.specs.Grammar as g
use Rattle.cli_words.specs.Grammar.{SayValues, FillsPlaces, IsTable, Reads, Value, are_apart, is_among, names_of, value_of}
use Rattle.cli_words.specs.Line.{IsLine, Takes, line, value_at}
use Rattle.cli_words.proofs.EndLemmas.{all_met, check_passes, line_fault, line_value, only_flags, places_quiet}
use Rattle.cli_words.proofs.PassLemmas.{held_after, reads}
use Rattle.cli_words.proofs.RowLemmas.{AreMade, at, falsely, kept, no_value_of, passed, same_names, same_values}
use Rattle.cli_words.proofs.StepLemmas.{flag_rule, holds, walk_at}
use Rattle.cli_words.proofs.TableLemmas.{HasOptions, HasPlaces, has_options, has_places, names_apart, rules_of}
use Rattle.cli_words.proofs.TestLemmas.{or_true}

-- what is found in a line whose names are apart
pub record HasNames (places options flags : List Text) : Type 0 where
  pub found_places : HasPlaces (rules_of places options flags) 1 places
  pub found_options : HasOptions (rules_of places options flags) options flags
  pub apart : are_apart places ≡ true
  pub no_option : (q : Text) → is_among places q ≡ true → is_among options q ≡ false
  pub no_flag : (q : Text) → is_among places q ≡ true → is_among flags q ≡ false

pub has_names : (places options flags : List Text) → IsTable places options flags → HasNames places options flags
has_names places options flags table =
    let both = names_apart (places ++ options) flags table.apart in
    let two = names_apart places options both.0 in
    let fit : 1 + length places ≤ usize_max = fits (length places) table.fit in
    record {
      found_places = has_places places options flags fit two.0;
      found_options = has_options places options flags two.2 (λ q e. both.2 q (list_any-append (λ n. bytes_eq n q) places options
          ∙ ap (λ (b : Bool). is_among places q || b) e ∙ or_true (is_among places q)));
      apart = two.0;
      no_option = two.2;
      no_flag = λ q e. both.2 q (list_any-append (λ n. bytes_eq n q) places options ∙ ap (λ (b : Bool). b || is_among options q) e);
    }
  where
    fits : (n : ℕ) → nat_lt n usize_max ≡ true → 1 + n ≤ usize_max
    fits n e = grind (arith, nat_tests)

-- each place has its value
filled_all : {places words : List Text} {values : List Value} → FillsPlaces places words values → (p : Text) → is_among places p ≡ true → is_among (names_of values) p ≡ true
filled_all g.none_left p e = e
filled_all (g.filled {place} {places} {values} r) p e = by (bytes_eq place p) e (filled_all r p)
  where
    by : (t : Bool) → (t || is_among places p) ≡ true → (is_among places p ≡ true → is_among (names_of values) p ≡ true) → (t || is_among (names_of values) p) ≡ true
    by true e rest = refl
    by false e rest = rest e

read_all : {options flags places words : List Text} {values : List Value} → Reads options flags places words values → (p : Text) → is_among places p ≡ true → is_among (names_of values) p ≡ true
read_all g.ended p e = e
read_all (g.trailing r) p e = filled_all r p e
read_all (g.plain {place} {places} {values} is r) p e = by (bytes_eq place p) e (read_all r p)
  where
    by : (t : Bool) → (t || is_among places p) ≡ true → (is_among places p ≡ true → is_among (names_of values) p ≡ true) → (t || is_among (names_of values) p) ≡ true
    by true e rest = refl
    by false e rest = rest e
read_all (g.apart {name} {values} among is r) p e = ap (λ (b : Bool). bytes_eq name p || b) (read_all r p e) ∙ or_true (bytes_eq name p)
read_all (g.joined {name} {values} among r) p e = ap (λ (b : Bool). bytes_eq name p || b) (read_all r p e) ∙ or_true (bytes_eq name p)
read_all (g.flag {name} {values} among r) p e = ap (λ (b : Bool). bytes_eq name p || b) (read_all r p e) ∙ or_true (bytes_eq name p)

-- what is in no row is not found
pub at_none : (id : Text) (rows : List Row) → has_row id rows ≡ false → at id rows ≡ None
at_none id [] e = refl
at_none id (r ∷ rs) e = by (bytes_eq r.id id) refl e (at_none id rs)
  where
    by : (t : Bool) → bytes_eq r.id id ≡ t → (t || has_row id rs) ≡ false → (has_row id rs ≡ false → at id rs ≡ None) → at id (r ∷ rs) ≡ None
    by true t e rest = absurd (false≢true (sym e))
    by false t e rest = simp t (rest e)

-- the values of the rows, with the defaults of flags
pub values_are : (flags : List Text) (rows : List Row) (values : List Value) → AreMade rows values → (id : Text)
    → first_of id (fold with_default rows (map flag_rule flags)) ≡ value_of flags values id
values_are flags rows values made id = by (has_row id rows) refl
  where
    first : Option Row → Option Text
    first = option_and_then (λ r. slice_get r.values 0)

    none_by : (t : Bool) → is_among flags id ≡ t → has_row id rows ≡ false
        → first_of id (fold with_default rows (map flag_rule flags)) ≡ (if is_among flags id then Some (codes "false") else None)
    none_by true t none = falsely flags rows id t none ∙ simp t
    none_by false t none = ap (option_and_then (λ (r : Row). slice_get r.values 0)) (passed flags rows id t ∙ at_none id rows none) ∙ simp t

    by : (t : Bool) → has_row id rows ≡ t → first_of id (fold with_default rows (map flag_rule flags)) ≡ value_of flags values id
    by true t = ap (option_and_then (λ (r : Row). slice_get r.values 0)) (kept flags rows id t) ∙ (same_values flags rows values made id t).0
    by false t = none_by (is_among flags id) refl t ∙ sym (no_value_of flags values id (sym (same_names rows values made id) ∙ t))

pub words_are_taken : (name : Text) (places options flags : List Text) → IsTable places options flags → (words : List Text) (values : List Value) → SayValues places options flags words values
    → IsLine (line name places options flags) words × ((id : Text) → value_at (line name places options flags) words id ≡ value_of flags values id)
unfolding Takes
words_are_taken name places options flags table words values are =
    let c : List Rule = rules_of places options flags in
    let names = has_names places options flags table in
    let p = reads name c options flags names.found_options table.option_names table.flag_names are.reads [] None 1 names.found_places refl are.once (λ q e. refl) in
    let end = held_after c (walk_at (holds [] None) idle 1 false) words in
    let final : finished c end ≡ fold with_default p.more (map flag_rule flags) = ap (λ rows. fold with_default rows c) p.all ∙ only_flags 1 places options flags p.more in
    let given : (q : Text) → is_among places q ≡ true → is_given q (finished c end) ≡ true = λ q e.
    let has : has_row q p.more ≡ true = same_names p.more values p.made q ∙ read_all are.reads q e in
    ap (is_given q) final ∙ ap (λ (r : Option Row). option_map_or (λ r. explicit_source r.source) r false) (kept flags p.more q has)
    ∙ (same_values flags p.more values p.made q has).1 in
    let check = check_passes name c (finished c end) (all_met 1 places options flags (finished c end) given) in (
      record {
        taken = line_fault name places options flags words ∙ ap₂ or_else p.walks (ap₂ or_else p.settles (ap₂ or_else (places_quiet 1 places options flags _) check));
        no_dash = are.no_dash;
      },
      λ id. line_value name places options flags words id ∙ ap (first_of id) final ∙ values_are flags p.more values p.made id,
    )
