-- Rows of values that were found.
use Rattle.std.proofs.Common.{◌≡◌, ◌∙◌, ℕ, ◌||◌, Bool, true, false, List, [], ◌∷◌, ◌++◌, map, codes, Option, Some, None, ap, refl, sym}
use Rattle.std.specs.Prelude.{option_and_then, slice_get, find, fold, if◌then◌else◌}
use Rattle.std.specs.Str.{bytes_eq}
use Rattle.std.proofs.lemmas.Bool.{false≢true}
use Rattle.std.proofs.lemmas.Slice.Eq.{bytes_eq-Decides}
use Rattle.std.proofs.lemmas.List.{append-nil}
use Rattle.std.proofs.lemmas.List.Folds.{list_any-append}
use Rattle.clap.specs.Faults.{use_fault}
use Rattle.clap.specs.Takes.{is_given}
use Rattle.clap.specs.Walk.{Row, Text, at_row, first_of, has_row, more_values, used, with_default, with_values, without}
use Rattle.clap.specs.declared.builder.value_parser.Reading.{Reading}
use Rattle.clap.specs.declared.builder.value_parser.Reading.TheVariants as reading
use Rattle.clap.specs.declared.error.kind.ErrorKind.TheVariants as kind
use Rattle.clap.specs.declared.parser.matches.ValueSource.{ValueSource}
use Rattle.clap.specs.declared.parser.matches.ValueSource.TheVariants.{CommandLine, DefaultValue}
use Rattle.cli_words.specs.Grammar.{Value, is_among, names_of, value_of}
use Rattle.cli_words.proofs.TestLemmas.{left_false, right_false}
use Rattle.cli_words.proofs.StepLemmas.{flag_rule, option_rule, place_rule}

-- the row has this one value, from the arguments
pub record IsMadeRow (r : Row) (value : Value) : Type 0 where
  pub id : r.id ≡ value.0
  pub values : r.values ≡ value.1 ∷ []
  pub source : r.source ≡ Some CommandLine

-- the rows have these values
abbrev pub AreMade : List Row → List Value → Type 0
AreMade [] [] = Unit {0}
AreMade [] (v ∷ vs) = ⊥
AreMade (r ∷ rs) [] = ⊥
AreMade (r ∷ rs) (v ∷ vs) = IsMadeRow r v × AreMade rs vs

-- where no row has the id, a row is added at the end
new_row : (id : Text) (change : Row → List Row) (missing rows : List Row) → has_row id rows ≡ false → at_row id change missing rows ≡ rows ++ missing
new_row id change missing [] e = refl
new_row id change missing (r ∷ rs) e = by (bytes_eq r.id id) refl e (λ e. new_row id change missing rs e)
  where
    by : (t : Bool) → bytes_eq r.id id ≡ t → (t || has_row id rs) ≡ false → (has_row id rs ≡ false → at_row id change missing rs ≡ rs ++ missing) → at_row id change missing (r ∷ rs) ≡ (r ∷ rs) ++ missing
    by true is e rest = absurd (false≢true (sym e))
    by false is e rest = rw is (ap (λ rest. r ∷ rest) (rest e))

-- a value from this source
abbrev pub made : ValueSource → Reading → Value → Row
made source how value = record { id = value.0; values = value.1 ∷ []; count = None; source = Some source; reading = how }

new_use : (id : Text) (how : Reading) (value : Text) (rows : List Row) → has_row id rows ≡ false
    → with_values id how CommandLine (value ∷ []) (without id rows) ≡ rows ++ made CommandLine how (id, value) ∷ []
new_use id how value rows e =
    ap (λ rows. with_values id how CommandLine (value ∷ []) rows) (new_row id (λ _. []) [] rows e ∙ append-nil rows)
    ∙ new_row id (more_values CommandLine (value ∷ [])) _ rows e

-- a row more
pub record IsMore (rows : List Row) (value : Value) (more : List Row) : Type 0 where
  pub row : Row
  pub is : IsMadeRow row value
  pub all : more ≡ rows ++ row ∷ []

pub place_used : (i : ℕ) (place word : Text) (rows : List Row) → has_row place rows ≡ false
    → (use_fault false (place_rule i place) (word ∷ []) rows ≡ []) × IsMore rows (place, word) (used (place_rule i place) (word ∷ []) rows)
place_used i place word rows e =
    (simp e, record { row = made CommandLine _ (place, word); is = record { id = refl; values = refl; source = refl }; all = new_use place _ word rows e })

pub option_used : (name word : Text) (rows : List Row) → has_row name rows ≡ false
    → (use_fault false (option_rule name) (word ∷ []) rows ≡ []) × IsMore rows (name, word) (used (option_rule name) (word ∷ []) rows)
option_used name word rows e =
    (simp e, record { row = made CommandLine _ (name, word); is = record { id = refl; values = refl; source = refl }; all = new_use name _ word rows e })

pub flag_used : (name : Text) (rows : List Row) → has_row name rows ≡ false
    → (use_fault false (flag_rule name) [] rows ≡ []) × IsMore rows (name, codes "true") (used (flag_rule name) [] rows)
flag_used name rows e =
    (simp e, record { row = made CommandLine _ (name, codes "true"); is = record { id = refl; values = refl; source = refl }; all = new_use name _ (codes "true") rows e })

-- an argument is used once
pub place_once : (i : ℕ) (place word : Text) (rows : List Row) → use_fault false (place_rule i place) (word ∷ []) rows ≡ [] → has_row place rows ≡ false
place_once i place word rows none = by (has_row place rows) refl
  where
    by : (t : Bool) → has_row place rows ≡ t → has_row place rows ≡ false
    by false is = is
    by true is =
        let f : use_fault false (place_rule i place) (word ∷ []) rows ≡ kind.ArgumentConflict ∷ [] = simp is in
        absurd (cc (f, none))

pub option_once : (name word : Text) (rows : List Row) → use_fault false (option_rule name) (word ∷ []) rows ≡ [] → has_row name rows ≡ false
option_once name word rows none = by (has_row name rows) refl
  where
    by : (t : Bool) → has_row name rows ≡ t → has_row name rows ≡ false
    by false is = is
    by true is =
        let f : use_fault false (option_rule name) (word ∷ []) rows ≡ kind.ArgumentConflict ∷ [] = simp is in
        absurd (cc (f, none))

pub flag_once : (name : Text) (rows : List Row) → use_fault false (flag_rule name) [] rows ≡ [] → has_row name rows ≡ false
flag_once name rows none = by (has_row name rows) refl
  where
    by : (t : Bool) → has_row name rows ≡ t → has_row name rows ≡ false
    by false is = is
    by true is =
        let f : use_fault false (flag_rule name) [] rows ≡ kind.ArgumentConflict ∷ [] = simp is in
        absurd (cc (f, none))

-- the rows have the names of their values
pub same_names : (rows : List Row) (values : List Value) → AreMade rows values → (id : Text) → has_row id rows ≡ is_among (names_of values) id
same_names [] [] is id = refl
same_names [] (v ∷ vs) is id = absurd is
same_names (r ∷ rs) [] is id = absurd is
same_names (r ∷ rs) (v ∷ vs) is id = rw (is.0.id, same_names rs vs is.1 id)

-- and their values
pub same_values : (flags : List Text) (rows : List Row) (values : List Value) → AreMade rows values → (id : Text) → has_row id rows ≡ true
    → (first_of id rows ≡ value_of flags values id) × (is_given id rows ≡ true)
same_values flags [] values is id e = absurd (false≢true e)
same_values flags (r ∷ rs) [] is id e = absurd is
same_values flags (r ∷ rs) (v ∷ vs) is id e = by (bytes_eq v.0 id) refl (rw is.0.id at e) (λ e. same_values flags rs vs is.1 id e)
  where
    by : (t : Bool) → bytes_eq v.0 id ≡ t → (bytes_eq v.0 id || has_row id rs) ≡ true
        → (has_row id rs ≡ true → (first_of id rs ≡ value_of flags vs id) × (is_given id rs ≡ true))
        → (first_of id (r ∷ rs) ≡ value_of flags (v ∷ vs) id) × (is_given id (r ∷ rs) ≡ true)
    by true t e rest = (simp (is.0.id, t, is.0.values), simp (is.0.id, t, is.0.source))
    by false t e rest =
        let both = rest (rw t at e) in
        (simp (is.0.id, t) both.0, simp (is.0.id, t) both.1)

-- a name without a value
pub no_value_of : (flags : List Text) (values : List Value) (id : Text) → is_among (names_of values) id ≡ false
    → value_of flags values id ≡ (if is_among flags id then Some (codes "false") else None)
no_value_of flags [] id e = refl
no_value_of flags (v ∷ vs) id e = by (bytes_eq v.0 id) refl e (λ e. no_value_of flags vs id e)
  where
    by : (t : Bool) → bytes_eq v.0 id ≡ t → (t || is_among (names_of vs) id) ≡ false
        → (is_among (names_of vs) id ≡ false → value_of flags vs id ≡ (if is_among flags id then Some (codes "false") else None))
        → value_of flags (v ∷ vs) id ≡ (if is_among flags id then Some (codes "false") else None)
    by true t e rest = absurd (false≢true (sym e))
    by false t e rest = rw t (rest e)

-- ---- rows of arguments that were not used

-- a row of another id changes nothing of this one
other_row : (id : Text) (rows : List Row) (r : Row) → bytes_eq r.id id ≡ false → find (λ r. bytes_eq r.id id) (rows ++ r ∷ []) ≡ find (λ r. bytes_eq r.id id) rows
other_row id [] r e = simp e
other_row id (x ∷ xs) r e = by (bytes_eq x.id id) refl (other_row id xs r e)
  where
    by : (t : Bool) → bytes_eq x.id id ≡ t → find (λ r. bytes_eq r.id id) (xs ++ r ∷ []) ≡ find (λ r. bytes_eq r.id id) xs
        → find (λ r. bytes_eq r.id id) (x ∷ xs ++ r ∷ []) ≡ find (λ r. bytes_eq r.id id) (x ∷ xs)
    by true t rest = simp t
    by false t rest = simp t rest

-- the first row of an id stays the first
first_row : (id : Text) (rows : List Row) (r : Row) → has_row id rows ≡ true → find (λ r. bytes_eq r.id id) (rows ++ r ∷ []) ≡ find (λ r. bytes_eq r.id id) rows
first_row id [] r e = absurd (false≢true e)
first_row id (x ∷ xs) r e = by (bytes_eq x.id id) refl e (λ e. first_row id xs r e)
  where
    by : (t : Bool) → bytes_eq x.id id ≡ t → (bytes_eq x.id id || has_row id xs) ≡ true
        → (has_row id xs ≡ true → find (λ r. bytes_eq r.id id) (xs ++ r ∷ []) ≡ find (λ r. bytes_eq r.id id) xs)
        → find (λ r. bytes_eq r.id id) (x ∷ xs ++ r ∷ []) ≡ find (λ r. bytes_eq r.id id) (x ∷ xs)
    by true t e rest = simp t
    by false t e rest = simp t (rest (rw t at e))

last_row : (id : Text) (rows : List Row) (r : Row) → has_row id rows ≡ false → bytes_eq r.id id ≡ true → find (λ r. bytes_eq r.id id) (rows ++ r ∷ []) ≡ Some r
last_row id [] r e is = simp is
last_row id (x ∷ xs) r e is = by (bytes_eq x.id id) refl e (λ e. last_row id xs r e is)
  where
    by : (t : Bool) → bytes_eq x.id id ≡ t → (t || has_row id xs) ≡ false → (has_row id xs ≡ false → find (λ r. bytes_eq r.id id) (xs ++ r ∷ []) ≡ Some r)
        → find (λ r. bytes_eq r.id id) (x ∷ xs ++ r ∷ []) ≡ Some r
    by true t e rest = absurd (false≢true (sym e))
    by false t e rest = simp t (rest e)

-- what a flag does to the rows where it was not used
abbrev default_row : Text → Row
default_row flag = made DefaultValue reading.AsWritten (flag, codes "false")

not_there : (flag : Text) (rows : List Row) → has_row flag rows ≡ false → with_default rows (flag_rule flag) ≡ rows ++ default_row flag ∷ []
not_there flag rows e = simp e (new_row flag (more_values DefaultValue (codes "false" ∷ [])) (default_row flag ∷ []) rows e)

there : (flag : Text) (rows : List Row) → has_row flag rows ≡ true → with_default rows (flag_rule flag) ≡ rows
there flag rows e = simp e

-- the rows with a flag's default: as they were, or with its row
data Defaulted (flag : Text) (rows : List Row) : Type 0 where
  was : with_default rows (flag_rule flag) ≡ rows → Defaulted flag rows
  grew : has_row flag rows ≡ false → with_default rows (flag_rule flag) ≡ rows ++ default_row flag ∷ [] → Defaulted flag rows

defaulted : (flag : Text) (rows : List Row) → Defaulted flag rows
defaulted flag rows = by (has_row flag rows) refl
  where
    by : (t : Bool) → has_row flag rows ≡ t → Defaulted flag rows
    by true t = was (there flag rows t)
    by false t = grew t (not_there flag rows t)

abbrev pub at : Text → List Row → Option Row
at id rows = find (λ r. bytes_eq r.id id) rows

-- what a flag's default leaves
kept_by : (flag : Text) (rows : List Row) (id : Text) → has_row id rows ≡ true
    → (at id (with_default rows (flag_rule flag)) ≡ at id rows) × (has_row id (with_default rows (flag_rule flag)) ≡ true)
kept_by flag rows id e = by (defaulted flag rows)
  where
    by : Defaulted flag rows → (at id (with_default rows (flag_rule flag)) ≡ at id rows) × (has_row id (with_default rows (flag_rule flag)) ≡ true)
    by (was is) = (ap (at id) is, ap (has_row id) is ∙ e)
    by (grew new is) = (
      ap (at id) is ∙ first_row id rows (default_row flag) e,
      ap (has_row id) is ∙ list_any-append (λ r. bytes_eq r.id id) rows (default_row flag ∷ []) ∙ rw e refl,
    )

passed_by : (flag : Text) (rows : List Row) (id : Text) → bytes_eq flag id ≡ false
    → (at id (with_default rows (flag_rule flag)) ≡ at id rows) × (has_row id (with_default rows (flag_rule flag)) ≡ has_row id rows)
passed_by flag rows id e = by (defaulted flag rows)
  where
    or_nothing : (b : Bool) → (b || (false || false)) ≡ b
    or_nothing true = refl
    or_nothing false = refl

    by : Defaulted flag rows → (at id (with_default rows (flag_rule flag)) ≡ at id rows) × (has_row id (with_default rows (flag_rule flag)) ≡ has_row id rows)
    by (was is) = (ap (at id) is, ap (has_row id) is)
    by (grew new is) = (
      ap (at id) is ∙ other_row id rows (default_row flag) e,
      ap (has_row id) is ∙ list_any-append (λ r. bytes_eq r.id id) rows (default_row flag ∷ []) ∙ rw e (or_nothing (has_row id rows)),
    )

-- defaults leave what was found
pub kept : (flags : List Text) (rows : List Row) (id : Text) → has_row id rows ≡ true → at id (fold with_default rows (map flag_rule flags)) ≡ at id rows
kept [] rows id e = refl
kept (f ∷ fs) rows id e =
    let k = kept_by f rows id e in
    kept fs (with_default rows (flag_rule f)) id k.1 ∙ k.0

-- and what is no flag
pub passed : (flags : List Text) (rows : List Row) (id : Text) → is_among flags id ≡ false → at id (fold with_default rows (map flag_rule flags)) ≡ at id rows
passed [] rows id e = refl
passed (f ∷ fs) rows id e =
    passed fs (with_default rows (flag_rule f)) id (right_false _ _ e) ∙ (passed_by f rows id (left_false _ _ e)).0

-- a flag that was not found is `false`
pub falsely : (flags : List Text) (rows : List Row) (id : Text) → is_among flags id ≡ true → has_row id rows ≡ false
    → first_of id (fold with_default rows (map flag_rule flags)) ≡ Some (codes "false")
falsely [] rows id among none = absurd (false≢true among)
falsely (f ∷ fs) rows id among none = by (bytes_eq f id) refl among (λ among none. falsely fs (with_default rows (flag_rule f)) id among none)
  where
    one : bytes_eq f id ≡ true → has_row f rows ≡ false
    one t = let e : f ≡ id = (bytes_eq-Decides f id).0 t in rw e none

    by : (t : Bool) → bytes_eq f id ≡ t → (t || is_among fs id) ≡ true
        → (is_among fs id ≡ true → has_row id (with_default rows (flag_rule f)) ≡ false
        → first_of id (fold with_default (with_default rows (flag_rule f)) (map flag_rule fs)) ≡ Some (codes "false"))
        → first_of id (fold with_default rows (map flag_rule (f ∷ fs))) ≡ Some (codes "false")
    by true t among rest =
        let is = not_there f rows (one t) in
        let has : has_row id (rows ++ default_row f ∷ []) ≡ true = list_any-append (λ r. bytes_eq r.id id) rows (default_row f ∷ []) ∙ rw (none, t) refl in
        let found : at id (fold with_default (with_default rows (flag_rule f)) (map flag_rule fs)) ≡ Some (default_row f) =
        ap (λ rows. at id (fold with_default rows (map flag_rule fs))) is ∙ kept fs _ id has ∙ last_row id rows (default_row f) none t in
        ap (λ r. option_and_then (λ r. slice_get r.values 0) r) found
    by false t among rest = rest among ((passed_by f rows id t).1 ∙ none)
