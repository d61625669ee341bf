-- Steps of the walk of `clap` over arguments.
use Rattle.std.proofs.Common.{◌≡◌, ℕ, ◌+◌, ◌&&◌, min, Bool, true, false, List, [], ◌∷◌, Option, Some, None, refl}
use Rattle.std.specs.Str.{bytes_eq}
use Rattle.std.proofs.lemmas.Slice.Eq.{bytes_eq-Decides}
use Rattle.std.proofs.lemmas.Bool.{ne_eqb}
use Rattle.clap.proofs.OnLiterals.{clap_on_literals}
use Rattle.clap.specs.Lexer.{long_of, short_of, strip_byte, usize_max}
use Rattle.clap.specs.Faults.{bundle_fault, long_fault, settle_fault, turn_fault, use_fault}
use Rattle.clap.specs.Kinds.{Kinds, or_else}
use Rattle.clap.specs.Simple.{Shape, filled, with_index}
use Rattle.clap.specs.declared.error.kind.ErrorKind.TheVariants as kind
use Rattle.clap.specs.Walk.{Held, Row, Rule, Text, Waiting, Walk, arg_by_id, arg_by_index, arg_by_long, idle, option, positional, is_pending, settled_rows, used, walked}
use Rattle.cli_words.specs.Grammar.{IsPlainWord}
use Rattle.cli_words.specs.Line.{flagged, named, placed}

-- the arguments of a line as `clap` builds them
abbrev pub place_rule : ℕ → Text → Rule
place_rule i name = with_index i (filled (placed name))

abbrev pub option_rule : Text → Rule
option_rule name = filled (named name)

abbrev pub flag_rule : Text → Rule
flag_rule name = filled (flagged name)

-- a line with these arguments, as `clap` builds it
abbrev pub shape : Text → List Rule → Shape
shape name c = record {
  name = name;
  aliases = [];
  rules = c;
  is_plain = true;
  is_leaf = true;
  no_binary_name = true;
  disable_help_flag = true;
  disable_help_subcommand = true;
  disable_version_flag = false;
  propagate_version = false;
  has_version = false;
  has_long_version = false;
  args_override_self = false;
  arg_required_else_help = false;
  subcommand_required = false;
  subcommand_negates_reqs = false;
  is_built = true;
}

-- what is held: rows, and a value that waits for its use
abbrev pub holds : List Row → Option (Text × List Text) → Held
holds rows pending = record { rows = rows; pending = pending; skip = 0 }

abbrev pub walk_at : Held → Waiting → ℕ → Bool → Walk
walk_at h waiting i trailing = record { held = h; waiting = waiting; position = i; is_trailing = trailing; stopped = None }

pub same_text : (n : Text) → bytes_eq n n ≡ true
same_text n = (bytes_eq-Decides n n).1 refl

-- what a walk over arguments asks of one that does not begin with a dash
pub plain : (word : List ℕ) → IsPlainWord word → (bytes_eq word (45 ∷ 45 ∷ []) ≡ false) × (strip_byte 45 word ≡ None)
plain [] is = (refl, refl)
plain (x ∷ xs) is = (rw (ne_eqb x 45 is) refl, rw (ne_eqb x 45 is) refl)

no_more : (a : Kinds) → or_else a [] ≡ a
no_more [] = refl
no_more (k ∷ ks) = refl

pub first_none : (a b : Kinds) → or_else a b ≡ [] → a ≡ []
first_none [] b e = refl
first_none (k ∷ ks) b e = absurd (cc e)

pub second_none : (a b : Kinds) → or_else a b ≡ [] → b ≡ []
second_none [] b e = e
second_none (k ∷ ks) b e = absurd (cc e)

and_false : (b : Bool) → (b && false) ≡ false
and_false true = refl
and_false false = refl

module _ (name : Text) (c : List Rule) (rows : List Row) (pending : Option (Text × List Text)) (i : ℕ) where
  abbrev h : Held
  h = holds rows pending

  -- a plain argument goes to its place
  pub plain_step : (place word : Text) → IsPlainWord word → arg_by_index c i ≡ Some (place_rule i place)
      → (turn_fault (shape name c) [] (walk_at h idle i false) word ≡ settle_fault c false h)
      × (walked c [] (walk_at h idle i false) word
      ≡ walk_at (holds (settled_rows c pending rows) (Some (place, word ∷ []))) idle (min (i + 1) usize_max) false)
  unfolding clap_on_literals
  plain_step place word is here =
      let p = plain word is in
      let b = and_false (is_pending (place_rule i place) pending) in
      (simp (p.0, p.1, here, b), simp (p.0, p.1, here, b))

  -- after the first `--` an argument goes to its place
  pub trailing_step : (waiting : Waiting) (place word : Text) → arg_by_index c i ≡ Some (place_rule i place)
      → (turn_fault (shape name c) [] (walk_at h waiting i true) word ≡ settle_fault c false h)
      × (walked c [] (walk_at h waiting i true) word
      ≡ walk_at (holds (settled_rows c pending rows) (Some (place, word ∷ []))) idle (min (i + 1) usize_max) true)
  unfolding clap_on_literals
  trailing_step waiting place word here =
      let b = and_false (is_pending (place_rule i place) pending) in
      (simp (here, b), simp (here, b))

  -- an argument for which no place is left
  pub stray_step : (word : Text) → IsPlainWord word → arg_by_index c i ≡ None
      → turn_fault (shape name c) [] (walk_at h idle i false) word ≡ [] → ⊥
  unfolding clap_on_literals
  stray_step word is none e =
      let p = plain word is in
      let f : turn_fault (shape name c) [] (walk_at h idle i false) word ≡ kind.UnknownArgument ∷ [] = simp (p.0, p.1, none) in
      absurd (cc (f, e))

  pub stray_trailing : (waiting : Waiting) (word : Text) → arg_by_index c i ≡ None
      → turn_fault (shape name c) [] (walk_at h waiting i true) word ≡ [] → ⊥
  unfolding clap_on_literals
  stray_trailing waiting word none e =
      let f : turn_fault (shape name c) [] (walk_at h waiting i true) word ≡ kind.UnknownArgument ∷ [] = simp (none) in
      absurd (cc (f, e))

  -- the first `--`
  pub dashes_step : (waiting : Waiting) → (turn_fault (shape name c) [] (walk_at h waiting i false) (45 ∷ 45 ∷ []) ≡ [])
      × (walked c [] (walk_at h waiting i false) (45 ∷ 45 ∷ []) ≡ walk_at h waiting i true)
  unfolding clap_on_literals
  dashes_step idle = (refl, refl)
  dashes_step (option id) = (refl, refl)
  dashes_step positional = (refl, refl)

  -- an argument `--name` or `--name=value`
  module _ (word long : Text) (no_dashes : bytes_eq word (45 ∷ 45 ∷ []) ≡ false) where
    pub joined_step : (value : Text) → long_of word ≡ Some (long, Some value) → arg_by_long c long ≡ Some (option_rule long)
        → (turn_fault (shape name c) [] (walk_at h idle i false) word
        ≡ or_else (settle_fault c false h) (use_fault false (option_rule long) (value ∷ []) (settled_rows c pending rows)))
        × (walked c [] (walk_at h idle i false) word ≡ walk_at (holds (used (option_rule long) (value ∷ []) (settled_rows c pending rows)) None) idle i false)
    unfolding clap_on_literals
    joined_step value is found = (simp (no_dashes, is, found) (no_more _), simp (no_dashes, is, found))

    pub apart_step : long_of word ≡ Some (long, None) → arg_by_long c long ≡ Some (option_rule long)
        → (turn_fault (shape name c) [] (walk_at h idle i false) word ≡ settle_fault c false h)
        × (walked c [] (walk_at h idle i false) word ≡ walk_at (holds (settled_rows c pending rows) (Some (long, []))) (option long) i false)
    unfolding clap_on_literals
    apart_step is found = (simp (no_dashes, is, found) (no_more _), simp (no_dashes, is, found))

    pub flag_step : long_of word ≡ Some (long, None) → arg_by_long c long ≡ Some (flag_rule long)
        → (turn_fault (shape name c) [] (walk_at h idle i false) word
        ≡ or_else (settle_fault c false h) (use_fault false (flag_rule long) [] (settled_rows c pending rows)))
        × (walked c [] (walk_at h idle i false) word ≡ walk_at (holds (used (flag_rule long) [] (settled_rows c pending rows)) None) idle i false)
    unfolding clap_on_literals
    flag_step is found = (simp (no_dashes, is, found) (no_more _), simp (no_dashes, is, found))

    -- where such a word is taken, so is the argument's use
    pub long_turn : (waiting : Waiting) (value : Option Text) → long_of word ≡ Some (long, value)
        → turn_fault (shape name c) [] (walk_at h waiting i false) word ≡ [] → long_fault c false (arg_by_long c long) value h ≡ []
    unfolding clap_on_literals
    long_turn idle value is e = first_none _ _ (simp (no_dashes, is) at e)
    long_turn (option id) value is e = first_none _ _ (simp (no_dashes, is) at e)
    long_turn positional value is e = first_none _ _ (simp (no_dashes, is) at e)

  -- and of an argument `-abc`
  pub short_turn : (waiting : Waiting) (word flags : Text) → bytes_eq word (45 ∷ 45 ∷ []) ≡ false → long_of word ≡ None → short_of word ≡ Some flags
      → turn_fault (shape name c) [] (walk_at h waiting i false) word ≡ [] → bundle_fault c false flags h ≡ []
  unfolding clap_on_literals
  short_turn idle word flags no_dashes no_long is e = first_none _ _ (simp (no_dashes, no_long, is) at e)
  short_turn (option id) word flags no_dashes no_long is e = first_none _ _ (simp (no_dashes, no_long, is) at e)
  short_turn positional word flags no_dashes no_long is e = first_none _ _ (simp (no_dashes, no_long, is) at e)

-- the value of an option in an argument of its own
pub value_step : (name : Text) (c : List Rule) (rows : List Row) (i : ℕ) (id word : Text) → IsPlainWord word → arg_by_id c id ≡ Some (option_rule id)
    → (turn_fault (shape name c) [] (walk_at (holds rows (Some (id, []))) (option id) i false) word ≡ [])
    × (walked c [] (walk_at (holds rows (Some (id, []))) (option id) i false) word ≡ walk_at (holds rows (Some (id, word ∷ []))) idle i false)
unfolding clap_on_literals
value_step name c rows i id word is found =
    let p = plain word is in
    let e = same_text id in
    (simp (p.0, p.1), simp (p.0, p.1, found, e))

-- an option that has no value yet is not settled
pub no_value : (c : List Rule) (rows : List Row) (id : Text) → arg_by_id c id ≡ Some (option_rule id) → settle_fault c false (holds rows (Some (id, []))) ≡ [] → ⊥
no_value c rows id found e =
    let f : settle_fault c false (holds rows (Some (id, []))) ≡ kind.InvalidValue ∷ [] = simp found in
    absurd (cc (f, e))
