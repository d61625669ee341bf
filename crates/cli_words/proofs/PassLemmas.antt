-- What the grammar reads, `clap` takes.
use Rattle.std.proofs.Common.{◌≡◌, ◌∙◌, ℕ, ◌+◌, min, true, false, List, [], ◌∷◌, ◌++◌, codes, Option, Some, None, ap, ap₂, refl, subst, sym, append_assoc}
use Rattle.std.specs.Prelude.{fold}
use Rattle.std.specs.List.{list_all}
use Rattle.std.specs.Str.{bytes_eq}
use Rattle.std.proofs.lemmas.List.{append-nil}
use Rattle.std.proofs.lemmas.List.Folds.{list_any-append}
use Rattle.clap.specs.Lexer.{usize_max}
use Rattle.clap.specs.Kinds.{or_else}
use Rattle.clap.specs.Faults.{settle_fault, turn_fault, use_fault, walk_fault}
use Rattle.clap.specs.Walk.{Held, Row, Rule, Text, Waiting, Walk, arg_by_id, has_row, idle, settled_rows, used, walked}
use Rattle.cli_words.specs.Grammar as g
use Rattle.cli_words.specs.Grammar.{FillsPlaces, Reads, Value, are_apart, is_among, is_option_name, names_of}
use Rattle.cli_words.proofs.LooksLemmas.{is_name, joined_word, named_word}
use Rattle.cli_words.proofs.RowLemmas.{AreMade, IsMore, flag_used, option_used, place_used}
use Rattle.cli_words.proofs.StepLemmas.{apart_step, dashes_step, flag_rule, flag_step, holds, joined_step, option_rule, place_rule, plain_step, same_text, shape, walk_at, trailing_step, value_step}
use Rattle.cli_words.proofs.TableLemmas.{HasOptions, HasPlaces, other}
use Rattle.cli_words.proofs.TestLemmas.{left_true, not_false, or_true, right_true}

-- what is held after arguments
abbrev pub held_after : List Rule → Walk → List Text → Held
held_after c w words = (fold (walked c []) w words).held

-- the walk takes the arguments, and these values end in the rows
pub record Passes (name : Text) (c : List Rule) (w : Walk) (words : List Text) (rows : List Row) (values : List Value) : Type 0 where
  pub walks : walk_fault (shape name c) [] w words ≡ []
  pub settles : settle_fault c false (held_after c w words) ≡ []
  pub more : List Row
  pub made : AreMade more values
  pub all : settled_rows c (held_after c w words).pending (held_after c w words).rows ≡ rows ++ more

-- the values are of other names than the rows
abbrev pub IsFresh : List Row → List Value → Type 0
IsFresh rows values = (q : Text) → is_among (names_of values) q ≡ true → has_row q rows ≡ false

-- one step, then the rest
one_step : (name : Text) (c : List Rule) (w w' : Walk) (word : Text) (words : List Text) (rows : List Row) (values : List Value)
    → turn_fault (shape name c) [] w word ≡ [] → walked c [] w word ≡ w' → Passes name c w' words rows values → Passes name c w (word ∷ words) rows values
unfolding walk_fault
one_step name c w w' word words rows values turn walk rest = record {
  walks = ap₂ or_else turn (ap (λ w. walk_fault (shape name c) [] w words) walk) ∙ rest.walks;
  settles = ap (λ w. settle_fault c false (held_after c w words)) walk ∙ rest.settles;
  more = rest.more;
  made = rest.made;
  all = ap (λ w. settled_rows c (held_after c w words).pending (held_after c w words).rows) walk ∙ rest.all;
}

-- a row more
one_more : (name : Text) (c : List Rule) (w : Walk) (words : List Text) (rows rows' : List Row) (value : Value) (values : List Value)
    → IsMore rows value rows' → Passes name c w words rows' values → Passes name c w words rows (value ∷ values)
one_more name c w words rows rows' value values is rest = record {
  walks = rest.walks;
  settles = rest.settles;
  more = is.row ∷ rest.more;
  made = (is.is, rest.made);
  all = rest.all ∙ ap (λ rows. rows ++ rest.more) is.all ∙ append_assoc rows (is.row ∷ []) rest.more;
}

fresh_after : (rows rows' : List Row) (value : Value) (values : List Value) → IsMore rows value rows' → are_apart (names_of (value ∷ values)) ≡ true
    → IsFresh rows (value ∷ values) → IsFresh rows' values
fresh_after rows rows' value values is apart fresh q among =
    let differs : bytes_eq value.0 q ≡ false = other (names_of values) value.0 q (not_false _ (left_true _ _ apart)) among in
    let old : has_row q rows ≡ false = fresh q (rw among (or_true (bytes_eq value.0 q))) in
    ap (has_row q) is.all ∙ list_any-append (λ r. bytes_eq r.id q) rows (is.row ∷ []) ∙ rw (old, is.is.id, differs) refl

-- the next value is of no row yet
next_fresh : (rows : List Row) (value : Value) (values : List Value) → IsFresh rows (value ∷ values) → has_row value.0 rows ≡ false
next_fresh rows value values fresh = fresh value.0 (rw (same_text value.0) refl)

-- a value that waits for its use
module _ (name : Text) (c : List Rule) (rows : List Row) (id word : Text) (a : Rule) (found : arg_by_id c id ≡ Some a) where
  pub pending_fault : settle_fault c false (holds rows (Some (id, word ∷ []))) ≡ use_fault false a (word ∷ []) rows
  pending_fault = simp found

  pub pending_rows : settled_rows c (Some (id, word ∷ [])) rows ≡ used a (word ∷ []) rows
  pending_rows = simp found

module _ (name : Text) (c : List Rule) where
  fills : {places words : List Text} {values : List Value} → FillsPlaces places words values
      → (rows : List Row) (pending : Option (Text × List Text)) (waiting : Waiting) (i : ℕ) → HasPlaces c i places
      → settle_fault c false (holds rows pending) ≡ [] → are_apart (names_of values) ≡ true → IsFresh (settled_rows c pending rows) values
      → Passes name c (walk_at (holds rows pending) waiting i true) words (settled_rows c pending rows) values
  unfolding walk_fault
  fills g.none_left rows pending waiting i has settles apart fresh =
      record { walks = refl; settles = settles; more = []; made = tt; all = sym (append-nil (settled_rows c pending rows)) }
  fills (g.filled {place} {word} {places} {words} {values} r) rows pending waiting i has settles apart fresh =
      let s : List Row = settled_rows c pending rows in
      let step = trailing_step name c rows pending i waiting place word has.0 in
      let new = place_used i place word s (next_fresh s (place, word) values fresh) in
      let more : IsMore s (place, word) (settled_rows c (Some (place, word ∷ [])) s) =
      subst (λ (rows : List Row). IsMore s (place, word) rows) (sym (pending_rows name c s place word (place_rule i place) has.1)) new.1 in
      let rest = fills r s (Some (place, word ∷ [])) idle (min (i + 1) usize_max) has.2
      (pending_fault name c s place word (place_rule i place) has.1 ∙ new.0) (right_true _ _ apart) (fresh_after s _ (place, word) values more apart fresh) in
      one_step name c _ _ word words s _ (step.0 ∙ settles) step.1 (one_more name c _ words s _ (place, word) values more rest)

module _ (name : Text) (c : List Rule) (options flags : List Text) (has_options : HasOptions c options flags)
    (option_names : list_all is_option_name options ≡ true) (flag_names : list_all is_option_name flags ≡ true) where
  pub reads : {places words : List Text} {values : List Value} → Reads options flags places words values
      → (rows : List Row) (pending : Option (Text × List Text)) (i : ℕ) → HasPlaces c i places
      → settle_fault c false (holds rows pending) ≡ [] → are_apart (names_of values) ≡ true → IsFresh (settled_rows c pending rows) values
      → Passes name c (walk_at (holds rows pending) idle i false) words (settled_rows c pending rows) values
  unfolding walk_fault
  reads g.ended rows pending i has settles apart fresh =
      record { walks = refl; settles = settles; more = []; made = tt; all = sym (append-nil (settled_rows c pending rows)) }
  reads (g.trailing {places} {words} {values} r) rows pending i has settles apart fresh =
      let step = dashes_step name c rows pending i idle in
      one_step name c _ _ (codes "--") words (settled_rows c pending rows) values step.0 step.1 (fills name c r rows pending idle i has settles apart fresh)
  reads (g.plain {place} {word} {places} {words} {values} is r) rows pending i has settles apart fresh =
      let s : List Row = settled_rows c pending rows in
      let step = plain_step name c rows pending i place word is has.0 in
      let new = place_used i place word s (next_fresh s (place, word) values fresh) in
      let more : IsMore s (place, word) (settled_rows c (Some (place, word ∷ [])) s) =
      subst (λ (rows : List Row). IsMore s (place, word) rows) (sym (pending_rows name c s place word (place_rule i place) has.1)) new.1 in
      let rest = reads r s (Some (place, word ∷ [])) (min (i + 1) usize_max) has.2
      (pending_fault name c s place word (place_rule i place) has.1 ∙ new.0) (right_true _ _ apart) (fresh_after s _ (place, word) values more apart fresh) in
      one_step name c _ _ word words s _ (step.0 ∙ settles) step.1 (one_more name c _ words s _ (place, word) values more rest)
  reads (g.apart {name = long} {value} {places} {words} {values} among is r) rows pending i has settles apart fresh =
      let s : List Row = settled_rows c pending rows in
      let yes : is_among options long ≡ true = among in
      let looks = named_word long (is_name options long option_names yes) in
      let id = has_options.option_id long yes in
      let step = apart_step name c rows pending i (codes "--" ++ long) long looks.0 looks.1 (has_options.option_long long yes) in
      let step' = value_step name c s i long value is id in
      let new = option_used long value s (next_fresh s (long, value) values fresh) in
      let more : IsMore s (long, value) (settled_rows c (Some (long, value ∷ [])) s) =
      subst (λ (rows : List Row). IsMore s (long, value) rows) (sym (pending_rows name c s long value (option_rule long) id)) new.1 in
      let rest = reads r s (Some (long, value ∷ [])) i has
      (pending_fault name c s long value (option_rule long) id ∙ new.0) (right_true _ _ apart) (fresh_after s _ (long, value) values more apart fresh) in
      one_step name c _ _ (codes "--" ++ long) (value ∷ words) s _ (step.0 ∙ settles) step.1
      (one_step name c _ _ value words s _ step'.0 step'.1 (one_more name c _ words s _ (long, value) values more rest))
  reads (g.joined {name = long} {value} {places} {words} {values} among r) rows pending i has settles apart fresh =
      let s : List Row = settled_rows c pending rows in
      let yes : is_among options long ≡ true = among in
      let looks = joined_word long value (is_name options long option_names yes) in
      let step = joined_step name c rows pending i (codes "--" ++ long ++ codes "=" ++ value) long looks.0 value looks.1 (has_options.option_long long yes) in
      let new = option_used long value s (next_fresh s (long, value) values fresh) in
      let rest = reads r (used (option_rule long) (value ∷ []) s) None i has refl (right_true _ _ apart) (fresh_after s _ (long, value) values new.1 apart fresh) in
      one_step name c _ _ (codes "--" ++ long ++ codes "=" ++ value) words s _ (step.0 ∙ ap₂ or_else settles new.0) step.1
      (one_more name c _ words s _ (long, value) values new.1 rest)
  reads (g.flag {name = long} {places} {words} {values} among r) rows pending i has settles apart fresh =
      let s : List Row = settled_rows c pending rows in
      let yes : is_among flags long ≡ true = among in
      let looks = named_word long (is_name flags long flag_names yes) in
      let step = flag_step name c rows pending i (codes "--" ++ long) long looks.0 looks.1 (has_options.flag_long long yes) in
      let new = flag_used long s (next_fresh s (long, codes "true") values fresh) in
      let rest = reads r (used (flag_rule long) [] s) None i has refl (right_true _ _ apart) (fresh_after s _ (long, codes "true") values new.1 apart fresh) in
      one_step name c _ _ (codes "--" ++ long) words s _ (step.0 ∙ ap₂ or_else settles new.0) step.1
      (one_more name c _ words s _ (long, codes "true") values new.1 rest)
