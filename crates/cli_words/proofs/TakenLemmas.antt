-- What `clap` takes, the grammar reads.
use Rattle.std.proofs.Common.{◌≡◌, ◌∙◌, ℕ, ◌+◌, ◌||◌, ◌&&◌, not, min, Bool, true, false, List, [], ◌∷◌, ◌++◌, codes, All, Option, Some, None, ap, ap₂, refl, subst, sym, arith}
use Rattle.std.specs.Str.{IsUtf8, bytes_eq, chars}
use Rattle.std.proofs.lemmas.Bool.{false≢true}
use Rattle.std.proofs.lemmas.List.Elements.{All-tail}
use Rattle.std.proofs.lemmas.List.Folds.{list_any-append}
use Rattle.std.proofs.lemmas.Slice.Eq.{bytes_eq-Decides}
use Rattle.std.proofs.lemmas.Str.{IsUtf8-past_char, encode_ascii, encodes-chars}
use Rattle.clap.specs.Faults.{bundle_fault, flags_fault, long_fault, settle_fault, turn_fault, walk_fault}
use Rattle.clap.specs.Lexer.{long_of, short_of, usize_max}
use Rattle.clap.specs.Walk.{Held, Row, Rule, Text, Waiting, Walk, arg_by_id, arg_by_long, arg_by_short, at_row, has_row, more_values, without, idle, option, settled_rows, takes_values, used, walked}
use Rattle.clap.specs.declared.parser.matches.ValueSource.TheVariants.{CommandLine}
use Rattle.clap.specs.declared.error.kind.ErrorKind.TheVariants as kind
use Rattle.cli_words.specs.Grammar as g
use Rattle.cli_words.specs.Grammar.{FillsPlaces, IsPlainWord, Reads, Value, are_apart, is_among, names_of}
use Rattle.cli_words.specs.Line.{IsNoDash}
use Rattle.cli_words.proofs.LooksLemmas as look
use Rattle.cli_words.proofs.LooksLemmas.{Looks, looks, spelled}
use Rattle.cli_words.proofs.PassLemmas.{IsFresh, held_after, pending_fault, pending_rows}
use Rattle.cli_words.proofs.RowLemmas.{IsMore, flag_once, flag_used, option_once, option_used, place_used}
use Rattle.cli_words.proofs.StepLemmas.{apart_step, dashes_step, first_none, flag_rule, flag_step, holds, joined_step, long_turn, no_value, option_rule, place_rule, plain_step, same_text, second_none, shape, short_turn, walk_at, stray_step, stray_trailing, trailing_step, value_step}
use Rattle.cli_words.proofs.TableLemmas.{HasOptions, HasPlaces, other}
use Rattle.cli_words.proofs.TestLemmas.{left_false, left_true, not_false, or_true, right_false, right_true}

-- the characters of a text that is not empty
some_char : (x : ℕ) (xs : Text) → IsUtf8 (45 ∷ x ∷ xs) → chars (x ∷ xs) ≡ [] → ⊥
some_char x xs utf8 none =
    let rest : IsUtf8 (x ∷ xs) = IsUtf8-past_char (45 ∷ x ∷ xs) (x ∷ xs) 45 utf8 (ap (λ (front : List ℕ). front ++ x ∷ xs) (sym (encode_ascii 45 (omega arith)))) in
    let all = encodes-chars (x ∷ xs) rest in
    absurd (cc (all, none))

-- a line has no short options
no_bundle : (c : List Rule) → ((x : ℕ) → arg_by_short c x ≡ None) → (x : ℕ) (xs : Text) (rows : List Row) (pending : Option (Text × List Text)) → IsUtf8 (45 ∷ x ∷ xs)
    → bundle_fault c false (x ∷ xs) (holds rows pending) ≡ [] → ⊥
unfolding flags_fault
no_bundle c none x xs rows pending utf8 e = by (chars (x ∷ xs)) refl
  where
    by : (cs : List ℕ) → chars (x ∷ xs) ≡ cs → ⊥
    by [] is = some_char x xs utf8 is
    by (y ∷ ys) is =
        let f : bundle_fault c false (x ∷ xs) (holds rows pending) ≡ kind.UnknownArgument ∷ [] = simp (is, none) in
        absurd (cc (f, e))

-- the walk takes the arguments
pub record Takes (name : Text) (c : List Rule) (all : List Text) (w : Walk) (words : List Text) : Type 0 where
  pub walks : walk_fault (shape name c) [] w words ≡ []
  pub settles : settle_fault c false (held_after c w words) ≡ []
  pub given : (p : Text) → is_among all p ≡ true → has_row p (settled_rows c (held_after c w words).pending (held_after c w words).rows) ≡ true

-- the grammar fills the places
pub record Fills (c : List Rule) (rows : List Row) (pending : Option (Text × List Text)) (places words : List Text) : Type 0 where
  pub settles : settle_fault c false (holds rows pending) ≡ []
  pub values : List Value
  pub fills : FillsPlaces places words values
  pub once : are_apart (names_of values) ≡ true
  pub fresh : IsFresh (settled_rows c pending rows) values

-- the grammar reads the arguments
pub record Finds (options flags : List Text) (c : List Rule) (rows : List Row) (pending : Option (Text × List Text)) (places words : List Text) : Type 0 where
  pub settles : settle_fault c false (holds rows pending) ≡ []
  pub values : List Value
  pub finds : Reads options flags places words values
  pub once : are_apart (names_of values) ≡ true
  pub fresh : IsFresh (settled_rows c pending rows) values

-- the first step is taken
first_step : (name : Text) (c : List Rule) (all : List Text) (w : Walk) (word : Text) (words : List Text) → Takes name c all w (word ∷ words) → turn_fault (shape name c) [] w word ≡ []
unfolding walk_fault
first_step name c all w word words t = first_none _ _ t.walks

-- each step that follows is taken
next_steps : (name : Text) (c : List Rule) (all : List Text) (w w' : Walk) (word : Text) (words : List Text) → walked c [] w word ≡ w' → Takes name c all w (word ∷ words) → Takes name c all w' words
unfolding walk_fault
next_steps name c all w w' word words walk t =
    subst (λ (w : Walk). Takes name c all w words) walk
    (record { walks = second_none (turn_fault (shape name c) [] w word) (walk_fault (shape name c) [] (walked c [] w word) words) t.walks; settles = t.settles; given = t.given })

-- the names of the places are in no row
abbrev Awaits : List Row → List Text → Type 0
Awaits rows places = (q : Text) → is_among places q ≡ true → has_row q rows ≡ false

more_has : (rows rows' : List Row) (value : Value) (q : Text) → IsMore rows value rows' → has_row q rows' ≡ (has_row q rows || bytes_eq value.0 q)
more_has rows rows' value q is =
    ap (has_row q) is.all ∙ list_any-append (λ r. bytes_eq r.id q) rows (is.row ∷ []) ∙ rw is.is.id (or_nothing (has_row q rows) (bytes_eq value.0 q))
  where
    or_nothing : (a b : Bool) → (a || (b || false)) ≡ (a || b)
    or_nothing true b = refl
    or_nothing false true = refl
    or_nothing false false = refl

awaits_after : (rows rows' : List Row) (value : Value) (places : List Text) → IsMore rows value rows' → ((q : Text) → is_among places q ≡ true → bytes_eq value.0 q ≡ false) → Awaits rows places → Awaits rows' places
awaits_after rows rows' value places is differs awaits q among = more_has rows rows' value q is ∙ ap₂ (λ (a b : Bool). a || b) (awaits q among) (differs q among)

-- a value before others
extend : (rows rows' : List Row) (value : Value) (values : List Value) → IsMore rows value rows' → has_row value.0 rows ≡ false → are_apart (names_of values) ≡ true → IsFresh rows' values
    → (are_apart (names_of (value ∷ values)) ≡ true) × IsFresh rows (value ∷ values)
extend rows rows' value values is new once fresh = (
  ap₂ (λ (a b : Bool). not a && b) (absent (is_among (names_of values) value.0) refl) once,
  λ q among. by q (bytes_eq value.0 q) refl among,
)
  where
    absent : (t : Bool) → is_among (names_of values) value.0 ≡ t → is_among (names_of values) value.0 ≡ false
    absent false t = t
    absent true t =
        let there : has_row value.0 rows' ≡ true = more_has rows rows' value value.0 is ∙ ap₂ (λ (a b : Bool). a || b) new (same_text value.0) in
        absurd (false≢true (sym (fresh value.0 t) ∙ there))

    by : (q : Text) (t : Bool) → bytes_eq value.0 q ≡ t → (t || is_among (names_of values) q) ≡ true → has_row q rows ≡ false
    by q true t among = let e : value.0 ≡ q = (bytes_eq-Decides value.0 q).0 t in ap (λ (q : Text). has_row q rows) (sym e) ∙ new
    by q false t among = left_false (has_row q rows) (bytes_eq value.0 q) (sym (more_has rows rows' value q is) ∙ fresh q among)

module _ (name : Text) (c : List Rule) (all : List Text) where
  -- after the first `--`
  fill : (places words : List Text) (rows : List Row) (pending : Option (Text × List Text)) (waiting : Waiting) (i : ℕ) → HasPlaces c i places → are_apart places ≡ true
      → ((q : Text) → is_among places q ≡ true → is_among all q ≡ true) → Awaits (settled_rows c pending rows) places
      → Takes name c all (walk_at (holds rows pending) waiting i true) words → Fills c rows pending places words
  fill [] [] rows pending waiting i has apart sub awaits t =
      record { settles = t.settles; values = []; fills = g.none_left; once = refl; fresh = λ q e. absurd (false≢true e) }
  fill (p ∷ ps) [] rows pending waiting i has apart sub awaits t =
      let here : is_among (p ∷ ps) p ≡ true = ap (λ (b : Bool). b || is_among ps p) (same_text p) in
      absurd (false≢true (sym (awaits p here) ∙ t.given p (sub p here)))
  fill [] (word ∷ words) rows pending waiting i has apart sub awaits t =
      absurd (stray_trailing name c rows pending i waiting word has (first_step name c all _ word words t))
  fill (p ∷ ps) (word ∷ words) rows pending waiting i has apart sub awaits t =
      let s : List Row = settled_rows c pending rows in
      let here : is_among (p ∷ ps) p ≡ true = ap (λ (b : Bool). b || is_among ps p) (same_text p) in
      let step = trailing_step name c rows pending i waiting p word has.0 in
      let new = awaits p here in
      let used_now = place_used i p word s new in
      let more : IsMore s (p, word) (settled_rows c (Some (p, word ∷ [])) s) =
      subst (λ (rows : List Row). IsMore s (p, word) rows) (sym (pending_rows name c s p word (place_rule i p) has.1)) used_now.1 in
      let rest = fill ps words s (Some (p, word ∷ [])) idle (min (i + 1) usize_max) has.2 (right_true _ _ apart)
      (λ q e. sub q (ap (λ (b : Bool). bytes_eq p q || b) e ∙ or_true (bytes_eq p q)))
      (awaits_after s _ (p, word) ps more (λ q e. other ps p q (not_false _ (left_true _ _ apart)) e) (λ q e. awaits q (ap (λ (b : Bool). bytes_eq p q || b) e ∙ or_true (bytes_eq p q))))
      (next_steps name c all _ _ word words step.1 t) in
      let both = extend s _ (p, word) rest.values more new rest.once rest.fresh in
      record {
        settles = sym step.0 ∙ first_step name c all _ word words t;
        values = (p, word) ∷ rest.values;
        fills = g.filled rest.fills;
        once = both.0;
        fresh = both.1;
      }

  -- before them what waits is settled
  trailing_settles : (places words : List Text) (rows : List Row) (pending : Option (Text × List Text)) (waiting : Waiting) (i : ℕ) → HasPlaces c i places
      → Takes name c all (walk_at (holds rows pending) waiting i true) words → settle_fault c false (holds rows pending) ≡ []
  trailing_settles places [] rows pending waiting i has t = t.settles
  trailing_settles [] (word ∷ words) rows pending waiting i has t =
      absurd (stray_trailing name c rows pending i waiting word has (first_step name c all _ word words t))
  trailing_settles (p ∷ ps) (word ∷ words) rows pending waiting i has t =
      sym (trailing_step name c rows pending i waiting p word has.0).0 ∙ first_step name c all _ word words t

-- an argument `--name` settles what waits
long_settles : (c : List Rule) (found : Option Rule) (value : Option Text) (h : Held) → long_fault c false found value h ≡ [] → settle_fault c false h ≡ []
long_settles c None value h e = absurd (cc e)
long_settles c (Some a) value h e = by (takes_values a) refl value e
  where
    by : (t : Bool) → takes_values a ≡ t → (value : Option Text) → long_fault c false (Some a) value h ≡ [] → settle_fault c false h ≡ []
    by true t None e = simp t at e
    by true t (Some v) e = first_none _ _ (simp t at e)
    by false t None e = first_none _ _ (simp t at e)
    by false t (Some v) e = let f = simp t at e in absurd (cc f)

-- a use of an option leaves other names where they were
still_none : (id q : Text) (change : Row → List Row) (missing : List Row) → ((r : Row) → bytes_eq r.id q ≡ false → has_row q (change r) ≡ false) → has_row q missing ≡ false
    → (rows : List Row) → has_row q rows ≡ false → has_row q (at_row id change missing rows) ≡ false
still_none id q change missing changed new [] e = new
still_none id q change missing changed new (r ∷ rs) e = by (bytes_eq r.id id) refl (still_none id q change missing changed new rs (right_false _ _ e))
  where
    by : (t : Bool) → bytes_eq r.id id ≡ t → has_row q (at_row id change missing rs) ≡ false → has_row q (at_row id change missing (r ∷ rs)) ≡ false
    by true t rest = rw t (list_any-append (λ r. bytes_eq r.id q) (change r) rs ∙ ap₂ (λ (a b : Bool). a || b) (changed r (left_false _ _ e)) (right_false (bytes_eq r.id q) (has_row q rs) e))
    by false t rest = rw t (ap₂ (λ (a b : Bool). a || b) (left_false (bytes_eq r.id q) (has_row q rs) e) rest)

awaits_used : (long value : Text) (rows : List Row) (q : Text) → bytes_eq long q ≡ false → has_row q rows ≡ false → has_row q (used (option_rule long) (value ∷ []) rows) ≡ false
awaits_used long value rows q differs e =
    still_none long q (more_values CommandLine (value ∷ [])) _ (λ r f. ap (λ (b : Bool). b || false) f) (ap (λ (b : Bool). b || false) differs) (without long rows)
    (still_none long q (λ _. []) [] (λ r f. refl) refl rows e)

head_of : (P : Text → Type 0) (word : Text) (words : List Text) → All P (word ∷ words) → P word
head_of P word words all = all 0 word (omega arith)

among_rest : (p : Text) (ps : List Text) (q : Text) → is_among ps q ≡ true → is_among (p ∷ ps) q ≡ true
among_rest p ps q e = ap (λ (b : Bool). bytes_eq p q || b) e ∙ or_true (bytes_eq p q)

among_first : (p : Text) (ps : List Text) → is_among (p ∷ ps) p ≡ true
among_first p ps = ap (λ (b : Bool). b || is_among ps p) (same_text p)

module _ (name : Text) (c : List Rule) (all options flags : List Text) (has_options : HasOptions c options flags)
    (no_option : (q : Text) → is_among all q ≡ true → is_among options q ≡ false) (no_flag : (q : Text) → is_among all q ≡ true → is_among flags q ≡ false) where
  abbrev Reader : List Text → Type 0
  Reader words =
      (places : List Text) (rows : List Row) (pending : Option (Text × List Text)) (i : ℕ) → HasPlaces c i places → are_apart places ≡ true
      → ((q : Text) → is_among places q ≡ true → is_among all q ≡ true) → Awaits (settled_rows c pending rows) places
      → All IsUtf8 words → All IsNoDash words → Takes name c all (walk_at (holds rows pending) idle i false) words
      → Finds options flags c rows pending places words

  read_none : Reader []
  read_none [] rows pending i has apart sub awaits utf8 no_dash t =
      record { settles = t.settles; values = []; finds = g.ended; once = refl; fresh = λ q e. absurd (false≢true e) }
  read_none (p ∷ ps) rows pending i has apart sub awaits utf8 no_dash t =
      absurd (false≢true (sym (awaits p (among_first p ps)) ∙ t.given p (sub p (among_first p ps))))

  read_plain : (word : Text) (words : List Text) → IsPlainWord word → Reader words → Reader (word ∷ words)
  read_plain word words is next [] rows pending i has apart sub awaits utf8 no_dash t =
      absurd (stray_step name c rows pending i word is has (first_step name c all _ word words t))
  read_plain word words is next (p ∷ ps) rows pending i has apart sub awaits utf8 no_dash t =
      let s : List Row = settled_rows c pending rows in
      let step = plain_step name c rows pending i p word is has.0 in
      let new = awaits p (among_first p ps) in
      let used_now = place_used i p word s new in
      let more : IsMore s (p, word) (settled_rows c (Some (p, word ∷ [])) s) =
      subst (λ (rows : List Row). IsMore s (p, word) rows) (sym (pending_rows name c s p word (place_rule i p) has.1)) used_now.1 in
      let rest = next ps s (Some (p, word ∷ [])) (min (i + 1) usize_max) has.2 (right_true _ _ apart) (λ q e. sub q (among_rest p ps q e))
      (awaits_after s _ (p, word) ps more (λ q e. other ps p q (not_false _ (left_true _ _ apart)) e) (λ q e. awaits q (among_rest p ps q e)))
      (All-tail IsUtf8 word words utf8) (All-tail IsNoDash word words no_dash) (next_steps name c all _ _ word words step.1 t) in
      let both = extend s _ (p, word) rest.values more new rest.once rest.fresh in
      record {
        settles = sym step.0 ∙ first_step name c all _ word words t;
        values = (p, word) ∷ rest.values;
        finds = g.plain is rest.finds;
        once = both.0;
        fresh = both.1;
      }

  read_dashes : (words : List Text) → Reader (codes "--" ∷ words)
  read_dashes words places rows pending i has apart sub awaits utf8 no_dash t =
      let step = dashes_step name c rows pending i idle in
      let rest = fill name c all places words rows pending idle i has apart sub awaits (next_steps name c all _ _ (codes "--") words step.1 t) in
      record { settles = rest.settles; values = rest.values; finds = g.trailing rest.fills; once = rest.once; fresh = rest.fresh }

  -- an option's name is that of no place
  other_place : (places : List Text) (long : Text) → is_among options long ≡ true → ((q : Text) → is_among places q ≡ true → is_among all q ≡ true)
      → (q : Text) → is_among places q ≡ true → bytes_eq long q ≡ false
  other_place places long among sub q e = by (bytes_eq long q) refl
    where
      by : (t : Bool) → bytes_eq long q ≡ t → bytes_eq long q ≡ false
      by false t = t
      by true t =
          let same : long ≡ q = (bytes_eq-Decides long q).0 t in
          absurd (false≢true (sym (no_option q (sub q e)) ∙ ap (is_among options) (sym same) ∙ among))

  other_flag : (places : List Text) (long : Text) → is_among flags long ≡ true → ((q : Text) → is_among places q ≡ true → is_among all q ≡ true)
      → (q : Text) → is_among places q ≡ true → bytes_eq long q ≡ false
  other_flag places long among sub q e = by (bytes_eq long q) refl
    where
      by : (t : Bool) → bytes_eq long q ≡ t → bytes_eq long q ≡ false
      by false t = t
      by true t =
          let same : long ≡ q = (bytes_eq-Decides long q).0 t in
          absurd (false≢true (sym (no_flag q (sub q e)) ∙ ap (is_among flags) (sym same) ∙ among))

  module _ (word long : Text) (words : List Text) (no_dashes : bytes_eq word (45 ∷ 45 ∷ []) ≡ false) (next : Reader words) where
    read_joined : (value : Text) → long_of word ≡ Some (long, Some value) → word ≡ codes "--" ++ long ++ codes "=" ++ value → is_among options long ≡ true → Reader (word ∷ words)
    read_joined value is text among places rows pending i has apart sub awaits utf8 no_dash t =
        let s : List Row = settled_rows c pending rows in
        let step = joined_step name c rows pending i word long no_dashes value is (has_options.option_long long among) in
        let turn = sym step.0 ∙ first_step name c all _ word words t in
        let new = option_once long value s (second_none _ _ turn) in
        let more = (option_used long value s new).1 in
        let rest = next places (used (option_rule long) (value ∷ []) s) None i has apart sub (awaits_after s _ (long, value) places more (other_place places long among sub) awaits)
        (All-tail IsUtf8 word words utf8) (All-tail IsNoDash word words no_dash) (next_steps name c all _ _ word words step.1 t) in
        let both = extend s _ (long, value) rest.values more new rest.once rest.fresh in
        record {
          settles = first_none _ _ turn;
          values = (long, value) ∷ rest.values;
          finds = subst (λ (w : Text). Reads options flags places (w ∷ words) ((long, value) ∷ rest.values)) (sym text) (g.joined among rest.finds);
          once = both.0;
          fresh = both.1;
        }

    read_flag : long_of word ≡ Some (long, None) → word ≡ codes "--" ++ long → is_among flags long ≡ true → Reader (word ∷ words)
    read_flag is text among places rows pending i has apart sub awaits utf8 no_dash t =
        let s : List Row = settled_rows c pending rows in
        let step = flag_step name c rows pending i word long no_dashes is (has_options.flag_long long among) in
        let turn = sym step.0 ∙ first_step name c all _ word words t in
        let new = flag_once long s (second_none _ _ turn) in
        let more = (flag_used long s new).1 in
        let rest = next places (used (flag_rule long) [] s) None i has apart sub (awaits_after s _ (long, codes "true") places more (other_flag places long among sub) awaits)
        (All-tail IsUtf8 word words utf8) (All-tail IsNoDash word words no_dash) (next_steps name c all _ _ word words step.1 t) in
        let both = extend s _ (long, codes "true") rest.values more new rest.once rest.fresh in
        record {
          settles = first_none _ _ turn;
          values = (long, codes "true") ∷ rest.values;
          finds = subst (λ (w : Text). Reads options flags places (w ∷ words) ((long, codes "true") ∷ rest.values)) (sym text) (g.flag among rest.finds);
          once = both.0;
          fresh = both.1;
        }

  -- what follows an option as its value does not begin with a dash
  plain_value : (long value : Text) (words places : List Text) (rows : List Row) (i : ℕ) → is_among options long ≡ true → HasPlaces c i places → IsUtf8 value → IsNoDash value
      → Takes name c all (walk_at (holds rows (Some (long, []))) (option long) i false) (value ∷ words) → IsPlainWord value
  plain_value long value words places rows i among has utf8 no_dash t = by (looks value)
    where
      id : arg_by_id c long ≡ Some (option_rule long)
      id = has_options.option_id long among

      turn : turn_fault (shape name c) [] (walk_at (holds rows (Some (long, []))) (option long) i false) value ≡ []
      turn = first_step name c all _ value words t

      by : Looks value → IsPlainWord value
      by (look.plain is) = is
      by (look.dash is) = absurd (no_dash is)
      by (look.dashes is) =
          let t' = subst (λ (w : Text). Takes name c all (walk_at (holds rows (Some (long, []))) (option long) i false) (w ∷ words)) is t in
          let after = next_steps name c all _ _ (codes "--") words (dashes_step name c rows (Some (long, [])) i (option long)).1 t' in
          absurd (no_value c rows long id (trailing_settles name c all places words rows (Some (long, [])) (option long) i has after))
      by (look.long n v no_dashes is text) =
          absurd (no_value c rows long id (long_settles c (arg_by_long c n) v _ (long_turn name c rows (Some (long, [])) i value n no_dashes (option long) v is turn)))
      by (look.short x xs no_dashes no_long is text) =
          absurd (no_bundle c has_options.none_short x xs rows (Some (long, [])) (subst IsUtf8 text utf8)
          (short_turn name c rows (Some (long, [])) i (option long) value (x ∷ xs) no_dashes no_long is turn))

  read_apart : (word long : Text) (words : List Text) → bytes_eq word (45 ∷ 45 ∷ []) ≡ false → ((value : Text) (rest : List Text) → words ≡ value ∷ rest → Reader rest)
      → long_of word ≡ Some (long, None) → word ≡ codes "--" ++ long → is_among options long ≡ true → Reader (word ∷ words)
  read_apart word long [] no_dashes next is text among places rows pending i has apart sub awaits utf8 no_dash t =
      let step = apart_step name c rows pending i word long no_dashes is (has_options.option_long long among) in
      absurd (no_value c (settled_rows c pending rows) long (has_options.option_id long among) (next_steps name c all _ _ word [] step.1 t).settles)
  read_apart word long (value ∷ words) no_dashes next is text among places rows pending i has apart sub awaits utf8 no_dash t =
      let s : List Row = settled_rows c pending rows in
      let id = has_options.option_id long among in
      let step = apart_step name c rows pending i word long no_dashes is (has_options.option_long long among) in
      let t' = next_steps name c all _ _ word (value ∷ words) step.1 t in
      let utf8' = All-tail IsUtf8 word (value ∷ words) utf8 in
      let no_dash' = All-tail IsNoDash word (value ∷ words) no_dash in
      let plain : IsPlainWord value = plain_value long value words places s i among has (head_of IsUtf8 value words utf8') (head_of IsNoDash value words no_dash') t' in
      let step' = value_step name c s i long value plain id in
      let t'' = next_steps name c all _ _ value words step'.1 t' in
      let used_rows = pending_rows name c s long value (option_rule long) id in
      let rest = next value words refl places s (Some (long, value ∷ [])) i has apart sub
      (λ q e. ap (has_row q) used_rows ∙ awaits_used long value s q (other_place places long among sub q e) (awaits q e))
      (All-tail IsUtf8 value words utf8') (All-tail IsNoDash value words no_dash') t'' in
      let new = option_once long value s (sym (pending_fault name c s long value (option_rule long) id) ∙ rest.settles) in
      let more : IsMore s (long, value) (settled_rows c (Some (long, value ∷ [])) s) =
      subst (λ (rows : List Row). IsMore s (long, value) rows) (sym used_rows) (option_used long value s new).1 in
      let both = extend s _ (long, value) rest.values more new rest.once rest.fresh in
      record {
        settles = sym step.0 ∙ first_step name c all _ word (value ∷ words) t;
        values = (long, value) ∷ rest.values;
        finds = subst (λ (w : Text). Reads options flags places (w ∷ value ∷ words) ((long, value) ∷ rest.values)) (sym text) (g.apart among plain rest.finds);
        once = both.0;
        fresh = both.1;
      }

  -- an argument that is no option is refused
  read_long : (word long : Text) (value : Option Text) (words : List Text) → bytes_eq word (45 ∷ 45 ∷ []) ≡ false → long_of word ≡ Some (long, value) → word ≡ spelled long value
      → Reader words → ((value : Text) (rest : List Text) → words ≡ value ∷ rest → Reader rest) → Reader (word ∷ words)
  read_long word long value words no_dashes is text next after places rows pending i has apart sub awaits utf8 no_dash t =
      by (is_among options long) refl (is_among flags long) refl value is text
    where
      Found : Type 0
      Found = Finds options flags c rows pending places (word ∷ words)

      fault : (value : Option Text) → long_of word ≡ Some (long, value) → long_fault c false (arg_by_long c long) value (holds rows pending) ≡ []
      fault value is = long_turn name c rows pending i word long no_dashes idle value is (first_step name c all _ word words t)

      by : (o : Bool) → is_among options long ≡ o → (f : Bool) → is_among flags long ≡ f → (value : Option Text) → long_of word ≡ Some (long, value) → word ≡ spelled long value
          → Finds options flags c rows pending places (word ∷ words)
      by true o f f' None is text = read_apart word long words no_dashes after is text o places rows pending i has apart sub awaits utf8 no_dash t
      by true o f f' (Some value) is text = read_joined word long words no_dashes next value is text o places rows pending i has apart sub awaits utf8 no_dash t
      by false o true f None is text = read_flag word long words no_dashes next is text f places rows pending i has apart sub awaits utf8 no_dash t
      by false o true f (Some value) is text =
          let e : long_fault c false (Some (flag_rule long)) (Some value) (holds rows pending) ≡ [] = rw (has_options.flag_long long f) at (fault (Some value) is) in
          absurd (cc e)
      by false o false f value is text =
          let e : long_fault c false None value (holds rows pending) ≡ [] = rw (has_options.none_long long o f) at (fault value is) in
          absurd (cc e)

  read_short : (word : Text) (x : ℕ) (xs : Text) (words : List Text) → bytes_eq word (45 ∷ 45 ∷ []) ≡ false → long_of word ≡ None → short_of word ≡ Some (x ∷ xs) → word ≡ 45 ∷ x ∷ xs → Reader (word ∷ words)
  read_short word x xs words no_dashes no_long is text places rows pending i has apart sub awaits utf8 no_dash t =
      absurd (no_bundle c has_options.none_short x xs rows pending (subst IsUtf8 text (head_of IsUtf8 word words utf8))
      (short_turn name c rows pending i idle word (x ∷ xs) no_dashes no_long is (first_step name c all _ word words t)))

  read_one : (word : Text) (words : List Text) → Reader words → ((value : Text) (rest : List Text) → words ≡ value ∷ rest → Reader rest) → Reader (word ∷ words)
  read_one word words next after = by (looks word)
    where
      by : Looks word → Reader (word ∷ words)
      by (look.plain is) = read_plain word words is next
      by (look.dash is) = λ places rows pending i has apart sub awaits utf8 no_dash t. absurd (head_of IsNoDash word words no_dash is)
      by (look.dashes is) = subst (λ (w : Text). Reader (w ∷ words)) (sym is) (read_dashes words)
      by (look.long n v no_dashes is text) = read_long word n v words no_dashes is text next after
      by (look.short x xs no_dashes no_long is text) = read_short word x xs words no_dashes no_long is text

  readers : (words : List Text) → Reader words × ((value : Text) (rest : List Text) → words ≡ value ∷ rest → Reader rest)
  readers [] = (read_none, λ value rest e. absurd (cc e))
  readers (word ∷ words) =
      let both = readers words in
      (read_one word words both.0 both.1, λ value rest e. subst Reader (tails word value words rest e) both.0)
    where
      tails : (a b : Text) (xs ys : List Text) → a ∷ xs ≡ b ∷ ys → xs ≡ ys
      tails a b xs ys e = cc

  pub read : (words : List Text) → Reader words
  read words = (readers words).0
