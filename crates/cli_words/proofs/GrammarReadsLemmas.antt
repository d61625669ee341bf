-- Each line is of arguments that the grammar reads.
use Rattle.std.proofs.Common.{◌≡◌, ◌∙◌, Bool, true, false, List, [], map, All, Option, None, ap, refl, sym}
use Rattle.std.specs.Prelude.{fold}
use Rattle.std.specs.Option.{option_map_or}
use Rattle.std.specs.Str.{IsUtf8}
use Rattle.std.proofs.lemmas.Bool.{false≢true}
use Rattle.clap.specs.Facts.{explicit_source}
use Rattle.clap.specs.Faults.{check_fault, defaults_fault, settle_fault, walk_fault}
use Rattle.clap.specs.Kinds.{or_else}
use Rattle.clap.specs.Takes.{is_given}
use Rattle.clap.specs.Walk.{Row, Rule, Text, finished, has_row, idle, settled, settled_rows, with_default}
use Rattle.cli_words.specs.Grammar.{SayValues, IsTable, Value, is_among}
use Rattle.cli_words.specs.Line.{IsLine}
use Rattle.cli_words.specs.Line as line
use Rattle.cli_words.proofs.EndLemmas.{check_met, line_fault, met_all, only_flags}
use Rattle.cli_words.proofs.GrammarTakesLemmas.{at_none, has_names}
use Rattle.cli_words.proofs.PassLemmas.{held_after}
use Rattle.cli_words.proofs.RowLemmas.{at, passed}
use Rattle.cli_words.proofs.StepLemmas.{first_none, flag_rule, holds, second_none, shape, walk_at}
use Rattle.cli_words.proofs.TableLemmas.{rules_of}
use Rattle.cli_words.proofs.TakenLemmas.{read}

pub lines_are_words : (name : Text) (places options flags : List Text) → IsTable places options flags → (words : List Text) → All IsUtf8 words
    → IsLine (line.line name places options flags) words → (values : List Value) × SayValues places options flags words values
unfolding line.Takes
lines_are_words name places options flags table words utf8 is =
    let c : List Rule = rules_of places options flags in
    let names = has_names places options flags table in
    let end = held_after c (walk_at (holds [] None) idle 1 false) words in
    let rows : List Row = settled_rows c end.pending end.rows in
    let none = sym (line_fault name places options flags words) ∙ is.taken in
    let walks : walk_fault (shape name c) [] (walk_at (holds [] None) idle 1 false) words ≡ [] = first_none _ _ none in
    let rest : or_else (settle_fault c false end) (or_else (defaults_fault (settled c end).rows c) (check_fault (shape name c) (finished c end) false)) ≡ [] =
    second_none (walk_fault (shape name c) [] (walk_at (holds [] None) idle 1 false) words) _ none in
    let settles : settle_fault c false end ≡ [] = first_none _ _ rest in
    let check : check_fault (shape name c) (finished c end) false ≡ [] =
    second_none (defaults_fault (settled c end).rows c) _ (second_none (settle_fault c false end) _ rest) in
    let met = met_all 1 places options flags (finished c end) (check_met name c (finished c end) check) in
    let final : finished c end ≡ fold with_default rows (map flag_rule flags) = only_flags 1 places options flags rows in
    let given : (p : Text) → is_among places p ≡ true → has_row p rows ≡ true = λ p e.
    there p rows (has_row p rows) refl (λ absent. passed flags rows p (names.no_flag p e) ∙ at_none p rows absent) (sym (ap (is_given p) final) ∙ met p e) in
    let found = read name c places options flags names.found_options names.no_option names.no_flag words places [] None 1 names.found_places names.apart (λ q e. e) (λ q e. refl)
    utf8 is.no_dash (record { walks = walks; settles = settles; given = given }) in
    (found.values, record { reads = found.finds; once = found.once; no_dash = is.no_dash })
  where
    there : (p : Text) (rows : List Row) (t : Bool) → has_row p rows ≡ t → (has_row p rows ≡ false → at p (fold with_default rows (map flag_rule flags)) ≡ None)
        → is_given p (fold with_default rows (map flag_rule flags)) ≡ true → has_row p rows ≡ true
    there p rows true t none given = t
    there p rows false t none given =
        absurd (false≢true (sym (ap (λ (r : Option Row). option_map_or (λ r. explicit_source r.source) r false) (none t)) ∙ given))
