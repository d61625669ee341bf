-- The grammar of each command.
use Rattle.std.proofs.Common.{refl}
use Rattle.cli_words.specs.Laws.{ArriveGrammar, AskGrammar, CheckGrammar, DrillGrammar, FewestGrammar, LinesHaveGrammar, PlanGrammar, RelayGrammar, ReplayGrammar, ServeGrammar}
use Rattle.cli_words.specs.Line.{arrive_line, ask_line, check_line, drill_line, fewest_line, plan_line, relay_line, replay_line, serve_line}
use Rattle.cli_words.proofs.GrammarReadsLemmas.{lines_are_words}
use Rattle.cli_words.proofs.GrammarTakesLemmas.{words_are_taken}

pub lines_have_grammar : LinesHaveGrammar
lines_have_grammar name places options flags table =
    record { takes = words_are_taken name places options flags table; reads = lines_are_words name places options flags table }

pub check_grammar : CheckGrammar
unfolding check_line
check_grammar = lines_have_grammar _ _ _ _ (record { apart = refl; option_names = refl; flag_names = refl; fit = refl })

pub ask_grammar : AskGrammar
unfolding ask_line
ask_grammar = lines_have_grammar _ _ _ _ (record { apart = refl; option_names = refl; flag_names = refl; fit = refl })

pub replay_grammar : ReplayGrammar
unfolding replay_line
replay_grammar = lines_have_grammar _ _ _ _ (record { apart = refl; option_names = refl; flag_names = refl; fit = refl })

pub serve_grammar : ServeGrammar
unfolding serve_line
serve_grammar = lines_have_grammar _ _ _ _ (record { apart = refl; option_names = refl; flag_names = refl; fit = refl })

pub plan_grammar : PlanGrammar
unfolding plan_line
plan_grammar = lines_have_grammar _ _ _ _ (record { apart = refl; option_names = refl; flag_names = refl; fit = refl })

pub drill_grammar : DrillGrammar
unfolding drill_line
drill_grammar = lines_have_grammar _ _ _ _ (record { apart = refl; option_names = refl; flag_names = refl; fit = refl })

pub arrive_grammar : ArriveGrammar
unfolding arrive_line
arrive_grammar = lines_have_grammar _ _ _ _ (record { apart = refl; option_names = refl; flag_names = refl; fit = refl })

pub fewest_grammar : FewestGrammar
unfolding fewest_line
fewest_grammar = lines_have_grammar _ _ _ _ (record { apart = refl; option_names = refl; flag_names = refl; fit = refl })

pub relay_grammar : RelayGrammar
unfolding relay_line
relay_grammar = lines_have_grammar _ _ _ _ (record { apart = refl; option_names = refl; flag_names = refl; fit = refl })
