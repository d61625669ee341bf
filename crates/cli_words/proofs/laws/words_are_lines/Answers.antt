use Rattle.cli_words.proofs.GrammarLemmas.{arrive_grammar, ask_grammar, check_grammar, drill_grammar, fewest_grammar, lines_have_grammar, plan_grammar, relay_grammar, replay_grammar, serve_grammar}
use Rattle.cli_words.proofs.NearLemmas.{dash_words}
use Rattle.cli_words.proofs.laws.words_are_lines.Goals as goal

pub returns : goal.returns
returns c = record {
  lines = lines_have_grammar;
  dashes = dash_words;
  check = check_grammar;
  ask = ask_grammar;
  replay = replay_grammar;
  serve = serve_grammar;
  plan = plan_grammar;
  drill = drill_grammar;
  arrive = arrive_grammar;
  fewest = fewest_grammar;
  relay = relay_grammar;
}
