use Rattle.std.proofs.Common.{◌∙◌, ◌++◌, List, ap, subst, sym}
use Rattle.std.specs.List.{All}
use Rattle.cli_ask.specs.Block.{IsPrintable}
use Rattle.cli_ask.specs.declared.end.ClientEnd.{ClientEnd}
use Rattle.convoy.specs.State.{ConvoyState}
use Rattle.lc_world.proofs.GoneOnLemmas.{no_passes, passes_then}
use Rattle.cli_replay.specs.ReplayLaws.Played.{Plays}
use Rattle.cli_replay.specs.ReplayLaws.Replayed.{clients_text_of}
use Rattle.cli_replay.specs.Home.{home_seen}
use Rattle.cli_replay.proofs.HearingLemmas.{sides_admitted}
use Rattle.cli_replay.proofs.course.play_out.Goals as goal

pub text_of-requires : goal.text_of-requires
text_of-requires g c =
    let plays = subst (λ (s : ConvoyState). Plays (home_seen g.L.Link.seen) c.args.events.items s c.play.new.convoy c.args.home.now c.play.new.home c.in_ok-heard.heard.lines.items) c.in_ok-convoy.ensures
    c.in_ok-heard.ensures.plays in
    let caused = c.courses_are_caused.ensures c.args.base c.args.events.items c.args.cache c.play.new.convoy c.finish.new.self c.args.home.now c.play.new.home c.finish.new.link
    c.in_ok-heard.heard.lines.items c.in_ok-ends.ends.items c.requires.turns plays c.in_ok-finish.ensures.rounds c.in_ok-ends.ensures in
    subst (λ (ends : List ClientEnd). All (λ (end : ClientEnd). IsPrintable end.outcome) ends) (sym c.as_slice.ensures.value) caused.printable

pub returns-in_err-convoy-clause-outer : goal.returns-in_err-convoy-clause-outer
returns-in_err-convoy-clause-outer g c = no_passes _

pub returns-in_err-finish-clause-outer : goal.returns-in_err-finish-clause-outer
returns-in_err-finish-clause-outer g c =
    passes_then _ _ _ c.play.ensures.outer (record { gone_on = c.finish.ensures.left.gone_on; side = c.finish.ensures.behind })

pub returns-in_err-ends-clause-outer : goal.returns-in_err-ends-clause-outer
returns-in_err-ends-clause-outer g c =
    passes_then _ _ _ c.play.ensures.outer (record { gone_on = c.finish.ensures.left.gone_on; side = c.finish.ensures.behind })

pub returns-in_err-text-clause-outer : goal.returns-in_err-text-clause-outer
returns-in_err-text-clause-outer g c =
    passes_then _ _ _ c.play.ensures.outer (record { gone_on = c.finish.ensures.left.gone_on; side = c.finish.ensures.behind })

pub returns-clause-outer : goal.returns-clause-outer
returns-clause-outer g c =
    passes_then _ _ _ c.play.ensures.outer (record { gone_on = c.finish.ensures.left.gone_on; side = c.finish.ensures.behind })

pub returns-clause-played : goal.returns-clause-played
returns-clause-played g c = record {
  played = c.play.new.convoy;
  ended = c.finish.new.self;
  behind = c.play.new.home;
  lines = c.in_ok-heard.heard.lines.items;
  plays = subst (λ (s : ConvoyState). Plays (home_seen g.L.Link.seen) c.args.events.items s c.play.new.convoy c.args.home.now c.play.new.home c.in_ok-heard.heard.lines.items) c.in_ok-convoy.ensures
      c.in_ok-heard.ensures.plays;
  admits = sides_admitted g.L.Link.seen c.args.home.now c.play.new.home c.in_ok-heard.heard.admitted c.in_ok-heard.ensures.admitted;
  rounds = c.in_ok-finish.ensures.rounds;
  have_ended = c.in_ok-ends.ensures;
  text_is = c.in_ok-text.ensures ∙ ap (λ (ends : List ClientEnd). c.in_ok-heard.heard.lines.items ++ clients_text_of 1 ends) c.as_slice.ensures.value;
}
