use Rattle.std.proofs.Common.{◌∙◌, ap, subst}
use Rattle.std.proofs.lemmas.Result.{IfOk-weaker}
use Rattle.connection_uri.specs.Base.{BaseParts}
use Rattle.fragmenter.specs.declared.cutting.Cutting.{Cutting}
use Rattle.lc_links.specs.HomeLink.{HomeLinkState}
use Rattle.cli_replay.specs.Course.{IsPlayed}
use Rattle.cli_replay.specs.Home.{home_seen}
use Rattle.cli_replay.proofs.ReplayedLemmas.{admits, left_outside, replayed_over}
use Rattle.lc_world.proofs.GoneOnLemmas.{no_passes}
use Rattle.cli_replay.proofs.playing.replay.Goals as goal

pub returns-in-Ok-clause-left : goal.returns-in-Ok-clause-left
returns-in-Ok-clause-left g c =
    let outer = ap (λ (h : HomeLinkState Cutting g.row.L.Denot). h.outer) c.new-home.ensures in
    left_outside g.L.Link.seen c.new-home.result.outer c.play_out-replayed.new.home.outer c.args.link c.into_outer.result outer c.into_outer.ensures c.play_out-replayed.ensures.outer

pub returns-in-Ok-clause-replayed : goal.returns-in-Ok-clause-replayed
returns-in-Ok-clause-replayed g c =
    let held = ap (λ (h : HomeLinkState Cutting g.row.L.Denot). h.local.publisher) c.new-home.ensures ∙ c.in-Ok.ensures.held in
    let outer = ap (λ (h : HomeLinkState Cutting g.row.L.Denot). h.outer) c.new-home.ensures in
    IfOk-weaker c.play_out-replayed.result _ _ (λ replayed x.
    let played = subst (λ (base : BaseParts). IsPlayed (home_seen g.L.Link.seen) base c.args.events.items c.args.cache c.new-home.result c.play_out-replayed.new.home replayed.admitted replayed.text.items replayed.ends.items)
    c.in-Ok.ensures.base x in
    replayed_over g.L.Link.seen c.courses_are_heard.ensures c.courses_are_right.ensures c.courses_are_caused.ensures c.args.made c.args.publishing c.args.events.items c.args.cache c.new-home.result c.play_out-replayed.new.home
    replayed.admitted replayed.text.items replayed.ends.items c.requires.turns held c.in-Ok.ensures.valid played c.args.link c.into_outer.result outer c.into_outer.ensures) c.play_out-replayed.ensures.played

pub returns-in-Err-clause-left : goal.returns-in-Err-clause-left
returns-in-Err-clause-left g c = no_passes _

pub returns-in-Ok-clause-admitted : goal.returns-in-Ok-clause-admitted
returns-in-Ok-clause-admitted g c =
    let held = ap (λ (h : HomeLinkState Cutting g.row.L.Denot). h.local.publisher) c.new-home.ensures ∙ c.in-Ok.ensures.held in
    IfOk-weaker c.play_out-replayed.result _ _ (λ replayed x.
    let played = subst (λ (base : BaseParts). IsPlayed (home_seen g.L.Link.seen) base c.args.events.items c.args.cache c.new-home.result c.play_out-replayed.new.home replayed.admitted replayed.text.items replayed.ends.items)
    c.in-Ok.ensures.base x in
    admits g.L.Link.seen c.courses_are_heard.ensures c.courses_are_right.ensures c.courses_are_caused.ensures c.args.made c.args.publishing c.args.events.items c.args.cache c.new-home.result c.play_out-replayed.new.home
    replayed.admitted replayed.text.items replayed.ends.items c.requires.turns held c.in-Ok.ensures.valid played) c.play_out-replayed.ensures.played
