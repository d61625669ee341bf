use Rattle.std.proofs.Common.{◌≡◌, ◌+◌, length, subst}
use Rattle.std.proofs.lemmas.Result.{IfOk-weaker}
use Rattle.fragmenter.specs.declared.cutting.Cutting.{Cutting}
use Rattle.publisher.specs.Held.{Held}
use Rattle.cli_replay.proofs.HearingLemmas.{given}
use Rattle.lc_world.proofs.GoneOnLemmas.{no_passes}
use Rattle.cli_replay.proofs.hearing.hear.Goals as goal

pub returns-clause-given : goal.returns-clause-given
returns-clause-given g c =
    IfOk-weaker c.heard.result _ _ (λ heard behind.
    given g.L.Link.seen c.args.home.now c.publisher.result.now c.heard.new.publisher c.args.message.now.file heard.lines.items c.publisher.ensures.value c.heard.ensures.same behind c.heard.ensures.stops
    c.heard.ensures.valid) c.heard.ensures.line

pub returns-clause-admitted : goal.returns-clause-admitted
returns-clause-admitted g c =
    IfOk-weaker c.heard.result _ _ (λ heard grown.
    subst (λ (was : Held Cutting). length c.heard.new.publisher.store.history ≡ length was.store.history + heard.admitted) c.publisher.ensures.value grown) c.heard.ensures.admitted

pub returns-clause-outer : goal.returns-clause-outer
returns-clause-outer g c = no_passes _
