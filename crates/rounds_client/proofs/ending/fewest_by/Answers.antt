use Rattle.std.proofs.Common.{ℕ, Option, sym, subst, ◌∙◌}
use Rattle.page_client.specs.declared.outcome.Outcome.{Outcome}
use Rattle.rounds_client.specs.Course.{HasRead}
use Rattle.rounds_client.specs.End.{IsEndOf}
use Rattle.rounds_client.specs.Given.{was_given}
use Rattle.rounds_client.proofs.StartLemmas.{read_at_end}
use Rattle.rounds_client.proofs.ending.fewest_by.Goals as goal

pub end-requires : goal.end-requires
end-requires g c =
    let done = c.in-Ok.ensures in
    let R : Option Outcome → Type 0 = λ o. HasRead c.args.query.now (was_given c.finish.new.given) o in
    subst R (sym done.ended.ended)
    (read_at_end c.finish.new.client (was_given c.finish.new.given) c.args.query.now done.ended.outcome done.decided (done.ended.query ∙ c.requires.asks) done.ended.ended (done.reads c.requires.reads))

pub returns-in_ok-ended-in-Ok-clause-ends : goal.returns-in_ok-ended-in-Ok-clause-ends
returns-in_ok-ended-in-Ok-clause-ends g c =
    let done = c.in-Ok.ensures in
    let E : ℕ → Type 0 = λ n. IsEndOf c.args.query.now c.finish.new.client (was_given c.finish.new.given) n c.in_ok-ended-in-Ok.ended in
    record {
      points = done.ended.points;
      last = c.finish.new.client;
      had = was_given c.finish.new.given;
      leads = done.ended.leads;
      ends = subst E done.ended.count c.in_ok-ended-in-Ok.ensures.ends;
    }
