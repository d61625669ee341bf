use Rattle.std.proofs.Common.{List, ap, refl, subst, ◌∙◌, None}
use Rattle.lc_model.specs.declared.query.Query.{Query}
use Rattle.page_json.specs.declared.page.Page.{Page}
use Rattle.page_client.specs.Client.{shown}
use Rattle.page_client.specs.Shown.{Begins, Shown}
use Rattle.lc_world.proofs.GoneOnLemmas.{no_gets}
use Rattle.rounds_client.specs.Course.{LeadsTo}
use Rattle.rounds_client.proofs.StartLemmas.{reads_at_start}
use Rattle.rounds_client.proofs.ending.fewest.Goals as goal

pub returns-in_err-asked-clause-left : goal.returns-in_err-asked-clause-left
returns-in_err-asked-clause-left g c = no_gets _

pub fewest_by-requires-clause-asks : goal.fewest_by-requires-clause-asks
fewest_by-requires-clause-asks g c = ap (λ (s : Shown). s.query) c.new-client.ensures.begins.is ∙ c.in_ok-asked.ensures

pub fewest_by-requires-clause-reads : goal.fewest_by-requires-clause-reads
fewest_by-requires-clause-reads g c = reads_at_start c.in_ok-asked.asked c.new-client.result _ c.new-client.ensures.begins c.new.ensures.items

pub returns-clause-ends : goal.returns-clause-ends
returns-clause-ends g c =
    let done = c.in_ok-end.ensures.ends in
    let B : Query → Type 0 = λ q. Begins q (shown c.new-client.result) in
    let P : List Page → Type 0 = λ pages.
    LeadsTo g.L.Link.seen c.args.base.now done.points (record { client = c.new-client.result; given = record { doc = None; pages = pages }; link = c.args.link.now })
    (record { client = done.last; given = done.had; link = c.fewest_by.new.link }) in
    record {
      start = c.new-client.result;
      begins = subst B c.in_ok-asked.ensures c.new-client.ensures.begins;
      points = done.points;
      last = record { client = done.last; given = done.had; link = c.fewest_by.new.link };
      leads = subst P c.new.ensures.items done.leads;
      link = refl;
      outcome = done.ends.outcome;
      ended = done.ends.ended;
      version = done.ends.version;
      exchanges = done.ends.exchanges;
      answer = done.ends.answer;
    }
