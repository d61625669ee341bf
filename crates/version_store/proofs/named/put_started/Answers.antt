use Rattle.std.proofs.Common.{◌≡◌, ◌∙◌, Some, ap, sym}
use Rattle.lc_model.specs.Versions.News.{TripSaid}
use Rattle.version_store.proofs.NamedLemmas.{puts_started}
use Rattle.version_store.proofs.named.put_started.Goals as goal

pub returns : goal.returns
returns c =
    let says : c.args.news.news.now.start ≡ Some c.in-Some.start = ap (λ (n : TripSaid). n.start) (sym c.said.view_is) ∙ c.in-Some.is in
    puts_started c.args.news c.args.named.now c.insert.new.self c.in_ok-copy.field-0 c.in-Some.start c.if-start-ge-STARTS_END.false c.requires.of_timetable
    (c.in_ok-copy.ensures ∙ c.requires.trip) says (λ key. c.in_ok-insert.ensures.updates.0 key)
