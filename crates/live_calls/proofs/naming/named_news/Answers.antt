use Rattle.std.proofs.Common.{◌≡◌, ◌∙◌, List, [], None, ap, arith, drop, get_or, sym}
use Rattle.std.proofs.lemmas.List.{drop_all}
use Rattle.std.specs.Option.{option_copied}
use Rattle.lc_model.specs.Versions.Naming.{namings}
use Rattle.lc_model.specs.Versions.News.{StopSaid}
use Rattle.live_calls.specs.Walk.{last_news}
use Rattle.live_calls.proofs.NamingLemmas.{last_news-none}
use Rattle.live_calls.proofs.naming.named_news.Goals as goal

pub returns-clause-last : goal.returns-clause-last
returns-clause-last c = λ k lt.
    let calls = c.args.calls.now in
    let behind : drop c.news.news-index c.args.stops.now ≡ [] = drop_all c.news.news-index c.args.stops.now (omega arith) in
    sym (ap (λ (rest : List StopSaid). last_news (option_copied (get_or c.news.named.items k None)) (namings calls c.news.next rest) k) behind)
    ∙ c.news.invariant.last k lt ∙ sym (last_news-none (namings calls 0 c.args.stops.now) k)
