use Rattle.std.proofs.Common.{◌≡◌, ◌∙◌, ℕ, List, Option, ap, refl, subst}
use Rattle.std.specs.Option.{SomeIff}
use Rattle.lc_model.specs.Text.{IsIdText}
use Rattle.lc_model.specs.Versions.News.{TripSaid}
use Rattle.version_store.specs.Kept.{news_said}
use Rattle.version_store.proofs.LastNewsLemmas.{puts_plain_key}
use Rattle.version_store.proofs.touched_keys.put_plain_key.Goals as goal

pub returns : goal.returns
returns c =
    let text = c.as_slice.result.now in
    let named = subst (λ (id : Option (List ℕ)). SomeIff id (IsIdText text) text) c.in-Some.is c.in_ok-trip.ensures in
    let same : c.in-Some.trip ≡ c.args.news.news.now.trip = named.1 ∙ c.as_slice.ensures ∙ ap (λ (n : TripSaid). n.trip) c.said.view_is in
    puts_plain_key (news_said c.args.news) c.in-Some.trip c.args.news.date c.args.keys.now c.insert.new.self same refl (λ other. c.in_ok-insert.ensures.updates.0 other)
