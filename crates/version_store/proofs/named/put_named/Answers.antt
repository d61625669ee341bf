use Rattle.std.proofs.Common.{◌≡◌, ◌∙◌, ℕ, List, Option, ap, false, subst, sym}
use Rattle.std.specs.Option.{SomeIff}
use Rattle.lc_model.specs.Text.{IsIdText}
use Rattle.lc_model.specs.Versions.Naming.{is_added}
use Rattle.lc_model.specs.Versions.News.{TripSaid}
use Rattle.version_store.proofs.NamedLemmas.{puts_named}
use Rattle.version_store.proofs.named.put_named.Goals as goal

pub returns : goal.returns
returns c =
    let of : is_added c.args.news.news.now.kind ≡ false = ap (λ (n : TripSaid). is_added n.kind) (sym c.said.view_is) ∙ sym c.is_added.ensures ∙ c.if-is_added.false in
    let text = c.as_slice.result.now in
    let named = subst (λ (id : Option (List ℕ)). SomeIff id (IsIdText text) text) c.in-Some.is c.in_ok-trip.ensures in
    let same : c.in-Some.trip ≡ c.args.news.news.now.trip = named.1 ∙ c.as_slice.ensures ∙ ap (λ (n : TripSaid). n.trip) c.said.view_is in
    puts_named c.args.news c.args.named.now c.put_started.new.named c.insert.new.self c.in-Some.trip of same c.in_ok-put_started.ensures (λ key. c.in_ok-insert.ensures.updates.0 key)
