use Rattle.std.proofs.Common.{◌∙◌, ap, filter, map}
use Rattle.std.proofs.lemmas.Result.{on_ok_weaker}
use Rattle.version_store.specs.Filed.{is_by, spots_at, spots_over}
use Rattle.version_store.specs.Spots.{said_in}
use Rattle.version_store.specs.declared.filed.By.TheVariants.{Trip}
use Rattle.version_store.proofs.near.push_near.Goals as goal

pub returns : goal.returns
returns c =
    let trip = c.args.trip.now in
    let said_at = said_in c.args.admitted.now in
    on_ok_weaker c.push_news_of-2.result
    (λ pushed before after has_before has_after. record {
      of_before = c.in_ok-push_news_of.ensures (filter (is_by Trip trip) before)
          (ap (map said_at) (c.spots_at.ensures ∙ ap (spots_at c.args.filed.before.now) c.in_ok-label.ensures) ∙ has_before trip);
      of_after = pushed (filter (is_by Trip trip) after)
          (ap (map said_at) (c.spots_over.ensures ∙ ap (spots_over c.args.filed.first.now c.args.filed.rest.now) c.in_ok-label.ensures) ∙ has_after trip);
    })
    c.push_news_of-2.ensures
