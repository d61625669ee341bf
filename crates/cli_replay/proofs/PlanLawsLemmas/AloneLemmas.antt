-- A plan with one client.
use Rattle.std.proofs.Common.{◌∙◌, List, [], ◌∷◌, ap, refl, subst}
use Rattle.std.specs.List.{slice_get}
use Rattle.cli_replay.specs.PlanLaws.Laws.{OneClientAsks}
use Rattle.convoy.specs.Replies.Laws.{AloneAsksAll}
use Rattle.convoy.specs.Replies.Met.{AreMet, met_by}
use Rattle.convoy.proofs.RepliesLemmas.AloneLemmas.{met_alone}
use Rattle.lc_model.specs.declared.query.Query.{Query}
use Rattle.lc_world.specs.Link.{LinkSeen}

pub one_client_asks : {X : Type 0} (seen : X → LinkSeen) → AloneAsksAll → OneClientAsks seen
one_client_asks seen asks_all base all cache query before after text end one planned =
    let c = planned.caused in
    let by = c.clients 0 query end (ap (λ (l : List Query). slice_get l 0) one) refl in
    let met : AreMet base (query ∷ []) (seen before).recorded (seen after).recorded (seen before).faults (seen after).faults c.met =
    subst (λ (l : List Query). AreMet base l (seen before).recorded (seen after).recorded (seen before).faults (seen after).faults c.met) one c.by_replies in
    let alone = asks_all base query (seen before).recorded (seen after).recorded (seen before).faults (seen after).faults end.version c.met end.outcome met by.ends in
    record {
      made = met_by 1 c.met;
      counted = by.exchanges ∙ alone.0;
      ends = by.ends;
      recorded = alone.1;
      clear = planned.clear;
      not_fallen = planned.not_fallen;
      along = record { met = c.met; are = met_alone c.met met.by_clients; along = met.counted; fault = by.fault };
    }
