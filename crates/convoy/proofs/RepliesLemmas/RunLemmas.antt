-- Turn after turn, a client alone reaches its outcome by its replies.
use Rattle.std.proofs.Common.{◌≡◌, ◌∙◌, ◌≤◌, ℕ, List, [], ◌∷◌, ◌++◌, Some, ap, arith, length, refl, subst, sym}
use Rattle.std.specs.Prelude.{IsSome}
use Rattle.std.specs.List.{slice_get}
use Rattle.connection_uri.specs.Base.{BaseParts}
use Rattle.convoy.specs.Finish.{Ends, IsStep, Step, TurnsOf}
use Rattle.convoy.specs.State.{Adds, ConvoyState, begun}
use Rattle.convoy.specs.declared.member.Member.{Member}
use Rattle.convoy.specs.declared.turn.Turn.{Turn}
use Rattle.lc_model.specs.declared.query.Query.{Query}
use Rattle.lc_world.specs.Link.{LinkSeen}
use Rattle.page_client.specs.Client.{shown}
use Rattle.page_client.specs.declared.outcome.Outcome.{Outcome}
use Rattle.convoy.specs.Replies.Ends.{EndsBy}
use Rattle.convoy.specs.Replies.Met.{Met, met_by}
use Rattle.convoy.specs.Replies.Run.{EndsByItsReplies, HasRun}
use Rattle.convoy.proofs.RepliesLemmas.AloneLemmas.{alone_asks_all, met_alone}
use Rattle.convoy.proofs.RepliesLemmas.ClientsLemmas.{AreSo, IsClientSo, are_asked, are_begun, has_ended, turn_meets}
use Rattle.convoy.proofs.RepliesLemmas.StepLemmas.{AtEnd}

-- the convoy has this client alone
record Stands {X : Type 0} (seen : X → LinkSeen) (base : BaseParts) (cache : ℕ) (query : Query) (first : X) (convoy : ConvoyState) (link : X) : Type 0 where
  all : List Met
  so : AreSo base cache (query ∷ []) (seen first) (seen link) convoy all

module _ {X : Type 0} (seen : X → LinkSeen) (base : BaseParts) (cache : ℕ) (query : Query) (first : X) where
  turned : (old new : ConvoyState) (link after : X) (turn : Turn) → Stands seen base cache query first old link → IsStep seen 1 old new link after turn → Stands seen base cache query first new after
  turned old new link after turn s step =
      let meets = turn_meets seen base cache (query ∷ []) (seen first) 1 (let one : 1 ≤ 1 = omega arith in one) old new link after s.all s.so turn step in
      record { all = s.all ++ meets.more; so = meets.so }

  all_turned : (steps : List (Step X)) (old new : ConvoyState) (before after : X) → TurnsOf seen 1 steps old new before after → Stands seen base cache query first old before → Stands seen base cache query first new after
  all_turned [] old new before after (same, link) s = subst (λ (x : X). Stands seen base cache query first new x) (sym link) (subst (λ (c : ConvoyState). Stands seen base cache query first c before) (sym same) s)
  all_turned (step ∷ earlier) old new before after (last, turns) s =
      turned step.convoy new step.link after step.turn (all_turned earlier old step.convoy before step.link turns s) last

-- it is the only member
one_alone : (members : List Member) (member : Member) → length members ≡ 1 → slice_get members 0 ≡ Some member → members ≡ member ∷ []
one_alone [] member one is = absurd (cc)
one_alone (m ∷ []) member one is = (let same : m ≡ member = cc in ap (λ (x : Member). x ∷ []) same)
one_alone (m ∷ other ∷ members) member one is = absurd (omega (arith, one))

has_run : (base : BaseParts) (cache : ℕ) (query : Query) (before after : LinkSeen) (end : ConvoyState) (all : List Met) (member : Member) → AreSo base cache (query ∷ []) before after end all →
    slice_get end.members 0 ≡ Some member → IsSome (shown member.client).outcome → HasRun base query before after end
has_run base cache query before after end all member so is some =
    let client : IsClientSo base query before.faults after.faults member 1 all = so.members 0 query member refl is in
    let e : AtEnd base before.faults after.faults (shown member.client) (met_by 1 all) =
    has_ended base before.faults after.faults member.client (met_by 1 all) (shown member.client) (shown member.client).phase client.at some in
    let ends : EndsBy base query before.faults after.faults (shown member.client).version (met_by 1 all) e.outcome =
    subst (λ (q : Query). EndsBy base q before.faults after.faults (shown member.client).version (met_by 1 all) e.outcome) client.question e.ends in
    let own = alone_asks_all base query before.recorded after.recorded before.faults after.faults (shown member.client).version all e.outcome so.met ends in
    record {
      member = member;
      alone = one_alone end.members member so.clients is;
      question = client.question;
      outcome = e.outcome;
      ended = e.ended;
      asked = record {
        made = met_by 1 all;
        counted = client.counted ∙ own.0;
        ends = ends;
        recorded = own.1;
        clear = so.grown.clear;
        not_fallen = so.grown.not_fallen;
        along = record {
          met = all;
          are = met_alone all so.met.by_clients;
          along = so.met.counted;
          fault = λ low high fault_is. client.fault low high (e.ended ∙ ap (λ (o : Outcome). Some o) fault_is);
        };
      };
    }

module _ {X : Type 0} (seen : X → LinkSeen) (base : BaseParts) (capacity : ℕ) (query : Query) (asked end : ConvoyState) (before after : X) (adds : Adds (begun base capacity) query asked) where
  at_first : Stands seen base capacity query before asked before
  at_first = record {
    all = [];
    so = are_asked base capacity [] (seen before) (seen before) (begun base capacity) asked query [] (are_begun base capacity (seen before)) adds;
  }

  by_ends : (convoy : ConvoyState) (link : X) → convoy ≡ asked → link ≡ before → Ends seen 1 convoy end link after → HasRun base query (seen before) (seen after) end
  by_ends convoy link same same_link e =
      let s : Stands seen base capacity query before convoy link = subst (λ (x : X). Stands seen base capacity query before convoy x) (sym same_link) (subst (λ (c : ConvoyState). Stands seen base capacity query before c before) (sym same) at_first) in
      let now : Stands seen base capacity query before end after = all_turned seen base capacity query before e.steps convoy end link after e.turns s in
      has_run base capacity query (seen before) (seen after) end now.all e.member now.so e.is e.ended

pub ends_by_its_replies : {X : Type 0} (seen : X → LinkSeen) → EndsByItsReplies seen
ends_by_its_replies seen base capacity query asked end before after adds rounds =
    by_ends seen base capacity query asked end before after adds rounds.0 rounds.1 rounds.2.0 rounds.2.1 rounds.3
