-- Each parent is looked up.
use Rattle.std.proofs.Common.{Bor, ◌≡◌, ℕ, List, Option, Some, None, rules}
use Rattle.std.specs.Option.{IfSome}
use Rattle.std.specs.Prelude.{Any}
use Rattle.std.proofs.lemmas.Iterator.{YieldsList-from_slice, cases_from_all}
use Rattle.std.proofs.lemmas.List.Elements.{All-weaker}
use Rattle.lc_model.specs.Stop.{HasStop}
use Rattle.lc_model.specs.declared.stop.Stop.{Stop}
use Rattle.lc_model.proofs.SearchLemmas.{TellsAll, all_tells}
use Rattle.page_json.proofs.known.have_parents.Goals as goal

if_some_weaker : {X : Type 0} (P Q : X → Type 0) → ((x : X) → P x → Q x) → (o : Option X) → IfSome o P → IfSome o Q
if_some_weaker P Q h None is = tt
if_some_weaker P Q h (Some x) is = h x is

pub returns : goal.returns
returns c =
    let Has : List ℕ → Type 0 = λ id. Any (λ (y : Bor (List ℕ)). y.now ≡ id) c.in_ok-ids.ids.items in
    let HasParent : Stop → Type 0 = λ s. IfSome s.parent Has in
    let Known : Stop → Type 0 = λ s. IfSome s.parent (HasStop c.args.stops.now) in
    let tells : TellsAll HasParent c.args.stops.now c.all.result = all_tells HasParent c.args.stops.now c.all.result
    (cases_from_all _ _ c.all.result HasParent (λ x. HasParent x → ⊥) c.all.ensures.ran (YieldsList-from_slice c.args.stops.now cc)
    (λ x q k. (search rules, search rules)) (λ x q k. search rules)) in (
      (λ yes. All-weaker HasParent Known (λ s. if_some_weaker Has (HasStop c.args.stops.now) (λ id. (c.in_ok-ids.ensures.same id).0) s.parent) c.args.stops.now (tells.0 yes)),
      (λ all. tells.1 (All-weaker Known HasParent (λ s. if_some_weaker (HasStop c.args.stops.now) Has (λ id. (c.in_ok-ids.ensures.same id).1) s.parent) c.args.stops.now all)),
    )
