use Rattle.std.proofs.Common.{◌≡◌, ◌+◌, ◌<◌, ◌∙◌, ℕ, refl, sym, subst, arith}
use Rattle.lc_world.proofs.GoneOnLemmas.{gets_then, no_gets}
use Rattle.back_client.specs.Steps.{GoesBelow, IsTurn}
use Rattle.back_client.specs.declared.page.Place.{Place}
use Rattle.back_client.specs.declared.step.Sequel.{Sequel}
use Rattle.back_client.proofs.WalkLemmas.{IsWalking, begins_walking, ends_walk, goes_on, most_exchanges}
use Rattle.back_client.proofs.walk.walk_back.Goals as goal

pub pages-init : goal.pages-init
pages-init g c = record {
  falls = omega arith;
  walking = λ doc s. begins_walking g.L.Link.seen c.args.base.now c.args.query.now doc c.args.gate c.args.first c.args.link.now c.args.scan.now s;
  left = no_gets _;
  behind = refl;
}

pub pages-preserved : goal.pages-preserved
pages-preserved g c =
    let seen = g.L.Link.seen in
    let base = c.args.base.now in
    let query = c.args.query.now in
    let name = c.pages.name in
    let sequel = c.in_ok-sequel.sequel in
    let B : Sequel → Type 0 = λ s. GoesBelow name.departs s in
    let below = subst B c.in-Goes.is c.in_ok-sequel.ensures.below in
    let T : Place → Type 0 = λ p. IsTurn base query.arrive p name c.pages.scan c.page_turn.new.scan (seen c.pages.link) (seen c.page_turn.new.link) sequel in
    let turn = subst T c.replace-here.ensures.value c.in_ok-sequel.ensures.turn in
    record {
      falls = omega arith;
      walking = λ doc s.
          let P : Place → Type 0 = λ p. IsWalking seen base query doc c.args.gate c.args.first c.args.link.now c.page_turn.new.scan p c.in-Goes.previous (c.pages.exchanges + 1) c.page_turn.new.link in
          subst P (sym c.replace-here.ensures.after)
          (goes_on seen base query doc c.args.gate c.args.first c.args.link.now c.pages.scan c.page_turn.new.scan c.pages.place name c.pages.exchanges c.pages.link c.page_turn.new.link c.in-Goes.previous sequel
          c.in-Goes.is turn (c.pages.invariant.walking doc s));
      left = gets_then _ _ _ c.pages.invariant.left c.page_turn.ensures.left;
      behind = c.page_turn.ensures.behind ∙ c.pages.invariant.behind;
    }

pub returns-in-Ends-clause-walked : goal.returns-in-Ends-clause-walked
returns-in-Ends-clause-walked g c =
    let seen = g.L.Link.seen in
    let base = c.args.base.now in
    let query = c.args.query.now in
    let name = c.pages.name in
    let sequel = c.in_ok-sequel.sequel in
    let T : Place → Type 0 = λ p. IsTurn base query.arrive p name c.pages.scan c.page_turn.new.scan (seen c.pages.link) (seen c.page_turn.new.link) sequel in
    let turn = subst T c.replace-here.ensures.value c.in_ok-sequel.ensures.turn in
    λ doc s.
    ends_walk seen base query doc c.args.gate c.args.first c.args.link.now c.pages.scan c.page_turn.new.scan c.pages.place name c.pages.exchanges c.pages.link c.page_turn.new.link c.in-Ends.outcome sequel
    c.in-Ends.is turn (c.pages.invariant.walking doc s) _ refl

pub returns-in-Ends-clause-most : goal.returns-in-Ends-clause-most
returns-in-Ends-clause-most g c = λ doc s. most_exchanges c.args.query.now c.pages.place c.pages.exchanges (c.pages.invariant.walking doc s).within

pub returns-in_err-sequel-clause-left : goal.returns-in_err-sequel-clause-left
returns-in_err-sequel-clause-left g c = gets_then _ _ _ c.pages.invariant.left c.page_turn.ensures.left

pub returns-in-Ends-clause-left : goal.returns-in-Ends-clause-left
returns-in-Ends-clause-left g c = gets_then _ _ _ c.pages.invariant.left c.page_turn.ensures.left
