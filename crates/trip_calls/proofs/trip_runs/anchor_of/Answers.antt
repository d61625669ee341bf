use Rattle.std.proofs.Common.{◌≡◌, ◌∙◌, ℕ, Some, refl, subst, sym}
use Rattle.std.specs.Option.{IsSome}
use Rattle.trip_calls.specs.TripRuns.{HasMoments}
use Rattle.trip_calls.proofs.AnchorLemmas.{anchored}
use Rattle.trip_calls.proofs.trip_runs.anchor_of.Goals as goal

pub unwrap-requires : goal.unwrap-requires
unwrap-requires c =
    let a = anchored c.args.zone.now c.args.date c.requires in
    let e : c.anchor.result ≡ Some a.anchor = c.anchor.ensures ∙ a.is in
    subst IsSome (sym e) refl

some_is : (x y : ℕ) → Some x ≡ Some y → x ≡ y
some_is x y e = cc

pub returns-clause-in_range : goal.returns-clause-in_range
returns-clause-in_range c =
    let a = anchored c.args.zone.now c.args.date c.requires in
    subst HasMoments (some_is a.anchor c.unwrap.result (sym (c.anchor.ensures ∙ a.is) ∙ c.unwrap.ensures)) a.in_range
