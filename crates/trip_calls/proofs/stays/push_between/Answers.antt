use Rattle.std.proofs.Common.{◌≡◌, ◌∙◌, ◌+◌, ◌-◌, ◌++◌, ℕ, ap, arith, map}
use Rattle.std.specs.List.{range_with_len}
use Rattle.trip_calls.proofs.FillLemmas.{blank_at, blank_more, stay}
use Rattle.trip_calls.proofs.stays.push_between.Goals as goal

pub places-preserved : goal.places-preserved
places-preserved c =
    blank_more c.args.departs c.args.before c.args.after c.args.arrives c.places.place c.args.stays.now.items c.places.stays.items c.push.new.self.items _ c.in_ok-push.ensures.items
    (ap (λ t. stay t t) c.time_between-time.ensures) (omega arith) c.places.invariant

pub returns : goal.returns
returns c =
    let at_end : c.places.place ≡ c.args.after = omega arith in
    let of = blank_at c.args.departs c.args.before c.args.after c.args.arrives in
    c.places.invariant ∙ ap (λ (v : ℕ). c.args.stays.now.items ++ map of (range_with_len (c.args.before + 1) (v - (c.args.before + 1)))) at_end
