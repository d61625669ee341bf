use Rattle.std.proofs.Common.{◌≡◌, ℕ, ◌/◌, ◌%◌, ◌⊎◌, List, codes, subst, refl, arith}
use Rattle.lc_time.specs.Iso.{IsFraction}
use Rattle.lc_time.proofs.IsoLemmas.{said_at, to_end, day_said, clock_said}
use Rattle.lc_time.proofs.iso.read_iso.Goals as goal

pub returns-then-is_end-clause-said : goal.returns-then-is_end-clause-said
returns-then-is_end-clause-said c =
    said_at c.moment_of.result c.read_day.result c.read_clock.result c.args.text.now c.moment_of.ensures.in_range c.moment_of.ensures.in_day
    c.read_day.ensures.said c.read_clock.ensures.said c.if-text-lt19.false c.if-text-ne84.false (subst (λ (e : List ℕ). (e ≡ codes "Z") ⊎ IsFraction e) (to_end c.args.text.now) (c.if-is_end.ensures.0 refl))

pub returns-then-is_end-clause-exact : goal.returns-then-is_end-clause-exact
returns-then-is_end-clause-exact c = λ m says.
    let in_range = says.in_range in
    c.moment_of.ensures.exact m says.in_range
    (c.read_day.ensures.exact (m / 86_400) (omega arith) (day_said c.args.text.now m says))
    (c.read_clock.ensures.exact (m % 86_400) (omega arith) (clock_said c.args.text.now m says))
