use Rattle.std.proofs.Common.{◌<◌, None, Some, get_or, length, refl, sym, ◌∙◌, arith}
use Rattle.std.proofs.lemmas.Bool.{false≢true}
use Rattle.std.proofs.lemmas.Option.{get_or_from_slice_get}
use Rattle.csa_scan.proofs.NearStepsLemmas.{comes_nearer, comes_no_nearer}
use Rattle.csa_scan.proofs.near.come_near.Goals as goal

pub returns-then-is_nearer : goal.returns-then-is_nearer
returns-then-is_nearer c =
    let near = c.args.near.now in
    let is = c.in-Some-place_of.ensures in
    let within : c.in-Some-place_of.stop < length near = let w = is.within in let o = c.requires.one_each in omega arith in
    comes_nearer c.args.stops.now c.args.named.now c.args.outer.now c.args.inner.now c.args.seconds near c.in-Some-place_of.stop is within c.in-Some.place c.in-Some.ensures
    (c.is_end.ensures.0 c.if-not-is_end.false) (record { place = c.in-Some.place; seconds = c.args.seconds }) refl refl
    (λ m e. c.is_nearer.ensures.0 c.if-is_nearer.true m (get_or_from_slice_get near c.in-Some-place_of.stop (Some m) None e))

pub returns-else-is_nearer : goal.returns-else-is_nearer
returns-else-is_nearer c =
    let near = c.args.near.now in
    let is = c.in-Some-place_of.ensures in
    let within : c.in-Some-place_of.stop < length near = let w = is.within in let o = c.requires.one_each in omega arith in
    comes_no_nearer c.args.stops.now c.args.named.now c.args.outer.now c.args.inner.now c.args.seconds near c.in-Some-place_of.stop is within (get_or near c.in-Some-place_of.stop None) refl
    (λ nearer. false≢true (sym c.if-is_nearer.false ∙ c.is_nearer.ensures.1 nearer))
