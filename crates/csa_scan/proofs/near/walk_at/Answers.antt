use Rattle.std.proofs.Common.{◌≡◌, ◌∙◌, ◌<◌, None, Some, get_or, length, refl, ap, sym, arith}
use Rattle.std.specs.List.{slice_get}
use Rattle.std.proofs.lemmas.Option.{slice_get-get_or}
use Rattle.csa_scan.specs.declared.trace.Near.{Near}
use Rattle.csa_scan.proofs.NearStepsLemmas.{makes_none, makes_walk}
use Rattle.csa_scan.proofs.SoughtLemmas.{id_at-get_or}
use Rattle.csa_scan.proofs.near.walk_at.Goals as goal
use Rattle.csa_scan.proofs.near.walk_at.Goals.{in_default-near-via-in-Some-near+else-near-gt0, in_default-near-via-in_default-near}

pub returns-in_ok-walk-in-Some-near : goal.returns-in_ok-walk-in-Some-near
returns-in_ok-walk-in-Some-near c =
    let near = c.args.near.now in
    let stops = c.args.stops.now in
    let is = c.in-Some.ensures in
    let n = c.in-Some-near.near in
    let within : c.in-Some.stop < length near = let w = is.within in let o = c.requires.one_each in omega arith in
    let there : slice_get near c.in-Some.stop ≡ Some (Some n) = slice_get-get_or near c.in-Some.stop None within ∙ ap Some c.in-Some-near.is in
    let inside : n.place < length stops = let l = c.requires.within c.in-Some.stop n there in let o = c.requires.one_each in omega arith in
    makes_walk c.args.side stops near c.args.inner.now c.in-Some.stop is within n c.in-Some-near.is c.if-near-gt0.true (get_or stops n.place c.index-stops-near.result).id
    (id_at-get_or stops n.place c.index-stops-near.result inside) c.in_ok-walk-in-Some-near.walk c.in_ok-walk-in-Some-near.ensures

pub returns-in_default-near : goal.returns-in_default-near
returns-in_default-near c =
    let near = c.args.near.now in
    let is = c.in-Some.ensures in
    let within : c.in-Some.stop < length near = let w = is.within in let o = c.requires.one_each in omega arith in
    makes_none c.args.side c.args.stops.now near c.args.inner.now c.in-Some.stop is within (get_or near c.in-Some.stop None) refl
    (λ n e some. elim c.in_default-near.branch [
      | in_default-near-via-in-Some-near+else-near-gt0 w ↦
          let at = w.in-Some-near.is in
          let both : Some w.in-Some-near.near ≡ Some n = sym at ∙ e in
          let same : w.in-Some-near.near ≡ n = cc in
          let seconds = ap (λ (x : Near). x.seconds) same in
          let none = w.if-near-gt0.false in
          omega arith
      | in_default-near-via-in_default-near w ↦ w.in_default-near.not-Some n e
    ])
