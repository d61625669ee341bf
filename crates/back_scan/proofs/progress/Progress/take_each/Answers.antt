use Rattle.std.proofs.Common.{◌≡◌, ◌-◌, ◌<◌, ◌∷◌, ◌++◌, ℕ, suc, drop, get_or, length, refl, sym, subst, arith}
use Rattle.std.proofs.lemmas.Option.{slice_get-get_or}
use Rattle.lc_model.specs.Leg.{in_time}
use Rattle.back_scan.specs.Before.{IsBefore}
use Rattle.back_scan.specs.Kept.{kept_of}
use Rattle.back_scan.specs.Stands.{Stands}
use Rattle.back_scan.proofs.OrderLemmas.{all_taken, before_at, more_taken, none_taken}
use Rattle.back_scan.proofs.progress.Progress.take_each.Goals as goal

pub connections-init : goal.connections-init
connections-init c =
    let list = c.args.list.now in
    record {
      same_stops = refl;
      same_runs = refl;
      stands = λ runs taken asked near distinct are in_order early s. none_taken c.args.query.now c.args.doc.now runs (kept_of c.args.self.now) taken list (length list) refl s;
    }

pub connections-preserved : goal.connections-preserved
connections-preserved c =
    let old = c.connections.invariant in
    let query = c.args.query.now in
    let doc = c.args.doc.now in
    let list = c.args.list.now in
    let numbers = c.args.numbers.now in
    let one = c.index-list-i.result in
    let i = c.connections.i - 1 in
    let n : suc i ≡ c.connections.i = omega arith in
    let within : i < length list = omega arith in
    let numbered : i < length numbers = omega arith in
    let run = get_or numbers i 0 in
    let kept = kept_of c.take_one.new.self in
    record {
      same_stops = omega (arith, c.take_one.ensures.same_stops);
      same_runs = omega (arith, c.take_one.ensures.same_runs);
      stands = λ runs taken asked near distinct are in_order early s.
          let B : ℕ → Type 0 = λ k. IsBefore runs (in_time query (drop k list ++ taken)) run one in
          let S : ℕ → Type 0 = λ k. Stands query doc runs kept (in_time query (one ∷ (drop k list ++ taken))) in
          let before = subst B n (before_at query runs taken list numbers distinct are in_order early i one within c.index-list-i.is run (slice_get-get_or numbers i 0 numbered)) in
          let now = c.take_one.ensures.stands runs (drop c.connections.i list ++ taken) asked near before (old.stands runs taken asked near distinct are in_order early s) in
          more_taken query doc runs kept taken list i one within c.index-list-i.is (subst S (sym n) now);
    }

pub returns-clause-stands : goal.returns-clause-stands
returns-clause-stands c = λ runs taken asked near distinct are in_order early s.
    all_taken c.args.query.now c.args.doc.now runs (kept_of c.connections.self) taken c.args.list.now c.connections.i c.connections-test.false
    (c.connections.invariant.stands runs taken asked near distinct are in_order early s)
