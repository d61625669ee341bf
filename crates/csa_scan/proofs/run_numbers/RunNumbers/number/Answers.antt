use Rattle.std.proofs.Common.{◌≡◌, ℕ, List, [], ◌∷◌, ◌++◌, Some, length, arith, sym, subst}
use Rattle.std.specs.BTreeMap.{Updates}
use Rattle.std.specs.List.{slice_get}
use Rattle.std.proofs.lemmas.Grind.{common_steps}
use Rattle.lc_model.specs.RunKey.{key_cmp}
use Rattle.lc_model.specs.declared.key.RunKey.{RunKey}
use Rattle.csa_scan.specs.Numbers.{AreNumbers}
use Rattle.csa_scan.proofs.NumbersGrowLemmas.{numbers-push}
use Rattle.csa_scan.proofs.ListPlacesLemmas.{slice_get-append, slice_get-last}
use Rattle.csa_scan.proofs.run_numbers.RunNumbers.number.Goals as goal

pub returns-in-Some-clause-ok : goal.returns-in-Some-clause-ok
returns-in-Some-clause-ok c =
    let h = c.self.invariant.sound c.args.key.now c.in-Some.number.now (sym c.in-Some.ensures.value) in
    let v = c.self.view_is in
    let P : List RunKey → Type 0 = λ keys. slice_get keys c.in-Some.number.now ≡ Some c.args.key.now in
    subst P v h

pub invariant_of-self-2 : goal.invariant_of-self-2
invariant_of-self-2 c =
    let pushed : c.push.new.self.items ≡ c.self.inside.keys.items ++ c.args.key.now ∷ [] = grind (arith, common_steps) in
    let number : c.len-number.result ≡ length c.self.inside.keys.items = grind arith in
    let key : c.in_ok-numbered.numbered ≡ c.args.key.now = c.in_ok-numbered.ensures in
    let old = c.self.inside.numbers in
    let P : RunKey → Type 0 = λ k. Updates key_cmp old c.insert.new.self k (Some c.len-number.result) in
    let Q : ℕ → Type 0 = λ n. Updates key_cmp old c.insert.new.self c.args.key.now (Some n) in
    let R : List RunKey → Type 0 = λ keys. AreNumbers c.insert.new.self keys in
    subst R (sym pushed) (numbers-push old c.insert.new.self c.self.inside.keys.items c.args.key.now c.self.invariant
    (sym c.in_default.ensures.value) (subst Q number (subst P key c.in_ok-insert.ensures.updates)))

pub returns-clause-ok : goal.returns-clause-ok
returns-clause-ok c =
    let pushed : c.push.new.self.items ≡ c.self.inside.keys.items ++ c.args.key.now ∷ [] = grind (arith, common_steps) in
    let number : c.len-number.result ≡ length c.self.inside.keys.items = grind arith in
    let P : List RunKey → Type 0 = λ keys. slice_get keys c.len-number.result ≡ Some c.args.key.now in
    let Q : ℕ → Type 0 = λ n. slice_get (c.self.inside.keys.items ++ c.args.key.now ∷ []) n ≡ Some c.args.key.now in
    subst P (sym pushed) (subst Q (sym number) (slice_get-last c.self.inside.keys.items c.args.key.now))

pub returns-clause-grows : goal.returns-clause-grows
returns-clause-grows c =
    let pushed : c.push.new.self.items ≡ c.self.inside.keys.items ++ c.args.key.now ∷ [] = grind (arith, common_steps) in
    λ i key e.
    let P : List RunKey → Type 0 = λ keys. slice_get keys i ≡ Some key in
    subst P (sym pushed) (slice_get-append c.self.inside.keys.items (c.args.key.now ∷ []) i key (subst P (sym c.self.view_is) e))
