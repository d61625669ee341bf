use Rattle.std.proofs.Common.{◌≡◌, ◌∙◌, List, Some, ap, subst, sym}
use Rattle.std.specs.List.{slice_get}
use Rattle.std.specs.Ordering.{is_eq}
use Rattle.std.proofs.lemmas.Option.{slice_get-get_or}
use Rattle.lc_model.specs.RunKey.{key_cmp}
use Rattle.lc_model.specs.declared.key.RunKey.{RunKey}
use Rattle.lc_model.proofs.KeyLemmas.{same_keys}
use Rattle.csa_scan.proofs.NumbersGrowLemmas.{is_equal}
use Rattle.csa_scan.proofs.SoughtLemmas.{item_found}
use Rattle.csa_scan.proofs.run_numbers.RunNumbers.has_number.Goals as goal

pub returns-in-Some : goal.returns-in-Some
returns-in-Some c = λ t.
    let keys = c.deref.result.now in
    let number = c.args.number in
    let one = c.in-Some.found.now in
    let key = c.args.key.now in
    let found = item_found keys number c.get.result c.in-Some.found c.get.ensures.lookup c.in-Some.is in
    let same : one ≡ key = same_keys one key (is_equal (key_cmp one key) (ap is_eq (sym c.cmp.ensures) ∙ sym c.is_eq.ensures ∙ t)) in
    let P : List RunKey → Type 0 = λ keys. slice_get keys number ≡ Some key in
    subst P (c.deref.ensures.value ∙ c.self.view_is) (slice_get-get_or keys number one found.0 ∙ ap Some (sym found.1 ∙ same))
