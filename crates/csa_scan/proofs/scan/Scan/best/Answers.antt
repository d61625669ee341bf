use Rattle.std.proofs.Common.{◌≡◌, ℕ, Option, sym, subst, refl, rules}
use Rattle.std.specs.Prelude.{option_map}
use Rattle.lc_model.specs.Leg.{IsListBest, in_time}
use Rattle.csa_scan.specs.Kept.{kept_of}
use Rattle.csa_scan.specs.declared.trace.Goal.{Goal}
use Rattle.csa_scan.proofs.LeastLemmas.{least_arrival}
use Rattle.csa_scan.proofs.scan.Scan.best.Goals as goal

pub returns : goal.returns
returns c =
    let scan = c.args.self.now in
    let progress = scan.progress in
    let is : c.map.result ≡ option_map (λ (g : Goal). g.arr) progress.best = search rules in
    λ query doc taken s.
    let P : Option ℕ → Type 0 = λ o. IsListBest query doc taken o in
    subst P (sym is) (least_arrival query doc s.asked scan.runs (kept_of progress) (in_time query taken) s.stands
    (λ place a e k f. (progress.linked.is_arrival place a e).boarding.after k f) progress.best refl)
