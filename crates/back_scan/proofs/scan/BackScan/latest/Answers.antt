use Rattle.std.proofs.Common.{◌≡◌, ℕ, Option, length, sym, subst, refl, rules}
use Rattle.std.specs.Prelude.{option_map}
use Rattle.lc_model.specs.Leg.{in_time}
use Rattle.back_scan.specs.Kept.{kept_of}
use Rattle.back_scan.specs.Latest.{IsListLatest}
use Rattle.back_scan.specs.declared.trace.Start.{Start}
use Rattle.back_scan.proofs.LatestLemmas.{latest_departure}
use Rattle.back_scan.proofs.scan.BackScan.latest.Goals as goal

pub returns : goal.returns
returns c =
    let scan = c.args.self.now in
    let progress = scan.progress in
    let is : c.map.result ≡ option_map (λ (s : Start). s.leaves) progress.best = search rules in
    λ query doc taken s.
    let P : Option ℕ → Type 0 = λ o. IsListLatest query doc taken o in
    subst P (sym is) (latest_departure query doc s.asked scan.runs (kept_of progress) (in_time query taken) s.stands
    (length progress.alightings.items) progress.linked.is_departure progress.best refl)
