use Rattle.std.proofs.Common.{◌≡◌, ℕ, ℤ, pos, ◌+ℤ◌, ◌∙◌, ap, List, arith, subst, sym}
use Rattle.std.specs.Prelude.{◌↔◌}
use Rattle.std.specs.List.{Contains}
use Rattle.lc_model.specs.declared.date.ServiceDate.{ServiceDate}
use Rattle.service_days.specs.Days.{IsInWindow}
use Rattle.service_days.proofs.WindowLemmas.{window_more, window_number, window_start}
use Rattle.service_days.proofs.window.window_dates.Goals as goal

pub loop-k-init : goal.loop-k-init
loop-k-init c =
    subst (λ (v : List ServiceDate). (date : ServiceDate) → Contains v date ↔ IsInWindow c.args.first 0 date) (sym c.new-list.ensures.items) (window_start c.args.first)

pub loop-k-preserved : goal.loop-k-preserved
loop-k-preserved c =
    window_more c.args.first c.loop-k.k _ c.loop-k.list.items _ (window_number c.day_number-from.result c.loop-k.k c.day_number-from.ensures.bound (omega arith) ∙ ap (λ (v : ℤ). v +ℤ pos c.loop-k.k) c.day_number-from.ensures.value) c.loop-k.invariant c.in_ok-push_date.ensures

pub returns : goal.returns
returns c =
    let end : c.loop-k.k ≡ c.args.count = omega arith in
    subst (λ (k : ℕ). (date : ServiceDate) → Contains c.loop-k.list.items date ↔ IsInWindow c.args.first k date) end c.loop-k.invariant
