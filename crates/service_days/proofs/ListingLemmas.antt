-- How lists of days grow.
use Rattle.std.proofs.Common.{◌≡◌, ℕ, ◌∙◌, List, [], ◌∷◌, ◌++◌, true, false, sym, subst, refl}
use Rattle.std.specs.Prelude.{◌↔◌}
use Rattle.std.specs.List.{Contains}
use Rattle.std.specs.List.Sorted.{IsPermutation}
use Rattle.std.proofs.lemmas.List.Sorted.{Contains-permutation, IsPermutation-sym}
use Rattle.lc_model.specs.declared.date.ServiceDate.{ServiceDate}
use Rattle.gtfs_tables.specs.declared.calendars.calendar.Weekly.{Weekly}
use Rattle.gtfs_tables.specs.declared.calendars.calendar_dates.DateRow.{DateRow}
use Rattle.service_days.specs.Days.{IsInWindow, RunsWeekly}
use Rattle.service_days.specs.Listing.{Gains, IsAddedBy, IsKept, IsRegularOn, IsRemovedBy}
use Rattle.service_days.specs.declared.service_day.ServiceDay.{ServiceDay}
use Rattle.service_days.proofs.GainLemmas.{Gains-nothing, Gains-push, Gains-same}
use Rattle.service_days.proofs.OrderLemmas.{day_on, same_day}

module _ (removed : List ServiceDay) (service : List ℕ) (date : ServiceDate) where
  pub kept_pushed : (days : List ServiceDay) (copy : List ℕ) → copy ≡ service → (Contains removed (day_on copy date) → ⊥) → Gains (IsKept removed service date) days (days ++ day_on copy date ∷ [])
  kept_pushed days copy same stays =
      Gains-push (IsKept removed service date) days (day_on copy date) (λ x.
      (λ k. same_day (day_on copy date) x (same ∙ k.service_is) k.date_is, λ e. subst (IsKept removed service date) e (record { service_is = sym same; date_is = refl; stays = stays })))

  pub none_kept : (days : List ServiceDay) (copy : List ℕ) → copy ≡ service → Contains removed (day_on copy date) → Gains (IsKept removed service date) days days
  none_kept days copy same there =
      Gains-nothing (IsKept removed service date) days (λ x k. k.stays (subst (Contains removed) (same_day (day_on copy date) x (same ∙ k.service_is) k.date_is) there))

pub regular_on : (removed : List ServiceDay) (row : Weekly) (date : ServiceDate) (old new : List ServiceDay) → RunsWeekly row date → Gains (IsKept removed row.service date) old new → Gains (IsRegularOn removed row date) old new
regular_on removed row date old new runs =
    Gains-same (IsKept removed row.service date) (IsRegularOn removed row date) old new (λ x. (λ k. record { is = k; runs = runs }, λ r. r.is))

pub added_by : (removed : List ServiceDay) (first : ServiceDate) (count : ℕ) (row : DateRow) (old new : List ServiceDay) → row.added ≡ true → IsInWindow first count row.date → Gains (IsKept removed row.service row.date) old new → Gains (IsAddedBy removed first count row) old new
added_by removed first count row old new added within =
    Gains-same (IsKept removed row.service row.date) (IsAddedBy removed first count row) old new (λ x. (λ k. record { is = k; added = added; in_window = within }, λ a. a.is))

pub removed_pushed : (row : DateRow) (days : List ServiceDay) (copy : List ℕ) → copy ≡ row.service → row.added ≡ false → Gains (IsRemovedBy row) days (days ++ day_on copy row.date ∷ [])
removed_pushed row days copy same removed =
    Gains-push (IsRemovedBy row) days (day_on copy row.date) (λ x.
    (λ k. same_day (day_on copy row.date) x (same ∙ k.service_is) k.date_is, λ e. subst (IsRemovedBy row) e (record { service_is = sym same; date_is = refl; added_is = removed })))

pub none_removed : (row : DateRow) (days : List ServiceDay) → row.added ≡ true → Gains (IsRemovedBy row) days days
none_removed row days added = Gains-nothing (IsRemovedBy row) days (λ x k. let f : true ≡ false = sym added ∙ k.added_is in cc)

-- in another order the list has the same days
pub moved : (IsSo : ServiceDay → Type 0) (xs ys : List ServiceDay) → ((x : ServiceDay) → Contains xs x ↔ IsSo x) → IsPermutation xs ys → (x : ServiceDay) → Contains ys x ↔ IsSo x
moved IsSo xs ys are to x = (
  λ h. (are x).0 (Contains-permutation ys xs x (IsPermutation-sym xs ys to) h),
  λ so. Contains-permutation xs ys x to ((are x).1 so),
)
