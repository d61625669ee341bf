-- The days that rows give are those on which services run.
use Rattle.std.proofs.Common.{◌≡◌, ℕ, inl, inr, List, [], ◌∷◌, sym, subst, refl, arith}
use Rattle.std.specs.Prelude.{◌↔◌}
use Rattle.std.specs.List.{Any, Contains}
use Rattle.std.specs.List.Sorted.{IsStrictlySortedBy}
use Rattle.std.specs.declared.cmp.Ordering.TheVariants.{Less}
use Rattle.std.proofs.lemmas.List.Elements.{All-from_recursion}
use Rattle.std.proofs.lemmas.List.Kept.{AllPairs-cons}
use Rattle.lc_model.proofs.OrdersLemmas.{strict_lists_are_one}
use Rattle.lc_model.specs.declared.date.ServiceDate.{ServiceDate}
use Rattle.gtfs_tables.specs.declared.calendars.calendar.Weekly.{Weekly}
use Rattle.gtfs_tables.specs.declared.calendars.calendar_dates.DateRow.{DateRow}
use Rattle.service_days.specs.Days.{AreDays, InDayOrder, IsAdded, IsInWindow, IsRegular, IsRemoved, RunsWeekly, day_cmp}
use Rattle.service_days.specs.Laws.{OneListOfDays}
use Rattle.service_days.specs.Listing.{Gains, IsAddedBy, IsListed, IsRegularBy}
use Rattle.service_days.specs.declared.service_day.ServiceDay.{ServiceDay}
use Rattle.service_days.proofs.OrderLemmas.{day_cmp_total}

nothing_in : (x : ServiceDay) → Contains [] x → ⊥
nothing_in x (k, inside, at) = omega arith

module _ (removed : List ServiceDay) (weekly : List Weekly) (dates : List DateRow) (first : ServiceDate) (count : ℕ) where
  abbrev Regular : List ServiceDate → ServiceDay → Type 0
  Regular window d = Any (λ (row : Weekly). IsRegularBy removed window row d) weekly

  abbrev Added : ServiceDay → Type 0
  Added d = Any (λ (row : DateRow). IsAddedBy removed first count row d) dates

  module _ (window : List ServiceDate) (are : (date : ServiceDate) → Contains window date ↔ IsInWindow first count date) where
    from_regular : (d : ServiceDay) → Regular window d → IsListed removed weekly dates first count d
    from_regular d (k, row, inside, at, (j, date, within, there, on)) =
        let kept = on.is in
        let here : IsInWindow first count d.date = subst (IsInWindow first count) kept.date_is ((are date).0 (j, within, there)) in
        record {
          in_window = here;
          regular_or_added = inl (k, row, inside, at, (kept.service_is, subst (RunsWeekly row) kept.date_is on.runs));
          stays = kept.stays;
        }

    from_added : (d : ServiceDay) → Added d → IsListed removed weekly dates first count d
    from_added d (k, row, inside, at, added) =
        let kept = added.is in
        record {
          in_window = subst (IsInWindow first count) kept.date_is added.in_window;
          regular_or_added = inr (k, row, inside, at, record { service_is = kept.service_is; date_is = kept.date_is; added_is = added.added });
          stays = kept.stays;
        }

    to_regular : (d : ServiceDay) → IsInWindow first count d.date → (Contains removed d → ⊥) → IsRegular weekly d.service d.date → Regular window d
    to_regular d here stays (k, row, inside, at, (service, runs)) =
        let stands = (are d.date).1 here in
        (k, row, inside, at, (stands.0, d.date, stands.1, stands.2, record { is = record { service_is = service; date_is = refl; stays = stays }; runs = runs }))

    to_added : (d : ServiceDay) → IsInWindow first count d.date → (Contains removed d → ⊥) → IsAdded dates d.service d.date → Added d
    to_added d here stays (k, row, inside, at, row_of) = (
      k,
      row,
      inside,
      at,
      record {
        is = record { service_is = row_of.service_is; date_is = row_of.date_is; stays = stays };
        added = row_of.added_is;
        in_window = subst (IsInWindow first count) (sym row_of.date_is) here;
      },
    )

    pub all_listed : (mid new : List ServiceDay) → Gains (λ (d : ServiceDay). Regular window d) [] mid → Gains (λ (d : ServiceDay). Added d) mid new → (d : ServiceDay) → Contains new d ↔ IsListed removed weekly dates first count d
    all_listed mid new regular added d = (
      λ h. elim ((added.all d).0 h) [
        | inl m ↦ elim ((regular.all d).0 m) [ inl none ↦ absurd (nothing_in d none) | inr r ↦ from_regular d r ]
        | inr a ↦ from_added d a
      ],
      λ l. elim l.regular_or_added [
        | inl r ↦ (added.all d).1 (inl ((regular.all d).1 (inr (to_regular d l.in_window l.stays r))))
        | inr a ↦ (added.all d).1 (inr (to_added d l.in_window l.stays a))
      ],
    )

  -- listed without those that are taken away, in order
  pub are_days : (listed days : List ServiceDay) → ((d : ServiceDay) → Contains removed d ↔ IsRemoved dates d.service d.date) → ((d : ServiceDay) → Contains listed d ↔ IsListed removed weekly dates first count d) → ((d : ServiceDay) → Contains days d ↔ Contains listed d) → InDayOrder days → AreDays weekly dates first count days
  are_days listed days taken all same order = record {
    all = λ d. (
      λ h. let l = (all d).0 ((same d).0 h) in (l.in_window, record { regular_or_added = l.regular_or_added; not_removed = λ r. l.stays ((taken d).1 r) }),
      λ (here, runs). (same d).1 ((all d).1 (record { in_window = here; regular_or_added = runs.regular_or_added; stays = λ h. runs.not_removed ((taken d).0 h) })),
    );
    in_order = order;
  }

-- days that are strictly sorted step by step are so from each to each
pub in_day_order : (days : List ServiceDay) → IsStrictlySortedBy day_cmp days → InDayOrder days
unfolding IsStrictlySortedBy
in_day_order [] h = λ i j d before inside. absurd (omega arith)
in_day_order (x ∷ xs) h = AllPairs-cons (λ a b. day_cmp a b ≡ Less) x xs (All-from_recursion (λ b. day_cmp x b ≡ Less) xs h.0) (in_day_order xs h.1)

pub one_list_of_days : OneListOfDays
one_list_of_days weekly dates first count a b is_a is_b =
    strict_lists_are_one day_cmp day_cmp_total a b is_a.in_order is_b.in_order
    (λ d h. (is_b.all d).1 ((is_a.all d).0 h)) (λ d h. (is_a.all d).1 ((is_b.all d).0 h))
