-- The order of days: total, with ties of equal days alone, and searched by halves.
use Rattle.std.proofs.Common.{◌≡◌, ℕ, inl, inr, List, Bool, true, false, Result, Ok, Err, length, get_or, refl, sym, ap, ◌∙◌, subst, arith}
use Rattle.std.specs.Prelude.{◌↔◌, IsTrue, is_ok}
use Rattle.std.specs.Cmp.{IsEquivalence, IsTotalOrder, nat_cmp_is, nat_cmp_total, on_total, then_total}
use Rattle.std.specs.Cmp.Lexicographic.{nat_list_cmp_total}
use Rattle.std.specs.List.{Contains, dedup}
use Rattle.std.specs.List.Sorted.{IsBinarySearchResult, IsPermutation, IsSearchInRange, IsSorted, IsStrictlySortedBy}
use Rattle.std.specs.Ordering.{eq_by_cmp, is_eq, nat_cmp}
use Rattle.std.specs.declared.cmp.Ordering.{Ordering}
use Rattle.std.specs.declared.cmp.Ordering.TheVariants.{Less, Equal, Greater}
use Rattle.std.proofs.lemmas.Bool.{cases_lt, cases_order}
use Rattle.std.proofs.lemmas.Cmp.{eq_by_cmp_equiv, tied_itself}
use Rattle.std.proofs.lemmas.List.Kept.{Contains-dedup, Contains-from_dedup, IsStrictlySortedBy-dedup}
use Rattle.std.proofs.lemmas.List.Sorted.{Contains-permutation, IsPermutation-sym, searchable_from_sorted}
use Rattle.lc_model.specs.RunKey.{date_cmp}
use Rattle.lc_model.specs.declared.date.ServiceDate.{ServiceDate}
use Rattle.lc_model.proofs.SearchLemmas.{both_tie, id_tie}
use Rattle.lc_time.proofs.DateLemmas.{same_date}
use Rattle.service_days.specs.Days.{day_cmp}
use Rattle.service_days.specs.declared.service_day.ServiceDay.{ServiceDay}

nat_tie : (x y : ℕ) → nat_cmp x y ≡ Equal → x ≡ y
nat_tie x y e = elim (cases_order x y) [
  | inl same ↦ same
  | inr (inl lt) ↦ let f : Less ≡ Equal = nat_cmp_is x y Less lt ∙ e in cc
  | inr (inr gt) ↦ let f : Greater ≡ Equal = nat_cmp_is x y Greater gt ∙ e in cc
]

date_tie : (a b : ServiceDate) → date_cmp a b ≡ Equal → a ≡ b
date_tie a b e =
    let year = both_tie _ _ e in
    let rest = both_tie _ _ year.1 in
    same_date a b (nat_tie a.year b.year year.0) (nat_tie a.month b.month rest.0) (nat_tie a.day b.day rest.1)

abbrev pub day_on : List ℕ → ServiceDate → ServiceDay
day_on service date = record { service = service; date = date }

pub same_day : (a b : ServiceDay) → a.service ≡ b.service → a.date ≡ b.date → a ≡ b
same_day a b e f = ap (λ (s : List ℕ). day_on s a.date) e ∙ ap (day_on b.service) f

pub day_tie : (a b : ServiceDay) → day_cmp a b ≡ Equal → a ≡ b
day_tie a b e =
    let parts = both_tie _ _ e in
    same_day a b (id_tie a.service b.service parts.0) (date_tie a.date b.date parts.1)

date_cmp_total : IsTotalOrder date_cmp
date_cmp_total =
    then_total (on_total (λ (d : ServiceDate). d.year) nat_cmp_total)
    (then_total (on_total (λ (d : ServiceDate). d.month) nat_cmp_total) (on_total (λ (d : ServiceDate). d.day) nat_cmp_total))

pub day_cmp_total : IsTotalOrder day_cmp
day_cmp_total =
    then_total (on_total (λ (d : ServiceDay). d.service) nat_list_cmp_total) (on_total (λ (d : ServiceDay). d.date) date_cmp_total)

pub search_finds : (xs : List ServiceDay) (x : ServiceDay) (r : Result ℕ ℕ) (answer : Bool) → IsSorted day_cmp xs → IsSearchInRange r (length xs) → IsBinarySearchResult (λ y. day_cmp y x) xs r → answer ≡ is_ok r → IsTrue answer ↔ Contains xs x
search_finds xs x (Ok i) answer sorted inside at is =
    ((λ _. (i, inside, day_tie (get_or xs i x) x (at x))), (λ _. is))
search_finds xs x (Err i) answer sorted inside at is =
    let parts = at (searchable_from_sorted day_cmp_total (λ (d : ServiceDay). d) xs x sorted) in (
      (λ yes. absurd (let f : true ≡ false = sym yes ∙ is in cc)),
      (λ (k, there, at_k).
          let equal : day_cmp (get_or xs k x) x ≡ Equal = subst (λ (v : ServiceDay). day_cmp v x ≡ Equal) (sym at_k) (tied_itself day_cmp_total x) in
          elim (cases_lt k i) [
            | inl low ↦ absurd (let f : Less ≡ Equal = sym (parts.0 k x (omega arith) low) ∙ equal in cc)
            | inr high ↦ absurd (let f : Greater ≡ Equal = sym (parts.1 k x high there) ∙ equal in cc)
          ]),
    )

is_equal : (o : Ordering) → is_eq o ≡ true → o ≡ Equal
is_equal Less e = cc
is_equal Equal e = refl
is_equal Greater e = cc

-- what is left where neighbours that are equal are made one
module _ (E : ServiceDay → ServiceDay → Bool) (ties : (x y : ServiceDay) → E x y ≡ eq_by_cmp day_cmp x y) where
  equivalence : IsEquivalence E
  equivalence =
      let by_cmp = eq_by_cmp_equiv day_cmp_total in
      record {
        refl = λ x. ties x x ∙ by_cmp.refl x;
        symm = λ x y. ties x y ∙ by_cmp.symm x y ∙ sym (ties y x);
        congr = λ x y z h. ties x z ∙ by_cmp.congr x y z (sym (ties x y) ∙ h) ∙ sym (ties y z);
      }

  exact : (x y : ServiceDay) → E x y ≡ true → x ≡ y
  exact x y e = day_tie x y (is_equal (day_cmp x y) (sym (ties x y) ∙ e))

  pub deduped : (xs sorted new : List ServiceDay) → IsPermutation xs sorted → new ≡ dedup E sorted → (d : ServiceDay) → Contains new d ↔ Contains xs d
  deduped xs sorted new to is d = (
    λ h. Contains-permutation sorted xs d (IsPermutation-sym xs sorted to) (Contains-from_dedup E sorted d (subst (λ (v : List ServiceDay). Contains v d) is h)),
    λ h. subst (λ (v : List ServiceDay). Contains v d) (sym is) (Contains-dedup equivalence exact sorted d (Contains-permutation xs sorted d to h)),
  )

  pub strictly : (sorted new : List ServiceDay) → IsSorted day_cmp sorted → new ≡ dedup E sorted → IsStrictlySortedBy day_cmp new
  strictly sorted new up is = subst (IsStrictlySortedBy day_cmp) (sym is) (IsStrictlySortedBy-dedup day_cmp_total ties sorted up)
