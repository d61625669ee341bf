-- Keys of runs that the order does not part are the same.
use Rattle.std.proofs.Common.{◌≡◌, ℕ, ◌<◌, List, [], ◌∷◌, Option, Some, None, refl, ap, sym}
use mathlib.Core.HLevel.{is_prop→PathP}
use Rattle.std.proofs.Props.{props}
use Rattle.std.proofs.lemmas.Cmp.{ranked}
use Rattle.std.specs.Cmp.Lexicographic.{slice_cmp}
use Rattle.std.specs.Option.{ForSome, option_cmp}
use Rattle.std.specs.Ordering.{nat_cmp, ordering_then}
use Rattle.std.specs.declared.cmp.Ordering.TheVariants.{Equal}
use Rattle.lc_model.specs.Calendar.{IsCivilDate}
use Rattle.lc_model.specs.RunKey.{date_cmp, key_cmp}
use Rattle.lc_model.specs.declared.date.ServiceDate.{ServiceDate}
use Rattle.lc_model.specs.declared.key.RunKey.{RunKey}
use Rattle.lc_model.proofs.SearchLemmas.{both_tie}

-- a date is known by its year, month and day
same_date_parts : (x y : ServiceDate) → x.year ≡ y.year → x.month ≡ y.month → x.day ≡ y.day → x ≡ y
same_date_parts x y p q r =
    λ i. record { year = p i; month = q i; day = r i; civil = is_prop→PathP (λ j. IsCivilDate (p j) (q j) (r j)) (λ j. hlevel props) x.civil y.civil i }

-- a key by its trip, date and start
pub same_key_parts : (x y : RunKey) → x.trip ≡ y.trip → x.date ≡ y.date → x.start ≡ y.start → x ≡ y
same_key_parts x y p q r =
    λ i. record { trip = p i; date = q i; start = r i; start_in_range = is_prop→PathP (λ j. ForSome (r j) (λ seconds. seconds < 360000)) (λ j. hlevel props) x.start_in_range y.start_in_range i }

same_numbers : (x y : ℕ) → nat_cmp x y ≡ Equal → x ≡ y
same_numbers x y e = ranked x y Equal (sym e)

pub same_texts : (x y : List ℕ) → slice_cmp nat_cmp x y ≡ Equal → x ≡ y
same_texts [] [] e = refl
same_texts [] (b ∷ y) e = absurd (cc)
same_texts (a ∷ x) [] e = absurd (cc)
same_texts (a ∷ x) (b ∷ y) e =
    let h = both_tie (nat_cmp a b) (slice_cmp nat_cmp x y) e in
    let p = same_numbers a b h.0 in let q = same_texts x y h.1 in cc

same_starts : (x y : Option ℕ) → option_cmp nat_cmp x y ≡ Equal → x ≡ y
same_starts None None e = refl
same_starts None (Some y) e = absurd (cc)
same_starts (Some x) None e = absurd (cc)
same_starts (Some x) (Some y) e = ap Some (same_numbers x y e)

pub same_dates : (x y : ServiceDate) → date_cmp x y ≡ Equal → x ≡ y
same_dates x y e =
    let h = both_tie (nat_cmp x.year y.year) (ordering_then (nat_cmp x.month y.month) (nat_cmp x.day y.day)) e in
    let k = both_tie (nat_cmp x.month y.month) (nat_cmp x.day y.day) h.1 in
    same_date_parts x y (same_numbers x.year y.year h.0) (same_numbers x.month y.month k.0) (same_numbers x.day y.day k.1)

pub same_keys : (x y : RunKey) → key_cmp x y ≡ Equal → x ≡ y
same_keys x y e =
    let h = both_tie (slice_cmp nat_cmp x.trip y.trip) (ordering_then (date_cmp x.date y.date) (option_cmp nat_cmp x.start y.start)) e in
    let k = both_tie (date_cmp x.date y.date) (option_cmp nat_cmp x.start y.start) h.1 in
    same_key_parts x y (same_texts x.trip y.trip h.0) (same_dates x.date y.date k.0) (same_starts x.start y.start k.1)
