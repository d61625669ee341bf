-- What is worked out by hand, and what is listed apart from it.
use Rattle.std.proofs.Common.{◌≡◌, ℕ, ◌<◌, List, [], ◌∷◌, Some, None, map, length, refl, sym, ap, ◌∙◌, subst, arith, lit<}
use Rattle.std.specs.Ordering.{on}
use Rattle.lc_model.specs.Stop.{InStopOrder}
use Rattle.lc_model.specs.Text.{id_cmp}
use Rattle.lc_model.specs.Totals.{stop_cmp_total}
use Rattle.lc_model.specs.declared.change.Change.{Change}
use Rattle.lc_model.specs.declared.stop.Stop.{Stop}
use Rattle.lc_model.proofs.DisordersLemmas.{strict_without_disorder}
use Rattle.change_table.specs.ChangeRule.{given_seconds}
use Rattle.change_table.specs.ChangeTable.{AreChangesOf}
use Rattle.change_table.specs.Pairs.{timed_change}
use Rattle.change_table.specs.Worked.{five_changes, six_changes, six_ids, six_stops}
use Rattle.change_table.proofs.PushLemmas.{change_is}
use Rattle.change_table.proofs.TableLemmas.{AreChangesOf-whole, one_list_of_changes}

-- a smaller number of seconds is another one
pub apart : (m n : ℕ) → m < n → Some m ≡ Some n → ⊥
apart m n less e = let same : m ≡ n = cc in omega arith

pub none_apart : (n : ℕ) → None ≡ Some n → ⊥
none_apart n e = cc

six_in_order : InStopOrder six_stops
six_in_order = strict_without_disorder (on (λ (s : Stop). s.id) id_cmp) stop_cmp_total six_stops refl

pub six_are : AreChangesOf six_stops [] 120 (six_changes 120)
unfolding given_seconds
six_are = AreChangesOf-whole six_stops six_in_order [] 120

six_of_none : AreChangesOf six_stops [] 0 (six_changes 0)
unfolding given_seconds
six_of_none = AreChangesOf-whole six_stops six_in_order [] 0

one_second : (ids : List (List ℕ)) → map (λ (id : List ℕ). timed_change id id 0) ids ≡ map (λ (id : List ℕ). timed_change id id 1) ids
one_second [] = refl
one_second (id ∷ ids) =
    ap (λ (c : Change). c ∷ map (λ (id : List ℕ). timed_change id id 0) ids) (change_is (timed_change id id 0) id id 1 refl refl refl)
    ∙ ap (λ (v : List Change). timed_change id id 1 ∷ v) (one_second ids)

pub six_of_one : AreChangesOf six_stops [] 0 (six_changes 1)
six_of_one = subst (λ (v : List Change). AreChangesOf six_stops [] 0 v) (one_second six_ids) six_of_none

first_seconds : List Change → ℕ
first_seconds [] = 0
first_seconds (c ∷ rest) = c.seconds

pub not_a_second_more : AreChangesOf six_stops [] 120 (six_changes 121) → ⊥
unfolding first_seconds
not_a_second_more are =
    apart 120 121 (lit< tt) (ap (λ (v : List Change). Some (first_seconds v)) (one_list_of_changes six_stops [] 120 (six_changes 120) (six_changes 121) six_are are))

pub not_five : AreChangesOf six_stops [] 120 five_changes → ⊥
not_five are =
    apart 5 6 (lit< tt) (sym (ap (λ (v : List Change). Some (length v)) (one_list_of_changes six_stops [] 120 (six_changes 120) five_changes six_are are)))
