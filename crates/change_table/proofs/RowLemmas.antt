-- The rows of transfers.txt, sorted: of those between two stops the first is the first in the file.
use Rattle.std.proofs.Common.{Bor, ◌≡◌, ℕ, ◌+◌, List, Option, Some, None, get_or, Bool, true, false, ◌&&◌, sym, ap, ◌∙◌, refl, arith}
use Rattle.std.specs.Prelude.{find, filter, not, option_map}
use Rattle.std.specs.Cmp.{IsStrictWeakOrder, IsTotalOrder}
use Rattle.std.specs.Cmp.Lexicographic.{texts_ties}
use Rattle.std.specs.List.{All, slice_get}
use Rattle.std.specs.List.Sorted.{IsPermutation, IsSorted, IsStableBy, ties}
use Rattle.std.specs.Option.{option_map_or, option_or}
use Rattle.std.specs.Ordering.{is_eq, is_lt, on, ordering_reverse, ordering_then}
use Rattle.std.specs.declared.cmp.Ordering.{Ordering}
use Rattle.std.specs.declared.cmp.Ordering.TheVariants.{Less, Equal, Greater}
use Rattle.std.proofs.lemmas.Cmp.{nat_list_cmp_total, on_total, then_total}
use Rattle.std.proofs.lemmas.List.Elements.{filter_passes}
use Rattle.std.proofs.lemmas.List.Kept.{IsSortedBy-filter}
use Rattle.std.proofs.lemmas.List.Sorted.{answers_always, ranks_by}
use Rattle.std.proofs.lemmas.Slice.Eq.{bytes_eq-Decides}
use Rattle.std.specs.Fn.{Called, ComparesAs}
use denote.Param.Members.{Mut}
use Rattle.lc_model.specs.Change.{is_same_id}
use Rattle.lc_model.specs.Text.{id_cmp}
use Rattle.lc_model.specs.declared.stop.Stop.{Stop}
use Rattle.lc_model.proofs.SearchLemmas.{same_id}
use Rattle.gtfs_tables.specs.declared.calendars.transfer.Transfer.{Transfer}
use Rattle.change_table.specs.ChangeRule.{first_row, given_seconds, has_known_kind, is_between, said_seconds, usual_seconds, are_together}
use Rattle.change_table.specs.Rows.{AreSortedRows, row_cmp, row_for, row_to, rows_from, seconds_by, target, recorded}
use Rattle.change_table.specs.declared.rows.Row.{Row}
use Rattle.change_table.proofs.ListLemmas.{find-filter, find-map, find_first, find_same, find_stable}

pub row_cmp_total : IsTotalOrder row_cmp
row_cmp_total =
    then_total (on_total (λ (r : Row). r.transfer.now.from) nat_list_cmp_total) (on_total target nat_list_cmp_total)

-- the row itself
abbrev pub row : Row → Transfer
row r = r.transfer.now

-- what a stable sort by a closure ensures, where the closure compares by the order
pub IsStable-from_closure : {X F : Type 0} (R : X → X → Ordering) → IsTotalOrder R → {g : Mut F (Bor X × (Bor X × Unit {0})) Ordering} {f : F} (xs ys : List X) → ((lt : X → X → Bool) → IsStrictWeakOrder lt → ComparesAs g lt f → IsStableBy lt xs ys) → ((f : F) (a : Bor X × (Bor X × Unit {0})) (r : Ordering) (f' : F) → Called g f a r f' → r ≡ R a.0.now a.1.0.now) → IsStableBy (λ x y. is_lt (R x y)) xs ys
IsStable-from_closure R total {g = g} {f = f} xs ys stable h =
    stable (λ x y. is_lt (R x y)) (ranks_by total (λ x. x)) (answers_always g (λ a r. is_lt r ≡ is_lt (R a.0.now a.1.0.now)) f (λ f a r f' k. ap is_lt (h f a r f' k)))

both_true : (a b : Bool) → (a && b) ≡ true → (a ≡ true) × (b ≡ true)
both_true true b e = (refl, e)
both_true false b e = absurd (let f : false ≡ true = e in cc)

tied_both : (o p : Ordering) → is_eq (ordering_then o p) ≡ (is_eq o && is_eq p)
tied_both Less p = refl
tied_both Equal p = refl
tied_both Greater p = refl

tied_one : (o : Ordering) → (not (is_lt (ordering_reverse o)) && not (is_lt o)) ≡ is_eq o
tied_one Less = refl
tied_one Equal = refl
tied_one Greater = refl

both_same : (a b c d : Bool) → a ≡ b → c ≡ d → (a && c) ≡ (b && d)
both_same a b c d e f = ap (λ v. v && c) e ∙ ap (λ v. b && v) f

-- what ties with a row between two stops is a row between them
alike : (from to : List ℕ) (x y : Row) → is_between from to (row x) ≡ true → ties (λ x y. is_lt (row_cmp x y)) x y ≡ is_between from to (row y)
alike from to x y passes =
    let both = both_true (is_same_id (row x).from from) (is_same_id (row x).to to) passes in
    let from_is : (row x).from ≡ from = (bytes_eq-Decides (row x).from from).0 both.0 in
    let to_is : (row x).to ≡ to = (bytes_eq-Decides (row x).to to).0 both.1 in
    ap (λ o. not (is_lt o) && not (is_lt (row_cmp y x))) (row_cmp_total.antisymm x y)
    ∙ tied_one (row_cmp y x)
    ∙ tied_both (id_cmp (row y).from (row x).from) (id_cmp (row y).to (row x).to)
    ∙ both_same _ _ _ _
    (sym (texts_ties (row y).from (row x).from) ∙ ap (is_same_id (row y).from) from_is)
    (sym (texts_ties (row y).to (row x).to) ∙ ap (is_same_id (row y).to) to_is)

flipped : (a b : Bool) → (a && b) ≡ (b && a)
flipped true true = refl
flipped true false = refl
flipped false true = refl
flipped false false = refl

-- the rows of known kinds, once they are sorted
pub AreSortedRows-sorted : (transfers : List Transfer) (rows sorted : List Row) → recorded rows ≡ filter has_known_kind transfers
    → IsPermutation rows sorted → IsSorted row_cmp sorted → IsStableBy (λ x y. is_lt (row_cmp x y)) rows sorted → AreSortedRows transfers sorted
AreSortedRows-sorted transfers rows sorted are moved up stable = record {
  sorted = up;
  first = λ from to.
      let p : Row → Bool = λ r. is_between from to (row r) in
      find-map row (is_between from to) sorted
      ∙ ap (option_map row) (find_stable (λ x y. is_lt (row_cmp x y)) p rows sorted stable moved (alike from to))
      ∙ sym (find-map row (is_between from to) rows)
      ∙ ap (find (is_between from to)) are
      ∙ find-filter has_known_kind (is_between from to) transfers
      ∙ find_same (λ t. has_known_kind t && is_between from to t) (λ t. is_between from to t && has_known_kind t) transfers (λ t. flipped (has_known_kind t) (is_between from to t));
}

second_not_less : (o p : Ordering) → o ≡ Equal → is_lt (ordering_then o p) ≡ false → is_lt p ≡ false
second_not_less Less p e f = absurd (let g : Less ≡ Equal = e in cc)
second_not_less Equal p e f = f
second_not_less Greater p e f = absurd (let g : Greater ≡ Equal = e in cc)

-- the rows from one stop are sorted by the stops that they reach
pub IsSorted-rows_from : (rows : List Row) (from : Option (List ℕ)) → IsSorted row_cmp rows → IsSorted (on target id_cmp) (rows_from rows from)
IsSorted-rows_from rows None up = λ k d low inside. absurd (omega arith)
IsSorted-rows_from rows (Some from) up = λ k d low inside.
    let p : Row → Bool = λ r. is_same_id (row r).from from in
    let own : List Row = filter p rows in
    let kept : IsSorted row_cmp own = IsSortedBy-filter (λ x y. is_lt (row_cmp x y)) (ranks_by row_cmp_total (λ x. x)) p rows up in
    let passes : All (λ r. p r ≡ true) own = filter_passes p rows in
    let x = get_or own k d in
    let y = get_or own (k + 1) d in
    let x_from : (row x).from ≡ from = (bytes_eq-Decides (row x).from from).0 (passes k d (omega arith)) in
    let y_from : (row y).from ≡ from = (bytes_eq-Decides (row y).from from).0 (passes (k + 1) d inside) in
    second_not_less (id_cmp (row y).from (row x).from) (id_cmp (row y).to (row x).to)
    (same_id (row y).from (row x).from (y_from ∙ sym x_from)) (kept k d low inside)

-- the first of the rows from a stop that goes to another is the first row of the file between them
pub first_from : (transfers : List Transfer) (rows : List Row) → AreSortedRows transfers rows → (from to : Option (List ℕ)) → row_to (rows_from rows from) to ≡ first_row transfers from to
first_from transfers rows are None None = refl
first_from transfers rows are None (Some to) = refl
first_from transfers rows are (Some from) None = refl
first_from transfers rows are (Some from) (Some to) =
    let p : Row → Bool = λ r. is_same_id (row r).from from in
    find-map row (λ t. is_same_id t.to to) (filter p rows)
    ∙ ap (option_map row) (find-filter p (λ r. is_same_id (row r).to to) rows)
    ∙ sym (find-map row (is_between from to) rows)
    ∙ are.first from to

first_of_four : (a b c d : Option Transfer) → option_or (option_or a b) (option_or c d) ≡ option_or a (option_or b (option_or c d))
first_of_four None b c d = refl
first_of_four (Some x) b c d = refl

four : (a b c d e f g h : Option Transfer) → a ≡ e → b ≡ f → c ≡ g → d ≡ h → option_or (option_or a b) (option_or c d) ≡ option_or (option_or e f) (option_or g h)
four a b c d e f g h p q r s = rw (p, q, r, s) refl

-- what the rows of a stop say is what the file says
pub seconds_are_given : (transfers : List Transfer) (rows : List Row) → AreSortedRows transfers rows → (default : ℕ) (from to : Stop)
    → seconds_by (rows_from rows (Some from.id)) (rows_from rows from.parent) default from to ≡ given_seconds transfers default from to
unfolding seconds_by given_seconds
seconds_are_given transfers rows are default from to =
    ap (λ (o : Option Transfer). option_map_or (said_seconds default) o (usual_seconds default (are_together from to)))
    (four _ _ _ _ _ _ _ _
    (first_from transfers rows are (Some from.id) (Some to.id)) (first_from transfers rows are (Some from.id) to.parent)
    (first_from transfers rows are from.parent (Some to.id)) (first_from transfers rows are from.parent to.parent)
    ∙ first_of_four (first_row transfers (Some from.id) (Some to.id)) (first_row transfers (Some from.id) to.parent) (first_row transfers from.parent (Some to.id)) (first_row transfers from.parent to.parent))

-- the first of the rows to a stop is the first of those that go there
pub first_to : (rows of : List Row) (to : List ℕ) (first : Option Row) → of ≡ filter (λ r. is_same_id (target r) to) rows → first ≡ slice_get of 0
    → option_map row first ≡ find (λ (t : Transfer). is_same_id t.to to) (recorded rows)
first_to rows of to first are is =
    ap (option_map row) (is ∙ ap (λ (v : List Row). slice_get v 0) are ∙ sym (find_first (λ r. is_same_id (target r) to) rows))
    ∙ sym (find-map row (λ (t : Transfer). is_same_id t.to to) rows)

-- what a deciding row says
pub by_row : (own of_parent : List Row) (default : ℕ) (from to : Stop) (t : Transfer) (said : Option ℕ) → Some t ≡ option_or (row_for own to) (row_for of_parent to) → said ≡ said_seconds default t
    → said ≡ seconds_by own of_parent default from to
unfolding seconds_by
by_row own of_parent default from to t said decides is =
    is ∙ ap (λ (o : Option Transfer). option_map_or (said_seconds default) o (usual_seconds default (are_together from to))) decides

-- what is usual where no row decides
pub without_row : (own of_parent : List Row) (default : ℕ) (from to : Stop) (together : Bool) → None ≡ option_or (row_for own to) (row_for of_parent to) → together ≡ are_together from to
    → usual_seconds default together ≡ seconds_by own of_parent default from to
unfolding seconds_by
without_row own of_parent default from to together none is =
    ap (usual_seconds default) is
    ∙ ap (λ (o : Option Transfer). option_map_or (said_seconds default) o (usual_seconds default (are_together from to))) none
