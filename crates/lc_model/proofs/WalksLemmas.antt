-- A question has one walk to each stop, and one from each.
use Rattle.std.proofs.Common.{◌≡◌, ◌≢◌, ℕ, ◌<◌, inl, inr, List, [], ◌∷◌, Option, Some, None, refl, sym, ◌∙◌, ap, ap₂, subst, arith}
use Rattle.std.specs.Ordering.{MatchOrdering, nat_cmp, ordering_reverse, ordering_then}
use Rattle.std.specs.declared.cmp.Ordering.{Ordering}
use Rattle.std.specs.declared.cmp.Ordering.TheVariants.{Less, Equal, Greater}
use Rattle.std.proofs.lemmas.Cmp.{nat_list_cmp_total, ranked}
use Rattle.lc_model.specs.Change.{change_between}
use Rattle.lc_model.specs.Laws.{OneWalkAfter, OneWalkBefore}
use Rattle.lc_model.specs.Question.{IsFrom, IsTo}
use Rattle.lc_model.specs.Text.{id_cmp}
use Rattle.lc_model.specs.Walk.{IsNearer, IsNearest}
use Rattle.lc_model.specs.declared.walk.Walk.{Walk}

same_number : (x y : ℕ) → nat_cmp x y ≡ Equal → x ≡ y
same_number x y e = subst (λ o. MatchOrdering o (x < y) (x ≡ y) (y < x)) e (ranked x y (nat_cmp x y) refl)

ties_behind : (x y : ℕ) (xs ys : List ℕ) (o : Ordering) → (id_cmp xs ys ≡ Equal → xs ≡ ys) → nat_cmp x y ≡ o → ordering_then o (id_cmp xs ys) ≡ Equal → x ∷ xs ≡ y ∷ ys
ties_behind x y xs ys Less behind h e = cc
ties_behind x y xs ys Equal behind h e = ap₂ (λ head rest. head ∷ rest) (same_number x y h) (behind e)
ties_behind x y xs ys Greater behind h e = cc

-- ids that tie have the same bytes
pub ids_that_tie : (xs ys : List ℕ) → id_cmp xs ys ≡ Equal → xs ≡ ys
ids_that_tie [] [] e = refl
ids_that_tie [] (y ∷ ys) e = cc
ids_that_tie (x ∷ xs) [] e = cc
ids_that_tie (x ∷ xs) (y ∷ ys) e = ties_behind x y xs ys (nat_cmp x y) (ids_that_tie xs ys) refl e

by_orders : (a b : List ℕ) (o r : Ordering) → id_cmp a b ≡ o → id_cmp b a ≡ r → o ≡ ordering_reverse r → o ≢ Greater → r ≢ Greater → a ≡ b
by_orders a b Equal r e f back first second = ids_that_tie a b e
by_orders a b Greater r e f back first second = absurd (first refl)
by_orders a b Less Less e f back first second = cc
by_orders a b Less Equal e f back first second = cc
by_orders a b Less Greater e f back first second = absurd (second refl)

-- ids of which neither is greater are one
no_greater : (a b : List ℕ) → id_cmp a b ≢ Greater → id_cmp b a ≢ Greater → a ≡ b
no_greater a b first second = by_orders a b (id_cmp a b) (id_cmp b a) refl refl (nat_list_cmp_total.antisymm a b) first second

record AreOne (a : List ℕ) (m : ℕ) (b : List ℕ) (n : ℕ) : Type 0 where
  stop : a ≡ b
  seconds : m ≡ n

one_nearer : (a b : List ℕ) (m n : ℕ) → IsNearer a m b n → IsNearer b n a m → AreOne a m b n
one_nearer a b m n (inl less) (inl more) = absurd (omega arith)
one_nearer a b m n (inl less) (inr (same, _)) = absurd (omega arith)
one_nearer a b m n (inr (same, _)) (inl more) = absurd (omega arith)
one_nearer a b m n (inr (same, first)) (inr (_, second)) = record { stop = no_greater a b first second; seconds = same }

one_nearest : (IsAnEnd : List ℕ → Type 0) (takes : List ℕ → Option ℕ) (a b : List ℕ) (m n : ℕ) → IsNearest IsAnEnd takes a m → IsNearest IsAnEnd takes b n → AreOne a m b n
one_nearest IsAnEnd takes a b m n first second =
    one_nearer a b m n (first.none_is_nearer b n second.is_an_end second.takes_so_long) (second.none_is_nearer a m first.is_an_end first.takes_so_long)

abbrev walk : List ℕ → List ℕ → ℕ → Walk
walk from to seconds = record { from = from; to = to; seconds = seconds }

same_walk : (a b : Walk) → a.from ≡ b.from → a.to ≡ b.to → a.seconds ≡ b.seconds → a ≡ b
same_walk a b e f g = ap (λ from. walk from a.to a.seconds) e ∙ ap (λ to. walk b.from to a.seconds) f ∙ ap (walk b.from b.to) g

pub one_walk_before : OneWalkBefore
one_walk_before query doc board None None first second = refl
one_walk_before query doc board None (Some b) first (apart, _, _) = absurd (apart first)
one_walk_before query doc board (Some a) None (apart, _, _) second = absurd (apart second)
one_walk_before query doc board (Some a) (Some b) (_, to, nearest) (_, there, nearer) =
    let one = one_nearest (IsFrom doc.stops query) (λ stop. change_between doc.changes stop board) a.from b.from a.seconds b.seconds nearest nearer in
    ap Some (same_walk a b one.stop (to ∙ sym there) one.seconds)

pub one_walk_after : OneWalkAfter
one_walk_after query doc alight None None first second = refl
one_walk_after query doc alight None (Some b) first (apart, _, _) = absurd (apart first)
one_walk_after query doc alight (Some a) None (apart, _, _) second = absurd (apart second)
one_walk_after query doc alight (Some a) (Some b) (_, from, nearest) (_, there, nearer) =
    let one = one_nearest (IsTo doc.stops query) (λ stop. change_between doc.changes alight stop) a.to b.to a.seconds b.seconds nearest nearer in
    ap Some (same_walk a b (from ∙ sym there) one.stop one.seconds)
