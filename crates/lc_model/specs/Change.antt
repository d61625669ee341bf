-- Changes between stops (GTFS Schedule Reference, transfers.txt).
use Rattle.std.specs.Prelude.{ℕ, List, Option, option_map, Bool, find, filter, ◌&&◌, nat_eq}
use Rattle.std.specs.Ordering.{then_cmp, on}
use Rattle.std.specs.declared.cmp.Ordering.{Ordering}
use lib.Pointwise.{pointwise}
use Rattle.lc_model.specs.Order.{IsStrict}
use Rattle.lc_model.specs.Text.{id_cmp}
use Rattle.lc_model.specs.declared.change.Change.{Change}

-- changes by the stop that one leaves, then by the stop that one reaches
abbrev pub change_cmp : Change → Change → Ordering
change_cmp = then_cmp (on (λ c. c.from) id_cmp) (on (λ c. c.to) id_cmp)

-- changes are strictly in the order of their stops
abbrev pub InChangeOrder : List Change → Type 0
InChangeOrder changes = IsStrict change_cmp changes

-- two ids have the same bytes
abbrev pub is_same_id : List ℕ → List ℕ → Bool
is_same_id = pointwise nat_eq

-- the seconds of the change from one stop to another, if the list has one
abbrev pub change_between : List Change → List ℕ → List ℕ → Option ℕ
change_between changes from to =
    option_map (λ (c : Change). c.seconds) (find (λ (c : Change). is_same_id c.from from && is_same_id c.to to) changes)

-- the changes from a stop
abbrev pub changes_from : List Change → List ℕ → List Change
changes_from changes from = filter (λ (c : Change). is_same_id c.from from) changes
