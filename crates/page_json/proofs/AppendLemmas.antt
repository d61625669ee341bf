-- Texts that are appended one after the other.
use Rattle.std.proofs.Common.{◌≡◌, ℕ, ◌-◌, ◌≤◌, List, ◌∷◌, ◌++◌, drop, get_or, length, take, ap, ap₂, sym, ◌∙◌, append_assoc, arith}
use Rattle.std.proofs.lemmas.List.{drop_more, take_rest}
use Rattle.lc_model.specs.declared.connection.Connection.{Connection}
use Rattle.connection_uri.specs.Name.{run_part_of}
use Rattle.page_json.specs.ConnectionWriting.{end_part, list_part, members_part, name_part, use_part}
use Rattle.page_json.specs.PageWriting.{page_part, search_part, view_part}
use Rattle.page_json.specs.declared.fronts.Fronts.{Fronts}
use Rattle.page_json.specs.declared.moment_text.End.TheVariants.{Arrival, Departure}
use Rattle.page_json.specs.declared.page.Page.{Page}
use Rattle.page_json.specs.declared.page_writing.TheConstants.{HEAD}

-- two texts, one after the other
pub two : (a b c x y : List ℕ) → b ≡ a ++ x → c ≡ b ++ y → c ≡ a ++ (x ++ y)
two a b c x y first next = next ∙ ap (λ (s : List ℕ). s ++ y) first ∙ append_assoc a x y

pub three : (a b c d x y z : List ℕ) → b ≡ a ++ x → c ≡ b ++ y → d ≡ c ++ z → d ≡ a ++ (x ++ (y ++ z))
three a b c d x y z first second third = two a b d x (y ++ z) first (two b c d y z second third)

pub four : (a b c d e x y z w : List ℕ) → b ≡ a ++ x → c ≡ b ++ y → d ≡ c ++ z → e ≡ d ++ w → e ≡ a ++ (x ++ (y ++ (z ++ w)))
four a b c d e x y z w first second third fourth = two a b e x (y ++ (z ++ w)) first (three b c d e y z w second third fourth)

pub five : (a b c d e f x y z w v : List ℕ) → b ≡ a ++ x → c ≡ b ++ y → d ≡ c ++ z → e ≡ d ++ w → f ≡ e ++ v → f ≡ a ++ (x ++ (y ++ (z ++ (w ++ v))))
five a b c d e f x y z w v first second third fourth fifth = two a b f x (y ++ (z ++ (w ++ v))) first (four b c d e f y z w v second third fourth fifth)

-- a connection, by the text of its run
pub members_by : (fronts : Fronts) (c : Connection) (old new run again : List ℕ) → run ≡ run_part_of c.key → again ≡ run_part_of c.key
    → new ≡ old ++ (name_part run c.seq ++ (end_part fronts.ends.arrival Arrival c.arr_delay c.arr_stop c.arr ++ (end_part fronts.ends.departure Departure c.dep_delay c.dep_stop c.dep ++ use_part fronts.uses again c)))
    → new ≡ old ++ members_part fronts c
members_by fronts c old new run again e1 e2 h =
    h ∙ (λ i. old ++ (name_part (e1 i) c.seq ++ (end_part fronts.ends.arrival Arrival c.arr_delay c.arr_stop c.arr ++ (end_part fronts.ends.departure Departure c.dep_delay c.dep_stop c.dep ++ use_part fronts.uses (e2 i) c))))

-- a page, by its list and the base
pub page_by : (fronts : Fronts) (page : Page) (old new : List ℕ) (list : List Connection) (base again : List ℕ) → list ≡ page.list → base ≡ fronts.base → again ≡ fronts.base
    → new ≡ old ++ (HEAD.now ++ (list_part fronts list ++ (view_part base page ++ search_part again))) → new ≡ old ++ page_part fronts page
page_by fronts page old new list base again e1 e2 e3 h =
    h ∙ (λ i. old ++ (HEAD.now ++ (list_part fronts (e1 i) ++ (view_part (e2 i) page ++ search_part (e3 i)))))

-- a list is its first item and the rest
pub split : {X : Type 0} (xs : List X) (x : X) → 1 ≤ length xs → x ≡ get_or xs 0 x → xs ≡ x ∷ take (length xs - 1) (drop 1 xs)
split {X} xs x some is = drop_more xs 0 x (omega arith) ∙ ap₂ (λ (y : X) (ys : List X). y ∷ ys) (sym is) (sym (take_rest xs 1))
