-- Pages that were taken back along the previous links, and the pages before and after them.
use Rattle.std.proofs.Common.{◌≡◌, ℕ, ◌<◌, ◌≤◌, inl, inr, List, [], ◌∷◌, ◌++◌, Option, reverse, sym, ◌∙◌, ap, subst, arith, append_assoc}
use Rattle.std.specs.Prelude.{None}
use Rattle.std.specs.List.{All}
use Rattle.std.specs.declared.cmp.Ordering.TheVariants.{Less}
use Rattle.std.proofs.lemmas.Grind.{flat_map-append}
use Rattle.std.proofs.lemmas.List.{reverse-append, reverse-reverse}
use Rattle.std.proofs.lemmas.List.Elements.{All-cons, All-head, All-nil, All-tail, All-weaker}
use Rattle.std.proofs.lemmas.List.Kept.{AllPairs-cons}
use Rattle.lc_model.specs.Connection.{InDepartureOrder, NoneArrivesEarly, departure_cmp}
use Rattle.lc_model.specs.Question.{latest_of}
use Rattle.lc_model.specs.Ride.{IsRideAt}
use Rattle.lc_model.specs.declared.connection.Connection.{Connection}
use Rattle.lc_model.specs.declared.doc.StopsDoc.{StopsDoc}
use Rattle.lc_model.specs.declared.query.Query.{Query}
use Rattle.lc_model.specs.Versions.Pages.{CutPage, departing, page_for}
use Rattle.convoy.specs.PageLaws.Chain.{ArePagesOf, along_next, along_previous, connections_along}
use Rattle.convoy.proofs.PageLawsLemmas.ChainLemmas.{before_moment, begins_there, by_or_not, found_by_name, links_part, next_goes_on, next_stays, part_from}
use Rattle.convoy.proofs.PageLawsLemmas.FilterLemmas.{pairs_head, pairs_tail}
use Rattle.convoy.proofs.PageLawsLemmas.RowLemmas.{IsRow, row}
use Rattle.convoy.proofs.PageLawsLemmas.StopLemmas.{all_of_rest}
use Rattle.back_scan.specs.Latest.{IsListLatest}
use Rattle.back_scan.proofs.OneLatestLemmas.{latest_departures_are_one}
use Rattle.back_client.specs.Ends.NeededBack.{OneListOfNeededBack, PagesBackMayBeAll, connections_back, needed_pages_back, pages_back}
use Rattle.back_client.proofs.EndsLemmas.EarlyLemmas.{earlier_may_go, later_may_go}

pub one_list_of_needed_back : OneListOfNeededBack
one_list_of_needed_back runs query doc first rest a b h k =
    let same = latest_departures_are_one (IsRideAt runs) query doc h.latest k.latest h.is_latest k.is_latest in
    h.are ∙ ap (needed_pages_back first rest query) same ∙ sym k.are

-- what holds of all of a list holds of its front
all_of_front : {X : Type 0} (P : X → Type 0) (front rest : List X) → All P (front ++ rest) → All P front
all_of_front P [] rest all = All-nil P
all_of_front P (x ∷ front) rest all = All-cons P x front (All-head P x (front ++ rest) all) (all_of_front P front rest (All-tail P x (front ++ rest) all))

order_of_front : (front rest : List Connection) → InDepartureOrder (front ++ rest) → InDepartureOrder front
order_of_front [] rest in_order = λ i j d before within. absurd (omega arith)
order_of_front (x ∷ front) rest in_order =
    let R : Connection → Connection → Type 0 = λ c d. departure_cmp c d ≡ Less in
    AllPairs-cons R x front (all_of_front (R x) front rest (pairs_head R x (front ++ rest) in_order)) (order_of_front front rest (pairs_tail R x (front ++ rest) in_order))

-- the connections of pages and of others are those of both
pub along-append : (xs ys : List CutPage) → connections_along (xs ++ ys) ≡ connections_along xs ++ connections_along ys
along-append xs ys = flat_map-append (λ (p : CutPage). p.connections) xs ys

-- the page after the one for a moment is named above the moment
named_above : (page : CutPage) (rest : List CutPage) (moment : ℕ) (found next : CutPage) (more : List CutPage) → along_next page rest moment ≡ found ∷ next ∷ more → moment < next.departs
named_above page [] moment found next more e = absurd (cc)
named_above page (q ∷ rest) moment found next more e = elim (by_or_not q moment) [
  | inl by ↦ named_above q rest moment found next more (sym (next_goes_on page q rest moment by.0) ∙ e)
  | inr above ↦
      let f = sym (next_stays page q rest moment above.0) ∙ e in
      let same : q ≡ next = cc in
      let P : CutPage → Type 0 = λ p. moment < p.departs in
      subst P same above.1
]

module _ (list : List Connection) (first : CutPage) (rest : List CutPage) (is : IsRow list first rest) (moment : ℕ) where
  -- the pages after the one for the moment hold later departures alone
  later_pages : (front more : List CutPage) → first ∷ rest ≡ front ++ more → (found : CutPage) → along_next first rest moment ≡ found ∷ more → All (λ (c : Connection). moment < c.dep) (connections_along more)
  later_pages front [] parted found e = All-nil (λ (c : Connection). moment < c.dep)
  later_pages front (next ∷ more) parted found e =
      let above = named_above first rest moment found next more e in
      let by_name = found_by_name first rest front next more is.follow parted in
      let suffix = sym (ap connections_along by_name.1) ∙ is.suffix next.departs ∙ ap (λ (p : CutPage). departing p.departs None list) by_name.0 in
      let P : List Connection → Type 0 = λ l. All (λ (c : Connection). moment < c.dep) l in
      subst P (sym suffix) (All-weaker (λ (c : Connection). next.departs ≤ c.dep) (λ (c : Connection). moment < c.dep) (λ c h. omega arith) (departing next.departs None list) (part_from next.departs None list))

  -- the pages before one of the pages hold earlier departures alone
  earlier_pages : (front : List CutPage) (page : CutPage) (behind : List CutPage) → first ∷ rest ≡ front ++ page ∷ behind → All (λ (c : Connection). c.dep < page.departs) (connections_along front)
  earlier_pages front page behind parted =
      let by_name = found_by_name first rest front page behind is.follow parted in
      let P : List CutPage → Type 0 = λ ps. All (λ (c : Connection). c.dep < page.departs) (connections_along (reverse ps)) in
      let Q : List CutPage → Type 0 = λ ps. All (λ (c : Connection). c.dep < page.departs) (connections_along ps) in
      subst Q (reverse-reverse front) (subst P by_name.2 (before_moment first rest page.departs is.follow))

-- The pages in their order are those left, those taken back, and those after the one for the moment.
record IsParted (list : List Connection) (first : CutPage) (rest : List CutPage) (moment : ℕ) (before : List CutPage) (page : CutPage) (left : List CutPage) : Type 0 where
  more : List CutPage
  along : along_next first rest moment ≡ page_for first rest moment ∷ more
  pages : first ∷ rest ≡ (reverse left ++ reverse (before ++ page ∷ [])) ++ more

parted : (list : List Connection) (first : CutPage) (rest : List CutPage) (moment : ℕ) (before : List CutPage) (page : CutPage) (left : List CutPage) → IsRow list first rest →
    page_for first rest moment ∷ along_previous first rest moment ≡ (before ++ page ∷ []) ++ left → IsParted list first rest moment before page left
parted list first rest moment before page left is taken =
    let found = page_for first rest moment in
    let previous = along_previous first rest moment in
    let there = begins_there first rest moment is.follow in
    let turned : reverse previous ++ found ∷ [] ≡ reverse left ++ reverse (before ++ page ∷ []) = sym (reverse-append (found ∷ []) previous) ∙ ap reverse taken ∙ reverse-append (before ++ page ∷ []) left in
    record {
      more = there.0;
      along = there.1;
      pages = sym (links_part first rest moment) ∙ ap (λ ps. reverse previous ++ ps) there.1 ∙ sym (append_assoc (reverse previous) (found ∷ []) there.0) ∙ ap (λ ps. ps ++ there.0) turned;
    }

pub pages_back_may_be_all : PagesBackMayBeAll
pages_back_may_be_all list first rest query doc before page left latest pages forward taken by =
    let is = row list first rest pages in
    let moment = latest_of query in
    let p = parted list first rest moment before page left is taken in
    let turned : reverse (before ++ page ∷ []) ≡ page ∷ reverse before = reverse-append before (page ∷ []) in
    let front = connections_along (reverse left) in
    let middle = connections_back (before ++ page ∷ []) in
    let end = connections_along p.more in
    let whole : (front ++ middle) ++ end ≡ list = ap (λ l. l ++ end) (sym (along-append (reverse left) (reverse (before ++ page ∷ []))))
    ∙ sym (along-append (reverse left ++ reverse (before ++ page ∷ [])) p.more) ∙ ap connections_along (sym p.pages) ∙ is.whole in
    let O : List Connection → Type 0 = InDepartureOrder in
    let F : List Connection → Type 0 = NoneArrivesEarly in
    let in_order = subst O (sym whole) pages.in_order in
    let goes = subst F (sym whole) forward in
    let at_page : first ∷ rest ≡ reverse left ++ page ∷ (reverse before ++ p.more) = p.pages ∙ append_assoc (reverse left) (reverse (before ++ page ∷ [])) p.more ∙ ap (λ ps. reverse left ++ (ps ++ p.more)) turned in
    let early = earlier_pages list first rest is moment (reverse left) page (reverse before ++ p.more) at_page in
    let late = later_pages list first rest is moment (reverse left ++ reverse (before ++ page ∷ [])) p.more p.pages (page_for first rest moment) p.along in
    let one = earlier_may_go query doc front middle latest page.departs (order_of_front (front ++ middle) end in_order) (all_of_front (λ (c : Connection). c.dep ≤ c.arr) (front ++ middle) end goes) early by in
    let two = later_may_go query doc (front ++ middle) end latest (all_of_rest (λ (c : Connection). c.dep ≤ c.arr) (front ++ middle) end goes) late in
    let P : List Connection → Type 0 = λ l. IsListLatest query doc l latest in
    ((λ h. subst P whole (two.0 (one.0 h))), (λ h. one.1 (two.1 (subst P (sym whole) h))))

-- where all pages back were taken, what was taken has the latest departure of all connections
pub all_pages_back : (list : List Connection) (first : CutPage) (rest : List CutPage) (query : Query) (doc : StopsDoc) (taken : List CutPage) (latest : Option ℕ) → ArePagesOf list first rest → NoneArrivesEarly list → pages_back first rest query ≡ taken →
    (IsListLatest query doc (connections_back taken) latest → IsListLatest query doc list latest) × (IsListLatest query doc list latest → IsListLatest query doc (connections_back taken) latest)
all_pages_back list first rest query doc taken latest pages forward are =
    let is = row list first rest pages in
    let moment = latest_of query in
    let found = page_for first rest moment in
    let previous = along_previous first rest moment in
    let there = begins_there first rest moment is.follow in
    let turned : reverse previous ++ found ∷ [] ≡ reverse taken = sym (reverse-append (found ∷ []) previous) ∙ ap reverse are in
    let in_a_row : first ∷ rest ≡ reverse taken ++ there.0 = sym (links_part first rest moment) ∙ ap (λ ps. reverse previous ++ ps) there.1 ∙ sym (append_assoc (reverse previous) (found ∷ []) there.0) ∙ ap (λ ps. ps ++ there.0) turned in
    let middle = connections_back taken in
    let end = connections_along there.0 in
    let whole : middle ++ end ≡ list = sym (along-append (reverse taken) there.0) ∙ ap connections_along (sym in_a_row) ∙ is.whole in
    let F : List Connection → Type 0 = NoneArrivesEarly in
    let goes = subst F (sym whole) forward in
    let late = later_pages list first rest is moment (reverse taken) there.0 in_a_row found there.1 in
    let two = later_may_go query doc middle end latest (all_of_rest (λ (c : Connection). c.dep ≤ c.arr) middle end goes) late in
    let P : List Connection → Type 0 = λ l. IsListLatest query doc l latest in
    ((λ h. subst P whole (two.0 h)), (λ h. two.1 (subst P (sym whole) h)))
