-- The names of pages are their cuts.
use Rattle.std.proofs.Common.{◌≡◌, ℕ, ◌<◌, ◌≤◌, List, [], ◌∷◌, ◌++◌, Bool, true, false, refl, ap, sym, subst, ◌∙◌, arith, filter}
use Rattle.std.specs.Prelude.{nat_lt}
use Rattle.std.specs.List.{All}
use Rattle.std.proofs.lemmas.Bool.Decides.{nat_tests}
use Rattle.std.proofs.lemmas.List.{append-nil}
use Rattle.std.proofs.lemmas.List.Elements.{All-cons, All-map, All-nil, All-weaker, filter-append}
use Rattle.lc_model.specs.declared.connection.Connection.{Connection}
use Rattle.lc_model.specs.Versions.Pages.{CutPage, pages_from, pages_of}
use Rattle.convoy.specs.PageLaws.Chain.{CutsNameNeighbours, names_of}
use Rattle.convoy.proofs.PageLawsLemmas.ChainLemmas.{all_later}
use Rattle.convoy.proofs.PageLawsLemmas.FilterLemmas.{filter_all, filter_drops, filter_none}
use Rattle.convoy.proofs.PageLawsLemmas.RowLemmas.{row}
use Rattle.convoy.proofs.PageLawsLemmas.TakenLemmas.{AllFollow, follow_behind, named_before}

names_from_cuts : (cuts : List ℕ) (list : List Connection) → names_of (pages_from cuts list) ≡ cuts
names_from_cuts [] list = refl
names_from_cuts (cut ∷ rest) list = ap (λ names. cut ∷ names) (names_from_cuts rest list)

names_of_parts : (before : List CutPage) (page : CutPage) (behind : List CutPage) → names_of (before ++ page ∷ behind) ≡ names_of before ++ page.departs ∷ names_of behind
names_of_parts [] page behind = refl
names_of_parts (p ∷ before) page behind = ap (λ names. p.departs ∷ names) (names_of_parts before page behind)

-- the pages before a page are named before it
all_before : (before : List CutPage) (page : CutPage) (behind : List CutPage) → AllFollow (before ++ page ∷ behind) → All (λ (q : CutPage). q.departs < page.departs) before
all_before [] page behind follow = All-nil (λ (q : CutPage). q.departs < page.departs)
all_before (p ∷ []) page behind follow =
    All-cons (λ (q : CutPage). q.departs < page.departs) p [] (named_before p [] page behind follow) (All-nil (λ (q : CutPage). q.departs < page.departs))
all_before (p ∷ next ∷ before) page behind follow =
    All-cons (λ (q : CutPage). q.departs < page.departs) p (next ∷ before) (named_before p (next ∷ before) page behind follow) (all_before (next ∷ before) page behind follow.3)

is_behind : (name m : ℕ) → name < m → nat_lt name m ≡ true
is_behind name m h = grind (arith, nat_tests)

is_not_behind : (name m : ℕ) → m ≤ name → nat_lt name m ≡ false
is_not_behind name m h = grind (arith, nat_tests)

-- of numbers below a name, the name and numbers above it, those above it and those below it
those_behind : (name : ℕ) (below above : List ℕ) → All (λ (m : ℕ). m < name) below → All (λ (m : ℕ). name < m) above → filter (nat_lt name) (below ++ name ∷ above) ≡ above
those_behind name below above all_below all_above =
    filter-append (nat_lt name) below (name ∷ above)
    ∙ ap (λ kept. kept ++ filter (nat_lt name) (name ∷ above)) (filter_none (nat_lt name) below (All-weaker (λ (m : ℕ). m < name) (λ m. nat_lt name m ≡ false) (λ m h. is_not_behind name m (omega arith)) below all_below))
    ∙ filter_drops (nat_lt name) name above (is_not_behind name name (omega arith))
    ∙ filter_all (nat_lt name) above (All-weaker (λ (m : ℕ). name < m) (λ m. nat_lt name m ≡ true) (λ m h. is_behind name m h) above all_above)

those_before : (name : ℕ) (below above : List ℕ) → All (λ (m : ℕ). m < name) below → All (λ (m : ℕ). name < m) above → filter (λ (m : ℕ). nat_lt m name) (below ++ name ∷ above) ≡ below
those_before name below above all_below all_above =
    let p : ℕ → Bool = λ m. nat_lt m name in
    filter-append p below (name ∷ above)
    ∙ ap (λ kept. kept ++ filter p (name ∷ above)) (filter_all p below (All-weaker (λ (m : ℕ). m < name) (λ m. p m ≡ true) (λ m h. is_behind m name h) below all_below))
    ∙ ap (λ kept. below ++ kept) (filter_none p (name ∷ above)
    (All-cons (λ m. p m ≡ false) name above (is_not_behind name name (omega arith)) (All-weaker (λ (m : ℕ). name < m) (λ m. p m ≡ false) (λ m h. is_not_behind m name (omega arith)) above all_above)))
    ∙ append-nil below

-- the cuts of the pages, however many
cuts_or_none : (list : List Connection) (cuts : List ℕ) (before : List CutPage) (page : CutPage) (behind : List CutPage) → pages_of cuts list ≡ before ++ page ∷ behind → AllFollow (before ++ page ∷ behind) →
    (filter (nat_lt page.departs) cuts ≡ names_of behind) × (filter (λ (cut : ℕ). nat_lt cut page.departs) cuts ≡ names_of before)
cuts_or_none list [] [] page behind are follow =
    let nothing : [] ≡ behind = cc in
    (ap names_of nothing, refl)
cuts_or_none list [] (p ∷ []) page behind are follow = (let nothing : [] ≡ page ∷ behind = cc in absurd (cc))
cuts_or_none list [] (p ∷ q ∷ before) page behind are follow = (let nothing : [] ≡ q ∷ (before ++ page ∷ behind) = cc in absurd (cc))
cuts_or_none list (cut ∷ rest) before page behind are follow =
    let parts : cut ∷ rest ≡ names_of before ++ page.departs ∷ names_of behind =
    sym (names_from_cuts (cut ∷ rest) list) ∙ ap names_of are ∙ names_of_parts before page behind in
    let all_below : All (λ (m : ℕ). m < page.departs) (names_of before) =
    All-map (λ (m : ℕ). m < page.departs) (λ (q : CutPage). q.departs) before (all_before before page behind follow) in
    let all_above : All (λ (m : ℕ). page.departs < m) (names_of behind) =
    All-map (λ (m : ℕ). page.departs < m) (λ (q : CutPage). q.departs) behind (all_later page behind (follow_behind before page behind follow)) in (
      ap (filter (nat_lt page.departs)) parts ∙ those_behind page.departs (names_of before) (names_of behind) all_below all_above,
      ap (filter (λ (m : ℕ). nat_lt m page.departs)) parts ∙ those_before page.departs (names_of before) (names_of behind) all_below all_above,
    )

pub cuts_name_neighbours : CutsNameNeighbours
cuts_name_neighbours list first rest before page behind pages is =
    cuts_or_none list pages.cuts before page behind (pages.are ∙ is) (subst AllFollow is (row list first rest pages).follow)
