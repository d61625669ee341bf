-- Where a page that is taken back is among the pages of a version, what its links are, and that it passes the tests.
use Rattle.std.proofs.Common.{◌≡◌, ℕ, ◌<◌, ◌≤◌, ◌⊎◌, inl, inr, Bool, false, List, [], ◌∷◌, ◌++◌, Option, Some, None, refl, ap, sym, subst, ◌∙◌, arith}
use Rattle.std.specs.Prelude.{◌&&◌, ◌||◌, cond, is_some, nat_lt, option_map, reverse}
use Rattle.std.specs.List.{All, last_or}
use Rattle.std.proofs.lemmas.Bool.Decides.{nat_tests}
use Rattle.std.proofs.lemmas.List.{append-nil, append_assoc, reverse-append, reverse-reverse}
use Rattle.std.proofs.lemmas.List.Elements.{All-head, All-tail}
use Rattle.lc_model.specs.Connection.{last_departure}
use Rattle.lc_model.specs.Question.{latest_of}
use Rattle.lc_model.specs.declared.connection.Connection.{Connection}
use Rattle.lc_model.specs.declared.page.PageName.{PageName}
use Rattle.lc_model.specs.declared.query.Query.{Query}
use Rattle.lc_model.specs.Versions.Cuts.{first_of}
use Rattle.lc_model.specs.Versions.Pages.{CutPage, page_for}
use Rattle.page_json.specs.declared.page.Page.{Page}
use Rattle.convoy.specs.PageLaws.Chain.{ArePagesOf, along_next, along_previous, connections_along, names_of}
use Rattle.convoy.proofs.PageLawsLemmas.ChainLemmas.{by_or_not, links_part, next_goes_on, next_stays, previous_stays}
use Rattle.convoy.proofs.PageLawsLemmas.RowLemmas.{found_by_name, is_where_next_begins, late_are_along_next}
use Rattle.convoy.proofs.PageLawsLemmas.StopLemmas.{all_of_rest}
use Rattle.lc_world.specs.Sides.PageAt.{named}
use Rattle.convoy.specs.ClientLaws.Published.{between}
use Rattle.back_client.specs.Ends.NeededBack.{pages_back}
use Rattle.back_client.proofs.EndsLemmas.BackLemmas.{along-append}
use Rattle.page_client.specs.declared.fault.PeerFault.TheVariants.{GateWrong, Retreat}
use Rattle.page_client.specs.declared.outcome.Outcome.{Outcome}
use Rattle.page_client.specs.declared.outcome.Outcome.TheVariants.{PeerWrong}
use Rattle.back_client.specs.Wrong.{is_by, is_level, is_off, is_up_to, overlaps, reaches, retreats, wrong_gate, wrong_of, wrong_retreat}
use Rattle.back_client.specs.declared.page.Place.{Place}
use Rattle.back_client.specs.declared.page.Place.TheVariants.{After, First}

-- what begins two rows that are one row
pub same_first : (p q : CutPage) (ps qs : List CutPage) → p ∷ ps ≡ q ∷ qs → p ≡ q
same_first p q ps qs is = cc

-- and the rest of them
pub same_others : (p q : CutPage) (ps qs : List CutPage) → p ∷ ps ≡ q ∷ qs → ps ≡ qs
same_others p q ps qs is = cc

-- the page after the one for a moment is named after the moment
next_is_later : (first : CutPage) (rest : List CutPage) (moment : ℕ) (page next : CutPage) (more : List CutPage) → along_next first rest moment ≡ page ∷ next ∷ more → moment < next.departs
next_is_later first [] moment page next more is = let nothing : [] ≡ next ∷ more = same_others first page [] (next ∷ more) is in absurd (cc)
next_is_later first (q ∷ rest) moment page next more is =
    elim (by_or_not q moment) [
      | inl by_then ↦ next_is_later q rest moment page next more (sym (next_goes_on first q rest moment by_then.0) ∙ is)
      | inr later ↦
          (let here : first ∷ q ∷ rest ≡ page ∷ next ∷ more = sym (next_stays first q rest moment later.0) ∙ is in
          let same : q ≡ next = same_first q next rest more (same_others first page (q ∷ rest) (next ∷ more) here) in
          subst (λ (n : CutPage). moment < n.departs) same later.1)
    ]

-- where the first page is named by the moment, so is the page for it
by_moment : (first : CutPage) (rest : List CutPage) (moment : ℕ) (page : CutPage) (more : List CutPage) → first.departs ≤ moment → along_next first rest moment ≡ page ∷ more → page.departs ≤ moment
by_moment first [] moment page more early is =
    let same : first ≡ page = same_first first page [] more is in
    subst (λ (n : CutPage). n.departs ≤ moment) same early
by_moment first (q ∷ rest) moment page more early is =
    elim (by_or_not q moment) [
      | inl by_then ↦ by_moment q rest moment page more by_then.1 (sym (next_goes_on first q rest moment by_then.0) ∙ is)
      | inr later ↦
          (let here : first ∷ q ∷ rest ≡ page ∷ more = sym (next_stays first q rest moment later.0) ∙ is in
          let same : first ≡ page = same_first first page (q ∷ rest) more here in
          subst (λ (n : CutPage). n.departs ≤ moment) same early)
    ]

-- the page for a moment is named by it, or no page is before it
by_moment_or_first : (first : CutPage) (rest : List CutPage) (moment : ℕ) (page : CutPage) (more : List CutPage) → along_next first rest moment ≡ page ∷ more →
    (page.departs ≤ moment) ⊎ (along_previous first rest moment ≡ [])
by_moment_or_first first [] moment page more is = inr refl
by_moment_or_first first (q ∷ rest) moment page more is =
    elim (by_or_not q moment) [
      | inl by_then ↦ inl (by_moment q rest moment page more by_then.1 (sym (next_goes_on first q rest moment by_then.0) ∙ is))
      | inr later ↦ inr (previous_stays first q rest moment later.0)
    ]

turned_on : (x : CutPage) (xs : List CutPage) → reverse (x ∷ xs) ≡ reverse xs ++ x ∷ []
turned_on x xs = reverse-append (x ∷ []) xs

last_of_names : (before : List CutPage) (o : Option ℕ) (p : CutPage) → last_or o (names_of (before ++ p ∷ [])) ≡ Some p.departs
last_of_names [] o p = refl
last_of_names (q ∷ before) o p = last_of_names before (Some q.departs) p

-- the nearest of the pages before is the previous one
nearest : (version : ℕ) (behind : List CutPage) → option_map (named version) (last_or None (names_of (reverse behind))) ≡ option_map (named version) (first_of (names_of behind))
nearest version [] = refl
nearest version (q ∷ more) =
    ap (λ (l : List CutPage). option_map (named version) (last_or None (names_of l))) (turned_on q more)
    ∙ ap (option_map (named version)) (last_of_names (reverse more) None q)

-- what all departs before a moment does not reach it
below_all : (moment : ℕ) (list : List Connection) → All (λ (c : Connection). c.dep < moment) list → is_up_to moment (last_departure list) ≡ false
below_all moment [] all = refl
below_all moment (c ∷ []) all =
    let l : c.dep < moment = All-head (λ (d : Connection). d.dep < moment) c [] all in
    grind (arith, nat_tests)
below_all moment (c ∷ next ∷ rest) all = below_all moment (next ∷ rest) (All-tail (λ (d : Connection). d.dep < moment) c (next ∷ rest) all)

-- a page is where it was asked for: the first one after nothing, and each other one after the page of that name
abbrev pub PlaceIs : Place → List CutPage → Type 0
PlaceIs (First gate) before = before ≡ []
PlaceIs (After name) before = (front : List CutPage) × (last : CutPage) × (before ≡ front ++ last ∷ []) × (name ≡ last.departs)

module _ (list : List Connection) (first : CutPage) (rest : List CutPage) (query : Query) (pages : ArePagesOf list first rest) where
  -- the pages after the one for the moment of arrival
  abbrev pub later_pages : List CutPage
  later_pages = (is_where_next_begins list first rest (latest_of query) pages).0

  on_from : along_next first rest (latest_of query) ≡ page_for first rest (latest_of query) ∷ later_pages
  on_from = (is_where_next_begins list first rest (latest_of query) pages).1

  module _ (before : List CutPage) (page : CutPage) (behind : List CutPage) (parts : pages_back first rest query ≡ before ++ page ∷ behind) where
    -- all pages of the version, in their order
    pub all_pages : first ∷ rest ≡ reverse behind ++ page ∷ (reverse before ++ later_pages)
    all_pages =
        let found = page_for first rest (latest_of query) in
        let previous = along_previous first rest (latest_of query) in
        let back = reverse behind in
        let ahead = reverse before in
        sym (links_part first rest (latest_of query)) ∙ ap (λ ps. reverse previous ++ ps) on_from
        ∙ sym (append_assoc (reverse previous) (found ∷ []) later_pages)
        ∙ ap (λ ps. ps ++ later_pages)
        (sym (reverse-append (found ∷ []) previous) ∙ ap reverse parts ∙ reverse-append before (page ∷ behind) ∙ ap (λ ps. ps ++ ahead) (turned_on page behind) ∙ append_assoc back (page ∷ []) ahead)
        ∙ append_assoc back (page ∷ ahead) later_pages

    -- the page before is named before it
    previous_is_earlier : (q : CutPage) (more : List CutPage) → behind ≡ q ∷ more → q.departs < page.departs
    previous_is_earlier q more is =
        let on = page ∷ (reverse before ++ later_pages) in
        let there : first ∷ rest ≡ reverse more ++ q ∷ on =
        all_pages ∙ ap (λ (l : List CutPage). reverse l ++ on) is ∙ ap (λ ps. ps ++ on) (turned_on q more) ∙ append_assoc (reverse more) (q ∷ []) on in
        next_is_later first rest q.departs q page (reverse before ++ later_pages) (found_by_name list first rest (reverse more) q on pages there).1

    -- what is on the page departs before the one that was taken before it
    departs_before : (front : List CutPage) (last : CutPage) → before ≡ front ++ last ∷ [] → All (λ (c : Connection). c.dep < last.departs) page.connections
    departs_before front last is =
        let back = reverse behind in
        let on = reverse front ++ later_pages in
        let there : first ∷ rest ≡ (back ++ page ∷ []) ++ last ∷ on =
        all_pages ∙ ap (λ (l : List CutPage). back ++ page ∷ (reverse l ++ later_pages)) is
        ∙ ap (λ ps. back ++ page ∷ (ps ++ later_pages)) (reverse-append front (last ∷ [])) ∙ sym (append_assoc back (page ∷ []) (last ∷ on)) in
        let before_it : along_previous first rest last.departs ≡ reverse (back ++ page ∷ []) = (found_by_name list first rest (back ++ page ∷ []) last on pages there).2 in
        let early = (late_are_along_next list first rest last.departs pages).1 in
        let same : connections_along (reverse (along_previous first rest last.departs)) ≡ connections_along back ++ page.connections =
        ap (λ ps. connections_along (reverse ps)) before_it ∙ ap connections_along (reverse-reverse (back ++ page ∷ [])) ∙ along-append back (page ∷ [])
        ∙ ap (λ l. connections_along back ++ l) (append-nil page.connections) in
        all_of_rest (λ (c : Connection). c.dep < last.departs) (connections_along back) page.connections (subst (All (λ (c : Connection). c.dep < last.departs)) same early)

    -- the page for the moment is named by it, or has none before it; and the next one is named after it
    is_for_it : before ≡ [] → ((page.departs ≤ latest_of query) ⊎ (behind ≡ [])) × ((next : CutPage) (more : List CutPage) → later_pages ≡ next ∷ more → latest_of query < next.departs)
    is_for_it none =
        let here : page_for first rest (latest_of query) ∷ along_previous first rest (latest_of query) ≡ page ∷ behind = parts ∙ ap (λ l. l ++ page ∷ behind) none in
        let found : page_for first rest (latest_of query) ≡ page = same_first (page_for first rest (latest_of query)) page (along_previous first rest (latest_of query)) behind here in
        let previous : along_previous first rest (latest_of query) ≡ behind = same_others (page_for first rest (latest_of query)) page (along_previous first rest (latest_of query)) behind here in
        let on : along_next first rest (latest_of query) ≡ page ∷ later_pages = on_from ∙ ap (λ p. p ∷ later_pages) found in (
          elim (by_moment_or_first first rest (latest_of query) page later_pages on) [
            | inl by ↦ inl by
            | inr nothing ↦ inr (sym previous ∙ nothing)
          ],
          λ next more is. next_is_later first rest (latest_of query) page next more (on ∙ ap (λ l. page ∷ l) is),
        )

-- the tests of a page by what its links are
not_level : (version departs : ℕ) (behind : List CutPage) → ((q : CutPage) (more : List CutPage) → behind ≡ q ∷ more → q.departs < departs) → is_level departs (option_map (named version) (first_of (names_of behind))) ≡ false
not_level version departs [] earlier = refl
not_level version departs (q ∷ more) earlier = let l : q.departs < departs = earlier q more refl in grind (arith, nat_tests)

not_by : (version arrive : ℕ) (later : List CutPage) → ((next : CutPage) (more : List CutPage) → later ≡ next ∷ more → arrive < next.departs) → is_by arrive (option_map (named version) (first_of (names_of later))) ≡ false
not_by version arrive [] after = refl
not_by version arrive (next ∷ more) after = let l : arrive < next.departs = after next more refl in grind (arith, nat_tests)

not_late : (version arrive departs : ℕ) (behind : List CutPage) → (departs ≤ arrive) ⊎ (behind ≡ []) → (is_some (option_map (named version) (first_of (names_of behind))) && nat_lt arrive departs) ≡ false
not_late version arrive departs [] early = refl
not_late version arrive departs (q ∷ more) (inl by) = grind (arith, nat_tests)
not_late version arrive departs (q ∷ more) (inr none) = absurd (cc)

neither : (a b : Bool) → a ≡ false → b ≡ false → (a || b) ≡ false
neither a b e f = rw (e, f) refl

no_test_fails : (arrive : ℕ) (place : Place) (page : Page) (reply : List ℕ) → wrong_gate arrive place page ≡ None → retreats place page ≡ false → wrong_of arrive place page reply ≡ None
no_test_fails arrive place page reply gate back =
    ap (λ (o : Option Outcome). wrong_retreat o place page reply) gate ∙ ap (λ (b : Bool). cond b (Some (PeerWrong reply Retreat)) None) back

module _ (list : List Connection) (first : CutPage) (rest : List CutPage) (query : Query) (version : ℕ) (pages : ArePagesOf list first rest)
    (before : List CutPage) (cut : CutPage) (behind : List CutPage) (parts : pages_back first rest query ≡ before ++ cut ∷ behind)
    (page : Page) (is : page ≡ between version (reverse behind) cut (reverse before ++ later_pages list first rest query pages)) where
  pub list_is : page.list ≡ cut.connections
  list_is = ap (λ (p : Page). p.list) is

  pub previous_is : page.previous ≡ option_map (named version) (first_of (names_of behind))
  previous_is = ap (λ (p : Page). p.previous) is ∙ nearest version behind

  departs_is : page.name.departs ≡ cut.departs
  departs_is = ap (λ (p : Page). p.name.departs) is

  leads_back : is_level page.name.departs page.previous ≡ false
  leads_back =
      ap (λ (d : ℕ). is_level d page.previous) departs_is ∙ ap (is_level cut.departs) previous_is
      ∙ not_level version cut.departs behind (previous_is_earlier list first rest query pages before cut behind parts)

  is_before : (place : Place) → PlaceIs place before → overlaps place page.list ≡ false
  is_before (First gate) none = refl
  is_before (After name) (front, last, at, same) =
      ap (λ (m : ℕ). reaches m page.list) same ∙ ap (reaches last.departs) list_is
      ∙ below_all last.departs cut.connections (departs_before list first rest query pages before cut behind parts front last at)

  gate_was_right : (arrive : ℕ) (place : Place) → latest_of query ≡ arrive → PlaceIs place before → wrong_gate arrive place page ≡ None
  gate_was_right arrive (After name) same at = refl
  gate_was_right arrive (First gate) same none =
      let for_it = is_for_it list first rest query pages before cut behind parts none in
      let late : (is_some page.previous && nat_lt (latest_of query) page.name.departs) ≡ false =
      ap (λ (o : Option PageName). is_some o && nat_lt (latest_of query) page.name.departs) previous_is
      ∙ ap (λ (d : ℕ). is_some (option_map (named version) (first_of (names_of behind))) && nat_lt (latest_of query) d) departs_is
      ∙ not_late version (latest_of query) cut.departs behind for_it.0 in
      let next_is : page.next ≡ option_map (named version) (first_of (names_of (later_pages list first rest query pages))) =
      ap (λ (p : Page). p.next) is ∙ ap (λ (l : List CutPage). option_map (named version) (first_of (names_of (reverse l ++ later_pages list first rest query pages)))) none in
      let early : is_by (latest_of query) page.next ≡ false = ap (is_by (latest_of query)) next_is ∙ not_by version (latest_of query) (later_pages list first rest query pages) for_it.1 in
      let off : is_off arrive page ≡ false =
      ap (λ (m : ℕ). is_off m page) (sym same) ∙ neither (is_some page.previous && nat_lt (latest_of query) page.name.departs) (is_by (latest_of query) page.next) late early in
      ap (λ (b : Bool). cond b (Some (PeerWrong gate (GateWrong page))) None) off

  -- the page passes the tests
  pub passes : (arrive : ℕ) (place : Place) (reply : List ℕ) → latest_of query ≡ arrive → PlaceIs place before → wrong_of arrive place page reply ≡ None
  passes arrive place reply same at =
      no_test_fails arrive place page reply (gate_was_right arrive place same at)
      (neither (is_level page.name.departs page.previous) (overlaps place page.list) leads_back (is_before place at))
