-- The pages that a question read back, with one page more, and what their tests say.
use Rattle.std.proofs.Common.{◌≡◌, ◌∙◌, ℕ, List, [], ◌∷◌, ◌++◌, Bool, true, false, inl, inr, Option, Some, None, refl, ap, ap₂, sym, subst}
use Rattle.std.specs.Prelude.{◌⊎◌, cond}
use Rattle.std.proofs.lemmas.List.{reverse-append}
use Rattle.lc_model.specs.declared.doc.StopsDoc.{StopsDoc}
use Rattle.lc_model.specs.declared.page.PageName.{PageName}
use Rattle.lc_model.specs.declared.query.Query.{Query}
use Rattle.connection_uri.specs.Base.{BaseParts}
use Rattle.page_json.specs.declared.page.Page.{Page}
use Rattle.page_client.specs.declared.fault.PeerFault.TheVariants.{GateWrong, Retreat}
use Rattle.page_client.specs.declared.outcome.Outcome.{Outcome}
use Rattle.page_client.specs.declared.outcome.Outcome.TheVariants.{PeerWrong}
use Rattle.back_client.specs.Steps.{IsOverAt}
use Rattle.back_client.specs.Wrong.{is_off, retreats, wrong_of, wrong_retreat}
use Rattle.back_client.specs.declared.page.Place.{Place}
use Rattle.back_client.specs.declared.page.Place.TheVariants.{After, First}
use Rattle.convoy.specs.Replies.Course.{Reads, connections_in}
use Rattle.convoy.specs.Replies.Made.{Made}
use Rattle.convoy.proofs.RepliesLemmas.CourseLemmas.{not_behind, stands_last}
use Rattle.back_client.specs.Ends.Back.{AllPassTests, GoesBackAfterEach, IsSentRight, PassesTests, ReadsBack, connections_back, link_back, place_back}

-- the connections, with one page more
pub connections_more : (pages : List Page) (page : Page) → page.list ++ connections_back pages ≡ connections_back (pages ++ page ∷ [])
connections_more pages page = ap connections_in (sym (reverse-append pages (page ∷ [])))

-- one page more is read
pub reads_more : (base : BaseParts) (link : Option PageName) (made : List Made) (pages : List Page) (name : PageName) (one : Made) (page : Page) →
    ReadsBack base link made pages → link_back link pages ≡ Some name → Reads base name one page → ReadsBack base link (made ++ one ∷ []) (pages ++ page ∷ [])
reads_more base link [] [] name one page reads links is = subst (λ (l : Option PageName). ReadsBack base l (one ∷ []) (page ∷ [])) (sym links) (is, tt)
reads_more base link [] (p ∷ pages) name one page reads links is = absurd reads
reads_more base link (m ∷ made) [] name one page reads links is = absurd reads
reads_more base None (m ∷ made) (p ∷ pages) name one page reads links is = absurd reads
reads_more base (Some first) (m ∷ made) (p ∷ pages) name one page reads links is = (reads.0, reads_more base p.previous made pages name one page reads.1 links is)

-- before it comes the page to which its previous link leads
pub link_more : (link : Option PageName) (pages : List Page) (page : Page) → link_back link (pages ++ page ∷ []) ≡ page.previous
link_more link [] page = refl
link_more link (p ∷ pages) page = link_more p.previous pages page

-- and the place is after it
pub place_more : (place : Place) (pages : List Page) (page : Page) → place_back place (pages ++ page ∷ []) ≡ After page.name.departs
place_more place [] page = refl
place_more place (p ∷ pages) page = place_more (After p.name.departs) pages page

-- each passes its tests, this one too
pub pass_more : (arrive : ℕ) (place : Place) (pages : List Page) (page : Page) → AllPassTests arrive place pages → PassesTests arrive (place_back place pages) page → AllPassTests arrive place (pages ++ page ∷ [])
pass_more arrive place [] page each this = (this, tt)
pass_more arrive place (p ∷ pages) page each this = (each.0, pass_more arrive (After p.name.departs) pages page each.1 this)

-- before the first page nothing was read
pub goes_back_at_first : (query : Query) (doc : StopsDoc) → GoesBackAfterEach query doc []
goes_back_at_first query doc front page more e over = not_behind front page more e

-- a page of a list with one page more is one of the list, or this one
record IsBefore (pages front : List Page) (taken : Page) : Type 0 where
  back : List Page
  are : pages ≡ front ++ taken ∷ back

stands_before : (pages front : List Page) (page taken next : Page) (more : List Page) → pages ++ page ∷ [] ≡ front ++ taken ∷ next ∷ more → IsBefore pages front taken
stands_before [] [] page taken next more e = (let nothing : [] ≡ next ∷ more = cc in absurd (cc))
stands_before [] (x ∷ front) page taken next more e =
    let nothing : [] ≡ front ++ taken ∷ next ∷ more = cc in
    absurd (not_behind front taken (next ∷ more) nothing)
stands_before (p ∷ pages) [] page taken next more e =
    let same : p ≡ taken = cc in
    record { back = pages; are = ap (λ (x : Page). x ∷ pages) same }
stands_before (p ∷ pages) (x ∷ front) page taken next more e =
    let same : p ≡ x = cc in
    let rest : pages ++ page ∷ [] ≡ front ++ taken ∷ next ∷ more = cc in
    let onward = stands_before pages front page taken next more rest in
    record { back = onward.back; are = ap₂ (λ (y : Page) (l : List Page). y ∷ l) same onward.are }

-- it goes on after each, this one too
pub goes_back_more : (query : Query) (doc : StopsDoc) (pages : List Page) (page : Page) → GoesBackAfterEach query doc pages →
    (IsOverAt query doc (page.list ++ connections_back pages) page.name.departs → ⊥) → GoesBackAfterEach query doc (pages ++ page ∷ [])
goes_back_more query doc pages page each this front taken [] e over =
    let ends = stands_last pages front page taken e in
    let P : List Page → Type 0 = λ l. IsOverAt query doc (taken.list ++ connections_back l) taken.name.departs in
    let Q : Page → Type 0 = λ p. IsOverAt query doc (p.list ++ connections_back pages) p.name.departs in
    this (subst Q (sym ends.1) (subst P (sym ends.0) over))
goes_back_more query doc pages page each this front taken (next ∷ more) e over =
    let before = stands_before pages front page taken next more e in
    each front taken before.back before.are over

-- the time gate sends to no page but the first
not_first : (name : ℕ) (pages : List Page) (gate : List ℕ) → place_back (After name) pages ≡ First gate → ⊥
not_first name [] gate e = cc
not_first name (p ∷ pages) gate e = not_first p.name.departs pages gate e

pub sent_first : (gate other : List ℕ) (pages : List Page) → place_back (First gate) pages ≡ First other → (pages ≡ []) × (gate ≡ other)
sent_first gate other [] e = let same : gate ≡ other = cc in (refl, same)
sent_first gate other (p ∷ pages) e = absurd (not_first p.name.departs pages other e)

-- ---- the tests of a page beside those of its reply

-- what is said by the tests: the first that fails has an outcome
abbrev told : Bool → Bool → Outcome → Outcome → Option Outcome
told true back off not_back = Some off
told false true off not_back = Some not_back
told false false off not_back = None

-- the time gate was wrong to send to the page
pub record IsSentOff (arrive : ℕ) (place : Place) (page : Page) (outcome : Outcome) : Type 0 where
  pub gate : List ℕ
  pub place_is : place ≡ First gate
  pub off : is_off arrive page ≡ true
  pub is : outcome ≡ PeerWrong gate (GateWrong page)

-- or it does not lead back
pub record IsNotBack (arrive : ℕ) (place : Place) (page : Page) (reply : List ℕ) (outcome : Outcome) : Type 0 where
  pub sent : IsSentRight arrive place page
  pub not_back : retreats place page ≡ true
  pub is : outcome ≡ PeerWrong reply Retreat

-- what follows from the outcome of the tests
abbrev pub Judged : ℕ → Place → Page → List ℕ → Option Outcome → Type 0
Judged arrive place page reply None = PassesTests arrive place page
Judged arrive place page reply (Some outcome) = IsSentOff arrive place page outcome ⊎ IsNotBack arrive place page reply outcome

module _ (arrive : ℕ) (page : Page) (reply : List ℕ) where
  by_first : (gate : List ℕ) (off back : Bool) → is_off arrive page ≡ off → retreats (First gate) page ≡ back → (wrong_of arrive (First gate) page reply ≡ told off back (PeerWrong gate (GateWrong page)) (PeerWrong reply Retreat))
      × Judged arrive (First gate) page reply (told off back (PeerWrong gate (GateWrong page)) (PeerWrong reply Retreat))
  by_first gate true back e f = (
    ap (λ (b : Bool). wrong_retreat (cond b (Some (PeerWrong gate (GateWrong page))) None) (First gate) page reply) e,
    inl (record { gate = gate; place_is = refl; off = e; is = refl }),
  )
  by_first gate false true e f = (
    ap (λ (b : Bool). wrong_retreat (cond b (Some (PeerWrong gate (GateWrong page))) None) (First gate) page reply) e ∙ ap (λ (b : Bool). cond b (Some (PeerWrong reply Retreat)) None) f,
    inr (record { sent = e; not_back = f; is = refl }),
  )
  by_first gate false false e f = (
    ap (λ (b : Bool). wrong_retreat (cond b (Some (PeerWrong gate (GateWrong page))) None) (First gate) page reply) e ∙ ap (λ (b : Bool). cond b (Some (PeerWrong reply Retreat)) None) f,
    record { sent = e; back = f },
  )

  by_after : (name : ℕ) (back : Bool) → retreats (After name) page ≡ back → (wrong_of arrive (After name) page reply ≡ told false back (PeerWrong reply Retreat) (PeerWrong reply Retreat))
      × Judged arrive (After name) page reply (told false back (PeerWrong reply Retreat) (PeerWrong reply Retreat))
  by_after name true f = (ap (λ (b : Bool). cond b (Some (PeerWrong reply Retreat)) None) f, inr (record { sent = tt; not_back = f; is = refl }))
  by_after name false f = (ap (λ (b : Bool). cond b (Some (PeerWrong reply Retreat)) None) f, record { sent = tt; back = f })

  pub judged : (place : Place) → Judged arrive place page reply (wrong_of arrive place page reply)
  judged (First gate) =
      let both = by_first gate (is_off arrive page) (retreats (First gate) page) refl refl in
      subst (Judged arrive (First gate) page reply) (sym both.0) both.1
  judged (After name) =
      let both = by_after name (retreats (After name) page) refl in
      subst (Judged arrive (After name) page reply) (sym both.0) both.1
