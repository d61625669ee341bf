-- That what a client was given is the side's own: the pages of the names that it wanted, and the stops document.
use Rattle.std.proofs.Common.{◌≡◌, ℕ, inl, inr, List, [], ◌∷◌, ◌++◌, map, Option, Some, None, Result, Ok, Err, refl, ap, ap₂, sym, subst, ◌∙◌}
use Rattle.std.specs.List.{All}
use Rattle.std.proofs.lemmas.List.{map-append}
use Rattle.std.proofs.lemmas.List.Elements.{All-append, All-contains, All-cons, All-nil}
use Rattle.lc_model.specs.declared.page.PageName.{PageName}
use Rattle.lc_model.proofs.ListLemmas.{All-from_contains}
use Rattle.page_json.specs.declared.page.Page.{Page}
use Rattle.page_client.specs.Client.{AfterDoc, shown}
use Rattle.page_client.specs.Shown.{Shown, after_gate, ended}
use Rattle.page_client.specs.declared.client.Client.{Client}
use Rattle.page_client.specs.declared.fault.PeerFault.{PeerFault}
use Rattle.page_client.specs.declared.fault.QueryFault.TheVariants.{UnknownFrom, UnknownTo}
use Rattle.page_client.specs.declared.outcome.Outcome.{Outcome}
use Rattle.page_client.specs.declared.outcome.Outcome.TheVariants as outcomes
use Rattle.page_client.specs.declared.phase.Phase.{Phase}
use Rattle.page_client.specs.declared.phase.Phase.TheVariants as phases
use Rattle.page_client.specs.declared.want.Want.{Want}
use Rattle.page_client.specs.declared.want.Want.TheVariants as wants
use Rattle.lc_world.specs.Sides.Side.{IsLater, IsValidSide, Side}
use Rattle.convoy.specs.ClientLaws.Published.{IsOwnPage}
use Rattle.convoy.specs.ClientLaws.Wants.{wants_of}
use Rattle.convoy.proofs.ClientLawsLemmas.FitsLemmas.{own_pages_stay}
use Rattle.rounds_client.specs.Given.{KeepsDoc, Was}

-- the names of the pages among wants
abbrev pub names_in : List Want → List PageName
names_in [] = []
names_in (wants.Gate ∷ more) = names_in more
names_in (wants.Stops ∷ more) = names_in more
names_in (wants.Page name ∷ more) = name ∷ names_in more
names_in (wants.Finished ∷ more) = names_in more

names_in-append : (first second : List Want) → names_in (first ++ second) ≡ names_in first ++ names_in second
names_in-append [] second = refl
names_in-append (wants.Gate ∷ first) second = names_in-append first second
names_in-append (wants.Stops ∷ first) second = names_in-append first second
names_in-append (wants.Page name ∷ first) second = ap (λ (l : List PageName). name ∷ l) (names_in-append first second)
names_in-append (wants.Finished ∷ first) second = names_in-append first second

names_of_pages : (names : List PageName) → names_in (map wants.Page names) ≡ names
names_of_pages [] = refl
names_of_pages (name ∷ names) = ap (λ (l : List PageName). name ∷ l) (names_of_pages names)

-- the names of the wants of a question are those of its pages
pub names_of_wants : (names : List PageName) → names_in (wants_of names) ≡ names
names_of_wants names = names_of_pages names

-- the document of a client that found a journey is the side's
abbrev pub FoundDoc : Side → Was → Option Outcome → Type 0
FoundDoc side given None = Unit {0}
FoundDoc side given (Some (outcomes.Found journey)) = given.doc ≡ Some side.doc
FoundDoc side given (Some outcomes.NoJourney) = Unit {0}
FoundDoc side given (Some (outcomes.Refused fault)) = Unit {0}
FoundDoc side given (Some (outcomes.LinkFault before after)) = Unit {0}
FoundDoc side given (Some (outcomes.PeerWrong reply fault)) = Unit {0}

-- and that of one that waits for a page
abbrev pub OwnDoc : Side → Was → Phase → Option Outcome → Type 0
OwnDoc side given phases.Gate outcome = Unit {0}
OwnDoc side given (phases.Stops first) outcome = Unit {0}
OwnDoc side given (phases.Page name) outcome = given.doc ≡ Some side.doc
OwnDoc side given phases.Finished outcome = FoundDoc side given outcome

-- The client was given the side's own pages, of the names that it wanted, and the side's stops document.
pub record Holds (side : Side) (client : Client) (given : Was) (wanted : List Want) : Type 0 where
  pub own : All (IsOwnPage side) given.pages
  pub named : map (λ (page : Page). page.name) given.pages ≡ names_in wanted
  pub doc : OwnDoc side given client.phase client.outcome

-- the side's document is the right one in each phase
pub doc_anyhow : (side : Side) (given : Was) (phase : Phase) (outcome : Option Outcome) → given.doc ≡ Some side.doc → OwnDoc side given phase outcome
doc_anyhow side given phases.Gate outcome is = tt
doc_anyhow side given (phases.Stops first) outcome is = tt
doc_anyhow side given (phases.Page name) outcome is = is
doc_anyhow side given phases.Finished None is = tt
doc_anyhow side given phases.Finished (Some (outcomes.Found journey)) is = is
doc_anyhow side given phases.Finished (Some outcomes.NoJourney) is = tt
doc_anyhow side given phases.Finished (Some (outcomes.Refused fault)) is = tt
doc_anyhow side given phases.Finished (Some (outcomes.LinkFault before after)) is = tt
doc_anyhow side given phases.Finished (Some (outcomes.PeerWrong reply fault)) is = tt

-- what is known of the document by what the client shows
pub doc_by_shown : (side : Side) (client : Client) (given : Was) (s : Shown) → shown client ≡ s → OwnDoc side given s.phase s.outcome → OwnDoc side given client.phase client.outcome
doc_by_shown side client given s is own = let P : Shown → Type 0 = λ x. OwnDoc side given x.phase x.outcome in subst P (sym is) own

-- after the time gate's reply no document is wanted yet
pub doc_after_gate : (side : Side) (new : Client) (given : Was) (s : Shown) (reply : List ℕ) (said : Result PageName PeerFault) → shown new ≡ after_gate reply said s → OwnDoc side given new.phase new.outcome
doc_after_gate side new given s reply (Ok name) is = doc_by_shown side new given (after_gate reply (Ok name) s) is tt
doc_after_gate side new given s reply (Err fault) is = doc_by_shown side new given (after_gate reply (Err fault) s) is tt

-- a document that was read is kept
pub doc_after_stops : (side : Side) (old new : Client) (now : Was) → AfterDoc old side.doc new → KeepsDoc old.query (Ok side.doc) now.doc → OwnDoc side now new.phase new.outcome
doc_after_stops side old new now (inl (no_from, is)) keeps = doc_by_shown side new now (ended (outcomes.Refused UnknownFrom) (shown old)) is tt
doc_after_stops side old new now (inr (inl (from, no_to, is))) keeps = doc_by_shown side new now (ended (outcomes.Refused UnknownTo) (shown old)) is tt
doc_after_stops side old new now (inr (inr (from, to, is, stands))) keeps = doc_anyhow side now new.phase new.outcome (keeps from to)

-- who waits for a page has the document
pub doc_of_reader : (side : Side) (given : Was) (phase : Phase) (outcome : Option Outcome) (name : PageName) → phase ≡ phases.Page name → OwnDoc side given phase outcome → given.doc ≡ Some side.doc
doc_of_reader side given phase outcome name is own = let P : Phase → Type 0 = λ p. OwnDoc side given p outcome in subst P is own

-- and who found a journey
pub doc_of_finder : (side : Side) (given : Was) (phase : Phase) (outcome : Option Outcome) (found : Outcome) → phase ≡ phases.Finished → outcome ≡ Some found → OwnDoc side given phase outcome → FoundDoc side given (Some found)
doc_of_finder side given phase outcome found finished is own =
    let P : Phase → Type 0 = λ p. OwnDoc side given p outcome in
    let Q : Option Outcome → Type 0 = λ o. FoundDoc side given o in
    subst Q is (subst P finished own)

-- a later side has the same document
pub doc_later : (before after : Side) → IsLater before after → after.doc ≡ before.doc
doc_later before after later = ap (λ (side : Side). side.doc) later.is

-- pages of a side are pages of a later one
pub own_later : (before after : Side) (pages : List Page) → IsValidSide after → IsLater before after → All (IsOwnPage before) pages → All (IsOwnPage after) pages
own_later before after pages valid later all =
    All-from_contains (IsOwnPage after) pages (λ page stands. own_pages_stay before after page valid later (All-contains (IsOwnPage before) pages page all stands))

pub own_more : (side : Side) (pages more : List Page) (page : Page) → more ≡ pages ++ page ∷ [] → All (IsOwnPage side) pages → IsOwnPage side page → All (IsOwnPage side) more
own_more side pages more page is all own =
    let P : List Page → Type 0 = λ l. All (IsOwnPage side) l in
    subst P (sym is) (All-append (IsOwnPage side) pages (page ∷ []) all (All-cons (IsOwnPage side) page [] own (All-nil (IsOwnPage side))))

-- the names after something more was wanted
pub named_then : (pages now added : List Page) (wanted more : List Want) → map (λ (page : Page). page.name) pages ≡ names_in wanted → now ≡ pages ++ added → map (λ (page : Page). page.name) added ≡ names_in more →
    map (λ (page : Page). page.name) now ≡ names_in (wanted ++ more)
named_then pages now added wanted more named is names =
    let name : Page → PageName = λ (page : Page). page.name in
    ap (map name) is ∙ map-append name pages added ∙ ap₂ (λ (x y : List PageName). x ++ y) named names ∙ sym (names_in-append wanted more)
