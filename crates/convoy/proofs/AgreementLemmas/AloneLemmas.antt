-- One client alone over a quiet link.
use Rattle.std.proofs.Common.{◌≡◌, ℕ, ◌<◌, inl, inr, List, [], ◌∷◌, ◌++◌, length, map, Option, Some, None, Contains, refl, ap, sym, subst, ◌∙◌, arith}
use Rattle.std.specs.Prelude.{reverse}
use Rattle.std.specs.List.{AllPairs}
use Rattle.std.proofs.lemmas.List.{append-nil, length-append, nil_from_length}
use Rattle.std.proofs.lemmas.List.Elements.{All-contains, Contains-append_right}
use Rattle.lc_model.specs.declared.page.PageName.{PageName}
use Rattle.lc_model.specs.declared.query.Query.{Query}
use Rattle.lc_model.proofs.ListLemmas.{AllPairs-head, AllPairs-tail, ComesFrom, ComesFrom-map, Contains-cases, Contains-here, Contains-nil}
use Rattle.lc_model.specs.Versions.History.{Entry}
use Rattle.lc_model.specs.Versions.Pages.{CutPage}
use Rattle.convoy.specs.PageLaws.Chain.{along_previous}
use Rattle.convoy.proofs.PageLawsLemmas.RowLemmas.{names_rise}
use Rattle.page_client.specs.Client.{shown}
use Rattle.page_client.specs.Shown.{Shown, want_of}
use Rattle.page_client.specs.declared.client.Client.{Client}
use Rattle.page_client.specs.declared.outcome.Outcome.TheVariants.{LinkFault}
use Rattle.page_client.specs.declared.phase.Phase.{Phase}
use Rattle.page_client.specs.declared.phase.Phase.TheVariants as phases
use Rattle.page_client.specs.declared.want.Want.{Want}
use Rattle.page_client.specs.declared.want.Want.TheVariants as wants
use Rattle.page_client.proofs.PageLemmas.{waits_for}
use Rattle.lc_world.specs.Sides.PageAt.{named}
use Rattle.lc_world.specs.Sides.Side.{IsLater, IsValidSide, Side}
use Rattle.lc_world.proofs.SidesLemmas.LaterLemmas.{with_more}
use Rattle.convoy.specs.ClientLaws.Stated.{version_at}
use Rattle.convoy.specs.ClientLaws.Answered.{names_at}
use Rattle.convoy.specs.ClientLaws.Fits.{FitsAt, FitsSide, WaitsForPage}
use Rattle.convoy.specs.ClientLaws.Wants.{AreWants, IsItsVersion, wants_of}
use Rattle.convoy.proofs.ClientLawsLemmas.OwnPageLemmas.{all_parts, pages_by_cuts}
use Rattle.convoy.proofs.ClientLawsLemmas.WantsLemmas.{wants_the_next}
use Rattle.convoy.specs.Agreement.Leaves.{HasFault, IsNamedBetween, VersionAfter}
use Rattle.convoy.specs.Agreement.OneClient.{IsNext, version_of}

-- a side between a side and itself is that side
pub between_itself : (side at left : Side) → IsLater side at → IsLater at left → left ≡ side → at ≡ side
between_itself side at left first second same =
    let one : at.history ≡ side.history ++ first.more = ap (λ (s : Side). s.history) first.is in
    let two : left.history ≡ at.history ++ second.more = ap (λ (s : Side). s.history) second.is in
    let ends : left.history ≡ side.history = ap (λ (s : Side). s.history) same in
    let none : first.more ≡ [] = nil_from_length first.more (no_more side.history at.history left.history first.more second.more one two ends) in
    first.is ∙ ap (with_more side) none ∙ ap (λ (history : List Entry). record side { history = history }) (append-nil side.history) where
      no_more : (a b c more behind : List Entry) → b ≡ a ++ more → c ≡ b ++ behind → c ≡ a → length more ≡ 0
      no_more a b c more behind one two same = omega (arith, ap length one, ap length two, ap length same, length-append a more, length-append b behind)

-- what was received begins with the time gate's reply, if anything was
abbrev pub BeginsAtGate : List Want → Type 0
BeginsAtGate [] = Unit {0}
BeginsAtGate (want ∷ more) = want ≡ wants.Gate

-- who received nothing and waits, waits for the time gate
pub waits_at_first : (side : Side) (client : Client) (given : List Want) (phase : Phase) → FitsAt side client given phase → (want_of phase ≡ wants.Finished → ⊥) → given ≡ [] → want_of phase ≡ wants.Gate
waits_at_first side client given phases.Gate fits waits none = refl
waits_at_first side client given (phases.Stops first) fits waits none = let some : given ≡ wants.Gate ∷ [] = fits.given in absurd (cc)
waits_at_first side client given (phases.Page name) fits waits none =
    let some : given ≡ wants.Gate ∷ wants.Stops ∷ map wants.Page (names_at name.version fits.before) = fits.given in
    absurd (cc)
waits_at_first side client given phases.Finished fits waits none = absurd (waits refl)

-- who waits has no outcome
none_yet : (side : Side) (client : Client) (given : List Want) (phase : Phase) → FitsAt side client given phase → (want_of phase ≡ wants.Finished → ⊥) → client.outcome ≡ None
none_yet side client given phases.Gate fits waits = fits.no_outcome
none_yet side client given (phases.Stops first) fits waits = fits.no_outcome
none_yet side client given (phases.Page name) fits waits = fits.no_outcome
none_yet side client given phases.Finished fits waits = absurd (waits refl)

pub no_fault_yet : (side : Side) (client : Client) (given : List Want) → FitsSide side client given → (want_of (shown client).phase ≡ wants.Finished → ⊥) → ¬ HasFault (shown client)
no_fault_yet side client given fits waits fault =
    let none : client.outcome ≡ None = none_yet side client given client.phase fits.fits waits in
    let some : client.outcome ≡ Some (LinkFault fault.low fault.high) = fault.is in
    cc

-- the version over a quiet link
pub version_is : (side left : Side) (s : Shown) (query : Query) (given : List Want) (version : Option ℕ) → s.query ≡ query → s.version ≡ None → left ≡ side → BeginsAtGate given → VersionAfter side left s given version →
    version ≡ version_of side query given
version_is side left s query [] version same none quiet front after = after ∙ none
version_is side left s query (wants.Gate ∷ more) version same none quiet front after =
    let named : IsNamedBetween side left s.query.known version = after in
    named.is
    ∙ ap (λ (at : Side). Some (version_at at s.query.known)) (between_itself side named.at left named.later named.before quiet)
    ∙ ap (λ (q : Query). Some (version_at side q.known)) same
version_is side left s query (wants.Stops ∷ more) version same none quiet front after = absurd (cc)
version_is side left s query (wants.Page name ∷ more) version same none quiet front after = absurd (cc)
version_is side left s query (wants.Finished ∷ more) version same none quiet front after = absurd (cc)

its_version : (side : Side) (query : Query) (given : List Want) → IsItsVersion (version_of side query given) (version_at side query.known)
its_version side query [] = tt
its_version side query (want ∷ more) = refl

-- what a client that waits wants is the next of its wants
pub is_next : (side : Side) (client : Client) (query : Query) (given : List Want) → IsValidSide side → FitsSide side client given → (shown client).query ≡ query → (shown client).version ≡ version_of side query given →
    (want_of (shown client).phase ≡ wants.Finished → ⊥) → IsNext side query given (want_of (shown client).phase)
is_next side client query given valid fits same version waits = record {
  gate = λ none. waits_at_first side client given client.phase fits.fits waits none;
  next = λ all are.
      wants_the_next side client given all (version_at side query.known) valid fits
      (subst (λ (v : Option ℕ). IsItsVersion v (version_at side query.known)) (sym version) (its_version side query given))
      (subst (λ (q : Query). AreWants side (version_at side query.known) q all) (sym same) are) waits;
}

-- of a list whose pairs are related, what is before an item is related to it
before_it : {X : Type 0} (R : X → X → Type 0) (front : List X) (x y : X) (behind : List X) → AllPairs R (front ++ y ∷ behind) → Contains front x → R x y
before_it R [] x y behind pairs stands = absurd (Contains-nil x stands)
before_it R (z ∷ front) x y behind pairs stands =
    elim (Contains-cases z front x stands) [
      | inl same ↦
          subst (λ v. R v y) same
          (All-contains (R z) (front ++ y ∷ behind) y (AllPairs-head R z (front ++ y ∷ behind) pairs) (Contains-append_right front (y ∷ behind) y (Contains-here y behind)))
      | inr more ↦ before_it R front x y behind (AllPairs-tail R z (front ++ y ∷ behind) pairs) more
    ]

-- the name of the page that is wanted is not among those of the pages before it
fresh : (version : ℕ) (first : CutPage) (rest front before : List CutPage) (page : CutPage) (behind : List CutPage) → AllPairs (λ (p q : CutPage). p.departs < q.departs) (first ∷ rest) →
    first ∷ rest ≡ (front ++ before) ++ page ∷ behind → Contains (names_at version before) (named version page.departs) → ⊥
fresh version first rest front before page behind rises parts stands =
    let from : ComesFrom (λ (p : CutPage). named version p.departs) before (named version page.departs) = ComesFrom-map (λ (p : CutPage). named version p.departs) before (named version page.departs) stands in
    let same : from.from.departs ≡ page.departs = ap (λ (n : PageName). n.departs) from.is in
    let earlier : from.from.departs < page.departs =
    before_it (λ (p q : CutPage). p.departs < q.departs) (front ++ before) from.from page behind (subst (AllPairs (λ (p q : CutPage). p.departs < q.departs)) parts rises)
    (Contains-append_right front before from.from from.stands) in
    omega arith

not_among : (names : List PageName) (name : PageName) → (Contains names name → ⊥) → Contains (wants_of names) (wants.Page name) → ⊥
not_among names name not stands =
    elim (Contains-cases wants.Gate (wants.Stops ∷ map wants.Page names) (wants.Page name) stands) [
      | inl gate ↦ cc
      | inr more ↦ elim (Contains-cases wants.Stops (map wants.Page names) (wants.Page name) more) [
        | inl stops ↦ cc
        | inr pages ↦
            (let from : ComesFrom wants.Page names (wants.Page name) = ComesFrom-map wants.Page names (wants.Page name) pages in
            let same : from.from ≡ name = page_one from.from name from.is in
            not (subst (Contains names) same from.stands))
      ]
    ] where
      page_one : (a b : PageName) → wants.Page a ≡ wants.Page b → a ≡ b
      page_one a b e = cc

-- who wants a page was not given it before
pub page_not_given : (side : Side) (client : Client) (given : List Want) (name : PageName) → IsValidSide side → FitsSide side client given → want_of (shown client).phase ≡ wants.Page name →
    Contains given (wants.Page name) → ⊥
page_not_given side client given name valid fits wants_it stands =
    let u : WaitsForPage side client given name = subst (FitsAt side client given) (waits_for client.phase name wants_it) fits.fits in
    let p = u.published in
    let parts = all_parts p.first p.rest client.query u.before u.page u.behind u.parts in
    let rises = names_rise p.list p.first p.rest (pages_by_cuts side name.version p valid u.is_published) in
    not_among (names_at name.version u.before) name (λ among.
    fresh name.version p.first p.rest (reverse (along_previous p.first p.rest client.query.leave)) u.before u.page u.behind rises parts (subst (Contains (names_at name.version u.before)) u.is_page among)
    ) (subst (λ (l : List Want). Contains l (wants.Page name)) u.given stands)
