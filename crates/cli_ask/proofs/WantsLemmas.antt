-- A valid side has the wants of a question. What a client received that failed is in front of them.
use Rattle.std.proofs.Common.{◌≡◌, ◌∙◌, ◌⊎◌, ℕ, inl, inr, List, [], ◌∷◌, ◌++◌, None, ap, map, refl, sym}
use Rattle.std.proofs.Math.Decide.{dec_le}
use Rattle.page_json.proofs.ObjectMembersLemmas.DecisionsLemmas.{any, both, same_text, turn}
use Rattle.lc_model.specs.Stop.{HasStop}
use Rattle.lc_model.specs.declared.doc.StopsDoc.{StopsDoc}
use Rattle.lc_model.specs.declared.page.PageName.{PageName}
use Rattle.lc_model.specs.declared.query.Query.{Query}
use Rattle.lc_model.specs.declared.stop.Stop.{Stop}
use Rattle.lc_model.specs.Versions.Pages.{CutPage}
use Rattle.convoy.specs.ClientLaws.Answered.{names_at}
use Rattle.convoy.specs.ClientLaws.Wants.{AreWants, HasEnds, wants_of}
use Rattle.convoy.proofs.ClientLawsLemmas.PublishedLemmas.{made_of}
use Rattle.convoy.specs.PageLaws.Least.{SomeLeastArrival}
use Rattle.convoy.specs.PageLaws.Needed.{needed_pages}
use Rattle.page_client.specs.Shown.{HasHorizon, IsRefusal}
use Rattle.page_client.specs.declared.fault.QueryFault.TheVariants.{HorizonRange, SameStop}
use Rattle.page_client.specs.declared.want.Want.{Want}
use Rattle.page_client.specs.declared.want.Want.TheVariants as wants
use Rattle.publisher.specs.Laws.{SomeTimetable}
use Rattle.lc_world.specs.Sides.Side.{IsValidSide, Side}
use Rattle.cli_ask.specs.Laws.{AreGivenInOrder, SomeFront, SomeWants}

-- ---- what can be found out of a question

has_horizon : (query : Query) → Dec (HasHorizon query)
has_horizon query =
    turn (λ two. record { from_one = two.0; up_to_a_week = two.1 }) (λ (has : HasHorizon query). (has.from_one, has.up_to_a_week))
    (both (dec_le 1 query.horizon) (dec_le query.horizon 604_800))

has_stop : (stops : List Stop) (id : List ℕ) → Dec (HasStop stops id)
has_stop stops id = any (λ (stop : Stop). stop.id ≡ id) (λ stop. same_text stop.id id) stops

pub has_ends : (doc : StopsDoc) (query : Query) → Dec (HasEnds doc query)
has_ends doc query =
    turn (λ two. record { from = two.0; to = two.1 }) (λ (has : HasEnds doc query). (has.from, has.to)) (both (has_stop doc.stops query.from) (has_stop doc.stops query.to))

-- ---- the wants

-- what is in front of pages are pages
front_of_pages : (names : List PageName) (rest more : List Want) → map wants.Page names ≡ rest ++ more → (front : List PageName) × (rest ≡ map wants.Page front)
front_of_pages names [] more is = ([], refl)
front_of_pages [] (want ∷ rest) more is = absurd (cc)
front_of_pages (name ∷ names) (want ∷ rest) more is =
    let first : want ≡ wants.Page name = cc in
    let behind : map wants.Page names ≡ rest ++ more = cc in
    let front = front_of_pages names rest more behind in
    (name ∷ front.0, ap (λ (w : Want). w ∷ rest) first ∙ ap (λ (l : List Want). wants.Page name ∷ l) front.1)

-- what is in front of wants, and has one at least, is the time gate, or it and the stops document and then pages
abbrev InOrder : List Want → Type 0
InOrder given = (given ≡ wants.Gate ∷ []) ⊎ ((names : List PageName) × (given ≡ wants_of names))

front_of_wants : (names : List PageName) (given more : List Want) → wants_of names ≡ given ++ more → (given ≡ [] → ⊥) → InOrder given
front_of_wants names [] more is some = absurd (some refl)
front_of_wants names (first ∷ []) more is some =
    let gate : first ≡ wants.Gate = cc in
    inl (ap (λ (w : Want). w ∷ []) gate)
front_of_wants names (first ∷ second ∷ rest) more is some =
    let gate : first ≡ wants.Gate = cc in
    let stops : second ≡ wants.Stops = cc in
    let behind : map wants.Page names ≡ rest ++ more = cc in
    let front = front_of_pages names rest more behind in
    inr (
      front.0,
      ap (λ (w : Want). w ∷ second ∷ rest) gate ∙ ap (λ (w : Want). wants.Gate ∷ w ∷ rest) stops ∙ ap (λ (l : List Want). wants.Gate ∷ wants.Stops ∷ l) front.1,
    )

none_in_front : (given more : List Want) → [] ≡ given ++ more → given ≡ []
none_in_front [] more is = refl
none_in_front (first ∷ rest) more is = absurd (cc)

in_order : (side : Side) (version : ℕ) (query : Query) (all given more : List Want) → AreWants side version query all → all ≡ given ++ more → (given ≡ [] → ⊥) → InOrder given
in_order side version query all given more (inl at_once) is some = absurd (some (none_in_front given more (sym at_once.are ∙ is)))
in_order side version query all given more (inr (inl by_stops)) is some = front_of_wants [] given more (sym by_stops.are ∙ is) some
in_order side version query all given more (inr (inr answered)) is some = front_of_wants answered.names given more (sym answered.are ∙ is) some

module _ (some_timetable : SomeTimetable) (some_least_arrival : SomeLeastArrival) where
  module _ (side : Side) (version : ℕ) (query : Query) (valid : IsValidSide side) where
    answered : IsRefusal query None → HasEnds side.doc query → (all : List Want) × AreWants side version query all
    answered accepted ends =
        let some = some_timetable side version valid in
        let made = made_of side version some.0 some.1 in
        let published = made.published in
        let least = some_least_arrival published.live query side.doc in
        let needed : List CutPage = needed_pages published.first published.rest query least.0 in
        let names : List PageName = names_at version needed in (
          wants_of names,
          inr (inr (record {
            accepted = accepted;
            ends = ends;
            names = names;
            are_needed = record {
              published = published;
              is_published = made.is_published;
              needed = needed;
              are_needed = record { best = least.0; is_best = least.1; are = refl };
              names_are = refl;
            };
            are = refl;
          })),
        )

    by_question : Dec (HasHorizon query) → Dec (query.from ≡ query.to) → Dec (HasEnds side.doc query) → (all : List Want) × AreWants side version query all
    by_question (no out) d e = ([], inl (record { fault = HorizonRange; is_refusal = out; are = refl }))
    by_question (yes horizon) (yes same) e = ([], inl (record { fault = SameStop; is_refusal = (horizon, same); are = refl }))
    by_question (yes horizon) (no other) (no lacks) = (wants_of [], inr (inl (record { accepted = (horizon, other); lacks = lacks; are = refl })))
    by_question (yes horizon) (no other) (yes ends) = answered (horizon, other) ends

  pub some_wants : SomeWants
  some_wants side version query valid = by_question side version query valid (has_horizon query) (same_text query.from query.to) (has_ends side.doc query)

  pub some_front : SomeFront
  some_front side s given version valid cut =
      let wants = some_wants side version s.query valid in
      let goes_on = cut.goes_on wants.0 wants.1 in
      (wants.0, record { are_wants = wants.1; asked = goes_on.0; more = goes_on.1; is = goes_on.2 })

  pub are_given_in_order : AreGivenInOrder
  are_given_in_order side s given version valid cut =
      let front = some_front side s given version valid cut in
      in_order side version s.query front.0 given (front.1.asked ∷ front.1.more) front.1.are_wants front.1.is cut.past_gate
