-- Who is alone among clients made exchanges for all that it received.
use Rattle.std.proofs.Common.{◌≡◌, ◌∙◌, ◌-◌, ◌<◌, ◌&&◌, ℕ, suc, zero, Bool, true, false, List, [], ◌∷◌, ◌++◌, Option, Some, None, ap, ap₂, arith, eq-eqb, inl, inr, length, map, option_map, refl, subst, sym}
use Rattle.std.specs.List.{All, slice_get}
use Rattle.std.proofs.lemmas.List.Elements.{All-cons, All-head, All-nil, All-tail, All-weaker}
use Rattle.std.proofs.lemmas.List.{length-map, map-append}
use Rattle.std.proofs.lemmas.Option.{slice_get-map}
use Rattle.connection_uri.specs.Base.{BaseParts}
use Rattle.lc_model.proofs.RangesLemmas.{filter_all}
use Rattle.lc_model.specs.declared.doc.StopsDoc.{StopsDoc}
use Rattle.lc_model.specs.declared.journey.Journey.{Journey}
use Rattle.lc_model.specs.declared.query.Query.{Query}
use Rattle.lc_world.specs.declared.entry.Entry.{Entry}
use Rattle.page_client.specs.declared.fault.QueryFault.TheVariants.{HorizonRange, SameStop, UnknownFrom, UnknownTo}
use Rattle.page_client.specs.declared.outcome.Outcome.{Outcome}
use Rattle.page_client.specs.declared.outcome.Outcome.TheVariants as outcomes
use Rattle.page_client.specs.declared.want.Want.TheVariants as wants
use Rattle.convoy.specs.Replies.Course.{WantsAfter}
use Rattle.convoy.specs.Replies.Ends.{EndsBy, HasAnswered, HasReadStops}
use Rattle.convoy.specs.Replies.Laws.{AloneAsksAll}
use Rattle.convoy.specs.Replies.Made.{AreEntriesOf, IsEntryOf, Made, TellsAll, failure_of, reply_to}
use Rattle.convoy.specs.Replies.Met.{AreRecordedOf, IsByOneOf, Met, TakeKept, TellsMet, WasKept, asked_in, exchanges_by, is_by, met_by}
use Rattle.convoy.proofs.RepliesLemmas.CourseLemmas.{AreNew, IsForEarlier, IsNew, come_new, new_more}

-- what holds of all holds at a place
at_place : {X : Type 0} (P : X → Type 0) (xs : List X) (place : ℕ) (x : X) → All P xs → slice_get xs place ≡ Some x → P x
at_place P [] place x all is = absurd (cc)
at_place P (y ∷ xs) zero x all is = let same : y ≡ x = cc in subst P same (All-head P y xs all)
at_place P (y ∷ xs) (suc place) x all is = at_place P xs place x (All-tail P y xs all) is

-- it was received by an exchange
abbrev IsAsked : Met → Type 0
IsAsked met = met.asked ≡ true

-- a client alone is the first
is_first : (met : Met) → IsByOneOf 1 met → met.client ≡ 1
is_first met one = let from_one = one.from_one in let at_most = one.at_most in omega arith

by_first : (all : List Met) → All (IsByOneOf 1) all → All (λ (met : Met). is_by 1 met ≡ true) all
by_first all are = All-weaker (IsByOneOf 1) (λ (met : Met). is_by 1 met ≡ true) (λ met one. eq-eqb met.client 1 (is_first met one)) all are

pub met_alone : (all : List Met) → All (IsByOneOf 1) all → met_by 1 all ≡ map (λ (met : Met). met.made) all
met_alone all are = ap (map (λ (met : Met). met.made)) (filter_all (is_by 1) all (by_first all are))

counted_alone : (all : List Met) → All (IsByOneOf 1) all → All IsAsked all → exchanges_by 1 all ≡ length (met_by 1 all)
counted_alone all are asked =
    let own : Met → Bool = λ met. is_by 1 met && met.asked in
    let pass : All (λ (met : Met). own met ≡ true) all = each all are asked in
    ap (λ (l : List Met). length l) (filter_all own all pass) ∙ sym (length-map all (λ (met : Met). met.made)) ∙ ap (λ (l : List Made). length l) (sym (met_alone all are)) where
      each : (all : List Met) → All (IsByOneOf 1) all → All IsAsked all → All (λ (met : Met). (is_by 1 met && met.asked) ≡ true) all
      each [] are asked = All-nil (λ (met : Met). (is_by 1 met && met.asked) ≡ true)
      each (met ∷ all) are asked =
          All-cons (λ (m : Met). (is_by 1 m && m.asked) ≡ true) met all
          (ap₂ (λ (a b : Bool). a && b) (eq-eqb met.client 1 (is_first met (All-head (IsByOneOf 1) met all are))) (All-head IsAsked met all asked))
          (each all (All-tail (IsByOneOf 1) met all are) (All-tail IsAsked met all asked))

-- its exchanges are recorded
recorded_alone : (base : BaseParts) (query : Query) (all : List Met) (entries : List Entry) → All (IsByOneOf 1) all → AreRecordedOf base (query ∷ []) all entries →
    AreEntriesOf base query (map (λ (met : Met). met.made) all) entries
recorded_alone base query [] [] are recorded = tt
recorded_alone base query [] (e ∷ entries) are recorded = absurd recorded
recorded_alone base query (met ∷ all) [] are recorded = absurd recorded
recorded_alone base query (met ∷ all) (e ∷ entries) are recorded =
    let one = recorded.0 in
    let first : met.client ≡ 1 = is_first met (All-head (IsByOneOf 1) met all are) in
    let asks : slice_get (query ∷ []) 0 ≡ Some one.query = subst (λ (n : ℕ). slice_get (query ∷ []) (n - 1) ≡ Some one.query) first one.asks in
    let same : one.query ≡ query = cc in
    (subst (λ (q : Query). IsEntryOf base q met.made e) same one.tells, recorded_alone base query all entries (All-tail (IsByOneOf 1) met all are) recorded.1)

tells_alone : (base : BaseParts) (query : Query) (all : List Met) (before after : Option (List Entry)) → All (IsByOneOf 1) all → All IsAsked all → TellsMet base (query ∷ []) (asked_in all) before after →
    TellsAll base query (met_by 1 all) before after
tells_alone base query all before after are asked tells = record {
  entries = tells.entries;
  are = subst (λ (l : List Made). AreEntriesOf base query l tells.entries) (sym (met_alone all are))
      (recorded_alone base query all tells.entries are (subst (λ (l : List Met). AreRecordedOf base (query ∷ []) l tells.entries) (filter_all (λ (met : Met). met.asked) all asked) tells.are));
  is = tells.is;
}

-- it was made as this
abbrev made_in : List Met → List Made
made_in all = map (λ (met : Met). met.made) all

-- what is new was not cached
not_kept : (base : BaseParts) (before : List Met) (made : Made) → IsNew (made_in before) made → WasKept base before made → ⊥
not_kept base before made new kept =
    let wanted : made.want ≡ wants.Page kept.name = ap (λ (m : Made). m.want) kept.is in
    let there : slice_get (made_in before) kept.place ≡ Some kept.exchange.made = slice_get-map (λ (met : Met). met.made) before kept.place ∙ ap (option_map (λ (met : Met). met.made)) kept.there in
    let earlier : IsForEarlier kept.name kept.exchange.made = at_place (IsForEarlier kept.name) (made_in before) kept.place kept.exchange.made (new kept.name wanted) there in
    let same : kept.name.departs < kept.name.departs = earlier kept.name (ap (λ (m : Made). m.want) kept.same ∙ wanted) in
    omega arith

by_asked : (base : BaseParts) (before : List Met) (met : Met) → IsNew (made_in before) met.made → (met.asked ≡ false → WasKept base before met.made) → (asked : Bool) → met.asked ≡ asked → IsAsked met
by_asked base before met new kept true is = is
by_asked base before met new kept false is = absurd (not_kept base before met.made new (kept is))

all_asked : (base : BaseParts) (before all : List Met) → TakeKept base before all → AreNew (made_in before) (made_in all) → All IsAsked all
all_asked base before [] kept new = All-nil IsAsked
all_asked base before (met ∷ all) kept new =
    All-cons IsAsked met all (by_asked base before met new.0 kept.0 met.asked refl)
    (all_asked base (before ++ met ∷ []) all kept.1 (subst (λ (l : List Made). AreNew l (made_in all)) (sym (map-append (λ (m : Met). m.made) before (met ∷ []))) new.1))

-- what came last was new too
last_new : (base : BaseParts) (query : Query) (version : Option ℕ) (earlier made : List Made) (last : Made) → WantsAfter base query version earlier last.want → made ≡ earlier ++ last ∷ [] → AreNew [] made
last_new base query version earlier made last came is =
    let new = come_new base query version earlier last.want came in
    subst (AreNew []) (sym is) (new_more [] earlier last new.are new.is)

none_new : (made : List Made) → made ≡ [] → AreNew [] made
none_new made none = subst (AreNew []) (sym none) tt

stops_new : (base : BaseParts) (query : Query) (version : Option ℕ) (made : List Made) (doc : StopsDoc) → HasReadStops base query version made doc → AreNew [] made
stops_new base query version made doc read = last_new base query version read.earlier made (reply_to wants.Stops read.reply) read.came read.was_made

answered_new : (base : BaseParts) (query : Query) (version : Option ℕ) (made : List Made) (journey : Option Journey) → HasAnswered base query version made journey → AreNew [] made
answered_new base query version made journey has = last_new base query version has.earlier made (reply_to (wants.Page has.name) has.reply) has.came has.was_made

-- all that a client received is new, however it ended
ends_new : (base : BaseParts) (query : Query) (faults now : ℕ) (version : Option ℕ) (made : List Made) (outcome : Outcome) → EndsBy base query faults now version made outcome → AreNew [] made
ends_new base query faults now version made (outcomes.Found journey) ends = answered_new base query version made (Some journey) ends
ends_new base query faults now version made outcomes.NoJourney ends = answered_new base query version made None ends
ends_new base query faults now version made (outcomes.Refused HorizonRange) ends = none_new made ends.nothing_made
ends_new base query faults now version made (outcomes.Refused SameStop) ends = none_new made ends.nothing_made
ends_new base query faults now version made (outcomes.Refused UnknownFrom) ends = stops_new base query version made ends.doc ends.read
ends_new base query faults now version made (outcomes.Refused UnknownTo) ends = stops_new base query version made ends.doc ends.read
ends_new base query faults now version made (outcomes.LinkFault low high) ends = last_new base query version ends.earlier made (failure_of ends.want) ends.came ends.was_made
ends_new base query faults now version made (outcomes.PeerWrong reply fault) (inl got) = last_new base query version got.earlier made (reply_to got.want reply) got.came got.was_made
ends_new base query faults now version made (outcomes.PeerWrong reply fault) (inr sent) = last_new base query version sent.earlier made (reply_to (wants.Page sent.name) sent.last) sent.came sent.was_made

pub alone_asks_all : AloneAsksAll
alone_asks_all base query before after faults now version all outcome met ends =
    let new : AreNew [] (made_in all) = subst (AreNew []) (met_alone all met.by_clients) (ends_new base query faults now version (met_by 1 all) outcome ends) in
    let asked : All IsAsked all = all_asked base [] all met.kept new in
    (counted_alone all met.by_clients asked, tells_alone base query all before after met.by_clients asked met.recorded)
