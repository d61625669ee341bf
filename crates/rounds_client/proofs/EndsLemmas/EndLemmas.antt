-- That a client of the fewest rides ends rightly over an honest link.
use Rattle.std.proofs.Common.{◌≡◌, ℕ, ◌≤◌, ◌⊎◌, inl, inr, List, [], ◌∷◌, ◌++◌, length, map, Option, Some, None, refl, ap, sym, subst, ◌∙◌, arith}
use Rattle.std.proofs.lemmas.List.{append_assoc}
use Rattle.lc_io.specs.Counts.{Rose}
use Rattle.lc_model.specs.Stop.{HasStop}
use Rattle.lc_model.specs.declared.doc.StopsDoc.{StopsDoc}
use Rattle.lc_model.specs.declared.journey.Journey.{Journey}
use Rattle.lc_model.specs.declared.query.Query.{Query}
use Rattle.connection_uri.specs.Base.{BaseParts}
use Rattle.page_json.specs.declared.page.Page.{Page}
use Rattle.lc_world.specs.Link.{LinkSeen}
use Rattle.page_client.specs.Client.{shown}
use Rattle.page_client.specs.Shown.{IsRefusal, answered}
use Rattle.page_client.specs.declared.client.Client.{Client}
use Rattle.page_client.specs.declared.fault.QueryFault.{QueryFault}
use Rattle.page_client.specs.declared.fault.QueryFault.TheVariants.{HorizonRange, SameStop, UnknownFrom, UnknownTo}
use Rattle.page_client.specs.declared.outcome.Outcome.{Outcome}
use Rattle.page_client.specs.declared.outcome.Outcome.TheVariants as outcomes
use Rattle.page_client.specs.declared.phase.Phase.{Phase}
use Rattle.page_client.specs.declared.phase.Phase.TheVariants as phases
use Rattle.page_client.specs.declared.want.Want.{Want}
use Rattle.page_client.specs.declared.want.Want.TheVariants as wants
use Rattle.lc_world.specs.Sides.Side.{Side}
use Rattle.convoy.specs.ClientLaws.Answered.{AnswersAt, NeededAt, answer_of}
use Rattle.convoy.specs.ClientLaws.Fits.{FitsAt, HasAnswered, HasFailed, IsDenied}
use Rattle.convoy.specs.ClientLaws.Steps.{BeginsInAgreement}
use Rattle.convoy.specs.ClientLaws.Wants.{AreWants, HasEnds, wants_of}
use Rattle.convoy.proofs.ClientLawsLemmas.WantsLemmas.{ends_with_an_answer, faults_cut_short, no_reply_fails_a_test, refusals_are_deserved}
use Rattle.convoy.specs.Agreement.Leaves.{HasFault, RoseWithin}
use Rattle.convoy.specs.Agreement.Requests.{TellsAsked}
use Rattle.change_rounds.specs.Fewest.{IsFewestChain}
use Rattle.rounds_client.specs.Ends.Version.{FewestAt, FewestOfNeededAt}
use Rattle.rounds_client.specs.Course.{AnswersFewest, Point}
use Rattle.rounds_client.specs.Given.{connections_of_pages}
use Rattle.rounds_client.specs.declared.ending.FewestEnd.{FewestEnd}
use Rattle.rounds_client.specs.Ends.Laws.{FewestEndsRight, FewestIsFound}
use Rattle.rounds_client.specs.Ends.Right.{EndsAt, EndsWithFewest, HasFewest, IsFront, IsNamed, IsNamedByGate, IsRefused, IsRight}
use Rattle.rounds_client.proofs.EndsLemmas.CourseLemmas.{AskedJust, AskedOneMore, SoFar, none_so_far, so_far}
use Rattle.rounds_client.proofs.EndsLemmas.ExchangeLemmas.{IsVersioned}
use Rattle.rounds_client.proofs.EndsLemmas.GivenLemmas.{doc_of_finder, names_in, names_of_wants}

-- who has an outcome has ended
finished : (side : Side) (client : Client) (wanted : List Want) (outcome : Outcome) (phase : Phase) → FitsAt side client wanted phase → client.outcome ≡ Some outcome → phase ≡ phases.Finished
finished side client wanted outcome phases.Gate fits is = let none = fits.no_outcome in absurd (cc)
finished side client wanted outcome (phases.Stops first) fits is = let none = fits.no_outcome in absurd (cc)
finished side client wanted outcome (phases.Page name) fits is = let none = fits.no_outcome in absurd (cc)
finished side client wanted outcome phases.Finished fits is = refl

-- an answer is no fault of the link, and a refusal is none
no_fault_of : (client : Client) (outcome : Outcome) → ((low high : ℕ) → outcome ≡ outcomes.LinkFault low high → ⊥) → (shown client).outcome ≡ Some outcome → ¬ HasFault (shown client)
no_fault_of client outcome not is fault = let some = fault.is in let same : outcome ≡ outcomes.LinkFault fault.low fault.high = cc in not fault.low fault.high same

-- who received nothing has no version
unversioned : (version : Option ℕ) (wanted : List Want) → IsVersioned version wanted → wanted ≡ [] → version ≡ None
unversioned None wanted versioned none = refl
unversioned (Some number) wanted versioned none = absurd (versioned none)

-- and who received the stops document has one
numbered : (version : Option ℕ) (wanted : List Want) → IsVersioned version wanted → wanted ≡ wants_of [] → (number : ℕ) × (version ≡ Some number)
numbered None wanted versioned is = let none : wanted ≡ [] = versioned in let e : wants_of [] ≡ [] = sym is ∙ none in absurd (cc)
numbered (Some number) wanted versioned is = (number, refl)

module _ {X : Type 0} (seen : X → LinkSeen) (base : BaseParts) (query : Query) (side : Side) (start : X) (last : Point X) (made : ℕ) (s : SoFar seen base query side start last made) where
  -- who ended by no fault asked for exactly what it received
  asked_just : (outcome : Outcome) → ((low high : ℕ) → outcome ≡ outcomes.LinkFault low high → ⊥) → (shown last.client).outcome ≡ Some outcome → s.asked ≡ s.wanted
  asked_just outcome not is = by_exact s.exact where
    by_exact : AskedJust (shown last.client) s.wanted s.asked ⊎ AskedOneMore s.left (shown last.client) s.wanted s.asked → s.asked ≡ s.wanted
    by_exact (inl just) = just.are
    by_exact (inr more) = absurd (no_fault_of last.client outcome not is more.by_fault)

  -- an answer is right where it is one of the fewest rides at the version
  has_fewest : (version : Option ℕ) (found answer : Option Journey) (has : HasAnswered s.left (shown last.client) s.wanted (answer_of found)) → version ≡ (shown last.client).version → s.asked ≡ s.wanted →
      FewestAt s.left has.version query answer → HasFewest s.left query version s.asked answer
  has_fewest version found answer has same all fewest =
      let P : Query → Type 0 = λ q. IsRefusal q None in
      let Q : Query → Type 0 = λ q. HasEnds s.left.doc q in
      let N : Query → Type 0 = λ q. NeededAt s.left has.version q has.names in
      record {
        accepted = subst P s.query_is has.accepted;
        ends = subst Q s.query_is has.ends;
        number = has.version;
        at_version = same ∙ has.at_version;
        of_side = has.of_side;
        is_fewest = fewest;
        names = has.names;
        are_needed = subst N s.query_is has.are_needed;
        asked_are = all ∙ has.given;
      }

  -- a journey was found
  found_right : FewestOfNeededAt → (version : Option ℕ) (journey : Journey) (outcome : Outcome) → version ≡ (shown last.client).version → (shown last.client).outcome ≡ Some (outcomes.Found journey) →
      AnswersFewest query last.given (outcomes.Found journey) outcome → EndsAt s.left query version s.asked (seen start).faults (seen last.link).faults outcome
  found_right law version journey outcome same is (doc, fewest, has_doc, outcome_is, chain) =
      let has : HasAnswered s.left (shown last.client) s.wanted (answer_of (Some journey)) = ends_with_an_answer s.left last.client s.wanted (Some journey) s.fits is in
      let own_doc : last.given.doc ≡ Some s.left.doc =
      doc_of_finder s.left last.given last.client.phase last.client.outcome (outcomes.Found journey) (finished s.left last.client s.wanted (outcomes.Found journey) last.client.phase s.fits.fits is) is s.holds.doc in
      let same_doc : doc ≡ s.left.doc = cc in
      let C : StopsDoc → Type 0 = λ d. IsFewestChain query d (connections_of_pages last.given.pages) (Some fewest) in
      let N : Query → Type 0 = λ q. NeededAt s.left has.version q has.names in
      let names : map (λ (page : Page). page.name) last.given.pages ≡ has.names = s.holds.named ∙ ap names_in has.given ∙ names_of_wants has.names in
      let at : FewestAt s.left has.version query (Some fewest) =
      (law s.left has.version query has.names last.given.pages (Some fewest) s.honest.honest.stands.valid (subst N s.query_is has.are_needed) (record { own = s.holds.own; named = names })).0 (subst C same_doc chain) in
      let E : Outcome → Type 0 = λ o. EndsAt s.left query version s.asked (seen start).faults (seen last.link).faults o in
      subst E (sym outcome_is) (has_fewest version (Some journey) (Some fewest) has same (asked_just (outcomes.Found journey) (λ low high e. cc) is) at)

  -- there is none
  none_right : (version : Option ℕ) → version ≡ (shown last.client).version → (shown last.client).outcome ≡ Some outcomes.NoJourney → HasFewest s.left query version s.asked None
  none_right version same is =
      let has : HasAnswered s.left (shown last.client) s.wanted (answer_of None) = ends_with_an_answer s.left last.client s.wanted None s.fits is in
      let A : Query → Type 0 = λ q. AnswersAt s.left has.version q (answer_of None) in
      let at = subst A s.query_is has.answers in
      has_fewest version None None has same (asked_just outcomes.NoJourney (λ low high e. cc) is) (record { live = at.live; are_live = at.are_live; is_fewest = at.is_answer })

  -- a refusal was deserved
  refused_right : (version : Option ℕ) (fault : QueryFault) → version ≡ (shown last.client).version → s.asked ≡ s.wanted → IsDenied s.left (shown last.client) s.wanted fault → IsRefused s.left query version s.asked fault
  refused_right version HorizonRange same all denied =
      let R : Query → Type 0 = λ q. IsRefusal q (Some HorizonRange) in
      record { deserved = subst R s.query_is denied.deserved; no_version = same ∙ unversioned (shown last.client).version s.wanted s.versioned denied.given; asked_are = all ∙ denied.given }
  refused_right version SameStop same all denied =
      let R : Query → Type 0 = λ q. IsRefusal q (Some SameStop) in
      record { deserved = subst R s.query_is denied.deserved; no_version = same ∙ unversioned (shown last.client).version s.wanted s.versioned denied.given; asked_are = all ∙ denied.given }
  refused_right version UnknownFrom same all denied =
      let at = numbered (shown last.client).version s.wanted s.versioned denied.given in
      let R : Query → Type 0 = λ q. IsRefusal q None in
      let F : Query → Type 0 = λ q. HasStop s.left.doc.stops q.from → ⊥ in
      record { accepted = subst R s.query_is denied.accepted; number = at.0; at_version = same ∙ at.1; no_from = subst F s.query_is denied.no_from; asked_are = all ∙ denied.given }
  refused_right version UnknownTo same all denied =
      let at = numbered (shown last.client).version s.wanted s.versioned denied.given in
      let R : Query → Type 0 = λ q. IsRefusal q None in
      let F : Query → Type 0 = λ q. HasStop s.left.doc.stops q.from in
      let T : Query → Type 0 = λ q. HasStop s.left.doc.stops q.to → ⊥ in
      record {
        accepted = subst R s.query_is denied.accepted;
        number = at.0;
        at_version = same ∙ at.1;
        from = subst F s.query_is denied.from;
        no_to = subst T s.query_is denied.no_to;
        asked_are = all ∙ denied.given;
      }

  -- where the link failed a front of the wants was asked for
  front_of_more : (version own : Option ℕ) → version ≡ own → (shown last.client).version ≡ own → (more : AskedOneMore s.left (shown last.client) s.wanted s.asked) →
      HasFailed s.left (shown last.client) s.wanted own → IsFront s.left query s.asked version
  front_of_more version None same own_is more failed =
      let F : Option ℕ → Type 0 = λ v. IsFront s.left query s.asked v in
      let nothing : s.wanted ≡ [] = failed.1 in
      let gate : s.asked ≡ wants.Gate ∷ [] = more.are ∙ ap (λ (l : List Want). l ++ more.want ∷ []) nothing ∙ ap (λ (w : Want). w ∷ []) (more.gate nothing) in
      subst F (sym same) gate
  front_of_more version (Some number) same own_is more failed =
      let F : Option ℕ → Type 0 = λ v. IsFront s.left query s.asked v in
      let W : List Want → Query → Type 0 = λ all q. AreWants s.left number q all in
      let front : IsFront s.left query s.asked (Some number) =
      (λ all are.
      let n = more.next number all own_is (subst (W all) (sym s.query_is) are) in
      (n.0, n.1 ∙ sym (append_assoc s.wanted (more.want ∷ []) n.0) ∙ ap (λ (l : List Want). l ++ n.0) (sym more.are))) in
      subst F (sym same) front

  front_right : (version : Option ℕ) (low high : ℕ) → version ≡ (shown last.client).version → (shown last.client).outcome ≡ Some (outcomes.LinkFault low high) → IsFront s.left query s.asked version
  front_right version low high same is = by_exact s.exact where
    by_exact : AskedJust (shown last.client) s.wanted s.asked ⊎ AskedOneMore s.left (shown last.client) s.wanted s.asked → IsFront s.left query s.asked version
    by_exact (inl just) = absurd (just.no_fault (record { low = low; high = high; is = is }))
    by_exact (inr more) = front_of_more version (shown last.client).version same refl more (faults_cut_short s.left last.client s.wanted low high s.fits is)

  accepted_right : (low high : ℕ) → (shown last.client).outcome ≡ Some (outcomes.LinkFault low high) → IsRefusal query None
  accepted_right low high is = by_exact s.exact where
    by_exact : AskedJust (shown last.client) s.wanted s.asked ⊎ AskedOneMore s.left (shown last.client) s.wanted s.asked → IsRefusal query None
    by_exact (inl just) = absurd (just.no_fault (record { low = low; high = high; is = is }))
    by_exact (inr more) = subst (λ (q : Query). IsRefusal q None) s.query_is more.accepted

  -- each outcome is right
  outcome_right : FewestOfNeededAt → (version : Option ℕ) (own outcome : Outcome) → version ≡ (shown last.client).version → (shown last.client).outcome ≡ Some own → AnswersFewest query last.given own outcome →
      EndsAt s.left query version s.asked (seen start).faults (seen last.link).faults outcome
  outcome_right law version (outcomes.Found journey) outcome same is answer = found_right law version journey outcome same is answer
  outcome_right law version outcomes.NoJourney outcome same is answer =
      let E : Outcome → Type 0 = λ o. EndsAt s.left query version s.asked (seen start).faults (seen last.link).faults o in
      subst E (sym answer) (none_right version same is)
  outcome_right law version (outcomes.Refused fault) outcome same is answer =
      let E : Outcome → Type 0 = λ o. EndsAt s.left query version s.asked (seen start).faults (seen last.link).faults o in
      subst E (sym answer) (refused_right version fault same (asked_just (outcomes.Refused fault) (λ low high e. cc) is) (refusals_are_deserved s.left last.client s.wanted fault s.fits is))
  outcome_right law version (outcomes.LinkFault low high) outcome same is answer =
      let E : Outcome → Type 0 = λ o. EndsAt s.left query version s.asked (seen start).faults (seen last.link).faults o in
      subst E (sym answer) (record { accepted = accepted_right low high is; front = front_right version low high same is; rose = s.fault low high is })
  outcome_right law version (outcomes.PeerWrong reply fault) outcome same is answer = absurd (no_reply_fails_a_test s.left last.client s.wanted reply fault s.fits is)

  ends_right : FewestOfNeededAt → (end : FewestEnd) (own : Outcome) → end.version ≡ (shown last.client).version → end.exchanges ≡ made → (shown last.client).outcome ≡ Some own → AnswersFewest query last.given own end.outcome →
      IsRight seen base query side start last.link end
  ends_right law end own version exchanges is answer =
      let V : Option ℕ → Type 0 = λ v. IsNamed seen base query side s.left start last.link v in
      record {
        left = s.left;
        honest = s.honest;
        asked = s.asked;
        recorded = s.recorded;
        count = exchanges ∙ s.count;
        named = subst V (sym version) s.named;
        ends = outcome_right law end.version own end.outcome version is answer;
      }

pub fewest_ends_right : BeginsInAgreement → FewestOfNeededAt → {X : Type 0} (seen : X → LinkSeen) → FewestEndsRight seen
fewest_ends_right begins law {X} seen side base query before after end honest ends =
    let first = none_so_far begins seen base query side before ends.start honest ends.begins in
    let s = so_far seen base query side before ends.points (record { client = ends.start; given = record { doc = None; pages = [] }; link = before }) ends.last first ends.leads in
    let P : X → Type 0 = λ x. IsRight seen base query side before x end in
    subst P ends.link (ends_right seen base query side before ends.last (length ends.points) s law end ends.outcome ends.version ends.exchanges ends.ended ends.answer)

-- a count that increased within others increased from the one to the other of these
rose_over : (before after low high : ℕ) → RoseWithin before after low high → Rose before after
rose_over before after low high rose = once before after low high rose.from rose.to rose.rose where
  once : (a b low high : ℕ) → a ≤ low → high ≤ b → Rose low high → Rose a b
  once a b low high from to rose = omega arith

-- a question that may be asked is not refused
not_refused : (side : Side) (query : Query) (version : Option ℕ) (asked : List Want) (fault : QueryFault) → IsRefusal query None → HasEnds side.doc query → IsRefused side query version asked fault → ⊥
not_refused side query version asked HorizonRange accepted ends refused = refused.deserved accepted.0
not_refused side query version asked SameStop accepted ends refused = accepted.1 refused.deserved.1
not_refused side query version asked UnknownFrom accepted ends refused = refused.no_from ends.from
not_refused side query version asked UnknownTo accepted ends refused = refused.no_to ends.to

module _ {X : Type 0} (seen : X → LinkSeen) (base : BaseParts) (query : Query) (side : Side) (before after : X) (end : FewestEnd) (right : IsRight seen base query side before after end) where
  named_some : (version : ℕ) → end.version ≡ Some version → IsNamedByGate seen base query side right.left before after version
  named_some version is = let P : Option ℕ → Type 0 = λ v. IsNamed seen base query side right.left before after v in subst P is right.named

  pub ends_with : (answer : Option Journey) → HasFewest right.left query end.version right.asked answer → EndsWithFewest seen base query side before after end answer
  ends_with answer has =
      let T : List Want → Type 0 = λ l. TellsAsked (seen before).recorded (seen after).recorded base query l in
      record {
        left = right.left;
        honest = right.honest;
        version = has.number;
        version_is = has.at_version;
        named = named_some has.number has.at_version;
        is_fewest = has.is_fewest;
        names = has.names;
        are_needed = has.are_needed;
        recorded = subst T has.asked_are right.recorded;
        count = right.count ∙ ap length has.asked_are;
      }

  found_by : (outcome : Outcome) → end.outcome ≡ outcome → IsRefusal query None → HasEnds right.left.doc query → ¬ Rose (seen before).faults (seen after).faults →
      EndsAt right.left query end.version right.asked (seen before).faults (seen after).faults outcome → (answer : Option Journey) × (end.outcome ≡ answered answer) × EndsWithFewest seen base query side before after end answer
  found_by (outcomes.Found journey) is accepted ends no_fault at = (Some journey, is, ends_with (Some journey) at)
  found_by outcomes.NoJourney is accepted ends no_fault at = (None, is, ends_with None at)
  found_by (outcomes.Refused fault) is accepted ends no_fault at = absurd (not_refused right.left query end.version right.asked fault accepted ends at)
  found_by (outcomes.LinkFault low high) is accepted ends no_fault at = absurd (no_fault (rose_over (seen before).faults (seen after).faults low high at.rose))
  found_by (outcomes.PeerWrong reply fault) is accepted ends no_fault at = absurd at

pub fewest_is_found : BeginsInAgreement → FewestOfNeededAt → {X : Type 0} (seen : X → LinkSeen) → FewestIsFound seen
fewest_is_found begins law {X} seen side base query before after end honest accepted known no_fault ends =
    let right : IsRight seen base query side before after end = fewest_ends_right begins law seen side base query before after end honest ends in
    let E : StopsDoc → Type 0 = λ d. HasEnds d query in
    let same : right.left.doc ≡ side.doc = ap (λ (s : Side). s.doc) right.honest.later.is in
    found_by seen base query side before after end right end.outcome refl accepted (subst E (sym same) known) no_fault right.ends
