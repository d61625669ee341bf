-- A client has a turn, or is turned until it ends: what is said of clients that plan goes on to hold.
use Rattle.std.proofs.Common.{◌≡◌, ◌∙◌, ◌⊎◌, ◌+◌, ◌-◌, ◌<◌, ◌≤◌, ℕ, inl, inr, List, [], ◌∷◌, ◌++◌, Option, Some, None, length, map, refl, ap, ap₂, sym, subst, arith, append-nil, length-append}
use Rattle.std.specs.Prelude.{IsSome, set}
use Rattle.std.specs.List.{slice_get}
use Rattle.std.proofs.lemmas.List.{length-set}
use Rattle.std.proofs.lemmas.List.Elements.{All-push}
use Rattle.std.proofs.lemmas.Option.{slice_get_within}
use Rattle.connection_uri.specs.Base.{BaseParts}
use Rattle.convoy.specs.Finish.{HasOutcome}
use Rattle.convoy.specs.State.{ConvoyState}
use Rattle.convoy.specs.declared.member.Member.{Member}
use Rattle.csa_scan.proofs.ListPlacesLemmas.{item_within, same_place, slice_get-set_other, slice_get-set_same}
use Rattle.convoy.specs.ClientLaws.Fits.{IsOfSide}
use Rattle.convoy.specs.ClientLaws.Laws.{WantsStay}
use Rattle.convoy.specs.ClientLaws.Wants.{AreWants}
use Rattle.convoy.proofs.AgreementLemmas.AloneLemmas.{between_itself}
use Rattle.convoy.proofs.AgreementLemmas.NamedLemmas.{kept_version}
use Rattle.convoy.specs.Agreement.Leaves.{HasMoved, LeavesHonest, NoneFailed, OneFailed, AgreesAfterTurnsOf}
use Rattle.convoy.specs.Agreement.Names.{Round, asked_of, failures_in, names_after, names_behind, names_of}
use Rattle.convoy.specs.Agreement.Requests.{TellsAsked, TellsRequests, request_of}
use Rattle.convoy.specs.Agreement.Rounds.{round_with}
use Rattle.cli_replay.proofs.PlanLawsLemmas.PlannedTo.{IsMemberAt, IsPlannedTo}
use Rattle.cli_replay.proofs.PlanLawsLemmas.SidesLemmas.{IsSideOfTurn, as_many_sides, later_more, side_of_turn, sides_of-other, sides_of-own, version_after-more}
use Rattle.cli_replay.specs.PlanLaws.Sides.{sides_of, version_after, version_with}
use Rattle.cli_replay.proofs.ReplayLawsLemmas.BeginsLemmas.{one_given_each}
use Rattle.cli_replay.proofs.ReplayLawsLemmas.EventLemmas.{ask_by_names-append, asked_in-append, failed_in-append, failures_in-append, given_in-append, names_behind-append, requests_in-more, requests_then, rounds_of-other, rounds_of-own}
use Rattle.cli_replay.proofs.ReplayLawsLemmas.HearsLemmas.{failed_later, of_side_at}
use Rattle.cli_replay.proofs.ReplayLawsLemmas.PlayedTo.{HasFailedSo}
use Rattle.cli_replay.proofs.ReplayLawsLemmas.TurnsClientLemmas.{in_vain_by_fault}
use Rattle.cli_replay.specs.ReplayLaws.Turns.{asked_in, failed_in, given_in, requests_in, rounds_of}
use Rattle.lc_io.proofs.CountLemmas.{RoseBy-none, RoseBy-then}
use Rattle.lc_io.specs.Counts.{Rose, RoseBy}
use Rattle.lc_model.specs.declared.page.PageName.{PageName}
use Rattle.lc_model.specs.declared.query.Query.{Query}
use Rattle.lc_world.specs.Link.{LinkSeen}
use Rattle.page_client.specs.Client.{shown}
use Rattle.page_client.specs.Shown.{Shown}
use Rattle.page_client.specs.declared.outcome.Outcome.{Outcome}
use Rattle.page_client.specs.declared.outcome.Outcome.TheVariants as outcomes
use Rattle.page_client.specs.declared.want.Want.{Want}
use Rattle.page_client.specs.declared.want.Want.TheVariants as wants
use Rattle.lc_world.proofs.SidesLemmas.LaterLemmas.{later_on}
use Rattle.lc_world.specs.Sides.Side.{IsLater, Side}
use Rattle.journey_text.specs.Script.{IsClient}

-- a link that was left so, and then so
pub leaves_then : (base : BaseParts) (side mid left : Side) (a b c : LinkSeen) → LeavesHonest base side mid a b → LeavesHonest base mid left b c → LeavesHonest base side left a c
leaves_then base side mid left a b c first second = record {
  honest = second.honest;
  later = later_on side mid left first.later second.later;
  same = λ quiet. second.same (first.quiet quiet) ∙ first.same quiet;
  quiet = λ quiet. second.quiet (first.quiet quiet);
  clear = λ clear. second.clear (first.clear clear);
  not_fallen = no_less_then a.faults b.faults c.faults first.not_fallen second.not_fallen;
} where
  no_less_then : (a b c : ℕ) → a ≤ b → b ≤ c → a ≤ c
  no_less_then a b c one two = omega arith

-- the count increased where an exchange failed
increased_by : (before side left : Side) (was is : Shown) (a b : LinkSeen) (given all_given failed : List Want) → a.faults ≤ b.faults → HasMoved before left was is a b given →
    NoneFailed was is failed ⊎ OneFailed side was is all_given failed → RoseBy (length failed) a.faults b.faults
increased_by before side left was is a b given all_given failed not_fallen moved (inl none) =
    subst (λ (l : List Want). RoseBy (length l) a.faults b.faults) (sym none.none) (RoseBy-none a.faults b.faults not_fallen)
increased_by before side left was is a b given all_given failed not_fallen moved (inr one) =
    let rose = moved.fault one.by_fault.low one.by_fault.high one.waited one.by_fault.is in
    subst (λ (l : List Want). RoseBy (length l) a.faults b.faults) (sym one.one) (once a.faults b.faults one.by_fault.low one.by_fault.high rose.from rose.to rose.rose) where
      once : (a b low high : ℕ) → a ≤ low → high ≤ b → Rose low high → RoseBy 1 a b
      once a b low high from to rose = omega arith

-- who has an outcome does not lack one
lacks : (outcome : Option Outcome) → IsSome outcome → outcome ≡ None → ⊥
lacks None some none = cc
lacks (Some ended) some none = cc

lacks_fault : (outcome : Option Outcome) (low high : ℕ) → outcome ≡ None → outcome ≡ Some (outcomes.LinkFault low high) → ⊥
lacks_fault outcome low high none some = cc

-- what is there is one
one_there : {X : Type 0} (xs : List X) (place : ℕ) (x y : X) → slice_get xs place ≡ Some x → slice_get xs place ≡ Some y → x ≡ y
one_there xs place x y first second = cc

within : (number count : ℕ) → IsClient count number → number - 1 < count
within number count is = omega (arith, is.from_one, is.at_most)

one_on : (number count : ℕ) → IsClient count number → number - 1 + 1 ≡ number
one_on number count is = omega (arith, is.from_one)

not_it : (place number count : ℕ) → IsClient count number → (place ≡ number - 1 → ⊥) → number ≡ place + 1 → ⊥
not_it place number count is not same = not (omega (arith, is.from_one))

number_is : (place number count : ℕ) → IsClient count number → place ≡ number - 1 → number ≡ place + 1
number_is place number count is at = omega (arith, is.from_one)

one_longer : {X Y : Type 0} (xs : List X) (ys : List Y) (x : X) (y : Y) → length xs ≡ length ys → length (xs ++ x ∷ []) ≡ length (ys ++ y ∷ [])
one_longer xs ys x y same = omega (arith, same, length-append xs (x ∷ []), length-append ys (y ∷ []))

failures_more : (rounds : List Round) (more : Round) → failures_in (rounds ++ more ∷ []) ≡ failures_in rounds + length more.failed
failures_more rounds more = omega (arith, failures_in-append rounds (more ∷ []))

no_gate_in_none : (given : List Want) → given ≡ [] → (more : List Want) → given ≡ wants.Gate ∷ more → ⊥
no_gate_in_none given none more begins = cc

-- a client with its question, turns and sides
is_member : (Turns : ℕ → List Round → Option Outcome → Type 0) (side : Side) (place other_place : ℕ) (query asked : Query) (member other : Member) (own given : List Want) (rounds turns : List Round)
    (sides at : List Side) → place ≡ other_place → query ≡ asked → member ≡ other → own ≡ given → rounds ≡ turns → sides ≡ at → IsMemberAt (Turns place) side query member own rounds sides →
    IsMemberAt (Turns other_place) side asked other given turns at
is_member Turns side place other_place query asked member other own given rounds turns sides at places queries members owns all all_sides m =
    subst (λ (n : ℕ). IsMemberAt (Turns n) side asked other given turns at) places
    (subst (λ (q : Query). IsMemberAt (Turns place) side q other given turns at) queries
    (subst (λ (x : Member). IsMemberAt (Turns place) side query x given turns at) members
    (subst (λ (l : List Want). IsMemberAt (Turns place) side query member l turns at) owns
    (subst (λ (l : List Round). IsMemberAt (Turns place) side query member own l at) all
    (subst (IsMemberAt (Turns place) side query member own rounds) all_sides m)))))

-- Client `client` alone had turns, which were this round. `Turns` is what was said of clients' turns before, and `Next` what is said then.
module _ (Turns Next : ℕ → List Round → Option Outcome → Type 0) (base : BaseParts) (first : Side) (cache : ℕ) (questions : List Query) (order : List ℕ) (client : ℕ) (old new : ConvoyState)
    (start before after : LinkSeen) (rounds : List Round) (sides : List Side) (wants_stay : WantsStay) (p : IsPlannedTo Turns base first cache questions order old start before rounds sides)
    (is_client : IsClient (length questions) client) (agrees : AgreesAfterTurnsOf p.last old new p.given client before after)
    (others : (place : ℕ) → (place ≡ client - 1 → ⊥) → (mine : List Round) (outcome : Option Outcome) → Turns place mine outcome → Next place mine outcome)
    (own_next : (query : Query) (mine : List Round) (at : List Side) → IsMemberAt (Turns (client - 1)) p.last query agrees.was agrees.own mine at →
    Next (client - 1) (mine ++ round_with agrees.given agrees.failed agrees.asked ∷ []) (shown agrees.is.client).outcome) where
  abbrev round : Round
  round = round_with agrees.given agrees.failed agrees.asked

  -- the side of the turn
  abbrev turn_side : IsSideOfTurn p.last agrees.left (shown agrees.was.client).query.known agrees.given (shown agrees.was.client).version (shown agrees.is.client).version
  turn_side = side_of_turn p.last agrees.left (shown agrees.was.client) agrees.given (shown agrees.is.client).version agrees.honest.later agrees.gone.moved.version

  leaves : LeavesHonest base p.last agrees.left before after
  leaves = subst (λ (b : BaseParts). LeavesHonest b p.last agrees.left before after) p.base_is agrees.honest

  later_side : IsLater p.last agrees.left
  later_side = agrees.honest.later

  same_side : start.quiet base → turn_side.at ≡ first
  same_side quiet =
      between_itself p.last turn_side.at agrees.left turn_side.later turn_side.up_to (leaves.same (p.leaves.quiet quiet)) ∙ p.leaves.same quiet

  asks : (query : Query) × (slice_get questions (client - 1) ≡ Some query)
  asks = item_within questions (client - 1) (within client (length questions) is_client)

  abbrev mine : List Round
  mine = rounds_of client order rounds

  abbrev my_sides : List Side
  my_sides = sides_of client order sides

  member : IsMemberAt (Turns (client - 1)) p.last asks.0 agrees.was agrees.own mine my_sides
  member =
      subst (λ (n : ℕ). IsMemberAt (Turns (client - 1)) p.last asks.0 agrees.was agrees.own (rounds_of n order rounds) (sides_of n order sides)) (one_on client (length questions) is_client)
      (p.members (client - 1) asks.0 agrees.was agrees.own asks.1 agrees.had agrees.own_is)

  abbrev more : List Round
  more = mine ++ round ∷ []

  given_is : agrees.own ++ agrees.given ≡ given_in more
  given_is =
      ap (λ (l : List Want). l ++ agrees.given) member.given_is ∙ ap (λ (l : List Want). given_in mine ++ l) (sym (append-nil agrees.given)) ∙ sym (given_in-append mine (round ∷ []))

  failed_is : failed_in more ≡ failed_in mine ++ agrees.failed
  failed_is = failed_in-append mine (round ∷ []) ∙ ap (λ (l : List Want). failed_in mine ++ l) (append-nil agrees.failed)

  asked_is : asked_in more ≡ asked_in mine ++ agrees.asked
  asked_is = asked_in-append mine (round ∷ []) ∙ ap (λ (l : List Want). asked_in mine ++ l) (append-nil agrees.asked)

  version_is : (shown agrees.is.client).version ≡ version_after asks.0.known more (my_sides ++ turn_side.at ∷ []) None
  version_is =
      turn_side.is ∙ ap (λ (q : Query). version_with turn_side.at q.known agrees.given (shown agrees.was.client).version) member.question
      ∙ ap (version_with turn_side.at asks.0.known agrees.given) member.version
      ∙ sym (version_after-more asks.0.known mine my_sides round turn_side.at None (as_many_sides client order rounds sides p.one_each p.sides_each))

  count_is : agrees.is.exchanges ≡ length (asked_in more)
  count_is = counted (asked_in mine) agrees.asked agrees.was.exchanges agrees.is.exchanges (asked_in more) member.count agrees.gone.count asked_is where
    counted : (front back : List Want) (n m : ℕ) (all : List Want) → n ≡ length front → m ≡ n + length back → all ≡ front ++ back → m ≡ length all
    counted front back n m all is then_is whole = omega (arith, length-append front back, ap length whole)

  -- what it asked for in vain
  by_fault_now : (shown agrees.was.client).outcome ≡ None → failed_in more ≡ agrees.failed →
      NoneFailed (shown agrees.was.client) (shown agrees.is.client) agrees.failed ⊎ OneFailed agrees.left (shown agrees.was.client) (shown agrees.is.client) (agrees.own ++ agrees.given) agrees.failed →
      HasFailedSo agrees.left asks.0 (shown agrees.is.client).version (given_in more) (failed_in more) (shown agrees.is.client).outcome
  by_fault_now waits is (inl none) =
      in_vain_by_fault agrees.left asks.0 (shown agrees.is.client).version (given_in more) (failed_in more) (shown agrees.is.client).outcome
      (λ low high e. let had = none.before (record { low = low; high = high; is = e }) in lacks_fault (shown agrees.was.client).outcome had.low had.high waits had.is)
      (is ∙ none.none)
  by_fault_now waits is (inr one) =
      subst (HasFailedSo agrees.left asks.0 (shown agrees.is.client).version (given_in more) (failed_in more)) (sym one.by_fault.is) (record {
        want = one.want;
        one = is ∙ one.one;
        gate = λ nothing. one.gate (given_is ∙ nothing);
        next = λ at all at_version are.
            let next = one.next at all at_version (subst (λ (q : Query). AreWants agrees.left at q all) (sym (agrees.gone.moved.query ∙ member.question)) are) in
            (next.0, next.1 ∙ ap (λ (l : List Want). l ++ one.want ∷ next.0) given_is);
      })

  nothing_failed : HasOutcome agrees.was →
      NoneFailed (shown agrees.was.client) (shown agrees.is.client) agrees.failed ⊎ OneFailed agrees.left (shown agrees.was.client) (shown agrees.is.client) (agrees.own ++ agrees.given) agrees.failed →
      agrees.failed ≡ []
  nothing_failed some (inl none) = none.none
  nothing_failed some (inr one) = absurd (lacks (shown agrees.was.client).outcome some one.waited)

  of_side : (place : ℕ) (m : Member) → slice_get old.members place ≡ Some m → IsOfSide p.last (shown m.client).version
  of_side place m is = of_side_at p.last old.members p.given place m p.fits.clients is

  failed_so : HasFailedSo agrees.left asks.0 (shown agrees.is.client).version (given_in more) (failed_in more) (shown agrees.is.client).outcome
  failed_so = by_outcome (shown agrees.was.client).outcome refl member.failed where
    by_outcome : (outcome : Option Outcome) → (shown agrees.was.client).outcome ≡ outcome →
        HasFailedSo p.last asks.0 (shown agrees.was.client).version (given_in mine) (failed_in mine) outcome →
        HasFailedSo agrees.left asks.0 (shown agrees.is.client).version (given_in more) (failed_in more) (shown agrees.is.client).outcome
    by_outcome None waits none = by_fault_now waits (failed_is ∙ ap (λ (l : List Want). l ++ agrees.failed) none) agrees.by_names.how
    by_outcome (Some outcome) had so =
        let some : HasOutcome agrees.was = subst IsSome (sym had) refl in
        let nothing : agrees.given ≡ [] = agrees.idle some in
        let version : (shown agrees.is.client).version ≡ (shown agrees.was.client).version =
        kept_version p.last agrees.left (shown agrees.was.client) agrees.given (shown agrees.is.client).version (no_gate_in_none agrees.given nothing) agrees.gone.moved.version in
        let given : given_in more ≡ given_in mine =
        sym given_is ∙ ap (λ (l : List Want). agrees.own ++ l) nothing ∙ append-nil agrees.own ∙ member.given_is in
        let failed : failed_in more ≡ failed_in mine =
        failed_is ∙ ap (λ (l : List Want). failed_in mine ++ l) (nothing_failed some agrees.by_names.how) ∙ append-nil (failed_in mine) in
        let still = failed_later p.last agrees.left asks.0 (shown agrees.was.client).version (given_in mine) (failed_in mine) wants_stay agrees.honest.honest.stands.valid later_side
        (of_side (client - 1) agrees.was agrees.had) (Some outcome) so in
        subst (HasFailedSo agrees.left asks.0 (shown agrees.is.client).version (given_in more) (failed_in more)) (sym (agrees.gone.moved.outcome outcome had))
        (subst (λ (v : Option ℕ). HasFailedSo agrees.left asks.0 v (given_in more) (failed_in more) (Some outcome)) (sym version)
        (subst (λ (l : List Want). HasFailedSo agrees.left asks.0 (shown agrees.was.client).version l (failed_in more) (Some outcome)) (sym given)
        (subst (λ (l : List Want). HasFailedSo agrees.left asks.0 (shown agrees.was.client).version (given_in mine) l (Some outcome)) (sym failed) still)))

  own_more : IsMemberAt (Next (client - 1)) agrees.left asks.0 agrees.is (agrees.own ++ agrees.given) more (my_sides ++ turn_side.at ∷ [])
  own_more = record {
    question = agrees.gone.moved.query ∙ member.question;
    given_is = given_is;
    version = version_is;
    count = count_is;
    turns = own_next asks.0 mine my_sides member;
    failed = failed_so;
  }

  -- the other clients
  other_stays : (place : ℕ) (query : Query) (m : Member) (own : List Want) (its : List Round) (at : List Side) → (place ≡ client - 1 → ⊥) → slice_get old.members place ≡ Some m →
      IsMemberAt (Turns place) p.last query m own its at → IsMemberAt (Next place) agrees.left query m own its at
  other_stays place query m own its at not is so = record {
    question = so.question;
    given_is = so.given_is;
    version = so.version;
    count = so.count;
    turns = others place not its (shown m.client).outcome so.turns;
    failed =
        failed_later p.last agrees.left query (shown m.client).version (given_in its) (failed_in its) wants_stay agrees.honest.honest.stands.valid later_side (of_side place m is)
        (shown m.client).outcome so.failed;
  }

  abbrev now : List (List Want)
  now = set p.given (client - 1) (agrees.own ++ agrees.given)

  abbrev then_order : List ℕ
  then_order = order ++ client ∷ []

  abbrev then_rounds : List Round
  then_rounds = rounds ++ round ∷ []

  abbrev then_sides : List Side
  then_sides = sides ++ turn_side.at ∷ []

  members : (place : ℕ) (query : Query) (m : Member) (own : List Want) → slice_get questions place ≡ Some query → slice_get new.members place ≡ Some m → slice_get now place ≡ Some own →
      IsMemberAt (Next place) agrees.left query m own (rounds_of (place + 1) then_order then_rounds) (sides_of (place + 1) then_order then_sides)
  members place query m own asked has has_own = by_place (same_place place (client - 1)) where
    by_place : (place ≡ client - 1) ⊎ (place ≡ client - 1 → ⊥) →
        IsMemberAt (Next place) agrees.left query m own (rounds_of (place + 1) then_order then_rounds) (sides_of (place + 1) then_order then_sides)
    by_place (inl at) =
        let number : client ≡ place + 1 = number_is place client (length questions) is_client at in
        let there = subst (λ (i : ℕ). slice_get questions i ≡ Some query) at asked in
        let is_there = subst (λ (i : ℕ). slice_get new.members i ≡ Some m) at has in
        let own_there = subst (λ (i : ℕ). slice_get now i ≡ Some own) at has_own in
        let put : slice_get now (client - 1) ≡ Some (agrees.own ++ agrees.given) =
        slice_get-set_same p.given (client - 1) (agrees.own ++ agrees.given) (slice_get_within p.given (client - 1) agrees.own agrees.own_is) in
        is_member Next agrees.left (client - 1) place asks.0 query agrees.is m (agrees.own ++ agrees.given) own more (rounds_of (place + 1) then_order then_rounds) (my_sides ++ turn_side.at ∷ [])
        (sides_of (place + 1) then_order then_sides) (sym at) (one_there questions (client - 1) asks.0 query asks.1 there) (one_there new.members (client - 1) agrees.is m agrees.has is_there)
        (one_there now (client - 1) (agrees.own ++ agrees.given) own put own_there)
        (sym (rounds_of-own client order rounds round p.one_each) ∙ ap (λ (n : ℕ). rounds_of n then_order then_rounds) number)
        (sym (sides_of-own client order sides turn_side.at p.sides_each) ∙ ap (λ (n : ℕ). sides_of n then_order then_sides) number) own_more
    by_place (inr not) =
        let not_this : client ≡ place + 1 → ⊥ = not_it place client (length questions) is_client not in
        let was_there : slice_get old.members place ≡ Some m = sym (agrees.others place not) ∙ has in
        let own_there : slice_get p.given place ≡ Some own = sym (slice_get-set_other p.given (client - 1) (agrees.own ++ agrees.given) place not) ∙ has_own in
        subst (λ (l : List Round). IsMemberAt (Next place) agrees.left query m own l (sides_of (place + 1) then_order then_sides)) (sym (rounds_of-other (place + 1) client order rounds round not_this p.one_each))
        (subst (IsMemberAt (Next place) agrees.left query m own (rounds_of (place + 1) order rounds)) (sym (sides_of-other (place + 1) client order sides turn_side.at not_this p.sides_each))
        (other_stays place query m own (rounds_of (place + 1) order rounds) (sides_of (place + 1) order sides) not was_there (p.members place query m own asked was_there own_there)))

  -- what the link recorded
  requests : TellsRequests start.recorded after.recorded base.authority (requests_in base questions then_order then_rounds)
  requests =
      let own : TellsAsked before.recorded after.recorded base asks.0 agrees.asked =
      subst (λ (q : Query). TellsAsked before.recorded after.recorded base q agrees.asked) member.question
      (subst (λ (b : BaseParts). TellsAsked before.recorded after.recorded b (shown agrees.was.client).query agrees.asked) p.base_is agrees.gone.recorded) in
      subst (TellsRequests start.recorded after.recorded base.authority) (sym (requests_in-more base questions order client asks.0 rounds round p.one_each asks.1))
      (requests_then start.recorded before.recorded after.recorded base.authority (requests_in base questions order rounds) (map (request_of base asks.0) agrees.asked) p.requests own)

  increased : RoseBy (failures_in then_rounds) start.faults after.faults
  increased =
      subst (λ (n : ℕ). RoseBy n start.faults after.faults) (sym (failures_more rounds round))
      (RoseBy-then (failures_in rounds) (length agrees.failed) start.faults before.faults after.faults p.increased
      (increased_by p.last agrees.left agrees.left (shown agrees.was.client) (shown agrees.is.client) before after agrees.given (agrees.own ++ agrees.given) agrees.failed agrees.honest.not_fallen agrees.gone.moved
      agrees.by_names.how))

  -- the names of the cached pages
  names_then : names_of new.kept.pages ≡ names_after cache (names_behind cache [] rounds) agrees.given
  names_then = agrees.by_names.names ∙ ap₂ (λ (capacity : ℕ) (names : List PageName). names_after capacity names agrees.given) p.capacity p.names

  as_many : length new.members ≡ length questions
  as_many =
      sym (one_given_each agrees.left new.members now agrees.fits.clients) ∙ length-set p.given (client - 1) (agrees.own ++ agrees.given)
      ∙ one_given_each p.last old.members p.given p.fits.clients ∙ p.clients

  pub one_step : IsPlannedTo Next base first cache questions (order ++ client ∷ []) new start after (rounds ++ round_with agrees.given agrees.failed agrees.asked ∷ []) (sides ++ turn_side.at ∷ [])
  one_step = record {
    last = agrees.left;
    leaves = leaves_then base first p.last agrees.left start before after p.leaves leaves;
    later = later_more first sides p.last turn_side.at agrees.left p.later turn_side.later turn_side.up_to;
    one_side = λ quiet. All-push (λ (side : Side). side ≡ first) sides turn_side.at (p.one_side quiet) (same_side quiet);
    base_is = agrees.base ∙ p.base_is;
    capacity = agrees.by_names.capacity ∙ p.capacity;
    given = now;
    fits = agrees.fits;
    clients = as_many;
    one_each = one_longer rounds order round client p.one_each;
    sides_each = one_longer sides order turn_side.at client p.sides_each;
    by_names =
        ask_by_names-append cache [] rounds (round ∷ []) p.by_names (
          record {
            asked = agrees.by_names.are ∙ ap₂ (λ (capacity : ℕ) (names : List PageName). asked_of capacity names (agrees.given ++ agrees.failed)) p.capacity p.names;
            not_kept =
                ap₂ (λ (capacity : ℕ) (names : List PageName). asked_of capacity names agrees.failed) (sym p.capacity) (sym names_then) ∙ agrees.by_names.not_kept;
          },
          tt,
        );
    names = names_then ∙ sym (names_behind-append cache [] rounds (round ∷ []));
    requests = requests;
    increased = increased;
    members = members;
  }

-- the client has stepped, at some sides
pub record HasStepped (Next : ℕ → List Round → Option Outcome → Type 0) (base : BaseParts) (first : Side) (cache : ℕ) (questions : List Query) (order : List ℕ) (convoy : ConvoyState) (start now : LinkSeen)
    (rounds : List Round) : Type 0 where
  pub sides : List Side
  pub so : IsPlannedTo Next base first cache questions order convoy start now rounds sides
