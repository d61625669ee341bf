-- What one client alone results in over a quiet link: turn after turn, and at the end.
use Rattle.std.proofs.Common.{◌≡◌, ◌≢◌, ℕ, ◌+◌, ◌-◌, ◌⊎◌, inl, inr, List, [], ◌∷◌, ◌++◌, length, Option, Some, None, Contains, refl, ap, ap₂, sym, subst, ◌∙◌, arith}
use Rattle.std.specs.Prelude.{set}
use Rattle.std.specs.List.{slice_get}
use Rattle.std.proofs.lemmas.List.{append-nil}
use Rattle.std.proofs.lemmas.List.Elements.{All-contains_itself}
use Rattle.lc_model.specs.declared.page.PageName.{PageName}
use Rattle.lc_model.specs.declared.query.Query.{Query}
use Rattle.lc_model.proofs.ListLemmas.{Contains-map, Contains-nil}
use Rattle.page_json.specs.declared.page.Page.{Page}
use Rattle.page_client.specs.Kept.{Kept, has_name}
use Rattle.page_client.proofs.KeptLemmas as kept_pages
use Rattle.lc_world.specs.Link.{IsHonestWith, IsQuietWith, LinkSeen}
use Rattle.page_client.specs.Client.{shown}
use Rattle.page_client.specs.Shown.{Begins, Shown, first_outcome, want_of}
use Rattle.page_client.specs.declared.fault.QueryFault.{QueryFault}
use Rattle.page_client.specs.declared.outcome.Outcome.{Outcome}
use Rattle.page_client.specs.declared.outcome.Outcome.TheVariants.{LinkFault, Refused}
use Rattle.page_client.specs.declared.want.Want.{Want}
use Rattle.page_client.specs.declared.want.Want.TheVariants as wants
use Rattle.lc_world.specs.Sides.Side.{IsValidSide, Side}
use Rattle.convoy.specs.ClientLaws.Fits.{FitsSide}
use Rattle.convoy.specs.ClientLaws.Steps.{BeginsInAgreement}
use Rattle.convoy.specs.Finish.{Ends, HasOutcome, IsStep, Rounds, Step, TurnsOf}
use Rattle.convoy.specs.State.{ConvoyState, begun}
use Rattle.convoy.specs.Turn.{IsCached, Turned}
use Rattle.convoy.specs.declared.member.Member.{Member}
use Rattle.convoy.specs.declared.turn.Turn.{Turn}
use Rattle.convoy.specs.declared.turn.Turn.TheVariants.{Cached, Exchanged, Finished}
use Rattle.convoy.specs.Agreement.Agreement.{FitsConvoy}
use Rattle.convoy.specs.Agreement.Leaves.{Gave, HasFault, RoseWithin, AgreesAfterTurnsOf, AgreesAfterTurn}
use Rattle.convoy.specs.Agreement.Names.{names_after, names_of}
use Rattle.convoy.specs.Agreement.OneClient.{AskedAll, AskedOneMore, IsAlone, IsNext, OneClientEndsRight, version_of}
use Rattle.convoy.specs.Agreement.Requests.{TellsAsked}
use Rattle.convoy.specs.Agreement.Rounds.{round_at}
use Rattle.convoy.proofs.AgreementLemmas.AloneLemmas.{BeginsAtGate, is_next, no_fault_yet, page_not_given, version_is}
use Rattle.convoy.proofs.AgreementLemmas.BeginLemmas.{added_agrees, none_agrees}
use Rattle.convoy.proofs.AgreementLemmas.NamesLemmas.{were_wanted}
use Rattle.convoy.proofs.AgreementLemmas.RepliesLemmas.{turns_replied}
use Rattle.convoy.proofs.AgreementLemmas.TurnLemmas.{honest_still, nothing_yet, nothing_yet_is, one_at, one_turn_more, one_turn_more_is, turn_agrees}

-- the client asked for exactly what it received, or for one more where the link failed
abbrev pub IsExact : Side → Query → Member → List Want → List Want → Type 0
IsExact side query member given asked = AskedAll member given asked ⊎ AskedOneMore side query member given asked

-- what the client has at the beginning
record IsFresh (query : Query) (start : ConvoyState) : Type 0 where
  no_version : (member : Member) → slice_get start.members 0 ≡ Some member → (shown member.client).version ≡ None
  query_is : (member : Member) → slice_get start.members 0 ≡ Some member → (shown member.client).query ≡ query
  no_fault : (member : Member) → slice_get start.members 0 ≡ Some member → ¬ HasFault (shown member.client)
  no_pages : start.kept.pages ≡ []

-- the turns so far
record AloneSoFar (side : Side) (query : Query) (start now : ConvoyState) (before after : LinkSeen) : Type 0 where
  agrees : AgreesAfterTurnsOf side start now ([] ∷ []) 1 before after
  front : BeginsAtGate agrees.given
  exact : IsExact side query agrees.is agrees.given agrees.asked

all_so_far : (side : Side) (query : Query) (member : Member) (given asked : List Want) → FitsSide side member.client given → (want_of (shown member.client).phase ≡ wants.Finished → ⊥) →
    IsExact side query member given asked → asked ≡ given
all_so_far side query member given asked fits waits (inl all) = all.are
all_so_far side query member given asked fits waits (inr more) = absurd (no_fault_yet side member.client given fits waits more.by_fault)

-- what a turn makes of what was received and asked
exact_then : (side : Side) (query : Query) (was is : Member) (given asked more more_asked : List Want) (turn : Turn) → IsValidSide side → FitsSide side was.client given → (shown was.client).query ≡ query →
    (shown was.client).version ≡ version_of side query given → (turn ≢ Cached) → Gave turn was is more more_asked → IsExact side query was given asked →
    IsExact side query is (given ++ more) (asked ++ more_asked)
exact_then side query was is given asked more more_asked Finished valid fits same version not_cached idle exact =
    let no_more : given ++ more ≡ given = ap (λ (l : List Want). given ++ l) idle.none_given ∙ append-nil given in
    let none_asked : asked ++ more_asked ≡ asked = ap (λ (l : List Want). asked ++ l) idle.none_asked ∙ append-nil asked in
    subst (λ (m : Member). IsExact side query m (given ++ more) (asked ++ more_asked)) (sym idle.same)
    (subst (λ (l : List Want). IsExact side query was l (asked ++ more_asked)) (sym no_more)
    (subst (λ (l : List Want). IsExact side query was given l) (sym none_asked) exact))
exact_then side query was is given asked more more_asked Cached valid fits same version not_cached kept exact = absurd (not_cached refl)
exact_then side query was is given asked more more_asked Exchanged valid fits same version not_cached (inl replied) exact =
    inl (record {
      no_fault = replied.no_fault;
      are = ap₂ (λ (x y : List Want). x ++ y) (all_so_far side query was given asked fits replied.waited exact) (replied.is_asked ∙ sym replied.is_given);
    })
exact_then side query was is given asked more more_asked Exchanged valid fits same version not_cached (inr failed) exact =
    let want = want_of (shown was.client).phase in
    let no_more : given ++ more ≡ given = ap (λ (l : List Want). given ++ l) failed.none_given ∙ append-nil given in
    inr (record {
      by_fault = failed.by_fault;
      want = want;
      is_next = subst (λ (l : List Want). IsNext side query l (want_of (shown was.client).phase)) (sym no_more) (is_next side was.client query given valid fits same version failed.waited);
      are =
          ap₂ (λ (x y : List Want). x ++ y) (all_so_far side query was given asked fits failed.waited exact) failed.is_asked
          ∙ ap (λ (l : List Want). l ++ want_of (shown was.client).phase ∷ []) (sym no_more);
    })

-- a cached page was received, and is not wanted any more
never_cached : (side : Side) (was is : Member) (capacity : ℕ) (start : List Page) (kept after_kept : Kept) (given : List Want) → IsValidSide side → FitsSide side was.client given → start ≡ [] →
    names_of kept.pages ≡ names_after capacity (names_of start) given → IsCached was is kept after_kept → ⊥
never_cached side was is capacity start kept after_kept given valid fits none names c =
    let holds = c.holds in
    let stands : Contains kept.pages holds.page = kept_pages.found (Contains kept.pages) (has_name holds.name) kept.pages holds.page (All-contains_itself kept.pages) holds.holds in
    let among : Contains (names_of kept.pages) holds.page.name = Contains-map (λ (p : Page). p.name) kept.pages holds.page stands in
    let after : Contains (names_after capacity [] given) holds.page.name =
    subst (λ (l : List PageName). Contains l holds.page.name) (names ∙ ap (λ (pages : List Page). names_after capacity (names_of pages) given) none) among in
    by_wanting (were_wanted capacity [] given holds.page.name after) where
      by_wanting : Contains [] c.holds.page.name ⊎ Contains given (wants.Page c.holds.page.name) → ⊥
      by_wanting (inl nothing) = Contains-nil c.holds.page.name nothing
      by_wanting (inr given_it) =
          let name : c.holds.page.name ≡ c.holds.name = kept_pages.named kept.pages c.holds.name c.holds.page c.holds.holds in
          page_not_given side was.client given c.holds.name valid fits c.holds.wants (subst (λ (n : PageName). Contains given (wants.Page n)) name given_it)

-- what was received begins with the time gate's reply
front_then : (first second : List Want) → BeginsAtGate first → (first ≡ [] → BeginsAtGate second) → BeginsAtGate (first ++ second)
front_then [] second front after = after refl
front_then (want ∷ first) second front after = front

front_one : (given : List Want) (want : Want) → given ≡ want ∷ [] → want ≡ wants.Gate → BeginsAtGate given
front_one given want is gate = subst BeginsAtGate (sym is) gate

front_none : (given : List Want) → given ≡ [] → BeginsAtGate given
front_none given is = subst BeginsAtGate (sym is) tt

gave_front : (side : Side) (query : Query) (was is : Member) (given more more_asked : List Want) (turn : Turn) → IsValidSide side → FitsSide side was.client given → (shown was.client).query ≡ query →
    (shown was.client).version ≡ version_of side query given → Gave turn was is more more_asked → given ≡ [] → BeginsAtGate more
gave_front side query was is given more more_asked Finished valid fits same version idle none = front_none more idle.none_given
gave_front side query was is given more more_asked Cached valid fits same version kept none =
    front_one more (want_of (shown was.client).phase) kept.is_given ((is_next side was.client query given valid fits same version kept.waited).gate none)
gave_front side query was is given more more_asked Exchanged valid fits same version (inl replied) none =
    front_one more (want_of (shown was.client).phase) replied.is_given ((is_next side was.client query given valid fits same version replied.waited).gate none)
gave_front side query was is given more more_asked Exchanged valid fits same version (inr failed) none = front_none more failed.none_given

-- the only list of one client
own_is_none : (own : List Want) → slice_get ([] ∷ []) 0 ≡ Some own → own ≡ []
own_is_none own is = cc

-- the client as it is after the turns up to now
record Stands (side : Side) (query : Query) (member : Member) (given : List Want) : Type 0 where
  fits : FitsSide side member.client given
  query_is : (shown member.client).query ≡ query
  version : (shown member.client).version ≡ version_of side query given

stands_so_far : (side : Side) (query : Query) (start now : ConvoyState) (before after : LinkSeen) → IsFresh query start → before.quiet start.base → (s : AloneSoFar side query start now before after) →
    Stands side query s.agrees.is s.agrees.given
stands_so_far side query start now before after fresh quiet s =
    let a = s.agrees in
    let same : a.left ≡ side = a.honest.same quiet in
    let none : a.own ≡ [] = own_is_none a.own a.own_is in
    let query_is : (shown a.was.client).query ≡ query = fresh.query_is a.was a.had in
    record {
      fits = subst (λ (side : Side). FitsSide side a.is.client a.given) same (subst (λ (own : List Want). FitsSide a.left a.is.client (own ++ a.given)) none a.client);
      query_is = a.gone.moved.query ∙ query_is;
      version = version_is side a.left (shown a.was.client) query a.given (shown a.is.client).version query_is (fresh.no_version a.was a.had) same s.front a.gone.moved.version;
    }

-- a turn more
module _ {X : Type 0} (seen : X → LinkSeen) (side : Side) (query : Query) (start mid new : ConvoyState) (before link after : X) (turn : Turn) (fresh : IsFresh query start)
    (honest : IsHonestWith (seen before) start.base side) (quiet : (seen before).quiet start.base) (first : AloneSoFar side query start mid (seen before) (seen link))
    (step : IsStep seen 1 mid new link after turn) where
  was : Member
  was = first.agrees.is

  stands : Stands side query first.agrees.is first.agrees.given
  stands = stands_so_far side query start mid (seen before) (seen link) fresh quiet first

  not_cached : turn ≢ Cached
  not_cached is =
      let t = step.turned in
      let cached : IsCached t.was t.is mid.kept new.kept = subst (Turned mid.base t.was t.is mid.kept new.kept (seen link) (seen after)) is t.turned in
      let same : t.was ≡ first.agrees.is = one_at mid.members 0 t.was first.agrees.is t.had first.agrees.has in
      never_cached side first.agrees.is t.is start.kept.capacity start.kept.pages mid.kept new.kept first.agrees.given honest.stands.valid stands.fits fresh.no_pages first.agrees.by_names.names
      (subst (λ (m : Member). IsCached m t.is mid.kept new.kept) same cached)

  turned : AgreesAfterTurn first.agrees.left mid new (set ([] ∷ []) (1 - 1) (first.agrees.own ++ first.agrees.given)) 1 (seen link) (seen after) turn (round_at turn (shown step.turned.was.client) (shown step.turned.is.client))
  turned =
      turn_agrees seen first.agrees.left mid new (set ([] ∷ []) (1 - 1) (first.agrees.own ++ first.agrees.given)) 1 link after turn
      (honest_still start.base mid.base first.agrees.left (seen link) first.agrees.base first.agrees.honest.honest) first.agrees.fits step

  gave : Gave turn first.agrees.is turned.agrees.is turned.agrees.given turned.agrees.asked
  gave =
      subst (λ (m : Member). Gave turn m turned.agrees.is turned.agrees.given turned.agrees.asked)
      (one_at mid.members 0 turned.agrees.was first.agrees.is turned.agrees.had first.agrees.has) turned.gave

  one_more : AloneSoFar side query start new (seen before) (seen after)
  one_more =
      let next = one_turn_more side start mid new ([] ∷ []) 1 (seen before) (seen link) (seen after) turn first.agrees turned in
      let is = one_turn_more_is side start mid new ([] ∷ []) 1 (seen before) (seen link) (seen after) turn first.agrees turned in
      let given = first.agrees.given ++ turned.agrees.given in
      let asked = first.agrees.asked ++ turned.agrees.asked in
      let exact : IsExact side query turned.agrees.is (first.agrees.given ++ turned.agrees.given) (first.agrees.asked ++ turned.agrees.asked) =
      exact_then side query first.agrees.is turned.agrees.is first.agrees.given first.agrees.asked turned.agrees.given turned.agrees.asked turn honest.stands.valid stands.fits stands.query_is stands.version
      not_cached gave first.exact in
      let front : BeginsAtGate (first.agrees.given ++ turned.agrees.given) =
      front_then first.agrees.given turned.agrees.given first.front
      (gave_front side query first.agrees.is turned.agrees.is first.agrees.given turned.agrees.given turned.agrees.asked turn honest.stands.valid stands.fits stands.query_is stands.version gave) in
      record {
        agrees = next;
        front = subst BeginsAtGate (sym is.1) front;
        exact =
            subst (λ (m : Member). IsExact side query m next.given next.asked) (sym is.0)
            (subst (λ (l : List Want). IsExact side query turned.agrees.is l next.asked) (sym is.1)
            (subst (λ (l : List Want). IsExact side query turned.agrees.is (first.agrees.given ++ turned.agrees.given) l) (sym is.2) exact));
      }

alone_turns :
    {X : Type 0} (seen : X → LinkSeen) (side : Side) (query : Query) (start new : ConvoyState) (before after : X) (steps : List (Step X)) (member : Member) → IsFresh query start →
    IsHonestWith (seen before) start.base side → (seen before).quiet start.base → FitsConvoy side start ([] ∷ []) → slice_get new.members 0 ≡ Some member → TurnsOf seen 1 steps start new before after →
    AloneSoFar side query start new (seen before) (seen after)
alone_turns {X} seen side query start new before after [] member fresh honest quiet fits has turns =
    let there : slice_get start.members 0 ≡ Some member = subst (λ (c : ConvoyState). slice_get c.members 0 ≡ Some member) turns.0 has in
    let nothing = nothing_yet side start ([] ∷ []) 1 (seen before) member honest fits there in
    let is = nothing_yet_is side start ([] ∷ []) 1 (seen before) member honest fits there in
    subst (λ (x : X). AloneSoFar side query start new (seen before) (seen x)) (sym turns.1)
    (subst (λ (c : ConvoyState). AloneSoFar side query start c (seen before) (seen before)) (sym turns.0) (record {
      agrees = nothing;
      front = front_none nothing.given is.1;
      exact = inl (record {
        no_fault = subst (λ (m : Member). ¬ HasFault (shown m.client)) (sym is.0) (fresh.no_fault member there);
        are = is.2 ∙ sym is.1;
      });
    }))
alone_turns seen side query start new before after (step ∷ earlier) member fresh honest quiet fits has turns =
    let is_step = turns.0 in
    let first = alone_turns seen side query start step.convoy before step.link earlier is_step.turned.was fresh honest quiet fits is_step.turned.had turns.1 in
    one_more seen side query start step.convoy new before step.link after step.turn fresh honest quiet first is_step

-- the list of the one client has no other
alone : (members : List Member) (other member : Member) → slice_get members 0 ≡ Some member → ((j : ℕ) → j ≢ 0 → slice_get members j ≡ slice_get (other ∷ []) j) → members ≡ member ∷ []
alone [] other member has others = absurd (cc)
alone (only ∷ []) other member has others = let same : only ≡ member = cc in ap (λ (m : Member). m ∷ []) same
alone (only ∷ more ∷ members) other member has others = let none : Some more ≡ None = others 1 (λ e. omega arith) in absurd (cc)

-- a client that begins has no fault of the link, and gets none where its question was refused
not_at_first : (refusal : Option QueryFault) (low high : ℕ) → first_outcome refusal ≡ Some (LinkFault low high) → ⊥
not_at_first None low high is = cc
not_at_first (Some fault) low high is = cc

-- the client of a convoy that has one
the_one : (members : List Member) (only member : Member) → members ≡ only ∷ [] → slice_get members 0 ≡ Some member → only ≡ member
the_one members only member is has =
    let there : slice_get (only ∷ []) 0 ≡ Some member = subst (λ (l : List Member). slice_get l 0 ≡ Some member) is has in
    let same : Some only ≡ Some member = there in
    cc

fresh_at_first : (query : Query) (start : ConvoyState) (only : Member) → start.members ≡ only ∷ [] → start.kept.pages ≡ [] → Begins query (shown only.client) → IsFresh query start
fresh_at_first query start only is none begins = record {
  no_version = λ member has. subst (λ (m : Member). (shown m.client).version ≡ None) (the_one start.members only member is has) (ap (λ (s : Shown). s.version) begins.is);
  query_is = λ member has. subst (λ (m : Member). (shown m.client).query ≡ query) (the_one start.members only member is has) (ap (λ (s : Shown). s.query) begins.is);
  no_fault = λ member has.
      subst (λ (m : Member). ¬ HasFault (shown m.client)) (the_one start.members only member is has)
      (λ fault. not_at_first begins.refusal fault.low fault.high (sym (ap (λ (s : Shown). s.outcome) begins.is) ∙ fault.is));
  no_pages = none;
}

-- where it ended by a fault of the link, that came after the beginning
fault_came : (refusal : Option QueryFault) (was is : Option Outcome) (low high : ℕ) (Rises : Type 0) → was ≡ first_outcome refusal → ((ended : Outcome) → was ≡ Some ended → is ≡ Some ended) →
    (was ≡ None → Rises) → is ≡ Some (LinkFault low high) → Rises
fault_came None was is low high Rises begins stays rises some = rises begins
fault_came (Some fault) was is low high Rises begins stays rises some = let refused : is ≡ Some (Refused fault) = stays (Refused fault) begins in absurd (cc)

alone_ends :
    {X : Type 0} (seen : X → LinkSeen) (side : Side) (query : Query) (start new : ConvoyState) (before after : X) (only : Member) → IsQuietWith (seen before) start.base side → start.members ≡ only ∷ [] →
    start.kept.pages ≡ [] → Begins query (shown only.client) → only.exchanges ≡ 0 → FitsConvoy side start ([] ∷ []) → Ends seen 1 start new before after → IsAlone side start.base query new (seen before) (seen after)
alone_ends seen side query start new before after only quiet is none begins none_made fits ends =
    let fresh = fresh_at_first query start only is none begins in
    let s = alone_turns seen side query start new before after ends.steps ends.member fresh quiet.as_honest quiet.quiet fits ends.is ends.turns in
    let a = s.agrees in
    let stands = stands_so_far side query start new (seen before) (seen after) fresh quiet.quiet s in
    let same : only ≡ a.was = the_one start.members only a.was is a.had in
    let query_is : (shown a.was.client).query ≡ query = fresh.query_is a.was a.had in
    let no_exchange : a.was.exchanges ≡ 0 = subst (λ (m : Member). m.exchanges ≡ 0) same none_made in
    let first : (shown a.was.client).outcome ≡ first_outcome begins.refusal = subst (λ (m : Member). (shown m.client).outcome ≡ first_outcome begins.refusal) same (ap (λ (s : Shown). s.outcome) begins.is) in
    record {
      member = a.is;
      only = alone new.members only a.is a.has (λ j other. a.others j other ∙ ap (λ (members : List Member). slice_get members j) is);
      given = a.given;
      fits = stands.fits;
      ended = subst HasOutcome (one_at new.members 0 ends.member a.is ends.is a.has) ends.ended;
      query_is = stands.query_is;
      version_is = stands.version;
      asked = a.asked;
      exact = s.exact;
      count = a.gone.count ∙ ap (λ (n : ℕ). n + length a.asked) no_exchange ∙ none_before (length a.asked);
      recorded = subst (λ (q : Query). TellsAsked (seen before).recorded (seen after).recorded start.base q a.asked) query_is a.gone.recorded;
      replied = (turns_replied seen start.base side 1 ends.steps start new before after refl quiet ends.turns).replied.tells;
      fault = λ low high some.
          fault_came begins.refusal (shown a.was.client).outcome (shown a.is.client).outcome low high (RoseWithin (seen before).faults (seen after).faults low high) first a.gone.moved.outcome
          (λ had. a.gone.moved.fault low high had some) some;
      quiet = record {
        as_honest = subst (λ (side : Side). IsHonestWith (seen after) start.base side) (a.honest.same quiet.quiet) a.honest.honest;
        quiet = a.honest.quiet quiet.quiet;
      };
      clear = a.honest.clear;
    } where
      none_before : (n : ℕ) → 0 + n ≡ n
      none_before n = omega arith

pub one_client_ends_right : BeginsInAgreement → {X : Type 0} (seen : X → LinkSeen) → OneClientEndsRight seen
one_client_ends_right begins {X} seen side base capacity query start new before after quiet adds rounds =
    subst (λ (convoy : ConvoyState). Rounds seen (length convoy.members) convoy new before after → IsAlone side base query new (seen before) (seen after)) (sym adds.is) one rounds where
      first : ConvoyState
      first = record (begun base capacity) { members = adds.member ∷ [] }

      fits : FitsConvoy side (record (begun base capacity) { members = adds.member ∷ [] }) ([] ∷ [])
      fits = added_agrees begins side (begun base capacity) (record (begun base capacity) { members = adds.member ∷ [] }) [] query (none_agrees side base capacity)
          (record { member = adds.member; begins = adds.begins; none_made = adds.none_made; is = refl })

      one : Rounds seen 1 (record (begun base capacity) { members = adds.member ∷ [] }) new before after → IsAlone side base query new (seen before) (seen after)
      one (mid, link, (same, still), ends) =
          alone_ends seen side query (record (begun base capacity) { members = adds.member ∷ [] }) new before after adds.member quiet refl refl adds.begins adds.none_made fits
          (subst (λ (x : X). Ends seen 1 (record (begun base capacity) { members = adds.member ∷ [] }) new x after) still
          (subst (λ (convoy : ConvoyState). Ends seen 1 convoy new link after) same ends))
