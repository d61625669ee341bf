-- The clients of an event sequence over any link: what they received in its turns, and after them.
use Rattle.std.proofs.Common.{◌≡◌, ◌≢◌, ◌∙◌, ◌⊎◌, ◌-◌, ◌<◌, ◌≤◌, ℕ, zero, suc, inl, inr, List, [], ◌∷◌, ◌++◌, Some, ap, ap₂, append-nil, append_assoc, arith, length, refl, subst, sym}
use Rattle.std.specs.List.{All, slice_get}
use Rattle.std.proofs.lemmas.List.Elements.{All-append, All-cons, All-head, All-nil, All-tail, All-weaker}
use Rattle.std.proofs.lemmas.Option.{slice_get_within}
use Rattle.convoy.specs.Replies.Met.{Met}
use Rattle.convoy.proofs.RepliesLemmas.ClientsLemmas.{AreSo, HasGrown, Meets, MeetsNone, MeetsOne, are_asked, are_later, not_yet, turn_meets}
use Rattle.connection_uri.specs.Base.{BaseParts}
use Rattle.convoy.specs.Finish.{HasOutcome, IsStep, Rounds, Step, TurnsOf}
use Rattle.convoy.specs.State.{Adds, ConvoyState}
use Rattle.convoy.specs.declared.member.Member.{Member}
use Rattle.convoy.specs.declared.turn.Turn.{Turn}
use Rattle.convoy.specs.Agreement.Names.{Round}
use Rattle.convoy.specs.Agreement.Rounds.{round_at, round_in, round_then, rounds_up_to}
use Rattle.csa_scan.proofs.ListPlacesLemmas.{same_place, slice_get-append, slice_get-set_other, slice_get-set_same}
use Rattle.lc_io.specs.declared.file.File.{File}
use Rattle.lc_model.specs.declared.query.Query.{Query}
use Rattle.lc_world.specs.Link.{LinkSeen}
use Rattle.page_client.specs.Client.{shown}
use Rattle.page_client.specs.declared.want.Want.{Want}
use Rattle.cli_replay.specs.ReplayLaws.Caused.{AreByNumber, AreMetInTurns, NoneIsOf}
use Rattle.cli_replay.specs.ReplayLaws.Events.{questions_in, turns_in}
use Rattle.cli_replay.specs.ReplayLaws.History.{AreMetIn, IsMetIn}
use Rattle.cli_replay.specs.ReplayLaws.Played.{IsGiven, Plays}
use Rattle.cli_replay.specs.ReplayLaws.Turns.{counted}
use Rattle.cli_replay.specs.declared.replay_laws.event.Event.{Event}
use Rattle.cli_replay.specs.declared.replay_laws.event.Event.TheVariants as events
use Rattle.cli_replay.specs.ReplayLaws.Rounds.{rounds_along}
use Rattle.cli_replay.proofs.ReplayLawsLemmas.HistoryLemmas.{met_in-append, met_in_turn, met_nothing, met_then, turn_over}

-- the message leaves it so
given_grows : (before after : LinkSeen) (file : File) (line : List ℕ) → IsGiven before after file line → HasGrown before after
given_grows before after file line given = record {
  clear = given.clear;
  not_fallen = (let same : after.faults ≡ before.faults = given.faults in omega (arith, same));
}

-- the client at a place has its outcome
record HasEndedAt (convoy : ConvoyState) (place : ℕ) : Type 0 where
  member : Member
  is : slice_get convoy.members place ≡ Some member
  has : HasOutcome member

-- what was received between two states of a convoy: none by a client that had its outcome, which it keeps
pub record Goes (old new : ConvoyState) (more : List Met) : Type 0 where
  pub none : (place : ℕ) (member : Member) → slice_get old.members place ≡ Some member → HasOutcome member → NoneIsOf (suc place) more
  keeps : (place : ℕ) (member : Member) → slice_get old.members place ≡ Some member → HasOutcome member → HasEndedAt new place

none_of_none : (client : ℕ) → NoneIsOf client []
none_of_none client = All-nil (λ (met : Met). met.client ≢ client)

none_of_both : (client : ℕ) (more rest : List Met) → NoneIsOf client more → NoneIsOf client rest → NoneIsOf client (more ++ rest)
none_of_both client more rest = All-append (λ (met : Met). met.client ≢ client) more rest

goes_not : (convoy : ConvoyState) → Goes convoy convoy []
goes_not convoy = record { none = λ place member is has. none_of_none (suc place); keeps = λ place member is has. record { member = member; is = is; has = has } }

goes_then : (a b c : ConvoyState) (more rest : List Met) → Goes a b more → Goes b c rest → Goes a c (more ++ rest)
goes_then a b c more rest one two = record {
  none = λ place member is has.
      let between = one.keeps place member is has in
      none_of_both (suc place) more rest (one.none place member is has) (two.none place between.member between.is between.has);
  keeps = λ place member is has. let between = one.keeps place member is has in two.keeps place between.member between.is between.has;
}

goes_asked : (old new : ConvoyState) (query : Query) → Adds old query new → Goes old new []
goes_asked old new query adds = record {
  none = λ place member is has. none_of_none (suc place);
  keeps = λ place member is has. record {
    member = member;
    is = ap (λ (c : ConvoyState). slice_get c.members place) adds.is ∙ slice_get-append old.members (adds.member ∷ []) place member is;
    has = has;
  };
}

one_member : (members : List Member) (place : ℕ) (a b : Member) → slice_get members place ≡ Some a → slice_get members place ≡ Some b → a ≡ b
one_member members place a b is_a is_b = (let both : Some a ≡ Some b = sym is_a ∙ is_b in cc)

-- client k had its turn
module _ {X : Type 0} (seen : X → LinkSeen) (base : BaseParts) (cache : ℕ) (questions : List Query) (first : LinkSeen) (k : ℕ) (from_one : 1 ≤ k) (old new : ConvoyState) (link after : X) (turn : Turn) (all : List Met)
    (step : IsStep seen k old new link after turn) (m : Meets base cache questions first (seen after) new k step.turned.was step.turned.is all turn) where
  -- what it has become is at its place
  it_is : slice_get new.members (k - 1) ≡ Some step.turned.is
  it_is =
      let t = step.turned in
      let within : k - 1 < length old.members = slice_get_within old.members (k - 1) t.was t.had in
      ap (λ (l : List Member). slice_get l (k - 1)) t.members ∙ slice_get-set_same old.members (k - 1) t.is within

  of_itself : (place : ℕ) (member : Member) → slice_get old.members place ≡ Some member → HasOutcome member → place ≡ k - 1 → MeetsOne k step.turned.was m.more ⊎ MeetsNone step.turned.was step.turned.is m.more →
      MeetsNone step.turned.was step.turned.is m.more
  of_itself place member is has at (inl one) =
      let there : slice_get old.members place ≡ Some step.turned.was = subst (λ (p : ℕ). slice_get old.members p ≡ Some step.turned.was) (sym at) step.turned.had in
      let had : HasOutcome step.turned.was = subst HasOutcome (one_member old.members place member step.turned.was is there) has in
      absurd (not_yet (shown step.turned.was.client).outcome one.waited had)
  of_itself place member is has at (inr none) = none

  none_of_other : (place : ℕ) → (place ≡ k - 1 → ⊥) → MeetsOne k step.turned.was m.more ⊎ MeetsNone step.turned.was step.turned.is m.more → NoneIsOf (suc place) m.more
  none_of_other place other (inl one) =
      let not_own : one.one.client ≢ suc place = λ same. other (let own = one.client in omega (arith, same, own)) in
      subst (NoneIsOf (suc place)) (sym one.is) (All-cons (λ (met : Met). met.client ≢ suc place) one.one [] not_own (none_of_none (suc place)))
  none_of_other place other (inr none) = subst (NoneIsOf (suc place)) (sym none.none) (none_of_none (suc place))

  none_at : (place : ℕ) (member : Member) → slice_get old.members place ≡ Some member → HasOutcome member → (place ≡ k - 1) ⊎ (place ≡ k - 1 → ⊥) → NoneIsOf (suc place) m.more
  none_at place member is has (inl at) = subst (NoneIsOf (suc place)) (sym (of_itself place member is has at m.how).none) (none_of_none (suc place))
  none_at place member is has (inr other) = none_of_other place other m.how

  keeps_at : (place : ℕ) (member : Member) → slice_get old.members place ≡ Some member → HasOutcome member → (place ≡ k - 1) ⊎ (place ≡ k - 1 → ⊥) → HasEndedAt new place
  keeps_at place member is has (inl at) = record {
    member = step.turned.is;
    is = subst (λ (p : ℕ). slice_get new.members p ≡ Some step.turned.is) (sym at) it_is;
    has = (of_itself place member is has at m.how).has;
  }
  keeps_at place member is has (inr other) = record {
    member = member;
    is = ap (λ (l : List Member). slice_get l place) step.turned.members ∙ slice_get-set_other old.members (k - 1) step.turned.is place other ∙ is;
    has = has;
  }

  pub goes_turned : Goes old new m.more
  goes_turned = record {
    none = λ place member is has. none_at place member is has (same_place place (k - 1));
    keeps = λ place member is has. keeps_at place member is has (same_place place (k - 1));
  }

-- none of these is of a client that has its outcome there
abbrev pub NoneIsOfEnded : ConvoyState → List Met → Type 0
NoneIsOfEnded convoy tail = (place : ℕ) (member : Member) → slice_get convoy.members place ≡ Some member → HasOutcome member → NoneIsOf (suc place) tail

-- what clients received in turns, which are these rounds, before whatever they receive after them
pub record Played (base : BaseParts) (cache : ℕ) (questions : List Query) (first now : LinkSeen) (turns : List ℕ) (rounds : List Round) (old new : ConvoyState) (all : List Met) : Type 0 where
  pub more : List Met
  pub so : AreSo base cache questions first now new (all ++ more)
  goes : Goes old new more
  pub in_turns : (tail : List Met) → AreByNumber tail → NoneIsOfEnded new tail → AreMetInTurns turns (more ++ tail)
  pub met_in : AreMetIn turns rounds more

-- the turns are of clients
abbrev pub AreFromOne : List ℕ → Type 0
AreFromOne turns = All (λ (client : ℕ). 1 ≤ client) turns

module _ {X : Type 0} (seen : X → LinkSeen) (base : BaseParts) (cache : ℕ) (first : LinkSeen) where
  -- what has not changed is so still
  are_same : (questions : List Query) (old new : ConvoyState) (link after : X) (all : List Met) → AreSo base cache questions first (seen link) old all → new ≡ old → after ≡ link → AreSo base cache questions first (seen after) new all
  are_same questions old new link after all so same same_link =
      subst (λ (x : X). AreSo base cache questions first (seen x) new all) (sym same_link)
      (subst (λ (c : ConvoyState). AreSo base cache questions first (seen link) c all) (sym same) so)

  -- a turn, and then the rest
  module _ (questions now_questions : List Query) (k : ℕ) (from_one : 1 ≤ k) (turns : List ℕ) (rounds : List Round) (old between new : ConvoyState) (link behind after : X) (turn : Turn) (all : List Met) (step : IsStep seen k old between link behind turn)
      (m : Meets base cache questions first (seen behind) between k step.turned.was step.turned.is all turn) (rest : Played base cache now_questions first (seen after) turns rounds between new (all ++ m.more)) where
    abbrev all_met : List Met
    all_met = m.more ++ rest.more

    in_turn : (tail : List Met) → AreByNumber tail → NoneIsOfEnded new tail → MeetsOne k step.turned.was m.more ⊎ MeetsNone step.turned.was step.turned.is m.more → AreMetInTurns (k ∷ turns) (all_met ++ tail)
    in_turn tail by_number none (inl one) =
        inl (rest.more ++ tail, record { first = one.one; is = ap (λ (l : List Met). (l ++ rest.more) ++ tail) one.is; own = one.client }, rest.in_turns tail by_number none)
    in_turn tail by_number none (inr idle) =
        let there : slice_get between.members (k - 1) ≡ Some step.turned.is = it_is seen base cache questions first k from_one old between link behind turn all step m in
        let behind_it : HasEndedAt new (k - 1) = rest.goes.keeps (k - 1) step.turned.is there idle.has in
        let number : suc (k - 1) ≡ k = omega arith in
        let none_more : NoneIsOf k rest.more = subst (λ (n : ℕ). NoneIsOf n rest.more) number (rest.goes.none (k - 1) step.turned.is there idle.has) in
        let none_behind : NoneIsOf k tail = subst (λ (n : ℕ). NoneIsOf n tail) number (none (k - 1) behind_it.member behind_it.is behind_it.has) in
        let same : all_met ++ tail ≡ rest.more ++ tail = ap (λ (l : List Met). (l ++ rest.more) ++ tail) idle.none in
        inr (subst (NoneIsOf k) (sym same) (none_of_both k rest.more tail none_more none_behind), subst (AreMetInTurns turns) (sym same) (rest.in_turns tail by_number none))

    pub turn_played : Played base cache now_questions first (seen after) (k ∷ turns) (round_at turn (shown step.turned.was.client) (shown step.turned.is.client) ∷ rounds) old new all
    turn_played = record {
      more = all_met;
      so = subst (AreSo base cache now_questions first (seen after) new) (append_assoc all m.more rest.more) rest.so;
      goes = goes_then old between new m.more rest.more (goes_turned seen base cache questions first k from_one old between link behind turn all step m) rest.goes;
      in_turns = λ tail by_number none. in_turn tail by_number none m.how;
      met_in = (m.more, rest.more, refl, met_in_turn turn k step.turned.was step.turned.is m.more m.met, rest.met_in);
    }

  -- all happened that is left of an event sequence
  pub are_played : (rest : List Event) (questions : List Query) (old new : ConvoyState) (link after : X) (lines : List ℕ) (all : List Met) → AreFromOne (turns_in rest) → AreSo base cache questions first (seen link) old all →
      (plays : Plays seen rest old new link after lines) → Played base cache (questions ++ questions_in rest) first (seen after) (turns_in rest) (rounds_along seen rest old new link after lines plays) old new all
  are_played [] questions old new link after lines all from_one so (same, same_link, none) =
      record {
        more = [];
        so = subst (AreSo base cache (questions ++ []) first (seen after) new) (sym (append-nil all))
            (subst (λ (l : List Query). AreSo base cache l first (seen after) new all) (sym (append-nil questions)) (are_same questions old new link after all so same same_link));
        goes = subst (λ (c : ConvoyState). Goes old c []) (sym same) (goes_not old);
        in_turns = λ tail by_number none. by_number;
        met_in = refl;
      }
  are_played (events.Ask query ∷ more) questions old new link after lines all from_one so (between, adds, plays) =
      let rest = are_played more (questions ++ query ∷ []) between new link after lines all from_one (are_asked base cache questions first (seen link) old between query all so adds) plays in
      record {
        more = rest.more;
        so = subst (λ (l : List Query). AreSo base cache l first (seen after) new (all ++ rest.more)) (append_assoc questions (query ∷ []) (questions_in more)) rest.so;
        goes = goes_then old between new [] rest.more (goes_asked old between query adds) rest.goes;
        in_turns = rest.in_turns;
        met_in = rest.met_in;
      }
  are_played (events.Message message ∷ more) questions old new link after lines all from_one so (behind, line, rest, given, plays, is) =
      are_played more questions old new behind after rest all from_one
      (are_later base cache questions first (seen link) (seen behind) old all so (given_grows (seen link) (seen behind) message.file line given) given.recorded given.faults) plays
  are_played (events.Turn client ∷ more) questions old new link after lines all from_one so (between, behind, turn, step, plays) =
      let own : 1 ≤ client = All-head (λ (c : ℕ). 1 ≤ c) client (turns_in more) from_one in
      let m = turn_meets seen base cache questions first client own old between link behind all so turn step in
      turn_played questions (questions ++ questions_in more) client own (turns_in more) (rounds_along seen more between new behind after lines plays) old between new link behind after turn all step m
      (are_played more questions between new behind after lines (all ++ m.more) (All-tail (λ (c : ℕ). 1 ≤ c) client (turns_in more) from_one) m.so plays)

  -- client k had turns, which are this round, and has ended where an exchange failed in it
  record HadTurns (questions : List Query) (k : ℕ) (round : Round) (old new : ConvoyState) (now : LinkSeen) (all : List Met) : Type 0 where
    more : List Met
    so : AreSo base cache questions first now new (all ++ more)
    goes : Goes old new more
    met_in : IsMetIn k round more
    over : (member : Member) → slice_get new.members (k - 1) ≡ Some member → (round.failed ≡ []) ⊎ HasOutcome member

  -- a turn more, after others
  module _ (questions : List Query) (k : ℕ) (from_one : 1 ≤ k) (round : Round) (start old new : ConvoyState) (link after : X) (turn : Turn) (all : List Met)
      (before : HadTurns questions k round start old (seen link) all) (step : IsStep seen k old new link after turn)
      (m : Meets base cache questions first (seen after) new k step.turned.was step.turned.is (all ++ before.more) turn) where
    abbrev next : Round
    next = round_at turn (shown step.turned.was.client) (shown step.turned.is.client)

    -- who had ended has ended, and received nothing
    not_both : HasOutcome step.turned.was → MeetsOne k step.turned.was m.more ⊎ MeetsNone step.turned.was step.turned.is m.more → MeetsNone step.turned.was step.turned.is m.more
    not_both had (inl one) = absurd (not_yet (shown step.turned.was.client).outcome one.waited had)
    not_both had (inr none) = none

    alone : (round.failed ≡ []) ⊎ HasOutcome step.turned.was → (round.failed ≡ []) ⊎ (m.more ≡ [])
    alone (inl none) = inl none
    alone (inr had) = inr (not_both had m.how).none

    over_then : (round.failed ≡ []) ⊎ HasOutcome step.turned.was → (next.failed ≡ []) ⊎ HasOutcome step.turned.is → (round.failed ++ next.failed ≡ []) ⊎ HasOutcome step.turned.is
    over_then (inl none) (inl none_again) = inl (ap₂ (λ (x y : List Want). x ++ y) none none_again)
    over_then (inl none) (inr has) = inr has
    over_then (inr had) how = inr (not_both had m.how).has

    had_turn_more : HadTurns questions k (round_then round next) start new (seen after) all
    had_turn_more =
        let so_far = before.over step.turned.was step.turned.had in
        record {
          more = before.more ++ m.more;
          so = subst (AreSo base cache questions first (seen after) new) (append_assoc all before.more m.more) m.so;
          goes = goes_then start old new before.more m.more before.goes (goes_turned seen base cache questions first k from_one old new link after turn (all ++ before.more) step m);
          met_in = met_then k round next before.more m.more before.met_in (met_in_turn turn k step.turned.was step.turned.is m.more m.met) (alone so_far);
          over = λ member is.
              subst (λ (one : Member). (round.failed ++ next.failed ≡ []) ⊎ HasOutcome one)
              (one_member new.members (k - 1) step.turned.is member (it_is seen base cache questions first k from_one old new link after turn (all ++ before.more) step m) is)
              (over_then so_far (turn_over turn k step.turned.was step.turned.is m.more m.met));
        }

  had_turns : (questions : List Query) (k : ℕ) → 1 ≤ k → (steps : List (Step X)) (old new : ConvoyState) (link after : X) (all : List Met) → AreSo base cache questions first (seen link) old all →
      (turns : TurnsOf seen k steps old new link after) → HadTurns questions k (round_in seen k steps old new link after turns) old new (seen after) all
  had_turns questions k from_one [] old new link after all so (same, same_link) =
      record {
        more = [];
        so = subst (AreSo base cache questions first (seen after) new) (sym (append-nil all)) (are_same questions old new link after all so same same_link);
        goes = subst (λ (c : ConvoyState). Goes old c []) (sym same) (goes_not old);
        met_in = met_nothing k;
        over = λ member is. inl refl;
      }
  had_turns questions k from_one (step ∷ earlier) old new link after all so (last, turns) =
      let before = had_turns questions k from_one earlier old step.convoy link step.link all so turns in
      had_turn_more questions k from_one (round_in seen k earlier old step.convoy link step.link turns) old step.convoy new step.link after step.turn all before last
      (turn_meets seen base cache questions first k from_one step.convoy new step.link after (all ++ before.more) before.so step.turn last)

  -- one client after the other, up to this one
  pub record HadRounds (questions : List Query) (n : ℕ) (rounds : List Round) (old new : ConvoyState) (now : LinkSeen) (all : List Met) : Type 0 where
    pub more : List Met
    pub so : AreSo base cache questions first now new (all ++ more)
    pub goes : Goes old new more
    up_to : All (λ (met : Met). met.client ≤ n) more
    pub by_number : AreByNumber more
    pub met_in : AreMetIn (counted n) rounds more

  own_by_number : (k : ℕ) (own : List Met) → All (λ (met : Met). met.client ≡ k) own → AreByNumber own
  own_by_number k [] are = tt
  own_by_number k (met ∷ own) are =
      let here : met.client ≡ k = All-head (λ (m : Met). m.client ≡ k) met own are in
      let rest = All-tail (λ (m : Met). m.client ≡ k) met own are in
      (All-weaker (λ (m : Met). m.client ≡ k) (λ (m : Met). met.client ≤ m.client) (λ m same. omega (arith, here, same)) own rest, own_by_number k own rest)

  by_number_then : (n : ℕ) (more own : List Met) → AreByNumber more → All (λ (met : Met). met.client ≤ n) more → All (λ (met : Met). met.client ≡ suc n) own → AreByNumber (more ++ own)
  by_number_then n [] own by_number up_to are = own_by_number (suc n) own are
  by_number_then n (met ∷ more) own (first, by_number) up_to are =
      let here : met.client ≤ n = All-head (λ (m : Met). m.client ≤ n) met more up_to in (
        All-append (λ (m : Met). met.client ≤ m.client) more own first
            (All-weaker (λ (m : Met). m.client ≡ suc n) (λ (m : Met). met.client ≤ m.client) (λ m same. omega (arith, here, same)) own are),
        by_number_then n more own by_number (All-tail (λ (m : Met). m.client ≤ n) met more up_to) are,
      )

  pub had_rounds : (questions : List Query) (n : ℕ) (old new : ConvoyState) (link after : X) (all : List Met) → AreSo base cache questions first (seen link) old all → (rounds : Rounds seen n old new link after) →
      HadRounds questions n (rounds_up_to seen n old new link after rounds) old new (seen after) all
  had_rounds questions zero old new link after all so (same, same_link) =
      record {
        more = [];
        so = subst (AreSo base cache questions first (seen after) new) (sym (append-nil all)) (are_same questions old new link after all so same same_link);
        goes = subst (λ (c : ConvoyState). Goes old c []) (sym same) (goes_not old);
        up_to = All-nil (λ (met : Met). met.client ≤ 0);
        by_number = tt;
        met_in = refl;
      }
  had_rounds questions (suc n) old new link after all so (convoy, mid, rounds, ends) =
      let before = had_rounds questions n old convoy link mid all so rounds in
      let last = had_turns questions (suc n) (let one : 1 ≤ suc n = omega arith in one) ends.steps convoy new mid after (all ++ before.more) before.so ends.turns in
      record {
        more = before.more ++ last.more;
        so = subst (AreSo base cache questions first (seen after) new) (append_assoc all before.more last.more) last.so;
        goes = goes_then old convoy new before.more last.more before.goes last.goes;
        up_to = All-append (λ (met : Met). met.client ≤ suc n) before.more last.more
            (All-weaker (λ (met : Met). met.client ≤ n) (λ (met : Met). met.client ≤ suc n) (λ met le. omega arith) before.more before.up_to)
            (All-weaker (λ (met : Met). met.client ≡ suc n) (λ (met : Met). met.client ≤ suc n) (λ met same. omega (arith, same)) last.more last.met_in.own);
        by_number = by_number_then n before.more last.more before.by_number before.up_to last.met_in.own;
        met_in = met_in-append (counted n) (suc n ∷ []) (rounds_up_to seen n old convoy link mid rounds) (round_in seen (suc n) ends.steps convoy new mid after ends.turns ∷ []) before.more last.more before.met_in
            (last.more, [], sym (append-nil last.more), last.met_in, refl);
      }
