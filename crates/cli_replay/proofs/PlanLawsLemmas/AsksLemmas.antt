-- Clients begin to plan, and a further client asks.
use Rattle.std.proofs.Common.{◌≡◌, ◌∙◌, ◌⊎◌, ◌+◌, ◌<◌, ◌≤◌, ℕ, inl, inr, false, List, [], ◌∷◌, ◌++◌, Option, Some, None, length, refl, ap, sym, subst, arith, length-append}
use Rattle.std.specs.List.{slice_get}
use Rattle.std.proofs.lemmas.List.Elements.{All-nil}
use Rattle.std.proofs.lemmas.Option.{slice_get_within}
use Rattle.connection_uri.specs.Base.{BaseParts}
use Rattle.convoy.specs.State.{Adds, ConvoyState, begun}
use Rattle.convoy.specs.declared.member.Member.{Member}
use Rattle.csa_scan.proofs.ListPlacesLemmas.{push_cases}
use Rattle.convoy.specs.Agreement.Agreement.{FitsConvoy}
use Rattle.convoy.specs.Agreement.Laws.{AddedAgrees, NoneAgrees}
use Rattle.convoy.specs.Agreement.Names.{Round}
use Rattle.convoy.specs.Agreement.Requests.{TellsRequests}
use Rattle.cli_replay.proofs.PlanLawsLemmas.MetLemmas.{HasMetAt}
use Rattle.cli_replay.proofs.PlanLawsLemmas.PlannedTo.{IsMemberAt, IsPlannedTo}
use Rattle.cli_replay.proofs.PlanLawsLemmas.SidesLemmas.{sides_of-none}
use Rattle.cli_replay.specs.PlanLaws.Sides.{sides_of}
use Rattle.cli_replay.proofs.ReplayLawsLemmas.BeginsLemmas.{begins_without_failure, earlier, last_is, met_nothing, one_given_each}
use Rattle.cli_replay.proofs.ReplayLawsLemmas.EventLemmas.{AreClients, has_turn, no_turn_yet, requests_of_more, rounds_of-none, tells_none}
use Rattle.cli_replay.proofs.ReplayLawsLemmas.PlayedTo.{HasFailedSo, HasMet}
use Rattle.cli_replay.specs.ReplayLaws.Turns.{rounds_of}
use Rattle.lc_io.proofs.CountLemmas.{RoseBy-none}
use Rattle.lc_model.specs.declared.query.Query.{Query}
use Rattle.lc_world.specs.Link.{IsHonestWith, LinkSeen}
use Rattle.page_client.specs.Client.{shown}
use Rattle.page_client.specs.Shown.{Shown}
use Rattle.page_client.specs.declared.want.Want.{Want}
use Rattle.lc_world.proofs.SidesLemmas.LaterLemmas.{later_itself}
use Rattle.lc_world.specs.Sides.Side.{Side}

no_less : (n : ℕ) → n ≤ n
no_less n = omega arith

not_at_nothing : {X : Type 0} (place : ℕ) (x : X) → slice_get [] place ≡ Some x → ⊥
not_at_nothing place x is = cc

is_above : (place count : ℕ) → place ≡ count → count < place + 1
is_above place count at = omega arith

one_longer : {X Y : Type 0} (xs : List X) (ys : List Y) (x : X) (y : Y) → length xs ≡ length ys → length (xs ++ x ∷ []) ≡ length (ys ++ y ∷ [])
one_longer xs ys x y same = omega (arith, same, length-append xs (x ∷ []), length-append ys (y ∷ []))

-- nothing was done yet
pub begins : (base : BaseParts) (first : Side) (cache : ℕ) (start : LinkSeen) → NoneAgrees → IsHonestWith start base first → IsPlannedTo HasMetAt base first cache [] [] (begun base cache) start start [] []
begins base first cache start none_agrees honest = record {
  last = first;
  leaves = record {
    honest = honest;
    later = later_itself first;
    same = λ quiet. refl;
    quiet = λ quiet. quiet;
    clear = λ clear. clear;
    not_fallen = no_less start.faults;
  };
  later = later_itself first;
  one_side = λ quiet. All-nil (λ (side : Side). side ≡ first);
  base_is = refl;
  capacity = refl;
  given = [];
  fits = none_agrees first base cache;
  clients = refl;
  one_each = refl;
  sides_each = refl;
  by_names = tt;
  names = refl;
  requests = tells_none start.recorded base.authority;
  increased = RoseBy-none start.faults start.faults (no_less start.faults);
  members = λ place query member own asks is_member is_own. absurd (not_at_nothing place query asks);
}

-- the client that asks
member_begins : (side : Side) (query : Query) (old new : ConvoyState) (adds : Adds old query new) → IsMemberAt HasMet side query adds.member [] [] []
member_begins side query old new adds = record {
  question = ap (λ (s : Shown). s.query) adds.begins.is;
  given_is = refl;
  version = ap (λ (s : Shown). s.version) adds.begins.is;
  count = adds.none_made;
  turns = met_nothing (shown adds.member.client).outcome;
  failed =
      subst (λ (version : Option ℕ). HasFailedSo side query version [] [] (shown adds.member.client).outcome) (sym (ap (λ (s : Shown). s.version) adds.begins.is))
      (subst (HasFailedSo side query None [] []) (sym (ap (λ (s : Shown). s.outcome) adds.begins.is)) (begins_without_failure side query adds.begins.refusal));
}

-- a client asks
module _ (base : BaseParts) (first : Side) (cache : ℕ) (questions : List Query) (order : List ℕ) (query : Query) (old new : ConvoyState) (start now : LinkSeen) (rounds : List Round) (sides : List Side)
    (are_clients : AreClients (length questions) order) (adds : Adds old query new) (p : IsPlannedTo HasMetAt base first cache questions order old start now rounds sides) where
  so : (place : ℕ) (asked : Query) (member : Member) (own : List Want) → (slice_get questions place ≡ Some asked) ⊎ ((place ≡ length questions) × (asked ≡ query)) →
      slice_get (old.members ++ adds.member ∷ []) place ≡ Some member → slice_get (p.given ++ [] ∷ []) place ≡ Some own →
      IsMemberAt HasMet p.last asked member own (rounds_of (place + 1) order rounds) (sides_of (place + 1) order sides)
  so place asked member own (inl before) is_member is_own =
      let within : place < length questions = slice_get_within questions place asked before in
      let among : place < length old.members = subst (λ (n : ℕ). place < n) (sym p.clients) within in
      let among_given : place < length p.given = subst (λ (n : ℕ). place < n) (sym (one_given_each p.last old.members p.given p.fits.clients)) among in
      p.members place asked member own before (earlier old.members (adds.member ∷ []) place member among is_member) (earlier p.given ([] ∷ []) place own among_given is_own)
  so place asked member own (inr last) is_member is_own =
      let at : place ≡ length old.members = last.0 ∙ sym p.clients in
      let at_given : place ≡ length p.given = at ∙ sym (one_given_each p.last old.members p.given p.fits.clients) in
      let none : has_turn (place + 1) order ≡ false = no_turn_yet (length questions) order (place + 1) are_clients (is_above place (length questions) last.0) in
      subst (λ (l : List Round). IsMemberAt HasMet p.last asked member own l (sides_of (place + 1) order sides)) (sym (rounds_of-none (place + 1) order rounds none))
      (subst (IsMemberAt HasMet p.last asked member own []) (sym (sides_of-none (place + 1) order sides none))
      (subst (λ (l : List Want). IsMemberAt HasMet p.last asked member l [] []) (sym (last_is p.given [] own place at_given is_own))
      (subst (λ (m : Member). IsMemberAt HasMet p.last asked m [] [] []) (sym (last_is old.members adds.member member place at is_member))
      (subst (λ (q : Query). IsMemberAt HasMet p.last q adds.member [] [] []) (sym last.1) (member_begins p.last query old new adds)))))

  with_one_more : FitsConvoy p.last (record old { members = old.members ++ adds.member ∷ [] }) (p.given ++ [] ∷ []) →
      IsPlannedTo HasMetAt base first cache (questions ++ query ∷ []) order (record old { members = old.members ++ adds.member ∷ [] }) start now rounds sides
  with_one_more fits = record {
    last = p.last;
    leaves = p.leaves;
    later = p.later;
    one_side = p.one_side;
    base_is = p.base_is;
    capacity = p.capacity;
    given = p.given ++ [] ∷ [];
    fits = fits;
    clients = one_longer old.members questions adds.member query p.clients;
    one_each = p.one_each;
    sides_each = p.sides_each;
    by_names = p.by_names;
    names = p.names;
    requests = subst (TellsRequests start.recorded now.recorded base.authority) (sym (requests_of_more base questions (query ∷ []) order rounds are_clients)) p.requests;
    increased = p.increased;
    members = λ place asked member own is_asked is_member is_own. so place asked member own (push_cases questions query place asked is_asked) is_member is_own;
  }

  pub asks : AddedAgrees → IsPlannedTo HasMetAt base first cache (questions ++ query ∷ []) order new start now rounds sides
  asks added =
      subst (λ (convoy : ConvoyState). IsPlannedTo HasMetAt base first cache (questions ++ query ∷ []) order convoy start now rounds sides) (sym adds.is)
      (with_one_more (subst (λ (convoy : ConvoyState). FitsConvoy p.last convoy (p.given ++ [] ∷ [])) adds.is (added p.last old new p.given query p.fits adds)))
