-- The clients of a convoy over any link: what each of their turns receives, and the link meanwhile.
use Rattle.std.proofs.Common.{◌≡◌, ◌∙◌, ◌⊎◌, ◌+◌, ◌-◌, ◌<◌, ◌≤◌, ℕ, suc, inl, inr, Bool, true, false, List, [], ◌∷◌, ◌++◌, Option, Some, None, Result, Ok, Err, ap, append-nil, arith, cond, is_none, length, length-append, length-set, refl, subst, sym}
use Rattle.std.specs.Prelude.{IsSome}
use Rattle.std.specs.List.{All, slice_get, slice_set}
use Rattle.std.proofs.lemmas.List.Elements.{All-nil, All-push, All-weaker}
use Rattle.std.proofs.lemmas.Option.{slice_get_within}
use Rattle.connection_uri.specs.Base.{BaseParts}
use Rattle.convoy.specs.Exchange.{Got, IsExchange}
use Rattle.convoy.specs.Finish.{HasOutcome, IsStep}
use Rattle.convoy.specs.State.{Adds, ConvoyState, begun}
use Rattle.convoy.specs.Steps.{AfterPage as AfterPageSaid, Takes, TakesAsked, TakesGate, TakesStops, kept_after}
use Rattle.convoy.specs.Turn.{Asks as AsksOne, IsCached, IsExchanged, IsFinished, Turned}
use Rattle.convoy.specs.declared.member.Member.{Member}
use Rattle.convoy.specs.declared.turn.Turn.{Turn}
use Rattle.convoy.specs.declared.turn.Turn.TheVariants.{Cached, Exchanged, Finished}
use Rattle.csa_scan.proofs.ListPlacesLemmas.{item_within, push_cases, same_place, slice_get-append, slice_get-last, slice_get-set_other, slice_get-set_same}
use Rattle.lc_io.proofs.CountLemmas.{RoseBy-none}
use Rattle.lc_io.specs.Counts.{RoseBy}
use Rattle.lc_model.specs.declared.page.PageName.{PageName}
use Rattle.lc_model.specs.declared.query.Query.{Query}
use Rattle.lc_world.specs.Link.{LinkSeen}
use Rattle.lc_world.specs.declared.entry.Entry.{Entry}
use Rattle.page_client.proofs.KeptLemmas.{All-with_put, All-with_used, found, named}
use Rattle.page_client.specs.Kept.{Kept, has_name}
use Rattle.page_client.proofs.PageLemmas.{waits_for}
use Rattle.page_client.specs.Client.{shown}
use Rattle.page_client.specs.Page.{IsPageReply}
use Rattle.page_client.specs.Request.{Asks, known_at, target_of}
use Rattle.page_client.specs.Shown.{Begins, IsRefusal, Shown, first_outcome, first_phase, want_of, wrong_gate}
use Rattle.page_client.specs.declared.client.Client.{Client}
use Rattle.page_client.specs.declared.fault.PeerFault.{PeerFault}
use Rattle.page_client.specs.declared.fault.QueryFault.{QueryFault}
use Rattle.page_client.specs.declared.fault.QueryFault.TheVariants.{HorizonRange, SameStop, UnknownFrom, UnknownTo}
use Rattle.page_client.specs.declared.outcome.Outcome.{Outcome}
use Rattle.page_client.specs.declared.outcome.Outcome.TheVariants as outcomes
use Rattle.page_client.specs.declared.phase.Phase.{Phase}
use Rattle.page_client.specs.declared.phase.Phase.TheVariants as phases
use Rattle.page_client.specs.declared.want.Want.{Want}
use Rattle.page_client.specs.declared.want.Want.TheVariants as wants
use Rattle.page_json.specs.declared.page.Page.{Page}
use Rattle.convoy.specs.Replies.Cached.{CacheAlong, empty_cache}
use Rattle.convoy.specs.Replies.Ends.{EndsBy}
use Rattle.convoy.specs.Replies.Made.{Made, failure_of, reply_to}
use Rattle.convoy.specs.Replies.Met.{AreMet, CountAlong, HasFailedBetween, IsByOneOf, Met, TellsMet, WasKept, asked_in, exchanges_by, failures_in, is_by, met_by}
use Rattle.convoy.proofs.RepliesLemmas.CachedLemmas.{cache_along_with_more, with_cached, with_gate, with_page, with_stops}
use Rattle.convoy.proofs.RepliesLemmas.CourseLemmas.{is_taken, stands_last}
use Rattle.convoy.proofs.RepliesLemmas.MetLemmas.{along_more, asked_more, by_other, exchange_more, exchanges_none_by, exchanges_of_other, met_by_other, met_by_own, met_none_by, no_exchange_more, not_asked_more, take_kept_more, tells_met_more, tells_met_none, tells_with_more}
use Rattle.convoy.proofs.RepliesLemmas.StepLemmas.{At, AtEnd, AtGate, AtPage, AtStops, Moves, Spans, exchange_of, gate_asked, page_asked, page_taken, stops_asked}

-- a clear link is clear still, and its count has not fallen
pub record HasGrown (before after : LinkSeen) : Type 0 where
  pub clear : before.clear → after.clear
  pub not_fallen : before.faults ≤ after.faults

pub grown_not : (link : LinkSeen) → HasGrown link link
grown_not link = record { clear = λ is. is; not_fallen = (let same : link.faults ≤ link.faults = omega arith in same) }

pub grown_then : (a b c : LinkSeen) → HasGrown a b → HasGrown b c → HasGrown a c
grown_then a b c one two = record {
  clear = λ is. two.clear (one.clear is);
  not_fallen = (let first = one.not_fallen in let second = two.not_fallen in omega arith);
}

-- The client of this number is in a phase by what it received, over a link whose count went from the one to the other. Each exchange
-- of its own is counted, and is the one that failed where it ended by a fault.
pub record IsClientSo (base : BaseParts) (query : Query) (before now : ℕ) (member : Member) (number : ℕ) (all : List Met) : Type 0 where
  pub question : (shown member.client).query ≡ query
  pub at : At base before now member.client (met_by number all) (shown member.client) (shown member.client).phase
  pub counted : member.exchanges ≡ exchanges_by number all
  pub fault : (low high : ℕ) → (shown member.client).outcome ≡ Some (outcomes.LinkFault low high) → HasFailedBetween number low high all

-- the page is said by the reply of an exchange
pub record IsSaid (base : BaseParts) (all : List Met) (page : Page) : Type 0 where
  pub reply : List ℕ
  pub says : IsPageReply base page.name reply (Ok page)
  pub place : ℕ
  pub exchange : Met
  pub there : slice_get all place ≡ Some exchange
  pub asked : exchange.asked ≡ true
  pub made : exchange.made ≡ reply_to (wants.Page page.name) reply

-- The clients of a convoy are those of these questions, one for each. They received all this over a link that was this one at first.
pub record AreSo (base : BaseParts) (cache : ℕ) (questions : List Query) (first now : LinkSeen) (convoy : ConvoyState) (all : List Met) : Type 0 where
  pub base_is : convoy.base ≡ base
  pub clients : length convoy.members ≡ length questions
  pub members : (place : ℕ) (query : Query) (member : Member) → slice_get questions place ≡ Some query → slice_get convoy.members place ≡ Some member
      → IsClientSo base query first.faults now.faults member (suc place) all
  pub said : All (IsSaid base all) convoy.kept.pages
  pub cached : CacheAlong base questions [] (empty_cache cache) all convoy.kept
  pub met : AreMet base questions first.recorded now.recorded first.faults now.faults all
  pub grown : HasGrown first now

-- how a client ended stays right while the count increases
ends_later : (base : BaseParts) (query : Query) (before now later : ℕ) (version : Option ℕ) (made : List Made) (outcome : Outcome) → now ≤ later → EndsBy base query before now version made outcome →
    EndsBy base query before later version made outcome
ends_later base query before now later version made (outcomes.Found journey) le ends = ends
ends_later base query before now later version made outcomes.NoJourney le ends = ends
ends_later base query before now later version made (outcomes.Refused fault) le ends = ends
ends_later base query before now later version made (outcomes.LinkFault low high) le ends = record {
  accepted = ends.accepted;
  earlier = ends.earlier;
  want = ends.want;
  came = ends.came;
  was_made = ends.was_made;
  from = ends.from;
  rose = ends.rose;
  up_to = (let up_to = ends.up_to in omega arith);
}
ends_later base query before now later version made (outcomes.PeerWrong reply fault) le ends = ends

at_later : (base : BaseParts) (before now later : ℕ) (client : Client) (made : List Made) (phase : Phase) → now ≤ later → At base before now client made (shown client) phase → At base before later client made (shown client) phase
at_later base before now later client made phases.Gate le at = at
at_later base before now later client made (phases.Stops first) le at = at
at_later base before now later client made (phases.Page name) le at = at
at_later base before now later client made phases.Finished le at = record {
  outcome = at.outcome;
  ended = at.ended;
  ends = ends_later base (shown client).query before now later (shown client).version made at.outcome le at.ends;
}

pub so_later : (base : BaseParts) (query : Query) (before now later : ℕ) (member : Member) (number : ℕ) (all : List Met) → now ≤ later → IsClientSo base query before now member number all →
    IsClientSo base query before later member number all
so_later base query before now later member number all le so = record {
  question = so.question;
  at = at_later base before now later member.client (met_by number all) (shown member.client).phase le so.at;
  counted = so.counted;
  fault = so.fault;
}

-- what failed has failed still
failed_more : (client low high : ℕ) (all more : List Met) → HasFailedBetween client low high all → HasFailedBetween client low high (all ++ more)
failed_more client low high all more failed = record {
  place = failed.place;
  exchange = failed.exchange;
  there = slice_get-append all more failed.place failed.exchange failed.there;
  own = failed.own;
  failed = failed.failed;
  low_is = failed.low_is;
  high_is = failed.high_is;
}

-- a client stays as it is while others receive what they want
so_beside : (base : BaseParts) (query : Query) (before now : ℕ) (member : Member) (number : ℕ) (all : List Met) (one : Met) → (one.client ≡ number → ⊥) → IsClientSo base query before now member number all →
    IsClientSo base query before now member number (all ++ one ∷ [])
so_beside base query before now member number all one other so = record {
  question = so.question;
  at = subst (λ (made : List Made). At base before now member.client made (shown member.client) (shown member.client).phase) (sym (met_by_other number all one other)) so.at;
  counted = so.counted ∙ sym (exchanges_of_other number all one other);
  fault = λ low high is. failed_more number low high all (one ∷ []) (so.fault low high is);
}

-- what a reply said is said still
said_more : (base : BaseParts) (all more : List Met) (pages : List Page) → All (IsSaid base all) pages → All (IsSaid base (all ++ more)) pages
said_more base all more pages said =
    All-weaker (IsSaid base all) (IsSaid base (all ++ more))
    (λ page is. record {
      reply = is.reply;
      says = is.says;
      place = is.place;
      exchange = is.exchange;
      there = slice_get-append all more is.place is.exchange is.there;
      asked = is.asked;
      made = is.made;
    })
    pages said

none_at : (place : ℕ) (query : Query) → slice_get {X = Query} [] place ≡ Some query → ⊥
none_at place query is = cc

-- none have asked yet
pub are_begun : (base : BaseParts) (cache : ℕ) (link : LinkSeen) → AreSo base cache [] link link (begun base cache) []
are_begun base cache link = record {
  base_is = refl;
  clients = refl;
  members = λ place query member asks is. absurd (none_at place query asks);
  said = All-nil (IsSaid base []);
  cached = refl;
  met = record {
    by_clients = All-nil (IsByOneOf 0);
    kept = tt;
    recorded = tells_met_none base [] link.recorded;
    counted = refl;
  };
  grown = grown_not link;
}

-- a client more has received nothing yet
module _ (base : BaseParts) (query : Query) (before now : ℕ) (member : Member) (number : ℕ) (all : List Met) (nothing : met_by number all ≡ []) (uncounted : exchanges_by number all ≡ 0) where
  by_refusal : (refusal : Option QueryFault) → IsRefusal query refusal →
      At base before now member.client [] (record { query = query; phase = first_phase refusal; version = None; gate = None; outcome = first_outcome refusal }) (first_phase refusal)
  by_refusal None is = record { accepted = is; come = record { no_version = refl; nothing_made = refl }; none = refl }
  by_refusal (Some HorizonRange) is = record { outcome = outcomes.Refused HorizonRange; ended = refl; ends = record { deserved = is; no_version = refl; nothing_made = refl } }
  by_refusal (Some SameStop) is = record { outcome = outcomes.Refused SameStop; ended = refl; ends = record { deserved = is; no_version = refl; nothing_made = refl } }
  by_refusal (Some UnknownFrom) is = absurd is
  by_refusal (Some UnknownTo) is = absurd is

  no_fault_yet : (refusal : Option QueryFault) (low high : ℕ) → first_outcome refusal ≡ Some (outcomes.LinkFault low high) → ⊥
  no_fault_yet None low high is = cc
  no_fault_yet (Some fault) low high is = cc

  so_begun : Begins query (shown member.client) → member.exchanges ≡ 0 → IsClientSo base query before now member number all
  so_begun b none_made = record {
    question = ap (λ (s : Shown). s.query) b.is;
    at = subst (λ (made : List Made). At base before now member.client made (shown member.client) (shown member.client).phase) (sym nothing)
        (subst (λ (s : Shown). At base before now member.client [] s s.phase) (sym b.is) (by_refusal b.refusal b.is_refusal));
    counted = none_made ∙ sym uncounted;
    fault = λ low high is. absurd (no_fault_yet b.refusal low high (sym (ap (λ (s : Shown). s.outcome) b.is) ∙ is));
  }

none_by : (all : List Met) (n : ℕ) → All (IsByOneOf n) all → All (λ (met : Met). is_by (suc n) met ≡ false) all
none_by all n are = All-weaker (IsByOneOf n) (λ (met : Met). is_by (suc n) met ≡ false) (λ met one. by_other (suc n) met (λ same. (let at_most = one.at_most in omega (arith, same)))) all are

not_behind : {X Y : Type 0} (xs : List X) (ys : List Y) (place : ℕ) (x : X) → length ys ≡ length xs → slice_get xs place ≡ Some x → place ≡ length ys → ⊥
not_behind xs ys place x same is at = let within : place < length xs = slice_get_within xs place x is in omega arith

-- a client more asks
module _ (base : BaseParts) (cache : ℕ) (questions : List Query) (first now : LinkSeen) (old new : ConvoyState) (query : Query) (all : List Met) (so : AreSo base cache questions first now old all) (adds : Adds old query new) where
  one_question_more : length (questions ++ query ∷ []) ≡ length questions + 1
  one_question_more = length-append questions (query ∷ [])

  one_longer : length new.members ≡ length (questions ++ query ∷ [])
  one_longer =
      let members : length new.members ≡ length (old.members ++ adds.member ∷ []) = ap (λ (c : ConvoyState). length c.members) adds.is in
      let same = so.clients in
      omega (arith, members, length-append old.members (adds.member ∷ []), one_question_more, same)

  new_one : IsClientSo base query first.faults now.faults adds.member (suc (length questions)) all
  new_one =
      let none = none_by all (length questions) so.met.by_clients in
      so_begun base query first.faults now.faults adds.member (suc (length questions)) all (met_none_by (suc (length questions)) all none) (exchanges_none_by (suc (length questions)) all none)
      adds.begins adds.none_made

  by_place : (place : ℕ) (q : Query) (member : Member) → (slice_get questions place ≡ Some q) ⊎ ((place ≡ length questions) × (q ≡ query)) →
      (slice_get old.members place ≡ Some member) ⊎ ((place ≡ length old.members) × (member ≡ adds.member)) → IsClientSo base q first.faults now.faults member (suc place) all
  by_place place q member (inl asks) (inl is) = so.members place q member asks is
  by_place place q member (inl asks) (inr (at, is)) = absurd (not_behind questions old.members place q so.clients asks at)
  by_place place q member (inr (at, asks)) (inl is) = absurd (not_behind old.members questions place member (sym so.clients) is at)
  by_place place q member (inr (at, asks)) (inr (behind, is)) =
      subst (λ (n : ℕ). IsClientSo base q first.faults now.faults member (suc n) all) (sym at)
      (subst (λ (x : Query). IsClientSo base x first.faults now.faults member (suc (length questions)) all) (sym asks)
      (subst (λ (m : Member). IsClientSo base query first.faults now.faults m (suc (length questions)) all) (sym is) new_one))

  pub are_asked : AreSo base cache (questions ++ query ∷ []) first now new all
  are_asked = record {
    base_is = ap (λ (c : ConvoyState). c.base) adds.is ∙ so.base_is;
    clients = one_longer;
    members = λ place q member asks is.
        by_place place q member (push_cases questions query place q asks)
        (push_cases old.members adds.member place member (sym (ap (λ (c : ConvoyState). slice_get c.members place) adds.is) ∙ is));
    said = subst (λ (c : ConvoyState). All (IsSaid base all) c.kept.pages) (sym adds.is) so.said;
    cached = subst (λ (c : ConvoyState). CacheAlong base (questions ++ query ∷ []) [] (empty_cache cache) all c.kept) (sym adds.is)
        (cache_along_with_more base questions (query ∷ []) [] all (empty_cache cache) old.kept so.cached);
    met = record {
      by_clients = All-weaker (IsByOneOf (length questions)) (IsByOneOf (length (questions ++ query ∷ [])))
          (λ met one. record { from_one = one.from_one; at_most = (let at_most = one.at_most in omega (arith, one_question_more)) }) all so.met.by_clients;
      kept = so.met.kept;
      recorded = tells_with_more base questions (query ∷ []) (asked_in all) first.recorded now.recorded so.met.recorded;
      counted = so.met.counted;
    };
    grown = so.grown;
  }

-- the link has grown, recorded nothing more, and counted no fault more
pub are_later : (base : BaseParts) (cache : ℕ) (questions : List Query) (first now later : LinkSeen) (convoy : ConvoyState) (all : List Met) → AreSo base cache questions first now convoy all → HasGrown now later → later.recorded ≡ now.recorded → later.faults ≡ now.faults →
    AreSo base cache questions first later convoy all
are_later base cache questions first now later convoy all so grown recorded same_faults = record {
  base_is = so.base_is;
  clients = so.clients;
  members = λ place query member asks is. so_later base query first.faults now.faults later.faults member (suc place) all grown.not_fallen (so.members place query member asks is);
  said = so.said;
  cached = so.cached;
  met = record {
    by_clients = so.met.by_clients;
    kept = so.met.kept;
    recorded = subst (TellsMet base questions (asked_in all) first.recorded) (sym recorded) so.met.recorded;
    counted = subst (λ (n : ℕ). CountAlong first.faults n all) (sym same_faults) so.met.counted;
  };
  grown = grown_then first now later so.grown grown;
}

not_both : true ≡ false → ⊥
not_both same = cc

some_is_none : (reply : List ℕ) → Some reply ≡ None → ⊥
some_is_none reply same = cc

pub same_counts : (a b c d : ℕ) → Some (outcomes.LinkFault a b) ≡ Some (outcomes.LinkFault c d) → (a ≡ c) × (b ≡ d)
same_counts a b c d same = (cc, cc)

no_less : (n : ℕ) → n ≤ n
no_less n = omega arith

-- who wants the time gate waits for it
pub waits_at_gate : (phase : Phase) → want_of phase ≡ wants.Gate → phase ≡ phases.Gate
waits_at_gate phases.Gate is = refl
waits_at_gate (phases.Stops first) is = absurd (cc)
waits_at_gate (phases.Page name) is = absurd (cc)
waits_at_gate phases.Finished is = absurd (cc)

-- who wants the stops document waits for it
pub record WaitsForStops (phase : Phase) : Type 0 where
  pub first : PageName
  pub is : phase ≡ phases.Stops first

pub waits_for_stops : (phase : Phase) → want_of phase ≡ wants.Stops → WaitsForStops phase
waits_for_stops phases.Gate is = absurd (cc)
waits_for_stops (phases.Stops first) is = record { first = first; is = refl }
waits_for_stops (phases.Page name) is = absurd (cc)
waits_for_stops phases.Finished is = absurd (cc)

-- who has an outcome has ended
pub not_yet : (outcome : Option Outcome) → outcome ≡ None → IsSome outcome → ⊥
not_yet outcome none some = let nothing : IsSome {T = Outcome} None = subst (λ (o : Option Outcome). IsSome o) none some in cc

pub has_ended : (base : BaseParts) (before now : ℕ) (client : Client) (made : List Made) (s : Shown) (phase : Phase) → At base before now client made s phase → IsSome s.outcome → AtEnd base before now s made
has_ended base before now client made s phases.Gate at some = absurd (not_yet s.outcome at.none some)
has_ended base before now client made s (phases.Stops first) at some = absurd (not_yet s.outcome at.none some)
has_ended base before now client made s (phases.Page name) at some = absurd (not_yet s.outcome at.none some)
has_ended base before now client made s phases.Finished at some = at

-- who ended by a fault of the link had it in what it received last
pub failed_last : (base : BaseParts) (before now : ℕ) (client : Client) (so_far : List Made) (last : Made) (low high : ℕ) → At base before now client (so_far ++ last ∷ []) (shown client) (shown client).phase →
    (shown client).outcome ≡ Some (outcomes.LinkFault low high) → last.got ≡ None
failed_last base before now client so_far last low high at is =
    let some : IsSome (shown client).outcome = subst (λ (o : Option Outcome). IsSome o) (sym is) refl in
    let e : AtEnd base before now (shown client) (so_far ++ last ∷ []) = has_ended base before now client (so_far ++ last ∷ []) (shown client) (shown client).phase at some in
    let same : e.outcome ≡ outcomes.LinkFault low high = (let both : Some e.outcome ≡ Some (outcomes.LinkFault low high) = sym e.ended ∙ is in cc) in
    let ends : EndsBy base (shown client).query before now (shown client).version (so_far ++ last ∷ []) (outcomes.LinkFault low high) =
    subst (EndsBy base (shown client).query before now (shown client).version (so_far ++ last ∷ [])) same e.ends in
    ap (λ (m : Made). m.got) (stands_last so_far ends.earlier last (failure_of ends.want) ends.was_made).1

-- the client, which waited, received one of its wants
pub record MeetsOne (k : ℕ) (was : Member) (more : List Met) : Type 0 where
  pub one : Met
  pub is : more ≡ one ∷ []
  pub client : one.client ≡ k
  pub waited : (shown was.client).outcome ≡ None

-- or none, since it had its outcome
pub record MeetsNone (was is : Member) (more : List Met) : Type 0 where
  pub none : more ≡ []
  pub had : HasOutcome was
  pub has : HasOutcome is

-- the client, which has become this one, got a reply, and did not end by a fault of the link
pub record GotReply (is : Member) (one : Met) : Type 0 where
  pub reply : List ℕ
  pub got : one.made.got ≡ Some reply
  pub no_fault : (low high : ℕ) → (shown is.client).outcome ≡ Some (outcomes.LinkFault low high) → ⊥

-- or it got none, and ended so
pub record GotNone (is : Member) (one : Met) : Type 0 where
  pub got : one.made.got ≡ None
  pub low : ℕ
  pub high : ℕ
  pub ended : (shown is.client).outcome ≡ Some (outcomes.LinkFault low high)

-- client k received what it wanted, by an exchange or without one
pub record MeetsWant (k : ℕ) (was : Member) (asked : Bool) (more : List Met) : Type 0 where
  pub one : Met
  pub is : more ≡ one ∷ []
  pub client : one.client ≡ k
  pub want : one.made.want ≡ want_of (shown was.client).phase
  pub asked_is : one.asked ≡ asked

-- what client k received in a turn, by which it has become another
abbrev pub MeetsIn : Turn → ℕ → Member → Member → List Met → Type 0
MeetsIn Finished k was is more = more ≡ []
MeetsIn Cached k was is more = (met : MeetsWant k was false more) × GotReply is met.one
MeetsIn Exchanged k was is more = (met : MeetsWant k was true more) × (GotReply is met.one ⊎ GotNone is met.one)

-- what a turn of client k results in, by which it has become another
pub record Meets (base : BaseParts) (cache : ℕ) (questions : List Query) (first after : LinkSeen) (new : ConvoyState) (k : ℕ) (was is : Member) (all : List Met) (turn : Turn) : Type 0 where
  pub more : List Met
  pub so : AreSo base cache questions first after new (all ++ more)
  pub how : MeetsOne k was more ⊎ MeetsNone was is more
  pub met : MeetsIn turn k was is more

-- one question is at a place
one_question : (questions : List Query) (place : ℕ) (a b : Query) → slice_get questions place ≡ Some a → slice_get questions place ≡ Some b → a ≡ b
one_question questions place a b is_a is_b = (let both : Some a ≡ Some b = sym is_a ∙ is_b in cc)

one_member : (members : List Member) (place : ℕ) (a b : Member) → slice_get members place ≡ Some a → slice_get members place ≡ Some b → a ≡ b
one_member members place a b is_a is_b = (let both : Some a ≡ Some b = sym is_a ∙ is_b in cc)

-- client k has become this one in its turn
module _ (base : BaseParts) (cache : ℕ) (questions : List Query) (query : Query) (first link after : LinkSeen) (old new : ConvoyState) (k : ℕ) (from_one : 1 ≤ k) (was is : Member) (all : List Met)
    (so : AreSo base cache questions first link old all) (asks : slice_get questions (k - 1) ≡ Some query) (had : slice_get old.members (k - 1) ≡ Some was)
    (members : new.members ≡ slice_set old.members (k - 1) is) (same_base : new.base ≡ old.base) (grown : HasGrown link after) where
  its_number : suc (k - 1) ≡ k
  its_number = omega arith

  it_was : IsClientSo base query first.faults link.faults was k all
  it_was = subst (λ (n : ℕ). IsClientSo base query first.faults link.faults was n all) its_number (so.members (k - 1) query was asks had)

  -- its question, as it has it
  asks_so : slice_get questions (k - 1) ≡ Some (shown was.client).query
  asks_so = asks ∙ ap Some (sym it_was.question)

  it_waited : (phase : Phase) → (shown was.client).phase ≡ phase → At base first.faults link.faults was.client (met_by k all) (shown was.client) phase
  it_waited phase is = subst (At base first.faults link.faults was.client (met_by k all) (shown was.client)) is it_was.at

  -- the client at a place now
  at_place : (more : List Met) (place : ℕ) (q : Query) (member : Member) → IsClientSo base query first.faults after.faults is k (all ++ more)
      → ((number : ℕ) (q : Query) (m : Member) → (k ≡ number → ⊥) → IsClientSo base q first.faults link.faults m number all → IsClientSo base q first.faults link.faults m number (all ++ more))
      → slice_get questions place ≡ Some q → slice_get new.members place ≡ Some member → (place ≡ k - 1) ⊎ (place ≡ k - 1 → ⊥) → IsClientSo base q first.faults after.faults member (suc place) (all ++ more)
  at_place more place q member now others asked there (inl at) =
      let within : k - 1 < length old.members = slice_get_within old.members (k - 1) was had in
      let set : slice_get new.members (k - 1) ≡ Some is = ap (λ (l : List Member). slice_get l (k - 1)) members ∙ slice_get-set_same old.members (k - 1) is within in
      let its : slice_get new.members (k - 1) ≡ Some member = subst (λ (p : ℕ). slice_get new.members p ≡ Some member) at there in
      let asked_there : slice_get questions (k - 1) ≡ Some q = subst (λ (p : ℕ). slice_get questions p ≡ Some q) at asked in
      let number : k ≡ suc place = sym its_number ∙ ap suc (sym at) in
      subst (λ (n : ℕ). IsClientSo base q first.faults after.faults member n (all ++ more)) number
      (subst (λ (x : Query). IsClientSo base x first.faults after.faults member k (all ++ more)) (one_question questions (k - 1) query q asks asked_there)
      (subst (λ (m : Member). IsClientSo base query first.faults after.faults m k (all ++ more)) (one_member new.members (k - 1) is member set its) now))
  at_place more place q member now others asked there (inr other) =
      let old_there : slice_get old.members place ≡ Some member = sym (ap (λ (l : List Member). slice_get l place) members ∙ slice_get-set_other old.members (k - 1) is place other) ∙ there in
      let not_own : k ≡ suc place → ⊥ = λ same. other (omega (arith, same)) in
      so_later base q first.faults link.faults after.faults member (suc place) (all ++ more) grown.not_fallen
      (others (suc place) q member not_own (so.members place q member asked old_there))

  -- the convoy with more that was received
  with_more : (more : List Met) → IsClientSo base query first.faults after.faults is k (all ++ more)
      → ((number : ℕ) (q : Query) (m : Member) → (k ≡ number → ⊥) → IsClientSo base q first.faults link.faults m number all → IsClientSo base q first.faults link.faults m number (all ++ more))
      → All (IsSaid base (all ++ more)) new.kept.pages → CacheAlong base questions [] (empty_cache cache) (all ++ more) new.kept
      → AreMet base questions first.recorded after.recorded first.faults after.faults (all ++ more) → AreSo base cache questions first after new (all ++ more)
  with_more more now others said cached met = record {
    base_is = same_base ∙ so.base_is;
    clients = ap (λ (l : List Member). length l) members ∙ length-set old.members (k - 1) is ∙ so.clients;
    members = λ place q member asked there. at_place more place q member now others asked there (same_place place (k - 1));
    said = said;
    cached = cached;
    met = met;
    grown = grown_then first link after so.grown grown;
  }

  -- with one more
  module _ (turn : Turn) (one : Met) (own : one.client ≡ k) (met_in : MeetsIn turn k was is (one ∷ [])) (waited : (shown was.client).outcome ≡ None)
      (moves : Moves base first.faults after.faults was.client is.client (met_by k all ++ one.made ∷ [])) (counted : is.exchanges ≡ exchanges_by k (all ++ one ∷ []))
      (fault : (low high : ℕ) → (shown is.client).outcome ≡ Some (outcomes.LinkFault low high) → HasFailedBetween k low high (all ++ one ∷ []))
      (said : All (IsSaid base (all ++ one ∷ [])) new.kept.pages) (cached : CacheAlong base questions [] (empty_cache cache) (all ++ one ∷ []) new.kept)
      (met : AreMet base questions first.recorded after.recorded first.faults after.faults (all ++ one ∷ [])) where
    meets_one : Meets base cache questions first after new k was is all turn
    meets_one =
        let now : IsClientSo base query first.faults after.faults is k (all ++ one ∷ []) = record {
          question = moves.query ∙ it_was.question;
          at = subst (λ (made : List Made). At base first.faults after.faults is.client made (shown is.client) (shown is.client).phase) (sym (met_by_own k all one own)) moves.at;
          counted = counted;
          fault = fault;
        } in
        record {
          more = one ∷ [];
          so = with_more (one ∷ []) now (λ number q m other before. so_beside base q first.faults link.faults m number all one (λ same. other (sym own ∙ same)) before) said cached met;
          how = inl (record { one = one; is = refl; client = own; waited = waited });
          met = met_in;
        }

  -- it is one of the clients
  by_one_of : (k ≤ length questions)
  by_one_of = let within : k - 1 < length questions = slice_get_within questions (k - 1) query asks in omega arith

  -- one exchange was made
  module _ (want : Want) (got : Got) (wanted : want_of (shown was.client).phase ≡ want) (x : IsExchange base (shown was.client) link after got) (waited : (shown was.client).outcome ≡ None)
      (one_more : is.exchanges ≡ was.exchanges + 1) (ends : got ≡ None → (shown is.client).outcome ≡ Some (outcomes.LinkFault link.faults after.faults))
      (moves : Moves base first.faults after.faults was.client is.client (met_by k all ++ exchange_of want got ∷ [])) where
    abbrev one : Met
    one = record { client = k; made = exchange_of want got; asked = true; low = link.faults; high = after.faults }

    -- the count increased where it failed
    rose_by : (g : Got) → got ≡ g → RoseBy (failures_in (one ∷ [])) link.faults after.faults
    rose_by None is =
        let fault : IsExchange base (shown was.client) link after None = subst (IsExchange base (shown was.client) link after) is x in
        subst (λ (b : Bool). RoseBy (length (cond b (one ∷ []) [])) link.faults after.faults) (sym (ap (λ (g : Got). is_none g) is)) (fault.faults.rose refl)
    rose_by (Some reply) is =
        subst (λ (b : Bool). RoseBy (length (cond b (one ∷ []) [])) link.faults after.faults) (sym (ap (λ (g : Got). is_none g) is)) (RoseBy-none link.faults after.faults x.faults.not_fallen)

    -- and that is the fault by which it ended
    failed_now : (low high : ℕ) → (shown is.client).outcome ≡ Some (outcomes.LinkFault low high) → HasFailedBetween k low high (all ++ one ∷ [])
    failed_now low high some =
        let failed : got ≡ None = failed_last base first.faults after.faults is.client (met_by k all) one.made low high moves.at some in
        let same : Some (outcomes.LinkFault link.faults after.faults) ≡ Some (outcomes.LinkFault low high) = sym (ends failed) ∙ some in
        record {
          place = length all;
          exchange = one;
          there = slice_get-last all one;
          own = refl;
          failed = failed;
          low_is = (same_counts link.faults after.faults low high same).0;
          high_is = (same_counts link.faults after.faults low high same).1;
        }

    -- it got a reply or none
    exchange_how : (g : Got) → got ≡ g → GotReply is one ⊎ GotNone is one
    exchange_how None none = inr (record { got = none; low = link.faults; high = after.faults; ended = ends none })
    exchange_how (Some reply) some = inl (record {
      reply = reply;
      got = some;
      no_fault = λ low high fault. some_is_none reply (sym some ∙ failed_last base first.faults after.faults is.client (met_by k all) one.made low high moves.at fault);
    })

    exchange_met : AreMet base questions first.recorded after.recorded first.faults after.faults (all ++ one ∷ [])
    exchange_met =
        let asked : Asks base (target_of base query want) (known_at query want) x.request =
        subst (λ (q : Query). Asks base (target_of base q want) (known_at q want) x.request) it_was.question
        (subst (λ (w : Want). Asks base (target_of base (shown was.client).query w) (known_at (shown was.client).query w) x.request) wanted x.asks) in
        record {
          by_clients = All-push (IsByOneOf (length questions)) all one so.met.by_clients (record { from_one = from_one; at_most = by_one_of });
          kept = take_kept_more base [] all one so.met.kept (λ none. absurd (not_both none));
          recorded = subst (λ (l : List Met). TellsMet base questions l first.recorded after.recorded) (sym (asked_more all one refl))
              (tells_met_more base questions query (asked_in all) one x.request first.recorded link.recorded after.recorded so.met.recorded asks asked x.recorded);
          counted = along_more first.faults link.faults after.faults all one so.met.counted refl (λ none. absurd (not_both none)) (rose_by got refl) refl;
        }

    exchange_counted : is.exchanges ≡ exchanges_by k (all ++ one ∷ [])
    exchange_counted = one_more ∙ ap (λ (n : ℕ). n + 1) it_was.counted ∙ sym (exchange_more k all one refl refl)

    pub exchanged : All (IsSaid base (all ++ one ∷ [])) new.kept.pages → CacheAlong base questions [] (empty_cache cache) (all ++ one ∷ []) new.kept
        → Meets base cache questions first after new k was is all Exchanged
    exchanged said cached = meets_one Exchanged one refl (record { one = one; is = refl; client = refl; want = sym wanted; asked_is = refl }, exchange_how got refl) waited moves exchange_counted failed_now said cached exchange_met

    -- where the cache is as it was
    pub exchanged_beside : new.kept ≡ old.kept → CacheAlong base questions [] (empty_cache cache) (all ++ one ∷ []) new.kept → Meets base cache questions first after new k was is all Exchanged
    exchanged_beside same = exchanged (subst (λ (kept : Kept). All (IsSaid base (all ++ one ∷ [])) kept.pages) (sym same) (said_more base all (one ∷ []) old.kept.pages so.said))

  -- the cache after a page that was asked for
  module _ (name : PageName) (got : Got) where
    abbrev page_one : Met
    page_one = record { client = k; made = exchange_of (wants.Page name) got; asked = true; low = link.faults; high = after.faults }

    still_said : All (IsSaid base (all ++ page_one ∷ [])) old.kept.pages
    still_said = said_more base all (page_one ∷ []) old.kept.pages so.said

    as_it_was : new.kept ≡ old.kept → All (IsSaid base (all ++ page_one ∷ [])) new.kept.pages
    as_it_was same = subst (λ (kept : Kept). All (IsSaid base (all ++ page_one ∷ [])) kept.pages) (sym same) still_said

    said_now : (reply : List ℕ) (page : Page) → got ≡ Some reply → IsPageReply base name reply (Ok page) → IsSaid base (all ++ page_one ∷ []) page
    said_now reply page is says =
        let same : page.name ≡ name = (is_taken base name reply page says).named in
        record {
          reply = reply;
          says = subst (λ (n : PageName). IsPageReply base n reply (Ok page)) (sym same) says;
          place = length all;
          exchange = page_one;
          there = slice_get-last all page_one;
          asked = refl;
          made = ap (exchange_of (wants.Page name)) is ∙ ap (λ (n : PageName). reply_to (wants.Page n) reply) (sym same);
        }

    by_outcome : (outcome : Option Outcome) (page : Page) → IsSaid base (all ++ page_one ∷ []) page → new.kept ≡ kept_after outcome old.kept page → All (IsSaid base (all ++ page_one ∷ [])) new.kept.pages
    by_outcome (Some outcome) page said put = as_it_was put
    by_outcome None page said put =
        subst (λ (kept : Kept). All (IsSaid base (all ++ page_one ∷ [])) kept.pages) (sym put) (All-with_put (IsSaid base (all ++ page_one ∷ [])) old.kept page said still_said)

    by_said : (reply : List ℕ) (said : Result Page PeerFault) → got ≡ Some reply → IsPageReply base name reply said → AfterPageSaid was.client is.client reply old.kept new.kept said →
        All (IsSaid base (all ++ page_one ∷ [])) new.kept.pages
    by_said reply (Err fault) is says (ended, same) = as_it_was same
    by_said reply (Ok page) is says (takes, put) = by_outcome (wrong_gate page (shown was.client).query.leave (shown was.client).gate) page (said_now reply page is says) put

    page_said : (g : Got) → got ≡ g → TakesAsked base name was.client is.client old.kept new.kept link.faults after.faults g → All (IsSaid base (all ++ page_one ∷ [])) new.kept.pages
    page_said None is (ended, same) = as_it_was same
    page_said (Some reply) is takes = by_said reply takes.said is takes.says takes.after_page

  -- it ends by a fault of the link where there is no reply
  ends_by : (takes : List ℕ → Type 0) (got : Got) → Takes was.client is.client link.faults after.faults takes got → got ≡ None → (shown is.client).outcome ≡ Some (outcomes.LinkFault link.faults after.faults)
  ends_by takes None t none = ap (λ (s : Shown). s.outcome) t
  ends_by takes (Some reply) t none = absurd (some_is_none reply none)

  ends_by_page : (name : PageName) (got : Got) → TakesAsked base name was.client is.client old.kept new.kept link.faults after.faults got → got ≡ None →
      (shown is.client).outcome ≡ Some (outcomes.LinkFault link.faults after.faults)
  ends_by_page name None (ended, same) none = ap (λ (s : Shown). s.outcome) ended
  ends_by_page name (Some reply) t none = absurd (some_is_none reply none)

  spans : (got : Got) → IsExchange base (shown was.client) link after got → Spans first.faults link.faults after.faults got
  spans got x = record { from = so.grown.not_fallen; cause = x.faults }

  pub asked_one : IsExchanged base was is old.kept new.kept link after → Meets base cache questions first after new k was is all Exchanged
  asked_one t = by t.asks where
    by : AsksOne base was.client is.client old.kept new.kept link after → Meets base cache questions first after new k was is all Exchanged
    by (inl (asks, same)) =
        let at : AtGate base (shown was.client) (met_by k all) = it_waited phases.Gate (waits_at_gate (shown was.client).phase asks.wants) in
        exchanged_beside wants.Gate asks.got asks.wants asks.exchange t.had_none t.one_more (ends_by (TakesGate base was.client is.client) asks.got asks.takes)
        (gate_asked base first.faults link.faults after.faults was.client is.client (met_by k all) at asks.got (spans asks.got asks.exchange) asks.takes) same
        (with_gate base questions was.client k asks_so (empty_cache cache) old.kept new.kept all so.cached asks.got link.faults after.faults same)
    by (inr (inl (asks, same))) =
        let phase = waits_for_stops (shown was.client).phase asks.wants in
        let at : AtStops base (shown was.client) (met_by k all) phase.first = it_waited (phases.Stops phase.first) phase.is in
        exchanged_beside wants.Stops asks.got asks.wants asks.exchange t.had_none t.one_more (ends_by (TakesStops was.client is.client) asks.got asks.takes)
        (stops_asked base first.faults link.faults after.faults was.client is.client (met_by k all) phase.first phase.is at asks.got (spans asks.got asks.exchange) asks.takes) same
        (with_stops base questions was.client k asks_so (empty_cache cache) old.kept new.kept all so.cached asks.got link.faults after.faults same)
    by (inr (inr asks)) =
        let at : AtPage base (shown was.client) was.client (met_by k all) asks.name = it_waited (phases.Page asks.name) (waits_for (shown was.client).phase asks.name asks.wants) in
        exchanged (wants.Page asks.name) asks.got asks.wants asks.exchange t.had_none t.one_more (ends_by_page asks.name asks.got asks.takes)
        (page_asked base first.faults link.faults after.faults was.client is.client old.kept new.kept (met_by k all) asks.name at asks.got (spans asks.got asks.exchange) asks.takes)
        (page_said asks.name asks.got asks.got refl asks.takes)
        (with_page base questions was.client k asks_so (empty_cache cache) old.kept new.kept all so.cached is.client asks.name asks.got link.faults after.faults asks.lacks at asks.takes)

  -- nothing was wanted any more
  pub met_none : IsFinished was is old.kept new.kept → after.faults ≡ link.faults → after.recorded ≡ link.recorded → Meets base cache questions first after new k was is all Finished
  met_none t faults recorded =
      let now : IsClientSo base query first.faults after.faults is k (all ++ []) =
      subst (λ (l : List Met). IsClientSo base query first.faults after.faults is k l) (sym (append-nil all))
      (subst (λ (m : Member). IsClientSo base query first.faults after.faults m k all) (sym t.member)
      (so_later base query first.faults link.faults after.faults was k all grown.not_fallen it_was)) in
      record {
        more = [];
        so = with_more [] now (λ number q m other before. subst (λ (l : List Met). IsClientSo base q first.faults link.faults m number l) (sym (append-nil all)) before)
            (subst (λ (l : List Met). All (IsSaid base l) new.kept.pages) (sym (append-nil all)) (subst (λ (kept : Kept). All (IsSaid base all) kept.pages) (sym t.cache) so.said))
            (subst (λ (l : List Met). CacheAlong base questions [] (empty_cache cache) l new.kept) (sym (append-nil all))
            (subst (CacheAlong base questions [] (empty_cache cache) all) (sym t.cache) so.cached))
            (subst (AreMet base questions first.recorded after.recorded first.faults after.faults) (sym (append-nil all))
            (subst (λ (n : ℕ). AreMet base questions first.recorded after.recorded first.faults n all) (sym faults)
            (subst (λ (entries : Option (List Entry)). AreMet base questions first.recorded entries first.faults link.faults all) (sym recorded) so.met)));
        how = inr (record { none = refl; had = t.had; has = subst HasOutcome (sym t.member) t.had });
        met = refl;
      }

  -- a page of the cache was taken
  pub took_kept : IsCached was is old.kept new.kept → after.faults ≡ link.faults → after.recorded ≡ link.recorded → Meets base cache questions first after new k was is all Cached
  took_kept t faults recorded =
      let h = t.holds in
      let at : AtPage base (shown was.client) was.client (met_by k all) h.name = it_waited (phases.Page h.name) (waits_for (shown was.client).phase h.name h.wants) in
      let same : h.page.name ≡ h.name = named old.kept.pages h.name h.page h.holds in
      let said : IsSaid base all h.page = found (IsSaid base all) (has_name h.name) old.kept.pages h.page so.said h.holds in
      let says : IsPageReply base h.name said.reply (Ok h.page) = subst (λ (n : PageName). IsPageReply base n said.reply (Ok h.page)) same said.says in
      let made : Made = reply_to (wants.Page h.name) said.reply in
      let one : Met = record { client = k; made = made; asked = false; low = link.faults; high = link.faults } in
      let was_kept : WasKept base all made = record {
        name = h.name;
        reply = said.reply;
        page = h.page;
        is = refl;
        says = says;
        place = said.place;
        exchange = said.exchange;
        there = said.there;
        asked = said.asked;
        same = said.made ∙ ap (λ (n : PageName). reply_to (wants.Page n) said.reply) same;
      } in
      let met : AreMet base questions first.recorded link.recorded first.faults link.faults (all ++ one ∷ []) = record {
        by_clients = All-push (IsByOneOf (length questions)) all one so.met.by_clients (record { from_one = from_one; at_most = by_one_of });
        kept = take_kept_more base [] all one so.met.kept (λ none. was_kept);
        recorded = subst (λ (l : List Met). TellsMet base questions l first.recorded link.recorded) (sym (not_asked_more all one refl)) so.met.recorded;
        counted = along_more first.faults link.faults link.faults all one so.met.counted refl (λ none. refl) (RoseBy-none link.faults link.faults (no_less link.faults)) refl;
      } in
      let moves = page_taken base first.faults after.faults was.client is.client (met_by k all) h.name at said.reply h.page says h.takes in
      let no_fault : (low high : ℕ) → (shown is.client).outcome ≡ Some (outcomes.LinkFault low high) → ⊥ =
      λ low high some. some_is_none said.reply (failed_last base first.faults after.faults is.client (met_by k all) made low high moves.at some) in
      meets_one Cached one refl
      (record { one = one; is = refl; client = refl; want = sym h.wants; asked_is = refl }, record { reply = said.reply; got = refl; no_fault = no_fault })
      t.had_none moves
      (t.same_count ∙ it_was.counted ∙ sym (no_exchange_more k all one refl))
      (λ low high some. absurd (no_fault low high some))
      (subst (λ (kept : Kept). All (IsSaid base (all ++ one ∷ [])) kept.pages) (sym h.used)
      (All-with_used (IsSaid base (all ++ one ∷ [])) old.kept.pages h.name (said_more base all (one ∷ []) old.kept.pages so.said)))
      (with_cached base questions was.client k asks_so (empty_cache cache) old.kept new.kept all so.cached is.client said.reply link.faults link.faults h says)
      (subst (λ (n : ℕ). AreMet base questions first.recorded after.recorded first.faults n (all ++ one ∷ [])) (sym faults)
      (subst (λ (entries : Option (List Entry)). AreMet base questions first.recorded entries first.faults link.faults (all ++ one ∷ [])) (sym recorded) met))

-- what an exchange leaves of the link
exchange_grows : (base : BaseParts) (old new : Client) (kept after_kept : Kept) (link after : LinkSeen) → AsksOne base old new kept after_kept link after → HasGrown link after
exchange_grows base old new kept after_kept link after (inl (asks, same)) = record { clear = asks.exchange.clear; not_fallen = asks.exchange.faults.not_fallen }
exchange_grows base old new kept after_kept link after (inr (inl (asks, same))) = record { clear = asks.exchange.clear; not_fallen = asks.exchange.faults.not_fallen }
exchange_grows base old new kept after_kept link after (inr (inr asks)) = record { clear = asks.exchange.clear; not_fallen = asks.exchange.faults.not_fallen }

-- client k had its turn
module _ {X : Type 0} (seen : X → LinkSeen) (base : BaseParts) (cache : ℕ) (questions : List Query) (first : LinkSeen) (k : ℕ) (from_one : 1 ≤ k) (old new : ConvoyState) (link after : X) (all : List Met)
    (so : AreSo base cache questions first (seen link) old all) where
  -- its question
  asks_it : (was : Member) → slice_get old.members (k - 1) ≡ Some was → (query : Query) × (slice_get questions (k - 1) ≡ Some query)
  asks_it was had = item_within questions (k - 1) (let within : k - 1 < length old.members = slice_get_within old.members (k - 1) was had in let same = so.clients in omega arith)

  by_turn : (turn : Turn) (step : IsStep seen k old new link after turn) → Turned base step.turned.was step.turned.is old.kept new.kept (seen link) (seen after) turn →
      Meets base cache questions first (seen after) new k step.turned.was step.turned.is all turn
  by_turn Finished step t =
      let s = step.turned in
      let still : after ≡ link = step.idle (λ e. cc) in
      let query = asks_it s.was s.had in
      met_none base cache questions query.0 first (seen link) (seen after) old new k from_one s.was s.is all so query.1 s.had s.members s.base
      (subst (λ (x : X). HasGrown (seen link) (seen x)) (sym still) (grown_not (seen link))) t (ap (λ (x : X). (seen x).faults) still) (ap (λ (x : X). (seen x).recorded) still)
  by_turn Cached step t =
      let s = step.turned in
      let still : after ≡ link = step.idle (λ e. cc) in
      let query = asks_it s.was s.had in
      took_kept base cache questions query.0 first (seen link) (seen after) old new k from_one s.was s.is all so query.1 s.had s.members s.base
      (subst (λ (x : X). HasGrown (seen link) (seen x)) (sym still) (grown_not (seen link))) t (ap (λ (x : X). (seen x).faults) still) (ap (λ (x : X). (seen x).recorded) still)
  by_turn Exchanged step t =
      let s = step.turned in
      let query = asks_it s.was s.had in
      asked_one base cache questions query.0 first (seen link) (seen after) old new k from_one s.was s.is all so query.1 s.had s.members s.base
      (exchange_grows base s.was.client s.is.client old.kept new.kept (seen link) (seen after) t.asks) t

  pub turn_meets : (turn : Turn) (step : IsStep seen k old new link after turn) → Meets base cache questions first (seen after) new k step.turned.was step.turned.is all turn
  turn_meets turn step =
      let s = step.turned in
      by_turn turn step (subst (λ (b : BaseParts). Turned b s.was s.is old.kept new.kept (seen link) (seen after) turn) so.base_is s.turned)
