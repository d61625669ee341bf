-- A client of the fewest rides, exchange after exchange, over any link.
use Rattle.std.proofs.Common.{◌≡◌, ◌∙◌, ◌≤◌, ℕ, inl, inr, true, false, List, [], ◌∷◌, ◌++◌, Option, Some, None, Result, Ok, Err, IsErrOf, ap, arith, length, map, refl, subst, sym}
use Rattle.std.proofs.lemmas.List.{length_push, map-append}
use Rattle.connection_uri.specs.Base.{BaseParts}
use Rattle.convoy.specs.Exchange.{Got, IsExchange, result_of}
use Rattle.convoy.specs.Steps.{Takes, TakesGate, TakesStops}
use Rattle.csa_scan.proofs.ListPlacesLemmas.{slice_get-last}
use Rattle.lc_io.proofs.CountLemmas.{RoseBy-none}
use Rattle.lc_io.specs.Counts.{HasCause, RoseBy}
use Rattle.lc_model.specs.declared.page.PageName.{PageName}
use Rattle.lc_model.specs.declared.query.Query.{Query}
use Rattle.lc_world.specs.Link.{LinkSeen}
use Rattle.lc_world.specs.declared.link.LinkFail.TheVariants.{Failed}
use Rattle.page_client.specs.Kept.{Kept}
use Rattle.page_client.proofs.PageLemmas.{waits_for}
use Rattle.page_client.specs.Client.{shown}
use Rattle.page_client.specs.Page.{IsPageReply}
use Rattle.page_client.specs.Request.{Asks, known_at, target_of}
use Rattle.page_client.specs.Shown.{Begins, IsRefusal, Shown, ended, first_outcome, first_phase, want_of}
use Rattle.page_client.specs.declared.client.Client.{Client}
use Rattle.page_client.specs.declared.fault.PeerFault.{PeerFault}
use Rattle.page_client.specs.declared.fault.QueryFault.{QueryFault}
use Rattle.page_client.specs.declared.fault.QueryFault.TheVariants.{HorizonRange, SameStop, UnknownFrom, UnknownTo}
use Rattle.page_client.specs.declared.outcome.Outcome.{Outcome}
use Rattle.page_client.specs.declared.outcome.Outcome.TheVariants as outcomes
use Rattle.page_client.specs.declared.phase.Phase.{Phase}
use Rattle.page_client.specs.declared.phase.Phase.TheVariants as phases
use Rattle.page_client.specs.declared.want.Want.{Want}
use Rattle.page_client.specs.declared.want.Want.TheVariants as wants
use Rattle.page_json.specs.declared.page.Page.{Page}
use Rattle.convoy.specs.Replies.Course.{IsReading}
use Rattle.convoy.specs.Replies.Made.{Made, TellsAll, reply_to}
use Rattle.convoy.specs.Replies.Met.{CountAlong, HasFailedBetween, Met, failures_in}
use Rattle.convoy.proofs.RepliesLemmas.ClientsLemmas.{failed_last, same_counts, waits_at_gate, waits_for_stops}
use Rattle.convoy.proofs.RepliesLemmas.CourseLemmas.{not_behind, stands_last}
use Rattle.convoy.proofs.RepliesLemmas.MadeLemmas.{tells_more, tells_none}
use Rattle.convoy.proofs.RepliesLemmas.MetLemmas.{along_more}
use Rattle.convoy.proofs.RepliesLemmas.StepLemmas.{At, AtGate, AtPage, AtStops, Moves, Spans, exchange_of, gate_asked, page_asked, page_taken, stops_asked}
use Rattle.rounds_client.specs.Course.{LeadsTo, Point}
use Rattle.rounds_client.specs.Given.{AfterReply, Gives, GivesStops, GivesPage, KeepsDoc, ReadsReply, TakesDoc, TakesGot, Was}
use Rattle.rounds_client.proofs.EndsLemmas.ReadLemmas.{ReadAt, ReadsGiven, kept_by_none, kept_by_reply, read_after_gate, read_after_page, read_after_stops}

-- what was made, exchange by exchange
abbrev pub made_in : List Met → List Made
made_in all = map (λ (met : Met). met.made) all

-- By these exchanges the client is in its phase, with what it was given. The link records them, and its count went along them.
pub record SoFar (base : BaseParts) (query : Query) (first now : LinkSeen) (client : Client) (given : Was) (all : List Met) : Type 0 where
  pub question : (shown client).query ≡ query
  pub at : At base first.faults now.faults client (made_in all) (shown client) (shown client).phase
  pub read : ReadAt base query (made_in all) given (shown client).outcome (shown client).phase
  pub recorded : TellsAll base query (made_in all) first.recorded now.recorded
  pub clear : first.clear → now.clear
  pub not_fallen : first.faults ≤ now.faults
  pub along : CountAlong first.faults now.faults all
  pub fault : (low high : ℕ) → (shown client).outcome ≡ Some (outcomes.LinkFault low high) → HasFailedBetween 1 low high all

-- and one exchange more
record OneMore (base : BaseParts) (query : Query) (first now : LinkSeen) (client : Client) (given : Was) (all : List Met) : Type 0 where
  one : Met
  so : SoFar base query first now client given (all ++ one ∷ [])

-- a cache without room
abbrev no_pages : Kept
no_pages = record { capacity = 0; pages = [] }

not_both : {A : Type 0} (reply : A) → Some reply ≡ None → ⊥
not_both reply same = cc

-- one exchange more
module _ (base : BaseParts) (query : Query) (first link after : LinkSeen) (old new : Client) (given now : Was) (all : List Met) (so : SoFar base query first link old given all) where
  abbrev one_of : Want → Got → Met
  one_of want got = record { client = 1; made = exchange_of want got; asked = true; low = link.faults; high = after.faults }

  more_made : (met : Met) → made_in all ++ met.made ∷ [] ≡ made_in (all ++ met ∷ [])
  more_made met = sym (map-append (λ (m : Met). m.made) all (met ∷ []))

  it_waited : (phase : Phase) → (shown old).phase ≡ phase → At base first.faults link.faults old (made_in all) (shown old) phase
  it_waited phase is = subst (At base first.faults link.faults old (made_in all) (shown old)) is so.at

  it_read : (phase : Phase) → (shown old).phase ≡ phase → ReadAt base query (made_in all) given (shown old).outcome phase
  it_read phase is = subst (ReadAt base query (made_in all) given (shown old).outcome) is so.read

  spans : (got : Got) → IsExchange base (shown old) link after got → Spans first.faults link.faults after.faults got
  spans got x = record { from = so.not_fallen; cause = x.faults }

  rose_by : (want : Want) (got : Got) → HasCause link.faults after.faults (IsErrOf (result_of got) Failed) → RoseBy (failures_in (one_of want got ∷ [])) link.faults after.faults
  rose_by want None cause = cause.rose refl
  rose_by want (Some reply) cause = RoseBy-none link.faults after.faults cause.not_fallen

  module _ (want : Want) (got : Got) (wanted : want_of (shown old).phase ≡ want) (x : IsExchange base (shown old) link after got)
      (ends : got ≡ None → (shown new).outcome ≡ Some (outcomes.LinkFault link.faults after.faults))
      (moves : Moves base first.faults after.faults old new (made_in all ++ exchange_of want got ∷ []))
      (read : ReadAt base query (made_in all ++ exchange_of want got ∷ []) now (shown new).outcome (shown new).phase) where
    failed_now : (low high : ℕ) → (shown new).outcome ≡ Some (outcomes.LinkFault low high) → HasFailedBetween 1 low high (all ++ one_of want got ∷ [])
    failed_now low high some =
        let failed : got ≡ None = failed_last base first.faults after.faults new (made_in all) (exchange_of want got) low high moves.at some in
        let same : Some (outcomes.LinkFault link.faults after.faults) ≡ Some (outcomes.LinkFault low high) = sym (ends failed) ∙ some in
        record {
          place = length all;
          exchange = one_of want got;
          there = slice_get-last all (one_of want got);
          own = refl;
          failed = failed;
          low_is = (same_counts link.faults after.faults low high same).0;
          high_is = (same_counts link.faults after.faults low high same).1;
        }

    pub one_more : SoFar base query first after new now (all ++ one_of want got ∷ [])
    one_more =
        let asked : Asks base (target_of base query want) (known_at query want) x.request =
        subst (λ (q : Query). Asks base (target_of base q want) (known_at q want) x.request) so.question
        (subst (λ (w : Want). Asks base (target_of base (shown old).query w) (known_at (shown old).query w) x.request) wanted x.asks) in
        let same = more_made (one_of want got) in
        record {
          question = moves.query ∙ so.question;
          at = subst (λ (made : List Made). At base first.faults after.faults new made (shown new) (shown new).phase) same moves.at;
          read = subst (λ (made : List Made). ReadAt base query made now (shown new).outcome (shown new).phase) same read;
          recorded = subst (λ (made : List Made). TellsAll base query made first.recorded after.recorded) same
              (tells_more base query (made_in all) (exchange_of want got) x.request first.recorded link.recorded after.recorded so.recorded asked x.recorded);
          clear = λ is. x.clear (so.clear is);
          not_fallen = (let low = so.not_fallen in let high = x.faults.not_fallen in omega arith);
          along =
              along_more first.faults link.faults after.faults all (one_of want got) so.along refl (λ none. absurd (let e : true ≡ false = none in cc)) (rose_by want got x.faults) refl;
          fault = failed_now;
        }

  -- what was given where the client ended by no journey
  read_at_end : (made : List Made) (outcome : Outcome) → ((journey : _) → outcome ≡ outcomes.Found journey → ⊥) → shown new ≡ ended outcome (shown old) → ReadAt base query made now (shown new).outcome (shown new).phase
  read_at_end made outcome none is =
      subst (λ (s : Shown). ReadAt base query made now s.outcome s.phase) (sym is)
      (λ version journey found read. absurd (none journey (let e : Some outcome ≡ Some (outcomes.Found journey) = found in cc)))

  ends_by : (takes : List ℕ → Type 0) (got : Got) → Takes old new link.faults after.faults takes got → got ≡ None → (shown new).outcome ≡ Some (outcomes.LinkFault link.faults after.faults)
  ends_by takes None t none = ap (λ (s : Shown). s.outcome) t
  ends_by takes (Some reply) t none = absurd (not_both reply none)

  ends_by_got : (takes : List ℕ → Type 0) (got : Got) → TakesGot old new link.faults after.faults given now takes got → got ≡ None → (shown new).outcome ≡ Some (outcomes.LinkFault link.faults after.faults)
  ends_by_got takes None (is, same) none = ap (λ (s : Shown). s.outcome) is
  ends_by_got takes (Some reply) t none = absurd (not_both reply none)

  -- the time gate is asked
  gate_more : (got : Got) (wanted : want_of (shown old).phase ≡ wants.Gate) → IsExchange base (shown old) link after got → Takes old new link.faults after.faults (TakesGate base old new) got → now ≡ given
      → OneMore base query first after new now all
  gate_more got wanted x takes same =
      let is = waits_at_gate (shown old).phase wanted in
      let at : AtGate base (shown old) (made_in all) = it_waited phases.Gate is in
      let unread : given.pages ≡ [] = it_read phases.Gate is in
      record {
        one = one_of wants.Gate got;
        so = one_more wants.Gate got wanted x (ends_by (TakesGate base old new) got takes)
            (gate_asked base first.faults link.faults after.faults old new (made_in all) at got (spans got x) takes)
            (read_after_gate base query (made_in all) (exchange_of wants.Gate got) now (shown new).outcome (shown new).phase at.come.nothing_made (ap (λ (w : Was). w.pages) same ∙ unread));
      }

  -- the stops document is asked for
  as_stops : (got : Got) → TakesGot old new link.faults after.faults given now (λ reply. TakesDoc old new reply given now) got → Takes old new link.faults after.faults (TakesStops old new) got
  as_stops None (is, same) = is
  as_stops (Some reply) t = record { said = t.said; says = t.says; after = t.after }

  stops_read : (gate : Made) → made_in all ≡ gate ∷ [] → given.pages ≡ [] → (got : Got) → TakesGot old new link.faults after.faults given now (λ reply. TakesDoc old new reply given now) got
      → ReadAt base query (made_in all ++ exchange_of wants.Stops got ∷ []) now (shown new).outcome (shown new).phase
  stops_read gate are unread None (is, same) =
      let none : now.pages ≡ [] = ap (λ (w : Was). w.pages) same ∙ unread in
      read_after_stops base query gate (exchange_of wants.Stops None) now none (made_in all) (shown new).outcome (shown new).phase are
      (kept_by_none base query gate (exchange_of wants.Stops None) now none refl)
  stops_read gate are unread (Some reply) t =
      let none : now.pages ≡ [] = t.pages ∙ unread in
      read_after_stops base query gate (exchange_of wants.Stops (Some reply)) now none (made_in all) (shown new).outcome (shown new).phase are
      (kept_by_reply base query gate (exchange_of wants.Stops (Some reply)) now none reply t.said refl t.says (subst (λ (q : Query). KeepsDoc q t.said now.doc) so.question t.doc))

  stops_more : GivesStops base old new link after given now → OneMore base query first after new now all
  stops_more gives =
      let waits = waits_for_stops (shown old).phase gives.wants in
      let at : AtStops base (shown old) (made_in all) waits.first = it_waited (phases.Stops waits.first) waits.is in
      let unread : given.pages ≡ [] = it_read (phases.Stops waits.first) waits.is in
      record {
        one = one_of wants.Stops gives.got;
        so = one_more wants.Stops gives.got gives.wants gives.exchange (ends_by_got (λ reply. TakesDoc old new reply given now) gives.got gives.takes)
            (stops_asked base first.faults link.faults after.faults old new (made_in all) waits.first waits.is at gives.got (spans gives.got gives.exchange) (as_stops gives.got gives.takes))
            (stops_read (reply_to wants.Gate at.come.gate) at.come.was_made unread gives.got gives.takes);
      }

  -- a page is asked for
  module _ (name : PageName) (at : AtPage base (shown old) old (made_in all) name) (reads : ReadsGiven base query (made_in all) given name) where
    come : IsReading base query (shown old).version (made_in all) name
    come = subst (λ (q : Query). IsReading base q (shown old).version (made_in all) name) so.question at.come

    moves_by_said : (reply : List ℕ) (said : Result Page PeerFault) → Spans first.faults link.faults after.faults (Some reply) → IsPageReply base name reply said → AfterReply name old new reply given now said
        → Moves base first.faults after.faults old new (made_in all ++ exchange_of (wants.Page name) (Some reply) ∷ [])
    moves_by_said reply (Ok page) spans says (takes, may, pages, doc) = page_taken base first.faults after.faults old new (made_in all) name at reply page says takes
    moves_by_said reply (Err fault) spans says (is, same) =
        page_asked base first.faults link.faults after.faults old new no_pages no_pages (made_in all) name at (Some reply) spans (record { said = Err fault; says = says; after_page = (is, refl) })

    page_moves : (got : Got) → Spans first.faults link.faults after.faults got → TakesGot old new link.faults after.faults given now (λ reply. ReadsReply base name old new reply given now) got
        → Moves base first.faults after.faults old new (made_in all ++ exchange_of (wants.Page name) got ∷ [])
    page_moves None spans (is, same) = page_asked base first.faults link.faults after.faults old new no_pages no_pages (made_in all) name at None spans (is, refl)
    page_moves (Some reply) spans t = moves_by_said reply t.said spans t.says t.after

    not_gate : (last : Made) → Moves base first.faults after.faults old new (made_in all ++ last ∷ []) → (shown new).phase ≡ phases.Gate → ⊥
    not_gate last moves is =
        let there : AtGate base (shown new) (made_in all ++ last ∷ []) = subst (At base first.faults after.faults new (made_in all ++ last ∷ []) (shown new)) is moves.at in
        not_behind (made_in all) last [] (sym there.come.nothing_made)

    not_stops : (last : Made) → Moves base first.faults after.faults old new (made_in all ++ last ∷ []) → (next : PageName) → (shown new).phase ≡ phases.Stops next → ⊥
    not_stops last moves next is =
        let there : AtStops base (shown new) (made_in all ++ last ∷ []) next = subst (At base first.faults after.faults new (made_in all ++ last ∷ []) (shown new)) is moves.at in
        let both = stands_last (made_in all) [] last (reply_to wants.Gate there.come.gate) there.come.was_made in
        let none : [] ≡ reply_to wants.Gate come.gate ∷ reply_to wants.Stops come.stops ∷ come.for_pages = sym both.0 ∙ come.was_made in
        cc

    read_by_said : (reply : List ℕ) (said : Result Page PeerFault) → IsPageReply base name reply said → AfterReply name old new reply given now said
        → Moves base first.faults after.faults old new (made_in all ++ exchange_of (wants.Page name) (Some reply) ∷ [])
        → ReadAt base query (made_in all ++ exchange_of (wants.Page name) (Some reply) ∷ []) now (shown new).outcome (shown new).phase
    read_by_said reply (Ok page) says (takes, may, pages, doc) moves =
        read_after_page base query (shown old).version (made_in all) name reply page given now come reads says pages doc (shown new).outcome (shown new).phase
        (not_gate (exchange_of (wants.Page name) (Some reply)) moves) (not_stops (exchange_of (wants.Page name) (Some reply)) moves)
    read_by_said reply (Err fault) says (is, same) moves = read_at_end (made_in all ++ exchange_of (wants.Page name) (Some reply) ∷ []) (outcomes.PeerWrong reply fault) (λ journey e. cc) is

    page_read : (got : Got) → TakesGot old new link.faults after.faults given now (λ reply. ReadsReply base name old new reply given now) got
        → Moves base first.faults after.faults old new (made_in all ++ exchange_of (wants.Page name) got ∷ [])
        → ReadAt base query (made_in all ++ exchange_of (wants.Page name) got ∷ []) now (shown new).outcome (shown new).phase
    page_read None (is, same) moves = read_at_end (made_in all ++ exchange_of (wants.Page name) None ∷ []) (outcomes.LinkFault link.faults after.faults) (λ journey e. cc) is
    page_read (Some reply) t moves = read_by_said reply t.said t.says t.after moves

  page_more : GivesPage base old new link after given now → OneMore base query first after new now all
  page_more gives =
      let is = waits_for (shown old).phase gives.name gives.wants in
      let at : AtPage base (shown old) old (made_in all) gives.name = it_waited (phases.Page gives.name) is in
      let reads : ReadsGiven base query (made_in all) given gives.name = it_read (phases.Page gives.name) is in
      let moves = page_moves gives.name at reads gives.got (spans gives.got gives.exchange) gives.takes in
      record {
        one = one_of (wants.Page gives.name) gives.got;
        so = one_more (wants.Page gives.name) gives.got gives.wants gives.exchange (ends_by_got (λ reply. ReadsReply base gives.name old new reply given now) gives.got gives.takes) moves
            (page_read gives.name at reads gives.got gives.takes moves);
      }

  one_exchange : Gives base old new link after given now → OneMore base query first after new now all
  one_exchange (inl (gate, same)) = gate_more gate.got gate.wants gate.exchange gate.takes same
  one_exchange (inr (inl stops)) = stops_more stops
  one_exchange (inr (inr page)) = page_more page

-- before the first exchange
module _ (base : BaseParts) (query : Query) (link : LinkSeen) (client : Client) (given : Was) (unread : given.pages ≡ []) where
  by_refusal : (refusal : Option QueryFault) → IsRefusal query refusal
      → At base link.faults link.faults client [] (record { query = query; phase = first_phase refusal; version = None; gate = None; outcome = first_outcome refusal }) (first_phase refusal)
  by_refusal None is = record { accepted = is; come = record { no_version = refl; nothing_made = refl }; none = refl }
  by_refusal (Some HorizonRange) is = record { outcome = outcomes.Refused HorizonRange; ended = refl; ends = record { deserved = is; no_version = refl; nothing_made = refl } }
  by_refusal (Some SameStop) is = record { outcome = outcomes.Refused SameStop; ended = refl; ends = record { deserved = is; no_version = refl; nothing_made = refl } }
  by_refusal (Some UnknownFrom) is = absurd is
  by_refusal (Some UnknownTo) is = absurd is

  read_first : (refusal : Option QueryFault) → ReadAt base query [] given (first_outcome refusal) (first_phase refusal)
  read_first None = unread
  read_first (Some fault) = λ version journey found read. absurd (let e : Some (outcomes.Refused fault) ≡ Some (outcomes.Found journey) = found in cc)

  no_fault_yet : (refusal : Option QueryFault) (low high : ℕ) → first_outcome refusal ≡ Some (outcomes.LinkFault low high) → ⊥
  no_fault_yet None low high is = cc
  no_fault_yet (Some fault) low high is = cc

  at_first : Begins query (shown client) → SoFar base query link link client given []
  at_first b = record {
    question = ap (λ (s : Shown). s.query) b.is;
    at = subst (λ (s : Shown). At base link.faults link.faults client [] s s.phase) (sym b.is) (by_refusal b.refusal b.is_refusal);
    read = subst (λ (s : Shown). ReadAt base query [] given s.outcome s.phase) (sym b.is) (read_first b.refusal);
    recorded = tells_none base query link.recorded;
    clear = λ is. is;
    not_fallen = (let same : link.faults ≤ link.faults = omega arith in same);
    along = refl;
    fault = λ low high is. absurd (no_fault_yet b.refusal low high (sym (ap (λ (s : Shown). s.outcome) b.is) ∙ is));
  }

-- so many exchanges led there
pub record HasCome {X : Type 0} (seen : X → LinkSeen) (base : BaseParts) (query : Query) (first : X) (end : Point X) (points : List (Point X)) : Type 0 where
  pub all : List Met
  pub count : length all ≡ length points
  pub so : SoFar base query (seen first) (seen end.link) end.client end.given all

pub has_come : {X : Type 0} (seen : X → LinkSeen) (base : BaseParts) (query : Query) (start : Point X) → Begins query (shown start.client) → start.given.pages ≡ [] → (points : List (Point X)) (end : Point X)
    → LeadsTo seen base points start end → HasCome seen base query start.link end points
has_come {X} seen base query start begins unread [] end is =
    subst (λ (p : Point X). HasCome seen base query start.link p []) (sym is)
    (record { all = []; count = refl; so = at_first base query (seen start.link) start.client start.given unread begins })
has_come {X} seen base query start begins unread (last ∷ earlier) end (gives, leads) =
    let before = has_come seen base query start begins unread earlier last leads in
    let more = one_exchange base query (seen start.link) (seen last.link) (seen end.link) last.client end.client last.given end.given before.all before.so gives in
    let one = length_push before.all more.one in
    let count = before.count in
    record { all = before.all ++ more.one ∷ []; count = omega (arith, one, count); so = more.so }
