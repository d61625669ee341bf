-- What one exchange over an honest link leaves of a client, and of what it was given.
use Rattle.std.proofs.Common.{◌≡◌, ◌≢◌, ℕ, ◌⊎◌, inl, inr, List, [], ◌∷◌, ◌++◌, Option, Some, None, Result, Ok, Err, refl, ap, sym, subst, ◌∙◌, arith}
use Rattle.std.specs.List.{All}
use Rattle.std.proofs.lemmas.List.{append-nil}
use Rattle.lc_io.specs.Counts.{Rose}
use Rattle.lc_model.specs.declared.doc.StopsDoc.{StopsDoc}
use Rattle.lc_model.specs.declared.page.PageName.{PageName}
use Rattle.lc_model.specs.declared.query.Query.{Query}
use Rattle.connection_uri.specs.Base.{BaseParts}
use Rattle.page_json.specs.declared.page.Page.{Page}
use Rattle.lc_world.specs.Link.{Exchanges, IsHonestWith, LinkSeen}
use Rattle.page_client.specs.Client.{AfterStops, shown}
use Rattle.page_client.specs.Shown.{IsRefusal, Shown, ended, want_of}
use Rattle.page_client.specs.declared.client.Client.{Client}
use Rattle.page_client.specs.declared.fault.PeerFault.{PeerFault}
use Rattle.page_client.specs.declared.outcome.Outcome.{Outcome}
use Rattle.page_client.specs.declared.outcome.Outcome.TheVariants.{LinkFault}
use Rattle.page_client.specs.declared.phase.Phase.{Phase}
use Rattle.page_client.specs.declared.phase.Phase.TheVariants as phases
use Rattle.page_client.specs.declared.want.Want.{Want}
use Rattle.page_client.specs.declared.want.Want.TheVariants as wants
use Rattle.page_client.proofs.PageLemmas.{waits_for}
use Rattle.lc_world.specs.Sides.Short.{StandsUnder}
use Rattle.lc_world.specs.Sides.Side.{Side}
use Rattle.convoy.specs.ClientLaws.Stated.{version_at}
use Rattle.convoy.proofs.ClientLawsLemmas.ReadLemmas.{stops_are_read}
use Rattle.convoy.specs.ClientLaws.Fits.{FitsAt, FitsSide, WaitsForPage}
use Rattle.convoy.specs.ClientLaws.Published.{IsOwnPage}
use Rattle.convoy.specs.ClientLaws.Steps.{IsReplyTo, SaysOwnPage}
use Rattle.convoy.specs.ClientLaws.Wants.{AreWants, IsItsVersion}
use Rattle.convoy.proofs.ClientLawsLemmas.FitsLemmas.{fits_stays}
use Rattle.convoy.proofs.ClientLawsLemmas.StepLemmas.{gate_keeps_it, link_fault_keeps_it, page_is_own, page_keeps_it, stops_keep_it}
use Rattle.convoy.proofs.ClientLawsLemmas.WantsLemmas.{wants_the_next}
use Rattle.convoy.specs.Exchange.{Got, IsExchange, bytes_of, result_of}
use Rattle.convoy.specs.Steps.{Takes, TakesGate}
use Rattle.convoy.specs.Agreement.Leaves.{HasFault, LeavesHonest, RoseWithin}
use Rattle.convoy.specs.Agreement.Requests.{TellsAsked, request_of}
use Rattle.convoy.proofs.AgreementLemmas.AloneLemmas.{waits_at_first}
use Rattle.convoy.proofs.AgreementLemmas.HonestLemmas.{is_get}
use Rattle.rounds_client.specs.Given.{AfterReply, Gives, KeepsDoc, ReadsReply, TakesDoc, TakesGot, Was}
use Rattle.rounds_client.proofs.EndsLemmas.GivenLemmas.{Holds, doc_after_gate, doc_after_stops, doc_anyhow, doc_by_shown, doc_later, doc_of_reader, named_then, own_later, own_more}
use Rattle.convoy.proofs.AgreementLemmas.NoFaultLemmas.{gate_no_fault, page_no_fault, stops_no_fault}
use Rattle.rounds_client.proofs.EndsLemmas.RecordedLemmas.{asked_one}

-- what the client wanted was replied to
pub record WasReplied (new : Shown) (more : List Want) (want : Want) : Type 0 where
  pub no_fault : ¬ HasFault new
  pub are : more ≡ want ∷ []

-- the exchange failed: it was for the next of the wants
pub record HadNoReply (left : Side) (new : Shown) (wanted more : List Want) (want : Want) : Type 0 where
  pub by_fault : HasFault new
  pub accepted : IsRefusal new.query None
  pub none : more ≡ []
  pub gate : wanted ≡ [] → want ≡ wants.Gate
  pub next : (version : ℕ) (all : List Want) → new.version ≡ Some version → AreWants left version new.query all → (rest : List Want) × (all ≡ wanted ++ want ∷ rest)

-- the time gate named the version
pub record NamesVersion (left : Side) (old new : Shown) (wanted : List Want) (want : Want) : Type 0 where
  pub first : wanted ≡ []
  pub gate : want ≡ wants.Gate
  pub is : new.version ≡ Some (version_at left old.query.known)

-- who received something has a version, and who received nothing has none
abbrev pub IsVersioned : Option ℕ → List Want → Type 0
IsVersioned None wanted = wanted ≡ []
IsVersioned (Some version) wanted = wanted ≢ []

-- what an exchange leaves
pub record OneExchange (base : BaseParts) (side : Side) (old new : Client) (wanted : List Want) (now : Was) (before after : LinkSeen) : Type 0 where
  pub left : Side
  pub honest : LeavesHonest base side left before after
  pub want : Want
  pub waits : want_of (shown old).phase ≢ wants.Finished
  pub more : List Want
  pub recorded : TellsAsked before.recorded after.recorded base (shown old).query (want ∷ [])
  pub query : (shown new).query ≡ (shown old).query
  pub version : NamesVersion left (shown old) (shown new) wanted want ⊎ ((shown new).version ≡ (shown old).version)
  pub versioned : IsVersioned (shown new).version (wanted ++ more)
  pub how : WasReplied (shown new) more want ⊎ HadNoReply left (shown new) wanted more want
  pub fault : (low high : ℕ) → (shown new).outcome ≡ Some (LinkFault low high) → RoseWithin before.faults after.faults low high
  pub fits : FitsSide left new (wanted ++ more)
  pub holds : Holds left new now (wanted ++ more)

-- who waits has no outcome
none_yet : (side : Side) (client : Client) (wanted : List Want) (phase : Phase) → FitsAt side client wanted phase → (want_of phase ≡ wants.Finished → ⊥) → client.outcome ≡ None
none_yet side client wanted phases.Gate fits waits = fits.no_outcome
none_yet side client wanted (phases.Stops first) fits waits = fits.no_outcome
none_yet side client wanted (phases.Page name) fits waits = fits.no_outcome
none_yet side client wanted phases.Finished fits waits = absurd (waits refl)

-- who waits for the time gate received nothing
nothing_before_gate : (side : Side) (client : Client) (wanted : List Want) (phase : Phase) → FitsAt side client wanted phase → want_of phase ≡ wants.Gate → wanted ≡ []
nothing_before_gate side client wanted phases.Gate fits is = fits.given
nothing_before_gate side client wanted (phases.Stops first) fits is = absurd (cc)
nothing_before_gate side client wanted (phases.Page name) fits is = absurd (cc)
nothing_before_gate side client wanted phases.Finished fits is = absurd (cc)

-- who waits asks a question that is not refused
accepted_so : (side : Side) (client : Client) (wanted : List Want) (phase : Phase) → FitsAt side client wanted phase → (want_of phase ≡ wants.Finished → ⊥) → IsRefusal client.query None
accepted_so side client wanted phases.Gate fits waits = fits.accepted
accepted_so side client wanted (phases.Stops first) fits waits = fits.accepted
accepted_so side client wanted (phases.Page name) fits waits = fits.accepted
accepted_so side client wanted phases.Finished fits waits = absurd (waits refl)

begins_with : (first : Want) (wanted rest : List Want) → wanted ≡ first ∷ rest → wanted ≢ []
begins_with first wanted rest is none = let e : first ∷ rest ≡ [] = sym is ∙ none in cc

pub one_at_least : (wanted : List Want) (want : Want) → wanted ++ want ∷ [] ≢ []
one_at_least [] want none = cc
one_at_least (first ∷ wanted) want none = cc

-- who waits has a version where it received something
versioned_so : (side : Side) (client : Client) (wanted : List Want) (phase : Phase) → FitsAt side client wanted phase → (want_of phase ≡ wants.Finished → ⊥) → IsVersioned client.version wanted
versioned_so side client wanted phases.Gate fits waits = subst (λ (v : Option ℕ). IsVersioned v wanted) (sym fits.no_version) fits.given
versioned_so side client wanted (phases.Stops first) fits waits = subst (λ (v : Option ℕ). IsVersioned v wanted) (sym fits.at_version) (begins_with wants.Gate wanted _ fits.given)
versioned_so side client wanted (phases.Page name) fits waits = subst (λ (v : Option ℕ). IsVersioned v wanted) (sym fits.at_version) (begins_with wants.Gate wanted _ fits.given)
versioned_so side client wanted phases.Finished fits waits = absurd (waits refl)

-- who waits for something after the time gate has one
version_past_gate : (side : Side) (client : Client) (wanted : List Want) (phase : Phase) → FitsAt side client wanted phase → (want_of phase ≡ wants.Finished → ⊥) → (want_of phase ≡ wants.Gate → ⊥)
    → (number : ℕ) × (client.version ≡ Some number)
version_past_gate side client wanted phases.Gate fits waits past = absurd (past refl)
version_past_gate side client wanted (phases.Stops first) fits waits past = (first.version, fits.at_version)
version_past_gate side client wanted (phases.Page name) fits waits past = (name.version, fits.at_version)
version_past_gate side client wanted phases.Finished fits waits past = absurd (waits refl)

-- the counts with which a client ended
rose_within : (outcome : Option Outcome) (before after low high : ℕ) → outcome ≡ Some (LinkFault before after) → outcome ≡ Some (LinkFault low high) → Rose before after → RoseWithin before after low high
rose_within outcome before after low high is some rose =
    let from : before ≡ low = cc in
    let to : after ≡ high = cc in
    record {
      from = omega arith;
      to = omega arith;
      rose = subst (λ (h : ℕ). Rose low h) to (subst (λ (l : ℕ). Rose l after) from rose);
    }

module _ (base : BaseParts) (side : Side) (old new : Client) (wanted : List Want) (given now : Was) (before after : LinkSeen) (honest : IsHonestWith before base side) (fits : FitsSide side old wanted)
    (holds : Holds side old given wanted) where
  exchanged : (got : Got) (ex : IsExchange base (shown old) before after got) → Exchanges before after base side ex.request (bytes_of got) (result_of got)
  exchanged got ex = ex.honest base side (is_get base _ _ ex.request ex.asks) honest

  leaves : (got : Got) (ex : IsExchange base (shown old) before after got) → LeavesHonest base side (exchanged got ex).side before after
  leaves got ex =
      let x = exchanged got ex in
      record { honest = x.honest; later = x.later; same = x.same; quiet = x.quiet; clear = ex.clear; not_fallen = ex.faults.not_fallen }

  fits_then : (got : Got) (ex : IsExchange base (shown old) before after got) → FitsSide (exchanged got ex).side old wanted
  fits_then got ex = let x = exchanged got ex in fits_stays side x.side old wanted x.honest.stands.valid x.later fits

  own_then : (got : Got) (ex : IsExchange base (shown old) before after got) → All (IsOwnPage (exchanged got ex).side) given.pages
  own_then got ex = let x = exchanged got ex in own_later side x.side given.pages x.honest.stands.valid x.later holds.own

  replied : (reply : List ℕ) (ex : IsExchange base (shown old) before after (Some reply)) (want : Want) → want_of (shown old).phase ≡ want → IsReplyTo (exchanged (Some reply) ex).side base (shown old).query want reply
  replied reply ex want wants_it =
      subst (λ (w : Want). IsReplyTo (exchanged (Some reply) ex).side base (shown old).query w reply) wants_it (record {
        request = ex.request;
        asks = ex.asks;
        replies = (exchanged (Some reply) ex).replied;
      })

  request_is : (got : Got) (ex : IsExchange base (shown old) before after got) (want : Want) → want_of (shown old).phase ≡ want → ex.request ≡ request_of base (shown old).query want
  request_is got ex want wants_it = ex.asks.text_is ∙ ap (request_of base (shown old).query) wants_it

  no_outcome : (want : Want) → want_of (shown old).phase ≡ want → want ≢ wants.Finished → (shown old).outcome ≡ None
  no_outcome want wants_it not = none_yet side old wanted old.phase fits.fits (λ e. not (sym wants_it ∙ e))

  -- who waited for something after the time gate keeps its version
  version_kept : (want : Want) → want_of (shown old).phase ≡ want → want ≢ wants.Finished → want ≢ wants.Gate → (shown new).version ≡ (shown old).version → (number : ℕ) × ((shown new).version ≡ Some number)
  version_kept want wants_it not past stays =
      let some = version_past_gate side old wanted old.phase fits.fits (λ e. not (sym wants_it ∙ e)) (λ e. past (sym wants_it ∙ e)) in
      (some.0, stays ∙ some.1)

  -- the link gave a reply
  by_reply : (reply : List ℕ) (ex : IsExchange base (shown old) before after (Some reply)) (want : Want) → want_of (shown old).phase ≡ want → want ≢ wants.Finished →
      FitsSide (exchanged (Some reply) ex).side new (wanted ++ want ∷ []) → (shown new).query ≡ (shown old).query →
      (NamesVersion (exchanged (Some reply) ex).side (shown old) (shown new) wanted want ⊎ ((shown new).version ≡ (shown old).version)) → (number : ℕ) × ((shown new).version ≡ Some number) → ¬ HasFault (shown new) →
      Holds (exchanged (Some reply) ex).side new now (wanted ++ want ∷ []) → OneExchange base side old new wanted now before after
  by_reply reply ex want wants_it not client query version some no_fault held = record {
    left = (exchanged (Some reply) ex).side;
    honest = leaves (Some reply) ex;
    want = want;
    waits = λ e. not (sym wants_it ∙ e);
    more = want ∷ [];
    recorded = asked_one before.recorded after.recorded base (shown old).query want ex.request (Some reply) (request_is (Some reply) ex want wants_it) ex.recorded;
    query = query;
    version = version;
    versioned = subst (λ (v : Option ℕ). IsVersioned v (wanted ++ want ∷ [])) (sym some.1) (one_at_least wanted want);
    how = inl (record { no_fault = no_fault; are = refl });
    fault = λ low high some. absurd (no_fault (record { low = low; high = high; is = some }));
    fits = client;
    holds = held;
  }

  -- the link failed
  by_failure : (ex : IsExchange base (shown old) before after None) (want : Want) → want_of (shown old).phase ≡ want → want ≢ wants.Finished → shown new ≡ ended (LinkFault before.faults after.faults) (shown old) → now ≡ given →
      OneExchange base side old new wanted now before after
  by_failure ex want wants_it not ends same =
      let x = exchanged None ex in
      let waits : want_of (shown old).phase ≡ wants.Finished → ⊥ = λ e. not (sym wants_it ∙ e) in
      let keeps = link_fault_keeps_it x.side old new wanted before.faults after.faults x.honest.stands.valid (fits_then None ex) waits ends in
      let outcome : (shown new).outcome ≡ Some (LinkFault before.faults after.faults) = ap (λ (s : Shown). s.outcome) ends in
      let pages : now.pages ≡ given.pages = ap (λ (w : Was). w.pages) same in
      record {
        left = x.side;
        honest = leaves None ex;
        want = want;
        waits = waits;
        more = [];
        recorded = asked_one before.recorded after.recorded base (shown old).query want ex.request None (request_is None ex want wants_it) ex.recorded;
        query = keeps.1.query;
        version = inr keeps.1.version;
        versioned =
            subst (λ (v : Option ℕ). IsVersioned v (wanted ++ [])) (sym keeps.1.version)
            (subst (IsVersioned (shown old).version) (sym (append-nil wanted)) (versioned_so side old wanted old.phase fits.fits waits));
        how = inr (record {
          by_fault = record { low = before.faults; high = after.faults; is = outcome };
          accepted = subst (λ (q : Query). IsRefusal q None) (sym keeps.1.query) (accepted_so side old wanted old.phase fits.fits waits);
          none = refl;
          gate = λ nothing. sym wants_it ∙ waits_at_first side old wanted old.phase fits.fits waits nothing;
          next = λ version all at are.
              let next = wants_the_next x.side old wanted all version x.honest.stands.valid (fits_then None ex)
              (subst (λ (v : Option ℕ). IsItsVersion v version) (sym (sym keeps.1.version ∙ at)) refl)
              (subst (λ (q : Query). AreWants x.side version q all) keeps.1.query are) waits in
              (next.0, next.1 ∙ ap (λ (w : Want). wanted ++ w ∷ next.0) wants_it);
        });
        fault = λ low high some. rose_within (shown new).outcome before.faults after.faults low high outcome some (ex.faults.rose refl);
        fits = subst (FitsSide x.side new) (sym (append-nil wanted)) keeps.0;
        holds = record {
          own = subst (λ (l : List Page). All (IsOwnPage x.side) l) (sym pages) (own_then None ex);
          named = named_then given.pages now.pages [] wanted [] holds.named (pages ∙ sym (append-nil given.pages)) refl;
          doc = doc_by_shown x.side new now (ended (LinkFault before.faults after.faults) (shown old)) ends tt;
        };
      }

  -- the time gate
  gate_one : (got : Got) (ex : IsExchange base (shown old) before after got) → want_of (shown old).phase ≡ wants.Gate → Takes old new before.faults after.faults (TakesGate base old new) got → now ≡ given →
      OneExchange base side old new wanted now before after
  gate_one None ex wants_it ends same = by_failure ex wants.Gate wants_it (λ e. cc) ends same
  gate_one (Some reply) ex wants_it takes same =
      let x = exchanged (Some reply) ex in
      let keeps = gate_keeps_it x.side base old new wanted reply takes.said x.honest.stands (fits_then (Some reply) ex) wants_it (replied reply ex wants.Gate wants_it) takes.says takes.after in
      let pages : now.pages ≡ given.pages = ap (λ (w : Was). w.pages) same in
      by_reply reply ex wants.Gate wants_it (λ e. cc) keeps.0 keeps.1.query
      (inl (record { first = nothing_before_gate side old wanted old.phase fits.fits wants_it; gate = refl; is = keeps.1.version }))
      (_, keeps.1.version)
      (gate_no_fault (shown old) (shown new) reply takes.said takes.after (no_outcome wants.Gate wants_it (λ e. cc)))
      (record {
        own = subst (λ (l : List Page). All (IsOwnPage x.side) l) (sym pages) (own_then (Some reply) ex);
        named = named_then given.pages now.pages [] wanted (wants.Gate ∷ []) holds.named (pages ∙ sym (append-nil given.pages)) refl;
        doc = doc_after_gate x.side new now (shown old) reply takes.said takes.after;
      })

  -- what is read of the reply with the stops document
  doc_is_read : (reply : List ℕ) (ex : IsExchange base (shown old) before after (Some reply)) (takes : TakesDoc old new reply given now) → want_of (shown old).phase ≡ wants.Stops → takes.said ≡ Ok (exchanged (Some reply) ex).side.doc
  doc_is_read reply ex takes wants_it =
      let x = exchanged (Some reply) ex in
      let P : BaseParts → Type 0 = λ b. StandsUnder b x.side → IsReplyTo x.side b (shown old).query wants.Stops reply → takes.said ≡ Ok x.side.doc in
      let under : P x.side.base = λ s r. stops_are_read x.side reply takes.said s (record { request = r.request; asks = r.asks; replies = r.replies }) takes.says in
      subst P x.honest.stands.is_base under x.honest.stands (replied reply ex wants.Stops wants_it)

  -- the stops document
  stops_one : (got : Got) (ex : IsExchange base (shown old) before after got) → want_of (shown old).phase ≡ wants.Stops →
      TakesGot old new before.faults after.faults given now (λ reply. TakesDoc old new reply given now) got → OneExchange base side old new wanted now before after
  stops_one None ex wants_it takes = by_failure ex wants.Stops wants_it (λ e. cc) takes.0 takes.1
  stops_one (Some reply) ex wants_it takes =
      let x = exchanged (Some reply) ex in
      let keeps = stops_keep_it x.side base old new wanted reply takes.said x.honest.stands (fits_then (Some reply) ex) wants_it (replied reply ex wants.Stops wants_it) takes.says takes.after in
      let read = doc_is_read reply ex takes wants_it in
      by_reply reply ex wants.Stops wants_it (λ e. cc) keeps.0 keeps.1.query (inr keeps.1.version)
      (version_kept wants.Stops wants_it (λ e. cc) (λ e. cc) keeps.1.version)
      (stops_no_fault old new reply takes.said takes.after (no_outcome wants.Stops wants_it (λ e. cc)))
      (record {
        own = subst (λ (l : List Page). All (IsOwnPage x.side) l) (sym takes.pages) (own_then (Some reply) ex);
        named = named_then given.pages now.pages [] wanted (wants.Stops ∷ []) holds.named (takes.pages ∙ sym (append-nil given.pages)) refl;
        doc = doc_after_stops x.side old new now (subst (λ (r : Result StopsDoc PeerFault). AfterStops old reply r new) read takes.after)
            (subst (λ (r : Result StopsDoc PeerFault). KeepsDoc (shown old).query r now.doc) read takes.doc);
      })

  -- a page
  said_one : (name : PageName) (reply : List ℕ) (ex : IsExchange base (shown old) before after (Some reply)) (said : Result Page PeerFault) → want_of (shown old).phase ≡ wants.Page name →
      SaysOwnPage (exchanged (Some reply) ex).side name said → AfterReply name old new reply given now said → OneExchange base side old new wanted now before after
  said_one name reply ex (Err fault) wants_it says took = absurd says
  said_one name reply ex (Ok page) wants_it says (takes, may, pages, same_doc) =
      let x = exchanged (Some reply) ex in
      let wants_page : want_of (shown old).phase ≡ wants.Page page.name = wants_it ∙ ap wants.Page (sym says.0) in
      let keeps = page_keeps_it x.side old new wanted page x.honest.stands.valid (fits_then (Some reply) ex) wants_page says.1 takes in
      let under : WaitsForPage x.side old wanted page.name = subst (FitsAt x.side old wanted) (waits_for old.phase page.name wants_page) (fits_then (Some reply) ex).fits in
      let had = doc_of_reader side given old.phase old.outcome name (waits_for old.phase name wants_it) holds.doc in
      by_reply reply ex (wants.Page page.name) wants_page (λ e. cc) keeps.0 keeps.1.query (inr keeps.1.version)
      (version_kept (wants.Page page.name) wants_page (λ e. cc) (λ e. cc) keeps.1.version)
      (page_no_fault old new page x.side.doc _ takes under.stands (no_outcome (wants.Page page.name) wants_page (λ e. cc)))
      (record {
        own = own_more x.side given.pages now.pages page pages (own_then (Some reply) ex) says.1;
        named = named_then given.pages now.pages (page ∷ []) wanted (wants.Page page.name ∷ []) holds.named pages refl;
        doc = doc_anyhow x.side now new.phase new.outcome (same_doc ∙ had ∙ ap Some (sym (doc_later side x.side x.later)));
      })

  page_one : (name : PageName) (got : Got) (ex : IsExchange base (shown old) before after got) → want_of (shown old).phase ≡ wants.Page name →
      TakesGot old new before.faults after.faults given now (λ reply. ReadsReply base name old new reply given now) got → OneExchange base side old new wanted now before after
  page_one name None ex wants_it takes = by_failure ex (wants.Page name) wants_it (λ e. cc) takes.0 takes.1
  page_one name (Some reply) ex wants_it takes =
      let x = exchanged (Some reply) ex in
      said_one name reply ex takes.said wants_it
      (page_is_own x.side base old wanted name reply takes.said x.honest.stands (fits_then (Some reply) ex) wants_it (replied reply ex (wants.Page name) wants_it) takes.says)
      takes.after

  pub one_exchange : Gives base old new before after given now → OneExchange base side old new wanted now before after
  one_exchange (inl (gate, same)) = gate_one gate.got gate.exchange gate.wants gate.takes same
  one_exchange (inr (inl stops)) = stops_one stops.got stops.exchange stops.wants stops.takes
  one_exchange (inr (inr page)) = page_one page.name page.got page.exchange page.wants page.takes
