-- What is known of a client alone over an honest link, exchange after exchange.
use Rattle.std.proofs.Common.{◌≡◌, ℕ, suc, ◌⊎◌, inl, inr, List, [], ◌∷◌, ◌++◌, length, Option, Some, None, refl, ap, ap₂, sym, subst, ◌∙◌, arith}
use Rattle.std.proofs.lemmas.List.{append-nil, length-append}
use Rattle.std.proofs.lemmas.List.Elements.{All-nil}
use Rattle.lc_model.specs.declared.query.Query.{Query}
use Rattle.connection_uri.specs.Base.{BaseParts}
use Rattle.lc_world.specs.Link.{IsHonestWith, LinkSeen}
use Rattle.page_client.specs.Client.{shown}
use Rattle.page_client.specs.Shown.{Begins, IsRefusal, Shown, first_outcome, first_phase, want_of}
use Rattle.page_client.specs.declared.client.Client.{Client}
use Rattle.page_client.specs.declared.fault.QueryFault.{QueryFault}
use Rattle.page_client.specs.declared.outcome.Outcome.TheVariants.{LinkFault}
use Rattle.page_client.specs.declared.want.Want.{Want}
use Rattle.page_client.specs.declared.want.Want.TheVariants as wants
use Rattle.lc_world.specs.Sides.Side.{Side}
use Rattle.convoy.specs.ClientLaws.Stated.{version_at}
use Rattle.convoy.specs.ClientLaws.Fits.{FitsSide}
use Rattle.convoy.specs.ClientLaws.Published.{IsOwnPage}
use Rattle.convoy.specs.ClientLaws.Steps.{BeginsInAgreement}
use Rattle.convoy.specs.ClientLaws.Wants.{AreWants}
use Rattle.convoy.specs.Agreement.Leaves.{HasFault, LeavesHonest, RoseWithin}
use Rattle.convoy.specs.Agreement.Requests.{TellsAsked}
use Rattle.convoy.proofs.AgreementLemmas.AloneLemmas.{no_fault_yet}
use Rattle.convoy.proofs.AgreementLemmas.HonestLemmas.{leaves_alone, leaves_then, no_less}
use Rattle.convoy.proofs.AgreementLemmas.TurnLemmas.{rose_wider}
use Rattle.rounds_client.specs.Course.{LeadsTo, Point}
use Rattle.rounds_client.specs.Given.{Gives, Was}
use Rattle.rounds_client.specs.Ends.Right.{IsNamed, IsNamedByGate}
use Rattle.rounds_client.proofs.EndsLemmas.ExchangeLemmas.{HadNoReply, IsVersioned, NamesVersion, OneExchange, WasReplied, one_exchange}
use Rattle.rounds_client.proofs.EndsLemmas.GivenLemmas.{Holds, OwnDoc, doc_by_shown}
use Rattle.rounds_client.proofs.EndsLemmas.RecordedLemmas.{asked_nothing, asked_then}

-- the client asked for exactly what it received
pub record AskedJust (s : Shown) (wanted asked : List Want) : Type 0 where
  pub no_fault : ¬ HasFault s
  pub are : asked ≡ wanted

-- or for the next of its wants too, where the link failed
pub record AskedOneMore (side : Side) (s : Shown) (wanted asked : List Want) : Type 0 where
  pub by_fault : HasFault s
  pub accepted : IsRefusal s.query None
  pub want : Want
  pub are : asked ≡ wanted ++ want ∷ []
  pub gate : wanted ≡ [] → want ≡ wants.Gate
  pub next : (version : ℕ) (all : List Want) → s.version ≡ Some version → AreWants side version s.query all → (rest : List Want) × (all ≡ wanted ++ want ∷ rest)

-- the exchanges so far
pub record SoFar {X : Type 0} (seen : X → LinkSeen) (base : BaseParts) (query : Query) (side : Side) (start : X) (point : Point X) (made : ℕ) : Type 0 where
  pub left : Side
  pub honest : LeavesHonest base side left (seen start) (seen point.link)
  pub query_is : (shown point.client).query ≡ query
  pub wanted : List Want
  pub asked : List Want
  pub recorded : TellsAsked (seen start).recorded (seen point.link).recorded base query asked
  pub count : made ≡ length asked
  pub exact : AskedJust (shown point.client) wanted asked ⊎ AskedOneMore left (shown point.client) wanted asked
  pub fault : (low high : ℕ) → (shown point.client).outcome ≡ Some (LinkFault low high) → RoseWithin (seen start).faults (seen point.link).faults low high
  pub named : IsNamed seen base query side left start point.link (shown point.client).version
  pub versioned : IsVersioned (shown point.client).version wanted
  pub fits : FitsSide left point.client wanted
  pub holds : Holds left point.client point.given wanted

-- who waits asked for exactly what it received
all_so_far : (side : Side) (client : Client) (wanted asked : List Want) → FitsSide side client wanted → (want_of (shown client).phase ≡ wants.Finished → ⊥) →
    AskedJust (shown client) wanted asked ⊎ AskedOneMore side (shown client) wanted asked → asked ≡ wanted
all_so_far side client wanted asked fits waits (inl all) = all.are
all_so_far side client wanted asked fits waits (inr more) = absurd (no_fault_yet side client wanted fits waits more.by_fault)

-- what one exchange makes of it
exact_then : (left : Side) (s : Shown) (wanted asked more : List Want) (want : Want) → asked ≡ wanted → WasReplied s more want ⊎ HadNoReply left s wanted more want →
    AskedJust s (wanted ++ more) (asked ++ want ∷ []) ⊎ AskedOneMore left s (wanted ++ more) (asked ++ want ∷ [])
exact_then left s wanted asked more want all (inl replied) = inl (record { no_fault = replied.no_fault; are = ap₂ (λ (x y : List Want). x ++ y) all (sym replied.are) })
exact_then left s wanted asked more want all (inr failed) =
    let no_more : wanted ++ more ≡ wanted = ap (λ (l : List Want). wanted ++ l) failed.none ∙ append-nil wanted in
    inr (record {
      by_fault = failed.by_fault;
      accepted = failed.accepted;
      want = want;
      are = ap (λ (l : List Want). l ++ want ∷ []) (all ∙ sym no_more);
      gate = λ nothing. failed.gate (sym no_more ∙ nothing);
      next = λ version all_wants at are. let n = failed.next version all_wants at are in (n.0, n.1 ∙ ap (λ (l : List Want). l ++ want ∷ n.0) (sym no_more));
    })

one_counted : (made : ℕ) (asked : List Want) (want : Want) → made ≡ length asked → suc made ≡ length (asked ++ want ∷ [])
one_counted made asked want count = omega (arith, count, length-append asked (want ∷ []))

module _ {X : Type 0} (seen : X → LinkSeen) (base : BaseParts) (query : Query) (side : Side) (start : X) where
  -- the version stays one that was named so, whatever becomes of the link
  named_on : (mid left : Side) (link end : X) (version : Option ℕ) → LeavesHonest base mid left (seen link) (seen end) → IsNamed seen base query side mid start link version → IsNamed seen base query side left start end version
  named_on mid left link end None leaves named = tt
  named_on mid left link end (Some version) leaves named = record {
    link = named.link;
    at = named.at;
    first = named.first;
    recorded = named.recorded;
    is = named.is;
    behind = leaves_then base named.at mid left (seen named.link) (seen link) (seen end) named.behind leaves;
  }

  -- the time gate named it just now
  named_now : (left : Side) (end : X) (old new : Shown) (wanted asked : List Want) (want : Want) → LeavesHonest base side left (seen start) (seen end) → old.query ≡ query → asked ≡ wanted →
      TellsAsked (seen start).recorded (seen end).recorded base query (asked ++ want ∷ []) → NamesVersion left old new wanted want → IsNamed seen base query side left start end new.version
  named_now left end old new wanted asked want leaves same all recorded names =
      let none : asked ++ want ∷ [] ≡ wants.Gate ∷ [] = ap₂ (λ (l : List Want) (w : Want). l ++ w ∷ []) (all ∙ names.first) names.gate in
      let there : IsNamedByGate seen base query side left start end (version_at left old.query.known) = record {
        link = end;
        at = left;
        first = leaves;
        recorded = subst (λ (l : List Want). TellsAsked (seen start).recorded (seen end).recorded base query l) none recorded;
        is = ap (λ (q : Query). version_at left q.known) same;
        behind = leaves_alone base left (seen end) leaves.honest;
      } in
      let P : Option ℕ → Type 0 = λ v. IsNamed seen base query side left start end v in
      subst P (sym names.is) there

  named_then : (mid left : Side) (link end : X) (old new : Shown) (wanted asked : List Want) (want : Want) → LeavesHonest base side left (seen start) (seen end) → LeavesHonest base mid left (seen link) (seen end) → old.query ≡ query → asked ≡ wanted →
      TellsAsked (seen start).recorded (seen end).recorded base query (asked ++ want ∷ []) → IsNamed seen base query side mid start link old.version →
      NamesVersion left old new wanted want ⊎ (new.version ≡ old.version) → IsNamed seen base query side left start end new.version
  named_then mid left link end old new wanted asked want leaves onward same all recorded named (inl names) = named_now left end old new wanted asked want leaves same all recorded names
  named_then mid left link end old new wanted asked want leaves onward same all recorded named (inr stays) =
      let P : Option ℕ → Type 0 = λ v. IsNamed seen base query side left start end v in
      subst P (sym stays) (named_on mid left link end old.version onward named)

  -- one exchange more
  one_more : (made : ℕ) (mid end : Point X) → SoFar seen base query side start mid made → Gives base mid.client end.client (seen mid.link) (seen end.link) mid.given end.given →
      SoFar seen base query side start end (suc made)
  one_more made mid end s gives =
      let o : OneExchange base s.left mid.client end.client s.wanted end.given (seen mid.link) (seen end.link) =
      one_exchange base s.left mid.client end.client s.wanted mid.given end.given (seen mid.link) (seen end.link) s.honest.honest s.fits s.holds gives in
      let honest = leaves_then base side s.left o.left (seen start) (seen mid.link) (seen end.link) s.honest o.honest in
      let all : s.asked ≡ s.wanted = all_so_far s.left mid.client s.wanted s.asked s.fits o.waits s.exact in
      let recorded : TellsAsked (seen start).recorded (seen end.link).recorded base query (s.asked ++ o.want ∷ []) =
      asked_then (seen start).recorded (seen mid.link).recorded (seen end.link).recorded base query s.asked (o.want ∷ []) s.recorded
      (subst (λ (q : Query). TellsAsked (seen mid.link).recorded (seen end.link).recorded base q (o.want ∷ [])) s.query_is o.recorded) in
      record {
        left = o.left;
        honest = honest;
        query_is = o.query ∙ s.query_is;
        wanted = s.wanted ++ o.more;
        asked = s.asked ++ o.want ∷ [];
        recorded = recorded;
        count = one_counted made s.asked o.want s.count;
        exact = exact_then o.left (shown end.client) s.wanted s.asked o.more o.want all o.how;
        fault = λ low high some.
            rose_wider (seen start).faults (seen mid.link).faults (seen end.link).faults (seen end.link).faults low high s.honest.not_fallen (no_less (seen end.link).faults) (o.fault low high some);
        named = named_then s.left o.left mid.link end.link (shown mid.client) (shown end.client) s.wanted s.asked o.want honest o.honest s.query_is all recorded s.named o.version;
        versioned = o.versioned;
        fits = o.fits;
        holds = o.holds;
      }

  -- exchange after exchange
  pub so_far : (points : List (Point X)) (begin end : Point X) → SoFar seen base query side start begin 0 → LeadsTo seen base points begin end → SoFar seen base query side start end (length points)
  so_far [] begin end first same = let P : Point X → Type 0 = λ p. SoFar seen base query side start p 0 in subst P (sym same) first
  so_far (last ∷ earlier) begin end first (gives, leads) = one_more (length earlier) last end (so_far earlier begin last first leads) gives

-- a client that begins has no fault of the link
not_at_first : (refusal : Option QueryFault) (low high : ℕ) → first_outcome refusal ≡ Some (LinkFault low high) → ⊥
not_at_first None low high is = cc
not_at_first (Some fault) low high is = cc

no_doc_at_first : (side : Side) (given : Was) (refusal : Option QueryFault) → OwnDoc side given (first_phase refusal) (first_outcome refusal)
no_doc_at_first side given None = tt
no_doc_at_first side given (Some fault) = tt

-- no exchange yet
pub none_so_far : BeginsInAgreement → {X : Type 0} (seen : X → LinkSeen) (base : BaseParts) (query : Query) (side : Side) (start : X) (client : Client) → IsHonestWith (seen start) base side → Begins query (shown client) →
    SoFar seen base query side start (record { client = client; given = record { doc = None; pages = [] }; link = start }) 0
none_so_far begins_law seen base query side start client honest begins =
    let no_fault : ¬ HasFault (shown client) = λ fault. not_at_first begins.refusal fault.low fault.high (sym (ap (λ (s : Shown). s.outcome) begins.is) ∙ fault.is) in
    let no_version : (shown client).version ≡ None = ap (λ (s : Shown). s.version) begins.is in
    let P : Option ℕ → Type 0 = λ v. IsNamed seen base query side side start start v in
    record {
      left = side;
      honest = leaves_alone base side (seen start) honest;
      query_is = ap (λ (s : Shown). s.query) begins.is;
      wanted = [];
      asked = [];
      recorded = asked_nothing (seen start).recorded base query;
      count = refl;
      exact = inl (record { no_fault = no_fault; are = refl });
      fault = λ low high some. absurd (no_fault (record { low = low; high = high; is = some }));
      named = subst P (sym no_version) tt;
      versioned = subst (λ (v : Option ℕ). IsVersioned v []) (sym no_version) refl;
      fits = begins_law side query client begins;
      holds = record {
        own = All-nil (IsOwnPage side);
        named = refl;
        doc = doc_by_shown side client (record { doc = None; pages = [] }) _ begins.is (no_doc_at_first side (record { doc = None; pages = [] }) begins.refusal);
      };
    }
