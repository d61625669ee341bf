-- A client after the stops document.
use Rattle.std.proofs.Common.{◌≡◌, ℕ, ◌+◌, ◌<◌, List, [], Option, Some, None, refl, sym, ap, subst, arith}
use Rattle.std.proofs.Math.Logic.{∥∥₁_elim, ∥∥₁_map}
use Rattle.std.proofs.lemmas.List.Elements.{All-nil}
use Rattle.std.specs.Coded.{le_prop}
use Rattle.lc_model.specs.declared.connection.Connection.{Connection}
use Rattle.lc_model.specs.declared.doc.StopsDoc.{StopsDoc}
use Rattle.lc_model.specs.declared.page.PageName.{PageName}
use Rattle.lc_model.specs.declared.query.Query.{Query}
use Rattle.csa_scan.specs.StandsFor.{StandsFor}
use Rattle.csa_scan.specs.declared.scan.Scan.{Scan}
use Rattle.page_client.specs.Course.{HasScanned, IsSound}
use Rattle.page_client.specs.Shown.{Shown, after_stops, behind_stops, left_at, pages_left, want_of}
use Rattle.page_client.specs.declared.phase.Phase.{Phase}
use Rattle.page_client.specs.declared.phase.Phase.TheVariants as phases
use Rattle.page_client.specs.declared.want.Want.TheVariants as wants

-- a scan that took nothing
pub scanned_nothing : (query : Query) (doc : StopsDoc) (name : PageName) (scan : Scan) → StandsFor scan query doc [] → HasScanned query doc [] name scan
scanned_nothing query doc name scan stands = record {
  stands = stands;
  in_order = λ i j d before within. absurd (omega arith);
  before = All-nil (λ (c : Connection). c.dep < name.departs);
}

module _ (query : Query) (gate : Option (List ℕ)) (old : Option Scan) (phase : Phase) (first : PageName) (at_stops : phase ≡ phases.Stops first) (sound : ∥ IsSound query gate old phase ∥₁) where
  -- what holds there
  sent : ∥ IsSound query gate old (phases.Stops first) ∥₁
  sent = let P : Phase → Type 0 = λ p. ∥ IsSound query gate old p ∥₁ in subst P at_stops sound

  -- the client that begins its scan is sound
  pub begun : (doc : StopsDoc) (scan : Scan) → StandsFor scan query doc [] → ∥ IsSound query gate (Some scan) (phases.Page first) ∥₁
  begun doc scan stands =
      ∥∥₁_map sent (λ h. record {
        horizon = h.horizon;
        doc = doc;
        taken = [];
        has = scan;
        is = refl;
        scanned = scanned_nothing query doc first scan stands;
        later = λ none. absurd (h.replied none);
      })

  -- it has one exchange less before it
  pub fewer_at_first : pages_left query gate first < left_at query gate phase
  fewer_at_first = let P : Phase → Type 0 = λ p. pages_left query gate first < left_at query gate p in subst P (sym at_stops) (by_gate gate sent) where
    by_gate : (g : Option (List ℕ)) → ∥ IsSound query g old (phases.Stops first) ∥₁ → pages_left query g first < query.horizon + 2
    by_gate (Some reply) h = omega arith
    by_gate None h = ∥∥₁_elim h le_prop (λ s. absurd (s.replied refl))

-- the page after the stops document is the first one
pub first_shown : (s : Shown) (first : PageName) → s.phase ≡ phases.Stops first →
    record { query = s.query; phase = phases.Page first; version = s.version; gate = s.gate; outcome = s.outcome } ≡ after_stops s
first_shown s first at_stops =
    let F : Phase → Shown = λ p. record { query = s.query; phase = behind_stops p; version = s.version; gate = s.gate; outcome = s.outcome } in
    ap F (sym at_stops)

-- a client that took the time gate's reply is sound
pub sent_on : (query : Query) (gate : Option (List ℕ)) (scan : Option Scan) (phase : Phase) (reply : List ℕ) (first : PageName) → want_of phase ≡ wants.Gate → ∥ IsSound query gate scan phase ∥₁ →
    ∥ IsSound query (Some reply) scan (phases.Stops first) ∥₁
sent_on query gate scan phases.Gate reply first at_gate sound = ∥∥₁_map sound (λ horizon. record { horizon = horizon; replied = λ none. absurd (cc) })
sent_on query gate scan (phases.Stops other) reply first at_gate sound = absurd (cc)
sent_on query gate scan (phases.Page other) reply first at_gate sound = absurd (cc)
sent_on query gate scan phases.Finished reply first at_gate sound = absurd (cc)
