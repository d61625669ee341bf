-- The ends of clients that asked one question of one side are one.
use Rattle.std.proofs.Common.{◌≡◌, ◌∙◌, ℕ, List, ◌++◌, Option, ap, arith, length, refl, subst, sym}
use Rattle.lc_io.specs.Counts.{Rose}
use Rattle.lc_model.specs.declared.query.Query.{Query}
use Rattle.lc_model.specs.Versions.History.{Entry}
use Rattle.lc_time.specs.declared.zone.Zone.{Zone}
use Rattle.lc_world.specs.Link.{LinkSeen}
use Rattle.lc_world.specs.declared.entry.Entry.{Entry as Recorded}
use Rattle.convoy.specs.ClientLaws.Laws.{OneArrivalAt, OneListOfNeededAt}
use Rattle.convoy.specs.Replies.Ends.{EndsBy}
use Rattle.convoy.specs.Replies.Made.{Made}
use Rattle.connection_uri.specs.Base.{BaseParts}
use Rattle.convoy.specs.Agreement.OneClient.{version_of}
use Rattle.page_client.specs.declared.outcome.Outcome.{Outcome}
use Rattle.page_client.specs.declared.outcome.Outcome.TheVariants as outcomes
use Rattle.page_client.specs.declared.want.Want.{Want}
use Rattle.cli_words.specs.declared.command.Publishing.{Publishing}
use Rattle.lc_io.specs.declared.file.File.{File}
use Rattle.lc_world.specs.Sides.Side.{Side, date_in}
use Rattle.timetable.specs.Laws.{AreSame}
use Rattle.timetable.specs.declared.timetable.Timetable.{Timetable}
use Rattle.version_store.specs.Laws.{OneOutcome}
use Rattle.version_store.specs.Store.{Stored}
use Rattle.cli_ask.specs.Admission.{IsBehind}
use Rattle.cli_ask.specs.Block.{client_text_of}
use Rattle.cli_ask.specs.Client.{AsksFor, EndsRight}
use Rattle.cli_ask.specs.Laws.{AreOneEnd, IsNoLinkFault, OneOutput}
use Rattle.cli_ask.specs.Publishing.{side_with, store_of}
use Rattle.cli_ask.specs.declared.end.ClientEnd.{ClientEnd}
use Rattle.cli_ask.proofs.AdmissionLemmas.{of_history, one_behind, store_with}
use Rattle.cli_ask.proofs.OneAnswerLemmas.{alike, ended_at, same_version}
use Rattle.cli_ask.proofs.SideLemmas.{dates_of, in_zone, same_side}

-- the client asked for what it received
asked_given : (side : Side) (query : Query) (given asked : List Want) (outcome : Outcome) → AsksFor side query given asked outcome → IsNoLinkFault outcome → asked ≡ given
asked_given side query given asked (outcomes.Found journey) asks fine = asks
asked_given side query given asked outcomes.NoJourney asks fine = asks
asked_given side query given asked (outcomes.Refused fault) asks fine = asks
asked_given side query given asked (outcomes.LinkFault before after) asks fine = absurd fine
asked_given side query given asked (outcomes.PeerWrong reply fault) asks fine = asks

-- a link whose count did not increase failed in no exchange
no_link_fault : (base : BaseParts) (query : Query) (before after : ℕ) (version : Option ℕ) (made : List Made) (outcome : Outcome) → EndsBy base query before after version made outcome
    → (Rose before after → ⊥) → IsNoLinkFault outcome
no_link_fault base query before after version made (outcomes.Found journey) ends none = tt
no_link_fault base query before after version made outcomes.NoJourney ends none = tt
no_link_fault base query before after version made (outcomes.Refused fault) ends none = tt
no_link_fault base query before after version made (outcomes.LinkFault count later) ends none = absurd (none (omega (arith, ends.from, ends.rose, ends.up_to)))
no_link_fault base query before after version made (outcomes.PeerWrong reply fault) ends none = tt

-- the sides of publishers of timetables that are the same, after one message: the first differs from the second in its zone alone
module _ (one_outcome : OneOutcome) (a b : Timetable) (publishing : Publishing) (file : Option File) (s t : Stored) (k l : List ℕ) where
  pub first_side : AreSame a b → IsBehind file (store_of a publishing.base_moment) s k → IsBehind file (store_of b publishing.base_moment) t l
      → side_with a publishing s ≡ in_zone (side_with b publishing (store_with b publishing.base_moment t.history)) a.zone
  first_side same x y =
      let moment = publishing.base_moment in
      let one = one_behind one_outcome (store_of a moment) (store_of b moment) (record { base = refl; history = refl }) s t k l file x y in
      ap (side_with a publishing) (of_history file (store_of a moment) s k x)
      ∙ ap (λ (h : List Entry). side_with a publishing (store_with a moment h)) one.heard.history
      ∙ same_side a b publishing moment t.history same

  pub second_side : IsBehind file (store_of b publishing.base_moment) t l → side_with b publishing t ≡ side_with b publishing (store_with b publishing.base_moment t.history)
  second_side y = ap (side_with b publishing) (of_history file (store_of b publishing.base_moment) t l y)

module _ (one_arrival : OneArrivalAt) (one_needed : OneListOfNeededAt) (one_outcome : OneOutcome) where
  -- the ends by two sides, of which the first differs from the second in its zone alone, which shows the same dates
  one_end : (side : Side) (zone : Zone) → date_in zone ≡ date_in side.zone → (base : BaseParts) (query : Query) (recorded now_recorded other later : Option (List Recorded)) (d e : ClientEnd)
      → EndsRight (in_zone side zone) base query recorded now_recorded d → EndsRight side base query other later e → IsNoLinkFault d.outcome → IsNoLinkFault e.outcome → AreOneEnd d e
  one_end side zone same base query recorded now_recorded other later d e x y f i =
      let at : d.version ≡ version_of side query x.given = x.version_is ∙ same_version (in_zone side zone) side query x.given refl in
      let one = alike one_arrival one_needed side side query d e x.given y.given at y.version_is d.outcome e.outcome
      (ended_at side zone same query d x.given d.outcome x.ended f) y.ended f i in
      record {
        version = at ∙ ap (version_of side query) one.given ∙ sym y.version_is;
        outcome = one.outcome;
        exchanges =
            x.exchanges ∙ ap length (asked_given (in_zone side zone) query x.given x.asked d.outcome x.asks f ∙ one.given)
            ∙ sym (y.exchanges ∙ ap length (asked_given side query y.given y.asked e.outcome y.asks i));
      }

  pub one_output : {X Y : Type 0} (seen : X → LinkSeen) (saw : Y → LinkSeen) → OneOutput seen saw
  one_output seen saw a b publishing file query before after other later x y d e same fair other_fair p q =
      let moment = publishing.base_moment in
      let one = one_behind one_outcome (store_of a moment) (store_of b moment) (record { base = refl; history = refl }) p.store q.store p.line q.line file p.behind q.behind in
      let f = no_link_fault publishing.base query (seen before).faults (seen after).faults d.version p.asks.made d.outcome p.asks.ends fair.no_fault in
      let i = no_link_fault publishing.base query (saw other).faults (saw later).faults e.version q.asks.made e.outcome q.asks.ends other_fair.no_fault in
      let side = side_with b publishing (store_with b moment q.store.history) in
      let here : side_with a publishing p.store ≡ in_zone side a.zone = first_side one_outcome a b publishing file p.store q.store p.line q.line same p.behind q.behind in
      let there : side_with b publishing q.store ≡ side = second_side one_outcome a b publishing file p.store q.store p.line q.line q.behind in
      let first = subst (λ s. EndsRight s publishing.base query (seen before).recorded (seen after).recorded d) here (p.right fair.was_clear (fair.short p.store p.line p.behind)) in
      let second = subst (λ s. EndsRight s publishing.base query (saw other).recorded (saw later).recorded e) there (q.right other_fair.was_clear (other_fair.short q.store q.line q.behind)) in
      record {
        line = p.line;
        first_is = p.text_is;
        second_is = q.text_is ∙ ap (λ (line : List ℕ). line ++ client_text_of 1 e) (sym one.line);
        one = one_end side a.zone (dates_of a b same) publishing.base query (seen before).recorded (seen after).recorded (saw other).recorded (saw later).recorded d e first second f i;
      }
