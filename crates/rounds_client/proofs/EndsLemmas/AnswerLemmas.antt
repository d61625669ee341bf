-- Where a client of the fewest rides ended, it had asked as one that asks alone, and answered by the pages that it read.
use Rattle.std.proofs.Common.{◌≡◌, ◌∙◌, ℕ, List, [], ◌++◌, Option, Some, None, ap, length, refl, subst, sym}
use Rattle.std.specs.Prelude.{IsSome}
use Rattle.std.proofs.lemmas.List.{length-map}
use Rattle.change_rounds.specs.Fewest.{IsFewestChain}
use Rattle.connection_uri.specs.Base.{BaseParts}
use Rattle.lc_model.specs.declared.connection.Connection.{Connection}
use Rattle.lc_model.specs.declared.doc.StopsDoc.{StopsDoc}
use Rattle.lc_model.specs.declared.query.Query.{Query}
use Rattle.lc_world.specs.Link.{LinkSeen}
use Rattle.page_client.specs.Client.{shown}
use Rattle.page_client.specs.Shown.{Shown}
use Rattle.page_client.specs.declared.client.Client.{Client}
use Rattle.page_client.specs.declared.outcome.Outcome.{Outcome}
use Rattle.page_client.specs.declared.outcome.Outcome.TheVariants as outcomes
use Rattle.page_client.specs.declared.phase.Phase.{Phase}
use Rattle.page_client.specs.declared.phase.Phase.TheVariants as phases
use Rattle.convoy.specs.Replies.Course.{connections_in}
use Rattle.convoy.specs.Replies.Ends.{EndsBy}
use Rattle.convoy.specs.Replies.Made.{Made}
use Rattle.convoy.specs.Replies.Met.{Met}
use Rattle.convoy.proofs.RepliesLemmas.ClientsLemmas.{has_ended, not_yet}
use Rattle.convoy.proofs.RepliesLemmas.CourseLemmas.{connections_more}
use Rattle.convoy.proofs.RepliesLemmas.StepLemmas.{At, AtEnd}
use Rattle.rounds_client.specs.Course.{AnswersFewest, Point}
use Rattle.rounds_client.specs.Given.{Was, connections_of_pages}
use Rattle.rounds_client.specs.Ends.Asked.{HasAskedFewest, HasFewestRead}
use Rattle.rounds_client.specs.Ends.ReplyLaws.{FewestByItsReplies}
use Rattle.rounds_client.proofs.EndsLemmas.ReplyCourseLemmas.{HasCome, has_come, made_in}
use Rattle.rounds_client.proofs.EndsLemmas.ReadLemmas.{ReadAt, ReadGiven}

-- who has an outcome was given what it read
read_ended : (base : BaseParts) (query : Query) (before now : ℕ) (client : Client) (made : List Made) (given : Was) (s : Shown) (phase : Phase) → At base before now client made s phase → IsSome s.outcome
    → ReadAt base query made given s.outcome phase → ReadGiven base query made given s.outcome
read_ended base query before now client made given s phases.Gate at some read = absurd (not_yet s.outcome at.none some)
read_ended base query before now client made given s (phases.Stops first) at some read = absurd (not_yet s.outcome at.none some)
read_ended base query before now client made given s (phases.Page name) at some read = absurd (not_yet s.outcome at.none some)
read_ended base query before now client made given s phases.Finished at some read = read

-- the end with the answer in place of what was found
record IsInPlace (base : BaseParts) (query : Query) (before now : ℕ) (version : Option ℕ) (made : List Made) (found answer : Outcome) : Type 0 where
  ends : EndsBy base query before now version made answer
  fewest : HasFewestRead base query before now version made answer ends
  fault : (low high : ℕ) → answer ≡ outcomes.LinkFault low high → found ≡ outcomes.LinkFault low high

-- every other outcome stays
stays_in_place : (base : BaseParts) (query : Query) (before now : ℕ) (version : Option ℕ) (made : List Made) (found answer : Outcome) (read : EndsBy base query before now version made found)
    → HasFewestRead base query before now version made found read → answer ≡ found → IsInPlace base query before now version made found answer
stays_in_place base query before now version made found answer read none is =
    subst (IsInPlace base query before now version made found) (sym is) (record { ends = read; fewest = none; fault = λ low high same. same })

-- the answer over what was given is one over the pages that were read
in_place : (base : BaseParts) (query : Query) (before now : ℕ) (version : Option ℕ) (made : List Made) (given : Was) (found answer : Outcome) (read : EndsBy base query before now version made found)
    → ReadGiven base query made given (Some found) → AnswersFewest query given found answer → IsInPlace base query before now version made found answer
in_place base query before now version made given (outcomes.Found journey) answer read had (doc, fewest, has, is, chain) =
    let own = had version journey refl read in
    let both : Some doc ≡ Some read.came.doc = sym has ∙ own.doc_is in
    let same : doc ≡ read.came.doc = cc in
    let list : connections_of_pages given.pages ≡ connections_in read.came.pages ++ read.page.list =
    ap connections_of_pages own.pages_are ∙ sym (connections_more read.came.pages read.page) in
    let of_pages : IsFewestChain query read.came.doc (connections_in read.came.pages ++ read.page.list) (Some fewest) =
    subst (λ (l : List Connection). IsFewestChain query read.came.doc l (Some fewest)) list (subst (λ (d : StopsDoc). IsFewestChain query d (connections_of_pages given.pages) (Some fewest)) same chain) in
    subst (IsInPlace base query before now version made (outcomes.Found journey)) (sym is) (record {
      ends = record {
        accepted = read.accepted;
        earlier = read.earlier;
        name = read.name;
        came = read.came;
        reply = read.reply;
        page = read.page;
        says = read.says;
        right = read.right;
        stops = read.stops;
        best = of_pages.is_best;
        in_time = of_pages.is_best.is_journey.in_time;
        was_made = read.was_made;
      };
      fewest = of_pages;
      fault = λ low high fault. absurd (let e : outcomes.Found fewest ≡ outcomes.LinkFault low high = fault in cc);
    })
in_place base query before now version made given outcomes.NoJourney answer read had is = stays_in_place base query before now version made outcomes.NoJourney answer read tt is
in_place base query before now version made given (outcomes.Refused fault) answer read had is = stays_in_place base query before now version made (outcomes.Refused fault) answer read tt is
in_place base query before now version made given (outcomes.LinkFault count later) answer read had is =
    stays_in_place base query before now version made (outcomes.LinkFault count later) answer read tt is
in_place base query before now version made given (outcomes.PeerWrong reply fault) answer read had is =
    stays_in_place base query before now version made (outcomes.PeerWrong reply fault) answer read tt is

-- at its outcome the client has asked so
module _ {X : Type 0} (seen : X → LinkSeen) (base : BaseParts) (query : Query) (first : X) (last : Point X) (points : List (Point X)) (came : HasCome seen base query first last points) (found answer : Outcome)
    (ended : (shown last.client).outcome ≡ Some found) where
  some : IsSome (shown last.client).outcome
  some = subst (λ (o : Option Outcome). IsSome o) (sym ended) refl

  ends : EndsBy base query (seen first).faults (seen last.link).faults (shown last.client).version (made_in came.all) found
  ends =
      let e : AtEnd base (seen first).faults (seen last.link).faults (shown last.client) (made_in came.all) =
      has_ended base (seen first).faults (seen last.link).faults last.client (made_in came.all) (shown last.client) (shown last.client).phase came.so.at some in
      let both : Some e.outcome ≡ Some found = sym e.ended ∙ ended in
      let same : e.outcome ≡ found = cc in
      subst (λ (q : Query). EndsBy base q (seen first).faults (seen last.link).faults (shown last.client).version (made_in came.all) found) came.so.question
      (subst (EndsBy base (shown last.client).query (seen first).faults (seen last.link).faults (shown last.client).version (made_in came.all)) same e.ends)

  read : ReadGiven base query (made_in came.all) last.given (Some found)
  read =
      subst (ReadGiven base query (made_in came.all) last.given) ended
      (read_ended base query (seen first).faults (seen last.link).faults last.client (made_in came.all) last.given (shown last.client) (shown last.client).phase came.so.at some came.so.read)

  has_asked : AnswersFewest query last.given found answer → HasAskedFewest base query (seen first) (seen last.link) (shown last.client).version (length points) answer
  has_asked answers =
      let now = in_place base query (seen first).faults (seen last.link).faults (shown last.client).version (made_in came.all) last.given found answer ends read answers in
      record {
        asked = record {
          made = made_in came.all;
          counted = sym came.count ∙ sym (length-map came.all (λ (met : Met). met.made));
          ends = now.ends;
          recorded = came.so.recorded;
          clear = came.so.clear;
          not_fallen = came.so.not_fallen;
          along = record { met = came.all; are = refl; along = came.so.along; fault = λ low high is. came.so.fault low high (ended ∙ ap Some (now.fault low high is)) };
        };
        fewest = now.fewest;
      }

pub fewest_by_its_replies : {X : Type 0} (seen : X → LinkSeen) → FewestByItsReplies seen
fewest_by_its_replies {X} seen base query before after end e =
    let start : Point X = record { client = e.start; given = record { doc = None; pages = [] }; link = before } in
    let came = has_come seen base query start e.begins refl e.points e.last e.leads in
    let asked = has_asked seen base query before e.last e.points came e.outcome end.outcome e.ended e.answer in
    subst (λ (x : X). HasAskedFewest base query (seen before) (seen x) end.version end.exchanges end.outcome) e.link
    (subst (λ (n : ℕ). HasAskedFewest base query (seen before) (seen e.last.link) end.version n end.outcome) (sym e.exchanges)
    (subst (λ (v : Option ℕ). HasAskedFewest base query (seen before) (seen e.last.link) v (length e.points) end.outcome) (sym e.version) asked))
