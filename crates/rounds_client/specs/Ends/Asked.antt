-- How a client of the fewest rides ended over any link, by the replies that it got.
use Rattle.std.specs.Prelude.{ℕ, List, ◌++◌, Option, Some}
use Rattle.change_rounds.specs.Fewest.{IsFewestChain}
use Rattle.connection_uri.specs.Base.{BaseParts}
use Rattle.convoy.specs.Replies.Course.{connections_in}
use Rattle.convoy.specs.Replies.Ends.{EndsBy}
use Rattle.convoy.specs.Replies.Made.{Made}
use Rattle.convoy.specs.Replies.Run.{HasAsked}
use Rattle.lc_model.specs.declared.query.Query.{Query}
use Rattle.lc_world.specs.Link.{LinkSeen}
use Rattle.page_client.specs.declared.outcome.Outcome.{Outcome}
use Rattle.page_client.specs.declared.outcome.Outcome.TheVariants as outcomes

-- a journey that was found has the fewest rides of all best chains of the pages that were read
abbrev pub HasFewestRead : (base : BaseParts) (query : Query) (before now : ℕ) (version : Option ℕ) (made : List Made) (outcome : Outcome) → EndsBy base query before now version made outcome → Type 0
HasFewestRead base query before now version made (outcomes.Found journey) read = IsFewestChain query read.came.doc (connections_in read.came.pages ++ read.page.list) (Some journey)
HasFewestRead base query before now version made outcomes.NoJourney read = Unit {0}
HasFewestRead base query before now version made (outcomes.Refused fault) read = Unit {0}
HasFewestRead base query before now version made (outcomes.LinkFault count later) read = Unit {0}
HasFewestRead base query before now version made (outcomes.PeerWrong reply fault) read = Unit {0}

-- A client of the question asked over the link and ended as one that asks alone, with this version and after so many exchanges. A journey that
-- it found has the fewest rides.
pub record HasAskedFewest (base : BaseParts) (query : Query) (before after : LinkSeen) (version : Option ℕ) (exchanges : ℕ) (outcome : Outcome) : Type 0 where
  pub asked : HasAsked base query before after version exchanges outcome
  pub fewest : HasFewestRead base query before.faults after.faults version asked.made outcome asked.ends
