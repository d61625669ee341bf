-- That how each client ended has its cause, whatever the link is: the replies that were got in its turns.
use Rattle.std.specs.Prelude.{◌≡◌, ◌≢◌, ◌⊎◌, ◌≤◌, ℕ, ◌+◌, List, [], ◌∷◌, Option, Some, slice_get}
use Rattle.std.specs.List.{All}
use Rattle.cli_ask.specs.declared.end.ClientEnd.{ClientEnd}
use Rattle.convoy.specs.Replies.Cached.{AreCached}
use Rattle.convoy.specs.Replies.Ends.{EndsBy}
use Rattle.convoy.specs.Replies.Met.{AreMet, HasFailedBetween, Met, exchanges_by, met_by}
use Rattle.connection_uri.specs.Base.{BaseParts}
use Rattle.lc_model.specs.declared.query.Query.{Query}
use Rattle.lc_world.specs.declared.entry.Entry.{Entry}
use Rattle.page_client.specs.declared.outcome.Outcome.TheVariants.{LinkFault}
use Rattle.cli_replay.specs.ReplayLaws.Events.{questions_in, turns_in}
use Rattle.cli_replay.specs.declared.replay_laws.event.Event.{Event}

-- none of them is of the client
abbrev pub NoneIsOf : ℕ → List Met → Type 0
NoneIsOf client all = All (λ (met : Met). met.client ≢ client) all

-- the numbers of their clients never fall
abbrev pub AreByNumber : List Met → Type 0
AreByNumber [] = Unit {0}
AreByNumber (met ∷ more) = All (λ (later : Met). met.client ≤ later.client) more × AreByNumber more

-- the first of them is of the client, and these are the rest
pub record BeginWith (client : ℕ) (all rest : List Met) : Type 0 where
  pub first : Met
  pub is : all ≡ first ∷ rest
  pub own : first.client ≡ client

-- Clients received all this in these turns, one after the other, and after them. In each turn its client received one want, or nothing
-- any more. After the last turn each client received what it still wanted, client 1 first.
abbrev pub AreMetInTurns : List ℕ → List Met → Type 0
AreMetInTurns [] all = AreByNumber all
AreMetInTurns (client ∷ turns) all = ((rest : List Met) × BeginWith client all rest × AreMetInTurns turns rest) ⊎ (NoneIsOf client all × AreMetInTurns turns all)

-- The client of this number ended by the replies to what it received, and its exchanges are counted. The counts of a fault of the link are those
-- before and after the exchange of its own that failed.
pub record EndsByMet (base : BaseParts) (query : Query) (faults now_faults : ℕ) (number : ℕ) (met : List Met) (end : ClientEnd) : Type 0 where
  pub ends : EndsBy base query faults now_faults end.version (met_by number met) end.outcome
  pub exchanges : end.exchanges ≡ exchanges_by number met
  pub fault : (low high : ℕ) → end.outcome ≡ LinkFault low high → HasFailedBetween number low high met

-- The clients of an event sequence ended with these ends over a link that recorded these exchanges, and had these counts of faults. They shared
-- a cache of so many pages, which was empty at first.
pub record AreCaused (base : BaseParts) (all : List Event) (cache : ℕ) (recorded now_recorded : Option (List Entry)) (faults now_faults : ℕ) (ends : List ClientEnd) : Type 0 where
  pub met : List Met
  pub in_turns : AreMetInTurns (turns_in all) met
  pub by_replies : AreMet base (questions_in all) recorded now_recorded faults now_faults met
  pub cached : AreCached cache base (questions_in all) met
  pub clients : (place : ℕ) (query : Query) (end : ClientEnd) → slice_get (questions_in all) place ≡ Some query → slice_get ends place ≡ Some end
      → EndsByMet base query faults now_faults (place + 1) met end
