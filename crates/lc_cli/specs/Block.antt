-- How a run ends that has a block to print.
use Rattle.std.specs.Prelude.{◌≡◌, ◌⊎◌, ◌+◌, ℕ, List, [], ◌∷◌, Option, Some, None, unwrap_or}
use Rattle.cli_ask.specs.declared.end.ClientEnd.{ClientEnd}
use Rattle.lc_io.specs.Counts.{Rose}
use Rattle.lc_io.specs.Sink.{SinkSeen}
use Rattle.page_client.specs.declared.outcome.Outcome.{Outcome}
use Rattle.page_client.specs.declared.outcome.Outcome.TheVariants as outcomes
use Rattle.cli_serve.specs.Written.{Wrote, WroteFront}
use Rattle.lc_cli.specs.declared.block.Block.{Block}
use Rattle.lc_cli.specs.declared.status.Status.{Status}
use Rattle.lc_cli.specs.declared.status.Status.TheVariants.{Done, SinkFault, LinkFault, PeerWrong, QueryRefused, NoMemory}

-- the status of client k, where it has no answer
abbrev pub failed_status_of : ℕ → Outcome → Option Status
failed_status_of k (outcomes.Found journey) = None
failed_status_of k outcomes.NoJourney = None
failed_status_of k (outcomes.Refused fault) = Some (QueryRefused k fault)
failed_status_of k (outcomes.LinkFault before after) = Some (LinkFault k before after)
failed_status_of k (outcomes.PeerWrong reply fault) = Some (PeerWrong k reply fault)

-- the status of the first client without an answer, among clients from number k on, and of none
abbrev pub client_status_of : ℕ → List ClientEnd → Status
client_status_of k [] = Done
client_status_of k (end ∷ more) = unwrap_or (failed_status_of k end.outcome) (client_status_of (k + 1) more)

-- the block was written whole, and the status is its clients'
pub record IsWrittenWhole (block : Block) (before after : SinkSeen) (status : Status) : Type 0 where
  pub status_is : status ≡ client_status_of 1 block.ends.items
  pub wrote : Wrote before after block.text.items

-- the sink failed, which it counted, and a front of the block was written
pub record IsCutByFault (block : Block) (before after : SinkSeen) (status : Status) : Type 0 where
  pub status_is : status ≡ SinkFault before.faults after.faults
  pub rose : Rose before.faults after.faults
  pub wrote : WroteFront before after block.text.items

-- the sink ran out of memory, which it counted, and a front of the block was written
pub record IsCutByWant (block : Block) (before after : SinkSeen) (status : Status) : Type 0 where
  pub status_is : status ≡ NoMemory
  pub rose : Rose before.wants after.wants
  pub wrote : WroteFront before after block.text.items

-- how the run ends that has this block to print
abbrev pub IsBlockEnd : Block → SinkSeen → SinkSeen → Status → Type 0
IsBlockEnd block before after status =
    IsWrittenWhole block before after status ⊎ IsCutByFault block before after status ⊎ IsCutByWant block before after status
