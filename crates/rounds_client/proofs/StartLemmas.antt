-- What a client has read where it begins, and where it ends.
use Rattle.std.proofs.Common.{◌≡◌, [], Option, Some, None, sym, subst}
use Rattle.lc_model.specs.declared.query.Query.{Query}
use Rattle.page_client.specs.Client.{shown}
use Rattle.page_client.specs.Shown.{Begins, IsRefusal, Shown, StaysOrEnds, first_outcome, first_phase}
use Rattle.page_client.specs.declared.client.Client.{Client}
use Rattle.page_client.specs.declared.fault.QueryFault.{QueryFault}
use Rattle.page_client.specs.declared.outcome.Outcome.{Outcome}
use Rattle.page_client.specs.declared.phase.Phase.{Phase}
use Rattle.page_client.specs.declared.phase.Phase.TheVariants as phases
use Rattle.convoy.specs.Steps.{IsDecided}
use Rattle.rounds_client.specs.Course.{HasRead, Reads, ReadsAt}
use Rattle.rounds_client.specs.Given.{Was}

reads_first : (query : Query) (client : Client) (given : Was) (refusal : Option QueryFault) → IsRefusal query refusal → given.pages ≡ [] → ReadsAt client given query (first_phase refusal) (first_outcome refusal)
reads_first query client given None asks none = record { horizon = asks.0; pages = none }
reads_first query client given (Some fault) refused none = tt

-- a client that begins has read nothing
pub reads_at_start : (query : Query) (client : Client) (given : Was) → Begins query (shown client) → given.pages ≡ [] → Reads client given
reads_at_start query client given begins none =
    let P : Shown → Type 0 = λ s. ReadsAt client given s.query s.phase s.outcome in
    subst P (sym begins.is) (reads_first query client given begins.refusal begins.is_refusal none)

read_in : (client : Client) (given : Was) (query : Query) (phase : Phase) (outcome : Outcome) → StaysOrEnds None phase (Some outcome) → ReadsAt client given query phase (Some outcome) → HasRead query given (Some outcome)
read_in client given query phases.Gate outcome decided reads = absurd (cc)
read_in client given query (phases.Stops first) outcome decided reads = absurd (cc)
read_in client given query (phases.Page name) outcome decided reads = absurd (cc)
read_in client given query phases.Finished outcome decided reads = reads

-- what its outcome says
pub read_at_end : (client : Client) (given : Was) (query : Query) (outcome : Outcome) → IsDecided (shown client) → client.query ≡ query → client.outcome ≡ Some outcome → Reads client given → HasRead query given (Some outcome)
read_at_end client given query outcome decided asked is reads =
    let D : Option Outcome → Type 0 = λ o. StaysOrEnds None client.phase o in
    let R : Option Outcome → Type 0 = λ o. ReadsAt client given client.query client.phase o in
    let Q : Query → Type 0 = λ q. HasRead q given (Some outcome) in
    subst Q asked (read_in client given client.query client.phase outcome (subst D is decided) (subst R is reads))
