-- The sums over the clients of an event sequence, and the lines that say them.
use Rattle.std.specs.Prelude.{ℕ, ◌-◌, Bool, false, true, List, ◌++◌, codes, count_by, decimal, map, sum, zip}
use Rattle.cli_ask.specs.declared.end.ClientEnd.{ClientEnd}
use Rattle.cli_replay.specs.ReplayLaws.Events.{questions_in}
use Rattle.cli_replay.specs.declared.replay_laws.event.Event.{Event}
use Rattle.cli_replay.specs.declared.replay_laws.event.Event.TheVariants as events
use Rattle.lc_model.specs.Journey.{arrives_at}
use Rattle.lc_model.specs.declared.query.Query.{Query}
use Rattle.page_client.specs.declared.outcome.Outcome.{Outcome}
use Rattle.page_client.specs.declared.outcome.Outcome.TheVariants as outcomes

-- whether an event is a message
abbrev pub is_message : Event → Bool
is_message (events.Ask query) = false
is_message (events.Message message) = true
is_message (events.Turn client) = false

-- whether a client found a journey
abbrev pub has_found : Outcome → Bool
has_found (outcomes.Found journey) = true
has_found outcomes.NoJourney = false
has_found (outcomes.Refused refused) = false
has_found (outcomes.LinkFault before after) = false
has_found (outcomes.PeerWrong reply wrong) = false

-- whether it found that there is none
abbrev pub has_none : Outcome → Bool
has_none (outcomes.Found journey) = false
has_none outcomes.NoJourney = true
has_none (outcomes.Refused refused) = false
has_none (outcomes.LinkFault before after) = false
has_none (outcomes.PeerWrong reply wrong) = false

-- the seconds from the leave of a client to the arrival of its journey, and 0 where it found none
abbrev pub seconds_of : ℕ → Outcome → ℕ
seconds_of leave (outcomes.Found journey) = arrives_at journey - leave
seconds_of leave outcomes.NoJourney = 0
seconds_of leave (outcomes.Refused refused) = 0
seconds_of leave (outcomes.LinkFault before after) = 0
seconds_of leave (outcomes.PeerWrong reply wrong) = 0

-- the sum of them over clients, by the leaves of their questions
abbrev pub arrivals_of : List ℕ → List ClientEnd → ℕ
arrivals_of leaves ends = sum (map (λ (client : ℕ × ClientEnd). seconds_of client.0 client.1.outcome) (zip leaves ends))

-- the leaves of the questions, of client 1, of client 2, and so on
abbrev pub leaves_in : List Event → List ℕ
leaves_in all = map (λ (query : Query). query.leave) (questions_in all)

-- how many clients found a journey
abbrev pub found_in : List ClientEnd → ℕ
found_in ends = count_by (λ (end : ClientEnd). has_found end.outcome) ends

-- how many found that there is none
abbrev pub none_in : List ClientEnd → ℕ
none_in ends = count_by (λ (end : ClientEnd). has_none end.outcome) ends

-- the exchanges of all clients
abbrev pub exchanges_of : List ClientEnd → ℕ
exchanges_of ends = sum (map (λ (end : ClientEnd). end.exchanges) ends)

-- `updates {admitted} ignored {n}`
abbrev pub updates_line_of : ℕ → ℕ → List ℕ
updates_line_of admitted ignored = codes "updates " ++ decimal admitted ++ codes " ignored " ++ decimal ignored ++ codes "\n"

-- `found {n} none {n}`
abbrev pub found_line_of : ℕ → ℕ → List ℕ
found_line_of found none = codes "found " ++ decimal found ++ codes " none " ++ decimal none ++ codes "\n"

-- `arrivals {n}`
abbrev pub arrivals_line_of : ℕ → List ℕ
arrivals_line_of arrivals = codes "arrivals " ++ decimal arrivals ++ codes "\n"

-- `exchanges {n}`
abbrev pub exchanges_line_of : ℕ → List ℕ
exchanges_line_of exchanges = codes "exchanges " ++ decimal exchanges ++ codes "\n"

-- the four lines, of so many messages that were admitted and so many in all
abbrev pub summary_of : ℕ → ℕ → List ℕ → List ClientEnd → List ℕ
summary_of admitted messages leaves ends =
    updates_line_of admitted (messages - admitted) ++ found_line_of (found_in ends) (none_in ends) ++ arrivals_line_of (arrivals_of leaves ends)
    ++ exchanges_line_of (exchanges_of ends)
