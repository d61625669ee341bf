-- Events of which none is a message, and how clients ended by them.
use Rattle.std.proofs.Common.{◌≡◌, ℕ, List, [], ◌∷◌, ◌++◌, Result, Ok, Err, subst}
use Rattle.std.specs.Prelude.{IfOk}
use Rattle.std.specs.List.{All}
use Rattle.std.proofs.lemmas.List.Elements.{All-head, All-tail}
use Rattle.cli_ask.specs.Block.{IsPrintable}
use Rattle.cli_ask.specs.declared.end.ClientEnd.{ClientEnd}
use Rattle.connection_uri.specs.Base.{BaseParts}
use Rattle.convoy.specs.State.{begun}
use Rattle.cli_replay.specs.Planning.Planning.{HaveHappened}
use Rattle.cli_replay.specs.PlanLaws.Laws.{PlanRecordsReplies, PlansRight}
use Rattle.cli_replay.specs.PlanLaws.Planned.{IsNoMessage, IsPlanned, NoneIsMessage}
use Rattle.cli_replay.specs.ReplayLaws.Events.{TurnsAreOfClients}
use Rattle.cli_replay.specs.ReplayLaws.Laws.{ArePlayedCaused, PlaysCaused}
use Rattle.cli_replay.specs.ReplayLaws.Replayed.{clients_text_of}
use Rattle.cli_replay.specs.ReplayLaws.Rounds.{all_rounds}
use Rattle.cli_replay.specs.declared.replay_laws.event.Event.{Event}
use Rattle.lc_world.specs.Link.{LinkSeen}

-- the event at a place is none
pub no_message_at : (all done behind : List Event) (event : Event) → NoneIsMessage all → all ≡ done ++ event ∷ behind → IsNoMessage event
no_message_at all done behind event none are = here done (subst NoneIsMessage are none) where
  here : (front : List Event) → NoneIsMessage (front ++ event ∷ behind) → IsNoMessage event
  here [] rest = All-head IsNoMessage event behind rest
  here (first ∷ front) rest = here front (All-tail IsNoMessage first (front ++ event ∷ behind) rest)

-- two facts about a value that is there, or none
pub both : {T E : Type 0} (r : Result T E) (P Q R : T → Type 0) → ((v : T) → P v → Q v → R v) → IfOk r P → IfOk r Q → IfOk r R
both (Ok v) P Q R join p q = join v p q
both (Err e) P Q R join p q = tt

module _ {L : Type 0} (seen : L → LinkSeen) (plays_caused : PlaysCaused seen) (base : BaseParts) (all : List Event) (cache : ℕ) (before after : L) (ends : List ClientEnd) (turns : TurnsAreOfClients all)
    (x : HaveHappened seen base all cache before after ends) where
  caused : ArePlayedCaused base all cache (seen before) (seen after) ends (all_rounds seen all (begun base cache) x.turned x.ended before x.between after [] x.plays x.rounds)
  caused = plays_caused base all cache x.turned x.ended before x.between after [] ends turns x.plays x.rounds x.have_ended

  -- how the clients ended can be printed
  pub printable : All (λ (end : ClientEnd). IsPrintable end.outcome) ends
  printable = caused.printable

  -- what happened over a link, and was printed so, is planned
  pub planned : PlansRight seen → PlanRecordsReplies seen → NoneIsMessage all → (text : List ℕ) → text ≡ clients_text_of 1 ends → IsPlanned base all cache (seen before) (seen after) text ends
  planned plans_right records_replies none text is = record {
    text_is = is;
    one_each = caused.one_each;
    caused = caused.caused;
    clear = caused.clear;
    not_fallen = caused.not_fallen;
    right = λ first honest.
        plans_right base first all cache x.turned x.ended before x.between after [] ends turns none honest x.plays x.rounds x.have_ended caused.caused caused.met_in;
    replies = λ first honest. records_replies base first all cache x.turned x.ended before x.between after [] none honest x.plays x.rounds;
  }
