-- The main promise of `relay`: where it ends with status Done, it wrote best journeys and how many exchanges were handed on.
use Rattle.std.specs.Prelude.{◌≡◌, ℕ, List, ◌++◌, Some}
use Rattle.cli_ask.specs.declared.end.ClientEnd.{ClientEnd}
use Rattle.cli_replay.specs.Planning.Relayed.{IsRelayed, counts_line_of, relay_after, relay_over}
use Rattle.cli_serve.specs.Written.{Wrote}
use Rattle.cli_words.specs.Words.{SaysCommand}
use Rattle.cli_words.specs.declared.command.Command.TheVariants as commands
use Rattle.cli_words.specs.declared.command.Relay.{Relay}
use Rattle.cli_replay.specs.ReplayLaws.Replayed.{clients_text_of}
use Rattle.cli_replay.specs.declared.replay_laws.event.Event.{Event}
use Rattle.lc_io.specs.declared.file.File.{File}
use Rattle.lc_world.specs.Link.{IsHonestWith, LinkSeen}
use Rattle.lc_world.specs.Sides.Side.{Side}
use Rattle.lc_cli.specs.Clear.{AreRecordedAsks}
use Rattle.lc_cli.specs.Headline.{EachEndsBest}
use Rattle.lc_cli.specs.Top.{IsRight, Past}
use Rattle.lc_cli.specs.declared.status.Status.TheVariants.{Done}

-- `relay` let the clients of its script have their turns over a relay of the link. It wrote the block of each client, which ended best, and the
-- line of the relay's counts. The link is honest with the last side of the plan.
pub record RelayedEachBest {X : Type 0} (seen : X → LinkSeen) (p : Past X) (relay : Relay) (files : List File) (first : Side) : Type 0 where
  pub all : List Event
  pub recorded : AreRecordedAsks files relay.asks all
  pub text : List ℕ
  pub ends : List ClientEnd
  pub relayed : IsRelayed relay.base all relay.cache relay.entries (seen p.link_before) (seen p.link_after) text ends
  pub each :
      EachEndsBest relay.base first all relay.cache (relay_over relay.base relay.entries (seen p.link_before))
      (relay_after relay.base relay.entries (seen p.link_before) relayed.own relayed.kept (seen p.link_after)) relayed.blocks ends relayed.planned
  pub honest : IsHonestWith (seen p.link_after) relay.base each.planned.last
  pub text_is : text ≡ clients_text_of 1 ends ++ counts_line_of relayed.relayed relayed.forwarded
  pub wrote : Wrote p.sink_before p.sink_after text

-- Over recorded files and an honest link, also one whose side grows, status Done of `relay` means this. It wrote a best journey for each client
-- that asked, or that none exists.
abbrev pub HeadlineOfRelay : {X : Type 0} → (X → LinkSeen) → Type 0
HeadlineOfRelay {X} seen =
    (p : Past X) (relay : Relay) (files : List File) (first : Side)
    → SaysCommand p.words (commands.Relay relay)
    → p.folder_before.files ≡ Some files
    → IsHonestWith (seen p.link_before) relay.base first
    → IsRight seen p Done
    → RelayedEachBest seen p relay files first
