-- That two runs of `relay` print one output, but for how many exchanges were handed on.
use Rattle.std.specs.Prelude.{◌≡◌, ℕ, List, ◌++◌}
use Rattle.std.specs.List.{AllZip}
use Rattle.cli_ask.specs.Laws.{AreOneEnd}
use Rattle.cli_replay.specs.Planning.Relayed.{counts_line_of}
use Rattle.cli_words.specs.declared.command.Command.TheVariants as commands
use Rattle.cli_words.specs.declared.command.Relay.{Relay}
use Rattle.cli_replay.specs.PlanLaws.OneGrowing.{NameTheSame}
use Rattle.cli_replay.specs.ReplayLaws.Replayed.{clients_text_of}
use Rattle.lc_io.specs.declared.file.File.{File}
use Rattle.lc_world.specs.Link.{LinkSeen}
use Rattle.lc_world.specs.Sides.Side.{IsLater, IsValidSide, Side}
use Rattle.lc_cli.specs.OnePlan.{HasGrowingLink, HasQuietLink, PlanTheSame}
use Rattle.lc_cli.specs.Top.{HasPrinted, Past}
use Rattle.lc_cli.specs.declared.block.Block.{Block}
use Rattle.lc_cli.specs.declared.status.Status.{Status}

-- The outputs are one but for the last number: the blocks of as many clients, whose ends are one, and one number of exchanges.
pub record PrintOneRelay (x y : Block) : Type 0 where
  pub relayed : ℕ
  pub forwarded : ℕ
  pub other_forwarded : ℕ
  pub first_is : x.text.items ≡ clients_text_of 1 x.ends.items ++ counts_line_of relayed forwarded
  pub second_is : y.text.items ≡ clients_text_of 1 y.ends.items ++ counts_line_of relayed other_forwarded
  pub one_each : AllZip AreOneEnd x.ends.items y.ends.items

-- Runs of `relay` with equal words over equal files, over quiet links with one side, print such outputs where they have one. X
-- and Y are the types of the links, and `seen` and `saw` what is promised of them.
abbrev pub OneQuietRelay : {X Y : Type 0} → (X → LinkSeen) → (Y → LinkSeen) → Type 0
OneQuietRelay {X} {Y} seen saw =
    (p : Past X) (q : Past Y) (relay : Relay) (recorded : List File) (side : Side) → PlanTheSame p q (commands.Relay relay) recorded
    → HasQuietLink relay.base side (seen p.link_before) (seen p.link_after) → HasQuietLink relay.base side (saw q.link_before) (saw q.link_after)
    → (s t : Status) (x : HasPrinted seen p s) (y : HasPrinted saw q t) → PrintOneRelay x.block y.block

-- They print such outputs over links whose sides grow into one side too, where the time gates named one version to each client.
abbrev pub OneNamedRelay : {X Y : Type 0} → (X → LinkSeen) → (Y → LinkSeen) → Type 0
OneNamedRelay {X} {Y} seen saw =
    (p : Past X) (q : Past Y) (relay : Relay) (recorded : List File) (last end whole : Side) → PlanTheSame p q (commands.Relay relay) recorded
    → IsValidSide whole → IsLater last whole → IsLater end whole
    → HasGrowingLink relay.base last (seen p.link_before) (seen p.link_after) → HasGrowingLink relay.base end (saw q.link_before) (saw q.link_after)
    → (s t : Status) (x : HasPrinted seen p s) (y : HasPrinted saw q t) → NameTheSame x.block.ends.items y.block.ends.items → PrintOneRelay x.block y.block
