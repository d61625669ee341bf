-- That two runs of `plan` print one output. The links are quiet with one side, or their sides grow and the time gates named the same versions.
use Rattle.std.specs.Prelude.{◌≡◌, List, Some}
use Rattle.std.specs.List.{AllZip}
use Rattle.cli_ask.specs.Laws.{AreOneEnd}
use Rattle.cli_words.specs.Words.{SaysCommand}
use Rattle.cli_words.specs.declared.command.Command.{Command}
use Rattle.cli_words.specs.declared.command.Command.TheVariants as commands
use Rattle.cli_words.specs.declared.command.Plan.{Plan}
use Rattle.connection_uri.specs.Base.{BaseParts}
use Rattle.cli_replay.specs.PlanLaws.OneGrowing.{NameTheSame}
use Rattle.cli_replay.specs.ReplayLaws.Replayed.{clients_text_of}
use Rattle.lc_io.specs.Counts.{Rose}
use Rattle.lc_io.specs.declared.file.File.{File}
use Rattle.lc_world.specs.Link.{IsHonestWith, IsQuietWith, LinkSeen}
use Rattle.lc_world.specs.Sides.Side.{IsLater, IsValidSide, Side}
use Rattle.lc_cli.specs.Top.{HasPrinted, Past}
use Rattle.lc_cli.specs.declared.block.Block.{Block}
use Rattle.lc_cli.specs.declared.status.Status.{Status}

-- the outputs are one: the blocks of as many clients, whose ends are one
pub record PrintOnePlan (x y : Block) : Type 0 where
  pub first_is : x.text.items ≡ clients_text_of 1 x.ends.items
  pub second_is : y.text.items ≡ clients_text_of 1 y.ends.items
  pub one_each : AllZip AreOneEnd x.ends.items y.ends.items

-- the link was quiet under the base with this side at its other end, and failed in no exchange
pub record HasQuietLink (base : BaseParts) (side : Side) (before after : LinkSeen) : Type 0 where
  pub was_quiet : IsQuietWith before base side
  pub no_fault : Rose before.faults after.faults → ⊥

-- the link was honest under the base with some side, has this side at last, and failed in no exchange
pub record HasGrowingLink (base : BaseParts) (last : Side) (before after : LinkSeen) : Type 0 where
  pub first : Side
  pub was_honest : IsHonestWith before base first
  pub last_is : after.side ≡ Some last
  pub no_fault : Rose before.faults after.faults → ⊥

-- The words say this command in both runs, and both directories have these files.
pub record PlanTheSame {X Y : Type 0} (p : Past X) (q : Past Y) (command : Command) (recorded : List File) : Type 0 where
  pub words : p.words ≡ q.words
  pub says : SaysCommand p.words command
  pub tells : p.folder_before.files ≡ Some recorded
  pub tell : q.folder_before.files ≡ Some recorded

-- Runs of `plan` with the same words over the same files, over quiet links with one side, print one output where they have one. X
-- and Y are the types of the links, and `seen` and `saw` what is promised of them.
abbrev pub OneQuietPlan : {X Y : Type 0} → (X → LinkSeen) → (Y → LinkSeen) → Type 0
OneQuietPlan {X} {Y} seen saw =
    (p : Past X) (q : Past Y) (plan : Plan) (recorded : List File) (side : Side) → PlanTheSame p q (commands.Plan plan) recorded
    → HasQuietLink plan.base side (seen p.link_before) (seen p.link_after) → HasQuietLink plan.base side (saw q.link_before) (saw q.link_after)
    → (s t : Status) (x : HasPrinted seen p s) (y : HasPrinted saw q t) → PrintOnePlan x.block y.block

-- They print one output over links whose sides grow into one side too, where the time gates named one version to each client.
abbrev pub OneNamedPlan : {X Y : Type 0} → (X → LinkSeen) → (Y → LinkSeen) → Type 0
OneNamedPlan {X} {Y} seen saw =
    (p : Past X) (q : Past Y) (plan : Plan) (recorded : List File) (last end whole : Side) → PlanTheSame p q (commands.Plan plan) recorded
    → IsValidSide whole → IsLater last whole → IsLater end whole
    → HasGrowingLink plan.base last (seen p.link_before) (seen p.link_after) → HasGrowingLink plan.base end (saw q.link_before) (saw q.link_after)
    → (s t : Status) (x : HasPrinted seen p s) (y : HasPrinted saw q t) → NameTheSame x.block.ends.items y.block.ends.items → PrintOnePlan x.block y.block
