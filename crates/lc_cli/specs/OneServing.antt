-- A command begins from one side by its files. Two runs of `serve` over the same files and the same bytes answer the same.
use Rattle.std.specs.Prelude.{◌≡◌, ◌≢◌, Bool, [], List, None, Some}
use Rattle.cli_serve.specs.SameBytes.{AreOneSide, RecordsWell, ServeAlike}
use Rattle.cli_words.specs.declared.command.Published.{Published}
use Rattle.cli_words.specs.declared.command.Serve.{Serve}
use Rattle.lc_io.specs.Door.{DoorRecorded}
use Rattle.lc_io.specs.declared.file.File.{File}
use Rattle.lc_world.specs.Link.{LinkSeen}
use Rattle.lc_world.specs.Sides.Side.{Side}
use Rattle.lc_cli.specs.Clear.{IsPublishedSide, IsServedSide}
use Rattle.lc_cli.specs.Serving.{asked_of}
use Rattle.lc_cli.specs.Top.{HasServed, Past}
use Rattle.lc_cli.specs.declared.status.Status.{Status}
use Rattle.lc_cli.specs.declared.status.Status.TheVariants.{Done}

-- by recorded files a question is put to one side, and a server begins from one
abbrev pub OneSide : Type 0
OneSide =
    (recorded : List File) (published : Published) (accepts : Bool) (a b : Side)
    → IsPublishedSide recorded published accepts a → IsPublishedSide recorded published accepts b → AreOneSide a b

-- each run of `serve` over recorded files began from that side, however it ended
abbrev pub BeginsFromIt : {X : Type 0} → (X → LinkSeen) → Type 0
BeginsFromIt {X} seen =
    (p : Past X) (recorded : List File) (status : Status) → p.folder_before.files ≡ Some recorded → (x : HasServed p status)
    → IsServedSide recorded x.right.serve (asked_of x.server).first

-- Runs of `serve` with equal arguments over equal files, which are done, are alike. Equal bytes waited at their doors, and no read or
-- write failed. They sent the same on each connection, and wrote one text. X and Y are the types of their links.
abbrev pub OneServing : {X Y : Type 0} → (X → LinkSeen) → (Y → LinkSeen) → Type 0
OneServing {X} {Y} seen saw =
    (p : Past X) (q : Past Y) (recorded : List File) (had has held holds : DoorRecorded) → p.words ≡ q.words
    → p.folder_before.files ≡ Some recorded → q.folder_before.files ≡ Some recorded
    → RecordsWell p.door_before p.door_after had has → RecordsWell q.door_before q.door_after held holds → had.waiting ≡ held.waiting
    → HasServed p Done → HasServed q Done → ServeAlike had has held holds p.sink_before p.sink_after q.sink_before q.sink_after

-- a side that has a message, where the words name none
abbrev pub NotMadeUp : Type 0
NotMadeUp = (recorded : List File) (serve : Serve) (side : Side) → serve.published.update ≡ None → side.history ≢ [] → ¬ IsServedSide recorded serve side

-- a side that takes messages where the words do not say so, or takes none where they do
abbrev pub NotUnasked : Type 0
NotUnasked = (recorded : List File) (serve : Serve) (side : Side) → side.accepts_updates ≢ serve.accept_updates → ¬ IsServedSide recorded serve side

-- a side whose base version is of another moment than the words say
abbrev pub NotAnotherBase : Type 0
NotAnotherBase = (recorded : List File) (serve : Serve) (side : Side) → side.base_moment ≢ serve.published.publishing.base_moment → ¬ IsServedSide recorded serve side
