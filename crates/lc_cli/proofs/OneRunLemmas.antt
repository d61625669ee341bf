-- Two runs of one command over the same files print one output.
use Rattle.std.proofs.Common.{◌≡◌, ◌∙◌, ◌+◌, ◌++◌, ℕ, List, codes, length, None, Some, Option, ap, refl, subst, sym}
use Rattle.cli_ask.specs.LatestDeparture.Laws.{OneLatestOutput, PrintOneLatest}
use Rattle.cli_ask.specs.Laws.{IsFair, OneOutput, PrintOneClient}
use Rattle.cli_ask.specs.Publishing.{side_with}
use Rattle.cli_ask.specs.declared.end.ClientEnd.{ClientEnd}
use Rattle.cli_ask.specs.FewestRides.Laws.{OneFewestOutput, PrintOneFewest}
use Rattle.cli_words.specs.Laws.{OneCommand}
use Rattle.cli_words.specs.Words.{SaysCommand}
use Rattle.cli_words.specs.declared.command.Command.{Command}
use Rattle.cli_words.specs.declared.command.Publishing.{Publishing}
use Rattle.cli_words.specs.declared.command.Command.TheVariants as commands
use Rattle.lc_io.specs.Folder.{FolderSeen}
use Rattle.lc_io.specs.declared.file.File.{File}
use Rattle.lc_model.specs.declared.doc.StopsDoc.{StopsDoc}
use Rattle.lc_model.specs.declared.run.Run.{Run}
use Rattle.lc_world.specs.Link.{LinkSeen}
use Rattle.cli_replay.specs.ReplayLaws.OneCourse.{OneCourse}
use Rattle.journey_text.specs.ScriptLaws.{OneScript}
use Rattle.timetable.specs.Laws.{AreSame, LoadsRecorded, OneTimetable}
use Rattle.timetable.specs.declared.timetable.Timetable.{Timetable}
use Rattle.version_store.specs.Laws.{OneOutcome}
use Rattle.lc_cli.specs.CheckText.{check_text_of, count_line_of}
use Rattle.lc_cli.specs.Clear.{HasFairLink, IsRecordedFile}
use Rattle.lc_cli.specs.Command.{IsQuestionBlock, Prints}
use Rattle.lc_cli.specs.Scope.{scope_of}
use Rattle.lc_cli.specs.Laws.{OneRun, PrintOne}
use Rattle.lc_cli.specs.Question.{IsAskedSo}
use Rattle.lc_cli.specs.declared.block.Block.{Block}
use Rattle.lc_cli.specs.declared.question.Asking.{Asking}
use Rattle.lc_cli.specs.declared.question.Asking.TheVariants as askings
use Rattle.lc_cli.proofs.InputsLemmas.{inputs_recorded}
use Rattle.lc_cli.proofs.OneDrillLemmas.{summed_alike, summed_out}
use Rattle.lc_cli.proofs.OneReplayLemmas.{one_replay}
use Rattle.cli_words.specs.declared.command.Published.{Published}
use Rattle.lc_cli.proofs.TopLemmas.{side_asked_with}

-- the counts of timetables that are the same
same_counts : (a b : Timetable) → AreSame a b → check_text_of a ≡ check_text_of b
same_counts a b same =
    let stops : length a.doc.stops ≡ length b.doc.stops = ap (λ (d : StopsDoc). length d.stops) same.doc in
    let changes : length a.doc.changes ≡ length b.doc.changes = ap (λ (d : StopsDoc). length d.changes) same.doc in
    let runs : length a.runs ≡ length b.runs = ap (λ (r : List Run). length r) same.runs in
    λ i.
    count_line_of (codes "stops") (stops i) ++ count_line_of (codes "trips") (same.trips i + same.left_out i) ++ count_line_of (codes "left out") (same.left_out i)
    ++ count_line_of (codes "runs") (runs i) ++ count_line_of (codes "connections") (same.connections i) ++ count_line_of (codes "changes") (changes i) ++ codes "ok\n"

-- the recorded file of a name is one
pub one_file : (recorded : List File) (update : Option (List ℕ)) (a b : Option File) → IsRecordedFile recorded update a → IsRecordedFile recorded update b → a ≡ b
one_file recorded None None None x y = refl
one_file recorded None None (Some b) x y = absurd y
one_file recorded None (Some a) b x y = absurd x
one_file recorded (Some name) None b x y = absurd x
one_file recorded (Some name) (Some a) None x y = absurd y
one_file recorded (Some name) (Some a) (Some b) x y =
    let bytes : Some a.bytes ≡ Some b.bytes = sym x.1 ∙ y.1 in
    let same : a.bytes ≡ b.bytes = cc in
    let file = λ (n c : List ℕ). let f : Option File = Some (record { name = n; bytes = c }) in f in
    λ i. file ((x.0 ∙ sym y.0) i) (same i)

-- what was loaded and read for questions over the same files
module _ (one_timetable : OneTimetable) (loads_recorded : LoadsRecorded) (recorded : List File) (published : Published) (asking : Asking) where
  -- timetables that were loaded over the same files are the same
  same_timetables : (old new other later : FolderSeen) (before after from to : LinkSeen) (x y : Block) (a : IsQuestionBlock published asking old new before after x)
      (b : IsQuestionBlock published asking other later from to y) → old.files ≡ Some recorded → other.files ≡ Some recorded → AreSame a.made b.made
  same_timetables old new other later before after from to x y a b tells tell =
      one_timetable recorded (scope_of published.window) a.made b.made (loads_recorded recorded (scope_of published.window) old a.inputs.between a.made tells a.inputs.loaded)
      (loads_recorded recorded (scope_of published.window) other b.inputs.between b.made tell b.inputs.loaded)

  -- and so are the files of their messages
  same_files : (old new other later : FolderSeen) (before after from to : LinkSeen) (x y : Block) (a : IsQuestionBlock published asking old new before after x)
      (b : IsQuestionBlock published asking other later from to y) → old.files ≡ Some recorded → other.files ≡ Some recorded → b.file ≡ a.file
  same_files old new other later before after from to x y a b tells tell =
      one_file recorded published.update b.file a.file (inputs_recorded recorded (scope_of published.window) published.update other later b.made b.file tell b.inputs)
      (inputs_recorded recorded (scope_of published.window) published.update old new a.made a.file tells a.inputs)

  -- a fair link is one for what was asked
  fair_asked : (old new : FolderSeen) (before after : LinkSeen) (block : Block) (x : IsQuestionBlock published asking old new before after block) → old.files ≡ Some recorded
      → HasFairLink recorded published before.clear before.faults after.faults
      → IsFair x.made published.publishing x.file before.clear before.faults after.faults
  fair_asked old new before after block x tells fair = record {
    was_clear = fair.link.was_clear;
    no_fault = fair.link.no_fault;
    short = λ store line behind.
        fair.short (side_with x.made published.publishing store)
        (side_asked_with loads_recorded recorded published asking old new before after block x tells store line behind);
  }

-- the texts of two askings print one client, in the words of the question
abbrev pub PrintOneSo : Asking → List ℕ → List ℕ → ClientEnd → ClientEnd → Type 0
PrintOneSo (askings.Earliest query cache) x y d e = PrintOneClient x y d e
PrintOneSo (askings.Fewest query) x y d e = PrintOneFewest x y d e
PrintOneSo (askings.Latest query) x y d e = PrintOneLatest x y d e

module _ {X Y : Type 0} (seen : X → LinkSeen) (saw : Y → LinkSeen) (one_timetable : OneTimetable) (loads_recorded : LoadsRecorded) (one_output : OneOutput seen saw)
    (one_fewest_output : OneFewestOutput seen saw) (one_latest_output : OneLatestOutput seen saw) where
  -- what is printed of one asking of publishers that are the same is one
  one_asking : (asking : Asking) (m n : Timetable) (publishing : Publishing) (file : Option File) (before after : X) (from to : Y) (x y : List ℕ) (d e : ClientEnd) → AreSame m n
      → IsFair m publishing file (seen before).clear (seen before).faults (seen after).faults → IsFair n publishing file (saw from).clear (saw from).faults (saw to).faults
      → IsAskedSo asking m publishing file (seen before) (seen after) x d → IsAskedSo asking n publishing file (saw from) (saw to) y e → PrintOneSo asking x y d e
  one_asking (askings.Earliest query cache) m n publishing file before after from to x y d e same fair other_fair a b =
      one_output m n publishing file query before after from to x y d e same fair other_fair a b
  one_asking (askings.Fewest query) m n publishing file before after from to x y d e same fair other_fair a b =
      one_fewest_output m n publishing file query before after from to x y d e same fair other_fair a b
  one_asking (askings.Latest query) m n publishing file before after from to x y d e same fair other_fair a b =
      one_latest_output m n publishing file query before after from to x y d e same fair other_fair a b

  -- what is printed of one question over the same files is one
  pub one_client : (recorded : List File) (published : Published) (asking : Asking) (old new other later : FolderSeen) (before after : X) (from to : Y) (x y : Block)
      (a : IsQuestionBlock published asking old new (seen before) (seen after) x) (b : IsQuestionBlock published asking other later (saw from) (saw to) y) → old.files ≡ Some recorded → other.files ≡ Some recorded
      → HasFairLink recorded published (seen before).clear (seen before).faults (seen after).faults
      → HasFairLink recorded published (saw from).clear (saw from).faults (saw to).faults
      → PrintOneSo asking x.text.items y.text.items a.end b.end
  one_client recorded published asking old new other later before after from to x y a b tells tell fair other_fair =
      let file : b.file ≡ a.file = same_files one_timetable loads_recorded recorded published asking old new other later (seen before) (seen after) (saw from) (saw to) x y a b tells tell in
      one_asking asking a.made b.made published.publishing a.file before after from to x.text.items y.text.items a.end b.end
      (same_timetables one_timetable loads_recorded recorded published asking old new other later (seen before) (seen after) (saw from) (saw to) x y a b tells tell)
      (fair_asked one_timetable loads_recorded recorded published asking old new (seen before) (seen after) x a tells fair)
      (subst (λ f. IsFair b.made published.publishing f (saw from).clear (saw from).faults (saw to).faults) file
      (fair_asked one_timetable loads_recorded recorded published asking other later (saw from) (saw to) y b tell other_fair)) a.asked
      (subst (λ f. IsAskedSo asking b.made published.publishing f (saw from) (saw to) y.text.items b.end) file b.asked)

  module _ (one_command : OneCommand) (one_script : OneScript) (one_course : OneCourse) (one_outcome : OneOutcome) where
    -- runs over these arguments and files that print something print one output
    pub one_run : OneRun seen saw
    one_run p q recorded words home at to s t x y = by x.right.command x.right.says x.right.prints other where
      same : y.right.command ≡ x.right.command
      same = one_command p.words y.right.command x.right.command (subst (λ w. SaysCommand w y.right.command) (sym words) y.right.says) x.right.says

      other : Prints x.right.command q.folder_before q.folder_after (saw q.link_before) (saw q.link_after) y.block
      other = subst (λ (c : Command). Prints c q.folder_before q.folder_after (saw q.link_before) (saw q.link_after) y.block) same y.right.prints

      by : (command : Command) → SaysCommand p.words command → Prints command p.folder_before p.folder_after (seen p.link_before) (seen p.link_after) x.block
          → Prints command q.folder_before q.folder_after (saw q.link_before) (saw q.link_after) y.block → PrintOne command x.block y.block
      by (commands.Check check) says a b =
          let made = one_timetable recorded (scope_of check.window) a.made b.made (loads_recorded recorded (scope_of check.window) p.folder_before p.folder_after a.made at.tells a.loaded)
          (loads_recorded recorded (scope_of check.window) q.folder_before q.folder_after b.made to.tells b.loaded) in
          a.text ∙ same_counts a.made b.made made ∙ sym b.text
      by (commands.Replay replay) says a b =
          one_replay loads_recorded one_timetable one_script one_course recorded replay p.folder_before p.folder_after q.folder_before q.folder_after (seen p.link_before) (seen p.link_after)
          (saw q.link_before) (saw q.link_after) x.block y.block a b at.tells to.tells (at.fair_course replay says)
          (to.fair_course replay (subst (λ w. SaysCommand w (commands.Replay replay)) words says))
      by (commands.Serve serve) says a b = absurd a
      by (commands.Plan plan) says a b = absurd (home (commands.Plan plan) says)
      by (commands.Relay relay) says a b = absurd (home (commands.Relay relay) says)
      by (commands.Drill drill) says a b =
          let x = a.1 in
          let y = b.1 in
          let fair = at.fair_drill drill says x.replay x.drilled in
          let other_fair = to.fair_drill drill (subst (λ w. SaysCommand w (commands.Drill drill)) words says) y.replay y.drilled in
          let alike = summed_alike one_command one_timetable one_script one_course one_outcome drill _ _ _ _ (summed_out loads_recorded drill _ _ _ x fair) (summed_out loads_recorded drill _ _ _ y other_fair) in
          alike.text
      by (commands.Ask ask) says a b =
          let fair = at.fair ask says in
          let other_fair = to.fair ask (subst (λ w. SaysCommand w (commands.Ask ask)) words says) in (
            a.end,
            b.end,
            one_client recorded ask.published (askings.Earliest ask.query ask.cache) p.folder_before p.folder_after q.folder_before q.folder_after p.link_before p.link_after q.link_before q.link_after x.block y.block a b at.tells to.tells fair
                other_fair,
          )
      by (commands.Fewest fewest) says a b =
          let fair = at.fair_fewest fewest says in
          let other_fair = to.fair_fewest fewest (subst (λ w. SaysCommand w (commands.Fewest fewest)) words says) in (
            a.end,
            b.end,
            one_client recorded fewest.published (askings.Fewest fewest.query) p.folder_before p.folder_after q.folder_before q.folder_after p.link_before p.link_after q.link_before q.link_after x.block y.block a b at.tells to.tells fair
                other_fair,
          )
      by (commands.Arrive arrive) says a b =
          let fair = at.fair_arrive arrive says in
          let other_fair = to.fair_arrive arrive (subst (λ w. SaysCommand w (commands.Arrive arrive)) words says) in (
            a.end,
            b.end,
            one_client recorded arrive.published (askings.Latest arrive.query) p.folder_before p.folder_after q.folder_before q.folder_after p.link_before p.link_after q.link_before q.link_after x.block y.block a b at.tells to.tells fair
                other_fair,
          )
