-- Two runs of one drill print one output.
use Rattle.std.proofs.Common.{◌≡◌, ◌∙◌, ◌+◌, ◌-◌, ◌++◌, ◌∷◌, ℕ, Bool, List, [], codes, cond, fold, map, zip, ap, length, refl, subst, sym}
use Rattle.std.specs.List.{AllZip}
use Rattle.cli_ask.proofs.AdmissionLemmas.{HaveHeardOne}
use Rattle.cli_ask.specs.Laws.{AreOneEnd}
use Rattle.cli_ask.specs.Publishing.{store_of}
use Rattle.cli_ask.specs.declared.end.ClientEnd.{ClientEnd}
use Rattle.cli_drill.specs.Files.{drill_files}
use Rattle.cli_replay.specs.Summary.{arrivals_line_of, exchanges_line_of, found_line_of, has_found, has_none, leaves_in, seconds_of, summary_of, updates_line_of, arrivals_of, exchanges_of, found_in, none_in}
use Rattle.cli_words.specs.Laws.{OneCommand}
use Rattle.cli_words.specs.Drill.{drilled_words}
use Rattle.cli_words.specs.declared.command.Command.{Command}
use Rattle.cli_words.specs.declared.command.Command.TheVariants as commands
use Rattle.cli_words.specs.declared.command.Drill.{Drill}
use Rattle.cli_words.specs.declared.command.Replay.{Replay}
use Rattle.cli_replay.proofs.ReplayLawsLemmas.OneHeardLemmas.{one_course_heard}
use Rattle.cli_replay.specs.ReplayLaws.Events.{messages_in}
use Rattle.cli_replay.specs.ReplayLaws.OneCourse.{IsPlayedOut, OneCourse}
use Rattle.cli_replay.specs.declared.replay_laws.event.Event.{Event}
use Rattle.convoy.specs.Replies.Laws.{SayTheSame}
use Rattle.lc_model.specs.Versions.History.{Entry}
use Rattle.lc_model.specs.declared.doc.StopsDoc.{StopsDoc}
use Rattle.lc_model.specs.declared.journey.Journey.{Journey}
use Rattle.lc_io.specs.SureFolder.{SureFolderState}
use Rattle.lc_world.specs.Link.{LinkSeen}
use Rattle.page_client.specs.declared.outcome.Outcome.{Outcome}
use Rattle.page_client.specs.declared.outcome.Outcome.TheVariants as outcomes
use Rattle.journey_text.specs.ScriptLaws.{OneScript}
use Rattle.timetable.specs.Laws.{AreSame, LoadsRecorded, OneTimetable}
use Rattle.timetable.specs.declared.timetable.Timetable.{Timetable}
use Rattle.version_store.specs.Laws.{OneOutcome}
use Rattle.lc_cli.specs.Clear.{HasFairCourse, IsRecordedCourse}
use Rattle.lc_cli.specs.Scope.{scope_of}
use Rattle.lc_cli.specs.Replay.{IsPlayedBy}
use Rattle.lc_cli.specs.declared.block.Block.{Block}
use Rattle.lc_cli.specs.Drill.{IsDrillBlock, IsDrilled, IsSummary, drill_folder, drill_line_of, size_line_of, sure_seen}
use Rattle.lc_cli.specs.HeadlineOfDrill.{DrilledEachBest}
use Rattle.lc_cli.specs.Top.{Past}
use Rattle.lc_cli.proofs.OneReplayLemmas.{no_link_faults, one_recorded_course, turns_recorded}
use Rattle.lc_cli.proofs.ReplayLemmas.{course_fine, course_recorded}

found_alike : (a b : Outcome) → SayTheSame a b → has_found a ≡ has_found b
found_alike (outcomes.Found i) (outcomes.Found j) e = refl
found_alike outcomes.NoJourney outcomes.NoJourney e = refl
found_alike (outcomes.Refused f) (outcomes.Refused g) e = refl
found_alike (outcomes.LinkFault k l) (outcomes.LinkFault m n) e = refl
found_alike (outcomes.PeerWrong q f) (outcomes.PeerWrong r g) e = refl
found_alike a b e = absurd e

none_alike : (a b : Outcome) → SayTheSame a b → has_none a ≡ has_none b
none_alike (outcomes.Found i) (outcomes.Found j) e = refl
none_alike outcomes.NoJourney outcomes.NoJourney e = refl
none_alike (outcomes.Refused f) (outcomes.Refused g) e = refl
none_alike (outcomes.LinkFault k l) (outcomes.LinkFault m n) e = refl
none_alike (outcomes.PeerWrong q f) (outcomes.PeerWrong r g) e = refl
none_alike a b e = absurd e

seconds_alike : (leave : ℕ) (a b : Outcome) → SayTheSame a b → seconds_of leave a ≡ seconds_of leave b
seconds_alike leave (outcomes.Found i) (outcomes.Found j) e = λ k. e k - leave
seconds_alike leave outcomes.NoJourney outcomes.NoJourney e = refl
seconds_alike leave (outcomes.Refused f) (outcomes.Refused g) e = refl
seconds_alike leave (outcomes.LinkFault k l) (outcomes.LinkFault m n) e = refl
seconds_alike leave (outcomes.PeerWrong q f) (outcomes.PeerWrong r g) e = refl
seconds_alike leave a b e = absurd e

fold_alike : (f : ClientEnd → ℕ) → ((x y : ClientEnd) → AreOneEnd x y → f x ≡ f y) → (n m : ℕ) → n ≡ m → (xs ys : List ClientEnd) → AllZip AreOneEnd xs ys
    → fold (λ (a : ℕ) (x : ClientEnd). a + f x) n xs ≡ fold (λ (a : ℕ) (x : ClientEnd). a + f x) m ys
fold_alike f same n m e [] [] z = e
fold_alike f same n m e [] (y ∷ ys) z = absurd z
fold_alike f same n m e (x ∷ xs) [] z = absurd z
fold_alike f same n m e (x ∷ xs) (y ∷ ys) z = fold_alike f same (n + f x) (m + f y) (λ i. e i + same x y z.0 i) xs ys z.1

exchanges_alike : (xs ys : List ClientEnd) → AllZip AreOneEnd xs ys → map (λ (end : ClientEnd). end.exchanges) xs ≡ map (λ (end : ClientEnd). end.exchanges) ys
exchanges_alike [] [] z = refl
exchanges_alike [] (y ∷ ys) z = absurd z
exchanges_alike (x ∷ xs) [] z = absurd z
exchanges_alike (x ∷ xs) (y ∷ ys) z = let one = z.0 in λ i. one.exchanges i ∷ exchanges_alike xs ys z.1 i

arrivals_alike : (leaves : List ℕ) (xs ys : List ClientEnd) → AllZip AreOneEnd xs ys
    → map (λ (client : ℕ × ClientEnd). seconds_of client.0 client.1.outcome) (zip leaves xs) ≡ map (λ (client : ℕ × ClientEnd). seconds_of client.0 client.1.outcome) (zip leaves ys)
arrivals_alike [] xs ys z = refl
arrivals_alike (l ∷ ls) [] [] z = refl
arrivals_alike (l ∷ ls) [] (y ∷ ys) z = absurd z
arrivals_alike (l ∷ ls) (x ∷ xs) [] z = absurd z
arrivals_alike (l ∷ ls) (x ∷ xs) (y ∷ ys) z = let one = z.0 in λ i. seconds_alike l x.outcome y.outcome one.outcome i ∷ arrivals_alike ls xs ys z.1 i

-- the four lines of ends that are one are one
pub one_sums : (admitted messages : ℕ) (leaves : List ℕ) (xs ys : List ClientEnd) → AllZip AreOneEnd xs ys → summary_of admitted messages leaves xs ≡ summary_of admitted messages leaves ys
one_sums admitted messages leaves xs ys z =
    let found : found_in xs ≡ found_in ys = fold_alike (λ (x : ClientEnd). cond (has_found x.outcome) 1 0) (λ x y one. λ i. cond (found_alike x.outcome y.outcome one.outcome i) 1 0) 0 0 refl xs ys z in
    let none : none_in xs ≡ none_in ys = fold_alike (λ (x : ClientEnd). cond (has_none x.outcome) 1 0) (λ x y one. λ i. cond (none_alike x.outcome y.outcome one.outcome i) 1 0) 0 0 refl xs ys z in
    let arrivals : arrivals_of leaves xs ≡ arrivals_of leaves ys = ap (λ (l : List ℕ). fold (λ (a x : ℕ). a + x) 0 l) (arrivals_alike leaves xs ys z) in
    let exchanges : exchanges_of xs ≡ exchanges_of ys = ap (λ (l : List ℕ). fold (λ (a x : ℕ). a + x) 0 l) (exchanges_alike xs ys z) in
    λ i. updates_line_of admitted (messages - admitted) ++ found_line_of (found i) (none i) ++ arrivals_line_of (arrivals i) ++ exchanges_line_of (exchanges i)

same_size : (seed : ℕ) (a b : Timetable) → AreSame a b → drill_line_of seed a ≡ drill_line_of seed b
same_size seed a b same =
    let stops : length a.doc.stops ≡ length b.doc.stops = ap (λ (d : StopsDoc). length d.stops) same.doc in
    λ i. size_line_of seed (stops i) (same.trips i + same.left_out i) (same.connections i)

-- the event sequence of a drill was played to its end, and summed
pub record IsSummedOut (drill : Drill) (ends : List ClientEnd) (summary : List ℕ) : Type 0 where
  pub replay : Replay
  pub drilled : IsDrilled drill replay
  pub made : Timetable
  pub all : List Event
  pub recorded : IsRecordedCourse (drill_files drill.seed drill.days) replay made all
  pub lines : List ℕ
  pub played : IsPlayedOut made replay.publishing all replay.cache lines ends
  pub is_summary : IsSummary drill.seed made replay.publishing all ends summary

-- one summary, of ends that are one
pub record AreSummedAlike (ends others : List ClientEnd) (summary other : List ℕ) : Type 0 where
  pub text : summary ≡ other
  pub one_each : AllZip AreOneEnd ends others

module _ (one_command : OneCommand) (one_timetable : OneTimetable) (one_script : OneScript) (one_course : OneCourse) (one_outcome : OneOutcome) where
  pub summed_alike : (drill : Drill) (ends others : List ClientEnd) (summary other : List ℕ) → IsSummedOut drill ends summary → IsSummedOut drill others other → AreSummedAlike ends others summary other
  summed_alike drill ends others summary other a b =
      let files = drill_files drill.seed drill.days in
      let as_commands : commands.Replay b.replay ≡ commands.Replay a.replay = one_command (codes "replay" ∷ drilled_words drill.days) (commands.Replay b.replay) (commands.Replay a.replay) b.drilled a.drilled in
      let replay : b.replay ≡ a.replay = cc in
      let other_course = subst (λ (r : Replay). IsRecordedCourse files r b.made b.all) replay b.recorded in
      let other_played = subst (λ (r : Replay). IsPlayedOut b.made r.publishing b.all r.cache b.lines others) replay b.played in
      let other_summary = subst (λ (r : Replay). IsSummary drill.seed b.made r.publishing b.all others other) replay b.is_summary in
      let all : b.all ≡ a.all = one_recorded_course one_script files a.replay b.made a.made b.all a.all other_course a.recorded in
      let made = one_timetable files (scope_of a.replay.window) a.made b.made a.recorded.sound other_course.sound in
      let publishing = a.replay.publishing in
      let one = one_course a.made b.made publishing a.all a.replay.cache a.lines b.lines ends others made (turns_recorded files a.replay a.made a.all a.recorded) a.played
      (subst (λ (l : List Event). IsPlayedOut b.made publishing l a.replay.cache b.lines others) all other_played) in
      let sums = subst (λ (l : List Event). IsSummary drill.seed b.made publishing l others other) all other_summary in
      let start : HaveHeardOne (store_of a.made publishing.base_moment) (store_of b.made publishing.base_moment) = record { base = refl; history = refl } in
      let heard = a.is_summary.have_admitted in
      let other_heard = sums.have_admitted in
      let stores = one_course_heard one_outcome a.all (store_of a.made publishing.base_moment) heard.store (store_of b.made publishing.base_moment) other_heard.store heard.lines other_heard.lines start heard.heard
      other_heard.heard in
      let admitted : a.is_summary.admitted ≡ sums.admitted = heard.is ∙ ap (λ (h : List Entry). length h) stores.heard.history ∙ sym other_heard.is in
      record {
        text =
            a.is_summary.is
            ∙ ap (λ (l : List ℕ). l ++ summary_of a.is_summary.admitted (messages_in a.all) (leaves_in a.all) ends) (same_size drill.seed a.made b.made made)
            ∙ ap (λ (n : ℕ). drill_line_of drill.seed b.made ++ summary_of n (messages_in a.all) (leaves_in a.all) ends) admitted
            ∙ ap (λ (l : List ℕ). drill_line_of drill.seed b.made ++ l) (one_sums sums.admitted (messages_in a.all) (leaves_in a.all) ends others one.one_each)
            ∙ sym sums.is;
        one_each = one.one_each;
      }

  -- two runs that are done wrote one summary
  pub one_drill : {X Y : Type 0} (p : Past X) (q : Past Y) (drill : Drill) (a : DrilledEachBest p drill) (b : DrilledEachBest q drill) → a.summary ≡ b.summary
  one_drill p q drill a b =
      let alike = summed_alike drill a.ends b.ends a.summary b.summary
      (record { replay = a.replay; drilled = a.drilled; made = a.made; all = a.all; recorded = a.recorded; lines = a.lines; played = a.played; is_summary = a.is_summary })
      (record { replay = b.replay; drilled = b.drilled; made = b.made; all = b.all; recorded = b.recorded; lines = b.lines; played = b.played; is_summary = b.is_summary }) in
      alike.text

module _ (loads_recorded : LoadsRecorded) (drill : Drill) where
  -- over a fair link a drill is played to its end
  pub summed_out : (before after : LinkSeen) (block : Block) (x : IsDrillBlock drill before after block)
      → HasFairCourse (drill_files drill.seed drill.days) x.replay before.clear before.faults after.faults → IsSummedOut drill block.ends.items block.text.items
  summed_out before after block x fair =
      let files = drill_files drill.seed drill.days in
      let y = x.played in
      let course = course_recorded loads_recorded files x.replay (sure_seen (drill_folder drill)) (sure_seen x.read) y.made y.all refl y.inputs in
      record {
        replay = x.replay;
        drilled = x.drilled;
        made = y.made;
        all = y.all;
        recorded = course;
        lines = y.replayed.lines;
        played = record {
          recorded = before.recorded;
          now_recorded = after.recorded;
          faults = before.faults;
          now_faults = after.faults;
          met = y.replayed.caused.met;
          right = y.replayed.right fair.link.was_clear (fair.short y.made y.all course);
          one_each = y.replayed.one_each;
          no_fault = no_link_faults block.ends.items
              (course_fine loads_recorded files x.replay (sure_seen (drill_folder drill)) (sure_seen x.read) before after x.text block.ends.items y refl fair);
        };
        is_summary = x.summary;
      }
