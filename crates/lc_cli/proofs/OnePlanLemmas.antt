-- Two runs of `plan` over the same files print one output.
use Rattle.std.proofs.Common.{◌≡◌, ◌+◌, ◌∷◌, ℕ, false, List, [], Some, arith, length, subst}
use Rattle.std.specs.List.{AllZip}
use Rattle.cli_ask.specs.Laws.{AreOneEnd}
use Rattle.cli_replay.specs.Inputs.Plan.{SayEvents, SaysEvent, ReadsPlan}
use Rattle.cli_words.specs.Laws.{OneCommand}
use Rattle.cli_words.specs.Words.{SaysCommand}
use Rattle.cli_words.specs.declared.command.Command.{Command}
use Rattle.cli_words.specs.declared.command.Command.TheVariants as commands
use Rattle.cli_words.specs.declared.command.Plan.{Plan}
use Rattle.cli_ask.specs.declared.end.ClientEnd.{ClientEnd}
use Rattle.connection_uri.specs.Base.{BaseParts}
use Rattle.cli_replay.specs.PlanLaws.OneGrowing.{IsGrowingPlan, NameTheSame, OneGrowingPlan}
use Rattle.cli_replay.specs.PlanLaws.OnePlan.{IsQuietPlan, OnePlan}
use Rattle.cli_replay.specs.PlanLaws.Planned.{ArePlanned, IsPlanned}
use Rattle.cli_replay.specs.ReplayLaws.Events.{TurnsAreOfClients, questions_in}
use Rattle.cli_replay.specs.declared.replay_laws.event.Event.{Event}
use Rattle.cli_replay.specs.declared.replay_laws.event.Event.TheVariants as events
use Rattle.lc_io.specs.Counts.{Rose}
use Rattle.lc_io.specs.Folder.{FolderSeen}
use Rattle.lc_io.specs.declared.file.File.{File}
use Rattle.lc_world.specs.Sides.Side.{IsLater, IsValidSide, Side}
use Rattle.lc_world.specs.Link.{LinkSeen}
use Rattle.journey_text.specs.ScriptLaws.{OneScript}
use Rattle.journey_text.specs.Script.{IsClient}
use Rattle.journey_text.specs.declared.script.Record.{Record}
use Rattle.journey_text.specs.declared.script.Record.TheVariants as records
use Rattle.lc_cli.specs.Clear.{AreRecordedAsks, AreRecordedEvents, IsRecordedEvent}
use Rattle.lc_cli.specs.Command.{IsPlanBlock, Prints}
use Rattle.lc_cli.specs.OnePlan.{OneNamedPlan, OneQuietPlan, PlanTheSame, PrintOnePlan}
use Rattle.lc_cli.specs.Top.{HasPrinted, Past}
use Rattle.lc_cli.specs.declared.block.Block.{Block}
use Rattle.lc_cli.specs.declared.status.Status.{Status}
use Rattle.lc_cli.proofs.OneReplayLemmas.{no_link_faults, one_list_of_events, one_recorded_script, turn_at}
use Rattle.lc_cli.proofs.PlanLemmas.{asks_recorded, planned_fine}

-- what a record without a message says is an event by the recorded files, whichever these are
said_recorded : (recorded : List File) (said : Record) (event : Event) → SaysEvent said event → IsRecordedEvent recorded said event
said_recorded recorded (records.Ask query) (events.Ask asked) is = is
said_recorded recorded (records.Ask query) (events.Message message) is = absurd is
said_recorded recorded (records.Ask query) (events.Turn client) is = absurd is
said_recorded recorded (records.Update name) (events.Ask asked) is = absurd is
said_recorded recorded (records.Update name) (events.Message message) is = absurd is
said_recorded recorded (records.Update name) (events.Turn client) is = absurd is
said_recorded recorded (records.Turn client) (events.Ask asked) is = absurd is
said_recorded recorded (records.Turn client) (events.Message message) is = absurd is
said_recorded recorded (records.Turn client) (events.Turn turned) is = is

all_recorded : (recorded : List File) (script : List Record) (all : List Event) → SayEvents script all → AreRecordedEvents recorded script all
all_recorded recorded [] [] say = tt
all_recorded recorded [] (event ∷ all) say = absurd say
all_recorded recorded (said ∷ script) [] say = absurd say
all_recorded recorded (said ∷ script) (event ∷ all) say = (said_recorded recorded said event say.0, all_recorded recorded script all say.1)

-- recorded files say one list of questions and turns
one_list_of_asks : OneScript → (recorded : List File) (name : List ℕ) (a b : List Event) → AreRecordedAsks recorded name a → AreRecordedAsks recorded name b → a ≡ b
one_list_of_asks one_script recorded name a b x y =
    let script : x.script ≡ y.script = one_recorded_script one_script recorded name false x.script y.script x.is_recorded y.is_recorded in
    one_list_of_events recorded y.script a b (subst (λ (s : List Record). AreRecordedEvents recorded s a) script (all_recorded recorded x.script a x.say)) (all_recorded recorded y.script b y.say)

-- their turns are of clients
turns_asked : (recorded : List File) (name : List ℕ) (all : List Event) → AreRecordedAsks recorded name all → TurnsAreOfClients all
turns_asked recorded name all asks before behind client is =
    let none : 0 + length (questions_in before) ≡ length (questions_in before) = omega arith in
    subst (λ (n : ℕ). IsClient n client) none
    (turn_at false recorded 0 asks.is_recorded.says.rows asks.script before behind client asks.is_recorded.says.say
    (subst (AreRecordedEvents recorded asks.script) is (all_recorded recorded asks.script all asks.say)))

-- two runs read one list, whose turns are of clients
pub record ReadOneList (a b : List Event) : Type 0 where
  pub one_list : b ≡ a
  pub turns : TurnsAreOfClients a

pub read_one_list : OneScript → (recorded : List File) (name : List ℕ) (old new other later : FolderSeen) (a b : List Event) → old.files ≡ Some recorded → other.files ≡ Some recorded
    → ReadsPlan name old new a → ReadsPlan name other later b → ReadOneList a b
read_one_list one_script recorded name old new other later a b tells tell x y =
    let asks = asks_recorded recorded name old new a tells x in
    let others = asks_recorded recorded name other later b tell y in
    record { one_list = one_list_of_asks one_script recorded name b a others asks; turns = turns_asked recorded name a asks }

-- what clients ended with that planned rightly, with no exchange that failed
pub record PlannedFine (base : BaseParts) (first : Side) (all : List Event) (cache : ℕ) (before after : LinkSeen) (ends : List ClientEnd) : Type 0 where
  pub text : List ℕ
  pub is : IsPlanned base all cache before after text ends
  pub right : ArePlanned base first all cache before after ends is.caused.met
  pub no_fault : Rose before.faults after.faults → ⊥

-- The clients of two such plans over one list have one end each. X and Y are the types of the links, or of relays over them.
module _ {X Y : Type 0} (seen : X → LinkSeen) (saw : Y → LinkSeen) (base : BaseParts) (cache : ℕ) (before after : X) (other later : Y) (a b : List Event) (list : ReadOneList a b)
    (ends other_ends : List ClientEnd) where
  pub one_quiet : OnePlan seen saw → (side : Side) → (seen before).quiet base → (saw other).quiet base → PlannedFine base side a cache (seen before) (seen after) ends
      → PlannedFine base side b cache (saw other) (saw later) other_ends → AllZip AreOneEnd ends other_ends
  one_quiet one_plan side quiet other_quiet x y =
      let first : IsQuietPlan base side a cache (seen before) (seen after) ends x.is.caused.met = record {
        quiet = quiet;
        planned = x.right;
        one_each = x.is.one_each;
        no_fault = no_link_faults ends (planned_fine base side a cache (seen before) (seen after) x.text ends x.is x.right x.no_fault);
      } in
      let second : IsQuietPlan base side b cache (saw other) (saw later) other_ends y.is.caused.met = record {
        quiet = other_quiet;
        planned = y.right;
        one_each = y.is.one_each;
        no_fault = no_link_faults other_ends (planned_fine base side b cache (saw other) (saw later) y.text other_ends y.is y.right y.no_fault);
      } in
      one_plan base side a cache before after other later ends other_ends x.is.caused.met y.is.caused.met list.turns first
      (subst (λ (l : List Event). IsQuietPlan base side l cache (saw other) (saw later) other_ends y.is.caused.met) list.one_list second)

  pub one_named : OneGrowingPlan seen saw → (first last second end whole : Side) → (seen after).side ≡ Some last → (saw later).side ≡ Some end → IsValidSide whole → IsLater last whole
      → IsLater end whole → PlannedFine base first a cache (seen before) (seen after) ends → PlannedFine base second b cache (saw other) (saw later) other_ends → NameTheSame ends other_ends
      → AllZip AreOneEnd ends other_ends
  one_named one_plan first last second end whole last_is end_is valid grew other_grew x y named =
      let one : IsGrowingPlan base first last a cache (seen before) (seen after) ends x.is.caused.met = record {
        planned = x.right;
        last_is = last_is;
        one_each = x.is.one_each;
        no_fault = no_link_faults ends (planned_fine base first a cache (seen before) (seen after) x.text ends x.is x.right x.no_fault);
      } in
      let two : IsGrowingPlan base second end b cache (saw other) (saw later) other_ends y.is.caused.met = record {
        planned = y.right;
        last_is = end_is;
        one_each = y.is.one_each;
        no_fault = no_link_faults other_ends (planned_fine base second b cache (saw other) (saw later) y.text other_ends y.is y.right y.no_fault);
      } in
      one_plan base first last second end whole a cache before after other later ends other_ends x.is.caused.met y.is.caused.met list.turns valid grew other_grew one
      (subst (λ (l : List Event). IsGrowingPlan base second end l cache (saw other) (saw later) other_ends y.is.caused.met) list.one_list two) named

-- what a run of these words printed
pub block_said : OneCommand → {X : Type 0} (seen : X → LinkSeen) (p : Past X) (command : Command) (status : Status) (x : HasPrinted seen p status) → SaysCommand p.words command
    → Prints command p.folder_before p.folder_after (seen p.link_before) (seen p.link_after) x.block
block_said one_command seen p command status x says =
    subst (λ (c : Command). Prints c p.folder_before p.folder_after (seen p.link_before) (seen p.link_after) x.block) (one_command p.words x.right.command command x.right.says says) x.right.prints

-- the words of the other run say the command too
pub says_too : {X Y : Type 0} (p : Past X) (q : Past Y) (command : Command) (recorded : List File) → PlanTheSame p q command recorded → SaysCommand q.words command
says_too p q command recorded same = subst (λ (words : List (List ℕ)). SaysCommand words command) same.words same.says

module _ (one_command : OneCommand) (one_script : OneScript) {X Y : Type 0} (seen : X → LinkSeen) (saw : Y → LinkSeen) where
  -- what two runs printed, by their words and files
  record Both (p : Past X) (q : Past Y) (plan : Plan) (a b : Block) : Type 0 where
    first : IsPlanBlock plan p.folder_before p.folder_after (seen p.link_before) (seen p.link_after) a
    second : IsPlanBlock plan q.folder_before q.folder_after (saw q.link_before) (saw q.link_after) b
    list : ReadOneList first.all second.all

  both : (p : Past X) (q : Past Y) (plan : Plan) (recorded : List File) → PlanTheSame p q (commands.Plan plan) recorded → (s t : Status) (x : HasPrinted seen p s) (y : HasPrinted saw q t)
      → Both p q plan x.block y.block
  both p q plan recorded same s t x y =
      let first = block_said one_command seen p (commands.Plan plan) s x same.says in
      let second = block_said one_command saw q (commands.Plan plan) t y (says_too p q (commands.Plan plan) recorded same) in
      record {
        first = first;
        second = second;
        list = read_one_list one_script recorded plan.asks p.folder_before p.folder_after q.folder_before q.folder_after first.all second.all same.tells same.tell first.inputs second.inputs;
      }

  -- the outputs, where the ends are one
  printed : (p : Past X) (q : Past Y) (plan : Plan) (a b : Block) (x : Both p q plan a b) → AllZip AreOneEnd a.ends.items b.ends.items → PrintOnePlan a b
  printed p q plan a b x ends = record { first_is = x.first.planned.text_is; second_is = x.second.planned.text_is; one_each = ends }

  pub one_quiet_plan : OnePlan seen saw → OneQuietPlan seen saw
  one_quiet_plan one_plan p q plan recorded side same fair other_fair s t x y =
      let b : Both p q plan x.block y.block = both p q plan recorded same s t x y in
      printed p q plan x.block y.block b
      (one_quiet seen saw plan.base plan.cache p.link_before p.link_after q.link_before q.link_after b.first.all b.second.all b.list x.block.ends.items y.block.ends.items one_plan side
      fair.was_quiet.quiet other_fair.was_quiet.quiet
      (record { text = x.block.text.items; is = b.first.planned; right = b.first.planned.right side fair.was_quiet.as_honest; no_fault = fair.no_fault })
      (record { text = y.block.text.items; is = b.second.planned; right = b.second.planned.right side other_fair.was_quiet.as_honest; no_fault = other_fair.no_fault }))

  pub one_named_plan : OneGrowingPlan seen saw → OneNamedPlan seen saw
  one_named_plan one_plan p q plan recorded last end whole same valid grew other_grew fair other_fair s t x y named =
      let b : Both p q plan x.block y.block = both p q plan recorded same s t x y in
      printed p q plan x.block y.block b
      (one_named seen saw plan.base plan.cache p.link_before p.link_after q.link_before q.link_after b.first.all b.second.all b.list x.block.ends.items y.block.ends.items one_plan fair.first last
      other_fair.first end whole fair.last_is other_fair.last_is valid grew other_grew
      (record { text = x.block.text.items; is = b.first.planned; right = b.first.planned.right fair.first fair.was_honest; no_fault = fair.no_fault })
      (record { text = y.block.text.items; is = b.second.planned; right = b.second.planned.right other_fair.first other_fair.was_honest; no_fault = other_fair.no_fault }) named)
