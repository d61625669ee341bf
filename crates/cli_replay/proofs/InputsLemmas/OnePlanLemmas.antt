-- Equal files say one script of questions and turns.
use Rattle.std.proofs.Common.{◌≡◌, ◌∙◌, ℕ, List, [], ◌∷◌, Some, Ok, ap, ap₂, refl, subst, sym}
use Rattle.std.specs.Option.{IfSome}
use Rattle.lc_io.specs.Folder.{FolderSeen, bytes_named}
use Rattle.lc_io.specs.declared.file.File.{File}
use Rattle.lc_model.specs.declared.query.Query.{Query}
use Rattle.cli_replay.specs.declared.replay_laws.event.Event.{Event}
use Rattle.cli_replay.specs.declared.replay_laws.event.Event.TheVariants as events
use Rattle.journey_text.specs.ScriptLaws.{OneScript}
use Rattle.journey_text.specs.ScriptReading.{SaysScript}
use Rattle.journey_text.specs.declared.script.Record.{Record}
use Rattle.journey_text.specs.declared.script.Record.TheVariants as records
use Rattle.cli_replay.specs.Inputs.Inputs.{ReadsFile}
use Rattle.cli_replay.specs.Inputs.Laws.{OnePlan}
use Rattle.cli_replay.specs.Inputs.Plan.{SayEvents, SaysEvent}

-- a record says one event
one_event : (said : Record) (a b : Event) → SaysEvent said a → SaysEvent said b → a ≡ b
one_event (records.Ask query) (events.Ask a) (events.Ask b) x y = ap (λ (q : Query). events.Ask q) (x ∙ sym y)
one_event (records.Ask query) (events.Ask a) (events.Message n) x y = absurd y
one_event (records.Ask query) (events.Ask a) (events.Turn l) x y = absurd y
one_event (records.Ask query) (events.Message m) b x y = absurd x
one_event (records.Ask query) (events.Turn k) b x y = absurd x
one_event (records.Update name) (events.Ask a) b x y = absurd x
one_event (records.Update name) (events.Message m) b x y = absurd x
one_event (records.Update name) (events.Turn k) b x y = absurd x
one_event (records.Turn client) (events.Ask a) b x y = absurd x
one_event (records.Turn client) (events.Message m) b x y = absurd x
one_event (records.Turn client) (events.Turn k) (events.Ask b) x y = absurd y
one_event (records.Turn client) (events.Turn k) (events.Message n) x y = absurd y
one_event (records.Turn client) (events.Turn k) (events.Turn l) x y = ap (λ (n : ℕ). events.Turn n) (x ∙ sym y)

one_said : (script : List Record) (all more : List Event) → SayEvents script all → SayEvents script more → all ≡ more
one_said [] [] [] x y = refl
one_said [] [] (b ∷ more) x y = absurd y
one_said [] (a ∷ all) more x y = absurd x
one_said (said ∷ script) [] more x y = absurd x
one_said (said ∷ script) (a ∷ all) [] x y = absurd y
one_said (said ∷ script) (a ∷ all) (b ∷ more) (one, rest) (two, rest') =
    ap₂ (λ (e : Event) (l : List Event). e ∷ l) (one_event said a b one two) (one_said script all more rest rest')

-- what was read is what the files have
of_files : (files : List File) (name : List ℕ) (old new : FolderSeen) (bytes : List ℕ) → old.files ≡ Some files → ReadsFile old new name (Ok bytes) → bytes_named files name ≡ Some bytes
of_files files name old new bytes are read = subst (λ known. IfSome known (λ files. bytes_named files name ≡ Some bytes)) are read.bytes

same_bytes : (a b : List ℕ) → Some a ≡ Some b → a ≡ b
same_bytes a b e = cc

pub one_plan : OneScript → OnePlan
one_plan one_script files name old new other later all more are are' x y =
    let bytes = same_bytes x.read.bytes y.read.bytes
    (sym (of_files files name old new x.read.bytes are x.read.read) ∙ of_files files name other later y.read.bytes are' y.read.read) in
    let script = one_script y.read.bytes _ x.script y.script (subst (λ (b : List ℕ). SaysScript b _ x.script) bytes x.read.says) y.read.says in
    one_said y.script all more (subst (λ (s : List Record). SayEvents s all) script x.say) y.say
