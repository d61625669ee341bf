-- What was read is what the arguments say.
use Rattle.std.proofs.Common.{◌≡◌, ◌∙◌, ℕ, Some, List, [], ◌∷◌, codes, false, refl, subst, sym, true}
use Rattle.std.proofs.lemmas.Bool.{false≢true}
use Rattle.std.proofs.lemmas.Slice.Eq.{bytes_eq-Decides}
use Rattle.std.specs.Str.{bytes_eq}
use Rattle.clap.specs.Faults.{is_simple_and_free}
use Rattle.clap.specs.Simple.{App}
use Rattle.lc_model.specs.declared.date.ServiceDate.{ServiceDate}
use Rattle.cli_words.specs.Line.{line}
use Rattle.lc_time.proofs.DateLemmas.{same_date}
use Rattle.cli_words.specs.Arrive.{SaysArrive}
use Rattle.cli_words.specs.Ask.{SaysAsk}
use Rattle.cli_words.specs.Check.{SaysCheck}
use Rattle.cli_words.specs.Drill.{SaysDrill}
use Rattle.cli_words.specs.Fewest.{SaysFewest}
use Rattle.cli_words.specs.Options.{AreOptions}
use Rattle.cli_words.specs.Plan.{SaysPlan}
use Rattle.cli_words.specs.Relay.{SaysRelay}
use Rattle.cli_words.specs.Replay.{SaysReplay}
use Rattle.cli_words.specs.Serve.{SaysServe}
use Rattle.cli_words.specs.Window.{IsDateAt}
use Rattle.cli_words.specs.Words.{SaysCommand}
use Rattle.cli_words.specs.declared.command.Arrive.{Arrive}
use Rattle.cli_words.specs.declared.command.Ask.{Ask}
use Rattle.cli_words.specs.declared.command.Check.{Check}
use Rattle.cli_words.specs.declared.command.Command.{Command}
use Rattle.cli_words.specs.declared.command.Command.TheVariants as command
use Rattle.cli_words.specs.declared.command.Drill.{Drill}
use Rattle.cli_words.specs.declared.command.Fewest.{Fewest}
use Rattle.cli_words.specs.declared.command.Plan.{Plan}
use Rattle.cli_words.specs.declared.command.Relay.{Relay}
use Rattle.cli_words.specs.declared.command.Replay.{Replay}
use Rattle.cli_words.specs.declared.command.Serve.{Serve}

-- the lines are simple ones
pub check_is_simple : is_simple_and_free (line (codes "check") (codes "feed" ∷ codes "first" ∷ []) (codes "days" ∷ codes "zone" ∷ codes "change" ∷ []) []) ≡ true
unfolding line
check_is_simple = refl

pub ask_is_simple : is_simple_and_free (line (codes "ask") (codes "feed" ∷ codes "from" ∷ codes "to" ∷ codes "moment" ∷ []) (codes "days" ∷ codes "zone" ∷ codes "change" ∷ codes "horizon" ∷ codes "known" ∷ codes "base" ∷ codes "base-moment" ∷ codes "cuts" ∷ codes "cache" ∷ codes "update" ∷ []) []) ≡ true
unfolding line
ask_is_simple = refl

pub replay_is_simple : is_simple_and_free (line (codes "replay") (codes "feed" ∷ codes "first" ∷ codes "script" ∷ []) (codes "days" ∷ codes "zone" ∷ codes "change" ∷ codes "base" ∷ codes "base-moment" ∷ codes "cuts" ∷ codes "cache" ∷ []) []) ≡ true
unfolding line
replay_is_simple = refl

pub serve_is_simple : is_simple_and_free (line (codes "serve") (codes "feed" ∷ codes "first" ∷ []) (codes "days" ∷ codes "zone" ∷ codes "change" ∷ codes "base" ∷ codes "base-moment" ∷ codes "cuts" ∷ codes "update" ∷ codes "port" ∷ codes "connections" ∷ []) (codes "accept-updates" ∷ [])) ≡ true
unfolding line
serve_is_simple = refl

pub plan_is_simple : is_simple_and_free (line (codes "plan") (codes "url" ∷ codes "asks" ∷ []) (codes "cache" ∷ []) []) ≡ true
unfolding line
plan_is_simple = refl

pub arrive_is_simple : is_simple_and_free (line (codes "arrive") (codes "feed" ∷ codes "from" ∷ codes "to" ∷ codes "moment" ∷ []) (codes "days" ∷ codes "zone" ∷ codes "change" ∷ codes "horizon" ∷ codes "known" ∷ codes "base" ∷ codes "base-moment" ∷ codes "cuts" ∷ codes "update" ∷ []) []) ≡ true
unfolding line
arrive_is_simple = refl

pub fewest_is_simple : is_simple_and_free (line (codes "fewest") (codes "feed" ∷ codes "from" ∷ codes "to" ∷ codes "moment" ∷ []) (codes "days" ∷ codes "zone" ∷ codes "change" ∷ codes "horizon" ∷ codes "known" ∷ codes "base" ∷ codes "base-moment" ∷ codes "cuts" ∷ codes "update" ∷ []) []) ≡ true
unfolding line
fewest_is_simple = refl

pub relay_is_simple : is_simple_and_free (line (codes "relay") (codes "url" ∷ codes "asks" ∷ []) (codes "cache" ∷ codes "entries" ∷ []) []) ≡ true
unfolding line
relay_is_simple = refl

pub drill_is_simple : is_simple_and_free (line (codes "drill") (codes "n" ∷ []) (codes "days" ∷ []) []) ≡ true
unfolding line
drill_is_simple = refl

-- two texts that are one value are one
pub same_text : (a b : List ℕ) → Some a ≡ Some b → a ≡ b
same_text a b e = cc

-- no text is two others that differ
pub apart : {a b : List ℕ} → a ≡ b → bytes_eq a b ≡ false → ⊥
apart {a} {b} same differ = false≢true (sym differ ∙ (bytes_eq-Decides a b).1 same)

-- two numbers that are one value are one
pub same_number : (a b : ℕ) → Some a ≡ Some b → a ≡ b
same_number a b e = cc

-- options say one number of days, one zone and one change
pub one_options : (a : App) (words : List (List ℕ)) (default_days days days' : ℕ) (zone zone' : List ℕ) (change change' : ℕ) → AreOptions a words default_days days zone change → AreOptions a words default_days days' zone' change' → (days ≡ days') × (zone ≡ zone') × (change ≡ change')
one_options a words default_days days days' zone zone' change change' p q =
    let d : Some days ≡ Some days' = sym p.days_said ∙ q.days_said in
    let z : Some zone ≡ Some zone' = sym p.zone_is ∙ q.zone_is in
    let e : Some change ≡ Some change' = sym p.change_said ∙ q.change_said in
    (cc d, same_text zone zone' z, cc e)

-- one number of days belongs to one date
pub one_date_at : (a b : ServiceDate) (m n : ℕ) → m ≡ n → IsDateAt a m → IsDateAt b n → a ≡ b
one_date_at a b m n same p q =
    let p' : IsDateAt a n = subst (λ (k : ℕ). IsDateAt a k) same p in
    same_date a b (p'.year ∙ sym q.year) (p'.month ∙ sym q.month) (p'.day ∙ sym q.day)

-- arguments that begin with `check` and say nothing of it say no command, nor do those of the others
pub no_check : (words : List (List ℕ)) → ((check : Check) → SaysCheck words check → ⊥) → (said : Command) → SaysCommand (codes "check" ∷ words) said → ⊥
no_check words none (command.Check check) says = none check says.1
no_check words none said says = apart says.0 refl

pub no_ask : (words : List (List ℕ)) → ((ask : Ask) → SaysAsk words ask → ⊥) → (said : Command) → SaysCommand (codes "ask" ∷ words) said → ⊥
no_ask words none (command.Ask ask) says = none ask says.1
no_ask words none said says = apart says.0 refl

pub no_replay : (words : List (List ℕ)) → ((replay : Replay) → SaysReplay words replay → ⊥) → (said : Command) → SaysCommand (codes "replay" ∷ words) said → ⊥
no_replay words none (command.Replay replay) says = none replay says.1
no_replay words none said says = apart says.0 refl

pub no_serve : (words : List (List ℕ)) → ((serve : Serve) → SaysServe words serve → ⊥) → (said : Command) → SaysCommand (codes "serve" ∷ words) said → ⊥
no_serve words none (command.Serve serve) says = none serve says.1
no_serve words none said says = apart says.0 refl

pub no_plan : (words : List (List ℕ)) → ((plan : Plan) → SaysPlan words plan → ⊥) → (said : Command) → SaysCommand (codes "plan" ∷ words) said → ⊥
no_plan words none (command.Plan plan) says = none plan says.1
no_plan words none said says = apart says.0 refl

pub no_drill : (words : List (List ℕ)) → ((drill : Drill) → SaysDrill words drill → ⊥) → (said : Command) → SaysCommand (codes "drill" ∷ words) said → ⊥
no_drill words none (command.Drill drill) says = none drill says.1
no_drill words none said says = apart says.0 refl

pub no_arrive : (words : List (List ℕ)) → ((arrive : Arrive) → SaysArrive words arrive → ⊥) → (said : Command) → SaysCommand (codes "arrive" ∷ words) said → ⊥
no_arrive words none (command.Arrive arrive) says = none arrive says.1
no_arrive words none said says = apart says.0 refl

pub no_fewest : (words : List (List ℕ)) → ((fewest : Fewest) → SaysFewest words fewest → ⊥) → (said : Command) → SaysCommand (codes "fewest" ∷ words) said → ⊥
no_fewest words none (command.Fewest fewest) says = none fewest says.1
no_fewest words none said says = apart says.0 refl

pub no_relay : (words : List (List ℕ)) → ((relay : Relay) → SaysRelay words relay → ⊥) → (said : Command) → SaysCommand (codes "relay" ∷ words) said → ⊥
no_relay words none (command.Relay relay) says = none relay says.1
no_relay words none said says = apart says.0 refl
