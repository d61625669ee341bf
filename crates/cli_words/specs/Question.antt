-- The question that the arguments of `ask` and of `fewest` say, and that of `arrive`.
use Rattle.std.specs.Prelude.{◌≡◌, ◌≢◌, ℕ, ◌≤◌, List, [], codes, Option, Some, None}
use Rattle.clap.specs.Simple.{App}
use Rattle.lc_model.specs.declared.query.Query.{Query}
use Rattle.lc_model.specs.declared.query.TheConstants.{FIRST_LEAVE, LAST_LEAVE}
use Rattle.back_scan.specs.declared.arrive_query.ArriveQuery.{ArriveQuery}
use Rattle.back_scan.specs.declared.arrive_query.TheConstants.{FIRST_ARRIVE, LAST_ARRIVE}
use Rattle.lc_time.specs.Iso.{SaysMoment}
use Rattle.cli_words.specs.Line.{value_at}
use Rattle.cli_words.specs.Options.{number_said}

-- a plain argument that is not empty says the stop
pub record SaysStop (word : Option (List ℕ)) (stop : List ℕ) : Type 0 where
  pub is : word ≡ Some stop
  pub named : stop ≢ []

-- the text says a moment that is between these
pub record SaysMomentWithin (low high : ℕ) (text : List ℕ) (moment : ℕ) : Type 0 where
  pub says : SaysMoment text moment
  pub not_before : low ≤ moment
  pub not_after : moment ≤ high

-- the moment whose knowledge is meant, and none where the option is not there
abbrev pub SaysKnown : Option (List ℕ) → Option ℕ → Type 0
SaysKnown None known = known ≡ None
SaysKnown (Some text) None = ⊥
SaysKnown (Some text) (Some known) = SaysMoment text known

-- MOMENT, which is between these, `--known`, and `--horizon`, which is any number, and a day where it is not there
pub record SaysTimes (low high : ℕ) (a : App) (words : List (List ℕ)) (moment : ℕ) (known : Option ℕ) (horizon : ℕ) : Type 0 where
  -- the argument of the moment
  pub word : List ℕ
  pub word_is : value_at a words (codes "moment") ≡ Some word
  pub moment_is : SaysMomentWithin low high word moment
  pub known_is : SaysKnown (value_at a words (codes "known")) known
  pub horizon_said : number_said 86_400 0 4_294_967_295 (value_at a words (codes "horizon")) ≡ Some horizon

-- FROM, TO and what says the times, of a question that leaves at MOMENT or later
pub record AsksQuestion (a : App) (words : List (List ℕ)) (query : Query) : Type 0 where
  pub from_is : SaysStop (value_at a words (codes "from")) query.from
  pub to_is : SaysStop (value_at a words (codes "to")) query.to
  pub times : SaysTimes FIRST_LEAVE LAST_LEAVE a words query.leave query.known query.horizon

-- and of one that asks to arrive by MOMENT
pub record AsksArrival (a : App) (words : List (List ℕ)) (query : ArriveQuery) : Type 0 where
  pub from_is : SaysStop (value_at a words (codes "from")) query.from
  pub to_is : SaysStop (value_at a words (codes "to")) query.to
  pub times : SaysTimes FIRST_ARRIVE LAST_ARRIVE a words query.arrive query.known query.horizon
