-- What was read of a window and of publishing is what the arguments say.
use Rattle.std.proofs.Common.{◌≡◌, ◌∙◌, ℕ, ◌/◌, ◌-◌, List, Option, Some, None, Result, Ok, Err, IfOk, refl, subst, sym}
use Rattle.std.specs.Prelude.{IfSome, MatchOption}
use Rattle.clap.specs.Simple.{App}
use Rattle.lc_model.specs.declared.date.ServiceDate.{ServiceDate}
use Rattle.lc_time.proofs.OneTextLemmas.{one_date}
use Rattle.cli_words.specs.FeedWindow.{AsksWindow, HasWindow, SaysFeedWindow, SaysFirst}
use Rattle.cli_words.specs.Published.{AsksPublished, SaysPublished}
use Rattle.cli_words.specs.Publishing.{example}
use Rattle.cli_words.specs.Window.{IsDateAt}
use Rattle.cli_words.specs.declared.command.FeedWindow.{FeedWindow}
use Rattle.cli_words.specs.declared.command.Published.{Published}
use Rattle.cli_words.proofs.WordsLemmas.{one_date_at, same_text}

-- a window was read from this date on, or there is none
abbrev pub IsWindowFrom : {E : Type 0} → App → List (List ℕ) → ℕ → ServiceDate → Result (Option FeedWindow) E → Type 0
IsWindowFrom a words default_days first read =
    IfOk read (λ window. MatchOption window ((window : FeedWindow) → window.first ≡ first → HasWindow a words default_days window → ⊥)
    (λ window. (window.first ≡ first) × HasWindow a words default_days window))

-- from the first date that the arguments say
pub said_window : {E : Type 0} (a : App) (words : List (List ℕ)) (first : ServiceDate) → SaysFirst a words first → (read : Result (Option FeedWindow) E) → IsWindowFrom a words 7 first read
    → IfOk read (λ window. MatchOption window ((window : FeedWindow) → SaysFeedWindow a words window → ⊥) (SaysFeedWindow a words))
said_window a words first is (Ok None) none = λ window says. none window (one_date window.first first (same_text _ _ (sym says.first_is ∙ is))) says.has
said_window a words first is (Ok (Some window)) has = record { first_is = subst (λ (date : ServiceDate). SaysFirst a words date) (sym has.0) is; has = has.1 }
said_window a words first is (Err fault) of = tt

-- from the day before a question
pub asked_window : {E : Type 0} (a : App) (words : List (List ℕ)) (moment : ℕ) (first : ServiceDate) → IsDateAt first (moment / 86_400 - 1) → (read : Result (Option FeedWindow) E) → IsWindowFrom a words 3 first read
    → IfOk read (λ window. MatchOption window ((window : FeedWindow) → AsksWindow a words moment window → ⊥) (AsksWindow a words moment))
asked_window a words moment first is (Ok None) none = λ window asks. none window (one_date_at window.first first _ _ refl asks.first_is is) asks.has
asked_window a words moment first is (Ok (Some window)) has = record { first_is = subst (λ (date : ServiceDate). IsDateAt date (moment / 86_400 - 1)) (sym has.0) is; has = has.1 }
asked_window a words moment first is (Err fault) of = tt

-- what was read to be published in the window of a question
pub asked_published : {E : Type 0} (a : App) (words : List (List ℕ)) (moment : ℕ) (window : FeedWindow) → AsksWindow a words moment window → (read : Result (Option Published) E)
    → IfOk read (λ published. IfSome published (λ published. published.window ≡ window))
    → IfOk read (λ published. MatchOption published ((published : Published) → SaysPublished example a words published → ⊥) (SaysPublished example a words))
    → IfOk read (λ published. MatchOption published ((published : Published) → AsksPublished a words moment published → ⊥) (AsksPublished a words moment))
asked_published a words moment window asks (Ok None) is none = λ published asks. none published asks.says
asked_published a words moment window asks (Ok (Some published)) is says = record { window = subst (λ (w : FeedWindow). AsksWindow a words moment w) (sym is) asks; says = says }
asked_published a words moment window asks (Err fault) is of = tt
