-- What a reply with a page leads to.
use Rattle.std.proofs.Common.{◌≡◌, ℕ, List, Option, Some, None, Result, Ok, Err, IfOk, refl}
use Rattle.page_json.specs.declared.page.Page.{Page}
use Rattle.back_scan.specs.declared.scan.BackScan.{BackScan}
use Rattle.back_client.specs.Steps.{Leads, TakesBack}
use Rattle.back_client.specs.Wrong.{wrong_of}
use Rattle.back_client.specs.declared.page.Place.{Place}
use Rattle.back_client.specs.declared.step.Sequel.{Sequel}
use Rattle.back_client.specs.declared.step.Sequel.TheVariants.{Ends}
use Rattle.page_client.specs.declared.outcome.Outcome.{Outcome}

-- what is so of a result by two facts
pub both_so : {A E : Type 0} (result : Result A E) (P Q R : A → Type 0) → ((a : A) → P a → Q a → R a) → IfOk result P → IfOk result Q → IfOk result R
both_so (Ok a) P Q R both first second = both a first second
both_so (Err e) P Q R both first second = tt

-- the outcome by the first test that a page fails, or what follows where it fails none
pub leads_by : (arrive : ℕ) (place : Place) (page : Page) (reply : List ℕ) (old new : BackScan) (sequel : Sequel) (wrong : Option Outcome) → wrong_of arrive place page reply ≡ wrong →
    ((outcome : Outcome) → wrong_of arrive place page reply ≡ Some outcome → sequel ≡ Ends outcome) → (wrong_of arrive place page reply ≡ None → TakesBack old new page sequel) → Leads wrong old new page sequel
leads_by arrive place page reply old new sequel (Some outcome) e wrong right = wrong outcome e
leads_by arrive place page reply old new sequel None e wrong right = right e
