-- What a client does after a page.
use Rattle.std.specs.Prelude.{◌≡◌}
use Rattle.csa_scan.specs.declared.scan.Scan.{Scan}
use Rattle.page_json.specs.declared.page.Page.{Page}
use Rattle.page_client.specs.Course.{TakesOn}
use Rattle.page_client.specs.Shown.{answered}
use Rattle.page_client.specs.declared.step.Sequel.{Sequel}
use Rattle.page_client.specs.declared.step.Sequel.TheVariants.{Ends, Goes}
use Rattle.page_client.specs.declared.step.Step.{Step}
use Rattle.page_client.specs.declared.step.Step.TheVariants.{Last, Next}

-- after a step the next page is wanted, or the question is answered
abbrev pub sequel_of : Step → Sequel
sequel_of (Next next) = Goes next
sequel_of (Last journey) = Ends (answered journey)

-- the scan takes the page, and the step that follows leaves this to do
pub record IsSequel (old new : Scan) (page : Page) (sequel : Sequel) : Type 0 where
  pub step : Step
  pub takes : TakesOn old new page step
  pub is : sequel ≡ sequel_of step
