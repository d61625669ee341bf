-- The arguments of `plan`.
use Rattle.std.specs.Prelude.{◌≡◌, ℕ, List, codes, Some}
use Rattle.cli_words.specs.Cache.{cache_said}
use Rattle.cli_words.specs.Line.{IsLine, plan_line, value_at}
use Rattle.cli_words.specs.Publishing.{SaysBase}
use Rattle.cli_words.specs.declared.command.Plan.{Plan}

-- The arguments after `plan` say this. URL says the base of a publisher, and ASKS is any text.
pub record SaysPlan (words : List (List ℕ)) (plan : Plan) : Type 0 where
  pub is_line : IsLine plan_line words
  -- the text of the base
  pub url : List ℕ
  pub url_is : value_at plan_line words (codes "url") ≡ Some url
  pub base_said : SaysBase url plan.base
  pub asks_is : value_at plan_line words (codes "asks") ≡ Some plan.asks
  pub cache_is : cache_said plan_line words ≡ Some plan.cache
