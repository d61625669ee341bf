-- The number of the text, or one that is not whole.
use Rattle.std.proofs.Common.{◌∙◌, Option, ap}
use Rattle.std.specs.Float.{float_zero}
use Rattle.std.specs.Prelude.{unwrap_or}
use Rattle.serde_json.specs.Data.{Num, float}
use Rattle.serde_json.specs.Find.{as_i64}
use Rattle.page_json.proofs.object_members.number.i64_of.Goals as goal

pub returns-in-Some : goal.returns-in-Some
returns-in-Some c = c.as_i64.ensures ∙ ap (λ (o : Option Num). as_i64 (unwrap_or o (float float_zero))) c.in-Some.ensures

pub returns-in-None : goal.returns-in-None
returns-in-None c = ap (λ (o : Option Num). as_i64 (unwrap_or o (float float_zero))) c.in-None.ensures
