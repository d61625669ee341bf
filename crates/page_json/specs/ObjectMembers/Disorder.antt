-- What is read where a list has to be in order.
use Rattle.std.specs.Prelude.{ℕ, Option, Some, None, Result, Ok, Err}
use Rattle.page_json.specs.declared.object_members.fault.PageFault.{PageFault}
use Rattle.page_json.specs.declared.object_members.fault.PageFault.TheVariants.{NotOrdered}

-- what was read, unless its list has a disorder
abbrev pub unless_disorder : {X : Type 0} → Option ℕ → X → Result X PageFault
unless_disorder None x = Ok x
unless_disorder (Some place) x = Err (NotOrdered place)
