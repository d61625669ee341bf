-- Which responses can be written as replies, and what is known of those that were.
use Rattle.http_text.specs.ReplyText.{HasReason}
use Rattle.page_json.specs.Sound.{IsSoundPage}
use Rattle.page_json.specs.Valid.{IsValidPage}
use Rattle.lc_world.specs.declared.sides.response.Response.{Response}
use Rattle.lc_world.specs.declared.sides.response.Response.TheVariants as responses

-- a status has a reason, and a page is valid
abbrev pub IsWritable : Response → Type 0
IsWritable (responses.Status status) = HasReason status
IsWritable (responses.OtherMethod allow) = Unit {0}
IsWritable (responses.Found page departs) = Unit {0}
IsWritable (responses.Page page) = IsValidPage page
IsWritable responses.Stops = Unit {0}

-- a page is as its type has it, which is known once its text is written
abbrev pub IsSoundResponse : Response → Type 0
IsSoundResponse (responses.Status status) = Unit {0}
IsSoundResponse (responses.OtherMethod allow) = Unit {0}
IsSoundResponse (responses.Found page departs) = Unit {0}
IsSoundResponse (responses.Page page) = IsSoundPage page
IsSoundResponse responses.Stops = Unit {0}
