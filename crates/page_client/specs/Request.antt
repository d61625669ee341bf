-- The requests of a client: at the time gate with the moment up to which it knows, if it has one.
use Rattle.std.specs.Prelude.{◌≡◌, ℕ, List, [], Option, None}
use Rattle.lc_model.specs.declared.query.Query.{Query}
use Rattle.connection_uri.specs.Base.{BaseParts}
use Rattle.connection_uri.specs.Page.{gate_target_of, page_target_of, stops_target_of}
use Rattle.http_text.specs.Request.{IsWholeRequest}
use Rattle.http_text.specs.RequestText.{SaysGet, request_text_of}
use Rattle.http_text.specs.declared.request.Request.{Request}
use Rattle.page_client.specs.declared.want.Want.{Want}
use Rattle.page_client.specs.declared.want.Want.TheVariants.{Finished, Gate, Page, Stops}

-- what is asked for
abbrev pub target_of : BaseParts → Query → Want → List ℕ
target_of base query Gate = gate_target_of base query.leave
target_of base query Stops = stops_target_of base
target_of base query (Page name) = page_target_of base name
target_of base query Finished = []

-- up to which moment the asker knows
abbrev pub known_at : Query → Want → Option ℕ
known_at query Gate = query.known
known_at query Stops = None
known_at query (Page name) = None
known_at query Finished = None

-- the text is a GET of the target, after which the connection ends, and one whole request that says it
pub record Asks (base : BaseParts) (target : List ℕ) (known : Option ℕ) (text : List ℕ) : Type 0 where
  pub text_is : text ≡ request_text_of base.authority target known
  pub request : Request
  pub is_whole : IsWholeRequest text request
  pub says : SaysGet target known text request
