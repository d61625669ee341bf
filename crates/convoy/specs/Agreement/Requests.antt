-- The requests by which wants are asked for, and that a link records them.
use Rattle.std.specs.Prelude.{◌≡◌, ℕ, List, [], ◌∷◌, ◌++◌, map, Option, option_map}
use Rattle.std.specs.List.{All}
use Rattle.lc_model.specs.declared.query.Query.{Query}
use Rattle.connection_uri.specs.Base.{BaseParts}
use Rattle.http_text.specs.RequestText.{request_text_of}
use Rattle.lc_world.specs.declared.entry.Entry.{Entry}
use Rattle.page_client.specs.Client.{shown}
use Rattle.page_client.specs.Request.{known_at, target_of}
use Rattle.page_client.specs.declared.want.Want.{Want}
use Rattle.convoy.specs.declared.member.Member.{Member}
use Rattle.convoy.specs.Agreement.Names.{Round}

-- the request of a client of the question for what it wants
abbrev pub request_of : BaseParts → Query → Want → List ℕ
request_of base query want = request_text_of base.authority (target_of base query want) (known_at query want)

-- these requests, in this order, were made to the authority, and are recorded besides those before, where exchanges are recorded
pub record TellsRequests (before after : Option (List Entry)) (authority : List ℕ) (requests : List (List ℕ)) : Type 0 where
  pub entries : List Entry
  pub are : map (λ (entry : Entry). entry.request) entries ≡ requests
  pub authorities : All (λ (entry : Entry). entry.authority ≡ authority) entries
  pub is : after ≡ option_map (λ (recorded : List Entry). recorded ++ entries) before

-- the requests of clients in their rounds, first those of the first one, then those of the next, and so on
abbrev pub requests_of : BaseParts → List Member → List Round → List (List ℕ)
requests_of base [] rounds = []
requests_of base (member ∷ others) [] = []
requests_of base (member ∷ others) (round ∷ more) = map (request_of base (shown member.client).query) round.asked ++ requests_of base others more

-- what was asked for a client of the question is recorded
abbrev pub TellsAsked : Option (List Entry) → Option (List Entry) → BaseParts → Query → List Want → Type 0
TellsAsked before after base query asked = TellsRequests before after base.authority (map (request_of base query) asked)
