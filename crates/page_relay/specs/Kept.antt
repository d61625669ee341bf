-- The replies that a relay keeps, each with the request to which it came, the most recently used first.
use Rattle.std.specs.Prelude.{ℕ, Bool, ◌&&◌, List, ◌∷◌, take, Option}
use Rattle.std.specs.Map.{lookup, lookup_entry, remove_entry}
use Rattle.std.specs.Option.{option_map_or}
use Rattle.lc_world.specs.Sides.Asked.{is_same}
use Rattle.page_relay.specs.declared.sent.SentRequest.{SentRequest}

-- a reply that is kept, after the request to which it came
abbrev pub Kept : Type 0
Kept = SentRequest × List ℕ

-- a request that was sent to an authority
abbrev pub sent_to : List ℕ → List ℕ → SentRequest
sent_to authority request = record { authority = authority; request = request }

-- two requests are one: they have the same bytes, and were sent to the same authority
abbrev pub is_same_request : SentRequest → SentRequest → Bool
is_same_request a b = is_same a.authority b.authority && is_same a.request b.request

-- the reply that is kept for a request, if there is one
abbrev pub reply_for : SentRequest → List Kept → Option (List ℕ)
reply_for sent kept = lookup (is_same_request sent) kept

-- what is kept besides the reply for a request
abbrev pub without : SentRequest → List Kept → List Kept
without sent kept = remove_entry (is_same_request sent) kept

-- the reply for a request moves to the front, if it is kept
abbrev pub with_used : SentRequest → List Kept → List Kept
with_used sent kept = option_map_or (λ (k : Kept). k ∷ without sent kept) (lookup_entry (is_same_request sent) kept) kept

-- One reply more is kept, in front. Where there are more than so many then, the one that was used longest ago goes out.
abbrev pub with_kept : ℕ → SentRequest → List ℕ → List Kept → List Kept
with_kept entries sent reply kept = take entries ((sent, reply) ∷ kept)
