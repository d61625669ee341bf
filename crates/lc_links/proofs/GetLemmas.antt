-- What a GET leaves: the side as it was.
use Rattle.std.proofs.Common.{◌≡◌, ◌∙◌, ℕ, List, Bool, true, false, drop, refl, sym, ap, subst}
use Rattle.std.specs.Prelude.{codes, if◌then◌else◌, ◌&&◌}
use Rattle.http_text.specs.Request.{IsWhole}
use Rattle.http_text.specs.declared.reply_parts.Allow.TheVariants.{Posting, Reading}
use Rattle.http_text.specs.declared.request.Request.{Request}
use Rattle.http_text.proofs.MessageLemmas.{one_request}
use Rattle.lc_world.specs.Link.{IsGet}
use Rattle.lc_world.specs.Sides.Asked.{is_posting, is_reading, is_under}
use Rattle.lc_world.specs.Sides.Reply.{IsBehind, IsNextSide}
use Rattle.lc_world.specs.Sides.Response.{asked_at}
use Rattle.lc_world.specs.Sides.Side.{Side}
use Rattle.lc_world.specs.declared.sides.asked.Asked.{Asked}
use Rattle.lc_world.specs.declared.sides.asked.Asked.TheVariants as kinds

-- what is asked for, by the tests of its path and its method
abbrev asked_by : Bool → Bool → Bool → Bool → Bool → Bool → Asked
asked_by reading posting gate page stops updates =
    if gate then (if reading then kinds.Gate else kinds.OtherMethod Reading)
    else (if page then (if reading then kinds.Page else kinds.OtherMethod Reading)
    else (if stops then (if reading then kinds.Stops else kinds.OtherMethod Reading)
    else (if updates then (if posting then kinds.Update else kinds.OtherMethod Posting)
    else kinds.Nothing)))

-- where nothing is posted the side stays
stays_by : (side : Side) (request : Request) (body : List ℕ) (next : Side) (reading gate page stops updates : Bool)
    → IsBehind side request body (asked_by reading false gate page stops updates) next → next ≡ side
stays_by side request body next true true page stops updates is = is
stays_by side request body next false true page stops updates is = is
stays_by side request body next true false true stops updates is = is
stays_by side request body next false false true stops updates is = is
stays_by side request body next true false false true updates is = is
stays_by side request body next false false false true updates is = is
stays_by side request body next reading false false false true is = is
stays_by side request body next reading false false false false is = is

-- a GET posts nothing
no_post : (request : Request) → request.method ≡ codes "GET" → is_posting request.method ≡ false
no_post request is = ap is_posting is

behind_get : (side : Side) (request : Request) (body : List ℕ) (next : Side) → request.method ≡ codes "GET"
    → IsBehind side request body (asked_at side request) next → next ≡ side
behind_get side request body next is behind =
    let path = request.path in
    let gate : Bool = is_under side.base (codes "connections") path in
    let page : Bool = is_under side.base (codes "memento/connections") path in
    let stops : Bool = is_under side.base (codes "stops") path in
    let updates : Bool = side.accepts_updates && is_under side.base (codes "updates") path in
    stays_by side request body next (is_reading request.method) gate page stops updates
    (subst (λ (posting : Bool). IsBehind side request body (asked_by (is_reading request.method) posting gate page stops updates) next)
    (no_post request is) behind)

-- the side that a GET leaves is the one that it asked
pub get_leaves : (side : Side) (bytes : List ℕ) (next : Side) → IsGet bytes → IsNextSide side bytes next → next ≡ side
get_leaves side bytes next get step =
    let one : step.request ≡ get.request = one_request bytes step.request get.request step.whole get.whole in
    behind_get side step.request (drop step.request.body_from bytes) next (ap (λ (r : Request). r.method) one ∙ get.method_is) step.behind

-- a GET is one whole request
pub get_is_whole : (bytes : List ℕ) → IsGet bytes → IsWhole bytes
get_is_whole bytes get = let (h, body, whole, is) = get.whole in (h, body, whole)
