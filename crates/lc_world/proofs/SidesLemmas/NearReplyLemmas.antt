-- Near replies and near versions that the definitions of a side refuse.
use Rattle.std.proofs.Common.{◌≡◌, ◌⊎◌, inl, inr, ℕ, ◌<◌, ◌≤◌, List, [], ◌∷◌, ◌++◌, length, drop, filter, Bool, true, false, Option, Some, None, refl, ap, sym, subst, ◌∙◌, arith}
use Rattle.std.specs.Prelude.{nat_le, nat_lt, ◌==◌, if◌then◌else◌}
use Rattle.std.specs.List.{All, AllPairs, Contains}
use Rattle.std.proofs.lemmas.Bool.Decides.{nat_tests}
use Rattle.std.proofs.lemmas.List.{map-append}
use Rattle.std.proofs.lemmas.List.Elements.{All-contains, All-head, All-tail}
use Rattle.std.proofs.lemmas.List.Kept.{AllPairs-cons}
use Rattle.lc_model.proofs.ListLemmas.{AllPairs-head, AllPairs-tail, Contains-cases, Contains-here, Contains-nil}
use Rattle.lc_time.proofs.OneTextLemmas.{one_http_moment}
use Rattle.lc_model.specs.Versions.History.{Entry, moments_of}
use Rattle.lc_model.specs.Versions.Named.{is_by, last_of}
use Rattle.lc_model.specs.declared.versions.update.Update.{Update}
use Rattle.http_text.specs.declared.request.Request.{Request}
use Rattle.http_text.proofs.MessageLemmas.{one_request}
use Rattle.trip_updates.specs.Message.{IsMessage}
use Rattle.trip_updates.proofs.TreesLemmas.{same_meaning}
use Rattle.page_json.specs.declared.page.Page.{Page}
use Rattle.lc_world.specs.Sides.Near.{AdmittedOnce, AtMostOneMore, HasOneMore, NoneLaterIsMeant, NoneOlderIsMeant, SentOfItsVersions}
use Rattle.lc_world.specs.Sides.Reply.{IsBehind, side_behind}
use Rattle.lc_world.specs.Sides.Response.{IsGateResponse, IsMessageIn, IsPageResponse, IsResponseTo, IsSentOf, asked_at, is_full, says_length, status_of_update}
use Rattle.lc_world.specs.Sides.Side.{Side, has_version, newest_of, with_message}
use Rattle.lc_world.specs.declared.sides.asked.Asked.{Asked}
use Rattle.lc_world.specs.declared.sides.asked.Asked.TheVariants as kinds
use Rattle.lc_world.specs.declared.sides.response.Response.{Response}
use Rattle.lc_world.specs.declared.sides.response.Response.TheVariants.{Status}
use Rattle.lc_world.specs.declared.sides.response.Response.TheVariants as responses
use Rattle.lc_world.proofs.SidesLemmas.LaterLemmas.{newer}
use Rattle.lc_world.proofs.SidesLemmas.VersionLemmas.{last_is_greatest}

-- AT MOST ONE MESSAGE MORE

-- the messages stayed, or there is one more
abbrev Grows : Side → Side → Type 0
Grows side next = (next.history ≡ side.history) ⊎ HasOneMore side next

stays : (side next : Side) → next ≡ side → Grows side next
stays side next is = inl (ap (λ (s : Side). s.history) is)

more_or_not : (side next : Side) (update : Update) (bytes : ℕ) (admitted : Bool) → next ≡ (if admitted then with_message side update bytes else side) → Grows side next
more_or_not side next update bytes true is = inr (record { entry = record { update = update; bytes = bytes; cuts = [] }; history = ap (λ (s : Side). s.history) is })
more_or_not side next update bytes false is = stays side next is

one_more : (side : Side) (request : Request) (body : List ℕ) (update : Option Update) (next : Side) → next ≡ side_behind side request body update → Grows side next
one_more side request body None next is = stays side next is
one_more side request body (Some update) next is = more_or_not side next update (length body) (status_of_update side request body (Some update) == 204) is

one_more_behind : (side : Side) (request : Request) (body : List ℕ) (asked : Asked) (next : Side) → IsBehind side request body asked next → Grows side next
one_more_behind side request body kinds.Gate next is = stays side next is
one_more_behind side request body kinds.Page next is = stays side next is
one_more_behind side request body kinds.Stops next is = stays side next is
one_more_behind side request body kinds.Update next (update, is_update, is) = one_more side request body update next is
one_more_behind side request body (kinds.OtherMethod allow) next is = stays side next is
one_more_behind side request body kinds.Nothing next is = stays side next is

pub at_most_one_more : AtMostOneMore
at_most_one_more side next bytes step = one_more_behind side step.request (drop step.request.body_from bytes) (asked_at side step.request) next step.behind

-- A MESSAGE IS ADMITTED ONCE

status_of : Response → ℕ
status_of (responses.Status status) = status
status_of (responses.OtherMethod allow) = 405
status_of (responses.Found page departs) = 302
status_of (responses.Page page) = 200
status_of responses.Stops = 200

-- what is admitted is a message, and newer than all that was
pub record WasAdmitted (side : Side) (request : Request) (body : List ℕ) : Type 0 where
  pub asks : asked_at side request ≡ kinds.Update
  pub update : Update
  pub message : IsMessage body update
  pub status : (status_of_update side request body (Some update) == 204) ≡ true

unfolded : (a b : Response) → a ≡ b → status_of a ≡ status_of b
unfolded a b e = ap status_of e

gate_not_204 : (side : Side) (departs version : Option ℕ) (response : Response) → response ≡ Status 204 → IsGateResponse side departs version response → ⊥
unfolding status_of
gate_not_204 side None version response e is = let f : 204 ≡ 400 = ap status_of (sym e ∙ is) in omega (arith, f)
gate_not_204 side (Some departs) None response e is = let f : 204 ≡ 400 = ap status_of (sym e ∙ is) in omega (arith, f)
gate_not_204 side (Some departs) (Some version) response e is = let f : 204 ≡ 302 = ap status_of (sym e ∙ is.is) in omega (arith, f)

sent_not_204 : (side : Side) (there : Bool) (version departs : ℕ) (response : Response) → response ≡ Status 204 → IsSentOf side there version departs response → ⊥
unfolding status_of
sent_not_204 side true version departs response e is = let f : 204 ≡ 200 = ap status_of (sym e ∙ is.is) in omega (arith, f)
sent_not_204 side false version departs response e is = let f : 204 ≡ 404 = ap status_of (sym e ∙ is) in omega (arith, f)

page_not_204 : (side : Side) (version departs : Option ℕ) (response : Response) → response ≡ Status 204 → IsPageResponse side version departs response → ⊥
unfolding status_of
page_not_204 side version None response e is = let f : 204 ≡ 400 = ap status_of (sym e ∙ is) in omega (arith, f)
page_not_204 side None (Some departs) response e is = let f : 204 ≡ 400 = ap status_of (sym e ∙ is) in omega (arith, f)
page_not_204 side (Some version) (Some departs) response e is = sent_not_204 side (has_version side version) version departs response e is

tests_hold : (a b : ℕ) → a ≡ b → (a == b) ≡ true
tests_hold a b e = grind (arith, nat_tests)

-- long texts are refused before they are looked at, and bytes that are no message have 400 at least
abbrev status_of_none : Bool → Bool → ℕ
status_of_none said long = if said then (if long then 413 else 400) else 411

-- a message has 204 where it is admitted, and 400 at least where it is refused
abbrev status_of_some : Bool → Bool → Bool → Bool → ℕ
status_of_some said long old full = if said then (if long then 413 else (if old then 409 else (if full then 507 else 204))) else 411

no_message_no_204 : (said long : Bool) → status_of_none said long ≡ 204 → ⊥
no_message_no_204 false long e = omega (arith, e)
no_message_no_204 true true e = omega (arith, e)
no_message_no_204 true false e = omega (arith, e)

update_admitted : (side : Side) (request : Request) (body : List ℕ) (update : Option Update) → asked_at side request ≡ kinds.Update → IsMessageIn body update
    → Status 204 ≡ Status (status_of_update side request body update) → WasAdmitted side request body
unfolding status_of
update_admitted side request body None asks is e =
    absurd (no_message_no_204 (says_length request) (nat_lt 16_777_216 (length body)) (sym (ap status_of e)))
update_admitted side request body (Some update) asks is e =
    record { asks = asks; update = update; message = is; status = tests_hold (status_of_update side request body (Some update)) 204 (sym (ap status_of e)) }

admitted_by : (side : Side) (request : Request) (body : List ℕ) (asked : Asked) → asked_at side request ≡ asked → IsResponseTo side request body asked (Status 204) → WasAdmitted side request body
unfolding status_of
admitted_by side request body kinds.Gate asks (departs, version, is_departs, is_version, is) = absurd (gate_not_204 side departs version (Status 204) refl is)
admitted_by side request body kinds.Page asks (departs, version, is_departs, is_version, is) = absurd (page_not_204 side version departs (Status 204) refl is)
admitted_by side request body kinds.Stops asks is = let f : 204 ≡ 200 = ap status_of is.is in absurd (omega (arith, f))
admitted_by side request body kinds.Update asks (update, is_update, is) = update_admitted side request body update asks is_update is
admitted_by side request body (kinds.OtherMethod allow) asks is = let f : 204 ≡ 405 = ap status_of is in absurd (omega (arith, f))
admitted_by side request body kinds.Nothing asks is = let f : 204 ≡ 404 = ap status_of is in absurd (omega (arith, f))

-- after a message that was admitted the newest version is its moment
last_pushed : (x : ℕ) (xs : List ℕ) (m : ℕ) → last_of x (xs ++ m ∷ []) ≡ m
last_pushed x [] m = refl
last_pushed x (y ∷ xs) m = last_pushed y xs m

newest_behind : (side : Side) (update : Update) (bytes : ℕ) → newest_of (with_message side update bytes) ≡ update.moment
newest_behind side update bytes =
    ap (last_of side.base_moment) (map-append (λ (e : Entry). e.update.moment) side.history (record { update = update; bytes = bytes; cuts = [] } ∷ []))
    ∙ last_pushed side.base_moment (moments_of side.history) update.moment

-- the side after what was admitted
behind_admitted : (side next : Side) (request : Request) (body : List ℕ) → WasAdmitted side request body → (asked : Asked) → asked ≡ kinds.Update → IsBehind side request body asked next
    → (update : Update) × IsMessage body update × (newest_of next ≡ update.moment)
behind_admitted side next request body was kinds.Update asks (None, none, is) = absurd (none was.update was.message)
behind_admitted side next request body was kinds.Update asks (Some update, message, is) =
    let one : was.update ≡ update = same_meaning body was.update update was.message message in
    let status : (status_of_update side request body (Some update) == 204) ≡ true = subst (λ (u : Update). (status_of_update side request body (Some u) == 204) ≡ true) one was.status in
    let next_is : next ≡ with_message side update (length body) = is ∙ ap (λ (b : Bool). if b then with_message side update (length body) else side) status in
    (update, message, ap newest_of next_is ∙ newest_behind side update (length body))
behind_admitted side next request body was kinds.Gate asks is = absurd (cc)
behind_admitted side next request body was kinds.Page asks is = absurd (cc)
behind_admitted side next request body was kinds.Stops asks is = absurd (cc)
behind_admitted side next request body was (kinds.OtherMethod allow) asks is = absurd (cc)
behind_admitted side next request body was kinds.Nothing asks is = absurd (cc)

pub admitted_once : AdmittedOnce
admitted_once side next bytes first again has step has_again =
    let r = has.request in
    let same : step.request ≡ r = one_request bytes step.request r step.whole has.whole in
    let same_again : has_again.request ≡ r = one_request bytes has_again.request r has_again.whole has.whole in
    let was = admitted_by side r (drop r.body_from bytes) (asked_at side r) refl has.said in
    let behind : IsBehind side r (drop r.body_from bytes) (asked_at side r) next = subst (λ (q : Request). IsBehind side q (drop q.body_from bytes) (asked_at side q) next) same step.behind in
    let said : IsResponseTo next r (drop r.body_from bytes) (asked_at next r) (Status 204) =
    subst (λ (q : Request). IsResponseTo next q (drop q.body_from bytes) (asked_at next q) (Status 204)) same_again has_again.said in
    let was_again = admitted_by next r (drop r.body_from bytes) (asked_at next r) refl said in
    let (update, message, newest) = behind_admitted side next r (drop r.body_from bytes) was (asked_at side r) was.asks behind in
    let above : newest_of next < was_again.update.moment = newer next r (drop r.body_from bytes) was_again.update was_again.status in
    let moment : was_again.update.moment ≡ update.moment = ap (λ (u : Update). u.moment) (same_meaning (drop r.body_from bytes) was_again.update update was_again.message message) in
    omega (arith, newest, above, moment)

-- THE VERSION THAT IS MEANT

abbrev Rising : List ℕ → Type 0
Rising numbers = AllPairs (λ (x y : ℕ). x < y) numbers

-- the last one of these that is not after the known moment, or the base
abbrev chosen : ℕ → ℕ → List ℕ → ℕ
chosen known base later = last_of base (filter (is_by (Some known)) later)

-- what is chosen is not after the known moment, or is the base
abbrev IsByOrBase : ℕ → ℕ → List ℕ → Type 0
IsByOrBase known base later = (chosen known base later ≤ known) ⊎ (chosen known base later ≡ base)

by_step : (known base next : ℕ) (rest : List ℕ) (b : Bool) → nat_le next known ≡ b → IsByOrBase known next rest → IsByOrBase known base rest → IsByOrBase known base (next ∷ rest)
by_step known base next rest true e (inl under) without = rw e (inl under)
by_step known base next rest true e (inr same) without = rw e (inl (let f : next ≤ known = grind (arith, nat_tests) in omega (arith, f, same)))
by_step known base next rest false e taken without = rw e without

is_by_or_base : (known base : ℕ) (later : List ℕ) → IsByOrBase known base later
is_by_or_base known base [] = inr refl
is_by_or_base known base (next ∷ rest) = by_step known base next rest (nat_le next known) refl (is_by_or_base known next rest) (is_by_or_base known base rest)

-- no later one that is not after the known moment comes after the chosen one
abbrev NoneBehind : ℕ → ℕ → List ℕ → Type 0
NoneBehind known base later = (other : ℕ) → Contains (base ∷ later) other → other ≤ known → other ≤ chosen known base later

behind_step : (known base next : ℕ) (rest : List ℕ) (b : Bool) → nat_le next known ≡ b → base < next → All (λ (y : ℕ). next < y) rest
    → NoneBehind known next rest → NoneBehind known base rest → NoneBehind known base (next ∷ rest)
behind_step known base next rest true e less above taken without other there by = rw e (
    let within : next ≤ known = grind (arith, nat_tests) in
    let self : next ≤ chosen known next rest = taken next (Contains-here next rest) within in
    elim (Contains-cases base (next ∷ rest) other there) [
      | inl same ↦ omega (arith, same, less, self)
      | inr behind ↦ taken other behind by
    ])
behind_step known base next rest false e less above taken without other there by = rw e (
    let over : known < next = grind (arith, nat_tests) in
    elim (Contains-cases base (next ∷ rest) other there) [
      | inl same ↦ without other (subst (λ (o : ℕ). Contains (base ∷ rest) o) same (Contains-here base rest)) by
      | inr behind ↦ elim (Contains-cases next rest other behind) [
        | inl is_next ↦ absurd (omega (arith, is_next, over, by))
        | inr further ↦ absurd (let f : next < other = All-contains (λ (y : ℕ). next < y) rest other above further in omega (arith, f, over, by))
      ]
    ])

none_behind : (known base : ℕ) (later : List ℕ) → Rising (base ∷ later) → NoneBehind known base later
none_behind known base [] rising other there by = elim (Contains-cases base [] other there) [
  | inl same ↦ omega (arith, same)
  | inr none ↦ absurd (Contains-nil other none)
]
none_behind known base (next ∷ rest) rising other there by =
    let R = λ (x y : ℕ). x < y in
    let head : All (λ (y : ℕ). base < y) (next ∷ rest) = AllPairs-head R base (next ∷ rest) rising in
    let tail : Rising (next ∷ rest) = AllPairs-tail R base (next ∷ rest) rising in
    behind_step known base next rest (nat_le next known) refl (All-head (λ (y : ℕ). base < y) next rest head) (AllPairs-head R next rest tail)
    (none_behind known next rest tail)
    (none_behind known base rest (AllPairs-cons R base rest (All-tail (λ (y : ℕ). base < y) next rest head) (AllPairs-tail R next rest tail)))
    other there by

pub none_later_is_meant : NoneLaterIsMeant
none_later_is_meant base moments text known version rising says (said, said_so, is) =
    let one : said ≡ known = one_http_moment text said known said_so says in
    let same : version ≡ chosen known base moments = sym (some_is_one _ _ is) ∙ ap (λ (k : ℕ). chosen k base moments) one in (
      subst (λ (v : ℕ). (v ≤ known) ⊎ (v ≡ base)) (sym same) (is_by_or_base known base moments),
      (λ other there by. subst (λ (v : ℕ). other ≤ v) (sym same) (none_behind known base moments rising other there by)),
    )
  where
    some_is_one : (x y : ℕ) → Some x ≡ Some y → x ≡ y
    some_is_one x y e = cc

-- all pass where no moment is known
all_pass : (moments : List ℕ) → filter (is_by None) moments ≡ moments
all_pass [] = refl
all_pass (m ∷ moments) = ap (λ (l : List ℕ). m ∷ l) (all_pass moments)

pub none_older_is_meant : NoneOlderIsMeant
none_older_is_meant base moments version rising is other there =
    let same : last_of base moments ≡ version = ap (last_of base) (sym (all_pass moments)) ∙ some_is_one _ _ is in
    subst (λ (v : ℕ). other ≤ v) same (All-contains (λ (y : ℕ). y ≤ last_of base moments) (base ∷ moments) other (last_is_greatest base moments rising) there)
  where
    some_is_one : (x y : ℕ) → Some x ≡ Some y → x ≡ y
    some_is_one x y e = cc

-- PAGES OF VERSIONS THAT ARE THERE

not_sent : (response : Response) (page : Page) (status : ℕ) → response ≡ responses.Page page → response ≡ Status status → status ≡ 200
unfolding status_of
not_sent response page status e is = ap status_of (sym is ∙ e)

page_in : Response → Page → Page
page_in (responses.Status status) other = other
page_in (responses.OtherMethod allow) other = other
page_in (responses.Found page departs) other = other
page_in (responses.Page page) other = page
page_in responses.Stops other = other

of_version : (side : Side) (there : Bool) (version departs : ℕ) (page : Page) → there ≡ has_version side version → IsSentOf side there version departs (responses.Page page) → has_version side page.name.version ≡ true
unfolding page_in
of_version side true version departs page e sent =
    let same : page ≡ sent.page = ap (λ (r : Response). page_in r page) sent.is in
    let named : page.name.version ≡ version = ap (λ (p : Page). p.name.version) (same ∙ sent.page_is.is) in
    ap (has_version side) named ∙ sym e
of_version side false version departs page e sent = absurd (let f : 404 ≡ 200 = not_sent (responses.Page page) page 404 refl sent in omega (arith, f))

page_of_version : (side : Side) (version departs : Option ℕ) (page : Page) → IsPageResponse side version departs (responses.Page page) → has_version side page.name.version ≡ true
page_of_version side version None page is = absurd (let f : 400 ≡ 200 = not_sent (responses.Page page) page 400 refl is in omega (arith, f))
page_of_version side None (Some departs) page is = absurd (let f : 400 ≡ 200 = not_sent (responses.Page page) page 400 refl is in omega (arith, f))
page_of_version side (Some version) (Some departs) page is = of_version side (has_version side version) version departs page refl is

gate_no_page : (side : Side) (departs version : Option ℕ) (page : Page) → IsGateResponse side departs version (responses.Page page) → ⊥
unfolding status_of
gate_no_page side None version page is = let f : 200 ≡ 400 = ap status_of is in omega (arith, f)
gate_no_page side (Some departs) None page is = let f : 200 ≡ 400 = ap status_of is in omega (arith, f)
gate_no_page side (Some departs) (Some version) page is = let f : 200 ≡ 302 = ap status_of is.is in omega (arith, f)

no_status_200 : (side : Side) (request : Request) (body : List ℕ) (update : Option Update) → status_of_update side request body update ≡ 200 → ⊥
no_status_200 side request body None e = none (says_length request) (nat_lt 16_777_216 (length body)) e where
  none : (said long : Bool) → status_of_none said long ≡ 200 → ⊥
  none false long e = omega (arith, e)
  none true true e = omega (arith, e)
  none true false e = omega (arith, e)
no_status_200 side request body (Some update) e = some (says_length request) (nat_lt 16_777_216 (length body)) (nat_le update.moment (newest_of side)) (is_full side.history (length body)) e where
  some : (said long old full : Bool) → status_of_some said long old full ≡ 200 → ⊥
  some false long old full e = omega (arith, e)
  some true true old full e = omega (arith, e)
  some true false true full e = omega (arith, e)
  some true false false true e = omega (arith, e)
  some true false false false e = omega (arith, e)

sent_of : (side : Side) (request : Request) (body : List ℕ) (asked : Asked) (page : Page) → IsResponseTo side request body asked (responses.Page page) → has_version side page.name.version ≡ true
unfolding status_of
sent_of side request body kinds.Gate page (departs, version, is_departs, is_version, is) = absurd (gate_no_page side departs version page is)
sent_of side request body kinds.Page page (departs, version, is_departs, is_version, is) = page_of_version side version departs page is
sent_of side request body kinds.Stops page is = absurd (stops_not_page is.is) where
  stops_not_page : responses.Page page ≡ responses.Stops → ⊥
  stops_not_page e = cc
sent_of side request body kinds.Update page (update, is_update, is) = absurd (no_status_200 side request body update (sym (ap status_of is)))
sent_of side request body (kinds.OtherMethod allow) page is = let f : 200 ≡ 405 = ap status_of is in absurd (omega (arith, f))
sent_of side request body kinds.Nothing page is = let f : 200 ≡ 404 = ap status_of is in absurd (omega (arith, f))

pub sent_of_its_versions : SentOfItsVersions
sent_of_its_versions side bytes text page has = sent_of side has.request (drop has.request.body_from bytes) (asked_at side has.request) page has.said
