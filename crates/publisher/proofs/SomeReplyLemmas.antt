-- Each whole request has a reply of a sound side, and leaves a side.
use Rattle.std.proofs.Common.{◌≡◌, ◌⊎◌, inl, inr, ℕ, ◌+◌, ◌<◌, ◌≤◌, List, ◌∷◌, drop, Bool, true, false, Option, Some, None, refl, sym, ◌∙◌, arith}
use Rattle.std.specs.Prelude.{codes, nat_le, IfSome}
use Rattle.std.proofs.lemmas.Bool.Decides.{nat_tests}
use Rattle.httpdate.specs.Date.{IsPartsText}
use Rattle.httpdate.specs.declared.parts.Parts.{Parts}
use Rattle.page_json.proofs.ObjectMembersLemmas.DecisionsLemmas.{below, both, same_text, turn}
use Rattle.page_json.proofs.ObjectMembersLemmas.MomentDecidedLemmas.{moments}
use Rattle.lc_time.specs.Http.{SaysHttpDate, http_parts_of, without_blanks}
use Rattle.lc_model.specs.Versions.History.{moments_of}
use Rattle.lc_model.specs.Versions.Named.{version_named}
use Rattle.lc_model.specs.Versions.Pages.{departures_of}
use Rattle.lc_model.specs.declared.versions.update.Update.{Update}
use Rattle.http_text.specs.Request.{request_of}
use Rattle.http_text.specs.declared.request.Request.{Request}
use Rattle.memento.specs.Negotiation.{Negotiates}
use Rattle.page_json.specs.declared.page.Page.{Page}
use Rattle.trip_updates.specs.Faults.{fault_of}
use Rattle.trip_updates.specs.Message.{IsMessage}
use Rattle.trip_updates.specs.declared.fault.RtFault.{RtFault}
use Rattle.trip_updates.proofs.TreesLemmas.{has_meaning, never_both}
use Rattle.lc_world.specs.Sides.Asked.{field_value, member_value}
use Rattle.lc_world.specs.Sides.PageAt.{page_at}
use Rattle.lc_world.specs.Sides.Reply.{IsBehind, side_behind, text_said}
use Rattle.lc_world.specs.Sides.Response.{IsGateResponse, IsMessageIn, IsPageOf, IsPageResponse, IsResponseTo, IsSentOf, IsTheOne, SaysDeparture, SaysVersion, asked_at, status_of_update}
use Rattle.lc_world.specs.Sides.Side.{IsValidSide, Side, has_version, versions_of}
use Rattle.lc_world.specs.declared.sides.asked.Asked.{Asked}
use Rattle.lc_world.specs.declared.sides.asked.Asked.TheVariants as kinds
use Rattle.lc_world.specs.declared.sides.response.Response.{Response}
use Rattle.lc_world.specs.declared.sides.response.Response.TheVariants.{Status, OtherMethod, Found, Stops}
use Rattle.lc_world.specs.declared.sides.response.Response.TheVariants as responses
use Rattle.publisher.specs.Laws.{IsSoundSide, SomeNextSide, SomeReply}
use Rattle.publisher.proofs.TimetableLemmas.{some_list}
use Rattle.publisher.proofs.VersionsLemmas.{negotiated_is_there}

-- WHAT CAN BE FOUND OUT

some_one : {X : Type 0} (IsSo : X → Type 0) → Dec ((x : X) × IsSo x) → (o : Option X) × IsTheOne IsSo o
some_one IsSo (yes h) = (Some h.0, h.1)
some_one IsSo (no none) = (None, λ x is. none (x, is))

either : {P Q : Type 0} → Dec P → Dec Q → Dec (P ⊎ Q)
either (yes h) d = yes (inl h)
either (no none) (yes k) = yes (inr k)
either (no none) (no other) = no (λ is. elim is [ inl h ↦ none h | inr k ↦ other k ])

at_most_by : (a b : ℕ) (t : Bool) → nat_le a b ≡ t → Dec (a ≤ b)
at_most_by a b true e = yes (grind (arith, nat_tests))
at_most_by a b false e = no (λ h. let over : b < a = grind (arith, nat_tests) in omega (arith, h, over))

at_most : (a b : ℕ) → Dec (a ≤ b)
at_most a b = at_most_by a b (nat_le a b) refl

less : (a b : ℕ) → Dec (a < b)
less a b = turn (λ h. omega (arith, h)) (λ h. omega (arith, h)) (at_most (1 + a) b)

parts_text : (text : List ℕ) (p : Parts) → Dec (IsPartsText text p)
parts_text text p = either (same_text text _) (either (both (same_text text _) (at_most p.year 2069)) (either (same_text text _) (both (same_text text _) (less p.day 10))))

http_moment : (text : List ℕ) → Dec ((m : ℕ) × SaysHttpDate text m)
http_moment text =
    turn (λ h. (h.0, record { in_range = h.1; written = h.2 })) (λ h. (h.0, h.1.in_range, h.1.written))
    (below (λ m. IsPartsText (without_blanks text) (http_parts_of m)) (λ m. parts_text (without_blanks text) (http_parts_of m)) 253_402_128_000)

departure : (said : Option (List ℕ)) → Dec ((m : ℕ) × SaysDeparture said m)
departure None = yes (0, refl)
departure (Some text) = moments text

version : (said : Option (List ℕ)) → Dec ((m : ℕ) × SaysVersion said m)
version None = no (λ h. h.1)
version (Some text) = moments text

negotiated : (base : ℕ) (later : List ℕ) (said : Option (List ℕ)) → Dec ((v : ℕ) × Negotiates (base ∷ later) said v)
negotiated base later None = yes (version_named base later None, refl)
negotiated base later (Some text) = elim (http_moment text) [
  | yes h ↦ yes (version_named base later (Some h.0), (h.0, h.1, refl))
  | no none ↦ no (λ h. none (h.1.0, h.1.1))
]

message_by : (body : List ℕ) (first : Option RtFault) → fault_of body ≡ first → Dec ((u : Update) × IsMessage body u)
message_by body None e = yes (has_meaning body e)
message_by body (Some fault) e = no (λ h. let f : Some fault ≡ None = sym e ∙ never_both body h.0 h.1 in cc)

message : (body : List ℕ) → (update : Option Update) × IsMessageIn body update
message body = some_one (IsMessage body) (message_by body (fault_of body) refl)

-- WHAT IS SAID

some_page : (side : Side) (v departs : ℕ) → IsValidSide side → (page : Page) × IsPageOf side v departs page
some_page side v departs valid =
    let list = some_list side v valid in
    (page_at v (side.cuts_of (departures_of list.0)) list.0 departs, record { list = list.0; timetable = list.1; is = refl })

gate : (side : Side) (departs v : Option ℕ) → IsValidSide side → IsSoundSide side → IfSome v (λ w. has_version side w ≡ true) → (response : Response) × IsGateResponse side departs v response
gate side None v valid sound there = (Status 400, refl)
gate side (Some departs) None valid sound there = (Status 400, refl)
gate side (Some departs) (Some v) valid sound there =
    let page = some_page side v departs valid in
    (Found page.0.name departs, record { page = page.0; page_is = page.1; sound = (sound.pages v departs page.0 there page.1).name; is = refl })

sent : (side : Side) (there : Bool) (v departs : ℕ) → has_version side v ≡ there → IsValidSide side → IsSoundSide side → (response : Response) × IsSentOf side there v departs response
sent side true v departs there valid sound =
    let page = some_page side v departs valid in
    (responses.Page page.0, record { page = page.0; page_is = page.1; sound = sound.pages v departs page.0 there page.1; is = refl })
sent side false v departs there valid sound = (Status 404, refl)

memento : (side : Side) (v departs : Option ℕ) → IsValidSide side → IsSoundSide side → (response : Response) × IsPageResponse side v departs response
memento side v None valid sound = (Status 400, refl)
memento side None (Some departs) valid sound = (Status 400, refl)
memento side (Some v) (Some departs) valid sound = sent side (has_version side v) v departs refl valid sound

there_if_some : (side : Side) (said : Option (List ℕ)) (v : Option ℕ) → IsTheOne (Negotiates (versions_of side) said) v → IfSome v (λ w. has_version side w ≡ true)
there_if_some side said None is = tt
there_if_some side said (Some v) is = negotiated_is_there (versions_of side) said v is

respond : (side : Side) (request : Request) (body : List ℕ) (asked : Asked) → IsValidSide side → IsSoundSide side → (response : Response) × IsResponseTo side request body asked response
respond side request body kinds.Gate valid sound =
    let said = member_value (codes "departureTime") request.query in
    let known = field_value (codes "accept-datetime") request.fields in
    let departs = some_one (SaysDeparture said) (departure said) in
    let v = some_one (Negotiates (versions_of side) known) (negotiated side.base_moment (moments_of side.history) known) in
    let is = gate side departs.0 v.0 valid sound (there_if_some side known v.0 v.1) in
    (is.0, (departs.0, v.0, departs.1, v.1, is.1))
respond side request body kinds.Page valid sound =
    let said = member_value (codes "departureTime") request.query in
    let asked = member_value (codes "version") request.query in
    let departs = some_one (SaysDeparture said) (departure said) in
    let v = some_one (SaysVersion asked) (version asked) in
    let is = memento side v.0 departs.0 valid sound in
    (is.0, (departs.0, v.0, departs.1, v.1, is.1))
respond side request body kinds.Stops valid sound = (Stops, record { sound = sound.doc; is = refl })
respond side request body kinds.Update valid sound =
    let update = message body in
    (Status (status_of_update side request body update.0), (update.0, update.1, refl))
respond side request body (kinds.OtherMethod allow) valid sound = (OtherMethod allow, refl)
respond side request body kinds.Nothing valid sound = (Status 404, refl)

pub some_reply : SomeReply
some_reply side bytes valid sound (h, body, whole) =
    let r = request_of h in
    let is = respond side r (drop r.body_from bytes) (asked_at side r) valid sound in
    (text_said side r is.0, (is.0, record { request = r; whole = (h, body, whole, refl); said = is.1; text_is = refl }))

behind : (side : Side) (request : Request) (body : List ℕ) (asked : Asked) → (next : Side) × IsBehind side request body asked next
behind side request body kinds.Gate = (side, refl)
behind side request body kinds.Page = (side, refl)
behind side request body kinds.Stops = (side, refl)
behind side request body kinds.Update = (let update = message body in (side_behind side request body update.0, (update.0, update.1, refl)))
behind side request body (kinds.OtherMethod allow) = (side, refl)
behind side request body kinds.Nothing = (side, refl)

pub some_next_side : SomeNextSide
some_next_side side bytes (h, body, whole) =
    let r = request_of h in
    let is = behind side r (drop r.body_from bytes) (asked_at side r) in
    (is.0, record { request = r; whole = (h, body, whole, refl); behind = is.1 })
