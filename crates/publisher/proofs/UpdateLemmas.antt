-- What becomes of a body at a side is what the store makes of it.
use Rattle.std.proofs.Common.{Vec, Global, Result, Ok, Err, ◌≡◌, ℕ, ◌<◌, ◌≤◌, ◌⊎◌, inl, inr, List, [], ◌∷◌, ◌++◌, length, Bool, true, false, Option, Some, None, refl, ap, sym, subst, ◌∙◌, arith}
use Rattle.std.specs.Prelude.{nat_le, nat_lt, ◌==◌, ◌||◌, ◌+◌, IfOk, OnErr}
use Rattle.std.proofs.lemmas.Bool.{le-leb, lt-leb, lt-ltb}
use Rattle.std.proofs.lemmas.Bool.Decides.{nat_tests}
use Rattle.lc_model.specs.Versions.History.{Entry}
use Rattle.lc_model.specs.declared.versions.update.Update.{Update}
use Rattle.http_text.specs.declared.request.Request.{Request}
use Rattle.trip_updates.specs.Faults.{fault_of}
use Rattle.trip_updates.specs.Message.{IsMessage}
use Rattle.trip_updates.specs.declared.fault.RtFault.{RtFault}
use Rattle.trip_updates.proofs.TreesLemmas.{has_meaning, never_both}
use Rattle.version_store.specs.Admission.{HasRoom, IsFullFor, IsRefused, IsTaken}
use Rattle.version_store.specs.declared.admission.AdmitFault.{AdmitFault}
use Rattle.version_store.specs.declared.admission.AdmitFault.TheVariants as faults
use Rattle.publisher.specs.Held.{Held, side_of}
use Rattle.publisher.specs.Updated.{Becomes, IsRefusal, IsUpdated, status_of_fault}
use Rattle.version_store.specs.Store.{Stored, entry_of}
use Rattle.lc_world.specs.declared.sides.response.Response.TheVariants.{Status}
use Rattle.lc_world.specs.Sides.Reply.{side_behind, text_said}
use Rattle.lc_world.specs.Sides.Response.{IsMessageIn, bytes_of, is_full, says_length, status_of_update}
use Rattle.lc_world.specs.Sides.Side.{Side, newest_of, with_message}

-- a body is a message, or none
some_message_by : (body : List ℕ) (fault : Option RtFault) → fault_of body ≡ fault → (update : Option Update) × IsMessageIn body update
some_message_by body None is = let m = has_meaning body is in (Some m.0, m.1)
some_message_by body (Some fault) is = (None, λ update message. let none : fault_of body ≡ None = never_both body update message in cc)

pub some_message : (body : List ℕ) → (update : Option Update) × IsMessageIn body update
some_message body = some_message_by body (fault_of body) refl

-- no message is admitted by another status
not_admitted : (side : Side) (request : Request) (body : List ℕ) (update : Option Update) → (status_of_update side request body update == 204) ≡ false → side ≡ side_behind side request body update
not_admitted side request body None is = refl
not_admitted side request body (Some update) is = rw is refl

-- without a length the body is not looked at
pub without_length : (side : Side) (request : Request) (body : List ℕ) → says_length request ≡ false → Becomes side request body 411 side
without_length side request body silent =
    let (update, is) = some_message body in
    let status : status_of_update side request body update ≡ 411 = rw silent refl in
    record { update = update; update_is = is; status_is = sym status; next_is = not_admitted side request body update (ap (λ s. s == 204) status) }

module _ (side : Side) (request : Request) (body : List ℕ) (said : says_length request ≡ true) where
  -- a body that is too long
  pub too_long : 16_777_216 < length body → Becomes side request body 413 side
  too_long long =
      let (update, is) = some_message body in
      let over : nat_lt 16_777_216 (length body) ≡ true = lt-ltb 16_777_216 (length body) long in
      let status : status_of_update side request body update ≡ 413 = rw (said, over) refl in
      record { update = update; update_is = is; status_is = sym status; next_is = not_admitted side request body update (ap (λ s. s == 204) status) }

  -- a body that is not
  module _ (short : length body ≤ 16_777_216) where
    under : nat_lt 16_777_216 (length body) ≡ false
    under = grind (arith, nat_tests)

    pub broken : (fault : RtFault) → fault_of body ≡ Some fault → Becomes side request body 400 side
    broken fault is =
        let status : status_of_update side request body None ≡ 400 = rw (said, under) refl in
        record {
          update = None;
          update_is = λ update message. let none : fault_of body ≡ None = never_both body update message in cc;
          status_is = sym status;
          next_is = refl;
        }

    pub not_newer : (update : Update) → IsMessage body update → update.moment ≤ newest_of side → Becomes side request body 409 side
    not_newer update message old =
        let late : nat_le update.moment (newest_of side) ≡ true = le-leb update.moment (newest_of side) old in
        let status : status_of_update side request body (Some update) ≡ 409 = rw (said, under, late) refl in
        record { update = Some update; update_is = message; status_is = sym status; next_is = not_admitted side request body (Some update) (ap (λ s. s == 204) status) }

    pub full : (update : Update) → IsMessage body update → newest_of side < update.moment → is_full side.history (length body) ≡ true → Becomes side request body 507 side
    full update message new is =
        let late : nat_le update.moment (newest_of side) ≡ false = lt-leb update.moment (newest_of side) new in
        let status : status_of_update side request body (Some update) ≡ 507 = rw (said, under, late, is) refl in
        record { update = Some update; update_is = message; status_is = sym status; next_is = not_admitted side request body (Some update) (ap (λ s. s == 204) status) }

    pub admitted : (update : Update) → IsMessage body update → newest_of side < update.moment → is_full side.history (length body) ≡ false
        → Becomes side request body 204 (with_message side update (length body))
    admitted update message new is =
        let late : nat_le update.moment (newest_of side) ≡ false = lt-leb update.moment (newest_of side) new in
        let status : status_of_update side request body (Some update) ≡ 204 = rw (said, under, late, is) refl in
        record { update = Some update; update_is = message; status_is = sym status; next_is = rw status refl }

-- the test says when there is no room
pub is_full_for : (history : List Entry) (bytes : ℕ) → IsFullFor history bytes → is_full history bytes ≡ true
is_full_for history bytes (inl many) = rw (le-leb 10_000 (length history) many) refl
is_full_for history bytes (inr long) =
    let over : nat_lt 268_435_456 (bytes_of history + bytes) ≡ true = lt-ltb 268_435_456 (bytes_of history + bytes) long in
    full_by (nat_le 10_000 (length history)) over
  where
    full_by : (many : Bool) {long : Bool} → long ≡ true → (many || long) ≡ true
    full_by true is = refl
    full_by false is = is

pub has_room : (history : List Entry) (bytes : ℕ) → HasRoom history bytes → is_full history bytes ≡ false
has_room history bytes room =
    let few : nat_le 10_000 (length history) ≡ false = lt-leb 10_000 (length history) room.for_one in
    let fits : nat_lt 268_435_456 (bytes_of history + bytes) ≡ false = let for_bytes = room.for_bytes in grind (arith, nat_tests) in
    rw (few, fits) refl

-- the status of a refusal, and the side stays
refused_by : {G : Type 0} (cuts_of : G → List ℕ → List ℕ) (held : Held G) (request : Request) (body : List ℕ) (fault : AdmitFault) (status : ℕ) → says_length request ≡ true
    → IsRefused held.store body fault → status_of_fault fault ≡ Some status → Becomes (side_of cuts_of held) request body status (side_of cuts_of held)
refused_by cuts_of held request body (faults.TooLong count) status said cause is =
    let side = side_of cuts_of held in
    subst (λ (s : ℕ). Becomes side request body s side) (let e : 413 ≡ status = cc in e) (too_long side request body said cause.0)
refused_by cuts_of held request body (faults.Broken fault) status said cause is =
    let side = side_of cuts_of held in
    subst (λ (s : ℕ). Becomes side request body s side) (let e : 400 ≡ status = cc in e) (broken side request body said cause.short fault cause.first)
refused_by cuts_of held request body (faults.NotNewer newest) status said cause is =
    let side = side_of cuts_of held in
    subst (λ (s : ℕ). Becomes side request body s side) (let e : 409 ≡ status = cc in e) (not_newer side request body said cause.short cause.update cause.message cause.not_newer)
refused_by cuts_of held request body (faults.Full messages kept) status said cause is =
    let side = side_of cuts_of held in
    subst (λ (s : ℕ). Becomes side request body s side) (let e : 507 ≡ status = cc in e)
    (full side request body said cause.short cause.update cause.message cause.newer (is_full_for held.store.history (length body) cause.full))
refused_by cuts_of held request body faults.NoMemory status said cause is = absurd cause

pub refused : {G : Type 0} (cuts_of : G → List ℕ → List ℕ) (held : Held G) (request : Request) (body : List ℕ) (fault : AdmitFault) (status : ℕ) → says_length request ≡ true
    → (fault ≡ faults.NoMemory) ⊎ IsRefused held.store body fault → status_of_fault fault ≡ Some status → Becomes (side_of cuts_of held) request body status (side_of cuts_of held)
refused cuts_of held request body fault status said (inl want) is =
    let none : status_of_fault fault ≡ None = ap status_of_fault want in
    absurd (let clash : None ≡ Some status = sym none ∙ is in cc)
refused cuts_of held request body fault status said (inr cause) is = refused_by cuts_of held request body fault status said cause is

-- a message that is taken is one more
pub taken : {G : Type 0} (cuts_of : G → List ℕ → List ℕ) (held : Held G) (request : Request) (body : List ℕ) (update : Update) → says_length request ≡ true
    → IsTaken held.store body update → Becomes (side_of cuts_of held) request body 204 (with_message (side_of cuts_of held) update (length body))
taken cuts_of held request body update said is =
    admitted (side_of cuts_of held) request body said is.short update is.message is.newer (has_room held.store.history (length body) is.room)

-- a reply by the status of the body
pub updated_if : {E : Type 0} (side next : Side) (request : Request) (body : List ℕ) (status : ℕ) (reply : Result (Vec ℕ Global) E) → Becomes side request body status next
    → IfOk reply (λ text. text.items ≡ text_said side request (Status status)) → IfOk reply (λ text. IsUpdated side request body text.items next)
updated_if side next request body status (Ok text) becomes is = record { status = status; becomes = becomes; text_is = is }
updated_if side next request body status (Err e) becomes is = tt

-- the side of a publisher to whose store a message was admitted
pub admitted_side : {G : Type 0} (cuts_of : G → List ℕ → List ℕ) (old new : Held G) (update : Update) (bytes : ℕ) → new ≡ record old { store = new.store }
    → new.store ≡ record old.store { history = old.store.history ++ entry_of update bytes ∷ [] } → side_of cuts_of new ≡ with_message (side_of cuts_of old) update bytes
admitted_side cuts_of old new update bytes same appended = ap (side_of cuts_of) (same ∙ ap (λ (store : Stored). record old { store = store }) appended)

-- what is so is so after an error
pub on_err : {T E : Type 0} (P : Type 0) (r : Result T E) → P → OnErr r P
on_err P (Ok x) is = tt
on_err P (Err e) is = is

-- the reply to a message that is not admitted
pub refusal_if : {G E : Type 0} (cuts_of : G → List ℕ → List ℕ) (held : Held G) (request : Request) (body : List ℕ) (fault : AdmitFault) (reply : Result (Vec ℕ Global) E)
    → says_length request ≡ true → (fault ≡ faults.NoMemory) ⊎ IsRefused held.store body fault
    → IfOk reply (λ text. IsRefusal (side_of cuts_of held) request fault text.items)
    → IfOk reply (λ text. IsUpdated (side_of cuts_of held) request body text.items (side_of cuts_of held))
refusal_if cuts_of held request body fault (Ok text) said cause is =
    record { status = is.status; becomes = refused cuts_of held request body fault is.status said cause is.status_is; text_is = is.text_is }
refusal_if cuts_of held request body fault (Err e) said cause is = tt
