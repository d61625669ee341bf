-- What a relay keeps after an exchange, and when it asks the link below.
use Rattle.std.specs.Prelude.{◌≡◌, ◌⊎◌, ℕ, List, [], Option, Some, None, Result, Ok, Err, IsErrOf}
use Rattle.connection_uri.specs.Base.{BaseParts}
use Rattle.lc_io.specs.Counts.{HasCause, one_more}
use Rattle.lc_world.specs.Link.{LinkSeen, Tells}
use Rattle.lc_world.specs.declared.link.LinkFail.{LinkFail}
use Rattle.lc_world.specs.declared.link.LinkFail.TheVariants.{Failed, NoMemory}
use Rattle.page_relay.specs.Keeping.{IsToKeep}
use Rattle.page_relay.specs.Kept.{Kept, reply_for, with_kept, with_used}
use Rattle.page_relay.specs.declared.sent.SentRequest.{SentRequest}

-- an exchange: what was sent, and what it was replied; or none, where it failed or memory ran out
pub record Exchanged : Type 0 where
  pub sent : SentRequest
  pub reply : Option (List ℕ)

-- the reply of an exchange with this result, which left these bytes
abbrev pub reply_of : {T : Type 0} → Result T LinkFail → List ℕ → Option (List ℕ)
reply_of (Ok done) bytes = Some bytes
reply_of (Err fail) bytes = None

-- A reply that came by the link below: it is kept where it has to be, and else nothing more is.
abbrev pub KeepsReply : BaseParts → ℕ → List Kept → SentRequest → List ℕ → List Kept → Type 0
KeepsReply base entries kept sent reply now =
    (IsToKeep base sent.request reply × (now ≡ with_kept entries sent reply kept)) ⊎ (¬ (IsToKeep base sent.request reply) × (now ≡ kept))

-- What is kept after an exchange, by the reply that was kept for its request, if there was one, and by the reply that it gave. One that was
-- kept is given, and was used. One that was not is kept where it has to be. Without a reply nothing changes.
abbrev pub GoesOn : BaseParts → ℕ → List Kept → SentRequest → Option (List ℕ) → Option (List ℕ) → List Kept → Type 0
GoesOn base entries kept sent (Some held) (Some reply) now = (reply ≡ held) × (now ≡ with_used sent kept)
GoesOn base entries kept sent None (Some reply) now = KeepsReply base entries kept sent reply now
GoesOn base entries kept sent held None now = now ≡ kept

-- what is kept after an exchange
abbrev pub IsKeptAfter : BaseParts → ℕ → List Kept → Exchanged → List Kept → Type 0
IsKeptAfter base entries kept exchanged now =
    GoesOn base entries kept exchanged.sent (reply_for exchanged.sent kept) exchanged.reply now

-- an exchange of a link was recorded, where the link records any, and has failed, if it has
pub record HasAsked {T : Type 0} (recorded : Type 0) (faults now_faults : ℕ) (result : Result T LinkFail) : Type 0 where
  pub tells : recorded
  pub has_cause : HasCause faults now_faults (IsErrOf result Failed)

-- a link was asked a request once, with this result
abbrev pub Asks : {T : Type 0} → LinkSeen → LinkSeen → List ℕ → List ℕ → List ℕ → Result T LinkFail → Type 0
Asks before after authority request reply result =
    HasAsked (Tells before.recorded after.recorded authority request reply result) before.faults after.faults result

-- a link was asked a request once, whatever it replied
abbrev pub AsksOnce : LinkSeen → LinkSeen → List ℕ → List ℕ → Type 0
AsksOnce before after authority request =
    (reply : List ℕ) × (result : Result (Unit {0}) LinkFail) × Asks before after authority request reply result

-- Whether the link below was asked, and what that gave, by the reply that was kept for the request. Where there was one it was not asked, and the
-- exchange has not failed. Else it was, once, which is counted, and its reply or its failure is that of the exchange. Where memory ran out it may
-- have been asked.
abbrev pub AsksBelow : {X T : Type 0} → (X → LinkSeen) → X → X → ℕ → ℕ → List ℕ → List ℕ → Option (List ℕ) → List ℕ → Result T LinkFail → Type 0
AsksBelow seen before after count now_count authority request (Some held) reply (Ok done) = (after ≡ before) × (now_count ≡ count)
AsksBelow seen before after count now_count authority request (Some held) reply (Err Failed) = ⊥
AsksBelow seen before after count now_count authority request (Some held) reply (Err NoMemory) = (after ≡ before) × (now_count ≡ count)
AsksBelow seen before after count now_count authority request None reply (Ok done) =
    Asks (seen before) (seen after) authority request reply (Ok done) × (now_count ≡ one_more count)
AsksBelow {X} {T} seen before after count now_count authority request None reply (Err Failed) =
    Asks {T = T} (seen before) (seen after) authority request [] (Err Failed) × (now_count ≡ one_more count)
AsksBelow seen before after count now_count authority request None reply (Err NoMemory) =
    ((after ≡ before) × (now_count ≡ count)) ⊎ (AsksOnce (seen before) (seen after) authority request × (now_count ≡ one_more count))
