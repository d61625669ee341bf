-- What a relay records of its exchanges, and what it says of the link below.
use Rattle.std.specs.Prelude.{◌≡◌, ◌⊎◌, ◌-◌, ◌^◌, ℕ, Bool, true, false, IsTrue, min, List, [], ◌∷◌, ◌++◌, length, Option, option_map, Result, Ok, Err, Contains}
use Rattle.std.specs.List.{All}
use Rattle.connection_uri.specs.Base.{BaseParts}
use Rattle.lc_world.specs.ListLink.{entry_of}
use Rattle.lc_world.specs.declared.entry.Entry.{Entry}
use Rattle.lc_world.specs.declared.entry.RecordedReply.{RecordedReply}
use Rattle.lc_world.specs.declared.entry.RecordedReply.TheVariants as recorded_replies
use Rattle.lc_world.specs.declared.link.LinkFail.{LinkFail}
use Rattle.lc_world.specs.declared.link.LinkFail.TheVariants.{Failed, NoMemory}
use Rattle.page_relay.specs.HandedOn.{Follows}
use Rattle.page_relay.specs.Kept.{Kept}

-- what is recorded of an exchange: the reply that it gave, or that it failed
abbrev pub recorded_reply : Bool → List ℕ → RecordedReply
recorded_reply true reply = recorded_replies.Reply reply
recorded_reply false reply = recorded_replies.Failed

-- An exchange with this result is recorded by the reply that it gave, or that it failed. One in which memory ran out is not recorded.
abbrev pub Records : {T : Type 0} → List Entry → List Entry → List ℕ → List ℕ → List ℕ → Result T LinkFail → Type 0
Records before after authority request reply (Ok done) = after ≡ before ++ entry_of authority request (recorded_replies.Reply reply) ∷ []
Records before after authority request reply (Err Failed) = after ≡ before ++ entry_of authority request recorded_replies.Failed ∷ []
Records before after authority request reply (Err NoMemory) = after ≡ before

-- whether an exchange with this result is recorded by every link that records exchanges
abbrev pub known_of : {T : Type 0} → Result T LinkFail → Bool
known_of (Ok done) = true
known_of (Err Failed) = true
known_of (Err NoMemory) = false

-- one of these exchanges was this request to this authority, and if its reply is recorded it is this
pub record IsReplied (handed_on : List Entry) (authority request reply : List ℕ) : Type 0 where
  pub entry : Entry
  pub there : Contains handed_on entry
  pub authority_is : entry.authority ≡ authority
  pub request_is : entry.request ≡ request
  pub reply_is : (entry.reply ≡ recorded_replies.Hidden) ⊎ (entry.reply ≡ recorded_replies.Reply reply)

-- a reply that is kept came by one of these exchanges
abbrev pub IsKeptOf : List Entry → Kept → Type 0
IsKeptOf handed_on kept = IsReplied handed_on kept.0.authority kept.0.request kept.1

-- This is recorded of an exchange of a relay: the reply that it gave, which came by one of these exchanges, or that it failed. It is never hidden.
abbrev pub IsGiven : List Entry → List ℕ → List ℕ → RecordedReply → Type 0
IsGiven handed_on authority request recorded_replies.Hidden = ⊥
IsGiven handed_on authority request recorded_replies.Failed = Unit {0}
IsGiven handed_on authority request (recorded_replies.Reply reply) = IsReplied handed_on authority request reply

-- of each exchange it is recorded so
abbrev pub IsGivenOf : List Entry → Entry → Type 0
IsGivenOf handed_on entry = IsGiven handed_on entry.authority entry.request entry.reply

-- so many, up to the last value of a count
abbrev pub counted : List Entry → ℕ
counted entries = min (length entries) (2 ^ 64 - 1)

-- What holds of every relay, over a link that had recorded the first list when the relay was made, and has recorded the second now, if it records
-- any. It has recorded exchanges since, by which all came that the relay keeps and has given. If the counts are exact the one is that of the
-- relay's own exchanges, and the other that of the exchanges which the link below has recorded since.
pub record IsRecorded (made now : Option (List Entry)) (kept : List Kept) (own : List Entry) (relayed forwarded : ℕ) (exact : Bool) : Type 0 where
  pub handed_on : List Entry
  pub is : now ≡ option_map (λ (before : List Entry). before ++ handed_on) made
  pub kept_of : All (IsKeptOf handed_on) kept
  pub given_of : All (IsGivenOf handed_on) own
  pub relayed_is : IsTrue exact → relayed ≡ counted own
  pub forwarded_is : IsTrue exact → forwarded ≡ counted handed_on

-- And of a relay that keeps so many replies under this base. If its counts are exact, what it keeps follows from its own exchanges, and so does
-- which of them it handed on: those are what the link below has recorded since.
pub record HasRelayed (base : BaseParts) (entries : ℕ) (made now : Option (List Entry)) (kept : List Kept) (own : List Entry) (relayed forwarded : ℕ) (exact : Bool) : Type 0 where
  pub recorded : IsRecorded made now kept own relayed forwarded exact
  pub follows : IsTrue exact → Follows base entries made now own kept forwarded
