-- Which exchanges of a relay are handed on, and what it keeps after them. Both follow from its own exchanges.
use Rattle.std.specs.Prelude.{◌≡◌, ◌⊎◌, ◌-◌, ◌^◌, ℕ, List, [], ◌∷◌, ◌++◌, length, min, Option, Some, None, option_map}
use Rattle.connection_uri.specs.Base.{BaseParts}
use Rattle.lc_world.specs.declared.entry.Entry.{Entry}
use Rattle.lc_world.specs.declared.entry.RecordedReply.{RecordedReply}
use Rattle.lc_world.specs.declared.entry.RecordedReply.TheVariants.{Failed, Hidden, Reply}
use Rattle.page_relay.specs.Exchanges.{Exchanged, IsKeptAfter}
use Rattle.page_relay.specs.Kept.{Kept, reply_for, sent_to}

-- the reply that was recorded, if one was
abbrev pub reply_in : RecordedReply → Option (List ℕ)
reply_in Hidden = None
reply_in Failed = None
reply_in (Reply reply) = Some reply

-- an exchange as it was recorded
abbrev pub exchanged_of : Entry → Exchanged
exchanged_of entry = record { sent = sent_to entry.authority entry.request; reply = reply_in entry.reply }

-- The link below has recorded this for an exchange of the relay. It is the same request to the same authority, with the same end unless that
-- link hides it.
pub record IsRecordedBelow (entry below : Entry) : Type 0 where
  pub authority_is : below.authority ≡ entry.authority
  pub request_is : below.request ≡ entry.request
  pub end_is : (below.reply ≡ Hidden) ⊎ (below.reply ≡ entry.reply)

-- What was handed on from an exchange on, by the reply that was kept for it, and what was handed on after it. Where a reply was kept the exchange
-- gave that, and was not handed on. Else the exchange comes first.
abbrev pub IsHandedOn : Option (List ℕ) → Entry → List Entry → List Entry → Type 0
IsHandedOn (Some held) entry rest handed_on = (entry.reply ≡ Reply held) × (handed_on ≡ rest)
IsHandedOn None entry rest handed_on = (below : Entry) × IsRecordedBelow entry below × (handed_on ≡ below ∷ rest)

-- The exchanges of a relay, from what it keeps before them: what it keeps after them, and those that it handed on. These are the ones for which it
-- kept no reply, in order, as the link below has recorded them.
abbrev pub AreRelayed : BaseParts → ℕ → List Kept → List Entry → List Kept → List Entry → Type 0
AreRelayed base entries kept [] now handed_on = (now ≡ kept) × (handed_on ≡ [])
AreRelayed base entries kept (entry ∷ more) now handed_on =
    (between : List Kept) × (rest : List Entry) × IsKeptAfter base entries kept (exchanged_of entry) between × AreRelayed base entries between more now rest
    × IsHandedOn (reply_for (sent_to entry.authority entry.request) kept) entry rest handed_on

-- This is kept after these exchanges of a new relay. Those that it handed on are what the link below has recorded since the relay was made, in
-- order and no others, if that link records any. They are so many, up to the last value of a count.
pub record Follows (base : BaseParts) (entries : ℕ) (made now : Option (List Entry)) (own : List Entry) (kept : List Kept) (forwarded : ℕ) : Type 0 where
  pub handed_on : List Entry
  pub relayed : AreRelayed base entries [] own kept handed_on
  pub is : now ≡ option_map (λ (before : List Entry). before ++ handed_on) made
  pub count_is : forwarded ≡ min (length handed_on) (2 ^ 64 - 1)
