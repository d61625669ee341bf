-- Replies of a status, and their bodies (RFC 9112, section 6).
use Rattle.std.specs.Prelude.{◌≡◌, ◌≢◌, ℕ, ◌⊎◌, List, slice_range, Result, Ok, Err}
use Rattle.http_text.specs.Reply.{HasFault, IsReply}
use Rattle.http_text.specs.declared.reply.Reply.{Reply as Said}
use Rattle.http_text.specs.declared.reply_fault.ReplyFault.{ReplyFault}
use Rattle.page_client.specs.Fault.{Tested}
use Rattle.page_client.specs.declared.fault.PeerFault.{PeerFault}
use Rattle.page_client.specs.declared.fault.PeerFault.TheVariants.{Reply, Status}

-- the body of a reply within its bytes
abbrev pub body_of : List ℕ → Said → List ℕ
body_of bytes reply = slice_range bytes reply.body_from reply.body_to

-- the bytes have a fault as a reply
pub record IsUnread (bytes : List ℕ) (fault : PeerFault) : Type 0 where
  pub first : ReplyFault
  pub has : HasFault bytes first
  pub is : fault ≡ Reply first

-- the bytes are a reply of another status
pub record HasOtherStatus (bytes : List ℕ) (status : ℕ) (fault : PeerFault) : Type 0 where
  pub reply : Said
  pub says : IsReply bytes reply
  pub other : reply.status ≢ status
  pub is : fault ≡ Status reply.status

-- what the bytes say as a reply of this status, or the first test of these that they fail
abbrev pub IsAnswered : List ℕ → ℕ → Tested Said
IsAnswered bytes status (Ok reply) = IsReply bytes reply × (reply.status ≡ status)
IsAnswered bytes status (Err fault) = IsUnread bytes fault ⊎ HasOtherStatus bytes status fault

-- what is tested after these, by what the reply says
abbrev pub tested_further : {X : Type 0} → (Said → Tested X) → Result Said PeerFault → Tested X
tested_further next (Ok reply) = next reply
tested_further next (Err fault) = λ result. result ≡ Err fault

-- a reply of this status, and what is tested further
abbrev pub IsTested : {X : Type 0} → List ℕ → ℕ → (Said → Tested X) → Tested X
IsTested bytes status next result = (reply : Result Said PeerFault) × IsAnswered bytes status reply × tested_further next reply result
