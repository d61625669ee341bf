-- Links that give the replies of a list.
use Rattle.std.specs.Prelude.{◌≡◌, ℕ, ◌+◌, List, [], ◌∷◌, ◌++◌, Contains, Some, None}
use Rattle.std.specs.List.{slice_get}
use Rattle.lc_io.specs.Counts.{one_more}
use Rattle.lc_world.specs.declared.entry.Entry.{Entry}
use Rattle.lc_world.specs.declared.entry.RecordedReply.{RecordedReply}
use Rattle.lc_world.specs.declared.entry.RecordedReply.TheVariants.{Failed, Reply}

-- The replies, the numbers of the calls that fail, how many replies came, and how many calls there were. The exchanges with what was
-- replied, and how often a call has failed.
pub record ListLinkState : Type 0 where
  pub replies : List (List ℕ)
  pub fails : List ℕ
  pub given : ℕ
  pub calls : ℕ
  pub recorded : List Entry
  pub faults : ℕ

-- an exchange and what was replied
abbrev pub entry_of : List ℕ → List ℕ → RecordedReply → Entry
entry_of authority request reply = record { authority = authority; request = request; reply = reply }

-- one call more, which is recorded
abbrev pub with_call : ListLinkState → List ℕ → List ℕ → RecordedReply → ListLinkState
with_call link authority request reply = record link { calls = one_more link.calls; recorded = link.recorded ++ entry_of authority request reply ∷ [] }

-- no reply of the list is left
abbrev pub IsUsedUp : ListLinkState → Type 0
IsUsedUp link = slice_get link.replies link.given ≡ None

-- the next call is one of those that fail
abbrev pub IsListed : ListLinkState → Type 0
IsListed link = Contains link.fails (one_more link.calls)

-- the link gave the next reply of its list, recorded it, and goes on to the one after it
pub record Gives (before after : ListLinkState) (authority request reply : List ℕ) : Type 0 where
  pub next : slice_get before.replies before.given ≡ Some reply
  pub moves_on : after ≡ record (with_call before authority request (Reply reply)) { given = before.given + 1 }

-- the call failed: it is recorded and counted, and the next reply stays
abbrev pub Fails : ListLinkState → ListLinkState → List ℕ → List ℕ → Type 0
Fails before after authority request = after ≡ record (with_call before authority request Failed) { faults = one_more before.faults }

-- no reply was left, and the answer was recorded as it is
pub record Keeps (before after : ListLinkState) (authority request answer : List ℕ) : Type 0 where
  pub used_up : IsUsedUp before
  pub tells : after ≡ with_call before authority request (Reply answer)
