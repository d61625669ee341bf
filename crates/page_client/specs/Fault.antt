-- The tests of a reply, of which the first that it fails is its fault.
use Rattle.std.specs.Prelude.{◌≡◌, ◌⊎◌, Result, Ok, Err}
use Rattle.http_text.specs.declared.reply_fault.ReplyFault.TheVariants as replies
use Rattle.page_json.specs.declared.object_members.fault.PageFault.TheVariants as pages
use Rattle.page_client.specs.declared.fault.PeerFault.{PeerFault}
use Rattle.page_client.specs.declared.fault.PeerFault.TheVariants.{Reply, Body}

-- which results the tests of a reply may have: they have exactly one
abbrev pub Tested : Type 0 → Type 1
Tested X = Result X PeerFault → Type 0

-- the fault is no failed test, but running out of memory
abbrev pub IsWant : PeerFault → Type 0
IsWant fault = (fault ≡ Reply replies.NoMemory) ⊎ (fault ≡ Body pages.NoMemory)

-- what a call returned is what the tests have, unless memory ran out
abbrev pub Meets : {X : Type 0} → Tested X → Result X PeerFault → Type 0
Meets tests (Ok x) = tests (Ok x)
Meets tests (Err fault) = IsWant fault ⊎ tests (Err fault)
