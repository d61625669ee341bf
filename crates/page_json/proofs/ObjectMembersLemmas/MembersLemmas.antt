-- Members that say one thing are read as that, and so are bytes that are JSON.
use Rattle.std.proofs.Common.{◌≡◌, ℕ, List, Some, Ok}
use Rattle.std.specs.Str.{IsUtf8}
use Rattle.serde_json.specs.Data.{Data}
use Rattle.serde_json.specs.Read.{read}
use Rattle.page_json.specs.ObjectMembers.Members.{said_at, text_of}
use Rattle.page_json.specs.ObjectMembers.JsonReading.{json_in}
use Rattle.page_json.specs.ObjectMembers.Reading.{what_is_said}
use Rattle.page_json.proofs.ObjectMembersLemmas.ReadingLemmas.{Reads, reads_after, reads_said}

-- the text of a member that is there says this alone
pub reads_said_at : {X : Type 0} (Says : List ℕ → X → Type 0) (key : List ℕ) (tree : Data) (text : List ℕ) (x : X) → text_of key tree ≡ Ok text → Says text x → ((y : X) → Says text y → y ≡ x) → Reads (said_at Says key tree) x
reads_said_at Says key tree text x e says alone = reads_after (text_of key tree) text (what_is_said Says key) x e (reads_said Says key text x says alone)

-- bytes that are JSON are read as that JSON
pub reads_json : (bytes : List ℕ) (tree : Data) → IsUtf8 bytes → read bytes ≡ Some tree → Reads (json_in bytes) tree
reads_json bytes tree utf8 e = record { is = (utf8, e) }
