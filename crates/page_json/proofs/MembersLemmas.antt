-- Members that are written are read as what they were written for.
use Rattle.std.proofs.Common.{◌≡◌, ℕ, ◌<◌, ◌^◌, ℤ, pos, negsuc, List, Bool, true, false, not, Some, Ok, codes, refl, arith, lt-ltb}
use Rattle.std.specs.Str.{bytes_eq}
use Rattle.lc_model.specs.Text.{IsIdText}
use Rattle.lc_model.specs.declared.key.RunKey.{RunKey}
use Rattle.lc_model.specs.declared.page.PageName.{PageName}
use Rattle.lc_time.specs.Iso.{SaysMoment, iso_text_of}
use Rattle.lc_time.proofs.IsoLemmas.{says_text}
use Rattle.lc_time.proofs.OneTextLemmas.{one_moment}
use Rattle.connection_uri.specs.Base.{BaseParts}
use Rattle.connection_uri.specs.Name.{name_of}
use Rattle.connection_uri.specs.Page.{page_url_of}
use Rattle.serde_json.specs.Data.{Data, number}
use Rattle.serde_json.specs.Find.{as_i64, of_integer}
use Rattle.page_json.specs.ObjectMembers.Members.{said_at, text_of}
use Rattle.page_json.specs.Says.{SaysName, SaysPage, SaysStop}
use Rattle.page_json.specs.Sound.{IsDelay, IsMoment, IsSoundName}
use Rattle.page_json.specs.Tree.{allowed_text}
use Rattle.page_json.specs.Urls.{stop_url_of}
use Rattle.page_json.proofs.ObjectMembersLemmas.JsonLemmas.{IsWritable}
use Rattle.page_json.proofs.ObjectMembersLemmas.ReadingLemmas.{Reads}
use Rattle.page_json.proofs.SaysLemmas.{one_name, one_page, one_stop}
use Rattle.page_json.proofs.ObjectMembersLemmas.MembersLemmas.{reads_said_at}

pub reads_stop : (base : BaseParts) (key : List ℕ) (tree : Data) (stop : List ℕ) → text_of key tree ≡ Ok (stop_url_of base stop) → IsIdText stop → Reads (said_at (SaysStop base) key tree) stop
reads_stop base key tree stop e is =
    let text = stop_url_of base stop in
    let says : SaysStop base text stop = record { id = is; written = refl } in
    reads_said_at (SaysStop base) key tree text stop e says (λ other h. one_stop base text other stop h says)

pub reads_name : (base : BaseParts) (key : List ℕ) (tree : Data) (run : RunKey) (seq : ℕ) → text_of key tree ≡ Ok (name_of base run seq) → IsIdText run.trip → seq < 2 ^ 32 → Reads (said_at (SaysName base) key tree) (run, seq)
reads_name base key tree run seq e is small =
    let text = name_of base run seq in
    let says : SaysName base text (run, seq) = record { trip = is; fits = small; written = refl } in
    reads_said_at (SaysName base) key tree text (run, seq) e says (λ other h. one_name base text other (run, seq) h says)

pub reads_moment : (key : List ℕ) (tree : Data) (moment : ℕ) → text_of key tree ≡ Ok (iso_text_of moment) → IsMoment moment → Reads (said_at SaysMoment key tree) moment
reads_moment key tree moment e fits =
    let text = iso_text_of moment in
    let says = says_text moment fits in
    reads_said_at SaysMoment key tree text moment e says (λ other h. one_moment text other moment h says)

pub says_page : (base : BaseParts) (name : PageName) → IsSoundName name → SaysPage base (page_url_of base name) name
says_page base name sound = record { version_fits = sound.version; departs_fits = sound.departs; written = refl }

pub reads_page_name : (base : BaseParts) (key : List ℕ) (tree : Data) (name : PageName) → text_of key tree ≡ Ok (page_url_of base name) → IsSoundName name → Reads (said_at (SaysPage base) key tree) name
reads_page_name base key tree name e sound =
    let text = page_url_of base name in
    let says = says_page base name sound in
    reads_said_at (SaysPage base) key tree text name e says (λ other h. one_page base text other name h says)

pub delay_read : (z : ℤ) → IsDelay z → as_i64 (of_integer z) ≡ Some z
delay_read (pos n) h = rw (lt-ltb n (2 ^ 63) h) refl
delay_read (negsuc n) h = refl

pub delay_writable : (z : ℤ) → IsDelay z → IsWritable (number (of_integer z))
delay_writable (pos n) h = omega arith
delay_writable (negsuc n) h = h

pub allowed_read : (allowed : Bool) → not (bytes_eq (allowed_text allowed) (codes "gtfs:NotAvailable")) ≡ allowed
allowed_read true = refl
allowed_read false = refl
