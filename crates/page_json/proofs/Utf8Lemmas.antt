-- What is written of a page and of a stops document is UTF-8.
use Rattle.std.proofs.Common.{◌≡◌, ℕ, suc, ◌^◌, ◌<◌, ℤ, pos, negsuc, Bool, true, false, List, codes, decimal, Option, Some, None, refl, arith}
use Rattle.std.specs.Option.{ForSome, IfSome}
use Rattle.std.specs.Str.{IsUtf8}
use Rattle.std.proofs.lemmas.Fmt.{IsAscii-decimal}
use Rattle.json.specs.Print.{escape_byte}
use Rattle.json.proofs.Printed.Utf8.{are_ascii}
use Rattle.serde_json.specs.Data.{Members, no_members}
use Rattle.serde_json.specs.Find.{of_integer}
use Rattle.serde_json.specs.Written.{compact_text, number_text}
use Rattle.lc_model.specs.Text.{IsIdText}
use Rattle.lc_model.specs.declared.change.Change.{Change}
use Rattle.lc_model.specs.declared.connection.Connection.{Connection}
use Rattle.lc_model.specs.declared.date.ServiceDate.{ServiceDate}
use Rattle.lc_model.specs.declared.doc.StopsDoc.{StopsDoc}
use Rattle.lc_model.specs.declared.key.RunKey.{RunKey}
use Rattle.lc_model.specs.declared.page.PageName.{PageName}
use Rattle.lc_model.specs.declared.stop.Stop.{Stop}
use Rattle.lc_time.specs.Clock.{start_text_of}
use Rattle.lc_time.specs.Date.{date_text_of}
use Rattle.lc_time.specs.Iso.{iso_text_of}
use Rattle.lc_time.proofs.AsciiLemmas.{date_ascii, iso_ascii, start_ascii}
use Rattle.lc_time.proofs.DateLemmas.{fits}
use Rattle.connection_uri.specs.Base.{BaseParts, IsBase}
use Rattle.connection_uri.specs.Encoding.{encoded}
use Rattle.connection_uri.specs.Name.{name_of, run_part_of, start_part_of}
use Rattle.connection_uri.specs.Page.{page_url_of}
use Rattle.connection_uri.proofs.BaseLemmas.{bases_are_read}
use Rattle.connection_uri.proofs.ByteLemmas.{text_bytes}
use Rattle.connection_uri.proofs.EncodingLemmas.{encoded_ascii}
use Rattle.page_json.specs.Sound.{IsDelay, IsSoundChange, IsSoundConnection, IsSoundDoc, IsSoundName, IsSoundPage, IsSoundStop}
use Rattle.page_json.specs.Tree.{allowed_text, change_tree, connection_tree, context_tree, link_at, mapping_tree, page_text_of, page_tree, parent_at, search_tree, stop_tree, stops_text_of, stops_tree}
use Rattle.page_json.specs.Urls.{stop_url_of, trip_url_of}
use Rattle.page_json.specs.declared.page.Page.{Page}
use Rattle.page_json.proofs.ObjectMembersLemmas.WrittenUtf8Lemmas.{Fields, Text, Tree, an_array, an_object, begun, both, field, from_ascii, no_field, plain, rows, text_field}

-- ---- the texts in them

date : (d : ServiceDate) → Text (date_text_of d.year d.month d.day)
date d = from_ascii (date_text_of d.year d.month d.day) (date_ascii d.year d.month d.day (fits d))

start : (s : Option ℕ) → ForSome s (λ seconds. seconds < 360_000) → Text (start_part_of s)
start None h = plain (codes "-") refl
start (Some s) h = from_ascii (start_text_of s) (start_ascii s (h s refl))

id : (bytes : List ℕ) → IsIdText bytes → Text (encoded bytes)
id bytes is = from_ascii (encoded bytes) (encoded_ascii bytes (text_bytes bytes is.1))

whole : (n : ℕ) → n < 2 ^ 64 → Text (decimal n)
whole n h = from_ascii (decimal n) (IsAscii-decimal n h)

signed : (z : ℤ) → IsDelay z → Text (number_text (of_integer z))
signed (pos n) h = whole n (omega arith)
signed (negsuc n) h = begun 45 (decimal (suc n)) refl (whole (suc n) (omega arith))

moment : (m : ℕ) → m < 253_402_128_000 → Text (iso_text_of m)
moment m h = from_ascii (iso_text_of m) (iso_ascii m h)

run : (key : RunKey) → IsIdText key.trip → Text (run_part_of key)
run key is = both (both (both (both (id key.trip is) (plain (codes "/") refl)) (date key.date)) (plain (codes "/") refl)) (start key.start key.start_in_range)

allowed : (b : Bool) → Text (allowed_text b)
allowed true = plain (codes "gtfs:Regular") refl
allowed false = plain (codes "gtfs:NotAvailable") refl

-- ---- what is under a base

module _ (base : BaseParts) (base_text : Text base.text) where
  name : (key : RunKey) (seq : ℕ) → IsIdText key.trip → seq < 2 ^ 32 → Text (name_of base key seq)
  name key seq is small =
      both (both (both (both base_text (plain (codes "connections/") refl)) (run key is)) (plain (codes "/") refl)) (whole seq (omega arith))

  stop_url : (stop : List ℕ) → IsIdText stop → Text (stop_url_of base stop)
  stop_url stop is = both base_text (both (plain (codes "stops/") refl) (id stop is))

  trip_url : (key : RunKey) → IsIdText key.trip → Text (trip_url_of base key)
  trip_url key is = both (both base_text (plain (codes "trips/") refl)) (run key is)

  page_url : (page : PageName) → IsSoundName page → Text (page_url_of base page)
  page_url page sound =
      both (both (both (both base_text (plain (codes "memento/connections?version=") refl)) (moment page.version sound.version)) (plain (codes "&departureTime=") refl)) (moment page.departs sound.departs)

  connection : (c : Connection) → IsSoundConnection c → Tree (connection_tree base c)
  unfolding connection_tree
  connection c sound =
      an_object _
      (text_field _ _ _ refl (name c.key c.seq sound.trip sound.seq)
      (text_field _ _ _ refl (plain (codes "Connection") refl)
      (field _ _ _ refl (record { text = signed c.arr_delay sound.arr_delay })
      (text_field _ _ _ refl (stop_url c.arr_stop sound.arr_stop)
      (text_field _ _ _ refl (moment c.arr sound.arr)
      (field _ _ _ refl (record { text = signed c.dep_delay sound.dep_delay })
      (text_field _ _ _ refl (stop_url c.dep_stop sound.dep_stop)
      (text_field _ _ _ refl (moment c.dep sound.dep)
      (text_field _ _ _ refl (allowed c.alight)
      (text_field _ _ _ refl (allowed c.board)
      (text_field _ _ _ refl (trip_url c.key sound.trip) no_field)))))))))))

  link : (key : List ℕ) (to : Option PageName) (ms : Members) → are_ascii key ≡ true → IfSome to IsSoundName → Fields ms → Fields (link_at base key to ms)
  link key None ms e sound rest = rest
  link key (Some page) ms e sound rest = text_field key (page_url_of base page) ms e (page_url page sound) rest

  context : Tree context_tree
  unfolding context_tree escape_byte
  context = record { text = plain (compact_text context_tree) refl }

  mapping : Tree mapping_tree
  unfolding mapping_tree escape_byte
  mapping = record { text = plain (compact_text mapping_tree) refl }

  search_form : Tree (search_tree base)
  unfolding search_tree
  search_form =
      an_object _
      (text_field _ _ _ refl (plain (codes "hydra:IriTemplate") refl)
      (field _ mapping_tree _ refl mapping
      (text_field _ _ _ refl (both base_text (plain (codes "connections{?departureTime}") refl)) no_field)))

  page : (p : Page) → IsSoundPage p → Tree (page_tree base p)
  page p sound =
      an_object _
      (field _ context_tree _ refl context
      (field _ _ _ refl (an_array _ (rows (connection_tree base) IsSoundConnection connection p.list sound.list))
      (text_field _ _ _ refl (page_url p.name sound.name)
      (text_field _ _ _ refl (plain (codes "hydra:PartialCollectionView") refl)
      (link (codes "hydra:next") p.next _ refl sound.next
      (link (codes "hydra:previous") p.previous _ refl sound.previous
      (field _ (search_tree base) _ refl search_form no_field)))))))

  change : (c : Change) → IsSoundChange c → Tree (change_tree c)
  unfolding change_tree
  change c sound =
      an_object _
      (text_field _ _ _ refl (record { utf8 = sound.from.1 })
      (field _ _ _ refl (record { text = whole c.seconds (omega (arith, sound.seconds)) })
      (text_field _ _ _ refl (record { utf8 = sound.to.1 }) no_field)))

  parent : (up : Option (List ℕ)) → IfSome up IsIdText → Fields (parent_at up)
  parent None is = no_field
  parent (Some up) is = text_field (codes "parent") up no_members refl (record { utf8 = is.1 }) no_field

  stop : (s : Stop) → IsSoundStop s → Tree (stop_tree s)
  unfolding stop_tree
  stop s sound =
      an_object _
      (text_field _ _ _ refl (record { utf8 = sound.id.1 })
      (text_field _ _ _ refl (record { utf8 = sound.name }) (parent s.parent sound.parent)))

  doc : (d : StopsDoc) → IsSoundDoc d → Tree (stops_tree base d)
  doc d sound =
      an_object _
      (text_field _ _ _ refl (both base_text (plain (codes "stops") refl))
      (field _ _ _ refl (an_array _ (rows change_tree IsSoundChange change d.changes sound.changes))
      (field _ _ _ refl (an_array _ (rows stop_tree IsSoundStop stop d.stops sound.stops)) no_field)))

-- ---- the texts

text_of : (base : BaseParts) → IsBase base → Text base.text
text_of base is = record { utf8 = (bases_are_read base is).1.utf8 }

-- the text of a page is UTF-8
pub page_text_is_utf8 : (base : BaseParts) (p : Page) → IsBase base → IsSoundPage p → IsUtf8 (page_text_of base p)
unfolding page_text_of
page_text_is_utf8 base p is sound = (page base (text_of base is) p sound).text.utf8

-- the text of a stops document is UTF-8
pub stops_text_is_utf8 : (base : BaseParts) (d : StopsDoc) → IsBase base → IsSoundDoc d → IsUtf8 (stops_text_of base d)
unfolding stops_text_of
stops_text_is_utf8 base d is sound = (doc base (text_of base is) d sound).text.utf8

-- the URL of a page is UTF-8
pub page_url_is_utf8 : (base : BaseParts) (name : PageName) → IsBase base → IsSoundName name → IsUtf8 (page_url_of base name)
page_url_is_utf8 base name is sound = (page_url base (text_of base is) name sound).utf8
