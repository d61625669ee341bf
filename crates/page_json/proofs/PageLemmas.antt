-- A valid page that is written is read as that page.
use Rattle.std.proofs.Common.{◌≡◌, ℕ, ◌≤◌, List, true, Option, Some, None, Ok, codes, map, option_map, refl, sym, ap, subst, ◌∙◌, arith}
use Rattle.std.specs.List.{All}
use Rattle.std.specs.Option.{IfSome}
use Rattle.std.specs.Str.{IsUtf8}
use Rattle.lc_model.specs.Connection.{NoneArrivesEarly, departure_cmp}
use Rattle.lc_model.specs.declared.connection.Connection.{Connection}
use Rattle.lc_model.specs.declared.page.PageName.{PageName}
use Rattle.connection_uri.specs.Base.{BaseParts}
use Rattle.connection_uri.specs.Page.{page_url_of}
use Rattle.serde_json.specs.Data.{Data, Members, depth, member, members_depth, no_members, string}
use Rattle.serde_json.specs.Find.{get}
use Rattle.serde_json.specs.Read.{read}
use Rattle.serde_json.specs.View.{items_of}
use Rattle.lc_model.specs.Disorder.{first_disorder}
use Rattle.page_json.specs.ObjectMembers.Disorder.{unless_disorder}
use Rattle.page_json.specs.ObjectMembers.Members.{said_if, said_if_there}
use Rattle.page_json.specs.PageReading.{connection_in, page_in, page_of_bytes}
use Rattle.page_json.specs.Says.{SaysLink}
use Rattle.page_json.specs.Sound.{IsSoundConnection, IsSoundName, IsSoundPage}
use Rattle.page_json.specs.ObjectMembers.MemberWriting.{text_at}
use Rattle.page_json.specs.Tree.{connection_tree, context_tree, link_at, mapping_tree, page_text_of, page_tree, search_tree}
use Rattle.page_json.specs.Valid.{IsOfVersion, IsValidPage}
use Rattle.page_json.specs.declared.page.Page.{Page}
use Rattle.page_json.proofs.ConnectionLemmas.{IsGood, connections_depth, connections_writable, reads_connection}
use Rattle.page_json.proofs.ObjectMembersLemmas.JsonLemmas.{HasWritable, IsWritable, read_compact, rises}
use Rattle.lc_model.specs.Totals.{departure_cmp_total}
use Rattle.lc_model.proofs.DisordersLemmas.{no_disorder}
use Rattle.page_json.proofs.ObjectMembersLemmas.MembersLemmas.{reads_json}
use Rattle.page_json.proofs.MembersLemmas.{reads_page_name, says_page}
use Rattle.page_json.proofs.SaysLemmas.{one_link}
use Rattle.page_json.proofs.ObjectMembersLemmas.ReadingLemmas.{Reads, reads_each, reads_exactly, reads_exactly_by, reads_said, reads_then}

url_data : BaseParts → PageName → Data
url_data base name = string (page_url_of base name)

next_there : (base : BaseParts) (page : Page) (next previous : Option PageName) → page.next ≡ next → page.previous ≡ previous → get (codes "hydra:next") (page_tree base page) ≡ option_map (url_data base) next
unfolding url_data
next_there base page None None e f = rw (e, f) refl
next_there base page None (Some previous) e f = rw (e, f) refl
next_there base page (Some next) previous e f = rw e refl

previous_there : (base : BaseParts) (page : Page) (next previous : Option PageName) → page.next ≡ next → page.previous ≡ previous → get (codes "hydra:previous") (page_tree base page) ≡ option_map (url_data base) previous
unfolding url_data
previous_there base page None None e f = rw (e, f) refl
previous_there base page (Some next) None e f = rw (e, f) refl
previous_there base page None (Some previous) e f = rw (e, f) refl
previous_there base page (Some next) (Some previous) e f = rw (e, f) refl

reads_link_of : (base : BaseParts) (version : ℕ) (key : List ℕ) (link : Option PageName) → IfSome link IsSoundName → IsOfVersion version link → Reads (said_if (SaysLink base version) key (option_map (url_data base) link)) link
unfolding url_data
reads_link_of base version key None sound same = reads_exactly None
reads_link_of base version key (Some name) sound same =
    let says : SaysLink base version (page_url_of base name) name = record { page = says_page base name sound; same_version = same } in
    reads_then _ name _ (Some name) (reads_said (SaysLink base version) key (page_url_of base name) name says (λ other h. one_link base version (page_url_of base name) other name h says))
    (reads_exactly (Some name))

reads_link : (base : BaseParts) (version : ℕ) (key : List ℕ) (tree : Data) (link : Option PageName) → get key tree ≡ option_map (url_data base) link → IfSome link IsSoundName → IsOfVersion version link → Reads (said_if_there (SaysLink base version) key tree) link
reads_link base version key tree link e sound same =
    subst (λ (d : Option Data). Reads (said_if (SaysLink base version) key d) link) (sym e) (reads_link_of base version key link sound same)

good : (list : List Connection) → All IsSoundConnection list → NoneArrivesEarly list → All IsGood list
good list sound forward = λ k d inside. record { sound = sound k d inside; forward = forward k d inside }

in_order : (page : Page) → IsValidPage page → unless_disorder (first_disorder departure_cmp page.list) page ≡ Ok page
in_order page valid = ap (λ (place : Option ℕ). unless_disorder place page) (no_disorder departure_cmp departure_cmp_total page.list valid.in_order)

reads_page : (base : BaseParts) (page : Page) → IsValidPage page → IsSoundPage page → Reads (page_in base (page_tree base page)) page
unfolding page_in
reads_page base page valid sound =
    let tree = page_tree base page in
    reads_then _ _ _ page (reads_exactly _)
    (reads_then _ page.name _ page (reads_page_name base (codes "@id") tree page.name refl sound.name)
    (reads_then _ (items_of (map (connection_tree base) page.list)) _ page (reads_exactly _)
    (reads_then _ page.list _ page (reads_each (connection_in base) (connection_tree base) IsGood (reads_connection base) page.list (good page.list sound.list valid.forward))
    (reads_then _ page.next _ page (reads_link base page.name.version (codes "hydra:next") tree page.next (next_there base page page.next page.previous refl refl) sound.next valid.next)
    (reads_then _ page.previous _ page (reads_link base page.name.version (codes "hydra:previous") tree page.previous (previous_there base page page.next page.previous refl refl) sound.previous valid.previous)
    (reads_exactly_by _ page (in_order page valid)))))))

link_writable : (base : BaseParts) (key : List ℕ) (link : Option PageName) (rest : Members) → HasWritable rest → HasWritable (link_at base key link rest)
link_writable base key None rest h = h
link_writable base key (Some name) rest h = (tt, h)

context_writable : IsWritable context_tree
unfolding context_tree
context_writable =
    ((tt, (tt, (((tt, (tt, tt)), refl), (((tt, (tt, tt)), refl), (tt, (((tt, (tt, tt)), refl), (((tt, (tt, tt)), refl), (tt, (((tt, tt), refl), (((tt, tt), refl), (((tt, tt), refl), (tt, (((tt, tt), refl), (((tt, tt), refl), (tt, (tt, tt)))))))))))))))), refl)

search_writable : (base : BaseParts) → IsWritable (search_tree base)
unfolding search_tree mapping_tree
search_writable base = ((tt, (((tt, (tt, (tt, (tt, tt)))), refl), (tt, tt))), refl)

page_rises : (base : BaseParts) (context graph search : Data) (url : List ℕ) (next previous : Option PageName)
    → rises no_members
    (member (codes "@context") context
    (member (codes "@graph") graph
    (text_at (codes "@id") url
    (text_at (codes "@type") (codes "hydra:PartialCollectionView")
    (link_at base (codes "hydra:next") next
    (link_at base (codes "hydra:previous") previous
    (member (codes "hydra:search") search no_members)))))))
    ≡ true
page_rises base context graph search url None None = refl
page_rises base context graph search url None (Some previous) = refl
page_rises base context graph search url (Some next) None = refl
page_rises base context graph search url (Some next) (Some previous) = refl

page_writable : (base : BaseParts) (page : Page) → IsSoundPage page → IsWritable (page_tree base page)
page_writable base page sound = (
  (
    context_writable,
    (
      connections_writable base page.list sound.list,
      (
        tt,
        (
          tt,
          link_writable base (codes "hydra:next") page.next _ (link_writable base (codes "hydra:previous") page.previous _ (search_writable base, tt)),
        ),
      ),
    ),
  ),
  page_rises base context_tree _ (search_tree base) (page_url_of base page.name) page.next page.previous,
)

link_depth : (base : BaseParts) (key : List ℕ) (link : Option PageName) (rest : Members) (n : ℕ) → members_depth rest ≤ n → members_depth (link_at base key link rest) ≤ n
link_depth base key None rest n h = h
link_depth base key (Some name) rest n h = omega arith

context_depth : depth context_tree ≡ 2
unfolding context_tree
context_depth = refl

search_depth : (base : BaseParts) → depth (search_tree base) ≡ 2
unfolding search_tree mapping_tree
search_depth base = refl

page_depth : (base : BaseParts) (page : Page) → depth (page_tree base page) ≤ 127
page_depth base page =
    let search = search_tree base in
    let last : members_depth (member (codes "hydra:search") search no_members) ≤ 2 = omega (arith, search_depth base) in
    let previous = link_depth base (codes "hydra:previous") page.previous (member (codes "hydra:search") search no_members) 2 last in
    let next = link_depth base (codes "hydra:next") page.next (link_at base (codes "hydra:previous") page.previous (member (codes "hydra:search") search no_members)) 2 previous in
    omega (arith, context_depth, connections_depth base page.list, next)

-- the text of a page is read as that page
pub reads_page_text : (base : BaseParts) (page : Page) (bytes : List ℕ) → IsValidPage page → IsSoundPage page → IsUtf8 bytes → bytes ≡ page_text_of base page → Reads (page_of_bytes base bytes) page
unfolding page_of_bytes page_text_of
reads_page_text base page bytes valid sound utf8 e =
    let tree = page_tree base page in
    reads_then _ tree _ page (reads_json bytes tree utf8 (ap read e ∙ read_compact tree (page_writable base page sound) (page_depth base page)))
    (reads_page base page valid sound)
