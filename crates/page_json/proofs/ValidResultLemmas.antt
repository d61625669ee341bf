-- What the readings of pages and of stops documents give is valid.
use Rattle.std.proofs.Common.{◌≡◌, ℕ, ◌≤◌, Bool, true, false, cond, leb, List, codes, Option, Some, None, Result, Ok, Err, refl, sym, subst}
use Rattle.std.specs.List.{All}
use Rattle.std.specs.Ordering.{on}
use Rattle.std.specs.Result.{IfOk}
use Rattle.std.proofs.lemmas.Bool.{leb-true}
use Rattle.lc_model.specs.Connection.{departure_cmp}
use Rattle.lc_model.specs.Change.{change_cmp, InChangeOrder}
use Rattle.lc_model.specs.Disorder.{first_disorder}
use Rattle.lc_model.specs.Stop.{HasStop, InStopOrder}
use Rattle.lc_model.specs.StopsDoc.{NamesItsStops}
use Rattle.lc_model.specs.Text.{id_cmp}
use Rattle.lc_model.specs.Totals.{change_cmp_total, departure_cmp_total, stop_cmp_total}
use Rattle.lc_model.specs.declared.change.Change.{Change}
use Rattle.lc_model.specs.declared.connection.Connection.{Connection}
use Rattle.lc_model.specs.declared.doc.StopsDoc.{StopsDoc}
use Rattle.lc_model.specs.declared.page.PageName.{PageName}
use Rattle.lc_model.specs.declared.stop.Stop.{Stop}
use Rattle.lc_model.proofs.DisordersLemmas.{strict_without_disorder}
use Rattle.connection_uri.specs.Base.{BaseParts}
use Rattle.serde_json.specs.Data.{Data}
use Rattle.serde_json.specs.Find.{as_str, get}
use Rattle.page_json.specs.ObjectMembers.Members.{formed, said_if, said_in}
use Rattle.page_json.specs.ObjectMembers.JsonReading.{json_in}
use Rattle.page_json.specs.PageReading.{connection_in, joined, page_in, page_of_bytes, unless_early}
use Rattle.page_json.specs.ObjectMembers.Reading.{Meets}
use Rattle.page_json.specs.Says.{SaysLink}
use Rattle.page_json.specs.StopsReading.{AreParents, change_in, changes_in, doc_in, doc_of_bytes, is_doc, stop_at, stops_in, with_parents}
use Rattle.page_json.specs.Valid.{IsOfVersion, IsValidDoc, IsValidPage}
use Rattle.page_json.specs.declared.object_members.fault.PageFault.{PageFault}
use Rattle.page_json.specs.declared.object_members.fault.PageFault.TheVariants.{BadMember}
use Rattle.page_json.specs.declared.page.Page.{Page}
use Rattle.page_json.proofs.SomeResultLemmas.{HasEnds, closed}
use Rattle.page_json.proofs.ObjectMembersLemmas.GivesLemmas.{Any, Gives, any, gives_after, gives_each, gives_exactly, gives_then, if_ordered}

-- ---- pages

abbrev IsForward : Connection → Type 0
IsForward c = c.dep ≤ c.arr

late_by : (c : Connection) (t : Bool) → leb c.dep c.arr ≡ t → IfOk (cond t (Ok c) (Err (BadMember (codes "arrivalTime")))) IsForward
late_by c true e = leb-true c.dep c.arr e
late_by c false e = tt

late : (c : Connection) → IfOk (unless_early c) IsForward
late c = late_by c (leb c.dep c.arr) refl

forward : (base : BaseParts) (tree : Data) → Gives IsForward (connection_in base tree)
unfolding connection_in
forward base tree =
    gives_then Any IsForward _ _ (any _) (λ o _. gives_then Any IsForward _ _ (any _) (λ name _. gives_then Any IsForward _ _ (any _) (λ arrival _. gives_then Any IsForward _ _ (any _) (λ departure _.
    gives_exactly IsForward (unless_early (joined tree name arrival departure)) (late (joined tree name arrival departure))))))

-- a link leads to the version
anything : (r : Result (List ℕ) PageFault) → IfOk r Any
anything (Ok text) = tt
anything (Err fault) = tt

abbrev HasVersion : ℕ → PageName → Type 0
HasVersion version name = name.version ≡ version

link : (base : BaseParts) (version : ℕ) (key : List ℕ) (d : Data) → Gives (HasVersion version) (said_in (SaysLink base version) key d)
link base version key d =
    gives_after Any (HasVersion version) (formed key (as_str d)) _ (anything (formed key (as_str d))) (λ text _. record { so = λ name says. says.0.same_version })

linked : (base : BaseParts) (version : ℕ) (key : List ℕ) (d : Option Data) → Gives (IsOfVersion version) (said_if (SaysLink base version) key d)
linked base version key None = gives_exactly (IsOfVersion version) (Ok None) tt
linked base version key (Some d) =
    gives_then (HasVersion version) (IsOfVersion version) _ _ (link base version key d) (λ name same. gives_exactly (IsOfVersion version) (Ok (Some name)) same)

valid_page : (base : BaseParts) (tree : Data) → Gives IsValidPage (page_in base tree)
unfolding page_in
valid_page base tree =
    gives_then Any IsValidPage _ _ (any _) (λ o _. gives_then Any IsValidPage _ _ (any _) (λ name _. gives_then Any IsValidPage _ _ (any _) (λ graph _.
    gives_then (All IsForward) IsValidPage _ _ (gives_each IsForward (connection_in base) (forward base) graph) (λ list ahead.
    gives_then (IsOfVersion name.version) IsValidPage _ _ (linked base name.version (codes "hydra:next") (get (codes "hydra:next") tree)) (λ next of_next.
    gives_then (IsOfVersion name.version) IsValidPage _ _ (linked base name.version (codes "hydra:previous") (get (codes "hydra:previous") tree)) (λ previous of_previous.
    gives_exactly IsValidPage _ (if_ordered IsValidPage (first_disorder departure_cmp list) (record { name = name; next = next; previous = previous; list = list })
    (λ none. record { in_order = strict_without_disorder departure_cmp departure_cmp_total list none; forward = ahead; next = of_next; previous = of_previous }))))))))

-- the page that bytes say is valid
pub valid_page_of_bytes : (base : BaseParts) (bytes : List ℕ) (page : Page) → page_of_bytes base bytes (Ok page) → IsValidPage page
unfolding page_of_bytes
valid_page_of_bytes base bytes page is = (gives_then Any IsValidPage (json_in bytes) _ (any _) (λ tree _. valid_page base tree)).so page is

-- ---- stops documents

-- stops in order, and each parent is one of them
abbrev AreGoodStops : List Stop → Type 0
AreGoodStops stops = InStopOrder stops × AreParents stops

good_stops : (tree : Data) → Gives AreGoodStops (stops_in tree)
unfolding stops_in
good_stops tree =
    gives_then Any AreGoodStops _ _ (any _) (λ items _. gives_then Any AreGoodStops _ _ (any _) (λ stops _.
    gives_then AreParents AreGoodStops (with_parents stops) _ (record { so = λ same is. subst AreParents (sym is.0) is.1 }) (λ same parents.
    gives_exactly AreGoodStops _ (if_ordered AreGoodStops (first_disorder (on (λ (s : Stop). s.id) id_cmp) same) same
    (λ none. (strict_without_disorder (on (λ (s : Stop). s.id) id_cmp) stop_cmp_total same none, parents))))))

known : (stops : List Stop) (key : List ℕ) (tree : Data) → Gives (HasStop stops) (stop_at stops key tree)
unfolding stop_at
known stops key tree =
    gives_then Any (HasStop stops) _ _ (any _) (λ id _. record { so = λ same is. subst (HasStop stops) (sym is.0) is.1 })

ends : (stops : List Stop) (tree : Data) → Gives (HasEnds stops) (change_in stops tree)
unfolding change_in
ends stops tree =
    gives_then Any (HasEnds stops) _ _ (any _) (λ o _. gives_then (HasStop stops) (HasEnds stops) _ _ (known stops (codes "from") tree) (λ from is.
    gives_then Any (HasEnds stops) _ _ (any _) (λ seconds _. gives_then (HasStop stops) (HasEnds stops) _ _ (known stops (codes "to") tree) (λ to is'.
    record { so = λ change same. (subst (HasStop stops) (sym same.0) is, subst (HasStop stops) (sym same.2) is') }))))

-- changes in order, and each end is one of the stops
abbrev AreGoodChanges : List Stop → List Change → Type 0
AreGoodChanges stops changes = InChangeOrder changes × All (HasEnds stops) changes

good_changes : (stops : List Stop) (tree : Data) → Gives (AreGoodChanges stops) (changes_in stops tree)
unfolding changes_in
good_changes stops tree =
    gives_then Any (AreGoodChanges stops) _ _ (any _) (λ items _. gives_then (All (HasEnds stops)) (AreGoodChanges stops) _ _ (gives_each (HasEnds stops) (change_in stops) (ends stops) items) (λ changes all.
    gives_exactly (AreGoodChanges stops) _ (if_ordered (AreGoodChanges stops) (first_disorder change_cmp changes) changes
    (λ none. (strict_without_disorder change_cmp change_cmp_total changes none, all)))))

valid_lists : (stops : List Stop) (changes : List Change) (doc : StopsDoc) → AreGoodStops stops → AreGoodChanges stops changes → is_doc stops changes (Ok doc) → IsValidDoc doc
valid_lists stops changes doc good good' same =
    let all = closed stops changes good.1 good'.1 in
    record {
      stops = subst InStopOrder (sym same.0) good.0;
      changes = subst InChangeOrder (sym same.1) good'.0;
      closed = subst (λ (s : List Stop). NamesItsStops s doc.changes) (sym same.0) (subst (NamesItsStops stops) (sym same.1) all);
    }

valid_doc : (tree : Data) → Gives IsValidDoc (doc_in tree)
unfolding doc_in
valid_doc tree =
    gives_then Any IsValidDoc _ _ (any _) (λ o _. gives_then AreGoodStops IsValidDoc _ _ (good_stops tree) (λ stops good.
    gives_then (AreGoodChanges stops) IsValidDoc _ _ (good_changes stops tree) (λ changes good'.
    record { so = λ doc same. valid_lists stops changes doc good good' same })))

-- the stops document that bytes say is valid
pub valid_doc_of_bytes : (bytes : List ℕ) (doc : StopsDoc) → doc_of_bytes bytes (Ok doc) → IsValidDoc doc
unfolding doc_of_bytes
valid_doc_of_bytes bytes doc is = (gives_then Any IsValidDoc (json_in bytes) _ (any _) (λ tree _. valid_doc tree)).so doc is

-- the document of a call that meets its reading is valid
pub valid_where_met : (bytes : List ℕ) (result : Result StopsDoc PageFault) → Meets (doc_of_bytes bytes) result → IfOk result IsValidDoc
valid_where_met bytes (Ok doc) is = valid_doc_of_bytes bytes doc is
valid_where_met bytes (Err fault) is = tt
