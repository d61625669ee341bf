-- A stops document that is written is read as that document.
use Rattle.std.proofs.Common.{◌≡◌, ℕ, ◌<◌, ◌≤◌, List, [], ◌∷◌, ◌++◌, Bool, true, get_or, Option, Some, None, Ok, codes, map, ◌^◌, refl, ap, ap₂, subst, ◌∙◌, arith, le-leb, lt-ltb}
use Rattle.std.proofs.Math.Logic.{∥∥₁_elim}
use Rattle.std.proofs.Props.{props}
use Rattle.std.proofs.lemmas.List.Folds.{Any-from_list_any, list_any-from_Any}
use Rattle.std.proofs.lemmas.Slice.Eq.{bytes_eq-Decides}
use Rattle.std.proofs.lemmas.List.Elements.{All-head, All-tail}
use Rattle.std.specs.List.{All, Any, list_any}
use Rattle.std.specs.Option.{IfSome}
use Rattle.std.specs.Ordering.{on}
use Rattle.std.specs.Str.{IsUtf8, bytes_eq}
use Rattle.lc_model.specs.Change.{InChangeOrder, change_cmp}
use Rattle.lc_model.specs.Stop.{HasStop, InStopOrder}
use Rattle.lc_model.specs.StopsDoc.{NamesItsStops}
use Rattle.lc_model.specs.Text.{IsIdText, id_cmp}
use Rattle.lc_model.specs.declared.change.Change.{Change}
use Rattle.lc_model.specs.declared.doc.StopsDoc.{StopsDoc}
use Rattle.lc_model.specs.declared.stop.Stop.{Stop}
use Rattle.connection_uri.specs.Base.{BaseParts}
use Rattle.serde_json.specs.Data.{Data, depth, items_depth}
use Rattle.serde_json.specs.Find.{get}
use Rattle.serde_json.specs.Read.{read}
use Rattle.serde_json.specs.View.{items_of}
use Rattle.serde_json.specs.Written.{compact_text}
use Rattle.lc_model.specs.Disorder.{first_disorder}
use Rattle.page_json.specs.ObjectMembers.Disorder.{unless_disorder}
use Rattle.page_json.specs.ObjectMembers.Members.{formed, needed}
use Rattle.page_json.specs.Sound.{IsSoundChange, IsSoundDoc, IsSoundStop}
use Rattle.page_json.specs.ObjectMembers.Values.{as_id, id_from, seconds_from}
use Rattle.page_json.specs.StopsReading.{AreParents, change_in, changes_in, doc_in, doc_of_bytes, if_stop, is_change, is_doc, stop_at, stop_in, stops_in, with_parents}
use Rattle.page_json.specs.Tree.{change_tree, doc_tree, stop_tree, stops_text_of}
use Rattle.page_json.specs.Valid.{IsValidDoc}
use Rattle.page_json.proofs.ObjectMembersLemmas.JsonLemmas.{AreWritable, IsWritable, read_compact}
use Rattle.lc_model.specs.Totals.{change_cmp_total, stop_cmp_total}
use Rattle.lc_model.proofs.DisordersLemmas.{no_disorder}
use Rattle.page_json.proofs.ObjectMembersLemmas.MembersLemmas.{reads_json}
use Rattle.page_json.proofs.ObjectMembersLemmas.ReadingLemmas.{Reads, reads_each, reads_exactly, reads_exactly_by, reads_then}

id_read : (id : List ℕ) → IsIdText id → id_from id ≡ Some id
id_read [] is = absurd (is.0 refl)
id_read (first ∷ rest) is = refl

stop_of : List ℕ → List ℕ → Option (List ℕ) → Stop
stop_of id name parent = record { id = id; name = name; parent = parent }

reads_stop_of : (id name : List ℕ) (parent : Option (List ℕ)) → IsIdText id → IfSome parent IsIdText → Reads (stop_in (stop_tree (stop_of id name parent))) (stop_of id name parent)
unfolding stop_in stop_tree stop_of
reads_stop_of id name None is parent =
    reads_then _ _ _ (stop_of id name None) (reads_exactly _)
    (reads_then _ id _ (stop_of id name None) (reads_exactly_by _ id (ap (formed (codes "id")) (id_read id is)))
    (reads_then _ name _ (stop_of id name None) (reads_exactly name)
    (reads_then _ None _ (stop_of id name None) (reads_exactly None) (reads_exactly (stop_of id name None)))))
reads_stop_of id name (Some up) is parent =
    reads_then _ _ _ (stop_of id name (Some up)) (reads_exactly _)
    (reads_then _ id _ (stop_of id name (Some up)) (reads_exactly_by _ id (ap (formed (codes "id")) (id_read id is)))
    (reads_then _ name _ (stop_of id name (Some up)) (reads_exactly name)
    (reads_then _ (Some up) _ (stop_of id name (Some up)) (reads_exactly_by _ (Some up) (rw (id_read up parent) refl)) (reads_exactly (stop_of id name (Some up))))))

reads_stop : (stop : Stop) → IsSoundStop stop → Reads (stop_in (stop_tree stop)) stop
unfolding stop_of
reads_stop stop sound = reads_stop_of stop.id stop.name stop.parent sound.id sound.parent

reads_parents : (stops : List Stop) → AreParents stops → Reads (with_parents stops) stops
reads_parents stops are = record { is = (refl, are) }

reads_known : (stops : List Stop) (key id : List ℕ) → HasStop stops id → Reads (if_stop stops key id) id
reads_known stops key id has = record { is = (refl, has) }

abbrev change : (from to : List ℕ) (seconds : ℕ) → 1 ≤ seconds → Change
change from to seconds takes_time = record { from = from; to = to; seconds = seconds; takes_time = takes_time }

le_prop : (m n : ℕ) → IsProp (m ≤ n)
le_prop m n = hlevel props

same_seconds : (from to : List ℕ) (m n : ℕ) (p : 1 ≤ m) (q : 1 ≤ n) → m ≡ n → change from to m p ≡ change from to n q
same_seconds from to m n p q e =
    subst (λ (v : ℕ). (q : 1 ≤ v) → change from to m p ≡ change from to v q) e (λ q. ap (change from to m) (le_prop 1 m p q)) q

pub change_of : (a b : Change) → a.from ≡ b.from → a.seconds ≡ b.seconds → a.to ≡ b.to → a ≡ b
change_of a b e f g =
    ap₂ (λ (from to : List ℕ). change from to a.seconds a.takes_time) e g ∙ same_seconds b.from b.to a.seconds b.seconds a.takes_time b.takes_time f

reads_change_of : (change : Change) → Reads (is_change change.from change.seconds change.to) change
reads_change_of change = record { is = (refl, refl, refl) }

reads_doc_of : (d : StopsDoc) → Reads (is_doc d.stops d.changes) d
reads_doc_of d = record { is = (refl, refl) }

is_id : List ℕ → Stop → Bool
is_id id s = bytes_eq s.id id

found_by_test : (stops : List Stop) (id : List ℕ) → HasStop stops id → list_any (is_id id) stops ≡ true
unfolding is_id
found_by_test stops id (k, s, inside, at, same) = list_any-from_Any (is_id id) stops (k, s, inside, at, (bytes_eq-Decides s.id id).1 same)

one_found : (stops : List Stop) (id : List ℕ) → Any (λ s. is_id id s ≡ true) stops → HasStop stops id
unfolding is_id
one_found stops id (k, s, inside, at, same) = (k, s, inside, at, (bytes_eq-Decides s.id id).0 same)

has_stop : (stops : List Stop) (id : List ℕ) (P : Type 0) → ∥ P ∥₁ → (P → HasStop stops id) → HasStop stops id
has_stop stops id P merely gives =
    let once : IsProp (list_any (is_id id) stops ≡ true) = hlevel props in
    one_found stops id (Any-from_list_any (is_id id) stops (∥∥₁_elim merely once (λ p. found_by_test stops id (gives p))))

has_parent : (stops : List Stop) (parent : Option (List ℕ)) (P : Type 0) → ∥ P ∥₁ → (P → IfSome parent (HasStop stops)) → IfSome parent (HasStop stops)
has_parent stops None P merely gives = tt
has_parent stops (Some id) P merely gives = has_stop stops id P merely gives

-- that a document names its stops is found by looking for them
pub names_its_stops : (d : StopsDoc) → NamesItsStops d.stops d.changes
names_its_stops d =
    let Names = NamesItsStops d.stops d.changes in
    record {
      parents = λ k s inside. has_parent d.stops (get_or d.stops k s).parent Names d.closed (λ names. names.parents k s inside);
      changes_from = λ k c inside. has_stop d.stops (get_or d.changes k c).from Names d.closed (λ names. names.changes_from k c inside);
      changes_to = λ k c inside. has_stop d.stops (get_or d.changes k c).to Names d.closed (λ names. names.changes_to k c inside);
    }

seconds_read : (n : ℕ) → 1 ≤ n → n < 2 ^ 32 → seconds_from n ≡ Some n
seconds_read n low high = rw (le-leb 1 n low, lt-ltb n (2 ^ 32) high) refl

reads_end : (stops : List Stop) (key : List ℕ) (tree : Data) (id : List ℕ) → needed as_id key (get key tree) ≡ formed key (id_from id) → IsIdText id → HasStop stops id → Reads (stop_at stops key tree) id
unfolding stop_at
reads_end stops key tree id e is has =
    reads_then _ id _ id (reads_exactly_by _ id (e ∙ ap (formed key) (id_read id is))) (reads_known stops key id has)

-- what the list of changes holds of each
record IsGoodChange (stops : List Stop) (c : Change) : Type 0 where
  sound : IsSoundChange c
  from : HasStop stops c.from
  to : HasStop stops c.to

reads_change : (stops : List Stop) (c : Change) → IsGoodChange stops c → Reads (change_in stops (change_tree c)) c
unfolding change_in change_tree
reads_change stops c good =
    let tree = change_tree c in
    reads_then _ _ _ c (reads_exactly _)
    (reads_then _ c.from _ c (reads_end stops (codes "from") tree c.from refl good.sound.from good.from)
    (reads_then _ c.seconds _ c (reads_exactly_by _ c.seconds (ap (formed (codes "seconds")) (seconds_read c.seconds c.takes_time good.sound.seconds)))
    (reads_then _ c.to _ c (reads_end stops (codes "to") tree c.to refl good.sound.to good.to)
    (reads_change_of c))))

good_changes : (stops : List Stop) (changes : List Change) → All IsSoundChange changes → NamesItsStops stops changes → All (IsGoodChange stops) changes
good_changes stops changes sound names =
    λ k d inside. record { sound = sound k d inside; from = names.changes_from k d inside; to = names.changes_to k d inside }

stops_ordered : (stops : List Stop) → InStopOrder stops → unless_disorder (first_disorder (on (λ (s : Stop). s.id) id_cmp) stops) stops ≡ Ok stops
stops_ordered stops h = ap (λ (place : Option ℕ). unless_disorder place stops) (no_disorder (on (λ (s : Stop). s.id) id_cmp) stop_cmp_total stops h)

changes_ordered : (changes : List Change) → InChangeOrder changes → unless_disorder (first_disorder change_cmp changes) changes ≡ Ok changes
changes_ordered changes h = ap (λ (place : Option ℕ). unless_disorder place changes) (no_disorder change_cmp change_cmp_total changes h)

reads_stops : (url : List ℕ) (d : StopsDoc) → IsValidDoc d → IsSoundDoc d → Reads (stops_in (doc_tree url d)) d.stops
unfolding stops_in
reads_stops url d valid sound =
    reads_then _ (items_of (map stop_tree d.stops)) _ d.stops (reads_exactly _)
    (reads_then _ d.stops _ d.stops (reads_each stop_in stop_tree IsSoundStop reads_stop d.stops sound.stops)
    (reads_then _ d.stops _ d.stops (reads_parents d.stops valid.closed.parents)
    (reads_exactly_by _ d.stops (stops_ordered d.stops valid.stops))))

reads_changes : (url : List ℕ) (d : StopsDoc) → IsValidDoc d → IsSoundDoc d → Reads (changes_in d.stops (doc_tree url d)) d.changes
unfolding changes_in
reads_changes url d valid sound =
    reads_then _ (items_of (map change_tree d.changes)) _ d.changes (reads_exactly _)
    (reads_then _ d.changes _ d.changes (reads_each (change_in d.stops) change_tree (IsGoodChange d.stops) (reads_change d.stops) d.changes (good_changes d.stops d.changes sound.changes valid.closed))
    (reads_exactly_by _ d.changes (changes_ordered d.changes valid.changes)))

reads_doc : (url : List ℕ) (d : StopsDoc) → IsValidDoc d → IsSoundDoc d → Reads (doc_in (doc_tree url d)) d
unfolding doc_in
reads_doc url d valid sound =
    reads_then _ _ _ d (reads_exactly _)
    (reads_then _ d.stops _ d (reads_stops url d valid sound)
    (reads_then _ d.changes _ d (reads_changes url d valid sound) (reads_doc_of d)))

parent_writable : (id name : List ℕ) (parent : Option (List ℕ)) → IsWritable (stop_tree (stop_of id name parent))
unfolding stop_tree stop_of
parent_writable id name None = ((tt, (tt, tt)), refl)
parent_writable id name (Some up) = ((tt, (tt, (tt, tt))), refl)

stops_writable : (stops : List Stop) → AreWritable (items_of (map stop_tree stops))
unfolding stop_of
stops_writable [] = tt
stops_writable (s ∷ rest) = (parent_writable s.id s.name s.parent, stops_writable rest)

change_writable : (c : Change) → c.seconds < 2 ^ 32 → IsWritable (change_tree c)
unfolding change_tree
change_writable c h = let fits : c.seconds < 2 ^ 64 = omega arith in ((tt, (fits, (tt, tt))), refl)

changes_writable : (changes : List Change) → All IsSoundChange changes → AreWritable (items_of (map change_tree changes))
changes_writable [] h = tt
changes_writable (c ∷ rest) h = (change_writable c (All-head IsSoundChange c rest h).seconds, changes_writable rest (All-tail IsSoundChange c rest h))

parent_depth : (id name : List ℕ) (parent : Option (List ℕ)) → depth (stop_tree (stop_of id name parent)) ≡ 1
unfolding stop_tree stop_of
parent_depth id name None = refl
parent_depth id name (Some up) = refl

stops_depth : (stops : List Stop) → items_depth (items_of (map stop_tree stops)) ≤ 1
unfolding stop_of
stops_depth [] = omega arith
stops_depth (s ∷ rest) = omega (arith, parent_depth s.id s.name s.parent, stops_depth rest)

change_depth : (c : Change) → depth (change_tree c) ≡ 1
unfolding change_tree
change_depth c = refl

changes_depth : (changes : List Change) → items_depth (items_of (map change_tree changes)) ≤ 1
changes_depth [] = omega arith
changes_depth (c ∷ rest) = omega (arith, change_depth c, changes_depth rest)

doc_writable : (url : List ℕ) (d : StopsDoc) → IsSoundDoc d → IsWritable (doc_tree url d)
doc_writable url d sound = ((tt, (changes_writable d.changes sound.changes, (stops_writable d.stops, tt))), refl)

doc_depth : (url : List ℕ) (d : StopsDoc) → depth (doc_tree url d) ≤ 127
doc_depth url d = omega (arith, changes_depth d.changes, stops_depth d.stops)

-- the text of a stops document of any URL is read as that document
pub reads_doc_text : (url : List ℕ) (d : StopsDoc) (bytes : List ℕ) → IsValidDoc d → IsSoundDoc d → IsUtf8 bytes → bytes ≡ compact_text (doc_tree url d) → Reads (doc_of_bytes bytes) d
unfolding doc_of_bytes
reads_doc_text url d bytes valid sound utf8 e =
    let tree = doc_tree url d in
    reads_then _ tree _ d (reads_json bytes tree utf8 (ap read e ∙ read_compact tree (doc_writable url d sound) (doc_depth url d)))
    (reads_doc url d valid sound)

-- the text of a stops document is read as that document
pub reads_stops_text : (base : BaseParts) (d : StopsDoc) (bytes : List ℕ) → IsValidDoc d → IsSoundDoc d → IsUtf8 bytes → bytes ≡ stops_text_of base d → Reads (doc_of_bytes bytes) d
unfolding stops_text_of
reads_stops_text base d bytes valid sound utf8 e = reads_doc_text (base.text ++ codes "stops") d bytes valid sound utf8 e
