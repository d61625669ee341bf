-- The JSON of a page and of the stops document (Linked Connections 1.0, Hydra, JSON-LD 1.1). Members are in the order
-- of their bytes.
use Rattle.std.specs.Prelude.{ℕ, List, ◌++◌, Bool, codes, Option, Some, None, true, if◌then◌else◌}
use Rattle.lc_model.specs.declared.change.Change.{Change}
use Rattle.lc_model.specs.declared.connection.Connection.{Connection}
use Rattle.lc_model.specs.declared.doc.StopsDoc.{StopsDoc}
use Rattle.lc_model.specs.declared.page.PageName.{PageName}
use Rattle.lc_model.specs.declared.stop.Stop.{Stop}
use Rattle.lc_time.specs.Iso.{iso_text_of}
use Rattle.connection_uri.specs.Base.{BaseParts}
use Rattle.connection_uri.specs.Name.{name_of}
use Rattle.connection_uri.specs.Page.{page_url_of}
use Rattle.serde_json.specs.Data.{Data, number, array, object, boolean, unsigned, Members, no_members, member}
use Rattle.serde_json.specs.Find.{of_integer}
use Rattle.serde_json.specs.Written.{compact_text}
use Rattle.page_json.specs.Urls.{stop_url_of, trip_url_of}
use Rattle.page_json.specs.declared.page.Page.{Page}
use Rattle.page_json.specs.ObjectMembers.MemberWriting.{items_from, text_at}

-- whether one may board or alight (GTFS vocabulary: PickupType and DropOffType)
abbrev pub allowed_text : Bool → List ℕ
allowed_text allowed = if allowed then codes "gtfs:Regular" else codes "gtfs:NotAvailable"

-- a connection. Delays are in whole seconds
unfoldable pub connection_tree : BaseParts → Connection → Data
connection_tree base c =
    object
    (text_at (codes "@id") (name_of base c.key c.seq)
    (text_at (codes "@type") (codes "Connection")
    (member (codes "arrivalDelay") (number (of_integer c.arr_delay))
    (text_at (codes "arrivalStop") (stop_url_of base c.arr_stop)
    (text_at (codes "arrivalTime") (iso_text_of c.arr)
    (member (codes "departureDelay") (number (of_integer c.dep_delay))
    (text_at (codes "departureStop") (stop_url_of base c.dep_stop)
    (text_at (codes "departureTime") (iso_text_of c.dep)
    (text_at (codes "gtfs:dropOffType") (allowed_text c.alight)
    (text_at (codes "gtfs:pickupType") (allowed_text c.board)
    (text_at (codes "gtfs:trip") (trip_url_of base c.key) no_members)))))))))))

-- in the context: a property whose values are IRIs
abbrev pub iri_tree : Data
iri_tree = object (text_at (codes "@type") (codes "@id") no_members)

-- in the context: a property of this name, whose values have this type
abbrev pub typed_tree : List ℕ → List ℕ → Data
typed_tree name kind = object (text_at (codes "@id") name (text_at (codes "@type") kind no_members))

-- what the names of a connection's members mean, before other members
abbrev pub with_connection_terms : Members → Members
with_connection_terms rest =
    text_at (codes "Connection") (codes "lc:Connection")
    (text_at (codes "arrivalDelay") (codes "lc:arrivalDelay")
    (member (codes "arrivalStop") (typed_tree (codes "lc:arrivalStop") (codes "@id"))
    (member (codes "arrivalTime") (typed_tree (codes "lc:arrivalTime") (codes "xsd:dateTime"))
    (text_at (codes "departureDelay") (codes "lc:departureDelay")
    (member (codes "departureStop") (typed_tree (codes "lc:departureStop") (codes "@id"))
    (member (codes "departureTime") (typed_tree (codes "lc:departureTime") (codes "xsd:dateTime")) rest))))))

-- what the short names of a page mean (JSON-LD 1.1, section 3.1)
unfoldable pub context_tree : Data
context_tree =
    object (with_connection_terms
    (text_at (codes "gtfs") (codes "http://vocab.gtfs.org/terms#")
    (member (codes "gtfs:dropOffType") iri_tree
    (member (codes "gtfs:pickupType") iri_tree
    (member (codes "gtfs:trip") iri_tree
    (text_at (codes "hydra") (codes "http://www.w3.org/ns/hydra/core#")
    (member (codes "hydra:next") iri_tree
    (member (codes "hydra:previous") iri_tree
    (text_at (codes "lc") (codes "http://semweb.mmlab.be/ns/linkedconnections#")
    (text_at (codes "xsd") (codes "http://www.w3.org/2001/XMLSchema#") no_members))))))))))

-- what is put in place of the variable of the template (Hydra, IriTemplateMapping)
unfoldable pub mapping_tree : Data
mapping_tree =
    object
    (text_at (codes "@type") (codes "hydra:IriTemplateMapping")
    (text_at (codes "hydra:property") (codes "lc:departureTimeQuery")
    (member (codes "hydra:required") (boolean true)
    (text_at (codes "hydra:variable") (codes "departureTime") no_members))))

-- how a page is asked for by a moment of departure (Hydra, IriTemplate)
unfoldable pub search_tree : BaseParts → Data
search_tree base =
    object
    (text_at (codes "@type") (codes "hydra:IriTemplate")
    (member (codes "hydra:mapping") mapping_tree
    (text_at (codes "hydra:template") (base.text ++ codes "connections{?departureTime}") no_members)))

-- a link to a page, if there is one, before other members
abbrev pub link_at : BaseParts → List ℕ → Option PageName → Members → Members
link_at base key None rest = rest
link_at base key (Some name) rest = text_at key (page_url_of base name) rest

-- a page with its connections and its links
abbrev pub page_tree : BaseParts → Page → Data
page_tree base page =
    object
    (member (codes "@context") context_tree
    (member (codes "@graph") (array (items_from (connection_tree base) page.list))
    (text_at (codes "@id") (page_url_of base page.name)
    (text_at (codes "@type") (codes "hydra:PartialCollectionView")
    (link_at base (codes "hydra:next") page.next
    (link_at base (codes "hydra:previous") page.previous
    (member (codes "hydra:search") (search_tree base) no_members)))))))

-- the text of a page
unfoldable pub page_text_of : BaseParts → Page → List ℕ
page_text_of base page = compact_text (page_tree base page)

-- a change between stops
unfoldable pub change_tree : Change → Data
change_tree change =
    object
    (text_at (codes "from") change.from
    (member (codes "seconds") (number (unsigned change.seconds))
    (text_at (codes "to") change.to no_members)))

-- the parent of a stop, if it has one
abbrev pub parent_at : Option (List ℕ) → Members
parent_at None = no_members
parent_at (Some parent) = text_at (codes "parent") parent no_members

-- a stop
unfoldable pub stop_tree : Stop → Data
stop_tree stop =
    object (text_at (codes "id") stop.id (text_at (codes "name") stop.name (parent_at stop.parent)))

-- a stops document that has this URL
abbrev pub doc_tree : List ℕ → StopsDoc → Data
doc_tree url doc =
    object
    (text_at (codes "@id") url
    (member (codes "changes") (array (items_from change_tree doc.changes))
    (member (codes "stops") (array (items_from stop_tree doc.stops)) no_members)))

-- the stops document under a base
abbrev pub stops_tree : BaseParts → StopsDoc → Data
stops_tree base doc = doc_tree (base.text ++ codes "stops") doc

-- the text of the stops document
unfoldable pub stops_text_of : BaseParts → StopsDoc → List ℕ
stops_text_of base doc = compact_text (stops_tree base doc)
