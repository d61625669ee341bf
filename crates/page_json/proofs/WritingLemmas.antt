-- What is appended of a page is the page's text.
use Rattle.std.proofs.Common.{◌≡◌, ℕ, ◌+◌, ◌^◌, ◌<◌, ◌≤◌, ℤ, pos, negsuc, zero, suc, Bool, true, false, List, [], ◌∷◌, ◌++◌, length, drop, get_or, codes, decimal, map, Option, Some, None, All, refl, sym, ap, ap₂, ◌∙◌, append_assoc, arith}
use Rattle.std.specs.Fmt.{digits, signed_decimal}
use Rattle.std.specs.Option.{IfSome}
use Rattle.std.proofs.lemmas.Grind.{flat_map-append}
use Rattle.std.proofs.lemmas.List.{drop_all, drop_more}
use Rattle.std.proofs.lemmas.List.Elements.{All-head, All-tail}
use Rattle.json.specs.Print.{escape, escape_byte, quoted}
use Rattle.serde_json.specs.Data.{Members, array, member, no_members, number}
use Rattle.serde_json.specs.Find.{of_integer}
use Rattle.serde_json.specs.View.{items_of}
use Rattle.serde_json.specs.Written.{compact_text, items_text, members_text, number_text}
use Rattle.lc_model.specs.declared.connection.Connection.{Connection}
use Rattle.lc_model.specs.declared.key.RunKey.{RunKey}
use Rattle.lc_model.specs.declared.page.PageName.{PageName}
use Rattle.lc_time.specs.Iso.{iso_text_of}
use Rattle.connection_uri.specs.Base.{BaseParts}
use Rattle.connection_uri.specs.Encoding.{encoded}
use Rattle.connection_uri.specs.Name.{name_of, run_part_of}
use Rattle.connection_uri.specs.Page.{page_url_of}
use Rattle.page_json.specs.ObjectMembers.MemberWriting.{text_at}
use Rattle.page_json.specs.ConnectionWriting.{call_part, delay_part, list_part, members_part, name_part, rest_part, use_front}
use Rattle.page_json.specs.Fronts.{delay_under, fronts_under, uses_under}
use Rattle.page_json.specs.PageWriting.{link_part, page_part, search_part, url_part, view_part}
use Rattle.page_json.specs.Sound.{IsSoundConnection, IsSoundName, IsSoundPage}
use Rattle.page_json.specs.Tree.{allowed_text, connection_tree, context_tree, link_at, mapping_tree, page_text_of, search_tree}
use Rattle.page_json.specs.Urls.{stop_url_of, trip_url_of}
use Rattle.page_json.specs.declared.fronts.Fronts.{Fronts}
use Rattle.page_json.specs.declared.moment_text.End.TheVariants.{Arrival, Departure}
use Rattle.page_json.specs.declared.page.Page.{Page}
use Rattle.page_json.specs.declared.page_writing.TheConstants.{HEAD, SEARCH}
use Rattle.page_json.proofs.PlainLemmas as plain
use Rattle.page_json.proofs.PlainLemmas.{Plain}

-- ---- a list of connections, one after the other

pub one_more : (f : Fronts) (old now next : List ℕ) (xs : List Connection) (place : ℕ) (x : Connection) → place < length xs → x ≡ get_or xs place x
    → now ++ rest_part f (drop place xs) ≡ old → next ≡ now ++ (f.names.next ++ members_part f x) → next ++ rest_part f (drop (place + 1) xs) ≡ old
one_more f old now next xs place x inside is so h =
    let rest = rest_part f (drop (place + 1) xs) in
    let left = drop_more xs place x inside ∙ ap (λ (y : Connection). y ∷ drop (place + 1) xs) (sym is) in
    ap (λ (s : List ℕ). s ++ rest) h ∙ append_assoc now (f.names.next ++ members_part f x) rest ∙ ap (λ (s : List ℕ). now ++ s) (append_assoc f.names.next (members_part f x) rest)
    ∙ ap (λ (ys : List Connection). now ++ rest_part f ys) (sym left) ∙ so

pub all_there : (f : Fronts) (old now new : List ℕ) (xs : List Connection) (place : ℕ) → length xs ≤ place → now ++ rest_part f (drop place xs) ≡ old → new ≡ now ++ codes "\"}]" → new ≡ old
all_there f old now new xs place past so h = h ∙ ap (λ (ys : List Connection). now ++ rest_part f ys) (sym (drop_all place xs past)) ∙ so

-- ---- texts in JSON

-- what is between the quotation marks of a text
pub in_quotes : (text inside rest : List ℕ) → escape text ≡ inside → quoted text ++ rest ≡ 34 ∷ (inside ++ 34 ∷ rest)
in_quotes text inside rest e = ap (λ (s : List ℕ). 34 ∷ s) (append_assoc (escape text) (34 ∷ []) rest ∙ ap (λ (s : List ℕ). s ++ 34 ∷ rest) e)

-- a text under a base
under : (base tail text : List ℕ) → Plain tail → text ≡ base ++ tail → escape text ≡ escape base ++ tail
under base tail text h e = ap escape e ∙ flat_map-append escape_byte base tail ∙ ap (λ (s : List ℕ). escape base ++ s) h.same

number_is : (z : ℤ) → number_text (of_integer z) ≡ signed_decimal z
number_is (pos n) = refl
number_is (negsuc n) = refl

allowed_same : (b : Bool) → escape (allowed_text b) ≡ allowed_text b
unfolding escape_byte
allowed_same true = refl
allowed_same false = refl

-- a member whose value is a text, and members after it
text_then : (key front text inside : List ℕ) (ms : Members) (rest : List ℕ) → ((s : List ℕ) → 44 ∷ (quoted key ++ 58 ∷ s) ≡ front ++ s) → escape text ≡ inside → members_text true ms ≡ rest
    → members_text true (text_at key text ms) ≡ front ++ 34 ∷ (inside ++ 34 ∷ rest)
text_then key front text inside ms rest begins e after =
    begins (quoted text ++ members_text true ms) ∙ ap (λ (s : List ℕ). front ++ s) (in_quotes text inside (members_text true ms) e ∙ ap (λ (s : List ℕ). 34 ∷ (inside ++ 34 ∷ s)) after)

-- a member whose value is a number, and members after it
number_then : (key front : List ℕ) (z : ℤ) (ms : Members) (rest : List ℕ) → ((s : List ℕ) → 44 ∷ (quoted key ++ 58 ∷ s) ≡ front ++ s) → members_text true ms ≡ rest
    → members_text true (member key (number (of_integer z)) ms) ≡ front ++ (signed_decimal z ++ rest)
number_then key front z ms rest begins after =
    begins (number_text (of_integer z) ++ members_text true ms) ∙ ap (λ (s : List ℕ). front ++ s) (ap₂ (λ (a b : List ℕ). a ++ b) (number_is z) after)

-- ---- a connection

-- how 0 is written
zero_is : decimal 0 ≡ codes "0"
unfolding digits
zero_is = refl

module _ (base : BaseParts) where
  abbrev text : List ℕ
  text = escape base.text

  abbrev f : Fronts
  f = fronts_under text

  name_inside : (key : RunKey) (seq : ℕ) → Plain (run_part_of key) → seq < 2 ^ 32 → escape (name_of base key seq) ≡ text ++ (codes "connections/" ++ (run_part_of key ++ (codes "/" ++ decimal seq)))
  name_inside key seq run small =
      let tail = codes "connections/" ++ (run_part_of key ++ (codes "/" ++ decimal seq)) in
      let rest = plain.both (plain.tested (codes "/") refl) (plain.number seq (omega arith)) in
      under base.text tail (name_of base key seq) (plain.both (plain.tested (codes "connections/") refl) (plain.both run rest)) (grouped base.text (codes "connections/") (run_part_of key) (codes "/") (decimal seq))
    where
      grouped : (a b c d e : List ℕ) → a ++ b ++ c ++ d ++ e ≡ a ++ (b ++ (c ++ (d ++ e)))
      grouped a b c d e = simp append_assoc

  stop_inside : (stop : List ℕ) → Plain (encoded stop) → escape (stop_url_of base stop) ≡ text ++ (codes "stops/" ++ encoded stop)
  stop_inside stop h = under base.text (codes "stops/" ++ encoded stop) (stop_url_of base stop) (plain.both (plain.tested (codes "stops/") refl) h) refl

  trip_inside : (key : RunKey) → Plain (run_part_of key) → escape (trip_url_of base key) ≡ text ++ (codes "trips/" ++ run_part_of key)
  trip_inside key run =
      under base.text (codes "trips/" ++ run_part_of key) (trip_url_of base key) (plain.both (plain.tested (codes "trips/") refl) run) (append_assoc base.text (codes "trips/") (run_part_of key))

  -- a delay is written so, also one of 0
  delay_is : (before after : List ℕ) (z : ℤ) → delay_part (delay_under text before after) z ≡ before ++ (signed_decimal z ++ (after ++ (text ++ codes "stops/")))
  delay_is before after (pos zero) = ap (λ (s : List ℕ). before ++ (s ++ (after ++ (text ++ codes "stops/")))) (sym zero_is)
  delay_is before after (pos (suc n)) = refl
  delay_is before after (negsuc n) = refl

  -- whether one may alight and board is written so
  use_is : (alight board : Bool) → use_front (uses_under text) alight board
      ≡ (codes "\",\"gtfs:dropOffType\":\"" ++ (allowed_text alight ++ (codes "\",\"gtfs:pickupType\":\"" ++ allowed_text board))) ++ (codes "\",\"gtfs:trip\":\"" ++ (text ++ codes "trips/"))
  use_is true true = refl
  use_is true false = refl
  use_is false true = refl
  use_is false false = refl

  -- the members and the parts of a connection, grouped in two ways
  regrouped : (t id conn run slash seq t1 ad fs stops to k1 arr end k2 dd gs off k3 dep u1 al u2 bo ft trips e : List ℕ)
      → id ++ ((t ++ (conn ++ (run ++ (slash ++ seq)))) ++ (t1 ++ (ad ++ (fs ++ ((t ++ (stops ++ to)) ++ (k1 ++ (arr ++ (end ++ (k2 ++ (dd ++ (gs ++ ((t ++ (stops ++ off)) ++ (k3 ++ (dep ++ (u1 ++ (al ++ (u2 ++ (bo ++ (ft ++ ((t ++ (trips ++ run)) ++ e))))))))))))))))))))
      ≡ id ++ (t ++ (conn ++ (((run ++ (slash ++ seq)) ++ (((t1 ++ (ad ++ (fs ++ (t ++ stops)))) ++ (to ++ (k1 ++ (arr ++ end)))) ++ (((k2 ++ (dd ++ (gs ++ (t ++ stops)))) ++ (off ++ (k3 ++ dep))) ++ (((u1 ++ (al ++ (u2 ++ bo))) ++ (ft ++ (t ++ trips))) ++ run)))) ++ e)))
  regrouped t id conn run slash seq t1 ad fs stops to k1 arr end k2 dd gs off k3 dep u1 al u2 bo ft trips e = simp append_assoc

  -- a connection by what is written of its two delays and before its trip
  abbrev written : Connection → List ℕ → List ℕ → List ℕ → List ℕ
  written c arrival departure usage =
      codes "{\"@id\":\"" ++ (text ++ (codes "connections/" ++ ((name_part (run_part_of c.key) c.seq
      ++ ((arrival ++ call_part Arrival c.arr_stop c.arr) ++ ((departure ++ call_part Departure c.dep_stop c.dep) ++ (usage ++ run_part_of c.key)))) ++ codes "\"}")))

  written_same : (c : Connection) (a a' d d' u u' : List ℕ) → a' ≡ a → d' ≡ d → u' ≡ u → written c a d u ≡ written c a' d' u'
  written_same c a a' d d' u u' e1 e2 e3 = sym (λ i. written c (e1 i) (e2 i) (e3 i))

  -- the members of a connection, each with those after it
  abbrev trip_on : Connection → Members
  trip_on c = text_at (codes "gtfs:trip") (trip_url_of base c.key) no_members

  abbrev board_on : Connection → Members
  board_on c = text_at (codes "gtfs:pickupType") (allowed_text c.board) (trip_on c)

  abbrev alight_on : Connection → Members
  alight_on c = text_at (codes "gtfs:dropOffType") (allowed_text c.alight) (board_on c)

  abbrev departure_on : Connection → Members
  departure_on c = text_at (codes "departureTime") (iso_text_of c.dep) (alight_on c)

  abbrev from_on : Connection → Members
  from_on c = text_at (codes "departureStop") (stop_url_of base c.dep_stop) (departure_on c)

  abbrev departure_delay_on : Connection → Members
  departure_delay_on c = member (codes "departureDelay") (number (of_integer c.dep_delay)) (from_on c)

  abbrev arrival_on : Connection → Members
  arrival_on c = text_at (codes "arrivalTime") (iso_text_of c.arr) (departure_delay_on c)

  abbrev to_on : Connection → Members
  to_on c = text_at (codes "arrivalStop") (stop_url_of base c.arr_stop) (arrival_on c)

  abbrev arrival_delay_on : Connection → Members
  arrival_delay_on c = member (codes "arrivalDelay") (number (of_integer c.arr_delay)) (to_on c)

  abbrev kind_on : Connection → Members
  kind_on c = text_at (codes "@type") (codes "Connection") (arrival_delay_on c)

  connection_is : (c : Connection) → IsSoundConnection c → compact_text (connection_tree base c) ≡ codes "{\"@id\":\"" ++ (text ++ (codes "connections/" ++ (members_part f c ++ codes "\"}")))
  unfolding connection_tree escape_byte
  connection_is c sound =
      let run = plain.run c.key in
      let arr = plain.moment c.arr sound.arr in
      let dep = plain.moment c.dep sound.dep in
      let trip = text_then (codes "gtfs:trip") (codes ",\"gtfs:trip\":") (trip_url_of base c.key) _ no_members (125 ∷ []) (λ s. refl) (trip_inside c.key run) refl in
      let board = text_then (codes "gtfs:pickupType") (codes ",\"gtfs:pickupType\":") (allowed_text c.board) _ (trip_on c) _ (λ s. refl) (allowed_same c.board) trip in
      let alight = text_then (codes "gtfs:dropOffType") (codes ",\"gtfs:dropOffType\":") (allowed_text c.alight) _ (board_on c) _ (λ s. refl) (allowed_same c.alight) board in
      let departure = text_then (codes "departureTime") (codes ",\"departureTime\":") (iso_text_of c.dep) _ (alight_on c) _ (λ s. refl) dep.same alight in
      let from = text_then (codes "departureStop") (codes ",\"departureStop\":") (stop_url_of base c.dep_stop) _ (departure_on c) _ (λ s. refl) (stop_inside c.dep_stop (plain.id c.dep_stop)) departure in
      let departure_delay = number_then (codes "departureDelay") (codes ",\"departureDelay\":") c.dep_delay (from_on c) _ (λ s. refl) from in
      let arrival = text_then (codes "arrivalTime") (codes ",\"arrivalTime\":") (iso_text_of c.arr) _ (departure_delay_on c) _ (λ s. refl) arr.same departure_delay in
      let to = text_then (codes "arrivalStop") (codes ",\"arrivalStop\":") (stop_url_of base c.arr_stop) _ (arrival_on c) _ (λ s. refl) (stop_inside c.arr_stop (plain.id c.arr_stop)) arrival in
      let arrival_delay = number_then (codes "arrivalDelay") (codes ",\"arrivalDelay\":") c.arr_delay (to_on c) _ (λ s. refl) to in
      let kind = text_then (codes "@type") (codes ",\"@type\":") (codes "Connection") (codes "Connection") (arrival_delay_on c) _ (λ s. refl) refl arrival_delay in
      ap (λ (s : List ℕ). codes "{\"@id\":" ++ s) (in_quotes (name_of base c.key c.seq) _ (members_text true (kind_on c)) (name_inside c.key c.seq run sound.seq))
      ∙ ap (λ (s : List ℕ). codes "{\"@id\":\"" ++ ((text ++ (codes "connections/" ++ (run_part_of c.key ++ (codes "/" ++ decimal c.seq)))) ++ 34 ∷ s)) kind
      ∙ regrouped text (codes "{\"@id\":\"") (codes "connections/") (run_part_of c.key) (codes "/") (decimal c.seq) (codes "\",\"@type\":\"Connection\",\"arrivalDelay\":")
      (signed_decimal c.arr_delay) (codes ",\"arrivalStop\":\"") (codes "stops/") (encoded c.arr_stop) (codes "\",\"arrivalTime\":\"") (iso_text_of c.arr) (codes "\",") (codes "\"departureDelay\":")
      (signed_decimal c.dep_delay) (codes ",\"departureStop\":\"") (encoded c.dep_stop) (codes "\",\"departureTime\":\"") (iso_text_of c.dep) (codes "\",\"gtfs:dropOffType\":\"")
      (allowed_text c.alight) (codes "\",\"gtfs:pickupType\":\"") (allowed_text c.board) (codes "\",\"gtfs:trip\":\"") (codes "trips/") (codes "\"}")
      ∙ written_same c _ _ _ _ _ _
      (delay_is (codes "\",\"@type\":\"Connection\",\"arrivalDelay\":") (codes ",\"arrivalStop\":\"") c.arr_delay)
      (delay_is (codes "\"departureDelay\":") (codes ",\"departureStop\":\"") c.dep_delay)
      (use_is c.alight c.board)

  -- ---- the list of connections

  next_grouped : (n t conn m e rest : List ℕ) → (n ++ (t ++ conn)) ++ (m ++ (e ++ rest)) ≡ n ++ ((t ++ (conn ++ (m ++ e))) ++ rest)
  next_grouped n t conn m e rest = simp append_assoc

  rest_is : (cs : List Connection) → All IsSoundConnection cs → rest_part f cs ≡ codes "\"}" ++ items_text true (items_of (map (connection_tree base) cs))
  rest_is [] sound = refl
  rest_is (c ∷ cs) sound =
      let rest = items_text true (items_of (map (connection_tree base) cs)) in
      let m = members_part f c in
      ap (λ (s : List ℕ). f.names.next ++ (m ++ s)) (rest_is cs (All-tail IsSoundConnection c cs sound))
      ∙ next_grouped (codes "\"},{\"@id\":\"") text (codes "connections/") m (codes "\"}") rest
      ∙ ap (λ (s : List ℕ). codes "\"}," ++ (s ++ rest)) (sym (connection_is c (All-head IsSoundConnection c cs sound)))

  list_is : (cs : List Connection) → All IsSoundConnection cs → list_part f cs ≡ compact_text (array (items_of (map (connection_tree base) cs)))
  list_is [] sound = refl
  list_is (c ∷ cs) sound =
      let rest = items_text true (items_of (map (connection_tree base) cs)) in
      let m = members_part f c in
      ap (λ (s : List ℕ). f.names.first ++ (m ++ s)) (rest_is cs (All-tail IsSoundConnection c cs sound))
      ∙ next_grouped (codes "[{\"@id\":\"") text (codes "connections/") m (codes "\"}") rest
      ∙ ap (λ (s : List ℕ). codes "[" ++ (s ++ rest)) (sym (connection_is c (All-head IsSoundConnection c cs sound)))

  -- ---- a page

  url_grouped : (a b c d e : List ℕ) → a ++ b ++ c ++ d ++ e ≡ a ++ (b ++ (c ++ (d ++ e)))
  url_grouped a b c d e = simp append_assoc

  url_ended : (a b c d e q rest : List ℕ) → (a ++ (b ++ (c ++ (d ++ e)))) ++ (q ++ rest) ≡ (a ++ (b ++ (c ++ (d ++ (e ++ q))))) ++ rest
  url_ended a b c d e q rest = simp append_assoc

  url_then : (name : PageName) (rest : List ℕ) → IsSoundName name → quoted (page_url_of base name) ++ rest ≡ 34 ∷ (url_part text name ++ rest)
  url_then name rest sound =
      let version = plain.moment name.version sound.version in
      let departs = plain.moment name.departs sound.departs in
      let path = codes "memento/connections?version=" in
      let middle = codes "&departureTime=" in
      let tail = plain.both (plain.tested path refl) (plain.both version (plain.both (plain.tested middle refl) departs)) in
      let inside = under base.text _ (page_url_of base name) tail (url_grouped base.text path (iso_text_of name.version) middle (iso_text_of name.departs)) in
      in_quotes (page_url_of base name) _ rest inside
      ∙ ap (λ (s : List ℕ). 34 ∷ s) (url_ended text path (iso_text_of name.version) middle (iso_text_of name.departs) (codes "\"") rest)

  link_then : (key front : List ℕ) (link : Option PageName) (ms : Members) (rest : List ℕ) → ((s : List ℕ) → 44 ∷ (quoted key ++ 58 ∷ 34 ∷ s) ≡ front ++ s) → IfSome link IsSoundName → members_text true ms ≡ rest
      → members_text true (link_at base key link ms) ≡ link_part front text link ++ rest
  link_then key front None ms rest begins sound after = after
  link_then key front (Some name) ms rest begins sound after =
      ap (λ (s : List ℕ). 44 ∷ (quoted key ++ 58 ∷ s)) (ap (λ (s : List ℕ). quoted (page_url_of base name) ++ s) after ∙ url_then name rest sound)
      ∙ begins (url_part text name ++ rest) ∙ sym (append_assoc front (url_part text name) rest)

  ended_twice : (a : List ℕ) → ((a ++ codes "\"") ++ codes "}") ++ codes "}" ≡ a ++ codes "\"}}"
  ended_twice a = ap (λ (s : List ℕ). s ++ codes "}") (append_assoc a (codes "\"") (codes "}")) ∙ append_assoc a (codes "\"}") (codes "}")

  search_is : members_text true (member (codes "hydra:search") (search_tree base) no_members) ≡ search_part text
  unfolding search_tree mapping_tree escape_byte
  search_is =
      let template = codes "connections{?departureTime}" in
      let inside = under base.text template (base.text ++ template) (plain.tested template refl) refl in
      let end = ended_twice (escape (base.text ++ template)) ∙ ap (λ (s : List ℕ). s ++ codes "\"}}") inside ∙ append_assoc text template (codes "\"}}") in
      ap (λ (s : List ℕ). SEARCH.now ++ s) end

  view_is : (page : Page) → IsSoundPage page
      → members_text true
      (text_at (codes "@id") (page_url_of base page.name)
      (text_at (codes "@type") (codes "hydra:PartialCollectionView")
      (link_at base (codes "hydra:next") page.next
      (link_at base (codes "hydra:previous") page.previous
      (member (codes "hydra:search") (search_tree base) no_members)))))
      ≡ view_part text page ++ search_part text
  unfolding escape_byte
  view_is page sound =
      let searched = member (codes "hydra:search") (search_tree base) no_members in
      let previous = link_then (codes "hydra:previous") (codes ",\"hydra:previous\":\"") page.previous searched _ (λ s. refl) sound.previous search_is in
      let next = link_then (codes "hydra:next") (codes ",\"hydra:next\":\"") page.next (link_at base (codes "hydra:previous") page.previous searched) _ (λ s. refl) sound.next previous in
      let kind = codes ",\"@type\":\"hydra:PartialCollectionView\"" in
      let links = link_part (codes ",\"hydra:next\":\"") text page.next in
      let back = link_part (codes ",\"hydra:previous\":\"") text page.previous in
      ap (λ (s : List ℕ). codes ",\"@id\":" ++ (quoted (page_url_of base page.name) ++ (kind ++ s))) next
      ∙ ap (λ (s : List ℕ). codes ",\"@id\":" ++ s) (url_then page.name (kind ++ (links ++ (back ++ search_part text))) sound.name)
      ∙ view_grouped (codes ",\"@id\":\"") (url_part text page.name) kind links back (search_part text)
    where
      view_grouped : (a b c d e s : List ℕ) → a ++ (b ++ (c ++ (d ++ (e ++ s)))) ≡ (a ++ (b ++ (c ++ (d ++ e)))) ++ s
      view_grouped a b c d e s = simp append_assoc

  head_is : (s : List ℕ) → HEAD.now ++ s ≡ 123 ∷ (quoted (codes "@context") ++ 58 ∷ (compact_text context_tree ++ (44 ∷ (quoted (codes "@graph") ++ 58 ∷ s))))
  unfolding context_tree escape_byte
  head_is s = refl

  -- what is appended of a page is its text
  pub page_is : (page : Page) → IsSoundPage page → page_part f page ≡ page_text_of base page
  unfolding page_text_of
  page_is page sound =
      let view = view_part text page ++ search_part text in
      ap (λ (s : List ℕ). HEAD.now ++ s) (ap₂ (λ (a b : List ℕ). a ++ b) (list_is page.list sound.list) (sym (view_is page sound)))
      ∙ head_is _
