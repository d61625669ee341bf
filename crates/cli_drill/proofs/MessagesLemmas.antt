-- The bytes of a generated message are a message of its update.
use Rattle.std.proofs.Common.{◌≡◌, ℕ, ℤ, zero, suc, pos, ◌+◌, ◌*◌, ◌^◌, ◌<◌, ◌≤◌, true, List, [], ◌∷◌, ◌++◌, map, length, codes, decimal, Option, Some, None, refl, sym, ap, ap₂, subst, ◌∙◌, append_assoc, arith, lit<, lit≤}
use Rattle.std.specs.Prelude.{count_by, option_map, unwrap_or}
use Rattle.std.specs.Int.{w32, cast_signed}
use Rattle.std.specs.List.{AllByRecursion}
use Rattle.std.proofs.Math.Nat.{mod-eq_of_lt}
use Rattle.std.proofs.lemmas.Bool.{lt-ltb}
use Rattle.std.proofs.lemmas.Fmt.{length-decimal-le}
use Rattle.std.proofs.lemmas.Int.{to_z_pos}
use Rattle.std.proofs.lemmas.List.{append-nil, length-append}
use Rattle.lc_time.specs.Date.{date_said}
use Rattle.lc_model.specs.Versions.News.{EntitySaid}
use Rattle.lc_model.specs.declared.versions.event.Relation.TheVariants as relations
use Rattle.lc_model.specs.declared.versions.event.TripKind.TheVariants as kinds
use Rattle.lc_model.specs.declared.versions.update.Update.{Update}
use Rattle.rt_protobuf.specs.Grammar.{WireField, text, varint}
use Rattle.rt_protobuf.specs.Writing.{IsWritableField, field_text, fields_text, varint_text}
use Rattle.rt_protobuf.proofs.WritingLemmas.{at_most_ten, fields_are_written}
use Rattle.trip_updates.specs.Meaning.{counts, entity_of, head_of, no_head, stated, update_of as said_by, update_with as update_by}
use Rattle.trip_updates.specs.Message.{Add, IsMessage, IsTree}
use Rattle.trip_updates.specs.Table.{low_32, feed_header, feed_message, feed_entity, stop_time_event, stop_time_update, trip_descriptor, trip_update}
use Rattle.trip_updates.specs.Tree.{Tree, and_message, and_text, and_varint, empty, last_message, messages}
use Rattle.cli_drill.specs.Messages.{descriptor_fields, entities_fields, entities_from, entity_fields, event_fields, header_fields, late_at, late_of, message_fields, message_of, message_text, moment_of, stop_fields, trip_fields, update_of, update_with}
use Rattle.cli_drill.specs.Network.{line_of, side_of, trip_count, turn_of}
use Rattle.cli_drill.specs.Rows.{trip_name}
use Rattle.cli_drill.specs.declared.messages.Late.{Late}
use Rattle.cli_drill.proofs.DrawsLemmas.{drawn_below, few_trips, some_trips}

-- what holds of what is drawn of a late trip
pub record IsDrawn (late : Late) : Type 0 where
  pub trip : late.trip < 12_960
  pub delay : late.delay < 900

-- ---- lengths

varint_short : (number n : ℕ) → length (field_text (record { number = number; content = varint n })) ≤ 20
varint_short number n = omega (arith, length-append (varint_text (number * 8 + 0)) (varint_text n), at_most_ten (number * 8 + 0), at_most_ten n)

text_short : (number most : ℕ) (bytes : List ℕ) → length bytes ≤ most → length (field_text (record { number = number; content = text bytes })) ≤ most + 20
text_short number most bytes short =
    omega (
      arith,
      length-append (varint_text (number * 8 + 2)) (varint_text (length bytes) ++ bytes),
      length-append (varint_text (length bytes)) bytes,
      at_most_ten (number * 8 + 2),
      at_most_ten (length bytes),
      short,
    )

one_short : (f : WireField) (most : ℕ) → length (field_text f) ≤ most → length (fields_text (f ∷ [])) ≤ most
one_short f most short = subst (λ (bytes : List ℕ). length bytes ≤ most) (sym (append-nil (field_text f))) short

two_short : (f g : WireField) (j k : ℕ) → length (field_text f) ≤ j → length (field_text g) ≤ k → length (fields_text (f ∷ g ∷ [])) ≤ j + k
two_short f g j k p q = omega (arith, length-append (field_text f) (fields_text (g ∷ [])), p, one_short g k q)

three_short : (f g h : WireField) (j k l : ℕ) → length (field_text f) ≤ j → length (field_text g) ≤ k → length (field_text h) ≤ l → length (fields_text (f ∷ g ∷ h ∷ [])) ≤ j + (k + l)
three_short f g h j k l p q r = omega (arith, length-append (field_text f) (fields_text (g ∷ h ∷ [])), p, two_short g h k l q r)

number_short : (n : ℕ) → n < 2 ^ 32 → length (decimal n) ≤ 10
number_short n low = length-decimal-le 10 n (lit< tt) (omega (arith, low)) (omega (arith, low))

name_short : (trip : ℕ) → trip < 12_960 → length (trip_name trip) ≤ 22
name_short trip low =
    let line = number_short (line_of trip) (omega (arith, low)) in
    let turn = number_short (turn_of trip) (omega (arith, low)) in
    omega (
      arith,
      length-append (codes "t" ++ decimal (line_of trip) ++ codes "-") (decimal (turn_of trip)),
      length-append (codes "t" ++ decimal (line_of trip)) (codes "-"),
      length-append (codes "t") (decimal (line_of trip)),
      line,
      turn,
    )

-- a field with a varint, and one with a text
abbrev number_field : ℕ → ℕ → WireField
number_field number n = record { number = number; content = varint n }

abbrev bytes_field : ℕ → List ℕ → WireField
bytes_field number bytes = record { number = number; content = text bytes }

event_short : (late : Late) → length (fields_text (event_fields late)) ≤ 20
event_short late = one_short (number_field 1 late.delay) 20 (varint_short 1 late.delay)

stop_short : (late : Late) → length (fields_text (stop_fields late)) ≤ 60
stop_short late =
    let event : List ℕ = fields_text (event_fields late) in
    two_short (number_field 1 1) (bytes_field 3 event) 20 40 (varint_short 1 1) (text_short 3 20 event (event_short late))

descriptor_short : (late : Late) → IsDrawn late → length (fields_text (descriptor_fields late)) ≤ 70
descriptor_short late is =
    let name : List ℕ = trip_name late.trip in
    two_short (bytes_field 1 name) (bytes_field 3 (codes "20240501")) 42 28 (text_short 1 22 name (name_short late.trip is.trip)) (text_short 3 8 (codes "20240501") (lit≤ tt))

trip_short : (late : Late) → IsDrawn late → length (fields_text (trip_fields late)) ≤ 170
trip_short late is =
    let descriptor : List ℕ = fields_text (descriptor_fields late) in
    let stop : List ℕ = fields_text (stop_fields late) in
    two_short (bytes_field 1 descriptor) (bytes_field 2 stop) 90 80 (text_short 1 70 descriptor (descriptor_short late is)) (text_short 2 60 stop (stop_short late))

entity_short : (id : ℕ) (late : Late) → id < 2 ^ 32 → IsDrawn late → length (fields_text (entity_fields id late)) ≤ 220
entity_short id late low is =
    let trip : List ℕ = fields_text (trip_fields late) in
    two_short (bytes_field 1 (decimal id)) (bytes_field 3 trip) 30 190 (text_short 1 10 (decimal id) (number_short id low)) (text_short 3 170 trip (trip_short late is))

header_short : (moment : ℕ) → length (fields_text (header_fields moment)) ≤ 63
header_short moment =
    three_short (bytes_field 1 (codes "2.0")) (number_field 2 0) (number_field 3 moment) 23 20 20 (text_short 1 3 (codes "2.0") (lit≤ tt)) (varint_short 2 0) (varint_short 3 moment)

-- ---- the messages in a message, as trees

event_tree : Late → Tree
event_tree late = and_varint empty 1 late.delay

stop_tree : Late → Tree
stop_tree late = and_message (and_varint empty 1 1) 3 (event_tree late)

descriptor_tree : Late → Tree
descriptor_tree late = and_text (and_text empty 1 (trip_name late.trip)) 3 (codes "20240501")

trip_tree : Late → Tree
trip_tree late = and_message (and_message empty 1 (descriptor_tree late)) 2 (stop_tree late)

entity_tree : ℕ → Late → Tree
entity_tree id late = and_message (and_text empty 1 (decimal id)) 3 (trip_tree late)

header_tree : ℕ → Tree
header_tree moment = and_varint (and_varint (and_text empty 1 (codes "2.0")) 2 0) 3 moment

is_event : (late : Late) → IsDrawn late → IsTree 0 stop_time_event (fields_text (event_fields late)) (event_tree late)
unfolding IsTree event_tree
is_event late is = record {
  fields = event_fields late;
  parted = fields_are_written (event_fields late) (record { number = (lit< tt, lit≤ tt); content = omega (arith, is.delay) }, tt);
  added = (event_tree late, refl, refl);
  nothing_lacks = refl;
}

is_stop : (late : Late) → IsDrawn late → IsTree 1 stop_time_update (fields_text (stop_fields late)) (stop_tree late)
unfolding IsTree stop_tree event_tree
is_stop late is = record {
  fields = stop_fields late;
  parted = fields_are_written (stop_fields late) (record { number = (lit< tt, lit≤ tt); content = lit< tt }, (record { number = (lit< tt, lit≤ tt); content = omega (arith, event_short late) }, tt));
  added = (and_varint empty 1 1, refl, (stop_tree late, (refl, event_tree late, is_event late is, refl), refl));
  nothing_lacks = refl;
}

is_descriptor : (late : Late) → IsDrawn late → IsTree 1 trip_descriptor (fields_text (descriptor_fields late)) (descriptor_tree late)
unfolding IsTree descriptor_tree
is_descriptor late is = record {
  fields = descriptor_fields late;
  parted = fields_are_written (descriptor_fields late) (record { number = (lit< tt, lit≤ tt); content = omega (arith, name_short late.trip is.trip) }, (record { number = (lit< tt, lit≤ tt); content = lit< tt }, tt));
  added = (and_text empty 1 (trip_name late.trip), refl, (descriptor_tree late, refl, refl));
  nothing_lacks = refl;
}

is_trip : (late : Late) → IsDrawn late → IsTree 2 trip_update (fields_text (trip_fields late)) (trip_tree late)
unfolding IsTree trip_tree
is_trip late is = record {
  fields = trip_fields late;
  parted = fields_are_written (trip_fields late) (record { number = (lit< tt, lit≤ tt); content = omega (arith, descriptor_short late is) }, (record { number = (lit< tt, lit≤ tt); content = omega (arith, stop_short late) }, tt));
  added = (and_message empty 1 (descriptor_tree late), (refl, descriptor_tree late, is_descriptor late is, refl), (trip_tree late, (stop_tree late, is_stop late is, refl), refl));
  nothing_lacks = refl;
}

is_entity : (id : ℕ) (late : Late) → id < 2 ^ 32 → IsDrawn late → IsTree 3 feed_entity (fields_text (entity_fields id late)) (entity_tree id late)
unfolding IsTree entity_tree
is_entity id late low is = record {
  fields = entity_fields id late;
  parted = fields_are_written (entity_fields id late) (record { number = (lit< tt, lit≤ tt); content = omega (arith, number_short id low) }, (record { number = (lit< tt, lit≤ tt); content = omega (arith, trip_short late is) }, tt));
  added = (and_text empty 1 (decimal id), refl, (entity_tree id late, (refl, trip_tree late, is_trip late is, refl), refl));
  nothing_lacks = refl;
}

is_header : (moment : ℕ) → moment < 253_402_128_000 → IsTree 3 feed_header (fields_text (header_fields moment)) (header_tree moment)
unfolding IsTree header_tree
is_header moment low = record {
  fields = header_fields moment;
  parted = fields_are_written (header_fields moment) (record { number = (lit< tt, lit≤ tt); content = lit< tt }, (record { number = (lit< tt, lit≤ tt); content = lit< tt }, (record { number = (lit< tt, lit≤ tt); content = omega (arith, low) }, tt)));
  added = (and_text empty 1 (codes "2.0"), refl, (and_varint (and_text empty 1 (codes "2.0")) 2 0, refl, (header_tree moment, refl, refl)));
  nothing_lacks = rw (lt-ltb moment 253_402_128_000 low) refl;
}

-- ---- the message

entities_tree : Tree → ℕ → List Late → Tree
entities_tree before id [] = before
entities_tree before id (late ∷ more) = entities_tree (and_message before 2 (entity_tree id late)) (suc id) more

trees_of : ℕ → List Late → List Tree
trees_of id [] = []
trees_of id (late ∷ more) = entity_tree id late ∷ trees_of (suc id) more

writable_entities : (id : ℕ) (all : List Late) → id + length all < 2 ^ 32 → AllByRecursion IsDrawn all → AllByRecursion IsWritableField (entities_fields id all)
writable_entities id [] low are = tt
writable_entities id (late ∷ more) low are =
    (record { number = (lit< tt, lit≤ tt); content = omega (arith, entity_short id late (omega (arith, low)) are.0) }, writable_entities (suc id) more (omega (arith, low)) are.1)

add_entities : (id : ℕ) (all : List Late) (before : Tree) → id + length all < 2 ^ 32 → AllByRecursion IsDrawn all → Add (IsTree 3) feed_message before (entities_fields id all) (entities_tree before id all)
unfolding entities_tree
add_entities id [] before low are = refl
add_entities id (late ∷ more) before low are = (
  and_message before 2 (entity_tree id late),
  (entity_tree id late, is_entity id late (omega (arith, low)) are.0, refl),
  add_entities (suc id) more (and_message before 2 (entity_tree id late)) (omega (arith, low)) are.1,
)

-- entities leave the header
same_header : (id : ℕ) (all : List Late) (before : Tree) → last_message 1 (entities_tree before id all) ≡ last_message 1 before
unfolding entities_tree
same_header id [] before = refl
same_header id (late ∷ more) before = same_header (suc id) more (and_message before 2 (entity_tree id late))

all_messages : (id : ℕ) (all : List Late) (before : Tree) → messages 2 (entities_tree before id all) ≡ messages 2 before ++ trees_of id all
unfolding entities_tree trees_of
all_messages id [] before = sym (append-nil (messages 2 before))
all_messages id (late ∷ more) before =
    all_messages (suc id) more (and_message before 2 (entity_tree id late)) ∙ append_assoc (messages 2 before) (entity_tree id late ∷ []) (trees_of (suc id) more)

-- what an entity says of a delay
abbrev said : ℕ → Late → ℤ → EntitySaid
said id late delay = record {
  id = decimal id;
  news = Some (record {
    trip = trip_name late.trip;
    date = date_said (codes "20240501");
    start = None;
    kind = kinds.Scheduled;
    stops = record { seq = Some 1; stop = None; relation = relations.Scheduled; arr = None; dep = Some (record { delay = Some delay; time = None }) } ∷ [];
  });
}

delay_is : (delay : ℕ) → delay < 900 → cast_signed w32 (low_32 delay) ≡ pos delay
delay_is delay low =
    let fits : delay < 2 ^ 32 = omega (arith, low) in
    ap (cast_signed w32) (mod-eq_of_lt fits) ∙ to_z_pos w32 delay (omega (arith, low))

-- an entity of a full message states this, and is not passed over
entity_states : (id : ℕ) (late : Late) → IsDrawn late → stated true (entity_of (entity_tree id late)) ≡ said id late (pos late.delay)
unfolding entity_tree trip_tree descriptor_tree stop_tree event_tree
entity_states id late is = ap (said id late) (delay_is late.delay is.delay)

all_stated : (id : ℕ) (all : List Late) → AllByRecursion IsDrawn all → map (stated true) (map entity_of (trees_of id all)) ≡ entities_from id all
unfolding trees_of
all_stated id [] are = refl
all_stated id (late ∷ more) are =
    ap₂ (λ (e : EntitySaid) (rest : List EntitySaid). e ∷ rest) (entity_states id late are.0) (all_stated (suc id) more are.1)

none_passed : (id : ℕ) (all : List Late) → count_by (counts true) (map entity_of (trees_of id all)) ≡ 0
unfolding trees_of entity_tree trip_tree descriptor_tree stop_tree event_tree
none_passed id [] = refl
none_passed id (late ∷ more) = none_passed (suc id) more

-- ---- a message of drawn trips

module _ (moment : ℕ) (all : List Late) (in_time : moment < 253_402_128_000) (few : length all < 2 ^ 31) (are : AllByRecursion IsDrawn all) where
  abbrev with_header : Tree
  with_header = and_message empty 1 (header_tree moment)

  abbrev whole : Tree
  whole = entities_tree with_header 0 all

  header_is : last_message 1 whole ≡ Some (header_tree moment)
  header_is = same_header 0 all with_header

  entities_are : messages 2 whole ≡ trees_of 0 all
  entities_are = all_messages 0 all with_header

  says : update_with moment all ≡ said_by whole
  unfolding header_tree
  says = sym (
      ap₂ (λ (header : Option Tree) (trees : List Tree). update_by (unwrap_or (option_map head_of header) no_head) (map entity_of trees)) header_is entities_are
      ∙ ap₂ (λ (entities : List EntitySaid) (passed : ℕ). made entities passed) (all_stated 0 all are) (none_passed 0 all)
      )
    where
      made : List EntitySaid → ℕ → Update
      made entities passed = record { moment = moment; full = true; entities = entities; passed = passed }

  is_whole : IsTree 4 feed_message (message_text moment all) whole
  unfolding IsTree
  is_whole = record {
    fields = message_fields moment all;
    parted = fields_are_written (message_fields moment all)
        (record { number = (lit< tt, lit≤ tt); content = omega (arith, header_short moment) }, writable_entities 0 all (omega (arith, few)) are);
    added = (with_header, (refl, header_tree moment, is_header moment in_time, refl), add_entities 0 all with_header (omega (arith, few)) are);
    nothing_lacks = rw header_is refl;
  }

  pub is_message : IsMessage (message_text moment all) (update_with moment all)
  is_message = record { tree = whole; is_tree = is_whole; said = says }

-- ---- the trips that are drawn

late_drawn : (seed message entity : ℕ) → IsDrawn (late_at seed message entity)
late_drawn seed message entity =
    let trip = drawn_below seed (40 * message + 2 * entity) (trip_count (side_of seed)) (some_trips seed) in
    let delay = drawn_below seed (40 * message + 2 * entity + 1) 900 (lit< tt) in
    record { trip = omega (arith, trip, few_trips seed); delay = delay }

and_one : (P : Late → Type 0) (all : List Late) (one : Late) → AllByRecursion P all → P one → AllByRecursion P (all ++ one ∷ [])
and_one P [] one are is = (is, tt)
and_one P (first ∷ all) one are is = (are.0, and_one P all one are.1 is)

all_drawn : (seed message count : ℕ) → AllByRecursion IsDrawn (late_of seed message count)
unfolding late_of
all_drawn seed message zero = tt
all_drawn seed message (suc count) = and_one IsDrawn (late_of seed message count) (late_at seed message count) (all_drawn seed message count) (late_drawn seed message count)

pub counted : (seed message count : ℕ) → length (late_of seed message count) ≡ count
unfolding late_of
counted seed message zero = refl
counted seed message (suc count) = length-append (late_of seed message count) (late_at seed message count ∷ []) ∙ omega (arith, counted seed message count)

pub message_says : (seed message : ℕ) → message < 10 → IsMessage (message_of seed message) (update_of seed message)
message_says seed message low =
    is_message (moment_of message) (late_of seed message 20) (omega (arith, low)) (omega (arith, counted seed message 20)) (all_drawn seed message 20)
