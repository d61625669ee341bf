-- A connection that is written is read as that connection.
use Rattle.std.proofs.Common.{◌≡◌, ◌≤◌, List, [], ◌∷◌, Bool, Ok, codes, map, refl, ap, ap₂, ◌∙◌, arith, le-leb}
use Rattle.std.specs.List.{All}
use Rattle.std.proofs.lemmas.List.Elements.{All-head, All-tail}
use Rattle.lc_model.specs.declared.connection.Connection.{Connection}
use Rattle.connection_uri.specs.Base.{BaseParts}
use Rattle.serde_json.specs.Data.{depth, items_depth}
use Rattle.serde_json.specs.View.{items_of}
use Rattle.page_json.specs.ObjectMembers.Members.{formed}
use Rattle.page_json.specs.PageReading.{connection_in, end_at, joined, unless_early}
use Rattle.page_json.specs.Sound.{IsSoundConnection}
use Rattle.page_json.specs.Tree.{connection_tree}
use Rattle.page_json.specs.declared.connection_reading.End.{End}
use Rattle.page_json.proofs.ObjectMembersLemmas.JsonLemmas.{AreWritable, IsWritable}
use Rattle.page_json.proofs.MembersLemmas.{allowed_read, delay_read, delay_writable, reads_moment, reads_name, reads_stop}
use Rattle.page_json.proofs.ObjectMembersLemmas.ReadingLemmas.{Reads, reads_exactly, reads_exactly_by, reads_then}

-- what the list holds of each connection
pub record IsGood (c : Connection) : Type 0 where
  pub sound : IsSoundConnection c
  pub forward : c.dep ≤ c.arr

arrival_of : Connection → End
arrival_of c = record { delay = c.arr_delay; stop = c.arr_stop; moment = c.arr }

departure_of : Connection → End
departure_of c = record { delay = c.dep_delay; stop = c.dep_stop; moment = c.dep }

reads_arrival : (base : BaseParts) (c : Connection) → IsSoundConnection c → Reads (end_at base (codes "arrivalDelay") (codes "arrivalStop") (codes "arrivalTime") (connection_tree base c)) (arrival_of c)
unfolding end_at connection_tree arrival_of
reads_arrival base c sound =
    let tree = connection_tree base c in
    reads_then _ c.arr_delay _ (arrival_of c) (reads_exactly_by _ c.arr_delay (ap (formed (codes "arrivalDelay")) (delay_read c.arr_delay sound.arr_delay)))
    (reads_then _ c.arr_stop _ (arrival_of c) (reads_stop base (codes "arrivalStop") tree c.arr_stop refl sound.arr_stop)
    (reads_then _ c.arr _ (arrival_of c) (reads_moment (codes "arrivalTime") tree c.arr refl sound.arr)
    (reads_exactly (arrival_of c))))

reads_departure : (base : BaseParts) (c : Connection) → IsSoundConnection c → Reads (end_at base (codes "departureDelay") (codes "departureStop") (codes "departureTime") (connection_tree base c)) (departure_of c)
unfolding end_at connection_tree departure_of
reads_departure base c sound =
    let tree = connection_tree base c in
    reads_then _ c.dep_delay _ (departure_of c) (reads_exactly_by _ c.dep_delay (ap (formed (codes "departureDelay")) (delay_read c.dep_delay sound.dep_delay)))
    (reads_then _ c.dep_stop _ (departure_of c) (reads_stop base (codes "departureStop") tree c.dep_stop refl sound.dep_stop)
    (reads_then _ c.dep _ (departure_of c) (reads_moment (codes "departureTime") tree c.dep refl sound.dep)
    (reads_exactly (departure_of c))))

joined_is : (base : BaseParts) (c : Connection) → joined (connection_tree base c) (c.key, c.seq) (arrival_of c) (departure_of c) ≡ c
unfolding connection_tree arrival_of departure_of
joined_is base c =
    let with_marks : Bool → Bool → Connection = λ board alight. record c { board = board; alight = alight } in
    ap₂ with_marks (allowed_read c.board) (allowed_read c.alight)

in_time : (c : Connection) → c.dep ≤ c.arr → unless_early c ≡ Ok c
in_time c h = rw (le-leb c.dep c.arr h) refl

pub reads_connection : (base : BaseParts) (c : Connection) → IsGood c → Reads (connection_in base (connection_tree base c)) c
unfolding connection_in connection_tree
reads_connection base c good =
    let tree = connection_tree base c in
    reads_then _ _ _ c (reads_exactly _)
    (reads_then _ (c.key, c.seq) _ c (reads_name base (codes "@id") tree c.key c.seq refl good.sound.trip good.sound.seq)
    (reads_then _ (arrival_of c) _ c (reads_arrival base c good.sound)
    (reads_then _ (departure_of c) _ c (reads_departure base c good.sound)
    (reads_exactly_by _ c (ap unless_early (joined_is base c) ∙ in_time c good.forward)))))

connection_writable : (base : BaseParts) (c : Connection) → IsSoundConnection c → IsWritable (connection_tree base c)
unfolding connection_tree
connection_writable base c sound =
    let arr = delay_writable c.arr_delay sound.arr_delay in
    let dep = delay_writable c.dep_delay sound.dep_delay in
    ((tt, (tt, (arr, (tt, (tt, (dep, (tt, (tt, (tt, (tt, (tt, tt))))))))))), refl)

pub connections_writable : (base : BaseParts) (list : List Connection) → All IsSoundConnection list → AreWritable (items_of (map (connection_tree base) list))
connections_writable base [] sound = tt
connections_writable base (c ∷ rest) sound =
    (connection_writable base c (All-head IsSoundConnection c rest sound), connections_writable base rest (All-tail IsSoundConnection c rest sound))

connection_depth : (base : BaseParts) (c : Connection) → depth (connection_tree base c) ≡ 1
unfolding connection_tree
connection_depth base c = refl

pub connections_depth : (base : BaseParts) (list : List Connection) → items_depth (items_of (map (connection_tree base) list)) ≤ 1
connections_depth base [] = omega arith
connections_depth base (c ∷ rest) = omega (arith, connection_depth base c, connections_depth base rest)
