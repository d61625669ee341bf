-- Worked values: a trip of three calls under news, an added trip, the news in force, the version that is named, and pages.
-- Moments are seconds of a day here.
use Rattle.std.specs.Prelude.{◌≡◌, ℕ, ℤ, pos, negsuc, ◌*◌, ◌+◌, List, [], ◌∷◌, map, codes, Bool, true, false, Option, Some, None}
use Rattle.lc_model.specs.declared.call.Call.{Call}
use Rattle.lc_model.specs.declared.connection.Connection.{Connection}
use Rattle.lc_model.specs.declared.date.ServiceDate.{ServiceDate}
use Rattle.lc_model.specs.declared.key.RunKey.{RunKey}
use Rattle.lc_model.specs.declared.stop.Stop.{Stop}
use Rattle.lc_model.specs.Versions.Added.{added_calls}
use Rattle.lc_model.specs.Versions.History.{Entry, news_at}
use Rattle.lc_model.specs.Versions.Live.{live_calls_of}
use Rattle.lc_model.specs.Versions.Named.{version_named}
use Rattle.lc_model.specs.Versions.News.{EntitySaid, StopSaid, TripSaid}
use Rattle.lc_model.specs.Versions.Pages.{CutPage, page_for, pages_of}
use Rattle.lc_model.specs.declared.versions.event.Event.{Event}
use Rattle.lc_model.specs.declared.versions.event.Relation.{Relation}
use Rattle.lc_model.specs.declared.versions.event.Relation.TheVariants.{Scheduled, Skipped, NoData}
use Rattle.lc_model.specs.declared.versions.event.TripKind.{TripKind}
use Rattle.lc_model.specs.declared.versions.event.TripKind.TheVariants as kinds

-- hours and minutes of a day in seconds
abbrev pub at : ℕ → ℕ → ℕ
at hours minutes = 3600 * hours + 60 * minutes

-- a call at a stop, so many seconds late at its arrival and at its departure
abbrev pub call : List ℕ → ℕ → ℕ → ℕ → ℤ → ℤ → Call
call stop seq arr dep arr_delay dep_delay = record {
  stop = stop;
  seq = seq;
  arr = arr;
  dep = dep;
  board = true;
  alight = true;
  arr_delay = arr_delay;
  dep_delay = dep_delay;
}

-- the trip T1: A 08:00, B 08:10 to 08:11, C 08:30
abbrev pub t1 : List Call
t1 =
    call (codes "A") 1 (at 8 0) (at 8 0) (pos 0) (pos 0) ∷ call (codes "B") 2 (at 8 10) (at 8 11) (pos 0) (pos 0)
    ∷ call (codes "C") 3 (at 8 30) (at 8 30) (pos 0) (pos 0) ∷ []

-- news of a stop
abbrev pub stop_news : Option ℕ → Option (List ℕ) → Relation → Option Event → Option Event → StopSaid
stop_news seq stop relation arr dep = record { seq = seq; stop = stop; relation = relation; arr = arr; dep = dep }

-- an event so many seconds late
abbrev pub late : ℤ → Option Event
late seconds = Some (record { delay = Some seconds; time = None })

-- an event at a moment
abbrev pub timed : ℕ → Option Event
timed moment = Some (record { delay = None; time = Some (pos moment) })

-- news of T1, or of another trip
abbrev pub trip_news : List ℕ → Option ServiceDate → TripKind → List StopSaid → TripSaid
trip_news trip date kind stops = record { trip = trip; date = date; start = None; kind = kind; stops = stops }

-- the calls of T1 under these news of stops
abbrev pub t1_with : List StopSaid → List Call
t1_with stops = live_calls_of t1 (Some (trip_news (codes "T1") None kinds.Scheduled stops))

-- What news make of T1. A delay of 60 at the arrival in B goes on to C. A stop that is skipped is left out. Leaving A 900 late, and on
-- time in B: no call arrives before the one before it departs. Where there are no data in B the delay ends there. B may be named by its
-- id, and the last news of several count.
pub record WorkedCalls : Type 0 where
  pub without_news : live_calls_of t1 None ≡ t1
  pub canceled : live_calls_of t1 (Some (trip_news (codes "T1") None kinds.Canceled [])) ≡ []
  pub late_in_b : t1_with (stop_news (Some 2) None Scheduled (late (pos 60)) None ∷ []) ≡
      call (codes "A") 1 (at 8 0) (at 8 0) (pos 0) (pos 0) ∷ call (codes "B") 2 (at 8 11) (at 8 12) (pos 60) (pos 60)
      ∷ call (codes "C") 3 (at 8 31) (at 8 31) (pos 60) (pos 60) ∷ []
  pub b_skipped : t1_with (stop_news (Some 2) None Skipped None None ∷ []) ≡
      call (codes "A") 1 (at 8 0) (at 8 0) (pos 0) (pos 0) ∷ call (codes "C") 3 (at 8 30) (at 8 30) (pos 0) (pos 0) ∷ []
  pub raised : t1_with (stop_news (Some 1) None Scheduled None (late (pos 900)) ∷ stop_news (Some 2) None Scheduled (late (pos 0)) None ∷ []) ≡
      call (codes "A") 1 (at 8 0) (at 8 15) (pos 0) (pos 900) ∷ call (codes "B") 2 (at 8 15) (at 8 15) (pos 300) (pos 240)
      ∷ call (codes "C") 3 (at 8 30) (at 8 30) (pos 0) (pos 0) ∷ []
  pub no_data_in_b : t1_with (stop_news (Some 1) None Scheduled None (late (pos 60)) ∷ stop_news (Some 2) None NoData None None ∷ []) ≡
      call (codes "A") 1 (at 8 0) (at 8 1) (pos 0) (pos 60) ∷ call (codes "B") 2 (at 8 10) (at 8 11) (pos 0) (pos 0)
      ∷ call (codes "C") 3 (at 8 30) (at 8 30) (pos 0) (pos 0) ∷ []
  pub by_its_id : t1_with (stop_news None (Some (codes "B")) Scheduled (timed (at 8 9)) None ∷ stop_news (Some 2) None Scheduled (late (negsuc 59)) None ∷ []) ≡
      call (codes "A") 1 (at 8 0) (at 8 0) (pos 0) (pos 0) ∷ call (codes "B") 2 (at 8 9) (at 8 10) (negsuc 59) (negsuc 59)
      ∷ call (codes "C") 3 (at 8 29) (at 8 29) (negsuc 59) (negsuc 59) ∷ []

-- the stops A and D
abbrev pub two_stops : List Stop
two_stops = record { id = codes "A"; name = []; parent = None } ∷ record { id = codes "D"; name = []; parent = None } ∷ []

-- An added trip from A at 08:05 over the unknown stop Q to D at 08:25. Q is left out, and the sequences are the places of the news.
pub record WorkedAdded : Type 0 where
  pub over_q :
      added_calls two_stops (stop_news None (Some (codes "A")) Scheduled None (timed (at 8 5)) ∷ stop_news None (Some (codes "Q")) Scheduled (timed (at 8 10)) None
      ∷ stop_news None (Some (codes "D")) Scheduled (timed (at 8 25)) None ∷ []) ≡
      call (codes "A") 1 (at 8 5) (at 8 5) (pos 0) (pos 0) ∷ call (codes "D") 3 (at 8 25) (at 8 25) (pos 0) (pos 0) ∷ []

-- an entity of this id with these news
abbrev pub entity : List ℕ → Option TripSaid → EntitySaid
entity id news = record { id = id; news = news }

-- a message of a moment with these entities
abbrev pub entry : ℕ → Bool → List EntitySaid → Entry
entry moment full entities = record {
  update = record { moment = moment; full = full; entities = entities; passed = 0 };
  bytes = 0;
  cuts = [];
}

-- news of a trip without stops
abbrev pub bare : List ℕ → Option ServiceDate → TripKind → TripSaid
bare trip date kind = trip_news trip date kind []

-- a full message at 07:00 with the news of T1 in entity 1
abbrev pub first_message : Entry
first_message = entry (at 7 0) true (entity (codes "1") (Some (bare (codes "T1") None kinds.Scheduled)) ∷ [])

-- What is in force after that message and a second one. News without a date have that of their message's moment. A differential message
-- takes out an entity, or adds one; a full one leaves nothing of the first.
pub record WorkedNews (date : ServiceDate) : Type 0 where
  pub at_the_base : news_at (λ moment. date) (first_message ∷ []) (at 6 0) ≡ []
  pub first : news_at (λ moment. date) (first_message ∷ []) (at 7 0) ≡ bare (codes "T1") (Some date) kinds.Scheduled ∷ []
  pub deleted : news_at (λ moment. date) (first_message ∷ entry (at 7 10) false (entity (codes "1") None ∷ []) ∷ []) (at 7 10) ≡ []
  pub before_deletion : news_at (λ moment. date) (first_message ∷ entry (at 7 10) false (entity (codes "1") None ∷ []) ∷ []) (at 7 0) ≡ bare (codes "T1") (Some date) kinds.Scheduled ∷ []
  pub differential :
      news_at (λ moment. date) (first_message ∷ entry (at 7 20) false (entity (codes "2") (Some (bare (codes "T2") (Some date) kinds.Canceled)) ∷ []) ∷ []) (at 7 20)
      ≡ bare (codes "T1") (Some date) kinds.Scheduled ∷ bare (codes "T2") (Some date) kinds.Canceled ∷ []
  pub full :
      news_at (λ moment. date) (first_message ∷ entry (at 7 20) true (entity (codes "2") (Some (bare (codes "T2") (Some date) kinds.Canceled)) ∷ []) ∷ []) (at 7 20)
      ≡ bare (codes "T2") (Some date) kinds.Canceled ∷ []

-- the versions of 06:00, the base, 07:00 and 07:10, by what is known
pub record WorkedVersions : Type 0 where
  pub newest : version_named (at 6 0) (at 7 0 ∷ at 7 10 ∷ []) None ≡ at 7 10
  pub exactly : version_named (at 6 0) (at 7 0 ∷ at 7 10 ∷ []) (Some (at 7 0)) ≡ at 7 0
  pub between : version_named (at 6 0) (at 7 0 ∷ at 7 10 ∷ []) (Some (at 7 9)) ≡ at 7 0
  pub before_all : version_named (at 6 0) (at 7 0 ∷ at 7 10 ∷ []) (Some (at 5 0)) ≡ at 6 0

-- a connection that departs then, of no matter which run
abbrev pub connection_at : RunKey → ℕ → Connection
connection_at key moment = record {
  key = key;
  seq = 1;
  dep_stop = codes "A";
  dep = moment;
  arr_stop = codes "B";
  arr = moment;
  board = true;
  alight = true;
  dep_delay = pos 0;
  arr_delay = pos 0;
}

-- connections that depart then
abbrev pub connections_at : RunKey → List ℕ → List Connection
connections_at key moments = map (connection_at key) moments

-- a page of connections that depart then
abbrev pub page_at : RunKey → ℕ → List ℕ → CutPage
page_at key departs moments = record { departs = departs; connections = connections_at key moments }

-- The departures 08:00, 08:11, 08:11 again, 08:20, 09:00 and 10:00 by the cuts 08:00, 09:00 and 10:00, and the pages for some moments.
-- Without connections there is an empty page.
pub record WorkedPages (key : RunKey) : Type 0 where
  pub parted :
      pages_of (at 8 0 ∷ at 9 0 ∷ at 10 0 ∷ []) (connections_at key (at 8 0 ∷ at 8 11 ∷ at 8 11 ∷ at 8 20 ∷ at 9 0 ∷ at 10 0 ∷ [])) ≡
      page_at key (at 8 0) (at 8 0 ∷ at 8 11 ∷ at 8 11 ∷ at 8 20 ∷ []) ∷ page_at key (at 9 0) (at 9 0 ∷ []) ∷ page_at key (at 10 0) (at 10 0 ∷ []) ∷ []
  pub empty : pages_of [] [] ≡ page_at key 0 [] ∷ []
  pub inside : page_for (page_at key (at 8 0) []) (page_at key (at 9 0) [] ∷ page_at key (at 10 0) [] ∷ []) (at 9 59) ≡ page_at key (at 9 0) []
  pub exactly : page_for (page_at key (at 8 0) []) (page_at key (at 9 0) [] ∷ page_at key (at 10 0) [] ∷ []) (at 10 0) ≡ page_at key (at 10 0) []
  pub before_all : page_for (page_at key (at 8 0) []) (page_at key (at 9 0) [] ∷ page_at key (at 10 0) [] ∷ []) (at 7 0) ≡ page_at key (at 8 0) []
