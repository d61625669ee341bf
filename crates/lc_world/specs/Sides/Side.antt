-- A publisher's side: what it publishes and under which base, whoever asks.
use Rattle.std.specs.Prelude.{◌≡◌, ℕ, ◌==◌, ◌++◌, Bool, List, [], ◌∷◌, unwrap_or}
use Rattle.std.specs.List.{All, list_any}
use Rattle.std.proofs.Common.{lit≤}
use Rattle.lc_model.specs.Call.{InSequence}
use Rattle.lc_model.specs.Connection.{AreConnectionsOf}
use Rattle.lc_model.specs.Run.{InKeyOrder}
use Rattle.lc_model.specs.declared.connection.Connection.{Connection}
use Rattle.lc_model.specs.declared.date.ServiceDate.{ServiceDate}
use Rattle.lc_model.specs.declared.doc.StopsDoc.{StopsDoc}
use Rattle.lc_model.specs.declared.run.Run.{Run}
use Rattle.lc_time.specs.Zone.{date_shown}
use Rattle.lc_time.specs.declared.zone.Zone.{Zone}
use Rattle.lc_model.specs.Versions.Cuts.{AreCuts, NeverFalls}
use Rattle.lc_model.specs.Versions.History.{Entry, IsRising, moments_of, news_at}
use Rattle.lc_model.specs.Versions.Named.{last_of}
use Rattle.lc_model.specs.Versions.Timetable.{AreLiveRuns}
use Rattle.lc_model.specs.declared.versions.update.Update.{Update}
use Rattle.connection_uri.specs.Base.{BaseParts, IsBase}
use Rattle.page_json.specs.Valid.{IsValidDoc}

-- What a publisher has. It has the runs of its timetable and its stops document. It has the base under which its documents are, the moment
-- of its base version, the zone of its feed, and whether it takes messages. It has those that it admitted. It has a way to cut
-- departures into pages, which is the same at every version. The cuts of an entry are not looked at.
pub record Side : Type 0 where
  pub runs : List Run
  pub doc : StopsDoc
  pub base : BaseParts
  pub base_moment : ℕ
  pub zone : Zone
  pub accepts_updates : Bool
  pub history : List Entry
  pub cuts_of : List ℕ → List ℕ

-- 1970-01-01
abbrev pub first_date : ServiceDate
first_date = record {
  year = 1970;
  month = 1;
  day = 1;
  civil = record { year_from = lit≤ tt; year_to = lit≤ tt; month_from = lit≤ tt; month_to = lit≤ tt; day_from = lit≤ tt; day_to = lit≤ tt };
}

-- the date that the zone's clock shows at a moment; at what is no moment the first one may be taken for it
abbrev pub date_in : Zone → ℕ → ServiceDate
date_in zone moment = unwrap_or (date_shown zone moment) first_date

-- the versions in their order: the base and one for each message
abbrev pub versions_of : Side → List ℕ
versions_of side = side.base_moment ∷ moments_of side.history

-- the newest version
abbrev pub newest_of : Side → ℕ
newest_of side = last_of side.base_moment (moments_of side.history)

-- the side has this version
abbrev pub has_version : Side → ℕ → Bool
has_version side version = list_any (λ (v : ℕ). v == version) (versions_of side)

-- the list is the timetable of a version in departure order: the connections of the runs as the news of the version have them
pub record IsTimetableAt (side : Side) (version : ℕ) (list : List Connection) : Type 0 where
  pub live : List Run
  pub are_live : AreLiveRuns side.runs side.doc.stops (news_at (date_in side.zone) side.history version) live
  pub are_connections : AreConnectionsOf live list

-- The runs are in order, and so are the calls of each. The document is valid. The base is one. The versions strictly increase. All
-- departures that never fall are cut lawfully.
pub record IsValidSide (side : Side) : Type 0 where
  pub runs : InKeyOrder side.runs
  pub calls : All (λ (run : Run). InSequence run.calls) side.runs
  pub doc : IsValidDoc side.doc
  pub base : IsBase side.base
  pub rising : IsRising side.base_moment (moments_of side.history)
  pub lawful : (departures : List ℕ) → NeverFalls departures → AreCuts departures (side.cuts_of departures)

-- the side with a message more, of so many bytes
abbrev pub with_message : Side → Update → ℕ → Side
with_message side update bytes = record side { history = side.history ++ record { update = update; bytes = bytes; cuts = [] } ∷ [] }

-- The second side is a later one of the first: messages were admitted, perhaps none, and nothing else has changed.
pub record IsLater (before after : Side) : Type 0 where
  pub more : List Entry
  pub is : after ≡ record before { history = before.history ++ more }
