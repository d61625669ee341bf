-- Near values that the definitions of a store refuse, and what becomes of every message.
use Rattle.std.specs.Prelude.{◌≡◌, ◌⊎◌, ℕ, ◌≤◌, true, false, List, [], ◌∷◌, ◌++◌, length, Option, None}
use Rattle.std.specs.List.{Contains}
use Rattle.lc_model.specs.Change.{is_same_id}
use Rattle.lc_model.specs.declared.connection.Connection.{Connection}
use Rattle.lc_model.specs.declared.date.ServiceDate.{ServiceDate}
use Rattle.lc_model.specs.declared.key.RunKey.{RunKey}
use Rattle.lc_model.specs.Versions.History.{filled_news, kept_after, put}
use Rattle.lc_model.specs.Versions.Naming.{names_run}
use Rattle.lc_model.specs.Versions.News.{EntitySaid, TripSaid}
use Rattle.lc_model.specs.Versions.Pages.{is_before}
use Rattle.lc_model.specs.declared.versions.update.Update.{Update}
use Rattle.trip_updates.specs.declared.fault.RtFault.TheVariants.{NoMemory}
use Rattle.version_store.specs.Admission.{Admits, IsRefused, IsTaken}
use Rattle.version_store.specs.Rows.{AreConnectionsAt, AreRows}
use Rattle.version_store.specs.Store.{Stored, bytes_of, newest_of}
use Rattle.version_store.specs.declared.admission.Admitted.{Admitted}
use Rattle.version_store.specs.declared.admission.AdmitFault.{AdmitFault}
use Rattle.version_store.specs.declared.admission.AdmitFault.TheVariants.{Broken, Full, NotNewer}

-- all bytes are taken as a message, or refused for a cause
abbrev pub SomeOutcome : Type 0
SomeOutcome =
    (store : Stored) (bytes : List ℕ) → ((update : Update) × IsTaken store bytes update) ⊎ ((fault : AdmitFault) × IsRefused store bytes fault)

-- no message of the newest version or an older one is taken
abbrev pub NoneOlderIsTaken : Type 0
NoneOlderIsTaken = (store : Stored) (bytes : List ℕ) (update : Update) → update.moment ≤ newest_of store → IsTaken store bytes update → ⊥

-- what was admitted is refused when it comes again, since it is not newer than itself
abbrev pub RefusedAgain : Type 0
RefusedAgain =
    (old new : Stored) (bytes : List ℕ) (admitted : Admitted) → Admits old new bytes admitted → IsRefused new bytes (NotNewer admitted.moment)

-- no bytes are refused out of memory
abbrev pub NoneForMemory : Type 0
NoneForMemory = (store : Stored) (bytes : List ℕ) → IsRefused store bytes (Broken NoMemory) → ⊥

-- a refusal says the newest version, and how much is there
pub record SaysWhatIs (store : Stored) (bytes : List ℕ) : Type 0 where
  pub newest : (newest : ℕ) → IsRefused store bytes (NotNewer newest) → newest ≡ newest_of store
  pub full : (messages kept : ℕ) → IsRefused store bytes (Full messages kept) → (messages ≡ length store.history) × (kept ≡ bytes_of store.history)

-- rows are one list
abbrev pub OneListBetween : Type 0
OneListBetween =
    (store : Stored) (version from : ℕ) (to : Option ℕ) (a b : List Connection) → AreRows store version from to a → AreRows store version from to b → a ≡ b

-- no more and no fewer are rows
abbrev pub NoneMore : Type 0
NoneMore =
    (store : Stored) (version from : ℕ) (to : Option ℕ) (rows : List Connection) (c : Connection) → AreRows store version from to rows
    → AreRows store version from to (rows ++ c ∷ []) → ⊥

-- a row departs in the span, and is a connection of the version
pub record IsRowOf (store : Stored) (version from : ℕ) (to : Option ℕ) (c : Connection) : Type 0 where
  pub not_early : from ≤ c.dep
  pub not_late : is_before to c.dep ≡ true
  pub all : List Connection
  pub of_version : AreConnectionsAt store version all
  pub there : Contains all c

-- each row that is asked for is one of the span
abbrev pub EachIsInTheSpan : Type 0
EachIsInTheSpan =
    (store : Stored) (version from : ℕ) (to : Option ℕ) (rows : List Connection) (c : Connection) → AreRows store version from to rows → Contains rows c
    → IsRowOf store version from to c

-- a message that is not full leaves nothing of an entity that it takes out and does not put back
abbrev pub DeletedIsGone : Type 0
DeletedIsGone =
    (kept : List EntitySaid) (id : List ℕ) (e : EntitySaid) → Contains (put kept (record { id = id; news = None })) e → is_same_id e.id id ≡ false

-- a full message leaves none of the news in force before it
abbrev pub FullForgets : Type 0
FullForgets =
    (date_of : ℕ → ServiceDate) (one other : List EntitySaid) (update : Update) → update.full ≡ true → kept_after date_of one update ≡ kept_after date_of other update

-- news without a date name no run of another date than that of their message's moment
abbrev pub UndatedNameTheirDay : Type 0
UndatedNameTheirDay =
    (date : ServiceDate) (news : TripSaid) (key : RunKey) → news.date ≡ None → names_run key (filled_news date news) ≡ true → key.date ≡ date
