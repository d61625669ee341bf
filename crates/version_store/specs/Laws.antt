-- What a store answers is one value, there is one at each version, and cuts do not matter to what it stands for.
use Rattle.std.specs.Prelude.{◌≡◌, ℕ, List}
use Rattle.std.specs.List.{All}
use Rattle.lc_model.specs.Call.{InSequence}
use Rattle.lc_model.specs.Run.{InKeyOrder}
use Rattle.lc_model.specs.declared.connection.Connection.{Connection}
use Rattle.lc_model.specs.declared.date.ServiceDate.{ServiceDate}
use Rattle.lc_model.specs.declared.run.Run.{Run}
use Rattle.lc_model.specs.Versions.History.{Entry, moments_of, news_at}
use Rattle.lc_model.specs.declared.versions.update.Update.{Update}
use Rattle.version_store.specs.Admission.{IsRefused, IsTaken}
use Rattle.version_store.specs.Rows.{AreConnectionsAt}
use Rattle.version_store.specs.Store.{Stored, bytes_of, without_cuts}
use Rattle.version_store.specs.declared.admission.AdmitFault.{AdmitFault}

-- a version has one list of connections
abbrev pub OneListOfRows : Type 0
OneListOfRows =
    (store : Stored) (version : ℕ) (a b : List Connection) → AreConnectionsAt store version a → AreConnectionsAt store version b → a ≡ b

-- a version has some list of connections, where the runs are in order, and the calls of each
abbrev pub SomeListOfRows : Type 0
SomeListOfRows =
    (store : Stored) (version : ℕ) → InKeyOrder store.runs → All (λ (run : Run). InSequence run.calls) store.runs
    → (list : List Connection) × AreConnectionsAt store version list

-- the news, the versions and the bytes of a history are those without its cuts
pub record CutsDoNotMatter (history : List Entry) : Type 0 where
  pub news : (date_of : ℕ → ServiceDate) (version : ℕ) → news_at date_of (without_cuts history) version ≡ news_at date_of history version
  pub moments : moments_of (without_cuts history) ≡ moments_of history
  pub bytes : bytes_of (without_cuts history) ≡ bytes_of history

-- what becomes of the bytes at a store is one thing
pub record OneOutcome : Type 0 where
  pub one_update : (store : Stored) (bytes : List ℕ) (a b : Update) → IsTaken store bytes a → IsTaken store bytes b → a ≡ b
  pub one_cause : (store : Stored) (bytes : List ℕ) (a b : AdmitFault) → IsRefused store bytes a → IsRefused store bytes b → a ≡ b
  pub not_both : (store : Stored) (bytes : List ℕ) (update : Update) (fault : AdmitFault) → IsTaken store bytes update → IsRefused store bytes fault → ⊥
