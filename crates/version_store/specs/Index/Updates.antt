-- What an update makes of the runs of the newest version: the next one.
use Rattle.std.specs.Prelude.{◌≡◌, ℕ, suc, ◌≤◌, ◌⊎◌, ◌↔◌, List}
use Rattle.std.specs.List.{Contains}
use Rattle.lc_model.specs.declared.key.RunKey.{RunKey}
use Rattle.lc_model.specs.declared.run.Run.{Run}
use Rattle.version_store.specs.Index.Spans.{Indexed, runs_at}

-- no run of the list has the key
abbrev pub NoneHas : List Run → RunKey → Type 0
NoneHas runs key = (run : Run) → Contains runs run → run.key ≡ key → ⊥

-- the run was there, and is neither ended nor followed by another one of its key
pub record IsLeft (ended : List RunKey) (begun runs : List Run) (run : Run) : Type 0 where
  pub was : Contains runs run
  pub stays : Contains ended run.key → ⊥
  pub alone : NoneHas begun run.key

-- after the update the runs are those that begin, and those that are left
abbrev pub AreAfter : List RunKey → List Run → List Run → List Run → Type 0
AreAfter ended begun old new = (run : Run) → Contains new run ↔ (Contains begun run ⊎ IsLeft ended begun old run)

-- there is one version more, and the others have the runs that they had
pub record IsUpdated (ended : List RunKey) (begun : List Run) (old new : Indexed) : Type 0 where
  pub newest : new.newest ≡ suc old.newest
  pub before : (version : ℕ) → version ≤ old.newest → runs_at new version ≡ runs_at old version
  pub after : AreAfter ended begun (runs_at old old.newest) (runs_at new new.newest)

-- each version has the runs that it had, and the newest one is the same
pub record IsSame (old new : Indexed) : Type 0 where
  pub newest : new.newest ≡ old.newest
  pub runs : (version : ℕ) → runs_at new version ≡ runs_at old version
