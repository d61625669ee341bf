-- What the fields of a store stand for, and what holds of them.
use Rattle.std.specs.Prelude.{◌≡◌, ◌≤◌, ◌∷◌, All, map}
use Rattle.lc_model.specs.Text.{IsIdText}
use Rattle.lc_model.specs.declared.run.Run.{Run}
use Rattle.lc_model.specs.Versions.History.{IsRising, moments_of}
use Rattle.version_store.specs.IndexLaws.Kept.{entities_after}
use Rattle.version_store.specs.Dates.{date_in}
use Rattle.version_store.specs.Force.{AreInForce}
use Rattle.version_store.specs.Indexed.{AreIndexed}
use Rattle.version_store.specs.Store.{Stored, bytes_of, entry_of}
use Rattle.version_store.specs.declared.store.Admission.{Admission}
use Rattle.version_store.specs.declared.store.Store.TheInside.{Inside}

-- the timetable and the messages that the fields hold
abbrev pub stored_of : Inside → Stored
stored_of store = record {
  runs = store.runs;
  stops = store.stops;
  zone = store.zone;
  base = store.base;
  history = map (λ (a : Admission). entry_of a.update a.bytes) store.admitted.items;
}

-- The trips of the runs are ids. The list of versions and the sum of bytes are those of the messages, which have no more bytes than may be.
-- What is in force is at its places, and the index has the runs of each version.
pub record IsKept (store : Inside) : Type 0 where
  pub trips : All (λ (r : Run). IsIdText r.key.trip) store.runs
  pub versions : store.versions.items ≡ store.base ∷ moments_of (stored_of store).history
  pub rising : IsRising store.base (moments_of (stored_of store).history)
  pub bytes : store.bytes ≡ bytes_of (stored_of store).history
  pub within : store.bytes ≤ 268_435_456
  pub force : AreInForce store.admitted.items store.force (entities_after (date_in store.zone) (stored_of store).history)
  pub indexed : AreIndexed (stored_of store) store.index
