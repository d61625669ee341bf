-- A message more at the end of a store.
use Rattle.std.proofs.Common.{◌≡◌, ℕ, ◌+◌, ◌<◌, ◌≤◌, List, [], ◌∷◌, ◌++◌, map, sym, ap, ◌∙◌, subst, arith}
use Rattle.std.proofs.lemmas.List.{map-append}
use Rattle.std.proofs.lemmas.List.Sums.{sum_by_push}
use Rattle.lc_model.specs.Versions.History.{Entry, IsRising, moments_of}
use Rattle.lc_model.specs.Versions.Named.{last_of}
use Rattle.version_store.specs.Kept.{entry_said}
use Rattle.version_store.specs.Store.{bytes_of}
use Rattle.version_store.specs.declared.store.Admission.{Admission}
use Rattle.version_store.proofs.VersionLemmas.{rising_more}

abbrev pub said_of : List Admission → List Entry
said_of admitted = map entry_said admitted

pub said_more : (old new : List Admission) (admission : Admission) → new ≡ old ++ admission ∷ [] → said_of new ≡ said_of old ++ entry_said admission ∷ []
said_more old new admission e = ap said_of e ∙ map-append entry_said old (admission ∷ [])

pub moments_more : (history : List Entry) (entry : Entry) → moments_of (history ++ entry ∷ []) ≡ moments_of history ++ entry.update.moment ∷ []
moments_more history entry = map-append (λ (e : Entry). e.update.moment) history (entry ∷ [])

pub bytes_more : (history : List Entry) (entry : Entry) → bytes_of (history ++ entry ∷ []) ≡ bytes_of history + entry.bytes
bytes_more history entry = sum_by_push (λ (e : Entry). e.bytes) history entry

-- what the fields of a store hold
pub record AreKept (base : ℕ) (versions : List ℕ) (admitted : List Admission) (bytes : ℕ) : Type 0 where
  pub versions_are : versions ≡ base ∷ moments_of (said_of admitted)
  pub rising : IsRising base (moments_of (said_of admitted))
  pub bytes_are : bytes ≡ bytes_of (said_of admitted)
  pub within : bytes ≤ 268_435_456

-- a message more
pub kept_more : (base : ℕ) (versions versions' : List ℕ) (admitted admitted' : List Admission) (a : Admission) (bytes : ℕ) → AreKept base versions admitted bytes → last_of base (moments_of (said_of admitted)) < a.update.moment
    → bytes_of (said_of admitted) + a.bytes ≤ 268_435_456 → versions' ≡ versions ++ a.update.moment ∷ [] → admitted' ≡ admitted ++ a ∷ [] → AreKept base versions' admitted' (bytes + a.bytes)
kept_more base versions versions' admitted admitted' a bytes kept newer room e f =
    let said : said_of admitted' ≡ said_of admitted ++ entry_said a ∷ [] = said_more admitted admitted' a f in
    let moments : moments_of (said_of admitted') ≡ moments_of (said_of admitted) ++ a.update.moment ∷ [] = ap moments_of said ∙ moments_more (said_of admitted) (entry_said a) in
    let sum : bytes_of (said_of admitted') ≡ bytes_of (said_of admitted) + a.bytes = ap bytes_of said ∙ bytes_more (said_of admitted) (entry_said a) in
    record {
      versions_are = e ∙ ap (λ v. v ++ a.update.moment ∷ []) kept.versions_are ∙ ap (λ v. base ∷ v) (sym moments);
      rising = subst (IsRising base) (sym moments) (rising_more base (moments_of (said_of admitted)) a.update.moment kept.rising newer);
      bytes_are = ap (λ n. n + a.bytes) kept.bytes_are ∙ sym sum;
      within = let same = kept.bytes_are in omega (arith, same, room);
    }
