-- What follows on a message is one.
use Rattle.std.proofs.Common.{◌≡◌, ◌∙◌, ◌⊎◌, ◌+◌, ◌<◌, ◌≤◌, ℕ, inl, inr, List, [], ◌∷◌, ◌++◌, None, Some, Option, ap, ap₂, length, refl, subst, sym}
use Rattle.std.proofs.lemmas.List.{length_push}
use Rattle.lc_io.specs.declared.file.File.{File}
use Rattle.lc_model.specs.Versions.History.{Entry, moments_of}
use Rattle.lc_model.specs.Versions.Named.{last_of}
use Rattle.lc_model.specs.declared.versions.update.Update.{Update}
use Rattle.timetable.specs.declared.timetable.Timetable.{Timetable}
use Rattle.version_store.specs.Admission.{Admits, HasRoom, IsFullFor, IsRefused, IsTaken}
use Rattle.version_store.specs.Laws.{OneOutcome}
use Rattle.version_store.specs.Store.{Stored, bytes_of, entry_of, newest_of}
use Rattle.version_store.specs.declared.admission.Admitted.{Admitted}
use Rattle.version_store.specs.declared.admission.AdmitFault.{AdmitFault}
use Rattle.version_store.specs.declared.admission.AdmitFault.TheVariants as faults
use Rattle.cli_ask.specs.Admission.{IsAdmitted, IsBehind, IsFaultBy, IsFaulty, IsIgnored, IsPassedOver, admitted_line_of, ignored_line_of}
use Rattle.version_store.specs.declared.message_fault.MessageFault.{MessageFault}
use Rattle.version_store.specs.declared.message_fault.MessageFault.TheVariants as messages

-- the store of a timetable with this history
abbrev pub store_with : Timetable → ℕ → List Entry → Stored
store_with made moment history = record { runs = made.runs; stops = made.doc.stops; zone = made.zone; base = moment; history = history }

-- the store after a message differs in its history alone
pub of_history : (file : Option File) (old new : Stored) (line : List ℕ) → IsBehind file old new line → new ≡ record old { history = new.history }
of_history None old new line (same, none) = subst (λ (s : Stored). s ≡ record old { history = s.history }) (sym same) refl
of_history (Some file) old new line (inl x) = subst (λ (s : Stored). s ≡ record old { history = s.history }) (sym x.admits.appended) refl
of_history (Some file) old new line (inr x) = subst (λ (s : Stored). s ≡ record old { history = s.history }) (sym x.same) refl

-- an admitted message makes the history longer by one
pub one_longer : (old new : Stored) (bytes : List ℕ) (admitted : Admitted) → Admits old new bytes admitted → length new.history ≡ length old.history + 1
one_longer old new bytes admitted x = ap (λ (s : Stored). length s.history) x.appended ∙ length_push old.history (entry_of x.update (length bytes))

-- the stores have heard the same: one history from one moment on
pub record HaveHeardOne (s t : Stored) : Type 0 where
  pub base : s.base ≡ t.base
  pub history : s.history ≡ t.history

-- what is taken by a store is so by one that has heard the same, and what is refused
module _ (s t : Stored) (one : HaveHeardOne s t) (bytes : List ℕ) where
  same_newest : newest_of s ≡ newest_of t
  same_newest = ap₂ (λ (base : ℕ) (history : List Entry). last_of base (moments_of history)) one.base one.history

  taken_by_other : (update : Update) → IsTaken s bytes update → IsTaken t bytes update
  taken_by_other update is = record {
    short = is.short;
    message = is.message;
    newer = subst (λ (n : ℕ). n < update.moment) same_newest is.newer;
    room = subst (λ (history : List Entry). HasRoom history (length bytes)) one.history is.room;
  }

  refused_by_other : (found : AdmitFault) → IsRefused s bytes found → IsRefused t bytes found
  refused_by_other (faults.TooLong count) is = is
  refused_by_other (faults.Broken fault) is = is
  refused_by_other (faults.NotNewer newest) is = record {
    short = is.short;
    update = is.update;
    message = is.message;
    not_newer = subst (λ (n : ℕ). is.update.moment ≤ n) same_newest is.not_newer;
    newest_is = is.newest_is ∙ same_newest;
  }
  refused_by_other (faults.Full messages kept) is = record {
    short = is.short;
    update = is.update;
    message = is.message;
    newer = subst (λ (n : ℕ). n < is.update.moment) same_newest is.newer;
    full = subst (λ (history : List Entry). IsFullFor history (length bytes)) one.history is.full;
    messages_are = is.messages_are ∙ ap length one.history;
    bytes_are = is.bytes_are ∙ ap bytes_of one.history;
  }
  refused_by_other faults.NoMemory is = is

-- what follows on a message: stores that have heard the same, and one line
pub record AreOne (s t : Stored) (k l : List ℕ) : Type 0 where
  pub heard : HaveHeardOne s t
  pub line : k ≡ l

module _ (one_outcome : OneOutcome) (old other : Stored) (one : HaveHeardOne old other) (s t : Stored) (k l : List ℕ) where
  both_admitted : (file : File) → IsAdmitted old s file k → IsAdmitted other t file l → AreOne s t k l
  both_admitted file x y =
      let update : x.admits.update ≡ y.admits.update = one_outcome.one_update other file.bytes x.admits.update y.admits.update
      (taken_by_other old other one file.bytes x.admits.update x.admits.taken) y.admits.taken in
      let history = λ (h : List Entry) (u : Update). h ++ entry_of u (length file.bytes) ∷ [] in
      let line = λ (m p : ℕ). admitted_line_of file.name (record { moment = m; passed = p }) in
      record {
        heard = record {
          base = ap (λ (store : Stored). store.base) x.admits.appended ∙ one.base ∙ sym (ap (λ (store : Stored). store.base) y.admits.appended);
          history =
              ap (λ (store : Stored). store.history) x.admits.appended ∙ ap₂ history one.history update ∙ sym (ap (λ (store : Stored). store.history) y.admits.appended);
        };
        line =
            x.line_is
            ∙ ap₂ line (x.admits.moment ∙ ap (λ (u : Update). u.moment) update ∙ sym y.admits.moment) (x.admits.passed ∙ ap (λ (u : Update). u.passed) update ∙ sym y.admits.passed)
            ∙ sym y.line_is;
      }

  -- stores that stayed have heard the same still
  both_stayed : s ≡ old → t ≡ other → HaveHeardOne s t
  both_stayed same still = record {
    base = ap (λ (store : Stored). store.base) same ∙ one.base ∙ sym (ap (λ (store : Stored). store.base) still);
    history = ap (λ (store : Stored). store.history) same ∙ one.history ∙ sym (ap (λ (store : Stored). store.history) still);
  }

  both_passed : (file : File) → IsPassedOver old s file k → IsPassedOver other t file l → AreOne s t k l
  both_passed file x y =
      let cause = one_outcome.one_cause other file.bytes x.fault y.fault (refused_by_other old other one file.bytes x.fault x.refused) y.refused in
      record { heard = both_stayed x.same y.same; line = x.line_is ∙ ap (ignored_line_of file.name) cause ∙ sym y.line_is }

  pub one_behind : (file : Option File) → IsBehind file old s k → IsBehind file other t l → AreOne s t k l
  one_behind None (same, none) (same', none') = record { heard = both_stayed same same'; line = none ∙ sym none' }
  one_behind (Some file) (inl x) (inl y) = both_admitted file x y
  one_behind (Some file) (inr x) (inr y) = both_passed file x y
  one_behind (Some file) (inl x) (inr y) =
      absurd (one_outcome.not_both other file.bytes x.admits.update y.fault (taken_by_other old other one file.bytes x.admits.update x.admits.taken) y.refused)
  one_behind (Some file) (inr x) (inl y) =
      absurd (one_outcome.not_both other file.bytes y.admits.update x.fault y.admits.taken (refused_by_other old other one file.bytes x.fault x.refused))

-- a message that is refused and not ignored is at fault for that
pub faulty_by : (store : Stored) (file : File) (refusal : AdmitFault) (found : MessageFault) → (refusal ≡ faults.NoMemory) ⊎ IsRefused store file.bytes refusal → IsFaultBy refusal found → IsFaulty (Some file) found
faulty_by store file refusal (messages.TooLong count) (inl none) by = absurd (let e : faults.TooLong count ≡ faults.NoMemory = sym by ∙ none in cc)
faulty_by store file refusal (messages.TooLong count) (inr is) by =
    let there = subst (IsRefused store file.bytes) by is in record { there = file; is = refl; long = there.0; counted = there.1 }
faulty_by store file refusal (messages.Broken fault) (inl none) by = absurd (let e : faults.Broken fault ≡ faults.NoMemory = sym by ∙ none in cc)
faulty_by store file refusal (messages.Broken fault) (inr is) by = record { there = file; is = refl; broken = subst (IsRefused store file.bytes) by is }
faulty_by store file refusal messages.NoMemory why by = tt

-- a message that is ignored was refused by the store
pub refused_as : (store : Stored) (bytes : List ℕ) (refusal : AdmitFault) → (refusal ≡ faults.NoMemory) ⊎ IsRefused store bytes refusal → IsIgnored refusal → IsRefused store bytes refusal
refused_as store bytes refusal (inl none) ignored = absurd (subst IsIgnored none ignored)
refused_as store bytes refusal (inr is) ignored = is
