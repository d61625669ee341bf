-- What becomes of bytes at a store is one thing, and a version has one list of connections.
use Rattle.std.proofs.Common.{◌≡◌, ◌⊎◌, inl, inr, ℕ, ◌<◌, ◌≤◌, List, length, Some, None, sym, ap, ap₂, ◌∙◌, subst, arith}
use Rattle.lc_model.specs.Connection.{AreConnectionsOf}
use Rattle.lc_model.specs.declared.run.Run.{Run}
use Rattle.lc_model.proofs.OneValueLemmas.{one_list_of_connections}
use Rattle.lc_model.specs.declared.versions.update.Update.{Update}
use Rattle.live_calls.proofs.LawLemmas.{one_live_list}
use Rattle.trip_updates.specs.Faults.{fault_of}
use Rattle.trip_updates.specs.Message.{IsMessage}
use Rattle.trip_updates.specs.declared.fault.RtFault.{RtFault}
use Rattle.trip_updates.proofs.TreesLemmas.{never_both, same_meaning}
use Rattle.version_store.specs.Admission.{HasRoom, IsFullFor, IsRefused, IsShort, IsTaken}
use Rattle.version_store.specs.Laws.{OneListOfRows, OneOutcome}
use Rattle.version_store.specs.Store.{Stored, newest_of, news_of}
use Rattle.version_store.specs.declared.admission.AdmitFault.{AdmitFault}
use Rattle.version_store.specs.declared.admission.AdmitFault.TheVariants as faults
use Rattle.lc_model.specs.Versions.History.{Entry}

pub one_list : OneListOfRows
one_list store version a b first second =
    let live : first.live ≡ second.live = one_live_list store.runs store.stops (news_of store version) first.live second.live first.are_runs second.are_runs in
    one_list_of_connections second.live a b (subst (λ (v : List Run). AreConnectionsOf v a) live first.are_connections) second.are_connections

long_and_short : (bytes : List ℕ) → 16_777_216 < length bytes → IsShort bytes → ⊥
long_and_short bytes long short = omega (arith, long, short)

broken_message : (bytes : List ℕ) (fault : RtFault) (update : Update) → fault_of bytes ≡ Some fault → IsMessage bytes update → ⊥
broken_message bytes fault update e message = let f : None ≡ Some fault = sym (never_both bytes update message) ∙ e in cc

older_and_newer : (bytes : List ℕ) (newest : ℕ) (a b : Update) → IsMessage bytes a → IsMessage bytes b → a.moment ≤ newest → newest < b.moment → ⊥
older_and_newer bytes newest a b first second older newer =
    let same : a.moment ≡ b.moment = ap (λ (u : Update). u.moment) (same_meaning bytes a b first second) in omega (arith, same, older, newer)

room_and_full : (history : List Entry) (bytes : ℕ) → HasRoom history bytes → IsFullFor history bytes → ⊥
room_and_full history bytes room (inl many) = omega (arith, room.for_one, many)
room_and_full history bytes room (inr much) = omega (arith, room.for_bytes, much)

not_both : (store : Stored) (bytes : List ℕ) (update : Update) (fault : AdmitFault) → IsTaken store bytes update → IsRefused store bytes fault → ⊥
not_both store bytes update (faults.TooLong count) taken refused = long_and_short bytes refused.0 taken.short
not_both store bytes update (faults.Broken fault) taken refused = broken_message bytes fault update refused.first taken.message
not_both store bytes update (faults.NotNewer newest) taken refused = older_and_newer bytes (newest_of store) refused.update update refused.message taken.message refused.not_newer taken.newer
not_both store bytes update (faults.Full messages kept) taken refused = room_and_full store.history (length bytes) taken.room refused.full
not_both store bytes update faults.NoMemory taken refused = refused

some_is_one : {X : Type 0} (x y : X) → Some x ≡ Some y → x ≡ y
some_is_one x y e = cc

one_cause : (store : Stored) (bytes : List ℕ) (a b : AdmitFault) → IsRefused store bytes a → IsRefused store bytes b → a ≡ b
one_cause store bytes (faults.TooLong count) (faults.TooLong other) x y = ap faults.TooLong (x.1 ∙ sym y.1)
one_cause store bytes (faults.TooLong count) (faults.Broken fault) x y = absurd (long_and_short bytes x.0 y.short)
one_cause store bytes (faults.TooLong count) (faults.NotNewer newest) x y = absurd (long_and_short bytes x.0 y.short)
one_cause store bytes (faults.TooLong count) (faults.Full messages kept) x y = absurd (long_and_short bytes x.0 y.short)
one_cause store bytes (faults.Broken fault) (faults.TooLong other) x y = absurd (long_and_short bytes y.0 x.short)
one_cause store bytes (faults.Broken fault) (faults.Broken other) x y = ap faults.Broken (some_is_one fault other (sym x.first ∙ y.first))
one_cause store bytes (faults.Broken fault) (faults.NotNewer newest) x y = absurd (broken_message bytes fault y.update x.first y.message)
one_cause store bytes (faults.Broken fault) (faults.Full messages kept) x y = absurd (broken_message bytes fault y.update x.first y.message)
one_cause store bytes (faults.NotNewer newest) (faults.TooLong other) x y = absurd (long_and_short bytes y.0 x.short)
one_cause store bytes (faults.NotNewer newest) (faults.Broken fault) x y = absurd (broken_message bytes fault x.update y.first x.message)
one_cause store bytes (faults.NotNewer newest) (faults.NotNewer other) x y = ap faults.NotNewer (x.newest_is ∙ sym y.newest_is)
one_cause store bytes (faults.NotNewer newest) (faults.Full messages kept) x y = absurd (older_and_newer bytes (newest_of store) x.update y.update x.message y.message x.not_newer y.newer)
one_cause store bytes (faults.Full messages kept) (faults.TooLong other) x y = absurd (long_and_short bytes y.0 x.short)
one_cause store bytes (faults.Full messages kept) (faults.Broken fault) x y = absurd (broken_message bytes fault x.update y.first x.message)
one_cause store bytes (faults.Full messages kept) (faults.NotNewer newest) x y = absurd (older_and_newer bytes (newest_of store) y.update x.update y.message x.message y.not_newer x.newer)
one_cause store bytes (faults.Full messages kept) (faults.Full others size) x y = ap₂ faults.Full (x.messages_are ∙ sym y.messages_are) (x.bytes_are ∙ sym y.bytes_are)
one_cause store bytes faults.NoMemory b x y = absurd x
one_cause store bytes a faults.NoMemory x y = absurd y

pub one_outcome : OneOutcome
one_outcome = record {
  one_update = λ store bytes a b first second. same_meaning bytes a b first.message second.message;
  one_cause = one_cause;
  not_both = not_both;
}

-- a fault that was answered has its cause, or memory ran out
abbrev pub WasRefused : Stored → List ℕ → AdmitFault → Type 0
WasRefused store bytes fault = (fault ≡ faults.NoMemory) ⊎ IsRefused store bytes fault

pub only_taken : (store : Stored) (bytes : List ℕ) (fault : AdmitFault) → WasRefused store bytes fault → (update : Update) → IsTaken store bytes update → fault ≡ faults.NoMemory
only_taken store bytes fault (inl e) update taken = e
only_taken store bytes fault (inr refused) update taken = absurd (not_both store bytes update fault taken refused)

pub only_refused : (store : Stored) (bytes : List ℕ) (fault : AdmitFault) → WasRefused store bytes fault → (other : AdmitFault) → IsRefused store bytes other → (fault ≡ other) ⊎ (fault ≡ faults.NoMemory)
only_refused store bytes fault (inl e) other refused = inr e
only_refused store bytes fault (inr cause) other refused = inl (one_cause store bytes fault other cause refused)

pub taken_not_refused : (store : Stored) (bytes : List ℕ) (update : Update) → IsTaken store bytes update → (fault : AdmitFault) → IsRefused store bytes fault → ⊥
taken_not_refused store bytes update taken fault refused = not_both store bytes update fault taken refused
