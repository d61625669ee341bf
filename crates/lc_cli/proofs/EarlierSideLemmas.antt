-- What a publisher answers at a version, it answered when that version was the newest: messages that come later change nothing of it.
use Rattle.std.proofs.Common.{◌≡◌, ◌∙◌, ◌<◌, ◌++◌, ◌∷◌, ℕ, Bool, true, false, inl, inr, List, [], Some, Option, ap, append-nil, append_assoc, arith, length, refl, subst, sym}
use Rattle.std.specs.Prelude.{filter, if◌then◌else◌, ◌==◌}
use Rattle.std.specs.List.{All, Contains}
use Rattle.std.proofs.lemmas.List.Elements.{All-contains_itself, All-filter, All-head, All-nil, All-tail}
use Rattle.std.proofs.lemmas.List.Kept.{AllPairs-cons}
use Rattle.cli_ask.specs.Admission.{IsBehind}
use Rattle.cli_ask.specs.Publishing.{side_with}
use Rattle.cli_ask.proofs.AdmissionLemmas.{of_history, one_behind}
use Rattle.cli_words.specs.declared.command.Publishing.{Publishing}
use Rattle.convoy.specs.ClientLaws.Answered.{AnswersAt}
use Rattle.cli_replay.specs.ReplayLaws.Events.{before_turn_of}
use Rattle.cli_replay.specs.ReplayLaws.Versions.{HasHeard}
use Rattle.cli_replay.specs.declared.replay_laws.event.Event.{Event}
use Rattle.cli_replay.specs.declared.replay_laws.event.Event.TheVariants as events
use Rattle.lc_io.specs.declared.file.File.{File}
use Rattle.lc_model.specs.declared.answer.Answer.{Answer}
use Rattle.lc_model.specs.declared.query.Query.{Query}
use Rattle.lc_model.specs.Versions.History.{Entry, IsRising, moments_of}
use Rattle.lc_model.specs.Versions.Named.{is_by, last_of, version_named}
use Rattle.lc_model.specs.Versions.News.{TripSaid}
use Rattle.lc_model.specs.Versions.Timetable.{AreLiveRuns}
use Rattle.lc_world.proofs.SidesLemmas.VersionLemmas.{Rising, below, history_rises, moments_on, news_stay}
use Rattle.lc_world.specs.Sides.Side.{date_in}
use Rattle.timetable.specs.declared.timetable.Timetable.{Timetable}
use Rattle.version_store.specs.Laws.{OneOutcome}
use Rattle.version_store.specs.Store.{Stored, entry_of}
use Rattle.lc_cli.specs.Headline.{version_meant}

-- the store with this history, and the one with these messages more
abbrev with_history : Stored → List Entry → Stored
with_history store history = record store { history = history }

abbrev with_more : Stored → List Entry → Stored
with_more store more = with_history store (store.history ++ more)

-- messages were admitted, perhaps none, and nothing else has changed
pub record HasMore (old new : Stored) : Type 0 where
  pub more : List Entry
  pub is : new ≡ with_more old more

none_more : (old new : Stored) → new ≡ old → HasMore old new
none_more old new same = record { more = []; is = same ∙ ap (with_history old) (sym (append-nil old.history)) }

still_more : (a b c : Stored) → HasMore a b → HasMore b c → HasMore a c
still_more a b c x y = record {
  more = x.more ++ y.more;
  is = y.is ∙ ap (λ (store : Stored). with_more store y.more) x.is ∙ ap (with_history a) (append_assoc a.history x.more y.more);
}

more_after : (file : File) (old new : Stored) (line : List ℕ) → IsBehind (Some file) old new line → HasMore old new
more_after file old new line (inl admitted) = record { more = entry_of admitted.admits.update (length file.bytes) ∷ []; is = admitted.admits.appended }
more_after file old new line (inr passed) = none_more old new passed.same

more_heard : (all : List Event) (old new : Stored) (lines : List ℕ) → HasHeard all old new lines → HasMore old new
more_heard [] old new lines heard = none_more old new heard.0
more_heard (events.Ask query ∷ all) old new lines heard = more_heard all old new lines heard
more_heard (events.Message message ∷ all) old new lines (between, line, rest, behind, heard, is) =
    still_more old between new (more_after message.file old between line behind) (more_heard all between new rest heard)
more_heard (events.Turn client ∷ all) old new lines heard = more_heard all old new lines heard

-- after a message there is one store
one_store : OneOutcome → (file : File) (old a b : Stored) (k l : List ℕ) → IsBehind (Some file) old a k → IsBehind (Some file) old b l → a ≡ b
one_store one_outcome file old a b k l x y =
    let one = one_behind one_outcome old old (record { base = refl; history = refl }) a b k l (Some file) x y in
    of_history (Some file) old a k x ∙ ap (with_history old) one.heard.history ∙ sym (of_history (Some file) old b l y)

-- after all messages the publisher has those that came before a client's first turn, and perhaps more
pub more_since : OneOutcome → (client : ℕ) (all : List Event) (old mid new : Stored) (front lines : List ℕ) → HasHeard (before_turn_of client all) old mid front → HasHeard all old new lines → HasMore mid new
more_since one_outcome client [] old mid new front lines before heard = none_more mid new (heard.0 ∙ sym before.0)
more_since one_outcome client (events.Ask query ∷ all) old mid new front lines before heard = more_since one_outcome client all old mid new front lines before heard
more_since one_outcome client (events.Message message ∷ all) old mid new front lines (between, line, rest, behind, before, is) (other, other_line, other_rest, other_behind, heard, other_is) =
    let same = one_store one_outcome message.file old between other line other_line behind other_behind in
    more_since one_outcome client all other mid new rest other_rest (subst (λ (store : Stored). HasHeard (before_turn_of client all) store mid rest) same before) heard
more_since one_outcome client (events.Turn own ∷ all) old mid new front lines before heard =
    by (own == client) before (λ later. more_since one_outcome client all old mid new front lines later heard) where
      by : (is_own : Bool) → HasHeard (if is_own then [] else events.Turn own ∷ before_turn_of client all) old mid front → (HasHeard (before_turn_of client all) old mid front → HasMore mid new)
          → HasMore mid new
      by true first later = subst (λ (store : Stored). HasMore store new) (sym first.0) (more_heard all old new lines heard)
      by false rest later = later rest

-- the moments of the versions increase
abbrev pub Rises : Stored → Type 0
Rises store = IsRising store.base (moments_of store.history)

pub rises_first : (base : ℕ) → IsRising base []
rises_first base = AllPairs-cons (λ (x y : ℕ). x < y) base [] (All-nil (λ (y : ℕ). base < y)) (λ i j d before inside. absurd (omega (arith, inside)))

rises_after : (file : File) (old new : Stored) (line : List ℕ) → IsBehind (Some file) old new line → Rises old → Rises new
rises_after file old new line (inl admitted) rises =
    subst Rises (sym admitted.admits.appended)
    (history_rises old.base old.history (entry_of admitted.admits.update (length file.bytes)) rises admitted.admits.taken.newer)
rises_after file old new line (inr passed) rises = subst Rises (sym passed.same) rises

pub rises_heard : (all : List Event) (old new : Stored) (lines : List ℕ) → HasHeard all old new lines → Rises old → Rises new
rises_heard [] old new lines heard rises = subst Rises (sym heard.0) rises
rises_heard (events.Ask query ∷ all) old new lines heard rises = rises_heard all old new lines heard rises
rises_heard (events.Message message ∷ all) old new lines (between, line, rest, behind, heard, is) rises =
    rises_heard all between new rest heard (rises_after message.file old between line behind rises)
rises_heard (events.Turn client ∷ all) old new lines heard rises = rises_heard all old new lines heard rises

-- what is so of a moment and of others is so of the last one
last_is : (IsSo : ℕ → Type 0) (base : ℕ) (later : List ℕ) → IsSo base → All IsSo later → IsSo (last_of base later)
last_is IsSo base [] first rest = first
last_is IsSo base (next ∷ later) first rest = last_is IsSo next later (All-head IsSo next later rest) (All-tail IsSo next later rest)

-- the version that is meant is one of the versions
meant_is_there : (base : ℕ) (moments : List ℕ) (known : Option ℕ) → Contains (base ∷ moments) (version_named base moments known)
meant_is_there base moments known =
    let all : All (Contains (base ∷ moments)) (base ∷ moments) = All-contains_itself (base ∷ moments) in
    last_is (Contains (base ∷ moments)) base (filter (is_by known) moments) (All-head (Contains (base ∷ moments)) base moments all)
    (All-filter (is_by known) (Contains (base ∷ moments)) moments (All-tail (Contains (base ∷ moments)) base moments all))

module _ (made : Timetable) (publishing : Publishing) (mid new : Stored) (has : HasMore mid new) (rises : Rises new) (query : Query) (answer : Answer) where
  above : All (λ (moment : ℕ). version_meant (side_with made publishing mid) query < moment) (moments_of has.more)
  above =
      below (mid.base ∷ moments_of mid.history) (moments_of has.more) (version_meant (side_with made publishing mid) query)
      (subst (λ (moments : List ℕ). Rising (mid.base ∷ moments)) (moments_on mid.history has.more) (subst Rises has.is rises))
      (meant_is_there mid.base (moments_of mid.history) query.known)

  -- an answer at a version of the earlier side is one by that side
  pub answers_before : AnswersAt (side_with made publishing new) (version_meant (side_with made publishing mid) query) query answer
      → AnswersAt (side_with made publishing mid) (version_meant (side_with made publishing mid) query) query answer
  answers_before is = by (subst (λ (store : Stored). AnswersAt (side_with made publishing store) (version_meant (side_with made publishing mid) query) query answer) has.is is) where
    by : AnswersAt (side_with made publishing (with_more mid has.more)) (version_meant (side_with made publishing mid) query) query answer
        → AnswersAt (side_with made publishing mid) (version_meant (side_with made publishing mid) query) query answer
    by x = record {
      live = x.live;
      are_live =
          subst (λ (news : List TripSaid). AreLiveRuns mid.runs made.doc.stops news x.live)
          (news_stay (date_in mid.zone) mid.history has.more (version_meant (side_with made publishing mid) query) above) x.are_live;
      is_answer = x.is_answer;
    }
