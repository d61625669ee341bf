-- What was received, with one more.
use Rattle.std.proofs.Common.{◌≡◌, ◌==◌, ◌&&◌, ◌+◌, ◌-◌, ℕ, Bool, true, false, List, [], ◌∷◌, ◌++◌, Option, Some, ap, ap₂, append-nil, append_assoc, eq-eqb, eqb-true, filter, length, length-append, map, option_map, refl, subst, sym, ◌∙◌, cond}
use Rattle.std.specs.List.{All, slice_get}
use Rattle.std.proofs.lemmas.List.{map-append}
use Rattle.std.proofs.lemmas.List.Elements.{All-head, All-tail, filter-append}
use Rattle.connection_uri.specs.Base.{BaseParts}
use Rattle.convoy.specs.Exchange.{bytes_of, result_of}
use Rattle.csa_scan.proofs.ListPlacesLemmas.{slice_get-append}
use Rattle.lc_io.specs.Counts.{RoseBy}
use Rattle.lc_model.specs.declared.query.Query.{Query}
use Rattle.lc_world.specs.Link.{Tells, TellsMore}
use Rattle.lc_world.specs.declared.entry.Entry.{Entry}
use Rattle.page_client.specs.Request.{Asks, known_at, target_of}
use Rattle.convoy.specs.Replies.Met.{AreRecordedOf, CountAlong, IsRecordedOf, Met, TakeKept, TellsMet, WasKept, asked_in, exchanges_by, failures_in, is_by, met_by}
use Rattle.convoy.proofs.RepliesLemmas.MadeLemmas.{grows, stays, recorded_by}

-- one more passes a filter, or is left out
filter_with : {X : Type 0} (p : X → Bool) (xs : List X) (x : X) → p x ≡ true → filter p (xs ++ x ∷ []) ≡ filter p xs ++ x ∷ []
filter_with p xs x passes = filter-append p xs (x ∷ []) ∙ ap (λ (b : Bool). filter p xs ++ cond b (x ∷ []) []) passes

filter_without : {X : Type 0} (p : X → Bool) (xs : List X) (x : X) → p x ≡ false → filter p (xs ++ x ∷ []) ≡ filter p xs
filter_without p xs x fails = filter-append p xs (x ∷ []) ∙ ap (λ (b : Bool). filter p xs ++ cond b (x ∷ []) []) fails ∙ append-nil (filter p xs)

by_own : (client : ℕ) (met : Met) → met.client ≡ client → is_by client met ≡ true
by_own client met same = eq-eqb met.client client same

pub by_other : (client : ℕ) (met : Met) → (met.client ≡ client → ⊥) → is_by client met ≡ false
by_other client met other = by_test (met.client == client) refl where
  by_test : (is : Bool) → (met.client == client) ≡ is → (met.client == client) ≡ false
  by_test true e = absurd (other (eqb-true met.client client e))
  by_test false e = e

module _ (client : ℕ) (all : List Met) (met : Met) where
  -- of the client itself
  pub met_by_own : met.client ≡ client → met_by client (all ++ met ∷ []) ≡ met_by client all ++ met.made ∷ []
  met_by_own same =
      ap (map (λ (m : Met). m.made)) (filter_with (is_by client) all met (by_own client met same)) ∙ map-append (λ (m : Met). m.made) (filter (is_by client) all) (met ∷ [])

  pub exchange_more : met.client ≡ client → met.asked ≡ true → exchanges_by client (all ++ met ∷ []) ≡ exchanges_by client all + 1
  exchange_more same asked =
      let own : Met → Bool = λ m. is_by client m && m.asked in
      ap (λ (l : List Met). length l) (filter_with own all met (ap₂ (λ (a b : Bool). a && b) (by_own client met same) asked)) ∙ length-append (filter own all) (met ∷ [])

  pub no_exchange_more : met.asked ≡ false → exchanges_by client (all ++ met ∷ []) ≡ exchanges_by client all
  no_exchange_more none =
      let own : Met → Bool = λ m. is_by client m && m.asked in
      ap (λ (l : List Met). length l) (filter_without own all met (ap (λ (b : Bool). is_by client met && b) none ∙ never (is_by client met))) where
        never : (b : Bool) → (b && false) ≡ false
        never true = refl
        never false = refl

  -- of another
  pub met_by_other : (met.client ≡ client → ⊥) → met_by client (all ++ met ∷ []) ≡ met_by client all
  met_by_other other = ap (map (λ (m : Met). m.made)) (filter_without (is_by client) all met (by_other client met other))

  pub exchanges_of_other : (met.client ≡ client → ⊥) → exchanges_by client (all ++ met ∷ []) ≡ exchanges_by client all
  exchanges_of_other other =
      let own : Met → Bool = λ m. is_by client m && m.asked in
      ap (λ (l : List Met). length l) (filter_without own all met (ap (λ (b : Bool). b && met.asked) (by_other client met other)))

-- of nobody, where none are of the client
module _ (client : ℕ) where
  pub met_none_by : (all : List Met) → All (λ (met : Met). is_by client met ≡ false) all → met_by client all ≡ []
  met_none_by [] none = refl
  met_none_by (met ∷ all) none =
      ap (λ (b : Bool). map (λ (m : Met). m.made) (cond b (met ∷ filter (is_by client) all) (filter (is_by client) all))) (All-head (λ (m : Met). is_by client m ≡ false) met all none)
      ∙ met_none_by all (All-tail (λ (m : Met). is_by client m ≡ false) met all none)

  pub exchanges_none_by : (all : List Met) → All (λ (met : Met). is_by client met ≡ false) all → exchanges_by client all ≡ 0
  exchanges_none_by [] none = refl
  exchanges_none_by (met ∷ all) none =
      let own : Met → Bool = λ m. is_by client m && m.asked in
      ap (λ (b : Bool). length (cond (b && met.asked) (met ∷ filter own all) (filter own all))) (All-head (λ (m : Met). is_by client m ≡ false) met all none)
      ∙ exchanges_none_by all (All-tail (λ (m : Met). is_by client m ≡ false) met all none)

module _ (all : List Met) (met : Met) where
  -- by an exchange, or not
  pub asked_more : met.asked ≡ true → asked_in (all ++ met ∷ []) ≡ asked_in all ++ met ∷ []
  asked_more asked = filter_with (λ (m : Met). m.asked) all met asked

  pub not_asked_more : met.asked ≡ false → asked_in (all ++ met ∷ []) ≡ asked_in all
  not_asked_more none = filter_without (λ (m : Met). m.asked) all met none

-- the count goes on
pub along_more : (faults now later : ℕ) (all : List Met) (met : Met) → CountAlong faults now all → met.low ≡ now → (met.asked ≡ false → met.high ≡ met.low) → RoseBy (failures_in (met ∷ [])) met.low met.high
    → met.high ≡ later →
    CountAlong faults later (all ++ met ∷ [])
along_more faults now later [] met along from kept rose to = (from ∙ sym along, kept, rose, to)
along_more faults now later (m ∷ all) met along from kept rose to = (along.0, along.1, along.2, along_more m.high now later all met along.3 from kept rose to)

-- one more that was cached, if it was received without an exchange
pub take_kept_more : (base : BaseParts) (before all : List Met) (met : Met) → TakeKept base before all → (met.asked ≡ false → WasKept base (before ++ all) met.made) → TakeKept base before (all ++ met ∷ [])
take_kept_more base before [] met take kept = (λ none. subst (λ (l : List Met). WasKept base l met.made) (append-nil before) (kept none), tt)
take_kept_more base before (m ∷ all) met take kept =
    (take.0, take_kept_more base (before ++ m ∷ []) all met take.1 (λ none. subst (λ (l : List Met). WasKept base l met.made) (sym (append_assoc before (m ∷ []) all)) (kept none)))

-- one exchange more is recorded
recorded_more : (base : BaseParts) (questions : List Query) (all : List Met) (entries : List Entry) (met : Met) (entry : Entry) → AreRecordedOf base questions all entries → IsRecordedOf base questions met entry →
    AreRecordedOf base questions (all ++ met ∷ []) (entries ++ entry ∷ [])
recorded_more base questions [] [] met entry are is = (is, tt)
recorded_more base questions [] (e ∷ entries) met entry are is = absurd are
recorded_more base questions (m ∷ all) [] met entry are is = absurd are
recorded_more base questions (m ∷ all) (e ∷ entries) met entry are is = (are.0, recorded_more base questions all entries met entry are.1 is)

pub tells_met_none : (base : BaseParts) (questions : List Query) (recorded : Option (List Entry)) → TellsMet base questions [] recorded recorded
tells_met_none base questions recorded = record { entries = []; are = tt; is = stays recorded }

pub tells_met_more :
    (base : BaseParts) (questions : List Query) (query : Query) (exchanges : List Met) (met : Met) (request : List ℕ) (start before after : Option (List Entry)) →
    TellsMet base questions exchanges start before → slice_get questions (met.client - 1) ≡ Some query → Asks base (target_of base query met.made.want) (known_at query met.made.want) request →
    Tells before after base.authority request (bytes_of met.made.got) (result_of met.made.got) → TellsMet base questions (exchanges ++ met ∷ []) start after
tells_met_more base questions query exchanges met request start before after all asks asked tells =
    let more : TellsMore before after base.authority request met.made.got = recorded_by before after base.authority request met.made.got tells in
    let entry : Entry = record { authority = base.authority; request = request; reply = more.reply } in
    record {
      entries = all.entries ++ entry ∷ [];
      are = recorded_more base questions exchanges all.entries met entry all.are (record { query = query; asks = asks; tells = record { authority = refl; asks = asked; reply = more.is_given } });
      is = more.is ∙ ap (option_map (λ (recorded : List Entry). recorded ++ entry ∷ [])) all.is ∙ grows start all.entries entry;
    }

-- who asks later changes nothing of it
recorded_with_more : (base : BaseParts) (questions more : List Query) (all : List Met) (entries : List Entry) → AreRecordedOf base questions all entries → AreRecordedOf base (questions ++ more) all entries
recorded_with_more base questions more [] [] are = tt
recorded_with_more base questions more [] (e ∷ entries) are = absurd are
recorded_with_more base questions more (m ∷ all) [] are = absurd are
recorded_with_more base questions more (m ∷ all) (e ∷ entries) are =
    let one = are.0 in
    (record { query = one.query; asks = slice_get-append questions more (m.client - 1) one.query one.asks; tells = one.tells }, recorded_with_more base questions more all entries are.1)

pub tells_with_more : (base : BaseParts) (questions more : List Query) (exchanges : List Met) (start now : Option (List Entry)) → TellsMet base questions exchanges start now →
    TellsMet base (questions ++ more) exchanges start now
tells_with_more base questions more exchanges start now all = record { entries = all.entries; are = recorded_with_more base questions more exchanges all.entries all.are; is = all.is }
