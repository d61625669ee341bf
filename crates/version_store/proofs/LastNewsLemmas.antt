-- The last news with exactly a key, and the keys that news touch.
use Rattle.std.proofs.Common.{◌≡◌, ◌⊎◌, ◌∙◌, inl, inr, ℕ, ◌+◌, ◌<◌, List, [], ◌∷◌, ◌++◌, get_or, length, map, take, Bool, true, false, Option, Some, None, option_map, refl, sym, ap, subst}
use Rattle.std.specs.Prelude.{◌&&◌, ◌||◌, not, if◌then◌else◌}
use Rattle.std.specs.BTreeMap.{BTreeMap, get}
use Rattle.std.specs.BTreeSet.{BTreeSet, contains}
use Rattle.std.specs.Map.{lookup}
use Rattle.std.specs.Ordering.{is_eq}
use Rattle.std.proofs.lemmas.Bool.{and_from, and_parts, eq-eqb, false_from_ne_true, or_cases}
use Rattle.lc_model.specs.Change.{is_same_id}
use Rattle.lc_model.specs.RunKey.{key_cmp}
use Rattle.lc_model.specs.declared.date.ServiceDate.{ServiceDate}
use Rattle.lc_model.specs.declared.key.RunKey.{RunKey}
use Rattle.lc_model.proofs.KeyLemmas.{same_key_parts}
use Rattle.lc_model.specs.Versions.Added.{has_key, is_start}
use Rattle.lc_model.specs.Versions.Naming.{is_added, is_on, names_run, starts_so}
use Rattle.lc_model.specs.Versions.News.{TripSaid}
use Rattle.version_store.specs.IndexLaws.Touched.{IsTouchedKey, is_touched, touches}
use Rattle.version_store.proofs.IndexLawsLemmas.TouchedLemmas.{touch_few}
use Rattle.live_calls.specs.AddedRun.{HasNoKey}
use Rattle.live_calls.proofs.LawLemmas.{keys_are_one, no_key_names_none}
use Rattle.version_store.specs.Kept.{news_said}
use Rattle.version_store.specs.LastNews.{HasOwn, PutsOwn}
use Rattle.version_store.specs.Named.{said_at}
use Rattle.version_store.specs.TouchedKeys.{Has, PutsAllTouched, PutsOwnKey, PutsPlainKey, PutsTouched}
use Rattle.version_store.specs.declared.dated.DatedNews.{DatedNews}
use Rattle.version_store.proofs.FurtherLemmas.{by_bool, said_taken, same_from_tie, tie, tie_from_same}
use Rattle.version_store.proofs.NamedLemmas.{key_of}

-- where the news have one key, they have exactly those that tie with it
own_tie : (key other : RunKey) (news : TripSaid) → has_key key news ≡ true → tie key other ≡ has_key other news
own_tie key other news of =
    by_bool (tie key other ≡ has_key other news) (tie key other)
    (λ e. let same = same_from_tie key other e in e ∙ sym (subst (λ (k : RunKey). has_key k news ≡ true) same of))
    (λ e.
    e
    ∙ sym (false_from_ne_true (has_key other news) (λ has.
    let same : key ≡ other = keys_are_one key other news of has in
    let f : false ≡ true = sym e ∙ tie_from_same key other same in cc)))

said_if : (b : Bool) (news : DatedNews) (old : Option DatedNews) → option_map news_said (if b then Some news else old) ≡ (if b then Some (news_said news) else option_map news_said old)
said_if true news old = refl
said_if false news old = refl

-- news at their own key
pub puts_own : (news : DatedNews) (key : RunKey) (old new : BTreeMap RunKey DatedNews) → has_key key (news_said news) ≡ true
    → ((other : RunKey) → get key_cmp new other ≡ (if is_eq (key_cmp key other) then Some news else get key_cmp old other)) → PutsOwn news old new
puts_own news key old new of at other named =
    ap (option_map news_said) (at other ∙ ap (λ b. if b then Some news else get key_cmp old other) (own_tie key other (news_said news) of))
    ∙ said_if (has_key other (news_said news)) news (get key_cmp old other)

-- news that have no key a run may have
pub puts_none : (news : DatedNews) (old : BTreeMap RunKey DatedNews) → HasNoKey (news_said news) → PutsOwn news old old
puts_none news old no_key key named =
    ap (λ b. if b then Some (news_said news) else said_at old key)
    (sym (false_from_ne_true (has_key key (news_said news)) (λ has. no_key_names_none (news_said news) key has named no_key)))

-- before any news
pub none_own : (own : BTreeMap RunKey DatedNews) → own.entries ≡ [] → HasOwn [] own
none_own own e key named = ap (option_map news_said) (ap (lookup (λ (k : RunKey). is_eq (key_cmp key k))) e)

if_true : (b t : Bool) → b ≡ true → (if b then true else t) ≡ true
if_true b t e = ap (λ c. if c then true else t) e

if_stays : (b t : Bool) → t ≡ true → (if b then true else t) ≡ true
if_stays true t e = refl
if_stays false t e = e

-- a key more in a set
abbrev pub PutsKey : RunKey → BTreeSet RunKey → BTreeSet RunKey → Type 0
PutsKey key old new = (other : RunKey) → contains key_cmp new other ≡ (if is_eq (key_cmp key other) then true else contains key_cmp old other)

had_stays : (key other : RunKey) (old new : BTreeSet RunKey) → PutsKey key old new → Has old other → Has new other
had_stays key other old new puts had = puts other ∙ if_stays (is_eq (key_cmp key other)) (contains key_cmp old other) had

key_is_in : (key other : RunKey) (old new : BTreeSet RunKey) → PutsKey key old new → key ≡ other → Has new other
key_is_in key other old new puts same = puts other ∙ if_true (is_eq (key_cmp key other)) (contains key_cmp old other) (tie_from_same key other same)

-- the own key of news
pub puts_own_key : (news : TripSaid) (key : RunKey) (old new : BTreeSet RunKey) → has_key key news ≡ true → PutsKey key old new → PutsOwnKey news old new
puts_own_key news key old new of puts other named (inl had) = had_stays key other old new puts had
puts_own_key news key old new of puts other named (inr has) = key_is_in key other old new puts (keys_are_one key other news of has)

pub no_own_key : (news : TripSaid) (keys : BTreeSet RunKey) → HasNoKey news → PutsOwnKey news keys keys
no_own_key news keys no_key other named (inl had) = had
no_own_key news keys no_key other named (inr has) = absurd (no_key_names_none news other has named no_key)

some_is_one : (x y : ServiceDate) → Some x ≡ Some y → x ≡ y
some_is_one x y e = cc

-- the key of news without a start
pub puts_plain_key : (news : TripSaid) (trip : List ℕ) (date : ServiceDate) (old new : BTreeSet RunKey) → trip ≡ news.trip → news.date ≡ Some date → PutsKey (key_of trip date) old new → PutsPlainKey news old new
puts_plain_key news trip date old new same on puts other named (inl had) = had_stays (key_of trip date) other old new puts had
puts_plain_key news trip date old new same on puts other named (inr plain) =
    key_is_in (key_of trip date) other old new puts (same_key_parts (key_of trip date) other (same ∙ sym plain.trip) (some_is_one date other.date (sym on ∙ plain.date)) (sym plain.start))

same_start : (start : Option ℕ) → is_start start start ≡ true
same_start None = refl
same_start (Some start) = eq-eqb start start refl

-- news that name a run and say its start have its key
named_with_start : (key : RunKey) (news : TripSaid) → names_run key news ≡ true → key.start ≡ news.start → has_key key news ≡ true
named_with_start key news e same =
    let first = and_parts (not (is_added news.kind)) (is_same_id news.trip key.trip && (is_on key.date news.date && starts_so key.start news.start)) e in
    let second = and_parts (is_same_id news.trip key.trip) (is_on key.date news.date && starts_so key.start news.start) first.1 in
    let third = and_parts (is_on key.date news.date) (starts_so key.start news.start) second.1 in
    and_from (is_same_id news.trip key.trip) (is_on key.date news.date && is_start key.start news.start) second.0
    (and_from (is_on key.date news.date) (is_start key.start news.start) third.0 (subst (λ (s : Option ℕ). is_start key.start s ≡ true) same (same_start key.start)))

-- both keys of news
pub puts_touched : (news : TripSaid) (old mid new : BTreeSet RunKey) → PutsOwnKey news old mid → PutsPlainKey news mid new → PutsTouched news old new
puts_touched news old mid new own plain key named (inl had) = plain key named (inl (own key named (inl had)))
puts_touched news old mid new own plain key named (inr touched) = elim (or_cases (names_run key news) (has_key key news) touched) [
  | inr has ↦ plain key named (inl (own key named (inr has)))
  | inl names ↦
      let few : IsTouchedKey key news = touch_few key news touched in
      elim (few.start) [
        | inl none ↦ plain key named (inr (record { trip = few.trip; date = few.date; start = none }))
        | inr same ↦ plain key named (inl (own key named (inr (named_with_start key news names same))))
      ]
]

-- one news more
pub touched_more : (key : RunKey) (news : TripSaid) (list : List TripSaid) → is_touched key (list ++ news ∷ []) ≡ true → (is_touched key list ≡ true) ⊎ (touches key news ≡ true)
touched_more key news [] e = elim (or_cases (touches key news) false e) [ inl here ↦ inr here | inr f ↦ absurd (let g : false ≡ true = f in cc) ]
touched_more key news (first ∷ list) e = elim (or_cases (touches key first) (is_touched key (list ++ news ∷ [])) e) [
  | inl here ↦ inl (ap (λ b. b || is_touched key list) here)
  | inr behind ↦ elim (touched_more key news list behind) [ inl in_list ↦ inl (or_last (touches key first) (is_touched key list) in_list) | inr last ↦ inr last ]
] where
  or_last : (a b : Bool) → b ≡ true → (a || b) ≡ true
  or_last true b e = refl
  or_last false b e = e

-- one news more in a loop
pub keys_more : (news : List DatedNews) (i : ℕ) (dated : DatedNews) (old mid new : BTreeSet RunKey) → i < length news → dated ≡ get_or news i dated → PutsAllTouched (map news_said (take i news)) old mid
    → PutsTouched (news_said dated) mid new → PutsAllTouched (map news_said (take (i + 1) news)) old new
keys_more news i dated old mid new inside is done puts key named (inl had) = puts key named (inl (done key named (inl had)))
keys_more news i dated old mid new inside is done puts key named (inr touched) =
    elim (touched_more key (news_said dated) (map news_said (take i news)) (subst (λ (list : List TripSaid). is_touched key list ≡ true) (said_taken news i dated inside is) touched)) [
      | inl earlier ↦ puts key named (inl (done key named (inr earlier)))
      | inr here ↦ puts key named (inr here)
    ]
