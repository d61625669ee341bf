-- The keys that news touch.
use Rattle.std.specs.Prelude.{◌≡◌, ◌⊎◌, List, true, Some, None}
use Rattle.std.specs.BTreeSet.{BTreeSet, contains}
use Rattle.lc_model.specs.RunKey.{key_cmp}
use Rattle.lc_model.specs.Text.{IsIdText}
use Rattle.lc_model.specs.declared.key.RunKey.{RunKey}
use Rattle.lc_model.specs.Versions.Added.{has_key}
use Rattle.lc_model.specs.Versions.News.{TripSaid}
use Rattle.version_store.specs.IndexLaws.Touched.{is_touched, touches}

-- the set has the key
abbrev pub Has : BTreeSet RunKey → RunKey → Type 0
Has keys key = contains key_cmp keys key ≡ true

-- the key is that of the news, without a start
pub record IsPlainKey (key : RunKey) (news : TripSaid) : Type 0 where
  pub trip : key.trip ≡ news.trip
  pub date : news.date ≡ Some key.date
  pub start : key.start ≡ None

-- the set has what it had, and the own key of the news
abbrev pub PutsOwnKey : TripSaid → BTreeSet RunKey → BTreeSet RunKey → Type 0
PutsOwnKey news old new = (key : RunKey) → IsIdText key.trip → Has old key ⊎ (has_key key news ≡ true) → Has new key

-- the set has what it had, and the key of the news without a start
abbrev pub PutsPlainKey : TripSaid → BTreeSet RunKey → BTreeSet RunKey → Type 0
PutsPlainKey news old new = (key : RunKey) → IsIdText key.trip → Has old key ⊎ IsPlainKey key news → Has new key

-- the set has what it had, and the keys that the news touch
abbrev pub PutsTouched : TripSaid → BTreeSet RunKey → BTreeSet RunKey → Type 0
PutsTouched news old new = (key : RunKey) → IsIdText key.trip → Has old key ⊎ (touches key news ≡ true) → Has new key

-- the set has what it had, and the keys that some of the news touch
abbrev pub PutsAllTouched : List TripSaid → BTreeSet RunKey → BTreeSet RunKey → Type 0
PutsAllTouched list old new = (key : RunKey) → IsIdText key.trip → Has old key ⊎ (is_touched key list ≡ true) → Has new key

-- the set has each key that a run may have and some of the news touch
abbrev pub HasTouched : List TripSaid → BTreeSet RunKey → Type 0
HasTouched list keys = (key : RunKey) → IsIdText key.trip → is_touched key list ≡ true → Has keys key
