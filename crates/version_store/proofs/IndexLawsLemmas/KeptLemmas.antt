-- What is in force after the messages of a history, one after the other.
use Rattle.std.proofs.Common.{◌≡◌, ℕ, suc, ◌+◌, ◌<◌, ◌≤◌, List, [], ◌∷◌, ◌++◌, length, get_or, take, drop, leb, Bool, refl, sym, ap, ap₂, ◌∙◌, arith, ⊎_elim}
use Rattle.std.proofs.lemmas.Bool.{cases_lt, le-leb, lt-leb}
use Rattle.std.proofs.lemmas.List.{append-nil, get_or-drop, get_or-map, get_or-take, length-drop, length-map, length-take, take-append-drop, take_all}
use Rattle.std.proofs.lemmas.List.Elements.{filter-append}
use Rattle.lc_model.specs.declared.date.ServiceDate.{ServiceDate}
use Rattle.lc_model.proofs.RangesLemmas.{filter_all, filter_none}
use Rattle.lc_model.specs.Versions.History.{Entry, IsRising, kept_after, kept_behind, moments_of, news_at, up_to}
use Rattle.lc_model.specs.Versions.Named.{last_of}
use Rattle.lc_model.specs.Versions.News.{EntitySaid}
use Rattle.version_store.specs.IndexLaws.Kept.{ForceGoesOn, NewestNews, NewsOfNumber, OlderNewsStay, entities_after, news_in, version_at}

behind_both : (date_of : ℕ → ServiceDate) (kept : List EntitySaid) (first second : List Entry) → kept_behind date_of kept (first ++ second) ≡ kept_behind date_of (kept_behind date_of kept first) second
behind_both date_of kept [] second = refl
behind_both date_of kept (entry ∷ first) second = behind_both date_of (kept_after date_of kept entry.update) first second

pub goes_on : ForceGoesOn
goes_on date_of history entry = behind_both date_of [] history (entry ∷ [])

pub older : OlderNewsStay
older date_of history entry version later =
    let of_version = λ (e : Entry). leb e.update.moment version in
    let none : up_to version (entry ∷ []) ≡ [] = rw (lt-leb entry.update.moment version later) refl in
    ap (λ (es : List Entry). news_in (entities_after date_of es)) (filter-append of_version history (entry ∷ []) ∙ ap (λ v. up_to version history ++ v) none ∙ append-nil (up_to version history))

module _ (base : ℕ) (history : List Entry) (number : ℕ) (rising : IsRising base (moments_of history)) (within : number ≤ length history) where
  abbrev version : ℕ
  version = version_at base history number

  abbrev of_version : Entry → Bool
  of_version e = leb e.update.moment version

  -- the moment of the message at a place
  moment_at : (k : ℕ) (d : Entry) → k < length history → get_or (moments_of history) k base ≡ (get_or history k d).update.moment
  moment_at k d inside = get_or-map (λ (e : Entry). e.update.moment) history k d base inside

  moments_length : length (moments_of history) ≡ length history
  moments_length = length-map history (λ (e : Entry). e.update.moment)

  by_then : (k : ℕ) (d : Entry) → k < number → (get_or history k d).update.moment ≤ version
  by_then k d before =
      let at = moment_at k d (omega (arith, before, within)) in
      ⊎_elim
      (λ (low : suc k < number).
      let less : get_or (moments_of history) k base < version = rising (suc k) number base low (omega (arith, moments_length, within)) in
      omega (arith, at, less))
      (λ (last : number ≤ suc k).
      let same : number ≡ suc k = omega (arith, before, last) in
      let e : version ≡ get_or (moments_of history) k base = ap (λ (n : ℕ). get_or (base ∷ moments_of history) n base) same in
      omega (arith, at, e))
      (cases_lt (suc k) number)

  after_then : (k : ℕ) (d : Entry) → number ≤ k → k < length history → version < (get_or history k d).update.moment
  after_then k d behind inside =
      let at = moment_at k d inside in
      let less : version < get_or (moments_of history) k base = rising number (suc k) base (omega (arith, behind)) (omega (arith, moments_length, inside)) in
      omega (arith, at, less)

  -- the messages up to a version are as many as its number says
  up_to_number : up_to version history ≡ take number history
  up_to_number =
      ap (up_to version) (sym (take-append-drop number history)) ∙ filter-append of_version (take number history) (drop number history)
      ∙ ap₂ (λ xs ys. xs ++ ys)
      (filter_all of_version (take number history) (λ k d inside.
      let before : k < number = omega (arith, length-take number history, inside) in
      ap (λ (e : Entry). of_version e) (get_or-take number history k d before) ∙ le-leb (get_or history k d).update.moment version (by_then k d before)))
      (filter_none of_version (drop number history) (λ k d inside.
      let there : number + k < length history = omega (arith, length-drop number history, inside) in
      ap (λ (e : Entry). of_version e) (get_or-drop number history k d) ∙ lt-leb (get_or history (number + k) d).update.moment version (after_then (number + k) d (omega arith) there)))
      ∙ append-nil (take number history)

pub of_number : NewsOfNumber
of_number date_of base history number rising within = ap (λ (es : List Entry). news_in (entities_after date_of es)) (up_to_number base history number rising within)

last_there : (first : ℕ) (rest : List ℕ) (d : ℕ) → get_or (first ∷ rest) (length rest) d ≡ last_of first rest
last_there first [] d = refl
last_there first (next ∷ rest) d = last_there next rest d

pub newest : NewestNews
newest date_of base history rising =
    let moments = moments_of history in
    let long : length moments ≡ length history = length-map history (λ (e : Entry). e.update.moment) in
    let there : version_at base history (length history) ≡ last_of base moments = ap (λ (n : ℕ). get_or (base ∷ moments) n base) (sym long) ∙ last_there base moments base in
    ap (news_at date_of history) (sym there) ∙ of_number date_of base history (length history) rising (omega arith)
    ∙ ap (λ (es : List Entry). news_in (entities_after date_of es)) (take_all (length history) history (omega arith))
