-- The cuts of a history do not matter to its news, its versions and its bytes.
use Rattle.std.proofs.Common.{◌≡◌, ℕ, ◌+◌, List, [], ◌∷◌, leb, Bool, true, false, cond, refl, ap, ◌∙◌, sym}
use Rattle.std.specs.List.{filter_map}
use Rattle.std.proofs.lemmas.List.Sums.{sum_by-cons}
use Rattle.lc_model.specs.declared.date.ServiceDate.{ServiceDate}
use Rattle.lc_model.specs.Versions.History.{Entry, kept_after, kept_behind, moments_of, up_to}
use Rattle.lc_model.specs.Versions.News.{EntitySaid}
use Rattle.version_store.specs.Laws.{CutsDoNotMatter}
use Rattle.version_store.specs.Store.{bytes_of, without_cuts}

one_entry : (version : ℕ) (entry : Entry) (rest : List Entry) (b : Bool) → up_to version (without_cuts rest) ≡ without_cuts (up_to version rest) →
    cond b (record { update = entry.update; bytes = entry.bytes; cuts = [] } ∷ up_to version (without_cuts rest)) (up_to version (without_cuts rest)) ≡ without_cuts (cond b (entry ∷ up_to version rest) (up_to version rest))
one_entry version entry rest true e = ap (λ v. record { update = entry.update; bytes = entry.bytes; cuts = [] } ∷ v) e
one_entry version entry rest false e = e

up_to-cuts : (version : ℕ) (history : List Entry) → up_to version (without_cuts history) ≡ without_cuts (up_to version history)
up_to-cuts version [] = refl
up_to-cuts version (entry ∷ rest) = one_entry version entry rest (leb entry.update.moment version) (up_to-cuts version rest)

kept-cuts : (date_of : ℕ → ServiceDate) (kept : List EntitySaid) (history : List Entry) → kept_behind date_of kept (without_cuts history) ≡ kept_behind date_of kept history
kept-cuts date_of kept [] = refl
kept-cuts date_of kept (entry ∷ rest) = kept-cuts date_of (kept_after date_of kept entry.update) rest

moments-cuts : (history : List Entry) → moments_of (without_cuts history) ≡ moments_of history
moments-cuts [] = refl
moments-cuts (entry ∷ rest) = ap (λ v. entry.update.moment ∷ v) (moments-cuts rest)

bytes-cuts : (history : List Entry) → bytes_of (without_cuts history) ≡ bytes_of history
bytes-cuts [] = refl
bytes-cuts (entry ∷ rest) =
    sum_by-cons (λ (e : Entry). e.bytes) (record { update = entry.update; bytes = entry.bytes; cuts = [] }) (without_cuts rest)
    ∙ ap (λ n. entry.bytes + n) (bytes-cuts rest) ∙ sym (sum_by-cons (λ (e : Entry). e.bytes) entry rest)

pub cuts_do_not : (history : List Entry) → CutsDoNotMatter history
cuts_do_not history = record {
  news = λ date_of version. ap (filter_map (λ (e : EntitySaid). e.news)) (ap (kept_behind date_of []) (up_to-cuts version history) ∙ kept-cuts date_of [] (up_to version history));
  moments = moments-cuts history;
  bytes = bytes-cuts history;
}
