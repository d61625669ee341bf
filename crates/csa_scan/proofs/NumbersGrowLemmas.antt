-- A new key gets the next number.
use Rattle.std.proofs.Common.{◌≡◌, ℕ, ◌+◌, ◌<◌, List, [], ◌∷◌, ◌++◌, Some, None, Bool, true, false, cond, length, get_or, take, refl, ap, ◌∙◌, sym, subst, inl, inr}
use Rattle.std.specs.BTreeMap.{BTreeMap, get, Updates, is_at}
use Rattle.std.specs.List.{slice_get}
use Rattle.std.specs.Ordering.{is_eq}
use Rattle.std.specs.declared.cmp.Ordering.{Ordering}
use Rattle.std.specs.declared.cmp.Ordering.TheVariants.{Less, Equal, Greater}
use Rattle.std.proofs.lemmas.List.{take_more, length_push}
use Rattle.lc_model.specs.RunKey.{key_cmp}
use Rattle.lc_model.specs.declared.connection.Connection.{Connection}
use Rattle.lc_model.specs.declared.key.RunKey.{RunKey}
use Rattle.csa_scan.specs.Numbers.{AreNumbers, AreNumbersOf, Extends}
use Rattle.lc_model.proofs.KeyLemmas.{same_keys}
use Rattle.csa_scan.proofs.ListPlacesLemmas.{slice_get-append, slice_get-last, push_cases}

pub is_equal : (o : Ordering) → is_eq o ≡ true → o ≡ Equal
is_equal Less e = absurd (cc)
is_equal Equal e = refl
is_equal Greater e = absurd (cc)

-- what the longer map has at a key is the new number or the old one
at_key : (old new : BTreeMap RunKey ℕ) (keys : List RunKey) (key : RunKey) → AreNumbers old keys → Updates key_cmp old new key (Some (length keys)) →
    (other : RunKey) (n : ℕ) (t : Bool) → is_at (key_cmp key) other ≡ t → cond t (Some (length keys)) (get key_cmp old other) ≡ Some n →
    slice_get (keys ++ key ∷ []) n ≡ Some other
at_key old new keys key h u other n true e f =
    let same = same_keys key other (is_equal (key_cmp key other) e) in
    let l : length keys ≡ n = cc in
    let P : ℕ → Type 0 = λ k. slice_get (keys ++ key ∷ []) k ≡ Some key in
    subst P l (slice_get-last keys key) ∙ ap Some same
at_key old new keys key h u other n false e f = slice_get-append keys (key ∷ []) n other (h.sound other n f)

-- an old key keeps its number
old_key : (old new : BTreeMap RunKey ℕ) (keys : List RunKey) (key : RunKey) → AreNumbers old keys → get key_cmp old key ≡ None → Updates key_cmp old new key (Some (length keys)) →
    (n : ℕ) (other : RunKey) → slice_get keys n ≡ Some other → (t : Bool) → is_at (key_cmp key) other ≡ t → get key_cmp new other ≡ Some n
old_key old new keys key h none u n other e true f =
    let same = same_keys key other (is_equal (key_cmp key other) f) in
    let has = h.complete n other e in
    let P : RunKey → Type 0 = λ k. get key_cmp old k ≡ None in
    let lacks = subst P same none in absurd (cc)
old_key old new keys key h none u n other e false f = u.2 other f ∙ h.complete n other e

pub numbers-push : (old new : BTreeMap RunKey ℕ) (keys : List RunKey) (key : RunKey) → AreNumbers old keys → get key_cmp old key ≡ None →
    Updates key_cmp old new key (Some (length keys)) → AreNumbers new (keys ++ key ∷ [])
numbers-push old new keys key h none u = record {
  sound = λ other n e. at_key old new keys key h u other n (is_at (key_cmp key) other) refl (sym (u.0 other) ∙ e);
  complete = λ n other e. elim (push_cases keys key n other e) [
    | inl was ↦ old_key old new keys key h none u n other was (is_at (key_cmp key) other) refl
    | inr now ↦
        let P : RunKey → Type 0 = λ k. get key_cmp new k ≡ Some n in
        subst P (sym now.1) (u.1 ∙ ap Some (sym now.0))
  ];
}

-- one connection more
numbers_of-push : (old new : List RunKey) (list : List Connection) (numbers : List ℕ) (c : Connection) (n : ℕ) → AreNumbersOf old list numbers → Extends old new →
    slice_get new n ≡ Some c.key → AreNumbersOf new (list ++ c ∷ []) (numbers ++ n ∷ [])
numbers_of-push old new list numbers c n h grows e = record {
  same_length = length_push numbers n ∙ ap (λ k. k + 1) h.same_length ∙ sym (length_push list c);
  is_number = λ k x f. elim (push_cases list c k x f) [
    | inl was ↦ let r = h.is_number k x was in (r.0, slice_get-append numbers (n ∷ []) k r.0 r.1, grows r.0 x.key r.2)
    | inr now ↦
        let P : ℕ → Type 0 = λ m. slice_get (numbers ++ n ∷ []) m ≡ Some n in
        let Q : Connection → Type 0 = λ y. slice_get new n ≡ Some y.key in
        (n, subst P (h.same_length ∙ sym now.0) (slice_get-last numbers n), subst Q (sym now.1) e)
  ];
}

pub numbers_of-more : (old new : List RunKey) (list : List Connection) (i : ℕ) (numbers pushed : List ℕ) (c : Connection) (n : ℕ) → i < length list → c ≡ get_or list i c →
    AreNumbersOf old (take i list) numbers → Extends old new → slice_get new n ≡ Some c.key → pushed ≡ numbers ++ n ∷ [] → AreNumbersOf new (take (i + 1) list) pushed
numbers_of-more old new list i numbers pushed c n l at h grows e p =
    let P : List Connection → Type 0 = λ cs. AreNumbersOf new cs pushed in
    let Q : List ℕ → Type 0 = λ ns. AreNumbersOf new (take i list ++ c ∷ []) ns in
    let more = take_more list i c l ∙ ap (λ (x : Connection). take i list ++ x ∷ []) (sym at) in
    subst P (sym more) (subst Q (sym p) (numbers_of-push old new (take i list) numbers c n h grows e))
