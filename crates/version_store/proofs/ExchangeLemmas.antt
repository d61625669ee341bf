-- Room for the lists of a patch, and the lists in their places.
use Rattle.std.proofs.Common.{◌≡◌, ◌⊎◌, ◌∙◌, inl, inr, ℕ, ◌<◌, List, [], ◌∷◌, arith, length, true, false, cond, Option, Some, None, Result, Ok, Err, refl, sym, ap, ap₂, subst}
use Rattle.std.specs.Prelude.{◌↔◌, IsSome, OnErr, OnOk, is_some}
use Rattle.std.specs.BTreeMap.{BTreeMap, Updates}
use Rattle.std.specs.Cmp.Lexicographic.{slice_cmp}
use Rattle.std.specs.Map.{lookup}
use Rattle.std.specs.Ordering.{nat_cmp}
use Rattle.version_store.specs.Filed.{AreAlike, HasListsOf, IsSomeAt, list_or, listed, spots_at, spots_over}
use Rattle.version_store.specs.declared.spots.Spot.{Spot}
use Rattle.version_store.proofs.FiledLemmas.{put_has, put_stays, same_from_tied, tied}
use Rattle.version_store.proofs.FurtherLemmas.{by_bool}

none_from : (o : Option (List Spot)) → is_some o ≡ false → o ≡ None
none_from None e = refl
none_from (Some s) e = absurd (cc)

-- an empty list is put where there was none
pub empty_put : (label made : List ℕ) (spots : List Spot) (old new : BTreeMap (List ℕ) (List Spot)) → made ≡ label → spots ≡ [] → is_some (listed old label) ≡ false
    → ((q : List ℕ) → listed new q ≡ cond (tied made q) (Some spots) (listed old q)) → AreAlike old new
empty_put label made spots old new is none lacks puts text =
    by_bool (spots_at new text ≡ spots_at old text) (tied made text)
    (λ tie.
    let same : label ≡ text = sym is ∙ same_from_tied made text tie in
    ap (list_or []) (puts text ∙ ap (λ b. cond b (Some spots) (listed old text)) tie) ∙ none
    ∙ sym (ap (λ t. spots_at old t) (sym same) ∙ ap (list_or []) (none_from (listed old label) lacks)))
    (λ apart. ap (list_or []) (puts text ∙ ap (λ b. cond b (Some spots) (listed old text)) apart))

pub alike_itself : (filed : BTreeMap (List ℕ) (List Spot)) → AreAlike filed filed
alike_itself filed text = refl

pub alike_then : (a b c : BTreeMap (List ℕ) (List Spot)) → AreAlike a b → AreAlike b c → AreAlike a c
alike_then a b c f g text = g text ∙ f text

-- each label of the patch is among those that are left, or there is a list at it
abbrev pub HasSoFar : BTreeMap (List ℕ) (List Spot) → List (List ℕ × List Spot) → BTreeMap (List ℕ) (List Spot) → Type 0
HasSoFar patch left filed = (text : List ℕ) → IsSomeAt patch text → IsSome (lookup (tied text) left) ⊎ IsSomeAt filed text

pub none_so_far : (patch filed : BTreeMap (List ℕ) (List Spot)) (left : List (List ℕ × List Spot)) → left ≡ patch.entries → HasSoFar patch left filed
none_so_far patch filed left all text has = inl (subst (λ es. IsSome (lookup (tied text) es)) (sym all) has)

-- one label more
pub one_so_far : (patch old new : BTreeMap (List ℕ) (List Spot)) (left rest : List (List ℕ × List Spot)) (label : List ℕ) (spots : List Spot) → left ≡ (label, spots) ∷ rest → HasListsOf old new → IsSomeAt new label
    → HasSoFar patch left old → HasSoFar patch rest new
one_so_far patch old new left rest label spots first stay has so text there = elim (so text there) [
  | inr had ↦ inr (stay text had)
  | inl still ↦
      let among : IsSome (cond (tied text label) (Some spots) (lookup (tied text) rest)) = subst (λ es. IsSome (lookup (tied text) es)) first still in
      by_bool (IsSome (lookup (tied text) rest) ⊎ IsSomeAt new text) (tied text label)
      (λ tie. inr (subst (IsSomeAt new) (sym (same_from_tied text label tie)) has))
      (λ apart. inl (subst IsSome (ap (λ b. cond b (Some spots) (lookup (tied text) rest)) apart) among))
]

pub all_so_far : (patch filed : BTreeMap (List ℕ) (List Spot)) (left : List (List ℕ × List Spot)) → left ≡ [] → HasSoFar patch left filed → HasListsOf patch filed
all_so_far patch filed left none so text there = elim (so text there) [
  | inr has ↦ has
  | inl still ↦ absurd (let f : false ≡ true = subst (λ es. IsSome (lookup (tied text) es)) none still in cc)
]

-- what is left of a patch over the lists as they are is the whole patch over those of before
pub record IsPutSoFar (whole first left filed : BTreeMap (List ℕ) (List Spot)) : Type 0 where
  pub labels : HasListsOf left filed
  pub same : (text : List ℕ) → spots_over left filed text ≡ spots_over whole first text

pub none_put : (whole first : BTreeMap (List ℕ) (List Spot)) → HasListsOf whole first → IsPutSoFar whole first whole first
none_put whole first labels = record { labels = labels; same = λ text. refl }

put_in : {T E : Type 0} (r : Result T E) (label : List ℕ) (spots : List Spot) (old new : BTreeMap (List ℕ) (List Spot)) → OnOk r (Updates (slice_cmp nat_cmp) old new label (Some spots))
    → OnErr r (listed old label ≡ None) → IsSomeAt old label → (q : List ℕ) → listed new q ≡ cond (tied label q) (Some spots) (listed old q)
put_in (Ok x) label spots old new puts absent has q = puts.0 q
put_in (Err e) label spots old new puts absent has q = absurd (let f : false ≡ true = subst IsSome absent has in cc)

-- one list more
pub one_put : {T E : Type 0} (r : Result T E) (whole first left rest old new : BTreeMap (List ℕ) (List Spot)) (label : List ℕ) (spots : List Spot) → listed left label ≡ Some spots
    → ((q : List ℕ) → listed rest q ≡ cond (tied label q) None (listed left q)) → OnOk r (Updates (slice_cmp nat_cmp) old new label (Some spots)) → OnErr r (listed old label ≡ None)
    → IsPutSoFar whole first left old → IsPutSoFar whole first rest new
one_put r whole first left rest old new label spots was out put absent so = record { labels = labels; same = λ text. over text ∙ so.same text } where
  puts : (q : List ℕ) → listed new q ≡ cond (tied label q) (Some spots) (listed old q)
  puts = put_in r label spots old new put absent (so.labels label (subst IsSome (sym was) refl))

  labels : HasListsOf rest new
  labels text has = by_bool (IsSomeAt new text) (tied label text)
      (λ tie. put_has label text spots old new puts (same_from_tied label text tie))
      (λ apart. put_stays label spots old new puts text (so.labels text (subst IsSome (out text ∙ ap (λ b. cond b None (listed left text)) apart) has)))

  over : (text : List ℕ) → spots_over rest new text ≡ spots_over left old text
  over text = by_bool (spots_over rest new text ≡ spots_over left old text) (tied label text)
      (λ tie.
      let same : label ≡ text = same_from_tied label text tie in
      ap₂ (λ o p. list_or (list_or [] o) p) (puts text ∙ ap (λ b. cond b (Some spots) (listed old text)) tie) (out text ∙ ap (λ b. cond b None (listed left text)) tie)
      ∙ sym (ap (list_or (spots_at old text)) (ap (listed left) (sym same) ∙ was)))
      (λ apart.
      ap₂ (λ o p. list_or (list_or [] o) p) (puts text ∙ ap (λ b. cond b (Some spots) (listed old text)) apart) (out text ∙ ap (λ b. cond b None (listed left text)) apart))

no_items : {X : Type 0} (list : List X) → (0 < length list → ⊥) → list ≡ []
no_items [] none = refl
no_items (x ∷ list) none = absurd (none (omega arith))

-- where nothing is taken out first, nothing is left
pub none_left : {X Y : Type 0} (list : List X) (first : Option Y) → IsSome first ↔ (0 < length list) → first ≡ None → list ≡ []
none_left list first there none = no_items list (λ some. let f : false ≡ true = subst IsSome none (there.1 some) in cc)

-- after the last list
pub all_put : (whole first left filed : BTreeMap (List ℕ) (List Spot)) → left.entries ≡ [] → IsPutSoFar whole first left filed → (text : List ℕ) → spots_at filed text ≡ spots_over whole first text
all_put whole first left filed none so text = sym (ap (λ es. list_or (spots_at filed text) (lookup (tied text) es)) none) ∙ so.same text
