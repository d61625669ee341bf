-- Lists of spots by texts: one put, some added, and a patch over the others.
use Rattle.std.proofs.Common.{◌≡◌, ◌∙◌, inl, inr, ℕ, suc, ◌+◌, ◌<◌, List, [], ◌∷◌, ◌++◌, arith, length, get_or, map, take, filter, Bool, true, false, cond, Option, Some, None, option_map, refl, sym, ap, ap₂, subst}
use Rattle.std.specs.Prelude.{IsSome, if◌then◌else◌, is_some}
use Rattle.std.specs.BTreeMap.{BTreeMap}
use Rattle.std.specs.Cmp.Lexicographic.{slice_cmp, texts_ties}
use Rattle.std.specs.List.{All, Contains}
use Rattle.std.specs.Map.{lookup}
use Rattle.std.specs.Ordering.{is_eq, nat_cmp}
use Rattle.std.proofs.lemmas.Bool.{not-false}
use Rattle.std.proofs.lemmas.List.{append-nil, append_assoc, map-append, take_more}
use Rattle.std.proofs.lemmas.List.Elements.{Contains-push_cases, filter-append}
use Rattle.std.proofs.lemmas.Slice.Eq.{bytes_eq-Decides}
use Rattle.lc_model.specs.Change.{is_same_id}
use Rattle.lc_model.specs.declared.date.ServiceDate.{ServiceDate}
use Rattle.lc_model.proofs.ListLemmas.{Contains-here, Contains-nil, Contains-there}
use Rattle.lc_model.specs.Versions.History.{filled, filled_news}
use Rattle.lc_model.specs.Versions.News.{EntitySaid, TripSaid}
use Rattle.version_store.specs.Filed.{ArePart, HasBy, HasListsBy, HasListsOf, IsSomeAt, PushesAllAt, PushesAt, TakesOut, is_by, is_staying, list_or, listed, spots_at, spots_by, spots_over, stays, stays_at, text_by, trip_in}
use Rattle.version_store.specs.Kept.{entity_said}
use Rattle.version_store.specs.Spots.{IsAtSpot, said_in}
use Rattle.version_store.specs.declared.filed.By.{By}
use Rattle.version_store.specs.declared.filed.By.TheVariants.{Id, Trip}
use Rattle.version_store.specs.declared.kept.Marked.{Marked}
use Rattle.version_store.specs.declared.spots.Spot.{Spot}
use Rattle.version_store.specs.declared.store.Admission.{Admission}
use Rattle.version_store.proofs.FurtherLemmas.{by_bool}
use Rattle.version_store.proofs.KeptLemmas.{same_id_back}

-- ---- texts that are one

abbrev pub tied : List ℕ → List ℕ → Bool
tied a b = is_eq (slice_cmp nat_cmp a b)

pub same_from_tied : (a b : List ℕ) → tied a b ≡ true → a ≡ b
same_from_tied a b e = (bytes_eq-Decides a b).0 (texts_ties a b ∙ e)

pub tied_from_same : (a b : List ℕ) → a ≡ b → tied a b ≡ true
tied_from_same a b e = sym (texts_ties a b) ∙ (bytes_eq-Decides a b).1 e

pub same_id_from_same : (a b : List ℕ) → a ≡ b → is_same_id a b ≡ true
same_id_from_same a b e = (bytes_eq-Decides a b).1 e

pub same_from_same_id : (a b : List ℕ) → is_same_id a b ≡ true → a ≡ b
same_from_same_id a b e = (bytes_eq-Decides a b).0 e

-- ---- one list

-- one spot more
pub staying_more : (p : Spot → Bool) (spots : List Spot) (i : ℕ) (spot : Spot) (old new : List Spot) → i < length spots → spot ≡ get_or spots i spot → old ≡ filter p (take i spots) → new ≡ old ++ filter p (spot ∷ []) → new ≡ filter p (take (i + 1) spots)
staying_more p spots i spot old new inside is are pushed =
    pushed ∙ ap (λ v. v ++ filter p (spot ∷ [])) are ∙ sym (filter-append p (take i spots) (spot ∷ [])) ∙ ap (filter p) (sym (take_more spots i spot inside ∙ ap (λ x. take i spots ++ x ∷ []) (sym is)))

-- the spots that stay are those of the entities that stay
pub staying_said : (admitted : List Admission) (out : List ℕ → Bool) (spots : List Spot) (entities : List EntitySaid) → map (said_in admitted) spots ≡ map Some entities
    → map (said_in admitted) (filter (stays_at admitted out) spots) ≡ map Some (filter (stays out) entities)
staying_said admitted out [] [] e = refl
staying_said admitted out [] (y ∷ entities) e = absurd (cc)
staying_said admitted out (x ∷ spots) [] e = absurd (cc)
staying_said admitted out (x ∷ spots) (y ∷ entities) e =
    let head : said_in admitted x ≡ Some y = cc in
    let tail : map (said_in admitted) spots ≡ map Some entities = cc in
    one (stays out y) head (ap (is_staying out) head) refl (staying_said admitted out spots entities tail) where
      one : (b : Bool) → said_in admitted x ≡ Some y → stays_at admitted out x ≡ stays out y → stays out y ≡ b
          → map (said_in admitted) (filter (stays_at admitted out) spots) ≡ map Some (filter (stays out) entities)
          → map (said_in admitted) (cond (stays_at admitted out x) (x ∷ filter (stays_at admitted out) spots) (filter (stays_at admitted out) spots))
          ≡ map Some (cond (stays out y) (y ∷ filter (stays out) entities) (filter (stays out) entities))
      one true head same is rest =
          ap (λ b. map (said_in admitted) (cond b (x ∷ filter (stays_at admitted out) spots) (filter (stays_at admitted out) spots))) (same ∙ is)
          ∙ ap₂ (λ a b. a ∷ b) head rest
          ∙ sym (ap (λ b. map Some (cond b (y ∷ filter (stays out) entities) (filter (stays out) entities))) is)
      one false head same is rest =
          ap (λ b. map (said_in admitted) (cond b (x ∷ filter (stays_at admitted out) spots) (filter (stays_at admitted out) spots))) (same ∙ is)
          ∙ rest
          ∙ sym (ap (λ b. map Some (cond b (y ∷ filter (stays out) entities) (filter (stays out) entities))) is)

trip_filled : (date : ServiceDate) (news : Option TripSaid) → trip_in (option_map (filled_news date) news) ≡ trip_in news
trip_filled date None = refl
trip_filled date (Some news) = refl

-- the date of news is nothing to their text
pub text_filled : (by : By) (date : ServiceDate) (e : EntitySaid) → text_by by (filled date e) ≡ text_by by e
text_filled Id date e = refl
text_filled Trip date e = trip_filled date e.news

-- ---- a list more

pub some_at : (filed : BTreeMap (List ℕ) (List Spot)) (label text : List ℕ) → label ≡ text → is_some (listed filed label) ≡ true → IsSomeAt filed text
some_at filed label text same e = subst (IsSomeAt filed) same e

-- in an empty patch there is nothing
pub no_part : (by : By) (admitted : List Admission) (out : List ℕ → Bool) (entities : List EntitySaid) (patch : BTreeMap (List ℕ) (List Spot)) → patch.entries ≡ [] → ArePart by admitted out entities patch
no_part by admitted out entities patch none text spots there = absurd (let f : None ≡ Some spots = sym (ap (lookup (tied text)) none) ∙ there in cc)

pub nothing_at : (filed : BTreeMap (List ℕ) (List Spot)) → filed.entries ≡ [] → (text : List ℕ) → spots_at filed text ≡ []
nothing_at filed none text = ap (λ es. list_or [] (lookup (tied text) es)) none

pub no_labels : (by : By) (filed : BTreeMap (List ℕ) (List Spot)) → HasListsBy by [] filed
no_labels by filed e there = absurd (Contains-nil e there)

-- one list put
pub part_put : (by : By) (admitted : List Admission) (out : List ℕ → Bool) (entities : List EntitySaid) (label : List ℕ) (kept : List Spot) (old new : BTreeMap (List ℕ) (List Spot))
    → ((q : List ℕ) → listed new q ≡ cond (tied label q) (Some kept) (listed old q)) → map (said_in admitted) kept ≡ map Some (filter (stays out) (filter (is_by by label) entities))
    → ArePart by admitted out entities old → ArePart by admitted out entities new
part_put by admitted out entities label kept old new puts said part text spots there =
    by_bool (map (said_in admitted) spots ≡ map Some (filter (stays out) (filter (is_by by text) entities))) (tied label text)
    (λ tie.
    let same : label ≡ text = same_from_tied label text tie in
    let e : Some kept ≡ Some spots = sym (puts text ∙ ap (λ b. cond b (Some kept) (listed old text)) tie) ∙ there in
    let one : kept ≡ spots = cc in
    ap (map (said_in admitted)) (sym one) ∙ said ∙ ap (λ t. map Some (filter (stays out) (filter (is_by by t) entities))) same)
    (λ apart. part text spots (sym (puts text ∙ ap (λ b. cond b (Some kept) (listed old text)) apart) ∙ there))

some_put : (o p : Option (List Spot)) (b : Bool) → IsSome o → IsSome p → IsSome (cond b o p)
some_put o p true f g = f
some_put o p false f g = g

pub put_stays : (label : List ℕ) (kept : List Spot) (old new : BTreeMap (List ℕ) (List Spot)) → ((q : List ℕ) → listed new q ≡ cond (tied label q) (Some kept) (listed old q)) → HasListsOf old new
put_stays label kept old new puts text had = subst IsSome (sym (puts text)) (some_put (Some kept) (listed old text) (tied label text) refl had)

pub put_has : (label text : List ℕ) (kept : List Spot) (old new : BTreeMap (List ℕ) (List Spot)) → ((q : List ℕ) → listed new q ≡ cond (tied label q) (Some kept) (listed old q)) → label ≡ text → IsSomeAt new text
put_has label text kept old new puts same = subst IsSome (sym (puts text ∙ ap (λ b. cond b (Some kept) (listed old text)) (tied_from_same label text same))) refl

-- one entity more has its label
pub labels_more : (by : By) (touched : List Marked) (i : ℕ) (marked : Marked) (text : List ℕ) (old new : BTreeMap (List ℕ) (List Spot)) → i < length touched → marked ≡ get_or touched i marked → text ≡ text_by by marked.entity.now
    → HasListsOf old new → IsSomeAt new text → HasListsBy by (map entity_said (take i touched)) old → HasListsBy by (map entity_said (take (i + 1) touched)) new
labels_more by touched i marked text old new inside is of stay has so = λ e there.
    elim (Contains-push_cases (map entity_said (take i touched)) (entity_said marked) e (subst (λ (v : List EntitySaid). Contains v e) (taken touched i marked inside is) there)) [
      | inl before ↦ stay (text_by by e) (so e before)
      | inr same ↦ subst (IsSomeAt new) (of ∙ sym (text_filled by marked.spot.date marked.entity.now) ∙ ap (text_by by) same) has
    ] where
      taken : (touched : List Marked) (i : ℕ) (marked : Marked) → i < length touched → marked ≡ get_or touched i marked → map entity_said (take (i + 1) touched) ≡ map entity_said (take i touched) ++ entity_said marked ∷ []
      taken touched i marked inside is = ap (map entity_said) (take_more touched i marked inside ∙ ap (λ m. take i touched ++ m ∷ []) (sym is)) ∙ map-append entity_said (take i touched) (marked ∷ [])

-- ---- spots added

kept_none : (o : Option (List Spot)) → o ≡ option_map (λ (s : List Spot). s ++ []) o
kept_none None = refl
kept_none (Some s) = ap Some (sym (append-nil s))

-- where there is no list at the label, nothing is added
pub none_added : (label text : List ℕ) (spot : Spot) (old new : BTreeMap (List ℕ) (List Spot)) → label ≡ text → listed old label ≡ None → ((q : List ℕ) → listed new q ≡ cond (tied label q) None (listed old q)) → PushesAt text spot old new
none_added label text spot old new is none out other =
    by_bool (listed new other ≡ option_map (λ (s : List Spot). s ++ (if is_same_id other text then spot ∷ [] else [])) (listed old other)) (tied label other)
    (λ tie.
    let here : listed old other ≡ None = ap (listed old) (sym (same_from_tied label other tie)) ∙ none in
    out other ∙ ap (λ b. cond b None (listed old other)) tie ∙ sym (ap (option_map (λ (s : List Spot). s ++ (if is_same_id other text then spot ∷ [] else []))) here))
    (λ apart.
    let id : is_same_id other text ≡ false = same_id_back other text ∙ ap (λ t. is_same_id t other) (sym is) ∙ texts_ties label other ∙ apart in
    out other ∙ ap (λ b. cond b None (listed old other)) apart ∙ kept_none (listed old other)
    ∙ ap (λ b. option_map (λ (s : List Spot). s ++ (if b then spot ∷ [] else [])) (listed old other)) (sym id))

-- the list at the label is put back with a spot more
pub one_added : (label text : List ℕ) (spot : Spot) (spots list : List Spot) (old mid new : BTreeMap (List ℕ) (List Spot)) → label ≡ text → list ≡ spots ++ spot ∷ [] → listed old label ≡ Some spots
    → ((q : List ℕ) → listed mid q ≡ cond (tied label q) None (listed old q)) → ((q : List ℕ) → listed new q ≡ cond (tied label q) (Some list) (listed mid q)) → PushesAt text spot old new
one_added label text spot spots list old mid new is pushed was out puts other =
    by_bool (listed new other ≡ option_map (λ (s : List Spot). s ++ (if is_same_id other text then spot ∷ [] else [])) (listed old other)) (tied label other)
    (λ tie.
    let same : label ≡ other = same_from_tied label other tie in
    let id : is_same_id other text ≡ true = same_id_from_same other text (sym same ∙ is) in
    let here : listed old other ≡ Some spots = ap (listed old) (sym same) ∙ was in
    puts other ∙ ap (λ b. cond b (Some list) (listed mid other)) tie ∙ ap Some pushed
    ∙ sym (ap₂ (λ b o. option_map (λ (s : List Spot). s ++ (if b then spot ∷ [] else [])) o) id here))
    (λ apart.
    let id : is_same_id other text ≡ false = same_id_back other text ∙ ap (λ t. is_same_id t other) (sym is) ∙ texts_ties label other ∙ apart in
    puts other ∙ ap (λ b. cond b (Some list) (listed mid other)) apart ∙ out other ∙ ap (λ b. cond b None (listed old other)) apart ∙ kept_none (listed old other)
    ∙ ap (λ b. option_map (λ (s : List Spot). s ++ (if b then spot ∷ [] else [])) (listed old other)) (sym id))

added_twice : (a b : List Spot) (o : Option (List Spot)) → option_map (λ (s : List Spot). s ++ b) (option_map (λ (s : List Spot). s ++ a) o) ≡ option_map (λ (s : List Spot). s ++ (a ++ b)) o
added_twice a b None = refl
added_twice a b (Some s) = ap Some (append_assoc s a b)

one_spot : (spot : Spot) (marked : Marked) (b c : Bool) → b ≡ c → marked.spot ≡ spot → map (λ (m : Marked). m.spot) (cond b (marked ∷ []) []) ≡ (if c then spot ∷ [] else [])
one_spot spot marked true c e f = ap (λ (s : Spot). s ∷ []) f ∙ ap (λ b. if b then spot ∷ [] else []) e
one_spot spot marked false c e f = ap (λ b. if b then spot ∷ [] else []) e

spots_taken : (by : By) (text : List ℕ) (own : List Marked) (i : ℕ) (marked : Marked) → i < length own → marked ≡ get_or own i marked
    → spots_by by text (take (i + 1) own) ≡ spots_by by text (take i own) ++ (if is_same_id text (text_by by marked.entity.now) then marked.spot ∷ [] else [])
spots_taken by text own i marked inside is =
    let p : Marked → Bool = λ m. is_by by text (entity_said m) in
    ap (spots_by by text) (take_more own i marked inside ∙ ap (λ m. take i own ++ m ∷ []) (sym is))
    ∙ ap (map (λ (m : Marked). m.spot)) (filter-append p (take i own) (marked ∷ []))
    ∙ map-append (λ (m : Marked). m.spot) (filter p (take i own)) (filter p (marked ∷ []))
    ∙ ap (λ v. spots_by by text (take i own) ++ v) (one_spot marked.spot marked (p marked) (is_same_id text (text_by by marked.entity.now)) (ap (is_same_id text) (text_filled by marked.spot.date marked.entity.now)) refl)

pub none_pushed : (by : By) (old : BTreeMap (List ℕ) (List Spot)) → PushesAllAt by [] old old
none_pushed by old text = kept_none (listed old text)

-- the spot of one entity more
pub pushed_more : (by : By) (own : List Marked) (i : ℕ) (marked : Marked) (label : List ℕ) (first old new : BTreeMap (List ℕ) (List Spot)) → i < length own → marked ≡ get_or own i marked → label ≡ text_by by marked.entity.now
    → PushesAllAt by (take i own) first old → PushesAt label marked.spot old new → PushesAllAt by (take (i + 1) own) first new
pushed_more by own i marked label first old new inside is of so pushes text =
    let more = if is_same_id text label then marked.spot ∷ [] else [] in
    pushes text ∙ ap (option_map (λ (s : List Spot). s ++ more)) (so text) ∙ added_twice (spots_by by text (take i own)) more (listed first text)
    ∙ ap (λ v. option_map (λ (s : List Spot). s ++ v) (listed first text))
    (ap (λ t. spots_by by text (take i own) ++ (if is_same_id text t then marked.spot ∷ [] else [])) of ∙ sym (spots_taken by text own i marked inside is))

-- ---- a patch over the others

one_side : {X : Type 0} (p : X → Bool) (x : X) (ys : List X) (c b : Bool) → p x ≡ b → filter p (cond c (x ∷ ys) ys) ≡ cond c (cond b (x ∷ filter p ys) (filter p ys)) (filter p ys)
one_side p x ys true b e = ap (λ v. cond v (x ∷ filter p ys) (filter p ys)) e
one_side p x ys false b e = refl

swap_sides : {X : Type 0} (x : X) (ps qs : List X) → ps ≡ qs → (b c : Bool) → cond c (cond b (x ∷ ps) ps) ps ≡ cond b (cond c (x ∷ qs) qs) qs
swap_sides x ps qs e true true = ap (λ v. x ∷ v) e
swap_sides x ps qs e true false = e
swap_sides x ps qs e false true = e
swap_sides x ps qs e false false = e

pub filters_swap : {X : Type 0} (p q : X → Bool) (xs : List X) → filter p (filter q xs) ≡ filter q (filter p xs)
filters_swap p q [] = refl
filters_swap p q (x ∷ xs) =
    one_side p x (filter q xs) (q x) (p x) refl ∙ swap_sides x (filter p (filter q xs)) (filter q (filter p xs)) (filters_swap p q xs) (p x) (q x)
    ∙ sym (one_side q x (filter p xs) (p x) (q x) refl)

own_one : (admitted : List Admission) (m : Marked) (b : Bool) (spots : List Spot) (said : List EntitySaid) → IsAtSpot admitted m → map (said_in admitted) spots ≡ map Some said → (rest : List Marked) → map (λ (m : Marked). m.spot) rest ≡ spots
    → map (said_in admitted) (map (λ (m : Marked). m.spot) (cond b (m ∷ rest) rest)) ≡ map Some (cond b (entity_said m ∷ said) said)
own_one admitted m true spots said at e rest f = ap₂ (λ a b. a ∷ b) at (ap (map (said_in admitted)) f ∙ e)
own_one admitted m false spots said at e rest f = ap (map (said_in admitted)) f ∙ e

-- the spots of a message's own entities of a text
own_said : (by : By) (admitted : List Admission) (text : List ℕ) (own : List Marked) → All (IsAtSpot admitted) own → map (said_in admitted) (spots_by by text own) ≡ map Some (filter (is_by by text) (map entity_said own))
own_said by admitted text [] at = refl
own_said by admitted text (m ∷ own) at =
    let p : Marked → Bool = λ m. is_by by text (entity_said m) in
    own_one admitted m (p m) (spots_by by text own) (filter (is_by by text) (map entity_said own)) (at 0 m (omega arith))
    (own_said by admitted text own (λ k d inside. at (suc k) d (omega (arith, inside)))) (filter p own) refl

none_of : (p : EntitySaid → Bool) (list : List EntitySaid) → ((e : EntitySaid) → Contains list e → p e ≡ true → ⊥) → filter p list ≡ []
none_of p [] so = refl
none_of p (e ∷ rest) so = one (p e) refl (none_of p rest (λ x there. so x (Contains-there e rest x there))) where
  one : (b : Bool) → p e ≡ b → filter p rest ≡ [] → cond (p e) (e ∷ filter p rest) (filter p rest) ≡ []
  one true f behind = absurd (so e (Contains-here e rest) f)
  one false f behind = ap (λ b. cond b (e ∷ filter p rest) (filter p rest)) f ∙ behind

all_of : (s p : EntitySaid → Bool) (list : List EntitySaid) → ((e : EntitySaid) → Contains list e → p e ≡ true → s e ≡ false → ⊥) → filter p list ≡ filter p (filter s list)
all_of s p [] so = refl
all_of s p (e ∷ rest) so = one (s e) (p e) refl refl (all_of s p rest (λ x there. so x (Contains-there e rest x there))) where
  one : (b c : Bool) → s e ≡ b → p e ≡ c → filter p rest ≡ filter p (filter s rest)
      → cond (p e) (e ∷ filter p rest) (filter p rest) ≡ filter p (cond (s e) (e ∷ filter s rest) (filter s rest))
  one true c f g behind = ap (λ v. cond (p e) (e ∷ v) v) behind ∙ sym (ap (λ b. filter p (cond b (e ∷ filter s rest) (filter s rest))) f)
  one false true f g behind = absurd (so e (Contains-here e rest) g f)
  one false false f g behind =
      ap (λ b. cond b (e ∷ filter p rest) (filter p rest)) g ∙ behind ∙ sym (ap (λ b. filter p (cond b (e ∷ filter s rest) (filter s rest))) f)

-- the lists that were begun and to which the own spots were added are those of what is in force afterwards
pub patch_has : (by : By) (admitted : List Admission) (out : List ℕ → Bool) (entities touched : List EntitySaid) (own : List Marked) (base mid patch : BTreeMap (List ℕ) (List Spot)) → HasBy by admitted (spots_at base) entities
    → All (IsAtSpot admitted) own → TakesOut out entities touched (map entity_said own) → HasListsBy by touched mid → ArePart by admitted out entities mid → PushesAllAt by own mid patch
    → HasBy by admitted (spots_over patch base) (filter (stays out) entities ++ map entity_said own)
patch_has by admitted out entities touched own base mid patch has at takes labels part pushes text = by_list (listed mid text) refl where
  joined : filter (is_by by text) (filter (stays out) entities ++ (map entity_said own)) ≡ filter (is_by by text) (filter (stays out) entities) ++ filter (is_by by text) (map entity_said own)
  joined = filter-append (is_by by text) (filter (stays out) entities) (map entity_said own)

  by_list : (o : Option (List Spot)) → listed mid text ≡ o → map (said_in admitted) (list_or (spots_at base text) (listed patch text)) ≡ map Some (filter (is_by by text) (filter (stays out) entities ++ (map entity_said own)))
  by_list (Some spots) is =
      ap (λ o. map (said_in admitted) (list_or (spots_at base text) o)) (pushes text ∙ ap (option_map (λ (s : List Spot). s ++ spots_by by text own)) is)
      ∙ map-append (said_in admitted) spots (spots_by by text own)
      ∙ ap₂ (λ a b. a ++ b) (part text spots is ∙ ap (map Some) (filters_swap (stays out) (is_by by text) entities)) (own_said by admitted text own at)
      ∙ sym (map-append Some (filter (is_by by text) (filter (stays out) entities)) (filter (is_by by text) (map entity_said own)))
      ∙ ap (map Some) (sym joined)
  by_list None is =
      let lacks : (e : EntitySaid) → Contains touched e → is_by by text e ≡ true → ⊥ = λ e there same.
      let some : IsSome (listed mid text) = subst (λ t. IsSome (listed mid t)) (sym (same_from_same_id text (text_by by e) same)) (labels e there) in
      let f : false ≡ true = subst IsSome is some in
      cc in
      let none_own : filter (is_by by text) (map entity_said own) ≡ [] = none_of (is_by by text) (map entity_said own) (λ e there same. lacks e (takes.begun e there) same) in
      let all_stay : filter (is_by by text) entities ≡ filter (is_by by text) (filter (stays out) entities) =
      all_of (stays out) (is_by by text) entities (λ e there same goes. lacks e (takes.gone e there (not-false (out e.id) goes)) same) in
      ap (λ o. map (said_in admitted) (list_or (spots_at base text) o)) (pushes text ∙ ap (option_map (λ (s : List Spot). s ++ spots_by by text own)) is)
      ∙ has text
      ∙ ap (map Some) (all_stay ∙ sym (append-nil (filter (is_by by text) (filter (stays out) entities))) ∙ ap (λ v. filter (is_by by text) (filter (stays out) entities) ++ v) (sym none_own) ∙ sym joined)
