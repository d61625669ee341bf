-- The keys of pages: when two are one, and what that says of the names.
use Rattle.std.proofs.Common.{◌≡◌, ℕ, ◌&&◌, Bool, true, false, eqb, eqb-true, List, [], ◌∷◌, map, refl, sym, ap, ◌∙◌}
use Rattle.std.specs.List.{AllByRecursion, IsDistinct}
use Rattle.std.specs.Map.{IsKeyTest, keys_of}
use Rattle.std.proofs.lemmas.List.Elements.{All-head, All-tail}
use Rattle.lc_model.specs.declared.page.PageName.{PageName}
use Rattle.page_json.specs.declared.page.Page.{Page}
use Rattle.page_client.specs.Inside.{AreKeyed, key_of}
use Rattle.page_client.specs.Kept.{has_name, is_same}
use Rattle.page_client.specs.contracts.cache.KeyPartialEq.TheImpl.{eq-value}
use Rattle.page_client.specs.declared.cache.Key.{Key}
use Rattle.page_client.proofs.EntriesLemmas.{IsKeyed, values}

abbrev pub same_keys : Key → Key → Bool
same_keys = eq-value.it

abbrev pub key_of_page : Page → Key
key_of_page page = key_of page.name

pub both : (a b x y : ℕ) → (eqb a x && eqb b y) ≡ true → (a ≡ x) × (b ≡ y)
both a b x y = (elim (eqb a x) as (λ v. eqb a x ≡ v → (v && eqb b y) ≡ true → (a ≡ x) × (b ≡ y)) [
  | true ↦ λ e h. (eqb-true a x e, eqb-true b y h)
  | false ↦ λ e h. cc
]) refl

pub key_tests : (key : Key) → IsKeyTest same_keys (same_keys key)
key_tests key x y h = let e = both key.version key.departs x.version x.departs h in rw (e.0, e.1) refl

pub agree : (name : PageName) (page : Page) → same_keys (key_of name) (key_of_page page) ≡ has_name name page
agree name page = refl

apart : (e : Key × Page) (es : List (Key × Page)) → IsKeyed key_of_page e → AreKeyed es → AllByRecursion (λ (j : Key). same_keys e.0 j ≡ false) (keys_of es)
    → AllByRecursion (λ (name : PageName). is_same e.1.name name ≡ false) (map (λ (page : Page). page.name) (values key_of_page es))
apart e [] h all far = tt
apart e (f ∷ es) h all far =
    let one : e.0 ≡ key_of_page e.1 = h in
    let two : f.0 ≡ key_of_page f.1 = All-head (IsKeyed key_of_page) f es all in
    let here : same_keys (key_of_page e.1) (key_of_page f.1) ≡ false = ap (λ (k : Key). same_keys k (key_of_page f.1)) (sym one) ∙ ap (same_keys e.0) (sym two) ∙ far.0 in
    (here, apart e es h (All-tail (IsKeyed key_of_page) f es all) far.1)

pub IsDistinct-names : (es : List (Key × Page)) → AreKeyed es → IsDistinct same_keys (keys_of es) → IsDistinct is_same (map (λ (page : Page). page.name) (values key_of_page es))
unfolding IsDistinct
IsDistinct-names [] all far = tt
IsDistinct-names (e ∷ es) all far =
    (apart e es (All-head (IsKeyed key_of_page) e es all) (All-tail (IsKeyed key_of_page) e es all) far.0, IsDistinct-names es (All-tail (IsKeyed key_of_page) e es all) far.1)

pub same_true : (j k : Key) → same_keys j k ≡ true → j ≡ k
same_true j k h =
    let e = both j.version j.departs k.version k.departs h in
    let of : ℕ → ℕ → Key = λ version departs. record { version = version; departs = departs } in
    ap (λ (v : ℕ). of v j.departs) e.0 ∙ ap (of k.version) e.1
