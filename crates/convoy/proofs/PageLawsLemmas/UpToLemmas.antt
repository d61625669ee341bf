-- The pages up to the first one that reaches a bound.
use Rattle.std.proofs.Common.{◌≡◌, ℕ, ◌⊎◌, inl, inr, List, [], ◌∷◌, ◌++◌, Bool, true, false, cond, refl, ap, sym, subst, ◌∙◌}
use Rattle.lc_model.specs.Versions.Pages.{CutPage}
use Rattle.convoy.specs.PageLaws.Needed.{reaches, up_to_bound}
use Rattle.lc_model.specs.Connection.{last_departure}

-- the page's last departure is at the bound or later
abbrev pub is_last_by : ℕ → CutPage → Bool
is_last_by bound page = reaches bound (last_departure page.connections)

-- pages end with the first one that reaches the bound, or none is left
pub record EndsThere (bound : ℕ) (taken left : List CutPage) : Type 0 where
  pub goes_on : (before : List CutPage) (page next : CutPage) (behind : List CutPage) → taken ≡ before ++ page ∷ next ∷ behind → is_last_by bound page ≡ false
  pub ends : (left ≡ []) ⊎ ((before : List CutPage) × (page : CutPage) × (taken ≡ before ++ page ∷ []) × (is_last_by bound page ≡ true))

not_behind : (before : List CutPage) (page : CutPage) (more : List CutPage) → [] ≡ before ++ page ∷ more → ⊥
not_behind [] page more e = cc
not_behind (q ∷ before) page more e = cc

one_not_two : (p : CutPage) (before : List CutPage) (page next : CutPage) (behind : List CutPage) → p ∷ [] ≡ before ++ page ∷ next ∷ behind → ⊥
one_not_two p [] page next behind e = cc
one_not_two p (q ∷ before) page next behind e =
    let rest : [] ≡ before ++ page ∷ next ∷ behind = cc in
    not_behind before page (next ∷ behind) rest

takes_one : (bound : ℕ) (page : CutPage) (rest : List CutPage) → is_last_by bound page ≡ true → up_to_bound bound (page ∷ rest) ≡ page ∷ []
takes_one bound page rest there = ap (λ b. page ∷ cond b [] (up_to_bound bound rest)) there

takes_more : (bound : ℕ) (page : CutPage) (rest : List CutPage) → is_last_by bound page ≡ false → up_to_bound bound (page ∷ rest) ≡ page ∷ up_to_bound bound rest
takes_more bound page rest not_there = ap (λ b. page ∷ cond b [] (up_to_bound bound rest)) not_there

both_nothing : (b : Bool) (page : CutPage) → page ∷ cond b [] [] ≡ page ∷ []
both_nothing true page = refl
both_nothing false page = refl

end_of_one : (bound : ℕ) (p : CutPage) (before : List CutPage) (page : CutPage) → p ∷ [] ≡ before ++ page ∷ [] → is_last_by bound page ≡ true → is_last_by bound p ≡ true
end_of_one bound p [] page e there =
    let same : p ≡ page = cc in
    ap (is_last_by bound) same ∙ there
end_of_one bound p (q ∷ before) page e there =
    let rest : [] ≡ before ++ page ∷ [] = cc in
    absurd (not_behind before page [] rest)

-- what is left after a first page ends there, too
ends_behind : (bound : ℕ) (p q : CutPage) (more left : List CutPage) → EndsThere bound (p ∷ q ∷ more) left → EndsThere bound (q ∷ more) left
ends_behind bound p q more left there = record {
  goes_on = λ before page next behind e. there.goes_on (p ∷ before) page next behind (ap (λ pages. p ∷ pages) e);
  ends = elim there.ends [ inl nothing ↦ inl nothing | inr found ↦ inr (shifted found.0 found.1 found.2 found.3) ];
} where
  shifted : (before : List CutPage) (page : CutPage) → p ∷ q ∷ more ≡ before ++ page ∷ [] → is_last_by bound page ≡ true → (b : List CutPage) × (r : CutPage) × (q ∷ more ≡ b ++ r ∷ []) × (is_last_by bound r ≡ true)
  shifted [] page e there = (let nothing : q ∷ more ≡ [] = cc in absurd (cc))
  shifted (x ∷ before) page e there = (before, page, (let rest : q ∷ more ≡ before ++ page ∷ [] = cc in rest), there)

-- pages that end so are those up to the bound
pub up_to_taken : (bound : ℕ) (taken left : List CutPage) → EndsThere bound taken left → up_to_bound bound (taken ++ left) ≡ taken
up_to_taken bound [] left there =
    elim there.ends [ inl nothing ↦ ap (up_to_bound bound) nothing | inr found ↦ absurd (not_behind found.0 found.1 [] found.2) ]
up_to_taken bound (page ∷ []) left there =
    elim there.ends [
      | inl nothing ↦ (ap (λ l. up_to_bound bound (page ∷ l)) nothing ∙ both_nothing (is_last_by bound page) page)
      | inr found ↦ takes_one bound page left (end_of_one bound page found.0 found.1 found.2 found.3)
    ]
up_to_taken bound (page ∷ next ∷ more) left there =
    takes_more bound page (next ∷ more ++ left) (there.goes_on [] page next more refl)
    ∙ ap (λ pages. page ∷ pages) (up_to_taken bound (next ∷ more) left (ends_behind bound page next more left there))

-- what is left of pages after those up to the bound
pub record IsUpTo (bound : ℕ) (pages : List CutPage) : Type 0 where
  pub left : List CutPage
  pub are : pages ≡ up_to_bound bound pages ++ left
  pub there : EndsThere bound (up_to_bound bound pages) left

-- one more page before pages that end so, where it does not reach the bound
goes_before : (bound : ℕ) (p : CutPage) (taken left : List CutPage) → is_last_by bound p ≡ false → EndsThere bound taken left → EndsThere bound (p ∷ taken) left
goes_before bound p taken left not_there there = record {
  goes_on = passes;
  ends = elim there.ends [ inl nothing ↦ inl nothing | inr found ↦ inr (p ∷ found.0, found.1, ap (λ pages. p ∷ pages) found.2, found.3) ];
} where
  passes : (before : List CutPage) (page next : CutPage) (behind : List CutPage) → p ∷ taken ≡ before ++ page ∷ next ∷ behind → is_last_by bound page ≡ false
  passes [] page next behind e = (let same : page ≡ p = cc in ap (is_last_by bound) same ∙ not_there)
  passes (x ∷ before) page next behind e = there.goes_on before page next behind (let rest : taken ≡ before ++ page ∷ next ∷ behind = cc in rest)

is_either : (b : Bool) → (b ≡ true) ⊎ (b ≡ false)
is_either true = inl refl
is_either false = inr refl

pub is_up_to : (bound : ℕ) (pages : List CutPage) → IsUpTo bound pages
is_up_to bound [] = record {
  left = [];
  are = refl;
  there = record { goes_on = λ before page next behind e. absurd (not_behind before page (next ∷ behind) e); ends = inl refl };
}
is_up_to bound (page ∷ rest) =
    elim (is_either (is_last_by bound page)) [
      | inl there ↦
          (let one = takes_one bound page rest there in
          record {
            left = rest;
            are = ap (λ taken. taken ++ rest) (sym one);
            there = subst (λ taken. EndsThere bound taken rest) (sym one)
                (record { goes_on = λ before q next behind e. absurd (one_not_two page before q next behind e); ends = inr ([], page, refl, there) });
          })
      | inr not_there ↦
          (let more = takes_more bound page rest not_there in
          let onward = is_up_to bound rest in
          record {
            left = onward.left;
            are = ap (λ pages. page ∷ pages) onward.are ∙ ap (λ taken. taken ++ onward.left) (sym more);
            there = subst (λ taken. EndsThere bound taken onward.left) (sym more) (goes_before bound page (up_to_bound bound rest) onward.left not_there onward.there);
          })
    ]
