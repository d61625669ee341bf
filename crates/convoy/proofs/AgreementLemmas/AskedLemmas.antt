-- What is asked for, turn after turn, by the names of the cached pages.
use Rattle.std.proofs.Common.{◌≡◌, ℕ, ◌⊎◌, inl, inr, Bool, true, false, List, [], ◌∷◌, ◌++◌, Option, Some, None, refl, ap, ap₂, sym, subst, ◌∙◌}
use Rattle.std.specs.Prelude.{if◌then◌else◌}
use Rattle.std.proofs.lemmas.List.{append-nil, append_assoc}
use Rattle.lc_model.specs.declared.page.PageName.{PageName}
use Rattle.lc_model.specs.declared.query.Query.{Query}
use Rattle.page_json.specs.declared.page.Page.{Page}
use Rattle.page_client.specs.Kept.{Kept, page_named, with_put, with_used}
use Rattle.page_client.proofs.KeptLemmas.{named}
use Rattle.page_client.specs.Client.{AfterPage, TakesPage, shown}
use Rattle.page_client.specs.Shown.{Shown, is_off, want_of, wrong_gate}
use Rattle.page_client.specs.declared.client.Client.{Client}
use Rattle.page_client.specs.declared.fault.PeerFault.TheVariants.{GateWrong}
use Rattle.page_client.specs.declared.outcome.Outcome.{Outcome}
use Rattle.page_client.specs.declared.outcome.Outcome.TheVariants.{LinkFault, PeerWrong}
use Rattle.page_client.specs.declared.want.Want.{Want}
use Rattle.page_client.specs.declared.want.Want.TheVariants as wants
use Rattle.lc_world.specs.Sides.Side.{IsLater, IsValidSide, Side, has_version}
use Rattle.convoy.specs.ClientLaws.Fits.{FitsSide}
use Rattle.convoy.specs.ClientLaws.Steps.{KeepsVersion}
use Rattle.convoy.specs.ClientLaws.Wants.{AreWants, IsItsVersion}
use Rattle.convoy.proofs.ClientLawsLemmas.WantsLemmas.{no_reply_fails_a_test, wants_stay, wants_the_next}
use Rattle.convoy.specs.Agreement.Leaves.{AsksByNames, HasFault, NoneFailed, OneFailed}
use Rattle.convoy.specs.Agreement.Names.{asked_for, asked_of, names_after, names_of, names_then, names_with}
use Rattle.convoy.proofs.AgreementLemmas.AloneLemmas.{waits_at_first}
use Rattle.convoy.proofs.AgreementLemmas.NamesLemmas.{asked_of-append, lacked_is_asked, names_after-append, put_names, used_names, used_not_asked}

-- nothing was received or asked for
pub asks_nothing : (side : Side) (s : Shown) (kept : Kept) (own : List Want) → AsksByNames side s s kept kept own [] [] []
asks_nothing side s kept own = record { capacity = refl; names = refl; are = refl; not_kept = refl; how = inl (record { none = refl; before = λ fault. fault }) }

-- a cached page was received
pub asks_kept : (side : Side) (was is : Shown) (kept after : Kept) (own : List Want) (name : PageName) (page : Page) → page_named kept.pages name ≡ Some page →
    after ≡ record kept { pages = with_used kept.pages name } → ¬ HasFault is → AsksByNames side was is kept after own (wants.Page page.name ∷ []) [] []
asks_kept side was is kept after own name page holds used no_fault =
    let same = named kept.pages name page holds in
    let not_asked : asked_for (names_of kept.pages) (wants.Page page.name) ≡ [] =
    ap (λ (n : PageName). asked_for (names_of kept.pages) (wants.Page n)) same ∙ used_not_asked kept.pages name page holds in
    record {
      capacity = ap (λ (k : Kept). k.capacity) used;
      names = ap (λ (k : Kept). names_of k.pages) used ∙ used_names kept.capacity kept.pages name page holds ∙ ap (names_with kept.capacity (names_of kept.pages)) (sym same);
      are = ap (λ (l : List Want). l ++ []) (sym not_asked);
      not_kept = refl;
      how = inl (record { none = refl; before = λ fault. absurd (no_fault fault) });
    }

-- the time gate's reply or the stops document was received
pub asks_document : (side : Side) (was is : Shown) (kept after : Kept) (own : List Want) (want : Want) → after ≡ kept → asked_for (names_of kept.pages) want ≡ want ∷ [] →
    names_then kept.capacity (names_of kept.pages) want ≡ names_of kept.pages → ¬ HasFault is → AsksByNames side was is kept after own (want ∷ []) [] (want ∷ [])
asks_document side was is kept after own want same asked stays no_fault = record {
  capacity = ap (λ (k : Kept). k.capacity) same;
  names = ap (λ (k : Kept). names_of k.pages) same ∙ sym stays;
  are = ap (λ (l : List Want). l ++ []) (sym asked);
  not_kept = refl;
  how = inl (record { none = refl; before = λ fault. absurd (no_fault fault) });
}

-- a page was received that was not cached
pub asks_page : (side : Side) (was is : Shown) (kept after : Kept) (own : List Want) (page : Page) → page_named kept.pages page.name ≡ None → after ≡ record kept { pages = with_put kept page } →
    ¬ HasFault is → AsksByNames side was is kept after own (wants.Page page.name ∷ []) [] (wants.Page page.name ∷ [])
asks_page side was is kept after own page lacks put no_fault = record {
  capacity = ap (λ (k : Kept). k.capacity) put;
  names = ap (λ (k : Kept). names_of k.pages) put ∙ put_names kept page lacks;
  are = ap (λ (l : List Want). l ++ []) (sym (lacked_is_asked kept.pages page.name lacks));
  not_kept = refl;
  how = inl (record { none = refl; before = λ fault. absurd (no_fault fault) });
}

-- the exchange failed
pub asks_in_vain : (side : Side) (was is : Client) (kept after : Kept) (own : List Want) (want : Want) → IsValidSide side → FitsSide side was own → want_of (shown was).phase ≡ want →
    (want_of (shown was).phase ≡ wants.Finished → ⊥) → (shown was).outcome ≡ None → HasFault (shown is) → KeepsVersion (shown was) (shown is) → after ≡ kept →
    asked_for (names_of kept.pages) want ≡ want ∷ [] → AsksByNames side (shown was) (shown is) kept after own [] (want ∷ []) (want ∷ [])
asks_in_vain side was is kept after own want valid fits wants_it waits none fault keeps same not_kept = record {
  capacity = ap (λ (k : Kept). k.capacity) same;
  names = ap (λ (k : Kept). names_of k.pages) same;
  are = ap (λ (l : List Want). l ++ []) (sym not_kept);
  not_kept = ap (λ (k : Kept). asked_for (names_of k.pages) want ++ []) same ∙ ap (λ (l : List Want). l ++ []) not_kept;
  how = inr (record {
    waited = none;
    by_fault = fault;
    want = want;
    one = refl;
    gate = λ nothing. sym wants_it ∙ waits_at_first side was own was.phase fits.fits waits (sym (append-nil own) ∙ nothing);
    next = λ version all at are.
        let next = wants_the_next side was own all version valid fits (subst (λ (v : Option ℕ). IsItsVersion v version) (sym (sym keeps.version ∙ at)) refl)
        (subst (λ (q : Query). AreWants side version q all) keeps.query are) waits in
        (next.0, next.1 ∙ ap₂ (λ (l : List Want) (w : Want). l ++ w ∷ next.0) (sym (append-nil own)) wants_it);
  });
}

-- the time gate is wrong where it is said to be
gate_is_wrong : (page : Page) (leave : ℕ) (gate : Option (List ℕ)) (outcome : Outcome) → wrong_gate page leave gate ≡ Some outcome → (reply : List ℕ) × (outcome ≡ PeerWrong reply (GateWrong page))
gate_is_wrong page leave None outcome is = absurd (cc)
gate_is_wrong page leave (Some reply) outcome is =
    by_test (is_off leave page) is where
      by_test : (off : Bool) → (if off then Some (PeerWrong reply (GateWrong page)) else None) ≡ Some outcome → (reply : List ℕ) × (outcome ≡ PeerWrong reply (GateWrong page))
      by_test true e = let same : outcome ≡ PeerWrong reply (GateWrong page) = cc in (reply, same)
      by_test false e = absurd (cc)

-- a client that agrees with the side was sent to the right page
pub gate_was_right : (side : Side) (old new : Client) (given : List Want) (page : Page) → FitsSide side new given → TakesPage old page new → wrong_gate page (shown old).query.leave (shown old).gate ≡ None
gate_was_right side old new given page fits takes =
    by_outcome (wrong_gate page (shown old).query.leave (shown old).gate) refl takes where
      by_outcome : (outcome : Option Outcome) → wrong_gate page (shown old).query.leave (shown old).gate ≡ outcome → AfterPage old page outcome new →
          wrong_gate page (shown old).query.leave (shown old).gate ≡ None
      by_outcome None is after = is
      by_outcome (Some outcome) is after =
          let wrong = gate_is_wrong page (shown old).query.leave (shown old).gate outcome is in
          absurd (no_reply_fails_a_test side new given wrong.0 (GateWrong page) fits (ap (λ (s : Shown). s.outcome) after ∙ ap Some wrong.1))

-- who has no outcome had none
no_outcome_before : (was between : Option Outcome) → ((ended : Outcome) → was ≡ Some ended → between ≡ Some ended) → between ≡ None → was ≡ None
no_outcome_before None between stays none = refl
no_outcome_before (Some ended) between stays none = let some : between ≡ Some ended = stays ended refl in absurd (cc)

-- nothing happened to a client at its turn
pub record IsStill (was is : Shown) (given asked : List Want) : Type 0 where
  pub same : is ≡ was
  pub none_given : given ≡ []
  pub none_asked : asked ≡ []

-- at a later side what failed is still the next of the wants
pub failed_later : (mid left : Side) (was is : Shown) (all_given failed : List Want) → IsValidSide left → IsLater mid left → ((version : ℕ) → is.version ≡ Some version → has_version mid version ≡ true) →
    OneFailed mid was is all_given failed → OneFailed left was is all_given failed
failed_later mid left was is all_given failed valid later has one = record {
  waited = one.waited;
  by_fault = one.by_fault;
  want = one.want;
  one = one.one;
  gate = one.gate;
  next = λ version all at are. one.next version all at ((wants_stay is.query all mid left version valid later (has version at)).1 are);
}

-- one thing after the other
module _ (mid left : Side) (was between is : Shown) (a b c : Kept) (own first second first_failed second_failed first_asked second_asked : List Want) (valid : IsValidSide left) (later : IsLater mid left)
    (has : (version : ℕ) → between.version ≡ Some version → has_version mid version ≡ true) (stays : (ended : Outcome) → was.outcome ≡ Some ended → between.outcome ≡ Some ended)
    (still : HasFault between → IsStill between is second second_asked) (one : AsksByNames mid was between a b own first first_failed first_asked)
    (two : AsksByNames left between is b c (own ++ first) second second_failed second_asked) where
  names_of_both : names_of c.pages ≡ names_after a.capacity (names_of a.pages) (first ++ second)
  names_of_both =
      two.names ∙ ap₂ (λ (capacity : ℕ) (names : List PageName). names_after capacity names second) one.capacity one.names
      ∙ sym (names_after-append a.capacity (names_of a.pages) first second)

  -- first no exchange failed
  after_none : first_failed ≡ [] → first_asked ++ second_asked ≡ asked_of a.capacity (names_of a.pages) ((first ++ second) ++ second_failed)
  after_none none =
      let front = asked_of a.capacity (names_of a.pages) first in
      let alone : first_asked ≡ asked_of a.capacity (names_of a.pages) first =
      one.are ∙ ap (λ (l : List Want). asked_of a.capacity (names_of a.pages) (first ++ l)) none ∙ ap (asked_of a.capacity (names_of a.pages)) (append-nil first) in
      let behind : second_asked ≡ asked_of a.capacity (names_after a.capacity (names_of a.pages) first) (second ++ second_failed) =
      two.are ∙ ap₂ (λ (capacity : ℕ) (names : List PageName). asked_of capacity names (second ++ second_failed)) one.capacity one.names in
      ap₂ (λ (x y : List Want). x ++ y) alone behind
      ∙ sym (asked_of-append a.capacity (names_of a.pages) first (second ++ second_failed))
      ∙ ap (asked_of a.capacity (names_of a.pages)) (sym (append_assoc first second second_failed))

  by_second : NoneFailed was between first_failed → NoneFailed between is second_failed ⊎ OneFailed left between is ((own ++ first) ++ second) second_failed →
      NoneFailed was is second_failed ⊎ OneFailed left was is (own ++ (first ++ second)) second_failed
  by_second none (inl none_again) = inl (record { none = none_again.none; before = λ fault. none.before (none_again.before fault) })
  by_second none (inr failed) =
      subst (λ (l : List Want). NoneFailed was is second_failed ⊎ OneFailed left was is l second_failed) (append_assoc own first second) (inr (record {
        waited = no_outcome_before was.outcome between.outcome stays failed.waited;
        by_fault = failed.by_fault;
        want = failed.want;
        one = failed.one;
        gate = failed.gate;
        next = failed.next;
      }))

  -- who had its outcome failed no more
  none_more : HasFault between → NoneFailed between is second_failed ⊎ OneFailed left between is ((own ++ first) ++ second) second_failed → second_failed ≡ []
  none_more fault (inl none) = none.none
  none_more fault (inr failed) = absurd (no_fault_waits between.outcome fault.low fault.high failed.waited fault.is) where
    no_fault_waits : (outcome : Option Outcome) (low high : ℕ) → outcome ≡ None → outcome ≡ Some (LinkFault low high) → ⊥
    no_fault_waits outcome low high none some = cc

  -- first the exchange failed, and then nothing happened
  after_one : OneFailed mid was between (own ++ first) first_failed → IsStill between is second second_asked → AsksByNames left was is a c own (first ++ second) first_failed (first_asked ++ second_asked)
  after_one failed nothing =
      let no_more : first ++ second ≡ first = ap (λ (l : List Want). first ++ l) nothing.none_given ∙ append-nil first in
      let names : names_of c.pages ≡ names_of b.pages = two.names ∙ ap (λ (l : List Want). names_after b.capacity (names_of b.pages) l) nothing.none_given in
      let then_failed : OneFailed left was between (own ++ first) first_failed = failed_later mid left was between (own ++ first) first_failed valid later has failed in
      record {
        capacity = two.capacity ∙ one.capacity;
        names = names_of_both;
        are =
            ap (λ (l : List Want). first_asked ++ l) nothing.none_asked ∙ append-nil first_asked ∙ one.are
            ∙ ap (λ (l : List Want). asked_of a.capacity (names_of a.pages) (l ++ first_failed)) (sym no_more);
        not_kept = ap (λ (l : List PageName). asked_of a.capacity l first_failed) names ∙ one.not_kept;
        how = inr
            (subst (λ (l : List Want). OneFailed left was is (own ++ l) first_failed) (sym no_more) (subst (λ (s : Shown). OneFailed left was s (own ++ first) first_failed) (sym nothing.same) then_failed));
      }

  pub asks_then : AsksByNames left was is a c own (first ++ second) (first_failed ++ second_failed) (first_asked ++ second_asked)
  asks_then = by_first one.how where
    by_first : NoneFailed was between first_failed ⊎ OneFailed mid was between (own ++ first) first_failed → AsksByNames left was is a c own (first ++ second) (first_failed ++ second_failed) (first_asked ++ second_asked)
    by_first (inl none) =
        subst (λ (l : List Want). AsksByNames left was is a c own (first ++ second) l (first_asked ++ second_asked)) (sym (ap (λ (l : List Want). l ++ second_failed) none.none)) (record {
          capacity = two.capacity ∙ one.capacity;
          names = names_of_both;
          are = after_none none.none;
          not_kept = ap (λ (capacity : ℕ). asked_of capacity (names_of c.pages) second_failed) (sym one.capacity) ∙ two.not_kept;
          how = by_second none two.how;
        })
    by_first (inr failed) =
        let alone : first_failed ++ second_failed ≡ first_failed = ap (λ (l : List Want). first_failed ++ l) (none_more failed.by_fault two.how) ∙ append-nil first_failed in
        subst (λ (l : List Want). AsksByNames left was is a c own (first ++ second) l (first_asked ++ second_asked)) (sym alone) (after_one failed (still failed.by_fault))
