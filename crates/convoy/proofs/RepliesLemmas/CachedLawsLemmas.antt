-- One cache by what was received, and two capacities.
use Rattle.std.proofs.Common.{◌≡◌, ◌∙◌, ◌-◌, ℕ, Bool, true, false, List, [], ◌∷◌, ◌++◌, Option, Some, None, Ok, ap, refl, subst, sym}
use Rattle.std.specs.Prelude.{if◌then◌else◌}
use Rattle.std.specs.List.{slice_get}
use Rattle.connection_uri.specs.Base.{BaseParts}
use Rattle.lc_model.specs.declared.page.PageName.{PageName}
use Rattle.lc_model.specs.declared.query.Query.{Query}
use Rattle.page_client.specs.Kept.{Kept, page_named, with_put, with_used}
use Rattle.page_client.proofs.OneReplyLemmas.{one_page_reply}
use Rattle.page_client.specs.Page.{IsPageReply}
use Rattle.page_client.specs.Shown.{is_off}
use Rattle.page_client.specs.declared.want.Want.{Want}
use Rattle.page_client.specs.declared.want.Want.TheVariants as wants
use Rattle.page_json.specs.declared.page.Page.{Page}
use Rattle.convoy.specs.Replies.Cached.{AreCached, CacheAlong, IsAfterExchange, IsAfterPage, IsAfterWant, IsCacheAfter, IsPutBy, empty_cache, is_sent_wrong, kept_by}
use Rattle.convoy.specs.Replies.CachedLaws.{AreByCapacity, CacheIsOne, CapacityIsBound, IsNotPut, WrongPageIsNotPut, early, late, three_wants, two_wants}
use Rattle.convoy.specs.Replies.Made.{Made, reply_to}
use Rattle.convoy.specs.Replies.Met.{Met, met_by}
use Rattle.convoy.proofs.RepliesLemmas.CourseLemmas.{is_taken}

-- one question is at a place
one_question : (a b : Query) (asked : Option Query) → asked ≡ Some a → asked ≡ Some b → a ≡ b
one_question a b asked is_a is_b = (let both : Some a ≡ Some b = sym is_a ∙ is_b in cc)

-- one cache is after each of what was received
module _ (base : BaseParts) (query : Query) (before : List Made) (kept now other : Kept) where
  one_exchange : (name : PageName) (got : Option (List ℕ)) → IsAfterExchange base query before kept name got now → IsAfterExchange base query before kept name got other → now ≡ other
  one_exchange name None a b = a ∙ sym b
  one_exchange name (Some reply) a b =
      let same : a.said ≡ b.said = one_page_reply base name reply a.said b.said a.says b.says in
      a.is ∙ ap (kept_by kept (is_sent_wrong query.leave before)) same ∙ sym b.is

  one_page : (name : PageName) (asked : Bool) (got : Option (List ℕ)) → IsAfterPage base query before kept name asked got now → IsAfterPage base query before kept name asked got other → now ≡ other
  one_page name true got a b = one_exchange name got a.1 b.1
  one_page name false got a b = a.is ∙ sym b.is

  one_want : (want : Want) (asked : Bool) (got : Option (List ℕ)) → IsAfterWant base query before kept want asked got now → IsAfterWant base query before kept want asked got other → now ≡ other
  one_want wants.Gate asked got a b = a.1 ∙ sym b.1
  one_want wants.Stops asked got a b = a.1 ∙ sym b.1
  one_want (wants.Page name) asked got a b = one_page name asked got a b
  one_want wants.Finished asked got a b = absurd a

one_after : (base : BaseParts) (questions : List Query) (before : List Met) (kept : Kept) (met : Met) (now other : Kept) → IsCacheAfter base questions before kept met now →
    IsCacheAfter base questions before kept met other → now ≡ other
one_after base questions before kept met now other a b =
    let same : a.query ≡ b.query = one_question a.query b.query (slice_get questions (met.client - 1)) a.asks b.asks in
    one_want base b.query (met_by met.client before) kept now other met.made.want met.asked met.made.got
    (subst (λ (q : Query). IsAfterWant base q (met_by met.client before) kept met.made.want met.asked met.made.got now) same a.is) b.is

pub cache_is_one : CacheIsOne
cache_is_one base questions before [] kept now other a b = a ∙ sym b
cache_is_one base questions before (met ∷ all) kept now other a b =
    let same : a.0 ≡ b.0 = one_after base questions before kept met a.0 b.0 a.1 b.1 in
    cache_is_one base questions (before ++ met ∷ []) all b.0 now other (subst (λ (k : Kept). CacheAlong base questions (before ++ met ∷ []) k all now) same a.2) b.2

-- a page that the reply says is put, where the time gate was not wrong to send to it
abbrev put : Kept → Page → Kept
put kept page = record kept { pages = with_put kept page }

-- one that was not put leaves the cache
abbrev put_unless : Bool → Kept → Page → Kept
put_unless wrong kept page = if wrong then kept else put kept page

-- the cache after the reply, by whether the time gate was wrong
by_reply : (base : BaseParts) (query : Query) (before : List Made) (kept : Kept) (name : PageName) (reply : List ℕ) (page : Page) (now : Kept) (wrong : Bool) → IsPageReply base name reply (Ok page) →
    is_sent_wrong query.leave before page ≡ wrong → IsPutBy base query before kept name reply now → now ≡ put_unless wrong kept page
by_reply base query before kept name reply page now wrong says is after =
    let same : after.said ≡ Ok page = one_page_reply base name reply after.said (Ok page) after.says says in
    after.is ∙ ap (kept_by kept (is_sent_wrong query.leave before)) same ∙ ap (λ (b : Bool). put_unless b kept page) is

put_so : (base : BaseParts) (query : Query) (before : List Made) (kept : Kept) (name : PageName) (reply : List ℕ) (page : Page) (wrong : Bool) → IsPageReply base name reply (Ok page) →
    is_sent_wrong query.leave before page ≡ wrong → IsPutBy base query before kept name reply (put_unless wrong kept page)
put_so base query before kept name reply page wrong says is = record { said = Ok page; says = says; is = ap (λ (b : Bool). put_unless b kept page) (sym is) }

-- a page is there, or none is
not_both : (found : Option Page) (page : Page) → found ≡ Some page → found ≡ None → ⊥
not_both found page some none = (let both : Some page ≡ None = sym some ∙ none in cc)

module _ (base : BaseParts) (query : Query) (to_early to_late : List ℕ) (early_page late_page : Page) (says_early : IsPageReply base early to_early (Ok early_page)) (says_late : IsPageReply base late to_late (Ok late_page))
    (right : is_off query.leave early_page ≡ false) where
  abbrev asking : List Query
  asking = query ∷ query ∷ []

  -- the first client, once it has one of them
  abbrev had : List Made
  had = reply_to (wants.Page early) to_early ∷ []

  its_name : early_page.name ≡ early
  its_name = (is_taken base early to_early early_page says_early).named

  late_name : late_page.name ≡ late
  late_name = (is_taken base late to_late late_page says_late).named

  -- the cache with the early page, and then with both
  abbrev with_early : ℕ → Kept
  with_early capacity = put (empty_cache capacity) early_page

  abbrev with_both : ℕ → Kept
  with_both capacity = put (with_early capacity) late_page

  -- what the other client received came after these
  third : (capacity : ℕ) (asked : Bool) (cached : AreCached capacity base asking (three_wants to_early to_late asked)) →
      (now : Kept) × IsAfterPage base query [] (with_both capacity) early asked (Some to_early) now
  third capacity asked cached =
      let a = cached.along in
      let b = a.2 in
      let c = b.2 in
      let first : query ≡ a.1.query = one_question query a.1.query (Some query) refl a.1.asks in
      let second : query ≡ b.1.query = one_question query b.1.query (Some query) refl b.1.asks in
      let last : query ≡ c.1.query = one_question query c.1.query (Some query) refl c.1.asks in
      let put_early : IsPutBy base query [] (empty_cache capacity) early to_early a.0 = subst (λ (q : Query). IsPutBy base q [] (empty_cache capacity) early to_early a.0) (sym first) a.1.is.1 in
      let put_late : IsPutBy base query had a.0 late to_late b.0 = subst (λ (q : Query). IsPutBy base q had a.0 late to_late b.0) (sym second) b.1.is.1 in
      let is_early : a.0 ≡ with_early capacity = by_reply base query [] (empty_cache capacity) early to_early early_page a.0 false says_early right put_early in
      let is_late : b.0 ≡ put a.0 late_page = by_reply base query had a.0 late to_late late_page b.0 false says_late refl put_late in
      let both : b.0 ≡ with_both capacity = is_late ∙ ap (λ (kept : Kept). put kept late_page) is_early in
      let after : IsAfterPage base query [] b.0 early asked (Some to_early) c.0 = subst (λ (q : Query). IsAfterPage base q [] b.0 early asked (Some to_early) c.0) (sym last) c.1.is in
      (c.0, subst (λ (kept : Kept). IsAfterPage base query [] kept early asked (Some to_early) c.0) both after)

  -- with room for both the early one is found, and with room for one it is not
  abbrev found_in : ℕ → PageName → PageName → Option Page
  found_in capacity first second =
      page_named (with_put (record { capacity = capacity; pages = with_put (empty_cache capacity) (record early_page { name = first }) }) (record late_page { name = second })) early

  is_there : page_named (with_both 2).pages early ≡ Some early_page
  is_there = ap (λ (n : PageName). found_in 2 n late_page.name) its_name ∙ ap (λ (n : PageName). found_in 2 early n) late_name ∙ ap (λ (n : PageName). Some (record early_page { name = n })) (sym its_name)

  is_gone : page_named (with_both 1).pages early ≡ None
  is_gone = ap (λ (n : PageName). found_in 1 n late_page.name) its_name ∙ ap (λ (n : PageName). found_in 1 early n) late_name

  -- the late one was not cached before
  abbrev late_in : ℕ → PageName → Option Page
  late_in capacity name = page_named (with_put (empty_cache capacity) (record early_page { name = name })) late

  was_lacked_by_one : page_named (with_early 1).pages late ≡ None
  was_lacked_by_one = ap (late_in 1) its_name

  was_lacked_by_two : page_named (with_early 2).pages late ≡ None
  was_lacked_by_two = ap (late_in 2) its_name

  not_two : AreCached 2 base asking (three_wants to_early to_late true) → ⊥
  not_two cached = not_both (page_named (with_both 2).pages early) early_page is_there (third 2 true cached).1.0

  not_one : AreCached 1 base asking (three_wants to_early to_late false) → ⊥
  not_one cached = let t = third 1 false cached in not_both (page_named (with_both 1).pages early) t.1.page t.1.holds is_gone

  one_of : (capacity : ℕ) (now : Kept) (asked : Bool) → page_named (with_early capacity).pages late ≡ None → IsAfterPage base query [] (with_both capacity) early asked (Some to_early) now →
      AreCached capacity base asking (three_wants to_early to_late asked)
  one_of capacity now asked lacks last = record {
    now = now;
    along = (
      with_early capacity,
      record { query = query; asks = refl; is = (refl, put_so base query [] (empty_cache capacity) early to_early early_page false says_early right) },
      (
        with_both capacity,
        record { query = query; asks = refl; is = (lacks, put_so base query had (with_early capacity) late to_late late_page false says_late refl) },
        (now, record { query = query; asks = refl; is = last }, refl),
      ),
    );
  }

  by_capacity : AreByCapacity base query to_early to_late
  by_capacity = record {
    one = one_of 1 (put (with_both 1) early_page) true was_lacked_by_one (is_gone, put_so base query [] (with_both 1) early to_early early_page false says_early right);
    two = one_of 2 (record (with_both 2) { pages = with_used (with_both 2).pages early }) false was_lacked_by_two
        (record { page = early_page; holds = is_there; reply = to_early; got_is = refl; says = says_early; is = refl });
    not_two = not_two;
    not_one = not_one;
  }

pub capacity_is_bound : CapacityIsBound
capacity_is_bound base query to_early to_late early_page late_page says_early says_late right = by_capacity base query to_early to_late early_page late_page says_early says_late right

-- a page to which the time gate was wrong to send
module _ (capacity : ℕ) (base : BaseParts) (query : Query) (to_early : List ℕ) (early_page : Page) (says : IsPageReply base early to_early (Ok early_page)) (wrong : is_off query.leave early_page ≡ true) where
  left : IsPutBy base query [] (empty_cache capacity) early to_early (empty_cache capacity)
  left = put_so base query [] (empty_cache capacity) early to_early early_page true says wrong

  not_cached : AreCached capacity base (query ∷ query ∷ []) (two_wants to_early false) → ⊥
  not_cached cached =
      let a = cached.along in
      let b = a.2 in
      let first : query ≡ a.1.query = one_question query a.1.query (Some query) refl a.1.asks in
      let after : IsPutBy base query [] (empty_cache capacity) early to_early a.0 = subst (λ (q : Query). IsPutBy base q [] (empty_cache capacity) early to_early a.0) (sym first) a.1.is.1 in
      let none : a.0 ≡ empty_cache capacity = by_reply base query [] (empty_cache capacity) early to_early early_page a.0 true says wrong after in
      not_both (page_named [] early) b.1.is.page (subst (λ (kept : Kept). page_named kept.pages early ≡ Some b.1.is.page) none b.1.is.holds) refl

  is_not_put : IsNotPut capacity base query to_early
  is_not_put = record {
    asked = record {
      now = empty_cache capacity;
      along = (
        empty_cache capacity,
        record { query = query; asks = refl; is = (refl, left) },
        (empty_cache capacity, record { query = query; asks = refl; is = (refl, left) }, refl),
      );
    };
    not_cached = not_cached;
  }

pub wrong_page_is_not_put : WrongPageIsNotPut
wrong_page_is_not_put capacity base query to_early early_page says wrong = is_not_put capacity base query to_early early_page says wrong
