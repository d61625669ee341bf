-- The keys of the runs that news name.
use Rattle.std.proofs.Common.{◌≡◌, ◌∙◌, ℕ, ◌<◌, List, [], Bool, true, false, cond, Option, Some, None, option_map, refl, sym, ap, arith}
use Rattle.std.specs.Prelude.{◌&&◌, not, is_some, if◌then◌else◌}
use Rattle.std.specs.BTreeMap.{BTreeMap, get}
use Rattle.std.specs.Map.{lookup}
use Rattle.std.specs.Cmp.{unsigned_ties}
use Rattle.std.specs.Cmp.Lexicographic.{slice_cmp, texts_ties}
use Rattle.std.specs.Option.{option_cmp}
use Rattle.std.specs.Ordering.{is_eq, nat_cmp, ordering_then}
use Rattle.std.specs.declared.cmp.Ordering.{Ordering}
use Rattle.std.specs.declared.cmp.Ordering.TheVariants.{Less, Equal, Greater}
use Rattle.lc_model.specs.Change.{is_same_id}
use Rattle.lc_model.specs.RunKey.{date_cmp, key_cmp}
use Rattle.lc_model.specs.declared.date.ServiceDate.{ServiceDate}
use Rattle.lc_model.specs.declared.key.RunKey.{RunKey}
use Rattle.lc_model.specs.Versions.Naming.{is_added, names_run, starts_so}
use Rattle.version_store.specs.Kept.{news_said}
use Rattle.version_store.specs.Named.{HasNamed, PutsNamed, names_started}
use Rattle.version_store.specs.declared.dated.DatedNews.{DatedNews}

then_is_eq : (a b : Ordering) → is_eq (ordering_then a b) ≡ (is_eq a && is_eq b)
then_is_eq Less b = refl
then_is_eq Equal b = refl
then_is_eq Greater b = refl

-- keys are the same where their trips, dates and starts are
tie_parts : (x y : RunKey) → is_eq (key_cmp x y) ≡ (is_same_id x.trip y.trip && (is_eq (date_cmp x.date y.date) && is_eq (option_cmp nat_cmp x.start y.start)))
tie_parts x y =
    then_is_eq (slice_cmp nat_cmp x.trip y.trip) (ordering_then (date_cmp x.date y.date) (option_cmp nat_cmp x.start y.start))
    ∙ ap (λ b. is_eq (slice_cmp nat_cmp x.trip y.trip) && b) (then_is_eq (date_cmp x.date y.date) (option_cmp nat_cmp x.start y.start))
    ∙ ap (λ b. b && (is_eq (date_cmp x.date y.date) && is_eq (option_cmp nat_cmp x.start y.start))) (sym (texts_ties x.trip y.trip))

none_of : (same day : Bool) → (same && (day && false)) ≡ false
none_of true true = refl
none_of true false = refl
none_of false day = refl

plain_parts : (same day : Bool) (start said : Option ℕ)
    → (same && (day && is_eq (option_cmp nat_cmp None start))) ≡ (not (is_some start) && (true && (same && (day && starts_so start said))))
plain_parts same day None said = refl
plain_parts same day (Some s) said = none_of same day

started_parts : (same day : Bool) (start : Option ℕ) (said : ℕ)
    → (same && (day && is_eq (option_cmp nat_cmp (Some said) start))) ≡ (is_some start && (true && (same && (day && starts_so start (Some said)))))
started_parts same day None said = none_of same day
started_parts same day (Some s) said = ap (λ b. same && (day && b)) (sym (unsigned_ties said s))

-- the key without a start, among those that the news name
plain_tie : (plain key : RunKey) (news : DatedNews) → is_added news.news.now.kind ≡ false → plain.trip ≡ news.news.now.trip → plain.date ≡ news.date → plain.start ≡ None
    → is_eq (key_cmp plain key) ≡ (not (is_some key.start) && names_run key (news_said news))
plain_tie plain key news of trip date start =
    tie_parts plain key
    ∙ rw (trip, date, start, of) (plain_parts (is_same_id news.news.now.trip key.trip) (is_eq (date_cmp news.date key.date)) key.start news.news.now.start)

-- the key with the start that the news say
started_tie : (started key : RunKey) (news : DatedNews) (said : ℕ) → is_added news.news.now.kind ≡ false → started.trip ≡ news.news.now.trip → started.date ≡ news.date
    → started.start ≡ Some said → news.news.now.start ≡ Some said → is_eq (key_cmp started key) ≡ names_started key (news_said news)
started_tie started key news said of trip date start says =
    tie_parts started key
    ∙ rw (trip, date, start, of, says) (started_parts (is_same_id news.news.now.trip key.trip) (is_eq (date_cmp news.date key.date)) key.start said)

pub some_in_range : (said seconds : ℕ) → said < 360_000 → Some said ≡ Some seconds → seconds < 360_000
some_in_range said seconds under e = let same : said ≡ seconds = cc in omega (arith, under, same)

pub none_in_range : (seconds : ℕ) → None ≡ Some seconds → seconds < 360_000
none_in_range seconds e = absurd (cc)

-- the key of a trip on a date, with a start that a run may have
abbrev pub key_from : List ℕ → ServiceDate → (said : ℕ) → said < 360_000 → RunKey
key_from trip date said under =
    record { trip = trip; date = date; start = Some said; start_in_range = λ seconds e. some_in_range said seconds under e }

-- and without one
abbrev pub key_of : List ℕ → ServiceDate → RunKey
key_of trip date = record { trip = trip; date = date; start = None; start_in_range = none_in_range }

-- news at the key of their start
pub puts_started : (news : DatedNews) (old new : BTreeMap RunKey DatedNews) (trip : List ℕ) (said : ℕ) (under : said < 360_000) → is_added news.news.now.kind ≡ false → trip ≡ news.news.now.trip
    → news.news.now.start ≡ Some said → ((key : RunKey) → get key_cmp new key ≡ (if is_eq (key_cmp (key_from trip news.date said under) key) then Some news else get key_cmp old key))
    → (key : RunKey) → get key_cmp new key ≡ (if names_started key (news_said news) then Some news else get key_cmp old key)
puts_started news old new trip said under of same says at key =
    at key ∙ ap (λ b. if b then Some news else get key_cmp old key) (started_tie (key_from trip news.date said under) key news said of same refl refl says)

put_both : (starts names : Bool) (news : DatedNews) (old : Option DatedNews)
    → option_map news_said (cond (not starts && names) (Some news) (cond (starts && names) (Some news) old)) ≡ cond names (Some (news_said news)) (option_map news_said old)
put_both true true news old = refl
put_both true false news old = refl
put_both false true news old = refl
put_both false false news old = refl

-- news at both of their keys
pub puts_named : (news : DatedNews) (old mid new : BTreeMap RunKey DatedNews) (trip : List ℕ) → is_added news.news.now.kind ≡ false → trip ≡ news.news.now.trip
    → ((key : RunKey) → get key_cmp mid key ≡ (if names_started key (news_said news) then Some news else get key_cmp old key))
    → ((key : RunKey) → get key_cmp new key ≡ (if is_eq (key_cmp (key_of trip news.date) key) then Some news else get key_cmp mid key)) → PutsNamed news old new
puts_named news old mid new trip of same first second key is =
    ap (option_map news_said)
    (second key ∙ ap (λ b. if b then Some news else get key_cmp mid key) (plain_tie (key_of trip news.date) key news of same refl refl)
    ∙ ap (λ v. if not (is_some key.start) && names_run key (news_said news) then Some news else v) (first key))
    ∙ put_both (is_some key.start) (names_run key (news_said news)) news (get key_cmp old key)

-- before any news
pub none_named : (named : BTreeMap RunKey DatedNews) → named.entries ≡ [] → HasNamed [] named
none_named named e key is = ap (option_map news_said) (ap (lookup (λ (k : RunKey). is_eq (key_cmp key k))) e)
