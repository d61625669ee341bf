-- Arguments say one command at most.
use Rattle.std.proofs.Common.{◌≡◌, ◌∙◌, ℕ, ◌/◌, ◌-◌, ◌≤◌, Bool, List, [], ◌∷◌, ap, refl, subst, sym}
use Rattle.std.proofs.Props.{props}
use Rattle.back_scan.specs.declared.arrive_query.ArriveQuery.{ArriveQuery}
use Rattle.clap.specs.Simple.{App}
use Rattle.connection_uri.specs.Base.{BaseParts}
use Rattle.lc_model.specs.declared.date.ServiceDate.{ServiceDate}
use Rattle.lc_model.specs.declared.query.Query.{Query}
use Rattle.lc_time.proofs.OneTextLemmas.{one_date}
use Rattle.cli_words.specs.Arrive.{SaysArrive}
use Rattle.cli_words.specs.Ask.{SaysAsk}
use Rattle.cli_words.specs.Check.{SaysCheck}
use Rattle.cli_words.specs.Drill.{SaysDrill}
use Rattle.cli_words.specs.FeedWindow.{HasWindow, SaysFeedWindow}
use Rattle.cli_words.specs.Fewest.{SaysFewest}
use Rattle.cli_words.specs.Laws.{OneCommand}
use Rattle.cli_words.specs.Line.{arrive_line, ask_line, check_line, fewest_line, replay_line, serve_line}
use Rattle.cli_words.specs.Plan.{SaysPlan}
use Rattle.cli_words.specs.Published.{AsksPublished, SaysPublished}
use Rattle.cli_words.specs.Publishing.{SaysBase, example}
use Rattle.cli_words.specs.Relay.{SaysRelay}
use Rattle.cli_words.specs.Replay.{SaysReplay}
use Rattle.cli_words.specs.Serve.{SaysServe, address_at}
use Rattle.cli_words.specs.Window.{IsWindow}
use Rattle.cli_words.specs.declared.command.Arrive.{Arrive}
use Rattle.cli_words.specs.declared.command.Ask.{Ask}
use Rattle.cli_words.specs.declared.command.Check.{Check}
use Rattle.cli_words.specs.declared.command.Command.TheVariants as command
use Rattle.cli_words.specs.declared.command.Drill.{Drill}
use Rattle.cli_words.specs.declared.command.FeedWindow.{FeedWindow}
use Rattle.cli_words.specs.declared.command.Fewest.{Fewest}
use Rattle.cli_words.specs.declared.command.Plan.{Plan}
use Rattle.cli_words.specs.declared.command.Published.{Published}
use Rattle.cli_words.specs.declared.command.Publishing.{Publishing}
use Rattle.cli_words.specs.declared.command.Relay.{Relay}
use Rattle.cli_words.specs.declared.command.Replay.{Replay}
use Rattle.cli_words.specs.declared.command.Serve.{Serve}
use Rattle.cli_words.proofs.MadeLemmas.{same_made}
use Rattle.cli_words.proofs.PublishingLemmas.{one_base_said, one_publishing}
use Rattle.cli_words.proofs.QuestionLemmas.{one_arrival, one_question}
use Rattle.cli_words.proofs.WordsLemmas.{apart, one_date_at, one_options, same_number, same_text}

-- what holds of the first date, the days and the change of a window
abbrev Ranges : ServiceDate × ℕ × ℕ → Type 0
Ranges s = (1 ≤ s.1) × (s.1 ≤ 62) × IsWindow s.0 s.1 × (s.2 ≤ 86_400)

ranges_prop : (s : ServiceDate × ℕ × ℕ) → IsProp (Ranges s)
ranges_prop s = hlevel props

abbrev window_of : (feed zone : List ℕ) (s : ServiceDate × ℕ × ℕ) → Ranges s → FeedWindow
window_of feed zone s r = record { feed = feed; first = s.0; days = s.1; zone = zone; change = s.2; some_days = r.0; two_months = r.1; is_window = r.2; within_a_day = r.3 }

same_window : (a b : FeedWindow) → a.feed ≡ b.feed → a.first ≡ b.first → a.days ≡ b.days → a.zone ≡ b.zone → a.change ≡ b.change → a ≡ b
same_window a b feed first days zone change =
    let ranges : Ranges (b.first, b.days, b.change) = (b.some_days, b.two_months, b.is_window, b.within_a_day) in
    same_made Ranges ranges_prop (window_of a.feed a.zone) (a.first, a.days, a.change) (b.first, b.days, b.change) (a.some_days, a.two_months, a.is_window, a.within_a_day) ranges
    (λ i. (first i, days i, change i))
    ∙ (λ i. window_of (feed i) (zone i) (b.first, b.days, b.change) ranges)

-- arguments have one feed and one window of it from a first date on
one_window : (a : App) (words : List (List ℕ)) (default_days : ℕ) (v w : FeedWindow) → v.first ≡ w.first → HasWindow a words default_days v → HasWindow a words default_days w → v ≡ w
one_window a words default_days v w first p q =
    let options = one_options a words default_days v.days w.days v.zone w.zone v.change w.change p.options q.options in
    same_window v w (same_text _ _ (sym p.feed_is ∙ q.feed_is)) first options.0 options.1 options.2

one_feed_window : (a : App) (words : List (List ℕ)) (v w : FeedWindow) → SaysFeedWindow a words v → SaysFeedWindow a words w → v ≡ w
one_feed_window a words v w p q =
    one_window a words 7 v w (one_date v.first w.first (same_text _ _ (sym p.first_is ∙ q.first_is))) p.has q.has

-- what publishes one feed in one window in one way is one
one_published : (base : List ℕ) (a : App) (words : List (List ℕ)) (v w : Published) → v.window ≡ w.window → SaysPublished base a words v → SaysPublished base a words w → v ≡ w
one_published base a words v w window p q =
    let publishing = one_publishing base a words v.publishing w.publishing p.publishing q.publishing in
    let update : v.update ≡ w.update = sym p.update.is ∙ q.update.is in
    λ i. record { window = window i; publishing = publishing i; update = update i }

-- a question of a moment is asked of one
one_asked : (a : App) (words : List (List ℕ)) (m n : ℕ) (v w : Published) → m ≡ n → AsksPublished a words m v → AsksPublished a words n w → v ≡ w
one_asked a words m n v w same p q =
    let first = one_date_at v.window.first w.window.first _ _ (ap (λ (moment : ℕ). moment / 86_400 - 1) same) p.window.first_is q.window.first_is in
    one_published example a words v w (one_window a words 3 v.window w.window first p.window.has q.window.has) p.says q.says

-- this many pages may be cached
abbrev CacheRange : ℕ → Type 0
CacheRange cache = (1 ≤ cache) × (cache ≤ 10_000)

cache_range_prop : (cache : ℕ) → IsProp (CacheRange cache)
cache_range_prop cache = hlevel props

abbrev ask_of : (published : Published) (query : Query) (cache : ℕ) → CacheRange cache → Ask
ask_of published query cache is = record { published = published; query = query; cache = cache; some_pages = is.0; most_pages = is.1 }

same_ask : (a b : Ask) → a.published ≡ b.published → a.query ≡ b.query → a.cache ≡ b.cache → a ≡ b
same_ask a b published query cache =
    same_made CacheRange cache_range_prop (ask_of a.published a.query) a.cache b.cache (a.some_pages, a.most_pages) (b.some_pages, b.most_pages) cache
    ∙ (λ i. ask_of (published i) (query i) b.cache (b.some_pages, b.most_pages))

abbrev replay_of : (window : FeedWindow) (publishing : Publishing) (script : List ℕ) (cache : ℕ) → CacheRange cache → Replay
replay_of window publishing script cache is = record { window = window; publishing = publishing; cache = cache; script = script; some_pages = is.0; most_pages = is.1 }

same_replay : (a b : Replay) → a.window ≡ b.window → a.publishing ≡ b.publishing → a.cache ≡ b.cache → a.script ≡ b.script → a ≡ b
same_replay a b window publishing cache script =
    same_made CacheRange cache_range_prop (replay_of a.window a.publishing a.script) a.cache b.cache (a.some_pages, a.most_pages) (b.some_pages, b.most_pages) cache
    ∙ (λ i. replay_of (window i) (publishing i) (script i) b.cache (b.some_pages, b.most_pages))

-- what holds of the port and the connections of a server
abbrev ServeRanges : ℕ × ℕ → Type 0
ServeRanges s = (1 ≤ s.0) × (1 ≤ s.1) × (s.1 ≤ 1_000_000)

serve_ranges_prop : (s : ℕ × ℕ) → IsProp (ServeRanges s)
serve_ranges_prop s = hlevel props

abbrev serve_of : (published : Published) (accept_updates : Bool) (s : ℕ × ℕ) → ServeRanges s → Serve
serve_of published accept_updates s r = record { published = published; port = s.0; connections = s.1; accept_updates = accept_updates; some_port = r.0; some_connections = r.1; most_connections = r.2 }

same_serve : (a b : Serve) → a.published ≡ b.published → a.port ≡ b.port → a.connections ≡ b.connections → a.accept_updates ≡ b.accept_updates → a ≡ b
same_serve a b published port connections accept_updates =
    let ranges : ServeRanges (b.port, b.connections) = (b.some_port, b.some_connections, b.most_connections) in
    same_made ServeRanges serve_ranges_prop (serve_of a.published a.accept_updates) (a.port, a.connections) (b.port, b.connections) (a.some_port, a.some_connections, a.most_connections) ranges
    (λ i. (port i, connections i))
    ∙ (λ i. serve_of (published i) (accept_updates i) (b.port, b.connections) ranges)

abbrev plan_of : (base : BaseParts) (asks : List ℕ) (cache : ℕ) → CacheRange cache → Plan
plan_of base asks cache is = record { base = base; asks = asks; cache = cache; some_pages = is.0; most_pages = is.1 }

same_plan : (a b : Plan) → a.base ≡ b.base → a.asks ≡ b.asks → a.cache ≡ b.cache → a ≡ b
same_plan a b base asks cache =
    same_made CacheRange cache_range_prop (plan_of a.base a.asks) a.cache b.cache (a.some_pages, a.most_pages) (b.some_pages, b.most_pages) cache
    ∙ (λ i. plan_of (base i) (asks i) b.cache (b.some_pages, b.most_pages))

one_check : (words : List (List ℕ)) (a b : Check) → SaysCheck words a → SaysCheck words b → a ≡ b
one_check words a b x y =
    let window = one_feed_window check_line words a.window b.window x.window y.window in
    λ i. record { window = window i }

one_ask : (words : List (List ℕ)) (a b : Ask) → SaysAsk words a → SaysAsk words b → a ≡ b
one_ask words a b x y =
    let query = one_question ask_line words a.query b.query x.question y.question in
    let published = one_asked ask_line words _ _ a.published b.published (ap (λ (query : Query). query.leave) query) x.published y.published in
    same_ask a b published query (same_number a.cache b.cache (sym x.cache_is ∙ y.cache_is))

one_arrive : (words : List (List ℕ)) (a b : Arrive) → SaysArrive words a → SaysArrive words b → a ≡ b
one_arrive words a b x y =
    let query = one_arrival arrive_line words a.query b.query x.question y.question in
    let published = one_asked arrive_line words _ _ a.published b.published (ap (λ (query : ArriveQuery). query.arrive) query) x.published y.published in
    λ i. record { published = published i; query = query i }

one_fewest : (words : List (List ℕ)) (a b : Fewest) → SaysFewest words a → SaysFewest words b → a ≡ b
one_fewest words a b x y =
    let query = one_question fewest_line words a.query b.query x.question y.question in
    let published = one_asked fewest_line words _ _ a.published b.published (ap (λ (query : Query). query.leave) query) x.published y.published in
    λ i. record { published = published i; query = query i }

one_replay : (words : List (List ℕ)) (a b : Replay) → SaysReplay words a → SaysReplay words b → a ≡ b
one_replay words a b x y =
    same_replay a b (one_feed_window replay_line words a.window b.window x.window y.window)
    (one_publishing _ replay_line words a.publishing b.publishing x.publishing y.publishing)
    (same_number a.cache b.cache (sym x.cache_is ∙ y.cache_is)) (same_text a.script b.script (sym x.script_is ∙ y.script_is))

one_serve : (words : List (List ℕ)) (a b : Serve) → SaysServe words a → SaysServe words b → a ≡ b
one_serve words a b x y =
    let window = one_feed_window serve_line words a.published.window b.published.window x.window y.window in
    let port = same_number a.port b.port (sym x.door.port_is ∙ y.door.port_is) in
    let published = subst (λ (n : ℕ). SaysPublished (address_at n) serve_line words a.published) port x.published in
    same_serve a b (one_published _ serve_line words a.published b.published window published y.published) port
    (same_number a.connections b.connections (sym x.door.connections_are ∙ y.door.connections_are)) (x.door.accepts_is ∙ sym y.door.accepts_is)

one_plan : (words : List (List ℕ)) (a b : Plan) → SaysPlan words a → SaysPlan words b → a ≡ b
one_plan words a b x y =
    let url = same_text x.url y.url (sym x.url_is ∙ y.url_is) in
    same_plan a b (one_base_said y.url a.base b.base (subst (λ (text : List ℕ). SaysBase text a.base) url x.base_said) y.base_said)
    (same_text a.asks b.asks (sym x.asks_is ∙ y.asks_is)) (same_number a.cache b.cache (sym x.cache_is ∙ y.cache_is))

-- what holds of the seed and the days of a drill
abbrev DrillRanges : ℕ × ℕ → Type 0
DrillRanges s = (1 ≤ s.0) × (s.0 ≤ 1_000_000) × (1 ≤ s.1) × (s.1 ≤ 7)

drill_ranges_prop : (s : ℕ × ℕ) → IsProp (DrillRanges s)
drill_ranges_prop s = hlevel props

abbrev drill_of : (s : ℕ × ℕ) → DrillRanges s → Drill
drill_of s r = record { seed = s.0; days = s.1; some_seed = r.0; most_seed = r.1; some_days = r.2; one_week = r.3 }

same_drill : (a b : Drill) → a.seed ≡ b.seed → a.days ≡ b.days → a ≡ b
same_drill a b seed days =
    same_made DrillRanges drill_ranges_prop drill_of (a.seed, a.days) (b.seed, b.days) (a.some_seed, a.most_seed, a.some_days, a.one_week) (b.some_seed, b.most_seed, b.some_days, b.one_week)
    (λ i. (seed i, days i))

one_drill : (words : List (List ℕ)) (a b : Drill) → SaysDrill words a → SaysDrill words b → a ≡ b
one_drill words a b x y =
    same_drill a b (same_number a.seed b.seed (sym x.seed_is ∙ y.seed_is)) (same_number a.days b.days (sym x.days_are ∙ y.days_are))

-- this many pages may be cached, and this many documents kept
abbrev RelayRanges : ℕ × ℕ → Type 0
RelayRanges s = (1 ≤ s.0) × (s.0 ≤ 10_000) × (1 ≤ s.1) × (s.1 ≤ 1_000)

relay_ranges_prop : (s : ℕ × ℕ) → IsProp (RelayRanges s)
relay_ranges_prop s = hlevel props

abbrev relay_of : (base : BaseParts) (asks : List ℕ) (s : ℕ × ℕ) → RelayRanges s → Relay
relay_of base asks s r = record { base = base; asks = asks; cache = s.0; entries = s.1; some_pages = r.0; most_pages = r.1; some_entries = r.2; most_entries = r.3 }

same_relay : (a b : Relay) → a.base ≡ b.base → a.asks ≡ b.asks → a.cache ≡ b.cache → a.entries ≡ b.entries → a ≡ b
same_relay a b base asks cache entries =
    let ranges : RelayRanges (b.cache, b.entries) = (b.some_pages, b.most_pages, b.some_entries, b.most_entries) in
    same_made RelayRanges relay_ranges_prop (relay_of a.base a.asks) (a.cache, a.entries) (b.cache, b.entries) (a.some_pages, a.most_pages, a.some_entries, a.most_entries) ranges
    (λ i. (cache i, entries i))
    ∙ (λ i. relay_of (base i) (asks i) (b.cache, b.entries) ranges)

one_relay : (words : List (List ℕ)) (a b : Relay) → SaysRelay words a → SaysRelay words b → a ≡ b
one_relay words a b x y =
    let url = same_text x.url y.url (sym x.url_is ∙ y.url_is) in
    same_relay a b (one_base_said y.url a.base b.base (subst (λ (text : List ℕ). SaysBase text a.base) url x.base_said) y.base_said)
    (same_text a.asks b.asks (sym x.asks_is ∙ y.asks_is)) (same_number a.cache b.cache (sym x.cache_is ∙ y.cache_is))
    (same_number a.entries b.entries (sym x.entries_are ∙ y.entries_are))

pub only_command : OneCommand
only_command [] a b x y = absurd x
only_command (name ∷ words) (command.Check a) (command.Check b) x y = ap (λ (check : Check). command.Check check) (one_check words a b x.1 y.1)
only_command (name ∷ words) (command.Ask a) (command.Ask b) x y = ap (λ (ask : Ask). command.Ask ask) (one_ask words a b x.1 y.1)
only_command (name ∷ words) (command.Replay a) (command.Replay b) x y = ap (λ (replay : Replay). command.Replay replay) (one_replay words a b x.1 y.1)
only_command (name ∷ words) (command.Serve a) (command.Serve b) x y = ap (λ (serve : Serve). command.Serve serve) (one_serve words a b x.1 y.1)
only_command (name ∷ words) (command.Plan a) (command.Plan b) x y = ap (λ (plan : Plan). command.Plan plan) (one_plan words a b x.1 y.1)
only_command (name ∷ words) (command.Drill a) (command.Drill b) x y = ap (λ (drill : Drill). command.Drill drill) (one_drill words a b x.1 y.1)
only_command (name ∷ words) (command.Arrive a) (command.Arrive b) x y = ap (λ (arrive : Arrive). command.Arrive arrive) (one_arrive words a b x.1 y.1)
only_command (name ∷ words) (command.Fewest a) (command.Fewest b) x y = ap (λ (fewest : Fewest). command.Fewest fewest) (one_fewest words a b x.1 y.1)
only_command (name ∷ words) (command.Relay a) (command.Relay b) x y = ap (λ (relay : Relay). command.Relay relay) (one_relay words a b x.1 y.1)
only_command (name ∷ words) a b x y = absurd (apart (sym x.0 ∙ y.0) refl)
