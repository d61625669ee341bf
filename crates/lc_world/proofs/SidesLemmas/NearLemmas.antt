-- Near values that the definitions of a side refuse.
use Rattle.std.proofs.Common.{◌≡◌, ◌<◌, ◌≤◌, List, [], ◌∷◌, ◌++◌, length, take, ap, refl, sym, ◌∙◌, arith, length-take}
use Rattle.std.specs.List.{Contains}
use Rattle.std.specs.declared.cmp.Ordering.TheVariants.{Less, Equal}
use Rattle.std.proofs.lemmas.Cmp.{tied_itself}
use Rattle.std.proofs.lemmas.List.{take_at}
use Rattle.std.proofs.lemmas.List.Elements.{All-contains, All-head, Contains-append_right}
use Rattle.std.proofs.lemmas.List.Sorted.{Contains-permutation, IsPermutation-sym}
use Rattle.lc_model.specs.Connection.{InDepartureOrder, connections_of, connections_of_calls, departure_cmp}
use Rattle.lc_model.specs.Totals.{departure_cmp_total}
use Rattle.lc_model.specs.declared.call.Call.{Call}
use Rattle.lc_model.specs.declared.connection.Connection.{Connection}
use Rattle.lc_model.specs.declared.key.RunKey.{RunKey}
use Rattle.lc_model.specs.declared.run.Run.{Run}
use Rattle.lc_model.proofs.ConnectionLemmas.{departs_by}
use Rattle.lc_model.proofs.ListLemmas.{AllPairs-head, AllPairs-tail, Contains-flat_map, Contains-here, Contains-nil, StandsIn-flat_map}
use Rattle.lc_model.specs.Versions.History.{Entry}
use Rattle.page_json.specs.declared.page.Page.{Page}
use Rattle.lc_world.specs.Sides.Near.{NoneForgets, NoneIsLeftOut, NoneIsMadeUp, NoneTooEarly, NoneTwice, NotEmpty, NothingIsLost, PagesAreOne}
use Rattle.lc_world.specs.Sides.Side.{Side}
use Rattle.lc_world.proofs.SidesLemmas.LaterLemmas.{next_is_later}
use Rattle.lc_world.proofs.SidesLemmas.OneReplyLemmas.{one_page}

abbrev IsBefore : Connection → Connection → Type 0
IsBefore c d = departure_cmp c d ≡ Less

-- a connection is not before itself
not_before_itself : (c : Connection) → IsBefore c c → ⊥
not_before_itself c before = let clash : Less ≡ Equal = sym before ∙ tied_itself departure_cmp_total c in cc

none_twice_in_order : (before between behind : List Connection) (c : Connection) → InDepartureOrder (before ++ c ∷ between ++ c ∷ behind) → ⊥
none_twice_in_order [] between behind c in_order =
    not_before_itself c (All-contains (IsBefore c) (between ++ c ∷ behind) c (AllPairs-head IsBefore c (between ++ c ∷ behind) in_order)
    (Contains-append_right between (c ∷ behind) c (Contains-here c behind)))
none_twice_in_order (x ∷ before) between behind c in_order =
    none_twice_in_order before between behind c (AllPairs-tail IsBefore x (before ++ c ∷ between ++ c ∷ behind) in_order)

pub none_twice : NoneTwice
none_twice side version before between behind c is = none_twice_in_order before between behind c is.are_connections.in_order

too_early_in_order : (before behind : List Connection) (late early : Connection) → early.dep < late.dep → InDepartureOrder (before ++ late ∷ early ∷ behind) → ⊥
too_early_in_order [] behind late early less in_order =
    let by : late.dep ≤ early.dep = departs_by late early (All-head (IsBefore late) early behind (AllPairs-head IsBefore late (early ∷ behind) in_order)) in
    omega (arith, by, less)
too_early_in_order (x ∷ before) behind late early less in_order =
    too_early_in_order before behind late early less (AllPairs-tail IsBefore x (before ++ late ∷ early ∷ behind) in_order)

pub none_too_early : NoneTooEarly
none_too_early side version before behind late early less is = too_early_in_order before behind late early less is.are_connections.in_order

abbrev of_run : Run → List Connection
of_run r = connections_of_calls r.key r.calls

pub none_is_left_out : NoneIsLeftOut
none_is_left_out side version list run c is runs has =
    Contains-permutation (connections_of is.live) list c is.are_connections.all
    (Contains-flat_map of_run is.live run c ((is.are_live.exactly run).1 runs) has)

pub none_is_made_up : NoneIsMadeUp
none_is_made_up side version list c is there =
    let stands = StandsIn-flat_map of_run is.live c (Contains-permutation list (connections_of is.live) c (IsPermutation-sym (connections_of is.live) list is.are_connections.all) there) in
    record { run = stands.of; runs = (is.are_live.exactly stands.of).0 stands.stands; has = stands.within }

-- two calls make a connection
some_connection : (key : RunKey) (calls : List Call) → 2 ≤ length calls → (c : Connection) × Contains (connections_of_calls key calls) c
some_connection key [] two = absurd (omega (arith, two))
some_connection key (a ∷ []) two = absurd (omega (arith, two))
some_connection key (a ∷ b ∷ rest) two = (_, Contains-here _ _)

pub not_empty : NotEmpty
not_empty side version run runs two is =
    let (c, there) = some_connection run.key run.calls two in
    Contains-nil c (none_is_left_out side version [] run c is runs there)

pub pages_are_one : PagesAreOne
pages_are_one side version departs page is = record {
  of_version = ap (λ (p : Page). p.name.version) is.is;
  other = λ wrong differs is_wrong. differs (one_page side version departs wrong page is_wrong is);
}

pub nothing_is_lost : NothingIsLost
nothing_is_lost before after later = record {
  history = ap (λ (s : Side). take (length before.history) s.history) later.is ∙ take_at before.history later.more (length before.history) refl;
  runs = ap (λ (s : Side). s.runs) later.is;
  doc = ap (λ (s : Side). s.doc) later.is;
  base = ap (λ (s : Side). s.base) later.is;
  base_moment = ap (λ (s : Side). s.base_moment) later.is;
  zone = ap (λ (s : Side). s.zone) later.is;
  accepts_updates = ap (λ (s : Side). s.accepts_updates) later.is;
  cuts_of = ap (λ (s : Side). s.cuts_of) later.is;
}

pub none_forgets : NoneForgets
none_forgets side bytes some next =
    let kept = (nothing_is_lost side (record side { history = [] }) (next_is_later side bytes (record side { history = [] }) next)).history in
    let none : length (take (length side.history) []) ≡ length side.history = ap length kept in
    omega (arith, some, none, length-take {A = Entry} (length side.history) [])
