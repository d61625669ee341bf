-- That a link records requests, one after the other.
use Rattle.std.proofs.Common.{◌≡◌, ℕ, List, [], ◌∷◌, ◌++◌, length, map, Option, Some, None, refl, ap, ap₂, sym, subst, ◌∙◌}
use Rattle.std.specs.List.{slice_get}
use Rattle.std.specs.Option.{option_map}
use Rattle.std.proofs.lemmas.List.{append-nil, append_assoc, map-append}
use Rattle.std.proofs.lemmas.List.Elements.{All-append, All-cons, All-nil}
use Rattle.lc_model.specs.declared.query.Query.{Query}
use Rattle.connection_uri.specs.Base.{BaseParts}
use Rattle.lc_world.specs.Link.{TellsMore}
use Rattle.lc_world.specs.declared.entry.Entry.{Entry}
use Rattle.page_client.specs.Client.{shown}
use Rattle.page_client.specs.declared.want.Want.{Want}
use Rattle.convoy.specs.declared.member.Member.{Member}
use Rattle.convoy.specs.Agreement.Names.{Round}
use Rattle.convoy.specs.Agreement.Requests.{TellsAsked, TellsRequests, request_of, requests_of}

abbrev asked_at : List ℕ → Entry → Type 0
asked_at authority entry = entry.authority ≡ authority

nothing_recorded : (recorded : Option (List Entry)) → recorded ≡ option_map (λ (entries : List Entry). entries ++ []) recorded
nothing_recorded None = refl
nothing_recorded (Some entries) = ap Some (sym (append-nil entries))

-- nothing was asked
pub tells_nothing : (recorded : Option (List Entry)) (base : BaseParts) (query : Query) → TellsAsked recorded recorded base query []
tells_nothing recorded base query = record { entries = []; are = refl; authorities = All-nil (asked_at base.authority); is = nothing_recorded recorded }

-- one thing was asked
pub tells_one : (before after : Option (List Entry)) (base : BaseParts) (query : Query) (want : Want) (request : List ℕ) (given : Option (List ℕ)) → request ≡ request_of base query want →
    TellsMore before after base.authority request given → TellsAsked before after base query (want ∷ [])
tells_one before after base query want request given same more =
    let entry : Entry = record { authority = base.authority; request = request; reply = more.reply } in
    record {
      entries = entry ∷ [];
      are = ap (λ (r : List ℕ). r ∷ []) same;
      authorities = All-cons (asked_at base.authority) entry [] refl (All-nil (asked_at base.authority));
      is = more.is;
    }

recorded_then : (recorded : Option (List Entry)) (first second : List Entry) →
    option_map (λ (entries : List Entry). entries ++ second) (option_map (λ (entries : List Entry). entries ++ first) recorded) ≡ option_map (λ (entries : List Entry). entries ++ (first ++ second)) recorded
recorded_then None first second = refl
recorded_then (Some entries) first second = ap Some (append_assoc entries first second)

-- and then other requests
pub requests_then : (a b c : Option (List Entry)) (authority : List ℕ) (first second : List (List ℕ)) → TellsRequests a b authority first → TellsRequests b c authority second →
    TellsRequests a c authority (first ++ second)
requests_then a b c authority first second one two = record {
  entries = one.entries ++ two.entries;
  are = map-append (λ (entry : Entry). entry.request) one.entries two.entries ∙ ap₂ (λ (x y : List (List ℕ)). x ++ y) one.are two.are;
  authorities = All-append (asked_at authority) one.entries two.entries one.authorities two.authorities;
  is = two.is ∙ ap (option_map (λ (entries : List Entry). entries ++ two.entries)) one.is ∙ recorded_then a one.entries two.entries;
}

-- and then more was asked
pub tells_then : (a b c : Option (List Entry)) (base : BaseParts) (query : Query) (first second : List Want) → TellsAsked a b base query first → TellsAsked b c base query second →
    TellsAsked a c base query (first ++ second)
tells_then a b c base query first second one two =
    subst (TellsRequests a c base.authority) (sym (map-append (request_of base query) first second))
    (requests_then a b c base.authority (map (request_of base query) first) (map (request_of base query) second) one two)

-- nobody asked
pub no_requests : (recorded : Option (List Entry)) (base : BaseParts) (members : List Member) → TellsRequests recorded recorded base.authority (requests_of base members [])
no_requests recorded base [] = record { entries = []; are = refl; authorities = All-nil (asked_at base.authority); is = nothing_recorded recorded }
no_requests recorded base (member ∷ members) = record { entries = []; are = refl; authorities = All-nil (asked_at base.authority); is = nothing_recorded recorded }

-- the requests of one client more
pub requests_more : (base : BaseParts) (members : List Member) (rounds : List Round) (member : Member) (more : Round) → slice_get members (length rounds) ≡ Some member →
    requests_of base members (rounds ++ more ∷ []) ≡ requests_of base members rounds ++ map (request_of base (shown member.client).query) more.asked
requests_more base [] rounds member more has = absurd (cc)
requests_more base (first ∷ []) [] member more has =
    let same : first ≡ member = cc in
    append-nil (map (request_of base (shown first.client).query) more.asked) ∙ ap (λ (m : Member). map (request_of base (shown m.client).query) more.asked) same
requests_more base (first ∷ second ∷ members) [] member more has =
    let same : first ≡ member = cc in
    append-nil (map (request_of base (shown first.client).query) more.asked) ∙ ap (λ (m : Member). map (request_of base (shown m.client).query) more.asked) same
requests_more base (first ∷ members) (round ∷ rounds) member more has =
    let own = map (request_of base (shown first.client).query) round.asked in
    ap (λ (l : List (List ℕ)). map (request_of base (shown first.client).query) round.asked ++ l) (requests_more base members rounds member more has)
    ∙ sym (append_assoc own (requests_of base members rounds) (map (request_of base (shown member.client).query) more.asked))
