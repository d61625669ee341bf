-- That a link records what is asked for, one thing after the other.
use Rattle.std.proofs.Common.{◌≡◌, ℕ, List, [], ◌∷◌, ◌++◌, Option, refl, ap, ap₂, sym, ◌∙◌}
use Rattle.std.specs.Option.{option_map}
use Rattle.std.proofs.lemmas.List.{map-append}
use Rattle.std.proofs.lemmas.List.Elements.{All-append, All-cons, All-nil}
use Rattle.lc_model.specs.declared.query.Query.{Query}
use Rattle.connection_uri.specs.Base.{BaseParts}
use Rattle.lc_world.specs.Link.{TellsMore}
use Rattle.lc_world.specs.declared.entry.Entry.{Entry}
use Rattle.page_client.specs.declared.want.Want.{Want}
use Rattle.convoy.specs.Agreement.Requests.{TellsAsked, request_of}
use Rattle.convoy.proofs.AgreementLemmas.RepliesLemmas.{recorded_no_more, recorded_then}

abbrev asked_at : List ℕ → Entry → Type 0
asked_at authority entry = entry.authority ≡ authority

-- nothing was asked
pub asked_nothing : (recorded : Option (List Entry)) (base : BaseParts) (query : Query) → TellsAsked recorded recorded base query []
asked_nothing recorded base query = record { entries = []; are = refl; authorities = All-nil (asked_at base.authority); is = recorded_no_more recorded }

-- one thing was asked
pub asked_one : (before after : Option (List Entry)) (base : BaseParts) (query : Query) (want : Want) (request : List ℕ) (given : Option (List ℕ)) → request ≡ request_of base query want →
    TellsMore before after base.authority request given → TellsAsked before after base query (want ∷ [])
asked_one before after base query want request given same more =
    let entry : Entry = record { authority = base.authority; request = request; reply = more.reply } in
    record {
      entries = entry ∷ [];
      are = ap (λ (r : List ℕ). r ∷ []) same;
      authorities = All-cons (asked_at base.authority) entry [] refl (All-nil (asked_at base.authority));
      is = more.is;
    }

-- and then other things
pub asked_then : (a b c : Option (List Entry)) (base : BaseParts) (query : Query) (first second : List Want) → TellsAsked a b base query first → TellsAsked b c base query second →
    TellsAsked a c base query (first ++ second)
asked_then a b c base query first second one two = record {
  entries = one.entries ++ two.entries;
  are =
      map-append (λ (entry : Entry). entry.request) one.entries two.entries
      ∙ ap₂ (λ (x y : List (List ℕ)). x ++ y) one.are two.are
      ∙ sym (map-append (request_of base query) first second);
  authorities = All-append (asked_at base.authority) one.entries two.entries one.authorities two.authorities;
  is = two.is ∙ ap (option_map (λ (recorded : List Entry). recorded ++ two.entries)) one.is ∙ recorded_then a one.entries two.entries;
}
