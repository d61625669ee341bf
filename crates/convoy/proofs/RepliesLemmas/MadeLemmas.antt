-- What is recorded grows by one entry with each exchange.
use Rattle.std.proofs.Common.{◌≡◌, ℕ, List, [], ◌∷◌, ◌++◌, Option, Some, None, refl, ap, ◌∙◌, append-nil, append_assoc, option_map, sym}
use Rattle.lc_model.specs.declared.query.Query.{Query}
use Rattle.connection_uri.specs.Base.{BaseParts}
use Rattle.lc_world.specs.Link.{Tells, TellsMore}
use Rattle.lc_world.specs.declared.entry.Entry.{Entry}
use Rattle.page_client.specs.Request.{Asks, known_at, target_of}
use Rattle.convoy.specs.Exchange.{Got, bytes_of, result_of}
use Rattle.convoy.specs.Replies.Made.{AreEntriesOf, IsEntryOf, Made, TellsAll}

entries_more : (base : BaseParts) (query : Query) (made : List Made) (entries : List Entry) (one : Made) (entry : Entry) → AreEntriesOf base query made entries → IsEntryOf base query one entry →
    AreEntriesOf base query (made ++ one ∷ []) (entries ++ entry ∷ [])
entries_more base query [] [] one entry are is = (is, tt)
entries_more base query [] (e ∷ entries) one entry are is = absurd are
entries_more base query (m ∷ made) [] one entry are is = absurd are
entries_more base query (m ∷ made) (e ∷ entries) one entry are is = (are.0, entries_more base query made entries one entry are.1 is)

-- an exchange is recorded by what was got, whether it was replied to or failed
pub recorded_by : (before after : Option (List Entry)) (authority request : List ℕ) (got : Got) → Tells before after authority request (bytes_of got) (result_of got) → TellsMore before after authority request got
recorded_by before after authority request (Some reply) tells = tells
recorded_by before after authority request None tells = tells

pub grows : (recorded : Option (List Entry)) (entries : List Entry) (entry : Entry) →
    option_map (λ (t : List Entry). t ++ entry ∷ []) (option_map (λ (t : List Entry). t ++ entries) recorded) ≡ option_map (λ (t : List Entry). t ++ (entries ++ entry ∷ [])) recorded
grows None entries entry = refl
grows (Some recorded) entries entry = ap Some (append_assoc recorded entries (entry ∷ []))

pub stays : (recorded : Option (List Entry)) → recorded ≡ option_map (λ (t : List Entry). t ++ []) recorded
stays None = refl
stays (Some recorded) = ap Some (sym (append-nil recorded))

-- nothing is recorded before the first exchange
pub tells_none : (base : BaseParts) (query : Query) (recorded : Option (List Entry)) → TellsAll base query [] recorded recorded
tells_none base query recorded = record { entries = []; are = tt; is = stays recorded }

-- with each exchange one more is recorded
pub tells_more :
    (base : BaseParts) (query : Query) (made : List Made) (one : Made) (request : List ℕ) (start before after : Option (List Entry)) →
    TellsAll base query made start before → Asks base (target_of base query one.want) (known_at query one.want) request →
    Tells before after base.authority request (bytes_of one.got) (result_of one.got) → TellsAll base query (made ++ one ∷ []) start after
tells_more base query made one request start before after all asks tells =
    let more : TellsMore before after base.authority request one.got = recorded_by before after base.authority request one.got tells in
    let entry : Entry = record { authority = base.authority; request = request; reply = more.reply } in
    record {
      entries = all.entries ++ entry ∷ [];
      are = entries_more base query made all.entries one entry all.are (record { authority = refl; asks = asks; reply = more.is_given });
      is = more.is ∙ ap (option_map (λ (recorded : List Entry). recorded ++ entry ∷ [])) all.is ∙ grows start all.entries entry;
    }
