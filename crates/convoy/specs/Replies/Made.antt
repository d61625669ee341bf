-- The exchanges that a client made, and the entries by which a link records them.
use Rattle.std.specs.Prelude.{◌≡◌, ◌⊎◌, ℕ, List, [], ◌∷◌, ◌++◌, Option, Some, None, option_map}
use Rattle.lc_model.specs.declared.query.Query.{Query}
use Rattle.connection_uri.specs.Base.{BaseParts}
use Rattle.lc_world.specs.Link.{recorded_of}
use Rattle.lc_world.specs.declared.entry.Entry.{Entry}
use Rattle.lc_world.specs.declared.entry.RecordedReply.TheVariants.{Hidden}
use Rattle.page_client.specs.Request.{Asks, known_at, target_of}
use Rattle.page_client.specs.declared.want.Want.{Want}

-- an exchange: what the client wanted, and the reply that it got, or none where the exchange failed
pub record Made : Type 0 where
  pub want : Want
  pub got : Option (List ℕ)

-- one that was replied to
abbrev pub reply_to : Want → List ℕ → Made
reply_to want reply = record { want = want; got = Some reply }

-- one that failed
abbrev pub failure_of : Want → Made
failure_of want = record { want = want; got = None }

-- The entry records the exchange. It says whom the client asked, by the request for what it wanted, and the reply or the failure,
-- unless it hides that.
pub record IsEntryOf (base : BaseParts) (query : Query) (made : Made) (entry : Entry) : Type 0 where
  pub authority : entry.authority ≡ base.authority
  pub asks : Asks base (target_of base query made.want) (known_at query made.want) entry.request
  pub reply : (entry.reply ≡ Hidden) ⊎ (entry.reply ≡ recorded_of made.got)

-- there is one entry for each exchange, in their order
abbrev pub AreEntriesOf : BaseParts → Query → List Made → List Entry → Type 0
AreEntriesOf base query [] [] = Unit {0}
AreEntriesOf base query [] (entry ∷ entries) = ⊥
AreEntriesOf base query (made ∷ more) [] = ⊥
AreEntriesOf base query (made ∷ more) (entry ∷ entries) = IsEntryOf base query made entry × AreEntriesOf base query more entries

-- where the link records exchanges, it recorded these, after those before
pub record TellsAll (base : BaseParts) (query : Query) (made : List Made) (before after : Option (List Entry)) : Type 0 where
  pub entries : List Entry
  pub are : AreEntriesOf base query made entries
  pub is : after ≡ option_map (λ (recorded : List Entry). recorded ++ entries) before
