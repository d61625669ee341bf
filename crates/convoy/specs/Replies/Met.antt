-- What the clients of a convoy received in their turns, whoever replied: what each wanted, and by which reply it went on.
use Rattle.std.specs.Prelude.{◌≡◌, ◌==◌, ◌&&◌, ◌-◌, ◌≤◌, ℕ, Bool, true, false, List, [], ◌∷◌, ◌++◌, length, map, filter, is_none, Option, Some, None, Ok, option_map, slice_get}
use Rattle.std.specs.List.{All}
use Rattle.lc_io.specs.Counts.{RoseBy}
use Rattle.lc_model.specs.declared.page.PageName.{PageName}
use Rattle.lc_model.specs.declared.query.Query.{Query}
use Rattle.connection_uri.specs.Base.{BaseParts}
use Rattle.lc_world.specs.declared.entry.Entry.{Entry}
use Rattle.page_client.specs.Page.{IsPageReply}
use Rattle.page_client.specs.declared.want.Want.TheVariants as wants
use Rattle.page_json.specs.declared.page.Page.{Page}
use Rattle.convoy.specs.Replies.Made.{IsEntryOf, Made, reply_to}

-- What a client received for one of its wants. It is the reply or the failure of its own exchange, or the reply that said a cached page.
-- The link's count of faults was the one before it and the other after it. Clients are numbered from 1.
pub record Met : Type 0 where
  pub client : ℕ
  pub made : Made
  pub asked : Bool
  pub low : ℕ
  pub high : ℕ

-- it is one of the client
abbrev pub is_by : ℕ → Met → Bool
is_by client met = met.client == client

-- what the client received
abbrev pub met_by : ℕ → List Met → List Made
met_by client all = map (λ (met : Met). met.made) (filter (is_by client) all)

-- how many exchanges it made
abbrev pub exchanges_by : ℕ → List Met → ℕ
exchanges_by client all = length (filter (λ (met : Met). is_by client met && met.asked) all)

-- all exchanges
abbrev pub asked_in : List Met → List Met
asked_in all = filter (λ (met : Met). met.asked) all

-- how many of them failed
abbrev pub failures_in : List Met → ℕ
failures_in all = length (filter (λ (met : Met). is_none met.made.got) all)

-- The count of a link's faults went along all this from the one to the other. Nothing came between, each exchange that failed increased it, and
-- a cached page left it.
abbrev pub CountAlong : ℕ → ℕ → List Met → Type 0
CountAlong faults now [] = faults ≡ now
CountAlong faults now (met ∷ more) =
    (met.low ≡ faults) × (met.asked ≡ false → met.high ≡ met.low) × RoseBy (failures_in (met ∷ [])) met.low met.high × CountAlong met.high now more

-- an exchange of the client failed, in which the count went from the one to the other
pub record HasFailedBetween (client low high : ℕ) (all : List Met) : Type 0 where
  pub place : ℕ
  pub exchange : Met
  pub there : slice_get all place ≡ Some exchange
  pub own : exchange.client ≡ client
  pub failed : exchange.made.got ≡ None
  pub low_is : exchange.low ≡ low
  pub high_is : exchange.high ≡ high

-- It is one of a client among so many.
pub record IsByOneOf (clients : ℕ) (met : Met) : Type 0 where
  pub from_one : 1 ≤ met.client
  pub at_most : met.client ≤ clients

-- A cached page was received by the reply that said it: that of an exchange before.
pub record WasKept (base : BaseParts) (before : List Met) (made : Made) : Type 0 where
  pub name : PageName
  pub reply : List ℕ
  pub page : Page
  pub is : made ≡ reply_to (wants.Page name) reply
  pub says : IsPageReply base name reply (Ok page)
  pub place : ℕ
  pub exchange : Met
  pub there : slice_get before place ≡ Some exchange
  pub asked : exchange.asked ≡ true
  pub same : exchange.made ≡ made

-- after those before, whatever was received without an exchange is a cached page
abbrev pub TakeKept : BaseParts → List Met → List Met → Type 0
TakeKept base before [] = Unit {0}
TakeKept base before (met ∷ more) = (met.asked ≡ false → WasKept base before met.made) × TakeKept base (before ++ met ∷ []) more

-- the entry records the exchange of one who asked one of these questions
pub record IsRecordedOf (base : BaseParts) (questions : List Query) (met : Met) (entry : Entry) : Type 0 where
  pub query : Query
  pub asks : slice_get questions (met.client - 1) ≡ Some query
  pub tells : IsEntryOf base query met.made entry

-- there is one entry for each exchange, in their order
abbrev pub AreRecordedOf : BaseParts → List Query → List Met → List Entry → Type 0
AreRecordedOf base questions [] [] = Unit {0}
AreRecordedOf base questions [] (entry ∷ entries) = ⊥
AreRecordedOf base questions (met ∷ more) [] = ⊥
AreRecordedOf base questions (met ∷ more) (entry ∷ entries) = IsRecordedOf base questions met entry × AreRecordedOf base questions more entries

-- where the link records exchanges, it recorded these, after those before
pub record TellsMet (base : BaseParts) (questions : List Query) (exchanges : List Met) (before after : Option (List Entry)) : Type 0 where
  pub entries : List Entry
  pub are : AreRecordedOf base questions exchanges entries
  pub is : after ≡ option_map (λ (recorded : List Entry). recorded ++ entries) before

-- The clients of these questions received all this over a link. It records each exchange, where it records any, and its count of faults
-- went from the one to the other.
pub record AreMet (base : BaseParts) (questions : List Query) (before after : Option (List Entry)) (faults now_faults : ℕ) (all : List Met) : Type 0 where
  pub by_clients : All (IsByOneOf (length questions)) all
  pub kept : TakeKept base [] all
  pub recorded : TellsMet base questions (asked_in all) before after
  pub counted : CountAlong faults now_faults all
