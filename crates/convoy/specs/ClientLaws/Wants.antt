-- What a client of a question wants of a side, one after the other.
use Rattle.std.specs.Prelude.{◌≡◌, ℕ, ◌⊎◌, List, [], ◌∷◌, map, Option, Some, None}
use Rattle.lc_model.specs.Stop.{HasStop}
use Rattle.lc_model.specs.declared.doc.StopsDoc.{StopsDoc}
use Rattle.lc_model.specs.declared.page.PageName.{PageName}
use Rattle.lc_model.specs.declared.query.Query.{Query}
use Rattle.page_client.specs.Shown.{IsRefusal}
use Rattle.page_client.specs.declared.fault.QueryFault.{QueryFault}
use Rattle.page_client.specs.declared.outcome.Outcome.{Outcome}
use Rattle.page_client.specs.declared.outcome.Outcome.TheVariants as outcomes
use Rattle.page_client.specs.declared.want.Want.{Want}
use Rattle.page_client.specs.declared.want.Want.TheVariants as wants
use Rattle.lc_world.specs.Sides.Side.{Side}
use Rattle.convoy.specs.ClientLaws.Answered.{NeededAt}

-- the stops document has the stop where the question begins and the one where it ends
pub record HasEnds (doc : StopsDoc) (query : Query) : Type 0 where
  pub from : HasStop doc.stops query.from
  pub to : HasStop doc.stops query.to

-- the time gate, the stops document, and then pages of these names
abbrev pub wants_of : List PageName → List Want
wants_of names = wants.Gate ∷ wants.Stops ∷ map wants.Page names

-- the question is refused at once, and nothing is wanted
pub record IsRefusedAtOnce (query : Query) (wanted : List Want) : Type 0 where
  pub fault : QueryFault
  pub is_refusal : IsRefusal query (Some fault)
  pub are : wanted ≡ []

-- the stops document lacks an end of the question, and no page is wanted
pub record IsRefusedByStops (side : Side) (query : Query) (wanted : List Want) : Type 0 where
  pub accepted : IsRefusal query None
  pub lacks : HasEnds side.doc query → ⊥
  pub are : wanted ≡ wants_of []

-- the needed pages are wanted
pub record IsAnswered (side : Side) (version : ℕ) (query : Query) (wanted : List Want) : Type 0 where
  pub accepted : IsRefusal query None
  pub ends : HasEnds side.doc query
  pub names : List PageName
  pub are_needed : NeededAt side version query names
  pub are : wanted ≡ wants_of names

-- What a client of the question wants where its version is this one: nothing where the question is refused at once. It wants the time
-- gate and the stops document where this lacks an end of the question. Else it wants these two and then the needed pages.
abbrev pub AreWants : Side → ℕ → Query → List Want → Type 0
AreWants side version query wanted = IsRefusedAtOnce query wanted ⊎ IsRefusedByStops side query wanted ⊎ IsAnswered side version query wanted

-- the version, if there is one, is this one
abbrev pub IsItsVersion : Option ℕ → ℕ → Type 0
IsItsVersion None version = Unit {0}
IsItsVersion (Some own) version = own ≡ version

-- it ended with an answer or a refusal, and by no fault
abbrev pub IsNoFault : Option Outcome → Type 0
IsNoFault None = ⊥
IsNoFault (Some (outcomes.Found journey)) = Unit {0}
IsNoFault (Some outcomes.NoJourney) = Unit {0}
IsNoFault (Some (outcomes.Refused fault)) = Unit {0}
IsNoFault (Some (outcomes.LinkFault before after)) = ⊥
IsNoFault (Some (outcomes.PeerWrong reply fault)) = ⊥
