-- What is kept of the reply with the stops document.
use Rattle.std.proofs.Common.{◌≡◌, ℕ, List, [], Option, Some, None, Result, Ok, Err, inl, inr, refl, subst, Bor, OnOk}
use Rattle.std.specs.Option.{option_copied}
use Rattle.lc_model.specs.declared.connection.Connection.{Connection}
use Rattle.lc_model.specs.declared.doc.StopsDoc.{StopsDoc}
use Rattle.page_client.specs.Client.{AfterStops, StandsFor, shown}
use Rattle.page_client.specs.Stops.{IsStopsReply}
use Rattle.page_client.specs.declared.client.Client.{Client}
use Rattle.page_client.specs.declared.fault.PeerFault.{PeerFault}
use Rattle.rounds_client.specs.Given.{KeepsDoc, TakesDoc, Was}

-- where the document has both ends of the question, the client stands for it, and it is kept
pub keeps_doc : (old new : Client) (reply : List ℕ) (kept : Option StopsDoc) (said : Result StopsDoc PeerFault) → AfterStops old reply said new →
    ((doc : StopsDoc) (taken : List Connection) → StandsFor new doc taken → kept ≡ Some doc) → KeepsDoc (shown old).query said kept
keeps_doc old new reply kept (Ok doc) (inl (no_from, is)) keeps = λ from to. absurd (no_from from)
keeps_doc old new reply kept (Ok doc) (inr (inl (from, no_to, is))) keeps = λ has to. absurd (no_to to)
keeps_doc old new reply kept (Ok doc) (inr (inr (from, to, is, stands))) keeps = λ has both. keeps doc [] stands
keeps_doc old new reply kept (Err fault) is keeps = tt

pub takes_doc : {A E : Type 0} (old new : Client) (reply : List ℕ) (given now : Was) (result : Result A E) → (said : Result StopsDoc PeerFault) → IsStopsReply reply said → AfterStops old reply said new →
    OnOk result ((doc : StopsDoc) (taken : List Connection) → StandsFor new doc taken → now.doc ≡ Some doc) → now.pages ≡ given.pages → OnOk result (TakesDoc old new reply given now)
takes_doc old new reply given now (Ok done) said says after keeps same = record { said = said; says = says; after = after; doc = keeps_doc old new reply now.doc said after keeps; pages = same }
takes_doc old new reply given now (Err fault) said says after keeps same = tt

pub copied : {A : Type 0} (o : Option (Bor A)) (b : Bor A) (a : A) → option_copied o ≡ Some a → o ≡ Some b → b.now ≡ a
copied {A} o b a is at = let there : option_copied (Some b) ≡ Some a = subst (λ (p : Option (Bor A)). option_copied p ≡ Some a) at is in cc

pub none_copied : {A : Type 0} (o : Option (Bor A)) (a : A) → option_copied o ≡ Some a → ((b : Bor A) → o ≡ Some b → ⊥) → ⊥
none_copied None a is never = absurd (cc)
none_copied (Some b) a is never = never b refl
