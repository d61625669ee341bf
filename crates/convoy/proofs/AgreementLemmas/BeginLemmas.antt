-- Convoys that begin, clients that come, and sides that admit messages.
use Rattle.std.proofs.Common.{[], ◌∷◌, ◌++◌, sym, subst}
use Rattle.std.proofs.lemmas.List.Elements.{All-nil}
use Rattle.convoy.specs.ClientLaws.Published.{IsOwnPage}
use Rattle.convoy.specs.ClientLaws.Steps.{BeginsInAgreement}
use Rattle.convoy.specs.State.{ConvoyState}
use Rattle.convoy.specs.Agreement.Agreement.{FitsConvoy}
use Rattle.convoy.specs.Agreement.Laws.{AddedAgrees, LaterAgrees, NoneAgrees}
use Rattle.convoy.proofs.AgreementLemmas.MemberLemmas.{pages_later}
use Rattle.convoy.proofs.AgreementLemmas.PlaceLemmas.{all_later, place_more}

pub none_agrees : NoneAgrees
none_agrees side base capacity = record { clients = tt; pages = All-nil (IsOwnPage side) }

pub added_agrees : BeginsInAgreement → AddedAgrees
added_agrees begins side old new so_far query fits adds =
    subst (λ (convoy : ConvoyState). FitsConvoy side convoy (so_far ++ [] ∷ [])) (sym adds.is) (record {
      clients = place_more side old.members so_far adds.member [] fits.clients (begins side query adds.member.client adds.begins);
      pages = fits.pages;
    })

pub later_agrees : LaterAgrees
later_agrees before after convoy so_far valid later fits = record {
  clients = all_later before after convoy.members so_far valid later fits.clients;
  pages = pages_later before after convoy.kept.pages valid later fits.pages;
}
