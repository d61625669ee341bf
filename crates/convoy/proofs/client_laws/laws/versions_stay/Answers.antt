use Rattle.convoy.proofs.ClientLawsLemmas.AnsweredLemmas as answers
use Rattle.convoy.proofs.ClientLawsLemmas.FitsLemmas as fits
use Rattle.convoy.proofs.ClientLawsLemmas.PublishedLemmas as published
use Rattle.convoy.proofs.ClientLawsLemmas.WantsLemmas as wants
use Rattle.convoy.proofs.client_laws.laws.versions_stay.Goals as goal

pub returns : goal.returns
returns c = record {
  published = published.published_stays;
  answers = answers.answers_stay;
  needed = answers.needed_stays;
  wants = wants.wants_stay;
  pages = fits.own_pages_stay;
  clients = fits.fits_stays;
}
