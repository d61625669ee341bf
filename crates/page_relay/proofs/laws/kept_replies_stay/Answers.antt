use Rattle.page_relay.proofs.DocumentLemmas.{only_documents}
use Rattle.page_relay.proofs.FitsLemmas.{fits_later}
use Rattle.page_relay.proofs.laws.kept_replies_stay.Goals as goal

pub returns-clause-later : goal.returns-clause-later
returns-clause-later c = fits_later

pub returns-clause-documents : goal.returns-clause-documents
returns-clause-documents c = only_documents
