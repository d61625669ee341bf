use Rattle.page_json.proofs.ValidResultLemmas.{valid_page_of_bytes, valid_doc_of_bytes}
use Rattle.page_json.proofs.laws.readings_are_valid.Goals as goal

pub returns-clause-page : goal.returns-clause-page
returns-clause-page c = valid_page_of_bytes

pub returns-clause-stops : goal.returns-clause-stops
returns-clause-stops c = valid_doc_of_bytes
