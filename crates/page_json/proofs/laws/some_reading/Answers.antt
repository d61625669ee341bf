-- Readings have a result.
use Rattle.page_json.proofs.SomeResultLemmas.{some_doc_of_bytes, some_page_of_bytes}
use Rattle.page_json.proofs.laws.some_reading.Goals as goal

pub returns-clause-page : goal.returns-clause-page
returns-clause-page c = some_page_of_bytes

pub returns-clause-stops : goal.returns-clause-stops
returns-clause-stops c = some_doc_of_bytes
