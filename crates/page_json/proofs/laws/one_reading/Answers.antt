-- Readings have one result.
use Rattle.page_json.proofs.OneResultLemmas.{one_doc_of_bytes, one_page_of_bytes}
use Rattle.page_json.proofs.laws.one_reading.Goals as goal

pub returns-clause-page : goal.returns-clause-page
returns-clause-page c = λ base bytes a b h k. (one_page_of_bytes base bytes).same a b h k

pub returns-clause-stops : goal.returns-clause-stops
returns-clause-stops c = λ bytes a b h k. (one_doc_of_bytes bytes).same a b h k
