-- The bytes say one page at most.
use Rattle.std.proofs.Common.{Ok, Option, subst}
use Rattle.std.specs.Option.{IfSome}
use Rattle.page_json.proofs.ObjectMembersLemmas.OneReadingLemmas.{meets_one}
use Rattle.page_json.proofs.OneResultLemmas.{one_page_of_bytes}
use Rattle.page_json.specs.PageReading.{page_of_bytes}
use Rattle.page_json.specs.declared.page.Page.{Page}
use Rattle.page_json.proofs.page_reading.read_page.Goals as goal

pub returns-in-Some-clause-exact : goal.returns-in-Some-clause-exact
returns-in-Some-clause-exact c = λ page says.
    let base = c.args.base.now in
    let bytes = c.args.bytes.now in
    let Says : Option Page → Type 0 = λ read. IfSome read (λ (p : Page). page_of_bytes base bytes (Ok p)) in
    let said = subst Says c.in-Some.is c.in_ok-page.ensures.said in
    (one_page_of_bytes base bytes).same (Ok c.in-Some.page) (Ok page) said says

pub returns-in-None-clause-exact : goal.returns-in-None-clause-exact
returns-in-None-clause-exact c = λ page says.
    let base = c.args.base.now in
    let bytes = c.args.bytes.now in
    meets_one (page_of_bytes base bytes) page c.read_tree.result (one_page_of_bytes base bytes) says c.read_tree.ensures.said
