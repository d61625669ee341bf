use Rattle.std.proofs.Common.{List, ℕ, ◌++◌, ◌<◌, length, sym, subst}
use Rattle.std.specs.List.{All}
use Rattle.lc_model.specs.Connection.{InDepartureOrder}
use Rattle.lc_model.specs.Leg.{in_time}
use Rattle.lc_model.specs.declared.connection.Connection.{Connection}
use Rattle.csa_scan.specs.Numbers.{AreNumbersOf}
use Rattle.csa_scan.specs.Stands.{IsAsked}
use Rattle.csa_scan.specs.Walks.{AreWalks}
use Rattle.csa_scan.proofs.BegunLemmas.{carried, numbers_known}
use Rattle.back_scan.specs.Kept.{kept_of}
use Rattle.back_scan.specs.Stands.{Stands}
use Rattle.back_scan.proofs.scan.BackScan.take_back.Goals as goal

pub take_each-requires-clause-known : goal.take_each-requires-clause-known
take_each-requires-clause-known c =
    let room = c.in_ok-numbers.ensures.room in
    let n = length c.prepare.new.self.progress.alightings.items in
    let P : List ℕ → Type 0 = λ numbers. All (λ k. k < length c.prepare.new.self.progress.alightings.items) numbers in
    subst P (sym c.as_slice.ensures.value)
    (numbers_known c.prepare.new.self.runs c.as_slice-list.result.now c.in_ok-numbers.numbers.items n c.in_ok-numbers.ensures.numbers room)

pub returns-clause-ok : goal.returns-clause-ok
returns-clause-ok c =
    let mid = c.prepare.new.self in
    let list = c.as_slice-list.result.now in
    let same = c.as_slice-list.ensures.value in
    let N : List ℕ → Type 0 = λ numbers. AreNumbersOf mid.runs list numbers in
    let are = subst N (sym c.as_slice.ensures.value) c.in_ok-numbers.ensures.numbers in
    λ query doc taken in_order old.
    let s = c.prepare.ensures.same query doc taken old in
    let O : List Connection → Type 0 = λ l. InDepartureOrder (l ++ taken) in
    let asked = carried IsAsked query mid.query doc mid.doc (sym s.same_query) (sym s.same_doc) s.asked in
    let stood = carried (λ q d. Stands q d mid.runs (kept_of mid.progress) (in_time q taken)) query mid.query doc mid.doc (sym s.same_query) (sym s.same_doc) s.stands in
    let near = carried (λ q d. AreWalks q d mid.walks) query mid.query doc mid.doc (sym s.same_query) (sym s.same_doc) s.walks in
    let now = c.take_each.ensures.stands mid.runs taken asked near c.in_ok-numbers.ensures.distinct are (subst O (sym same) in_order) c.as_slice-list.ensures.forward stood in
    let L : List Connection → Type 0 = λ l. Stands query doc mid.runs (kept_of c.take_each.new.self) (in_time query (l ++ taken)) in
    record {
      same_query = s.same_query;
      same_doc = s.same_doc;
      asked = s.asked;
      walks = s.walks;
      stands = subst L same (carried (λ q d. Stands q d mid.runs (kept_of c.take_each.new.self) (in_time q (list ++ taken))) mid.query query mid.doc doc s.same_query s.same_doc now);
    }
