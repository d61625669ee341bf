use Rattle.lc_model.specs.Leg.{in_time}
use Rattle.back_scan.specs.Kept.{kept_of}
use Rattle.back_scan.proofs.RoomLemmas.{adds_nothing, stands-added}
use Rattle.back_scan.proofs.scan.BackScan.prepare.Goals as goal

pub returns-in_err-numbers-clause-same : goal.returns-in_err-numbers-clause-same
returns-in_err-numbers-clause-same c =
    let scan = c.args.self.now in
    let kept = kept_of scan.progress in
    λ query doc taken s. record {
      same_query = s.same_query;
      same_doc = s.same_doc;
      asked = s.asked;
      walks = s.walks;
      stands = stands-added query doc scan.runs c.number_each.new.runs kept kept (in_time query taken) c.number_each.ensures.grows scan.numbered (adds_nothing kept) s.stands;
    }

pub returns-in_err-make_room-clause-same : goal.returns-in_err-make_room-clause-same
returns-in_err-make_room-clause-same c =
    let scan = c.args.self.now in
    λ query doc taken s. record {
      same_query = s.same_query;
      same_doc = s.same_doc;
      asked = s.asked;
      walks = s.walks;
      stands = stands-added query doc scan.runs c.number_each.new.runs (kept_of scan.progress) (kept_of c.make_room.new.self) (in_time query taken)
          c.number_each.ensures.grows scan.numbered c.make_room.ensures.same s.stands;
    }

pub returns-clause-same : goal.returns-clause-same
returns-clause-same c =
    let scan = c.args.self.now in
    λ query doc taken s. record {
      same_query = s.same_query;
      same_doc = s.same_doc;
      asked = s.asked;
      walks = s.walks;
      stands = stands-added query doc scan.runs c.number_each.new.runs (kept_of scan.progress) (kept_of c.make_room.new.self) (in_time query taken)
          c.number_each.ensures.grows scan.numbered c.make_room.ensures.same s.stands;
    }
