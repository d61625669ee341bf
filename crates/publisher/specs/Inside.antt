-- What the fields of a publisher stand for, and what holds of them.
use Rattle.std.specs.Prelude.{◌≡◌, ◌≤◌, List, ℕ, length}
use Rattle.std.specs.List.{All}
use Rattle.lc_model.specs.Call.{InSequence}
use Rattle.lc_model.specs.Run.{InKeyOrder}
use Rattle.lc_model.specs.declared.run.Run.{Run}
use Rattle.page_json.specs.Sound.{IsSoundDoc}
use Rattle.page_json.specs.Tree.{stops_text_of}
use Rattle.publisher.specs.Cuts.{KeepsCuts}
use Rattle.publisher.specs.Held.{Held, side_of}
use Rattle.publisher.specs.declared.publisher.Publisher.TheInside.{Inside}

-- what the fields hold
abbrev pub held_of : {G : Type 0} → Inside G → Held G
held_of fields = record {
  cutting = fields.cutting;
  store = fields.store;
  doc = fields.doc;
  base = fields.options.base;
  accepts_updates = fields.options.accept_updates;
}

-- The store has the stops of the document, its runs are in order, as are the sequences of each. The cuts that are cached are those of
-- their versions, of 16 at most. The text is that of the document, which is as its type has it.
pub record IsKept {G : Type 0} (cuts_of : G → List ℕ → List ℕ) (fields : Inside G) : Type 0 where
  pub stops : fields.store.stops ≡ fields.doc.stops
  pub runs : InKeyOrder fields.store.runs
  pub calls : All (λ (run : Run). InSequence run.calls) fields.store.runs
  pub cuts : KeepsCuts (side_of cuts_of (held_of fields)) fields.cuts
  pub few : length fields.cuts ≤ 16
  pub text : fields.stops_text.items ≡ stops_text_of fields.options.base fields.doc
  pub sound : IsSoundDoc fields.doc
