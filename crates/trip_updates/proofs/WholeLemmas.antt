-- A message that has its header is what its fields say.
use Rattle.std.proofs.Common.{◌≡◌, Bool, true, false, List, Option, Some, None, Result, Ok, Err, refl, sym, ap, ap₂, ◌∙◌}
use Rattle.std.specs.Prelude.{is_some, option_map, unwrap_or, map, if◌then◌else◌, IfOk, IfErr}
use Rattle.lc_model.specs.declared.versions.update.Update.{Update}
use Rattle.trip_updates.specs.declared.entity.Entity.{Entity}
use Rattle.trip_updates.specs.declared.fault.Part.TheVariants as parts
use Rattle.trip_updates.specs.declared.fault.RtFault.{RtFault}
use Rattle.trip_updates.specs.declared.fault.RtFault.TheVariants as faults
use Rattle.trip_updates.specs.declared.header.Head.{Head}
use Rattle.trip_updates.specs.Faults.{complete}
use Rattle.trip_updates.specs.Meaning.{entity_of, head_of, no_head, update_with}
use Rattle.trip_updates.specs.Shows.{Answers, ShowsUpdate}
use Rattle.trip_updates.specs.Tree.{Tree, last_message, messages}

some_mapped : {X Y : Type 0} (f : X → Y) (o : Option X) (y : Y) → Some y ≡ option_map f o → is_some o ≡ true
some_mapped f None y e = absurd cc
some_mapped f (Some x) y e = refl

module _ (tree : Tree) (head : Head) (entities : List Entity) where
  by_test : (result : Result Update RtFault) (t : Bool) → is_some (last_message 1 tree) ≡ t → Some head ≡ option_map head_of (last_message 1 tree) → entities ≡ map entity_of (messages 2 tree)
      → IfOk result (λ update. update ≡ update_with head entities) → IfErr result (λ fault. fault ≡ faults.NoMemory)
      → Answers ShowsUpdate result (complete (if t then None else Some (faults.Missing parts.Header)) tree)
  by_test (Ok update) true there e f ok err = ok ∙ ap₂ update_with (ap (λ o. unwrap_or o no_head) e) f
  by_test (Err fault) true there e f ok err = err
  by_test result false there e f ok err = absurd (differ (sym (some_mapped head_of (last_message 1 tree) head e) ∙ there)) where
    differ : true ≡ false → ⊥
    differ e = cc

  pub whole_update : (result : Result Update RtFault) → Some head ≡ option_map head_of (last_message 1 tree) → entities ≡ map entity_of (messages 2 tree)
      → IfOk result (λ update. update ≡ update_with head entities) → IfErr result (λ fault. fault ≡ faults.NoMemory)
      → Answers ShowsUpdate result (complete (if is_some (last_message 1 tree) then None else Some (faults.Missing parts.Header)) tree)
  whole_update result e f ok err = by_test result (is_some (last_message 1 tree)) refl e f ok err
