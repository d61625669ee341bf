-- What is in force, by where it is, and what a message makes of it.
use Rattle.std.specs.Prelude.{List, map}
use Rattle.lc_model.specs.Versions.News.{EntitySaid}
use Rattle.version_store.specs.IndexLaws.Kept.{news_in}
use Rattle.version_store.specs.Differing.{DifferBy}
use Rattle.version_store.specs.Filed.{AreAlike, AreFiled, HasListsOf, spots_at, spots_over}
use Rattle.version_store.specs.Kept.{entity_said}
use Rattle.version_store.specs.declared.force.Force.{Force}
use Rattle.version_store.specs.declared.force.Step.{Step}
use Rattle.version_store.specs.declared.store.Admission.{Admission}

-- these entities are in force
abbrev pub AreInForce : List Admission → Force → List EntitySaid → Type 0
AreInForce admitted force entities = AreFiled admitted (spots_at force.ids) (spots_at force.trips) entities

-- these are in force once the lists of the patch are in their places
abbrev pub IsPatch : List Admission → Force → Force → List EntitySaid → Type 0
IsPatch admitted base patch entities = AreFiled admitted (spots_over patch.ids base.ids) (spots_over patch.trips base.trips) entities

-- the step leads from what was in force before to what is after, by a patch
pub record GoesOver (admitted : List Admission) (force : Force) (step : Step) (before after : List EntitySaid) : Type 0 where
  pub patch : IsPatch admitted force step.patch after
  pub differ : DifferBy (news_in (map entity_said step.touched.items)) (news_in before) (news_in after)

-- the step leads from what was in force before to what is after, which it has whole
pub record GoesWhole (admitted : List Admission) (step : Step) (before after : List EntitySaid) : Type 0 where
  pub patch : AreInForce admitted step.patch after
  pub differ : DifferBy (news_in (map entity_said step.touched.items)) (news_in before) (news_in after)

-- at each id and each trip are the same spots
pub record IsForceAlike (old new : Force) : Type 0 where
  pub ids : AreAlike old.ids new.ids
  pub trips : AreAlike old.trips new.trips

-- there is a list at each id and each trip where the patch has one
pub record HasRoomFor (patch force : Force) : Type 0 where
  pub ids : HasListsOf patch.ids force.ids
  pub trips : HasListsOf patch.trips force.trips
