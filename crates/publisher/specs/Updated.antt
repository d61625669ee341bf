-- What becomes of the body of a request where messages are taken.
use Rattle.std.specs.Prelude.{◌≡◌, ℕ, List, Option, Some, None}
use Rattle.lc_model.specs.declared.versions.update.Update.{Update}
use Rattle.http_text.specs.declared.request.Request.{Request}
use Rattle.lc_world.specs.Sides.Reply.{side_behind, text_said}
use Rattle.lc_world.specs.Sides.Response.{IsMessageIn, status_of_update}
use Rattle.lc_world.specs.Sides.Side.{Side}
use Rattle.lc_world.specs.declared.sides.response.Response.TheVariants.{Status}
use Rattle.version_store.specs.declared.admission.AdmitFault.{AdmitFault}
use Rattle.version_store.specs.declared.admission.AdmitFault.TheVariants as faults

-- the status of a message that is not admitted; running out of memory has none
abbrev pub status_of_fault : AdmitFault → Option ℕ
status_of_fault (faults.TooLong bytes) = Some 413
status_of_fault (faults.Broken fault) = Some 400
status_of_fault (faults.NotNewer newest) = Some 409
status_of_fault (faults.Full messages bytes) = Some 507
status_of_fault faults.NoMemory = None

-- this is the status of the body, and the side that it leaves
pub record Becomes (side : Side) (request : Request) (body : List ℕ) (status : ℕ) (next : Side) : Type 0 where
  pub update : Option Update
  pub update_is : IsMessageIn body update
  pub status_is : status ≡ status_of_update side request body update
  pub next_is : next ≡ side_behind side request body update

-- the text is the reply by such a status
pub record IsUpdated (side : Side) (request : Request) (body : List ℕ) (text : List ℕ) (next : Side) : Type 0 where
  pub status : ℕ
  pub becomes : Becomes side request body status next
  pub text_is : text ≡ text_said side request (Status status)

-- the text is the reply to a message that is not admitted for this cause
pub record IsRefusal (side : Side) (request : Request) (fault : AdmitFault) (text : List ℕ) : Type 0 where
  pub status : ℕ
  pub status_is : status_of_fault fault ≡ Some status
  pub text_is : text ≡ text_said side request (Status status)
