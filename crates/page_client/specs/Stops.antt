-- The reply in which a client is sent the stops document.
use Rattle.std.specs.Prelude.{ℕ, List, Result, Ok, Err, ◌≡◌}
use Rattle.lc_model.specs.declared.doc.StopsDoc.{StopsDoc}
use Rattle.http_text.specs.declared.reply.Reply.{Reply}
use Rattle.page_json.specs.StopsReading.{doc_of_bytes}
use Rattle.page_json.specs.declared.object_members.fault.PageFault.{PageFault}
use Rattle.page_client.specs.Fault.{Tested}
use Rattle.page_client.specs.Replied.{IsTested, body_of}
use Rattle.page_client.specs.declared.fault.PeerFault.{PeerFault}
use Rattle.page_client.specs.declared.fault.PeerFault.TheVariants.{Body}

-- a document, or the fault of the body
abbrev pub tested_doc : Result StopsDoc PageFault → Result StopsDoc PeerFault
tested_doc (Ok doc) = Ok doc
tested_doc (Err fault) = Err (Body fault)

-- what the body of a reply says
pub record SaysStops (bytes : List ℕ) (reply : Reply) (result : Result StopsDoc PeerFault) : Type 0 where
  pub body : Result StopsDoc PageFault
  pub read : doc_of_bytes (body_of bytes reply) body
  pub is : result ≡ tested_doc body

-- the stops document that the bytes of a reply say, or the first test that they fail
abbrev pub IsStopsReply : List ℕ → Tested StopsDoc
IsStopsReply bytes = IsTested bytes 200 (SaysStops bytes)
