-- To which requests replies are kept, and which: documents that never change (RFC 7089, section 4.5.1: a memento is what its time gate sent).
use Rattle.std.specs.Prelude.{◌≡◌, ◌⊎◌, ◌≤◌, ℕ, List, ◌++◌, length, codes}
use Rattle.connection_uri.specs.Base.{BaseParts}
use Rattle.http_text.specs.Reply.{IsReply}
use Rattle.http_text.specs.Request.{IsWholeRequest}
use Rattle.http_text.specs.declared.reply.Reply.{Reply}
use Rattle.http_text.specs.declared.request.Request.{Request}

-- the path is that of pages at a version, or of the stops document, under the base
abbrev pub IsLastingPath : BaseParts → List ℕ → Type 0
IsLastingPath base path = (path ≡ base.path ++ codes "memento/connections") ⊎ (path ≡ base.path ++ codes "stops")

-- the bytes are one whole GET of such a path
pub record IsKeepable (base : BaseParts) (bytes : List ℕ) : Type 0 where
  pub request : Request
  pub whole : IsWholeRequest bytes request
  pub method_is : request.method ≡ codes "GET"
  pub lasting : IsLastingPath base request.path

-- the bytes are a reply with the status 200, and at most 1,048,576
pub record IsLastingReply (bytes : List ℕ) : Type 0 where
  pub most : length bytes ≤ 1_048_576
  pub reply : Reply
  pub says : IsReply bytes reply
  pub status_is : reply.status ≡ 200

-- a reply to such a request is kept
pub record IsToKeep (base : BaseParts) (request reply : List ℕ) : Type 0 where
  pub keepable : IsKeepable base request
  pub lasting : IsLastingReply reply
