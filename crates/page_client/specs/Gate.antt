-- The reply of the time gate (RFC 7089, section 4.1), which sends a client to a page.
use Rattle.std.specs.Prelude.{◌≡◌, ℕ, List, Option, Some, None, Ok, Err}
use Rattle.url.specs.Parser.{parse_url}
use Rattle.url.specs.Parts.{Parts, serialize}
use Rattle.lc_model.specs.declared.page.PageName.{PageName}
use Rattle.connection_uri.specs.Base.{BaseParts}
use Rattle.connection_uri.specs.Page.{gate_url_of}
use Rattle.http_text.specs.declared.reply.Reply.{Reply}
use Rattle.page_json.specs.Says.{SaysPage}
use Rattle.page_client.specs.Fault.{Tested}
use Rattle.page_client.specs.Replied.{IsTested}
use Rattle.page_client.specs.declared.fault.PeerFault.TheVariants.{Location}

-- the reference, joined to the URL of the time gate, is the URL of the page
pub record IsJoined (base : BaseParts) (gate : Parts) (reference : List ℕ) (name : PageName) : Type 0 where
  pub url : Parts
  pub joined : parse_url (Some gate) reference ≡ Ok url
  pub says : SaysPage base (serialize url) name

-- the reference, joined to the time gate's URL for this moment, is the URL of the page
pub record LeadsTo (base : BaseParts) (leave : ℕ) (reference : List ℕ) (name : PageName) : Type 0 where
  pub gate : Parts
  pub gate_is : parse_url None (gate_url_of base leave) ≡ Ok gate
  pub led : IsJoined base gate reference name

-- the page to which the reference leads, or that it leads to none
abbrev pub IsLed : BaseParts → ℕ → List ℕ → Tested PageName
IsLed base leave reference (Ok name) = LeadsTo base leave reference name
IsLed base leave reference (Err fault) = (fault ≡ Location) × ((name : PageName) → LeadsTo base leave reference name → ⊥)

-- the page to which a reply leads, which may have no reference
abbrev pub IsSent : BaseParts → ℕ → Option (List ℕ) → Tested PageName
IsSent base leave None = λ result. result ≡ Err Location
IsSent base leave (Some reference) = IsLed base leave reference

-- the page to which the bytes of the time gate's reply send, or the first test that they fail
abbrev pub IsGateReply : BaseParts → ℕ → List ℕ → Tested PageName
IsGateReply base leave bytes = IsTested bytes 302 (λ (reply : Reply). IsSent base leave reply.location)
