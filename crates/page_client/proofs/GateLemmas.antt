-- Where the time gate sends, by its URL.
use Rattle.std.proofs.Common.{◌≡◌, ℕ, List, Option, Some, None, Result, Ok, Err, IfOk, refl, sym, subst}
use Rattle.url.specs.Parser.{parse_url}
use Rattle.url.specs.Parts.{Parts}
use Rattle.lc_model.specs.declared.memory.NoMemory.{NoMemory}
use Rattle.lc_model.specs.declared.page.PageName.{PageName}
use Rattle.connection_uri.specs.Base.{BaseParts}
use Rattle.connection_uri.specs.Page.{gate_url_of}
use Rattle.page_client.specs.Gate.{IsJoined, IsSent, LeadsTo}
use Rattle.page_client.specs.declared.fault.PeerFault.TheVariants.{Location}

module _ (base : BaseParts) (leave : ℕ) where
  -- the time gate has one URL, thus what is joined to it is where the time gate leads
  pub led_exact : (reference : List ℕ) (gate : Parts) (r : Result (Option PageName) NoMemory) → parse_url None (gate_url_of base leave) ≡ Ok gate →
      IfOk r (λ joined. (name : PageName) → IsJoined base gate reference name → joined ≡ Some name) → IfOk r (λ led. (name : PageName) → LeadsTo base leave reference name → led ≡ Some name)
  led_exact reference gate (Ok joined) is exact = λ name leads.
      let P : Parts → Type 0 = λ g. IsJoined base g reference name in
      let said = leads.gate_is in
      let same : leads.gate ≡ gate = cc in
      exact name (subst P same leads.led)
  led_exact reference gate (Err fault) is exact = tt

  -- a reference that leads nowhere
  pub sent_nowhere : (location : Option (List ℕ)) (reference text : List ℕ) → location ≡ Some reference → text ≡ reference →
      ((name : PageName) → LeadsTo base leave text name → None ≡ Some name) → IsSent base leave location (Err Location)
  sent_nowhere location reference text is same nowhere =
      let P : Option (List ℕ) → Type 0 = λ l. IsSent base leave l (Err Location) in
      let Q : List ℕ → Type 0 = λ t. (name : PageName) → LeadsTo base leave t name → ⊥ in
      let none : Q text = λ name leads. let e = nowhere name leads in cc in
      let led : IsSent base leave (Some reference) (Err Location) = (refl, subst Q same none) in
      subst P (sym is) led
