-- A text says one thing alone.
use Rattle.std.proofs.Common.{◌≡◌, ℕ, List, codes, refl, sym, ap₂, ◌∙◌}
use Rattle.std.proofs.lemmas.List.{append_cancel_left}
use Rattle.lc_model.specs.declared.key.RunKey.{RunKey}
use Rattle.lc_model.specs.declared.page.PageName.{PageName}
use Rattle.connection_uri.specs.Base.{BaseParts}
use Rattle.connection_uri.specs.Encoding.{encoded}
use Rattle.connection_uri.proofs.EncodingLemmas.{decoded_id}
use Rattle.connection_uri.proofs.NameLemmas.{names_differ}
use Rattle.connection_uri.proofs.PageLemmas.{page_urls_differ}
use Rattle.page_json.specs.Says.{SaysLink, SaysName, SaysPage, SaysStop}

-- a text is the URL of one page
pub one_page : (base : BaseParts) (text : List ℕ) (a b : PageName) → SaysPage base text a → SaysPage base text b → a ≡ b
one_page base text a b says other =
    page_urls_differ base a b says.version_fits says.departs_fits other.version_fits other.departs_fits (sym says.written ∙ other.written)

-- a text is the URL of one page of a version
pub one_link : (base : BaseParts) (version : ℕ) (text : List ℕ) (a b : PageName) → SaysLink base version text a → SaysLink base version text b → a ≡ b
one_link base version text a b says other = one_page base text a b says.page other.page

-- a text is the URL of one stop
pub one_stop : (base : BaseParts) (text : List ℕ) (a b : List ℕ) → SaysStop base text a → SaysStop base text b → a ≡ b
one_stop base text a b says other =
    let whole = sym says.written ∙ other.written in
    let same = append_cancel_left (codes "stops/") _ _ (append_cancel_left base.text _ _ whole) in
    sym (decoded_id a (encoded a) says.id refl) ∙ decoded_id b (encoded a) other.id same

-- a text is the name of one connection
pub one_name : (base : BaseParts) (text : List ℕ) (a b : RunKey × ℕ) → SaysName base text a → SaysName base text b → a ≡ b
one_name base text a b says other =
    let same = names_differ base a.0 b.0 a.1 b.1 says.trip other.trip says.fits other.fits (sym says.written ∙ other.written) in
    ap₂ (λ (k : RunKey) (n : ℕ). (k, n)) same.0 same.1
