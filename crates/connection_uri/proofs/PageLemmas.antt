-- The URL of a page, cut into its parts; it is the URL of one page.
use Rattle.std.proofs.Common.{◌≡◌, ℕ, ◌<◌, List, ◌++◌, codes, refl, sym, ap₂, subst, ◌∙◌, append_assoc}
use Rattle.std.proofs.lemmas.List.{append_cancel_left}
use Rattle.lc_model.specs.declared.page.PageName.{PageName}
use Rattle.lc_time.specs.Iso.{SaysMoment, iso_text_of}
use Rattle.lc_time.proofs.IsoLemmas.{says_text}
use Rattle.lc_time.proofs.OneTextLemmas.{one_moment}
use Rattle.connection_uri.specs.Base.{BaseParts}
use Rattle.connection_uri.specs.Page.{page_url_of, page_parts_of, PageUrlsDiffer}
use Rattle.connection_uri.proofs.NameLemmas.{parted}

pub page_url_is : (base : BaseParts) (name : PageName) → page_url_of base name ≡ page_parts_of base (iso_text_of name.version) (iso_text_of name.departs)
page_url_is base name = simp append_assoc

same_iso : (m n : ℕ) → m < 253_402_128_000 → n < 253_402_128_000 → iso_text_of m ≡ iso_text_of n → m ≡ n
same_iso m n small small' e =
    one_moment (iso_text_of m) m n (says_text m small) (subst (λ (t : List ℕ). SaysMoment t n) (sym e) (says_text n small'))

pub page_urls_differ : PageUrlsDiffer
page_urls_differ base a b version departs version' departs' same =
    let whole = sym (page_url_is base a) ∙ same ∙ page_url_is base b in
    let moments = append_cancel_left (codes "memento/connections?version=") _ _ (append_cancel_left base.text _ _ whole) in
    let one = parted _ (iso_text_of a.version) (codes "&departureTime=" ++ iso_text_of a.departs) refl refl in
    let two = parted _ (iso_text_of b.version) (codes "&departureTime=" ++ iso_text_of b.departs) refl moments in
    let rest = append_cancel_left (codes "&departureTime=") _ _ (sym one.1 ∙ two.1) in
    ap₂ (λ (v d : ℕ). record a { version = v; departs = d })
    (same_iso a.version b.version version version' (sym one.0 ∙ two.0))
    (same_iso a.departs b.departs departs departs' rest)
