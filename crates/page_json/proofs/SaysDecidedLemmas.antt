-- Of each text it can be found out what it says, or that it says nothing.
use Rattle.std.proofs.Common.{◌≡◌, ◌≢◌, ◌∙◌, ℕ, ◌^◌, ◌<◌, List, [], ◌∷◌, ◌++◌, Option, Some, None, codes, decimal, ap, refl, sym, subst}
use Rattle.std.specs.Option.{ForSome}
use Rattle.lc_model.specs.Text.{IsIdText}
use Rattle.lc_model.specs.declared.date.ServiceDate.{ServiceDate}
use Rattle.lc_model.specs.declared.key.RunKey.{RunKey}
use Rattle.lc_model.specs.declared.page.PageName.{PageName}
use Rattle.lc_time.specs.Clock.{start_text_of}
use Rattle.lc_time.specs.Date.{date_said, date_text_of}
use Rattle.lc_time.specs.Iso.{iso_text_of}
use Rattle.lc_time.proofs.SaidLemmas.{dates_said}
use Rattle.percent_encoding.specs.Percent.{percent_decode}
use Rattle.connection_uri.specs.Base.{BaseParts}
use Rattle.connection_uri.specs.Encoding.{encoded}
use Rattle.connection_uri.specs.Name.{start_part_of}
use Rattle.connection_uri.proofs.EncodingLemmas.{decoded_id}
use Rattle.connection_uri.proofs.NameLemmas.{name_is}
use Rattle.connection_uri.proofs.PageLemmas.{page_url_is}
use Rattle.page_json.specs.Says.{SaysLink, SaysName, SaysPage, SaysStop}
use Rattle.page_json.proofs.ObjectMembersLemmas.DecisionsLemmas.{Readable, behind, both, joined, numbers, same_number, same_text, turn, utf8}
use Rattle.page_json.proofs.SaysLemmas.{one_page}
use Rattle.page_json.proofs.ObjectMembersLemmas.MomentDecidedLemmas.{Below, SaysOrNot}

-- ---- stops

filled : (text : List ℕ) → Dec (text ≢ [])
filled [] = no (λ other. other refl)
filled (b ∷ bytes) = yes (λ e. cc)

abbrev IdText : Type 0
IdText = (id : List ℕ) × IsIdText id

ids : Readable (λ (id : IdText). encoded id.0)
ids text =
    turn (λ h. ((percent_decode text, h.0), h.1))
    (λ h.
    let same = sym (decoded_id h.0.0 text h.0.1 h.1) in
    (subst IsIdText same h.0.1, h.1 ∙ ap encoded same))
    (both (both (filled (percent_decode text)) (utf8 (percent_decode text))) (same_text text (encoded (percent_decode text))))

pub stops : (base : BaseParts) → SaysOrNot (SaysStop base)
stops base text =
    turn (λ h. (h.0.0, record { id = h.0.1; written = h.1 })) (λ h. ((h.0, h.1.id), h.1.written))
    (behind base.text _ (behind (codes "stops/") _ ids) text)

-- ---- connections

dates : Readable (λ (d : ServiceDate). date_text_of d.year d.month d.day)
dates text = go (date_said text) refl
  where
    go : (o : Option ServiceDate) → date_said text ≡ o → Dec ((d : ServiceDate) × (text ≡ date_text_of d.year d.month d.day))
    go (Some d) e = yes (d, (dates_said text d).0 e)
    go None e = no (λ h. let said = (dates_said text h.0).1 h.1 in cc)

abbrev Start : Type 0
Start = (start : Option ℕ) × ForSome start (λ seconds. seconds < 360_000)

in_range : (s : Below 360_000) → ForSome (Some s.0) (λ (seconds : ℕ). seconds < 360_000)
in_range s = λ seconds e. let same : s.0 ≡ seconds = cc in subst (λ n. n < 360_000) same s.1

not_started : (text : List ℕ) → (text ≡ codes "-" → ⊥) → ((s : Below 360_000) × (text ≡ start_text_of s.0) → ⊥) → (start : Option ℕ) → ForSome start (λ seconds. seconds < 360_000) → text ≡ start_part_of start → ⊥
not_started text not none None is e = not e
not_started text not none (Some s) is e = none ((s, is s refl), e)

starts : Readable (λ (s : Start). start_part_of s.0)
starts text = elim (same_text text (codes "-")) [
  | yes e ↦ yes ((None, λ seconds e. cc), e)
  | no not ↦ elim (numbers start_text_of 360_000 text) [
    | yes h ↦ yes ((Some h.0.0, in_range h.0), h.1)
    | no none ↦ no (λ h. not_started text not none h.0.0 h.0.1 h.1)
  ]
]

abbrev Sequence : Type 0
Sequence = Below (2 ^ 32)

sequences : Readable (λ (n : Sequence). decimal n.0)
sequences = numbers decimal (2 ^ 32)

pub names : (base : BaseParts) → SaysOrNot (SaysName base)
names base text =
    turn
    (λ h. made h.0.0 h.0.1.0 h.0.1.1.0 h.0.1.1.1 h.1)
    (λ h. (
      ((h.0.0.trip, h.1.trip), (h.0.0.date, ((h.0.0.start, h.0.0.start_in_range), (h.0.1, h.1.fits)))),
      h.1.written ∙ name_is base h.0.0 h.0.1,
    ))
    (behind base.text _ (behind (codes "connections/") _ (joined _ _ ids (behind (codes "/") _ (joined _ _ dates (behind (codes "/") _ (joined _ _ starts (behind (codes "/") _ sequences))))))) text)
  where
    made : (trip : IdText) (date : ServiceDate) (start : Start) (n : Sequence) → text ≡ base.text ++ (codes "connections/" ++ (encoded trip.0 ++ (codes "/" ++ (date_text_of date.year date.month date.day ++ (codes "/" ++ (start_part_of start.0 ++ (codes "/" ++ decimal n.0))))))) → (p : RunKey × ℕ) × SaysName base text p
    made trip date start n e =
        let key : RunKey = record { trip = trip.0; date = date; start = start.0; start_in_range = start.1 } in
        ((key, n.0), record { trip = trip.1; fits = n.1; written = e ∙ sym (name_is base key n.0) })

-- ---- pages

iso_moments : Readable (λ (m : Below 253_402_128_000). iso_text_of m.0)
iso_moments = numbers iso_text_of 253_402_128_000

pub pages : (base : BaseParts) → SaysOrNot (SaysPage base)
pages base text =
    turn
    (λ h.
    let name : PageName = record { version = h.0.0.0; departs = h.0.1.0 } in
    (name, record { version_fits = h.0.0.1; departs_fits = h.0.1.1; written = h.1 ∙ sym (page_url_is base name) }))
    (λ h. (((h.0.version, h.1.version_fits), (h.0.departs, h.1.departs_fits)), h.1.written ∙ page_url_is base h.0))
    (behind base.text _ (behind (codes "memento/connections?version=") _ (joined _ _ iso_moments (behind (codes "&departureTime=") _ iso_moments))) text)

pub links : (base : BaseParts) (version : ℕ) → SaysOrNot (SaysLink base version)
links base version text = elim (pages base text) [
  | yes page ↦ elim (same_number page.0.version version) [
    | yes same ↦ yes (page.0, record { page = page.1; same_version = same })
    | no other ↦ no (λ h. other (ap (λ (n : PageName). n.version) (one_page base text page.0 h.0 page.1 h.1.page) ∙ h.1.same_version))
  ]
  | no none ↦ no (λ h. none (h.0, h.1.page))
]
