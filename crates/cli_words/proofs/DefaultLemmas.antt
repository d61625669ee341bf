-- What is taken for the options of publishing where these are not there.
use Rattle.std.proofs.Common.{◌≡◌, ℕ, inl, [], All, codes, Some, None, ap, arith, lit<, refl, sym}
use Rattle.std.proofs.lemmas.Bool.{false≢true}
use Rattle.std.proofs.lemmas.List.Elements.{All-cons, All-nil}
use Rattle.percent_encoding.specs.Percent.{IsKept}
use Rattle.url.specs.declared.host.Host.TheVariants.{Domain}
use Rattle.url.specs.declared.sets.TheConstants.{FORBIDDEN_DOMAIN, USERINFO}
use Rattle.percent_encoding.proofs.AsciiSetLemmas.{kept_from_outside}
use Rattle.url.specs.Host.{IsDomain}
use Rattle.url.specs.Parts.{IsValid, IsValidHead, Parts, kind_of}
use Rattle.url.proofs.OnLiterals.{url_on_literals}
use Rattle.url.proofs.PathLemmas.{root_only}
use Rattle.lc_time.specs.Calendar.{day_at}
use Rattle.lc_time.specs.Iso.{SaysMoment}
use Rattle.connection_uri.specs.Base.{IsBase, IsPlain}
use Rattle.connection_uri.proofs.BaseLemmas.{bases_are_read, is_base}
use Rattle.fragmenter.specs.declared.by_span.BySpan.{BySpan}
use Rattle.fragmenter.specs.declared.cutting.Cutting.TheVariants as ways
use Rattle.cli_words.specs.Publishing.{SaysBase, SaysCutting}

abbrev lc : Parts
lc = record {
  scheme = codes "http";
  username = [];
  password = [];
  host = Some (Domain (codes "lc.example"));
  port = None;
  path = codes "/";
  query = None;
  fragment = None;
}

abbrev Kept : ℕ → Type 0
Kept = IsKept FORBIDDEN_DOMAIN

letters : All Kept (codes "lc.example")
unfolding url_on_literals
letters =
    All-cons Kept 108 (codes "c.example") (kept_from_outside FORBIDDEN_DOMAIN 108 (lit< tt) refl)
    (All-cons Kept 99 (codes ".example") (kept_from_outside FORBIDDEN_DOMAIN 99 (lit< tt) refl)
    (All-cons Kept 46 (codes "example") (kept_from_outside FORBIDDEN_DOMAIN 46 (lit< tt) refl)
    (All-cons Kept 101 (codes "xample") (kept_from_outside FORBIDDEN_DOMAIN 101 (lit< tt) refl)
    (All-cons Kept 120 (codes "ample") (kept_from_outside FORBIDDEN_DOMAIN 120 (lit< tt) refl)
    (All-cons Kept 97 (codes "mple") (kept_from_outside FORBIDDEN_DOMAIN 97 (lit< tt) refl)
    (All-cons Kept 109 (codes "ple") (kept_from_outside FORBIDDEN_DOMAIN 109 (lit< tt) refl)
    (All-cons Kept 112 (codes "le") (kept_from_outside FORBIDDEN_DOMAIN 112 (lit< tt) refl)
    (All-cons Kept 108 (codes "e") (kept_from_outside FORBIDDEN_DOMAIN 108 (lit< tt) refl)
    (All-cons Kept 101 [] (kept_from_outside FORBIDDEN_DOMAIN 101 (lit< tt) refl) (All-nil Kept))))))))))

domain : IsDomain (codes "lc.example")
unfolding url_on_literals
domain = record { allowed = letters; lower = refl; named = refl }

head : IsValidHead lc
unfolding url_on_literals
head = record {
  scheme = record { nonempty = omega arith; whole = refl; lower = refl };
  username = All-nil (IsKept USERINFO);
  password = All-nil (IsKept USERINFO);
  host = (domain, omega arith);
  port = tt;
  bare = λ e. absurd (false≢true e);
}

valid : IsValid lc
valid = record { head = head; path = inl (root_only (kind_of lc), λ special. omega arith); query = tt; fragment = tt }

plain : IsPlain lc
plain = record {
  bare = record { scheme = refl; username = refl; password = refl; query = refl; fragment = refl };
  path = record { ends = refl; plain = refl };
  text_len = omega arith;
}

lc_is_base : IsBase (record { text = codes "http://lc.example/"; authority = codes "lc.example"; path = codes "/" })
lc_is_base = is_base lc valid plain

pub default_base : SaysBase (codes "http://lc.example/") (record { text = codes "http://lc.example/"; authority = codes "lc.example"; path = codes "/" })
default_base =
    let read = bases_are_read _ lc_is_base in
    record { url = read.0; reads = read.1; is = read.2 }

pub default_moment : SaysMoment (codes "1970-01-01T00:00:00Z") 0
unfolding day_at
default_moment = record { rest = codes "Z"; in_range = omega arith; written = refl; ended = inl refl }

pub default_cutting : (way : BySpan) → way.seconds ≡ 1800 → SaysCutting (codes "span:1800") (ways.Span way)
default_cutting way is = record { digits = codes "1800"; written = refl; said = ap (λ (n : ℕ). Some n) (sym is) }
