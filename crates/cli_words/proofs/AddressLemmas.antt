-- The addresses of servers on the same machine are bases.
use Rattle.std.proofs.Common.{◌≡◌, ◌≢◌, ◌∙◌, ℕ, ◌+◌, ◌<◌, ◌≤◌, ◌^◌, inl, [], ◌++◌, All, codes, length, Some, None, ap, arith, lit<, refl, sym}
use Rattle.std.specs.Prelude.{decimal}
use Rattle.std.proofs.lemmas.Bool.{false≢true}
use Rattle.std.proofs.lemmas.Fmt.{length-decimal-le}
use Rattle.std.proofs.lemmas.List.{length-append}
use Rattle.std.proofs.lemmas.Str.{IsUtf8-from_is_utf8}
use Rattle.std.proofs.lemmas.List.Elements.{All-cons, All-nil}
use Rattle.percent_encoding.specs.Percent.{IsKept}
use Rattle.url.specs.declared.host.Host.TheVariants.{Domain}
use Rattle.url.specs.declared.sets.TheConstants.{FORBIDDEN_DOMAIN, USERINFO}
use Rattle.percent_encoding.proofs.AsciiSetLemmas.{kept_from_outside}
use Rattle.url.specs.Host.{IsDomain}
use Rattle.url.specs.Parts.{IsPortOf, IsValid, IsValidHead, Parts, kind_of, serialize}
use Rattle.url.proofs.OnLiterals.{url_on_literals}
use Rattle.url.proofs.PathLemmas.{root_only}
use Rattle.connection_uri.specs.Base.{IsBase, IsPlain}
use Rattle.connection_uri.proofs.BaseLemmas.{bases_are_read, is_base}
use Rattle.cli_words.specs.Laws.{Address80, AddressesAreBases}
use Rattle.cli_words.specs.Serve.{address_at}

abbrev Kept : ℕ → Type 0
Kept = IsKept FORBIDDEN_DOMAIN

letters : All Kept (codes "localhost")
unfolding url_on_literals
letters =
    All-cons Kept 108 (codes "ocalhost") (kept_from_outside FORBIDDEN_DOMAIN 108 (lit< tt) refl)
    (All-cons Kept 111 (codes "calhost") (kept_from_outside FORBIDDEN_DOMAIN 111 (lit< tt) refl)
    (All-cons Kept 99 (codes "alhost") (kept_from_outside FORBIDDEN_DOMAIN 99 (lit< tt) refl)
    (All-cons Kept 97 (codes "lhost") (kept_from_outside FORBIDDEN_DOMAIN 97 (lit< tt) refl)
    (All-cons Kept 108 (codes "host") (kept_from_outside FORBIDDEN_DOMAIN 108 (lit< tt) refl)
    (All-cons Kept 104 (codes "ost") (kept_from_outside FORBIDDEN_DOMAIN 104 (lit< tt) refl)
    (All-cons Kept 111 (codes "st") (kept_from_outside FORBIDDEN_DOMAIN 111 (lit< tt) refl)
    (All-cons Kept 115 (codes "t") (kept_from_outside FORBIDDEN_DOMAIN 115 (lit< tt) refl)
    (All-cons Kept 116 [] (kept_from_outside FORBIDDEN_DOMAIN 116 (lit< tt) refl) (All-nil Kept)))))))))

domain : IsDomain (codes "localhost")
unfolding url_on_literals
domain = record { allowed = letters; lower = refl; named = refl }

abbrev at_port : ℕ → Parts
at_port port = record {
  scheme = codes "http";
  username = [];
  password = [];
  host = Some (Domain (codes "localhost"));
  port = Some port;
  path = codes "/";
  query = None;
  fragment = None;
}

module _ (port : ℕ) (fits : port < 2 ^ 16) (other : port ≢ 80) where
  port_of : IsPortOf (codes "http") (Some port)
  unfolding url_on_literals
  port_of = (fits, λ e. other (let same : Some 80 ≡ Some port = e in sym (cc same)))

  head : IsValidHead (at_port port)
  unfolding url_on_literals
  head = record {
    scheme = record { nonempty = omega arith; whole = refl; lower = refl };
    username = All-nil (IsKept USERINFO);
    password = All-nil (IsKept USERINFO);
    host = (domain, omega arith);
    port = port_of;
    bare = λ e. absurd (false≢true e);
  }

  valid : IsValid (at_port port)
  valid = record { head = head; path = inl (root_only (kind_of (at_port port)), λ special. omega arith); query = tt; fragment = tt }

  short : length (serialize (at_port port)) ≤ 4096
  short =
      let digits : length (decimal port) ≤ 5 = length-decimal-le 5 port (omega arith) (omega arith) (omega arith) in
      let text : serialize (at_port port) ≡ codes "http://localhost:" ++ (decimal port ++ codes "/") = refl in
      let behind : length (decimal port ++ codes "/") ≡ length (decimal port) + 1 = length-append (decimal port) (codes "/") in
      let all : length (serialize (at_port port)) ≡ 17 + length (decimal port ++ codes "/") =
      ap length text ∙ length-append (codes "http://localhost:") (decimal port ++ codes "/") in
      omega (arith, digits, behind, all)

  plain : IsPlain (at_port port)
  plain = record {
    bare = record { scheme = refl; username = refl; password = refl; query = refl; fragment = refl };
    path = record { ends = refl; plain = refl };
    text_len = short;
  }

  pub address_is_base : IsBase (record { text = address_at port; authority = codes "localhost:" ++ decimal port; path = codes "/" })
  address_is_base = is_base (at_port port) valid plain

pub addresses_are_bases : AddressesAreBases
addresses_are_bases port fits other =
    let read = bases_are_read _ (address_is_base port fits other) in
    record { url = read.0; reads = read.1; is = read.2 }

abbrev at_no_port : Parts
at_no_port = record (at_port 80) { port = None }

pub at_80 : Address80
unfolding url_on_literals
at_80 = record {
  url = at_no_port;
  reads = record {
    utf8 = IsUtf8-from_is_utf8 (codes "http://localhost:80/") refl;
    parsed = refl;
    plain = record {
      bare = record { scheme = refl; username = refl; password = refl; query = refl; fragment = refl };
      path = record { ends = refl; plain = refl };
      text_len = omega arith;
    };
  };
  is = refl;
}
