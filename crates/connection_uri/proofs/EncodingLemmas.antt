-- What percent-encoding by the set of reserved bytes gives.
use Rattle.std.proofs.Common.{◌≡◌, ℕ, ◌<◌, true, false, not, cond, Bool, List, [], ◌∷◌, ◌++◌, All, IsAscii, refl, sym, ap, ap₂, subst, ◌∙◌}
use Rattle.std.proofs.lemmas.Bool.{agree_below_at}
use Rattle.std.proofs.lemmas.List.Elements.{All-head, All-tail}
use Rattle.lc_model.specs.Text.{IsIdText}
use Rattle.percent_encoding.specs.AsciiSet.{should_percent_encode, contains}
use Rattle.percent_encoding.specs.Percent.{percent_encode, percent_decode, percent_encode_byte, encode_byte}
use Rattle.percent_encoding.proofs.PercentLemmas.{IsAscii-percent_encode, round_trip}
use Rattle.connection_uri.specs.declared.encoding.TheConstants.{RESERVED}
use Rattle.connection_uri.specs.Encoding.{is_unreserved, encoded, encoded_byte}
use Rattle.connection_uri.proofs.ByteLemmas.{IsByte, text_bytes}

kept : (b : ℕ) → b < 256 → should_percent_encode RESERVED b ≡ not (is_unreserved b)
unfolding should_percent_encode
kept b small = agree_below_at (should_percent_encode RESERVED) (λ b. not (is_unreserved b)) 256 b refl small

turned : (t : Bool) (x y : List ℕ) → cond (not t) x y ≡ cond t y x
turned true x y = refl
turned false x y = refl

one : (b : ℕ) → b < 256 → encode_byte RESERVED b ≡ encoded_byte b
one b small = ap (λ (t : Bool). cond t (percent_encode_byte b) (b ∷ [])) (kept b small) ∙ turned (is_unreserved b) (percent_encode_byte b) (b ∷ [])

-- percent-encoding by the set gives the encoding
pub percent_encode_is : (bytes : List ℕ) → All IsByte bytes → percent_encode RESERVED bytes ≡ encoded bytes
unfolding percent_encode encoded
percent_encode_is [] small = refl
percent_encode_is (b ∷ bytes) small = ap₂ (λ (x y : List ℕ). x ++ y) (one b (All-head IsByte b bytes small)) (percent_encode_is bytes (All-tail IsByte b bytes small))

-- an encoding is ASCII
pub encoded_ascii : (bytes : List ℕ) → All IsByte bytes → IsAscii (encoded bytes)
encoded_ascii bytes small = subst IsAscii (percent_encode_is bytes small) (IsAscii-percent_encode RESERVED bytes)

percent_inside : contains RESERVED 37 ≡ true
percent_inside = refl

-- an encoding is decoded to the bytes
pub decoded : (bytes : List ℕ) → All IsByte bytes → percent_decode (encoded bytes) ≡ bytes
decoded bytes small = ap percent_decode (sym (percent_encode_is bytes small)) ∙ round_trip RESERVED bytes percent_inside small

pub decoded_id : (id text : List ℕ) → IsIdText id → text ≡ encoded id → percent_decode text ≡ id
decoded_id id text is e = ap percent_decode e ∙ decoded id (text_bytes id is.1)
