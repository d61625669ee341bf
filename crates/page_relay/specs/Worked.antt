-- Worked memories, transcripts and counts.
use Rattle.std.specs.Prelude.{◌≡◌, ℕ, true, ◌++◌, List, [], ◌∷◌, codes, Some, None}
use Rattle.connection_uri.specs.Base.{BaseParts}
use Rattle.lc_world.specs.ListLink.{entry_of}
use Rattle.lc_world.specs.declared.entry.Entry.{Entry}
use Rattle.lc_world.specs.declared.entry.RecordedReply.TheVariants.{Failed, Hidden, Reply}
use Rattle.page_relay.specs.HandedOn.{Follows}
use Rattle.page_relay.specs.Keeping.{IsToKeep}
use Rattle.page_relay.specs.Kept.{Kept, reply_for, sent_to, with_kept, with_used}
use Rattle.page_relay.specs.Relay.{transcript_of}
use Rattle.page_relay.specs.Recorded.{IsRecorded}
use Rattle.page_relay.specs.declared.sent.SentRequest.{SentRequest}

-- a request of this target at lc.example
abbrev pub asking : List ℕ → SentRequest
asking target = sent_to (codes "lc.example") (codes "GET " ++ target ++ codes " HTTP/1.0\r\n\r\n")

abbrev pub stops : SentRequest
stops = asking (codes "/stops")

abbrev pub first_page : SentRequest
first_page = asking (codes "/memento/connections?departureTime=1")

abbrev pub second_page : SentRequest
second_page = asking (codes "/memento/connections?departureTime=2")

-- Three requests are kept with the replies a, b and c, the most recently used first.
abbrev pub three : List Kept
three = (stops, codes "a") ∷ (first_page, codes "b") ∷ (second_page, codes "c") ∷ []

-- Which replies are found. Another query is another request, and so is another authority.
pub record WorkedFinds : Type 0 where
  pub stops_found : reply_for stops three ≡ Some (codes "a")
  pub first_found : reply_for first_page three ≡ Some (codes "b")
  pub second_found : reply_for second_page three ≡ Some (codes "c")
  pub other_query : reply_for (asking (codes "/memento/connections?departureTime=3")) three ≡ None
  pub no_query : reply_for (asking (codes "/memento/connections")) three ≡ None
  pub other_authority : reply_for (sent_to (codes "lc.example:80") stops.request) three ≡ None

-- What is kept after a reply was used, and after one more was kept. Of two entries the last one goes out.
pub record WorkedUses : Type 0 where
  pub used : with_used second_page three ≡ (second_page, codes "c") ∷ (stops, codes "a") ∷ (first_page, codes "b") ∷ []
  pub used_again : with_used stops three ≡ three
  pub not_kept : with_used (asking (codes "/")) three ≡ three
  pub room : with_kept 3 second_page (codes "c") ((stops, codes "a") ∷ (first_page, codes "b") ∷ [])
      ≡ (second_page, codes "c") ∷ (stops, codes "a") ∷ (first_page, codes "b") ∷ []
  pub full : with_kept 2 second_page (codes "c") ((stops, codes "a") ∷ (first_page, codes "b") ∷ []) ≡ (second_page, codes "c") ∷ (stops, codes "a") ∷ []

abbrev pub example : BaseParts
example = record { text = codes "http://lc.example/"; authority = codes "lc.example"; path = codes "/" }

-- the stops document was asked for and replied
abbrev pub replied : List ℕ → Entry
replied reply = entry_of stops.authority stops.request (Reply reply)

-- it was asked for, and the exchange failed
abbrev pub failed : Entry
failed = entry_of stops.authority stops.request Failed

-- the first entry of a relay's transcript
abbrev pub base_entry : Entry
base_entry = entry_of (codes "lc.example") (codes "/") (Reply (codes "http://lc.example/"))

-- Transcripts of relays with an exchange of their own: over a link that records nothing, over one that has recorded a failure, and over that relay.
pub record WorkedTranscripts : Type 0 where
  pub unrecorded : transcript_of example 100 None (replied (codes "a") ∷ []) ≡ base_entry ∷ entry_of [] (100 ∷ []) Hidden ∷ replied (codes "a") ∷ []
  pub recorded :
      transcript_of example 100 (Some (failed ∷ [])) (replied (codes "a") ∷ [])
      ≡ base_entry ∷ entry_of [] (100 ∷ 1 ∷ []) Hidden ∷ failed ∷ replied (codes "a") ∷ []
  pub over_a_relay :
      transcript_of example 7 (Some (transcript_of example 100 (Some (failed ∷ [])) (replied (codes "a") ∷ []))) (replied (codes "b") ∷ [])
      ≡ base_entry ∷ entry_of [] (7 ∷ 4 ∷ []) Hidden ∷ base_entry ∷ entry_of [] (100 ∷ 1 ∷ []) Hidden ∷ failed ∷ replied (codes "a") ∷ replied (codes "b") ∷ []

-- The stops document was asked for twice by a relay with one entry, and its reply was kept. So the link below was asked once: it recorded that
-- exchange after the failure which it had recorded before, with the reply or without.
pub record WorkedRecorded (reply : List ℕ) : Type 0 where
  pub recorded : IsRecorded (Some (failed ∷ [])) (Some (failed ∷ replied reply ∷ [])) ((stops, reply) ∷ []) (replied reply ∷ replied reply ∷ []) 2 1 true
  pub hidden : IsRecorded (Some []) (Some (entry_of stops.authority stops.request Hidden ∷ [])) ((stops, reply) ∷ []) (replied reply ∷ replied reply ∷ []) 2 1 true
  pub follows : IsToKeep example stops.request reply
      → Follows example 1 (Some (failed ∷ [])) (Some (failed ∷ replied reply ∷ [])) (replied reply ∷ replied reply ∷ []) ((stops, reply) ∷ []) 1
  pub follows_hidden : IsToKeep example stops.request reply
      → Follows example 1 (Some []) (Some (entry_of stops.authority stops.request Hidden ∷ [])) (replied reply ∷ replied reply ∷ []) ((stops, reply) ∷ []) 1
