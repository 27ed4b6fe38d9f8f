-- What a transcript has told, as code, and that it was told of just what was taken in a world.
use Rattle.std.specs.Prelude.{◌≡◌, ℕ, Bool, true, List, ◌++◌, map, flat_map}
use Rattle.ftp_nvt.specs.Lines.{cut, without_return}
use Rattle.ftp_pair.specs.Session.{Seen}
use Rattle.laws_world.specs.Agreement as worlds
use Rattle.tool_pair.specs.Leading.{LeadsTo}
use Rattle.tool_pair.specs.Transcript.{Delivery, to_client, to_server, told_line, transcript}
use Rattle.tool_pair.specs.declared.transcript.Transcript.{Transcript}

-- whether this transcript keeps lines
abbrev pub is_transcript_wanted : {A : Type 0} → Transcript A → Bool
is_transcript_wanted t = t.wanted

-- the lines that it has
abbrev pub text_of : {A : Type 0} → Transcript A → List ℕ
text_of t = t.lines.items

-- this transcript can have been told just these deliveries: it has their lines, and where it is wanted what of each side's is no line yet
pub record HasTold {A : Type 0} (t : Transcript A) (deliveries : List Delivery) : Type 0 where
  pub lines : text_of t ≡ transcript (is_transcript_wanted t) deliveries
  pub to_server : is_transcript_wanted t ≡ true → t.to_server.items ≡ (cut (to_server deliveries)).rest
  pub to_client : is_transcript_wanted t ≡ true → t.to_client.items ≡ (cut (to_client deliveries)).rest

-- a transcript that was told some deliveries was told these too
pub record TellsMore {A : Type 0} (old : Transcript A) (given : List Delivery) (new : Transcript A) : Type 0 where
  pub wanted : is_transcript_wanted new ≡ is_transcript_wanted old
  pub told : (before : List Delivery) → HasTold old before → HasTold new (before ++ given)

-- deliveries, openings, ends and these operations lead from one world to the other, and the transcript was told of just what was taken
abbrev pub LeadsTelling : {A : Type 0} → List worlds.Order → (old new : Seen) → (notes later : Transcript A) → Type 0
LeadsTelling begun old new notes later = (took : List Delivery) × LeadsTo begun took old new × TellsMore notes took later

-- octets that follow an unfinished line end these lines, which stand after others as they are told, and leave another unfinished one
pub record Ends (who octets : List ℕ) (old_part old_lines : List ℕ) (new_part new_lines : List ℕ) : Type 0 where
  pub ended : List (List ℕ)
  pub lines : new_lines ≡ old_lines ++ flat_map (told_line who) (map without_return ended)
  pub cuts : (before : List ℕ) → (cut before).rest ≡ old_part
      → cut (before ++ octets) ≡ record { ended = (cut before).ended ++ ended; rest = new_part }
