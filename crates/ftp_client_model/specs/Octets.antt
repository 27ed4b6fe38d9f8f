-- The octets of a client's transfer: the text of an upload, and what a download has brought (RFC 959, sections 3.1 to 3.5).
use Rattle.std.specs.Prelude.{ℕ, ◌&&◌, Bool, true, false, nat_le, List, [], ◌∷◌, length, take, Option, Some, None, if◌then◌else◌}
use Rattle.std.specs.Option.{option_map, option_or}
use Rattle.ftp_operation.specs.Answer.{Said, Done, Octets, Entries, Names, Broken}
use Rattle.ftp_operation.specs.declared.op.How.{How}
use Rattle.ftp_operation.specs.declared.op.Op.{Op}
use Rattle.ftp_operation.specs.declared.op.Op.TheVariants as Ops
use Rattle.ftp_mode.specs.Block.{marked_text}
use Rattle.ftp_mode.specs.Wire.{wire}
use Rattle.ftp_mode.specs.Said.{Said as WireSaid, says, marker}
use Rattle.ftp_wire.specs.Decoder.{no_octets, octet_says, decoded_octet, is_whole, ended, broken}
use Rattle.ftp_settings.specs.Representation.{form_of, has_markers}
use Rattle.ftp_facts.specs.Listing.{entries_value, names_value}
use Rattle.ftp_client_model.specs.Plan.{settings_of, listing_settings, count_of}
use Rattle.ftp_facts.specs.Value.{number_value}
use Rattle.ftp_client_model.specs.View.{Flow, Sending, Receiving}
use Rattle.ftp_settings.specs.declared.representation.Representation.{Representation}

-- ---- an upload

-- the one written text of octets in some settings, with own markers or without; markers count from a start
abbrev pub written : Bool → Representation → ℕ → List ℕ → List ℕ
written true settings start octets = marked_text start octets
written false settings start octets = wire settings.mode (form_of settings) octets

-- an upload has own markers where they are asked for and its settings allow them
abbrev pub upload_text : How → ℕ → List ℕ → List ℕ
upload_text how start octets = written (how.marks && has_markers (settings_of how)) (settings_of how) start octets

-- an upload at its start: all its text is to be given, and no 110 came
abbrev pub upload_flow : How → ℕ → List ℕ → Flow
upload_flow how start octets = Sending (upload_text how start octets) None

-- ---- a download

-- a download at its start: no octet came
abbrev pub download_flow : Representation → Flow
download_flow settings = Receiving (no_octets settings) None

-- what an operation's transfer carries at its start, where it has one: a PutFrom counts its markers from its offset, an Append
-- from 0 (own choice)
abbrev pub flow_of : Op (List ℕ) → Option Flow
flow_of (Ops.Put path octets how) = Some (upload_flow how 0 octets)
flow_of (Ops.Append path octets how) = Some (upload_flow how 0 octets)
flow_of (Ops.PutFrom path offset octets how) = Some (upload_flow how offset octets)
flow_of (Ops.Get path how) = Some (download_flow (settings_of how))
flow_of (Ops.GetFrom path offset how) = Some (download_flow (settings_of how))
flow_of (Ops.Peek path count how) = Some (download_flow (settings_of how))
flow_of (Ops.List path how) = Some (download_flow (listing_settings how.representation.mode))
flow_of (Ops.Names path how) = Some (download_flow (listing_settings how.representation.mode))
flow_of (Ops.Text verb path how) = Some (download_flow (listing_settings how.representation.mode))
flow_of other = None

-- the last restart marker that is a number of 1 to 18 digits (own choice); others are passed over
abbrev pub last_mark : Option ℕ → List WireSaid → Option ℕ
last_mark mark [] = mark
last_mark mark (says sign ∷ more) = last_mark mark more
last_mark mark (marker text ∷ more) = last_mark (option_or (number_value text) mark) more

-- one octet of the data connection; an upload hears none
abbrev pub flow_octet : Flow → ℕ → Flow
flow_octet (Sending left mark) octet = Sending left mark
flow_octet (Receiving decoder mark) octet = Receiving (decoded_octet decoder octet) (last_mark mark (octet_says decoder octet))

-- the octets of a download that are settled
abbrev pub settled_of : Flow → List ℕ
settled_of (Sending left mark) = []
settled_of (Receiving decoder mark) = decoder.content

-- so many octets of a download are settled
abbrev pub has_settled : Option ℕ → Flow → Bool
has_settled None flow = false
has_settled (Some count) flow = nat_le count (length (settled_of flow))

-- a Peek has all octets that it asked for; no other operation has ever enough
abbrev pub has_enough : Op (List ℕ) → Flow → Bool
has_enough op flow = has_settled (count_of op) flow

-- ---- what came of it

-- the content that a download says: octets, of a file or of a listing as text; entries or names, and none where a line of a listing says none; of a Peek
-- the first octets
abbrev pub content_answer : Op (List ℕ) → List ℕ → Option Said
content_answer (Ops.List path how) octets = option_map Entries (entries_value octets)
content_answer (Ops.Names path how) octets = option_map Names (names_value octets)
content_answer (Ops.Peek path count how) octets = Some (Octets (take count octets))
content_answer op octets = Some (Octets octets)

-- a break: the content that came of a download, and the last mark
abbrev pub broken_answer : Flow → Said
broken_answer (Sending left mark) = Broken [] mark
broken_answer (Receiving decoder mark) = Broken (broken decoder).content mark

-- a transfer that was cut: it broke; own choice: a Peek that has enough has its answer all the same
abbrev pub cut_answer : Op (List ℕ) → Flow → Option Said
cut_answer op flow = if has_enough op flow then content_answer op (settled_of flow) else Some (broken_answer flow)

-- after a clean end: an upload is done, and a download is whole, or counts as cut
abbrev pub whole_answer : Op (List ℕ) → Flow → Option Said
whole_answer op (Sending left mark) = Some Done
whole_answer op (Receiving decoder mark) =
    if is_whole decoder then content_answer op (ended decoder).content else cut_answer op (Receiving decoder mark)
