-- The replies to commands: their codes, lines and octets (RFC 959, section 4.2; RFC 2389, section 3.2; RFC 2640, section 3.2;
-- RFC 3659, section 7).
use Rattle.std.specs.Prelude.{◌≡◌, ℕ, ◌<◌, ◌≤◌, ◌^◌, length, List, [], ◌∷◌, ◌++◌, Option, Some, None, codes, decimal, if◌then◌else◌}
use Rattle.ftp_endpoint.specs.Written.{IsTypedEndpoint, IsV4, six_text}
use Rattle.ftp_endpoint.specs.declared.endpoint.Endpoint.{Endpoint}
use Rattle.ftp_reply.specs.Values.{doubled}
use Rattle.ftp_path.specs.Path.{IsPathText, text_of as path_text, Names}
use Rattle.ftp_facts.specs.Moment.{moment_digits}
use Rattle.ftp_direct.specs.Direct.{entry_at}
pub use Rattle.ftp_ends.specs.Reply.{Reply, IsWritten, reply_of, reply_octets}
use Rattle.ftp_server_model.specs.Texts.{fixed_reply_code, text_of}
use Rattle.ftp_server_model.specs.View.{Session, seen}
use Rattle.ftp_server_model.specs.Entries.{listed_line, features_text, chosen_text, is_any_chosen}
use Rattle.ftp_server_model.specs.declared.room.TheConstants.{FREE_ROOM}
use Rattle.ftp_facts.specs.declared.name.Facts.{Facts}
use Rattle.ftp_server_model.specs.declared.reply.FixedReply.{FixedReply}
use Rattle.ftp_server_model.specs.declared.reply.ReplyKind.{ReplyKind}
use Rattle.ftp_server_model.specs.declared.reply.ReplyKind.TheVariants as Replies

-- a reply of the table of texts (`Texts`)
abbrev pub fixed_reply : FixedReply → Reply
fixed_reply text = reply_of (fixed_reply_code text) (text_of text)

-- a path in double quotes, each double quote in it twice (RFC 959, appendix II)
abbrev pub quoted : Names → List ℕ
quoted path = 34 ∷ (doubled (path_text path) ++ 34 ∷ [])

-- the text of 257 to PWD (RFC 959, appendix II)
abbrev pub here_text : Names → List ℕ
here_text path = quoted path ++ codes " is the current directory"

-- the text of 257 to MKD (RFC 959, appendix II)
abbrev pub made_text : Names → List ℕ
made_text path = quoted path ++ codes " created"

-- the text of 227: (h1,h2,h3,h4,p1,p2) (RFC 959, section 4.1.2)
abbrev pub passive_reply_text : Endpoint → List ℕ
passive_reply_text endpoint = codes "Entering Passive Mode (" ++ (six_text endpoint ++ codes ")")

-- the text of 229: (|||port|) (RFC 2428, section 3)
abbrev pub extended_reply_text : ℕ → List ℕ
extended_reply_text port = codes "Entering Extended Passive Mode (|||" ++ (decimal port ++ codes "|)")

-- MLST: three lines (RFC 3659, section 7.3); the pathname of the entry is the canonical text (own choice)
abbrev pub entry_reply : Session → Names → Reply
entry_reply s path = record {
  code = 250;
  lines = codes "Listing" ∷ (32 ∷ listed_line s.facts (entry_at (seen s) path (path_text path))) ∷ codes "End" ∷ [];
}

-- FEAT: nine lines, those between in the order of the alphabet (RFC 2389, section 3.2; UTF8 by RFC 2640, section 3.2)
abbrev pub features_reply : Facts → Reply
features_reply facts = record {
  code = 211;
  lines = codes "Features" ∷ codes " EPRT" ∷ codes " EPSV" ∷ codes " MDTM"
      ∷ (codes " MLST " ++ features_text facts) ∷ codes " REST STREAM" ∷ codes " SIZE" ∷ codes " UTF8" ∷ codes "End" ∷ [];
}

-- the text of 200 to OPTS MLST: after an SP the facts that are now in force (RFC 3659, section 7.9)
abbrev pub chosen_reply : Facts → List ℕ
chosen_reply facts = codes "MLST OPTS" ++ (if is_any_chosen facts then 32 ∷ chosen_text facts else [])

-- MARK yyyy = mmmm: the client's marker, and the octets of the file that the server holds by then (RFC 959, section 4.2)
abbrev pub mark_reply : List ℕ → ℕ → Reply
mark_reply theirs held = reply_of 110 (codes "MARK " ++ (theirs ++ (codes " = " ++ decimal held)))

-- the reply that is said, where the session after the command is this; to PASV and EPSV it follows once a port is had
abbrev pub reply_said : Session → ReplyKind Names → Option Reply
reply_said s Replies.Nothing = None
reply_said s (Replies.Fixed text) = Some (fixed_reply text)
reply_said s Replies.Here = Some (reply_of 257 (here_text s.cwd))
reply_said s (Replies.Made path) = Some (reply_of 257 (made_text path))
reply_said s (Replies.Restarting place) = Some (reply_of 350 (codes "Restarting at " ++ decimal place))
reply_said s (Replies.Passive endpoint) = Some (reply_of 227 (passive_reply_text endpoint))
reply_said s (Replies.Extended port) = Some (reply_of 229 (extended_reply_text port))
reply_said s (Replies.Size count) = Some (reply_of 213 (decimal count))
reply_said s (Replies.Stamp digits) = Some (reply_of 213 digits)
reply_said s (Replies.Entry path) = Some (entry_reply s path)
reply_said s Replies.Features = Some (features_reply s.facts)
reply_said s Replies.Chosen = Some (reply_of 200 (chosen_reply s.facts))

-- the octets of a reply, if there is one
abbrev pub octets_if_any : Option Reply → List ℕ
octets_if_any None = []
octets_if_any (Some reply) = reply_octets reply

-- the octets of the reply that is said
abbrev pub said_octets : Session → ReplyKind Names → List ℕ
said_octets s kind = octets_if_any (reply_said s kind)

-- what a command makes: the session after it, and the reply
abbrev pub Turn : Type 0
Turn = Session × ReplyKind Names

-- a fixed reply to a command that changes nothing
abbrev pub tells : FixedReply → Session → Turn
tells text s = (s, Replies.Fixed text)

-- ---- every reply can be written

-- what a reply tells is within its limits: paths are path texts, numbers have at most 18 digits, PASV's endpoint is one of IPv4
abbrev pub IsTold : Session → ReplyKind Names → Type 0
IsTold s Replies.Here = IsPathText (path_text s.cwd)
IsTold s (Replies.Made path) = IsPathText (path_text path)
IsTold s (Replies.Restarting offset) = offset < 10 ^ 18
IsTold s (Replies.Passive endpoint) = IsV4 endpoint.host × IsTypedEndpoint endpoint
IsTold s (Replies.Extended port) = port < 65536
IsTold s (Replies.Size count) = count < 10 ^ 18
IsTold s (Replies.Stamp digits) = (moment : ℕ) × (digits ≡ moment_digits moment)
IsTold s (Replies.Entry path) = IsPathText (path_text path)
IsTold s other = Unit {0}

-- then the reply can be written, and is read again as itself
abbrev pub RepliesAreWritten : Type 0
RepliesAreWritten =
    (s : Session) (kind : ReplyKind Names) (reply : Reply) → IsTold s kind → reply_said s kind ≡ Some reply → IsWritten reply.code reply.lines

-- and its octets fit into the room that is free before an octet is heard
abbrev pub RepliesHaveRoom : Type 0
RepliesHaveRoom = (s : Session) (kind : ReplyKind Names) → IsTold s kind → length (said_octets s kind) ≤ FREE_ROOM
