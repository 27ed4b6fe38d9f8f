-- What a line of the control connection makes of a server's data connection, whichever that is (RFC 959, sections 4.1.2 and 4.1.3).
use Rattle.std.specs.Prelude.{◌≡◌, ◌≤◌, Bool, ◌||◌, List, ℕ, None, length}
use Rattle.ftp_direct.specs.Direct.{barred_put}
use Rattle.ftp_endpoint.specs.declared.endpoint.Endpoint.{Endpoint}
use Rattle.ftp_path.specs.Path.{Names}
use Rattle.ftp_tree.specs.Tree.{octets_or_none}
use Rattle.ftp_wire.specs.Decoder.{no_octets}
use Rattle.ftp_server_model.specs.Act.{decided}
use Rattle.ftp_server_model.specs.Endpoint.{is_standing}
use Rattle.ftp_server_model.specs.Keep.{kept_count}
use Rattle.ftp_server_model.specs.Replies.{Turn}
use Rattle.ftp_server_model.specs.Transfer.{begin}
use Rattle.ftp_server_model.specs.View.{Context, Session, Transfer, direct_of, seen}
use Rattle.ftp_server_model.specs.declared.heard.HeardLine.{HeardLine}
use Rattle.ftp_server_model.specs.declared.reply.ReplyKind.TheVariants as Replies
use Rattle.ftp_server_model.specs.declared.session.PassiveVerb.{PassiveVerb}
use Rattle.ftp_server_model.specs.declared.session.Pending.{Pending}
use Rattle.ftp_server_model.specs.declared.session.ServerLink.{ServerLink}
use Rattle.ftp_server_model.specs.declared.session.ServerLink.TheVariants as Data
use Rattle.ftp_server_model.specs.declared.session.Transfer.TheVariants as Transfers

-- it stays, or is forgotten; a port is asked for, or an endpoint taken, in its place; or a transfer begins over it
pub data Turned : Type 0 where
  Stays Forgets : Turned
  Asks : (verb : PassiveVerb) → Turned
  Aims : (endpoint : Endpoint) → Turned
  Begins : (transfer : Transfer) → Turned

-- a session with this data connection, which is to be closed or not
abbrev pub with_link : ServerLink Transfer → Bool → Session → Session
with_link link closing s = record s { connection = link; closing = closing }

-- a turn of a session, with this data connection
abbrev pub turned_so : Turned → ServerLink Transfer → Bool → Turn → Turn
turned_so Stays link closing turn = (with_link link closing turn.0, turn.1)
turned_so Forgets link closing turn = (with_link Data.Free (closing || is_standing link) turn.0, turn.1)
turned_so (Asks verb) link closing turn = (with_link (Data.Asked verb) (closing || is_standing link) turn.0, turn.1)
turned_so (Aims endpoint) link closing turn = (with_link (Data.Active endpoint) (closing || is_standing link) turn.0, turn.1)
turned_so (Begins transfer) link closing turn = begin link transfer (with_link link closing turn.0)

-- a transfer begins in the session as it was, and its reply is that of its beginning
abbrev pub IsWholeBeginning : Turned → Turn → Session → Type 0
IsWholeBeginning (Begins transfer) turn s = turn ≡ (s, Replies.Nothing)
IsWholeBeginning turned turn s = Unit {0}

-- an upload begins with no octets yet, behind no more than stand there, of an account that may put there
abbrev pub IsBegun : Transfer → Session → Type 0
IsBegun (Transfers.Upload path keep d) s =
    (barred_put (direct_of s) path ≡ None) × (kept_count keep ≤ length (octets_or_none (seen s) path)) × (d ≡ no_octets s.settings)
IsBegun Transfers.OverLimit s = ⊥
IsBegun (Transfers.Download rest) s = Unit {0}
IsBegun (Transfers.Listing rest) s = Unit {0}

abbrev pub BegunSo : Turned → Session → Type 0
BegunSo (Begins transfer) s = IsBegun transfer s
BegunSo turned s = Unit {0}

-- what is done of a session looks at its data connection so alone
pub record TurnsBeside (acts : Session → Turn) (s : Session) : Type 0 where
  pub turned : Turned
  pub turn : Turn
  pub is : (link : ServerLink Transfer) (closing : Bool) → acts (with_link link closing s) ≡ turned_so turned link closing turn
  pub whole : IsWholeBeginning turned turn s
  pub begun : BegunSo turned s

-- so it is of every line
abbrev pub LinesGoBeside : Type 0
LinesGoBeside =
    (context : Context) (heard : HeardLine (List ℕ)) (pending : Pending Names) (s : Session) → TurnsBeside (decided context heard pending) s
