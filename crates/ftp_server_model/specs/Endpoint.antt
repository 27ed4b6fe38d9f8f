-- Where the data connection goes: PORT, PASV (RFC 959, section 4.1.2), EPRT, EPSV (RFC 2428).
use Rattle.std.specs.Prelude.{Bool, true, false, ◌&&◌, ◌||◌, nat_le, if◌then◌else◌}
use Rattle.ftp_endpoint.specs.declared.endpoint.Endpoint.{Endpoint}
use Rattle.ftp_endpoint.specs.declared.host.Host.{Host}
use Rattle.ftp_command.specs.declared.command.Passive.{Passive}
use Rattle.ftp_command.specs.declared.command.Passive.TheVariants.{Any, Ipv4, Ipv6, Only}
use Rattle.ftp_ends.specs.Link.{same_host, is_v6}
use Rattle.ftp_server_model.specs.View.{Context, Transfer, Session}
use Rattle.ftp_server_model.specs.Replies.{Turn, tells}
use Rattle.ftp_server_model.specs.declared.reply.FixedReply.TheVariants as Texts
use Rattle.ftp_server_model.specs.declared.reply.ReplyKind.TheVariants as Replies
use Rattle.ftp_server_model.specs.declared.session.PassiveVerb.{PassiveVerb}
use Rattle.ftp_server_model.specs.declared.session.PassiveVerb.TheVariants as Asking
use Rattle.ftp_server_model.specs.declared.session.Way.TheVariants as Ways
use Rattle.ftp_server_model.specs.declared.session.ServerLink.{ServerLink}
use Rattle.ftp_server_model.specs.declared.session.ServerLink.TheVariants as Data

-- it is open, or a port is listened at: there is something to close
abbrev pub is_standing : ServerLink Transfer → Bool
is_standing Data.Free = false
is_standing (Data.Asked asked) = false
is_standing (Data.Active endpoint) = false
is_standing Data.Passive = true
is_standing Data.Ready = true
is_standing (Data.Opening transfer (Ways.Connect endpoint)) = false
is_standing (Data.Opening transfer Ways.Accept) = true
is_standing (Data.Transferring transfer) = true

-- the endpoint is forgotten, and what stands of it is to be closed
abbrev pub forgotten : Session → Session
forgotten s = record s { connection = Data.Free; closing = s.closing || is_standing s.connection }

-- the data connection is gone, and nothing is left to close
abbrev pub disconnected : Session → Session
disconnected s = record s { connection = Data.Free }

-- the endpoint of the client is on its own host, and on no port below 1024 (own choice; RFC 2577, section 3)
abbrev pub is_taken : Host → Endpoint → Bool
is_taken peer endpoint = same_host endpoint.host peer && nat_le 1024 endpoint.port

-- an endpoint is taken in place of the one before, or refused with 504
abbrev pub takes : Bool → Endpoint → Session → Turn
takes true endpoint s = tells Texts.EndpointTaken (record s { connection = Data.Active endpoint })
takes false endpoint s = tells Texts.BadParameter s

-- PORT and EPRT: the endpoint before is forgotten whether the new one is taken or not; after EPSV ALL neither is done (RFC 2428,
-- section 4; that it is 503 is an own choice)
abbrev pub port : Context → Endpoint → Session → Turn
port context endpoint s =
    if s.only_extended then tells Texts.BadSequence s else takes (is_taken context.peer endpoint) endpoint (forgotten s)

-- a port is asked for; the reply follows when it is told, or refused
abbrev pub asks : PassiveVerb → Session → Turn
asks asked s = (record (forgotten s) { connection = Data.Asked asked }, Replies.Nothing)

-- PASV: it names no endpoint of IPv6, and is 425 there (own choice)
abbrev pub pasv : Context → Session → Turn
pasv context s =
    if s.only_extended then tells Texts.BadSequence s
    else (if is_v6 context.here then tells Texts.NoConnection s else asks Asking.Pasv s)

-- EPSV: of the family of the control connection, or of none; ALL: no other command opens a data connection from now on (RFC 2428,
-- sections 3 and 4)
abbrev pub epsv : Context → Passive → Session → Turn
epsv context Any s = asks Asking.Epsv s
epsv context Ipv4 s = if is_v6 context.here then tells Texts.OnlyIpv6 s else asks Asking.Epsv s
epsv context Ipv6 s = if is_v6 context.here then asks Asking.Epsv s else tells Texts.OnlyIpv4 s
epsv context Only s = tells Texts.OnlyExtended (record s { only_extended = true })
