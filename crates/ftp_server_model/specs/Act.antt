-- What each command does, one row a verb in the order of RFC 959, section 4.1, and the order of decisions on a line.
use Rattle.std.specs.Prelude.{ℕ, Bool, true, false, ◌||◌, List, if◌then◌else◌}
use Rattle.ftp_command.specs.Command.{role_of}
use Rattle.ftp_command.specs.Verb.{is_free_role, is_transfer_role}
use Rattle.ftp_command.specs.declared.command.Command.{Command}
use Rattle.ftp_command.specs.declared.command.Command.TheVariants as command
use Rattle.ftp_command.specs.declared.fault.CommandFault.{CommandFault}
use Rattle.ftp_command.specs.declared.fault.CommandFault.TheVariants as Faults
use Rattle.ftp_path.specs.Path.{Names}
use Rattle.ftp_server_model.specs.View.{Context, Session}
use Rattle.ftp_server_model.specs.Replies.{Turn, tells}
use Rattle.ftp_server_model.specs.Endpoint.{forgotten, port, pasv, epsv}
use Rattle.ftp_server_model.specs.Login.{user, pass, rein, quit}
use Rattle.ftp_server_model.specs.Setting.{set_kind, set_structure, set_mode, opts}
use Rattle.ftp_server_model.specs.Walk.{cwd, cdup, mkd, rmd, dele, rnfr, rnto}
use Rattle.ftp_server_model.specs.Ask.{size, mdtm, mlst}
use Rattle.ftp_server_model.specs.Transfer.{restart_asked, retr, stor, appe, list, nlst, mlsd}
use Rattle.ftp_server_model.specs.declared.heard.HeardLine.{HeardLine}
use Rattle.ftp_server_model.specs.declared.heard.HeardLine.TheVariants.{TooLong, Bad, Asks}
use Rattle.ftp_server_model.specs.declared.reply.FixedReply.{FixedReply}
use Rattle.ftp_server_model.specs.declared.reply.FixedReply.TheVariants as Texts
use Rattle.ftp_server_model.specs.declared.reply.ReplyKind.TheVariants as Replies
use Rattle.ftp_server_model.specs.declared.session.Access.{Access}
use Rattle.ftp_server_model.specs.declared.session.Access.TheVariants.{Nobody, AwaitsPass, Known}
use Rattle.ftp_server_model.specs.declared.session.Pending.{Pending}

-- each command, with what the line before left pending for it. An ABOR during a transfer is not done here (`Machine`)
abbrev pub act : Context → Command (List ℕ) → Pending Names → Session → Turn
act context (command.User name) pending s = user context.accounts name s
act context (command.Pass word) pending s = pass s.access context.accounts word s
act context (command.Acct text) pending s = tells Texts.NotNeeded s
act context (command.Cwd text) pending s = cwd text s
act context command.Cdup pending s = cdup s
act context command.Rein pending s = rein s
act context command.Quit pending s = quit s
act context (command.Port endpoint) pending s = port context endpoint s
act context command.Pasv pending s = pasv context s
act context (command.Eprt endpoint) pending s = port context endpoint s
act context (command.Epsv family) pending s = epsv context family s
act context (command.Repr kind) pending s = set_kind kind s
act context (command.Stru structure) pending s = set_structure structure s
act context (command.Mode mode) pending s = set_mode mode s
act context (command.Retr text) pending s = retr pending text s
act context (command.Stor text) pending s = stor pending text s
act context (command.Appe text) pending s = appe text s
act context (command.Allo octets longest) pending s = tells Texts.NotNeeded s
act context (command.Rest place) pending s = restart_asked place s
act context (command.Rnfr text) pending s = rnfr text s
act context (command.Rnto text) pending s = rnto pending text s
act context command.Abor pending s = tells Texts.AbortDone s
act context (command.Dele text) pending s = dele text s
act context (command.Rmd text) pending s = rmd text s
act context (command.Mkd text) pending s = mkd text s
act context command.Pwd pending s = (s, Replies.Here)
act context (command.List text) pending s = list text s
act context (command.Nlst text) pending s = nlst text s
act context (command.Mlst text) pending s = mlst text s
act context (command.Mlsd text) pending s = mlsd text s
act context (command.Size text) pending s = size text s
act context (command.Mdtm text) pending s = mdtm text s
act context command.Syst pending s = tells Texts.System s
act context command.Stat pending s = tells Texts.Serving s
act context (command.Help text) pending s = tells Texts.Help s
act context command.Noop pending s = tells Texts.Fine s
act context command.Feat pending s = (s, Replies.Features)
act context (command.Opts text) pending s = opts text s

-- ---- the order of decisions on a line (own choice)

-- the reply to a line that says no command
abbrev pub fault_text : CommandFault → FixedReply
fault_text Faults.Unknown = Texts.Unknown
fault_text Faults.BadArgument = Texts.BadArgument
fault_text Faults.NotDone = Texts.NotImplemented
fault_text Faults.BadParameter = Texts.BadParameter
fault_text Faults.Protocol = Texts.Protocol
fault_text Faults.Memory = Texts.LocalFault

-- the commands that are done before a login too (own choice)
abbrev pub is_free : Command (List ℕ) → Bool
is_free command = is_free_role (role_of command)

-- somebody is logged in
abbrev pub is_in : Access (List ℕ) → Bool
is_in Nobody = false
is_in (AwaitsPass name) = false
is_in Known = true

-- the transfer commands: those that need a data connection (RFC 959, section 4.1.3; RFC 3659, section 7)
abbrev pub is_transfer : Command (List ℕ) → Bool
is_transfer command = is_transfer_role (role_of command)

-- a transfer command forgets the endpoint, whatever comes of it (own choice)
abbrev pub forgets : Command (List ℕ) → Session → Session
forgets command s = if is_transfer command then forgotten s else s

-- a command has its own answer where somebody is logged in, or where it needs no login; else it is 530
abbrev pub is_allowed : Command (List ℕ) → Session → Bool
is_allowed command s = is_in s.access || is_free command

-- in this order: the line is too long; it says no command, and why; nobody is logged in; the command's own answer. That begins,
-- after EPSV ALL, with the 503 of PORT, PASV and EPRT
abbrev pub decided : Context → HeardLine (List ℕ) → Pending Names → Session → Turn
decided context TooLong pending s = tells Texts.LineTooLong s
decided context (Bad fault) pending s = tells (fault_text fault) s
decided context (Asks command) pending s =
    if is_allowed command s then act context command pending s else tells Texts.NotLoggedIn (forgets command s)
