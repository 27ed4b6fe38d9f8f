-- The map and the current directory: CWD, CDUP, MKD, RMD, DELE, RNFR, RNTO (RFC 959, section 4.1.3). What a command refuses and
-- what it changes are the words of the direct run (`ftp_direct`).
use Rattle.std.specs.Prelude.{ℕ, List, Option, Some, None}
use Rattle.ftp_path.specs.Path.{resolved, Names}
use Rattle.ftp_tree.specs.Tree.{Table, or_else, moved, freed, source_refusal, rename_refusal}
use Rattle.ftp_direct.specs.declared.refusal.Refusal.{Refusal}
use Rattle.ftp_direct.specs.declared.refusal.Refusal.TheVariants as Refusals
use Rattle.ftp_direct.specs.Direct.{refusal, done, barred, or_refused, refused_there, refused_name, limited, busy_refusal}
use Rattle.ftp_operation.specs.declared.op.Op.{Op}
use Rattle.ftp_operation.specs.declared.op.Op.TheVariants as Ops
use Rattle.ftp_server_model.specs.View.{Session, direct_of, as_direct, seen, with_seen}
use Rattle.ftp_server_model.specs.Replies.{Turn, tells}
use Rattle.ftp_server_model.specs.declared.reply.FixedReply.{FixedReply}
use Rattle.ftp_server_model.specs.declared.reply.FixedReply.TheVariants as Texts
use Rattle.ftp_server_model.specs.declared.reply.ReplyKind.{ReplyKind}
use Rattle.ftp_server_model.specs.declared.reply.ReplyKind.TheVariants as Replies
use Rattle.ftp_server_model.specs.declared.session.Pending.{Pending}
use Rattle.ftp_server_model.specs.declared.session.Pending.TheVariants as Pendings

-- the reply that tells a refusal
abbrev pub refusal_text : Refusal → FixedReply
refusal_text Refusals.LocalFault = Texts.LocalFault
refusal_text Refusals.NoRoom = Texts.NoRoom
refusal_text Refusals.BadArgument = Texts.BadArgument
refusal_text Refusals.BadParameter = Texts.BadParameter
refusal_text Refusals.NotLoggedIn = Texts.NotLoggedIn
refusal_text Refusals.Unavailable = Texts.Refused
refusal_text Refusals.NotAllowed = Texts.NotAllowed
refusal_text Refusals.TooMuch = Texts.TooMuch
refusal_text Refusals.BadName = Texts.NameRefused

-- a command is refused, and changes nothing, or has this turn
abbrev pub unless : Option Refusal → Session → Turn → Turn
unless None s turn = turn
unless (Some why) s turn = tells (refusal_text why) s

-- the path that a text names from the current directory
abbrev pub path_of : Session → List ℕ → Names
path_of s text = resolved s.cwd text

-- a command that is an operation of the direct run: refused as that refuses it, or done as that does it, which is then answered.
-- None of these looks at the moment
abbrev pub performs : Op (List ℕ) → ReplyKind Names → Session → Turn
performs op kind s = unless (refusal (direct_of s) op) s (as_direct (done (direct_of s) op 0).1 s, kind)

-- CWD (RFC 959, section 4.1.1)
abbrev pub cwd : List ℕ → Session → Turn
cwd text s = performs (Ops.ChangeDir text) (Replies.Fixed Texts.Done) s

-- CDUP: the root is its own parent (RFC 959, section 4.1.1)
abbrev pub cdup : Session → Turn
cdup s = performs Ops.Up (Replies.Fixed Texts.Done) s

-- MKD
abbrev pub mkd : List ℕ → Session → Turn
mkd text s = performs (Ops.MakeDir text) (Replies.Made (path_of s text)) s

-- RMD
abbrev pub rmd : List ℕ → Session → Turn
rmd text s = performs (Ops.RemoveDir text) (Replies.Fixed Texts.Done) s

-- DELE
abbrev pub dele : List ℕ → Session → Turn
dele text s = performs (Ops.Delete text) (Replies.Fixed Texts.Done) s

-- RNFR, the first half of a rename: the account may rename, what it names stands, and the current directory is not at or below it
abbrev pub refused_source : Session → Names → Option Refusal
refused_source s from =
    or_refused (barred s.rights.rename) (refused_there (limited from (or_else (source_refusal (seen s) from) (busy_refusal (direct_of s) from))))

-- RNFR: what it names is pending for the next line only
abbrev pub rnfr : List ℕ → Session → Turn
rnfr text s = unless (refused_source s (path_of s text)) s (tells Texts.NewName (record s { pending = Pendings.Rename (path_of s text) }))

-- what RNTO looks at: what the account sees, without a file whose place is taken by a file where it may rename onto files (own choice)
abbrev pub target_seen : Session → Names → Names → Table
target_seen s from to = freed s.rights.onto (seen s) from to

-- RNTO, the second half, right after it: what RNFR named is asked for again, since others may have taken it away
abbrev pub refused_target : Session → Names → Names → Option Refusal
refused_target s from to = or_refused (refused_source s from) (refused_name (limited to (rename_refusal (target_seen s from to) from to)))

abbrev pub renames : Names → Names → Session → Turn
renames from to s = unless (refused_target s from to) s (tells Texts.Done (with_seen (moved (target_seen s from to) from to) s))

-- RNTO: 503 where no RNFR stood right before it
abbrev pub rnto : Pending Names → List ℕ → Session → Turn
rnto (Pendings.Rename from) text s = renames from (path_of s text) s
rnto Pendings.Nothing text s = tells Texts.BadSequence s
rnto (Pendings.Restart place) text s = tells Texts.BadSequence s
