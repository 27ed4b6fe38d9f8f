-- What each call of a server keeps within limits: a lemma for each definition of `Machine` and `Calls`.
use Rattle.std.proofs.Common.{◌≡◌, ℕ, ◌<◌, ◌≤◌, ◌⊎◌, inl, inr, List, [], ◌∷◌, ◌++◌, Bool, true, false, not, Option, Some, None, refl, sym, ap, subst, ◌∙◌, append-nil, arith, length}
use Rattle.std.specs.Prelude.{codes, decimal, flat_map, if◌then◌else◌, ◌==◌}
use Rattle.std.proofs.lemmas.Bool.{and_parts, cond_both, leb-true, not-true}
use Rattle.std.proofs.lemmas.List.{length-append, length-drop}
use Rattle.ftp_command.proofs.CarriedLemmas.{six_fits, decimal_fits}
use Rattle.ftp_endpoint.specs.declared.endpoint.Endpoint.{Endpoint}
use Rattle.ftp_endpoint.specs.declared.host.Host.{Host}
use Rattle.ftp_endpoint.specs.declared.host.Host.TheVariants.{V4, V6}
use Rattle.ftp_endpoint.specs.Written.{IsTypedHost, six_of}
use Rattle.ftp_wire.specs.Decoder.{Decoder, broken, ended, is_whole}
use Rattle.ftp_ends.specs.Ear.{Ear, Unfinished, ear_out, ear_step, ended_text, line_out, unit_says, within_out}
use Rattle.ftp_ends.specs.Link.{same_host}
use Rattle.ftp_ends.specs.Reply.{reply_octets}
use Rattle.ftp_nvt.proofs.CutLemmas.{decided}
use Rattle.ftp_nvt.proofs.FoldLemmas.{ends as units}
use Rattle.ftp_nvt.specs.Lines.{NvtEvent, line, too_long, owed}
use Rattle.ftp_nvt.specs.Telnet.{TelnetUnit, data_octet, option, subnegotiation, command}
use Rattle.ftp_nvt.specs.declared.line.Stage.{Stage}
use Rattle.ftp_nvt.specs.declared.line.Stage.TheVariants as Lined
use Rattle.ftp_path.specs.Path.{Names, fits, text_of as path_text}
use Rattle.ftp_reply.specs.Reply.{last_line}
use Rattle.ftp_server_model.specs.Calls.{connection_of, listening_turn, unheard, port_opens_for, opens, refuses, takes_given, ends, breaks, clocked, gives_control, control_end, listening, listen_refused, data_opened, data_refused, gives_data, data_end, data_fault, data_closed, clock_step, control_step, listening_step, no_port_step, opened_step, refused_step, end_step, break_step, close_step, given_step}
use Rattle.ftp_server_model.specs.Endpoint.{forgotten, disconnected}
use Rattle.ftp_server_model.specs.Kept.{owed_limit, WaitingKeeps, ServerKeeps, StartKeeps, EachCallKeeps}
use Rattle.ftp_server_model.specs.Machine.{Reading, IsReading, Ending, given_out, completed, obeyed, waited, later, is_idle, is_connection_busy, is_transferring, is_abort, has_room, turned, replied, concluded, end_refusal, ends_by, installs, at_break, at_end, aborts, abort_said, aborted, heard_line, heard_event, heard_events, hears_octet, may_hear, with_session, breaks_off}
use Rattle.ftp_server_model.specs.Replies.{Turn, said_octets, fixed_reply, passive_reply_text, extended_reply_text}
use Rattle.ftp_server_model.specs.Texts.{text_of, fixed_reply_code}
use Rattle.ftp_server_model.specs.Told.{CanBeHeard, ConnectionKeeps, TransferKeeps, Keeps, IsBrief, TurnKeeps}
use Rattle.ftp_server_model.specs.View.{Session, Transfer, View, line_limit}
use Rattle.ftp_server_model.specs.declared.session.Keep.{Keep}
use Rattle.ftp_direct.specs.declared.refusal.Refusal.{Refusal}
use Rattle.ftp_server_model.specs.declared.heard.HeardLine.{HeardLine}
use Rattle.ftp_server_model.specs.declared.heard.HeardLine.TheVariants.{TooLong}
use Rattle.ftp_server_model.specs.declared.reply.FixedReply.{FixedReply}
use Rattle.ftp_server_model.specs.declared.reply.FixedReply.TheVariants as Texts
use Rattle.ftp_server_model.specs.declared.reply.ReplyKind.{ReplyKind}
use Rattle.ftp_server_model.specs.declared.reply.ReplyKind.TheVariants as Replies
use Rattle.ftp_server_model.specs.declared.session.PassiveVerb.TheVariants as Asking
use Rattle.ftp_server_model.specs.declared.session.Pending.TheVariants as Pendings
use Rattle.ftp_server_model.specs.declared.session.Way.TheVariants as Ways
use Rattle.ftp_server_model.specs.declared.session.ServerLink.{ServerLink}
use Rattle.ftp_server_model.specs.declared.session.ServerLink.TheVariants as Data
use Rattle.ftp_server_model.specs.declared.session.Transfer.TheVariants as Transfers
use Rattle.ftp_server_model.proofs.RepliesWritten.{lines_short, replies_have_room}
use Rattle.ftp_server_model.proofs.TurnLemmas.{forgotten_keeps, connection_keeps, pending_keeps, line_keeps, read_can_be_heard}
use Rattle.ftp_server_model.specs.Keep.{is_overtaken}

-- ---- how many octets a short reply has

text_short : (text : FixedReply) → length (text_of text) ≤ 60
text_short Texts.Ready = omega arith
text_short Texts.Unknown = omega arith
text_short Texts.LineTooLong = omega arith
text_short Texts.BadArgument = omega arith
text_short Texts.NotImplemented = omega arith
text_short Texts.BadSequence = omega arith
text_short Texts.BadParameter = omega arith
text_short Texts.Protocol = omega arith
text_short Texts.OnlyIpv4 = omega arith
text_short Texts.OnlyIpv6 = omega arith
text_short Texts.NotLoggedIn = omega arith
text_short Texts.PasswordNeeded = omega arith
text_short Texts.LoggedIn = omega arith
text_short Texts.LoginRefused = omega arith
text_short Texts.NotNeeded = omega arith
text_short Texts.Done = omega arith
text_short Texts.NewName = omega arith
text_short Texts.Refused = omega arith
text_short Texts.NotAllowed = omega arith
text_short Texts.NameRefused = omega arith
text_short Texts.NoRoom = omega arith
text_short Texts.TooMuch = omega arith
text_short Texts.Opens = omega arith
text_short Texts.Complete = omega arith
text_short Texts.NoConnection = omega arith
text_short Texts.Broken = omega arith
text_short Texts.LocalFault = omega arith
text_short Texts.AbortDone = omega arith
text_short Texts.TypeSet = omega arith
text_short Texts.StructureSet = omega arith
text_short Texts.ModeSet = omega arith
text_short Texts.Utf8Set = omega arith
text_short Texts.Fine = omega arith
text_short Texts.EndpointTaken = omega arith
text_short Texts.OnlyExtended = omega arith
text_short Texts.System = omega arith
text_short Texts.Help = omega arith
text_short Texts.Serving = omega arith
text_short Texts.Goodbye = omega arith

fixed_room : (text : FixedReply) → length (reply_octets (fixed_reply text)) ≤ 256
fixed_room text = omega (arith, lines_short (last_line (fixed_reply_code text) (text_of text) ∷ []), text_short text)

brief_room : (s : Session) (kind : ReplyKind Names) → IsBrief kind → length (said_octets s kind) ≤ 256
brief_room s Replies.Nothing brief = omega arith
brief_room s (Replies.Fixed text) brief = fixed_room text
brief_room s Replies.Here brief = absurd brief
brief_room s (Replies.Made path) brief = absurd brief
brief_room s (Replies.Restarting place) brief = absurd brief
brief_room s (Replies.Passive endpoint) brief = absurd brief
brief_room s (Replies.Extended port) brief = absurd brief
brief_room s (Replies.Size count) brief = absurd brief
brief_room s (Replies.Stamp digits) brief = absurd brief
brief_room s (Replies.Entry path) brief = absurd brief
brief_room s Replies.Features brief = absurd brief
brief_room s Replies.Chosen brief = absurd brief

six_room : (host : Host) (port : ℕ) → IsTypedHost host → port < 65536 → length (six_of host port) ≤ 200
six_room (V4 octets) port typed small = (six_fits (V4 octets) port tt typed small).short
six_room (V6 octets) port typed small = omega arith

passive_room : (s : Session) (host : Host) (port : ℕ) → IsTypedHost host → port < 65536 → length (said_octets s (Replies.Passive (record { host = host; port = port }))) ≤ 512
passive_room s host port typed small =
    let endpoint : Endpoint = record { host = host; port = port } in
    let text : length (passive_reply_text endpoint) ≤ 225 = omega (arith, length-append (codes "Entering Passive Mode (") (six_of host port ++ codes ")"), length-append (six_of host port) (codes ")"), six_room host port typed small) in
    omega (arith, lines_short (last_line 227 (passive_reply_text endpoint) ∷ []), text)

extended_room : (s : Session) (port : ℕ) → port < 65536 → length (said_octets s (Replies.Extended port)) ≤ 512
extended_room s port small =
    let number = decimal_fits port (omega (arith, small)) in
    let text : length (extended_reply_text port) ≤ 80 = omega (arith, length-append (codes "Entering Extended Passive Mode (|||") (decimal port ++ codes "|)"), length-append (decimal port) (codes "|)"), number.short) in
    omega (arith, lines_short (last_line 229 (extended_reply_text port) ∷ []), text)

-- ---- the room

pub least_room : (connection : ServerLink Transfer) → 5120 ≤ owed_limit connection
least_room connection = cond_both (is_connection_busy connection) 5120 8192 (λ n. 5120 ≤ n) (λ is. omega arith) (λ is. omega arith)

pub most_room : (connection : ServerLink Transfer) → owed_limit connection ≤ 8192
most_room connection = cond_both (is_connection_busy connection) 5120 8192 (λ n. n ≤ 8192) (λ is. omega arith) (λ is. omega arith)

calm_room : (connection : ServerLink Transfer) → is_connection_busy connection ≡ false → owed_limit connection ≡ 8192
calm_room connection is = ap (λ b. if b then 5120 else 8192) is

pub busy_owed : (v : View) → ServerKeeps v → is_connection_busy v.session.connection ≡ true → length v.owed ≤ 5120
busy_owed v k is = let room : owed_limit v.session.connection ≡ 5120 = ap (λ b. if b then 5120 else 8192) is in omega (arith, k.owed, room)

owed_most : (v : View) → ServerKeeps v → length v.owed ≤ 8192
owed_most v k = omega (arith, k.owed, most_room v.session.connection)

-- ---- what is said

pub moves_keeps : (session : Session) (v : View) → ServerKeeps v → Keeps session → length v.owed ≤ owed_limit session.connection → ServerKeeps (with_session session v)
moves_keeps session v k kept room = record { accounts = k.accounts; host = k.host; session = kept; waiting = k.waiting; owed = room }

-- to a session with no transfer
rests_keeps : (session : Session) (v : View) → ServerKeeps v → Keeps session → is_connection_busy session.connection ≡ false → ServerKeeps (with_session session v)
rests_keeps session v k kept calm = moves_keeps session v k kept (omega (arith, owed_most v k, calm_room session.connection calm))

pub replied_keeps : (text : FixedReply) (session : Session) (v : View) → ServerKeeps v → Keeps session → is_connection_busy session.connection ≡ false → length v.owed ≤ 7936 → ServerKeeps (replied text session v)
replied_keeps text session v k kept calm small = record {
  accounts = k.accounts;
  host = k.host;
  session = kept;
  waiting = k.waiting;
  owed = omega (arith, length-append v.owed (reply_octets (fixed_reply text)), fixed_room text, calm_room session.connection calm, small);
}

turned_keeps : (turn : Turn) (v : View) → ServerKeeps v → length v.owed ≤ 4096 → TurnKeeps turn → ServerKeeps (turned turn v)
turned_keeps turn v k small kept = record {
  accounts = k.accounts;
  host = k.host;
  session = kept.session;
  waiting = k.waiting;
  owed = elim kept.brief [
    | inl calm ↦ omega (arith, length-append v.owed (said_octets turn.0 turn.1), replies_have_room turn.0 turn.1 kept.told, calm_room turn.0.connection calm, small)
    | inr brief ↦ omega (arith, length-append v.owed (said_octets turn.0 turn.1), brief_room turn.0 turn.1 brief, least_room turn.0.connection, small)
  ];
}

-- ---- a line is acted on

given_out_keeps : (connection : ServerLink Transfer) (v : View) → v.session.connection ≡ connection → ServerKeeps v → ServerKeeps (given_out connection v)
given_out_keeps (Data.Transferring (Transfers.Download [])) v is k =
    replied_keeps Texts.Complete (forgotten v.session) v k (forgotten_keeps v.session k.session) refl (omega (arith, busy_owed v k (ap is_connection_busy is)))
given_out_keeps (Data.Transferring (Transfers.Listing [])) v is k =
    replied_keeps Texts.Complete (forgotten v.session) v k (forgotten_keeps v.session k.session) refl (omega (arith, busy_owed v k (ap is_connection_busy is)))
given_out_keeps (Data.Transferring (Transfers.Download (octet ∷ rest))) v is k = k
given_out_keeps (Data.Transferring (Transfers.Listing (octet ∷ rest))) v is k = k
given_out_keeps (Data.Transferring (Transfers.Upload path keep d)) v is k = k
given_out_keeps (Data.Transferring Transfers.OverLimit) v is k = k
given_out_keeps (Data.Asked asked) v is k = k
given_out_keeps (Data.Opening transfer way) v is k = k
given_out_keeps Data.Free v is k = k
given_out_keeps (Data.Active endpoint) v is k = k
given_out_keeps Data.Passive v is k = k
given_out_keeps Data.Ready v is k = k

completed_keeps : (v : View) → ServerKeeps v → ServerKeeps (completed v)
completed_keeps v k = given_out_keeps v.session.connection v refl k

obeyed_keeps : (heard : HeardLine (List ℕ)) (v : View) → ServerKeeps v → CanBeHeard heard → is_idle v ≡ true → ServerKeeps (obeyed heard v)
unfolding obeyed
obeyed_keeps heard v k said idle =
    let both = and_parts (not (is_connection_busy v.session.connection)) (has_room v) idle in
    let small = leb-true (length v.owed) 4096 both.1 in
    let calm = not-true (is_connection_busy v.session.connection) both.0 in
    let s : Session = record v.session { pending = Pendings.Nothing } in
    completed_keeps _ (turned_keeps _ v k small
    (line_keeps v.context heard v.session.pending s k.accounts said k.session.pending (pending_keeps Pendings.Nothing v.session tt k.session) calm))

waited_keeps : (waiting : Option (HeardLine (List ℕ))) (v : View) → v.waiting ≡ waiting → ServerKeeps v → ServerKeeps (waited waiting v)
waited_keeps None v is k = k
waited_keeps (Some heard) v is k =
    let before : View = record v { waiting = None } in
    cond_both (is_idle v) (obeyed heard before) v ServerKeeps
    (λ idle. obeyed_keeps heard before (record { accounts = k.accounts; host = k.host; session = k.session; waiting = tt; owed = k.owed }) (subst WaitingKeeps is k.waiting) idle)
    (λ busy. k)

pub later_keeps : (v : View) → ServerKeeps v → ServerKeeps (later v)
later_keeps v k = waited_keeps v.waiting v refl k

-- ---- how a transfer ends

-- the session that an ending leaves keeps its limits, with the data connection that it had
EndingKeeps : Session → Ending → Type 0
EndingKeeps s ending = Keeps ending.0 × (ending.0.connection ≡ s.connection)

unchanged : (s : Session) (text : FixedReply) → Keeps s → EndingKeeps s (s, text)
unfolding EndingKeeps
unchanged s text k = (k, refl)

installs_keeps : (moment : ℕ) (path : Names) (keep : Keep) (d : Decoder) (text : FixedReply) (s : Session) → Keeps s → EndingKeeps s (installs moment path keep d text s)
unfolding EndingKeeps
installs_keeps moment path keep d text s k = by_why (end_refusal path keep d.content s)
  where
    by_why : (why : Option Refusal) → (let ending = ends_by why moment path keep d.content text s in Keeps ending.0 × (ending.0.connection ≡ s.connection))
    by_why None = (record { access = k.access; root = k.root; cwd = k.cwd; pending = k.pending; connection = k.connection }, refl)
    by_why (Some why) = (k, refl)

break_keeps : (moment : ℕ) (transfer : Transfer) (s : Session) → Keeps s → EndingKeeps s (at_break moment transfer s)
break_keeps moment (Transfers.Upload path keep d) s k = by (is_overtaken keep)
  where
    by : (late : Bool) → EndingKeeps s (breaks_off late moment path keep d s)
    by true = unchanged s Texts.Broken k
    by false = installs_keeps moment path keep (broken d) Texts.Broken s k
break_keeps moment Transfers.OverLimit s k = unchanged s Texts.TooMuch k
break_keeps moment (Transfers.Download rest) s k = unchanged s Texts.Broken k
break_keeps moment (Transfers.Listing rest) s k = unchanged s Texts.Broken k

end_keeps : (moment : ℕ) (transfer : Transfer) (s : Session) → Keeps s → EndingKeeps s (at_end moment transfer s)
end_keeps moment (Transfers.Upload path keep d) s k =
    cond_both (is_whole d) (installs moment path keep (ended d) Texts.Complete s) (at_break moment (Transfers.Upload path keep d) s) (EndingKeeps s)
    (λ is. installs_keeps moment path keep (ended d) Texts.Complete s k) (λ is. break_keeps moment (Transfers.Upload path keep d) s k)
end_keeps moment Transfers.OverLimit s k = break_keeps moment Transfers.OverLimit s k
end_keeps moment (Transfers.Download rest) s k = break_keeps moment (Transfers.Download rest) s k
end_keeps moment (Transfers.Listing rest) s k = break_keeps moment (Transfers.Listing rest) s k

concluded_keeps : (ending : Ending) (s : Session) (v : View) → EndingKeeps s ending → s.connection ≡ Data.Free → ServerKeeps v → length v.owed ≤ 7936 → ServerKeeps (concluded ending v)
unfolding EndingKeeps
concluded_keeps ending s v kept free k small = replied_keeps ending.1 ending.0 v k kept.0 (ap is_connection_busy (kept.1 ∙ free)) small

disconnected_keeps : (s : Session) → Keeps s → Keeps (disconnected s)
disconnected_keeps s k = connection_keeps Data.Free s tt k

-- ---- the calls of the data connection

pub by_connection : (v : View) (f : ServerLink Transfer → View) → ServerKeeps (f Data.Free) → ServerKeeps (f v.session.connection) → ServerKeeps (f (connection_of v.session))
by_connection v f none one = cond_both v.session.closing Data.Free v.session.connection (λ connection. ServerKeeps (f connection)) (λ is. none) (λ is. one)

unsaid : (v : View) → ServerKeeps v → ServerKeeps (record v { owed = v.owed ++ [] })
unsaid v k = record { accounts = k.accounts; host = k.host; session = k.session; waiting = k.waiting; owed = omega (arith, length-append v.owed [], k.owed) }

-- a reply that tells a port, in place of the one that was asked for
told : (kind : ReplyKind Names) (v : View) → ServerKeeps v → is_connection_busy v.session.connection ≡ true → length (said_octets (record v.session { connection = Data.Passive }) kind) ≤ 512
    → ServerKeeps (turned (record v.session { connection = Data.Passive }, kind) v)
told kind v k busy short = record {
  accounts = k.accounts;
  host = k.host;
  session = connection_keeps Data.Passive v.session tt k.session;
  waiting = k.waiting;
  owed = omega (arith, length-append v.owed (said_octets (record v.session { connection = Data.Passive }) kind), busy_owed v k busy, short);
}

listened_keeps : (port : ℕ) (connection : ServerLink Transfer) (v : View) → port < 65536 → v.session.connection ≡ connection → ServerKeeps v
    → ServerKeeps (turned (listening_turn connection v.context port v.session) v)
listened_keeps port (Data.Asked Asking.Pasv) v small is k =
    told (Replies.Passive (record { host = v.context.here; port = port })) v k (ap is_connection_busy is) (passive_room (record v.session { connection = Data.Passive }) v.context.here port k.host small)
listened_keeps port (Data.Asked Asking.Epsv) v small is k = told (Replies.Extended port) v k (ap is_connection_busy is) (extended_room (record v.session { connection = Data.Passive }) port small)
listened_keeps port Data.Free v small is k = unsaid v k
listened_keeps port (Data.Active endpoint) v small is k = unsaid v k
listened_keeps port Data.Passive v small is k = unsaid v k
listened_keeps port (Data.Opening transfer way) v small is k = unsaid v k
listened_keeps port Data.Ready v small is k = unsaid v k
listened_keeps port (Data.Transferring transfer) v small is k = unsaid v k

unheard_keeps : (connection : ServerLink Transfer) (v : View) → v.session.connection ≡ connection → ServerKeeps v → ServerKeeps (unheard connection v)
unheard_keeps (Data.Asked asked) v is k =
    replied_keeps Texts.NoConnection (disconnected v.session) v k (disconnected_keeps v.session k.session) refl (omega (arith, busy_owed v k (ap is_connection_busy is)))
unheard_keeps Data.Free v is k = k
unheard_keeps (Data.Active endpoint) v is k = k
unheard_keeps Data.Passive v is k = k
unheard_keeps (Data.Opening transfer way) v is k = k
unheard_keeps Data.Ready v is k = k
unheard_keeps (Data.Transferring transfer) v is k = k

-- a transfer whose data connection is there, or is another's
opened_for : (is_peer : Bool) (transfer : Transfer) (v : View) → is_connection_busy v.session.connection ≡ true → TransferKeeps transfer → ServerKeeps v → ServerKeeps (port_opens_for is_peer transfer v)
opened_for true transfer v busy kept k =
    moves_keeps _ v k (connection_keeps (Data.Transferring transfer) v.session kept k.session) (busy_owed v k busy)
opened_for false transfer v busy kept k =
    replied_keeps Texts.NoConnection (forgotten v.session) v k (forgotten_keeps v.session k.session) refl (omega (arith, busy_owed v k busy))

opens_keeps : (connection : ServerLink Transfer) (is_peer : Bool) (v : View) → v.session.connection ≡ connection → ServerKeeps v → ServerKeeps (opens connection is_peer v)
opens_keeps Data.Passive true v is k = rests_keeps _ v k (connection_keeps Data.Ready v.session tt k.session) refl
opens_keeps Data.Passive false v is k = rests_keeps (forgotten v.session) v k (forgotten_keeps v.session k.session) refl
opens_keeps (Data.Opening transfer Ways.Accept) is_peer v is k = opened_for is_peer transfer v (ap is_connection_busy is) (subst ConnectionKeeps is k.session.connection) k
opens_keeps (Data.Opening transfer (Ways.Connect endpoint)) is_peer v is k = opened_for true transfer v (ap is_connection_busy is) (subst ConnectionKeeps is k.session.connection) k
opens_keeps Data.Free is_peer v is k = k
opens_keeps (Data.Active endpoint) is_peer v is k = k
opens_keeps (Data.Asked asked) is_peer v is k = k
opens_keeps Data.Ready is_peer v is k = k
opens_keeps (Data.Transferring transfer) is_peer v is k = k

refuses_keeps : (connection : ServerLink Transfer) (v : View) → v.session.connection ≡ connection → ServerKeeps v → ServerKeeps (refuses connection v)
refuses_keeps Data.Passive v is k = rests_keeps (forgotten v.session) v k (forgotten_keeps v.session k.session) refl
refuses_keeps (Data.Opening transfer way) v is k =
    replied_keeps Texts.NoConnection (forgotten v.session) v k (forgotten_keeps v.session k.session) refl (omega (arith, busy_owed v k (ap is_connection_busy is)))
refuses_keeps Data.Free v is k = k
refuses_keeps (Data.Active endpoint) v is k = k
refuses_keeps (Data.Asked asked) v is k = k
refuses_keeps Data.Ready v is k = k
refuses_keeps (Data.Transferring transfer) v is k = k

ends_keeps : (connection : ServerLink Transfer) (v : View) → v.session.connection ≡ connection → ServerKeeps v → ServerKeeps (ends connection v)
ends_keeps Data.Ready v is k = rests_keeps (disconnected v.session) v k (disconnected_keeps v.session k.session) refl
ends_keeps (Data.Transferring transfer) v is k =
    let s : Session = disconnected v.session in
    concluded_keeps (at_end v.context.moment transfer s) s v (end_keeps v.context.moment transfer s (disconnected_keeps v.session k.session)) refl k
    (omega (arith, busy_owed v k (ap is_connection_busy is)))
ends_keeps Data.Free v is k = k
ends_keeps (Data.Active endpoint) v is k = k
ends_keeps (Data.Asked asked) v is k = k
ends_keeps Data.Passive v is k = k
ends_keeps (Data.Opening transfer way) v is k = k

breaks_keeps : (connection : ServerLink Transfer) (v : View) → v.session.connection ≡ connection → ServerKeeps v → ServerKeeps (breaks connection v)
breaks_keeps Data.Ready v is k = rests_keeps (disconnected v.session) v k (disconnected_keeps v.session k.session) refl
breaks_keeps (Data.Transferring transfer) v is k =
    let s : Session = disconnected v.session in
    concluded_keeps (at_break v.context.moment transfer s) s v (break_keeps v.context.moment transfer s (disconnected_keeps v.session k.session)) refl k
    (omega (arith, busy_owed v k (ap is_connection_busy is)))
breaks_keeps Data.Free v is k = k
breaks_keeps (Data.Active endpoint) v is k = k
breaks_keeps (Data.Asked asked) v is k = k
breaks_keeps Data.Passive v is k = k
breaks_keeps (Data.Opening transfer way) v is k = k

takes_given_keeps : (count : ℕ) (connection : ServerLink Transfer) (v : View) → v.session.connection ≡ connection → ServerKeeps v → ServerKeeps (takes_given connection count v)
takes_given_keeps count (Data.Transferring (Transfers.Download rest)) v is k =
    moves_keeps _ v k (connection_keeps (Data.Transferring (Transfers.Download _)) v.session tt k.session) (busy_owed v k (ap is_connection_busy is))
takes_given_keeps count (Data.Transferring (Transfers.Listing rest)) v is k =
    moves_keeps _ v k (connection_keeps (Data.Transferring (Transfers.Listing _)) v.session tt k.session) (busy_owed v k (ap is_connection_busy is))
takes_given_keeps count (Data.Transferring (Transfers.Upload path keep d)) v is k = k
takes_given_keeps count (Data.Transferring Transfers.OverLimit) v is k = k
takes_given_keeps count Data.Free v is k = k
takes_given_keeps count (Data.Active endpoint) v is k = k
takes_given_keeps count (Data.Asked asked) v is k = k
takes_given_keeps count Data.Passive v is k = k
takes_given_keeps count (Data.Opening transfer way) v is k = k
takes_given_keeps count Data.Ready v is k = k

-- ---- control octets

-- a transfer is aborted, and both replies have room
aborts_keeps : (connection : ServerLink Transfer) (v : View) → is_transferring connection ≡ true → ServerKeeps v → length v.owed ≤ 4096 → ServerKeeps (abort_said (aborts connection v))
unfolding EndingKeeps
aborts_keeps (Data.Transferring transfer) v is k small =
    let s : Session = forgotten v.session in
    let e : Ending = at_break v.context.moment transfer s in
    let kept = break_keeps v.context.moment transfer s (forgotten_keeps v.session k.session) in
    let calm : is_connection_busy e.0.connection ≡ false = ap is_connection_busy kept.1 in
    let one = replied_keeps e.1 e.0 v k kept.0 calm (omega (arith, small)) in
    replied_keeps Texts.AbortDone e.0 (concluded e v) one kept.0 calm (omega (arith, length-append v.owed (reply_octets (fixed_reply e.1)), fixed_room e.1, small))
aborts_keeps (Data.Opening transfer way) v is k small =
    let s : Session = forgotten v.session in
    let kept = forgotten_keeps v.session k.session in
    let one = replied_keeps Texts.NoConnection s v k kept refl (omega (arith, small)) in
    replied_keeps Texts.AbortDone s (replied Texts.NoConnection s v) one kept refl (omega (arith, length-append v.owed (reply_octets (fixed_reply Texts.NoConnection)), fixed_room Texts.NoConnection, small))
aborts_keeps Data.Free v is k small = absurd (let e : false ≡ true = is in cc)
aborts_keeps (Data.Active endpoint) v is k small = absurd (let e : false ≡ true = is in cc)
aborts_keeps (Data.Asked asked) v is k small = absurd (let e : false ≡ true = is in cc)
aborts_keeps Data.Passive v is k small = absurd (let e : false ≡ true = is in cc)
aborts_keeps Data.Ready v is k small = absurd (let e : false ≡ true = is in cc)

heard_keeps : (heard : HeardLine (List ℕ)) (v : View) → CanBeHeard heard → ServerKeeps v → length v.owed ≤ 4096 → ServerKeeps (heard_line heard v)
heard_keeps heard v said k small =
    let waits : View = record v { waiting = Some heard } in
    cond_both (is_abort heard v) (aborted v) (later waits) ServerKeeps
    (λ is. later_keeps _ (aborts_keeps v.session.connection v (and_parts _ (is_transferring v.session.connection) is).1 k small))
    (λ is. later_keeps waits (record { accounts = k.accounts; host = k.host; session = k.session; waiting = said; owed = k.owed }))

-- an event of the ear: a line, or an answer of three octets
abbrev IsSmall : NvtEvent → Type 0
IsSmall (line text) = Unit {0}
IsSmall too_long = Unit {0}
IsSmall (owed answer) = length answer ≤ 3

event_keeps : (read : Reading) (event : NvtEvent) (v : View) → IsReading read → IsSmall event → ServerKeeps v → length v.owed ≤ 4096 → ServerKeeps (heard_event read event v)
event_keeps read (line text) v reading few k small = heard_keeps (read text) v (read_can_be_heard text (read text) (reading text)) k small
event_keeps read too_long v reading few k small = heard_keeps TooLong v tt k small
event_keeps read (owed answer) v reading few k small =
    record { accounts = k.accounts; host = k.host; session = k.session; waiting = k.waiting; owed = omega (arith, length-append v.owed answer, few, small, least_room v.session.connection) }

-- an octet says one thing at most
abbrev SaysFew : List NvtEvent → Type 0
SaysFew events = (events ≡ []) ⊎ ((event : NvtEvent) × (events ≡ event ∷ []) × IsSmall event)

within_few : (u : Unfinished) (c : ℕ) → SaysFew (within_out line_limit u c)
within_few u c =
    elim (decided (u.count == line_limit)) [
      | inl e ↦ rw e (inr (too_long, refl, tt))
      | inr e ↦ rw e (elim (decided (c == 10)) [
        | inl f ↦ rw f (inr (line (ended_text u.stage u.text), refl, tt))
        | inr f ↦ rw f (inl refl)
      ])
    ]

line_few : (stage : Stage) (u : Unfinished) (c : ℕ) → SaysFew (line_out line_limit stage u c)
line_few Lined.Start u c = within_few u c
line_few Lined.Inside u c = within_few u c
line_few Lined.AfterReturn u c = within_few u c
line_few Lined.Past u c = inl refl

with_none : (events : List NvtEvent) → SaysFew events → SaysFew (events ++ [])
with_none events few = subst SaysFew (sym (append-nil events)) few

unit_few : (u : Unfinished) (unit : TelnetUnit) → SaysFew (unit_says line_limit u unit)
unit_few u (data_octet c) =
    let few = line_few u.stage u c in
    with_none (line_out line_limit u.stage u c ++ []) (with_none (line_out line_limit u.stage u c) few)
unit_few u (option verb c) =
    elim (decided (verb == 253)) [
      | inl e ↦ rw e (inr (owed (255 ∷ 252 ∷ c ∷ []), refl, omega arith))
      | inr e ↦ rw e (elim (decided (verb == 251)) [
        | inl f ↦ rw f (inr (owed (255 ∷ 254 ∷ c ∷ []), refl, omega arith))
        | inr f ↦ rw f (inl refl)
      ])
    ]
unit_few u subnegotiation = inl refl
unit_few u (command c) = inl refl

out_few : (e : Ear) (c : ℕ) → SaysFew (ear_out line_limit e c)
out_few e c =
    let P : List TelnetUnit → Type 0 = λ us. SaysFew (flat_map (unit_says line_limit e.line) us) in
    elim (units e.place c) [
      | inl f ↦ subst P (sym f) (inl refl)
      | inr f ↦ subst P (sym f.1) (with_none (unit_says line_limit e.line f.0) (unit_few e.line f.0))
    ]

hear_keeps : (read : Reading) (octet : ℕ) (v : View) → IsReading read → ServerKeeps v → may_hear v ≡ true → ServerKeeps (hears_octet read v octet)
unfolding hears_octet
hear_keeps read octet v reading k may =
    let small = leb-true (length v.owed) 4096 (and_parts _ (has_room v) may).1 in
    let w : View = record v { ear = ear_step line_limit v.ear octet } in
    let kept : ServerKeeps w = record { accounts = k.accounts; host = k.host; session = k.session; waiting = k.waiting; owed = k.owed } in
    let P : List NvtEvent → Type 0 = λ events. ServerKeeps (heard_events read events w) in
    elim (out_few v.ear octet) [
      | inl e ↦ subst P (sym e) kept
      | inr e ↦ subst P (sym e.1) (event_keeps read e.0 w reading e.2 kept small)
    ]

-- ---- all calls

control_keeps : (count : ℕ) (v : View) → ServerKeeps v → ServerKeeps (control_step count v)
control_keeps count v k = record { accounts = k.accounts; host = k.host; session = k.session; waiting = k.waiting; owed = omega (arith, length-drop count v.owed, k.owed) }

clock_keeps : (moment : ℕ) (v : View) → ServerKeeps v → ServerKeeps (clock_step moment v)
clock_keeps moment v k = record { accounts = k.accounts; host = k.host; session = k.session; waiting = k.waiting; owed = k.owed }

close_keeps : (v : View) → ServerKeeps v → ServerKeeps (close_step v)
close_keeps v k = moves_keeps _ v k (record { access = k.session.access; root = k.session.root; cwd = k.session.cwd; pending = k.session.pending; connection = k.session.connection }) k.owed

control_end_keeps : (v : View) → ServerKeeps v → ServerKeeps (control_end v)
unfolding control_end
control_end_keeps v k = record {
  accounts = k.accounts;
  host = k.host;
  session = record { access = k.session.access; root = k.session.root; cwd = k.session.cwd; pending = tt; connection = tt };
  waiting = tt;
  owed = omega arith;
}

pub each_call_keeps : EachCallKeeps
unfolding clocked gives_control listening listen_refused data_opened data_refused gives_data data_end data_fault data_closed
each_call_keeps v k = record {
  clock = λ moment. later_keeps (clock_step moment v) (clock_keeps moment v k);
  hear = λ read octet reading may. hear_keeps read octet v reading k may;
  control = λ count. later_keeps (control_step count v) (control_keeps count v k);
  control_ended = control_end_keeps v k;
  listened = λ port small. later_keeps (listening_step port v)
      (by_connection v (λ connection. turned (listening_turn connection v.context port v.session) v) (unsaid v k) (listened_keeps port v.session.connection v small refl k));
  no_port = later_keeps (no_port_step v) (by_connection v (λ connection. unheard connection v) k (unheard_keeps v.session.connection v refl k));
  opened = λ host. later_keeps (opened_step host v) (completed_keeps (opens (connection_of v.session) (same_host host v.context.peer) v)
      (by_connection v (λ connection. opens connection (same_host host v.context.peer) v) k (opens_keeps v.session.connection (same_host host v.context.peer) v refl k)));
  refused = later_keeps (refused_step v) (by_connection v (λ connection. refuses connection v) k (refuses_keeps v.session.connection v refl k));
  given = λ count. later_keeps (given_step count v) (completed_keeps (takes_given (connection_of v.session) count v)
      (by_connection v (λ connection. takes_given connection count v) k (takes_given_keeps count v.session.connection v refl k)));
  ended = later_keeps (end_step v) (by_connection v (λ connection. ends connection v) k (ends_keeps v.session.connection v refl k));
  broke = later_keeps (break_step v) (by_connection v (λ connection. breaks connection v) k (breaks_keeps v.session.connection v refl k));
  closed = later_keeps (close_step v) (close_keeps v k);
}

pub start_keeps : StartKeeps
unfolding fits path_text
start_keeps table accounts here peer within typed = record {
  accounts = within;
  host = typed;
  session = record { access = tt; root = refl; cwd = refl; pending = tt; connection = tt };
  waiting = tt;
  owed = omega (arith, fixed_room Texts.Ready);
}
