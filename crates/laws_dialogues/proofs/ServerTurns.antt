-- One turn of the server: what it does of a command where no data connection is under way.
use Rattle.std.proofs.Common.{◌≡◌, ℕ, Bool, true, false, not, ◌&&◌, ◌||◌, List, [], ◌∷◌, Some, refl, sym, ap, ◌∙◌, append-nil}
use Rattle.std.specs.Prelude.{if◌then◌else◌}
use Rattle.ftp_command.specs.Line.{line_of, IsStated, IsTyped}
use Rattle.ftp_command.specs.declared.command.Command.{Command}
use Rattle.ftp_ends.specs.Reply.{Reply, reply_octets}
use Rattle.ftp_path.specs.Path.{Names}
use Rattle.ftp_server_model.specs.Act.{decided, act, is_in, is_free, is_transfer, forgets}
use Rattle.ftp_server_model.specs.Endpoint.{forgotten}
use Rattle.ftp_server_model.specs.Machine.{Reading, IsReading, is_abor, is_connection_busy, is_transferring, has_room, given_out, obeyed, later, aborted, heard_line, turned}
use Rattle.ftp_server_model.specs.Replies.{Turn, reply_said, octets_if_any, said_octets, tells}
use Rattle.ftp_server_model.specs.View.{Transfer, Session, View as Far}
use Rattle.ftp_server_model.specs.declared.heard.HeardLine.TheVariants.{Asks}
use Rattle.ftp_server_model.specs.declared.reply.ReplyKind.{ReplyKind}
use Rattle.ftp_server_model.specs.declared.reply.ReplyKind.TheVariants as Replies
use Rattle.ftp_server_model.specs.declared.reply.FixedReply.TheVariants as Texts
use Rattle.ftp_server_model.specs.declared.session.ServerLink.{ServerLink}
use Rattle.ftp_server_model.specs.declared.session.ServerLink.TheVariants as Data
use Rattle.ftp_server_model.specs.declared.session.Pending.TheVariants as Pendings
use Rattle.ftp_server_model.proofs.ReadingLemmas.{reads_stated}
use Rattle.laws_dialogues.specs.Stage.{still, row_octets}
use Rattle.laws_dialogues.specs.Dialogue.{is_set_aside}

-- ---- no data connection is under way

-- a connection that is aside is not busy
pub aside_idle : (connection : ServerLink Transfer) → is_set_aside connection ≡ true → is_connection_busy connection ≡ false
aside_idle Data.Free aside = refl
aside_idle Data.Passive aside = refl
aside_idle (Data.Active endpoint) aside = refl
aside_idle Data.Ready aside = absurd (cc)
aside_idle (Data.Asked asked) aside = absurd (cc)
aside_idle (Data.Opening transfer way) aside = absurd (cc)
aside_idle (Data.Transferring transfer) aside = absurd (cc)

-- on a connection that is not busy no download or listing is over, and nothing changes
not_out : (connection : ServerLink Transfer) (v : Far) → is_connection_busy connection ≡ false → given_out connection v ≡ v
not_out Data.Free v idle = refl
not_out Data.Passive v idle = refl
not_out (Data.Active endpoint) v idle = refl
not_out Data.Ready v idle = refl
not_out (Data.Asked asked) v idle = absurd (cc)
not_out (Data.Opening transfer way) v idle = absurd (cc)
not_out (Data.Transferring transfer) v idle = absurd (cc)

-- ---- a command is acted on at once

-- the session at which a command is decided
abbrev pub cleared : Far → Session
cleared f = record f.session { pending = Pendings.Nothing }

-- what is decided of a command
abbrev pub decides : Command (List ℕ) → Far → Turn
decides command f = decided f.context (Asks command) f.session.pending (cleared f)

-- a command other than ABOR
far_obeys : (command : Command (List ℕ)) (f : Far) → is_abor (Asks command) ≡ false → is_connection_busy f.session.connection ≡ false
    → heard_line (Asks command) (still f) ≡ obeyed (Asks command) (still f)
far_obeys command f other idle =
    let v : Far = record (still f) { waiting = Some (Asks command) } in
    let first : heard_line (Asks command) (still f) ≡ later v =
    ap (λ (b : Bool). if b && is_transferring f.session.connection then aborted (still f) else later v) other in
    first ∙ ap (λ (b : Bool). if not b && has_room v then obeyed (Asks command) (still f) else v) idle

-- whatever comes of it, before its last octet is given
pub far_hears : (read : Reading) (command : Command (List ℕ)) (f : Far) (turn : Turn) → IsReading read → IsTyped command → IsStated command → is_abor (Asks command) ≡ false
    → is_connection_busy f.session.connection ≡ false → decides command f ≡ turn
    → heard_line (read (line_of command)) (still f) ≡ given_out turn.0.connection (turned turn (still f))
unfolding obeyed
far_hears read command f turn reads typed stated other idle is =
    ap (λ heard. heard_line heard (still f)) (reads_stated read command reads typed stated) ∙ far_obeys command f other idle
    ∙ ap (λ (t : Turn). given_out t.0.connection (turned t (still f))) is

-- and where no data connection comes of it, its turn is all
far_turned : (command : Command (List ℕ)) (f : Far) (turn : Turn) → is_abor (Asks command) ≡ false → is_connection_busy f.session.connection ≡ false
    → decides command f ≡ turn → is_connection_busy turn.0.connection ≡ false
    → heard_line (Asks command) (still f) ≡ record (still (record f { session = turn.0 })) { owed = said_octets turn.0 turn.1 }
unfolding obeyed
far_turned command f turn other idle is behind =
    let obeys = far_obeys command f other idle in
    let v : Far = turned turn (still f) in
    obeys ∙ ap (λ (t : Turn). given_out t.0.connection (turned t (still f))) is ∙ not_out turn.0.connection v behind

-- the octets of a reply that is said, alone in a row
pub said_row : (s : Session) (kind : ReplyKind Names) (reply : Reply) → reply_said s kind ≡ Some reply → said_octets s kind ≡ row_octets (reply ∷ [])
said_row s kind reply said = ap octets_if_any said ∙ sym (append-nil (reply_octets reply))

-- a command other than ABOR, with no busy data connection before or behind it, leads to its session, and the server owes its reply
pub far_turn_is : (read : Reading) (command : Command (List ℕ)) (f : Far) (after : Session) (kind : ReplyKind Names) (reply : Reply)
    → IsReading read → IsTyped command → IsStated command → is_abor (Asks command) ≡ false → is_connection_busy f.session.connection ≡ false
    → decides command f ≡ (after, kind) → is_connection_busy after.connection ≡ false → reply_said after kind ≡ Some reply
    → heard_line (read (line_of command)) (still f) ≡ record (still (record f { session = after })) { owed = row_octets (reply ∷ []) }
far_turn_is read command f after kind reply reads typed stated other idle is behind said =
    ap (λ heard. heard_line heard (still f)) (reads_stated read command reads typed stated) ∙ far_turned command f (after, kind) other idle is behind
    ∙ ap (λ l. record (still (record f { session = after })) { owed = l }) (said_row after kind reply said)

-- ---- who is logged in

-- where the client is logged in, a command is acted on
pub decides_known : (command : Command (List ℕ)) (f : Far) → is_in f.session.access ≡ true
    → decides command f ≡ act f.context command f.session.pending (cleared f)
decides_known command f known =
    ap (λ (b : Bool). if b || is_free command then act f.context command f.session.pending (cleared f) else tells Texts.NotLoggedIn (forgets command (cleared f))) known

-- where it is not, a command that needs a login and is no transfer is answered that it is not logged in
pub decides_unknown : (command : Command (List ℕ)) (f : Far) → is_in f.session.access ≡ false → is_free command ≡ false → is_transfer command ≡ false
    → decides command f ≡ (cleared f, Replies.Fixed Texts.NotLoggedIn)
decides_unknown command f known free transfer =
    ap (λ (b : Bool). if b || is_free command then act f.context command f.session.pending (cleared f) else tells Texts.NotLoggedIn (forgets command (cleared f))) known
    ∙ ap (λ (b : Bool). if b then act f.context command f.session.pending (cleared f) else tells Texts.NotLoggedIn (forgets command (cleared f))) free
    ∙ ap (λ (b : Bool). tells Texts.NotLoggedIn (if b then forgotten (cleared f) else cleared f)) transfer

-- a command that needs no login
pub decides_free : (command : Command (List ℕ)) (f : Far) → is_free command ≡ true → decides command f ≡ act f.context command f.session.pending (cleared f)
decides_free command f free = by_access (is_in f.session.access)
  where
    by_access : (b : Bool) → (if b || is_free command then act f.context command f.session.pending (cleared f) else tells Texts.NotLoggedIn (forgets command (cleared f)))
        ≡ act f.context command f.session.pending (cleared f)
    by_access true = refl
    by_access false = ap (λ (b : Bool). if b then act f.context command f.session.pending (cleared f) else tells Texts.NotLoggedIn (forgets command (cleared f))) free
