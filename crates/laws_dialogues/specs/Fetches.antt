-- A download, a Peek among them, a listing or an upload: what both ends hold while it is under way (RFC 959, sections 3.2 to 3.5 and 4.1.2; RFC 2428; RFC 3659,
-- sections 5 and 7).
use Rattle.std.specs.Prelude.{◌≡◌, ◌⊎◌, ℕ, ◌<◌, ◌≤◌, ◌+◌, ◌^◌, Bool, true, false, drop, length, List, ◌++◌, codes, decimal, Option, Some, None, if◌then◌else◌}
use Rattle.std.specs.Option.{unwrap_or}
use Rattle.ftp_command.specs.Line.{IsStated, IsTyped}
use Rattle.ftp_command.specs.declared.command.Command.{Command}
use Rattle.ftp_command.specs.declared.command.Command.TheVariants as Commands
use Rattle.ftp_pieces.specs.Machine.{IsFront}
use Rattle.ftp_endpoint.specs.Written.{IsTypedHost}
use Rattle.ftp_endpoint.specs.declared.host.Host.{Host}
use Rattle.ftp_wire.specs.Decoder.{no_octets, decoder_of, image_blocks}
use Rattle.ftp_ends.specs.Link.{is_v6}
use Rattle.ftp_ends.specs.Reply.{Reply, reply_of}
use Rattle.ftp_mode.specs.Block.{marked_text}
use Rattle.ftp_mode.specs.Wire.{wire as wire_of}
use Rattle.ftp_operation.specs.Answer.{Said, Done, Octets, Refused, Entries, Names as NameList}
use Rattle.ftp_operation.specs.Operation.{can_be_sent}
use Rattle.ftp_operation.specs.declared.op.How.{How}
use Rattle.ftp_operation.specs.declared.op.ListVerb.{ListVerb}
use Rattle.ftp_operation.specs.declared.op.ListVerb.TheVariants as Verbs
use Rattle.ftp_operation.specs.declared.op.Op.{Op}
use Rattle.ftp_operation.specs.declared.rights.Rights.{Rights}
use Rattle.ftp_operation.specs.declared.op.Op.TheVariants as Ops
use Rattle.ftp_path.specs.Path.{Names}
use Rattle.ftp_settings.specs.Representation.{form_of, has_markers}
use Rattle.ftp_settings.specs.declared.representation.Representation.{Representation}
use Rattle.ftp_tree.specs.Tree.{Table, installed, octets_or_none, octets_refusal, whenever}
use Rattle.ftp_tree.specs.declared.fault.TreeFault.{TreeFault}
use Rattle.ftp_tree.specs.declared.fault.TreeFault.TheVariants as Faults
use Rattle.ftp_direct.specs.declared.refusal.Refusal.{Refusal}
use Rattle.ftp_direct.specs.Listing.{lines_for}
use Rattle.ftp_direct.specs.Direct.{State, barred_put, changed, done, entries_in, file_of, named, named_or_here, names_for, offset_refusal, or_refused, part, place_at, put_refusal, refusal, refused_file, refused_name, refused_octets, refused_text, refused_there}
use Rattle.ftp_client_model.specs.Dialogue.{judged}
use Rattle.ftp_client_model.specs.Octets.{content_answer, download_flow, flow_of, has_enough, upload_text, written}
use Rattle.ftp_client_model.specs.Plan.{asked_settings, count_of, how_of, is_extended, list_command, listing_settings, offset_of, optional, own_command, settings_of}
use Rattle.ftp_client_model.specs.View.{View as Near, Flow, Sending, Receiving, Job, Doing, Transferring, Told}
use Rattle.ftp_client_model.specs.declared.client.Abort.TheVariants as Aborts
use Rattle.ftp_client_model.specs.declared.client.ClientLink.{ClientLink as NearConnection}
use Rattle.ftp_client_model.specs.declared.client.ClientLink.TheVariants as NearData
use Rattle.ftp_client_model.specs.declared.client.Ending.TheVariants as Endings
use Rattle.ftp_client_model.specs.declared.client.Replied.{Replied}
use Rattle.ftp_client_model.specs.declared.client.Replied.TheVariants as Replies
use Rattle.ftp_client_model.specs.declared.client.Standing.TheVariants as Standings
use Rattle.ftp_client_model.specs.declared.client.Step.TheVariants as Steps
use Rattle.ftp_server_model.specs.Act.{act, is_in}
use Rattle.ftp_server_model.specs.Keep.{kept_count, kept_of as kept_octets, lacks}
use Rattle.ftp_server_model.specs.Listing.{listing_wire}
use Rattle.ftp_server_model.specs.Machine.{is_abor}
use Rattle.ftp_server_model.specs.Replies.{extended_reply_text, passive_reply_text}
use Rattle.ftp_server_model.specs.Transfer.{file_wire, misplaced, transfer_starts}
use Rattle.ftp_server_model.specs.View.{View as Far, Context, Session, Transfer, all_facts, direct_of, how_in_force}
use Rattle.ftp_server_model.specs.declared.heard.HeardLine.TheVariants.{Asks}
use Rattle.ftp_server_model.specs.declared.session.Access.{Access}
use Rattle.ftp_server_model.specs.declared.session.Keep.{Keep}
use Rattle.ftp_server_model.specs.declared.session.Keep.TheVariants as Keeps
use Rattle.ftp_server_model.specs.declared.session.PassiveVerb.{PassiveVerb}
use Rattle.ftp_server_model.specs.declared.session.PassiveVerb.TheVariants as Asking
use Rattle.ftp_server_model.specs.declared.session.ServerLink.{ServerLink as FarConnection}
use Rattle.ftp_server_model.specs.declared.session.ServerLink.TheVariants as FarData
use Rattle.ftp_facts.specs.declared.name.Facts.{Facts}
use Rattle.ftp_server_model.specs.declared.session.Life.TheVariants as Lives
use Rattle.ftp_server_model.specs.declared.session.Pending.{Pending}
use Rattle.ftp_server_model.specs.declared.session.Pending.TheVariants as Pendings
use Rattle.ftp_server_model.specs.declared.session.Transfer.TheVariants as Transfers
use Rattle.laws_world.specs.Outcome.{download_of, fetched, mark_in, listing_text_by, upload_of}
use Rattle.laws_dialogues.specs.Dialogue.{Ends, IsSound, is_set_aside}

-- ---- what is asked for

-- a download of a file, whole, from an offset on or of its first octets, or a listing
abbrev pub IsFetch : Op (List ℕ) → Type 0
IsFetch (Ops.Get text how) = Unit {0}
IsFetch (Ops.GetFrom text offset how) = Unit {0}
IsFetch (Ops.Peek text count how) = Unit {0}
IsFetch (Ops.List text how) = Unit {0}
IsFetch (Ops.Names text how) = Unit {0}
IsFetch (Ops.Text verb text how) = Unit {0}
IsFetch other = ⊥

-- an upload
abbrev pub IsStore : Op (List ℕ) → Type 0
IsStore (Ops.Put text octets how) = Unit {0}
IsStore (Ops.Append text octets how) = Unit {0}
IsStore (Ops.PutFrom text offset octets how) = Unit {0}
IsStore other = ⊥

-- octets that rise to the server: the path at which they are put, which octets of the file there are kept before them, their text on the link, and
-- the moment at which the upload was begun
pub record Rise : Type 0 where
  pub path : State → Names
  pub keep : State → Keep
  pub octets : List ℕ
  pub text : List ℕ
  pub moment : ℕ

-- which way the octets go: to the client, or to the server
pub data Direction : Type 0 where
  Down : Direction
  Up : (rise : Rise) → Direction

-- what an operation asks for that has a link: how that is opened, the settings that it goes in, the offset of REST, its own command, why the server
-- refuses that, and which way octets go; of those that come to the client whether they are those of a listing, the octets, and the answer where they
-- come whole
pub record Ask : Type 0 where
  pub op : Op (List ℕ)
  pub how : How
  pub settings : Representation
  pub offset : Option ℕ
  pub command : Command (List ℕ)
  pub why : State → Option Refusal
  pub sends : Direction
  pub listed : Bool
  pub wire : State → List ℕ
  pub said : State → Said

-- ---- the client

-- it has entered, and has this job and this link
abbrev pub busy : Job → NearConnection → Near → Near
busy job connection n = record n { standing = Standings.Entered; job = job; run = None; connection = connection; closing = false }

-- what the client holds of octets that came
abbrev pub flow_after : Representation → List ℕ → Flow
flow_after settings came = Receiving (decoder_of settings came) (mark_in (no_octets settings) None came)

-- a Peek has all octets that it asked for
abbrev pub is_filled : Op (List ℕ) → Representation → List ℕ → Bool
is_filled op settings came = has_enough op (flow_after settings came)

-- the job whose command was sent: replies that came, and octets that came
abbrev pub fetching : Op (List ℕ) → Replied → Representation → List ℕ → Job
fetching op replied settings came =
    Transferring op (record { replied = replied; abort = Aborts.Unsent; flow = flow_after settings came })

-- what goes over the link, before an octet has moved
abbrev pub carrying : Direction → Representation → Flow
carrying Down settings = download_flow settings
carrying (Up rise) settings = Sending rise.text None

-- the job whose command was sent, before an octet has moved
abbrev pub offering : Ask → Replied → Job
offering ask replied = Transferring ask.op (record { replied = replied; abort = Aborts.Unsent; flow = carrying ask.sends ask.settings })

-- it has told this, and its link is to be closed or not
abbrev pub leaving : Said → Bool → Near → Near
leaving said closing n = record n { standing = Standings.Entered; job = Told said; run = None; connection = NearData.Free; closing = closing }

-- the first job and the first command behind the opening: REST where there is an offset, else the own command
abbrev pub opened_job : Option ℕ → Ask → Job
opened_job None ask = offering ask Replies.Nothing
opened_job (Some offset) ask = Doing ask.op Steps.Restart

-- the command of that job
abbrev pub opened_command : Option ℕ → Ask → Command (List ℕ)
opened_command None ask = ask.command
opened_command (Some offset) ask = Commands.Rest offset

-- ---- the server

-- a session with this data connection, which is to be closed or not, and with this pending for the next line
abbrev pub linked : FarConnection Transfer → Bool → Pending Names → Session → Session
linked connection closing pending s = record s { connection = connection; closing = closing; pending = pending; life = Lives.Running }

-- EPSV or PASV was heard
abbrev pub passive_verb_of : Bool → PassiveVerb
passive_verb_of extended = if extended then Asking.Epsv else Asking.Pasv

-- the reply to it, once there is a port
abbrev pub port_reply : Bool → Host → ℕ → Reply
port_reply true host port = reply_of 229 (extended_reply_text port)
port_reply false host port = reply_of 227 (passive_reply_text (record { host = host; port = port }))

-- REST is accepted
abbrev pub rest_reply : ℕ → Reply
rest_reply offset = reply_of 350 (codes "Restarting at " ++ decimal offset)

-- octets that are still to be given, of a file or of a listing
abbrev pub giving_of : Bool → List ℕ → Transfer
giving_of false octets = Transfers.Download octets
giving_of true octets = Transfers.Listing octets

-- the transfer that the own command begins
abbrev pub carried : Direction → Ask → State → Transfer
carried Down ask state = giving_of ask.listed (ask.wire state)
carried (Up rise) ask state = Transfers.Upload (rise.path state) (rise.keep state) (no_octets ask.settings)

-- what REST left for the own command
abbrev pub offset_pending : Option ℕ → Pending Names
offset_pending None = Pendings.Nothing
offset_pending (Some offset) = Pendings.Restart offset

-- ---- what no turn changes

-- hosts, settings and what the direct run sees
pub record Kept : Type 0 where
  pub near_here : Host
  pub near_peer : Host
  pub near_settings : Representation
  pub far_here : Host
  pub far_peer : Host
  pub table : Table
  pub access : Access (List ℕ)
  pub root : Names
  pub rights : Rights
  pub cwd : Names
  pub far_settings : Representation
  pub facts : Facts
  pub only_extended : Bool

-- of both ends
abbrev pub kept : Near → Far → Kept
kept n f = record {
  near_here = n.here;
  near_peer = n.peer;
  near_settings = n.settings;
  far_here = f.context.here;
  far_peer = f.context.peer;
  table = f.session.table;
  access = f.session.access;
  root = f.session.root;
  rights = f.session.rights;
  cwd = f.session.cwd;
  far_settings = f.session.settings;
  facts = f.session.facts;
  only_extended = f.session.only_extended;
}

-- each end is the other's peer, both are of one family; the server is in this state, in the settings that the client knows, with all facts in
-- force
pub record IsSteadySession (state : State) (k : Kept) : Type 0 where
  pub peer : k.near_peer ≡ k.far_here
  pub here : k.near_here ≡ k.far_peer
  pub typed : IsTypedHost k.far_here
  pub own : IsTypedHost k.near_here
  pub family : is_v6 k.near_here ≡ is_v6 k.near_peer
  pub all_ways : k.only_extended ≡ false
  pub table : k.table ≡ state.table
  pub access : is_in k.access ≡ state.known
  pub root : state.known ≡ true → k.root ≡ state.root
  pub rights : state.known ≡ true → k.rights ≡ state.rights
  pub cwd : k.cwd ≡ state.cwd
  pub settings : k.far_settings ≡ k.near_settings
  pub facts : k.facts ≡ all_facts

-- ---- where the settings are made

-- the server was asked for a port
pub record PortIsAsked (state : State) (ask : Ask) (n : Near) (f : Far) : Type 0 where
  pub near : n ≡ busy (Doing ask.op Steps.Passive) NearData.Free n
  pub closing : Bool
  pub session : f.session ≡ linked (FarData.Asked (passive_verb_of (is_extended n ask.op))) closing Pendings.Nothing f.session
  pub steady : IsSteadySession state (kept n f)
  pub set : n.settings ≡ ask.settings
  pub known : state.known ≡ true

-- the client wants a port of its own, and the server stands as it did
pub record PortIsWanted (state : State) (ask : Ask) (n : Near) (f : Far) : Type 0 where
  pub near : n ≡ busy (Doing ask.op Steps.Listen) NearData.ListenWanted n
  pub connection : FarConnection Transfer
  pub aside : is_set_aside connection ≡ true
  pub pending : Pending Names
  pub session : f.session ≡ linked connection false pending f.session
  pub steady : IsSteadySession state (kept n f)
  pub set : state.known ≡ true → n.settings ≡ ask.settings

-- a port is asked for or wanted; or the first command was refused, as nobody is logged in
abbrev pub Opens : State → Ask → Near → Far → Type 0
Opens state ask n f = PortIsAsked state ask n f ⊎ PortIsWanted state ask n f ⊎ ((state.known ≡ false) × Ends (Refused 530, state) n f)

-- ---- downloads: what is sent, and why nothing is

-- both in one, by the offset
abbrev pub fetch : Option ℕ → List ℕ → How → Op (List ℕ)
fetch None text how = Ops.Get text how
fetch (Some offset) text how = Ops.GetFrom text offset how

-- where a download begins in its file, if there is such a place
abbrev pub place_in_file : State → Option ℕ → List ℕ → How → Option ℕ
place_in_file state None text how = Some 0
place_in_file state (Some offset) text how = place_at state (named state text) how offset

-- why RETR is refused
abbrev pub why_not : State → Option ℕ → List ℕ → How → Option Refusal
why_not state offset text how = or_refused (refused_file state text) (refused_there (misplaced (place_in_file state offset text how)))

-- what is asked for, from the place where the download begins
abbrev pub content_from : State → Option ℕ → List ℕ → How → List ℕ
content_from state offset text how = drop (unwrap_or (place_in_file state offset text how) 0) (file_of state text)

-- the octets of the link
abbrev pub fetched_wire : State → Option ℕ → List ℕ → How → List ℕ
fetched_wire state offset text how = file_wire how.representation (unwrap_or (place_in_file state offset text how) 0) (content_from state offset text how)

-- a download as what is asked for
abbrev pub download_ask : Option ℕ → List ℕ → How → Ask
download_ask offset text how = record {
  op = fetch offset text how;
  how = how;
  settings = how.representation;
  offset = offset;
  command = Commands.Retr text;
  why = λ state. why_not state offset text how;
  sends = Down;
  listed = false;
  wire = λ state. fetched_wire state offset text how;
  said = λ state. Octets (content_from state offset text how);
}

-- ---- listings: lines that end in LF, in type A (RFC 959, section 4.1.3; RFC 3659, section 7)

-- what a command gives, and the answer that is read of it
abbrev pub listing_ask : Op (List ℕ) → ListVerb → List ℕ → How → (State → Said) → Ask
listing_ask op verb text how said = record {
  op = op;
  how = how;
  settings = listing_settings how.representation.mode;
  offset = None;
  command = list_command verb (optional text);
  why = λ state. refused_text verb state text;
  sends = Down;
  listed = true;
  wire = λ state. listing_wire how.representation.mode (lines_for verb (part state) (named_or_here state text) text);
  said = said;
}

-- entries, one a line
abbrev pub list_ask : List ℕ → How → Ask
list_ask text how = listing_ask (Ops.List text how) Verbs.Mlsd text how (λ state. Entries (entries_in (part state) (named_or_here state text)))

-- pathnames, one a line
abbrev pub names_ask : List ℕ → How → Ask
names_ask text how = listing_ask (Ops.Names text how) Verbs.Nlst text how (λ state. NameList (names_for (part state) (named_or_here state text) text))

-- the text of either, or of LIST
abbrev pub text_ask : ListVerb → List ℕ → How → Ask
text_ask verb text how = listing_ask (Ops.Text verb text how) verb text how (λ state. Octets (listing_text_by verb state text))

-- ---- what is so of what is asked for

-- the client plans it so
pub record HasPlan (ask : Ask) : Type 0 where
  pub how_is : how_of ask.op ≡ Some ask.how
  pub asks : asked_settings ask.op ≡ Some ask.settings
  pub offset_is : offset_of ask.op ≡ ask.offset
  pub own : own_command ask.op ≡ ask.command
  pub flow : flow_of ask.op ≡ Some (carrying ask.sends ask.settings)

-- the server reads its commands, and acts on the own one so in these settings
pub record HasRow (ask : Ask) : Type 0 where
  pub typed : IsTyped ask.command
  pub stated : IsStated ask.command
  pub other : is_abor (Asks ask.command) ≡ false
  pub few : (at : ℕ) → ask.offset ≡ Some at → at < 10 ^ 18
  pub acts : (context : Context) (s : Session) → s.settings ≡ ask.settings → s.facts ≡ all_facts
      → act context ask.command (offset_pending ask.offset) s ≡ transfer_starts (ask.why (direct_of s)) (carried ask.sends ask (direct_of s)) s

-- REST is not refused
abbrev pub IsPlacedAt : Representation → Option ℕ → Type 0
IsPlacedAt settings None = Unit {0}
IsPlacedAt settings (Some at) = offset_refusal at (how_in_force settings) ≡ None

-- its octets are the one text of a download that the world knows
pub record IsKnownText (ask : Ask) (state : State) : Type 0 where
  pub start : ℕ
  pub octets : List ℕ
  pub down : download_of state ask.op ≡ Some (record (fetched ask.settings start octets) { asked = count_of ask.op })
  pub text : written (has_markers ask.settings) ask.settings start octets ≡ ask.wire state

-- it can be sent, and the direct run refuses it where the server does
pub record HasRefusals (ask : Ask) : Type 0 where
  pub can : can_be_sent ask.op ≡ true
  pub refused : (state : State) (why : Refusal) → IsPlacedAt ask.settings ask.offset → ask.why state ≡ Some why → refusal state ask.op ≡ Some why
  pub unplaced : (state : State) (at : ℕ) (why : Refusal) → ask.offset ≡ Some at → offset_refusal at (how_in_force ask.settings) ≡ Some why
      → refusal state ask.op ≡ Some why

-- of what falls: the direct run refuses it or answers so, and the client reads that answer out of the whole octets, and a Peek out of a front
-- of them that is enough
pub record HasAnswer (ask : Ask) : Type 0 where
  pub refused : (state : State) → IsPlacedAt ask.settings ask.offset → refusal state ask.op ≡ ask.why state
  pub done_so : (state : State) (moment : ℕ) → done state ask.op moment ≡ (ask.said state, state)
  pub whole : (state : State) (mark : Option ℕ) → IsSound state → state.known ≡ true → ask.why state ≡ None
      → judged Endings.Clean Aborts.Unsent 226 ask.op (Receiving (decoder_of ask.settings (ask.wire state)) mark) ≡ Some (ask.said state)
  pub filled : (state : State) (came : List ℕ) → IsSound state → ask.why state ≡ None → IsFront came (ask.wire state)
      → is_filled ask.op ask.settings came ≡ true → content_answer ask.op (decoder_of ask.settings came).content ≡ Some (ask.said state)
  pub no_upload : (state : State) → upload_of state ask.op ≡ None
  pub sent_so : (state : State) → ask.why state ≡ None → IsKnownText ask state

-- ---- uploads

-- the octets of the file that are kept
abbrev pub kept_of : Rise → State → List ℕ
kept_of rise state = kept_octets (rise.keep state) (octets_or_none (part state) (rise.path state))

-- the state with these octets behind those
abbrev pub stored : Rise → State → List ℕ → State
stored rise state content = changed state (installed (part state) (rise.path state) (kept_of rise state ++ content) rise.moment)

-- why so many octets behind those that are kept are too many
abbrev pub excess_of : Rise → State → ℕ → Option TreeFault
excess_of rise state count = octets_refusal (part state) (rise.path state) (kept_count (rise.keep state) + count)

-- why the server refuses at the end to put octets there
abbrev pub end_why : Rise → State → List ℕ → Option Refusal
end_why rise state content =
    or_refused (barred_put state (rise.path state))
    (or_refused (refused_name (whenever (lacks (rise.keep state) (octets_or_none (part state) (rise.path state))) Faults.BadOffset))
    (put_refusal state (rise.path state) (length (kept_of rise state ++ content))))

-- what is kept stands there: so many octets at least, or all of them, which are as many; and nobody else changed it
abbrev pub IsKept : Keep → List ℕ → Type 0
IsKept (Keeps.First count) octets = count ≤ length octets
IsKept (Keeps.All count) octets = length octets ≡ count
IsKept (Keeps.FirstOvertaken count) octets = ⊥
IsKept (Keeps.AllOvertaken count) octets = ⊥

-- the one text of octets in some settings: plain, or with restart markers, which count octets from a start (RFC 959, section 3.5)
abbrev pub IsTextOf : Representation → List ℕ → List ℕ → Type 0
IsTextOf settings octets text =
    (text ≡ wire_of settings.mode (form_of settings) octets)
    ⊎ ((start : ℕ) × (settings ≡ image_blocks) × (start < 10 ^ 18) × (text ≡ marked_text start octets))

-- it is an upload that the world knows
pub record IsKnownUpload (ask : Ask) (rise : Rise) (state : State) : Type 0 where
  pub start : ℕ
  pub set : settings_of ask.how ≡ ask.settings
  pub up : upload_of state ask.op ≡ Some (record { path = rise.path state; kept = kept_of rise state; start = start; octets = rise.octets; how = ask.how })
  pub text : upload_text ask.how start rise.octets ≡ rise.text

-- of what rises: what the direct run makes of it, and the one text of an upload that the world knows
pub record HasUpload (ask : Ask) (rise : Rise) : Type 0 where
  pub sends_is : ask.sends ≡ Up rise
  pub all : count_of ask.op ≡ None
  pub text_is : IsTextOf ask.settings rise.octets rise.text
  pub within : (state : State) → IsKept (rise.keep state) (octets_or_none (part state) (rise.path state))
  pub refused : (state : State) → IsPlacedAt ask.settings ask.offset → ask.why state ≡ None → refusal state ask.op ≡ refused_octets (excess_of rise state (length rise.octets))
  pub ends_so : (state : State) (content : List ℕ) → ask.why state ≡ None → end_why rise state content ≡ refused_octets (excess_of rise state (length content))
  pub done_so : (state : State) → done state ask.op rise.moment ≡ (Done, stored rise state rise.octets)
  pub known_so : (state : State) → IsKnownUpload ask rise state
  pub sound : (state : State) (content : List ℕ) → IsSound state → state.known ≡ true → ask.why state ≡ None → excess_of rise state (length content) ≡ None
      → IsSound (stored rise state content)

-- by which way its octets go
abbrev pub IsOf : Ask → Direction → Type 0
IsOf ask Down = HasAnswer ask
IsOf ask (Up rise) = HasUpload ask rise

-- of an upload, it was begun at this moment
abbrev pub IsTimely : Direction → ℕ → Type 0
IsTimely Down moment = Unit {0}
IsTimely (Up rise) moment = rise.moment ≡ moment

-- all of these
pub record IsAsk (ask : Ask) : Type 0 where
  pub plan : HasPlan ask
  pub row : HasRow ask
  pub refuses : HasRefusals ask
  pub way : IsOf ask ask.sends
