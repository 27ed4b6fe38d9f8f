-- A download, a listing or an upload: what each end makes of each line and reply.
use Rattle.std.proofs.Common.{◌≡◌, inl, inr, ℕ, ◌<◌, ◌≤◌, ◌^◌, Bool, true, false, ◌&&◌, ◌||◌, List, [], ◌∷◌, ◌++◌, drop, Option, Some, None, refl, sym, ap, subst, ◌∙◌, append-nil, arith}
use Rattle.std.specs.Prelude.{nat_le, if◌then◌else◌}
use Rattle.std.proofs.lemmas.Bool.{le-leb}
use Rattle.std.specs.Option.{unwrap_or}
use Rattle.std.proofs.lemmas.Cmp.{nat_list_eq_equiv}
use Rattle.ftp_nvt.specs.Lines.{written_line}
use Rattle.ftp_command.specs.Line.{IsLine, line_of}
use Rattle.ftp_command.specs.declared.command.Command.{Command}
use Rattle.ftp_command.specs.declared.command.Command.TheVariants as Commands
use Rattle.ftp_command.specs.declared.command.Passive.TheVariants as Passives
use Rattle.ftp_command.proofs.CarriedLemmas.{carried}
use Rattle.ftp_endpoint.specs.Written.{IsTypedHost, IsV4}
use Rattle.ftp_endpoint.specs.declared.endpoint.Endpoint.{Endpoint}
use Rattle.ftp_endpoint.specs.declared.host.Host.{Host}
use Rattle.ftp_endpoint.specs.declared.host.Host.TheVariants.{V4, V6}
use Rattle.ftp_wire.specs.Decoder.{Decoder, decoder_of, no_octets}
use Rattle.ftp_ends.specs.Reply.{reply_octets}
use Rattle.ftp_ends.specs.Link.{same_host, is_v6}
use Rattle.ftp_operation.specs.Answer.{Said, Foreign, Refused, Unopened}
use Rattle.ftp_operation.specs.declared.op.How.{How}
use Rattle.ftp_operation.specs.declared.op.Op.{Op}
use Rattle.ftp_path.specs.Path.{IsPathText, Names, resolved}
use Rattle.ftp_reply.specs.Lines.{Text as ReplyText}
use Rattle.ftp_settings.specs.declared.representation.Representation.{Representation}
use Rattle.ftp_direct.specs.declared.refusal.Refusal.{Refusal}
use Rattle.ftp_direct.specs.Direct.{State, file_of, offset_refusal, or_refused, place_at, refused_file, refused_there}
use Rattle.ftp_direct.specs.Refusal.{code_of}
use Rattle.ftp_client_model.specs.Dialogue.{answered, answers_once_over, endpoint_named, finishes_read, judged, judged_reply, last_job, passive_named, placed, port_named, sends, sends_abort, sends_if}
use Rattle.ftp_client_model.specs.Octets.{flow_of}
use Rattle.ftp_client_model.specs.Plan.{may_ask_extended, from_kind, how_of, is_extended, offset_of, opening_of, passive_command, port_command, restart_command, step_behind_opening, step_by}
use Rattle.ftp_client_model.specs.View.{View as Near, Transfer as ClientTransfer, Doing, Receiving, stands}
use Rattle.ftp_client_model.specs.declared.client.Abort.TheVariants as Aborts
use Rattle.ftp_client_model.specs.declared.client.ClientLink.{ClientLink as NearConnection}
use Rattle.ftp_client_model.specs.declared.client.ClientLink.TheVariants as NearData
use Rattle.ftp_client_model.specs.declared.client.Ending.{Ending}
use Rattle.ftp_client_model.specs.declared.client.Ending.TheVariants as Endings
use Rattle.ftp_client_model.specs.declared.client.Replied.TheVariants as Replies
use Rattle.ftp_client_model.specs.declared.client.Step.{Step}
use Rattle.ftp_client_model.specs.declared.client.Step.TheVariants as Steps
use Rattle.ftp_server_model.specs.Endpoint.{forgotten, is_standing, is_taken, takes}
use Rattle.ftp_server_model.specs.Machine.{Reading, IsReading, given_out, heard_line, is_connection_busy, replied, turned}
use Rattle.ftp_server_model.specs.Act.{act}
use Rattle.ftp_server_model.specs.Replies.{extended_reply_text, fixed_reply, passive_reply_text, tells}
use Rattle.ftp_server_model.specs.Texts.{fixed_reply_code as reply_code}
use Rattle.ftp_server_model.specs.Transfer.{begin, file_wire, misplaced, place_of, restart_pending, transfer_starts}
use Rattle.ftp_server_model.specs.View.{View as Far, Session, Transfer, direct_of, how_in_force}
use Rattle.ftp_server_model.specs.Walk.{path_of, refusal_text}
use Rattle.ftp_server_model.specs.declared.reply.ReplyKind.TheVariants as Kinds
use Rattle.ftp_server_model.specs.declared.reply.FixedReply.TheVariants as Texts
use Rattle.ftp_server_model.specs.declared.session.Keep.{Keep}
use Rattle.ftp_server_model.specs.declared.session.PassiveVerb.{PassiveVerb}
use Rattle.ftp_server_model.specs.declared.session.PassiveVerb.TheVariants as Asking
use Rattle.ftp_server_model.specs.declared.session.ServerLink.TheVariants as FarData
use Rattle.ftp_server_model.specs.declared.session.Pending.TheVariants as Pendings
use Rattle.ftp_server_model.specs.declared.session.Transfer.TheVariants as Transfers
use Rattle.ftp_server_model.specs.declared.session.Way.TheVariants as Ways
use Rattle.laws_world.specs.Outcome.{mark_in}
use Rattle.laws_dialogues.specs.Dialogue.{FarWaits, Passes, Stands, doing, resting}
use Rattle.laws_dialogues.specs.Fetches.{Ask, HasPlan, HasRow, Opens, busy, carried as offered, fetching, flow_after, is_filled, offering, leaving, opened_command, opened_job, passive_verb_of, port_reply, rest_reply, giving_of, offset_pending, kept, IsSteadySession, download_ask, place_in_file}
use Rattle.laws_dialogues.specs.Operations.{LeadsBy}
use Rattle.laws_dialogues.specs.Stage.{calm, still, row_octets, FarTurn}
use Rattle.laws_dialogues.proofs.Exchanges.{IsSent, with_session}
use Rattle.laws_dialogues.proofs.Offering.{offer_denied, offer_unopened}
use Rattle.laws_dialogues.proofs.PortTexts.{passive-reads, extended-reads}
use Rattle.laws_dialogues.proofs.Rows.{is_negative, tells_code}
use Rattle.laws_dialogues.proofs.ServerTurns.{aside_idle, cleared, decides, decides_known, decides_unknown, far_hears, far_turn_is}
use Rattle.laws_dialogues.proofs.Settings.{LeadsFrom, settings_lead}

-- ---- a port is asked for

-- ends that stand in a state are steady in it
pub steady_at : (state : State) (n : Near) (f : Far) → Stands state n f → IsSteadySession state (kept n f)
steady_at state n f stands = record {
  peer = stands.meets.peer;
  here = stands.meets.here;
  typed = stands.meets.typed;
  own = stands.meets.own;
  family = stands.meets.family;
  all_ways = stands.meets.all_ways;
  table = stands.sees.table;
  access = stands.sees.known;
  root = stands.sees.root;
  rights = stands.sees.rights;
  cwd = stands.sees.cwd;
  settings = stands.settings;
  facts = stands.facts;
}

-- the server's session behind it
abbrev asking : PassiveVerb → Far → Session
asking asked f = record (forgotten (cleared f)) { connection = FarData.Asked asked }

-- a host that is not of IPv6 is one of IPv4
pub is_v4 : (host : Host) → is_v6 host ≡ false → IsV4 host
is_v4 (V4 octets) is = tt
is_v4 (V6 octets) is = absurd (cc)

-- if one or the other is false, so is the other
pub neither : (one other : Bool) → (one || other) ≡ false → other ≡ false
neither true other is = absurd (cc)
neither false other is = is

module _ (read : Reading) (reads : IsReading read) (state : State) (ask : Ask) (known : state.known ≡ true) where
  abbrev op : Op (List ℕ)
  op = ask.op

  -- the server hears the command for a port, owes nothing yet, and its session is asked for a port
  asks_turn : (command : Command (List ℕ)) (asked : PassiveVerb) (f : Far) → IsSent read command → FarWaits f → decides command f ≡ (asking asked f, Kinds.Nothing)
      → FarTurn read f (line_of command)
  asks_turn command asked f sent waits decided = record {
    far = with_session (asking asked f) f;
    replies = [];
    is = far_hears read command f (asking asked f, Kinds.Nothing) reads sent.typed sent.stated sent.other (aside_idle f.session.connection waits.aside) decided;
    fine = tt;
  }

  -- a client that has asked for a port and a server that was so asked are at the opening
  is_asked : (extended : Bool) (n : Near) (f : Far) → is_extended n op ≡ extended → Stands state n f → n.settings ≡ ask.settings
      → Opens state ask (doing op Steps.Passive n) (with_session (asking (passive_verb_of extended) f) f)
  is_asked extended n f is stands set = inl (record {
    near = refl;
    closing = f.session.closing || is_standing f.session.connection;
    session = λ i. record (asking (passive_verb_of extended) f) { connection = FarData.Asked (passive_verb_of (sym is i)); life = stands.far.life i };
    steady = steady_at state n f stands;
    set = set;
    known = known;
  })

  -- a client that asks for a port passes, with the table as it was
  along : (n : Near) (f : Far) → Stands state n f → Passes state.table state.table (doing op Steps.Passive n) f
  along n f stands = record { near = record { sound = refl; connection = refl; closing = refl }; far = stands.far; busy = refl; untold = refl; table = inl stands.sees.table }

  -- from the passive step the ends lead to the opening, by EPSV or by PASV as the client chooses
  asks_by : (extended : Bool) (n : Near) (f : Far) → is_extended n op ≡ extended → Stands state n f → n.settings ≡ ask.settings
      → LeadsFrom read (Passes state.table state.table) (Opens state ask) op Steps.Passive n f
  unfolding asks_turn
  asks_by true n f is stands set = record {
    near = doing op Steps.Passive n;
    line = Some (line_of (Commands.Epsv Passives.Any));
    left = 1;
    placed_so = λ job. ap (λ extended. record (calm (doing op Steps.Passive n)) { owed = written_line (line_of (passive_command extended)) }) is;
    fine = (carried (Commands.Epsv Passives.Any) tt tt, refl);
    leads = (
      along n f stands,
      asks_turn (Commands.Epsv Passives.Any) Asking.Epsv f (record { reads = reads; typed = tt; stated = tt; other = refl }) stands.far
          (decides_known (Commands.Epsv Passives.Any) f (stands.sees.known ∙ known)),
      is_asked true n f is stands set,
    );
  }
  asks_by false n f is stands set = record {
    near = doing op Steps.Passive n;
    line = Some (line_of Commands.Pasv);
    left = 1;
    placed_so = λ job. ap (λ extended. record (calm (doing op Steps.Passive n)) { owed = written_line (line_of (passive_command extended)) }) is;
    fine = (carried Commands.Pasv tt tt, refl);
    leads = (
      along n f stands,
      asks_turn Commands.Pasv Asking.Pasv f (record { reads = reads; typed = tt; stated = tt; other = refl }) stands.far
          (decides_known Commands.Pasv f (stands.sees.known ∙ known)
          ∙ ap (λ (b : Bool). if b then tells Texts.BadSequence (cleared f) else (if is_v6 f.context.here then tells Texts.NoConnection (cleared f) else (asking Asking.Pasv f, Kinds.Nothing))) stands.meets.all_ways
          ∙ ap (λ (b : Bool). if b then tells Texts.NoConnection (cleared f) else (asking Asking.Pasv f, Kinds.Nothing))
          (ap is_v6 (sym stands.meets.peer) ∙ neither (may_ask_extended (how_of op)) (is_v6 n.peer) is)),
      is_asked false n f is stands set,
    );
  }

  -- from the passive step the ends lead to the opening, once the settings are those asked for
  pub asks_port : (n : Near) (f : Far) → Stands state n f → n.settings ≡ ask.settings
      → LeadsFrom read (Passes state.table state.table) (Opens state ask) op Steps.Passive n f
  asks_port n f stands set = asks_by (is_extended n op) n f refl stands set

-- ---- a port is wanted

-- the client wants one, whoever is logged in
pub wants_port : (read : Reading) (state : State) (ask : Ask) (n : Near) (f : Far) → Stands state n f → (state.known ≡ true → n.settings ≡ ask.settings)
    → LeadsFrom read (Passes state.table state.table) (Opens state ask) ask.op Steps.Listen n f
wants_port read state ask n f stands set = record {
  near = busy (Doing ask.op Steps.Listen) NearData.ListenWanted n;
  line = None;
  left = 0;
  placed_so = λ job. refl;
  fine = tt;
  leads = inr (inl (record {
    near = refl;
    connection = f.session.connection;
    aside = stands.far.aside;
    pending = f.session.pending;
    session = λ i. record f.session { closing = stands.far.closing i; life = stands.far.life i };
    steady = steady_at state n f stands;
    set = set;
  }));
}

-- from a step on, as from the beginning of the operation
pub begins_with : (read : Reading) (state : State) (ask : Ask) → HasPlan ask → (n : Near) (f : Far)
    → LeadsFrom read (Passes state.table state.table) (Opens state ask) ask.op (from_kind n.settings ask.settings (opening_of (how_of ask.op) ask.op)) n f
    → LeadsBy read (Passes state.table state.table) (Opens state ask) ask.op n f
begins_with read state ask plan n f l = record {
  near = l.near;
  line = l.line;
  left = l.left;
  begins_so = λ job. ap (λ asked. placed ask.op (step_by from_kind asked n.settings ask.op) (record (calm (resting n)) { job = job })) plan.asks ∙ l.placed_so job;
  fine = l.fine;
  leads = l.leads;
}

-- the step behind the settings
pub opening_is : (ask : Ask) → HasPlan ask → (if ask.how.active then Steps.Listen else Steps.Passive) ≡ opening_of (how_of ask.op) ask.op
opening_is ask plan = sym (ap (λ h. opening_of h ask.op) plan.how_is)

-- from the beginning of the operation on, of a login that is known
pub known_leads : (read : Reading) (state : State) (ask : Ask) → IsReading read → HasPlan ask → state.known ≡ true → (n : Near) (f : Far) → Stands state n f
    → LeadsBy read (Passes state.table state.table) (Opens state ask) ask.op n f
known_leads read state ask reads plan known n f stands =
    begins_with read state ask plan n f
    (settings_lead read state state.table (Opens state ask) ask.op reads known ask.settings plan.asks
    (λ n f stands set. subst (λ step. LeadsFrom read (Passes state.table state.table) (Opens state ask) ask.op step n f) (opening_is ask plan) (opens n f stands set ask.how.active))
    n f stands)
  where
    opens : (n : Near) (f : Far) → Stands state n f → n.settings ≡ ask.settings → (active : Bool)
        → LeadsFrom read (Passes state.table state.table) (Opens state ask) ask.op (if active then Steps.Listen else Steps.Passive) n f
    opens n f stands set true = wants_port read state ask n f stands (λ known. set)
    opens n f stands set false = asks_port read reads state ask known n f stands set

-- ---- the client: the port that the server told

-- a host is the same host as itself
pub own_host : (host : Host) → same_host host host ≡ true
own_host (V4 octets) = nat_list_eq_equiv.refl octets
own_host (V6 octets) = nat_list_eq_equiv.refl octets

module _ (op : Op (List ℕ)) (port : ℕ) (n : Near) where
  -- behind the reply that tells a port the client connects to that port of its peer, and owes nothing
  pub port_is_told : (extended : Bool) → is_extended n op ≡ extended → IsTypedHost n.peer → 1 ≤ port → port < 65536
      → answered (port_reply extended n.peer port).code (port_reply extended n.peer port).lines (calm (busy (Doing op Steps.Passive) NearData.Free n))
      ≡ record (calm (busy (Doing op Steps.Connect) (NearData.Connecting (record { host = n.peer; port = port })) n)) { owed = [] }
  unfolding answered
  port_is_told true is typed some small =
      ap (λ b. passive_named b op (extended_reply_text port) (calm (busy (Doing op Steps.Passive) NearData.Free n))) is
      ∙ ap (λ o. port_named o op (calm (busy (Doing op Steps.Passive) NearData.Free n))) (extended-reads port some small)
  port_is_told false is typed some small =
      ap (λ b. passive_named b op (passive_reply_text (record { host = n.peer; port = port })) (calm (busy (Doing op Steps.Passive) NearData.Free n))) is
      ∙ ap (λ o. endpoint_named o op (calm (busy (Doing op Steps.Passive) NearData.Free n)))
      (passive-reads n.peer port (is_v4 n.peer (neither (may_ask_extended (how_of op)) (is_v6 n.peer) is)) typed small)
      ∙ ap (λ (b : Bool). if b then record (calm (busy (Doing op Steps.Connect) (NearData.Connecting (record { host = n.peer; port = port })) n)) { owed = [] }
      else finishes_read (Some Foreign) (calm (busy (Doing op Steps.Passive) NearData.Free n))) (own_host n.peer)

-- ---- the client: REST

-- the own command is sent
pub own_sent : (ask : Ask) → HasPlan ask → (v : Near) → placed ask.op Steps.Last v ≡ sends ask.command (record v { job = offering ask Replies.Nothing })
own_sent ask plan v =
    ap (λ command. sends command (record v { job = last_job ask.op (flow_of ask.op) })) plan.own
    ∙ ap (λ flow. sends ask.command (record v { job = last_job ask.op flow })) plan.flow

-- and so is REST or the own command behind the opening
pub opening_sent : (ask : Ask) → HasPlan ask → (step : Step) (connection : NearConnection) (n : Near)
    → placed ask.op (step_behind_opening (offset_of ask.op)) (calm (busy (Doing ask.op step) connection n))
    ≡ record (calm (busy (opened_job ask.offset ask) connection n)) { owed = written_line (line_of (opened_command ask.offset ask)) }
opening_sent ask plan step connection n =
    ap (λ o. placed ask.op (step_behind_opening o) (calm (busy (Doing ask.op step) connection n))) plan.offset_is ∙ by_offset ask.offset plan.offset_is
  where
    by_offset : (offset : Option ℕ) → offset_of ask.op ≡ offset
        → placed ask.op (step_behind_opening offset) (calm (busy (Doing ask.op step) connection n))
        ≡ record (calm (busy (opened_job offset ask) connection n)) { owed = written_line (line_of (opened_command offset ask)) }
    by_offset None is = own_sent ask plan (calm (busy (Doing ask.op step) connection n))
    by_offset (Some at) is = ap (λ o. sends_if (restart_command o) (calm (busy (Doing ask.op Steps.Restart) connection n))) is

-- behind the reply to PORT too
pub port_taken : (ask : Ask) → HasPlan ask → (port : ℕ) (texts : List ReplyText) (n : Near)
    → answered 200 texts (calm (busy (Doing ask.op Steps.Port) (NearData.Listening port) n))
    ≡ record (calm (busy (opened_job ask.offset ask) (NearData.Listening port) n)) { owed = written_line (line_of (opened_command ask.offset ask)) }
unfolding answered
port_taken ask plan port texts n = opening_sent ask plan Steps.Port (NearData.Listening port) n

-- a PORT that is refused; the port is to be closed
pub port_denied : (op : Op (List ℕ)) (port : ℕ) (texts : List ReplyText) (n : Near)
    → answered 530 texts (calm (busy (Doing op Steps.Port) (NearData.Listening port) n)) ≡ record (calm (leaving (Refused 530) true n)) { owed = [] }
unfolding answered
port_denied op port texts n = refl

-- behind a 350 to REST the client owes the own command
pub rest_granted : (ask : Ask) → HasPlan ask → (connection : NearConnection) (texts : List ReplyText) (n : Near)
    → answered 350 texts (calm (busy (Doing ask.op Steps.Restart) connection n))
    ≡ record (calm (busy (offering ask Replies.Nothing) connection n)) { owed = written_line (line_of ask.command) }
unfolding answered
rest_granted ask plan connection texts n = own_sent ask plan (calm (busy (Doing ask.op Steps.Restart) connection n))

-- behind a refusal of REST the client leaves as refused, and its link is to be closed if one stands
pub rest_denied : (op : Op (List ℕ)) (why : Refusal) (connection : NearConnection) (texts : List ReplyText) (n : Near)
    → answered (reply_code (refusal_text why)) texts (calm (busy (Doing op Steps.Restart) connection n))
    ≡ record (calm (leaving (Refused (code_of why)) (stands connection) n)) { owed = [] }
unfolding answered
rest_denied op why connection texts n =
    ap (λ v. judged_reply v (reply_code (refusal_text why)) texts (calm (busy (Doing op Steps.Restart) connection n))) (is_negative why)
    ∙ ap (λ code. record (calm (leaving (Refused code) (stands connection) n)) { owed = [] }) (tells_code why)

-- ---- the client: replies to the own command

module _ (op : Op (List ℕ)) (settings : Representation) (came : List ℕ) (n : Near) where
  -- a 150 that comes behind the end of the link begins the transfer, and nothing is owed
  pub begins_over : (ending : Ending) (texts : List ReplyText)
      → answered 150 texts (calm (busy (fetching op Replies.Nothing settings came) (NearData.Over ending) n))
      ≡ record (calm (busy (fetching op Replies.Begun settings came) (NearData.Over ending) n)) { owed = [] }
  unfolding answered
  begins_over ending texts = refl

  -- a 226 that comes behind the end of the link finishes the transfer with what is judged of it
  pub ends_over : (ending : Ending) (code : ℕ) (said : Said) (texts : List ReplyText)
      → judged ending Aborts.Unsent 226 op (Receiving (decoder_of settings came) (mark_in (no_octets settings) None came)) ≡ Some said
      → answered 226 texts (calm (busy (fetching op Replies.Begun settings came) (NearData.Over ending) n)) ≡ record (calm (leaving said false n)) { owed = [] }
  unfolding answered
  ends_over ending code said texts is =
      ap (λ o. finishes_read o (calm (busy (fetching op (Replies.Final 226) settings came) (NearData.Over ending) n))) is

  -- a 426 that comes behind the break of the link finishes the transfer with what is judged of it
  pub breaks_over : (said : Said) (texts : List ReplyText)
      → judged Endings.Broken Aborts.Unsent 426 op (Receiving (decoder_of settings came) (mark_in (no_octets settings) None came)) ≡ Some said
      → answered 426 texts (calm (busy (fetching op Replies.Begun settings came) (NearData.Over Endings.Broken) n)) ≡ record (calm (leaving said false n)) { owed = [] }
  unfolding answered
  breaks_over said texts is =
      ap (λ o. finishes_read o (calm (busy (fetching op (Replies.Final 426) settings came) (NearData.Over Endings.Broken) n))) is

  -- a refusal of the own command finishes as refused, and the link is to be closed if one stands
  pub denied : (why : Refusal) (connection : NearConnection) (texts : List ReplyText)
      → answered (reply_code (refusal_text why)) texts (calm (busy (fetching op Replies.Nothing settings came) connection n))
      ≡ record (calm (leaving (Refused (code_of why)) (stands connection) n)) { owed = [] }
  denied why connection texts = offer_denied op (Receiving (decoder_of settings came) (mark_in (no_octets settings) None came)) n why connection texts

  -- a 425 to the own command finishes as not opened, and the link is to be closed if one stands
  pub unopened : (connection : NearConnection) (texts : List ReplyText)
      → answered 425 texts (calm (busy (fetching op Replies.Nothing settings came) connection n)) ≡ record (calm (leaving Unopened (stands connection) n)) { owed = [] }
  unopened connection texts = offer_unopened op (Receiving (decoder_of settings came) (mark_in (no_octets settings) None came)) n connection texts

-- while the link is open, and a Peek has not enough
pub begins_open : (op : Op (List ℕ)) (settings : Representation) (came : List ℕ) → is_filled op settings came ≡ false → (n : Near) (texts : List ReplyText)
    → answered 150 texts (calm (busy (fetching op Replies.Nothing settings came) NearData.Open n))
    ≡ record (calm (busy (fetching op Replies.Begun settings came) NearData.Open n)) { owed = [] }
unfolding answered
begins_open op settings came short n texts =
    let transfer : ClientTransfer = record { replied = Replies.Begun; abort = Aborts.Unsent; flow = flow_after settings came } in
    let v : Near = calm (busy (fetching op Replies.Begun settings came) NearData.Open n) in
    ap (λ (b : Bool). answers_once_over (if b then sends_abort op transfer v else v)) short

-- a 226 while the link is open is kept as the final reply, and the link stays open
pub ends_open : (op : Op (List ℕ)) (settings : Representation) (came : List ℕ) → is_filled op settings came ≡ false → (n : Near) (texts : List ReplyText)
    → answered 226 texts (calm (busy (fetching op Replies.Begun settings came) NearData.Open n))
    ≡ record (calm (busy (fetching op (Replies.Final 226) settings came) NearData.Open n)) { owed = [] }
unfolding answered
ends_open op settings came short n texts =
    let transfer : ClientTransfer = record { replied = Replies.Final 226; abort = Aborts.Unsent; flow = flow_after settings came } in
    let v : Near = calm (busy (fetching op (Replies.Final 226) settings came) NearData.Open n) in
    ap (λ (b : Bool). answers_once_over (if b then sends_abort op transfer v else v)) short

-- ---- the server: PORT

-- its session behind a PORT
abbrev pub at_endpoint : Endpoint → Far → Session
at_endpoint endpoint f = record (forgotten (cleared f)) { connection = FarData.Active endpoint }

-- the client's endpoint is on its own host, and of a high port
pub endpoint_taken : (host peer : Host) (port : ℕ) → host ≡ peer → 1024 ≤ port → is_taken peer (record { host = host; port = port }) ≡ true
endpoint_taken host peer port is high = ap (λ h. same_host h peer && nat_le 1024 port) is ∙ (λ i. own_host peer i && le-leb 1024 port high i)

-- its line can be carried
pub port_line_is : (state : State) (op : Op (List ℕ)) (port : ℕ) (n : Near) (f : Far) → IsSteadySession state (kept n f) → 1024 ≤ port → port < 65536
    → IsLine (line_of (port_command (is_extended n op) (record { host = n.here; port = port })))
port_line_is state op port n f steady high small = by_extended (is_extended n op) (λ plain. is_v4 n.here (steady.family ∙ neither (may_ask_extended (how_of op)) (is_v6 n.peer) plain))
  where
    by_extended : (extended : Bool) → (extended ≡ false → IsV4 n.here) → IsLine (line_of (port_command extended (record { host = n.here; port = port })))
    by_extended true v4 = carried (Commands.Eprt (record { host = n.here; port = port })) (steady.own, small) (omega (arith, high))
    by_extended false v4 = carried (Commands.Port (record { host = n.here; port = port })) (steady.own, small) (v4 refl)

module _ (read : Reading) (reads : IsReading read) (state : State) (op : Op (List ℕ)) (port : ℕ) (n : Near) (f : Far) (steady : IsSteadySession state (kept n f))
    (high : 1024 ≤ port) (small : port < 65536) (idle : is_connection_busy f.session.connection ≡ false) where
  abbrev endpoint : Endpoint
  endpoint = record { host = n.here; port = port }

  -- the server's act on EPRT and on PORT takes the client's endpoint, and says so
  port_acts : (extended : Bool) → act f.context (port_command extended endpoint) f.session.pending (cleared f) ≡ (at_endpoint endpoint f, Kinds.Fixed Texts.EndpointTaken)
  port_acts true =
      ap (λ (b : Bool). if b then tells Texts.BadSequence (cleared f) else takes (is_taken f.context.peer endpoint) endpoint (forgotten (cleared f))) steady.all_ways
      ∙ ap (λ b. takes b endpoint (forgotten (cleared f))) (endpoint_taken n.here f.context.peer port steady.here high)
  port_acts false =
      ap (λ (b : Bool). if b then tells Texts.BadSequence (cleared f) else takes (is_taken f.context.peer endpoint) endpoint (forgotten (cleared f))) steady.all_ways
      ∙ ap (λ b. takes b endpoint (forgotten (cleared f))) (endpoint_taken n.here f.context.peer port steady.here high)

  -- the command for the client's endpoint can be sent, as EPRT of any host and as PORT of one of IPv4
  port_sent : (extended : Bool) → (extended ≡ false → IsV4 n.here) → IsSent read (port_command extended endpoint)
  port_sent true v4 = record { reads = reads; typed = (steady.own, small); stated = omega (arith, high); other = refl }
  port_sent false v4 = record { reads = reads; typed = (steady.own, small); stated = v4 refl; other = refl }

  -- without EPRT the client's host is one of IPv4
  own_v4 : is_extended n op ≡ false → IsV4 n.here
  own_v4 plain = is_v4 n.here (steady.family ∙ neither (may_ask_extended (how_of op)) (is_v6 n.peer) plain)

  abbrev pub own_port : Command (List ℕ)
  own_port = port_command (is_extended n op) endpoint

  -- the client's own command for its endpoint can be sent
  pub port_is_sent : IsSent read own_port
  port_is_sent = port_sent (is_extended n op) own_v4

  -- of a login that is known the server takes the endpoint, and owes the reply that says so
  pub taken_turn : state.known ≡ true
      → heard_line (read (line_of own_port)) (still f) ≡ record (still (with_session (at_endpoint endpoint f) f)) { owed = row_octets (fixed_reply Texts.EndpointTaken ∷ []) }
  taken_turn known =
      let sent = port_is_sent in
      far_turn_is read own_port f (at_endpoint endpoint f) (Kinds.Fixed Texts.EndpointTaken) (fixed_reply Texts.EndpointTaken)
      reads sent.typed sent.stated sent.other idle (decides_known own_port f (steady.access ∙ known) ∙ port_acts (is_extended n op)) refl refl

  -- of a login that is not known the server takes no endpoint, and owes the reply that nobody is logged in
  pub refused_turn : state.known ≡ false
      → heard_line (read (line_of own_port)) (still f) ≡ record (still (with_session (cleared f) f)) { owed = row_octets (fixed_reply Texts.NotLoggedIn ∷ []) }
  refused_turn unknown =
      let sent = port_is_sent in
      far_turn_is read own_port f (cleared f) (Kinds.Fixed Texts.NotLoggedIn) (fixed_reply Texts.NotLoggedIn)
      reads sent.typed sent.stated sent.other idle (by_extended (is_extended n op)) idle refl
    where
      by_extended : (extended : Bool) → decides (port_command extended endpoint) f ≡ (cleared f, Kinds.Fixed Texts.NotLoggedIn)
      by_extended true = decides_unknown (Commands.Eprt endpoint) f (steady.access ∙ unknown) refl refl
      by_extended false = decides_unknown (Commands.Port endpoint) f (steady.access ∙ unknown) refl refl

-- ---- the server: REST

-- its session while a transfer is under way, and while it connects to an endpoint for one
abbrev pub transferring : Transfer → Far → Session
transferring transfer f = record (cleared f) { connection = FarData.Transferring transfer }

abbrev pub connecting : Transfer → Endpoint → Far → Session
connecting transfer endpoint f = record (cleared f) { connection = FarData.Opening transfer (Ways.Connect endpoint) }

-- its session while these octets are to be given
abbrev pub giving : Bool → List ℕ → Far → Session
giving listed wire f = transferring (giving_of listed wire) f

-- while octets are left nothing more is said; behind the last the transfer is over
pub giving_on : (listed : Bool) (octet : ℕ) (more : List ℕ) (v : Far) → given_out (FarData.Transferring (giving_of listed (octet ∷ more))) v ≡ v
giving_on false octet more v = refl
giving_on true octet more v = refl

-- behind the last octet the server replies that the transfer is complete, and its session forgets the link
pub given_all : (listed : Bool) (v : Far) → given_out (FarData.Transferring (giving_of listed [])) v ≡ replied Texts.Complete (forgotten v.session) v
given_all false v = refl
given_all true v = refl

-- what the direct run sees of a steady session
pub same_direct : (state : State) (n : Near) (f : Far) → IsSteadySession state (kept n f) → state.known ≡ true → direct_of (cleared f) ≡ state
same_direct state n f steady known = λ i. record { table = steady.table i; root = steady.root known i; cwd = steady.cwd i; known = sym known i; rights = steady.rights known i }

module _ (read : Reading) (reads : IsReading read) (state : State) (ask : Ask) (row : HasRow ask) (n : Near) (f : Far) (steady : IsSteadySession state (kept n f))
    (set : n.settings ≡ ask.settings) (known : state.known ≡ true) (idle : is_connection_busy f.session.connection ≡ false) where
  -- what the server decides on a REST is whether its offset is refused under the settings in force
  rest_decided : (offset : ℕ) (why : Option Refusal) → offset_refusal offset (how_in_force ask.settings) ≡ why → decides (Commands.Rest offset) f ≡ restart_pending why offset (cleared f)
  rest_decided offset why is =
      decides_known (Commands.Rest offset) f (steady.access ∙ known)
      ∙ ap (λ settings. restart_pending (offset_refusal offset (how_in_force settings)) offset (cleared f)) (steady.settings ∙ set)
      ∙ ap (λ w. restart_pending w offset (cleared f)) is

  -- an offset that is not refused is pending at the server, which owes the reply that grants it
  pub granted_turn : (offset : ℕ) → offset < 10 ^ 18 → offset_refusal offset (how_in_force ask.settings) ≡ None
      → heard_line (read (line_of (Commands.Rest offset))) (still f)
      ≡ record (still (with_session (record (cleared f) { pending = Pendings.Restart offset }) f)) { owed = row_octets (rest_reply offset ∷ []) }
  granted_turn offset few none =
      far_turn_is read (Commands.Rest offset) f (record (cleared f) { pending = Pendings.Restart offset }) (Kinds.Restarting offset) (rest_reply offset)
      reads tt few refl idle (rest_decided offset None none) idle refl

  -- an offset that is refused is not pending at the server, which owes the reply of the refusal
  pub denied_turn : (offset : ℕ) (why : Refusal) → offset < 10 ^ 18 → offset_refusal offset (how_in_force ask.settings) ≡ Some why
      → heard_line (read (line_of (Commands.Rest offset))) (still f) ≡ record (still (with_session (cleared f) f)) { owed = row_octets (fixed_reply (refusal_text why) ∷ []) }
  denied_turn offset why few some =
      far_turn_is read (Commands.Rest offset) f (cleared f) (Kinds.Fixed (refusal_text why)) (fixed_reply (refusal_text why))
      reads tt few refl idle (rest_decided offset (Some why) some) idle refl

  -- ---- the server: the own command

  -- the transfer that it begins
  abbrev offer : Transfer
  offer = offered ask.sends ask state

  module _ (pending : f.session.pending ≡ offset_pending ask.offset) where
    -- the own command is decided as its row of transfers says
    own_decided : (why : Option Refusal) → ask.why state ≡ why → decides ask.command f ≡ transfer_starts why offer (cleared f)
    own_decided why is =
        decides_known ask.command f (steady.access ∙ known)
        ∙ ap (λ p. act f.context ask.command p (cleared f)) pending
        ∙ row.acts f.context (cleared f) (steady.settings ∙ set) steady.facts
        ∙ ap (λ s. transfer_starts (ask.why s) (offered ask.sends ask s) (cleared f)) (same_direct state n f steady known)
        ∙ ap (λ w. transfer_starts w offer (cleared f)) is

    -- where the server refuses the own command, it owes that refusal
    pub refuses_turn : (why : Refusal) → ask.why state ≡ Some why
        → heard_line (read (line_of ask.command)) (still f) ≡ record (still (with_session (forgotten (cleared f)) f)) { owed = row_octets (fixed_reply (refusal_text why) ∷ []) }
    refuses_turn why is =
        far_turn_is read ask.command f (forgotten (cleared f)) (Kinds.Fixed (refusal_text why)) (fixed_reply (refusal_text why))
        reads row.typed row.stated row.other idle (own_decided (Some why) is) refl refl

    -- where it refuses none but has no endpoint, it owes 425
    pub unopens_turn : ask.why state ≡ None → f.session.connection ≡ FarData.Free
        → heard_line (read (line_of ask.command)) (still f) ≡ record (still (with_session (cleared f) f)) { owed = row_octets (fixed_reply Texts.NoConnection ∷ []) }
    unopens_turn none free =
        far_turn_is read ask.command f (cleared f) (Kinds.Fixed Texts.NoConnection) (fixed_reply Texts.NoConnection)
        reads row.typed row.stated row.other idle
        (own_decided None none ∙ ap (λ c. begin c offer (cleared f)) free) idle refl

    -- the server connects to the client's port
    pub awaits_turn : (endpoint : Endpoint) → ask.why state ≡ None → f.session.connection ≡ FarData.Active endpoint
        → heard_line (read (line_of ask.command)) (still f)
        ≡ record (still (with_session (connecting offer endpoint f) f)) { owed = row_octets (fixed_reply Texts.Opens ∷ []) }
    awaits_turn endpoint none active =
        far_hears read ask.command f (connecting offer endpoint f, Kinds.Fixed Texts.Opens) reads row.typed row.stated row.other idle
        (own_decided None none ∙ ap (λ c. begin c offer (cleared f)) active)
        ∙ ap (λ l. record (still (with_session (connecting offer endpoint f) f)) { owed = l }) (sym (append-nil _))

    -- with a link that is open the transfer begins
    begins_by : (transfer : Transfer) → offer ≡ transfer → ask.why state ≡ None → f.session.connection ≡ FarData.Ready
        → heard_line (read (line_of ask.command)) (still f) ≡ given_out (FarData.Transferring transfer) (turned (transferring transfer f, Kinds.Fixed Texts.Opens) (still f))
    begins_by transfer is none ready =
        far_hears read ask.command f (transferring offer f, Kinds.Fixed Texts.Opens) reads row.typed row.stated row.other idle
        (own_decided None none ∙ ap (λ c. begin c offer (cleared f)) ready)
        ∙ ap (λ t. given_out (FarData.Transferring t) (turned (transferring t f, Kinds.Fixed Texts.Opens) (still f))) is

    -- of an upload, it owes 150 and waits for octets
    pub takes_turn : (path : Names) (keep : Keep) (d : Decoder) → offer ≡ Transfers.Upload path keep d → ask.why state ≡ None → f.session.connection ≡ FarData.Ready
        → heard_line (read (line_of ask.command)) (still f)
        ≡ record (still (with_session (transferring (Transfers.Upload path keep d) f) f)) { owed = row_octets (fixed_reply Texts.Opens ∷ []) }
    takes_turn path keep d is none ready =
        begins_by (Transfers.Upload path keep d) is none ready
        ∙ ap (λ l. record (still (with_session (transferring (Transfers.Upload path keep d) f) f)) { owed = l }) (sym (append-nil _))

    -- with a link that is open and an octet to give, it owes 150 and gives
    pub gives_turn : (octet : ℕ) (more : List ℕ) → offer ≡ giving_of ask.listed (octet ∷ more) → ask.why state ≡ None → f.session.connection ≡ FarData.Ready
        → heard_line (read (line_of ask.command)) (still f) ≡ record (still (with_session (giving ask.listed (octet ∷ more) f) f)) { owed = row_octets (fixed_reply Texts.Opens ∷ []) }
    gives_turn octet more is none ready =
        begins_by (giving_of ask.listed (octet ∷ more)) is none ready
        ∙ giving_on ask.listed octet more (turned (giving ask.listed (octet ∷ more) f, Kinds.Fixed Texts.Opens) (still f))
        ∙ ap (λ l. record (still (with_session (giving ask.listed (octet ∷ more) f) f)) { owed = l }) (sym (append-nil _))

    -- with a link that is open and no octet to give, it owes 150 and 226
    pub gave_turn : offer ≡ giving_of ask.listed [] → ask.why state ≡ None → f.session.connection ≡ FarData.Ready
        → heard_line (read (line_of ask.command)) (still f)
        ≡ record (still (with_session (forgotten (giving ask.listed [] f)) f)) { owed = row_octets (fixed_reply Texts.Opens ∷ fixed_reply Texts.Complete ∷ []) }
    gave_turn is none ready =
        begins_by (giving_of ask.listed []) is none ready
        ∙ given_all ask.listed (turned (giving ask.listed [] f, Kinds.Fixed Texts.Opens) (still f))
        ∙ ap (λ l. record (still (with_session (forgotten (giving ask.listed [] f)) f)) { owed = reply_octets (fixed_reply Texts.Opens) ++ l }) (sym (append-nil _))

-- ---- downloads

-- RETR behind a REST, or behind none
place_is : (offset : Option ℕ) (text : List ℕ) (how : How) (s : Session) → s.settings ≡ how.representation
    → place_of (offset_pending offset) (path_of s text) s ≡ place_in_file (direct_of s) offset text how
place_is None text how s set = refl
place_is (Some offset) text how s set = ap (λ settings. place_at (direct_of s) (resolved s.cwd text) (how_in_force settings) offset) set

-- a download has a plan: settings, offset, own command and flow of its operation are those asked for
pub download_plan : (offset : Option ℕ) (text : List ℕ) (how : How) → HasPlan (download_ask offset text how)
download_plan None text how = record { how_is = refl; asks = refl; offset_is = refl; own = refl; flow = refl }
download_plan (Some at) text how = record { how_is = refl; asks = refl; offset_is = refl; own = refl; flow = refl }

-- the command of a download can be carried, and the server acts on it as the direct run does, if path and offset are good
pub download_row : (offset : Option ℕ) (text : List ℕ) (how : How) → IsPathText text → ((at : ℕ) → offset ≡ Some at → at < 10 ^ 18) → HasRow (download_ask offset text how)
download_row offset text how path few = record {
  typed = tt;
  stated = path;
  other = refl;
  few = few;
  acts = λ context s set facts. λ i.
      transfer_starts (or_refused (refused_file (direct_of s) text) (refused_there (misplaced (place_is offset text how s set i))))
      (Transfers.Download (file_wire (set i) (unwrap_or (place_is offset text how s set i) 0) (drop (unwrap_or (place_is offset text how s set i) 0) (file_of (direct_of s) text)))) s;
}
