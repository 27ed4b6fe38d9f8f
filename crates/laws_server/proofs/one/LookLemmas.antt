-- No call of a server on which nobody may change anything changes the map: a lemma for each definition of `Machine` and `Calls` of
-- `ftp_server_model`.
use Rattle.std.proofs.Common.{◌≡◌, ℕ, List, [], ◌∷◌, Bool, true, false, Option, Some, None, refl, subst, take}
use Rattle.std.proofs.lemmas.Bool.{cond_both}
use Rattle.ftp_endpoint.specs.declared.host.Host.{Host}
use Rattle.ftp_ends.specs.Ear.{ear_out, ear_step}
use Rattle.ftp_ends.specs.Link.{same_host}
use Rattle.ftp_nvt.specs.Lines.{NvtEvent, line, too_long, owed}
use Rattle.ftp_tree.specs.Tree.{Table}
use Rattle.ftp_server_model.specs.Act.{decided}
use Rattle.ftp_server_model.specs.Calls.{connection_of, listening_turn, unheard, port_opens_for, opens, refuses, takes_given, ends, breaks, control_end, clock_step, control_step, listening_step, no_port_step, opened_step, refused_step}
use Rattle.ftp_server_model.specs.Calls.{end_step, break_step, close_step, given_step, with_connection, takes_data, receives_octet, receives, to_give, clocked, gives_control, listening, listen_refused, data_opened, data_refused, gives_data}
use Rattle.ftp_server_model.specs.Calls.{data_end, data_fault, data_closed}
use Rattle.ftp_server_model.specs.Endpoint.{forgotten, disconnected}
use Rattle.ftp_server_model.specs.Machine.{Reading, given_out, completed, obeyed, waited, later, is_idle, is_abort, turned, replied, at_break, at_end, aborts, abort_said, aborted, heard_line, heard_event, heard_events, hears, hears_octet, with_session}
use Rattle.ftp_server_model.specs.Play.{Cue, Clock, Hear, ControlOut, ControlEnd, Listening, DataOpened, DataHear, DataOut, ListenRefused, DataRefused, DataEnd, DataFault, DataClosed, AsksWants, call, left_by, most_given, most_heard, most_received}
use Rattle.ftp_server_model.specs.Replies.{Turn}
use Rattle.ftp_server_model.specs.View.{Session, Transfer, View, line_limit}
use Rattle.ftp_server_model.specs.declared.heard.HeardLine.{HeardLine}
use Rattle.ftp_server_model.specs.declared.heard.HeardLine.TheVariants.{TooLong}
use Rattle.ftp_server_model.specs.declared.reply.FixedReply.{FixedReply}
use Rattle.ftp_server_model.specs.declared.reply.FixedReply.TheVariants as Texts
use Rattle.ftp_server_model.specs.declared.session.PassiveVerb.TheVariants as Asking
use Rattle.ftp_server_model.specs.declared.session.Pending.TheVariants as Pendings
use Rattle.ftp_server_model.specs.declared.session.Way.TheVariants as Ways
use Rattle.ftp_server_model.specs.declared.session.ServerLink.{ServerLink}
use Rattle.ftp_server_model.specs.declared.session.ServerLink.TheVariants as Data
use Rattle.ftp_server_model.specs.declared.session.Transfer.TheVariants as Transfers
use Rattle.laws_server.specs.one.Lookers.{CallsOnlyLook, HasNoUpload, IsNoUpload, LooksOnly, LookersLeaveTheMap, OnlyLooks, StartsLook}
use Rattle.laws_server.proofs.one.LookTurns.{connected_looks, decided_looks, disconnected_looks, forgotten_looks}

module _ (table : Table) where
  -- ---- what is said

  replied_looks : (text : FixedReply) (session : Session) (v : View) → LooksOnly table session → OnlyLooks table v → OnlyLooks table (replied text session v)
  replied_looks text session v short k = record { accounts = k.accounts; session = short }

  -- a forgotten endpoint, and a reply
  pub forgets_with : (text : FixedReply) (v : View) → OnlyLooks table v → OnlyLooks table (replied text (forgotten v.session) v)
  forgets_with text v k = replied_looks text (forgotten v.session) v (forgotten_looks table v.session k.session) k

  -- ---- a line is acted on

  given_out_looks : (connection : ServerLink Transfer) (v : View) → OnlyLooks table v → OnlyLooks table (given_out connection v)
  given_out_looks (Data.Transferring (Transfers.Download [])) v k = forgets_with Texts.Complete v k
  given_out_looks (Data.Transferring (Transfers.Listing [])) v k = forgets_with Texts.Complete v k
  given_out_looks (Data.Transferring (Transfers.Download (octet ∷ rest))) v k = k
  given_out_looks (Data.Transferring (Transfers.Listing (octet ∷ rest))) v k = k
  given_out_looks (Data.Transferring (Transfers.Upload path keep d)) v k = k
  given_out_looks (Data.Transferring Transfers.OverLimit) v k = k
  given_out_looks (Data.Asked asked) v k = k
  given_out_looks (Data.Opening transfer way) v k = k
  given_out_looks Data.Free v k = k
  given_out_looks (Data.Active endpoint) v k = k
  given_out_looks Data.Passive v k = k
  given_out_looks Data.Ready v k = k

  completed_looks : (v : View) → OnlyLooks table v → OnlyLooks table (completed v)
  completed_looks v k = given_out_looks v.session.connection v k

  obeyed_looks : (heard : HeardLine (List ℕ)) (v : View) → OnlyLooks table v → OnlyLooks table (obeyed heard v)
  unfolding obeyed
  obeyed_looks heard v k =
      let s : Session = record v.session { pending = Pendings.Nothing } in
      let turn : Turn = decided v.context heard v.session.pending s in
      completed_looks (turned turn v)
      (record {
        accounts = k.accounts;
        session = decided_looks table v.context heard v.session.pending s k.accounts
            (record { same = k.session.same; rights = k.session.rights; connection = k.session.connection });
      })

  waited_looks : (waiting : Option (HeardLine (List ℕ))) (v : View) → OnlyLooks table v → OnlyLooks table (waited waiting v)
  waited_looks None v k = k
  waited_looks (Some heard) v k =
      let before : View = record v { waiting = None } in
      cond_both (is_idle v) (obeyed heard before) v (OnlyLooks table)
      (λ idle. obeyed_looks heard before (record { accounts = k.accounts; session = k.session })) (λ busy. k)

  pub later_looks : (v : View) → OnlyLooks table v → OnlyLooks table (later v)
  later_looks v k = waited_looks v.waiting v k

  -- ---- the calls of the data connection

  by_connection : (v : View) (f : ServerLink Transfer → View) → OnlyLooks table (f Data.Free) → OnlyLooks table (f v.session.connection) → OnlyLooks table (f (connection_of v.session))
  by_connection v f none one = cond_both v.session.closing Data.Free v.session.connection (λ connection. OnlyLooks table (f connection)) (λ is. none) (λ is. one)

  -- another state of the data connection
  moves_looks : (connection : ServerLink Transfer) (v : View) → HasNoUpload connection → OnlyLooks table v → OnlyLooks table (with_connection connection v)
  moves_looks connection v short k =
      record { accounts = k.accounts; session = connected_looks table connection v.session short k.session }

  listened_looks : (port : ℕ) (connection : ServerLink Transfer) (v : View) → OnlyLooks table v → OnlyLooks table (turned (listening_turn connection v.context port v.session) v)
  listened_looks port (Data.Asked Asking.Pasv) v k = record { accounts = k.accounts; session = connected_looks table Data.Passive v.session tt k.session }
  listened_looks port (Data.Asked Asking.Epsv) v k = record { accounts = k.accounts; session = connected_looks table Data.Passive v.session tt k.session }
  listened_looks port Data.Free v k = record { accounts = k.accounts; session = k.session }
  listened_looks port (Data.Active endpoint) v k = record { accounts = k.accounts; session = k.session }
  listened_looks port Data.Passive v k = record { accounts = k.accounts; session = k.session }
  listened_looks port (Data.Opening transfer way) v k = record { accounts = k.accounts; session = k.session }
  listened_looks port Data.Ready v k = record { accounts = k.accounts; session = k.session }
  listened_looks port (Data.Transferring transfer) v k = record { accounts = k.accounts; session = k.session }

  unheard_looks : (connection : ServerLink Transfer) (v : View) → OnlyLooks table v → OnlyLooks table (unheard connection v)
  unheard_looks (Data.Asked asked) v k = replied_looks Texts.NoConnection (disconnected v.session) v (disconnected_looks table v.session k.session) k
  unheard_looks Data.Free v k = k
  unheard_looks (Data.Active endpoint) v k = k
  unheard_looks Data.Passive v k = k
  unheard_looks (Data.Opening transfer way) v k = k
  unheard_looks Data.Ready v k = k
  unheard_looks (Data.Transferring transfer) v k = k

  leaves_looks : (session : Session) (v : View) → LooksOnly table session → OnlyLooks table v → OnlyLooks table (with_session session v)
  leaves_looks session v short k = record { accounts = k.accounts; session = short }

  opened_for : (is_peer : Bool) (transfer : Transfer) (v : View) → HasNoUpload (Data.Transferring transfer) → OnlyLooks table v → OnlyLooks table (port_opens_for is_peer transfer v)
  opened_for true transfer v short k = moves_looks (Data.Transferring transfer) v short k
  opened_for false transfer v short k = forgets_with Texts.NoConnection v k

  opens_looks : (connection : ServerLink Transfer) (is_peer : Bool) (v : View) → v.session.connection ≡ connection → OnlyLooks table v → OnlyLooks table (opens connection is_peer v)
  opens_looks Data.Passive true v is k = moves_looks Data.Ready v tt k
  opens_looks Data.Passive false v is k = leaves_looks (forgotten v.session) v (forgotten_looks table v.session k.session) k
  opens_looks (Data.Opening transfer Ways.Accept) is_peer v is k = opened_for is_peer transfer v (subst HasNoUpload is k.session.connection) k
  opens_looks (Data.Opening transfer (Ways.Connect endpoint)) is_peer v is k = opened_for true transfer v (subst HasNoUpload is k.session.connection) k
  opens_looks Data.Free is_peer v is k = k
  opens_looks (Data.Active endpoint) is_peer v is k = k
  opens_looks (Data.Asked asked) is_peer v is k = k
  opens_looks Data.Ready is_peer v is k = k
  opens_looks (Data.Transferring transfer) is_peer v is k = k

  refuses_looks : (connection : ServerLink Transfer) (v : View) → OnlyLooks table v → OnlyLooks table (refuses connection v)
  refuses_looks Data.Passive v k = leaves_looks (forgotten v.session) v (forgotten_looks table v.session k.session) k
  refuses_looks (Data.Opening transfer way) v k = forgets_with Texts.NoConnection v k
  refuses_looks Data.Free v k = k
  refuses_looks (Data.Active endpoint) v k = k
  refuses_looks (Data.Asked asked) v k = k
  refuses_looks Data.Ready v k = k
  refuses_looks (Data.Transferring transfer) v k = k

  end_looks : (moment : ℕ) (transfer : Transfer) (s : Session) → IsNoUpload transfer → LooksOnly table s → LooksOnly table (at_end moment transfer s).0
  end_looks moment (Transfers.Upload path keep d) s none k = absurd none
  end_looks moment Transfers.OverLimit s none k = k
  end_looks moment (Transfers.Download rest) s none k = k
  end_looks moment (Transfers.Listing rest) s none k = k

  break_looks : (moment : ℕ) (transfer : Transfer) (s : Session) → IsNoUpload transfer → LooksOnly table s → LooksOnly table (at_break moment transfer s).0
  break_looks moment (Transfers.Upload path keep d) s none k = absurd none
  break_looks moment Transfers.OverLimit s none k = k
  break_looks moment (Transfers.Download rest) s none k = k
  break_looks moment (Transfers.Listing rest) s none k = k

  ends_looks : (connection : ServerLink Transfer) (v : View) → HasNoUpload connection → OnlyLooks table v → OnlyLooks table (ends connection v)
  ends_looks Data.Ready v none k = leaves_looks (disconnected v.session) v (disconnected_looks table v.session k.session) k
  ends_looks (Data.Transferring transfer) v none k =
      record { accounts = k.accounts; session = end_looks v.context.moment transfer (disconnected v.session) none (disconnected_looks table v.session k.session) }
  ends_looks Data.Free v none k = k
  ends_looks (Data.Active endpoint) v none k = k
  ends_looks (Data.Asked asked) v none k = k
  ends_looks Data.Passive v none k = k
  ends_looks (Data.Opening transfer way) v none k = k

  breaks_looks : (connection : ServerLink Transfer) (v : View) → HasNoUpload connection → OnlyLooks table v → OnlyLooks table (breaks connection v)
  breaks_looks Data.Ready v none k = leaves_looks (disconnected v.session) v (disconnected_looks table v.session k.session) k
  breaks_looks (Data.Transferring transfer) v none k =
      record { accounts = k.accounts; session = break_looks v.context.moment transfer (disconnected v.session) none (disconnected_looks table v.session k.session) }
  breaks_looks Data.Free v none k = k
  breaks_looks (Data.Active endpoint) v none k = k
  breaks_looks (Data.Asked asked) v none k = k
  breaks_looks Data.Passive v none k = k
  breaks_looks (Data.Opening transfer way) v none k = k

  takes_given_looks : (count : ℕ) (connection : ServerLink Transfer) (v : View) → OnlyLooks table v → OnlyLooks table (takes_given connection count v)
  takes_given_looks count (Data.Transferring (Transfers.Download rest)) v k = moves_looks (Data.Transferring (Transfers.Download _)) v tt k
  takes_given_looks count (Data.Transferring (Transfers.Listing rest)) v k = moves_looks (Data.Transferring (Transfers.Listing _)) v tt k
  takes_given_looks count (Data.Transferring (Transfers.Upload path keep d)) v k = k
  takes_given_looks count (Data.Transferring Transfers.OverLimit) v k = k
  takes_given_looks count Data.Free v k = k
  takes_given_looks count (Data.Active endpoint) v k = k
  takes_given_looks count (Data.Asked asked) v k = k
  takes_given_looks count Data.Passive v k = k
  takes_given_looks count (Data.Opening transfer way) v k = k
  takes_given_looks count Data.Ready v k = k

  -- ---- data octets: no upload is under way

  data_looks : (connection : ServerLink Transfer) (octet : ℕ) (v : View) → HasNoUpload connection → OnlyLooks table v → OnlyLooks table (takes_data connection octet v)
  data_looks (Data.Transferring (Transfers.Upload path keep d)) octet v none k = absurd none
  data_looks (Data.Transferring Transfers.OverLimit) octet v none k = k
  data_looks (Data.Transferring (Transfers.Download rest)) octet v none k = k
  data_looks (Data.Transferring (Transfers.Listing rest)) octet v none k = k
  data_looks Data.Free octet v none k = k
  data_looks (Data.Active endpoint) octet v none k = k
  data_looks (Data.Asked asked) octet v none k = k
  data_looks Data.Passive octet v none k = k
  data_looks (Data.Opening transfer way) octet v none k = k
  data_looks Data.Ready octet v none k = k

  pub receives_looks : (v : View) (octet : ℕ) → OnlyLooks table v → OnlyLooks table (receives_octet v octet)
  unfolding receives_octet
  receives_looks v octet k =
      later_looks (takes_data (connection_of v.session) octet v) (by_connection v (λ connection. takes_data connection octet v) k (data_looks v.session.connection octet v k.session.connection k))

  -- ---- control octets

  aborts_looks : (connection : ServerLink Transfer) (v : View) → HasNoUpload connection → OnlyLooks table v → OnlyLooks table (aborts connection v)
  aborts_looks (Data.Transferring transfer) v none k =
      record { accounts = k.accounts; session = break_looks v.context.moment transfer (forgotten v.session) none (forgotten_looks table v.session k.session) }
  aborts_looks (Data.Opening transfer way) v none k = forgets_with Texts.NoConnection v k
  aborts_looks Data.Free v none k = k
  aborts_looks (Data.Active endpoint) v none k = k
  aborts_looks (Data.Asked asked) v none k = k
  aborts_looks Data.Passive v none k = k
  aborts_looks Data.Ready v none k = k

  aborted_looks : (v : View) → OnlyLooks table v → OnlyLooks table (aborted v)
  aborted_looks v k =
      let one = aborts_looks v.session.connection v k.session.connection k in
      later_looks (abort_said (aborts v.session.connection v)) (replied_looks Texts.AbortDone (aborts v.session.connection v).session (aborts v.session.connection v) one.session one)

  pub line_looks : (heard : HeardLine (List ℕ)) (v : View) → OnlyLooks table v → OnlyLooks table (heard_line heard v)
  line_looks heard v k =
      let waits : View = record v { waiting = Some heard } in
      cond_both (is_abort heard v) (aborted v) (later waits) (OnlyLooks table) (λ is. aborted_looks v k)
      (λ is. later_looks waits (record { accounts = k.accounts; session = k.session }))

  pub event_looks : (read : Reading) (event : NvtEvent) (v : View) → OnlyLooks table v → OnlyLooks table (heard_event read event v)
  event_looks read (line text) v k = line_looks (read text) v k
  event_looks read too_long v k = line_looks TooLong v k
  event_looks read (owed answer) v k = record { accounts = k.accounts; session = k.session }

  events_looks : (read : Reading) (events : List NvtEvent) (v : View) → OnlyLooks table v → OnlyLooks table (heard_events read events v)
  events_looks read [] v k = k
  events_looks read (event ∷ events) v k = events_looks read events (heard_event read event v) (event_looks read event v k)

  hears_looks : (read : Reading) (v : View) (octet : ℕ) → OnlyLooks table v → OnlyLooks table (hears_octet read v octet)
  unfolding hears_octet
  hears_looks read v octet k =
      events_looks read (ear_out line_limit v.ear octet) (record v { ear = ear_step line_limit v.ear octet })
      (record { accounts = k.accounts; session = k.session })

  -- ---- the steps of the other calls

  pub clock_looks : (moment : ℕ) (v : View) → OnlyLooks table v → OnlyLooks table (clock_step moment v)
  clock_looks moment v k = record { accounts = k.accounts; session = k.session }

  pub control_looks : (count : ℕ) (v : View) → OnlyLooks table v → OnlyLooks table (control_step count v)
  control_looks count v k = record { accounts = k.accounts; session = k.session }

  pub close_looks : (v : View) → OnlyLooks table v → OnlyLooks table (close_step v)
  close_looks v k = record { accounts = k.accounts; session = record { same = k.session.same; rights = k.session.rights; connection = k.session.connection } }

  pub control_end_looks : (v : View) → OnlyLooks table v → OnlyLooks table (control_end v)
  unfolding control_end
  control_end_looks v k = record { accounts = k.accounts; session = record { same = k.session.same; rights = k.session.rights; connection = tt } }

  pub listening_looks : (port : ℕ) (v : View) → OnlyLooks table v → OnlyLooks table (listening_step port v)
  listening_looks port v k =
      by_connection v (λ connection. turned (listening_turn connection v.context port v.session) v) (record { accounts = k.accounts; session = k.session }) (listened_looks port v.session.connection v k)

  pub no_port_looks : (v : View) → OnlyLooks table v → OnlyLooks table (no_port_step v)
  no_port_looks v k = by_connection v (λ connection. unheard connection v) k (unheard_looks v.session.connection v k)

  pub opened_looks : (host : Host) (v : View) → OnlyLooks table v → OnlyLooks table (opened_step host v)
  opened_looks host v k =
      completed_looks (opens (connection_of v.session) (same_host host v.context.peer) v)
      (by_connection v (λ connection. opens connection (same_host host v.context.peer) v) k (opens_looks v.session.connection (same_host host v.context.peer) v refl k))

  pub refused_looks : (v : View) → OnlyLooks table v → OnlyLooks table (refused_step v)
  refused_looks v k = by_connection v (λ connection. refuses connection v) k (refuses_looks v.session.connection v k)

  pub given_by_looks : (count : ℕ) (v : View) → OnlyLooks table v → OnlyLooks table (takes_given (connection_of v.session) count v)
  given_by_looks count v k = by_connection v (λ connection. takes_given connection count v) k (takes_given_looks count v.session.connection v k)

  pub given_looks : (count : ℕ) (v : View) → OnlyLooks table v → OnlyLooks table (given_step count v)
  given_looks count v k = completed_looks (takes_given (connection_of v.session) count v) (given_by_looks count v k)

  pub end_step_looks : (v : View) → OnlyLooks table v → OnlyLooks table (end_step v)
  end_step_looks v k = by_connection v (λ connection. ends connection v) k (ends_looks v.session.connection v k.session.connection k)

  pub break_step_looks : (v : View) → OnlyLooks table v → OnlyLooks table (break_step v)
  break_step_looks v k = by_connection v (λ connection. breaks connection v) k (breaks_looks v.session.connection v k.session.connection k)

  -- ---- octets

  pub all_heard : (read : Reading) (octets : List ℕ) (v : View) → OnlyLooks table v → OnlyLooks table (hears read v octets)
  all_heard read [] v k = k
  all_heard read (octet ∷ octets) v k = all_heard read octets (hears_octet read v octet) (hears_looks read v octet k)

  pub all_received : (octets : List ℕ) (v : View) → OnlyLooks table v → OnlyLooks table (receives v octets)
  all_received [] v k = k
  all_received (octet ∷ octets) v k = all_received octets (receives_octet v octet) (receives_looks v octet k)

  -- ---- all calls

  calls_look : (read : Reading) (cue : Cue) (v : View) → OnlyLooks table v → OnlyLooks table (call read cue v).1
  unfolding clocked gives_control listening listen_refused data_opened data_refused gives_data data_end data_fault data_closed
  calls_look read (Clock moment) v k = later_looks (clock_step moment v) (clock_looks moment v k)
  calls_look read (Hear octets) v k = all_heard read (take (most_heard read v octets) octets) v k
  calls_look read (ControlOut room) v k = later_looks (control_step (most_given room v.owed) v) (control_looks (most_given room v.owed) v k)
  calls_look read ControlEnd v k = control_end_looks v k
  calls_look read (Listening port) v k = later_looks (listening_step port v) (listening_looks port v k)
  calls_look read ListenRefused v k = later_looks (no_port_step v) (no_port_looks v k)
  calls_look read (DataOpened host) v k = later_looks (opened_step host v) (opened_looks host v k)
  calls_look read DataRefused v k = later_looks (refused_step v) (refused_looks v k)
  calls_look read (DataHear octets) v k = all_received (take (most_received v octets) octets) v k
  calls_look read (DataOut room) v k = later_looks (given_step (most_given room (to_give v)) v) (given_looks (most_given room (to_give v)) v k)
  calls_look read DataEnd v k = later_looks (end_step v) (end_step_looks v k)
  calls_look read DataFault v k = later_looks (break_step v) (break_step_looks v k)
  calls_look read DataClosed v k = later_looks (close_step v) (close_looks v k)
  calls_look read AsksWants v k = k

  left_looks : (read : Reading) (cues : List Cue) (v : View) → OnlyLooks table v → OnlyLooks table (left_by read cues v)
  unfolding left_by
  left_looks read [] v k = k
  left_looks read (cue ∷ cues) v k = left_looks read cues (call read cue v).1 (calls_look read cue v k)

pub calls_only_look : CallsOnlyLook
calls_only_look read cue table v k = calls_look table read cue v k

pub starts_look : StartsLook
starts_look table accounts here peer none = record { accounts = none; session = record { same = refl; rights = refl; connection = tt } }

pub lookers_leave_the_map : LookersLeaveTheMap
lookers_leave_the_map read table accounts here peer cues none = (left_looks table read cues _ (starts_look table accounts here peer none)).session.same
