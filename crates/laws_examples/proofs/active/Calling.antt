-- A session that begins so, whatever is asked of the file then: a login, a port that the client is told, EPRT and its reply, and RETR, which the server heard.
use Rattle.std.proofs.Common.{◌≡◌, ℕ, List, [], ◌∷◌, ◌++◌, Some, refl, sym, ap, subst, ◌∙◌, arith, codes}
use Rattle.ftp_command.specs.Argument.{IsName}
use Rattle.ftp_command.specs.Line.{line_of}
use Rattle.ftp_command.specs.declared.command.Command.TheVariants as command
use Rattle.ftp_client_driver.specs.Side.{Begun, client_side}
use Rattle.ftp_client_model.specs.Calls as near
use Rattle.ftp_client_model.specs.Dialogue.{answered}
use Rattle.ftp_client_model.specs.Octets.{download_flow}
use Rattle.ftp_client_model.specs.View.{View as Near, Doing, Transferring, Waiting, client}
use Rattle.ftp_client_model.specs.declared.client.Abort.TheVariants as Aborts
use Rattle.ftp_client_model.specs.declared.client.ClientLink.{ClientLink}
use Rattle.ftp_client_model.specs.declared.client.ClientLink.TheVariants as Links
use Rattle.ftp_client_model.specs.declared.client.Replied.{Replied}
use Rattle.ftp_client_model.specs.declared.client.Replied.TheVariants as Replies
use Rattle.ftp_client_model.specs.declared.client.Standing.TheVariants as Standings
use Rattle.ftp_client_model.specs.declared.client.Step.TheVariants as Steps
use Rattle.ftp_ports.specs.Actions.{Other, Stand}
use Rattle.ftp_ports.specs.Machine.{Listening}
use Rattle.ftp_endpoint.specs.Written.{IsTypedEndpoint}
use Rattle.ftp_ends.specs.RowWords.{here}
use Rattle.ftp_nvt.specs.Lines.{written_line}
use Rattle.ftp_operation.specs.declared.op.Op.{Op}
use Rattle.ftp_path.specs.Path.{fits, resolved, text_of}
use Rattle.ftp_path.proofs.TextLemmas.{path_on_literals}
use Rattle.ftp_reply.specs.Reader.{line_heard}
use Rattle.ftp_server_driver.specs.alone.Side.{server_side}
use Rattle.ftp_settings.specs.Representation.{defaults}
use Rattle.ftp_server_model.specs.Machine.{obeyed}
use Rattle.ftp_server_model.specs.declared.heard.HeardLine.TheVariants.{Asks}
use Rattle.ftp_server_model.specs.Replies.{fixed_reply, reply_octets}
use Rattle.ftp_server_model.specs.View.{View as Far}
use Rattle.ftp_server_model.specs.declared.reply.FixedReply.TheVariants as Texts
use Rattle.ftp_server_model.specs.declared.session.Way.TheVariants as Ways
use Rattle.ftp_server_model.specs.declared.session.ServerLink.TheVariants as Data
use Rattle.ftp_server_model.specs.declared.session.Transfer.TheVariants as Transfers
use Rattle.ftp_server_model.proofs.ReadingLemmas.{reads_stated}
use Rattle.ftp_tree.specs.Map.{Dir, File}
use Rattle.ftp_tree.specs.Tree.{Table, node_at, octets_at, under}
use Rattle.laws_world.specs.World.{next_listen, port_at}
use Rattle.laws_drivers.specs.control.Between.{Awaits, Between, Client, Has_not, nothing_yet}
use Rattle.laws_drivers.specs.control.Claims.{Begins}
use Rattle.laws_drivers.specs.control.Example.{example}
use Rattle.laws_drivers.proofs.control.Playing.{Attends, ear_after, is_silent, no_events}
use Rattle.laws_examples.specs.transfers.Example.{example_name, example_octets}
use Rattle.laws_examples.proofs.transfers.Calling.{far_first, far_logged, quiet, still}
use Rattle.laws_examples.proofs.transfers.Moves.{endpoint}
use Rattle.laws_examples.proofs.transfers.Playing.{can_take, far_in, lies, near_in, none_yet, takes_only}
use Rattle.laws_examples.proofs.active.Moves.{eprt_text, near_listens}
use Rattle.laws_examples.proofs.active.Playing.{Played, far_obeys, far_says, near_is_told, near_says}

-- EPRT |1|127.0.0.1|49152|
abbrev eprt : List ℕ
eprt = codes "EPRT |1|127.0.0.1|49152|"

-- ---- the server: at its start, once it is logged in, and once the endpoint is named

module _ (table : Table) where
  abbrev pub far_named : Far
  far_named = record (far_logged table) {
    session = record (far_logged table).session { connection = Data.Active endpoint };
    owed = reply_octets (fixed_reply Texts.EndpointTaken);
  }

  -- it has the file to give, and is to dial
  abbrev pub far_sent : Far
  far_sent = record (far_logged table) {
    session = record (far_logged table).session { connection = Data.Opening (Transfers.Download example_octets) (Ways.Connect endpoint) };
    owed = reply_octets (fixed_reply Texts.Opens);
  }

-- ---- the client: before the operation, with it, as it heard each reply, and as it was told a port

abbrev pub client_first : Near
client_first = client (97 ∷ []) (97 ∷ []) here here

module _ (op : Op (List ℕ)) where
  abbrev pub near_first : Near
  near_first = record client_first { job = Waiting op }

  abbrev pub near_greeted : Near
  near_greeted = record near_first { standing = Standings.User; owed = written_line (line_of (command.User (97 ∷ []))) }

  abbrev pub near_logged : Near
  near_logged = record client_first { standing = Standings.Entered; job = Doing op Steps.Listen; connection = Links.ListenWanted }

  abbrev pub named_by : List ℕ → Near
  named_by text = record client_first {
    standing = Standings.Entered;
    job = Doing op Steps.Port;
    connection = Links.Listening 49152;
    owed = written_line text;
  }

  abbrev pub near_named : Near
  near_named = named_by eprt

  -- the transfer, once so much of it was answered
  abbrev pub fetching : Replied → ClientLink → Near
  fetching replied link = record client_first {
    standing = Standings.Entered;
    job = Transferring op (record { replied = replied; abort = Aborts.Unsent; flow = download_flow defaults });
    connection = link;
  }

  abbrev pub near_asking : Near
  near_asking = record (fetching Replies.Nothing (Links.Listening 49152)) { owed = written_line (line_of (command.Retr example_name)) }

  -- it wants a port once it is logged in, says EPRT of the one that it is told, and RETR after the reply
  pub record Listens : Type 0 where
    pub logged : near.hears (still near_greeted) (reply_octets (fixed_reply Texts.LoggedIn)) ≡ near_logged
    pub named : named_by (line_of (command.Eprt endpoint)) ≡ near.listening 49152 near_logged
    pub asking : near.hears (still near_named) (reply_octets (fixed_reply Texts.EndpointTaken)) ≡ near_asking

-- ---- action by action

module _ (table : Table) (moments : ℕ → ℕ) (op : Op (List ℕ)) (is : Listens op) where
  -- where both begin
  abbrev pub Starts : Stand server_side
  Starts = far_in none_yet (far_first table) []

  abbrev pub begun : Stand client_side
  begun = near_in none_yet (near_first op) []

  -- actions led there
  abbrev pub Leads : ℕ → Between → Stand server_side → Stand client_side → Type 0
  Leads listened between server client = Played moments Starts begun op listened between server client

  -- as a session does
  pub starts_so : Begins (example table) Starts (near_in none_yet client_first [])
  starts_so = record { server_view = refl; server_unheard = refl; client_view = refl; client_unheard = refl }

  -- the operation is begun
  begins : Leads 0 (lies [] [] [] [] Has_not Has_not) Starts begun
  begins = record {
    turns = Client (Other (Begun op)) ∷ [];
    happened = (nothing_yet, refl, refl);
    resets = tt;
    far_led = refl;
    gives = tt;
    midst = [];
    are = tt;
    client_is = refl;
    later = [];
    turns_are = refl;
    later_midst = refl;
    near_led = refl;
    takes = tt;
    listened_is = refl;
    ports = tt;
    told = tt;
  }

  -- the greeting is said and heard, and USER is said
  greets : Leads 0 (lies (near_greeted op).owed [] [] [] Has_not Has_not) (far_in none_yet (quiet (far_first table)) [])
      (near_in none_yet (still (near_greeted op)) [])
  unfolding near.starts near.wants answered line_heard path_on_literals can_take takes_only
  greets =
      let said = far_says moments Starts begun op 0 [] [] Has_not Has_not [] [] none_yet (far_first table) begun refl begins in
      let told = near_is_told moments Starts begun op 0 [] [] Has_not Has_not [] (far_first table).owed (far_in none_yet (quiet (far_first table)) []) none_yet
      (near_first op) refl refl said in
      near_says moments Starts begun op 0 [] [] Has_not Has_not [] [] (far_in none_yet (quiet (far_first table)) []) none_yet (near_greeted op) told

  -- USER is heard: the user is logged in
  logs_in : node_at table [] ≡ Some Dir
      → Leads 0 (lies [] [] [] [] Has_not Has_not) (far_in none_yet (far_logged table) []) (near_in none_yet (still (near_greeted op)) [])
  unfolding near.starts answered line_heard path_on_literals obeyed is_silent ear_after no_events
  logs_in root =
      let user : List ℕ = 85 ∷ 83 ∷ 69 ∷ 82 ∷ 32 ∷ 97 ∷ 13 ∷ [] in
      let at : Attends (quiet (far_first table)) = record { wants = refl; running = refl; none_waits = refl } in
      far_obeys moments Starts begun op 0 [] [] Has_not Has_not [] user none_yet (quiet (far_first table)) (far_logged table) (line_of (command.User (97 ∷ [])))
      (command.User (97 ∷ []))
      (near_in none_yet (still (near_greeted op)) []) at refl refl refl refl
      (λ read reads. reads_stated read (command.User (97 ∷ [])) reads tt a_name) (rw root refl) greets
    where
      a_name : IsName (97 ∷ [])
      a_name = (omega arith, (omega arith, refl))

  -- that is said and heard: the client is to listen
  asks : node_at table [] ≡ Some Dir
      → Leads 0 (lies [] [] [] [] Has_not Has_not) (far_in none_yet (quiet (far_logged table)) []) (near_in none_yet (near_logged op) [])
  unfolding near.starts near.wants answered line_heard path_on_literals can_take takes_only
  asks root =
      let client = near_in none_yet (still (near_greeted op)) [] in
      let server = far_in none_yet (quiet (far_logged table)) [] in
      let said = far_says moments Starts begun op 0 [] [] Has_not Has_not [] [] none_yet (far_logged table) client refl (logs_in root) in
      subst (λ n. Leads 0 (lies [] [] [] [] Has_not Has_not) server (near_in none_yet n [])) is.logged
      (near_is_told moments Starts begun op 0 [] [] Has_not Has_not [] (far_logged table).owed server none_yet (still (near_greeted op)) refl refl said)

  -- it is told a port
  has_port : node_at table [] ≡ Some Dir
      → Leads 1 (lies [] [] [] [] (Awaits 49152) Has_not) (far_in none_yet (quiet (far_logged table)) []) (near_in none_yet (near_named op) [])
  unfolding near.wants near.listening
  has_port root =
      let p = asks root in
      let done = near_listens 49152 (near_logged op) (near_named op) refl refl (ap (named_by op) (sym eprt_text) ∙ is.named) in
      record {
        turns = Client (Other (Listening 49152)) ∷ p.turns;
        happened = (lies [] [] [] [] Has_not Has_not, p.happened, (tt, refl));
        resets = p.resets;
        far_led = p.far_led;
        gives = p.gives;
        midst = Other (Listening 49152) ∷ p.midst;
        are = (p.are, tt);
        client_is = ap (λ l. Other (Listening 49152) ∷ l) p.client_is;
        later = Client (Other (Listening 49152)) ∷ p.later;
        turns_are = ap (λ t. Client (Other (Listening 49152)) ∷ t) p.turns_are;
        later_midst = ap (λ l. Other (Listening 49152) ∷ l) p.later_midst;
        near_led = (near_in none_yet (near_logged op) [], p.near_led, done);
        takes = (p.takes, (tt, refl));
        listened_is = ap next_listen p.listened_is;
        ports = (p.ports, ap port_at (sym p.listened_is));
        told = p.told;
      }

  -- EPRT is said and heard
  names : node_at table [] ≡ Some Dir
      → Leads 1 (lies [] [] [] [] (Awaits 49152) Has_not) (far_in none_yet (far_named table) []) (near_in none_yet (still (near_named op)) [])
  unfolding obeyed is_silent ear_after no_events
  names root =
      let at : Attends (quiet (far_logged table)) = record { wants = refl; running = refl; none_waits = refl } in
      let said = near_says moments Starts begun op 1 [] [] (Awaits 49152) Has_not [] [] (far_in none_yet (quiet (far_logged table)) []) none_yet (near_named op)
      (has_port root) in
      far_obeys moments Starts begun op 1 [] [] (Awaits 49152) Has_not [] (eprt ++ 13 ∷ []) none_yet (quiet (far_logged table)) (far_named table) eprt
      (command.Eprt endpoint) (near_in none_yet (still (near_named op)) []) at refl refl refl refl
      (λ read reads. subst (λ t. read t ≡ Asks (command.Eprt endpoint)) eprt_text (reads_stated read (command.Eprt endpoint) reads typed (omega arith)))
      refl said
    where
      typed : IsTypedEndpoint endpoint
      typed = ((refl, (omega arith, (omega arith, (omega arith, (omega arith, tt))))), omega arith)

  -- the reply is said and heard, and RETR is said
  retrieves : node_at table [] ≡ Some Dir
      → Leads 1 (lies (near_asking op).owed [] [] [] (Awaits 49152) Has_not) (far_in none_yet (quiet (far_named table)) [])
      (near_in none_yet (still (near_asking op)) [])
  unfolding near.starts near.wants answered line_heard path_on_literals can_take takes_only
  retrieves root =
      let server = far_in none_yet (quiet (far_named table)) [] in
      let said = far_says moments Starts begun op 1 [] [] (Awaits 49152) Has_not [] [] none_yet (far_named table)
      (near_in none_yet (still (near_named op)) []) refl (names root) in
      let told = near_is_told moments Starts begun op 1 [] [] (Awaits 49152) Has_not [] (far_named table).owed server none_yet (still (near_named op)) refl
      refl said in
      near_says moments Starts begun op 1 [] [] (Awaits 49152) Has_not [] [] server none_yet (near_asking op)
      (subst (λ n. Leads 1 (lies [] [] [] [] (Awaits 49152) Has_not) server (near_in none_yet n [])) is.asking told)

  module _ (root : node_at table [] ≡ Some Dir) (stamp : ℕ) (file : node_at (under table []) (example_name ∷ []) ≡ Some (File example_octets stamp)) where
    -- RETR is heard
    pub obeys : Leads 1 (lies [] [] [] [] (Awaits 49152) Has_not) (far_in none_yet (far_sent table) []) (near_in none_yet (still (near_asking op)) [])
    unfolding obeyed fits text_of resolved octets_at is_silent ear_after no_events path_on_literals
    obeys =
        let retr : List ℕ = 82 ∷ 69 ∷ 84 ∷ 82 ∷ 32 ∷ 102 ∷ 13 ∷ [] in
        let at : Attends (quiet (far_named table)) = record { wants = refl; running = refl; none_waits = refl } in
        far_obeys moments Starts begun op 1 [] [] (Awaits 49152) Has_not [] retr none_yet (quiet (far_named table)) (far_sent table)
        (line_of (command.Retr example_name)) (command.Retr example_name)
        (near_in none_yet (still (near_asking op)) []) at refl refl refl refl
        (λ read reads. reads_stated read (command.Retr example_name) reads tt refl) (rw file refl) (retrieves root)
