-- How each example begins, action by action: the greeting, the login, EPSV, the port, the dial and its accept, until the command of the transfer is said.
use Rattle.std.proofs.Common.{◌≡◌, ℕ, List, [], ◌∷◌, ◌++◌, None, Some, refl, sym, ap, subst, arith, codes}
use Rattle.ftp_command.specs.Argument.{IsName}
use Rattle.ftp_command.specs.Line.{line_of}
use Rattle.ftp_command.specs.declared.command.Command.TheVariants as command
use Rattle.ftp_command.specs.declared.command.Passive.TheVariants as Families
use Rattle.ftp_client_driver.specs.Side.{Begun, client_side}
use Rattle.ftp_client_model.specs.Calls as near
use Rattle.ftp_client_model.specs.Dialogue.{answered}
use Rattle.ftp_client_model.specs.View.{View as Near, Doing, Waiting, client}
use Rattle.ftp_client_model.specs.declared.client.ClientLink.TheVariants as Links
use Rattle.ftp_client_model.specs.declared.client.Standing.TheVariants as Standings
use Rattle.ftp_client_model.specs.declared.client.Step.TheVariants as Steps
use Rattle.ftp_ports.specs.Asking.{Came, Connected}
use Rattle.ftp_ports.specs.Actions.{Other, Stand}
use Rattle.ftp_ports.specs.Machine.{Listening, Opened, rest_by}
use Rattle.ftp_ports.specs.declared.whole.Rest.TheVariants as Rests
use Rattle.ftp_ends.specs.RowWords.{here}
use Rattle.ftp_nvt.specs.Lines.{written_line}
use Rattle.ftp_operation.specs.Rights.{all_rights}
use Rattle.ftp_operation.specs.declared.op.Op.{Op}
use Rattle.ftp_path.proofs.TextLemmas.{path_on_literals}
use Rattle.ftp_reply.specs.Reader.{line_heard}
use Rattle.ftp_reply.specs.Values.{extended_value}
use Rattle.ftp_server_driver.specs.alone.Side.{server_side}
use Rattle.ftp_server_model.specs.Calls.{start}
use Rattle.ftp_server_model.specs.Machine.{heard_line, obeyed}
use Rattle.ftp_server_model.specs.declared.heard.HeardLine.TheVariants.{Asks}
use Rattle.ftp_server_model.specs.Replies.{fixed_reply, reply_octets, reply_of}
use Rattle.ftp_server_model.specs.View.{View as Far}
use Rattle.ftp_server_model.specs.declared.reply.FixedReply.TheVariants as Texts
use Rattle.ftp_server_model.specs.declared.session.Access.TheVariants as Accesses
use Rattle.ftp_server_model.specs.declared.session.PassiveVerb.TheVariants as Asking
use Rattle.ftp_server_model.specs.declared.session.ServerLink.TheVariants as Data
use Rattle.ftp_server_model.proofs.ReadingLemmas.{reads_stated}
use Rattle.ftp_tree.specs.Map.{Dir}
use Rattle.ftp_tree.specs.Tree.{Table, node_at}
use Rattle.laws_world.specs.World.{next_listen, port_at}
use Rattle.laws_drivers.specs.control.Between.{Awaits, Between, Client, Has, Has_not, Is_called, Server, nothing_yet}
use Rattle.laws_drivers.specs.control.Claims.{Begins}
use Rattle.laws_drivers.specs.control.Example.{example}
use Rattle.laws_drivers.proofs.control.Playing.{Attends, ear_after, is_silent, no_events}
use Rattle.laws_examples.proofs.transfers.Moves.{accepts, dials, endpoint, listens, port_text}
use Rattle.laws_examples.proofs.transfers.Playing.{Kind, PlayedBy, can_take, far_in, far_obeys, far_says, far_turn, lies, near_in, near_is_told, near_says, near_turn, none_yet, one_stands, takes_only}

-- what an end holds as it owes nothing more
abbrev pub quiet : Far → Far
quiet v = record v { owed = [] }

abbrev pub still : Near → Near
still n = record n { owed = [] }

-- ---- the server: at its start, once it is logged in, asked for a port, told one, and reached there

module _ (table : Table) where
  abbrev pub far_first : Far
  far_first = start table (example table).accounts here here

  abbrev pub far_logged : Far
  far_logged = record far_first {
    session = record far_first.session { access = Accesses.Known; root = []; rights = all_rights; cwd = [] };
    owed = reply_octets (fixed_reply Texts.LoggedIn);
  }

  abbrev pub far_asked : Far
  far_asked = record far_logged { session = record far_logged.session { connection = Data.Asked Asking.Epsv }; owed = [] }

  abbrev told_by : List ℕ → Far
  told_by port = record far_asked {
    session = record far_asked.session { connection = Data.Passive };
    owed = reply_octets (reply_of 229 (codes "Entering Extended Passive Mode (|||" ++ (port ++ codes "|)")));
  }

  abbrev pub far_told : Far
  far_told = told_by (codes "49152")

  abbrev pub far_ready : Far
  far_ready = record far_asked { session = record far_asked.session { connection = Data.Ready } }

  -- once it has none any more, and once it heard QUIT then
  abbrev pub far_done : Far
  far_done = record far_ready { session = record far_ready.session { connection = Data.Free } }

  abbrev pub far_bye : Far
  far_bye = heard_line (Asks command.Quit) far_done

-- ---- the client: before the operation, with it, as it heard each reply, as it dialled, and as its data connection was opened

abbrev pub client_first : Near
client_first = client (97 ∷ []) (97 ∷ []) here here

module _ (op : Op (List ℕ)) where
  abbrev pub near_first : Near
  near_first = record client_first { job = Waiting op }

  abbrev pub near_greeted : Near
  near_greeted = record near_first { standing = Standings.User; owed = written_line (line_of (command.User (97 ∷ []))) }

  abbrev pub near_logged : Near
  near_logged = record client_first { standing = Standings.Entered; job = Doing op Steps.Passive; owed = written_line (line_of (command.Epsv Families.Any)) }

  abbrev pub near_called : Near
  near_called = record client_first { standing = Standings.Entered; job = Doing op Steps.Connect; connection = Links.Connecting endpoint }

  abbrev pub near_open : Near
  near_open = near.data_opened here near_called

  -- it says EPSV once it is logged in, dials the port that it is told, and has no octets to give then
  pub record Dials : Type 0 where
    pub logged : near.hears (still near_greeted) (reply_octets (fixed_reply Texts.LoggedIn)) ≡ near_logged
    pub called : near.hears (still near_logged) (reply_octets (reply_of 229 (codes "Entering Extended Passive Mode (|||49152|)"))) ≡ near_called
    pub rest : Rests.Nothing ≡ rest_by (near.wants near_open)

-- ---- action by action

module _ (kind : Kind) (none : kind.Keeps [] nothing_yet refl) (table : Table) (moments : ℕ → ℕ) (op : Op (List ℕ)) (is : Dials op) where
  -- where both begin
  abbrev Starts : Stand server_side
  Starts = far_in none_yet (far_first table) []

  abbrev begun : Stand client_side
  begun = near_in none_yet (near_first op) []

  -- actions led there
  abbrev Leads : ℕ → Between → Stand server_side → Stand client_side → Type 0
  Leads listened between server client = PlayedBy kind moments Starts begun op listened between server client

  -- the operation is begun
  begins : Leads 0 (lies [] [] [] [] Has_not Has_not) Starts begun
  begins = record {
    turns = Client (Other (Begun op)) ∷ [];
    happened = (nothing_yet, refl, refl);
    resets = kind.near_keeps (Other (Begun op)) tt [] nothing_yet (lies [] [] [] [] Has_not Has_not) refl refl none;
    far_led = refl;
    gives = tt;
    midst = [];
    are = tt;
    client_is = refl;
    later = [];
    turns_are = refl;
    later_midst = refl;
    near_led = refl;
    takes = tt;
    listened_is = refl;
    ports = tt;
    told = tt;
  }

  -- the greeting is said and heard, and USER is said
  greets : Leads 0 (lies (near_greeted op).owed [] [] [] Has_not Has_not)
      (far_in none_yet (quiet (far_first table)) []) (near_in none_yet (still (near_greeted op)) [])
  unfolding near.wants answered line_heard path_on_literals can_take takes_only
  greets =
      let server = far_in none_yet (quiet (far_first table)) [] in
      let said = far_says moments Starts begun op 0 [] [] Has_not Has_not [] [] none_yet (far_first table) begun refl begins in
      let told = near_is_told moments Starts begun op 0 [] [] Has_not Has_not [] (far_first table).owed server none_yet (near_first op) refl refl said in
      near_says moments Starts begun op 0 [] [] Has_not Has_not [] [] server none_yet (near_greeted op) told

  module _ (root : node_at table [] ≡ Some Dir) where
    -- USER is heard: the user is logged in
    logs_in : Leads 0 (lies [] [] [] [] Has_not Has_not) (far_in none_yet (far_logged table) []) (near_in none_yet (still (near_greeted op)) [])
    unfolding answered line_heard path_on_literals obeyed is_silent ear_after no_events
    logs_in =
        let user : List ℕ = 85 ∷ 83 ∷ 69 ∷ 82 ∷ 32 ∷ 97 ∷ 13 ∷ [] in
        let at : Attends (quiet (far_first table)) = record { wants = refl; running = refl; none_waits = refl } in
        far_obeys moments Starts begun op 0 [] [] Has_not Has_not [] user none_yet (quiet (far_first table)) (far_logged table)
        (line_of (command.User (97 ∷ []))) (command.User (97 ∷ [])) (near_in none_yet (still (near_greeted op)) []) at refl refl refl refl
        (λ read reads. reads_stated read (command.User (97 ∷ [])) reads tt a_name) (rw root refl) greets
      where
        a_name : IsName (97 ∷ [])
        a_name = (omega arith, (omega arith, refl))

    -- that is said and heard, and EPSV is said
    asks : Leads 0 (lies (near_logged op).owed [] [] [] Has_not Has_not)
        (far_in none_yet (quiet (far_logged table)) []) (near_in none_yet (still (near_logged op)) [])
    unfolding near.wants answered line_heard path_on_literals can_take takes_only
    asks =
        let client = near_in none_yet (still (near_greeted op)) [] in
        let server = far_in none_yet (quiet (far_logged table)) [] in
        let said = far_says moments Starts begun op 0 [] [] Has_not Has_not [] [] none_yet (far_logged table) client refl logs_in in
        let told = near_is_told moments Starts begun op 0 [] [] Has_not Has_not [] (far_logged table).owed server none_yet (still (near_greeted op)) refl refl
        said in
        near_says moments Starts begun op 0 [] [] Has_not Has_not [] [] server none_yet (near_logged op)
        (subst (λ n. Leads 0 (lies [] [] [] [] Has_not Has_not) server (near_in none_yet n [])) is.logged told)

    -- EPSV is heard
    wants_port : Leads 0 (lies [] [] [] [] Has_not Has_not) (far_in none_yet (far_asked table) []) (near_in none_yet (still (near_logged op)) [])
    unfolding answered line_heard path_on_literals obeyed is_silent ear_after no_events
    wants_port =
        let epsv : List ℕ = 69 ∷ 80 ∷ 83 ∷ 86 ∷ 13 ∷ [] in
        let at : Attends (quiet (far_logged table)) = record { wants = refl; running = refl; none_waits = refl } in
        far_obeys moments Starts begun op 0 [] [] Has_not Has_not [] epsv none_yet (quiet (far_logged table)) (far_asked table)
        (line_of (command.Epsv Families.Any)) (command.Epsv Families.Any) (near_in none_yet (still (near_logged op)) []) at refl refl refl refl
        (λ read reads. reads_stated read (command.Epsv Families.Any) reads tt tt) refl asks

    -- the port is told
    has_port : Leads 1 (lies [] [] [] [] Has_not (Awaits 49152)) (far_in none_yet (far_told table) []) (near_in none_yet (still (near_logged op)) [])
    has_port =
        let p = wants_port in
        let asked = far_in none_yet (far_asked table) [] in
        let before = lies [] [] [] [] Has_not Has_not in
        let there = lies [] [] [] [] Has_not (Awaits 49152) in
        let done = listens 49152 (far_asked table) (far_told table) refl refl (ap (told_by table) (sym port_text)) in
        record {
          turns = Server (Other (Listening 49152)) ∷ p.turns;
          happened = (before, p.happened, (tt, refl));
          resets = kind.far_keeps (Other (Listening 49152)) asked.owner (far_in none_yet (far_told table) []).owner (tt, refl) p.turns before there p.happened
              (tt, refl) p.resets;
          far_led = (asked, p.far_led, done);
          gives = (p.gives, kind.gives (Other (Listening 49152)) asked.owner (far_in none_yet (far_told table) []).owner (tt, refl));
          midst = p.midst;
          are = p.are;
          client_is = p.client_is;
          later = Server (Other (Listening 49152)) ∷ p.later;
          turns_are = ap (λ t. Server (Other (Listening 49152)) ∷ t) p.turns_are;
          later_midst = p.later_midst;
          near_led = p.near_led;
          takes = p.takes;
          listened_is = ap next_listen p.listened_is;
          ports = (p.ports, ap port_at (sym p.listened_is));
          told = (p.told, tt);
        }

    -- the reply is said and heard: the client is to dial
    calls : Leads 1 (lies [] [] [] [] Has_not (Awaits 49152)) (far_in none_yet (quiet (far_told table)) []) (near_in none_yet (near_called op) [])
    unfolding near.wants answered line_heard extended_value path_on_literals can_take takes_only
    calls =
        let server = far_in none_yet (quiet (far_told table)) [] in
        let client = near_in none_yet (still (near_logged op)) [] in
        let said = far_says moments Starts begun op 1 [] [] Has_not (Awaits 49152) [] [] none_yet (far_told table) client refl has_port in
        subst (λ n. Leads 1 (lies [] [] [] [] Has_not (Awaits 49152)) server (near_in none_yet n [])) is.called
        (near_is_told moments Starts begun op 1 [] [] Has_not (Awaits 49152) [] (far_told table).owed server none_yet (still (near_logged op)) refl refl said)

    -- it dials, the server accepts, and the command is said
    pub reaches : Leads 1 (lies (near_open op).owed [] [] [] Has Has)
        (far_in (one_stands [] []) (far_ready table) []) (near_in (one_stands [] []) (still (near_open op)) [])
    unfolding near.wants
    reaches =
        let none = lies [] [] [] [] Has_not (Awaits 49152) in
        let called = lies [] [] [] [] Has Is_called in
        let both = lies [] [] [] [] Has Has in
        let v : Far = quiet (far_told table) in
        let open_near = near_in (one_stands [] []) (near_open op) [] in
        let open_far = far_in (one_stands [] []) (far_ready table) [] in
        let dialled = near_turn moments Starts begun op (Other (Opened here (Connected endpoint None None ∷ []) None None Rests.Nothing)) (tt, tt) 1 none called
        (far_in none_yet v []) (near_in none_yet (near_called op) []) open_near (tt, refl) (dials endpoint (near_called op) refl refl is.rest) (tt, refl, refl)
        calls in
        let accepted = far_turn moments Starts begun op (Other (Opened here (Came here None None ∷ []) None None Rests.Nothing))
        ((λ before. (refl, λ ports. ports)), λ old new done moment. tt) 1 called both
        (far_in none_yet v []) open_far open_near (refl, refl) (accepts here v (far_ready table) refl refl refl refl) (refl, refl) dialled in
        near_says moments Starts begun op 1 [] [] Has Has [] [] open_far (one_stands [] []) (near_open op) accepted

-- both began as a session does
pub starts_so : (table : Table) (moments : ℕ → ℕ) (op : Op (List ℕ)) → Dials op
    → Begins (example table) (far_in none_yet (far_first table) []) (near_in none_yet client_first [])
starts_so table moments op is = record { server_view = refl; server_unheard = refl; client_view = refl; client_unheard = refl }
