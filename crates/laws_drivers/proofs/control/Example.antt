-- The example, action by action.
use Rattle.std.proofs.Common.{◌≡◌, inl, ℕ, List, [], ◌∷◌, Some, refl, sym, ap, subst, ◌∙◌, arith}
use Rattle.ftp_command.specs.Argument.{IsName}
use Rattle.ftp_command.specs.Line.{line_of}
use Rattle.ftp_command.specs.declared.command.Command.TheVariants as command
use Rattle.ftp_client_model.specs.Calls as near
use Rattle.ftp_client_model.specs.Dialogue.{answered}
use Rattle.ftp_client_model.specs.View.{View as Near, client}
use Rattle.ftp_ends.specs.RowWords.{here}
use Rattle.ftp_operation.specs.Answer.{Path}
use Rattle.ftp_operation.specs.Rights.{all_rights}
use Rattle.ftp_operation.specs.declared.op.Op.TheVariants as Ops
use Rattle.ftp_path.specs.Path.{text_of}
use Rattle.ftp_path.proofs.TextLemmas.{path_on_literals}
use Rattle.ftp_ports.specs.Actions.{Heard, Other, Read, Said as Says, Stand}
use Rattle.ftp_client_driver.specs.Side.{Begun}
use Rattle.ftp_server_driver.specs.alone.Side.{server_side}
use Rattle.ftp_server_model.specs.Calls as far
use Rattle.ftp_server_model.specs.Calls.{start}
use Rattle.ftp_server_model.specs.Machine.{heard_line, obeyed}
use Rattle.ftp_server_model.specs.Replies.{fixed_reply, reply_octets}
use Rattle.ftp_server_model.specs.View.{View as Far}
use Rattle.ftp_server_model.specs.declared.heard.HeardLine.TheVariants.{Asks}
use Rattle.ftp_server_model.specs.declared.reply.FixedReply.TheVariants as Texts
use Rattle.ftp_server_model.specs.declared.session.Access.TheVariants as Accesses
use Rattle.ftp_server_model.proofs.ReadingLemmas.{reads_stated}
use Rattle.ftp_reply.specs.Reader.{line_heard}
use Rattle.ftp_reply.specs.Values.{path_value, quoted_value}
use Rattle.ftp_tree.specs.Map.{Dir}
use Rattle.ftp_tree.specs.Tree.{Table, node_at}
use Rattle.laws_drivers.specs.control.Alone.{ClientAttends, ClientIsCalm, IsAskingAlone, begun_in, reports_in}
use Rattle.laws_drivers.specs.control.Between.{Client, nothing_yet, server_actions}
use Rattle.laws_drivers.specs.control.Claims.{Begins}
use Rattle.laws_drivers.specs.control.Example.{ExampleHasQuit, ExampleIsOver, ExampleIsPlayed, example, example_asked}
use Rattle.laws_drivers.specs.control.Over.{AreOver}
use Rattle.laws_drivers.specs.control.Quitting.{HaveQuit, quit_octets}
use Rattle.laws_drivers.proofs.control.Ending.{Goes, answers_are, answers_go, orders_are}
use Rattle.laws_drivers.proofs.control.Finishing.{Answered, Answering, Quitted, far_leaves, far_quits, near_answering, near_answers, quit_first, quit_turn}
use Rattle.laws_drivers.proofs.control.Playing.{Attends, Plays, can_hear, ear_after, far_at, far_ending, far_hears, far_obeys, far_reading, far_reads, far_saying, far_says, is_nothing, is_silent, near_at, near_hears, near_reads, near_says, no_events}

module _ (table : Table) where
  -- the server at its start, once it is logged in, and as it has heard PWD
  far_first : Far
  far_first = start table (example table).accounts here here

  far_logged : Far
  far_logged = record far_first {
    session = record far_first.session { access = Accesses.Known; root = []; rights = all_rights; cwd = [] };
    owed = reply_octets (fixed_reply Texts.LoggedIn);
  }

  far_told : Far
  far_told = heard_line (Asks command.Pwd) (record far_logged { owed = [] })

  -- and as it has heard QUIT
  far_bye : Far
  far_bye = heard_line (Asks command.Quit) (record far_told { owed = [] })

  -- the client before the operation, with it, and as it has heard each reply
  client_first : Near
  client_first = client (97 ∷ []) (97 ∷ []) here here

  near_first : Near
  near_first = near.starts Ops.Where client_first

  near_greeted : Near
  near_greeted = near.hears near_first far_first.owed

  near_logged : Near
  near_logged = near.hears (record near_greeted { owed = [] }) far_logged.owed

  near_told : Near
  near_told = near.hears (record near_logged { owed = [] }) far_told.owed

  -- what the client holds as its drive is over
  near_done : Near
  near_done = near.data_closed (near.reports near_told)

  -- actions led there
  Leads : (up : List ℕ) (v : Far) (down : List ℕ) (n : Near) → Type 0
  Leads up v down n = Plays (far_at far_first []) (near_at near_first []) Ops.Where up v [] down n []

  -- both begin, and an operation does
  begins : Leads [] far_first [] near_first
  unfolding Leads near.starts near.wants client_first far_first near_first
  begins = record {
    turns = Client (Other (Begun Ops.Where)) ∷ [];
    happened = (nothing_yet, refl, refl);
    far_goes = (refl, record { wants = refl; running = refl; none_waits = refl });
    later = [];
    turns_are = refl;
    midst = [];
    are = tt;
    later_midst = refl;
    client_is = refl;
    near_goes = (refl, refl);
  }

  -- the greeting is said and heard, and USER is said
  greets : Leads near_greeted.owed (record far_first { owed = [] }) [] (record near_greeted { owed = [] })
  unfolding Leads near.starts near.wants answered line_heard can_hear is_nothing client_first far_first near_first near_greeted
  greets =
      let start = far_at far_first [] in
      let begun = near_at near_first [] in
      let v : Far = record far_first { owed = [] } in
      let said = far_says start begun Ops.Where [] far_first [] [] near_first [] (record { wants = refl; running = refl; none_waits = refl }) begins in
      let read = near_reads start begun Ops.Where [] v [] far_first.owed near_first refl refl said in
      let heard = near_hears start begun Ops.Where [] v [] [] far_first.owed near_first refl refl read in
      near_says start begun Ops.Where [] v [] [] near_greeted [] refl heard

  -- USER is heard: the user is logged in
  logs_in : node_at table [] ≡ Some Dir → Leads [] far_logged [] (record near_greeted { owed = [] })
  unfolding Leads near.starts near.wants answered line_heard obeyed is_silent ear_after no_events client_first far_first near_first near_greeted far_logged
  logs_in root =
      let start = far_at far_first [] in
      let begun = near_at near_first [] in
      let v : Far = record far_first { owed = [] } in
      let n : Near = record near_greeted { owed = [] } in
      let user : List ℕ = 85 ∷ 83 ∷ 69 ∷ 82 ∷ 32 ∷ 97 ∷ 13 ∷ [] in
      let at : Attends v = record { wants = refl; running = refl; none_waits = refl } in
      let read = far_reads start begun Ops.Where near_greeted.owed v [] n [] at refl greets in
      far_obeys start begun Ops.Where [] [] n [] user v far_logged (line_of (command.User (97 ∷ []))) (command.User (97 ∷ [])) at refl refl refl
      (λ read reads. reads_stated read (command.User (97 ∷ [])) reads tt a_name) (rw root refl) (record { wants = refl; running = refl; none_waits = refl }) read
    where
      a_name : IsName (97 ∷ [])
      a_name = (omega arith, (omega arith, refl))

  -- that is said and heard, and PWD is said
  asks : node_at table [] ≡ Some Dir → Leads near_logged.owed (record far_logged { owed = [] }) [] (record near_logged { owed = [] })
  unfolding Leads near.starts near.wants answered line_heard can_hear is_nothing client_first far_first near_first near_greeted far_logged near_logged
  asks root =
      let start = far_at far_first [] in
      let begun = near_at near_first [] in
      let v : Far = record far_logged { owed = [] } in
      let n : Near = record near_greeted { owed = [] } in
      let said = far_says start begun Ops.Where [] far_logged [] [] n [] (record { wants = refl; running = refl; none_waits = refl }) (logs_in root) in
      let read = near_reads start begun Ops.Where [] v [] far_logged.owed n refl refl said in
      let heard = near_hears start begun Ops.Where [] v [] [] far_logged.owed n refl refl read in
      near_says start begun Ops.Where [] v [] [] near_logged [] refl heard

  -- PWD is heard
  tells : node_at table [] ≡ Some Dir → Leads [] far_told [] (record near_logged { owed = [] })
  unfolding Leads near.starts near.wants answered line_heard obeyed is_silent ear_after no_events client_first far_first near_first near_greeted far_logged
      near_logged far_told
  tells root =
      let start = far_at far_first [] in
      let begun = near_at near_first [] in
      let v : Far = record far_logged { owed = [] } in
      let n : Near = record near_logged { owed = [] } in
      let pwd : List ℕ = 80 ∷ 87 ∷ 68 ∷ 13 ∷ [] in
      let at : Attends v = record { wants = refl; running = refl; none_waits = refl } in
      let read = far_reads start begun Ops.Where near_logged.owed v [] n [] at refl (asks root) in
      far_obeys start begun Ops.Where [] [] n [] pwd v far_told (line_of command.Pwd) command.Pwd at refl refl refl
      (λ read reads. reads_stated read command.Pwd reads tt tt) refl (record { wants = refl; running = refl; none_waits = refl }) read

  -- the answer is said and heard
  ends : node_at table [] ≡ Some Dir → Leads [] (record far_told { owed = [] }) [] near_told
  unfolding Leads near.starts near.wants answered line_heard can_hear is_nothing path_value quoted_value path_on_literals text_of obeyed
      client_first far_first near_first near_greeted far_logged near_logged far_told near_told
  ends root =
      let start = far_at far_first [] in
      let begun = near_at near_first [] in
      let v : Far = record far_told { owed = [] } in
      let n : Near = record near_logged { owed = [] } in
      let said = far_says start begun Ops.Where [] far_told [] [] n [] (record { wants = refl; running = refl; none_waits = refl }) (tells root) in
      let read = near_reads start begun Ops.Where [] v [] far_told.owed n refl refl said in
      near_hears start begun Ops.Where [] v [] [] far_told.owed n refl refl read

  -- and reported
  answers : node_at table [] ≡ Some Dir
      → Answered (far_at far_first []) Ops.Where (Path (47 ∷ [])) (near_at client_first []) (record far_told { owed = [] }) near_done
  unfolding Leads near.starts near.wants answered line_heard can_hear is_nothing path_value quoted_value path_on_literals text_of obeyed
      client_first far_first near_first near_greeted far_logged near_logged far_told near_told near_done
  answers root = near_answers (far_at far_first []) Ops.Where (Path (47 ∷ [])) (near_at client_first []) near_first (record far_told { owed = [] }) near_told
      refl refl (((refl, (((λ calm. refl), (λ moved. absurd (moved refl))), inl refl)), refl, tt), refl) refl refl refl refl (ends root)

  -- step by step
  answering : node_at table [] ≡ Some Dir
      → Answering (far_at far_first []) Ops.Where (Path (47 ∷ [])) (near_at client_first []) (record far_told { owed = [] }) near_told
  unfolding Leads near.starts near.wants answered line_heard can_hear is_nothing path_value quoted_value path_on_literals text_of obeyed
      client_first far_first near_first near_greeted far_logged near_logged far_told near_told
  answering root = near_answering (far_at far_first []) Ops.Where (Path (47 ∷ [])) (near_at client_first []) near_first (record far_told { owed = [] }) near_told
      refl (((refl, (((λ calm. refl), (λ moved. absurd (moved refl))), inl refl)), refl, tt), refl) refl refl refl refl refl (ends root)

  -- both began as a session does
  starts_so : Begins (example table) (far_at far_first []) (near_at client_first [])
  unfolding client_first far_first
  starts_so = record { server_view = refl; server_unheard = refl; client_view = refl; client_unheard = refl }

  -- QUIT is heard and answered
  quits : (root : node_at table [] ≡ Some Dir)
      → Quitted (far_at far_first []) (server_actions (answers root).turns) [] (record far_bye { owed = [] }) [] far_bye.owed
  unfolding obeyed is_silent ear_after no_events far_first far_logged far_told far_bye
  quits root =
      let start = far_at far_first [] in
      let before = server_actions (answers root).turns in
      let v : Far = record far_told { owed = [] } in
      let last : Far = record v { ear = ear_after v.ear (81 ∷ 85 ∷ 73 ∷ 84 ∷ 13 ∷ []) } in
      let at : Attends v = record { wants = refl; running = refl; none_waits = refl } in
      let there : Attends last = record { wants = refl; running = refl; none_waits = refl } in
      let first = quit_first start before v (answers root).far_goes in
      let read = quit_turn start before (Read quit_octets) tt quit_octets [] [] [] v v [] quit_octets (far_reading v quit_octets at refl) (refl, refl) first in
      let heard = far_hears (λ v u. Quitted start before [] v u [])
      (λ octet rest v new at done q. quit_turn start before (Heard (octet ∷ [])) tt [] [] [] [] v new (octet ∷ rest) rest done refl q)
      (81 ∷ 85 ∷ 73 ∷ 84 ∷ 13 ∷ []) (10 ∷ []) v at refl refl read in
      let obeys = quit_turn start before (Heard (10 ∷ [])) tt [] [] [] [] last far_bye (10 ∷ []) []
      (far_ending last far_bye (line_of command.Quit) command.Quit there refl refl (λ read reads. reads_stated read command.Quit reads tt tt) refl) refl heard in
      quit_turn start before (Says far_bye.owed) tt [] [] [] far_bye.owed far_bye (record far_bye { owed = [] }) [] [] (far_saying far_bye [] refl) refl obeys

  -- the server is told that the client left
  is_over : node_at table [] ≡ Some Dir → (server : Stand server_side) × AreOver (example table) example_asked server
  unfolding obeyed far.control_end far_first far_logged far_told
  is_over root = far_leaves (example table) far_first Ops.Where (Path (47 ∷ [])) (near_at client_first []) (record far_told { owed = [] }) near_done
      starts_so (answers root) refl (record { wants = refl; running = refl; none_waits = refl }) refl

  -- or hears QUIT
  has_quit : node_at table [] ≡ Some Dir → (server : Stand server_side) × HaveQuit (example table) example_asked server
  unfolding near.starts answered line_heard path_value quoted_value path_on_literals text_of obeyed
      client_first far_first near_first near_greeted far_logged near_logged far_told near_told near_done far_bye
  has_quit root = far_quits (example table) far_first Ops.Where (Path (47 ∷ [])) (near_at client_first []) (record far_told { owed = [] }) near_done
      starts_so (answers root) (record far_bye { owed = [] }) far_bye.owed refl refl (quits root)

-- so it is played
pub example_is_played : ExampleIsPlayed
unfolding near.starts answered line_heard path_value quoted_value path_on_literals text_of obeyed
    client_first far_first near_first near_greeted far_logged near_logged far_told near_told near_done
example_is_played table root =
    let a = answers table root in
    let start = near_at (client_first table) [] in
    let now = near_at (near_done table) [] in
    let goes = subst (λ d. Goes IsAskingAlone ClientIsCalm ClientAttends d start now) (sym a.client_is) (answers_go example_asked start now a.answered) in
    record {
      turns = a.turns;
      server = far_at (record (far_told table) { owed = [] }) [];
      client = now;
      did = record {
        server_start = far_at (far_first table) [];
        client_start = start;
        begins = starts_so table;
        happened = a.happened;
        server_led = a.far_goes.0;
        client_led = goes.0;
        serves = a.far_goes.1;
        asks = goes.1;
      };
      begun = ap (begun_in 0) a.client_is ∙ orders_are 0 example_asked start now a.answered;
      reports = ap reports_in a.client_is ∙ answers_are example_asked start now a.answered;
      free = refl;
    }

-- and drives are over so
pub example_is_over : ExampleIsOver
example_is_over table root = is_over table root

-- or by QUIT
pub example_has_quit : ExampleHasQuit
example_has_quit table root = has_quit table root

-- its operation, step by step
pub record IsAnswered (table : Table) : Type 0 where
  pub server : Far
  pub client : Near
  pub begins : Begins (example table) (far_at server []) (near_at client [])
  pub server_now : Far
  pub heard : Near
  pub answering : Answering (far_at server []) Ops.Where (Path (47 ∷ [])) (near_at client []) server_now heard

pub example_is_answered : (table : Table) → node_at table [] ≡ Some Dir → IsAnswered table
example_is_answered table root = record {
  server = far_first table;
  client = client_first table;
  begins = starts_so table;
  server_now = record (far_told table) { owed = [] };
  heard = near_told table;
  answering = answering table root;
}
