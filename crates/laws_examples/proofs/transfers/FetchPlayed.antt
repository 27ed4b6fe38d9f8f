-- The example of a fetch, action by action.
use Rattle.std.proofs.Common.{◌≡◌, inl, ℕ, true, List, [], ◌∷◌, ◌++◌, None, Some, refl, ◌∙◌, arith}
use Rattle.ftp_command.specs.Line.{line_of}
use Rattle.ftp_command.specs.declared.command.Command.TheVariants as command
use Rattle.ftp_client_driver.specs.Side.{client_side}
use Rattle.ftp_client_model.specs.Calls as near
use Rattle.ftp_client_model.specs.Dialogue.{answered}
use Rattle.ftp_client_model.specs.Octets.{download_flow}
use Rattle.ftp_client_model.specs.View.{View as Near, Told, Transferring, client}
use Rattle.ftp_client_model.specs.declared.client.Abort.TheVariants as Aborts
use Rattle.ftp_client_model.specs.declared.client.ClientLink.TheVariants as Links
use Rattle.ftp_client_model.specs.declared.client.Replied.{Replied}
use Rattle.ftp_client_model.specs.declared.client.Replied.TheVariants as Replies
use Rattle.ftp_client_model.specs.declared.client.Standing.TheVariants as Standings
use Rattle.ftp_ports.specs.Asking.{Ended as EndedBy}
use Rattle.ftp_ports.specs.Actions.{Other, Stand}
use Rattle.ftp_ports.specs.Machine.{Closed, End, Gave, Got, Left, Received, Wrote}
use Rattle.ftp_ports.specs.declared.whole.Rest.TheVariants as Rests
use Rattle.ftp_nvt.specs.Lines.{written_line}
use Rattle.ftp_operation.specs.Answer.{Octets}
use Rattle.ftp_operation.specs.declared.op.Op.{Op}
use Rattle.ftp_operation.specs.declared.op.Op.TheVariants as Ops
use Rattle.ftp_path.specs.Path.{fits, resolved, text_of}
use Rattle.ftp_path.proofs.TextLemmas.{path_on_literals}
use Rattle.ftp_reply.specs.Reader.{line_heard}
use Rattle.ftp_reply.specs.Values.{extended_value}
use Rattle.ftp_server_driver.specs.alone.Side.{server_side}
use Rattle.ftp_settings.specs.Representation.{defaults}
use Rattle.ftp_server_model.specs.Calls as far
use Rattle.ftp_server_model.specs.Machine.{obeyed}
use Rattle.ftp_server_model.specs.Replies.{fixed_reply, reply_octets}
use Rattle.ftp_server_model.specs.View.{View as Far}
use Rattle.ftp_server_model.specs.declared.reply.FixedReply.TheVariants as Texts
use Rattle.ftp_server_model.specs.declared.session.ServerLink.TheVariants as Data
use Rattle.ftp_server_model.specs.declared.session.Transfer.TheVariants as Transfers
use Rattle.ftp_server_model.proofs.ReadingLemmas.{reads_stated}
use Rattle.ftp_tree.specs.Map.{Dir, File}
use Rattle.ftp_tree.specs.Tree.{Table, node_at, octets_at, under}
use Rattle.ftp_tree.proofs.LawLemmas.{under-stands}
use Rattle.laws_drivers.specs.control.Between.{Between, Has, Has_ended, server_actions}
use Rattle.laws_drivers.specs.control.Example.{example}
use Rattle.laws_drivers.proofs.control.Playing.{Attends, ear_after, is_silent, no_events}
use Rattle.laws_transfers.specs.Over.{AreOver}
use Rattle.laws_transfers.specs.Quitting.{QuitAfterAll}
use Rattle.laws_examples.specs.transfers.Example.{FetchHasQuit, FetchIsOver, HasFile, example_how, example_name, example_octets, fetch_asked}
use Rattle.laws_examples.proofs.transfers.Calling.{Dials, client_first, far_bye, far_done, far_first, far_ready, near_first, quiet, reaches, starts_so, still}
use Rattle.laws_examples.proofs.transfers.Ending.{IsAnswered, both_over, both_quit, quits}
use Rattle.laws_examples.proofs.transfers.Moves.{ends, far_closes, far_leaves, gets, gives, near_leaves, one_over, takes_one, writes}
use Rattle.laws_examples.proofs.transfers.Playing.{Played, can_take, far_in, far_obeys, far_says, far_turn, lies, near_in, near_is_told, near_turn, none_yet, one_stands, takes_only, transferring}

-- the operation
abbrev fetch : Op (List ℕ)
fetch = Ops.Get example_name example_how

-- it dials where it is told
fetch_dials : Dials fetch
unfolding near.data_opened near.wants answered line_heard extended_value path_on_literals
fetch_dials = record { logged = refl; called = refl; rest = refl }

module _ (table : Table) (moments : ℕ → ℕ) where
  -- ---- the server

  -- it has the file to give, and has given it
  abbrev far_sent : Far
  far_sent = record (far_ready table) {
    session = record (far_ready table).session { connection = Data.Transferring (Transfers.Download example_octets) };
    owed = reply_octets (fixed_reply Texts.Opens);
  }

  abbrev far_given : Far
  far_given = record (far_ready table) {
    session = record (far_ready table).session { connection = Data.Free; closing = true };
    owed = reply_octets (fixed_reply Texts.Complete);
  }

  -- ---- the client

  -- the transfer, once so much of it was answered
  abbrev fetching : Replied → Near
  fetching replied = record client_first {
    standing = Standings.Entered;
    job = Transferring fetch (record { replied = replied; abort = Aborts.Unsent; flow = download_flow defaults });
    connection = Links.Open;
  }

  abbrev near_open : Near
  near_open = record (fetching Replies.Nothing) { owed = written_line (line_of (command.Retr example_name)) }

  abbrev near_heard : Near
  near_heard = fetching (Replies.Final 226)

  abbrev near_taking : Near
  near_taking = near.receives_octet near_heard 104

  abbrev near_taken : Near
  near_taken = near.receives_octet near_taking 105

  abbrev near_over : Near
  near_over = record client_first { standing = Standings.Entered; job = Told (Octets example_octets) }

  -- where both begin
  abbrev Starts : Stand server_side
  Starts = far_in none_yet (far_first table) []

  abbrev begun : Stand client_side
  begun = near_in none_yet (near_first fetch) []

  -- actions led there
  abbrev Leads : ℕ → Between → Stand server_side → Stand client_side → Type 0
  Leads listened between server client = Played moments Starts begun fetch listened between server client

  module _ (root : node_at table [] ≡ Some Dir) (stamp : ℕ) (file : node_at (under table []) (example_name ∷ []) ≡ Some (File example_octets stamp)) where
    -- RETR is heard
    obeys : Leads 1 (lies [] [] [] [] Has Has) (far_in (one_stands [] []) far_sent []) (near_in (one_stands [] []) (still near_open) [])
    unfolding near.starts near.data_opened answered line_heard extended_value path_on_literals obeyed fits text_of resolved octets_at is_silent
        ear_after no_events
    obeys =
        let retr : List ℕ = 82 ∷ 69 ∷ 84 ∷ 82 ∷ 32 ∷ 102 ∷ 13 ∷ [] in
        let at : Attends (far_ready table) = record { wants = refl; running = refl; none_waits = refl } in
        far_obeys moments Starts begun fetch 1 [] [] Has Has [] retr (one_stands [] []) (far_ready table) far_sent (line_of (command.Retr example_name))
        (command.Retr example_name)
        (near_in (one_stands [] []) (still near_open) []) at refl refl refl refl
        (λ read reads. reads_stated read (command.Retr example_name) reads tt refl) (rw file refl)
        (reaches transferring tt table moments fetch fetch_dials root)

    -- the file is given and written, 150 and 226 are said, and the server ends the data connection
    sends : Leads 1 (lies [] (far_sent.owed ++ far_given.owed) [] example_octets Has Has_ended)
        (far_in none_yet (far_done table) []) (near_in (one_stands [] []) (still near_open) [])
    sends =
        let client = near_in (one_stands [] []) (still near_open) [] in
        let down : List ℕ = far_sent.owed in
        let all : List ℕ = far_sent.owed ++ far_given.owed in
        let both = lies [] down [] [] Has Has in
        let sent = lies [] down [] example_octets Has Has in
        let said = lies [] all [] example_octets Has Has in
        let over = lies [] all [] example_octets Has Has_ended in
        let opens = far_says moments Starts begun fetch 1 [] [] Has Has [] [] (one_stands [] []) far_sent client refl obeys in
        let given = far_turn moments Starts begun fetch (Other (Gave 2 example_octets Rests.Nothing))
        ((λ before. (refl, λ ports. ports)), λ old new done moment. tt) 1 both both
        (far_in (one_stands [] []) (quiet far_sent) []) (far_in (one_stands example_octets []) far_given []) client (tt, refl)
        (gives Rests.Nothing example_octets (quiet far_sent) far_given refl refl refl refl) refl opens in
        let written = far_turn moments Starts begun fetch (Other (Wrote example_octets)) ((λ before. (refl, λ ports. ports)), λ old new done moment. tt) 1
        both sent (far_in (one_stands example_octets []) far_given []) (far_in (one_stands [] []) far_given []) client (tt, refl)
        (writes Rests.Nothing example_octets far_given (omega arith)) (refl, refl) given in
        let told = far_says moments Starts begun fetch 1 [] example_octets Has Has [] down (one_stands [] []) far_given client refl written in
        let left = far_turn moments Starts begun fetch (Other (Left (EndedBy None None))) ((λ before. (refl, λ ports. ports)), λ old new done moment. tt) 1
        said over (far_in (one_stands [] []) (quiet far_given) []) (far_in none_yet (quiet far_given) []) client (tt, refl)
        (far_leaves (quiet far_given) refl refl) (refl, refl) told in
        far_turn moments Starts begun fetch (Other Closed) ((λ before. (refl, λ ports. ports)), λ old new done moment. tt) 1 over over
        (far_in none_yet (quiet far_given) []) (far_in none_yet (far_done table) []) client (tt, refl)
        (far_closes (quiet far_given) (far_done table) refl refl) refl left

    -- the client hears both replies, takes the file and is told its end
    takes : Leads 1 (lies [] [] [] [] Has Has_ended) (far_in none_yet (far_done table) []) (near_in one_over near_over [])
    unfolding near.starts near.wants near.data_opened near.data_end answered line_heard extended_value path_on_literals can_take takes_only
    takes =
        let server = far_in none_yet (far_done table) [] in
        let all : List ℕ = far_sent.owed ++ far_given.owed in
        let some = lies [] [] [] example_octets Has Has_ended in
        let none = lies [] [] [] [] Has Has_ended in
        let told = near_is_told moments Starts begun fetch 1 [] example_octets Has Has_ended [] all server (one_stands [] []) (still near_open) refl refl
        sends in
        let got = near_turn moments Starts begun fetch (Other (Got example_octets)) (tt, tt) 1 some none server (near_in (one_stands [] []) near_heard [])
        (near_in (one_stands [] example_octets) near_heard []) (tt, refl) (gets example_octets near_heard refl) (refl, refl, refl) told in
        let one = near_turn moments Starts begun fetch (Other (Received example_octets 1)) (tt, tt) 1 none none server
        (near_in (one_stands [] example_octets) near_heard [])
        (near_in (one_stands [] (105 ∷ [])) near_taking []) (tt, refl) (takes_one 104 (105 ∷ []) near_heard refl refl) refl got in
        let taken = near_turn moments Starts begun fetch (Other (Received (105 ∷ []) 1)) (tt, tt) 1 none none server
        (near_in (one_stands [] (105 ∷ [])) near_taking [])
        (near_in (one_stands [] []) near_taken []) (tt, refl) (takes_one 105 [] near_taking refl refl) refl one in
        near_turn moments Starts begun fetch (Other End) (tt, tt) 1 none none server (near_in (one_stands [] []) near_taken [])
        (near_in one_over near_over []) (tt, refl)
        (ends near_taken refl) (refl, refl, refl) taken

    -- so it was answered
    is_answered : IsAnswered (example table) moments fetch (Octets example_octets)
    unfolding near.starts near.data_opened near.data_end answered line_heard extended_value path_on_literals
    is_answered = record {
      first = far_first table;
      client_first = client_first;
      begun = near_first fetch;
      served = far_done table;
      heard = near_over;
      channel = one_over;
      asked = EndedBy None None;
      hold = Has_ended;
      there = lies [] [] [] [] Has Has_ended;
      begins = starts_so table moments fetch fetch_dials;
      does = (((refl, (((λ calm. refl), (λ moved. absurd (moved refl))), inl refl)), refl, tt), refl);
      is = (tt, refl);
      some = refl;
      free = refl;
      leaves = near_leaves (near.reports near_over) refl;
      may = (tt, refl);
      can = (refl, refl);
      played = takes;
    }

    -- and both are over
    is_over : (server : Stand server_side) × AreOver (example table) moments fetch_asked server
    unfolding near.starts near.data_opened near.data_end far.control_end answered line_heard extended_value path_on_literals
    is_over = both_over (example table) (far_first table) fetch (Octets example_octets) client_first (near_first fetch) (far_done table) near_over moments
        one_over (EndedBy None None) Has_ended (lies [] [] [] [] Has Has_ended) (starts_so table moments fetch fetch_dials)
        (((refl, (((λ calm. refl), (λ moved. absurd (moved refl))), inl refl)), refl, tt), refl) (tt, refl) refl refl
        (near_leaves (near.reports near_over) refl) (tt, refl) (refl, refl) takes
        refl (record { wants = refl; running = refl; none_waits = refl }) refl

    -- so both are over
    has_quit : (server : Stand server_side) × QuitAfterAll (example table) moments fetch_asked server
    unfolding near.starts near.data_opened near.data_end obeyed answered line_heard extended_value path_on_literals
    has_quit = both_quit (example table) (far_first table) fetch (Octets example_octets) client_first (near_first fetch) (far_done table) near_over moments
        one_over (EndedBy None None) Has_ended (lies [] [] [] [] Has Has_ended) (starts_so table moments fetch fetch_dials)
        (((refl, (((λ calm. refl), (λ moved. absurd (moved refl))), inl refl)), refl, tt), refl) (tt, refl) refl refl
        (near_leaves (near.reports near_over) refl) (tt, refl) (refl, refl) takes
        (quiet (far_bye table)) (far_bye table).owed refl refl
        (quits table Starts (server_actions takes.turns) Has_ended takes.far_led)

-- the file stands where the login sees it
pub fetch_is_answered : (table : Table) (stamp : ℕ) (moments : ℕ → ℕ) → HasFile table stamp
    → IsAnswered (example table) moments fetch (Octets example_octets)
fetch_is_answered table stamp moments has = is_answered table moments has.root stamp (under-stands table [] (example_name ∷ []) ∙ has.file)

pub fetch_is_over : FetchIsOver
fetch_is_over table stamp moments has = is_over table moments has.root stamp (under-stands table [] (example_name ∷ []) ∙ has.file)

pub fetch_has_quit : FetchHasQuit
fetch_has_quit table stamp moments has = has_quit table moments has.root stamp (under-stands table [] (example_name ∷ []) ∙ has.file)
