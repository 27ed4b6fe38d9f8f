-- How both sessions begin, action by action: until an octet of the file was written.
use Rattle.std.proofs.Common.{◌≡◌, inl, ℕ, List, [], ◌∷◌, None, Some, refl, arith}
use Rattle.ftp_command.specs.Line.{line_of}
use Rattle.ftp_command.specs.declared.command.Command.TheVariants as command
use Rattle.ftp_client_driver.specs.Side.{Begun, client_side}
use Rattle.ftp_client_model.specs.Calls as near
use Rattle.ftp_client_model.specs.Dialogue.{answered}
use Rattle.ftp_client_model.specs.Octets.{download_flow}
use Rattle.ftp_client_model.specs.View.{View as Near, Told, Transferring, client}
use Rattle.ftp_client_model.specs.declared.client.Abort.TheVariants as Aborts
use Rattle.ftp_client_model.specs.declared.client.ClientLink.TheVariants as Links
use Rattle.ftp_client_model.specs.declared.client.Replied.{Replied}
use Rattle.ftp_client_model.specs.declared.client.Replied.TheVariants as Replies
use Rattle.ftp_client_model.specs.declared.client.Standing.TheVariants as Standings
use Rattle.ftp_ports.specs.Actions.{Done, Other, Stand}
use Rattle.ftp_ports.specs.Channel.{with_rest}
use Rattle.ftp_ports.specs.Machine.{Gave, Wrote}
use Rattle.ftp_ports.specs.declared.whole.Rest.TheVariants as Rests
use Rattle.ftp_nvt.specs.Lines.{written_line}
use Rattle.ftp_operation.specs.Answer.{Broken}
use Rattle.ftp_path.specs.Path.{fits, resolved, text_of}
use Rattle.ftp_path.proofs.TextLemmas.{path_on_literals}
use Rattle.ftp_reply.specs.Reader.{line_heard}
use Rattle.ftp_reply.specs.Values.{extended_value}
use Rattle.ftp_server_driver.specs.alone.Side.{server_side}
use Rattle.ftp_settings.specs.Representation.{defaults}
use Rattle.ftp_server_model.specs.Machine.{obeyed}
use Rattle.ftp_server_model.specs.Replies.{fixed_reply, reply_octets}
use Rattle.ftp_server_model.specs.View.{View as Far}
use Rattle.ftp_server_model.specs.declared.reply.FixedReply.TheVariants as Texts
use Rattle.ftp_server_model.specs.declared.session.ServerLink.TheVariants as Data
use Rattle.ftp_server_model.specs.declared.session.Transfer.TheVariants as Transfers
use Rattle.ftp_server_model.proofs.ReadingLemmas.{reads_stated}
use Rattle.ftp_tree.specs.Map.{Dir, File}
use Rattle.ftp_tree.specs.Tree.{Table, node_at, octets_at, under}
use Rattle.laws_drivers.specs.control.Between.{Between, Has, Turn}
use Rattle.laws_drivers.proofs.control.Playing.{Attends, ear_after, is_silent, no_events}
use Rattle.laws_examples.specs.transfers.Example.{example_name, example_octets}
use Rattle.laws_examples.proofs.transfers.Calling.{Dials, client_first, far_first, far_ready, near_first, quiet, reaches, still}
use Rattle.laws_examples.proofs.transfers.Moves.{gives, writes}
use Rattle.laws_examples.proofs.transfers.Peeking.{more_stands}
use Rattle.laws_examples.proofs.transfers.Playing.{PlayedBy, far_in, far_obeys, far_says, far_turn, lies, near_in, none_yet, one_stands}
use Rattle.laws_examples.specs.downloads.Example.{first_octet, example_get}
use Rattle.laws_examples.proofs.downloads.Breaking.{breaking}

-- it dials where it is told
pub get_dials : Dials example_get
unfolding near.data_opened near.wants answered line_heard extended_value path_on_literals
get_dials = record { logged = refl; called = refl; rest = refl }

-- ---- the client

-- the transfer, once so much of it was answered
abbrev pub getting : Replied → Near
getting replied = record client_first {
  standing = Standings.Entered;
  job = Transferring example_get (record { replied = replied; abort = Aborts.Unsent; flow = download_flow defaults });
  connection = Links.Open;
}

abbrev pub near_open : Near
near_open = record (getting Replies.Nothing) { owed = written_line (line_of (command.Retr example_name)) }

-- it reports that it broke, and what came
abbrev pub near_over : Near
near_over = record client_first { standing = Standings.Entered; job = Told (Broken first_octet None) }

-- the operation is begun
pub get_begins : Done (Other (Begun example_get)) (near_in none_yet client_first []) (near_in none_yet (near_first example_get) [])
unfolding near.starts path_on_literals
get_begins = (((refl, (((λ calm. refl), (λ moved. absurd (moved refl))), inl refl)), refl, tt), refl)

-- ---- the server

module _ (table : Table) where
  -- it has the file to give, and has given its first octet
  abbrev pub far_sent : Far
  far_sent = record (far_ready table) {
    session = record (far_ready table).session { connection = Data.Transferring (Transfers.Download example_octets) };
    owed = reply_octets (fixed_reply Texts.Opens);
  }

  abbrev pub far_half : Far
  far_half = record (far_ready table) {
    session = record (far_ready table).session { connection = Data.Transferring (Transfers.Download (105 ∷ [])) };
  }

  -- where both begin
  abbrev pub Starts : Stand server_side
  Starts = far_in none_yet (far_first table) []

abbrev pub begun : Stand client_side
begun = near_in none_yet (near_first example_get) []

-- ---- action by action

module _ (table : Table) (moments : ℕ → ℕ) where
  -- actions led there, after these turns
  abbrev pub Leads : List Turn → Between → Stand server_side → Stand client_side → Type 0
  Leads before between server client = PlayedBy (breaking before) moments (Starts table) begun example_get 1 between server client

  module _ (root : node_at table [] ≡ Some Dir) (stamp : ℕ) (file : node_at (under table []) (example_name ∷ []) ≡ Some (File example_octets stamp)) where
    -- RETR is heard
    obeys : Leads [] (lies [] [] [] [] Has Has) (far_in (one_stands [] []) (far_sent table) []) (near_in (one_stands [] []) (still near_open) [])
    unfolding near.starts near.data_opened answered line_heard extended_value path_on_literals obeyed fits text_of resolved octets_at is_silent
        ear_after no_events
    obeys =
        let retr : List ℕ = 82 ∷ 69 ∷ 84 ∷ 82 ∷ 32 ∷ 102 ∷ 13 ∷ [] in
        let at : Attends (far_ready table) = record { wants = refl; running = refl; none_waits = refl } in
        far_obeys moments (Starts table) begun example_get 1 [] [] Has Has [] retr (one_stands [] []) (far_ready table) (far_sent table)
        (line_of (command.Retr example_name)) (command.Retr example_name)
        (near_in (one_stands [] []) (still near_open) []) at refl refl refl refl
        (λ read reads. reads_stated read (command.Retr example_name) reads tt refl) (rw file refl)
        (reaches (breaking []) ([], refl) table moments example_get get_dials root)

    -- 150 is said, and one octet given and written
    pub sends : Leads [] (lies [] (far_sent table).owed [] first_octet Has Has) (far_in more_stands (far_half table) [])
        (near_in (one_stands [] []) (still near_open) [])
    sends =
        let client = near_in (one_stands [] []) (still near_open) [] in
        let start = Starts table in
        let sent : Far = far_sent table in
        let half : Far = far_half table in
        let down : List ℕ = sent.owed in
        let both = lies [] down [] [] Has Has in
        let come = lies [] down [] first_octet Has Has in
        let opens = far_says moments start begun example_get 1 [] [] Has Has [] [] (one_stands [] []) sent client refl obeys in
        let given = far_turn moments start begun example_get (Other (Gave 1 first_octet Rests.More)) ((λ before. (refl, λ ports. ports)), λ old new done moment. tt) 1
        both both (far_in (one_stands [] []) (quiet sent) []) (far_in (with_rest Rests.More (one_stands first_octet [])) half []) client (tt, refl)
        (gives Rests.More first_octet (quiet sent) half refl refl refl refl) refl opens in
        far_turn moments start begun example_get (Other (Wrote first_octet)) ((λ before. (refl, λ ports. ports)), λ old new done moment. tt) 1 both come
        (far_in (with_rest Rests.More (one_stands first_octet [])) half []) (far_in more_stands half []) client (tt, refl)
        (writes Rests.More first_octet half (omega arith)) (refl, refl) given
