-- The example of a fetch over a data connection that the server dials, action by action.
use Rattle.std.proofs.Common.{◌≡◌, inl, ℕ, List, [], ◌∷◌, ◌++◌, None, Some, true, refl, ◌∙◌, arith}
use Rattle.ftp_client_driver.specs.Side.{client_side}
use Rattle.ftp_client_model.specs.Calls as near
use Rattle.ftp_client_model.specs.Dialogue.{answered}
use Rattle.ftp_client_model.specs.View.{View as Near, Told, client}
use Rattle.ftp_client_model.specs.declared.client.ClientLink.TheVariants as Links
use Rattle.ftp_client_model.specs.declared.client.Replied.TheVariants as Replies
use Rattle.ftp_client_model.specs.declared.client.Standing.TheVariants as Standings
use Rattle.ftp_ports.specs.Asking.{Came, Connected, Ended as EndedBy}
use Rattle.ftp_ports.specs.Actions.{Other, Stand}
use Rattle.ftp_ports.specs.Machine.{Closed, End, Gave, Got, Left, Opened, Received, Wrote}
use Rattle.ftp_ports.specs.declared.whole.Rest.TheVariants as Rests
use Rattle.ftp_ends.specs.RowWords.{here}
use Rattle.ftp_operation.specs.Answer.{Octets}
use Rattle.ftp_operation.specs.declared.op.Op.{Op}
use Rattle.ftp_operation.specs.declared.op.Op.TheVariants as Ops
use Rattle.ftp_path.proofs.TextLemmas.{path_on_literals}
use Rattle.ftp_reply.specs.Reader.{line_heard}
use Rattle.ftp_server_driver.specs.alone.Side.{server_side}
use Rattle.ftp_server_model.specs.Calls as far
use Rattle.ftp_server_model.specs.Replies.{fixed_reply, reply_octets}
use Rattle.ftp_server_model.specs.View.{View as Far}
use Rattle.ftp_server_model.specs.declared.reply.FixedReply.TheVariants as Texts
use Rattle.ftp_server_model.specs.declared.session.ServerLink.TheVariants as Data
use Rattle.ftp_server_model.specs.declared.session.Transfer.TheVariants as Transfers
use Rattle.ftp_tree.specs.Map.{Dir, File}
use Rattle.ftp_tree.specs.Tree.{Table, node_at, under}
use Rattle.ftp_tree.proofs.LawLemmas.{under-stands}
use Rattle.laws_drivers.specs.control.Between.{Awaits, Between, Has, Has_ended, Has_not, Is_called}
use Rattle.laws_drivers.specs.control.Example.{example}
use Rattle.laws_active.specs.Over.{AreOver}
use Rattle.laws_examples.specs.transfers.Example.{HasFile, example_name, example_octets}
use Rattle.laws_examples.proofs.transfers.Moves.{endpoint, ends, far_closes, far_leaves, gets, near_leaves, one_over, takes_one, writes}
use Rattle.laws_examples.proofs.transfers.Playing.{can_take, far_in, lies, near_in, none_yet, one_stands, takes_only}
use Rattle.laws_examples.specs.active.Example.{CallIsOver, call_asked, call_how}
use Rattle.laws_examples.proofs.transfers.Calling.{far_first, far_logged, quiet, still}
use Rattle.laws_examples.proofs.active.Calling.{Listens, client_first, far_sent, fetching, near_asking, near_first, obeys, starts_so}
use Rattle.laws_examples.proofs.active.Ending.{IsCalled, both_over}
use Rattle.laws_examples.proofs.active.Moves.{far_dials, gives_more, near_accepts, one_more}
use Rattle.laws_examples.proofs.active.Playing.{Played, far_says, far_turn, near_is_told, near_turn}

-- the operation
abbrev pub fetch : Op (List ℕ)
fetch = Ops.Get example_name call_how

-- it wants a port, names it and asks for the file
fetch_listens : Listens fetch
unfolding near.listening answered line_heard path_on_literals
fetch_listens = record { logged = refl; named = refl; asking = refl }

module _ (table : Table) (moments : ℕ → ℕ) where
  -- ---- the server

  -- it dialled, has given the file, and stands so again
  abbrev far_sending : Far
  far_sending = record (far_logged table) {
    session = record (far_logged table).session { connection = Data.Transferring (Transfers.Download example_octets) };
    owed = [];
  }

  abbrev far_given : Far
  far_given = record (far_logged table) {
    session = record (far_logged table).session { connection = Data.Free; closing = true };
    owed = reply_octets (fixed_reply Texts.Complete);
  }

  abbrev far_done : Far
  far_done = record (far_logged table) { session = record (far_logged table).session { connection = Data.Free }; owed = [] }

  -- ---- the client

  -- it heard 150 and 226 before it accepted
  abbrev near_called : Near
  near_called = fetching fetch (Replies.Final 226) (Links.Accepting 49152)

  abbrev near_heard : Near
  near_heard = fetching fetch (Replies.Final 226) Links.Open

  abbrev near_taking : Near
  near_taking = near.receives_octet near_heard 104

  abbrev near_taken : Near
  near_taken = near.receives_octet near_taking 105

  abbrev near_over : Near
  near_over = record client_first { standing = Standings.Entered; job = Told (Octets example_octets) }

  -- where both begin
  abbrev Starts : Stand server_side
  Starts = far_in none_yet (far_first table) []

  abbrev begun : Stand client_side
  begun = near_in none_yet (near_first fetch) []

  -- actions led there
  abbrev Leads : ℕ → Between → Stand server_side → Stand client_side → Type 0
  Leads listened between server client = Played moments Starts begun fetch listened between server client

  module _ (root : node_at table [] ≡ Some Dir) (stamp : ℕ) (file : node_at (under table []) (example_name ∷ []) ≡ Some (File example_octets stamp)) where
    -- 150 is said, the server dials, the file is given and written, 226 is said, and the server ends the data connection
    sends : Leads 1 (lies [] ((far_sent table).owed ++ far_given.owed) [] example_octets Is_called Has_ended)
        (far_in none_yet far_done []) (near_in none_yet (still (near_asking fetch)) [])
    sends =
        let client = near_in none_yet (still (near_asking fetch)) [] in
        let down : List ℕ = (far_sent table).owed in
        let all : List ℕ = (far_sent table).owed ++ far_given.owed in
        let none = lies [] down [] [] (Awaits 49152) Has_not in
        let called = lies [] down [] [] Is_called Has in
        let sent = lies [] down [] example_octets Is_called Has in
        let said = lies [] all [] example_octets Is_called Has in
        let over = lies [] all [] example_octets Is_called Has_ended in
        let opens = far_says moments Starts begun fetch 1 [] [] (Awaits 49152) Has_not [] [] none_yet (far_sent table) client refl
        (obeys table moments fetch fetch_listens root stamp file) in
        let dialled = far_turn moments Starts begun fetch (Other (Opened here (Connected endpoint None None ∷ []) None None Rests.More))
        ((λ before. (refl, λ ports. ports)), λ old new done moment. tt) 1 none called
        (far_in none_yet (quiet (far_sent table)) []) (far_in one_more far_sending []) client (tt, refl)
        (far_dials endpoint (quiet (far_sent table)) far_sending refl refl refl refl) (tt, refl, refl) opens in
        let given = far_turn moments Starts begun fetch (Other (Gave 2 example_octets Rests.Nothing))
        ((λ before. (refl, λ ports. ports)), λ old new done moment. tt) 1 called called
        (far_in one_more far_sending []) (far_in (one_stands example_octets []) far_given []) client (tt, refl)
        (gives_more Rests.Nothing example_octets far_sending far_given refl refl refl refl) refl dialled in
        let written = far_turn moments Starts begun fetch (Other (Wrote example_octets))
        ((λ before. (refl, λ ports. ports)), λ old new done moment. tt) 1 called sent
        (far_in (one_stands example_octets []) far_given []) (far_in (one_stands [] []) far_given []) client (tt, refl)
        (writes Rests.Nothing example_octets far_given (omega arith)) (refl, refl) given in
        let told = far_says moments Starts begun fetch 1 [] example_octets Is_called Has [] down (one_stands [] []) far_given client refl written in
        let left = far_turn moments Starts begun fetch (Other (Left (EndedBy None None)))
        ((λ before. (refl, λ ports. ports)), λ old new done moment. tt) 1 said over
        (far_in (one_stands [] []) (quiet far_given) []) (far_in none_yet (quiet far_given) []) client (tt, refl)
        (far_leaves (quiet far_given) refl refl) (refl, refl) told in
        far_turn moments Starts begun fetch (Other Closed) ((λ before. (refl, λ ports. ports)), λ old new done moment. tt) 1 over over
        (far_in none_yet (quiet far_given) []) (far_in none_yet far_done []) client (tt, refl)
        (far_closes (quiet far_given) far_done refl refl) refl left

    -- the client hears both replies, and then accepts
    comes : Leads 1 (lies [] [] [] example_octets Has Has_ended) (far_in none_yet far_done []) (near_in (one_stands [] []) near_heard [])
    unfolding near.starts near.wants near.data_opened answered line_heard path_on_literals can_take takes_only
    comes =
        let server = far_in none_yet far_done [] in
        let all : List ℕ = (far_sent table).owed ++ far_given.owed in
        let told = near_is_told moments Starts begun fetch 1 [] example_octets Is_called Has_ended [] all server none_yet (still (near_asking fetch)) refl
        refl sends in
        near_turn moments Starts begun fetch (Other (Opened here (Came here None None ∷ []) None None Rests.Nothing)) (tt, tt)
        (λ before. (refl, λ ports. ports)) 1 (lies [] [] [] example_octets Is_called Has_ended) (lies [] [] [] example_octets Has Has_ended) server
        (near_in none_yet near_called []) (near_in (one_stands [] []) near_heard []) (refl, refl) (near_accepts here near_called refl refl refl) (refl, refl) told

    -- it takes the file and is told its end
    takes : Leads 1 (lies [] [] [] [] Has Has_ended) (far_in none_yet far_done []) (near_in one_over near_over [])
    unfolding near.starts near.wants near.data_opened near.data_end answered line_heard path_on_literals can_take takes_only
    takes =
        let server = far_in none_yet far_done [] in
        let some = lies [] [] [] example_octets Has Has_ended in
        let none = lies [] [] [] [] Has Has_ended in
        let got = near_turn moments Starts begun fetch (Other (Got example_octets)) (tt, tt) (λ before. (refl, λ ports. ports)) 1 some none server
        (near_in (one_stands [] []) near_heard [])
        (near_in (one_stands [] example_octets) near_heard []) (tt, refl) (gets example_octets near_heard refl) (refl, refl, refl) comes in
        let one = near_turn moments Starts begun fetch (Other (Received example_octets 1)) (tt, tt) (λ before. (refl, λ ports. ports)) 1 none none server
        (near_in (one_stands [] example_octets) near_heard []) (near_in (one_stands [] (105 ∷ [])) near_taking []) (tt, refl)
        (takes_one 104 (105 ∷ []) near_heard refl refl) refl got in
        let taken = near_turn moments Starts begun fetch (Other (Received (105 ∷ []) 1)) (tt, tt) (λ before. (refl, λ ports. ports)) 1 none none server
        (near_in (one_stands [] (105 ∷ [])) near_taking []) (near_in (one_stands [] []) near_taken []) (tt, refl)
        (takes_one 105 [] near_taking refl refl) refl one in
        near_turn moments Starts begun fetch (Other End) (tt, tt) (λ before. (refl, λ ports. ports)) 1 none none server
        (near_in (one_stands [] []) near_taken []) (near_in one_over near_over []) (tt, refl) (ends near_taken refl) (refl, refl, refl) taken

    -- so it was answered
    is_called : IsCalled (example table) moments fetch (Octets example_octets)
    unfolding near.starts near.data_opened near.data_end answered line_heard path_on_literals
    is_called = record {
      first = far_first table;
      client_first = client_first;
      begun = near_first fetch;
      served = far_done;
      heard = near_over;
      channel = one_over;
      asked = EndedBy None None;
      hold = Has_ended;
      there = lies [] [] [] [] Has Has_ended;
      begins = starts_so table moments fetch fetch_listens;
      does = (((refl, (((λ calm. refl), (λ moved. absurd (moved refl))), inl refl)), refl, tt), refl);
      is = tt;
      some = refl;
      free = refl;
      leaves = near_leaves (near.reports near_over) refl;
      may = (tt, refl);
      can = (refl, refl);
      played = takes;
    }

    -- and both are over
    is_over : (server : Stand server_side) × AreOver (example table) moments call_asked server
    unfolding near.starts near.data_opened near.data_end far.control_end answered line_heard path_on_literals
    is_over = both_over (example table) (far_first table) fetch (Octets example_octets) client_first (near_first fetch) far_done near_over moments one_over
        (EndedBy None None) Has_ended (lies [] [] [] [] Has Has_ended) (starts_so table moments fetch fetch_listens)
        (((refl, (((λ calm. refl), (λ moved. absurd (moved refl))), inl refl)), refl, tt), refl) tt refl refl
        (near_leaves (near.reports near_over) refl) (tt, refl) (refl, refl) takes
        refl (record { wants = refl; running = refl; none_waits = refl }) refl

-- the file stands where the login sees it
pub call_is_answered : (table : Table) (stamp : ℕ) (moments : ℕ → ℕ) → HasFile table stamp → IsCalled (example table) moments fetch (Octets example_octets)
call_is_answered table stamp moments has = is_called table moments has.root stamp (under-stands table [] (example_name ∷ []) ∙ has.file)

pub call_is_over : CallIsOver
call_is_over table stamp moments has = is_over table moments has.root stamp (under-stands table [] (example_name ∷ []) ∙ has.file)
