-- The example of a Peek over a data connection that the server dials, action by action: it says ABOR after the octet that it asked for.
use Rattle.std.proofs.Common.{◌≡◌, inl, ℕ, true, List, [], ◌∷◌, ◌++◌, None, Some, refl, ◌∙◌, arith}
use Rattle.ftp_command.specs.Line.{line_of}
use Rattle.ftp_command.specs.declared.command.Command.TheVariants as command
use Rattle.ftp_client_driver.specs.Side.{client_side}
use Rattle.ftp_client_model.specs.Calls as near
use Rattle.ftp_client_model.specs.Dialogue.{answered}
use Rattle.ftp_client_model.specs.View.{View as Near, Told, client}
use Rattle.ftp_client_model.specs.declared.client.ClientLink.TheVariants as Links
use Rattle.ftp_client_model.specs.declared.client.Ending.TheVariants as Endings
use Rattle.ftp_client_model.specs.declared.client.Replied.TheVariants as Replies
use Rattle.ftp_client_model.specs.declared.client.Standing.TheVariants as Standings
use Rattle.ftp_ports.specs.Asking.{Came, Connected, Reset}
use Rattle.ftp_ports.specs.Actions.{Other, Stand}
use Rattle.ftp_ports.specs.Channel.{with_rest}
use Rattle.ftp_ports.specs.Machine.{Closed, Failed, Gave, Got, Left, Opened, Received, Wrote}
use Rattle.ftp_ports.specs.declared.whole.Rest.TheVariants as Rests
use Rattle.ftp_operation.specs.Answer.{Octets}
use Rattle.ftp_operation.specs.declared.op.Op.{Op}
use Rattle.ftp_operation.specs.declared.op.Op.TheVariants as Ops
use Rattle.ftp_path.proofs.TextLemmas.{path_on_literals}
use Rattle.ftp_reply.specs.Reader.{line_heard}
use Rattle.ftp_server_driver.specs.alone.Side.{server_side}
use Rattle.ftp_server_model.specs.Calls as far
use Rattle.ftp_server_model.specs.Replies.{fixed_reply, reply_octets}
use Rattle.ftp_server_model.specs.View.{Transfer, View as Far}
use Rattle.ftp_server_model.specs.declared.reply.FixedReply.TheVariants as Texts
use Rattle.ftp_server_model.specs.declared.session.ServerLink.{ServerLink}
use Rattle.ftp_server_model.specs.declared.session.ServerLink.TheVariants as Data
use Rattle.ftp_server_model.specs.declared.session.Transfer.TheVariants as Transfers
use Rattle.ftp_server_model.proofs.ReadingLemmas.{reads_stated}
use Rattle.ftp_tree.specs.Map.{Dir, File}
use Rattle.ftp_tree.specs.Tree.{Table, node_at, under}
use Rattle.ftp_tree.proofs.LawLemmas.{under-stands}
use Rattle.laws_drivers.specs.control.Between.{Awaits, Between, Has, Has_lost, Has_not, Is_called}
use Rattle.laws_drivers.specs.control.Example.{example}
use Rattle.laws_drivers.proofs.control.Playing.{ear_after}
use Rattle.ftp_ends.specs.RowWords.{here}
use Rattle.laws_active.specs.Over.{AreOver}
use Rattle.laws_examples.specs.transfers.Example.{HasFile, example_name, example_octets}
use Rattle.laws_examples.proofs.transfers.Moves.{endpoint, far_closes, gets, takes_one, writes}
use Rattle.laws_examples.proofs.transfers.Peeking.{Heeds, far_resets, near_breaks, near_fails, near_resets, one_broken, one_failed}
use Rattle.laws_examples.proofs.transfers.Playing.{can_take, far_in, lies, near_in, none_yet, one_stands, takes_only}
use Rattle.laws_examples.specs.active.Example.{CallIsPeek, call_how, peek_asked}
use Rattle.laws_examples.proofs.transfers.Calling.{far_first, far_logged, quiet, still}
use Rattle.laws_examples.proofs.active.Calling.{Listens, client_first, far_sent, fetching, near_asking, near_first, obeys, starts_so}
use Rattle.laws_examples.proofs.active.Ending.{IsCalled, both_over}
use Rattle.laws_examples.proofs.active.Moves.{far_dials, gives_more, near_accepts, one_more}
use Rattle.laws_examples.proofs.active.Peeking.{far_hears_line}
use Rattle.laws_examples.proofs.active.Playing.{Played, far_says, far_turn, near_is_broken, near_is_told, near_says, near_turn}

-- the operation
abbrev pub peek : Op (List ℕ)
peek = Ops.Peek example_name 1 call_how

-- it wants a port, names it and asks for the file
peek_listens : Listens peek
unfolding near.listening answered line_heard path_on_literals
peek_listens = record { logged = refl; named = refl; asking = refl }

module _ (table : Table) (moments : ℕ → ℕ) where
  -- ---- the server

  -- with this data connection
  abbrev far_with : ServerLink Transfer → Far
  far_with connection = record (far_logged table) { session = record (far_logged table).session { connection = connection }; owed = [] }

  -- it dialled, has the file to give, and has given its first octet
  abbrev far_sending : Far
  far_sending = far_with (Data.Transferring (Transfers.Download example_octets))

  abbrev far_half : Far
  far_half = far_with (Data.Transferring (Transfers.Download (105 ∷ [])))

  -- it heard ABOR, and is to close its data connection; it has none any more
  abbrev far_free : Far
  far_free = record (far_logged table) { session = record (far_logged table).session { connection = Data.Free; closing = true }; owed = [] }

  abbrev far_stopped : Far
  far_stopped = record far_free { owed = reply_octets (fixed_reply Texts.Broken) ++ reply_octets (fixed_reply Texts.AbortDone) }

  abbrev far_done : Far
  far_done = far_with Data.Free

  -- ---- the client

  -- it heard 150, and accepted
  abbrev near_called : Near
  near_called = fetching peek Replies.Begun (Links.Accepting 49152)

  abbrev near_heard : Near
  near_heard = fetching peek Replies.Begun Links.Open

  -- it has its octet, and its data connection broke
  abbrev near_enough : Near
  near_enough = near.receives_octet near_heard 104

  abbrev near_broken : Near
  near_broken = record (still near_enough) { connection = Links.Over Endings.Broken }

  abbrev near_over : Near
  near_over = record client_first { standing = Standings.Entered; job = Told (Octets (104 ∷ [])) }

  -- where both begin
  abbrev Starts : Stand server_side
  Starts = far_in none_yet (far_first table) []

  abbrev begun : Stand client_side
  begun = near_in none_yet (near_first peek) []

  -- actions led there
  abbrev Leads : ℕ → Between → Stand server_side → Stand client_side → Type 0
  Leads listened between server client = Played moments Starts begun peek listened between server client

  module _ (root : node_at table [] ≡ Some Dir) (stamp : ℕ) (file : node_at (under table []) (example_name ∷ []) ≡ Some (File example_octets stamp)) where
    -- 150 is said, the server dials, and the first octet is given and written
    sends : Leads 1 (lies [] (far_sent table).owed [] (104 ∷ []) Is_called Has) (far_in one_more far_half []) (near_in none_yet (still (near_asking peek)) [])
    sends =
        let client = near_in none_yet (still (near_asking peek)) [] in
        let down : List ℕ = (far_sent table).owed in
        let none = lies [] down [] [] (Awaits 49152) Has_not in
        let called = lies [] down [] [] Is_called Has in
        let sent = lies [] down [] (104 ∷ []) Is_called Has in
        let opens = far_says moments Starts begun peek 1 [] [] (Awaits 49152) Has_not [] [] none_yet (far_sent table) client refl
        (obeys table moments peek peek_listens root stamp file) in
        let dialled = far_turn moments Starts begun peek (Other (Opened here (Connected endpoint None None ∷ []) None None Rests.More))
        ((λ before. (refl, λ ports. ports)), λ old new done moment. tt) 1 none called
        (far_in none_yet (quiet (far_sent table)) []) (far_in one_more far_sending []) client (tt, refl)
        (far_dials endpoint (quiet (far_sent table)) far_sending refl refl refl refl) (tt, refl, refl) opens in
        let given = far_turn moments Starts begun peek (Other (Gave 1 (104 ∷ []) Rests.More)) ((λ before. (refl, λ ports. ports)), λ old new done moment. tt) 1
        called called (far_in one_more far_sending []) (far_in (with_rest Rests.More (one_stands (104 ∷ []) [])) far_half []) client (tt, refl)
        (gives_more Rests.More (104 ∷ []) far_sending far_half refl refl refl refl) refl dialled in
        far_turn moments Starts begun peek (Other (Wrote (104 ∷ []))) ((λ before. (refl, λ ports. ports)), λ old new done moment. tt) 1 called sent
        (far_in (with_rest Rests.More (one_stands (104 ∷ []) [])) far_half []) (far_in one_more far_half []) client (tt, refl)
        (writes Rests.More (104 ∷ []) far_half (omega arith)) (refl, refl) given

    -- the client hears 150, accepts, and takes the octet
    peeks : Leads 1 (lies [] [] [] [] Has Has) (far_in one_more far_half []) (near_in (one_stands [] []) near_enough [])
    unfolding near.wants near.data_opened answered line_heard path_on_literals can_take takes_only
    peeks =
        let server = far_in one_more far_half [] in
        let come = lies [] [] [] (104 ∷ []) Has Has in
        let none = lies [] [] [] [] Has Has in
        let told = near_is_told moments Starts begun peek 1 [] (104 ∷ []) Is_called Has [] (far_sent table).owed server none_yet (still (near_asking peek)) refl
        refl sends in
        let accepts = near_turn moments Starts begun peek (Other (Opened here (Came here None None ∷ []) None None Rests.Nothing)) (tt, tt)
        (λ before. (refl, λ ports. ports)) 1 (lies [] [] [] (104 ∷ []) Is_called Has) come server (near_in none_yet near_called [])
        (near_in (one_stands [] []) near_heard []) (refl, refl) (near_accepts here near_called refl refl refl) (refl, refl) told in
        let got = near_turn moments Starts begun peek (Other (Got (104 ∷ []))) (tt, tt) (λ before. (refl, λ ports. ports)) 1 come none server
        (near_in (one_stands [] []) near_heard []) (near_in (one_stands [] (104 ∷ [])) near_heard []) (tt, refl) (gets (104 ∷ []) near_heard refl)
        (refl, refl, refl) accepts in
        near_turn moments Starts begun peek (Other (Received (104 ∷ []) 1)) (tt, tt) (λ before. (refl, λ ports. ports)) 1 none none server
        (near_in (one_stands [] (104 ∷ [])) near_heard []) (near_in (one_stands [] []) near_enough []) (tt, refl) (takes_one 104 [] near_heard refl refl) refl
        got

    -- ABOR is said and heard
    stops : Leads 1 (lies [] [] [] [] Has Has) (far_in one_more far_stopped []) (near_in (one_stands [] []) (still near_enough) [])
    unfolding ear_after
    stops =
        let abor : List ℕ = 65 ∷ 66 ∷ 79 ∷ 82 ∷ 13 ∷ [] in
        let client = near_in (one_stands [] []) (still near_enough) [] in
        let at : Heeds one_more far_half = record { waits = refl; seen = refl; may = refl; none_waits = refl } in
        let says = near_says moments Starts begun peek 1 [] [] Has Has [] [] (far_in one_more far_half []) (one_stands [] []) near_enough peeks in
        far_hears_line moments Starts begun peek 1 [] [] Has Has [] one_more client abor far_half far_stopped (line_of command.Abor) command.Abor at refl
        (refl, refl, (refl, refl, (refl, refl, (refl, refl, (refl, refl, tt))))) refl (λ read reads. reads_stated read command.Abor reads tt tt) refl says

    -- 426 and 226 are said, and the server resets its data connection
    breaks : Leads 1 (lies [] far_stopped.owed [] [] Has Has_lost) (far_in none_yet far_done []) (near_in (one_stands [] []) (still near_enough) [])
    breaks =
        let client = near_in (one_stands [] []) (still near_enough) [] in
        let said = lies [] far_stopped.owed [] [] Has Has in
        let lost = lies [] far_stopped.owed [] [] Has Has_lost in
        let says = far_says moments Starts begun peek 1 [] [] Has Has [] [] one_more far_stopped client refl stops in
        let resets = far_turn moments Starts begun peek (Other (Left (Reset None None))) ((λ before. (refl, λ ports. ports)), λ old new done moment. tt) 1 said
        lost (far_in one_more far_free []) (far_in none_yet far_free []) client (tt, refl) (far_resets far_free refl) (tt, refl) says in
        far_turn moments Starts begun peek (Other Closed) ((λ before. (refl, λ ports. ports)), λ old new done moment. tt) 1 lost lost
        (far_in none_yet far_free []) (far_in none_yet far_done []) client (tt, refl) (far_closes far_free far_done refl refl) refl resets

    -- the client is told of the break, and hears both replies
    hears : Leads 1 (lies [] [] [] [] Has_lost Has_lost) (far_in none_yet far_done []) (near_in one_broken near_over [])
    unfolding near.wants near.data_opened near.data_fault answered line_heard path_on_literals can_take takes_only
    hears =
        let server = far_in none_yet far_done [] in
        let down : List ℕ = far_stopped.owed in
        let before = lies [] down [] [] Has Has_lost in
        let after = lies [] down [] [] Has_lost Has_lost in
        let n : Near = still near_enough in
        let fails = near_turn moments Starts begun peek (Other Failed) (tt, tt) (λ before. (refl, λ ports. ports)) 1 before before server
        (near_in (one_stands [] []) n []) (near_in one_failed n []) (tt, refl) (near_fails n) refl breaks in
        let told = near_is_broken moments Starts begun peek 1 before after server (near_in one_failed n []) (near_in one_broken near_broken [])
        ((refl, refl, refl), refl) (near_breaks n) refl (refl, refl) fails in
        near_is_told moments Starts begun peek 1 [] [] Has_lost Has_lost [] down server one_broken near_broken refl refl told

    -- so it was answered
    is_called : IsCalled (example table) moments peek (Octets (104 ∷ []))
    unfolding near.starts near.data_opened answered line_heard path_on_literals
    is_called = record {
      first = far_first table;
      client_first = client_first;
      begun = near_first peek;
      served = far_done;
      heard = near_over;
      channel = one_broken;
      asked = Reset None None;
      hold = Has_lost;
      there = lies [] [] [] [] Has_lost Has_lost;
      begins = starts_so table moments peek peek_listens;
      does = (((refl, (((λ calm. refl), (λ moved. absurd (moved refl))), inl refl)), refl, tt), refl);
      is = omega arith;
      some = refl;
      free = refl;
      leaves = near_resets (near.reports near_over);
      may = ((refl, refl), refl);
      can = (tt, refl);
      played = hears;
    }

    -- and both are over
    is_over : (server : Stand server_side) × AreOver (example table) moments peek_asked server
    unfolding near.starts near.data_opened far.control_end answered line_heard path_on_literals
    is_over = both_over (example table) (far_first table) peek (Octets (104 ∷ [])) client_first (near_first peek) far_done near_over moments one_broken
        (Reset None None) Has_lost (lies [] [] [] [] Has_lost Has_lost) (starts_so table moments peek peek_listens)
        (((refl, (((λ calm. refl), (λ moved. absurd (moved refl))), inl refl)), refl, tt), refl) (omega arith) refl refl
        (near_resets (near.reports near_over)) ((refl, refl), refl) (tt, refl) hears
        refl (record { wants = refl; running = refl; none_waits = refl }) refl

-- the file stands where the login sees it
pub peek_is_answered : (table : Table) (stamp : ℕ) (moments : ℕ → ℕ) → HasFile table stamp → IsCalled (example table) moments peek (Octets (104 ∷ []))
peek_is_answered table stamp moments has = is_called table moments has.root stamp (under-stands table [] (example_name ∷ []) ∙ has.file)

pub call_is_peek : CallIsPeek
call_is_peek table stamp moments has = is_over table moments has.root stamp (under-stands table [] (example_name ∷ []) ∙ has.file)
