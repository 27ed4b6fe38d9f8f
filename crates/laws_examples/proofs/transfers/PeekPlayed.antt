-- The example of a Peek, action by action: it says ABOR after the octet that it asked for.
use Rattle.std.proofs.Common.{◌≡◌, inl, ℕ, true, List, [], ◌∷◌, ◌++◌, None, Some, refl, ◌∙◌, arith}
use Rattle.ftp_command.specs.Line.{line_of}
use Rattle.ftp_command.specs.declared.command.Command.TheVariants as command
use Rattle.ftp_client_driver.specs.Side.{client_side}
use Rattle.ftp_client_model.specs.Calls as near
use Rattle.ftp_client_model.specs.Dialogue.{answered}
use Rattle.ftp_client_model.specs.Octets.{download_flow}
use Rattle.ftp_client_model.specs.View.{View as Near, Told, Transferring, client}
use Rattle.ftp_client_model.specs.declared.client.Abort.TheVariants as Aborts
use Rattle.ftp_client_model.specs.declared.client.ClientLink.TheVariants as Links
use Rattle.ftp_client_model.specs.declared.client.Ending.TheVariants as Endings
use Rattle.ftp_client_model.specs.declared.client.Replied.{Replied}
use Rattle.ftp_client_model.specs.declared.client.Replied.TheVariants as Replies
use Rattle.ftp_client_model.specs.declared.client.Standing.TheVariants as Standings
use Rattle.ftp_ports.specs.Asking.{Reset}
use Rattle.ftp_ports.specs.Actions.{Other, Stand}
use Rattle.ftp_ports.specs.Channel.{with_rest}
use Rattle.ftp_ports.specs.Machine.{Closed, Failed, Gave, Got, Left, Received, Wrote}
use Rattle.ftp_ports.specs.declared.whole.Rest.TheVariants as Rests
use Rattle.ftp_nvt.specs.Lines.{written_line}
use Rattle.ftp_operation.specs.Answer.{Octets}
use Rattle.ftp_operation.specs.declared.op.Op.{Op}
use Rattle.ftp_operation.specs.declared.op.Op.TheVariants as Ops
use Rattle.ftp_path.specs.Path.{fits, resolved, text_of}
use Rattle.ftp_path.proofs.TextLemmas.{path_on_literals}
use Rattle.ftp_reply.specs.Reader.{line_heard}
use Rattle.ftp_reply.specs.Values.{extended_value}
use Rattle.ftp_server_driver.specs.alone.Side.{server_side}
use Rattle.ftp_settings.specs.Representation.{defaults}
use Rattle.ftp_server_model.specs.Calls as far
use Rattle.ftp_server_model.specs.Machine.{obeyed}
use Rattle.ftp_server_model.specs.Replies.{fixed_reply, reply_octets}
use Rattle.ftp_server_model.specs.View.{Transfer, View as Far}
use Rattle.ftp_server_model.specs.declared.reply.FixedReply.TheVariants as Texts
use Rattle.ftp_server_model.specs.declared.session.ServerLink.{ServerLink}
use Rattle.ftp_server_model.specs.declared.session.ServerLink.TheVariants as Data
use Rattle.ftp_server_model.specs.declared.session.Transfer.TheVariants as Transfers
use Rattle.ftp_server_model.proofs.ReadingLemmas.{reads_stated}
use Rattle.ftp_tree.specs.Map.{Dir, File}
use Rattle.ftp_tree.specs.Tree.{Table, node_at, octets_at, under}
use Rattle.ftp_tree.proofs.LawLemmas.{under-stands}
use Rattle.laws_drivers.specs.control.Between.{Between, Has, Has_lost, server_actions}
use Rattle.laws_drivers.specs.control.Example.{example}
use Rattle.laws_drivers.proofs.control.Playing.{Attends, ear_after, is_silent, no_events}
use Rattle.laws_transfers.specs.Over.{AreOver}
use Rattle.laws_transfers.specs.Quitting.{QuitAfterAll}
use Rattle.laws_examples.specs.transfers.Example.{HasFile, PeekHasQuit, PeekIsOver, example_how, example_name, example_octets, peek_asked}
use Rattle.laws_examples.proofs.transfers.Calling.{Dials, client_first, far_bye, far_done, far_first, far_ready, near_first, quiet, reaches, starts_so, still}
use Rattle.laws_examples.proofs.transfers.Ending.{IsAnswered, both_over, both_quit, quits}
use Rattle.laws_examples.proofs.transfers.Moves.{far_closes, gets, gives, takes_one, writes}
use Rattle.laws_examples.proofs.transfers.Peeking.{Heeds, far_hears_line, far_resets, more_stands, near_breaks, near_fails, near_resets, one_broken, one_failed}
use Rattle.laws_examples.proofs.transfers.Playing.{Played, can_take, far_in, far_obeys, far_says, far_turn, lies, near_in, near_is_broken, near_is_told, near_says, near_turn, none_yet, one_stands, takes_only, transferring}

-- the operation
abbrev peek : Op (List ℕ)
peek = Ops.Peek example_name 1 example_how

-- it dials where it is told
peek_dials : Dials peek
unfolding near.data_opened near.wants answered line_heard extended_value path_on_literals
peek_dials = record { logged = refl; called = refl; rest = refl }

module _ (table : Table) (moments : ℕ → ℕ) where
  -- ---- the server

  -- with this data connection
  abbrev far_with : ServerLink Transfer → Far
  far_with connection = record (far_ready table) { session = record (far_ready table).session { connection = connection } }

  -- it has the file to give, and has given its first octet
  abbrev far_sent : Far
  far_sent = record (far_with (Data.Transferring (Transfers.Download example_octets))) { owed = reply_octets (fixed_reply Texts.Opens) }

  abbrev far_half : Far
  far_half = far_with (Data.Transferring (Transfers.Download (105 ∷ [])))

  -- it heard ABOR, and is to close its data connection
  abbrev far_free : Far
  far_free = record (far_ready table) { session = record (far_ready table).session { connection = Data.Free; closing = true } }

  abbrev far_stopped : Far
  far_stopped = record far_free { owed = reply_octets (fixed_reply Texts.Broken) ++ reply_octets (fixed_reply Texts.AbortDone) }

  -- ---- the client

  -- the transfer, once so much of it was answered
  abbrev peeking : Replied → Near
  peeking replied = record client_first {
    standing = Standings.Entered;
    job = Transferring peek (record { replied = replied; abort = Aborts.Unsent; flow = download_flow defaults });
    connection = Links.Open;
  }

  abbrev near_open : Near
  near_open = record (peeking Replies.Nothing) { owed = written_line (line_of (command.Retr example_name)) }

  -- it has its octet, and its data connection broke
  abbrev near_enough : Near
  near_enough = near.receives_octet (peeking Replies.Begun) 104

  abbrev near_broken : Near
  near_broken = record (still near_enough) { connection = Links.Over Endings.Broken }

  abbrev near_over : Near
  near_over = record client_first { standing = Standings.Entered; job = Told (Octets (104 ∷ [])) }

  -- where both begin
  abbrev Starts : Stand server_side
  Starts = far_in none_yet (far_first table) []

  abbrev begun : Stand client_side
  begun = near_in none_yet (near_first peek) []

  -- actions led there
  abbrev Leads : ℕ → Between → Stand server_side → Stand client_side → Type 0
  Leads listened between server client = Played moments Starts begun peek listened between server client

  module _ (root : node_at table [] ≡ Some Dir) (stamp : ℕ) (file : node_at (under table []) (example_name ∷ []) ≡ Some (File example_octets stamp)) where
    -- RETR is heard
    obeys : Leads 1 (lies [] [] [] [] Has Has) (far_in (one_stands [] []) far_sent []) (near_in (one_stands [] []) (still near_open) [])
    unfolding near.starts near.data_opened answered line_heard extended_value path_on_literals obeyed fits text_of resolved octets_at is_silent
        ear_after no_events
    obeys =
        let retr : List ℕ = 82 ∷ 69 ∷ 84 ∷ 82 ∷ 32 ∷ 102 ∷ 13 ∷ [] in
        let at : Attends (far_ready table) = record { wants = refl; running = refl; none_waits = refl } in
        far_obeys moments Starts begun peek 1 [] [] Has Has [] retr (one_stands [] []) (far_ready table) far_sent (line_of (command.Retr example_name))
        (command.Retr example_name)
        (near_in (one_stands [] []) (still near_open) []) at refl refl refl refl
        (λ read reads. reads_stated read (command.Retr example_name) reads tt refl) (rw file refl) (reaches transferring tt table moments peek peek_dials root)

    -- 150 is said, the first octet is given and written, and the client hears 150 and takes the octet
    peeks : Leads 1 (lies [] [] [] [] Has Has) (far_in more_stands far_half []) (near_in (one_stands [] []) near_enough [])
    unfolding near.wants near.data_opened answered line_heard extended_value path_on_literals can_take takes_only
    peeks =
        let client = near_in (one_stands [] []) (still near_open) [] in
        let server = far_in more_stands far_half [] in
        let down : List ℕ = far_sent.owed in
        let both = lies [] down [] [] Has Has in
        let sent = lies [] down [] (104 ∷ []) Has Has in
        let come = lies [] [] [] (104 ∷ []) Has Has in
        let none = lies [] [] [] [] Has Has in
        let taking : Near = peeking Replies.Begun in
        let opens = far_says moments Starts begun peek 1 [] [] Has Has [] [] (one_stands [] []) far_sent client refl obeys in
        let given = far_turn moments Starts begun peek (Other (Gave 1 (104 ∷ []) Rests.More)) ((λ before. (refl, λ ports. ports)), λ old new done moment. tt) 1
        both both (far_in (one_stands [] []) (quiet far_sent) []) (far_in (with_rest Rests.More (one_stands (104 ∷ []) [])) far_half []) client (tt, refl)
        (gives Rests.More (104 ∷ []) (quiet far_sent) far_half refl refl refl refl) refl opens in
        let written = far_turn moments Starts begun peek (Other (Wrote (104 ∷ []))) ((λ before. (refl, λ ports. ports)), λ old new done moment. tt) 1 both sent
        (far_in (with_rest Rests.More (one_stands (104 ∷ []) [])) far_half []) server client (tt, refl)
        (writes Rests.More (104 ∷ []) far_half (omega arith)) (refl, refl) given in
        let told = near_is_told moments Starts begun peek 1 [] (104 ∷ []) Has Has [] down server (one_stands [] []) (still near_open) refl refl written in
        let got = near_turn moments Starts begun peek (Other (Got (104 ∷ []))) (tt, tt) 1 come none server (near_in (one_stands [] []) taking [])
        (near_in (one_stands [] (104 ∷ [])) taking []) (tt, refl) (gets (104 ∷ []) taking refl) (refl, refl, refl) told in
        near_turn moments Starts begun peek (Other (Received (104 ∷ []) 1)) (tt, tt) 1 none none server (near_in (one_stands [] (104 ∷ [])) taking [])
        (near_in (one_stands [] []) near_enough []) (tt, refl) (takes_one 104 [] taking refl refl) refl got

    -- ABOR is said and heard
    stops : Leads 1 (lies [] [] [] [] Has Has) (far_in more_stands far_stopped []) (near_in (one_stands [] []) (still near_enough) [])
    unfolding ear_after
    stops =
        let abor : List ℕ = 65 ∷ 66 ∷ 79 ∷ 82 ∷ 13 ∷ [] in
        let client = near_in (one_stands [] []) (still near_enough) [] in
        let at : Heeds more_stands far_half = record { waits = refl; seen = refl; may = refl; none_waits = refl } in
        let says = near_says moments Starts begun peek 1 [] [] Has Has [] [] (far_in more_stands far_half []) (one_stands [] []) near_enough peeks in
        far_hears_line moments Starts begun peek 1 [] [] Has Has [] more_stands client abor far_half far_stopped (line_of command.Abor) command.Abor at refl
        (refl, refl, (refl, refl, (refl, refl, (refl, refl, (refl, refl, tt))))) refl (λ read reads. reads_stated read command.Abor reads tt tt) refl says

    -- 426 and 226 are said, and the server resets its data connection
    breaks : Leads 1 (lies [] far_stopped.owed [] [] Has Has_lost) (far_in none_yet (far_done table) []) (near_in (one_stands [] []) (still near_enough) [])
    breaks =
        let client = near_in (one_stands [] []) (still near_enough) [] in
        let said = lies [] far_stopped.owed [] [] Has Has in
        let lost = lies [] far_stopped.owed [] [] Has Has_lost in
        let says = far_says moments Starts begun peek 1 [] [] Has Has [] [] more_stands far_stopped client refl stops in
        let resets = far_turn moments Starts begun peek (Other (Left (Reset None None))) ((λ before. (refl, λ ports. ports)), λ old new done moment. tt) 1 said
        lost (far_in more_stands far_free []) (far_in none_yet far_free []) client (tt, refl)
        (far_resets far_free refl) (tt, refl) says in
        far_turn moments Starts begun peek (Other Closed) ((λ before. (refl, λ ports. ports)), λ old new done moment. tt) 1 lost lost
        (far_in none_yet far_free []) (far_in none_yet (far_done table) []) client (tt, refl)
        (far_closes far_free (far_done table) refl refl) refl resets

    -- the client is told of the break, and hears both replies
    hears : Leads 1 (lies [] [] [] [] Has_lost Has_lost) (far_in none_yet (far_done table) []) (near_in one_broken near_over [])
    unfolding near.wants near.data_opened near.data_fault answered line_heard extended_value path_on_literals can_take takes_only
    hears =
        let server = far_in none_yet (far_done table) [] in
        let down : List ℕ = far_stopped.owed in
        let before = lies [] down [] [] Has Has_lost in
        let after = lies [] down [] [] Has_lost Has_lost in
        let n : Near = still near_enough in
        let fails = near_turn moments Starts begun peek (Other Failed) (tt, tt) 1 before before server (near_in (one_stands [] []) n [])
        (near_in one_failed n []) (tt, refl) (near_fails n) refl breaks in
        let told = near_is_broken moments Starts begun peek 1 before after server (near_in one_failed n []) (near_in one_broken near_broken [])
        ((refl, refl, refl), refl) (near_breaks n) refl (refl, refl) fails in
        near_is_told moments Starts begun peek 1 [] [] Has_lost Has_lost [] down server one_broken near_broken refl refl told

    -- so it was answered
    is_answered : IsAnswered (example table) moments peek (Octets (104 ∷ []))
    unfolding near.starts near.data_opened answered line_heard extended_value path_on_literals
    is_answered = record {
      first = far_first table;
      client_first = client_first;
      begun = near_first peek;
      served = far_done table;
      heard = near_over;
      channel = one_broken;
      asked = Reset None None;
      hold = Has_lost;
      there = lies [] [] [] [] Has_lost Has_lost;
      begins = starts_so table moments peek peek_dials;
      does = (((refl, (((λ calm. refl), (λ moved. absurd (moved refl))), inl refl)), refl, tt), refl);
      is = (omega arith, refl);
      some = refl;
      free = refl;
      leaves = near_resets (near.reports near_over);
      may = ((refl, refl), refl);
      can = (tt, refl);
      played = hears;
    }

    -- and both are over
    is_over : (server : Stand server_side) × AreOver (example table) moments peek_asked server
    unfolding near.starts near.data_opened far.control_end answered line_heard extended_value path_on_literals
    is_over = both_over (example table) (far_first table) peek (Octets (104 ∷ [])) client_first (near_first peek) (far_done table) near_over moments one_broken
        (Reset None None) Has_lost (lies [] [] [] [] Has_lost Has_lost) (starts_so table moments peek peek_dials)
        (((refl, (((λ calm. refl), (λ moved. absurd (moved refl))), inl refl)), refl, tt), refl) (omega arith, refl) refl refl
        (near_resets (near.reports near_over)) ((refl, refl), refl) (tt, refl) hears
        refl (record { wants = refl; running = refl; none_waits = refl }) refl

    -- or QUIT was heard
    has_quit : (server : Stand server_side) × QuitAfterAll (example table) moments peek_asked server
    unfolding near.starts near.data_opened obeyed answered line_heard extended_value path_on_literals
    has_quit = both_quit (example table) (far_first table) peek (Octets (104 ∷ [])) client_first (near_first peek) (far_done table) near_over moments one_broken
        (Reset None None) Has_lost (lies [] [] [] [] Has_lost Has_lost) (starts_so table moments peek peek_dials)
        (((refl, (((λ calm. refl), (λ moved. absurd (moved refl))), inl refl)), refl, tt), refl) (omega arith, refl) refl refl
        (near_resets (near.reports near_over)) ((refl, refl), refl) (tt, refl) hears
        (quiet (far_bye table)) (far_bye table).owed refl refl (quits table Starts (server_actions hears.turns) Has_lost hears.far_led)

-- the file stands where the login sees it
pub peek_is_answered : (table : Table) (stamp : ℕ) (moments : ℕ → ℕ) → HasFile table stamp
    → IsAnswered (example table) moments peek (Octets (104 ∷ []))
peek_is_answered table stamp moments has = is_answered table moments has.root stamp (under-stands table [] (example_name ∷ []) ∙ has.file)

pub peek_is_over : PeekIsOver
peek_is_over table stamp moments has = is_over table moments has.root stamp (under-stands table [] (example_name ∷ []) ∙ has.file)

pub peek_has_quit : PeekHasQuit
peek_has_quit table stamp moments has = has_quit table moments has.root stamp (under-stands table [] (example_name ∷ []) ∙ has.file)
