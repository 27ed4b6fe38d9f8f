-- The example of an upload, action by action.
use Rattle.std.proofs.Common.{◌≡◌, inl, ℕ, true, false, not, if◌then◌else◌, List, [], ◌∷◌, Option, None, Some, is_some, nat_le, le-leb, leb-true, refl, sym, ap, ap₂, ◌∙◌, arith}
use Rattle.ftp_command.specs.Line.{line_of}
use Rattle.ftp_command.specs.declared.command.Command.TheVariants as command
use Rattle.ftp_client_driver.specs.Side.{client_side}
use Rattle.ftp_client_model.specs.Calls as near
use Rattle.ftp_client_model.specs.Dialogue.{answered}
use Rattle.ftp_client_model.specs.View.{View as Near, Sending, Told, Transferring, client}
use Rattle.ftp_client_model.specs.declared.client.Abort.TheVariants as Aborts
use Rattle.ftp_client_model.specs.declared.client.ClientLink.TheVariants as Links
use Rattle.ftp_client_model.specs.declared.client.Ending.TheVariants as Endings
use Rattle.ftp_client_model.specs.declared.client.Replied.{Replied}
use Rattle.ftp_client_model.specs.declared.client.Replied.TheVariants as Replies
use Rattle.ftp_client_model.specs.declared.client.Standing.TheVariants as Standings
use Rattle.ftp_ports.specs.Asking.{Ended as EndedBy, Shut}
use Rattle.ftp_ports.specs.Actions.{Other, Stand}
use Rattle.ftp_ports.specs.Machine.{Closed, Gave, Got, Left, Received, Wrote}
use Rattle.ftp_ports.specs.declared.whole.Rest.TheVariants as Rests
use Rattle.ftp_nvt.specs.Lines.{written_line}
use Rattle.ftp_operation.specs.Answer.{Done}
use Rattle.ftp_direct.specs.declared.refusal.Refusal.{Refusal}
use Rattle.ftp_operation.specs.declared.op.Op.{Op}
use Rattle.ftp_operation.specs.declared.op.Op.TheVariants as Ops
use Rattle.ftp_path.specs.Path.{fits, resolved, text_of}
use Rattle.ftp_path.proofs.TextLemmas.{path_on_literals}
use Rattle.ftp_reply.specs.Reader.{line_heard}
use Rattle.ftp_reply.specs.Values.{extended_value}
use Rattle.ftp_server_driver.specs.alone.Side.{server_side}
use Rattle.ftp_settings.specs.Representation.{defaults}
use Rattle.ftp_server_model.specs.Calls as far
use Rattle.ftp_server_model.specs.Endpoint.{disconnected}
use Rattle.ftp_server_model.specs.Machine.{concluded, end_refusal, ends_by, is_over, later, obeyed}
use Rattle.ftp_server_model.specs.Replies.{fixed_reply, reply_octets}
use Rattle.ftp_server_model.specs.View.{View as Far, Transfer}
use Rattle.ftp_server_model.specs.declared.reply.FixedReply.TheVariants as Texts
use Rattle.ftp_server_model.specs.declared.session.Keep.TheVariants as Keeps
use Rattle.ftp_server_model.specs.declared.session.ServerLink.{ServerLink}
use Rattle.ftp_server_model.specs.declared.session.ServerLink.TheVariants as Data
use Rattle.ftp_server_model.specs.declared.session.Transfer.TheVariants as Transfers
use Rattle.ftp_server_model.proofs.ReadingLemmas.{reads_stated}
use Rattle.ftp_tree.specs.Map.{Dir, File}
use Rattle.ftp_tree.specs.Tree.{Table, file_limit, node_at, octets_at, or_else, room_at, room_refusal, under, whenever}
use Rattle.ftp_tree.specs.declared.fault.TreeFault.TheVariants as Faults
use Rattle.ftp_tree.proofs.PartLemmas.{under_all}
use Rattle.ftp_wire.specs.Decoder.{Decoder, decoder_of, no_octets}
use Rattle.ftp_tree.proofs.LawLemmas.{under-stands}
use Rattle.laws_drivers.specs.control.Between.{Between, Has, Has_ended}
use Rattle.laws_drivers.specs.control.Example.{example}
use Rattle.laws_drivers.proofs.control.Playing.{Attends, ear_after, is_silent, no_events}
use Rattle.laws_transfers.specs.Over.{AreOver}
use Rattle.laws_examples.specs.transfers.Example.{HasFile, HasRoom, PutIsOver, example_how, example_name, example_octets, put_asked, put_octets}
use Rattle.laws_examples.proofs.transfers.Calling.{Dials, client_first, far_first, far_ready, near_first, quiet, reaches, starts_so, still}
use Rattle.laws_examples.proofs.transfers.Ending.{IsAnswered, both_over, lies_over}
use Rattle.laws_examples.proofs.transfers.Moves.{ends_then, far_ends, far_gets, far_goes, far_takes, near_ends, near_gives, near_is_closed, near_shuts, near_writes, one_over}
use Rattle.laws_examples.proofs.transfers.Playing.{Played, can_take, far_in, far_is_told, far_obeys, far_says, far_turn, lies, near_in, near_is_told, near_turn, none_yet, one_stands, takes_only, transferring}

-- the operation
abbrev put : Op (List ℕ)
put = Ops.Put example_name put_octets example_how

-- it dials where it is told
put_dials : Dials put
unfolding near.data_opened near.wants answered line_heard extended_value path_on_literals
put_dials = record { logged = refl; called = refl; rest = refl }

module _ (table : Table) (moments : ℕ → ℕ) where
  -- ---- the server

  -- it is to take octets of the file, has taken one, was told the moment, and has put the file in the map
  abbrev far_with : ServerLink Transfer → Far
  far_with connection = record (far_ready table) { session = record (far_ready table).session { connection = connection } }

  abbrev upload : Decoder → ServerLink Transfer
  upload decoder = Data.Transferring (Transfers.Upload (example_name ∷ []) (Keeps.First 0) decoder)

  abbrev far_up : Far
  far_up = record (far_with (upload (no_octets defaults))) { owed = reply_octets (fixed_reply Texts.Opens) }

  abbrev one_came : Decoder
  one_came = decoder_of defaults put_octets

  abbrev far_taken : Far
  far_taken = far_with (upload one_came)

  abbrev far_timed : ℕ → Far
  far_timed moment = record far_taken { context = record far_taken.context { moment = moment } }

  abbrev far_ended : Option Refusal → ℕ → Far
  far_ended why moment =
      concluded (ends_by why moment (example_name ∷ []) (Keeps.First 0) put_octets Texts.Complete (disconnected far_taken.session)) (far_timed moment)

  abbrev far_put : ℕ → Far
  far_put moment = far_ended None moment

  -- ---- the client

  -- the transfer, once so much of it was answered, and these octets are left
  abbrev putting : Replied → List ℕ → Near
  putting replied left = record client_first {
    standing = Standings.Entered;
    job = Transferring put (record { replied = replied; abort = Aborts.Unsent; flow = Sending left None });
    connection = Links.Open;
  }

  abbrev near_open : Near
  near_open = record (putting Replies.Nothing put_octets) { owed = written_line (line_of (command.Stor example_name)) }

  abbrev near_begun : Near
  near_begun = putting Replies.Begun put_octets

  -- it gave all, and closed
  abbrev near_closed : Near
  near_closed = record (putting Replies.Begun []) { connection = Links.Over Endings.Ours }

  abbrev near_given : Near
  near_given = record near_closed { closing = true }

  abbrev near_over : Near
  near_over = record client_first { standing = Standings.Entered; job = Told Done }

  -- where both begin
  abbrev Starts : Stand server_side
  Starts = far_in none_yet (far_first table) []

  abbrev begun : Stand client_side
  begun = near_in none_yet (near_first put) []

  -- actions led there
  abbrev Leads : ℕ → Between → Stand server_side → Stand client_side → Type 0
  Leads listened between server client = Played moments Starts begun put listened between server client

  module _ (root : node_at table [] ≡ Some Dir) (stamp : ℕ) (file : node_at (under table []) (example_name ∷ []) ≡ Some (File example_octets stamp))
      (room : nat_le 1 (room_at (under table []) (example_name ∷ [])) ≡ true) where
    -- STOR is heard
    obeys : Leads 1 (lies [] [] [] [] Has Has) (far_in (one_stands [] []) far_up []) (near_in (one_stands [] []) (still near_open) [])
    unfolding near.starts near.data_opened answered line_heard extended_value path_on_literals obeyed fits text_of resolved octets_at room_refusal is_silent
        ear_after no_events
    obeys =
        let stor : List ℕ = 83 ∷ 84 ∷ 79 ∷ 82 ∷ 32 ∷ 102 ∷ 13 ∷ [] in
        let at : Attends (far_ready table) = record { wants = refl; running = refl; none_waits = refl } in
        far_obeys moments Starts begun put 1 [] [] Has Has [] stor (one_stands [] []) (far_ready table) far_up (line_of (command.Stor example_name))
        (command.Stor example_name)
        (near_in (one_stands [] []) (still near_open) []) at refl refl refl refl
        (λ read reads. reads_stated read (command.Stor example_name) reads tt refl) (rw file refl) (reaches transferring tt table moments put put_dials root)

    -- 150 is said and heard, the client gives and writes its octet, and ends the data connection
    sends : Leads 1 (lies [] [] put_octets [] Has_ended Has) (far_in (one_stands [] []) (quiet far_up) []) (near_in none_yet near_closed [])
    unfolding near.starts near.wants near.data_opened near.gives_data answered line_heard extended_value path_on_literals can_take takes_only
    sends =
        let server = far_in (one_stands [] []) (quiet far_up) [] in
        let both = lies [] [] [] [] Has Has in
        let sent = lies [] [] put_octets [] Has Has in
        let over = lies [] [] put_octets [] Has_ended Has in
        let opens = far_says moments Starts begun put 1 [] [] Has Has [] [] (one_stands [] []) far_up (near_in (one_stands [] []) (still near_open) []) refl
        obeys in
        let told = near_is_told moments Starts begun put 1 [] [] Has Has [] far_up.owed server (one_stands [] []) (still near_open) refl refl opens in
        let given = near_turn moments Starts begun put (Other (Gave 1 put_octets Rests.Nothing)) (tt, tt) 1 both both server
        (near_in (one_stands [] []) near_begun []) (near_in (one_stands put_octets []) near_given []) (tt, refl)
        (near_gives put_octets near_begun near_given refl refl refl refl) refl told in
        let written = near_turn moments Starts begun put (Other (Wrote put_octets)) (tt, tt) 1 both sent server
        (near_in (one_stands put_octets []) near_given []) (near_in (one_stands [] []) near_given []) (tt, refl)
        (near_writes put_octets near_given (omega arith)) (refl, refl) given in
        let left = near_turn moments Starts begun put (Other (Left (EndedBy None None))) (tt, tt) 1 sent over server
        (near_in (one_stands [] []) near_given []) (near_in none_yet near_given []) (tt, refl) (near_ends near_given refl refl) (refl, refl) written in
        near_turn moments Starts begun put (Other Closed) (tt, tt) 1 over over server (near_in none_yet near_given []) (near_in none_yet near_closed [])
        (tt, refl)
        (near_is_closed near_given refl) refl left

    -- what there is room for is within the limit of a file
    in_limit : nat_le 1 (file_limit (under table [])) ≡ true
    unfolding room_at
    in_limit = le-leb 1 (file_limit (under table [])) (omega (arith, leb-true 1 (room_at (under table []) (example_name ∷ [])) room))

    -- so the octet is kept
    is_kept : is_over (example_name ∷ []) (Keeps.First 0) one_came (far_ready table).session ≡ false
    is_kept = ap₂ (λ a b. is_some (or_else (whenever (not a) Faults.TooBig) (whenever (not b) Faults.Full))) in_limit room

    is_taken : far_taken ≡ far.receives_octet (quiet far_up) 104
    unfolding far.receives_octet
    is_taken = sym (ap (λ over. far_with (if over then Data.Transferring Transfers.OverLimit else upload one_came)) is_kept)

    -- and the file is put
    is_well : end_refusal (example_name ∷ []) (Keeps.First 0) put_octets (disconnected far_taken.session) ≡ None
    unfolding fits text_of room_refusal octets_at
    is_well = rw file (rw in_limit (rw room refl))

    is_put : (moment : ℕ) → far_put moment ≡ later (far.end_step (far_timed moment))
    is_put moment = sym (ap (λ why. far_ended why moment) is_well)

    -- the server takes the octet and is told its end, says 226, and leaves
    takes : Leads 1 (lies [] (far_put (moments 0)).owed [] [] Has_ended Has_ended)
        (far_in none_yet (quiet (far_put (moments 0))) []) (near_in none_yet near_closed [])
    takes =
        let client = near_in none_yet near_closed [] in
        let some = lies [] [] put_octets [] Has_ended Has in
        let none = lies [] [] [] [] Has_ended Has in
        let done : Far = far_put (moments 0) in
        let said = lies [] done.owed [] [] Has_ended Has in
        let got = far_turn moments Starts begun put (Other (Got put_octets)) ((λ before. (refl, λ ports. ports)), λ old new done moment. tt) 1 some none
        (far_in (one_stands [] []) (quiet far_up) []) (far_in (one_stands [] put_octets) (quiet far_up) []) client (tt, refl)
        (far_gets put_octets (quiet far_up) refl) (refl, refl, refl) sends in
        let taken = far_turn moments Starts begun put (Other (Received put_octets 1)) ((λ before. (refl, λ ports. ports)), λ old new done moment. tt) 1 none
        none (far_in (one_stands [] put_octets) (quiet far_up) []) (far_in (one_stands [] []) far_taken []) client (tt, refl)
        (far_takes 104 (quiet far_up) far_taken refl refl is_taken) refl got in
        let ended = far_is_told moments Starts begun put 1 none none (far_in (one_stands [] []) far_taken []) (far_in one_over done []) client (tt, refl)
        (far_ends (moments 0) far_taken (far_timed (moments 0)) done refl refl (is_put (moments 0)))
        (ends_then (moments 0) far_taken (far_timed (moments 0)) done refl refl (is_put (moments 0))) (refl, refl, refl) taken in
        let tells = far_says moments Starts begun put 1 [] [] Has_ended Has [] [] one_over done client refl ended in
        far_turn moments Starts begun put (Other (Left (EndedBy None None))) ((λ before. (refl, λ ports. ports)), λ old new done moment. tt) 1 said
        (lies [] done.owed [] [] Has_ended Has_ended) (far_in one_over (quiet done) []) (far_in none_yet (quiet done) []) client (tt, refl)
        (far_goes (quiet done) refl) (refl, refl) tells

    -- the client hears 226
    hears : Leads 1 (lies [] [] [] [] Has_ended Has_ended) (far_in none_yet (quiet (far_put (moments 0))) []) (near_in none_yet near_over [])
    unfolding near.starts near.wants near.data_opened answered line_heard extended_value path_on_literals can_take takes_only
    hears =
        near_is_told moments Starts begun put 1 [] [] Has_ended Has_ended [] (reply_octets (fixed_reply Texts.Complete))
        (far_in none_yet (quiet (far_put (moments 0))) []) none_yet near_closed refl refl takes

    -- so it was answered
    is_answered : IsAnswered (example table) moments put Done
    unfolding near.starts near.data_opened answered line_heard extended_value path_on_literals
    is_answered = record {
      first = far_first table;
      client_first = client_first;
      begun = near_first put;
      served = quiet (far_put (moments 0));
      heard = near_over;
      channel = none_yet;
      asked = Shut;
      hold = Has_ended;
      there = lies_over Has_ended [] [];
      begins = starts_so table moments put put_dials;
      does = (((refl, (((λ calm. refl), (λ moved. absurd (moved refl))), inl refl)), refl, tt), refl);
      is = (tt, refl);
      some = refl;
      free = refl;
      leaves = near_shuts (near.reports near_over) refl;
      may = (tt, refl);
      can = refl;
      played = hears;
    }

    -- and both are over
    is_over_so : (server : Stand server_side) × AreOver (example table) moments put_asked server
    unfolding near.starts near.data_opened far.control_end answered line_heard extended_value path_on_literals
    is_over_so = both_over (example table) (far_first table) put Done client_first (near_first put) (quiet (far_put (moments 0))) near_over moments
        none_yet Shut Has_ended (lies_over Has_ended [] []) (starts_so table moments put put_dials)
        (((refl, (((λ calm. refl), (λ moved. absurd (moved refl))), inl refl)), refl, tt), refl) (tt, refl) refl refl
        (near_shuts (near.reports near_over) refl) (tt, refl) refl hears refl (record { wants = refl; running = refl; none_waits = refl }) refl

-- the file stands where the login sees it
pub put_is_answered : (table : Table) (stamp : ℕ) (moments : ℕ → ℕ) → HasFile table stamp → HasRoom table
    → IsAnswered (example table) moments put Done
put_is_answered table stamp moments has room =
    is_answered table moments has.root stamp (under-stands table [] (example_name ∷ []) ∙ has.file)
    (ap (λ t. nat_le 1 (room_at t (example_name ∷ []))) (under_all table) ∙ room)

pub put_is_over : PutIsOver
put_is_over table stamp moments has room =
    is_over_so table moments has.root stamp (under-stands table [] (example_name ∷ []) ∙ has.file)
    (ap (λ t. nat_le 1 (room_at t (example_name ∷ []))) (under_all table) ∙ room)
