-- The sessions in which an upload breaks, action by action: until the client heard its 150, or gave all, and from where the server takes one octet and is told of
-- the break.
use Rattle.std.proofs.Common.{◌≡◌, inl, inr, ℕ, true, false, not, if◌then◌else◌, List, [], ◌∷◌, ◌++◌, Option, None, Some, is_some, nat_le, le-leb, leb-true, refl, sym, ap, ap₂, arith}
use Rattle.ftp_command.specs.Line.{line_of}
use Rattle.ftp_command.specs.declared.command.Command.TheVariants as command
use Rattle.ftp_client_driver.specs.Side.{Begun, client_side}
use Rattle.ftp_client_model.specs.Calls as near
use Rattle.ftp_client_model.specs.Dialogue.{answered}
use Rattle.ftp_client_model.specs.View.{View as Near, Sending, Told, Transferring}
use Rattle.ftp_client_model.specs.declared.client.Abort.TheVariants as Aborts
use Rattle.ftp_client_model.specs.declared.client.ClientLink.TheVariants as Links
use Rattle.ftp_client_model.specs.declared.client.Ending.TheVariants as Endings
use Rattle.ftp_client_model.specs.declared.client.Replied.{Replied}
use Rattle.ftp_client_model.specs.declared.client.Replied.TheVariants as Replies
use Rattle.ftp_client_model.specs.declared.client.Standing.TheVariants as Standings
use Rattle.ftp_ports.specs.Asking.{Reset, Shut}
use Rattle.ftp_ports.specs.Actions.{Done, Other, Stand}
use Rattle.ftp_ports.specs.Channel.{Channel, with_fate}
use Rattle.ftp_ports.specs.Machine.{Break, Failed, Gave, Got, Left, Received}
use Rattle.ftp_ports.specs.declared.whole.Fate.TheVariants as Fates
use Rattle.ftp_ports.specs.declared.whole.Rest.TheVariants as Rests
use Rattle.ftp_direct.specs.declared.refusal.Refusal.{Refusal}
use Rattle.ftp_nvt.specs.Lines.{written_line}
use Rattle.ftp_operation.specs.Answer.{Broken}
use Rattle.ftp_path.specs.Path.{fits, resolved, text_of}
use Rattle.ftp_path.proofs.TextLemmas.{path_on_literals}
use Rattle.ftp_reply.specs.Reader.{line_heard}
use Rattle.ftp_reply.specs.Values.{extended_value}
use Rattle.ftp_server_driver.specs.alone.Side.{server_side}
use Rattle.ftp_settings.specs.Representation.{defaults}
use Rattle.ftp_server_model.specs.Calls as far
use Rattle.ftp_server_model.specs.Endpoint.{disconnected}
use Rattle.ftp_server_model.specs.Failing.{EndFails}
use Rattle.ftp_server_model.specs.Machine.{concluded, end_refusal, ends_by, is_over, later, obeyed}
use Rattle.ftp_server_model.specs.Replies.{fixed_reply, reply_octets}
use Rattle.ftp_server_model.specs.View.{View as Far, Transfer}
use Rattle.ftp_server_model.specs.declared.reply.FixedReply.TheVariants as Texts
use Rattle.ftp_server_model.specs.declared.session.Keep.TheVariants as Keeps
use Rattle.ftp_server_model.specs.declared.session.ServerLink.{ServerLink}
use Rattle.ftp_server_model.specs.declared.session.ServerLink.TheVariants as Data
use Rattle.ftp_server_model.specs.declared.session.Transfer.TheVariants as Transfers
use Rattle.ftp_server_model.proofs.ReadingLemmas.{reads_stated}
use Rattle.ftp_tree.specs.Map.{Dir, File}
use Rattle.ftp_tree.specs.Tree.{Table, file_limit, node_at, octets_at, or_else, room_at, room_refusal, under, whenever}
use Rattle.ftp_tree.specs.declared.fault.TreeFault.TheVariants as Faults
use Rattle.ftp_wire.specs.Decoder.{Decoder, decoder_of, no_octets}
use Rattle.laws_drivers.specs.control.Between.{Between, Has, Has_lost, Hold, Server, Turn}
use Rattle.laws_drivers.specs.control.Example.{example}
use Rattle.laws_drivers.proofs.control.Playing.{Attends, ear_after, is_silent, no_events}
use Rattle.laws_examples.specs.transfers.Example.{example_name, example_octets}
use Rattle.laws_examples.proofs.transfers.Calling.{Dials, client_first, far_first, far_ready, near_first, quiet, reaches, starts_so, still}
use Rattle.laws_examples.proofs.transfers.Moves.{far_gets, far_takes, near_gives, near_shuts, steps}
use Rattle.laws_examples.proofs.transfers.Playing.{PlayedBy, can_take, far_does, far_in, far_obeys, far_says, far_turn, lies, near_in, near_is_told, near_turn, none_yet, one_stands, server_of, takes_only}
use Rattle.laws_examples.specs.uploads.Example.{Moment, PassesAt, both_octets, first_octet, second_octet_alone, put}
use Rattle.laws_examples.proofs.uploads.Cutting.{began_one, cutting, from_here, one_more}
use Rattle.laws_examples.proofs.uploads.Ending.{both_over, did_so}

-- it dials where it is told
pub put_dials : Dials put
unfolding near.data_opened near.wants answered line_heard extended_value path_on_literals
put_dials = record { logged = refl; called = refl; rest = refl }

-- the operation is begun
pub put_begins : Done (Other (Begun put)) (near_in none_yet client_first []) (near_in none_yet (near_first put) [])
unfolding near.starts path_on_literals
put_begins = (((refl, (((λ calm. refl), (λ moved. absurd (moved refl))), inl refl)), refl, tt), refl)

-- ---- the client

-- the transfer, once so much of it was answered, and these octets are left
abbrev pub putting : Replied → List ℕ → Near
putting replied left = record client_first {
  standing = Standings.Entered;
  job = Transferring put (record { replied = replied; abort = Aborts.Unsent; flow = Sending left None });
  connection = Links.Open;
}

abbrev near_open : Near
near_open = record (putting Replies.Nothing both_octets) { owed = written_line (line_of (command.Stor example_name)) }

abbrev pub near_begun : Near
near_begun = putting Replies.Begun both_octets

-- it gave all, and its data connection is closed
abbrev pub near_closed : Near
near_closed = record (putting Replies.Begun []) { connection = Links.Over Endings.Ours }

abbrev pub near_given : Near
near_given = record near_closed { closing = true }

-- it was told of the break while it had an octet to give
abbrev pub near_lost : Near
near_lost = record (putting Replies.Begun second_octet_alone) { connection = Links.Over Endings.Broken }

-- it reports that it broke
abbrev pub near_over : Near
near_over = record client_first { standing = Standings.Entered; job = Told (Broken [] None) }

-- ---- the server

-- of its data connection a read failed, and it was told that it broke
abbrev far_failed : Channel
far_failed = with_fate Fates.Failed (one_stands [] [])

abbrev far_broken : Channel
far_broken = with_fate Fates.Broken far_failed

reads_none : (v : Far) → Done (Other Failed) (far_in (one_stands [] []) v []) (far_in far_failed v [])
reads_none v = ((refl, (refl, (refl, refl)), tt), refl)

-- it is told, right after a moment
breaks_then : (moment : ℕ) (v mid new : Far) → mid ≡ later (far.clock_step moment v) → new ≡ later (far.break_step mid)
    → Done (Other Break) (far_in far_failed v []) (far_in far_broken new [])
breaks_then moment v mid new told is = (
  ((moment, server_of mid, tt, steps (λ v w. ⊥) (far.clock_step moment) v mid told, steps EndFails far.break_step mid new is), refl, tt),
  refl,
)

-- it resets it
far_lets_go : (v : Far) → Done (Other (Left (Reset None None))) (far_in far_broken v []) (far_in none_yet v [])
far_lets_go v = (
  (
    refl,
    record { ended = inr refl; adds = tt; stands = refl; fate = refl; rest = refl; unwritten = refl; untold = refl },
    (tt, inl refl, tt),
  ),
  refl,
)

module _ (table : Table) where
  -- it is to take octets of the file, has taken one, was told a moment, and installs what came
  abbrev far_with : ServerLink Transfer → Far
  far_with connection = record (far_ready table) { session = record (far_ready table).session { connection = connection } }

  abbrev upload : Decoder → ServerLink Transfer
  upload decoder = Data.Transferring (Transfers.Upload (example_name ∷ []) (Keeps.First 0) decoder)

  abbrev pub far_up : Far
  far_up = record (far_with (upload (no_octets defaults))) { owed = reply_octets (fixed_reply Texts.Opens) }

  abbrev one_came : Decoder
  one_came = decoder_of defaults first_octet

  abbrev pub far_taken : Far
  far_taken = far_with (upload one_came)

  abbrev far_timed : ℕ → Far
  far_timed moment = record far_taken { context = record far_taken.context { moment = moment } }

  abbrev far_ended : Option Refusal → ℕ → Far
  far_ended why moment =
      concluded (ends_by why moment (example_name ∷ []) (Keeps.First 0) first_octet Texts.Broken (disconnected far_taken.session)) (far_timed moment)

  abbrev pub far_put : ℕ → Far
  far_put moment = far_ended None moment

  -- whatever comes of that, it holds that moment then
  ended_then : (why : Option Refusal) (moment : ℕ) → (later (far_ended why moment)).context.moment ≡ moment
  ended_then None moment = refl
  ended_then (Some why) moment = refl

  pub told_then : (moment : ℕ) → (later (far.break_step (later (far.clock_step moment far_taken)))).context.moment ≡ moment
  told_then moment = ended_then (end_refusal (example_name ∷ []) (Keeps.First 0) first_octet (disconnected far_taken.session)) moment

  -- where both begin
  abbrev pub Starts : Stand server_side
  Starts = far_in none_yet (far_first table) []

abbrev pub begun : Stand client_side
begun = near_in none_yet (near_first put) []

-- ---- action by action

module _ (table : Table) (moments : ℕ → ℕ) where
  -- actions led there, after these turns
  abbrev pub Leads : List Turn → Between → Stand server_side → Stand client_side → Type 0
  Leads before between server client =
      PlayedBy (cutting before (far_taken table) (moments 0)) moments (Starts table) begun put 1 between server client

  module _ (root : node_at table [] ≡ Some Dir) (stamp : ℕ) (file : node_at (under table []) (example_name ∷ []) ≡ Some (File example_octets stamp))
      (room : nat_le 1 (room_at (under table []) (example_name ∷ [])) ≡ true) where
    -- STOR is heard
    obeys : Leads [] (lies [] [] [] [] Has Has) (far_in (one_stands [] []) (far_up table) []) (near_in (one_stands [] []) (still near_open) [])
    unfolding near.starts near.data_opened answered line_heard extended_value path_on_literals obeyed fits text_of resolved octets_at room_refusal is_silent
        ear_after no_events
    obeys =
        let stor : List ℕ = 83 ∷ 84 ∷ 79 ∷ 82 ∷ 32 ∷ 102 ∷ 13 ∷ [] in
        let at : Attends (far_ready table) = record { wants = refl; running = refl; none_waits = refl } in
        far_obeys moments (Starts table) begun put 1 [] [] Has Has [] stor (one_stands [] []) (far_ready table) (far_up table)
        (line_of (command.Stor example_name)) (command.Stor example_name)
        (near_in (one_stands [] []) (still near_open) []) at refl refl refl refl
        (λ read reads. reads_stated read (command.Stor example_name) reads tt refl) (rw file refl)
        (reaches (cutting [] (far_taken table) (moments 0)) (([], refl), tt) table moments put put_dials root)

    -- 150 is said and heard
    pub begins : Leads [] (lies [] [] [] [] Has Has) (far_in (one_stands [] []) (quiet (far_up table)) []) (near_in (one_stands [] []) near_begun [])
    unfolding near.starts near.wants near.data_opened answered line_heard extended_value path_on_literals can_take takes_only
    begins =
        let start = Starts table in
        let up : Far = far_up table in
        let server = far_in (one_stands [] []) (quiet up) [] in
        let opens = far_says moments start begun put 1 [] [] Has Has [] [] (one_stands [] []) up (near_in (one_stands [] []) (still near_open) []) refl
        obeys in
        near_is_told moments start begun put 1 [] [] Has Has [] up.owed server (one_stands [] []) (still near_open) refl refl opens

    -- and the client gives both octets
    pub given : Leads [] (lies [] [] [] [] Has Has) (far_in (one_stands [] []) (quiet (far_up table)) []) (near_in (one_stands both_octets []) near_given [])
    unfolding near.wants near.gives_data
    given =
        let both = lies [] [] [] [] Has Has in
        near_turn moments (Starts table) begun put (Other (Gave 2 both_octets Rests.Nothing)) (tt, tt) 1 both both
        (far_in (one_stands [] []) (quiet (far_up table)) [])
        (near_in (one_stands [] []) near_begun []) (near_in (one_stands both_octets []) near_given []) (tt, refl)
        (near_gives both_octets near_begun near_given refl refl refl refl) refl begins

    -- what there is room for is within the limit of a file
    in_limit : nat_le 1 (file_limit (under table [])) ≡ true
    unfolding room_at
    in_limit = le-leb 1 (file_limit (under table [])) (omega (arith, leb-true 1 (room_at (under table []) (example_name ∷ [])) room))

    -- so the octet is kept
    is_kept : is_over (example_name ∷ []) (Keeps.First 0) (one_came table) (far_ready table).session ≡ false
    is_kept = ap₂ (λ a b. is_some (or_else (whenever (not a) Faults.TooBig) (whenever (not b) Faults.Full))) in_limit room

    is_taken : far_taken table ≡ far.receives_octet (quiet (far_up table)) 97
    unfolding far.receives_octet
    is_taken =
        sym (ap (λ over. far_with table (if over then Data.Transferring Transfers.OverLimit else upload table (one_came table))) is_kept)

    -- and it is put
    is_well : end_refusal (example_name ∷ []) (Keeps.First 0) first_octet (disconnected (far_taken table).session) ≡ None
    unfolding fits text_of room_refusal octets_at
    is_well = rw file (rw in_limit (rw room refl))

    is_put : (moment : ℕ) → far_put table moment ≡ later (far.break_step (far_timed table moment))
    is_put moment = sym (ap (λ why. far_ended table why moment) is_well)

    -- these are on their way, whatever the client is at
    module _ (hold : Hold) (more : List ℕ) (client : Stand client_side)
        (p : Leads [] (lies [] [] (first_octet ++ more) [] hold Has) (far_in (one_stands [] []) (quiet (far_up table)) []) client) where
      -- the server takes the octet, is told of the break, says 426, and resets its data connection
      pub takes : Leads p.turns (lies [] (far_put table (moments 0)).owed more [] hold Has_lost) (far_in none_yet (quiet (far_put table (moments 0))) []) client
      takes =
          let start = Starts table in
          let up : Far = far_up table in
          let taken_up : Far = far_taken table in
          let done : Far = far_put table (moments 0) in
          let some = lies [] [] (first_octet ++ more) [] hold Has in
          let none = lies [] [] more [] hold Has in
          let lost = lies [] [] more [] hold Has_lost in
          let said = lies [] done.owed more [] hold Has_lost in
          let got = far_turn moments start begun put (Other (Got first_octet)) ((λ before. (refl, λ ports. ports)), λ old new done moment. tt) 1 some none
          (far_in (one_stands [] []) (quiet up) []) (far_in (one_stands [] first_octet) (quiet up) []) client (tt, refl)
          (far_gets first_octet (quiet up) refl) (refl, refl, refl) (from_here p) in
          let taken = far_turn moments start begun put (Other (Received first_octet 1)) ((λ before. (refl, λ ports. ports)), λ old new done moment. tt) 1
          none none (far_in (one_stands [] first_octet) (quiet up) []) (far_in (one_stands [] []) taken_up []) client (tt, refl)
          (far_takes 97 (quiet up) taken_up refl refl is_taken) refl got in
          let failed = far_does moments start begun put (Other Failed) ((λ before. (refl, λ ports. ports)), λ old new done moment. tt) 1 none none
          (far_in (one_stands [] []) taken_up []) (far_in far_failed taken_up []) client ((tt, refl), tt) (reads_none taken_up) refl taken
          (one_more (Server (Other Failed)) taken.resets.0, taken.resets.1) in
          let told = far_does moments start begun put (Other Break) ((λ before. (refl, λ ports. ports)), λ old new done moment. tt) 1 none lost
          (far_in far_failed taken_up []) (far_in far_broken done []) client ((inr (refl, refl), refl), (refl, refl))
          (breaks_then (moments 0) taken_up (far_timed table (moments 0)) done refl (is_put (moments 0))) (refl, refl) failed
          (one_more (Server (Other Break)) {turns = failed.turns} failed.resets.0, (failed.resets.1, began_one failed)) in
          let says = far_says moments start begun put 1 more [] hold Has_lost [] [] far_broken done client refl told in
          far_turn moments start begun put (Other (Left (Reset None None))) ((λ before. (refl, λ ports. ports)), λ old new done moment. tt) 1 said said
          (far_in far_broken (quiet done) []) (far_in none_yet (quiet done) []) client (tt, refl) (far_lets_go (quiet done)) (tt, refl) says

    -- these are on their way, and the client has left its data connection
    module _ (hold : Hold) (more : List ℕ)
        (p : Leads [] (lies [] [] (first_octet ++ more) [] hold Has) (far_in (one_stands [] []) (quiet (far_up table)) []) (near_in none_yet near_closed []))
      where
        -- it hears 426
        hears : Leads p.turns (lies [] [] more [] hold Has_lost) (far_in none_yet (quiet (far_put table (moments 0))) []) (near_in none_yet near_over [])
        unfolding near.starts near.wants near.data_opened answered line_heard extended_value path_on_literals can_take takes_only
        hears =
            near_is_told moments (Starts table) begun put 1 more [] hold Has_lost [] (reply_octets (fixed_reply Texts.Broken))
            (far_in none_yet (quiet (far_put table (moments 0))) []) none_yet near_closed refl refl
            (takes hold more (near_in none_yet near_closed []) p)

        -- so both are over, after that moment
        pub passes : (At : Moment) → At (lies [] [] (first_octet ++ more) [] hold Has) (near_in none_yet near_closed []) → PassesAt (example table) moments At
        unfolding near.starts near.data_opened far.control_end answered line_heard extended_value path_on_literals
        passes At at =
            let there = lies [] [] more [] hold Has_lost in
            let middle = lies [] [] (first_octet ++ more) [] hold Has in
            let server = far_in (one_stands [] []) (quiet (far_up table)) [] in
            let client = near_in none_yet near_closed [] in
            let over = both_over (example table) (far_first table) put (Broken [] None) client_first (near_first put) (quiet (far_put table (moments 0)))
            near_over moments none_yet Shut there there (starts_so table moments put put_dials) put_begins (tt, refl) refl refl (told_then table) refl refl
            (near_shuts (near.reports near_over) refl) (tt, refl) refl hears
            refl (record { wants = refl; running = refl; none_waits = refl }) refl in
            record {
              server = over.0;
              over = over.1;
              turns = p.turns;
              later = over.2;
              begins_so = over.3;
              between = middle;
              server_then = server;
              client_then = client;
              did = did_so (example table) moments put (far_first table) client_first (near_first put) middle server client
                  (starts_so table moments put put_dials) put_begins (tt, refl) refl refl (told_then table) p;
              at = at;
            }
