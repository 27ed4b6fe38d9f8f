-- The session in which the server is told of the break first, action by action.
use Rattle.std.proofs.Common.{◌≡◌, inl, ℕ, List, [], ◌∷◌, ◌++◌, None, Some, refl, ap, ◌∙◌}
use Rattle.ftp_client_model.specs.Calls as near
use Rattle.ftp_client_model.specs.Dialogue.{answered}
use Rattle.ftp_client_model.specs.View.{View as Near}
use Rattle.ftp_client_model.specs.declared.client.Replied.TheVariants as Replies
use Rattle.ftp_ports.specs.Asking.{Reset}
use Rattle.ftp_ports.specs.Actions.{Other}
use Rattle.ftp_ports.specs.Machine.{Break, Failed, Got, Left, Received}
use Rattle.ftp_operation.specs.Answer.{Broken}
use Rattle.ftp_path.proofs.TextLemmas.{path_on_literals}
use Rattle.ftp_reply.specs.Reader.{line_heard}
use Rattle.ftp_reply.specs.Values.{extended_value}
use Rattle.ftp_server_model.specs.Calls as far
use Rattle.ftp_server_model.specs.Replies.{fixed_reply, reply_octets}
use Rattle.ftp_server_model.specs.View.{View as Far}
use Rattle.ftp_server_model.specs.declared.reply.FixedReply.TheVariants as Texts
use Rattle.ftp_tree.specs.Map.{Dir, File}
use Rattle.ftp_tree.specs.Tree.{Table, node_at, under}
use Rattle.ftp_tree.proofs.LawLemmas.{under-stands}
use Rattle.laws_drivers.specs.control.Between.{Client, Has, Has_lost, Server}
use Rattle.laws_drivers.specs.control.Example.{example}
use Rattle.laws_examples.specs.transfers.Example.{example_name, example_octets}
use Rattle.laws_examples.proofs.transfers.Calling.{client_first, far_done, far_first, near_first, starts_so, still}
use Rattle.laws_examples.proofs.transfers.Moves.{gets, takes_one}
use Rattle.laws_examples.proofs.transfers.Peeking.{more_stands, near_breaks, near_fails, near_resets, one_broken, one_failed}
use Rattle.laws_examples.proofs.transfers.Playing.{can_take, far_does, far_in, far_says, far_turn, lies, near_does, near_in, near_is_told, near_turn, none_yet, one_stands, takes_only}
use Rattle.laws_examples.specs.downloads.Example.{ServerKnowsFirst, PassesAt, ServerFirstIsOver, broken_asked, first_octet, example_get}
use Rattle.laws_examples.proofs.downloads.Breaking.{far_breaks, far_drops, far_fails, from_here, more_broken, more_failed}
use Rattle.laws_examples.proofs.downloads.Ending.{both_over, did_so}
use Rattle.laws_examples.proofs.downloads.Opening.{Leads, Starts, begun, far_half, far_sent, get_begins, get_dials, getting, near_open, near_over, sends}

-- ---- the client: it heard the 426, and then took the octet

abbrev near_heard : Near
near_heard = getting (Replies.Final 426)

abbrev near_taken : Near
near_taken = near.receives_octet near_heard 104

module _ (table : Table) (moments : ℕ → ℕ) where
  -- it was told of the break
  abbrev far_told : Far
  far_told = record (far_done table) { owed = reply_octets (fixed_reply Texts.Broken) }

  module _ (root : node_at table [] ≡ Some Dir) (stamp : ℕ) (file : node_at (under table []) (example_name ∷ []) ≡ Some (File example_octets stamp)) where
    -- that write fails then: the server is told of the break, says 426, and resets the data connection
    breaks : Leads table moments [] (lies [] ((far_sent table).owed ++ far_told.owed) [] first_octet Has Has_lost)
        (far_in none_yet (far_done table) []) (near_in (one_stands [] []) (still near_open) [])
    breaks =
        let half : Far = far_half table in
        let client = near_in (one_stands [] []) (still near_open) [] in
        let down : List ℕ = (far_sent table).owed in
        let all : List ℕ = (far_sent table).owed ++ far_told.owed in
        let sent = lies [] down [] first_octet Has Has in
        let lost = lies [] down [] first_octet Has Has_lost in
        let said = lies [] all [] first_octet Has Has_lost in
        let given = sends table moments root stamp file in
        let failed = far_does moments (Starts table) begun example_get (Other Failed) ((λ before. (refl, λ ports. ports)), λ old new done moment. tt) 1 sent sent
        (far_in more_stands half []) (far_in more_failed half []) client (tt, refl) (far_fails half) refl given
        (Server (Other Failed) ∷ given.resets.0, ap (λ l. Server (Other Failed) ∷ l) given.resets.1) in
        let told = far_does moments (Starts table) begun example_get (Other Break) ((λ before. (refl, λ ports. ports)), λ old new done moment. tt) 1 sent lost
        (far_in more_failed half []) (far_in more_broken far_told []) client (inl refl, refl) (far_breaks half half far_told refl refl)
        (refl, refl) failed (Server (Other Break) ∷ failed.resets.0, ap (λ l. Server (Other Break) ∷ l) failed.resets.1) in
        let says = far_says moments (Starts table) begun example_get 1 [] first_octet Has Has_lost [] down more_broken far_told client refl told in
        far_turn moments (Starts table) begun example_get (Other (Left (Reset None None))) ((λ before. (refl, λ ports. ports)), λ old new done moment. tt) 1 said said
        (far_in more_broken (far_done table) []) (far_in none_yet (far_done table) []) client (tt, refl) (far_drops (far_done table)) (tt, refl) says

    -- the client hears 150 and 426, and takes octets still
    hears : Leads table moments [] (lies [] [] [] first_octet Has Has_lost) (far_in none_yet (far_done table) []) (near_in (one_stands [] []) near_heard [])
    unfolding near.wants near.data_opened answered line_heard extended_value path_on_literals can_take takes_only
    hears = near_is_told moments (Starts table) begun example_get 1 [] first_octet Has Has_lost [] ((far_sent table).owed ++ far_told.owed)
        (far_in none_yet (far_done table) []) (one_stands [] []) (still near_open) refl refl breaks

    -- it takes the octet, and is told of the break
    takes : Leads table moments hears.turns (lies [] [] [] [] Has_lost Has_lost) (far_in none_yet (far_done table) []) (near_in one_broken near_over [])
    unfolding near.wants near.data_opened near.data_fault answered line_heard extended_value path_on_literals
    takes =
        let server = far_in none_yet (far_done table) [] in
        let come = lies [] [] [] first_octet Has Has_lost in
        let none = lies [] [] [] [] Has Has_lost in
        let after = lies [] [] [] [] Has_lost Has_lost in
        let got = near_turn moments (Starts table) begun example_get (Other (Got first_octet)) (tt, tt) 1 come none server (near_in (one_stands [] []) near_heard [])
        (near_in (one_stands [] first_octet) near_heard []) (tt, refl) (gets first_octet near_heard refl) (refl, refl, refl) (from_here hears) in
        let taken = near_turn moments (Starts table) begun example_get (Other (Received first_octet 1)) (tt, tt) 1 none none server
        (near_in (one_stands [] first_octet) near_heard []) (near_in (one_stands [] []) near_taken []) (tt, refl) (takes_one 104 [] near_heard refl refl) refl
        got in
        let failed = near_turn moments (Starts table) begun example_get (Other Failed) (tt, tt) 1 none none server (near_in (one_stands [] []) near_taken [])
        (near_in one_failed near_taken []) (tt, refl) (near_fails near_taken) refl taken in
        near_does moments (Starts table) begun example_get (Other Break) tt 1 none after server (near_in one_failed near_taken []) (near_in one_broken near_over [])
        ((refl, refl, inl refl), refl) (near_breaks near_taken) (refl, refl) failed
        (Client (Other Break) ∷ failed.resets.0, ap (λ l. Client (Other Break) ∷ l) failed.resets.1)

    -- so both are over, after that moment
    passes : PassesAt (example table) moments broken_asked ServerKnowsFirst
    unfolding near.starts near.data_opened far.control_end answered line_heard extended_value path_on_literals
    passes =
        let server = far_in none_yet (far_done table) [] in
        let over = both_over (example table) (far_first table) example_get (Broken first_octet None) client_first (near_first example_get) (far_done table) near_over moments
        one_broken (Reset None None) (lies [] [] [] [] Has_lost Has_lost) (lies [] [] [] [] Has_lost Has_lost) (starts_so table moments example_get get_dials)
        get_begins (tt, refl) refl refl refl (near_resets (near.reports near_over)) (refl, refl) (tt, refl) takes
        refl (record { wants = refl; running = refl; none_waits = refl }) refl in
        record {
          server = over.0;
          over = over.1;
          turns = hears.turns;
          later = over.2;
          begins_so = over.3;
          between = lies [] [] [] first_octet Has Has_lost;
          server_then = server;
          client_then = near_in (one_stands [] []) near_heard [];
          did = did_so (example table) moments example_get (far_first table) client_first (near_first example_get) (lies [] [] [] first_octet Has Has_lost) server
              (near_in (one_stands [] []) near_heard []) (starts_so table moments example_get get_dials) get_begins (tt, refl) refl refl hears;
          at = record { far = refl; near = refl; coming = refl; heard = refl };
        }

-- the file stands where the login sees it
pub server_first_is_over : ServerFirstIsOver
server_first_is_over table stamp moments has = passes table moments has.root stamp (under-stands table [] (example_name ∷ []) ∙ has.file)
