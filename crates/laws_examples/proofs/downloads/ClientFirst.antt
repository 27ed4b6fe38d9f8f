-- The session in which the client is told of the break, and the server is not, action by action.
use Rattle.std.proofs.Common.{◌≡◌, inl, ℕ, true, List, [], ◌∷◌, None, Some, refl, ap, ◌∙◌, arith}
use Rattle.ftp_client_model.specs.Calls as near
use Rattle.ftp_client_model.specs.Dialogue.{answered}
use Rattle.ftp_client_model.specs.View.{View as Near}
use Rattle.ftp_client_model.specs.declared.client.ClientLink.TheVariants as Links
use Rattle.ftp_client_model.specs.declared.client.Ending.TheVariants as Endings
use Rattle.ftp_client_model.specs.declared.client.Replied.TheVariants as Replies
use Rattle.ftp_ports.specs.Asking.{Ended as EndedBy, Reset, Shut}
use Rattle.ftp_ports.specs.Actions.{Other}
use Rattle.ftp_ports.specs.Machine.{Break, Closed, Failed, Gave, Got, Left, Received, Wrote}
use Rattle.ftp_ports.specs.declared.whole.Rest.TheVariants as Rests
use Rattle.ftp_operation.specs.Answer.{Broken}
use Rattle.ftp_path.proofs.TextLemmas.{path_on_literals}
use Rattle.ftp_reply.specs.Reader.{line_heard}
use Rattle.ftp_reply.specs.Values.{extended_value}
use Rattle.ftp_server_model.specs.Calls as far
use Rattle.ftp_server_model.specs.Replies.{fixed_reply, reply_octets}
use Rattle.ftp_server_model.specs.View.{View as Far}
use Rattle.ftp_server_model.specs.declared.reply.FixedReply.TheVariants as Texts
use Rattle.ftp_server_model.specs.declared.session.ServerLink.TheVariants as Data
use Rattle.ftp_tree.specs.Map.{Dir, File}
use Rattle.ftp_tree.specs.Tree.{Table, node_at, under}
use Rattle.ftp_tree.proofs.LawLemmas.{under-stands}
use Rattle.laws_drivers.specs.control.Between.{Client, Has, Has_ended, Has_lost}
use Rattle.laws_drivers.specs.control.Example.{example}
use Rattle.laws_examples.specs.transfers.Example.{example_name, example_octets}
use Rattle.laws_examples.proofs.transfers.Calling.{client_first, far_done, far_first, far_ready, near_first, quiet, starts_so, still}
use Rattle.laws_examples.proofs.transfers.Moves.{far_closes, far_leaves, gets, near_shuts, takes_one, writes}
use Rattle.laws_examples.proofs.transfers.Peeking.{more_stands, near_breaks, near_fails, near_resets, one_broken, one_failed}
use Rattle.laws_examples.proofs.transfers.Playing.{can_take, far_in, far_says, far_turn, lies, near_does, near_in, near_is_told, near_turn, none_yet, one_stands, takes_only}
use Rattle.laws_examples.specs.downloads.Example.{ClientFirstIsOver, ClientKnowsFirst, PassesAt, broken_asked, first_octet, example_get}
use Rattle.laws_examples.proofs.downloads.Breaking.{far_gives_rest, from_here}
use Rattle.laws_examples.proofs.downloads.Ending.{both_over, did_so}
use Rattle.laws_examples.proofs.downloads.Opening.{Leads, Starts, begun, far_half, far_sent, get_begins, get_dials, getting, near_open, near_over, sends}

-- the octet that nobody reads
abbrev last_octet : List ℕ
last_octet = 105 ∷ []

-- ---- the client: it heard the 150, took the octet, and was told of the break

abbrev near_begun : Near
near_begun = getting Replies.Begun

abbrev near_taken : Near
near_taken = near.receives_octet near_begun 104

abbrev near_broken : Near
near_broken = record near_taken { connection = Links.Over Endings.Broken }

module _ (table : Table) (moments : ℕ → ℕ) where
  -- the server has given all
  abbrev far_given : Far
  far_given = record (far_ready table) {
    session = record (far_ready table).session { connection = Data.Free; closing = true };
    owed = reply_octets (fixed_reply Texts.Complete);
  }

  module _ (root : node_at table [] ≡ Some Dir) (stamp : ℕ) (file : node_at (under table []) (example_name ∷ []) ≡ Some (File example_octets stamp)) where
    -- it hears 150, takes the octet, is told of the break, and resets the data connection
    breaks : Leads table moments [] (lies [] [] [] [] Has_lost Has) (far_in more_stands (far_half table) []) (near_in none_yet near_broken [])
    unfolding near.wants near.data_opened near.data_fault answered line_heard extended_value path_on_literals can_take takes_only
    breaks =
        let server = far_in more_stands (far_half table) [] in
        let start = Starts table in
        let come = lies [] [] [] first_octet Has Has in
        let none = lies [] [] [] [] Has Has in
        let lost = lies [] [] [] [] Has_lost Has in
        let told = near_is_told moments start begun example_get 1 [] first_octet Has Has [] (far_sent table).owed server (one_stands [] []) (still near_open) refl refl
        (sends table moments root stamp file) in
        let got = near_turn moments start begun example_get (Other (Got first_octet)) (tt, tt) 1 come none server (near_in (one_stands [] []) near_begun [])
        (near_in (one_stands [] first_octet) near_begun []) (tt, refl) (gets first_octet near_begun refl) (refl, refl, refl) told in
        let taken = near_turn moments start begun example_get (Other (Received first_octet 1)) (tt, tt) 1 none none server
        (near_in (one_stands [] first_octet) near_begun []) (near_in (one_stands [] []) near_taken []) (tt, refl) (takes_one 104 [] near_begun refl refl) refl
        got in
        let failed = near_turn moments start begun example_get (Other Failed) (tt, tt) 1 none none server (near_in (one_stands [] []) near_taken [])
        (near_in one_failed near_taken []) (tt, refl) (near_fails near_taken) refl taken in
        let broken = near_does moments start begun example_get (Other Break) tt 1 none lost server (near_in one_failed near_taken [])
        (near_in one_broken near_broken []) ((refl, refl, inl refl), refl) (near_breaks near_taken) (refl, refl) failed
        (Client (Other Break) ∷ failed.resets.0, ap (λ l. Client (Other Break) ∷ l) failed.resets.1) in
        near_turn moments start begun example_get (Other (Left (Reset None None))) (tt, tt) 1 lost lost server (near_in one_broken near_broken [])
        (near_in none_yet near_broken []) ((refl, refl), refl) (near_resets near_broken) (tt, refl) broken

    -- the server gives and writes the last octet, says 226, and ends the data connection
    ends : Leads table moments breaks.turns (lies [] far_given.owed [] last_octet Has_lost Has_ended)
        (far_in none_yet (far_done table) []) (near_in none_yet near_broken [])
    ends =
        let client = near_in none_yet near_broken [] in
        let start = Starts table in
        let down : List ℕ = far_given.owed in
        let none = lies [] [] [] [] Has_lost Has in
        let sent = lies [] [] [] last_octet Has_lost Has in
        let said = lies [] down [] last_octet Has_lost Has in
        let over = lies [] down [] last_octet Has_lost Has_ended in
        let gives = far_turn moments start begun example_get (Other (Gave 1 last_octet Rests.Nothing)) ((λ before. (refl, λ ports. ports)), λ old new done moment. tt) 1
        none none (far_in more_stands (far_half table) []) (far_in (one_stands last_octet []) far_given []) client (tt, refl)
        (far_gives_rest last_octet (far_half table) far_given refl refl refl refl) refl (from_here breaks) in
        let written = far_turn moments start begun example_get (Other (Wrote last_octet)) ((λ before. (refl, λ ports. ports)), λ old new done moment. tt) 1
        none sent (far_in (one_stands last_octet []) far_given []) (far_in (one_stands [] []) far_given []) client (tt, refl)
        (writes Rests.Nothing last_octet far_given (omega arith)) (refl, refl) gives in
        let told = far_says moments start begun example_get 1 [] last_octet Has_lost Has [] [] (one_stands [] []) far_given client refl written in
        let left = far_turn moments start begun example_get (Other (Left (EndedBy None None))) ((λ before. (refl, λ ports. ports)), λ old new done moment. tt) 1
        said over (far_in (one_stands [] []) (quiet far_given) []) (far_in none_yet (quiet far_given) []) client (tt, refl)
        (far_leaves (quiet far_given) refl refl) (refl, refl) told in
        far_turn moments start begun example_get (Other Closed) ((λ before. (refl, λ ports. ports)), λ old new done moment. tt) 1 over over
        (far_in none_yet (quiet far_given) []) (far_in none_yet (far_done table) []) client (tt, refl)
        (far_closes (quiet far_given) (far_done table) refl refl) refl left

    -- the client hears 226
    hears : Leads table moments breaks.turns (lies [] [] [] last_octet Has_lost Has_ended)
        (far_in none_yet (far_done table) []) (near_in none_yet near_over [])
    unfolding near.wants near.data_opened near.data_fault answered line_heard extended_value path_on_literals can_take takes_only
    hears = near_is_told moments (Starts table) begun example_get 1 [] last_octet Has_lost Has_ended [] far_given.owed
        (far_in none_yet (far_done table) []) none_yet near_broken refl refl ends

    -- so both are over, after that moment
    passes : PassesAt (example table) moments broken_asked ClientKnowsFirst
    unfolding near.starts near.data_opened far.control_end answered line_heard extended_value path_on_literals
    passes =
        let there = lies [] [] [] last_octet Has_lost Has_ended in
        let over = both_over (example table) (far_first table) example_get (Broken first_octet None) client_first (near_first example_get) (far_done table) near_over moments
        none_yet Shut there there (starts_so table moments example_get get_dials)
        get_begins (tt, refl) refl refl refl (near_shuts (near.reports near_over) refl) (tt, refl) refl hears
        refl (record { wants = refl; running = refl; none_waits = refl }) refl in
        record {
          server = over.0;
          over = over.1;
          turns = breaks.turns;
          later = over.2;
          begins_so = over.3;
          between = lies [] [] [] [] Has_lost Has;
          server_then = far_in more_stands (far_half table) [];
          client_then = near_in none_yet near_broken [];
          did = did_so (example table) moments example_get (far_first table) client_first (near_first example_get) (lies [] [] [] [] Has_lost Has)
              (far_in more_stands (far_half table) []) (near_in none_yet near_broken []) (starts_so table moments example_get get_dials) get_begins (tt, refl) refl refl
              breaks;
          at = record { near = refl; far = refl; left = refl };
        }

-- the file stands where the login sees it
pub client_first_is_over : ClientFirstIsOver
client_first_is_over table stamp moments has = passes table moments has.root stamp (under-stands table [] (example_name ∷ []) ∙ has.file)
