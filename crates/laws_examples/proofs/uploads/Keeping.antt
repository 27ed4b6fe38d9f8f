-- The session in which the server is told of the break first: the client gave one octet, has one to give, and is told only after the server was.
use Rattle.std.proofs.Common.{◌≡◌, inl, inr, ℕ, true, List, [], ◌∷◌, None, Some, nat_le, refl, ap, ◌∙◌, arith}
use Rattle.ftp_client_model.specs.Calls as near
use Rattle.ftp_client_model.specs.Dialogue.{answered}
use Rattle.ftp_client_model.specs.View.{View as Near}
use Rattle.ftp_client_model.specs.declared.client.Replied.TheVariants as Replies
use Rattle.ftp_ports.specs.Asking.{Reset, Shut}
use Rattle.ftp_ports.specs.Actions.{Done, Other}
use Rattle.ftp_ports.specs.Channel.{Channel, with_fate}
use Rattle.ftp_ports.specs.Machine.{Break, Failed, Gave, Left, Wrote}
use Rattle.ftp_ports.specs.declared.whole.Fate.TheVariants as Fates
use Rattle.ftp_ports.specs.declared.whole.Rest.TheVariants as Rests
use Rattle.ftp_operation.specs.Answer.{Broken}
use Rattle.ftp_path.proofs.TextLemmas.{path_on_literals}
use Rattle.ftp_reply.specs.Reader.{line_heard}
use Rattle.ftp_reply.specs.Values.{extended_value}
use Rattle.ftp_server_model.specs.Calls as far
use Rattle.ftp_server_model.specs.Replies.{fixed_reply, reply_octets}
use Rattle.ftp_server_model.specs.declared.reply.FixedReply.TheVariants as Texts
use Rattle.ftp_tree.specs.Map.{Dir, File}
use Rattle.ftp_tree.specs.Tree.{Table, node_at, room_at, under}
use Rattle.ftp_tree.proofs.LawLemmas.{under-stands}
use Rattle.ftp_tree.proofs.PartLemmas.{under_all}
use Rattle.laws_drivers.specs.control.Between.{Client, Has, Has_lost}
use Rattle.laws_drivers.specs.control.Example.{example}
use Rattle.laws_examples.specs.transfers.Example.{example_name, example_octets}
use Rattle.laws_examples.proofs.transfers.Calling.{client_first, far_first, near_first, quiet, starts_so}
use Rattle.laws_examples.proofs.transfers.Moves.{near_shuts, written_now}
use Rattle.laws_examples.proofs.transfers.Playing.{can_take, far_in, lies, near_does, near_in, near_is_told, near_turn, none_yet, one_stands, takes_only}
use Rattle.laws_examples.specs.uploads.Example.{ServerKnowsFirst, PassesAt, ServerFirstIsOver, first_octet, second_octet_alone, put}
use Rattle.laws_examples.proofs.uploads.Cutting.{from_here, one_more}
use Rattle.laws_examples.proofs.uploads.Ending.{both_over, did_so}
use Rattle.laws_examples.proofs.uploads.Session.{Leads, Starts, begins, begun, far_put, far_up, near_begun, near_lost, near_over, put_begins, put_dials, putting, takes, told_then}

-- the client has the other octet to give; its data connection, with these to be written
abbrev near_half : Near
near_half = putting Replies.Begun second_octet_alone

abbrev more_stands : List ℕ → Channel
more_stands unwritten = record (one_stands unwritten []) { rest = Rests.More }

-- a write of it failed, and it was told that it broke
abbrev near_failed : Channel
near_failed = with_fate Fates.Failed (more_stands [])

abbrev near_broken : Channel
near_broken = with_fate Fates.Broken near_failed

-- the first octet is given
gives_first : Done (Other (Gave 1 first_octet Rests.More)) (near_in (one_stands [] []) near_begun []) (near_in (more_stands first_octet) near_half [])
unfolding near.wants near.gives_data
gives_first = (((refl, (((λ calm. refl), (λ moved. absurd (moved refl))), inl refl), refl), (refl, (refl, refl)), refl), refl)

-- and written
writes_first : (n : Near) → Done (Other (Wrote first_octet)) (near_in (more_stands first_octet) n []) (near_in (more_stands []) n [])
writes_first n = (
  (
    refl,
    written_now Rests.More first_octet first_octet [] (omega arith) refl,
    tt,
  ),
  refl,
)

-- a write fails
fails_then : (n : Near) → Done (Other Failed) (near_in (more_stands []) n []) (near_in near_failed n [])
fails_then n = ((refl, (refl, (refl, refl)), tt), refl)

-- the client is told of the break
is_told : Done (Other Break) (near_in near_failed near_half []) (near_in near_broken near_lost [])
unfolding near.data_fault
is_told = (((((λ calm. refl), (λ moved. absurd (moved refl))), inl refl), refl, tt), refl)

-- it resets its data connection
resets : (n : Near) → Done (Other (Left (Reset None None))) (near_in near_broken n []) (near_in none_yet n [])
resets n = (
  (
    refl,
    record { ended = inr refl; adds = tt; stands = refl; fate = refl; rest = refl; unwritten = refl; untold = refl },
    (tt, inl refl, tt),
  ),
  refl,
)

module _ (table : Table) (moments : ℕ → ℕ) (root : node_at table [] ≡ Some Dir) (stamp : ℕ)
    (file : node_at (under table []) (example_name ∷ []) ≡ Some (File example_octets stamp))
    (room : nat_le 1 (room_at (under table []) (example_name ∷ [])) ≡ true) where
  -- the client gives and writes one octet
  gives : Leads table moments [] (lies [] [] first_octet [] Has Has) (far_in (one_stands [] []) (quiet (far_up table)) [])
      (near_in (more_stands []) near_half [])
  gives =
      let start = Starts table in
      let server = far_in (one_stands [] []) (quiet (far_up table)) [] in
      let none = lies [] [] [] [] Has Has in
      let sent = lies [] [] first_octet [] Has Has in
      let given = near_turn moments start begun put (Other (Gave 1 first_octet Rests.More)) (tt, tt) 1 none none server
      (near_in (one_stands [] []) near_begun []) (near_in (more_stands first_octet) near_half []) (tt, refl) gives_first refl
      (begins table moments root stamp file room) in
      near_turn moments start begun put (Other (Wrote first_octet)) (tt, tt) 1 none sent server (near_in (more_stands first_octet) near_half [])
      (near_in (more_stands []) near_half []) (tt, refl) (writes_first near_half) (refl, refl) given

  -- the server takes it, and is told of the break
  told : Leads table moments gives.turns (lies [] (far_put table (moments 0)).owed [] [] Has Has_lost)
      (far_in none_yet (quiet (far_put table (moments 0))) []) (near_in (more_stands []) near_half [])
  told = takes table moments root stamp file room Has [] (near_in (more_stands []) near_half []) gives

  -- the client is told, and resets its data connection
  breaks : Leads table moments told.turns (lies [] (far_put table (moments 0)).owed [] [] Has_lost Has_lost)
      (far_in none_yet (quiet (far_put table (moments 0))) []) (near_in none_yet near_lost [])
  unfolding near.wants
  breaks =
      let start = Starts table in
      let server = far_in none_yet (quiet (far_put table (moments 0))) [] in
      let had = lies [] (far_put table (moments 0)).owed [] [] Has Has_lost in
      let lost = lies [] (far_put table (moments 0)).owed [] [] Has_lost Has_lost in
      let failed = near_turn moments start begun put (Other Failed) (tt, tt) 1 had had server (near_in (more_stands []) near_half [])
      (near_in near_failed near_half []) (tt, refl) (fails_then near_half) refl (from_here told) in
      let is = near_does moments start begun put (Other Break) tt 1 had lost server (near_in near_failed near_half [])
      (near_in near_broken near_lost []) (inr (refl, inl refl), refl) is_told (refl, refl) failed
      (one_more (Client (Other Break)) failed.resets.0, failed.resets.1) in
      near_does moments start begun put (Other (Left (Reset None None))) tt 1 lost lost server (near_in near_broken near_lost [])
      (near_in none_yet near_lost []) (inr refl, refl) (resets near_lost) (tt, refl) is
      (one_more (Client (Other (Left (Reset None None)))) is.resets.0, is.resets.1)

  -- and hears 426
  hears : Leads table moments told.turns (lies [] [] [] [] Has_lost Has_lost) (far_in none_yet (quiet (far_put table (moments 0))) [])
      (near_in none_yet near_over [])
  unfolding near.starts near.wants near.data_opened answered line_heard extended_value path_on_literals can_take takes_only
  hears =
      near_is_told moments (Starts table) begun put 1 [] [] Has_lost Has_lost [] (reply_octets (fixed_reply Texts.Broken))
      (far_in none_yet (quiet (far_put table (moments 0))) []) none_yet near_lost refl refl breaks

  -- so both are over, after that moment
  passes_first : PassesAt (example table) moments ServerKnowsFirst
  unfolding near.starts near.data_opened far.control_end answered line_heard extended_value path_on_literals
  passes_first =
      let there = lies [] [] [] [] Has_lost Has_lost in
      let middle = lies [] (far_put table (moments 0)).owed [] [] Has Has_lost in
      let server = far_in none_yet (quiet (far_put table (moments 0))) [] in
      let client = near_in (more_stands []) near_half [] in
      let over = both_over (example table) (far_first table) put (Broken [] None) client_first (near_first put) (quiet (far_put table (moments 0))) near_over
      moments none_yet Shut there there (starts_so table moments put put_dials) put_begins (tt, refl) refl refl (told_then table) refl refl
      (near_shuts (near.reports near_over) refl) (tt, refl) refl hears
      refl (record { wants = refl; running = refl; none_waits = refl }) refl in
      record {
        server = over.0;
        over = over.1;
        turns = told.turns;
        later = over.2;
        begins_so = over.3;
        between = middle;
        server_then = server;
        client_then = client;
        did = did_so (example table) moments put (far_first table) client_first (near_first put) middle server client
            (starts_so table moments put put_dials) put_begins (tt, refl) refl refl (told_then table) told;
        at = record { near = refl; far = refl; left = refl };
      }

-- the file stands where the login sees it
pub server_first_is_over : ServerFirstIsOver
server_first_is_over table stamp moments has room =
    passes_first table moments has.root stamp (under-stands table [] (example_name ∷ []) ∙ has.file)
    (ap (λ t. nat_le 1 (room_at t (example_name ∷ []))) (under_all table) ∙ room)
