-- How the client leaves its data connection in each session: told of the break, or in order; and so both are over.
use Rattle.std.proofs.Common.{◌≡◌, inl, inr, [], ◌∷◌, None, Some, nat_le, refl, ap, ◌∙◌, ℕ, true, arith}
use Rattle.ftp_client_model.specs.Calls as near
use Rattle.ftp_client_model.specs.View.{View as Near}
use Rattle.ftp_ports.specs.Asking.{Ended as EndedBy, Reset}
use Rattle.ftp_ports.specs.Actions.{Done, Other}
use Rattle.ftp_ports.specs.Channel.{Channel, with_fate}
use Rattle.ftp_ports.specs.Machine.{Break, Closed, Failed, Left, Wrote}
use Rattle.ftp_ports.specs.declared.whole.Fate.TheVariants as Fates
use Rattle.ftp_ports.specs.declared.whole.Rest.TheVariants as Rests
use Rattle.ftp_tree.specs.Map.{Dir, File}
use Rattle.ftp_tree.specs.Tree.{Table, node_at, room_at, under}
use Rattle.ftp_tree.proofs.LawLemmas.{under-stands}
use Rattle.ftp_tree.proofs.PartLemmas.{under_all}
use Rattle.laws_drivers.specs.control.Between.{Client, Has, Has_ended, Has_lost}
use Rattle.laws_drivers.specs.control.Example.{example}
use Rattle.laws_examples.specs.transfers.Example.{example_name, example_octets}
use Rattle.laws_examples.proofs.transfers.Calling.{quiet}
use Rattle.laws_examples.proofs.transfers.Moves.{near_ends, near_is_closed, near_writes, written_now}
use Rattle.laws_examples.proofs.transfers.Playing.{far_in, lies, near_does, near_in, near_turn, none_yet, one_stands}
use Rattle.laws_examples.specs.uploads.Example.{ClientFirstIsOver, ClientKnowsFirst, IsServerAlone, PassesAt, ServerAloneIsOver, both_octets, first_octet, second_octet_alone, put}
use Rattle.laws_examples.proofs.uploads.Cutting.{one_more}
use Rattle.laws_examples.proofs.uploads.Session.{Leads, Starts, begun, far_up, given, near_closed, near_given, passes}

-- of its data connection a write failed, and it was told that it broke
abbrev near_failed : Channel
near_failed = with_fate Fates.Failed (one_stands second_octet_alone [])

abbrev near_broken : Channel
near_broken = with_fate Fates.Broken near_failed

-- the first octet of both is written
writes_first : (n : Near) → Done (Other (Wrote first_octet)) (near_in (one_stands both_octets []) n []) (near_in (one_stands second_octet_alone []) n [])
writes_first n = (
  (
    refl,
    written_now Rests.Nothing first_octet both_octets second_octet_alone (omega arith) refl,
    tt,
  ),
  refl,
)

-- a write of the other fails
fails_then : (n : Near) → Done (Other Failed) (near_in (one_stands second_octet_alone []) n []) (near_in near_failed n [])
fails_then n = ((refl, (refl, (refl, refl)), tt), refl)

-- it is told of the break
is_told : (n : Near) → Done (Other Break) (near_in near_failed n []) (near_in near_broken (near.data_fault n) [])
is_told n = (((((λ calm. refl), (λ moved. absurd (moved refl))), inl refl), refl, tt), refl)

-- it resets it, and drops the octet
drops : (n : Near) → Done (Other (Left (Reset None None))) (near_in near_broken n []) (near_in none_yet n [])
drops n = (
  (
    refl,
    record { ended = inr refl; adds = tt; stands = refl; fate = refl; rest = refl; unwritten = refl; untold = refl },
    (tt, inl refl, tt),
  ),
  refl,
)

module _ (table : Table) (moments : ℕ → ℕ) (root : node_at table [] ≡ Some Dir) (stamp : ℕ)
    (file : node_at (under table []) (example_name ∷ []) ≡ Some (File example_octets stamp))
    (room : nat_le 1 (room_at (under table []) (example_name ∷ [])) ≡ true) where
  -- one octet is written, the client is told of the break, and resets its data connection
  breaks : Leads table moments [] (lies [] [] first_octet [] Has_lost Has) (far_in (one_stands [] []) (quiet (far_up table)) [])
      (near_in none_yet near_closed [])
  unfolding near.wants near.data_fault
  breaks =
      let start = Starts table in
      let server = far_in (one_stands [] []) (quiet (far_up table)) [] in
      let both = lies [] [] [] [] Has Has in
      let sent = lies [] [] first_octet [] Has Has in
      let lost = lies [] [] first_octet [] Has_lost Has in
      let written = near_turn moments start begun put (Other (Wrote first_octet)) (tt, tt) 1 both sent server
      (near_in (one_stands both_octets []) near_given []) (near_in (one_stands second_octet_alone []) near_given []) (tt, refl)
      (writes_first near_given) (refl, refl) (given table moments root stamp file room) in
      let failed = near_turn moments start begun put (Other Failed) (tt, tt) 1 sent sent server (near_in (one_stands second_octet_alone []) near_given [])
      (near_in near_failed near_given []) (tt, refl) (fails_then near_given) refl written in
      let told = near_does moments start begun put (Other Break) tt 1 sent lost server (near_in near_failed near_given [])
      (near_in near_broken near_given []) (inr (refl, inr refl), refl) (is_told near_given) (refl, refl) failed
      (one_more (Client (Other Break)) failed.resets.0, failed.resets.1) in
      let left = near_does moments start begun put (Other (Left (Reset None None))) tt 1 lost lost server (near_in near_broken near_given [])
      (near_in none_yet near_given []) (inr refl, refl) (drops near_given) (tt, refl) told
      (one_more (Client (Other (Left (Reset None None)))) told.resets.0, told.resets.1) in
      near_turn moments start begun put (Other Closed) (tt, tt) 1 lost lost server (near_in none_yet near_given []) (near_in none_yet near_closed [])
      (tt, refl) (near_is_closed near_given refl) refl left

  -- both octets are written, and the client ends its data connection
  ends : Leads table moments [] (lies [] [] both_octets [] Has_ended Has) (far_in (one_stands [] []) (quiet (far_up table)) [])
      (near_in none_yet near_closed [])
  unfolding near.wants
  ends =
      let start = Starts table in
      let server = far_in (one_stands [] []) (quiet (far_up table)) [] in
      let both = lies [] [] [] [] Has Has in
      let sent = lies [] [] both_octets [] Has Has in
      let over = lies [] [] both_octets [] Has_ended Has in
      let written = near_turn moments start begun put (Other (Wrote both_octets)) (tt, tt) 1 both sent server
      (near_in (one_stands both_octets []) near_given []) (near_in (one_stands [] []) near_given []) (tt, refl)
      (near_writes both_octets near_given (omega arith)) (refl, refl) (given table moments root stamp file room) in
      let left = near_turn moments start begun put (Other (Left (EndedBy None None))) (tt, tt) 1 sent over server
      (near_in (one_stands [] []) near_given []) (near_in none_yet near_given []) (tt, refl) (near_ends near_given refl refl) (refl, refl) written in
      near_turn moments start begun put (Other Closed) (tt, tt) 1 over over server (near_in none_yet near_given []) (near_in none_yet near_closed [])
      (tt, refl) (near_is_closed near_given refl) refl left

  told_first : PassesAt (example table) moments ClientKnowsFirst
  told_first = passes table moments root stamp file room Has_lost [] breaks ClientKnowsFirst (record { near = refl; far = refl; coming = refl; given = refl })

  told_alone : PassesAt (example table) moments IsServerAlone
  told_alone = passes table moments root stamp file room Has_ended second_octet_alone ends IsServerAlone (record { near = refl; far = refl; coming = refl })

-- the file stands where the login sees it
pub client_first_is_over : ClientFirstIsOver
client_first_is_over table stamp moments has room =
    told_first table moments has.root stamp (under-stands table [] (example_name ∷ []) ∙ has.file)
    (ap (λ t. nat_le 1 (room_at t (example_name ∷ []))) (under_all table) ∙ room)

pub server_alone_is_over : ServerAloneIsOver
server_alone_is_over table stamp moments has room =
    told_alone table moments has.root stamp (under-stands table [] (example_name ∷ []) ∙ has.file)
    (ap (λ t. nat_le 1 (room_at t (example_name ∷ []))) (under_all table) ∙ room)
