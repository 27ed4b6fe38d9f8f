-- A server that has more to give reads a line and hears it, in a session whose data connections either dials.
use Rattle.std.proofs.Common.{◌≡◌, ℕ, List, [], ◌∷◌, ◌++◌, refl, sym, append-nil}
use Rattle.ftp_command.specs.declared.command.Command.{Command}
use Rattle.ftp_ports.specs.Actions.{Heard, Read, Stand}
use Rattle.ftp_ports.specs.Channel.{Channel}
use Rattle.ftp_client_driver.specs.Side.{client_side}
use Rattle.ftp_ends.specs.Ear.{ear_out, ear_step}
use Rattle.ftp_nvt.specs.Lines.{line}
use Rattle.ftp_operation.specs.declared.op.Op.{Op}
use Rattle.ftp_server_driver.specs.alone.Side.{server_side}
use Rattle.ftp_server_model.specs.Machine.{IsReading, Reading, heard_line}
use Rattle.ftp_server_model.specs.View.{View as Far, line_limit}
use Rattle.ftp_server_model.specs.declared.heard.HeardLine.TheVariants.{Asks}
use Rattle.laws_drivers.specs.control.Between.{Hold}
use Rattle.laws_drivers.proofs.control.Playing.{ear_after}
use Rattle.laws_examples.proofs.transfers.Peeking.{AreSilent, Heeds, ending, hearing, reading}
use Rattle.laws_examples.proofs.transfers.Playing.{far_in, lies}
use Rattle.laws_examples.proofs.active.Playing.{Played, far_turn}

module _ (moments : ℕ → ℕ) (start : Stand server_side) (begun : Stand client_side) (op : Op (List ℕ)) (listened : ℕ) (go come : List ℕ)
    (near_hold far_hold : Hold) (down : List ℕ) (channel : Channel) (client : Stand client_side) where
  -- it hears octets of a line before its end
  hears_on : (octets rest : List ℕ) (v : Far) → Heeds channel v → AreSilent v.ear octets
      → Played moments start begun op listened (lies [] down go come near_hold far_hold) (far_in channel v (octets ++ rest)) client
      → Played moments start begun op listened (lies [] down go come near_hold far_hold) (far_in channel (record v { ear = ear_after v.ear octets }) rest) client
  unfolding ear_after
  hears_on [] rest v at silent p = p
  hears_on (octet ∷ octets) rest v at silent p =
      let next : Far = record v { ear = ear_step line_limit v.ear octet } in
      let there : Heeds channel next = record { waits = at.waits; seen = at.seen; may = at.may; none_waits = at.none_waits } in
      let all = lies [] down go come near_hold far_hold in
      hears_on octets rest next there silent.2
      (far_turn moments start begun op (Heard (octet ∷ [])) ((λ before. (refl, λ ports. ports)), λ old new done moment. tt) listened all all
      (far_in channel v (octet ∷ (octets ++ rest))) (far_in channel next (octets ++ rest)) client (tt, refl)
      (hearing channel octet (octets ++ rest) v at silent.0 silent.1) refl p)

  -- it reads a line that is on its way, and hears it
  pub far_hears_line : (octets : List ℕ) (v new : Far) (text : List ℕ) (asked : Command (List ℕ)) → Heeds channel v → v.owed ≡ []
      → AreSilent v.ear octets → ear_out line_limit (ear_after v.ear octets) 10 ≡ line text ∷ [] → ((read : Reading) → IsReading read → read text ≡ Asks asked)
      → new ≡ heard_line (Asks asked) (record v { ear = ear_step line_limit (ear_after v.ear octets) 10; context = record v.context { moment = 0 } })
      → Played moments start begun op listened (lies (octets ++ 10 ∷ []) down go come near_hold far_hold) (far_in channel v []) client
      → Played moments start begun op listened (lies [] down go come near_hold far_hold) (far_in channel new []) client
  far_hears_line octets v new text asked at owed silent said reads is p =
      let all : List ℕ = octets ++ 10 ∷ [] in
      let last : Far = record v { ear = ear_after v.ear octets } in
      let there : Heeds channel last = record { waits = at.waits; seen = at.seen; may = at.may; none_waits = at.none_waits } in
      let whole = lies all down go come near_hold far_hold in
      let none = lies [] down go come near_hold far_hold in
      let read = far_turn moments start begun op (Read all) ((λ before. (refl, λ ports. ports)), λ old new done moment. tt) listened whole none
      (far_in channel v []) (far_in channel v all) client (tt, refl) (reading channel v all at owed) (sym (append-nil all), refl) p in
      far_turn moments start begun op (Heard (10 ∷ [])) ((λ before. (refl, λ ports. ports)), λ old new done moment. tt) listened none none
      (far_in channel last (10 ∷ [])) (far_in channel new []) client (tt, refl) (ending channel last new text asked there said reads is) refl
      (hears_on octets (10 ∷ []) v at silent read)
