-- The events of a world while octets rise, each from a world whose ends want nothing of it: the client gives an octet, and the server takes some and is told of
-- the end.
use Rattle.std.proofs.Common.{◌≡◌, ℕ, ◌<◌, ◌≤◌, true, not, ◌&&◌, List, [], ◌∷◌, ◌++◌, length, take, drop, sym, ap, ap₂, subst, ◌∙◌, arith, length-append}
use Rattle.std.proofs.lemmas.Bool.{or_right}
use Rattle.ftp_ends.specs.Octets.{has_octets}
use Rattle.ftp_client_model.specs.Calls as near
use Rattle.ftp_server_model.specs.Calls as far
use Rattle.ftp_server_model.specs.Machine.{Reading}
use Rattle.laws_world.specs.Events.{DataToServer, Deliver, Delivers, DeliversBy, End, Moves, Takes, can_happen, can_move, can_take, is_closed_by_near, lends_none, pulled, pushed, taking}
use Rattle.laws_world.specs.Serving.{after_event}
use Rattle.laws_world.specs.World.{ClosedByNear, World, gone}
use Rattle.laws_drivers.proofs.control.Worlds.{LeadsOn, one_leads}
use Rattle.laws_drivers.proofs.world.Moves.{Rested, can_say, drop_front, filled_enough, near_closed, one_given, some_there, take_front}
use Rattle.laws_drivers.proofs.world.Served.{Runs, after_settles, rests, settled}

module _ (read : Reading) where
  -- the client gives an octet
  pub near_gives_one : (octet : ℕ) (rest : List ℕ) (w : World) → Rested w → near.to_give w.near ≡ octet ∷ rest
      → rests (near.wants (near.data_closed (near.gives_data 1 w.near))) ≡ true
      → LeadsOn read [] w (settled (record w { data_to_server = w.data_to_server ++ octet ∷ []; near = near.gives_data 1 w.near; taken = [] }))
  near_gives_one octet rest w r gives wants =
      let new : World = record w { data_to_server = w.data_to_server ++ octet ∷ []; near = near.gives_data 1 w.near; taken = [] } in
      let pulls : pulled DataToServer (lends_none w) 1 ≡ new =
      ap (λ l. record w { data_to_server = w.data_to_server ++ take 1 l; near = near.gives_data 1 w.near; taken = [] }) gives in
      let moves : Moves DataToServer (lends_none w) (settled new) = record {
        gave = 1;
        gives = one_given octet rest (near.to_give w.near) gives;
        is = sym (ap after_event pulls ∙ after_settles new wants r.runs);
      } in
      one_leads read (Deliver DataToServer 0) w (settled new) tt
      (can_say (length w.data_to_server) octet rest (near.to_give w.near) gives (can_take DataToServer 0 w), moves)

  -- the server takes the first octets
  pub far_takes : (octet : ℕ) (octets rest : List ℕ) (w : World) → Rested w → w.data_to_server ≡ (octet ∷ octets) ++ rest
      → ((k : ℕ) → k < length (octet ∷ octets) → far.may_receive (far.receives w.far (take k w.data_to_server)) ≡ true)
      → Runs (far.receives w.far (octet ∷ octets)) → (came : ℕ) → came ≡ (pushed read DataToServer (length (octet ∷ octets)) w).came
      → LeadsOn read [] w (settled (record w { far = far.receives w.far (octet ∷ octets); data_to_server = rest; came = came; taken = octet ∷ octets }))
  far_takes octet octets rest w r queue may runs came came_is =
      let all : List ℕ = octet ∷ octets in
      let taken : World = record w { far = far.receives w.far all; data_to_server = rest; came = came; taken = all } in
      let first : take (length all) w.data_to_server ≡ all = ap (take (length all)) queue ∙ take_front all rest in
      let behind : drop (length all) w.data_to_server ≡ rest = ap (drop (length all)) queue ∙ drop_front all rest in
      let pushes : pushed read DataToServer (length all) (taking DataToServer (length all) (lends_none w)) ≡ taken =
      λ i. record w { far = far.receives w.far (first i); data_to_server = behind i; came = sym came_is i; taken = first i } in
      let long : length all ≤ length w.data_to_server = subst (λ q. length all ≤ length q) (sym queue) (omega (arith, length-append all rest)) in
      let takes : Takes read DataToServer (length all) (lends_none w) (length all) = record {
        within = omega (arith, long);
        may = may;
        some = λ room has can. room;
      } in
      let delivers : Delivers read DataToServer (length all) (lends_none w) (settled taken) = record {
        counts = [];
        taken = length all;
        fills = filled_enough (near.to_give w.near) w.data_to_server (length all) long;
        takes = takes;
        is = sym (ap after_event pushes ∙ after_settles taken (near_closed w r) runs);
      } in
      let can : can_happen (Deliver DataToServer (length all)) w ≡ true =
      or_right (can_move DataToServer (length all) w) (can_take DataToServer (length all) w)
      (ap₂ (λ b q. not b && has_octets q && far.may_receive w.far) (some_there octets) queue ∙ may 0 (omega arith)) in
      let does = subst (λ b. DeliversBy b read DataToServer (length all) (lends_none w) (settled taken)) (sym (some_there octets)) delivers in
      one_leads read (Deliver DataToServer (length all)) w (settled taken) tt (can, does)

  -- the server is told of the end
  pub far_ends : (w : World) → Rested w → w.link ≡ ClosedByNear → w.data_to_server ≡ [] → near.to_give w.near ≡ [] → Runs (far.data_end w.far)
      → LeadsOn read [] w (settled (gone (record w { far = far.data_end w.far; taken = [] })))
  far_ends w r link empty given runs =
      let new : World = gone (record w { far = far.data_end w.far; taken = [] }) in
      let can : can_happen (End DataToServer) w ≡ true =
      ap₂ (λ l q. is_closed_by_near l && not (has_octets q) && not (has_octets (near.to_give w.near))) link empty ∙ ap (λ g. not (has_octets g)) given in
      one_leads read (End DataToServer) w (settled new) tt (can, sym (after_settles new (near_closed w r) runs))
