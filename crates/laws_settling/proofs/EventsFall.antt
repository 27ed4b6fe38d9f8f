-- Each delivery, opening and end lowers the first number that it changes: all of them together.
use Rattle.std.proofs.Common.{◌≡◌, Bool, true, false, ◌==◌, ◌&&◌, refl, sym, subst}
use Rattle.std.specs.Prelude.{not}
use Rattle.ftp_server_model.specs.Machine.{Reading}
use Rattle.laws_world.specs.Claims.{IsSettling}
use Rattle.ftp_ends.specs.Octets.{has_octets}
use Rattle.laws_world.specs.Events.{Queue, ControlToServer, ControlToClient, DataToServer, DataToClient, Event, Deliver, Open, End, Does, can_happen, due, in_queue, is_closed, is_left_by_far, is_left_by_near, lends_none, link_opens, told}
use Rattle.laws_world.specs.World.{World, Control, LeftByNear, LeftByFar}
use Rattle.laws_settling.specs.Laws.{EventsFall}
use Rattle.laws_settling.specs.Steady.{AreApart, AsksNothing}
use Rattle.laws_settling.proofs.Moving.{Less, served_behind}
use Rattle.laws_settling.proofs.FarCallsApart.{data_end_apart}
use Rattle.laws_settling.proofs.Delivering.{delivery_falls, end_to_client, end_to_server, opens_apart, opens_less}
use Rattle.laws_settling.proofs.Leaving.{client_told, server_told}
use Rattle.laws_settling.proofs.NearApart as keeps
use Rattle.laws_settling.proofs.Possible.{lent_can}

-- the client has left
pub left_near : (control : Control) → is_left_by_near control ≡ true → control ≡ LeftByNear
left_near LeftByNear is = refl
left_near control is = absurd (cc)

-- the server has
pub left_far : (control : Control) → is_left_by_far control ≡ true → control ≡ LeftByFar
left_far LeftByFar is = refl
left_far control is = absurd (cc)

-- the first of three tests
closed_first : (closed a b : Bool) → (closed && a && b) ≡ true → closed ≡ true
closed_first true a b is = refl
closed_first false a b is = is

-- an end is told where the sender has closed
pub ended : (queue : Queue) (w : World) → can_happen (End queue) w ≡ true → is_closed queue w ≡ true
ended queue w can = closed_first (is_closed queue w) (not (has_octets (in_queue queue w))) (not (has_octets (due queue w))) can

-- nothing is lent
sound : (read : Reading) (event : Event) (w new : World) → AreApart w → AsksNothing w → IsSettling event → can_happen event w ≡ true → Does read event w new → Less new w
sound read (Deliver queue count) w new a asks settles can does = delivery_falls read queue count (count == 0) w new refl a asks can does
sound read Open w new a asks settles can does = served_behind w (link_opens w) new (opens_less w can) (opens_apart w a) does
sound read (End ControlToServer) w new a asks settles can does = subst (λ u. Less u w) (sym does) (server_told w (left_near w.control (ended ControlToServer w can)) a)
sound read (End ControlToClient) w new a asks settles can does = subst (λ u. Less u w) (sym does) (client_told w (left_far w.control (ended ControlToClient w can)) a)
sound read (End DataToServer) w new a asks settles can does =
    served_behind w (told DataToServer w) new (end_to_server w.link w refl (ended DataToServer w can)) (record { near = a.near; far = data_end_apart w.far a.far }) does
sound read (End DataToClient) w new a asks settles can does =
    served_behind w (told DataToClient w) new (end_to_client w.link w refl (ended DataToClient w can)) (record { near = (keeps.data_end_keep w.near).apart a.near; far = a.far }) does
sound read event w new a asks settles can does = absurd settles

-- so each of them falls
pub events_fall : EventsFall
events_fall read event w new a asks settles happens =
    sound read event (lends_none w) new (record { near = a.near; far = a.far }) asks settles (lent_can event w happens.0) happens.1
