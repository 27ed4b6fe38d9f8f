-- Whole events: where one was possible, and each of its stages was made, it happened.
use Rattle.std.proofs.Common.{◌≡◌, Bool, true, ap, subst, ◌∙◌}
use Rattle.std.specs.Prelude.{IsTrue, IfOk}
use Rattle.std.specs.declared.result.Result.{Result}
use Rattle.ftp_ends.specs.Link.{is_connecting}
use Rattle.ftp_client_model.specs.Calls as near
use Rattle.ftp_server_model.specs.Machine.{Reading}
use Rattle.laws_world.specs.Events.{Event, Queue, Happens, Open, Break, Refuse, End, EndControl, can_happen, ends_control, broken_by, link_opens, refused_by, told, lends_none}
use Rattle.laws_world.specs.Serving.{after_event}
use Rattle.laws_world.specs.World.{World, Broken, Refused, gone, with_mark}
use Rattle.ftp_pair_events.specs.events.Shown.{Steps}
use Rattle.ftp_pair_events.proofs.events.Marking.{break_marked, refuse_marked}

-- a wanted link opened
pub opened : (read : Reading) (old ready mid new : World) → IsTrue (can_happen Open old) → ready ≡ lends_none old → mid ≡ link_opens ready → new ≡ after_event mid → Happens read Open old true new
opened read old ready mid new can ready_is mid_is is = (can, is ∙ ap after_event (mid_is ∙ ap link_opens ready_is))

-- the link broke
pub broke : (read : Reading) (old ready mid new : World) → IsTrue (can_happen Break old) → ready ≡ lends_none (with_mark (Broken old.came) old) → mid ≡ gone (broken_by ready.link ready)
    → new ≡ after_event mid → Happens read Break old true new
broke read old ready mid new can ready_is mid_is is =
    (can, is ∙ ap after_event (mid_is ∙ ap (λ (w : World). gone (broken_by w.link w)) ready_is ∙ break_marked (Broken old.came) old))

-- a wanted link was refused
pub declined : (read : Reading) (old ready mid new : World) → IsTrue (can_happen Refuse old) → ready ≡ lends_none (with_mark Refused old) → mid ≡ refused_by (is_connecting (near.wants ready.near)) ready
    → new ≡ after_event mid → Happens read Refuse old true new
declined read old ready mid new can ready_is mid_is is =
    (can, is ∙ ap after_event (mid_is ∙ ap (λ (w : World). refused_by (is_connecting (near.wants w.near)) w) ready_is ∙ refuse_marked Refused (is_connecting (near.wants old.near)) old))

-- the control connection ended
pub was_cut : (read : Reading) (old ready mid new : World) → IsTrue (can_happen EndControl old) → ready ≡ lends_none old → mid ≡ ends_control ready → new ≡ after_event mid → Happens read EndControl old true new
was_cut read old ready mid new can ready_is mid_is is = (can, is ∙ ap after_event (mid_is ∙ ap ends_control ready_is))

-- the receiver of a queue was told that its sender has closed
pub was_told : (read : Reading) (queue : Queue) (old ready mid new : World) → IsTrue (can_happen (End queue) old) → ready ≡ lends_none old → mid ≡ told queue ready → new ≡ after_event mid
    → Happens read (End queue) old true new
was_told read queue old ready mid new can ready_is mid_is is = (can, is ∙ ap after_event (mid_is ∙ ap (told queue) ready_is))

-- an event by another name
pub stepped : {E : Type 0} {event same : Event} (result : Result Bool E) (was calm : Bool) (old new : World) → event ≡ same
    → IfOk result (λ possible. Steps was calm (λ read. Happens read event old possible new)) → IfOk result (λ possible. Steps was calm (λ read. Happens read same old possible new))
stepped result was calm old new is did = subst (λ e. IfOk result (λ possible. Steps was calm (λ read. Happens read e old possible new))) is did

-- one that takes no memory
pub stepped_on : {event same : Event} (possible was calm : Bool) (old new : World) → event ≡ same
    → Steps was calm (λ read. Happens read event old possible new) → Steps was calm (λ read. Happens read same old possible new)
stepped_on possible was calm old new is did = subst (λ e. Steps was calm (λ read. Happens read e old possible new)) is did

-- one that was possible
pub stepped_sure : {event same : Event} (possible was calm : Bool) (old new : World) → event ≡ same → possible ≡ can_happen event old → IsTrue (can_happen same old)
    → Steps was calm (λ read. Happens read event old possible new) → Steps was calm (λ read. Happens read same old true new)
stepped_sure {event = event} possible was calm old new is asked can did =
    stepped_on true was calm old new is (subst (λ b. Steps was calm (λ read. Happens read event old b new)) (asked ∙ ap (λ e. can_happen e old) is ∙ can) did)
