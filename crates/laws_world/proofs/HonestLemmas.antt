-- On honest connections no operation has a mark, and the headline follows from agreement.
use Rattle.std.proofs.Common.{◌≡◌, ℕ, Bool, true, false, List, [], ◌∷◌, ◌++◌, Option, Some, None, refl, sym, subst}
use Rattle.ftp_operation.specs.Answer.{Said}
use Rattle.ftp_client_model.specs.Calls as near
use Rattle.ftp_server_model.specs.Calls as far
use Rattle.ftp_server_model.specs.Machine.{Reading}
use Rattle.ftp_ends.specs.declared.link.Wants.{Wants}
use Rattle.ftp_ends.specs.declared.link.Wants.TheVariants as Want
use Rattle.laws_world.specs.Agreement.{Order, Agrees, WorldAgrees, Leads, IsHonest, AreHonest}
use Rattle.laws_world.specs.Claims.{AreUnmarked, HeadlineFollows, world_of, state_of}
use Rattle.laws_world.specs.Events.{Queue, ControlToServer, ControlToClient, DataToServer, DataToClient, Event, Deliver, Open, Refuse, End, Break, EndControl, Next, Upload, pulled, pushed, filled, told, DeliversBy, Does, Happens}
use Rattle.laws_world.specs.Serving.{link_closed_by_near, link_closed_by_far, left_by_near, left_by_far, near_served_by, far_served_by, near_served, far_served, served, collected_by, after_event}
use Rattle.laws_world.specs.World.{World, Mark, Control, Stands, LeftByNear, LeftByFar, Parted, Link, Gone, Opened, ClosedByNear, ClosedByFar}
use Rattle.laws_world.proofs.AgreementLemmas.{unmarked_is_direct}

-- no mark, and no end of the control connection
pub record Clean (w : World) : Type 0 where
  pub marks : AreUnmarked w.marks
  pub cutoff : w.cutoff ≡ None

near_link_clean : (link : Link) (w : World) → Clean w → Clean (link_closed_by_near link w)
near_link_clean Gone w c = c
near_link_clean Opened w c = record { marks = c.marks; cutoff = c.cutoff }
near_link_clean ClosedByNear w c = c
near_link_clean ClosedByFar w c = record { marks = c.marks; cutoff = c.cutoff }

far_link_clean : (link : Link) (w : World) → Clean w → Clean (link_closed_by_far link w)
far_link_clean Gone w c = c
far_link_clean Opened w c = record { marks = c.marks; cutoff = c.cutoff }
far_link_clean ClosedByNear w c = record { marks = c.marks; cutoff = c.cutoff }
far_link_clean ClosedByFar w c = c

near_left_clean : (control : Control) (w : World) → Clean w → Clean (left_by_near control w)
near_left_clean Stands w c = record { marks = c.marks; cutoff = c.cutoff }
near_left_clean LeftByNear w c = c
near_left_clean LeftByFar w c = record { marks = c.marks; cutoff = c.cutoff }
near_left_clean Parted w c = c

far_left_clean : (control : Control) (w : World) → Clean w → Clean (left_by_far control w)
far_left_clean Stands w c = record { marks = c.marks; cutoff = c.cutoff }
far_left_clean LeftByNear w c = record { marks = c.marks; cutoff = c.cutoff }
far_left_clean LeftByFar w c = c
far_left_clean Parted w c = c

near_by_clean : (wants : Wants) (w : World) → Clean w → Clean (near_served_by wants w)
near_by_clean Want.Nothing w c = c
near_by_clean Want.Listen w c = record { marks = c.marks; cutoff = c.cutoff }
near_by_clean Want.Accept w c = c
near_by_clean (Want.Connect endpoint) w c = c
near_by_clean Want.Receive w c = c
near_by_clean Want.Send w c = c
near_by_clean Want.CloseData w c = near_link_clean w.link (record w { near = near.data_closed w.near }) (record { marks = c.marks; cutoff = c.cutoff })
near_by_clean Want.CloseAll w c = near_left_clean w.control w c

far_by_clean : (wants : Wants) (w : World) → Clean w → Clean (far_served_by wants w)
far_by_clean Want.Nothing w c = c
far_by_clean Want.Listen w c = record { marks = c.marks; cutoff = c.cutoff }
far_by_clean Want.Accept w c = c
far_by_clean (Want.Connect endpoint) w c = c
far_by_clean Want.Receive w c = c
far_by_clean Want.Send w c = c
far_by_clean Want.CloseData w c = far_link_clean w.link (record w { far = far.data_closed w.far }) (record { marks = c.marks; cutoff = c.cutoff })
far_by_clean Want.CloseAll w c = far_left_clean w.control w c

near_clean : (w : World) → Clean w → Clean (near_served w)
near_clean w c = near_by_clean (near.wants w.near) w c

far_clean : (w : World) → Clean w → Clean (far_served w)
far_clean w c = far_by_clean (far.wants w.far) w c

served_clean : (w : World) → Clean w → Clean (served w)
served_clean w c = far_clean _ (far_clean _ (far_clean _ (near_clean _ (near_clean _ (near_clean w c)))))

collected_clean : (answer : Option Said) (w : World) → Clean w → Clean (collected_by answer w)
collected_clean None w c = c
collected_clean (Some answer) w c = record { marks = c.marks; cutoff = c.cutoff }

settled_clean : (w : World) → Clean w → Clean (after_event w)
settled_clean w c = collected_clean (near.report_of (served w).near) (served w) (served_clean w c)

pulled_clean : (queue : Queue) (w : World) (count : ℕ) → Clean w → Clean (pulled queue w count)
pulled_clean ControlToServer w count c = record { marks = c.marks; cutoff = c.cutoff }
pulled_clean ControlToClient w count c = record { marks = c.marks; cutoff = c.cutoff }
pulled_clean DataToServer w count c = record { marks = c.marks; cutoff = c.cutoff }
pulled_clean DataToClient w count c = record { marks = c.marks; cutoff = c.cutoff }

pushed_clean : (read : Reading) (queue : Queue) (count : ℕ) (w : World) → Clean w → Clean (pushed read queue count w)
pushed_clean read ControlToServer count w c = record { marks = c.marks; cutoff = c.cutoff }
pushed_clean read ControlToClient count w c = record { marks = c.marks; cutoff = c.cutoff }
pushed_clean read DataToServer count w c = record { marks = c.marks; cutoff = c.cutoff }
pushed_clean read DataToClient count w c = record { marks = c.marks; cutoff = c.cutoff }

filled_clean : (queue : Queue) (w : World) (counts : List ℕ) → Clean w → Clean (filled queue w counts)
filled_clean queue w [] c = c
filled_clean queue w (count ∷ counts) c = filled_clean queue (pulled queue w count) counts (pulled_clean queue w count c)

told_clean : (queue : Queue) (w : World) → Clean w → Clean (told queue w)
told_clean ControlToServer w c = record { marks = c.marks; cutoff = c.cutoff }
told_clean ControlToClient w c = record { marks = c.marks; cutoff = c.cutoff }
told_clean DataToServer w c = record { marks = c.marks; cutoff = c.cutoff }
told_clean DataToClient w c = record { marks = c.marks; cutoff = c.cutoff }

more_unmarked : (marks : List (List Mark)) → AreUnmarked marks → AreUnmarked (marks ++ [] ∷ [])
more_unmarked [] unmarked = (refl, tt)
more_unmarked (mark ∷ marks) unmarked = (unmarked.0, more_unmarked marks unmarked.1)

delivers_clean : (zero_count : Bool) (read : Reading) (queue : Queue) (count : ℕ) (old new : World)
    → DeliversBy zero_count read queue count old new → Clean old → Clean new
delivers_clean true read queue count old new m c = subst Clean (sym m.is) (settled_clean _ (pulled_clean queue old m.gave c))
delivers_clean false read queue count old new d c =
    let full = filled_clean queue old d.counts c in
    subst Clean (sym d.is) (settled_clean _ (pushed_clean read queue d.taken _ (record { marks = full.marks; cutoff = full.cutoff })))

does_clean : (read : Reading) (event : Event) (old new : World) → IsHonest event → Does read event old new → Clean old → Clean new
does_clean read (Deliver queue count) old new honest does c = delivers_clean _ read queue count old new does c
does_clean read Open old new honest does c = subst Clean (sym does) (settled_clean _ (record { marks = c.marks; cutoff = c.cutoff }))
does_clean read Refuse old new honest does c = absurd honest
does_clean read (End queue) old new honest does c = subst Clean (sym does) (settled_clean _ (told_clean queue old c))
does_clean read Break old new honest does c = absurd honest
does_clean read EndControl old new honest does c = absurd honest
does_clean read (Next op moment) old new honest does c =
    subst Clean (sym does) (settled_clean _ (record { marks = more_unmarked old.marks c.marks; cutoff = c.cutoff }))
does_clean read (Upload upload moment) old new honest does c =
    subst Clean (sym does) (settled_clean _ (record { marks = more_unmarked old.marks c.marks; cutoff = c.cutoff }))

happens_clean : (read : Reading) (event : Event) (old new : World) (possible : Bool) → IsHonest event
    → Happens read event old possible new → Clean old → Clean new
happens_clean read event old new true honest happens c = does_clean read event _ new honest happens.1 (record { marks = c.marks; cutoff = c.cutoff })
happens_clean read event old new false honest happens c = subst Clean (sym happens.1) c

pub leads_clean : (read : Reading) (w : World) (events : List Event) (begun : List Order) (new : World) → AreHonest events
    → Leads read w events begun new → Clean w → Clean new
leads_clean read w [] begun new honest leads c = subst Clean (sym leads.1) c
leads_clean read w (event ∷ events) begun new honest leads c =
    leads_clean read leads.1 events leads.2 new honest.1 leads.5 (happens_clean read event w leads.1 leads.0 honest.0 leads.3 c)

pub headline_follows : HeadlineFollows
headline_follows agrees answered read is b fair events begun w timed leads honest single quiet =
    let clean = leads_clean read (world_of b) events begun w honest leads (record { marks = tt; cutoff = refl }) in
    let agree : WorldAgrees (state_of b) begun w = agrees read is b fair events begun w timed leads in
    let done = answered read is b fair events begun w timed leads quiet in
    let direct = unmarked_is_direct (state_of b) begun w.marks w.reports w.far.session.table single clean.marks done.reported
    (subst (λ cutoff. Agrees (state_of b) begun w.marks cutoff w.reports w.far.session.table) clean.cutoff agree) in
    record { reports = direct.0; table = direct.1 }
