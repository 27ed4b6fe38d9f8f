-- What a world does for its ends after each event: wanted closes are done, a wanted listen gets its port, and the client's report
-- is taken.
use Rattle.std.specs.Prelude.{[], ◌∷◌, ◌++◌, Option, Some, None}
use Rattle.ftp_operation.specs.Answer.{Said}
use Rattle.ftp_client_model.specs.Calls as near
use Rattle.ftp_server_model.specs.Calls as far
use Rattle.ftp_ends.specs.declared.link.Wants.{Wants}
use Rattle.ftp_ends.specs.declared.link.Wants.TheVariants as Want
use Rattle.laws_world.specs.World.{World, Control, Stands, LeftByNear, LeftByFar, Parted, Link, Gone, Opened, ClosedByNear, ClosedByFar, gone, parted, port_at, next_listen}

-- ---- an end closes its side of the link: where both have, it is gone; where there is none, it was a port

-- the client's side is closed
abbrev pub link_closed_by_near : Link → World → World
link_closed_by_near Gone w = w
link_closed_by_near Opened w = record w { link = ClosedByNear }
link_closed_by_near ClosedByNear w = w
link_closed_by_near ClosedByFar w = gone w

-- the client is told that its close is done
abbrev pub near_closes : World → World
near_closes w = link_closed_by_near w.link (record w { near = near.data_closed w.near })

-- the server's side is closed
abbrev pub link_closed_by_far : Link → World → World
link_closed_by_far Gone w = w
link_closed_by_far Opened w = record w { link = ClosedByFar }
link_closed_by_far ClosedByNear w = gone w
link_closed_by_far ClosedByFar w = w

-- the server is told that its close is done
abbrev pub far_closes : World → World
far_closes w = link_closed_by_far w.link (record w { far = far.data_closed w.far })

-- ---- an end leaves the control connection

-- the client leaves; where the server has left, what was on its way is gone
abbrev pub left_by_near : Control → World → World
left_by_near Stands w = record w { control = LeftByNear }
left_by_near LeftByNear w = w
left_by_near LeftByFar w = parted w
left_by_near Parted w = w

-- the server leaves; where the client has left, what was on its way is gone
abbrev pub left_by_far : Control → World → World
left_by_far Stands w = record w { control = LeftByFar }
left_by_far LeftByNear w = parted w
left_by_far LeftByFar w = w
left_by_far Parted w = w

-- ---- an end is told the port that it listens at

-- the client is told its port, the next of all
abbrev pub near_listens : World → World
near_listens w = record w { near = near.listening (port_at w.listens) w.near; listens = next_listen w.listens }

-- the server is told its port, the next of all
abbrev pub far_listens : World → World
far_listens w = record w { far = far.listening (port_at w.listens) w.far; listens = next_listen w.listens }

-- ---- all that is wanted

-- by what the client wants; links and octets are events of their own
abbrev pub near_served_by : Wants → World → World
near_served_by Want.CloseData w = near_closes w
near_served_by Want.Listen w = near_listens w
near_served_by Want.CloseAll w = left_by_near w.control w
near_served_by other w = w

-- by what the server wants
abbrev pub far_served_by : Wants → World → World
far_served_by Want.CloseData w = far_closes w
far_served_by Want.Listen w = far_listens w
far_served_by Want.CloseAll w = left_by_far w.control w
far_served_by other w = w

-- one thing that the client wants now
abbrev pub near_served : World → World
near_served w = near_served_by (near.wants w.near) w

-- one thing that the server wants now
abbrev pub far_served : World → World
far_served w = far_served_by (far.wants w.far) w

-- a close, then a port, then leaving: nothing of the kind is wanted after three
abbrev pub served : World → World
served w = far_served (far_served (far_served (near_served (near_served (near_served w)))))

-- ---- the report

-- a report is taken off the client, and kept behind those before
abbrev pub collected_by : Option Said → World → World
collected_by None w = w
collected_by (Some answer) w = record w { near = near.reports w.near; reports = w.reports ++ answer ∷ [] }

-- the report of the client, if there is one
abbrev pub collected : World → World
collected w = collected_by (near.report_of w.near) w

-- after each event
abbrev pub after_event : World → World
after_event w = collected (served w)
