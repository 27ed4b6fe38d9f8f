-- The server's moment stays where it is: what is served behind an event, and octets of the control connection, leave it.
use Rattle.std.proofs.Common.{◌≡◌, ℕ, List, [], ◌∷◌, Option, Some, None, refl, ap, ◌∙◌}
use Rattle.ftp_operation.specs.Answer.{Said}
use Rattle.ftp_nvt.specs.Lines.{NvtEvent, line, too_long, owed}
use Rattle.ftp_client_model.specs.Calls as near
use Rattle.ftp_ends.specs.Ear.{ear_out, ear_step}
use Rattle.ftp_ends.specs.declared.link.Wants.{Wants}
use Rattle.ftp_ends.specs.declared.link.Wants.TheVariants as Want
use Rattle.ftp_server_model.specs.Calls as far
use Rattle.ftp_server_model.specs.Calls.{close_step, control_step, listening_step}
use Rattle.ftp_server_model.specs.Machine as machine
use Rattle.ftp_server_model.specs.Machine.{Reading, heard_event, heard_events}
use Rattle.ftp_server_model.specs.View.{View as Far, line_limit}
use Rattle.ftp_server_model.specs.declared.heard.HeardLine.TheVariants.{TooLong}
use Rattle.laws_world.specs.Events.{ControlToServer, ControlToClient, pulled, filled}
use Rattle.laws_world.specs.Serving.{near_served_by, far_served_by, near_served, far_served, served, link_closed_by_near, link_closed_by_far, left_by_near, left_by_far, collected_by, after_event}
use Rattle.laws_world.specs.World.{World, Link, Gone, Control, Stands, port_at}
use Rattle.laws_dialogues.proofs.Context.{line_context, waited_context}

-- ---- what is served

-- a close of the client leaves the server
near_link : (link : Link) (w : World) → (link_closed_by_near link w).far ≡ w.far
near_link Gone w = refl
near_link link w = refl

-- so does its leave
near_left : (control : Control) (w : World) → (left_by_near control w).far ≡ w.far
near_left Stands w = refl
near_left control w = refl

-- a client that is served leaves the server
near_by : (wants : Wants) (w : World) → (near_served_by wants w).far ≡ w.far
near_by Want.CloseData w = near_link w.link (record w { near = near.data_closed w.near })
near_by Want.Listen w = refl
near_by Want.CloseAll w = near_left w.control w
near_by wants w = refl

-- a close of the server leaves the server itself
far_link : (link : Link) (w : World) → (link_closed_by_far link w).far ≡ w.far
far_link Gone w = refl
far_link link w = refl

-- so does its leave
far_left : (control : Control) (w : World) → (left_by_far control w).far ≡ w.far
far_left Stands w = refl
far_left control w = refl

-- a server that is told that its close is done keeps its moment
closed_context : (f : Far) → (far.data_closed f).context ≡ f.context
unfolding far.data_closed
closed_context f = waited_context f.waiting (close_step f)

-- so does one that is told its port
listens_context : (port : ℕ) (f : Far) → (far.listening port f).context ≡ f.context
unfolding far.listening
listens_context port f = waited_context f.waiting (listening_step port f)

-- a server that is served keeps its moment
far_by : (wants : Wants) (w : World) → (far_served_by wants w).far.context ≡ w.far.context
far_by Want.CloseData w = ap (λ f. f.context) (far_link w.link (record w { far = far.data_closed w.far })) ∙ closed_context w.far
far_by Want.Listen w = listens_context (port_at w.listens) w.far
far_by Want.CloseAll w = ap (λ f. f.context) (far_left w.control w)
far_by wants w = refl

-- a served client keeps it
near_context : (w : World) → (near_served w).far.context ≡ w.far.context
near_context w = ap (λ f. f.context) (near_by (near.wants w.near) w)

-- a served server keeps it
far_context : (w : World) → (far_served w).far.context ≡ w.far.context
far_context w = far_by (far.wants w.far) w

-- all that is served keeps it
served_context : (w : World) → (served w).far.context ≡ w.far.context
served_context w =
    far_context (far_served (far_served (near_served (near_served (near_served w)))))
    ∙ far_context (far_served (near_served (near_served (near_served w))))
    ∙ far_context (near_served (near_served (near_served w)))
    ∙ near_context (near_served (near_served w)) ∙ near_context (near_served w) ∙ near_context w

-- a report that is taken leaves the server
collected_context : (report : Option Said) (w : World) → (collected_by report w).far ≡ w.far
collected_context None w = refl
collected_context (Some said) w = refl

-- behind an event it is where it was
pub after_context : (w : World) → (after_event w).far.context ≡ w.far.context
after_context w = ap (λ f. f.context) (collected_context (near.report_of (served w).near) (served w)) ∙ served_context w

-- ---- octets of the control connection

-- what an octet says keeps the moment
one_context : (read : Reading) (event : NvtEvent) (f : Far) → (heard_event read event f).context ≡ f.context
one_context read (line text) f = line_context (read text) f
one_context read too_long f = line_context TooLong f
one_context read (owed answer) f = refl

-- so does a row of it
event_context : (read : Reading) (events : List NvtEvent) (f : Far) → (heard_events read events f).context ≡ f.context
event_context read [] f = refl
event_context read (event ∷ events) f = event_context read events (heard_event read event f) ∙ one_context read event f

-- so does an octet
octet_context : (read : Reading) (f : Far) (octet : ℕ) → (machine.hears_octet read f octet).context ≡ f.context
unfolding machine.hears_octet
octet_context read f octet = event_context read (ear_out line_limit f.ear octet) (record f { ear = ear_step line_limit f.ear octet })

-- so do octets
pub hears_context : (read : Reading) (octets : List ℕ) (f : Far) → (machine.hears read f octets).context ≡ f.context
hears_context read [] f = refl
hears_context read (octet ∷ octets) f = hears_context read octets (machine.hears_octet read f octet) ∙ octet_context read f octet

-- and octets that are given
gives_context : (count : ℕ) (f : Far) → (far.gives_control count f).context ≡ f.context
unfolding far.gives_control
gives_context count f = waited_context f.waiting (control_step count f)

-- calls that fill a queue
pub filled_server_context : (counts : List ℕ) (w : World) → (filled ControlToServer w counts).far.context ≡ w.far.context
filled_server_context [] w = refl
filled_server_context (count ∷ counts) w = filled_server_context counts (pulled ControlToServer w count)

-- and so do those of the server
pub filled_client_context : (counts : List ℕ) (w : World) → (filled ControlToClient w counts).far.context ≡ w.far.context
filled_client_context [] w = refl
filled_client_context (count ∷ counts) w = filled_client_context counts (pulled ControlToClient w count) ∙ gives_context count w.far

-- an output call of the server keeps it
pub gives_context_is : (count : ℕ) (f : Far) → (far.gives_control count f).context ≡ f.context
gives_context_is count f = gives_context count f
