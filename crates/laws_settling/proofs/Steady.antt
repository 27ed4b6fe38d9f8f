-- A session begins steady, and every event leaves a steady world steady.
use Rattle.std.proofs.Common.{◌≡◌, ℕ, zero, suc, List, [], ◌∷◌, ◌++◌, take, drop, Bool, true, false, ◌==◌, Option, Some, None, refl, sym, ap, subst, ◌∙◌, append_assoc}
use Rattle.ftp_ends.specs.Ear.{Ear}
use Rattle.ftp_ends.specs.Link.{is_connecting}
use Rattle.ftp_operation.specs.Answer.{Said}
use Rattle.ftp_client_model.specs.Calls as near
use Rattle.ftp_client_model.specs.Calls.{is_sound}
use Rattle.ftp_client_model.specs.View.{View as Near}
use Rattle.ftp_server_model.specs.Calls as far
use Rattle.ftp_server_model.specs.Machine.{Reading}
use Rattle.ftp_server_model.specs.Replies.{fixed_reply}
use Rattle.ftp_server_model.specs.View.{View as Far}
use Rattle.ftp_server_model.specs.declared.reply.FixedReply.TheVariants as Texts
use Rattle.laws_world.specs.Agreement.{Leads, Order}
use Rattle.laws_world.specs.Claims.{Beginning, SettlingFalls, world_of}
use Rattle.laws_world.specs.Events.{Queue, ControlToServer, ControlToClient, DataToServer, DataToClient, Event, Deliver, Open, Refuse, End, Break, EndControl, Next, Upload, DeliversBy, Does, begins_at_moment, broken_by, can_happen, ends_control, filled, lends_none, link_breaks, link_opens, link_refused, operation_begins, pulled, pushed, refused_by, taking, told, upload_begins}
use Rattle.laws_world.specs.Serving.{after_event, collected_by, far_closes, far_listens, far_served, left_by_far, link_closed_by_far, link_closed_by_near, near_closes, near_listens, near_served, served}
use Rattle.laws_world.specs.World.{World, Control, Stands, LeftByNear, Link, Gone, Opened, ClosedByNear, ClosedByFar, port_at}
use Rattle.laws_settling.specs.Laws.{EventsKeepSteady, StaysSteady}
use Rattle.laws_settling.specs.Steady.{AreApart, AskNothing, AsksNothing, FarIsApart, IsSteadyWorld, NearIsApart, has_client_left}
use Rattle.laws_settling.proofs.Asking.{ask_more, calm_reply, octet_place}
use Rattle.laws_settling.proofs.EventsFall.{ended, events_fall, left_near}
use Rattle.laws_settling.proofs.Possible.{lent_can}
use Rattle.laws_settling.proofs.Moving.{pull_apart, pull_asks}
use Rattle.laws_settling.proofs.FarCallsOwe as calm
use Rattle.laws_settling.proofs.FarLinesOwe.{Grows}
use Rattle.laws_settling.proofs.FarCallsApart.{clocked_apart, control_end_apart, data_end_apart, data_fault_apart, data_refused_apart}
use Rattle.laws_settling.proofs.Delivering.{lent_apart, opens_apart, push_apart}
use Rattle.laws_settling.proofs.Leaving.{far_closed_control, near_closed_control, near_failed}
use Rattle.laws_settling.proofs.NearApart.{Keeps}
use Rattle.laws_settling.proofs.NearApart as keeps
use Rattle.laws_settling.proofs.Served.{IsNearServed, closes, listens, leaves, rests, IsFarServed, far_shuts, far_hears, far_goes, far_rests, collects_served, far_closed_ends, far_is_served, far_served_is, near_closed_ends, near_is_served, near_left_ends, near_served_is}

-- what a step carries over
pub record Carries (w new : World) : Type 0 where
  pub near : is_sound new.near.standing ≡ true → (is_sound w.near.standing ≡ true) × (new.near.ear ≡ w.near.ear)
  pub far : Grows w.far new.far
  pub queue : new.control_to_client ≡ w.control_to_client
  pub control : new.control ≡ w.control

-- so it leaves the world steady
steady_by : (w new : World) → Carries w new → AreApart new → IsSteadyWorld w → IsSteadyWorld new
steady_by w new c apart s = record { apart = apart; asks = asks; on = λ sound. ap has_client_left c.control ∙ s.on (c.near sound).0 }
  where
    asks : AsksNothing new
    asks sound =
        let n = c.near sound in
        let whole = ask_more w.near.ear.place (w.control_to_client ++ w.far.owed) c.far.more (s.asks n.0) c.far.calm in
        let same : (w.control_to_client ++ w.far.owed) ++ c.far.more ≡ new.control_to_client ++ new.far.owed =
        append_assoc w.control_to_client w.far.owed c.far.more
        ∙ ap (λ owed. w.control_to_client ++ owed) (sym c.far.is)
        ∙ ap (λ queue. queue ++ new.far.owed) (sym c.queue) in
        subst (λ place. AskNothing place (new.control_to_client ++ new.far.owed)) (ap (λ (e : Ear). e.place) (sym n.1)) (subst (AskNothing w.near.ear.place) same whole)

-- where the client is not sound, only the close is left to look at
unsound_steady : (new : World) → AreApart new → is_sound new.near.standing ≡ false → IsSteadyWorld new
unsound_steady new apart is = record { apart = apart; asks = λ sound. absurd (true_false (is_sound new.near.standing) sound is); on = λ sound. absurd (true_false (is_sound new.near.standing) sound is) }
  where
    true_false : (b : Bool) → b ≡ true → b ≡ false → ⊥
    true_false b holds fails = absurd (cc)

-- a call of the client carries it over
by_near : (w : World) (n : Near) → Keeps w.near n → Carries w (record w { near = n })
by_near w n k = record { near = k.sound; far = calm.same w.far; queue = refl; control = refl }

-- a call of the server does
by_far : (w : World) (f : Far) → Grows w.far f → Carries w (record w { far = f })
by_far w f g = record { near = λ s. (s, refl); far = g; queue = refl; control = refl }

-- ---- what is served

-- a close of the client leaves the replies on their way
near_closed_queue : (link : Link) (w : World) → (link_closed_by_near link w).control_to_client ≡ w.control_to_client
near_closed_queue Gone w = refl
near_closed_queue link w = refl

-- so does one of the server
far_closed_queue : (link : Link) (w : World) → (link_closed_by_far link w).control_to_client ≡ w.control_to_client
far_closed_queue Gone w = refl
far_closed_queue link w = refl

-- another world of the same ends
carries_as : (w u new : World) → Carries w u → new.near ≡ u.near → new.far ≡ u.far → new.control_to_client ≡ u.control_to_client → new.control ≡ u.control → Carries w new
carries_as w u new c near_is far_is queue control = record {
  near = subst (λ (n : Near). is_sound n.standing ≡ true → (is_sound w.near.standing ≡ true) × (n.ear ≡ w.near.ear)) (sym near_is) c.near;
  far = subst (Grows w.far) (sym far_is) c.far;
  queue = queue ∙ c.queue;
  control = control ∙ c.control;
}

-- the client's close
near_closes_carries : (w : World) → Carries w (near_closes w)
near_closes_carries w =
    let u : World = record w { near = near.data_closed w.near } in
    let ends = near_closed_ends w.link u in
    carries_as w u (near_closes w) (record { near = λ s. (s, refl); far = calm.same w.far; queue = refl; control = refl }) ends.0 ends.1 (near_closed_queue w.link u) (near_closed_control w.link u)

-- the server's close
far_closes_carries : (w : World) → Carries w (far_closes w)
far_closes_carries w =
    let u : World = record w { far = far.data_closed w.far } in
    let ends = far_closed_ends w.link u in
    carries_as w u (far_closes w) (by_far w (far.data_closed w.far) (calm.data_closed_grows w.far)) ends.0 ends.1 (far_closed_queue w.link u) (far_closed_control w.link u)

-- a port for the client
listens_carries : (w : World) → Carries w (near_listens w)
listens_carries w = record { near = (keeps.listening_keep (port_at w.listens) w.near).sound; far = calm.same w.far; queue = refl; control = refl }

-- a port for the server
far_listens_carries : (w : World) → Carries w (far_listens w)
far_listens_carries w = record { near = λ s. (s, refl); far = calm.listening_grows (port_at w.listens) w.far; queue = refl; control = refl }

-- each thing that one look at the client does
near_cases : (w new : World) → IsSteadyWorld w → AreApart new → IsNearServed w new → IsSteadyWorld new
near_cases w new s a (closes is e) = steady_by w new (subst (Carries w) (sym e) (near_closes_carries w)) a s
near_cases w new s a (listens is e) = steady_by w new (subst (Carries w) (sym e) (listens_carries w)) a s
near_cases w new s a (leaves is sound e) =
    unsound_steady new a (ap (λ (u : World). is_sound u.near.standing) e ∙ ap (λ (n : Near). is_sound n.standing) (near_left_ends w.control w).0 ∙ sound)
near_cases w new s a (rests sound e) = subst IsSteadyWorld (sym e) s

-- one look at the client
near_served_steady : (w : World) → IsSteadyWorld w → IsSteadyWorld (near_served w)
near_served_steady w s = near_cases w (near_served w) s (near_is_served w s.apart).apart (near_served_is w)

-- a test has one outcome
off_now : {P : Type 0} (b : Bool) → b ≡ true → b ≡ false → P
off_now b holds fails = absurd (cc)

-- the server leaves
goes_steady : (control : Control) (w : World) → w.control ≡ control → IsSteadyWorld w → IsSteadyWorld (left_by_far control w)
goes_steady Stands w is s = record { apart = record { near = s.apart.near; far = s.apart.far }; asks = s.asks; on = λ sound. refl }
goes_steady LeftByNear w is s =
    let off : has_client_left w.control ≡ true = ap has_client_left is in
    record {
      apart = record { near = s.apart.near; far = s.apart.far };
      asks = λ sound. off_now (has_client_left w.control) off (s.on sound);
      on = λ sound. off_now (has_client_left w.control) off (s.on sound);
    }
goes_steady control w is s = s

-- each thing that one look at the server does
far_cases : (w new : World) → IsSteadyWorld w → AreApart new → IsFarServed w new → IsSteadyWorld new
far_cases w new s a (far_shuts is e) = steady_by w new (subst (Carries w) (sym e) (far_closes_carries w)) a s
far_cases w new s a (far_hears is e) = steady_by w new (subst (Carries w) (sym e) (far_listens_carries w)) a s
far_cases w new s a (far_goes is e) = subst IsSteadyWorld (sym e) (goes_steady w.control w refl s)
far_cases w new s a (far_rests undone e) = subst IsSteadyWorld (sym e) s

-- one look at the server
far_served_steady : (w : World) → IsSteadyWorld w → IsSteadyWorld (far_served w)
far_served_steady w s = far_cases w (far_served w) s (far_is_served w s.apart).apart (far_served_is w)

-- the report
collected_carries : (answer : Option Said) (w : World) → Carries w (collected_by answer w)
collected_carries None w = record { near = λ s. (s, refl); far = calm.same w.far; queue = refl; control = refl }
collected_carries (Some answer) w = record { near = (keeps.reports_keep w.near).sound; far = calm.same w.far; queue = refl; control = refl }

-- all six looks
served_steady : (w : World) → IsSteadyWorld w → IsSteadyWorld (served w)
served_steady w s =
    let a = near_served_steady (near_served (near_served w)) (near_served_steady (near_served w) (near_served_steady w s)) in
    far_served_steady _ (far_served_steady _ (far_served_steady (near_served (near_served (near_served w))) a))

-- what is served behind an event
pub after_steady : (w : World) → IsSteadyWorld w → IsSteadyWorld (after_event w)
after_steady w s =
    let all = served_steady w s in
    steady_by (served w) (after_event w) (collected_carries (near.report_of (served w).near) (served w)) (collects_served (served w) all.apart).apart all

-- ---- deliveries

-- octets go out
pull_steady : (queue : Queue) (count : ℕ) (w : World) → IsSteadyWorld w → IsSteadyWorld (pulled queue w count)
pull_steady ControlToServer count w s =
    steady_by w (pulled ControlToServer w count) (record { near = λ s. (s, refl); far = calm.same w.far; queue = refl; control = refl }) (pull_apart ControlToServer count w s.apart) s
pull_steady ControlToClient count w s = record { apart = pull_apart ControlToClient count w s.apart; asks = pull_asks count w s.asks; on = s.on }
pull_steady DataToServer count w s =
    steady_by w (pulled DataToServer w count) (record { near = (keeps.gives_data_keep count w.near).sound; far = calm.same w.far; queue = refl; control = refl })
    (pull_apart DataToServer count w s.apart) s
pull_steady DataToClient count w s =
    steady_by w (pulled DataToClient w count) (record { near = λ s. (s, refl); far = calm.gives_data_grows count w.far; queue = refl; control = refl })
    (pull_apart DataToClient count w s.apart) s

-- a queue is filled
fill_steady : (queue : Queue) (w : World) (counts : List ℕ) → IsSteadyWorld w → IsSteadyWorld (filled queue w counts)
fill_steady queue w [] s = s
fill_steady queue w (count ∷ counts) s = fill_steady queue (pulled queue w count) counts (pull_steady queue count w s)

-- a client that is sound was sound before it heard
heard_sound : (octets : List ℕ) (v : Near) → is_sound (near.hears v octets).standing ≡ true → is_sound v.standing ≡ true
heard_sound [] v sound = sound
heard_sound (octet ∷ octets) v sound = (octet_place v octet (heard_sound octets (near.hears_octet v octet) sound)).0

-- what is left of octets that ask nothing asks nothing
heard_asks : (n : ℕ) (queue more : List ℕ) (v : Near) → (is_sound v.standing ≡ true → AskNothing v.ear.place (queue ++ more))
    → is_sound (near.hears v (take n queue)).standing ≡ true → AskNothing (near.hears v (take n queue)).ear.place (drop n queue ++ more)
heard_asks zero queue more v asks sound = asks sound
heard_asks (suc n) [] more v asks sound = asks sound
heard_asks (suc n) (octet ∷ queue) more v asks sound = heard_asks n queue more (near.hears_octet v octet) next sound
  where
    next : is_sound (near.hears_octet v octet).standing ≡ true → AskNothing (near.hears_octet v octet).ear.place (queue ++ more)
    next heard =
        let was = octet_place v octet heard in
        let old = asks was.0 in
        subst (λ place. AskNothing place (queue ++ more)) (sym was.1) (record { none = old.none.1; rest = old.rest })

-- octets are taken
push_steady : (read : Reading) (queue : Queue) (count : ℕ) (w : World) → IsSteadyWorld w → IsSteadyWorld (pushed read queue count w)
push_steady read ControlToServer count w s =
    steady_by w (pushed read ControlToServer count w) (record { near = λ s. (s, refl); far = calm.hears_grows read (take count w.control_to_server) w.far; queue = refl; control = refl })
    (push_apart read ControlToServer count w s.apart) s
push_steady read ControlToClient count w s = record {
  apart = push_apart read ControlToClient count w s.apart;
  asks = λ sound. heard_asks count w.control_to_client w.far.owed w.near s.asks sound;
  on = λ sound. s.on (heard_sound (take count w.control_to_client) w.near sound);
}
push_steady read DataToServer count w s =
    steady_by w (pushed read DataToServer count w) (record { near = λ s. (s, refl); far = calm.receives_grows (take count w.data_to_server) w.far; queue = refl; control = refl })
    (push_apart read DataToServer count w s.apart) s
push_steady read DataToClient count w s =
    steady_by w (pushed read DataToClient count w)
    (record { near = (keeps.receives_keep (take count w.data_to_client) w.near w.near (keeps.same w.near)).sound; far = calm.same w.far; queue = refl; control = refl })
    (push_apart read DataToClient count w s.apart) s

-- octets are lent
taking_steady : (queue : Queue) (count : ℕ) (w : World) → IsSteadyWorld w → IsSteadyWorld (taking queue count w)
taking_steady queue count w s = record { apart = lent_apart queue count w s.apart; asks = s.asks; on = s.on }

-- a delivery
delivery_steady : (none : Bool) (read : Reading) (queue : Queue) (count : ℕ) (w new : World) → IsSteadyWorld w → DeliversBy none read queue count w new → IsSteadyWorld new
delivery_steady true read queue count w new s m = subst IsSteadyWorld (sym m.is) (after_steady (pulled queue w m.gave) (pull_steady queue m.gave w s))
delivery_steady false read queue count w new s d =
    let u : World = filled queue w d.counts in
    subst IsSteadyWorld (sym d.is) (after_steady (pushed read queue d.taken (taking queue d.taken u)) (push_steady read queue d.taken (taking queue d.taken u) (taking_steady queue d.taken u (fill_steady queue w d.counts s))))

-- ---- the link

-- an opening
opens_steady : (w : World) → IsSteadyWorld w → IsSteadyWorld (link_opens w)
opens_steady w s =
    steady_by w (link_opens w) (record { near = (keeps.data_opened_keep w.far.context.here w.near).sound; far = calm.data_opened_grows w.near.here w.far; queue = refl; control = refl }) (opens_apart w s.apart) s

-- a world with other marks
marked : (u new : World) → new.near ≡ u.near → new.far ≡ u.far → new.control_to_client ≡ u.control_to_client → new.control ≡ u.control → IsSteadyWorld u → IsSteadyWorld new
marked u new near_is far_is queue control s =
    steady_by u new (carries_as u u new (record { near = λ s. (s, refl); far = calm.same u.far; queue = refl; control = refl }) near_is far_is queue control)
    (record { near = subst (λ (n : Near). NearIsApart n) (sym near_is) s.apart.near; far = subst (λ (f : Far). FarIsApart f) (sym far_is) s.apart.far }) s

-- the end that connects is refused
refused_by_steady : (connects : Bool) (w : World) → IsSteadyWorld w → IsSteadyWorld (refused_by connects w)
refused_by_steady true w s =
    let k = keeps.data_refused_keep w.near in
    steady_by w (refused_by true w) (by_near w (near.data_refused w.near) k) (record { near = k.apart s.apart.near; far = s.apart.far }) s
refused_by_steady false w s =
    steady_by w (refused_by false w) (by_far w (far.data_refused w.far) (calm.data_refused_grows w.far)) (record { near = s.apart.near; far = data_refused_apart w.far s.apart.far }) s

-- a refusal
refused_steady : (w : World) → IsSteadyWorld w → IsSteadyWorld (link_refused w)
refused_steady w s = marked (refused_by (is_connecting (near.wants w.near)) w) (link_refused w) refl refl refl refl (refused_by_steady (is_connecting (near.wants w.near)) w s)

-- each end that has not closed the link is told
broken_steady : (link : Link) (w : World) → IsSteadyWorld w → IsSteadyWorld (broken_by link w)
broken_steady Gone w s = s
broken_steady Opened w s =
    let k = keeps.data_fault_keep w.near in
    steady_by w (broken_by Opened w) (record { near = k.sound; far = calm.data_fault_grows w.far; queue = refl; control = refl }) (record { near = k.apart s.apart.near; far = data_fault_apart w.far s.apart.far }) s
broken_steady ClosedByNear w s =
    steady_by w (broken_by ClosedByNear w) (by_far w (far.data_fault w.far) (calm.data_fault_grows w.far)) (record { near = s.apart.near; far = data_fault_apart w.far s.apart.far }) s
broken_steady ClosedByFar w s =
    let k = keeps.data_fault_keep w.near in
    steady_by w (broken_by ClosedByFar w) (by_near w (near.data_fault w.near) k) (record { near = k.apart s.apart.near; far = s.apart.far }) s

-- a break
breaks_steady : (w : World) → IsSteadyWorld w → IsSteadyWorld (link_breaks w)
breaks_steady w s = marked (broken_by w.link w) (link_breaks w) refl refl refl refl (broken_steady w.link w s)

-- ---- ends

-- an end is told
end_steady : (queue : Queue) (w : World) → can_happen (End queue) w ≡ true → IsSteadyWorld w → IsSteadyWorld (told queue w)
end_steady ControlToServer w can s =
    let off : has_client_left w.control ≡ true = ap has_client_left (left_near w.control (ended ControlToServer w can)) in
    record {
      apart = record { near = s.apart.near; far = control_end_apart w.far };
      asks = λ sound. off_now (has_client_left w.control) off (s.on sound);
      on = s.on;
    }
end_steady ControlToClient w can s =
    unsound_steady (told ControlToClient w) (record { near = (keeps.control_end_keep w.near).apart s.apart.near; far = s.apart.far }) (near_failed w.near)
end_steady DataToServer w can s =
    steady_by w (told DataToServer w) (record { near = λ s. (s, refl); far = calm.data_end_grows w.far; queue = refl; control = refl }) (record { near = s.apart.near; far = data_end_apart w.far s.apart.far }) s
end_steady DataToClient w can s =
    let k = keeps.data_end_keep w.near in
    steady_by w (told DataToClient w) (record { near = k.sound; far = calm.same w.far; queue = refl; control = refl }) (record { near = k.apart s.apart.near; far = s.apart.far }) s

-- the end of the control connection
ends_steady : (w : World) → IsSteadyWorld w → IsSteadyWorld (ends_control w)
ends_steady w s = unsound_steady (ends_control w) (record { near = (keeps.control_end_keep w.near).apart s.apart.near; far = control_end_apart w.far }) (near_failed w.near)

-- ---- an operation begins

-- an operation is begun
begins_steady : (moment : ℕ) (n : Near) (w : World) → Keeps w.near n → IsSteadyWorld w → IsSteadyWorld (begins_at_moment moment n w)
begins_steady moment n w k s =
    steady_by w (begins_at_moment moment n w) (record { near = k.sound; far = calm.clocked_grows moment w.far; queue = refl; control = refl })
    (record { near = k.apart s.apart.near; far = clocked_apart moment w.far s.apart.far }) s

-- ---- all events

-- what each event does
does_steady : (read : Reading) (event : Event) (w new : World) → can_happen event w ≡ true → IsSteadyWorld w → Does read event w new → IsSteadyWorld new
does_steady read (Deliver queue count) w new can s does = delivery_steady (count == 0) read queue count w new s does
does_steady read Open w new can s does = subst IsSteadyWorld (sym does) (after_steady (link_opens w) (opens_steady w s))
does_steady read Refuse w new can s does = subst IsSteadyWorld (sym does) (after_steady (link_refused w) (refused_steady w s))
does_steady read (End queue) w new can s does = subst IsSteadyWorld (sym does) (after_steady (told queue w) (end_steady queue w can s))
does_steady read Break w new can s does = subst IsSteadyWorld (sym does) (after_steady (link_breaks w) (breaks_steady w s))
does_steady read EndControl w new can s does = subst IsSteadyWorld (sym does) (after_steady (ends_control w) (ends_steady w s))
does_steady read (Next op moment) w new can s does =
    subst IsSteadyWorld (sym does) (after_steady (operation_begins op moment w) (begins_steady moment (near.starts op w.near) w (keeps.starts_keep op w.near) s))
does_steady read (Upload upload moment) w new can s does =
    subst IsSteadyWorld (sym does) (after_steady (upload_begins upload moment w) (begins_steady moment (near.uploads upload w.near) w (keeps.uploads_keep upload w.near) s))

-- so each event leaves the world steady
pub happens_steady : EventsKeepSteady
happens_steady read event true w new s happens =
    does_steady read event (lends_none w) new (lent_can event w happens.0) (record { apart = record { near = s.apart.near; far = s.apart.far }; asks = s.asks; on = s.on }) happens.1
happens_steady read event false w new s happens = subst IsSteadyWorld (sym happens.1) s

-- and so do events, one after the other
pub leads_steady : (read : Reading) (events : List Event) (begun : List Order) (w new : World) → IsSteadyWorld w → Leads read w events begun new → IsSteadyWorld new
leads_steady read [] begun w new s l = subst IsSteadyWorld (sym l.1) s
leads_steady read (event ∷ events) begun w new s l = leads_steady read events l.2 l.1 new (happens_steady read event l.0 w l.1 s l.3) l.5

-- a session begins steady: the greeting asks nothing
pub starts_steady : (b : Beginning) → IsSteadyWorld (world_of b)
starts_steady b = record {
  apart = record { near = λ is. absurd (cc); far = λ is. absurd (cc) };
  asks = λ sound. calm_reply (fixed_reply Texts.Ready);
  on = λ sound. refl;
}

-- so every world that a fair beginning leads to is steady
pub stays_steady : StaysSteady
stays_steady read reads b fair events begun w timed leads = leads_steady read events begun (world_of b) w (starts_steady b) leads

-- and falls
pub settling_falls : SettlingFalls
settling_falls read reads b fair events begun w timed leads event new settles happens =
    let s = leads_steady read events begun (world_of b) w (starts_steady b) leads in
    events_fall read event w new s.apart s.asks settles happens
