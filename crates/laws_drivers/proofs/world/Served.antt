-- What a world does for its ends after an event, where a close, a port and a report are all that may be due.
use Rattle.std.proofs.Common.{◌≡◌, ℕ, Bool, true, false, true≢false, ◌++◌, None, option_to_list, refl, sym, ap, ◌∙◌}
use Rattle.std.specs.Prelude.{if◌then◌else◌}
use Rattle.ftp_client_model.specs.Calls as near
use Rattle.ftp_ends.specs.declared.link.Wants.{Wants}
use Rattle.ftp_ends.specs.declared.link.Wants.TheVariants as Want
use Rattle.ftp_server_model.specs.Calls as far
use Rattle.ftp_server_model.specs.Calls.{close_step, listening_step, wants_of}
use Rattle.ftp_server_model.specs.Machine.{waited}
use Rattle.ftp_server_model.specs.View.{Transfer, View as Far}
use Rattle.ftp_server_model.specs.declared.session.Life.TheVariants as Lives
use Rattle.ftp_server_model.specs.declared.session.PassiveVerb.TheVariants as Asking
use Rattle.ftp_server_model.specs.declared.session.ServerLink.{ServerLink}
use Rattle.ftp_server_model.specs.declared.session.ServerLink.TheVariants as Data
use Rattle.ftp_server_model.specs.declared.session.Transfer.TheVariants as Transfers
use Rattle.ftp_server_model.specs.declared.session.Way.TheVariants as Ways
use Rattle.laws_world.specs.Serving.{after_event, collected, collected_by, far_served, far_served_by, link_closed_by_far, link_closed_by_near, near_closes, near_served, near_served_by}
use Rattle.laws_world.specs.World.{ClosedByFar, ClosedByNear, Gone, Link, Opened, World, next_listen, port_at}
use Rattle.laws_drivers.proofs.control.Taken.{taken}
use Rattle.laws_drivers.proofs.control.Worlds.{collected_is}
use Rattle.laws_drivers.specs.world.Ahead.{is_asked}

-- nothing that a world does after an event is wanted
abbrev pub rests : Wants → Bool
rests Want.CloseData = false
rests Want.Listen = false
rests Want.CloseAll = false
rests other = true

-- ---- the client

near_by : (q : Wants) (w : World) → rests q ≡ true → near_served_by q w ≡ w
near_by Want.CloseData w e = absurd (true≢false (sym e))
near_by Want.Listen w e = absurd (true≢false (sym e))
near_by Want.CloseAll w e = absurd (true≢false (sym e))
near_by q w e = refl

-- one that wants nothing of it
near_stays : (w : World) → rests (near.wants w.near) ≡ true → near_served (near_served (near_served w)) ≡ w
near_stays w e =
    let once : near_served w ≡ w = near_by (near.wants w.near) w e in
    ap (λ u. near_served (near_served u)) once ∙ ap near_served once ∙ once

-- a close is done, if it is wanted
abbrev pub near_shut : World → World
near_shut w = if w.near.closing then near_closes w else w

-- what a link is then is of no matter to the client
shut_near : (link : Link) (w : World) → (link_closed_by_near link w).near ≡ w.near
shut_near Gone w = refl
shut_near Opened w = refl
shut_near ClosedByNear w = refl
shut_near ClosedByFar w = refl

-- one that wants nothing of it, but perhaps a close
pub near_settles : (w : World) → rests (near.wants (near.data_closed w.near)) ≡ true → near_served (near_served (near_served w)) ≡ near_shut w
unfolding near.wants
near_settles w e = by w.near.closing refl
  where
    by : (closing : Bool) → w.near.closing ≡ closing → near_served (near_served (near_served w)) ≡ (if closing then near_closes w else w)
    by false is = near_stays w (ap (λ c. rests (near.wants (record w.near { closing = c }))) is ∙ e)
    by true is =
        let wants : near.wants w.near ≡ Want.CloseData = ap (λ c. near.wants (record w.near { closing = c })) is in
        let first : near_served w ≡ near_closes w = ap (λ q. near_served_by q w) wants in
        let next : rests (near.wants (near_closes w).near) ≡ true =
        ap (λ n. rests (near.wants n)) (shut_near w.link (record w { near = near.data_closed w.near })) ∙ e in
        let again : near_served (near_closes w) ≡ near_closes w = near_by (near.wants (near_closes w).near) (near_closes w) next in
        ap (λ u. near_served (near_served u)) first ∙ ap near_served again ∙ again

-- ---- the server

far_by : (q : Wants) (w : World) → rests q ≡ true → far_served_by q w ≡ w
far_by Want.CloseData w e = absurd (true≢false (sym e))
far_by Want.Listen w e = absurd (true≢false (sym e))
far_by Want.CloseAll w e = absurd (true≢false (sym e))
far_by q w e = refl

-- it runs, and no line waits
pub record Runs (v : Far) : Type 0 where
  pub running : v.session.life ≡ Lives.Running
  pub none_waits : v.waiting ≡ None

-- what one wants that runs, and wants no close
pub far_wants : (v : Far) → v.session.life ≡ Lives.Running → v.session.closing ≡ false → far.wants v ≡ wants_of v.session.connection
far_wants v running unclosed =
    let done = far.is_done v.session.life v.owed in
    ap (λ c. if c then Want.CloseData else (if done then Want.CloseAll else wants_of v.session.connection)) unclosed
    ∙ ap (λ l. if far.is_done l v.owed then Want.CloseAll else wants_of v.session.connection) running

-- a port aside, its data connection wants nothing of a world
link_rests : (link : ServerLink Transfer) → is_asked link ≡ false → rests (wants_of link) ≡ true
link_rests (Data.Asked verb) e = absurd (true≢false e)
link_rests Data.Free e = refl
link_rests (Data.Active endpoint) e = refl
link_rests Data.Passive e = refl
link_rests Data.Ready e = refl
link_rests (Data.Opening transfer Ways.Accept) e = refl
link_rests (Data.Opening transfer (Ways.Connect endpoint)) e = refl
link_rests (Data.Transferring (Transfers.Upload path keep d)) e = refl
link_rests (Data.Transferring Transfers.OverLimit) e = refl
link_rests (Data.Transferring (Transfers.Download rest)) e = refl
link_rests (Data.Transferring (Transfers.Listing rest)) e = refl

-- so it rests
pub far_rests : (v : Far) → v.session.life ≡ Lives.Running → v.session.closing ≡ false → is_asked v.session.connection ≡ false → rests (far.wants v) ≡ true
far_rests v running unclosed none = ap rests (far_wants v running unclosed) ∙ link_rests v.session.connection none

once_stays : (w : World) → rests (far.wants w.far) ≡ true → far_served w ≡ w
once_stays w e = far_by (far.wants w.far) w e

-- a close is done, if it is wanted; then a port is told, if it is wanted
abbrev pub far_shut : World → World
far_shut w = if w.far.session.closing then link_closed_by_far w.link (record w { far = close_step w.far }) else w

abbrev pub tells : World → World
tells w = record w { far = listening_step (port_at w.listens) w.far; listens = next_listen w.listens }

abbrev pub far_told : World → World
far_told w = if is_asked w.far.session.connection then tells w else w

shut_far : (link : Link) (w : World) → (link_closed_by_far link w).far ≡ w.far
shut_far Gone w = refl
shut_far Opened w = refl
shut_far ClosedByNear w = refl
shut_far ClosedByFar w = refl

-- who is told a port waits there
told_waits : (link : ServerLink Transfer) → is_asked link ≡ true → (port : ℕ) (v : Far) → v.session.life ≡ Lives.Running
    → rests (far.wants (listening_step port (record v { session = record v.session { connection = link; closing = false } }))) ≡ true
told_waits (Data.Asked Asking.Pasv) e port v running =
    far_rests (listening_step port (record v { session = record v.session { connection = Data.Asked Asking.Pasv; closing = false } })) running refl refl
told_waits (Data.Asked Asking.Epsv) e port v running =
    far_rests (listening_step port (record v { session = record v.session { connection = Data.Asked Asking.Epsv; closing = false } })) running refl refl
told_waits Data.Free e port v running = absurd (true≢false (sym e))
told_waits (Data.Active endpoint) e port v running = absurd (true≢false (sym e))
told_waits Data.Passive e port v running = absurd (true≢false (sym e))
told_waits Data.Ready e port v running = absurd (true≢false (sym e))
told_waits (Data.Opening transfer way) e port v running = absurd (true≢false (sym e))
told_waits (Data.Transferring transfer) e port v running = absurd (true≢false (sym e))

-- no line waits after it either
told_still : (link : ServerLink Transfer) (closing : Bool) (port : ℕ) (v : Far)
    → (listening_step port (record v { session = record v.session { connection = link; closing = closing } })).waiting ≡ v.waiting
told_still (Data.Asked Asking.Pasv) false port v = refl
told_still (Data.Asked Asking.Epsv) false port v = refl
told_still link true port v = refl
told_still link closing port v = refl

-- a world whose server wants no close, but perhaps a port
port_settles : (w : World) → Runs w.far → w.far.session.closing ≡ false
    → (far_served (far_served w) ≡ far_told w) × (far_served (far_told w) ≡ far_told w)
unfolding far.listening
port_settles w runs unclosed = by (is_asked w.far.session.connection) refl
  where
    v : Far
    v = w.far

    by : (asked : Bool) → is_asked v.session.connection ≡ asked
        → (far_served (far_served w) ≡ (if asked then tells w else w)) × (far_served (if asked then tells w else w) ≡ (if asked then tells w else w))
    by false none =
        let once : far_served w ≡ w = once_stays w (far_rests v runs.running unclosed none) in
        (ap far_served once ∙ once, once)
    by true asked =
        let port = port_at w.listens in
        let wants : far.wants v ≡ Want.Listen = far_wants v runs.running unclosed ∙ asked_wants v.session.connection asked in
        let still : far.listening port v ≡ listening_step port v =
        ap (λ q. waited q (listening_step port v)) (told_still v.session.connection v.session.closing port v ∙ runs.none_waits) in
        let first : far_served w ≡ tells w =
        ap (λ q. far_served_by q w) wants ∙ ap (λ (f : Far). record w { far = f; listens = next_listen w.listens }) still in
        let next : rests (far.wants (listening_step port v)) ≡ true =
        ap (λ c. rests (far.wants (listening_step port (record v { session = record v.session { closing = c } })))) unclosed
        ∙ told_waits v.session.connection asked port v runs.running in
        let again : far_served (tells w) ≡ tells w = once_stays (tells w) next in
        (ap far_served first ∙ again, again)
      where
        asked_wants : (link : ServerLink Transfer) → is_asked link ≡ true → wants_of link ≡ Want.Listen
        asked_wants (Data.Asked verb) e = refl
        asked_wants Data.Free e = absurd (true≢false (sym e))
        asked_wants (Data.Active endpoint) e = absurd (true≢false (sym e))
        asked_wants Data.Passive e = absurd (true≢false (sym e))
        asked_wants Data.Ready e = absurd (true≢false (sym e))
        asked_wants (Data.Opening transfer way) e = absurd (true≢false (sym e))
        asked_wants (Data.Transferring transfer) e = absurd (true≢false (sym e))

-- one that wants a close, a port, both or neither
pub far_settles : (w : World) → Runs w.far → far_served (far_served (far_served w)) ≡ far_told (far_shut w)
unfolding far.data_closed
far_settles w runs = by w.far.session.closing refl
  where
    by : (closing : Bool) → w.far.session.closing ≡ closing
        → far_served (far_served (far_served w)) ≡ far_told (if closing then link_closed_by_far w.link (record w { far = close_step w.far }) else w)
    by false unclosed =
        let port = port_settles w runs unclosed in
        ap far_served port.0 ∙ port.1
    by true shut =
        let u : World = link_closed_by_far w.link (record w { far = close_step w.far }) in
        let wants : far.wants w.far ≡ Want.CloseData =
        ap (λ c. far.wants (record w.far { session = record w.far.session { closing = c } })) shut in
        let closed : far.data_closed w.far ≡ close_step w.far = ap (λ q. waited q (close_step w.far)) runs.none_waits in
        let first : far_served w ≡ u =
        ap (λ q. far_served_by q w) wants ∙ ap (λ (f : Far). link_closed_by_far w.link (record w { far = f })) closed in
        let far_is : u.far ≡ close_step w.far = shut_far w.link (record w { far = close_step w.far }) in
        let next : Runs u.far = record {
          running = ap (λ (f : Far). f.session.life) far_is ∙ runs.running;
          none_waits = ap (λ (f : Far). f.waiting) far_is ∙ runs.none_waits;
        } in
        let port = port_settles u next (ap (λ (f : Far). f.session.closing) far_is) in
        ap (λ u. far_served (far_served u)) first ∙ port.0

-- ---- after an event

-- a world whose client wants at most a close, and whose server at most a close and a port; its report is taken
abbrev pub settled : World → World
settled w =
    let u : World = far_told (far_shut (near_shut w)) in record u { near = taken u.near; reports = u.reports ++ option_to_list (near.report_of u.near) }

pub after_settles : (w : World) → rests (near.wants (near.data_closed w.near)) ≡ true → Runs w.far → after_event w ≡ settled w
after_settles w asks runs =
    let first = near_settles w asks in
    let far_is : (near_shut w).far ≡ w.far = by w.near.closing in
    let next : Runs (near_shut w).far =
    record { running = ap (λ (f : Far). f.session.life) far_is ∙ runs.running; none_waits = ap (λ (f : Far). f.waiting) far_is ∙ runs.none_waits } in
    ap (λ u. collected (far_served (far_served (far_served u)))) first ∙ ap collected (far_settles (near_shut w) next)
    ∙ collected_is (far_told (far_shut (near_shut w)))
  where
    by_link : (link : Link) (u : World) → (link_closed_by_near link u).far ≡ u.far
    by_link Gone u = refl
    by_link Opened u = refl
    by_link ClosedByNear u = refl
    by_link ClosedByFar u = refl

    by : (closing : Bool) → (if closing then near_closes w else w).far ≡ w.far
    by false = refl
    by true = by_link w.link (record w { near = near.data_closed w.near })

-- a world neither of whose ends wants anything of it, and whose client has no report, stays as it is
pub after_stays : (w : World) → rests (near.wants w.near) ≡ true → rests (far.wants w.far) ≡ true → near.report_of w.near ≡ None → after_event w ≡ w
after_stays w asks serves none =
    let once : far_served w ≡ w = once_stays w serves in
    ap (λ u. collected (far_served (far_served (far_served u)))) (near_stays w asks)
    ∙ ap (λ u. collected (far_served (far_served u))) once ∙ ap (λ u. collected (far_served u)) once ∙ ap collected once
    ∙ ap (λ r. collected_by r w) none
