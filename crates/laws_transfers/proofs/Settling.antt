-- What a world is once it has done what is due after an event: of one that moved its client alone, whatever its link is; of one whose server wants nothing.
use Rattle.std.proofs.Common.{◌≡◌, Bool, true, false, true≢false, [], ◌++◌, None, option_to_list, refl, sym, ap, ◌∙◌, append-nil}
use Rattle.std.specs.Prelude.{if◌then◌else◌}
use Rattle.ftp_client_model.specs.Calls.{data_closed, report_of}
use Rattle.ftp_server_model.specs.Calls.{close_step, listening_step}
use Rattle.ftp_server_model.specs.View.{View as Far}
use Rattle.laws_world.specs.Events.{is_closed_by_far}
use Rattle.laws_world.specs.Serving.{link_closed_by_far, link_closed_by_near, near_closes}
use Rattle.laws_world.specs.World.{ClosedByFar, ClosedByNear, Gone, Link, Opened, World, next_listen, port_at}
use Rattle.laws_drivers.proofs.control.Taken.{taken}
use Rattle.laws_drivers.specs.world.Ahead.{is_asked}
use Rattle.laws_drivers.proofs.world.Served.{far_shut, far_told, near_shut, settled}
use Rattle.laws_drivers.proofs.world.Settling.{far_idle, none_taken}
use Rattle.laws_transfers.proofs.Known.{is_near_held}

-- what lies between is the same
pub record Same (old new : World) : Type 0 where
  pub to_server : new.control_to_server ≡ old.control_to_server
  pub to_client : new.control_to_client ≡ old.control_to_client
  pub rising : new.data_to_server ≡ old.data_to_server
  pub falling : new.data_to_client ≡ old.data_to_client
  pub control : new.control ≡ old.control
  pub marks : new.marks ≡ old.marks
  pub cutoff : new.cutoff ≡ old.cutoff
  pub listens : new.listens ≡ old.listens

-- ---- the client moved

-- a link that the client holds then is one that it held, and it wanted no close
pub record NearSettles (old new : World) : Type 0 where
  pub near : new.near ≡ data_closed (taken old.near)
  pub far : new.far ≡ old.far
  pub reports : new.reports ≡ old.reports ++ option_to_list (report_of old.near)
  pub same : Same old new
  pub held : is_near_held new.link ≡ true → is_near_held old.link ≡ true
  pub closed : old.near.closing ≡ true → is_near_held new.link ≡ false
  pub stays : old.near.closing ≡ false → new.link ≡ old.link

-- its close is done
record Shuts (w u : World) : Type 0 where
  same : Same w u
  far : u.far ≡ w.far
  near : u.near ≡ data_closed w.near
  reports : u.reports ≡ w.reports
  held : is_near_held u.link ≡ true → is_near_held w.link ≡ true
  closed : w.near.closing ≡ true → is_near_held u.link ≡ false
  stays : w.near.closing ≡ false → u.link ≡ w.link

closes_same : (w : World) → w.near.closing ≡ true → (link : Link) → w.link ≡ link → (is_closed_by_far link ≡ true → w.data_to_server ≡ [])
    → w.data_to_client ≡ [] → Shuts w (link_closed_by_near link (record w { near = data_closed w.near }))
closes_same w closing Gone is none flat = record {
  same = record { to_server = refl; to_client = refl; rising = refl; falling = refl; control = refl; marks = refl; cutoff = refl; listens = refl };
  far = refl;
  near = refl;
  reports = refl;
  held = λ e. e;
  closed = λ e. ap is_near_held is;
  stays = λ e. refl;
}
closes_same w closing Opened is none flat = record {
  same = record { to_server = refl; to_client = refl; rising = refl; falling = refl; control = refl; marks = refl; cutoff = refl; listens = refl };
  far = refl;
  near = refl;
  reports = refl;
  held = λ e. absurd (true≢false (sym e));
  closed = λ e. refl;
  stays = λ e. absurd (true≢false (sym closing ∙ e));
}
closes_same w closing ClosedByNear is none flat = record {
  same = record { to_server = refl; to_client = refl; rising = refl; falling = refl; control = refl; marks = refl; cutoff = refl; listens = refl };
  far = refl;
  near = refl;
  reports = refl;
  held = λ e. e;
  closed = λ e. ap is_near_held is;
  stays = λ e. refl;
}
closes_same w closing ClosedByFar is none flat = record {
  same = record {
    to_server = refl;
    to_client = refl;
    rising = sym (none refl);
    falling = sym flat;
    control = refl;
    marks = refl;
    cutoff = refl;
    listens =
        refl;
  };
  far = refl;
  near = refl;
  reports = refl;
  held = λ e. absurd (true≢false (sym e));
  closed = λ e. refl;
  stays = λ e. absurd (true≢false (sym closing ∙ e));
}

shut_same : (w : World) → (is_closed_by_far w.link ≡ true → w.data_to_server ≡ []) → (w.near.closing ≡ true → w.data_to_client ≡ [])
    → Shuts w (near_shut w)
shut_same w none flat = by w.near.closing refl
  where
    by : (closing : Bool) → w.near.closing ≡ closing → Shuts w (if closing then near_closes w else w)
    by false is = record {
      same = record { to_server = refl; to_client = refl; rising = refl; falling = refl; control = refl; marks = refl; cutoff = refl; listens = refl };
      far = refl;
      near = ap (λ c. record w.near { closing = c }) is;
      reports = refl;
      held = λ e. e;
      closed = λ e. absurd (true≢false (sym e ∙ is));
      stays = λ e. refl;
    }
    by true is = closes_same w is w.link refl none (flat is)

pub near_settles : (w : World) → w.far.session.closing ≡ false → is_asked w.far.session.connection ≡ false
    → (is_closed_by_far w.link ≡ true → w.data_to_server ≡ []) → (w.near.closing ≡ true → w.data_to_client ≡ []) → NearSettles w (settled w)
near_settles w unclosed none left flat =
    let shut : Shuts w (near_shut w) = shut_same w left flat in
    let u : World = near_shut w in
    let idle : far_told (far_shut u) ≡ u =
    far_idle u (ap (λ (f : Far). f.session.closing) shut.far ∙ unclosed) (ap (λ (f : Far). is_asked f.session.connection) shut.far ∙ none) in
    let is : settled w ≡ record u { near = taken u.near; reports = u.reports ++ option_to_list (report_of u.near) } =
    ap (λ (x : World). record x { near = taken x.near; reports = x.reports ++ option_to_list (report_of x.near) }) idle in
    let link : (settled w).link ≡ u.link = ap (λ (x : World). x.link) is in
    record {
      near = ap (λ (x : World). x.near) is ∙ ap taken shut.near;
      far = ap (λ (x : World). x.far) is ∙ shut.far;
      reports = ap (λ (x : World). x.reports) is ∙ (λ i. shut.reports i ++ option_to_list (report_of (shut.near i)));
      same = record {
        to_server = ap (λ (x : World). x.control_to_server) is ∙ shut.same.to_server;
        to_client = ap (λ (x : World). x.control_to_client) is ∙ shut.same.to_client;
        rising = ap (λ (x : World). x.data_to_server) is ∙ shut.same.rising;
        falling = ap (λ (x : World). x.data_to_client) is ∙ shut.same.falling;
        control = ap (λ (x : World). x.control) is ∙ shut.same.control;
        marks = ap (λ (x : World). x.marks) is ∙ shut.same.marks;
        cutoff = ap (λ (x : World). x.cutoff) is ∙ shut.same.cutoff;
        listens = ap (λ (x : World). x.listens) is ∙ shut.same.listens;
      };
      held = λ e. shut.held (ap is_near_held (sym link) ∙ e);
      closed = λ e. ap is_near_held link ∙ shut.closed e;
      stays = λ e. link ∙ shut.stays e;
    }

-- ---- the server moved

-- where neither wants anything all stays
pub all_stays : (w : World) → report_of w.near ≡ None → w.near.closing ≡ false → w.far.session.closing ≡ false → is_asked w.far.session.connection ≡ false
    → settled w ≡ w
all_stays w none open_near open_far unasked =
    let first : near_shut w ≡ w = ap (λ c. if c then near_closes w else w) open_near in
    ap (λ (x : World).
    let y : World = far_told (far_shut x) in record y { near = taken y.near; reports = y.reports ++ option_to_list (report_of y.near) }) first
    ∙ ap (λ (y : World). record y { near = taken y.near; reports = y.reports ++ option_to_list (report_of y.near) }) (far_idle w open_far unasked)
    ∙ (λ i. record w { near = none_taken w.near none i; reports = (ap (λ r. w.reports ++ option_to_list r) none ∙ append-nil w.reports) i })

-- a link that the client holds then is one that it held
pub far_held : (w : World) → w.near.closing ≡ false → is_near_held (settled w).link ≡ true → is_near_held w.link ≡ true
far_held w open_near held =
    let first : near_shut w ≡ w = ap (λ c. if c then near_closes w else w) open_near in
    shut_held w.far.session.closing (told_held (is_asked (far_shut w).far.session.connection)
    (ap (λ (x : World). is_near_held (far_told (far_shut x)).link) (sym first) ∙ held))
  where
    told_held : (asked : Bool)
        → is_near_held (if asked then record (far_shut w) {
          far = listening_step (port_at (far_shut w).listens) (far_shut w).far;
          listens = next_listen
              (far_shut w).listens;
        }
        else far_shut w).link ≡ true → is_near_held (far_shut w).link ≡ true
    told_held true e = e
    told_held false e = e

    by_link : (link : Link) (u : World) → u.link ≡ link → is_near_held (link_closed_by_far link u).link ≡ true → is_near_held u.link ≡ true
    by_link Gone u is e = e
    by_link Opened u is e = ap is_near_held is
    by_link ClosedByNear u is e = absurd (true≢false (sym e))
    by_link ClosedByFar u is e = e

    shut_held : (closing : Bool) → is_near_held (if closing then link_closed_by_far w.link (record w { far = close_step w.far }) else w).link ≡ true
        → is_near_held w.link ≡ true
    shut_held true e = by_link w.link (record w { far = close_step w.far }) refl e
    shut_held false e = e
