-- What a world is once it has done what is due after an event: of one that moved its client alone, and of one that moved its server alone.
use Rattle.std.proofs.Common.{◌≡◌, ℕ, Bool, true, false, true≢false, ◌++◌, Option, Some, None, option_to_list, refl, sym, ap, subst, ◌∙◌, append-nil}
use Rattle.std.specs.Prelude.{if◌then◌else◌}
use Rattle.ftp_operation.specs.Answer.{Said}
use Rattle.ftp_client_model.specs.Calls.{report_of, report_of_job}
use Rattle.ftp_client_model.specs.View.{Job, Told, View as Near}
use Rattle.ftp_server_model.specs.Calls.{close_step, listening_step}
use Rattle.ftp_server_model.specs.View.{Transfer, View as Far}
use Rattle.ftp_server_model.specs.declared.session.PassiveVerb.TheVariants as Asking
use Rattle.ftp_server_model.specs.declared.session.ServerLink.{ServerLink}
use Rattle.ftp_server_model.specs.declared.session.ServerLink.TheVariants as Data
use Rattle.laws_world.specs.Events.{is_closed_by_near}
use Rattle.laws_world.specs.Serving.{link_closed_by_far, near_closes}
use Rattle.laws_world.specs.World.{ClosedByNear, Link, Opened, World, next_listen, port_at}
use Rattle.laws_drivers.proofs.control.Taken.{taken}
use Rattle.laws_drivers.specs.world.Ahead.{WorldAhead, Fits, Level, ListenedAhead, Listens, far_world_ahead, is_asked}
use Rattle.laws_drivers.proofs.world.Ahead.{closed_is}
use Rattle.laws_drivers.proofs.world.Served.{far_shut, far_told, near_shut, settled}

-- a server with this data connection
abbrev at : ServerLink Transfer → Far → Far
at link v = record v { session = record v.session { connection = link } }

-- what lies between is the same, and none of it was left by the client alone
pub record Same (old new : World) : Type 0 where
  pub to_server : new.control_to_server ≡ old.control_to_server
  pub to_client : new.control_to_client ≡ old.control_to_client
  pub data_to_server : new.data_to_server ≡ old.data_to_server
  pub data_to_client : new.data_to_client ≡ old.data_to_client
  pub control : new.control ≡ old.control
  pub marks : new.marks ≡ old.marks
  pub cutoff : new.cutoff ≡ old.cutoff
  pub link : is_closed_by_near new.link ≡ false

-- a server that wants nothing of it stays
pub far_idle : (w : World) → w.far.session.closing ≡ false → is_asked w.far.session.connection ≡ false → far_told (far_shut w) ≡ w
far_idle w unclosed none =
    let first : far_shut w ≡ w = ap (λ c. if c then link_closed_by_far w.link (record w { far = close_step w.far }) else w) unclosed in
    ap far_told first
    ∙ ap (λ a. if a then record w { far = listening_step (port_at w.listens) w.far; listens = next_listen w.listens } else w) none

-- ---- the server moved

-- how a world's server is ahead of one that moved
abbrev pub next_ahead : (asked : Bool) → (port : ℕ) → WorldAhead
next_ahead true port = Listens port
next_ahead false port = Level

pub fits_next : (link : ServerLink Transfer) (port : ℕ) → Fits (next_ahead (is_asked link) port) link
fits_next (Data.Asked verb) port = refl
fits_next link port = refl

pub record FarSettles (old new : World) : Type 0 where
  pub near : new.near ≡ old.near
  pub far : new.far ≡ far_world_ahead (next_ahead (is_asked old.far.session.connection) (port_at old.listens)) old.far
  pub listens : ListenedAhead (next_ahead (is_asked old.far.session.connection) (port_at old.listens)) old.listens new.listens
  pub reports : new.reports ≡ old.reports
  pub same : Same old new

has_said : Option Said → Bool
has_said None = false
has_said (Some said) = true

-- a client that has no report is the same once that is taken
pub none_taken : (n : Near) → report_of n ≡ None → taken n ≡ n
unfolding has_said
none_taken n none = by n.job none
  where
    by : (job : Job) → report_of_job job ≡ None → taken (record n { job = job }) ≡ record n { job = job }
    by (Told answer) e = absurd (true≢false (ap has_said e))
    by job e = refl

-- its close is done
far_same : (w : World) → is_closed_by_near w.link ≡ false → Same w (far_shut w) × ((far_shut w).near ≡ w.near) × ((far_shut w).far ≡ close_step w.far)
    × ((far_shut w).listens ≡ w.listens) × ((far_shut w).reports ≡ w.reports)
far_same w unclosed = by w.far.session.closing refl
  where
    same_as : (far : Far) → let u : World = record w { far = far } in Same w u
    same_as far =
        record { to_server = refl; to_client = refl; data_to_server = refl; data_to_client = refl; control = refl; marks = refl; cutoff = refl; link = unclosed }

    by_link : (link : Link) → is_closed_by_near link ≡ false → let u : World = link_closed_by_far link (record w { far = close_step w.far }) in
        Same w u × (u.near ≡ w.near) × (u.far ≡ close_step w.far) × (u.listens ≡ w.listens) × (u.reports ≡ w.reports)
    by_link Opened one = (
      record { to_server = refl; to_client = refl; data_to_server = refl; data_to_client = refl; control = refl; marks = refl; cutoff = refl; link = refl },
      refl,
      refl,
      refl,
      refl,
    )
    by_link ClosedByNear one = absurd (true≢false one)
    by_link link one = (same_as (close_step w.far), refl, refl, refl, refl)

    by : (closing : Bool) → w.far.session.closing ≡ closing
        → let u : World = (if closing then link_closed_by_far w.link (record w { far = close_step w.far }) else w) in
        Same w u × (u.near ≡ w.near) × (u.far ≡ close_step w.far) × (u.listens ≡ w.listens) × (u.reports ≡ w.reports)
    by false is = (same_as w.far, refl, sym (closed_is w.far is), refl, refl)
    by true is = by_link w.link unclosed

-- then it is told a port, if it wants one
told_ahead : (link : ServerLink Transfer) (port : ℕ) (v : Far)
    → (if is_asked link then listening_step port (close_step (at link v)) else close_step (at link v)) ≡ far_world_ahead (next_ahead (is_asked link) port) (at link v)
told_ahead (Data.Asked Asking.Pasv) port v = refl
told_ahead (Data.Asked Asking.Epsv) port v = refl
told_ahead link port v = refl

-- a port is told or not
told_same : (w : World) → is_closed_by_near w.link ≡ false → Same w (far_told w) × ((far_told w).near ≡ w.near)
    × ((far_told w).far ≡ (if is_asked w.far.session.connection then listening_step (port_at w.listens) w.far else w.far))
    × ListenedAhead (next_ahead (is_asked w.far.session.connection) (port_at w.listens)) w.listens (far_told w).listens × ((far_told w).reports ≡ w.reports)
told_same w unclosed = by (is_asked w.far.session.connection)
  where
    by : (asked : Bool) → let u : World = (if asked then record w { far = listening_step (port_at w.listens) w.far; listens = next_listen w.listens } else w) in
        Same w u × (u.near ≡ w.near) × (u.far ≡ (if asked then listening_step (port_at w.listens) w.far else w.far))
        × ListenedAhead (next_ahead asked (port_at w.listens)) w.listens u.listens × (u.reports ≡ w.reports)
    by true = (
      record { to_server = refl; to_client = refl; data_to_server = refl; data_to_client = refl; control = refl; marks = refl; cutoff = refl; link = unclosed },
      refl,
      refl,
      (refl, refl),
      refl,
    )
    by false = (
      record { to_server = refl; to_client = refl; data_to_server = refl; data_to_client = refl; control = refl; marks = refl; cutoff = refl; link = unclosed },
      refl,
      refl,
      refl,
      refl,
    )

pub far_settles : (w : World) → report_of w.near ≡ None → w.near.closing ≡ false → is_closed_by_near w.link ≡ false → FarSettles w (settled w)
far_settles w none unclosed link =
    let first : near_shut w ≡ w = ap (λ c. if c then near_closes w else w) unclosed in
    let shut = far_same w link in
    let u : World = far_shut w in
    let told = told_same u shut.0.link in
    let t : World = far_told u in
    let near_is : t.near ≡ w.near = told.1 ∙ shut.1 in
    let is : settled w ≡ record t { near = taken t.near; reports = t.reports ++ option_to_list (report_of t.near) } =
    ap (λ (x : World).
    let y : World = far_told (far_shut x) in record y { near = taken y.near; reports = y.reports ++ option_to_list (report_of y.near) }) first in
    let far : t.far ≡ far_world_ahead (next_ahead (is_asked w.far.session.connection) (port_at w.listens)) w.far =
    told.2 ∙ (λ i. if is_asked (shut.2 i).session.connection then listening_step (port_at (shut.3 i)) (shut.2 i) else shut.2 i)
    ∙ told_ahead w.far.session.connection (port_at w.listens) w.far in
    record {
      near = ap (λ (x : World). x.near) is ∙ ap taken near_is ∙ none_taken w.near none;
      far = ap (λ (x : World). x.far) is ∙ far;
      listens = told_listens t is shut.2 shut.3 told.3;
      reports = ap (λ (x : World). x.reports) is ∙ (λ i. (told.4 ∙ shut.4) i ++ option_to_list (report_of (near_is i)))
          ∙ ap (λ r. w.reports ++ option_to_list r) none ∙ append-nil w.reports;
      same = record {
        to_server = ap (λ (x : World). x.control_to_server) is ∙ told.0.to_server ∙ shut.0.to_server;
        to_client = ap (λ (x : World). x.control_to_client) is ∙ told.0.to_client ∙ shut.0.to_client;
        data_to_server = ap (λ (x : World). x.data_to_server) is ∙ told.0.data_to_server ∙ shut.0.data_to_server;
        data_to_client = ap (λ (x : World). x.data_to_client) is ∙ told.0.data_to_client ∙ shut.0.data_to_client;
        control = ap (λ (x : World). x.control) is ∙ told.0.control ∙ shut.0.control;
        marks = ap (λ (x : World). x.marks) is ∙ told.0.marks ∙ shut.0.marks;
        cutoff = ap (λ (x : World). x.cutoff) is ∙ told.0.cutoff ∙ shut.0.cutoff;
        link = ap (λ (x : World). is_closed_by_near x.link) is ∙ told.0.link;
      };
    }
  where
    told_listens : (t : World) → settled w ≡ record t { near = taken t.near; reports = t.reports ++ option_to_list (report_of t.near) }
        → (far_shut w).far ≡ close_step w.far → (far_shut w).listens ≡ w.listens
        → ListenedAhead (next_ahead (is_asked (far_shut w).far.session.connection) (port_at (far_shut w).listens)) (far_shut w).listens t.listens
        → ListenedAhead (next_ahead (is_asked w.far.session.connection) (port_at w.listens)) w.listens (settled w).listens
    told_listens t is far listens told =
        subst (ListenedAhead (next_ahead (is_asked w.far.session.connection) (port_at w.listens)) w.listens) (sym (ap (λ (x : World). x.listens) is))
        (subst (λ n. ListenedAhead (next_ahead (is_asked w.far.session.connection) (port_at n)) n t.listens) listens
        (subst (λ (f : Far). ListenedAhead (next_ahead (is_asked f.session.connection) (port_at (far_shut w).listens)) (far_shut w).listens t.listens) far told))
