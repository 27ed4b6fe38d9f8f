-- A client that is told that REST was refused leaves its link alone, of which the server made nothing: a world's server is told of that end at once.
use Rattle.std.proofs.Common.{◌≡◌, inl, inr, ℕ, true, false, true≢false, List, [], None, refl, sym, ap, subst, ◌∙◌, append-nil}
use Rattle.std.specs.Prelude.{if◌then◌else◌}
use Rattle.ftp_client_model.specs.Calls as near
use Rattle.ftp_client_model.specs.Calls.{is_busy, is_busy_job}
use Rattle.ftp_client_model.specs.View.{View as Near}
use Rattle.ftp_client_model.specs.declared.client.Standing.TheVariants as Standings
use Rattle.ftp_direct.specs.Direct.{State}
use Rattle.ftp_server_model.specs.Calls as far
use Rattle.ftp_server_model.specs.Calls.{close_step, is_upload}
use Rattle.ftp_server_model.specs.Machine.{IsReading, Reading}
use Rattle.ftp_server_model.specs.View.{Transfer, View as Far}
use Rattle.ftp_server_model.specs.declared.session.ServerLink.{ServerLink}
use Rattle.ftp_server_model.specs.declared.session.ServerLink.TheVariants as Data
use Rattle.laws_world.specs.Agreement.{Order}
use Rattle.laws_world.specs.Events.{is_closed_by_near}
use Rattle.laws_world.specs.World.{ClosedByFar, ClosedByNear, Gone, Link, Opened, Stands, World, gone, port_at}
use Rattle.laws_agreement.specs.Over.{OverRuns}
use Rattle.laws_agreement.specs.Runs.{AtClosed, IsTrailing}
use Rattle.laws_agreement.proofs.OverRunning.{over_lead}
use Rattle.laws_agreement.proofs.Still.{IsSeen, seen_placed}
use Rattle.laws_drivers.proofs.control.Worlds.{LeadsOn}
use Rattle.laws_drivers.specs.world.Ahead.{is_asked}
use Rattle.laws_drivers.proofs.world.Known.{beside}
use Rattle.laws_drivers.proofs.world.Moves.{Rested}
use Rattle.laws_drivers.proofs.world.Rising.{far_ends}
use Rattle.laws_drivers.proofs.world.Served.{settled}
use Rattle.laws_transfers.specs.Ahead.{Listened, far_ahead, without_connection}
use Rattle.laws_transfers.specs.Actions.{AreGranted}
use Rattle.laws_transfers.proofs.Ahead.{FarSettles, far_settles, next_ahead}
use Rattle.laws_transfers.proofs.Halting.{halt_unclosed}
use Rattle.laws_transfers.proofs.Known.{AreCarried, Known, is_near_held, is_ready, last_carried, stage_known}
use Rattle.laws_transfers.proofs.Left.{end_freed}
use Rattle.laws_transfers.proofs.Settling.{far_held}
use Rattle.laws_transfers.proofs.Twins.{HasTwin, gone_far, gone_link, parted}

-- ---- small steps

left_near : (link : Link) → is_closed_by_near link ≡ true → link ≡ ClosedByNear
left_near ClosedByNear e = refl
left_near Gone e = absurd (true≢false (sym e))
left_near Opened e = absurd (true≢false (sym e))
left_near ClosedByFar e = absurd (true≢false (sym e))

pub ready_is : (link : ServerLink Transfer) → is_ready link ≡ true → link ≡ Data.Ready
ready_is Data.Ready e = refl
ready_is Data.Free e = absurd (true≢false (sym e))
ready_is (Data.Asked verb) e = absurd (true≢false (sym e))
ready_is (Data.Active endpoint) e = absurd (true≢false (sym e))
ready_is Data.Passive e = absurd (true≢false (sym e))
ready_is (Data.Opening transfer way) e = absurd (true≢false (sym e))
ready_is (Data.Transferring transfer) e = absurd (true≢false (sym e))

-- it takes no octets
pub ready_untaken : (link : ServerLink Transfer) → is_ready link ≡ true → is_upload link ≡ false
ready_untaken link e = ap is_upload (ready_is link e)

-- ---- a world

module _ (read : Reading) (reads : IsReading read) (from : State) (begun : List Order) (puts : AreCarried begun) (x : World)
    (runs : OverRuns read from begun x) (stands : x.control ≡ Stands)
    (left : is_closed_by_near x.link ≡ true) (ready : is_ready x.far.session.connection ≡ true) (refused : AreGranted begun → ⊥) where
  -- it is one of which the client alone has closed the link
  trailing : IsTrailing from begun x
  trailing = by runs
    where
      taken_not : is_upload x.far.session.connection ≡ true → ⊥
      taken_not e = true≢false (sym e ∙ ready_untaken x.far.session.connection ready)

      by : OverRuns read from begun x → IsTrailing from begun x
      by (inl (inl f)) = absurd (true≢false (sym left ∙ ap is_closed_by_near f.unlinked.link))
      by (inl (inr (inl on))) =
          let f = on.fetching in
          let k : Known x = stage_known read f.now f.ask f.is_ask f.own x f.stands on.lasts in absurd (taken_not (k.closed left))
      by (inl (inr (inr (inl t)))) = t
      by (inl (inr (inr (inr on)))) =
          let h = on.halting in absurd (true≢false (sym left ∙ halt_unclosed h.now h.ask h.own x h.stands))
      by (inr (inl trying)) = absurd (last_carried trying.going.done _ begun trying.going.begun_is puts)
      by (inr (inr tailing)) = absurd (last_carried tailing.going.done _ begun tailing.going.begun_is puts)

  of : IsSeen trailing.stands.base x
  of = seen_placed (AtClosed trailing.now) x trailing.stands

  -- its client has no operation under way, and is logged in
  job_is : is_busy x.near ≡ false
  job_is = ap is_busy_job of.job ∙ ap (λ (n : Near). is_busy n) trailing.stands.here.near

  entered : x.near.standing ≡ Standings.Entered
  entered = of.standing ∙ ap (λ (n : Near). n.standing) trailing.stands.here.near

  none_given : near.to_give x.near ≡ []
  none_given =
      (λ i. near.given_of (if of.closing i then None else near.transfer_over (of.connection i) (of.job i)))
      ∙ ap (λ (n : Near). near.to_give n) trailing.stands.here.near

  -- no octet is on its way to it
  flat : x.data_to_client ≡ []
  flat = ap (λ (u : World). u.data_to_client) trailing.stands.is ∙ (beside trailing.stands.base trailing.stands.way trailing.stands.cut).2
      ∙ trailing.stands.here.to_client

  -- the server was told of the end
  pub record Parts : Type 0 where
    pub new : World
    pub leads : LeadsOn read [] x new
    pub near : new.near ≡ x.near
    pub far : new.far ≡ close_step (without_connection x.far)
    pub to_server : new.control_to_server ≡ x.control_to_server
    pub to_client : new.control_to_client ≡ x.control_to_client
    pub rising : new.data_to_server ≡ []
    pub falling : new.data_to_client ≡ []
    pub none_fell : x.data_to_client ≡ []
    pub listens : new.listens ≡ x.listens
    pub reports : new.reports ≡ x.reports
    pub control : new.control ≡ x.control
    pub marks : new.marks ≡ x.marks
    pub cutoff : new.cutoff ≡ x.cutoff
    pub unclosed : is_closed_by_near new.link ≡ false
    pub unheld : is_near_held new.link ≡ true → ⊥
    pub twin : HasTwin read begun new

  pub parts : Rested x → x.data_to_server ≡ [] → Parts
  parts r empty = record {
    new = settled now;
    leads = leads;
    near = f.near;
    far = f.far ∙ ap (λ (g : Far). far_ahead (next_ahead (is_asked g.session.connection) port) g) end;
    to_server = f.same.to_server;
    to_client = f.same.to_client;
    rising = f.same.data_to_server;
    falling = f.same.data_to_client;
    none_fell = flat;
    listens = none_listened;
    reports = f.reports;
    control = f.same.control;
    marks = f.same.marks;
    cutoff = f.same.cutoff;
    unclosed = f.same.link;
    unheld = λ e. true≢false (sym (far_held now r.near_open e));
    twin = parted read reads from begun puts (settled now) (f.same.control ∙ stands)
        (ap is_busy f.near ∙ job_is) (ap (λ (n : Near). n.standing) f.near ∙ entered) (gone_link now refl unclosed unasked)
        (gone_far now refl unclosed unasked ∙ ap (λ (g : Far). g.session.connection) end) refused
        (subst (λ l. OverRuns read from l (settled now)) (append-nil begun)
        (over_lead read reads from begun leads.events [] x (settled now) leads.timed runs leads.leads));
  }
    where
      end : far.data_end x.far ≡ without_connection x.far
      end = end_freed x.far r.far_open (ready_is x.far.session.connection ready) r.runs.none_waits

      now : World
      now = gone (record x { far = far.data_end x.far; taken = [] })

      f : FarSettles now (settled now)
      f = far_settles now r.none r.near_open refl

      port : ℕ
      port = port_at x.listens

      unclosed : now.far.session.closing ≡ false
      unclosed = ap (λ (g : Far). g.session.closing) end ∙ r.far_open

      unasked : is_asked now.far.session.connection ≡ false
      unasked = ap (λ (g : Far). is_asked g.session.connection) end

      none_listened : (settled now).listens ≡ x.listens
      none_listened = subst (λ a. Listened (next_ahead a port) x.listens (settled now).listens) unasked f.listens

      leads : LeadsOn read [] x (settled now)
      leads =
          far_ends read x r (left_near x.link left) empty none_given
          (record { running = ap (λ (g : Far). g.session.life) end ∙ r.runs.running; none_waits = ap (λ (g : Far). g.waiting) end ∙ r.runs.none_waits })
