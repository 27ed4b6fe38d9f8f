-- A server that takes octets of an upload is told of the break of its data connection, which the client has left: an event of a world, by which it installs
-- what came, and which tells a client of a world that still gives, too.
use Rattle.std.proofs.Common.{◌≡◌, ℕ, true, false, true≢false, not, List, [], ◌++◌, None, option_to_list, refl, sym, ap, ap₂, subst, ◌∙◌}
use Rattle.ftp_ports.specs.Actions.{Calls, Stand}
use Rattle.ftp_ports.specs.Channel.{Channel, with_fate}
use Rattle.ftp_ports.specs.Machine.{Break}
use Rattle.ftp_ports.specs.declared.whole.Fate.TheVariants as Fates
use Rattle.ftp_client_driver.specs.Side.{client_side}
use Rattle.ftp_client_model.specs.Calls as near
use Rattle.ftp_client_model.specs.Calls.{data_closed, report_of}
use Rattle.ftp_client_model.specs.View.{View as Near}
use Rattle.ftp_ends.specs.declared.link.Wants.TheVariants as Want
use Rattle.ftp_operation.specs.Answer.{Said}
use Rattle.ftp_server_driver.specs.alone.Side.{server_side}
use Rattle.ftp_server_model.specs.Calls as far
use Rattle.ftp_server_model.specs.Calls.{break_step, clock_step, is_upload}
use Rattle.ftp_server_model.specs.Machine.{Reading, later}
use Rattle.ftp_server_model.specs.View.{View as Far}
use Rattle.ftp_server_model.specs.declared.session.ServerLink.TheVariants as Data
use Rattle.laws_world.specs.Agreement.{Order}
use Rattle.laws_world.specs.Events.{Break as Breaks, broken_by, is_gone, lends_none, link_breaks}
use Rattle.laws_world.specs.Serving.{after_event}
use Rattle.laws_world.specs.World.{Broken, World, gone, marked_last, port_at, with_mark}
use Rattle.laws_drivers.specs.control.Alone.{ServerIsCalm}
use Rattle.laws_drivers.specs.control.Between.{Between, Has_lost}
use Rattle.laws_drivers.proofs.control.Calm.{first_is_calm}
use Rattle.laws_drivers.proofs.control.Taken.{taken}
use Rattle.laws_drivers.proofs.control.Worlds.{LeadsOn, one_leads}
use Rattle.laws_drivers.specs.world.Ahead.{accepts, is_asked, is_open}
use Rattle.laws_drivers.proofs.world.Ahead.{closed_is}
use Rattle.laws_drivers.proofs.world.Served.{Runs, after_settles, far_wants, rests, settled}
use Rattle.laws_drivers.proofs.events.FarForms.{no_close, none_later}
use Rattle.laws_drivers.proofs.events.Holding.{both, is_false}
use Rattle.laws_drivers.proofs.events.Stands.{ServerServes}
use Rattle.laws_transfers.specs.Ahead.{Ahead, Level, Listened, Listens, Opens, Parted, far_ahead}
use Rattle.laws_transfers.proofs.Ahead.{FarSettles, far_settles, left_rests, next_ahead}
use Rattle.laws_transfers.proofs.Beside.{GoesTo, Takes, Together, is_taking}
use Rattle.laws_transfers.proofs.FarForms.{Takes as TakesUpload, is_receive, receives_upload, upload_takes}
use Rattle.laws_transfers.proofs.Known.{is_near_held}
use Rattle.laws_transfers.proofs.Settling.{far_held}
use Rattle.laws_breaks.proofs.downloads.Drained.{dried, dry as dry_channel}
use Rattle.laws_breaks.proofs.uploads.Concluded.{LetsGo, break_lets}

-- ---- the client that is left beside

-- a world's client after the break, and that of a drive: it has left its end, of which nothing comes and nothing is unwritten; and what lies between
pub record Remains (w : World) (client after : Stand client_side) (between next : Between) : Type 0 where
  pub view : Near
  pub told : broken_by w.link (lends_none w) ≡ record (lends_none w) { near = view; far = far.data_fault w.far }
  pub stands : is_gone w.link ≡ false
  pub holds : view ≡ data_closed (taken after.owner.end.view)
  pub none : report_of view ≡ None
  pub unclosed : view.closing ≡ false
  pub rest : rests (near.wants (data_closed view)) ≡ true
  pub reports : report_of after.owner.end.view ≡ report_of client.owner.end.view
  pub unheard : after.unheard ≡ client.unheard
  pub not_taking : is_taking after.owner.channel ≡ false
  pub takes : Takes after.owner.channel
  pub written : after.owner.channel.unwritten ≡ []
  pub control : next.control ≡ between.control
  pub dry : next.data_ways.to_server ≡ []
  pub lost : next.far ≡ Has_lost

module _ (read : Reading) (begun : List Order) (old new : Stand server_side) (client after : Stand client_side) (reports : List Said) (w : World)
    (calm : ServerIsCalm old.owner new.owner) (before : ServerServes old.owner) where
  abbrev v : Far
  v = old.owner.end.server.view

  abbrev u : Far
  u = new.owner.end.server.view

  -- one that wants octets takes those of an upload
  pub takes_octets : far.wants v ≡ Want.Receive → is_upload v.session.connection ≡ true
  takes_octets wants =
      sym (receives_upload v.session.connection) ∙ ap is_receive (sym (far_wants v before.running (no_close v Want.Receive wants refl)))
      ∙ ap is_receive wants

  pub takes_form : far.wants v ≡ Want.Receive → TakesUpload v.session.connection
  takes_form wants = upload_takes v.session.connection (takes_octets wants)

  module _ (moment : ℕ) (between next : Between) (told : ℕ) (did : Calls {side = server_side} Break old new) (wants : far.wants v ≡ Want.Receive)
      (timed : is_upload w.far.session.connection ≡ true → w.far.context.moment ≡ did.0.0.0)
      (t : Together read begun moment Level between told old client reports w) (r : Remains w client after between next)
      (none_untold : old.owner.channel.untold ≡ []) where
    unclosed : v.session.closing ≡ false
    unclosed = no_close v Want.Receive wants refl

    takes : is_upload v.session.connection ≡ true
    takes = takes_octets wants

    far_is : w.far ≡ clock_step moment v
    far_is = t.beside.far ∙ ap (clock_step moment) (closed_is v unclosed)

    -- at the moment that it was told
    far_at : w.far ≡ clock_step did.0.0.0 v
    far_at =
        far_is ∙ ap (λ m. clock_step m v) (sym (ap (λ (f : Far). f.context.moment) far_is)
        ∙ timed (ap (λ (f : Far). is_upload f.session.connection) far_is ∙ takes))

    -- the drive's server is told the same
    there : far.data_fault w.far ≡ u
    unfolding far.data_fault
    there =
        let acts = did.0.0.3 in
        let calls = did.0.0.4 in
        let first : did.0.0.1.counts ≡ old.owner.end.server.counts =
        first_is_calm old.owner.end.server.counts did.0.0.1.counts new.owner.end.server.counts acts.counted calls.counted calm in
        let mid : did.0.0.1.view ≡ clock_step did.0.0.0 v = acts.done first ∙ none_later (clock_step did.0.0.0 v) before.none_waits in
        ap (λ f. later (break_step f)) (far_at ∙ sym mid) ∙ sym (calls.done (calm ∙ sym first))

    lets : LetsGo (clock_step did.0.0.0 v) u
    unfolding far.data_fault
    lets =
        let f : Far = clock_step did.0.0.0 v in
        let l = break_lets f unclosed takes in
        subst (LetsGo f) (sym (sym there ∙ ap (λ x. later (break_step x)) far_at ∙ none_later (break_step f) (l.waiting ∙ before.none_waits))) l

    freed : u.session.connection ≡ Data.Free
    freed = lets.free

    runs : Runs u
    runs = record { running = lets.life ∙ before.running; none_waits = lets.waiting ∙ before.none_waits }

    -- the link is gone, and the operation is marked
    abbrev now : World
    now = record (gone (record (lends_none w) { near = r.view; far = far.data_fault w.far })) { marks = marked_last (Broken w.came) w.marks }

    breaks_now : link_breaks (lends_none w) ≡ now
    breaks_now = ap (λ x. with_mark (Broken w.came) (gone x)) r.told

    leads : LeadsOn read [] w (settled now)
    leads =
        one_leads read Breaks w (settled now) tt (
          ap not r.stands,
          sym (ap after_event breaks_now ∙ after_settles now r.rest (subst Runs (sym there) runs)),
        )

    s : FarSettles now (settled now)
    s = far_settles now r.none r.unclosed refl

    abbrev port : ℕ
    port = port_at w.listens

    unasked : is_asked (far.data_fault w.far).session.connection ≡ false
    unasked = ap (λ (x : Far). is_asked x.session.connection) there ∙ ap is_asked freed

    channel_then : new.owner.channel ≡ with_fate Fates.Broken old.owner.channel
    channel_then = did.0.1

    untold : new.owner.channel.untold ≡ []
    untold = ap (λ (l : Channel). l.untold) channel_then ∙ none_untold

    unwritten : (dry_channel new.owner.channel).unwritten ≡ []
    unwritten = ap (λ (l : Channel). (dry_channel l).unwritten) channel_then

    held_not : is_near_held (settled now).link ≡ true → ⊥
    held_not e = true≢false (sym (far_held now r.unclosed e))

    unheld : is_near_held (settled now).link ≡ false
    unheld = is_false (is_near_held (settled now).link) held_not

    pub server_cut : GoesTo read [] begun next told (dried new) after reports (marked_last (Broken w.came) w.marks) w
    server_cut =
        let b = t.beside in
        record {
          world = settled now;
          leads = leads;
          moment = u.context.moment;
          ahead = Level;
          marked = s.same.marks;
          together = record {
            beside = record {
              fits = ap is_asked freed;
              near = s.near ∙ r.holds;
              far = s.far ∙ ap (λ a. far_ahead (next_ahead a port) (far.data_fault w.far)) unasked ∙ ap (far_ahead Level) there;
              to_server = s.same.to_server ∙ b.to_server
                  ∙ ap₂ (λ (y : Stand server_side) c. y.unheard ++ c.to_server) (sym did.1) (sym r.control);
              to_client = s.same.to_client ∙ b.to_client ∙ ap₂ (λ o c. o ++ c.to_client) (sym r.unheard) (sym r.control);
              rising = s.same.data_to_server ∙ ap₂ (λ a o. [] ++ (a ++ o)) (sym r.dry) (sym r.written)
                  ∙ ap (λ o. o ++ (next.data_ways.to_server ++ after.owner.channel.unwritten)) (sym untold);
              falling = λ e. absurd (both e r.not_taking);
              listens = subst (λ a. Listened (next_ahead a port) w.listens (settled now).listens) unasked s.listens ∙ b.listens;
              reported = s.reports ∙ b.reported ∙ ap (λ o. reports ++ option_to_list o) (sym r.reports);
              control = s.same.control ∙ b.control;
              unready = λ e. absurd (both e s.same.link);
              cutoff = s.same.cutoff ∙ b.cutoff;
            };
            holds = record {
              shut = λ e. ap is_open freed;
              had = λ e. absurd (both e (ap is_open freed));
              called = λ c e. absurd (both e (ap accepts freed));
              opened = λ e. absurd (true≢false (sym e));
            };
            comes = record { bare = λ e. untold; spare = λ e. untold; over = λ e. untold; shut = λ e. ap is_open freed };
            serves = record { spare = λ e. unwritten; bare = λ e. unwritten };
            takes = r.takes;
            gives = record { spare = λ e. r.written; bare = λ e. r.written };
            keeping = record { had = λ e. absurd (held_not e); shut = λ e. unheld; over = λ e. unheld };
            twin = λ e. absurd (true≢false (sym e));
          };
        }

    pub cut_serves : ServerServes (dried new).owner
    cut_serves = record { running = runs.running; none_waits = runs.none_waits }

  -- a server that takes octets is ahead by nothing
  pub cut_at : (moment : ℕ) (ahead : Ahead) (between next : Between) (told : ℕ) (did : Calls {side = server_side} Break old new)
      → far.wants v ≡ Want.Receive
      → (is_upload w.far.session.connection ≡ true → w.far.context.moment ≡ did.0.0.0) → Together read begun moment ahead between told old client reports w
      → Remains w client after between next → old.owner.channel.untold ≡ []
      → GoesTo read [] begun next told (dried new) after reports (marked_last (Broken w.came) w.marks) w × ServerServes (dried new).owner
  cut_at moment Level between next told did wants timed t r none_untold = (
    server_cut moment between next told did wants timed t r none_untold,
    cut_serves moment between next told did wants timed t r none_untold,
  )
  cut_at moment Opens between next told did wants timed t r none_untold = absurd (both t.beside.fits (takes_form wants).alone)
  cut_at moment (Listens other) between next told did wants timed t r none_untold = absurd (both t.beside.fits (takes_form wants).unasked)
  cut_at moment (Parted accepted) between next told did wants timed t r none_untold =
      absurd (both (takes_octets wants) (left_rests accepted v.session.connection t.beside.fits).0)
