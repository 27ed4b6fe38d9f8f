-- A data connection over which a server gives breaks, and both ends are told at once: an event of a world tells both, and what was on its way is lost. So it is
-- at the drive that is told last.
use Rattle.std.proofs.Common.{◌≡◌, ℕ, Bool, true, false, true≢false, not, List, [], ◌++◌, None, option_to_list, refl, sym, ap, ap₂, subst, ◌∙◌, append-nil}
use Rattle.ftp_ports.specs.Actions.{Calls, Stand}
use Rattle.ftp_ports.specs.Machine.{Break}
use Rattle.ftp_client_driver.specs.Side.{client_side}
use Rattle.ftp_client_model.specs.Calls as near
use Rattle.ftp_client_model.specs.Calls.{data_closed, data_fault, report_of}
use Rattle.ftp_client_model.specs.View.{View as Near}
use Rattle.ftp_ends.specs.declared.link.Wants.TheVariants as Want
use Rattle.ftp_operation.specs.Answer.{Said}
use Rattle.ftp_server_driver.specs.alone.Side.{server_side}
use Rattle.ftp_server_model.specs.Calls as far
use Rattle.ftp_server_model.specs.Calls.{break_step, clock_step}
use Rattle.ftp_server_model.specs.Machine.{Reading, later}
use Rattle.ftp_server_model.specs.View.{View as Far}
use Rattle.ftp_server_model.specs.declared.session.ServerLink.TheVariants as Data
use Rattle.laws_world.specs.Agreement.{Order}
use Rattle.laws_world.specs.Events.{Break as Breaks, broken_by, is_gone, lends_none, link_breaks}
use Rattle.laws_world.specs.Serving.{after_event}
use Rattle.laws_world.specs.World.{Broken, Opened, World, gone, marked_last, port_at, with_mark}
use Rattle.laws_agreement.proofs.Chunks.{both_empty}
use Rattle.laws_drivers.specs.control.Alone.{ServerIsCalm}
use Rattle.laws_drivers.specs.control.Between.{Between}
use Rattle.laws_drivers.proofs.control.Calm.{first_is_calm}
use Rattle.laws_drivers.proofs.control.Taken.{reports_is, taken}
use Rattle.laws_drivers.proofs.control.Worlds.{LeadsOn, one_leads}
use Rattle.laws_drivers.specs.world.Ahead.{accepts, is_asked, is_open}
use Rattle.laws_drivers.proofs.world.Served.{Runs, after_settles, far_wants, rests, settled}
use Rattle.laws_drivers.proofs.events.FarForms.{Sending, giving, is_send, no_close, none_later, sending_of}
use Rattle.laws_drivers.proofs.events.Holding.{both, is_false}
use Rattle.laws_drivers.proofs.events.Stands.{ServerServes}
use Rattle.laws_transfers.specs.Ahead.{Ahead, Level, Listened, Listens, Opens, Parted, far_ahead, is_left}
use Rattle.laws_transfers.proofs.Aborting.{given_untaken}
use Rattle.laws_transfers.proofs.Ahead.{FarSettles, far_settles, next_ahead}
use Rattle.laws_transfers.proofs.Beside.{GoesTo, Takes, Together, is_taking}
use Rattle.laws_transfers.proofs.Known.{Known, is_giving, is_near_held}
use Rattle.laws_transfers.proofs.ServerGiving.{gives_octets}
use Rattle.laws_transfers.proofs.Settling.{far_held}
use Rattle.laws_breaks.proofs.downloads.Rows.{breaking}
use Rattle.laws_breaks.proofs.downloads.Laden.{Laden, laden_alike, laden_closed, laden_none, laden_open, laden_reports, laden_rests}
use Rattle.laws_breaks.proofs.downloads.Untold.{told}

-- ---- the server

-- a server that gave, once it was told of the break: it says 426
abbrev pub broke : Far → Far
broke v = record v { session = record v.session { connection = Data.Free; closing = false }; owed = v.owed ++ breaking }

-- so a break makes it
broke_is : (listed : Bool) (all : List ℕ) (v : Far) → break_step (giving listed all v) ≡ broke v
broke_is true all v = refl
broke_is false all v = refl

-- one that wants to give gives
pub record Sends (v : Far) : Type 0 where
  pub listed : Bool
  pub all : List ℕ
  pub is : v ≡ giving listed all v

-- by its data connection
sends_of : (at : Stand server_side) → ServerServes at.owner → far.wants at.owner.end.server.view ≡ Want.Send → Sends at.owner.end.server.view
sends_of at serves wants =
    let v : Far = at.owner.end.server.view in
    let open_now : v.session.closing ≡ false = no_close v Want.Send wants refl in
    let s : Sending v.session.connection = sending_of v.session.connection (ap is_send (sym (far_wants v serves.running open_now)) ∙ ap is_send wants) in
    record {
      listed = s.listed;
      all = s.all;
      is = λ i. record v { session = record v.session { connection = s.is i; closing = open_now i } };
    }

-- so it is, whatever the moment
pub broke_step : (at : Stand server_side) → ServerServes at.owner → far.wants at.owner.end.server.view ≡ Want.Send → (moment : ℕ)
    → break_step (clock_step moment at.owner.end.server.view) ≡ clock_step moment (broke at.owner.end.server.view)
broke_step at serves wants moment =
    let s = sends_of at serves wants in
    ap (λ f. break_step (clock_step moment f)) s.is ∙ broke_is s.listed s.all (clock_step moment at.owner.end.server.view)

-- what a drive's server holds that was told of it
pub told_is : (old new : Stand server_side) → ServerServes old.owner → ServerIsCalm old.owner new.owner → far.wants old.owner.end.server.view ≡ Want.Send
    → Calls {side = server_side} Break old new
    → (moment : ℕ) × (new.owner.end.server.view ≡ clock_step moment (broke old.owner.end.server.view))
told_is old new serves calm wants did =
    let v : Far = old.owner.end.server.view in
    let moment : ℕ = did.0.0.0 in
    let acts = did.0.0.3 in
    let calls = did.0.0.4 in
    let first : did.0.0.1.counts ≡ old.owner.end.server.counts =
    first_is_calm old.owner.end.server.counts did.0.0.1.counts new.owner.end.server.counts acts.counted calls.counted calm in
    let mid : did.0.0.1.view ≡ clock_step moment v = acts.done first ∙ none_later (clock_step moment v) serves.none_waits in
    let here : break_step (clock_step moment v) ≡ clock_step moment (broke v) = broke_step old serves wants moment in (
      moment,
      calls.done (calm ∙ sym first) ∙ ap (λ f. later (break_step f)) mid ∙ ap later here ∙ none_later (clock_step moment (broke v)) serves.none_waits,
    )

-- ---- a world whose drive's server gives

module _ (read : Reading) (begun : List Order) (server : Stand server_side) (client : Stand client_side) (reports : List Said) (w : World)
    (serves : ServerServes server.owner) (sends : far.wants server.owner.end.server.view ≡ Want.Send) where
  pub gave : Sends server.owner.end.server.view
  gave = sends_of server serves sends

  -- is ahead by nothing
  pub level : (moment : ℕ) (ahead : Ahead) (between : Between) (count : ℕ) → Together read begun moment ahead between count server client reports w
      → ahead ≡ Level
  level moment Level between count t = refl
  level moment (Listens port) between count t = absurd (both t.beside.fits (ap (λ (x : Far). is_asked x.session.connection) gave.is))
  level moment Opens between count t = absurd (both t.beside.fits (ap (λ (x : Far). accepts x.session.connection) gave.is))
  level moment (Parted true) between count t = absurd (both t.beside.fits (ap (λ (x : Far). is_left true x.session.connection) gave.is))
  level moment (Parted false) between count t = absurd (both t.beside.fits (ap (λ (x : Far). is_left false x.session.connection) gave.is))

  -- its server gives
  pub gives_far : (moment : ℕ) (between : Between) (count : ℕ) → Together read begun moment Level between count server client reports w
      → w.far ≡ giving gave.listed gave.all (clock_step moment server.owner.end.server.view)
  gives_far moment between count t = t.beside.far ∙ ap (λ f. clock_step moment (far_ahead Level f)) gave.is

  -- so it is seen in the world
  pub sends_far : (moment : ℕ) (ahead : Ahead) (between : Between) (count : ℕ) → Together read begun moment ahead between count server client reports w
      → is_giving w.far.session.connection ≡ true
  sends_far moment ahead between count t =
      ap (λ (f : Far). is_giving f.session.connection)
      (gives_far moment between count
      (subst (λ a. Together read begun moment a between count server client reports w) (level moment ahead between count t) t))
      ∙ gives_octets gave.listed gave.all

-- ---- both

module _ (read : Reading) (begun : List Order) (old new : Stand server_side) (before now : Stand client_side) (reports : List Said) (w : World)
    (serves : ServerServes old.owner) (sends : far.wants old.owner.end.server.view ≡ Want.Send) (known : Known w) (laden : Laden w.near)
    (link : w.link ≡ Opened) where
  abbrev v : Far
  v = old.owner.end.server.view

  abbrev u : Far
  u = new.owner.end.server.view

  abbrev n : Near
  n = before.owner.end.view

  abbrev s : Sends v
  s = gave read begun old before reports w serves sends

  -- the client is told, and the server
  abbrev then_near : Near
  then_near = near.data_fault w.near

  -- it is told so
  then_told : then_near ≡ told w.near
  then_told = laden.stays

  abbrev broken : World
  broken = record (gone (record w { near = then_near; far = far.data_fault w.far; taken = [] })) { marks = marked_last (Broken w.came) w.marks }

  module _ (moment : ℕ) (between next : Between) (told_here : ℕ) (t : Together read begun moment Level between told_here old before reports w) where
    wf : w.far ≡ giving s.listed s.all (clock_step moment v)
    wf = gives_far read begun old before reports w serves sends moment between told_here t

    -- a break makes this of the world's server
    fault : far.data_fault w.far ≡ clock_step moment (broke v)
    unfolding far.data_fault
    fault =
        ap (λ f. later (break_step f)) wf ∙ ap later (broke_is s.listed s.all (clock_step moment v))
        ∙ none_later (clock_step moment (broke v)) serves.none_waits

    -- nothing goes to the server
    none_rises : w.data_to_server ≡ []
    none_rises =
        known.still (given_untaken w.far.session.connection (sends_far read begun old before reports w serves sends moment Level between told_here t))

    -- so none of it is before the server, between, or unwritten
    pub none_there : (old.owner.channel.untold ≡ []) × (between.data_ways.to_server ≡ []) × (before.owner.channel.unwritten ≡ [])
    none_there =
        let ways = between.data_ways.to_server ++ before.owner.channel.unwritten in
        let one = both_empty old.owner.channel.untold ways (sym t.beside.rising ∙ none_rises) in
        let two = both_empty between.data_ways.to_server before.owner.channel.unwritten one.1 in
        (one.0, two.0, two.1)

    -- what the event does
    breaks : link_breaks (lends_none w) ≡ broken
    breaks = ap (λ l. with_mark (Broken w.came) (gone (broken_by l (lends_none w)))) link

    -- the server runs on
    runs : Runs broken.far
    runs = record {
      running = ap (λ (f : Far). f.session.life) fault ∙ serves.running;
      none_waits = ap (λ (f : Far). f.waiting) fault ∙ serves.none_waits;
    }

    -- the client wants nothing of the world
    near_rests : rests (near.wants (data_closed then_near)) ≡ true
    near_rests =
        ap (λ m. rests (near.wants (data_closed m))) then_told ∙ ap (λ m. rests (near.wants m)) (laden_closed w.near laden)
        ∙ ap rests (laden_rests w.near laden)

    -- the event leads there
    leads : LeadsOn read [] w (settled broken)
    leads =
        one_leads read Breaks w (settled broken) tt (ap (λ l. not (is_gone l)) link, sym (ap after_event breaks ∙ after_settles broken near_rests runs))

    open_near : then_near.closing ≡ false
    open_near = ap (λ (m : Near). m.closing) then_told ∙ laden_open w.near laden

    none_near : report_of then_near ≡ None
    none_near = ap report_of then_told ∙ (laden_alike w.near laden).0 ∙ laden_none w.near laden

    f : FarSettles broken (settled broken)
    f = far_settles broken none_near open_near refl

    unasked : is_asked broken.far.session.connection ≡ false
    unasked = ap (λ (x : Far). is_asked x.session.connection) fault

    -- nobody has the link then
    held_not : is_near_held (settled broken).link ≡ true → ⊥
    held_not e = true≢false (sym (far_held broken open_near e))

    -- nothing is due of the client
    near_done : data_closed (taken then_near) ≡ then_near
    near_done =
        ap (λ m. data_closed (taken m)) then_told ∙ ap data_closed (sym (reports_is (told w.near)) ∙ laden_reports w.near laden) ∙ laden_closed w.near laden
        ∙ sym then_told

    module _ (at : ℕ) (far_is : u ≡ clock_step at (broke v)) (near_was : w.near ≡ n) (near_is : now.owner.end.view ≡ data_fault n)
        (heard : new.unheard ≡ old.unheard) (unheard : now.unheard ≡ before.unheard) (control : next.control ≡ between.control)
        (ways : next.data_ways.to_server ≡ between.data_ways.to_server) (untold : new.owner.channel.untold ≡ []) (dry : new.owner.channel.unwritten ≡ [])
        (not_taking : is_taking now.owner.channel ≡ false) (takes : Takes now.owner.channel) (written : now.owner.channel.unwritten ≡ []) where
      view_is : now.owner.end.view ≡ then_near
      view_is = near_is ∙ ap data_fault (sym near_was)

      free : u.session.connection ≡ Data.Free
      free = ap (λ (x : Far). x.session.connection) far_is

      reported : w.reports ≡ (reports ++ []) ++ option_to_list (report_of now.owner.end.view)
      reported =
          t.beside.reported ∙ ap (λ m. reports ++ option_to_list (report_of m)) (sym near_was) ∙ ap (λ o. reports ++ option_to_list o) (laden_none w.near laden)
          ∙ sym (append-nil (reports ++ [])) ∙ ap (λ o. (reports ++ []) ++ option_to_list o) (sym (ap report_of view_is ∙ none_near))

      pub both_broken : GoesTo read [] begun next told_here new now (reports ++ []) (marked_last (Broken w.came) w.marks) w
      both_broken =
          let b = t.beside in
          let port : ℕ = port_at w.listens in
          record {
            world = settled broken;
            leads = leads;
            moment = moment;
            ahead = Level;
            marked = f.same.marks;
            together = record {
              beside = record {
                fits = ap is_asked free;
                near = f.near ∙ sym near_done ∙ ap (λ m. data_closed (taken m)) (sym view_is);
                far = f.far ∙ ap (λ a. far_ahead (next_ahead a port) broken.far) unasked ∙ ap (far_ahead Level) fault
                    ∙ ap (λ x. clock_step moment (far_ahead Level x)) (sym far_is);
                to_server = f.same.to_server ∙ b.to_server ∙ ap₂ (λ h c. h ++ c.to_server) (sym heard) (sym control);
                to_client = f.same.to_client ∙ b.to_client ∙ ap₂ (λ h c. h ++ c.to_client) (sym unheard) (sym control);
                rising = f.same.data_to_server
                    ∙ sym (ap₂ (λ a o. a ++ o) untold (ap₂ (λ a o. a ++ o) (ways ∙ none_there.1) written));
                falling = λ e. absurd (both e not_taking);
                listens = subst (λ a. Listened (next_ahead a port) w.listens (settled broken).listens) unasked f.listens ∙ b.listens;
                reported = f.reports ∙ reported;
                control = f.same.control ∙ b.control;
                unready = λ e. absurd (both e f.same.link);
                cutoff = f.same.cutoff ∙ b.cutoff;
              };
              holds = record {
                shut = λ e. ap is_open free;
                had = λ e. absurd (both e (ap is_open free));
                called = λ c e. absurd (both e (ap accepts free));
                opened = λ e. absurd (true≢false (sym e));
              };
              comes = record { bare = λ e. untold; spare = λ e. untold; over = λ e. untold; shut = λ e. ap is_open free };
              serves = record { spare = λ e. dry; bare = λ e. dry };
              takes = takes;
              gives = record { spare = λ e. written; bare = λ e. written };
              keeping = record {
                had = λ e. absurd (held_not e);
                shut = λ e. is_false (is_near_held (settled broken).link) held_not;
                over = λ e. is_false (is_near_held (settled broken).link) held_not;
              };
              twin = λ e. absurd (true≢false (sym e));
            };
          }
