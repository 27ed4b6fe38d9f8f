-- A client that sent ABOR was told of a break, and a world's server has let the data connection go: there it takes all that is on its way, drops it, and is
-- told of the end (RFC 959, section 4.1.3).
use Rattle.std.proofs.Common.{◌≡◌, ℕ, ◌<◌, true, false, true≢false, List, [], ◌∷◌, ◌++◌, length, take, None, option_to_list}
use Rattle.std.proofs.Common.{refl, sym, ap, ap₂, subst, ◌∙◌, append-nil}
use Rattle.std.specs.Prelude.{if◌then◌else◌}
use Rattle.ftp_ends.specs.declared.link.Wants.TheVariants as Want
use Rattle.ftp_ports.specs.Actions.{Stand}
use Rattle.ftp_client_driver.specs.Side.{client_side}
use Rattle.ftp_client_model.specs.Calls as near
use Rattle.ftp_client_model.specs.Calls.{data_closed, data_end, data_fault, is_sound, receives, report_of}
use Rattle.ftp_client_model.specs.Dialogue.{carries_on, has_begun, is_unsent}
use Rattle.ftp_client_model.specs.View.{Transfer, Transferring, View as Near}
use Rattle.ftp_client_model.specs.declared.client.ClientLink.TheVariants as NearData
use Rattle.ftp_client_model.specs.declared.client.Ending.TheVariants as Endings
use Rattle.ftp_direct.specs.Direct.{State}
use Rattle.ftp_operation.specs.Answer.{Said}
use Rattle.ftp_operation.specs.declared.op.Op.{Op}
use Rattle.ftp_server_driver.specs.alone.Side.{server_side}
use Rattle.ftp_server_model.specs.Calls as far
use Rattle.ftp_server_model.specs.Machine.{IsReading, Reading}
use Rattle.ftp_server_model.specs.View.{View as Far}
use Rattle.ftp_server_model.specs.declared.session.ServerLink.TheVariants as Data
use Rattle.laws_world.specs.Agreement.{Order}
use Rattle.laws_world.specs.Events.{DataToClient, is_closed_by_far, is_closed_by_near, pushed}
use Rattle.laws_world.specs.World.{ClosedByFar, Gone, World, gone}
use Rattle.laws_dialogues.specs.Fetches.{busy, flow_after}
use Rattle.laws_agreement.specs.Over.{OverRuns}
use Rattle.laws_agreement.specs.PeekStages.{AtHalt, Gave, Gives, Halt, Halted, halt_abort, halt_replied, halt_tie}
use Rattle.laws_agreement.specs.Runs.{IsHalting, IsHaltingOn}
use Rattle.laws_agreement.specs.Stages.{near_link}
use Rattle.laws_agreement.proofs.Chunks.{both_empty}
use Rattle.laws_agreement.proofs.OverRunning.{over_lead}
use Rattle.laws_agreement.proofs.PeekServed.{near_at}
use Rattle.laws_agreement.proofs.PeekTakes.{dropped}
use Rattle.laws_drivers.specs.control.Between.{Between, Hold}
use Rattle.laws_drivers.proofs.control.Taken.{taken}
use Rattle.laws_drivers.proofs.control.Worlds.{LeadsOn, leads_none, leads_then}
use Rattle.laws_drivers.specs.world.Ahead.{is_asked, is_open}
use Rattle.laws_drivers.specs.world.Unaborted.{is_unaborted}
use Rattle.laws_drivers.proofs.world.Moves.{Rested, ends, near_takes}
use Rattle.laws_drivers.proofs.world.Served.{rests, settled}
use Rattle.laws_drivers.proofs.events.FarForms.{given_none}
use Rattle.laws_drivers.proofs.events.Holding.{both, unclosed}
use Rattle.laws_drivers.proofs.events.NearForms.{Taking, end_closing, taking_of, taking_same, wants_rest}
use Rattle.laws_drivers.proofs.events.Stands.{ClientFetches, ServerServes, wants_port}
use Rattle.laws_transfers.specs.Ahead.{Ahead, Listened}
use Rattle.laws_transfers.proofs.Ahead.{Holds}
use Rattle.laws_transfers.proofs.Beside.{Comes, GoesTo, Takes, Together, Writes, is_taking, rested}
use Rattle.laws_transfers.proofs.Broke.{with_view}
use Rattle.laws_transfers.proofs.ClientTaking.{taking_is}
use Rattle.laws_transfers.proofs.EitherEnd.{AreAlike, carried_alike, ending_in}
use Rattle.laws_transfers.proofs.Known.{AreCarried, Known, is_near_held}
use Rattle.laws_transfers.proofs.Running.{aborted_halts, ends_sound}
use Rattle.laws_transfers.proofs.Settling.{NearSettles, near_settles}

-- a Peek that sent ABOR has begun
halt_begun : (halt : Halt) → has_begun (halt_replied halt) ≡ true
halt_begun (Gives octet more) = refl
halt_begun (Gave whole true asked gap) = refl
halt_begun (Gave whole false asked gap) = refl
halt_begun (Halted whole left) = refl

module _ (read : Reading) (reads : IsReading read) (from : State) (begun : List Order) (puts : AreCarried begun) (server : Stand server_side)
    (old new : Stand client_side) (reports : List Said) (w : World) (serves : ServerServes server.owner)
    (before : ClientFetches old.owner) (portless : wants_port (data_end old.owner.end.view).connection ≡ false) (known : Known w)
    (runs : OverRuns read from begun w) where
  abbrev v : Near
  v = old.owner.end.view

  abbrev u : Near
  u = new.owner.end.view

  abbrev x : Far
  x = server.owner.end.server.view

  -- a world where all that was on its way to the client is dropped
  record Drained : Type 0 where
    world : World
    leads : LeadsOn read [] w world
    near : world.near ≡ w.near
    far : world.far ≡ w.far
    to_server : world.control_to_server ≡ w.control_to_server
    to_client : world.control_to_client ≡ w.control_to_client
    falling : world.data_to_client ≡ []
    listens : world.listens ≡ w.listens
    said : world.reports ≡ w.reports
    control : world.control ≡ w.control
    marks : world.marks ≡ w.marks
    cutoff : world.cutoff ≡ w.cutoff
    link : world.link ≡ w.link

  -- it is told of the end there, as this client
  pub record Breaks (next : Between) (told : ℕ) : Type 0 where
    pub goes : GoesTo read [] begun next told server (with_view (data_end v) new) (reports ++ []) w.marks w
    pub sound : is_sound (data_end v).standing ≡ true
    pub alike : AreAlike u (data_end v)

  module _ (moment : ℕ) (ahead : Ahead) (between next : Between) (told : ℕ) (t : Together read begun moment ahead between told server old reports w)
      (is : u ≡ data_fault v) (unheard : new.unheard ≡ old.unheard) (control : next.control ≡ between.control) (hold : next.far ≡ between.far)
      (ways : next.data_ways.to_server ≡ between.data_ways.to_server) (not_taking : is_taking new.owner.channel ≡ false) (takes_none : Takes new.owner.channel)
      (written : new.owner.channel.unwritten ≡ []) (shut : is_open w.far.session.connection ≡ false) (aborted : is_unaborted v.job ≡ false)
      (wants : near.wants v ≡ Want.Receive) where
    taking : Taking v
    taking = taking_of v wants

    near_is : w.near ≡ v
    near_is = taking_is read begun moment ahead between told server old reports w t taking

    -- ---- the client

    halts : IsHaltingOn from begun w
    halts = aborted_halts read reads from begun puts w runs t.beside.control t.beside.unready (ap (λ (n : Near). is_unaborted n.job) near_is ∙ aborted)
        (ap near.wants near_is ∙ wants)

    abbrev peek : IsHalting from begun w
    peek = halts.halting

    abbrev a : AtHalt peek.now peek.ask peek.own w
    a = peek.stands

    abbrev op : Op (List ℕ)
    op = peek.ask.op

    abbrev transfer : Transfer
    transfer = record { replied = halt_replied a.halt; abort = halt_abort a.halt; flow = flow_after peek.ask.settings a.came }

    form : v ≡ busy (Transferring op transfer) NearData.Open v
    form =
        ap (λ c. record v { connection = c }) taking.connection
        ∙ ap (λ (n : Near). record n { connection = NearData.Open })
        (subst (λ (n : Near). n ≡ busy (Transferring op transfer) (near_link (halt_tie a.halt)) n) near_is
        (near_at peek.now peek.ask peek.own a.base w a.cuts a.is _ _ a.here.near))

    sent : is_unsent (halt_abort a.halt) ≡ false
    sent = sym (ap (λ (n : Near). is_unaborted n.job) form) ∙ aborted

    abbrev base : Near
    base = record v { run = None; closing = false }

    fault_is : u ≡ carries_on (ending_in Endings.Broken op transfer base)
    unfolding data_fault
    fault_is = is ∙ ap data_fault form

    end_is : data_end v ≡ carries_on (ending_in Endings.Clean op transfer base)
    unfolding data_end
    end_is = ap data_end form

    alike : AreAlike u (data_end v)
    alike = subst (λ n. AreAlike n (data_end v)) (sym fault_is)
        (subst (AreAlike (carries_on (ending_in Endings.Broken op transfer base))) (sym end_is) (carried_alike op transfer base sent (halt_begun a.halt)))

    -- it drops all that comes
    drops : (octets : List ℕ) → receives w.near octets ≡ w.near
    drops octets =
        ap (λ n. receives n octets) (near_is ∙ form)
        ∙ dropped peek.now peek.ask v (halt_replied a.halt) (halt_abort a.halt) sent a.came octets v.ear v.gathered v.owed ∙ sym form ∙ sym near_is

    takes : near.may_receive w.near ≡ true
    takes = ap near.may_receive (near_is ∙ form)

    r : Rested w
    r = rested moment ahead between told server old reports w t.beside serves before

    same : data_closed (taken v) ≡ v
    same = ap data_closed (taking_same v taking) ∙ unclosed v taking.closing

    none_said : option_to_list (report_of v) ≡ []
    none_said = ap (λ j. option_to_list (near.report_of_job j)) taking.job

    -- ---- the server

    link : w.link ≡ ClosedByFar
    link = known.down (ap near.wants near_is ∙ wants) shut

    none_rises : w.data_to_server ≡ []
    none_rises = known.still (known.left (ap is_closed_by_far link))

    unwritten : old.owner.channel.unwritten ≡ []
    unwritten =
        let rest = (both_empty server.owner.channel.untold (between.data_ways.to_server ++ old.owner.channel.unwritten) (sym t.beside.rising ∙ none_rises)).1 in
        (both_empty between.data_ways.to_server old.owner.channel.unwritten rest).1

    -- ---- all comes

    drained : (queue : List ℕ) → w.data_to_client ≡ queue → Drained
    drained [] none = record {
      world = w;
      leads = leads_none read w;
      near = refl;
      far = refl;
      to_server = refl;
      to_client = refl;
      falling = none;
      listens = refl;
      said = refl;
      control = refl;
      marks = refl;
      cutoff = refl;
      link = refl;
    }
    drained (octet ∷ more) some =
        let all : List ℕ = octet ∷ more in
        let now : World =
        record w { near = receives w.near all; data_to_client = []; came = (pushed read DataToClient (length all) w).came; taken = all } in
        let open_now : (receives w.near all).closing ≡ false = ap (λ (n : Near). n.closing) (drops all ∙ near_is) ∙ taking.closing in
        let may : (k : ℕ) → k < length all → near.may_receive (receives w.near (take k w.data_to_client)) ≡ true =
        λ k less. ap near.may_receive (drops (take k w.data_to_client)) ∙ takes in
        let quiet : rests (near.wants (data_closed (receives w.near all))) ≡ true =
        ap (λ n. rests (near.wants (data_closed n))) (drops all ∙ near_is) ∙ wants_rest (data_closed v) before.sound before.dials refl in
        let s : NearSettles now (settled now) =
        near_settles now r.far_open r.none_asked (λ e. known.still (known.left e)) (λ e. absurd (both e open_now)) in
        record {
          world = settled now;
          leads = near_takes read octet more [] w r (some ∙ sym (append-nil all)) may quiet (pushed read DataToClient (length all) w).came refl;
          near = s.near ∙ ap (λ n. data_closed (taken n)) (drops all ∙ near_is) ∙ same ∙ sym near_is;
          far = s.far;
          to_server = s.same.to_server;
          to_client = s.same.to_client;
          falling = s.same.falling;
          listens = s.same.listens;
          said = s.reports ∙ ap (λ n. w.reports ++ option_to_list (report_of n)) (drops all ∙ near_is) ∙ ap (λ o. w.reports ++ o) none_said
              ∙ append-nil w.reports;
          control = s.same.control;
          marks = s.same.marks;
          cutoff = s.same.cutoff;
          link = s.stays open_now;
        }

    -- ---- the end is told

    d : Drained
    d = drained w.data_to_client refl

    d_link : d.world.link ≡ ClosedByFar
    d_link = d.link ∙ link

    again : Rested d.world
    again = record {
      near_rests = ap (λ n. rests (near.wants n)) d.near ∙ r.near_rests;
      near_open = ap (λ (n : Near). n.closing) d.near ∙ r.near_open;
      none = ap report_of d.near ∙ r.none;
      runs = record { running = ap (λ (f : Far). f.session.life) d.far ∙ r.runs.running; none_waits = ap (λ (f : Far). f.waiting) d.far ∙ r.runs.none_waits };
      far_open = ap (λ (f : Far). f.session.closing) d.far ∙ r.far_open;
      none_asked = ap (λ (f : Far). is_asked f.session.connection) d.far ∙ r.none_asked;
    }

    ended : data_end d.world.near ≡ data_end v
    ended = ap data_end (d.near ∙ near_is)

    sound : is_sound (data_end v).standing ≡ true
    sound =
        ap (λ (n : Near). is_sound n.standing) (sym ended)
        ∙ ends_sound read reads from begun puts d.world
        (subst (λ l. OverRuns read from l d.world) (append-nil begun)
        (over_lead read reads from begun d.leads.events [] w d.world d.leads.timed runs d.leads.leads))
        (λ e. absurd (true≢false (sym e ∙ ap is_closed_by_near d_link))) (ap is_closed_by_far d_link) d.falling

    closing : (data_end v).closing ≡ false
    closing = end_closing v taking

    abbrev over : World
    over = gone (record d.world { near = data_end d.world.near; taken = [] })

    s : NearSettles over (settled over)
    s =
        near_settles over again.far_open again.none_asked (λ e. absurd (true≢false (sym e)))
        (λ e. absurd (both e (ap (λ (n : Near). n.closing) ended ∙ closing)))

    link_then : (settled over).link ≡ Gone
    link_then = s.stays (ap (λ (n : Near). n.closing) ended ∙ closing)

    pub aborted_ends : Breaks next told
    aborted_ends =
        let b = t.beside in
        let give : far.to_give d.world.far ≡ [] =
        ap far.to_give d.far
        ∙ ap (λ c. far.given_by (if c then Data.Free else w.far.session.connection)) r.far_open ∙ given_none w.far.session.connection shut in
        record {
          goes = record {
            world = settled over;
            leads = leads_then read [] [] w d.world (settled over) d.leads
                (ends read d.world again d_link d.falling give
                (ap (λ n. rests (near.wants (data_closed n))) ended
                ∙ wants_rest (data_closed (data_end v)) sound portless refl));
            moment = moment;
            ahead = ahead;
            marked = s.same.marks ∙ d.marks;
            together = record {
              beside = record {
                fits = b.fits;
                near = s.near ∙ ap (λ n. data_closed (taken n)) ended;
                far = s.far ∙ d.far ∙ b.far;
                to_server = s.same.to_server ∙ d.to_server ∙ b.to_server ∙ ap (λ c. server.unheard ++ c.to_server) (sym control);
                to_client = s.same.to_client ∙ d.to_client ∙ b.to_client ∙ ap₂ (λ q c. q ++ c.to_client) (sym unheard) (sym control);
                rising = s.same.rising ∙ sym none_rises ∙ b.rising
                    ∙ ap₂ (λ a o. server.owner.channel.untold ++ (a ++ o)) (sym ways) (unwritten ∙ sym written);
                falling = λ e. absurd (both e not_taking);
                listens = subst (Listened ahead told) (sym (s.same.listens ∙ d.listens)) b.listens;
                reported = s.reports
                    ∙ ap₂ (λ r n. r ++ option_to_list (report_of n)) (d.said ∙ b.reported ∙ ap (λ o. reports ++ o) none_said) ended;
                control = s.same.control ∙ d.control ∙ b.control;
                unready = λ e. absurd (true≢false (sym e ∙ ap is_closed_by_near link_then));
                cutoff = s.same.cutoff ∙ d.cutoff ∙ b.cutoff;
              };
              holds = subst (λ (h : Hold). Holds ahead h x.session) (sym hold) t.holds;
              comes = subst (λ (h : Hold). Comes h x.session server.owner.channel) (sym hold) t.comes;
              serves = subst (λ (h : Hold). Writes h server.owner.channel) (sym hold) t.serves;
              takes = takes_none;
              gives = record { spare = λ e. written; bare = λ e. written };
              keeping = record {
                had = λ e. absurd (true≢false (sym e ∙ ap is_near_held link_then));
                shut = λ e. absurd (both e closing);
                over = λ e. ap is_near_held link_then;
              };
              twin = λ e. absurd (true≢false (sym (ap is_closed_by_far link) ∙ ap is_closed_by_far (t.twin e).link));
            };
          };
          sound = sound;
          alike = alike;
        }
