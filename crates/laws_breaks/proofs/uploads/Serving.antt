-- A server that takes octets of an upload is told of the break: beside a world, or beside one whose client was not told.
use Rattle.std.proofs.Common.{◌≡◌, ◌⊎◌, inl, inr, ℕ, true, false, true≢false, List, [], ◌∷◌, refl, sym, ap, subst, ◌∙◌}
use Rattle.ftp_ports.specs.Actions.{Calls, Action, Other, Stand}
use Rattle.ftp_ports.specs.Machine.{Break}
use Rattle.ftp_client_driver.specs.Side.{client_side}
use Rattle.ftp_client_model.specs.Calls as near
use Rattle.ftp_client_model.specs.Calls.{data_closed, is_sound, report_of}
use Rattle.ftp_client_model.specs.View.{Job, Transfer as Running, Transferring, View as Near}
use Rattle.ftp_ends.specs.declared.link.Wants.TheVariants as Want
use Rattle.ftp_operation.specs.Answer.{Said}
use Rattle.ftp_operation.specs.declared.op.Op.{Op}
use Rattle.ftp_server_driver.specs.alone.Side.{server_side}
use Rattle.ftp_server_model.specs.Calls as far
use Rattle.ftp_server_model.specs.Calls.{clock_step, is_upload}
use Rattle.ftp_server_model.specs.Machine.{IsReading, Reading}
use Rattle.ftp_server_model.specs.View.{Transfer, View as Far, direct_of}
use Rattle.ftp_server_model.specs.declared.session.Life.TheVariants as Lives
use Rattle.ftp_server_model.specs.declared.session.ServerLink.{ServerLink}
use Rattle.ftp_server_model.specs.declared.session.ServerLink.TheVariants as Data
use Rattle.ftp_server_model.specs.declared.session.Transfer.TheVariants as Transfers
use Rattle.laws_world.specs.Agreement.{Order}
use Rattle.laws_world.specs.Claims.{Beginning, IsFair, state_of}
use Rattle.laws_world.specs.Events.{broken_by, is_gone, lends_none}
use Rattle.laws_world.specs.World.{Broken, ClosedByNear, Opened, World, marked_last}
use Rattle.laws_agreement.specs.Rising.{sending}
use Rattle.laws_drivers.specs.control.Alone.{ServerIsCalm, reports_in}
use Rattle.laws_drivers.specs.control.Between.{Between, Can, Far as TheServer, Has, Has_lost}
use Rattle.laws_drivers.specs.control.Touches.{ToldBreak}
use Rattle.laws_drivers.proofs.control.Taken.{taken, taken_none}
use Rattle.laws_drivers.proofs.world.Ahead.{closed_is}
use Rattle.laws_drivers.proofs.world.Served.{far_wants, rests}
use Rattle.laws_drivers.proofs.events.FarForms.{no_close, told_passive}
use Rattle.laws_drivers.proofs.events.Holding.{both, is_called, unclosed}
use Rattle.laws_drivers.proofs.events.Plain.{IsPlainBy, IsPlainly}
use Rattle.laws_transfers.specs.Ahead.{Ahead, Fits, Level, Listens, Opens, Parted, far_ahead}
use Rattle.laws_drivers.specs.events.Moments.{AreMoments, begun_at, last_of, number_in}
use Rattle.laws_transfers.proofs.Ahead.{left_rests}
use Rattle.laws_transfers.proofs.Beside.{Takes, Together, is_taking, rested}
use Rattle.laws_transfers.proofs.Called.{StaysFresh}
use Rattle.laws_transfers.proofs.FarForms.{is_receive, receives_upload, upload_takes}
use Rattle.laws_transfers.proofs.Known.{AreCarried, Known, is_giving, is_near_held}
use Rattle.laws_transfers.proofs.Running.{world_timed}
use Rattle.laws_transfers.proofs.Simulating.{asks, known, runs}
use Rattle.laws_breaks.proofs.downloads.Drained.{dried}
use Rattle.laws_breaks.proofs.downloads.Lagging.{Lags, OfMarks, Whole, beside, feeds, unbroken}
use Rattle.laws_breaks.proofs.downloads.Steps.{Again, At, idle_again, went_again}
use Rattle.laws_breaks.proofs.downloads.Unsent.{AskAll, Unsent, all_carried}
use Rattle.laws_breaks.specs.uploads.Coming.{CameOver, HasCome}
use Rattle.laws_breaks.specs.uploads.Actions.{cut_marks}
use Rattle.laws_breaks.proofs.uploads.Climbing.{ClimbsLast, IsLast, same_last, world_climbs}
use Rattle.laws_breaks.proofs.uploads.Coming.{came_any, came_idle}
use Rattle.laws_breaks.proofs.uploads.Leaving.{gone, lost}
use Rattle.laws_breaks.proofs.uploads.Lifting.{IsClosing, StillGives, closes_alike, gives_fault, lifts_none, lifts_plain, lifts_rest, lifts_sound, lifts_taken, was_none}
use Rattle.laws_breaks.proofs.uploads.Seen.{dry}
use Rattle.laws_breaks.proofs.uploads.ServerCut.{Remains, cut_at}
use Rattle.laws_breaks.proofs.uploads.UpLagging.{UpLags, link_closed, link_open, near_is, plainly}

-- ---- a server that takes octets

-- it has an upload under way
pub wants_upload : (v : Far) → v.session.life ≡ Lives.Running → far.wants v ≡ Want.Receive → is_upload v.session.connection ≡ true
wants_upload v running wants =
    sym (receives_upload v.session.connection) ∙ ap is_receive (sym (far_wants v running (no_close v Want.Receive wants refl))) ∙ ap is_receive wants

-- so has a world's
ahead_upload : (ahead : Ahead) (moment : ℕ) (v : Far) → Fits ahead v.session.connection → is_upload v.session.connection ≡ true
    → is_upload (clock_step moment (far_ahead ahead v)).session.connection ≡ true
ahead_upload Level moment v fits takes = takes
ahead_upload Opens moment v fits takes = absurd (both fits (upload_takes v.session.connection takes).alone)
ahead_upload (Listens port) moment v fits takes = absurd (both fits (upload_takes v.session.connection takes).unasked)
ahead_upload (Parted accepted) moment v fits takes = absurd (both takes (left_rests accepted v.session.connection fits).0)

-- it is ahead by nothing
ahead_none : (ahead : Ahead) (v : Far) → v.session.closing ≡ false → Fits ahead v.session.connection → is_upload v.session.connection ≡ true
    → far_ahead ahead v ≡ v
ahead_none Level v unclosed fits takes = closed_is v unclosed
ahead_none Opens v unclosed fits takes = absurd (both fits (upload_takes v.session.connection takes).alone)
ahead_none (Listens port) v unclosed fits takes = absurd (both fits (upload_takes v.session.connection takes).unasked)
ahead_none (Parted accepted) v unclosed fits takes = absurd (both takes (left_rests accepted v.session.connection fits).0)

-- one that gives, or over whose link nothing was asked for, takes none
pub giving_takes : (link : ServerLink Transfer) → is_giving link ≡ true → is_upload link ≡ false
giving_takes (Data.Transferring (Transfers.Download rest)) e = refl
giving_takes (Data.Transferring (Transfers.Listing rest)) e = refl
giving_takes (Data.Transferring (Transfers.Upload path keep d)) e = absurd (true≢false (sym e))
giving_takes (Data.Transferring Transfers.OverLimit) e = absurd (true≢false (sym e))
giving_takes Data.Free e = refl
giving_takes (Data.Asked verb) e = refl
giving_takes (Data.Active endpoint) e = refl
giving_takes Data.Passive e = refl
giving_takes Data.Ready e = refl
giving_takes (Data.Opening transfer way) e = refl

-- one that has its data connection, and is to close it, is not one whose world takes octets
pub shut_takes : (read : Reading) (begun : List Order) (server : Stand server_side) (client : Stand client_side) (reports : List Said) (w : World)
    → server.owner.end.server.view.session.closing ≡ true → (moment : ℕ) (ahead : Ahead) (between : Between) (told : ℕ) → between.far ≡ Has
    → Together read begun moment ahead between told server client reports w → is_upload w.far.session.connection ≡ true → ⊥
shut_takes read begun server client reports w closing moment Level between told has t takes =
    let v : Far = server.owner.end.server.view in
    both (upload_takes v.session.connection (ap (λ (f : Far). is_upload f.session.connection) (sym t.beside.far) ∙ takes)).opened (t.holds.shut closing)
shut_takes read begun server client reports w closing moment Opens between told has t takes =
    both (t.holds.opened refl) (ap is_called has)
shut_takes read begun server client reports w closing moment (Listens port) between told has t takes =
    let v : Far = server.owner.end.server.view in
    both takes (ap (λ (f : Far). is_upload f.session.connection) t.beside.far ∙ ap is_upload (told_passive v.session.connection t.beside.fits port v))
shut_takes read begun server client reports w closing moment (Parted accepted) between told has t takes =
    both takes (ap (λ (f : Far). is_upload f.session.connection) t.beside.far)

-- ---- the client has left

-- it is beside a world as one of which nothing comes or goes, and what lies between
pub record Out (client after : Stand client_side) (p next : Between) : Type 0 where
  pub view : after.owner.end.view ≡ client.owner.end.view
  pub unheard : after.unheard ≡ client.unheard
  pub not_taking : is_taking after.owner.channel ≡ false
  pub takes : Takes after.owner.channel
  pub written : after.owner.channel.unwritten ≡ []
  pub control : next.control ≡ p.control
  pub dry : next.data_ways.to_server ≡ []
  pub lost : next.far ≡ Has_lost

module _ (client : Stand client_side) (p q : Between) (can : Can TheServer ToldBreak p q) where
  -- where its data connection stands no more
  pub out_left : client.owner.channel.stands ≡ false → Takes client.owner.channel → client.owner.channel.unwritten ≡ [] → Out client client p (dry q)
  out_left left takes written = record {
    view = refl;
    unheard = refl;
    not_taking = ap (λ s. is_taking (record client.owner.channel { stands = s })) left;
    takes = takes;
    written = written;
    control = ap (λ (m : Between). m.control) can.1;
    dry = refl;
    lost = ap (λ (m : Between). m.far) can.1;
  }

  -- where it stands still
  pub out_gone : Out client (gone client) p (lost q)
  out_gone = record {
    view = refl;
    unheard = refl;
    not_taking = refl;
    takes = record { bare = λ e. refl };
    written = refl;
    control = ap (λ (m : Between). m.control) can.1;
    dry = refl;
    lost = ap (λ (m : Between). m.far) can.1;
  }

module _ (read : Reading) (reads : IsReading read) (moments : ℕ → ℕ) (timed : AreMoments moments) (b : Beginning) (fair : IsFair b) where
  module _ (actions : List (Action client_side)) (puts : AskAll (begun_at moments actions)) (p : Between) (count : ℕ) (old new : Stand server_side)
      (client : Stand client_side) (calm : ServerIsCalm old.owner new.owner) (o : At read reads moments timed b fair actions p count old client) where
    abbrev w : World
    w = o.world

    carried : AreCarried (begun_at moments actions)
    carried = all_carried (begun_at moments actions) puts

    -- ---- it is told of the break

    module _ (next : Between) (after : Stand client_side) (did : Calls {side = server_side} Break old new)
        (wants : far.wants old.owner.end.server.view ≡ Want.Receive) (told : did.0.0.0 ≡ last_of moments (number_in actions)) (r : Remains w client after p next)
        (untold : old.owner.channel.untold ≡ []) where
      -- a world is beside both again, and its link is broken
      pub cut_there : is_sound after.owner.end.view.standing ≡ true → IsPlainly after.owner.end.view → StaysFresh next after
          → Again read reads moments timed b fair actions next count (dried new) after (marked_last (Broken w.came) w.marks)
      cut_there sound plain fresh =
          let t = o.together in
          let went = cut_at read (begun_at moments actions) old new client after (reports_in actions) w calm o.serves o.last o.ahead p next count did wants
          (λ takes. world_timed read reads (state_of b) moments actions carried w
          (runs read reads moments timed b fair actions p count old client (reports_in actions) o carried)
          t.beside.control t.beside.unready takes ∙ sym told) t r untold in
          went_again read reads moments timed b fair actions o (marked_last (Broken w.came) w.marks) next count (dried new) after went.0 went.1 sound plain fresh

      -- a break marks
      pub cut_again : is_sound after.owner.end.view.standing ≡ true → IsPlainly after.owner.end.view → StaysFresh next after
          → Again read reads moments timed b fair (Other Break ∷ actions) next count (dried new) after (marked_last (Broken w.came) w.marks)
      cut_again sound plain fresh =
          let got = cut_there sound plain fresh in
          let idle = idle_again read reads moments timed b fair (Other Break) actions got.0 refl refl in
          (idle.0, idle.1 ∙ got.1)

  -- ---- a server that takes, beside a world

  module _ (actions : List (Action client_side)) (puts : AskAll (begun_at moments actions)) (p q : Between) (count : ℕ) (old new : Stand server_side)
      (client : Stand client_side) (calm : ServerIsCalm old.owner new.owner) (wants : far.wants old.owner.end.server.view ≡ Want.Receive) where
    -- so has its world's server an upload under way
    pub world_upload : {m : Between} {c : Stand client_side} (o : At read reads moments timed b fair actions m count old c)
        → is_upload o.world.far.session.connection ≡ true
    world_upload o =
        ap (λ (f : Far). is_upload f.session.connection) o.together.beside.far
        ∙ ahead_upload o.ahead o.last old.owner.end.server.view o.together.beside.fits (wants_upload old.owner.end.server.view o.serves.running wants)

    -- as many octets came to it as that world counts, of the operation that was begun last
    module _ {m : Between} {c : Stand client_side} (o : At read reads moments timed b fair actions m count old c) where
      abbrev v : Far
      v = old.owner.end.server.view

      pub world_last : ClimbsLast (begun_at moments actions) o.world
      world_last =
          let carried = all_carried (begun_at moments actions) puts in
          world_climbs read reads (state_of b) (begun_at moments actions) carried o.world
          (runs read reads moments timed b fair actions m count old c _ o carried) o.together.beside.control o.together.beside.unready (world_upload o)

      counts : CameOver v.session.connection (direct_of v.session) o.world.near.job o.world.came
      counts =
          let t = o.together.beside in
          let far_is : o.world.far ≡ clock_step o.last v =
          t.far ∙ ap (clock_step o.last)
          (ahead_none o.ahead v (no_close v Want.Receive wants refl) t.fits (wants_upload v o.serves.running wants)) in
          subst (λ (f : Far). CameOver f.session.connection (direct_of f.session) o.world.near.job o.world.came) far_is world_last.climbing.came

      pub has_come : HasCome old.owner c.owner o.world.came
      has_come =
          came_idle v.session.connection (direct_of v.session) c.owner.end.view.job o.world.came
          (subst (λ (n : Near). CameOver v.session.connection (direct_of v.session) n.job o.world.came) o.together.beside.near counts)

      -- however far its transfer is
      pub last_come : (op : Op (List ℕ)) (transfer : Running) → IsLast (begun_at moments actions) op
          → CameOver v.session.connection (direct_of v.session) (Transferring op transfer) o.world.came
      last_come op transfer last =
          let l = world_last in
          let job : Job = sending l.op l.climbing.replied l.climbing.left l.climbing.mark in
          let came : CameOver v.session.connection (direct_of v.session) job o.world.came =
          subst (λ j. CameOver v.session.connection (direct_of v.session) j o.world.came) l.climbing.job counts in
          came_any v.session.connection (direct_of v.session) op _ transfer o.world.came
          (subst (λ other. CameOver v.session.connection (direct_of v.session) (sending other l.climbing.replied l.climbing.left l.climbing.mark)
          o.world.came) (same_last (begun_at moments actions) l.op op l.last last) came)

    -- then no world's client takes octets of a download that broke
    pub lags_never : {Are : OfMarks} → Lags read reads moments timed b fair Are actions p count old client → ⊥
    lags_never {Are} l =
        let takes : is_upload l.at.world.far.session.connection ≡ true = world_upload l.at in
        elim (feeds read reads moments timed b fair actions (all_carried (begun_at moments actions) puts) p count old client l).far [
          | inl free ↦ both takes (ap is_upload free)
          | inr going ↦ by_link takes going.1
        ]
      where
        by_link : {link : ServerLink Transfer} {Empty : Type 0} → is_upload link ≡ true → (is_giving link ≡ true) ⊎ ((link ≡ Data.Ready) × Empty) → ⊥
        by_link {link} takes (inl gives) = both takes (giving_takes link gives)
        by_link takes (inr ready) = both takes (ap is_upload ready.0)

    -- ---- it is told of the break

    module _ (did : Calls {side = server_side} Break old new) (told : did.0.0.0 ≡ last_of moments (number_in actions)) (untold : old.owner.channel.untold ≡ [])
        (after : Stand client_side) (next : Between) (out : Out client after p next) where
      fresh : StaysFresh next after
      fresh called = absurd (both called (ap is_called out.lost))

      sound_then : is_sound client.owner.end.view.standing ≡ true → is_sound after.owner.end.view.standing ≡ true
      sound_then sound = ap (λ (n : Near). is_sound n.standing) out.view ∙ sound

      -- where a world is beside both: its client alone has closed the link
      pub whole_cut : {Are : OfMarks} → (o : Whole read reads moments timed b fair Are actions p count old client) → is_near_held o.at.world.link ≡ false
          → Whole read reads moments timed b fair (cut_marks Want.Receive (HasCome old.owner client.owner) Are) (Other Break ∷ actions) next count (dried new)
          after
      whole_cut {Are} o not_held =
          let w : World = o.at.world in
          let t = o.at.together in
          let carried = all_carried (begun_at moments actions) puts in
          let known_now : Known w = known read reads moments timed b fair actions p count old client _ o.at carried in
          let link : w.link ≡ ClosedByNear = known_now.takes (world_upload o.at) not_held in
          let open_near : w.near.closing ≡ false = ap (λ (n : Near). n.closing) t.beside.near in
          let r : Remains w client after p next = record {
            view = w.near;
            told = ap (λ l. broken_by l (lends_none w)) link;
            stands = ap is_gone link;
            holds = t.beside.near ∙ ap (λ n. data_closed (taken n)) (sym out.view);
            none = ap report_of t.beside.near ∙ taken_none client.owner.end.view;
            unclosed = open_near;
            rest = ap (λ n. rests (near.wants n)) (unclosed w.near open_near) ∙ (rested o.at.last o.at.ahead p count old client _ w t.beside o.at.serves
                (asks read reads moments timed b fair actions p count old client _ o.at carried)).near_rests;
            reports = ap report_of out.view;
            unheard = out.unheard;
            not_taking = out.not_taking;
            takes = out.takes;
            written = out.written;
            control = out.control;
            dry = out.dry;
            lost = out.lost;
          } in
          let got = cut_again actions puts p count old new client calm o.at next after did wants told r untold (sound_then o.at.sound)
          (subst IsPlainly (sym out.view) o.at.plain) fresh in
          record {
            at = got.0;
            marks = marked_last (Broken w.came) o.marks;
            are_marks = (o.marks, o.are_marks, inr (w.came, has_come o.at, refl));
            marked = got.1 ∙ ap (marked_last (Broken w.came)) o.marked;
            unsent = subst (IsPlainBy Unsent) (sym out.view) o.unsent;
          }

      -- where it is beside a client that was not told: it is told too, or has closed the link
      module _ {Are : OfMarks} (l : UpLags read reads moments timed b fair Are actions p count old client) where
        abbrev n : Near
        n = l.was.end.view

        abbrev u : Near
        u = client.owner.end.view

        abbrev there : World
        there = l.at.world

        near_there : there.near ≡ data_closed n
        near_there = near_is read reads moments timed b fair actions puts p count old client l

        -- and as many octets came to it
        lag_come : HasCome old.owner client.owner there.came
        lag_come =
            let s = old.owner.end.server.view.session in
            subst (λ (j : Job). CameOver s.connection (direct_of s) j there.came)
            (ap (λ (m : Near). m.job) l.lifts.near ∙ sym (ap (λ (m : Near). m.job) l.lifts.told)) (has_come l.at)

        -- with this client then
        remains : (view : Near) → broken_by there.link (lends_none there) ≡ record (lends_none there) { near = view; far = far.data_fault there.far }
            → is_gone there.link ≡ false → view ≡ data_closed u → Remains there (beside l.was client) after (unbroken p) next
        remains view told stands is = record {
          view = view;
          told = told;
          stands = stands;
          holds = is ∙ ap data_closed (sym (lifts_taken n u l.lifts)) ∙ ap (λ m. data_closed (taken m)) (sym out.view);
          none = ap report_of is ∙ lifts_none n u l.lifts;
          unclosed = ap (λ (m : Near). m.closing) is;
          rest = ap (λ m. rests (near.wants (data_closed m))) is ∙ lifts_rest n u l.lifts;
          reports = ap report_of out.view ∙ lifts_none n u l.lifts ∙ sym (was_none n u l.lifts);
          unheard = out.unheard;
          not_taking = out.not_taking;
          takes = out.takes;
          written = out.written;
          control = out.control;
          dry = out.dry;
          lost = out.lost;
        }

        still_gives : StillGives n l.lifts.left l.lifts.link l.lifts.closed → Remains there (beside l.was client) after (unbroken p) next
        still_gives gives =
            let link : there.link ≡ Opened = link_open read reads moments timed b fair actions puts p count old client l gives in
            let same : there.near ≡ n = near_there ∙ unclosed n gives.1 in
            let fault : near.data_fault there.near ≡ u = ap near.data_fault same ∙ gives_fault n u l.lifts gives in
            remains u
            (ap (λ k. broken_by k (lends_none there)) link ∙ ap (λ m. record (lends_none there) { near = m; far = far.data_fault there.far }) fault)
            (ap is_gone link) (sym (unclosed u (ap (λ (m : Near). m.closing) l.lifts.told ∙ gives.4)))

        has_closed : IsClosing n l.lifts.left l.lifts.link → Remains there (beside l.was client) after (unbroken p) next
        has_closed closes =
            let link : there.link ≡ ClosedByNear = link_closed read reads moments timed b fair actions puts p count old client l closes in
            remains there.near (ap (λ k. broken_by k (lends_none there)) link) (ap is_gone link) (near_there ∙ closes_alike n u l.lifts closes)

        pub lag_cut : Whole read reads moments timed b fair (cut_marks Want.Receive (HasCome old.owner client.owner) Are) (Other Break ∷ actions) next count
            (dried new) after
        lag_cut =
            let got = cut_again actions puts (unbroken p) count old new (beside l.was client) calm l.at next after did wants told
            (elim l.lifts.kind [
              | inl gives ↦ still_gives gives
              | inr closes ↦ has_closed closes
            ]) untold (sound_then (lifts_sound n u l.lifts))
            (subst IsPlainly (sym out.view) (plainly read reads moments timed b fair actions puts p count old client l)) fresh in
            record {
              at = got.0;
              marks = marked_last (Broken there.came) l.marks;
              are_marks = (l.marks, l.are_marks, inr (there.came, lag_come, refl));
              marked = got.1 ∙ ap (marked_last (Broken there.came)) l.marked;
              unsent = subst (IsPlainBy Unsent) (sym out.view) (lifts_plain n u l.lifts Unsent l.unsent);
            }
