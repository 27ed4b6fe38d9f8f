-- Octets of a file that a client gives, as events of a world: with the last of them its link is closed.
use Rattle.std.proofs.Common.{◌≡◌, ℕ, true, false, true≢false, List, [], ◌∷◌, ◌++◌, drop, take, Option, None, option_to_list, refl, sym, ap, ap₂, subst, ◌∙◌, append_assoc, append-nil, take-append-drop}
use Rattle.ftp_ports.specs.Actions.{Calls, Stand}
use Rattle.ftp_ports.specs.Channel.{Channel, with_given}
use Rattle.ftp_ports.specs.Machine.{Gave}
use Rattle.ftp_ports.specs.declared.whole.Rest.{Rest}
use Rattle.ftp_client_driver.specs.Side.{client_side}
use Rattle.ftp_client_model.specs.Calls as near
use Rattle.ftp_client_model.specs.Calls.{data_closed, is_busy, is_sound as is_sound_at, report_of}
use Rattle.ftp_client_model.specs.Plan.{count_of}
use Rattle.ftp_client_model.specs.View.{View as Near, Transfer}
use Rattle.ftp_client_model.specs.Octets.{settled_of}
use Rattle.ftp_client_model.specs.declared.client.Abort.TheVariants as Aborts
use Rattle.ftp_ends.specs.declared.link.Wants.TheVariants as Want
use Rattle.ftp_operation.specs.Answer.{Said}
use Rattle.ftp_operation.specs.declared.op.Op.{Op}
use Rattle.ftp_server_driver.specs.alone.Side.{server_side}
use Rattle.ftp_server_model.specs.Machine.{Reading}
use Rattle.ftp_server_model.specs.View.{View as Far}
use Rattle.laws_world.specs.Agreement.{Order}
use Rattle.laws_world.specs.Events.{is_closed_by_far}
use Rattle.laws_world.specs.World.{Opened, World}
use Rattle.laws_drivers.specs.control.Alone.{ClientIsCalm}
use Rattle.laws_drivers.specs.control.Between.{Between}
use Rattle.laws_drivers.proofs.control.Taken.{taken, taken_wants}
use Rattle.laws_drivers.proofs.control.Worlds.{LeadsOn, leads_then}
use Rattle.laws_drivers.specs.world.Ahead.{is_asked}
use Rattle.laws_transfers.specs.Ahead.{Ahead, Listened}
use Rattle.laws_drivers.proofs.world.Known.{is_receive}
use Rattle.laws_drivers.proofs.world.Moves.{Rested}
use Rattle.laws_drivers.proofs.world.Rising.{near_gives_one}
use Rattle.laws_drivers.proofs.world.Served.{rests, settled}
use Rattle.laws_drivers.proofs.world.Settling.{none_taken}
use Rattle.laws_drivers.proofs.events.Holding.{both, is_had, is_sound, unclosed}
use Rattle.laws_drivers.proofs.events.NearForms.{busy_same, no_close, wants_rest}
use Rattle.laws_drivers.proofs.events.Fresh.{Fresh}
use Rattle.laws_drivers.proofs.events.Plain.{IsPlainBy, IsPlainly}
use Rattle.laws_drivers.proofs.events.Stands.{ClientFetches, ServerServes}
use Rattle.laws_transfers.proofs.Beside.{Goes, Takes, Together, Writes, is_taking, rested}
use Rattle.laws_transfers.proofs.ClientStays.{client_stays}
use Rattle.laws_transfers.proofs.FarForms.{upload_takes}
use Rattle.laws_transfers.proofs.Known.{Known, Lifting, is_near_held, is_ready}
use Rattle.laws_transfers.proofs.NearForms.{Sound, lifted, lifted_sound, lifting, lifts}
use Rattle.laws_transfers.proofs.Settling.{NearSettles, near_settles}

-- ---- in a world

-- these were given, and a world's client is this after it
record GaveTo (octets : List ℕ) (n : Near) (old new : World) : Type 0 where
  near : new.near ≡ data_closed n
  far : new.far ≡ old.far
  to_server : new.control_to_server ≡ old.control_to_server
  to_client : new.control_to_client ≡ old.control_to_client
  rising : new.data_to_server ≡ old.data_to_server ++ octets
  listens : new.listens ≡ old.listens
  reports : new.reports ≡ old.reports
  control : new.control ≡ old.control
  marks : new.marks ≡ old.marks
  cutoff : new.cutoff ≡ old.cutoff
  falling : new.data_to_client ≡ old.data_to_client
  closed : n.closing ≡ true → is_near_held new.link ≡ false
  stays : n.closing ≡ false → new.link ≡ old.link

module _ (read : Reading) where
  -- events that gave them
  record GivesThem (octets : List ℕ) (n : Near) (w : World) : Type 0 where
    new : World
    leads : LeadsOn read [] w new
    gave : GaveTo octets n w new

  module _ (op : Op (List ℕ)) (all : count_of op ≡ None) (mark : Option ℕ) (n : Near) where
    -- an octet
    gives_one : (octet : ℕ) (left : List ℕ) (w : World) → Rested w → w.near ≡ lifting op (octet ∷ left) mark n → w.link ≡ Opened → w.data_to_client ≡ []
        → GivesThem (octet ∷ []) (lifted op left mark n) w
    gives_one octet left w r is link flat =
        let given : near.gives_data 1 w.near ≡ lifted op left mark n = ap (near.gives_data 1) is ∙ lifts op all 1 octet left mark n in
        let sound : Sound (lifted op left mark n) = lifted_sound op left mark n in
        let now : World = record w { data_to_server = w.data_to_server ++ octet ∷ []; near = near.gives_data 1 w.near; taken = [] } in
        let wants : rests (near.wants (data_closed (near.gives_data 1 w.near))) ≡ true =
        ap (λ m. rests (near.wants (data_closed m))) given ∙ wants_rest (data_closed (lifted op left mark n)) sound.sound sound.port refl in
        let s : NearSettles now (settled now) =
        near_settles now r.far_open r.none_asked (λ e. absurd (true≢false (sym e ∙ ap is_closed_by_far link))) (λ e. flat) in
        record {
          new = settled now;
          leads = near_gives_one read octet left w r (ap near.to_give is) wants;
          gave = record {
            near = s.near ∙ ap (λ m. data_closed (taken m)) given ∙ ap data_closed (none_taken (lifted op left mark n) sound.none);
            far = s.far;
            to_server = s.same.to_server;
            to_client = s.same.to_client;
            rising = s.same.rising;
            listens = s.same.listens;
            reports = s.reports ∙ ap (λ m. w.reports ++ option_to_list (report_of m)) given
                ∙ ap (λ o. w.reports ++ option_to_list o) sound.none ∙ append-nil w.reports;
            control = s.same.control;
            marks = s.same.marks;
            cutoff = s.same.cutoff;
            falling = s.same.falling;
            closed = λ e. s.closed (ap (λ (m : Near). m.closing) given ∙ e);
            stays = λ e. s.stays (ap (λ (m : Near). m.closing) given ∙ e);
          };
        }

    -- one after another
    gives_all : (octet : ℕ) (octets left : List ℕ) (w : World) → Rested w → w.near ≡ lifting op ((octet ∷ octets) ++ left) mark n → w.link ≡ Opened
        → w.data_to_client ≡ []
        → GivesThem (octet ∷ octets) (lifted op left mark n) w
    gives_all octet [] left w r is link flat = gives_one octet left w r is link flat
    gives_all octet (next ∷ octets) left w r is link flat =
        let first = gives_one octet ((next ∷ octets) ++ left) w r is link flat in
        let g = first.gave in
        let there : first.new.near ≡ lifting op ((next ∷ octets) ++ left) mark n = g.near in
        let again : Rested first.new = record {
          near_rests = ap (λ m. rests (near.wants m)) there ∙ wants_rest (lifting op ((next ∷ octets) ++ left) mark n) refl refl refl;
          near_open = ap (λ (m : Near). m.closing) there;
          none = ap report_of there;
          runs = record {
            running = ap (λ (f : Far). f.session.life) g.far ∙ r.runs.running;
            none_waits = ap (λ (f : Far). f.waiting) g.far ∙ r.runs.none_waits;
          };
          far_open = ap (λ (f : Far). f.session.closing) g.far ∙ r.far_open;
          none_asked = ap (λ (f : Far). is_asked f.session.connection) g.far ∙ r.none_asked;
        } in
        let others = gives_all next octets left first.new again there (g.stays refl ∙ link) (g.falling ∙ flat) in
        let h = others.gave in
        record {
          new = others.new;
          leads = leads_then read [] [] w first.new others.new first.leads others.leads;
          gave = record {
            near = h.near;
            far = h.far ∙ g.far;
            to_server = h.to_server ∙ g.to_server;
            to_client = h.to_client ∙ g.to_client;
            rising = h.rising ∙ ap (λ q. q ++ next ∷ octets) g.rising ∙ append_assoc w.data_to_server (octet ∷ []) (next ∷ octets);
            listens = h.listens ∙ g.listens;
            reports = h.reports ∙ g.reports;
            control = h.control ∙ g.control;
            marks = h.marks ∙ g.marks;
            cutoff = h.cutoff ∙ g.cutoff;
            falling = h.falling ∙ g.falling;
            closed = h.closed;
            stays = λ e. h.stays e ∙ g.stays refl;
          };
        }

-- ---- of a drive

module _ (read : Reading) (orders : List Order) (server : Stand server_side) (old new : Stand client_side) (reports : List Said) (w : World)
    (calm : ClientIsCalm old.owner new.owner) (serves : ServerServes server.owner) (before : ClientFetches old.owner) (known : Known w) where
  abbrev v : Near
  v = old.owner.end.view

  abbrev u : Near
  u = new.owner.end.view

  module _ (count : ℕ) (octets : List ℕ) (rest : Rest) (moment : ℕ) (ahead : Ahead) (between : Between) (told : ℕ)
      (did : Calls {side = client_side} (Gave count octets rest) old new) (t : Together read orders moment ahead between told server old reports w) where
    open_now : v.closing ≡ false
    open_now = no_close v Want.Send did.0.2 refl

    taken_is : w.near ≡ taken v
    taken_is = t.beside.near ∙ unclosed (taken v) open_now

    -- it has octets to give
    l : Lifting w
    l = known.sends (ap near.wants taken_is ∙ taken_wants v ∙ did.0.2)

    abbrev whole : List ℕ
    whole = l.octet ∷ l.more

    near_is : w.near ≡ v
    near_is = taken_is ∙ busy_same v (ap is_busy (sym taken_is) ∙ ap is_busy l.near)

    form : v ≡ lifting l.op whole l.mark v
    form = sym near_is ∙ l.near ∙ ap (lifting l.op whole l.mark) near_is

    abbrev left : List ℕ
    left = drop count whole

    gave : octets ≡ take count whole
    gave = did.0.0.0 ∙ ap (λ n. take count (near.to_give n)) form

    both_are : octets ++ left ≡ whole
    both_are = ap (λ o. o ++ left) gave ∙ take-append-drop count whole

    is : u ≡ lifted l.op left l.mark v
    is = did.0.0.1.0.0 calm ∙ ap (near.gives_data count) form ∙ lifts l.op l.count count l.octet l.more l.mark v

    pub gave_sound : is_sound_at u.standing ≡ true
    gave_sound = ap (λ (n : Near). is_sound_at n.standing) is ∙ (lifted_sound l.op left l.mark v).sound

    pub gave_plain : IsPlainly v → IsPlainly u
    gave_plain p = subst IsPlainly (sym is) (by left (subst IsPlainly form p))
      where
        by : (rest : List ℕ) → IsPlainly (lifting l.op whole l.mark v) → IsPlainly (lifted l.op rest l.mark v)
        by [] q = record { job = (q.job.0, tt); port = refl; run = refl }
        by (octet ∷ rest) q = record { job = (q.job.0, tt); port = refl; run = refl }

    -- it sent no ABOR, and took none: what is kept where that is so is kept
    pub gave_by : (Kept : Op (List ℕ) → Transfer → Type 0)
        → ((op : Op (List ℕ)) (transfer : Transfer) → transfer.abort ≡ Aborts.Unsent → settled_of transfer.flow ≡ [] → Kept op transfer)
        → IsPlainBy Kept v → IsPlainBy Kept u
    gave_by Kept so p = subst (IsPlainBy Kept) (sym is) (by left (subst (IsPlainBy Kept) form p))
      where
        by : (rest : List ℕ) → IsPlainBy Kept (lifting l.op whole l.mark v) → IsPlainBy Kept (lifted l.op rest l.mark v)
        by [] q = record { job = (q.job.0, so _ _ refl refl); port = refl; run = refl }
        by (octet ∷ rest) q = record { job = (q.job.0, so _ _ refl refl); port = refl; run = refl }

    pub gave_fresh : IsPlainBy Fresh v → IsPlainBy Fresh u
    gave_fresh p = gave_by Fresh (λ op transfer unsent none. (unsent, none)) p

    had : is_had between.near ≡ true
    had = t.keeping.had (ap is_near_held l.link)

    channel : new.owner.channel ≡ with_given octets rest old.owner.channel
    channel = did.0.1.0

    unwritten : new.owner.channel.unwritten ≡ old.owner.channel.unwritten ++ octets
    unwritten = ap (λ (l : Channel). l.unwritten) channel

    gives : Writes between.near new.owner.channel
    gives = record {
      spare = λ e. absurd (both had e);
      bare = λ e. absurd (both (ap (λ (l : Channel). l.stands) channel ∙ did.0.1.1.0) e);
    }

    takes : Takes new.owner.channel
    takes = record {
      bare = λ e. absurd (both (ap (λ (l : Channel). l.stands) channel ∙ did.0.1.1.0) e);
    }

    over : is_sound new.owner.channel.fate ≡ false → is_near_held w.link ≡ false
    over e = t.keeping.over (ap (λ (l : Channel). is_sound l.fate) (sym channel) ∙ e)

    -- octets may come as before
    taking : is_taking new.owner.channel ≡ true → is_taking old.owner.channel ≡ true
    taking e = ap is_taking (sym channel) ∙ e

    -- nothing goes to the client
    flat : w.data_to_client ≡ []
    flat = known.falls (ap (λ n. is_receive (near.wants n)) taken_is ∙ ap is_receive (taken_wants v ∙ did.0.2))

    none_before : option_to_list (report_of v) ≡ []
    none_before = ap (λ n. option_to_list (report_of n)) form

    none_then : option_to_list (report_of u) ≡ []
    none_then = ap (λ n. option_to_list (report_of n)) is ∙ ap option_to_list (lifted_sound l.op left l.mark v).none

    by_octets : (given : List ℕ) → octets ≡ given → Goes read [] orders between told server new (reports ++ []) w
    by_octets [] none =
        let all : left ≡ whole = ap (λ o. o ++ left) (sym none) ∙ both_are in
        let same : u ≡ v = is ∙ ap (λ o. lifted l.op o l.mark v) all ∙ sym form in
        client_stays read orders server old new reports w calm known moment ahead between between told [] t (ap (λ n. data_closed (taken n)) (sym same))
        (ap (λ n. option_to_list (report_of n)) (sym same)) refl (ap (λ (s : Stand client_side). s.unheard ++ between.control.to_client) (sym did.1))
        (ap (λ o. server.owner.channel.untold ++ (between.data_ways.to_server ++ o))
        (sym (unwritten ∙ ap (λ o. old.owner.channel.unwritten ++ o) none ∙ append-nil old.owner.channel.unwritten)))
        (λ e. (taking e, ap (λ (l : Channel). l.untold ++ (between.data_ways.to_client ++ server.owner.channel.unwritten)) (sym channel))) refl takes gives
        (record { had = t.keeping.had; shut = λ e. absurd (both e (ap (λ (n : Near). n.closing) same ∙ open_now)); over = over })
    by_octets (octet ∷ more) some =
        let b = t.beside in
        let all : whole ≡ (octet ∷ more) ++ left = sym both_are ∙ ap (λ o. o ++ left) some in
        let there : w.near ≡ lifting l.op ((octet ∷ more) ++ left) l.mark v = near_is ∙ form ∙ ap (λ o. lifting l.op o l.mark v) all in
        let g = gives_all read l.op l.count l.mark v octet more left w (rested moment ahead between told server old reports w b serves before) there l.link
        flat in
        let e = g.gave in
        let channels : (server.owner.channel.untold ++ (between.data_ways.to_server ++ old.owner.channel.unwritten)) ++ octets
        ≡ server.owner.channel.untold ++ (between.data_ways.to_server ++ (old.owner.channel.unwritten ++ octets)) =
        append_assoc server.owner.channel.untold (between.data_ways.to_server ++ old.owner.channel.unwritten) octets
        ∙ ap (λ o. server.owner.channel.untold ++ o) (append_assoc between.data_ways.to_server old.owner.channel.unwritten octets) in
        record {
          world = g.new;
          leads = g.leads;
          moment = moment;
          ahead = ahead;
          marked = e.marks;
          together = record {
            beside = record {
              fits = b.fits;
              near = e.near ∙ ap data_closed (sym (none_taken (lifted l.op left l.mark v) (lifted_sound l.op left l.mark v).none))
                  ∙ ap (λ n. data_closed (taken n)) (sym is);
              far = e.far ∙ b.far;
              to_server = e.to_server ∙ b.to_server;
              to_client = e.to_client ∙ b.to_client ∙ ap (λ (y : Stand client_side). y.unheard ++ between.control.to_client) (sym did.1);
              rising = e.rising ∙ ap₂ (λ q o. q ++ o) b.rising (sym some) ∙ channels
                  ∙ ap (λ o. server.owner.channel.untold ++ (between.data_ways.to_server ++ o)) (sym unwritten);
              falling = λ c. e.falling ∙ b.falling (taking c)
                  ∙ ap (λ (l : Channel). l.untold ++ (between.data_ways.to_client ++ server.owner.channel.unwritten)) (sym channel);
              listens = subst (Listened ahead told) (sym e.listens) b.listens;
              reported = e.reports ∙ b.reported ∙ ap₂ (λ o r. r ++ o) (none_before ∙ sym none_then) (sym (append-nil reports));
              control = e.control ∙ b.control;
              unready = λ c. ap (λ (f : Far). is_ready f.session.connection) e.far ∙ (upload_takes w.far.session.connection l.far).begun;
              cutoff = e.cutoff ∙ b.cutoff;
            };
            holds = t.holds;
            comes = t.comes;
            serves = t.serves;
            takes = takes;
            gives = gives;
            keeping = record {
              had = λ c. had;
              shut = λ c. e.closed (ap (λ (n : Near). n.closing) (sym is) ∙ c);
              over = λ c. absurd (both (ap (λ (l : Channel). is_sound l.fate) channel ∙ ap is_sound did.0.1.1.1) c);
            };
            twin = λ c. absurd (true≢false (ap is_near_held (sym l.link ∙ (t.twin c).link)));
          };
        }

    pub client_gave : Goes read [] orders between told server new (reports ++ []) w
    client_gave = by_octets octets refl
