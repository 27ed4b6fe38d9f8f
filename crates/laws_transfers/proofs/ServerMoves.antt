-- Actions of a server that takes files that are events of a world: octets are said, and an octet is heard.
use Rattle.std.proofs.Common.{◌≡◌, inl, inr, ℕ, suc, ◌≤◌, Bool, true, false, true≢false, List, [], ◌∷◌, ◌++◌, length, drop, refl, sym, ap, ap₂, subst, ◌∙◌, append_assoc, take-append-drop, arith}
use Rattle.ftp_ports.specs.Actions.{HearsNext, Says as SaysNext, Stand}
use Rattle.ftp_ports.specs.Channel.{Channel}
use Rattle.ftp_ports.specs.Machine.{waits}
use Rattle.ftp_client_driver.specs.Side.{client_side}
use Rattle.ftp_ends.specs.Octets.{has_octets}
use Rattle.ftp_operation.specs.Answer.{Said}
use Rattle.ftp_server_driver.specs.alone.Side.{ends_line, server_side}
use Rattle.ftp_server_model.specs.Calls as far
use Rattle.ftp_server_model.specs.Calls.{clock_step, close_step, control_step, given_step, wants_of}
use Rattle.ftp_client_model.specs.View.{View as Near}
use Rattle.ftp_server_model.specs.Endpoint.{is_standing}
use Rattle.ftp_server_model.specs.Machine.{IsReading, Reading, hears_octet, is_transferring, may_hear}
use Rattle.ftp_server_model.specs.View.{Session, Transfer, View as Far}
use Rattle.ftp_server_model.specs.declared.session.ServerLink.{ServerLink}
use Rattle.ftp_server_model.specs.declared.session.ServerLink.TheVariants as Data
use Rattle.ftp_server_model.specs.declared.session.Way.TheVariants as Ways
use Rattle.laws_world.specs.Agreement.{Order}
use Rattle.laws_world.specs.World.{World, port_at}
use Rattle.laws_world.specs.Events.{is_closed_by_near}
use Rattle.laws_drivers.specs.control.Alone.{ServerIsCalm}
use Rattle.laws_drivers.specs.control.Between.{Between, Far as TheServer, Hold, sent}
use Rattle.laws_drivers.proofs.control.Moments.{octet_moment}
use Rattle.laws_drivers.proofs.control.ServerSteps.{HearsAt, hears_at}
use Rattle.laws_drivers.specs.world.Ahead.{accepts, is_asked, is_open}
use Rattle.laws_drivers.specs.world.Unaborted.{is_unaborted}
use Rattle.laws_transfers.specs.Ahead.{Ahead, Fits, Level, Listened, Listens, Opens, Parted, ahead_of, far_ahead, is_left, is_parted_ahead}
use Rattle.laws_drivers.proofs.world.Ahead.{closed_is}
use Rattle.laws_drivers.proofs.world.Hearing.{Turns, at_link, is_aimed, is_dialled, octet_opened, octet_turns}
use Rattle.laws_drivers.proofs.world.Moves.{Rested, far_hears, far_says, far_saying}
use Rattle.laws_drivers.proofs.world.Served.{Runs, far_wants, settled}
use Rattle.laws_transfers.proofs.Ahead.{FarSettles, Holds, Keeps, far_is, far_settles, fits_next, is_ahead, keeps, left_is, left_link, next_ahead, next_whole, says_after}
use Rattle.laws_drivers.proofs.events.Holding.{both, is_called, is_false, is_had, is_sound}
use Rattle.laws_drivers.proofs.events.NearForms.{is_unaborted_same}
use Rattle.laws_drivers.proofs.events.FarForms.{called_speaks, first_of_some, giving, none_later, quiet_of, same_opens, waiting_open, waits_unasked}
use Rattle.laws_drivers.proofs.events.Stands.{ClientFetches, ServerServes}
use Rattle.laws_transfers.proofs.Aborting.{given_untaken, giving_is, giving_moment, giving_turns}
use Rattle.laws_transfers.proofs.Beside.{Comes, Goes, Together, Writes, rested}
use Rattle.laws_transfers.proofs.FarForms.{upload_takes}
use Rattle.laws_transfers.proofs.Known.{Known, is_giving, is_near_held}
use Rattle.laws_transfers.proofs.Left.{Goes as LeftGoes, Leaves, Remains, Starts, is_spare, octet_goes}
use Rattle.laws_transfers.proofs.ServerStays.{server_stays}
use Rattle.laws_transfers.proofs.Settling.{far_held}
use Rattle.laws_transfers.proofs.Twins.{HasTwin, awaiting, far_heard, far_said, none_begins}

-- with these and those to say
abbrev owing : List ℕ → Far → Far
owing octets v = record v { owed = octets }

-- some octets are not none
no_octets : (octet : ℕ) (octets queue : List ℕ) → queue ≡ octet ∷ octets → queue ≡ [] → ⊥
no_octets octet octets queue some none = true≢false (ap has_octets (sym some ∙ none))

-- a world that is next is ahead by no opening
next_not : (asked : Bool) (port : ℕ) → is_ahead (next_ahead asked port) ≡ false
next_not true port = refl
next_not false port = refl

module _ (read : Reading) (reads : IsReading read) (orders : List Order) (old new : Stand server_side) (client : Stand client_side) (reports : List Said)
    (w : World)
    (calm : ServerIsCalm old.owner new.owner) (before : ServerServes old.owner) (asks : ClientFetches client.owner) (known : Known w)
    (runs_on : (octet : ℕ) (queue : List ℕ) → w.control_to_server ≡ octet ∷ queue → Runs (hears_octet read w.far octet)) where
  abbrev v : Far
  v = old.owner.end.server.view

  abbrev u : Far
  u = new.owner.end.server.view

  -- ---- octets are said

  pub server_said : (octets : List ℕ) (moment : ℕ) (ahead : Ahead) (between next : Between) (told : ℕ)
      → Together read orders moment ahead between told old client reports w
      → SaysNext octets old new → next ≡ record between { control = sent TheServer octets between.control } → Goes read [] orders next told new client reports w
  server_said octets moment ahead between next told t says can =
      let b = t.beside in
      let count = says.gives.count in
      let rest : List ℕ = drop count v.owed in
      let is : u ≡ owing rest v = says.gives.gave.0.done calm ∙ none_later (control_step count v) before.none_waits in
      let link : u.session ≡ v.session = ap (λ (f : Far). f.session) is in
      let g : Far = far_ahead ahead (owing rest v) in
      let owed : v.owed ≡ octets ++ rest = sym (take-append-drop count v.owed) ∙ ap (λ o. o ++ rest) (sym says.gives.owed) in
      let whole : w.far ≡ clock_step moment (owing (octets ++ g.owed) g) =
      b.far ∙ ap (λ o. clock_step moment (far_ahead ahead (owing o v))) owed ∙ ap (clock_step moment) (says_after ahead v b.fits octets rest) in
      let more : w.far.owed ≡ octets ++ g.owed = ap (λ (f : Far). f.owed) whole in
      let channel : new.owner.channel ≡ old.owner.channel = says.gives.channel in
      record {
        world = far_saying read octets g.owed w;
        leads = far_says read octets g.owed w (rested moment ahead between told old client reports w b before asks) more;
        moment = moment;
        ahead = ahead;
        marked = refl;
        together = record {
          beside = record {
            fits = subst (λ (s : Session). Fits ahead s.connection) (sym link) b.fits;
            near = b.near;
            far = ap (λ (f : Far). owing g.owed f) whole ∙ ap (λ f. clock_step moment (far_ahead ahead f)) (sym is);
            to_server = b.to_server ∙ ap₂ (λ a (m : Between). a ++ m.control.to_server) (sym says.unheard) (sym can);
            to_client = ap (λ q. q ++ octets) b.to_client ∙ append_assoc client.unheard between.control.to_client octets
                ∙ ap (λ (m : Between). client.unheard ++ m.control.to_client) (sym can);
            rising = b.rising ∙ ap₂ (λ (m : Between) (l : Channel). l.untold ++ (m.data_ways.to_server ++ client.owner.channel.unwritten)) (sym can) (sym channel);
            falling = λ e. b.falling e
                ∙ ap₂ (λ (m : Between) (l : Channel). client.owner.channel.untold ++ (m.data_ways.to_client ++ l.unwritten)) (sym can) (sym channel);
            listens = b.listens;
            reported = b.reported;
            control = b.control;
            unready = b.unready;
            cutoff = b.cutoff;
          };
          holds = subst (λ (m : Between). Holds ahead m.far u.session) (sym can) (subst (Holds ahead between.far) (sym link) t.holds);
          comes = subst (λ (m : Between). Comes m.far u.session new.owner.channel) (sym can)
              (subst (λ (x : Session). Comes between.far x new.owner.channel) (sym link) (subst (Comes between.far v.session) (sym channel) t.comes));
          serves = subst (λ (m : Between). Writes m.far new.owner.channel) (sym can) (subst (Writes between.far) (sym channel) t.serves);
          takes = t.takes;
          gives = subst (λ (m : Between). Writes m.near client.owner.channel) (sym can) t.gives;
          keeping = record { had = λ e. ap (λ (m : Between). is_had m.near) can ∙ t.keeping.had e; shut = t.keeping.shut; over = t.keeping.over };
          twin = λ e. far_said read reads orders octets g.owed w (t.twin e) (rested moment ahead between told old client reports w b before asks) more;
        };
      }

  -- ---- an octet is heard

  -- the server once it heard this
  abbrev heard_far : ℕ → Far
  heard_far octet = hears_octet read v octet

  -- it acts alike on it whatever the moment, and its data connection turns so
  record Alike (octet : ℕ) : Type 0 where
    same : (m : ℕ) → hears_octet read (clock_step m v) octet ≡ clock_step m (heard_far octet)
    turns : Turns v.session.connection (heard_far octet)

  -- so it did, and its data connection turned so
  record Heard (octet : ℕ) : Type 0 where
    m : ℕ
    is : u ≡ clock_step m (heard_far octet)
    turns : Turns v.session.connection (heard_far octet)
    channel : new.owner.channel.untold ≡ old.owner.channel.untold
    unwritten : new.owner.channel.unwritten ≡ old.owner.channel.unwritten
    comes : (hold : Hold) → Comes hold v.session old.owner.channel → Comes hold u.session new.owner.channel
    writes : (hold : Hold) → Writes hold old.owner.channel → Writes hold new.owner.channel

  module _ (octet : ℕ) (moment : ℕ) (between : Between) (told : ℕ) (next : old.unheard ≡ octet ∷ new.unheard)
      (fresh : is_called between.far ≡ true → is_unaborted client.owner.end.view.job ≡ true) where
    abbrev now : World
    now = record w { far = hears_octet read w.far octet; control_to_server = new.unheard ++ between.control.to_server; taken = octet ∷ [] }

    abbrev port : ℕ
    port = port_at w.listens

    -- events lead on to a world that is so again, and the server serves
    abbrev Went : Type 0
    Went = Goes read [] orders between told new client reports w × ServerServes new.owner

    -- an octet that is on its way
    on_way : (ahead : Ahead) → Together read orders moment ahead between told old client reports w
        → w.control_to_server ≡ octet ∷ (new.unheard ++ between.control.to_server)
    on_way ahead t = t.beside.to_server ∙ ap (λ a. a ++ between.control.to_server) next

    runs : (ahead : Ahead) → Together read orders moment ahead between told old client reports w → Runs (hears_octet read w.far octet)
    runs ahead t = runs_on octet (new.unheard ++ between.control.to_server) (on_way ahead t)

    -- nor is a link left by the client alone
    unclosed_now : (ahead : Ahead) → Together read orders moment ahead between told old client reports w → is_closed_by_near w.link ≡ false
    unclosed_now ahead t =
        is_false (is_closed_by_near w.link) (λ e. elim (known.lines (upload_takes w.far.session.connection (known.closed e)).busy) [
          | inl none ↦ no_octets octet (new.unheard ++ between.control.to_server) w.control_to_server (on_way ahead t) none
          | inr halts ↦ both (known.closed e) (given_untaken w.far.session.connection halts.1)
        ])

    -- a world's server that heard it is as the drive's, or is ahead by an opening
    finish : (ahead onward : Ahead) → (t : Together read orders moment ahead between told old client reports w) → (h : Heard octet)
        → may_hear w.far ≡ true → Runs (hears_octet read w.far octet)
        → ((f : FarSettles now (settled now)) → (settled now).far ≡ clock_step moment (far_ahead onward u)) → Fits onward u.session.connection
        → ((f : FarSettles now (settled now)) → Listened onward told (settled now).listens)
        → (is_called between.far ≡ true → accepts u.session.connection ≡ true → is_ahead onward ≡ true)
        → (is_ahead onward ≡ true → is_called between.far ≡ true) → (is_parted_ahead onward ≡ true → HasTwin read orders (settled now))
        → Goes read [] orders between told new client reports w
    finish ahead onward t h may runs far fits listens called opened twin =
        let b = t.beside in
        let r : Rested w = rested moment ahead between told old client reports w b before asks in
        let queue : w.control_to_server ≡ octet ∷ (new.unheard ++ between.control.to_server) = b.to_server ∙ ap (λ a. a ++ between.control.to_server) next in
        let f : FarSettles now (settled now) = far_settles now r.none r.near_open (unclosed_now ahead t) in
        let session : u.session ≡ (heard_far octet).session = ap (λ (x : Far). x.session) h.is in
        record {
          world = settled now;
          leads = far_hears read octet (new.unheard ++ between.control.to_server) w r queue may runs;
          moment = moment;
          ahead = onward;
          marked = f.same.marks;
          together = record {
            beside = record {
              fits = fits;
              near = f.near ∙ b.near;
              far = far f;
              to_server = f.same.to_server;
              to_client = f.same.to_client ∙ b.to_client;
              rising = f.same.data_to_server ∙ b.rising ∙ ap (λ o. o ++ (between.data_ways.to_server ++ client.owner.channel.unwritten)) (sym h.channel);
              falling = λ e. f.same.data_to_client ∙ b.falling e
                  ∙ ap (λ o. client.owner.channel.untold ++ (between.data_ways.to_client ++ o)) (sym h.unwritten);
              listens = listens f;
              reported = f.reports ∙ b.reported;
              control = f.same.control ∙ b.control;
              unready = λ e. absurd (both e f.same.link);
              cutoff = f.same.cutoff ∙ b.cutoff;
            };
            holds = record {
              shut = λ e. is_false (is_open u.session.connection)
                  (λ o. both e (ap (λ (s : Session). s.closing) session ∙ (h.turns.opened (ap (λ (s : Session). is_open s.connection) (sym session) ∙ o)).1));
              had = λ e. t.holds.had (h.turns.opened (ap (λ (s : Session). is_open s.connection) (sym session) ∙ e)).0;
              called = called;
              opened = opened;
            };
            comes = h.comes between.far t.comes;
            serves = h.writes between.far t.serves;
            takes = t.takes;
            gives = t.gives;
            keeping = record {
              had = λ e. t.keeping.had (far_held now r.near_open e);
              shut = λ e. is_false (is_near_held (settled now).link) (λ o. both (far_held now r.near_open o) (t.keeping.shut e));
              over = λ e. is_false (is_near_held (settled now).link) (λ o. both (far_held now r.near_open o) (t.keeping.over e));
            };
            twin = twin;
          };
        }

    -- as the drive's
    finish_level : (ahead : Ahead) → (t : Together read orders moment ahead between told old client reports w) → (h : Heard octet) → may_hear w.far ≡ true
        → hears_octet read w.far octet ≡ clock_step moment u → w.listens ≡ told
        → (is_called between.far ≡ true → accepts u.session.connection ≡ true → ⊥) → Went
    finish_level ahead t h may is count none =
        let asked : Bool = is_asked u.session.connection in
        let onward : Ahead = next_ahead asked port in
        let fits : Fits onward u.session.connection = fits_next u.session.connection port in (
          finish ahead onward t h may (runs ahead t)
              (λ f. f.far ∙ ap (λ (x : Far). far_ahead (next_ahead (is_asked x.session.connection) port) x) is ∙ (keeps onward u fits).clock moment)
              fits
              (λ f. subst (λ n. Listened onward n (settled now).listens) count
              (subst (λ (x : Far). Listened (next_ahead (is_asked x.session.connection) port) w.listens (settled now).listens) is f.listens))
              (λ c e. absurd (none c e)) (λ e. absurd (both e (next_not asked port))) (λ e. absurd (both e (next_whole asked port))),
          record {
            running = ap (λ (f : Far). f.session.life) (sym is) ∙ (runs ahead t).running;
            none_waits = ap (λ (f : Far). f.waiting) (sym is) ∙ (runs ahead t).none_waits;
          },
        )

    -- ahead by an opening
    finish_ahead : (t : Together read orders moment Opens between told old client reports w) → (h : Heard octet) → may_hear w.far ≡ true
        → hears_octet read w.far octet ≡ clock_step moment (ahead_of Opens (heard_far octet)) → accepts (heard_far octet).session.connection ≡ true
        → Went
    finish_ahead t h may is waits =
        let x : Far = heard_far octet in
        let unclosed : x.session.closing ≡ false = (h.turns.accepted waits).1 in
        let kept : Keeps Opens x = keeps Opens x waits in
        let ahead_is : far_ahead Opens x ≡ close_step (ahead_of Opens x) = far_is Opens x unclosed in
        let unasked : is_asked (ahead_of Opens x).session.connection ≡ false = ap (λ (f : Far). is_asked f.session.connection) (sym ahead_is) ∙ kept.told in
        let next_is : (y : Far) → y ≡ clock_step moment (ahead_of Opens x)
        → far_ahead (next_ahead (is_asked y.session.connection) port) y ≡ clock_step moment (close_step (ahead_of Opens x)) = λ y e.
        ap (λ (f : Far). far_ahead (next_ahead (is_asked f.session.connection) port) f) e
        ∙ ap (λ a. far_ahead (next_ahead a port) (clock_step moment (ahead_of Opens x))) unasked in (
          finish Opens Opens t h may (runs Opens t)
              (λ f. f.far ∙ next_is (hears_octet read w.far octet) is ∙ ap (clock_step moment) (sym ahead_is) ∙ ap (clock_step moment) (sym (kept.clock h.m))
              ∙ ap (λ y. clock_step moment (far_ahead Opens y)) (sym h.is))
              (ap (λ (f : Far). accepts f.session.connection) h.is ∙ waits)
              (λ f. subst (λ n. Listened Opens n (settled now).listens) t.beside.listens
              (subst (λ a. Listened (next_ahead a port) w.listens (settled now).listens) (ap (λ (f : Far). is_asked f.session.connection) is ∙ unasked)
              f.listens))
              (λ c e. refl) (λ e. t.holds.opened refl) (λ e. absurd (true≢false (sym e))),
          record {
            running = ap (λ (f : Far). f.session.life) h.is ∙ sym kept.life ∙ ap (λ (f : Far). f.session.life) ahead_is
                ∙ ap (λ (f : Far). f.session.life) (sym is) ∙ (runs Opens t).running;
            none_waits = ap (λ (f : Far). f.waiting) h.is ∙ sym kept.waiting ∙ ap (λ (f : Far). f.waiting) ahead_is
                ∙ ap (λ (f : Far). f.waiting) (sym is) ∙ (runs Opens t).none_waits;
          },
        )

    -- by how far a world is ahead
    hears_so : (ahead : Ahead) → Together read orders moment ahead between told old client reports w → HearsNext (octet ∷ []) old new
        → Went
    hears_so ahead t did = by ahead t
      where
        heard : HearsAt read (octet ∷ []) v u
        heard = hears_at read reads (ends_line old.unheard) (octet ∷ []) old.owner.end new.owner.end did.hears.0.1 calm before.none_waits

        waits_now : waits (far.wants v) ≡ true
        waits_now = did.hears.2 refl

        unclosed : v.session.closing ≡ false
        unclosed = waiting_open v waits_now

        unasked : is_asked v.session.connection ≡ false
        unasked = waits_unasked v.session.connection (sym (ap waits (far_wants v before.running unclosed)) ∙ waits_now)

        queue : (ahead : Ahead) → Together read orders moment ahead between told old client reports w
            → w.control_to_server ≡ octet ∷ (new.unheard ++ between.control.to_server)
        queue ahead t = t.beside.to_server ∙ ap (λ a. a ++ between.control.to_server) next

        -- of one that acts so on it
        heard_so : Alike octet → Heard octet
        heard_so a = record {
          m = heard.moment;
          is = heard.is ∙ a.same heard.moment;
          turns = a.turns;
          channel = ap (λ (l : Channel). l.untold) did.hears.1;
          unwritten = ap (λ (l : Channel). l.unwritten) did.hears.1;
          writes = λ hold writes. record {
            spare = λ e. ap (λ (l : Channel). l.unwritten) did.hears.1 ∙ writes.spare e;
            bare = λ e. ap (λ (l : Channel). l.unwritten) did.hears.1 ∙ writes.bare (ap (λ (l : Channel). l.stands) (sym did.hears.1) ∙ e);
          };
          comes = λ hold c.
              let session : u.session ≡ (heard_far octet).session =
              ap (λ (x : Far). x.session) heard.is ∙ ap (λ (x : Far). x.session) (a.same heard.moment) in
              record {
                bare = λ e. ap (λ (l : Channel). l.untold) did.hears.1 ∙ c.bare (ap (λ (l : Channel). l.stands) (sym did.hears.1) ∙ e);
                spare = λ e. ap (λ (l : Channel). l.untold) did.hears.1 ∙ c.spare e;
                over = λ e. ap (λ (l : Channel). l.untold) did.hears.1 ∙ c.over (ap (λ (l : Channel). is_sound l.fate) (sym did.hears.1) ∙ e);
                shut = λ e. is_false (is_open u.session.connection)
                    (λ o. both (a.turns.opened (ap (λ (x : Session). is_open x.connection) (sym session) ∙ o)).0
                    (c.shut (ap (λ (l : Channel). is_sound l.fate) (sym did.hears.1) ∙ e)));
              };
        }

        -- so does one at which no transfer is under way
        alike_still : is_transferring v.session.connection ≡ false → Alike octet
        alike_still still = record {
          same = λ m. octet_moment read octet m v still;
          turns = subst (λ f. Turns v.session.connection (hears_octet read f octet)) (ap (λ c. record v { session = record v.session { closing = c } })
              (sym unclosed)) (octet_turns read octet v.session.connection (quiet_of v.session.connection unasked still) v);
        }

        heard_of : is_transferring v.session.connection ≡ false → Heard octet
        heard_of still = heard_so (alike_still still)

        -- and one that gives octets
        alike_giving : is_giving v.session.connection ≡ true → Alike octet
        alike_giving gives =
            let g = giving_is v.session.connection gives in
            let vg : v ≡ giving g.0 g.1 v = λ i. record v { session = record v.session { connection = g.2 i; closing = unclosed i } } in
            record {
              same = λ m. ap (λ f. hears_octet read (clock_step m f) octet) vg ∙ giving_moment read octet g.0 g.1 v before.none_waits m
                  ∙ ap (λ f. clock_step m (hears_octet read f octet)) (sym vg);
              turns = subst (λ f. Turns v.session.connection (hears_octet read f octet)) (sym vg)
                  (subst (λ l. Turns l (hears_octet read (giving g.0 g.1 v) octet)) (sym g.2) (giving_turns read octet g.0 g.1 v before.none_waits));
            }

        by_level : Together read orders moment Level between told old client reports w → Went
        by_level t =
            let a : Alike octet = alike (is_transferring v.session.connection) refl in
            let got : Heard octet = heard_so a in
            finish_level Level t got (ap may_hear wf ∙ heard.may.0)
            (ap (λ f. hears_octet read f octet) wf ∙ a.same moment ∙ ap (clock_step moment) (sym got.is)) t.beside.listens
            (λ c e. true≢false (sym (t.holds.called c (got.turns.accepted (ap (λ (f : Far). accepts f.session.connection) (sym got.is) ∙ e)).0)))
          where
            wf : w.far ≡ clock_step moment v
            wf = t.beside.far ∙ ap (clock_step moment) (closed_is v unclosed)

            -- an octet is on its way, so a transfer that is under way is one that a Peek aborts
            alike : (busy : Bool) → is_transferring v.session.connection ≡ busy → Alike octet
            alike false still = alike_still still
            alike true busy = elim (known.lines (ap (λ (f : Far). is_transferring f.session.connection) wf ∙ busy)) [
              | inl none ↦ absurd (no_octets octet (new.unheard ++ between.control.to_server) w.control_to_server (queue Level t) none)
              | inr halts ↦ alike_giving (ap (λ (f : Far). is_giving f.session.connection) (sym wf) ∙ halts.1)
            ]

        -- it waits for who comes, before a line
        by_passive : Together read orders moment Opens between told old client reports w → v.session.connection ≡ Data.Passive
            → Went
        by_passive t link =
            let vp : v ≡ at_link Data.Passive false v = λ i. record v { session = record v.session { connection = link i; closing = unclosed i } } in
            let still : is_transferring v.session.connection ≡ false = ap is_transferring link in
            let got : Heard octet = heard_of still in
            let wf : w.far ≡ clock_step moment (at_link Data.Ready false v) = t.beside.far ∙ ap (λ f. clock_step moment (far_ahead Opens f)) vp in
            let may : may_hear w.far ≡ true = ap may_hear wf ∙ heard.may.0 in
            let there : hears_octet read w.far octet ≡ clock_step moment (ahead_of Opens (heard_far octet)) =
            ap (λ f. hears_octet read f octet) wf ∙ octet_moment read octet moment (at_link Data.Ready false v) refl
            ∙ ap (clock_step moment) (octet_opened read octet v) ∙ ap (λ f. clock_step moment (ahead_of Opens (hears_octet read f octet))) (sym vp) in
            by_waits t got may there (accepts (heard_far octet).session.connection) refl
            (is_false (is_open (heard_far octet).session.connection) (λ e. both (got.turns.opened e).0 (ap is_open link)))
            (is_false (is_dialled (heard_far octet).session.connection) (λ e. both (got.turns.dialled e) (ap is_aimed link)))
          where
            by_waits : (t : Together read orders moment Opens between told old client reports w) → (got : Heard octet) → may_hear w.far ≡ true
                → hears_octet read w.far octet ≡ clock_step moment (ahead_of Opens (heard_far octet)) → (waits : Bool)
                → accepts (heard_far octet).session.connection ≡ waits
                → is_open (heard_far octet).session.connection ≡ false → is_dialled (heard_far octet).session.connection ≡ false → Went
            by_waits t got may there true is none_open none_dialled = finish_ahead t got may there is
            by_waits t got may there false is none_open none_dialled =
                finish_level Opens t got may
                (there ∙ ap (clock_step moment)
                (same_opens (heard_far octet).session.connection is none_open none_dialled (heard_far octet).session.closing (heard_far octet))
                ∙ ap (clock_step moment) (sym got.is)) t.beside.listens
                (λ c e. both (ap (λ (f : Far). accepts f.session.connection) (sym got.is) ∙ e) is)

        -- behind one: none comes onward
        by_opening : Together read orders moment Opens between told old client reports w → (transfer : Transfer)
            → v.session.connection ≡ Data.Opening transfer Ways.Accept → Went
        by_opening t transfer link =
            let vp : v ≡ at_link (Data.Opening transfer Ways.Accept) false v =
            λ i. record v { session = record v.session { connection = link i; closing = unclosed i } } in
            let wf : w.far ≡ clock_step moment (far_ahead Opens (at_link (Data.Opening transfer Ways.Accept) false v)) =
            t.beside.far ∙ ap (λ f. clock_step moment (far_ahead Opens f)) vp in
            elim (called_speaks transfer v) [
              | inl moves ↦ absurd (busy (ap (λ (f : Far). is_transferring f.session.connection) wf ∙ moves))
              | inr says ↦ absurd (spoken wf says)
            ]
          where
            -- no ABOR was sent
            unaborted : is_unaborted w.near.job ≡ true
            unaborted =
                ap (λ (n : Near). is_unaborted n.job) t.beside.near ∙ is_unaborted_same client.owner.end.view ∙ fresh (t.holds.opened refl)

            busy : is_transferring w.far.session.connection ≡ true → ⊥
            busy moves = elim (known.lines moves) [
              | inl none ↦ no_octets octet (new.unheard ++ between.control.to_server) w.control_to_server (queue Opens t) none
              | inr halts ↦ both unaborted halts.0
            ]

            spoken : w.far ≡ clock_step moment (far_ahead Opens (at_link (Data.Opening transfer Ways.Accept) false v))
                → has_octets (far_ahead Opens (at_link (Data.Opening transfer Ways.Accept) false v)).owed ≡ true → ⊥
            spoken wf says =
                let first = first_of_some w.far.owed (ap (λ (f : Far). has_octets f.owed) wf ∙ says) in
                no_octets octet (new.unheard ++ between.control.to_server) w.control_to_server (queue Opens t) (known.says unaborted first.0 first.1 first.2)

        by_link : Together read orders moment Opens between told old client reports w → (link : ServerLink Transfer) → v.session.connection ≡ link
            → accepts link ≡ true → Went
        by_link t Data.Passive is e = by_passive t is
        by_link t (Data.Opening transfer Ways.Accept) is e = by_opening t transfer is
        by_link t (Data.Opening transfer (Ways.Connect endpoint)) is e = absurd (true≢false (sym e))
        by_link t Data.Free is e = absurd (true≢false (sym e))
        by_link t (Data.Asked verb) is e = absurd (true≢false (sym e))
        by_link t (Data.Active endpoint) is e = absurd (true≢false (sym e))
        by_link t Data.Ready is e = absurd (true≢false (sym e))
        by_link t (Data.Transferring transfer) is e = absurd (true≢false (sym e))

        -- the client left a data connection over which nothing was asked for
        by_parted : (accepted : Bool) → Together read orders moment (Parted accepted) between told old client reports w → Went
        by_parted accepted t = by_goes (octet_goes read octet v)
          where
            conn : v.session.connection ≡ left_link accepted
            conn = left_is accepted v.session.connection t.beside.fits

            vp : v ≡ at_link (left_link accepted) false v
            vp = λ i. record v { session = record v.session { connection = conn i; closing = unclosed i } }

            spare : (accepted : Bool) → is_spare (left_link accepted) ≡ true
            spare true = refl
            spare false = refl

            left_stands : (accepted : Bool) → is_left accepted (left_link accepted) ≡ true
            left_stands true = refl
            left_stands false = refl

            quiet_link : (accepted : Bool) → is_transferring (left_link accepted) ≡ false
            quiet_link true = refl
            quiet_link false = refl

            wf : w.far ≡ clock_step moment (at_link Data.Free false v)
            wf = t.beside.far

            got : Heard octet
            got = heard_of (ap is_transferring conn ∙ quiet_link accepted)

            may : may_hear w.far ≡ true
            may = ap may_hear wf ∙ heard.may.0

            r : Rested w
            r = rested moment (Parted accepted) between told old client reports w t.beside before asks

            -- what the world's server is then, and its twin's, and the drive's
            there : hears_octet read w.far octet ≡ clock_step moment (hears_octet read (at_link Data.Free false v) octet)
            there = ap (λ f. hears_octet read f octet) wf ∙ octet_moment read octet moment (at_link Data.Free false v) refl

            beyond : hears_octet read (awaiting w.far) octet ≡ clock_step moment (hears_octet read (at_link Data.Passive false v) octet)
            beyond = ap (λ f. hears_octet read (awaiting f) octet) wf ∙ octet_moment read octet moment (at_link Data.Passive false v) refl

            here : u ≡ clock_step got.m (hears_octet read (at_link (left_link accepted) false v) octet)
            here = got.is ∙ ap (λ f. clock_step got.m (hears_octet read f octet)) vp

            remains : Remains (λ l. hears_octet read (at_link l false v) octet) → Went
            remains g =
                let y_is : hears_octet read w.far octet ≡ clock_step moment (at_link Data.Free false g.far) =
                there ∙ ap (clock_step moment) (g.is Data.Free refl) in
                let z_is : hears_octet read (awaiting w.far) octet ≡ clock_step moment (at_link Data.Passive false g.far) =
                beyond ∙ ap (clock_step moment) (g.is Data.Passive refl) in
                let u_is : u ≡ clock_step got.m (at_link (left_link accepted) false g.far) = here
                ∙ ap (clock_step got.m) (g.is (left_link accepted) (spare accepted)) in
                let stays : u.session.connection ≡ left_link accepted = ap (λ (f : Far). f.session.connection) u_is in
                let none : (hears_octet read w.far octet).session.connection ≡ Data.Free = ap (λ (f : Far). f.session.connection) y_is in (
                  finish (Parted accepted) (Parted accepted) t got may (runs (Parted accepted) t)
                      (λ f. f.far ∙ ap (λ (x : Far). far_ahead (next_ahead (is_asked x.session.connection) port) x) y_is
                      ∙ ap (λ x. clock_step moment (far_ahead (Parted accepted) x)) (sym u_is))
                      (ap (is_left accepted) stays ∙ left_stands accepted)
                      (λ f. subst (λ a. Listened (next_ahead a port) w.listens (settled now).listens) (ap is_asked none) f.listens ∙ t.beside.listens)
                      (λ c e. t.holds.called c (ap accepts (conn ∙ sym stays) ∙ e)) t.holds.opened
                      (λ e. far_heard read reads orders octet (new.unheard ++ between.control.to_server) w (t.twin refl) r (on_way (Parted accepted) t) may
                      (runs (Parted accepted) t) (z_is ∙ ap awaiting (sym y_is)) (ap (λ (f : Far). f.session.closing) y_is) none),
                  record {
                    running = ap (λ (f : Far). f.session.life) u_is ∙ ap (λ (f : Far). f.session.life) (sym y_is) ∙ (runs (Parted accepted) t).running;
                    none_waits = ap (λ (f : Far). f.waiting) u_is ∙ ap (λ (f : Far). f.waiting) (sym y_is) ∙ (runs (Parted accepted) t).none_waits;
                  },
                )

            leaves : Leaves (λ l. hears_octet read (at_link l false v) octet) → Went
            leaves g =
                let y_is : hears_octet read w.far octet ≡ clock_step moment (at_link g.link false g.far) =
                there ∙ ap (clock_step moment) (g.is Data.Free refl) in
                let u_is : u ≡ clock_step got.m (at_link g.link (is_standing (left_link accepted)) g.far) = here
                ∙ ap (clock_step got.m) (g.is (left_link accepted) (spare accepted)) in
                let asked : Bool = is_asked u.session.connection in
                let onward : Ahead = next_ahead asked port in
                let fits : Fits onward u.session.connection = fits_next u.session.connection port in
                let asked_is : is_asked (hears_octet read w.far octet).session.connection ≡ asked =
                ap (λ (f : Far). is_asked f.session.connection) y_is ∙ ap (λ (f : Far). is_asked f.session.connection) (sym u_is) in (
                  finish (Parted accepted) onward t got may (runs (Parted accepted) t)
                      (λ f. f.far ∙ ap (λ (x : Far). far_ahead (next_ahead (is_asked x.session.connection) port) x) y_is
                      ∙ ap (λ (x : Far). far_ahead (next_ahead (is_asked x.session.connection) port) (clock_step moment x)) (sym u_is)
                      ∙ (keeps onward u fits).clock moment)
                      fits
                      (λ f. subst (λ n. Listened onward n (settled now).listens) t.beside.listens
                      (subst (λ a. Listened (next_ahead a port) w.listens (settled now).listens) asked_is f.listens))
                      (λ c e. absurd (both e (ap (λ (f : Far). accepts f.session.connection) u_is ∙ g.alone)))
                      (λ e. absurd (both e (next_not asked port))) (λ e. absurd (both e (next_whole asked port))),
                  record {
                    running = ap (λ (f : Far). f.session.life) u_is ∙ ap (λ (f : Far). f.session.life) (sym y_is) ∙ (runs (Parted accepted) t).running;
                    none_waits = ap (λ (f : Far). f.waiting) u_is ∙ ap (λ (f : Far). f.waiting) (sym y_is) ∙ (runs (Parted accepted) t).none_waits;
                  },
                )

            -- no transfer begins
            starts : Starts (λ l. hears_octet read (at_link l false v) octet) → ⊥
            starts g =
                none_begins read reads orders octet (new.unheard ++ between.control.to_server) g.transfer w (t.twin refl) (on_way (Parted accepted) t)
                t.beside.control (ap (λ (f : Far). f.session.connection) beyond ∙ g.is)

            by_goes : LeftGoes (λ l. hears_octet read (at_link l false v) octet) → Went
            by_goes (inl g) = remains g
            by_goes (inr (inl g)) = leaves g
            by_goes (inr (inr g)) = absurd (starts g)

        by : (ahead : Ahead) → Together read orders moment ahead between told old client reports w → Went
        by Level t = by_level t
        by (Parted accepted) t = by_parted accepted t
        by (Listens other) t = absurd (both t.beside.fits unasked)
        by Opens t = by_link t v.session.connection refl t.beside.fits

  -- none is heard, or one
  pub server_heard : (octets : List ℕ) (moment : ℕ) (ahead : Ahead) (between : Between) (told : ℕ)
      → Together read orders moment ahead between told old client reports w
      → (is_called between.far ≡ true → is_unaborted client.owner.end.view.job ≡ true)
      → HearsNext octets old new → Goes read [] orders between told new client reports w × ServerServes new.owner
  server_heard [] moment ahead between told t fresh did =
      let heard = hears_at read reads (ends_line old.unheard) [] old.owner.end new.owner.end did.hears.0.1 calm before.none_waits in
      let session : u.session ≡ v.session = ap (λ (f : Far). f.session) heard.is in
      let untold : new.owner.channel.untold ≡ old.owner.channel.untold = ap (λ (l : Channel). l.untold) did.hears.1 in (
        server_stays read orders old new client reports w calm before known moment ahead ahead between between told told t
            (subst (λ (s : Session). Fits ahead s.connection) (sym session) t.beside.fits)
            (ap (clock_step moment) (sym ((keeps ahead v t.beside.fits).clock heard.moment)) ∙ ap (λ f. clock_step moment (far_ahead ahead f)) (sym heard.is))
            (λ l. l) (λ e. e) (ap (λ a. a ++ between.control.to_server) did.next) refl
            (ap (λ o. o ++ (between.data_ways.to_server ++ client.owner.channel.unwritten)) (sym untold))
            (ap (λ (l : Channel). client.owner.channel.untold ++ (between.data_ways.to_client ++ l.unwritten)) (sym did.hears.1)) refl
            (subst (Holds ahead between.far) (sym session) t.holds)
            (record {
              bare = λ e. untold ∙ t.comes.bare (ap (λ (l : Channel). l.stands) (sym did.hears.1) ∙ e);
              spare = λ e. untold ∙ t.comes.spare e;
              over = λ e. untold ∙ t.comes.over (ap (λ (l : Channel). is_sound l.fate) (sym did.hears.1) ∙ e);
              shut = λ e. ap (λ (s : Session). is_open s.connection) session
                  ∙ t.comes.shut (ap (λ (l : Channel). is_sound l.fate) (sym did.hears.1) ∙ e);
            })
            (record {
              spare = λ e. ap (λ (l : Channel). l.unwritten) did.hears.1 ∙ t.serves.spare e;
              bare = λ e. ap (λ (l : Channel). l.unwritten) did.hears.1 ∙ t.serves.bare (ap (λ (l : Channel). l.stands) (sym did.hears.1) ∙ e);
            }),
        record {
          running = ap (λ (f : Far). f.session.life) heard.is ∙ before.running;
          none_waits = ap (λ (f : Far). f.waiting) heard.is ∙ before.none_waits;
        },
      )
  server_heard (octet ∷ []) moment ahead between told t fresh did = hears_so octet moment between told did.next fresh ahead t did
  server_heard (octet ∷ more ∷ octets) moment ahead between told t fresh did = absurd (too_many octets did.hears.0.0)
    where
      too_many : (octets : List ℕ) → suc (suc (length octets)) ≤ 1 → ⊥
      too_many octets few = omega (arith, few)
