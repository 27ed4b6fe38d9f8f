-- Octets of a file or a listing that a server gives, as events of a world, in a session that also puts files.
use Rattle.std.proofs.Common.{◌≡◌, ℕ, Bool, true, false, true≢false, List, [], ◌∷◌, ◌++◌, drop, take, None, refl, sym, ap, ap₂, subst, ◌∙◌, append_assoc, append-nil, take-append-drop}
use Rattle.ftp_ports.specs.Actions.{Calls, Stand}
use Rattle.ftp_ports.specs.Channel.{Channel, with_given}
use Rattle.ftp_ports.specs.Machine.{Gave}
use Rattle.ftp_ports.specs.declared.whole.Rest.{Rest}
use Rattle.ftp_client_driver.specs.Side.{client_side}
use Rattle.ftp_client_model.specs.Calls as near
use Rattle.ftp_client_model.specs.Calls.{is_busy, report_of}
use Rattle.ftp_client_model.specs.View.{View as Near}
use Rattle.ftp_ends.specs.declared.link.Wants.TheVariants as Want
use Rattle.ftp_operation.specs.Answer.{Said}
use Rattle.ftp_server_driver.specs.alone.Side.{server_side}
use Rattle.ftp_server_model.specs.Calls as far
use Rattle.ftp_server_model.specs.Calls.{clock_step, given_by, given_step, is_upload}
use Rattle.ftp_server_model.specs.Machine.{Reading, completed}
use Rattle.ftp_server_model.specs.View.{View as Far}
use Rattle.ftp_server_model.specs.declared.session.Life.TheVariants as Lives
use Rattle.ftp_server_model.specs.declared.session.ServerLink.TheVariants as Data
use Rattle.laws_world.specs.Agreement.{Order}
use Rattle.laws_world.specs.Events.{is_closed_by_near}
use Rattle.laws_world.specs.World.{World, port_at}
use Rattle.laws_dialogues.specs.Fetches.{giving_of}
use Rattle.laws_drivers.specs.control.Alone.{ServerIsCalm}
use Rattle.laws_drivers.specs.control.Between.{Between, Has, Hold}
use Rattle.laws_drivers.proofs.control.Worlds.{LeadsOn, leads_then}
use Rattle.laws_drivers.specs.world.Ahead.{accepts, is_asked, is_open}
use Rattle.laws_transfers.specs.Ahead.{Ahead, Level, Listened, Listens, Opens, Parted, far_ahead, is_left}
use Rattle.laws_drivers.proofs.world.Moves.{Rested, far_gives_one}
use Rattle.laws_drivers.proofs.world.Served.{Runs, far_wants, rests, settled}
use Rattle.laws_transfers.proofs.Ahead.{FarSettles, Holds, far_settles, next_ahead}
use Rattle.laws_drivers.proofs.events.Holding.{both, is_called, is_false, is_had, is_sound}
use Rattle.laws_drivers.proofs.events.FarForms.{GivenKeeps, Sending, given_all, given_is, given_keeps, given_shut, gives_on, giving, is_send, no_close, none_later, sending_of}
use Rattle.laws_drivers.proofs.events.Stands.{ClientFetches, ServerServes}
use Rattle.laws_transfers.proofs.Aborting.{given_untaken}
use Rattle.laws_transfers.proofs.Beside.{Comes, Goes, Together, Writes, rested}
use Rattle.laws_transfers.proofs.Known.{Known, is_giving, is_near_held}
use Rattle.laws_transfers.proofs.ServerStays.{server_stays}
use Rattle.laws_transfers.proofs.Settling.{far_held}

-- ---- in a world

-- these were given, and a world's server is this after it
record GaveTo (octets : List ℕ) (f : Far) (old new : World) : Type 0 where
  near : new.near ≡ old.near
  far : new.far ≡ far_ahead Level f
  to_server : new.control_to_server ≡ old.control_to_server
  to_client : new.control_to_client ≡ old.control_to_client
  falling : new.data_to_client ≡ old.data_to_client ++ octets
  listens : new.listens ≡ old.listens
  reports : new.reports ≡ old.reports
  control : new.control ≡ old.control
  marks : new.marks ≡ old.marks
  cutoff : new.cutoff ≡ old.cutoff
  rising : new.data_to_server ≡ old.data_to_server
  link : is_closed_by_near new.link ≡ false
  held : is_near_held new.link ≡ true → is_near_held old.link ≡ true

module _ (read : Reading) where
  -- events that gave them
  record GivesThem (octets : List ℕ) (f : Far) (w : World) : Type 0 where
    new : World
    leads : LeadsOn read [] w new
    gave : GaveTo octets f w new

  module _ (listed : Bool) (x : Far) (running : x.session.life ≡ Lives.Running) (none_waits : x.waiting ≡ None) where
    -- an octet
    gives_one : (octet : ℕ) (rest : List ℕ) (w : World) → Rested w → w.far ≡ giving listed (octet ∷ rest) x → is_closed_by_near w.link ≡ false
        → GivesThem (octet ∷ []) (completed (giving listed rest x)) w
    gives_one octet rest w r is link =
        let f : Far = completed (giving listed rest x) in
        let step : given_step 1 w.far ≡ f = ap (given_step 1) is ∙ given_is listed 1 (octet ∷ rest) x in
        let kept = given_keeps listed rest x in
        let now : World = record w { data_to_client = w.data_to_client ++ octet ∷ []; far = given_step 1 w.far; taken = [] } in
        let runs : Runs (given_step 1 w.far) = record {
          running = ap (λ (y : Far). y.session.life) step ∙ kept.life ∙ running;
          none_waits = ap (λ (y : Far). y.waiting) step ∙ kept.waiting ∙ none_waits;
        } in
        let s : FarSettles now (settled now) = far_settles now r.none r.near_open link in
        let unasked : is_asked now.far.session.connection ≡ false = ap (λ (y : Far). is_asked y.session.connection) step ∙ kept.unasked in
        record {
          new = settled now;
          leads = far_gives_one read octet rest w r (ap far.to_give is ∙ given_all listed (octet ∷ rest) x) runs;
          gave = record {
            near = s.near;
            far = s.far ∙ ap (λ a. far_ahead (next_ahead a (port_at w.listens)) now.far) unasked ∙ ap (far_ahead Level) step;
            to_server = s.same.to_server;
            to_client = s.same.to_client;
            falling = s.same.data_to_client;
            listens = subst (λ a. Listened (next_ahead a (port_at w.listens)) w.listens (settled now).listens) unasked s.listens;
            reports = s.reports;
            control = s.same.control;
            marks = s.same.marks;
            cutoff = s.same.cutoff;
            rising = s.same.data_to_server;
            link = s.same.link;
            held = far_held now r.near_open;
          };
        }

    -- one after another
    gives_all : (octet : ℕ) (octets rest : List ℕ) (w : World) → Rested w → w.far ≡ giving listed ((octet ∷ octets) ++ rest) x
        → is_closed_by_near w.link ≡ false → GivesThem (octet ∷ octets) (completed (giving listed rest x)) w
    gives_all octet [] rest w r is link = gives_one octet rest w r is link
    gives_all octet (next ∷ octets) rest w r is link =
        let first = gives_one octet ((next ∷ octets) ++ rest) w r is link in
        let g = first.gave in
        let there : first.new.far ≡ giving listed ((next ∷ octets) ++ rest) x = g.far ∙ ap (far_ahead Level) (gives_on listed next (octets ++ rest) x) in
        let again : Rested first.new = record {
          near_rests = ap (λ n. rests (near.wants n)) g.near ∙ r.near_rests;
          near_open = ap (λ (n : Near). n.closing) g.near ∙ r.near_open;
          none = ap report_of g.near ∙ r.none;
          runs = record {
            running = ap (λ (y : Far). y.session.life) there ∙ running;
            none_waits = ap (λ (y : Far). y.waiting) there ∙ none_waits;
          };
          far_open = ap (λ (y : Far). y.session.closing) there;
          none_asked = ap (λ (y : Far). is_asked y.session.connection) there;
        } in
        let others = gives_all next octets rest first.new again there g.link in
        let h = others.gave in
        record {
          new = others.new;
          leads = leads_then read [] [] w first.new others.new first.leads others.leads;
          gave = record {
            near = h.near ∙ g.near;
            far = h.far;
            to_server = h.to_server ∙ g.to_server;
            to_client = h.to_client ∙ g.to_client;
            falling = h.falling ∙ ap (λ q. q ++ next ∷ octets) g.falling ∙ append_assoc w.data_to_client (octet ∷ []) (next ∷ octets);
            listens = h.listens ∙ g.listens;
            reports = h.reports ∙ g.reports;
            control = h.control ∙ g.control;
            marks = h.marks ∙ g.marks;
            cutoff = h.cutoff ∙ g.cutoff;
            rising = h.rising ∙ g.rising;
            link = h.link;
            held = λ e. g.held (h.held e);
          };
        }

-- ---- of a drive

-- what is still to be given
given_of : (listed : Bool) (all : List ℕ) → given_by (Data.Transferring (giving_of listed all)) ≡ all
given_of true all = refl
given_of false all = refl

-- who gives them takes none
pub gives_octets : (listed : Bool) (octets : List ℕ) → is_giving (Data.Transferring (giving_of listed octets)) ≡ true
gives_octets true octets = refl
gives_octets false octets = refl

-- octets are given whatever the moment
given_clock : (listed : Bool) (rest : List ℕ) (moment : ℕ) (v : Far)
    → completed (giving listed rest (clock_step moment v)) ≡ clock_step moment (completed (giving listed rest v))
given_clock true [] moment v = refl
given_clock false [] moment v = refl
given_clock true (octet ∷ more) moment v = refl
given_clock false (octet ∷ more) moment v = refl

-- who has one was not called
had_uncalled : (hold : Hold) → is_had hold ≡ true → is_called hold ≡ false
had_uncalled Has e = refl
had_uncalled hold e = absurd (true≢false (sym e))

module _ (read : Reading) (orders : List Order) (old new : Stand server_side) (client : Stand client_side) (reports : List Said) (w : World)
    (calm : ServerIsCalm old.owner new.owner) (before : ServerServes old.owner) (asks : ClientFetches client.owner)
    (known : Known w) where
  abbrev v : Far
  v = old.owner.end.server.view

  abbrev u : Far
  u = new.owner.end.server.view

  module _ (count : ℕ) (octets : List ℕ) (rest : Rest) (moment : ℕ) (between : Between) (told : ℕ)
      (did : Calls {side = server_side} (Gave count octets rest) old new) where
    unclosed : v.session.closing ≡ false
    unclosed = no_close v Want.Send did.0.2 refl

    s : Sending v.session.connection
    s = sending_of v.session.connection (ap is_send (sym (far_wants v before.running unclosed)) ∙ ap is_send did.0.2)

    vg : v ≡ giving s.listed s.all v
    vg = λ i. record v { session = record v.session { connection = s.is i; closing = unclosed i } }

    abbrev left : List ℕ
    left = drop count s.all

    gave : octets ≡ take count s.all
    gave = (did.0.0.0 (ap (λ c. c.failures.strays) calm)).0 ∙ ap (λ f. take count (far.to_give f)) vg ∙ ap (take count) (given_all s.listed s.all v)

    whole : octets ++ left ≡ s.all
    whole = ap (λ o. o ++ left) gave ∙ take-append-drop count s.all

    kept : GivenKeeps (completed (giving s.listed left v)) v
    kept = given_keeps s.listed left v

    is : u ≡ completed (giving s.listed left v)
    is =
        let step : given_step count v ≡ completed (giving s.listed left v) = ap (given_step count) vg ∙ given_is s.listed count s.all v in
        did.0.0.1.0.done calm ∙ none_later (given_step count v) (ap (λ (f : Far). f.waiting) step ∙ kept.waiting ∙ before.none_waits) ∙ step

    channel : new.owner.channel ≡ with_given octets rest old.owner.channel
    channel = did.0.1.0

    unwritten : new.owner.channel.unwritten ≡ old.owner.channel.unwritten ++ octets
    unwritten = ap (λ (l : Channel). l.unwritten) channel

    stood : new.owner.channel.stands ≡ true
    stood = ap (λ (l : Channel). l.stands) channel ∙ did.0.1.1.0

    link_open : is_open v.session.connection ≡ true
    link_open = ap is_open s.is

    module _ (t : Together read orders moment Level between told old client reports w) where
      had : is_had between.far ≡ true
      had = t.holds.had link_open

      serves : Writes between.far new.owner.channel
      serves = record { spare = λ e. absurd (both had e); bare = λ e. absurd (both stood e) }

      comes : Comes between.far u.session new.owner.channel
      comes = record {
        bare = λ e. absurd (both stood e);
        spare = λ e. absurd (both had e);
        over = λ e. absurd (both (ap (λ (l : Channel). is_sound l.fate) channel ∙ ap is_sound did.0.1.1.1) e);
        shut = λ e. absurd (both (ap (λ (l : Channel). is_sound l.fate) channel ∙ ap is_sound did.0.1.1.1) e);
      }

      holds : Holds Level between.far u.session
      holds = record {
        shut = subst (λ (f : Far). f.session.closing ≡ true → is_open f.session.connection ≡ false) (sym is) (given_shut s.listed left v);
        had = λ e. had;
        called = λ c e. absurd (both c (had_uncalled between.far had));
        opened = λ e. absurd (true≢false (sym e));
      }

      fits : is_asked u.session.connection ≡ false
      fits = ap (λ (f : Far). is_asked f.session.connection) is ∙ kept.unasked

      wf : w.far ≡ giving s.listed s.all (clock_step moment v)
      wf = t.beside.far ∙ ap (λ f. clock_step moment (far_ahead Level f)) vg

      is_given : is_giving w.far.session.connection ≡ true
      is_given = ap (λ (f : Far). is_giving f.session.connection) wf ∙ gives_octets s.listed s.all

      -- nor has the client closed the link
      unclosed_there : is_closed_by_near w.link ≡ false
      unclosed_there = is_false (is_closed_by_near w.link) (λ e. both (known.closed e) (given_untaken w.far.session.connection is_given))

      -- there is an octet to give
      some : (octet : ℕ) × (more : List ℕ) × (s.all ≡ octet ∷ more)
      some =
          let c = known.carries is_given in (
            c.octet,
            c.more,
            sym (given_of s.listed s.all) ∙ ap (λ (f : Far). given_by f.session.connection) (sym wf) ∙ ap given_by c.far ∙ given_of c.listed (c.octet ∷ c.more),
          )

      -- where none is given all stays
      same : (octet : ℕ) (more : List ℕ) → s.all ≡ octet ∷ more → left ≡ s.all → u ≡ v
      same octet more first all =
          is ∙ ap (λ l. completed (giving s.listed l v)) (all ∙ first) ∙ gives_on s.listed octet more v ∙ ap (λ l. giving s.listed l v) (sym first) ∙ sym vg

      by_octets : (given : List ℕ) → octets ≡ given → Goes read [] orders between told new client reports w
      by_octets [] none =
          let n = some in
          let same_view : u ≡ v = same n.0 n.1 n.2 (ap (λ o. o ++ left) (sym none) ∙ whole) in
          server_stays read orders old new client reports w calm before known moment Level Level between between told told t fits
          (ap (λ f. clock_step moment (far_ahead Level f)) (sym same_view)) (λ l. l) (λ e. e)
          (ap (λ (s : Stand server_side). s.unheard ++ between.control.to_server) (sym did.1)) refl
          (ap (λ (l : Channel). l.untold ++ (between.data_ways.to_server ++ client.owner.channel.unwritten)) (sym channel))
          (ap (λ o. client.owner.channel.untold ++ (between.data_ways.to_client ++ o))
          (sym (unwritten ∙ ap (λ o. old.owner.channel.unwritten ++ o) none ∙ append-nil old.owner.channel.unwritten)))
          refl holds comes serves
      by_octets (octet ∷ more) some_given =
          let b = t.beside in
          let all : s.all ≡ (octet ∷ more) ++ left = sym whole ∙ ap (λ o. o ++ left) some_given in
          let g = gives_all read s.listed (clock_step moment v) before.running before.none_waits octet more left w
          (rested moment Level between told old client reports w b before asks) (wf ∙ ap (λ l. giving s.listed l (clock_step moment v)) all) unclosed_there in
          let e = g.gave in
          let channels : (client.owner.channel.untold ++ (between.data_ways.to_client ++ old.owner.channel.unwritten)) ++ octets
          ≡ client.owner.channel.untold ++ (between.data_ways.to_client ++ (old.owner.channel.unwritten ++ octets)) =
          append_assoc client.owner.channel.untold (between.data_ways.to_client ++ old.owner.channel.unwritten) octets
          ∙ ap (λ o. client.owner.channel.untold ++ o) (append_assoc between.data_ways.to_client old.owner.channel.unwritten octets) in
          record {
            world = g.new;
            leads = g.leads;
            moment = moment;
            ahead = Level;
            marked = e.marks;
            together = record {
              beside = record {
                fits = fits;
                near = e.near ∙ b.near;
                far = e.far ∙ ap (far_ahead Level) (given_clock s.listed left moment v) ∙ ap (λ f. clock_step moment (far_ahead Level f)) (sym is);
                to_server = e.to_server ∙ b.to_server ∙ ap (λ (s : Stand server_side). s.unheard ++ between.control.to_server) (sym did.1);
                to_client = e.to_client ∙ b.to_client;
                falling = λ x. e.falling ∙ ap₂ (λ q o. q ++ o) (b.falling x) (sym some_given) ∙ channels
                    ∙ ap (λ o. client.owner.channel.untold ++ (between.data_ways.to_client ++ o)) (sym unwritten);
                rising = e.rising ∙ b.rising ∙ ap (λ (l : Channel). l.untold ++ (between.data_ways.to_server ++ client.owner.channel.unwritten)) (sym channel);
                listens = e.listens ∙ b.listens;
                reported = e.reports ∙ b.reported;
                control = e.control ∙ b.control;
                unready = λ x. absurd (both x e.link);
                cutoff = e.cutoff ∙ b.cutoff;
              };
              holds = holds;
              comes = comes;
              serves = serves;
              takes = t.takes;
              gives = t.gives;
              keeping = record {
                had = λ x. t.keeping.had (e.held x);
                shut = λ x. is_false (is_near_held g.new.link) (λ y. both (e.held y) (t.keeping.shut x));
                over = λ x. is_false (is_near_held g.new.link) (λ y. both (e.held y) (t.keeping.over x));
              };
              twin = λ x. absurd (true≢false (sym x));
            };
          }

    -- the server gave these
    pub server_gave : (ahead : Ahead) → Together read orders moment ahead between told old client reports w
        → Goes read [] orders between told new client reports w
    server_gave Level t = by_octets t octets refl
    server_gave (Listens port) t = absurd (both t.beside.fits (ap is_asked s.is))
    server_gave Opens t = absurd (both t.beside.fits (ap accepts s.is))
    server_gave (Parted true) t = absurd (both t.beside.fits (ap (is_left true) s.is))
    server_gave (Parted false) t = absurd (both t.beside.fits (ap (is_left false) s.is))
