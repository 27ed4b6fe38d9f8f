-- Actions of a client that puts files over its control connection that are events of a world: octets are said, and an operation begins.
use Rattle.std.proofs.Common.{◌≡◌, ℕ, ◌≤◌, true, false, true≢false, List, [], ◌∷◌, ◌++◌, drop, option_to_list, refl, sym, ap, ap₂, subst, ◌∙◌, append_assoc, append-nil, take-append-drop}
use Rattle.std.proofs.lemmas.Bool.{and_right}
use Rattle.ftp_ports.specs.Actions.{Calls, Says as SaysNext, Stand}
use Rattle.ftp_ports.specs.Channel.{Channel}
use Rattle.ftp_ports.specs.Machine.{Aside}
use Rattle.ftp_client_driver.specs.Side.{Starting, client_side}
use Rattle.ftp_client_model.specs.Calls as near
use Rattle.ftp_client_model.specs.Calls.{data_closed, is_busy, report_of, starts}
use Rattle.ftp_client_model.specs.View.{View as Near}
use Rattle.ftp_ends.specs.Link.{is_wanted}
use Rattle.ftp_operation.specs.Answer.{Said}
use Rattle.ftp_operation.specs.declared.op.Op.{Op}
use Rattle.ftp_server_driver.specs.alone.Side.{server_side}
use Rattle.ftp_server_model.specs.Calls as far
use Rattle.ftp_server_model.specs.Calls.{clock_step}
use Rattle.ftp_server_model.specs.Machine.{IsReading, Reading}
use Rattle.ftp_tree.specs.Sound.{last_second}
use Rattle.laws_world.specs.Agreement.{Order, Single}
use Rattle.laws_world.specs.Events.{is_asked_for, is_closed_by_far, is_closed_by_near, is_gone}
use Rattle.laws_world.specs.World.{Gone, World}
use Rattle.laws_drivers.specs.control.Alone.{ClientIsCalm}
use Rattle.laws_drivers.specs.control.Between.{Between, Near as TheClient, sent}
use Rattle.laws_drivers.proofs.control.Taken.{free_none, free_same, taken}
use Rattle.laws_transfers.specs.Ahead.{Ahead, Listened}
use Rattle.laws_drivers.proofs.world.Moves.{Rested, begins, near_says, near_saying}
use Rattle.laws_drivers.proofs.world.Served.{rests, settled}
use Rattle.laws_drivers.proofs.events.Holding.{both, is_had, is_sound, unclosed}
use Rattle.laws_transfers.proofs.Ahead.{Holds}
use Rattle.laws_drivers.proofs.events.NearForms.{starts_closing, wants_rest}
use Rattle.laws_drivers.proofs.events.Stands.{ClientFetches, ServerServes}
use Rattle.laws_transfers.proofs.Beside.{Comes, Goes, Takes, Together, Writes, is_taking, rested}
use Rattle.laws_transfers.specs.Actions.{IsCarried}
use Rattle.laws_transfers.proofs.Known.{Known, is_near_held}
use Rattle.laws_transfers.proofs.Settling.{NearSettles, near_settles}
use Rattle.laws_transfers.proofs.Twins.{begun_too, near_said}

module _ (read : Reading) (reads : IsReading read) (orders : List Order) (server : Stand server_side) (old new : Stand client_side) (reports : List Said)
    (w : World)
    (calm : ClientIsCalm old.owner new.owner) (serves : ServerServes server.owner) (before : ClientFetches old.owner) (after : ClientFetches new.owner)
    (known : Known w) where
  abbrev v : Near
  v = old.owner.end.view

  abbrev u : Near
  u = new.owner.end.view

  -- octets are said
  pub client_said : (octets : List ℕ) (moment : ℕ) (ahead : Ahead) (between next : Between) (told : ℕ)
      → Together read orders moment ahead between told server old reports w
      → SaysNext octets old new → next ≡ record between { control = sent TheClient octets between.control }
      → Goes read [] orders next told server new (reports ++ []) w
  client_said octets moment ahead between next told t says can =
      let b = t.beside in
      let count = says.gives.count in
      let rest : List ℕ = drop count v.owed in
      let is : u ≡ near.gives_control count v = says.gives.gave.0 in
      let owed : w.near.owed ≡ octets ++ rest =
      ap (λ (n : Near). n.owed) b.near ∙ sym (take-append-drop count v.owed) ∙ ap (λ o. o ++ rest) (sym says.gives.owed) in
      let channel : new.owner.channel ≡ old.owner.channel = says.gives.channel in
      record {
        world = near_saying read octets rest w;
        leads = near_says read octets rest w (rested moment ahead between told server old reports w b serves before) owed;
        moment = moment;
        ahead = ahead;
        marked = refl;
        together = record {
          beside = record {
            fits = b.fits;
            near = ap (λ (n : Near). record n { owed = rest }) b.near ∙ ap (λ n. data_closed (taken n)) (sym is);
            far = b.far;
            to_server = ap (λ q. q ++ octets) b.to_server ∙ append_assoc server.unheard between.control.to_server octets
                ∙ ap (λ (m : Between). server.unheard ++ m.control.to_server) (sym can);
            to_client = b.to_client ∙ ap₂ (λ a (m : Between). a ++ m.control.to_client) (sym says.unheard) (sym can);
            rising = b.rising ∙ ap₂ (λ (m : Between) (l : Channel). server.owner.channel.untold ++ (m.data_ways.to_server ++ l.unwritten)) (sym can) (sym channel);
            falling = λ e. b.falling (ap is_taking (sym channel) ∙ e)
                ∙ ap₂ (λ (m : Between) (l : Channel). l.untold ++ (m.data_ways.to_client ++ server.owner.channel.unwritten)) (sym can) (sym channel);
            listens = b.listens;
            reported = b.reported ∙ ap (λ n. reports ++ option_to_list (report_of n)) (sym is)
                ∙ ap (λ r. r ++ option_to_list (report_of u)) (sym (append-nil reports));
            control = b.control;
            unready = b.unready;
            cutoff = b.cutoff;
          };
          holds = subst (λ (m : Between). Holds ahead m.far server.owner.end.server.view.session) (sym can) t.holds;
          comes = subst (λ (m : Between). Comes m.far server.owner.end.server.view.session server.owner.channel) (sym can) t.comes;
          serves = subst (λ (m : Between). Writes m.far server.owner.channel) (sym can) t.serves;
          takes = subst Takes (sym channel) t.takes;
          gives = subst (λ (m : Between). Writes m.near new.owner.channel) (sym can) (subst (Writes between.near) (sym channel) t.gives);
          keeping = record {
            had = λ e. ap (λ (m : Between). is_had m.near) can ∙ t.keeping.had e;
            shut = λ e. t.keeping.shut (ap (λ (n : Near). n.closing) (sym is) ∙ e);
            over = λ e. t.keeping.over (ap (λ (l : Channel). is_sound l.fate) (sym channel) ∙ e);
          };
          twin = λ e. near_said read reads orders octets rest w (t.twin e) (rested moment ahead between told server old reports w b serves before) owed;
        };
      }

  -- ---- an operation begins

  pub client_begins : (op : Op (List ℕ)) → IsCarried op → (at : ℕ) → at ≤ last_second → (moment : ℕ) (ahead : Ahead) (between : Between) (told : ℕ)
      → Together read orders moment ahead between told server old reports w → v.closing ≡ false → Calls {side = client_side} (Aside (Starting op)) old new
      → Goes read (Single op at ∷ []) (orders ++ Single op at ∷ []) between told server new (reports ++ []) w
  client_begins op carried at timed moment ahead between told t open_now did =
      let b = t.beside in
      let r : Rested w = rested moment ahead between told server old reports w b serves before in
      let free : is_busy v ≡ false = did.0.0.0 in
      let is : u ≡ starts op v = did.0.0.1.0.0 calm in
      let near_is : w.near ≡ v = b.near ∙ ap data_closed (free_same v free) ∙ unclosed v open_now in
      let begun : starts op w.near ≡ u = ap (starts op) near_is ∙ sym is in
      let idle = known.idle (ap is_busy near_is ∙ free) in
      let closing : u.closing ≡ false = ap (λ (n : Near). n.closing) is ∙ starts_closing op v ∙ open_now in
      let asks : is_asked_for w ≡ false = and_right (is_gone w.link) _ (ap (λ q. is_wanted q (far.wants w.far)) idle.wants) in
      let wants : rests (near.wants (data_closed (starts op w.near))) ≡ true =
      ap (λ n. rests (near.wants (data_closed n))) begun ∙ wants_rest (data_closed u) after.sound after.dials refl in
      let now : World = record w { near = starts op w.near; far = clock_step at w.far; marks = w.marks ++ [] ∷ []; taken = [] } in
      let s : NearSettles now (settled now) =
      near_settles now r.far_open r.none_asked (λ e. absurd (true≢false (sym e ∙ ap is_closed_by_far idle.link)))
      (λ e. absurd (both e (ap (λ (n : Near). n.closing) begun ∙ closing))) in
      let link : (settled now).link ≡ Gone = s.stays (ap (λ (n : Near). n.closing) begun ∙ closing) ∙ idle.link in
      let channel : new.owner.channel ≡ old.owner.channel = did.0.1 in
      record {
        world = settled now;
        leads = begins read op at timed w r idle.link (ap is_busy near_is ∙ free) asks wants;
        moment = at;
        ahead = ahead;
        marked = s.same.marks;
        together = record {
          beside = record {
            fits = b.fits;
            near = s.near ∙ ap (λ n. data_closed (taken n)) begun;
            far = s.far ∙ ap (clock_step at) b.far;
            to_server = s.same.to_server ∙ b.to_server;
            to_client = s.same.to_client ∙ b.to_client ∙ ap (λ (x : Stand client_side). x.unheard ++ between.control.to_client) (sym did.1);
            rising = s.same.rising ∙ b.rising ∙ ap (λ (l : Channel). server.owner.channel.untold ++ (between.data_ways.to_server ++ l.unwritten)) (sym channel);
            falling = λ e. s.same.falling ∙ b.falling (ap is_taking (sym channel) ∙ e)
                ∙ ap (λ (l : Channel). l.untold ++ (between.data_ways.to_client ++ server.owner.channel.unwritten)) (sym channel);
            listens = subst (Listened ahead told) (sym s.same.listens) b.listens;
            reported = s.reports ∙ ap₂ (λ r n. r ++ option_to_list (report_of n)) (b.reported ∙ ap (λ o. reports ++ option_to_list o) (free_none v free)) begun;
            control = s.same.control ∙ b.control;
            unready = λ e. absurd (true≢false (sym e ∙ ap is_closed_by_near link));
            cutoff = s.same.cutoff ∙ b.cutoff;
          };
          holds = t.holds;
          comes = t.comes;
          serves = t.serves;
          takes = subst Takes (sym channel) t.takes;
          gives = subst (Writes between.near) (sym channel) t.gives;
          keeping = record {
            had = λ e. absurd (true≢false (sym e ∙ ap is_near_held link));
            shut = λ e. absurd (both e closing);
            over = λ e. ap is_near_held link;
          };
          twin = λ e. begun_too read reads orders op carried at timed w (t.twin e) r (ap is_busy near_is ∙ free) idle.wants wants;
        };
      }
