-- Actions of a server that takes files for which nothing happens in a world: octets are read, it is looked at or waited for, a data connection is left, a close
-- or a port is told, and who came is accepted.
use Rattle.std.proofs.Common.{◌≡◌, ◌⊎◌, inl, inr, ℕ, Bool, true, false, true≢false, List, [], ◌∷◌, ◌++◌, Option, Some, refl, sym, ap, ap₂, subst, ◌∙◌, append_assoc, append-nil}
use Rattle.std.specs.Prelude.{◌≢◌}
use Rattle.ftp_endpoint.specs.declared.host.Host.{Host}
use Rattle.ftp_ends.specs.Link.{is_accepting, same_host}
use Rattle.ftp_ends.specs.declared.link.Wants.{Wants}
use Rattle.ftp_ends.specs.declared.link.Wants.TheVariants as Want
use Rattle.ftp_ports.specs.Asking.{Asked, Came, Ended as EndedBy, Reset, Shut}
use Rattle.ftp_ports.specs.Actions.{Calls, ReadsNext, Stand}
use Rattle.ftp_ports.specs.Channel.{IsEnded, IsOpened, Channel}
use Rattle.ftp_ports.specs.Machine.{Aside, Closed, Got, Left, LetGo, Listening, MayLeave, Opened, Waited, Wrote, leaves}
use Rattle.ftp_ports.specs.declared.whole.Fate.{Fate}
use Rattle.ftp_ports.specs.declared.whole.Fate.TheVariants.{Sound, Failed, Broken, Over}
use Rattle.ftp_ports.specs.declared.whole.Rest.{Rest}
use Rattle.ftp_client_driver.specs.Side.{client_side}
use Rattle.ftp_operation.specs.Answer.{Said}
use Rattle.ftp_server_driver.specs.alone.Side.{server_side}
use Rattle.ftp_server_model.specs.Calls as far
use Rattle.ftp_server_model.specs.Calls.{clock_step, close_step, is_upload, listening_step, opened_step, wants_of}
use Rattle.ftp_server_model.specs.Machine.{Reading}
use Rattle.ftp_server_model.specs.View.{Session, View as Far}
use Rattle.ftp_server_model.specs.declared.session.ServerLink.TheVariants as Data
use Rattle.laws_world.specs.Agreement.{Order}
use Rattle.laws_world.specs.World.{World, next_listen, port_at}
use Rattle.laws_agreement.proofs.Chunks.{both_empty}
use Rattle.laws_drivers.specs.control.Alone.{ServerIsCalm}
use Rattle.laws_drivers.specs.control.Between.{Awaits, Between, Can, Far as TheServer, Has, Has_lost, Hold, IsOver, IsStanding, with_hold}
use Rattle.laws_drivers.specs.control.Touches.{Accepts, Ends, Listens as ListensAt, Takes as TakesOctets, Writes as WritesOctets}
use Rattle.laws_drivers.proofs.control.Worlds.{leads_none}
use Rattle.laws_drivers.specs.world.Ahead.{accepts, is_asked, is_open}
use Rattle.laws_transfers.specs.Ahead.{Ahead, Fits, Level, Listened, Listens, Opens, Parted, ahead_of, far_ahead, is_left, is_parted_ahead}
use Rattle.laws_drivers.proofs.world.Ahead.{listened_level, opened_level}
use Rattle.laws_transfers.proofs.Ahead.{Holds, far_is, is_ahead, keeps, left_is, left_rests}
use Rattle.laws_drivers.proofs.world.Hearing.{at_link}
use Rattle.laws_drivers.proofs.world.Served.{far_wants}
use Rattle.laws_drivers.proofs.events.Holding.{both, is_called, is_false, is_had, is_sound}
use Rattle.laws_drivers.proofs.events.FarForms.{accepts_accepts, asked_apart, asked_listens, is_listen, leaves_open, never_all, no_close, none_later, opened_is, opened_shut, told_passive}
use Rattle.laws_drivers.proofs.events.Stands.{ServerServes}
use Rattle.laws_transfers.proofs.Beside.{Comes, Goes, Together, Writes}
use Rattle.laws_transfers.proofs.FarForms.{is_receive, receives_upload, shut_untaken}
use Rattle.laws_transfers.proofs.Known.{Known}
use Rattle.laws_transfers.proofs.Lost.{with_lost}

-- an end that has none had none
not_had : (hold : Hold) → IsOver hold → is_had hold ≡ false
not_had Has over = absurd over
not_had hold over = refl

-- one that was called has none
called_spare : (hold : Hold) → is_called hold ≡ true → is_had hold ≡ false
called_spare Has e = absurd (true≢false (sym e))
called_spare hold e = refl

module _ (read : Reading) (orders : List Order) (old new : Stand server_side) (client : Stand client_side) (reports : List Said) (w : World)
    (calm : ServerIsCalm old.owner new.owner) (before : ServerServes old.owner) (known : Known w) where
  abbrev v : Far
  v = old.owner.end.server.view

  abbrev u : Far
  u = new.owner.end.server.view

  -- what lies between is this now, and what came to the server
  abbrev Climbs : Between → Between → Type 0
  Climbs between next = old.owner.channel.untold ++ (between.data_ways.to_server ++ client.owner.channel.unwritten)
      ≡ new.owner.channel.untold ++ (next.data_ways.to_server ++ client.owner.channel.unwritten)

  -- and of what goes to the client
  abbrev Falls : Between → Between → Type 0
  Falls between next = client.owner.channel.untold ++ (between.data_ways.to_client ++ old.owner.channel.unwritten)
      ≡ client.owner.channel.untold ++ (next.data_ways.to_client ++ new.owner.channel.unwritten)

  -- a world stays beside
  pub server_stays : (moment : ℕ) (ahead onward : Ahead) (between next : Between) (told count : ℕ)
      → Together read orders moment ahead between told old client reports w
      → Fits onward u.session.connection → clock_step moment (far_ahead ahead v) ≡ clock_step moment (far_ahead onward u)
      → (Listened ahead told w.listens → Listened onward count w.listens) → (is_parted_ahead onward ≡ true → is_parted_ahead ahead ≡ true)
      → old.unheard ++ between.control.to_server ≡ new.unheard ++ next.control.to_server → next.control.to_client ≡ between.control.to_client
      → Climbs between next → Falls between next → next.near ≡ between.near → Holds onward next.far u.session → Comes next.far u.session new.owner.channel
      → Writes next.far new.owner.channel → Goes read [] orders next count new client reports w
  server_stays moment ahead onward between next told count t fits far listens parts queue other climbs falls near holds comes serves = record {
    world = w;
    leads = leads_none read w;
    moment = moment;
    ahead = onward;
    marked = refl;
    together = record {
      beside = record {
        fits = fits;
        near = t.beside.near;
        far = t.beside.far ∙ far;
        to_server = t.beside.to_server ∙ queue;
        to_client = t.beside.to_client ∙ ap (λ q. client.unheard ++ q) (sym other);
        rising = t.beside.rising ∙ climbs;
        falling = λ e. t.beside.falling e ∙ falls;
        listens = listens t.beside.listens;
        reported = t.beside.reported;
        control = t.beside.control;
        unready = t.beside.unready;
        cutoff = t.beside.cutoff;
      };
      holds = holds;
      comes = comes;
      serves = serves;
      takes = t.takes;
      gives = subst (λ (h : Hold). Writes h client.owner.channel) (sym near) t.gives;
      keeping = record { had = λ e. ap is_had near ∙ t.keeping.had e; shut = t.keeping.shut; over = t.keeping.over };
      twin = λ e. t.twin (parts e);
    };
  }

  -- the server holds the same, but for a moment that it may have been told
  server_keeps : (moment : ℕ) (ahead : Ahead) (between next : Between) (told : ℕ) → Together read orders moment ahead between told old client reports w
      → clock_step moment (far_ahead ahead v) ≡ clock_step moment (far_ahead ahead u) → u.session ≡ v.session
      → old.unheard ++ between.control.to_server ≡ new.unheard ++ next.control.to_server → next.control.to_client ≡ between.control.to_client
      → Climbs between next → Falls between next → next.far ≡ between.far → next.near ≡ between.near → Comes between.far v.session new.owner.channel
      → Writes between.far new.owner.channel → Goes read [] orders next told new client reports w
  server_keeps moment ahead between next told t far session queue other climbs falls hold near comes serves =
      server_stays moment ahead ahead between next told told t (subst (λ (s : Session). Fits ahead s.connection) (sym session) t.beside.fits) far (λ l. l)
      (λ e. e) queue other climbs falls near
      (subst (λ (h : Hold). Holds ahead h u.session) (sym hold) (subst (λ (s : Session). Holds ahead between.far s) (sym session) t.holds))
      (subst (λ (h : Hold). Comes h u.session new.owner.channel) (sym hold) (subst (λ (s : Session). Comes between.far s new.owner.channel) (sym session) comes))
      (subst (λ (h : Hold). Writes h new.owner.channel) (sym hold) serves)

  -- where it is the same end and channel
  same_channel : (between : Between) → new.owner.channel ≡ old.owner.channel → Climbs between between
  same_channel between channel = ap (λ (l : Channel). l.untold ++ (between.data_ways.to_server ++ client.owner.channel.unwritten)) (sym channel)

  same_falls : (between : Between) → new.owner.channel ≡ old.owner.channel → Falls between between
  same_falls between channel = ap (λ (l : Channel). client.owner.channel.untold ++ (between.data_ways.to_client ++ l.unwritten)) (sym channel)

  -- where nothing is written or given
  same_unwritten : (between : Between) → new.owner.channel.unwritten ≡ old.owner.channel.unwritten → Falls between between
  same_unwritten between is = ap (λ o. client.owner.channel.untold ++ (between.data_ways.to_client ++ o)) (sym is)

  same_writes : (hold : Hold) → new.owner.channel.unwritten ≡ old.owner.channel.unwritten → new.owner.channel.stands ≡ old.owner.channel.stands
      → Writes hold old.owner.channel → Writes hold new.owner.channel
  same_writes hold is stands writes = record { spare = λ e. is ∙ writes.spare e; bare = λ e. is ∙ writes.bare (sym stands ∙ e) }

  same_comes : (hold : Hold) → new.owner.channel ≡ old.owner.channel → Comes hold v.session old.owner.channel → Comes hold v.session new.owner.channel
  same_comes hold channel comes = subst (Comes hold v.session) (sym channel) comes

  -- octets are read
  pub server_read : (octets : List ℕ) (moment : ℕ) (ahead : Ahead) (between next : Between) (told : ℕ)
      → Together read orders moment ahead between told old client reports w
      → ReadsNext octets old new → between.control.to_server ≡ octets ++ next.control.to_server → next.control.to_client ≡ between.control.to_client
      → next.data_ways ≡ between.data_ways → next.far ≡ between.far → next.near ≡ between.near → Goes read [] orders next told new client reports w
  server_read octets moment ahead between next told t did front other ways hold near =
      let channel : new.owner.channel ≡ old.owner.channel = ap (λ o. o.channel) did.owner in
      let is : u ≡ v = ap (λ o. o.end.server.view) did.owner in
      server_keeps moment ahead between next told t (ap (λ f. clock_step moment (far_ahead ahead f)) (sym is)) (ap (λ (f : Far). f.session) is)
      (ap₂ (λ a b. a ++ b) did.heard front ∙ ap (λ a. a ++ next.control.to_server) (sym did.unheard)) other
      (same_channel between channel ∙ ap (λ d. new.owner.channel.untold ++ (d.to_server ++ client.owner.channel.unwritten)) (sym ways))
      (same_falls between channel ∙ ap (λ d. client.owner.channel.untold ++ (d.to_client ++ new.owner.channel.unwritten)) (sym ways)) hold near
      (same_comes between.far channel t.comes) (subst (Writes between.far) (sym channel) t.serves)

  -- a call that leaves the end as it is
  server_idle : (moment : ℕ) (ahead : Ahead) (between next : Between) (told : ℕ) → Together read orders moment ahead between told old client reports w → u ≡ v
      → new.unheard ≡ old.unheard → next.control ≡ between.control → Climbs between next → Falls between next → next.far ≡ between.far
      → next.near ≡ between.near → Comes between.far v.session new.owner.channel → Writes between.far new.owner.channel
      → Goes read [] orders next told new client reports w
  server_idle moment ahead between next told t is unheard control climbs falls hold near comes serves =
      server_keeps moment ahead between next told t (ap (λ f. clock_step moment (far_ahead ahead f)) (sym is)) (ap (λ (f : Far). f.session) is)
      (ap₂ (λ a c. a ++ c.to_server) (sym unheard) (sym control)) (ap (λ c. c.to_client) control) climbs falls hold near comes serves

  -- it is asked whether it is done
  pub server_aside : (moment : ℕ) (ahead : Ahead) (between : Between) (told : ℕ) → Together read orders moment ahead between told old client reports w
      → Calls {side = server_side} (Aside tt) old new → Goes read [] orders between told new client reports w
  server_aside moment ahead between told t did =
      let channel : new.owner.channel ≡ old.owner.channel = did.0.1 in
      server_idle moment ahead between between told t (ap (λ at. at.server.view) did.0.0.0) (ap (λ (s : Stand server_side). s.unheard) did.1) refl
      (same_channel between channel) (same_falls between channel) refl refl (same_comes between.far channel t.comes) (subst (Writes between.far) (sym channel) t.serves)

  -- it is waited at
  pub server_waited : (lost : Bool) (moment : ℕ) (ahead : Ahead) (between : Between) (told : ℕ)
      → Together read orders moment ahead between told old client reports w
      → Calls {side = server_side} (Waited lost) old new → Goes read [] orders between told new client reports w
  server_waited lost moment ahead between told t did =
      let held = did.0.1.holds in
      server_idle moment ahead between between told t (ap (λ at. at.server.view) did.0.0) (ap (λ (s : Stand server_side). s.unheard) did.1) refl
      (ap (λ o. o ++ (between.data_ways.to_server ++ client.owner.channel.unwritten)) (sym held.untold)) (same_unwritten between held.unwritten) refl refl
      (record {
        bare = λ e. held.untold ∙ t.comes.bare (sym held.stands ∙ e);
        spare = λ e. held.untold ∙ t.comes.spare e;
        over = λ e. held.untold ∙ t.comes.over (ap is_sound (sym held.fate) ∙ e);
        shut = λ e. t.comes.shut (ap is_sound (sym held.fate) ∙ e);
      })
      (same_writes between.far held.unwritten held.stands t.serves)

  -- ---- a server that takes no octets

  -- has none before it
  pub none_there : (moment : ℕ) (ahead : Ahead) (between : Between) (told : ℕ) → Together read orders moment ahead between told old client reports w
      → is_upload v.session.connection ≡ false → old.owner.channel.untold ≡ []
  none_there moment ahead between told t none = by ahead t
    where
      first : (front rest : List ℕ) → w.data_to_server ≡ front ++ rest → w.data_to_server ≡ [] → front ≡ []
      first front rest is empty = (both_empty front rest (sym is ∙ empty)).0

      by : (ahead : Ahead) → Together read orders moment ahead between told old client reports w → old.owner.channel.untold ≡ []
      by Level t =
          first old.owner.channel.untold (between.data_ways.to_server ++ client.owner.channel.unwritten) t.beside.rising
          (known.still (ap (λ (f : Far). is_upload f.session.connection) t.beside.far ∙ none))
      by Opens t = t.comes.spare (called_spare between.far (t.holds.opened refl))
      by (Listens port) t =
          first old.owner.channel.untold (between.data_ways.to_server ++ client.owner.channel.unwritten) t.beside.rising
          (known.still (ap (λ (f : Far). is_upload f.session.connection) t.beside.far
          ∙ ap is_upload (told_passive v.session.connection t.beside.fits port v)))
      by (Parted accepted) t =
          first old.owner.channel.untold (between.data_ways.to_server ++ client.owner.channel.unwritten) t.beside.rising
          (known.still (ap (λ (f : Far). is_upload f.session.connection) t.beside.far))

  -- octets that came are let go: there are none
  pub server_lets : (octets : List ℕ) (moment : ℕ) (ahead : Ahead) (between : Between) (told : ℕ)
      → Together read orders moment ahead between told old client reports w
      → Calls {side = server_side} (LetGo octets) old new → Goes read [] orders between told new client reports w
  server_lets octets moment ahead between told t did =
      let channel = did.0.1.1 in
      let none : old.owner.channel.untold ≡ [] = none_there moment ahead between told t (untaken v.session.closing refl) in
      let empty : new.owner.channel.untold ≡ [] = (both_empty octets new.owner.channel.untold (sym did.0.1.0 ∙ none)).1 in
      server_idle moment ahead between between told t (ap (λ at. at.server.view) did.0.0.0) (ap (λ (s : Stand server_side). s.unheard) did.1) refl
      (ap (λ o. o ++ (between.data_ways.to_server ++ client.owner.channel.unwritten)) (none ∙ sym empty))
      (same_unwritten between (ap (λ (l : Channel). l.unwritten) channel)) refl refl
      (record { bare = λ e. empty; spare = λ e. empty; over = λ e. empty; shut = λ e. t.comes.shut (ap (λ (l : Channel). is_sound l.fate) (sym channel) ∙ e) })
      (same_writes between.far (ap (λ (l : Channel). l.unwritten) channel) (ap (λ (l : Channel). l.stands) channel) t.serves)
    where
      not_receive : (q : Wants) → q ≢ Want.Receive → is_receive q ≡ false
      not_receive Want.Receive none = absurd (none refl)
      not_receive wants none = refl

      untaken : (closing : Bool) → v.session.closing ≡ closing → is_upload v.session.connection ≡ false
      untaken true is = shut_untaken v.session.connection (t.holds.shut is)
      untaken false is =
          sym (receives_upload v.session.connection) ∙ ap is_receive (sym (far_wants v before.running is)) ∙ not_receive (far.wants v) did.0.0.1

  -- octets come
  pub server_got : (octets : List ℕ) (moment : ℕ) (ahead : Ahead) (between next : Between) (told : ℕ)
      → Together read orders moment ahead between told old client reports w
      → Calls {side = server_side} (Got octets) old new → Can TheServer (TakesOctets octets) between next → Goes read [] orders next told new client reports w
  server_got octets moment ahead between next told t did can =
      let got = did.0.1 in
      let has : is_had between.far ≡ true = ap is_had can.0 in
      let climbs : Climbs between next =
      ap₂ (λ a b. a ++ (b ++ client.owner.channel.unwritten)) got.told can.1
      ∙ append_assoc octets next.data_ways.to_server client.owner.channel.unwritten
      ∙ ap (λ a. a ++ (next.data_ways.to_server ++ client.owner.channel.unwritten)) (sym got.untold) in
      server_idle moment ahead between next told t (ap (λ at. at.server.view) did.0.0) (ap (λ (s : Stand server_side). s.unheard) did.1)
      (ap (λ (m : Between). m.control) can.2) climbs
      (ap₂ (λ (m : Between) o. client.owner.channel.untold ++ (m.data_ways.to_client ++ o)) (sym can.2) (sym got.unwritten))
      (ap (λ (m : Between). m.far) can.2) (ap (λ (m : Between). m.near) can.2)
      (record {
        bare = λ e. absurd (both (got.stands ∙ got.is_open.0) e);
        spare = λ e. absurd (both has e);
        over = λ e. absurd (both (ap is_sound (got.fate ∙ got.is_open.1)) e);
        shut = λ e. absurd (both (ap is_sound (got.fate ∙ got.is_open.1)) e);
      })
      (same_writes between.far got.unwritten got.stands t.serves)

  -- octets are written
  pub server_wrote : (octets : List ℕ) (moment : ℕ) (ahead : Ahead) (between next : Between) (told : ℕ)
      → Together read orders moment ahead between told old client reports w
      → Calls {side = server_side} (Wrote octets) old new → Can TheServer (WritesOctets octets) between next
      → Goes read [] orders next told new client reports w
  server_wrote octets moment ahead between next told t did can =
      let wrote = did.0.1 in
      let has : is_had between.far ≡ true = ap is_had can.0 in
      let falls : Falls between next =
      ap (λ o. client.owner.channel.untold ++ (between.data_ways.to_client ++ o)) wrote.first
      ∙ ap (λ o. client.owner.channel.untold ++ o) (sym (append_assoc between.data_ways.to_client octets new.owner.channel.unwritten))
      ∙ ap (λ (m : Between). client.owner.channel.untold ++ (m.data_ways.to_client ++ new.owner.channel.unwritten)) (sym can.1) in
      server_idle moment ahead between next told t (ap (λ at. at.server.view) did.0.0) (ap (λ (s : Stand server_side). s.unheard) did.1)
      (ap (λ (m : Between). m.control) can.1)
      (ap₂ (λ (m : Between) o. o ++ (m.data_ways.to_server ++ client.owner.channel.unwritten)) (sym can.1) (sym wrote.untold)) falls
      (ap (λ (m : Between). m.far) can.1) (ap (λ (m : Between). m.near) can.1)
      (record {
        bare = λ e. absurd (both (wrote.stands ∙ wrote.is_open.0) e);
        spare = λ e. absurd (both has e);
        over = λ e. wrote.untold ∙ t.comes.over (ap is_sound (sym wrote.fate) ∙ e);
        shut = λ e. t.comes.shut (ap is_sound (sym wrote.fate) ∙ e);
      })
      (record { spare = λ e. absurd (both has e); bare = λ e. absurd (both (wrote.stands ∙ wrote.is_open.0) e) })

  -- it is told that a close is done
  pub server_closed : (moment : ℕ) (ahead : Ahead) (between : Between) (told : ℕ) → Together read orders moment ahead between told old client reports w
      → Calls {side = server_side} Closed old new → Goes read [] orders between told new client reports w
  server_closed moment ahead between told t did =
      let channel : new.owner.channel ≡ old.owner.channel = did.0.1.0 in
      let is : u ≡ close_step v = did.0.0.0.done calm ∙ none_later (close_step v) before.none_waits in
      let link : u.session.connection ≡ v.session.connection = ap (λ (f : Far). f.session.connection) is in
      server_stays moment ahead ahead between between told told t (subst (Fits ahead) (sym link) t.beside.fits)
      (ap (λ f. clock_step moment (far_ahead ahead f)) (sym is)) (λ l. l) (λ e. e)
      (ap (λ (s : Stand server_side). s.unheard ++ between.control.to_server) (sym did.1)) refl (same_channel between channel) (same_falls between channel) refl
      (record {
        shut = λ e. absurd (both e (ap (λ (f : Far). f.session.closing) is));
        had = λ e. t.holds.had (ap is_open (sym link) ∙ e);
        called = λ c e. t.holds.called c (ap accepts (sym link) ∙ e);
        opened = t.holds.opened;
      })
      (record {
        bare = λ e. ap (λ (l : Channel). l.untold) channel ∙ t.comes.bare (ap (λ (l : Channel). l.stands) (sym channel) ∙ e);
        spare = λ e. ap (λ (l : Channel). l.untold) channel ∙ t.comes.spare e;
        over = λ e. ap (λ (l : Channel). l.untold) channel ∙ t.comes.over (ap (λ (l : Channel). is_sound l.fate) (sym channel) ∙ e);
        shut = λ e. ap is_open link ∙ t.comes.shut (ap (λ (l : Channel). is_sound l.fate) (sym channel) ∙ e);
      })
      (subst (Writes between.far) (sym channel) t.serves)

  -- ---- a port

  -- it is told that
  pub server_listens : (port : ℕ) (moment : ℕ) (ahead : Ahead) (between next : Between) (told : ℕ)
      → Together read orders moment ahead between told old client reports w
      → Calls {side = server_side} (Listening port) old new → Can TheServer (ListensAt (Some port)) between next → port ≡ port_at told
      → Goes read [] orders next (next_listen told) new client reports w
  server_listens port moment ahead between next told t did can same = by ahead t
    where
      unclosed : v.session.closing ≡ false
      unclosed = no_close v Want.Listen did.0.2.0 refl

      asked : is_asked v.session.connection ≡ true
      asked = sym (asked_listens v.session.connection) ∙ ap is_listen (sym (far_wants v before.running unclosed)) ∙ ap is_listen did.0.2.0

      kept : far_ahead (Listens port) v ≡ close_step (listening_step port v)
      kept = far_is (Listens port) v unclosed

      is : u ≡ listening_step port v
      is = did.0.0.0.done calm ∙ none_later (listening_step port v)
          (ap (λ (f : Far). f.waiting) (sym kept) ∙ (keeps (Listens port) v asked).waiting ∙ before.none_waits)

      passive : u.session.connection ≡ Data.Passive
      passive = ap (λ (f : Far). f.session.connection) is
          ∙ ap (λ c. (listening_step port (record v { session = record v.session { closing = c } })).session.connection) unclosed
          ∙ told_passive v.session.connection asked port v

      empty : old.owner.channel.untold ≡ []
      empty = t.comes.spare (not_had between.far can.0)

      untold : new.owner.channel.untold ≡ []
      untold = ap (λ (l : Channel). l.untold) did.0.1.1 ∙ empty

      none : old.owner.channel.unwritten ≡ []
      none = t.serves.spare (not_had between.far can.0)

      unwritten : new.owner.channel.unwritten ≡ []
      unwritten = ap (λ (l : Channel). l.unwritten) did.0.1.1 ∙ none

      hold : next.far ≡ Awaits port
      hold = ap (λ (m : Between). m.far) can.1

      by : (ahead : Ahead) → Together read orders moment ahead between told old client reports w
          → Goes read [] orders next (next_listen told) new client reports w
      by Level t = absurd (both asked t.beside.fits)
      by Opens t = absurd (both t.beside.fits (asked_apart v.session.connection asked))
      by (Parted accepted) t = absurd (both asked (left_rests accepted v.session.connection t.beside.fits).1)
      by (Listens other) t =
          let port_is : other ≡ port = t.beside.listens.1 ∙ sym same in
          server_stays moment (Listens other) Level between next told (next_listen told) t (ap is_asked passive)
          (ap (λ p. clock_step moment (far_ahead (Listens p) v)) port_is ∙ ap (clock_step moment) (sym (listened_level port v unclosed))
          ∙ ap (λ f. clock_step moment (far_ahead Level f)) (sym is)) (λ l. l.0) (λ e. absurd (true≢false (sym e)))
          (ap₂ (λ (s : Stand server_side) (m : Between). s.unheard ++ m.control.to_server) (sym did.1) (sym can.1))
          (ap (λ (m : Between). m.control.to_client) can.1)
          (ap₂ (λ o (m : Between). o ++ (m.data_ways.to_server ++ client.owner.channel.unwritten)) (empty ∙ sym untold) (sym can.1))
          (ap₂ (λ o (m : Between). client.owner.channel.untold ++ (m.data_ways.to_client ++ o)) (none ∙ sym unwritten) (sym can.1))
          (ap (λ (m : Between). m.near) can.1)
          (record {
            shut = λ e. ap is_open passive;
            had = λ e. absurd (both e (ap is_open passive));
            called = λ c e. absurd (both c (ap is_called hold));
            opened = λ e. absurd (true≢false (sym e));
          })
          (record { bare = λ e. untold; spare = λ e. untold; over = λ e. untold; shut = λ e. ap is_open passive })
          (record { spare = λ e. unwritten; bare = λ e. unwritten })

  -- ---- who came

  -- is accepted
  pub server_accepts : (host from : Host) (left written at_first so_far : Option (List ℕ)) (rest : Rest) (moment : ℕ) (ahead : Ahead) (between next : Between)
      (told : ℕ) → Together read orders moment ahead between told old client reports w
      → Calls {side = server_side} (Opened host (Came from left written ∷ []) at_first so_far rest) old new → Can TheServer (Accepts from) between next
      → same_host host v.context.peer ≡ true → Goes read [] orders next told new client reports w
  server_accepts host from left written at_first so_far rest moment ahead between next told t did can same = by ahead t
    where
      wants : far.wants v ≡ Want.Accept
      wants = did.0.2.0

      unclosed : v.session.closing ≡ false
      unclosed = no_close v Want.Accept wants refl

      waits : accepts v.session.connection ≡ true
      waits = sym (accepts_accepts v.session.connection) ∙ ap is_accepting (sym (far_wants v before.running unclosed)) ∙ ap is_accepting wants

      at_level : far_ahead Level (opened_step host v) ≡ far_ahead Opens v
      at_level = opened_level host v waits unclosed same

      is : u ≡ opened_step host v
      is = did.0.0.0.0.done calm ∙ none_later (opened_step host v)
          (ap (λ (f : Far). f.waiting) at_level ∙ (keeps Opens v waits).waiting ∙ before.none_waits)

      fits : is_asked u.session.connection ≡ false
      fits = ap (λ (f : Far). is_asked f.session.connection) is ∙ ap (λ (f : Far). is_asked f.session.connection) at_level ∙ (keeps Opens v waits).told

      opened : u ≡ ahead_of Opens v
      opened = is ∙ opened_is host v same

      shut : u.session.closing ≡ true → is_open u.session.connection ≡ false
      shut = subst (λ (f : Far). f.session.closing ≡ true → is_open f.session.connection ≡ false)
          (ap (λ c. ahead_of Opens (record v { session = record v.session { closing = c } })) (sym unclosed) ∙ sym opened)
          (opened_shut v.session.connection waits v)

      hold : next.far ≡ Has
      hold = ap (λ (m : Between). m.far) can.1

      had : IsOpened host (Came from left written ∷ []) at_first so_far rest old.owner.channel new.owner.channel
      had = did.0.1

      empty : old.owner.channel.untold ≡ new.owner.channel.untold
      empty = t.comes.bare had.none ∙ sym had.untold

      -- a world that was ahead so is no more
      level : (ahead onward : Ahead) → Together read orders moment ahead between told old client reports w → Fits onward u.session.connection
          → clock_step moment (far_ahead ahead v) ≡ clock_step moment (far_ahead onward u) → (Listened ahead told w.listens → Listened onward told w.listens)
          → (is_parted_ahead onward ≡ true → is_parted_ahead ahead ≡ true) → is_ahead onward ≡ false → Goes read [] orders next told new client reports w
      level ahead onward t fits far listens parts none =
          server_stays moment ahead onward between next told told t fits far listens parts
          (ap₂ (λ (s : Stand server_side) (m : Between). s.unheard ++ m.control.to_server) (sym did.1) (sym can.1))
          (ap (λ (m : Between). m.control.to_client) can.1)
          (ap₂ (λ o (m : Between). o ++ (m.data_ways.to_server ++ client.owner.channel.unwritten)) empty (sym can.1))
          (ap₂ (λ o (m : Between). client.owner.channel.untold ++ (m.data_ways.to_client ++ o)) (t.serves.bare had.none ∙ sym had.unwritten) (sym can.1))
          (ap (λ (m : Between). m.near) can.1)
          (record {
            shut = shut;
            had = λ e. ap is_had hold;
            called = λ c e. absurd (both c (ap is_called hold));
            opened = λ e. absurd (both e none);
          })
          (record {
            bare = λ e. had.untold;
            spare = λ e. had.untold;
            over = λ e. had.untold;
            shut = λ e. absurd (both (ap is_sound had.fate) e);
          })
          (record { spare = λ e. had.unwritten; bare = λ e. had.unwritten })

      by : (ahead : Ahead) → Together read orders moment ahead between told old client reports w → Goes read [] orders next told new client reports w
      by Level t = absurd (true≢false (sym (t.holds.called (ap is_called can.0) waits)))
      by (Listens port) t = absurd (both waits (asked_apart v.session.connection t.beside.fits))
      by Opens t =
          level Opens Level t fits (ap (clock_step moment) (sym at_level) ∙ ap (λ f. clock_step moment (far_ahead Level f)) (sym is)) (λ l. l)
          (λ e. absurd (true≢false (sym e))) refl
      by (Parted true) t = absurd (both waits (ap accepts (left_is true v.session.connection t.beside.fits)))
      by (Parted false) t =
          let vp : v ≡ at_link Data.Passive false v =
          λ i. record v { session = record v.session { connection = left_is false v.session.connection t.beside.fits i; closing = unclosed i } } in
          let ready : u ≡ at_link Data.Ready false v = opened ∙ ap (ahead_of Opens) vp in
          level (Parted false) (Parted true) t (ap (λ (f : Far). is_left true f.session.connection) ready)
          (ap (λ f. clock_step moment (far_ahead (Parted true) f)) (sym ready)) (λ l. l) (λ e. refl) refl

  -- ---- a data connection is left

  -- one that leaves what it has has none open
  left_shut : (asked : Asked) (moment : ℕ) (ahead : Ahead) (between : Between) (told : ℕ) → Together read orders moment ahead between told old client reports w
      → Calls {side = server_side} (Left asked) old new → is_open v.session.connection ≡ false
  left_shut asked moment ahead between told t did = by_fate old.owner.channel.fate refl did.0.2.0
    where
      by : (closing : Bool) → v.session.closing ≡ closing → (leaves (far.wants v) ≡ true) ⊎ (far.wants v ≡ Want.CloseAll)
          → is_open v.session.connection ≡ false
      by true is may = t.holds.shut is
      by false is may =
          let wants : far.wants v ≡ wants_of v.session.connection = far_wants v before.running is in
          elim may [
            | inl one ↦ leaves_open v.session.connection (sym (ap leaves wants) ∙ one)
            | inr other ↦ absurd (never_all v.session.connection (sym wants ∙ other))
          ]

      by_fate : (fate : Fate) → old.owner.channel.fate ≡ fate → MayLeave (far.wants v ≡ Want.CloseAll) (far.wants v) fate → is_open v.session.connection ≡ false
      by_fate Sound is may = by v.session.closing refl may
      by_fate Failed is may = by v.session.closing refl (inr may)
      by_fate Broken is may = t.comes.shut (ap is_sound is)
      by_fate Over is may = t.comes.shut (ap is_sound is)

  -- the port alone
  pub server_shuts : (moment : ℕ) (ahead : Ahead) (between : Between) (told : ℕ) → Together read orders moment ahead between told old client reports w
      → Calls {side = server_side} (Left Shut) old new → Goes read [] orders between told new client reports w
  server_shuts moment ahead between told t did =
      let left = did.0.1 in
      let fallen : old.owner.channel.stands ≡ false = is_false old.owner.channel.stands (λ e. absurd (stood e left.ended)) in
      let empty : old.owner.channel.untold ≡ [] = t.comes.bare fallen in
      let unsent : old.owner.channel.unwritten ≡ [] = t.serves.bare fallen in
      server_idle moment ahead between between told t (ap (λ at. at.server.view) did.0.0) (ap (λ (s : Stand server_side). s.unheard) did.1) refl
      (ap (λ o. o ++ (between.data_ways.to_server ++ client.owner.channel.unwritten)) (empty ∙ sym left.untold)) (same_unwritten between (left.unwritten
      ∙ sym unsent)) refl refl
      (record {
        bare = λ e. left.untold;
        spare = λ e. left.untold;
        over = λ e. left.untold;
        shut = λ e. absurd (both (ap is_sound left.fate) e);
      })
      (record { spare = λ e. left.unwritten; bare = λ e. left.unwritten })
    where
      is_shut : Asked → Bool
      is_shut Shut = true
      is_shut asked = false

      stood : old.owner.channel.stands ≡ true → IsEnded old.owner.channel.stands old.owner.channel.left old.owner.channel.written old.owner.channel.unwritten Shut → ⊥
      stood is ended =
          elim (subst (λ s. IsEnded s old.owner.channel.left old.owner.channel.written old.owner.channel.unwritten Shut) is ended) [
            | inl one ↦ true≢false (ap is_shut one.1)
            | inr other ↦ true≢false (ap is_shut other)
          ]

  -- it leaves one by an end or by a reset, after which this goes to the client
  leaves_so : (asked : Asked) (moment : ℕ) (ahead : Ahead) (between next : Between) (told : ℕ)
      → Together read orders moment ahead between told old client reports w → Calls {side = server_side} (Left asked) old new
      → next.control ≡ between.control → next.data_ways.to_server ≡ between.data_ways.to_server → next.near ≡ between.near
      → next.data_ways.to_client ≡ between.data_ways.to_client ++ old.owner.channel.unwritten
      → is_called next.far ≡ false → is_called between.far ≡ false → Goes read [] orders next told new client reports w
  leaves_so asked moment ahead between next told t did control ways near falls apart uncalled =
      let channel = did.0.1 in
      let is : u ≡ v = ap (λ at. at.server.view) did.0.0 in
      let session : u.session ≡ v.session = ap (λ (f : Far). f.session) is in
      let none_open : is_open v.session.connection ≡ false = left_shut asked moment ahead between told t did in
      let empty : old.owner.channel.untold ≡ [] = none_there moment ahead between told t (shut_untaken v.session.connection none_open) in
      server_stays moment ahead ahead between next told told t (subst (λ (s : Session). Fits ahead s.connection) (sym session) t.beside.fits)
      (ap (λ f. clock_step moment (far_ahead ahead f)) (sym is)) (λ l. l) (λ e. e)
      (ap₂ (λ (s : Stand server_side) c. s.unheard ++ c.to_server) (sym did.1) (sym control))
      (ap (λ c. c.to_client) control)
      (ap₂ (λ o d. o ++ (d ++ client.owner.channel.unwritten)) (empty ∙ sym channel.untold) (sym ways))
      (ap (λ o. client.owner.channel.untold ++ o)
      (sym falls ∙ sym (append-nil next.data_ways.to_client) ∙ ap (λ o. next.data_ways.to_client ++ o) (sym channel.unwritten)))
      near
      (record {
        shut = λ e. ap (λ (s : Session). is_open s.connection) session ∙ none_open;
        had = λ e. absurd (both e (ap (λ (s : Session). is_open s.connection) session ∙ none_open));
        called = λ c e. absurd (both c apart);
        opened = λ e. absurd (both (t.holds.opened e) uncalled);
      })
      (record {
        bare = λ e. channel.untold;
        spare = λ e. channel.untold;
        over = λ e. channel.untold;
        shut = λ e. ap (λ (s : Session). is_open s.connection) session ∙ none_open;
      })
      (record { spare = λ e. channel.unwritten; bare = λ e. channel.unwritten })

  pub server_ends : (left written : Option (List ℕ)) (moment : ℕ) (ahead : Ahead) (between next : Between) (told : ℕ)
      → Together read orders moment ahead between told old client reports w → Calls {side = server_side} (Left (EndedBy left written)) old new
      → Can TheServer Ends between next → Goes read [] orders next told new client reports w
  server_ends left written moment ahead between next told t did can =
      leaves_so (EndedBy left written) moment ahead between next told t did (ap (λ (m : Between). m.control) can.1)
      (ap (λ (m : Between). m.data_ways.to_server) can.1) (ap (λ (m : Between). m.near) can.1)
      (ap (λ (m : Between). m.data_ways.to_client) can.1 ∙ sym (append-nil between.data_ways.to_client)
      ∙ ap (λ o. between.data_ways.to_client ++ o) (sym did.0.2.1.0)) (ap (λ (m : Between). is_called m.far) can.1) (ap is_called can.0)

  -- what it did not write yet is on its way in a world
  pub server_resets : (left written : Option (List ℕ)) (moment : ℕ) (ahead : Ahead) (between : Between) (told : ℕ)
      → Together read orders moment ahead between told old client reports w → Calls {side = server_side} (Left (Reset left written)) old new
      → IsStanding between.far
      → Goes read [] orders (with_lost old.owner.channel.unwritten (with_hold TheServer Has_lost between)) told new client reports w
  server_resets left written moment ahead between told t did stands =
      leaves_so (Reset left written) moment ahead between (with_lost old.owner.channel.unwritten (with_hold TheServer Has_lost between)) told t did
      refl refl refl refl refl (standing between.far stands)
    where
      standing : (hold : Hold) → IsStanding hold → is_called hold ≡ false
      standing Has is = refl
      standing Has_lost is = refl
      standing hold is = absurd is
