-- Actions of a client that was dialled and has not accepted yet, in a world whose client has: it hears, and accepts; for all else nothing happens there.
use Rattle.std.proofs.Common.{◌≡◌, ℕ, Bool, true, false, true≢false, List, [], ◌∷◌, ◌++◌, length, take, Option, None, option_to_list, refl, sym, ap, ap₂, subst, ◌∙◌, append_assoc}
use Rattle.ftp_ports.specs.Asking.{Came}
use Rattle.ftp_ports.specs.Actions.{Calls, HearsNext, Stand}
use Rattle.ftp_ports.specs.Channel.{IsOpened}
use Rattle.ftp_ports.specs.Machine.{Opened}
use Rattle.ftp_ports.specs.declared.whole.Rest.{Rest}
use Rattle.ftp_direct.specs.Direct.{State}
use Rattle.ftp_endpoint.specs.declared.host.Host.{Host}
use Rattle.ftp_ends.specs.Link.{same_host}
use Rattle.ftp_ends.specs.declared.link.Wants.{Wants}
use Rattle.ftp_ends.specs.declared.link.Wants.TheVariants as Want
use Rattle.ftp_client_driver.specs.Side.{client_side}
use Rattle.ftp_client_model.specs.Calls as near
use Rattle.ftp_client_model.specs.Calls.{is_sound as is_sound_at}
use Rattle.ftp_client_model.specs.Calls.{accepted, data_closed, data_opened, is_busy, report_of}
use Rattle.ftp_client_model.specs.View.{Flow, View as Near}
use Rattle.ftp_client_model.specs.declared.client.Replied.{Replied}
use Rattle.ftp_operation.specs.Answer.{Said}
use Rattle.ftp_operation.specs.declared.op.Op.{Op}
use Rattle.ftp_server_driver.specs.alone.Side.{server_side}
use Rattle.ftp_server_model.specs.Machine.{IsReading, Reading}
use Rattle.laws_world.specs.Agreement.{Order}
use Rattle.laws_world.specs.World.{World}
use Rattle.laws_agreement.specs.Over.{OverRuns}
use Rattle.laws_drivers.specs.control.Alone.{ClientIsCalm}
use Rattle.laws_drivers.specs.control.Between.{Between, Can, Near as TheClient}
use Rattle.laws_drivers.specs.control.Touches.{Accepts}
use Rattle.laws_drivers.proofs.control.Taken.{taken}
use Rattle.laws_drivers.proofs.control.Worlds.{leads_none}
use Rattle.laws_drivers.proofs.world.Moves.{take_front}
use Rattle.laws_drivers.proofs.events.Holding.{both, is_called, is_had, is_sound, unclosed}
use Rattle.laws_drivers.proofs.events.Stands.{ServerServes, wants_port}
use Rattle.laws_transfers.specs.Ahead.{Ahead}
use Rattle.laws_transfers.proofs.Beside.{Goes, Together}
use Rattle.laws_transfers.proofs.Blind.{hears_blind}
use Rattle.laws_transfers.proofs.Known.{AreCarried}
use Rattle.laws_active.specs.Lead.{Even, Joined, led_by}
use Rattle.laws_active.proofs.Accepting.{awaiting}
use Rattle.laws_active.proofs.Alike.{together_of}
use Rattle.laws_active.proofs.Calls.{listening}
use Rattle.laws_active.proofs.Joining.{HeardAll, all_heard}
use Rattle.laws_active.proofs.Leading.{Comes, IsJoined, Stays, StaysSo, Waits, joined_client, led_between, led_client}
use Rattle.laws_active.proofs.Leads.{LedSo, stays_joined}
use Rattle.laws_active.proofs.LedActions.{GoesLed}
use Rattle.laws_active.proofs.Lifting.{Lifted}
use Rattle.laws_active.proofs.Ports.{accepting_of}

-- ---- what it wants

-- nothing, to accept, or a close
abbrev pub is_patient : Wants → Bool
is_patient Want.Nothing = true
is_patient Want.Accept = true
is_patient Want.CloseData = true
is_patient other = false

-- one at its port, in either way
abbrev pub is_accept : Wants → Bool
is_accept Want.Accept = true
is_accept other = false

listening_wants : (op : Op (List ℕ)) (flow : Flow) (port : ℕ) (n : Near) (closing : Bool)
    → (is_patient (near.wants (record (listening op flow port n) { closing = closing })) ≡ true)
    × (is_accept (near.wants (record (listening op flow port n) { closing = closing })) ≡ false)
unfolding near.wants
listening_wants op flow port n true = (refl, refl)
listening_wants op flow port n false = (refl, refl)

pub awaiting_wants : (op : Op (List ℕ)) (replied : Replied) (flow : Flow) (port : ℕ) (n : Near) (closing : Bool)
    → is_patient (near.wants (record (awaiting op replied flow port n) { closing = closing })) ≡ true
unfolding near.wants
awaiting_wants op replied flow port n true = refl
awaiting_wants op replied flow port n false = refl

-- who came at its port is accepted
accepts_peer : (op : Op (List ℕ)) (replied : Replied) (flow : Flow) (port : ℕ) (host : Host) (n : Near) → same_host host n.peer ≡ true
    → data_opened host (awaiting op replied flow port n) ≡ accepted true (awaiting op replied flow port n)
unfolding data_opened
accepts_peer op replied flow port host n same = ap (λ s. accepted s (awaiting op replied flow port n)) same

module _ (read : Reading) (begun : List Order) (server : Stand server_side) (old new : Stand client_side) (reports : List Said) (w : World)
    (octets more : List ℕ)
    (between next : Between) (told : ℕ) (so : LedSo (Joined octets) more between told server old) (moment : ℕ) (ahead : Ahead)
    (t : Together read begun moment ahead (led_between (Joined octets) more between) told server (led_client (Joined octets) old) reports w) where
  abbrev v : Near
  v = old.owner.end.view

  abbrev u : Near
  u = new.owner.end.view

  abbrev d : Near
  d = data_closed v

  abbrev j : IsJoined octets more between old
  j = so.0

  -- how it stands, in either way
  by_stays : (P : Near → Type 0) → ((op : Op (List ℕ)) (flow : Flow) (port : ℕ) (n : Near) (closing : Bool)
      → P (record (listening op flow port n) { closing = closing }))
      → ((op : Op (List ℕ)) (replied : Replied) (flow : Flow) (port : ℕ) (n : Near) (closing : Bool)
      → P (record (awaiting op replied flow port n) { closing = closing })) → P v
  by_stays P one other = by j.stays.0
    where
      by : Stays d octets → P v
      by (Comes op flow few port octet left is o) =
          let form : d ≡ listening op flow port d = (o.fronts [] left octet (sym is)).0 in
          subst P (sym (ap (λ (n : Near). record n { closing = v.closing }) form)) (one op flow port d v.closing)
      by (Waits is a) = subst P (sym (ap (λ (n : Near). record n { closing = v.closing }) a.is)) (other a.op a.replied a.flow a.port d v.closing)

  joined_wants : is_patient (near.wants v) ≡ true
  joined_wants =
      by_stays (λ n. is_patient (near.wants n) ≡ true) (λ op flow port n closing. (listening_wants op flow port n closing).0)
      (λ op replied flow port n closing. awaiting_wants op replied flow port n closing)

  pub joined_never : (q : Wants) → near.wants v ≡ q → is_patient q ≡ false → ⊥
  joined_never q is other = true≢false (sym joined_wants ∙ ap is_patient is ∙ other)

  pub joined_busy : is_busy v ≡ true
  joined_busy = by_stays (λ n. is_busy n ≡ true) (λ op flow port n closing. refl) (λ op replied flow port n closing. refl)

  pub joined_said : report_of v ≡ None
  joined_said = by_stays (λ n. report_of n ≡ None) (λ op flow port n closing. refl) (λ op replied flow port n closing. refl)

  pub joined_taken : taken v ≡ v
  joined_taken = by_stays (λ n. taken n ≡ n) (λ op flow port n closing. refl) (λ op replied flow port n closing. refl)

  -- ---- nothing happens in a world

  pub joined_stays : data_closed u ≡ d → new.unheard ++ next.control.to_client ≡ old.unheard ++ between.control.to_client
      → next.control.to_server ≡ between.control.to_server → next.data_ways ≡ between.data_ways → next.far ≡ between.far → next.near ≡ between.near
      → GoesLed read [] begun next told server new reports w
  joined_stays is queue other ways far hold = record {
    lead = Joined octets;
    left = more;
    so = (
      record {
        closed = j.closed;
        stays = subst (λ n. StaysSo n octets j.closed) (sym is) j.stays;
        owed = ap (λ (n : Near). n.owed) is ∙ j.owed;
        queue = queue ∙ j.queue;
        called = hold ∙ j.called;
      },
      λ e.
          let l : Lifted between server = so.1 e in record { takes = l.takes; none_comes = ap (λ x. x.to_server) ways ∙ l.none_comes; untold = l.untold },
    );
    goes = record {
      world = w;
      leads = leads_none read w;
      moment = moment;
      ahead = ahead;
      marked = refl;
      together = together_of read begun moment ahead (led_between (Joined octets) more between) (led_between (Joined octets) more next) told server
          (led_client (Joined octets) old) (led_client (Joined octets) new) reports w t
          (record {
            view = ap (λ n. data_closed (taken (accepted true (near.hears n octets)))) is;
            said = ap (λ n. option_to_list (report_of (accepted true (near.hears n octets)))) is;
            queue = refl;
            to_server = other;
            ways = ways;
            far = far;
            untold = λ e. (e, refl);
            unwritten = refl;
          })
          (record { bare = λ e. refl }) (record { spare = λ e. refl; bare = λ e. refl })
          (record {
            had = λ e. refl;
            shut = λ e. t.keeping.shut (ap (λ n. (accepted true (near.hears n octets)).closing) (sym is) ∙ e);
            over = λ e. absurd (true≢false e);
          });
    };
  }

  -- ---- it hears octets

  pub joined_heard : (reads : IsReading read) (from : State) (puts : AreCarried begun) (serves : ServerServes server.owner) (runs : OverRuns read from begun w)
      → ClientIsCalm old.owner new.owner → (heard : List ℕ) → HearsNext heard old new → next ≡ between → GoesLed read [] begun next told server new reports w
  joined_heard reads from puts serves runs calm heard did same = record {
    lead = Joined h.left;
    left = h.more;
    so = (
      record {
        closed = j.closed;
        stays = subst (λ n. StaysSo n h.left j.closed) (sym is) (h.on.stays, h.on.closes_so);
        owed = ap (λ (n : Near). n.owed) is ∙ h.on.owed;
        queue = ap (λ (b : Between). new.unheard ++ b.control.to_client) same ∙ h.queue;
        called = ap (λ (b : Between). b.near) same ∙ j.called;
      },
      λ e. subst (λ b. Lifted b server) (sym same) (so.1 e),
    );
    goes = subst (λ b. Goes read [] begun (led_between (Joined h.left) h.more b) told server (led_client (Joined h.left) new) reports w) (sym same)
        (subst (λ n. Goes read [] begun (led_between (Joined h.left) h.more between) told server
        (joined_client (accepted true (near.hears n h.left))) reports w)
        (sym is) h.goes);
  }
    where
      rest : List ℕ
      rest = new.unheard ++ between.control.to_client

      queue_now : heard ++ rest ≡ octets ++ more
      queue_now = sym (append_assoc heard new.unheard between.control.to_client) ∙ ap (λ a. a ++ between.control.to_client) (sym did.next) ∙ j.queue

      h : HeardAll read reads from begun puts server reports serves heard rest d j.closed between told w
      h =
          all_heard read reads from begun puts server reports serves j.closed (λ e. (so.1 e).takes) between told heard rest octets more d
          (record { stays = j.stays.0; closes_so = j.stays.1; owed = j.owed; open_now = refl }) queue_now moment ahead w t runs

      hears : u ≡ near.hears v heard
      hears = (did.hears.0.0.0 calm).0 ∙ ap (λ o. near.hears v o) (ap (take (length heard)) did.next ∙ take_front heard new.unheard)

      is : data_closed u ≡ near.hears d heard
      is = ap data_closed hears ∙ sym (hears_blind heard v) ∙ unclosed (near.hears d heard) h.on.open_now

  -- ---- it accepts

  pub joined_accepts : (host from : Host) (left written at_first so_far : Option (List ℕ)) (rest : Rest) → ClientIsCalm old.owner new.owner
      → Calls {side = client_side} (Opened host (Came from left written ∷ []) at_first so_far rest) old new → Can TheClient (Accepts from) between next
      → same_host host v.peer ≡ true → GoesLed read [] begun next told server new reports w
  joined_accepts host from left written at_first so_far rest calm did can peer = by j.stays.0
    where
      wants : near.wants v ≡ Want.Accept
      wants = did.0.2.0

      open_now : d ≡ v
      open_now = unclosed v (accepting_of v wants).1

      had : IsOpened host (Came from left written ∷ []) at_first so_far rest old.owner.channel new.owner.channel
      had = did.0.1

      by : Stays d octets → GoesLed read [] begun next told server new reports w
      by (Comes op flow few port octet others is o) =
          let form : v ≡ record (listening op flow port d) { closing = v.closing } =
          ap (λ (n : Near). record n { closing = v.closing }) (o.fronts [] others octet (sym is)).0 in
          absurd (true≢false (sym (ap is_accept wants) ∙ ap (λ n. is_accept (near.wants n)) form ∙ (listening_wants op flow port d v.closing).1))
      by (Waits empty a) =
          let va : v ≡ awaiting a.op a.replied a.flow a.port v = sym open_now ∙ a.is ∙ ap (awaiting a.op a.replied a.flow a.port) open_now in
          let view : u ≡ accepted true v =
          did.0.0.0.0.0 calm ∙ ap (data_opened host) va ∙ accepts_peer a.op a.replied a.flow a.port host v peer ∙ ap (accepted true) (sym va) in
          let is : u ≡ led_by (Joined octets) v =
          view ∙ ap (accepted true) (sym open_now) ∙ ap (λ l. accepted true (near.hears d l)) (sym empty) in
          record {
            lead = Even;
            left = [];
            so = (
              ap (λ (b : Between). is_called b.near) can.1,
              record {
                sound = ap (λ (n : Near). is_sound_at n.standing) is ∙ (stays_joined d octets j.stays.0).0;
                dials = ap (λ (n : Near). wants_port n.connection) is ∙ (stays_joined d octets j.stays.0).1;
              },
            );
            goes = record {
              world = w;
              leads = leads_none read w;
              moment = moment;
              ahead = ahead;
              marked = refl;
              together = together_of read begun moment ahead (led_between (Joined octets) more between) next told server (led_client (Joined octets) old) new
                  reports w t
                  (record {
                    view = ap (λ n. data_closed (taken n)) is;
                    said = ap (λ n. option_to_list (report_of n)) is;
                    queue = ap₂ (λ (s : Stand client_side) (b : Between). s.unheard ++ b.control.to_client) did.1 can.1 ∙ j.queue
                        ∙ ap (λ l. l ++ more) empty;
                    to_server = ap (λ (b : Between). b.control.to_server) can.1;
                    ways = ap (λ (b : Between). b.data_ways) can.1;
                    far = ap (λ (b : Between). b.far) can.1;
                    untold = λ e. (refl, had.untold);
                    unwritten = had.unwritten;
                  })
                  (record { bare = λ e. had.untold }) (record { spare = λ e. had.unwritten; bare = λ e. had.unwritten })
                  (record {
                    had = λ e. ap (λ (b : Between). is_had b.near) can.1;
                    shut = λ e. t.keeping.shut (ap (λ (n : Near). n.closing) (sym is) ∙ e);
                    over = λ e. absurd (both (ap is_sound had.fate) e);
                  });
            };
          }
