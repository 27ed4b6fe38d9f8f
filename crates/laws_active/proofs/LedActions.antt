-- Actions of a client that a world's is ahead of: for most of them nothing happens in a world.
use Rattle.std.proofs.Common.{◌≡◌, ℕ, Bool, true, false, true≢false, List, [], ◌++◌, Some, None, option_to_list, refl, sym, ap, ap₂, ◌∙◌}
use Rattle.ftp_ports.specs.Actions.{Calls, Stand}
use Rattle.ftp_ports.specs.Channel.{Channel}
use Rattle.ftp_ports.specs.Machine.{Listening}
use Rattle.ftp_ends.specs.declared.link.Wants.{Wants}
use Rattle.ftp_ends.specs.declared.link.Wants.TheVariants as Want
use Rattle.ftp_client_driver.specs.Side.{client_side}
use Rattle.ftp_client_model.specs.Calls as near
use Rattle.ftp_client_model.specs.Calls.{is_sound as is_sound_at}
use Rattle.laws_drivers.proofs.events.Stands.{wants_port}
use Rattle.ftp_client_model.specs.Calls.{accepted, data_closed, is_busy, listening, port_told, report_of}
use Rattle.ftp_client_model.specs.View.{Doing, View as Near}
use Rattle.ftp_client_model.specs.declared.client.ClientLink.TheVariants as Data
use Rattle.ftp_client_model.specs.declared.client.Step.TheVariants as Steps
use Rattle.ftp_operation.specs.Answer.{Said}
use Rattle.ftp_operation.specs.declared.op.Op.{Op}
use Rattle.ftp_server_driver.specs.alone.Side.{server_side}
use Rattle.ftp_server_model.specs.Machine.{Reading}
use Rattle.laws_world.specs.Agreement.{Order}
use Rattle.laws_world.specs.World.{Gone, World, next_listen, port_at}
use Rattle.laws_world.proofs.PortLemmas.{told_port_at}
use Rattle.laws_dialogues.specs.Fetches.{busy}
use Rattle.laws_agreement.proofs.Chunks.{both_empty}
use Rattle.laws_drivers.specs.control.Alone.{ClientIsCalm}
use Rattle.laws_drivers.specs.control.Between.{Between, Can, Has, Hold, IsOver, Near as TheClient}
use Rattle.laws_drivers.specs.control.Touches.{Listens as ListensAt}
use Rattle.laws_drivers.proofs.control.Taken.{taken}
use Rattle.laws_drivers.proofs.control.Worlds.{leads_none}
use Rattle.laws_drivers.proofs.events.Holding.{both, is_called, is_false, is_had, unclosed}
use Rattle.laws_transfers.specs.Ahead.{Ahead}
use Rattle.laws_transfers.proofs.Beside.{Goes, Together, is_taking}
use Rattle.laws_transfers.proofs.Known.{Known, is_near_held}
use Rattle.laws_active.specs.Lead.{Even, Lead, Told, led_by}
use Rattle.laws_active.proofs.Alike.{together_of}
use Rattle.laws_active.proofs.Bare.{StaysBare, none_unsent, none_untold}
use Rattle.laws_active.proofs.Leading.{led_between, led_client, led_told}
use Rattle.laws_active.proofs.Leads.{LedSo, told_fetches}
use Rattle.laws_active.proofs.Ports.{is_ported}

-- a world is beside both again, with its client ahead so
pub record GoesLed (read : Reading) (more begun : List Order) (between : Between) (told : ℕ) (server : Stand server_side) (client : Stand client_side)
    (reports : List Said) (w : World) : Type 0 where
  pub lead : Lead
  pub left : List ℕ
  pub so : LedSo lead left between told server client
  pub goes : Goes read more begun (led_between lead left between) (led_told lead told) server (led_client lead client) reports w

-- ---- a client that is to be told a port

-- what it wants: a port, or a close
abbrev pub is_asking_port : Wants → Bool
is_asking_port Want.Listen = true
is_asking_port Want.CloseData = true
is_asking_port other = false

pub asks_port : (op : Op (List ℕ)) (v : Near) → data_closed v ≡ busy (Doing op Steps.Listen) Data.ListenWanted v → is_asking_port (near.wants v) ≡ true
unfolding near.wants
asks_port op v is = ap (λ (n : Near). is_asking_port (near.wants (record n { closing = v.closing }))) is ∙ by v.closing
  where
    by : (closing : Bool) → is_asking_port (near.wants (record (busy (Doing op Steps.Listen) Data.ListenWanted v) { closing = closing })) ≡ true
    by true = refl
    by false = refl

-- it has one once it is told
told_has : (port : ℕ) (op : Op (List ℕ)) (n : Near) → is_ported (listening port (busy (Doing op Steps.Listen) Data.ListenWanted n)).connection ≡ true
unfolding listening
told_has port op n = refl

pub told_ported : (port : ℕ) (op : Op (List ℕ)) (n : Near) → data_closed n ≡ busy (Doing op Steps.Listen) Data.ListenWanted n
    → is_ported (listening port (data_closed n)).connection ≡ true
told_ported port op n view = ap (λ m. is_ported (listening port m).connection) view ∙ told_has port op n

module _ (read : Reading) (begun : List Order) (server : Stand server_side) (old new : Stand client_side) (reports : List Said) (w : World) (port : ℕ)
    (more : List ℕ) (between next : Between) (told : ℕ) (so : LedSo (Told port) more between told server old) (moment : ℕ) (ahead : Ahead)
    (t : Together read begun moment ahead between (next_listen told) server (led_client (Told port) old) reports w) (gone : w.link ≡ Gone)
    (known : Known w) where
  abbrev v : Near
  v = old.owner.end.view

  abbrev u : Near
  u = new.owner.end.view

  -- nothing comes to it
  abbrev None_comes : Type 0
  None_comes = (old.unheard ≡ []) × (between.control.to_client ≡ [])

  pub none_comes : None_comes
  none_comes = both_empty old.unheard between.control.to_client so.0.empty

  -- it is told of it
  pub told_listens : (given : ℕ) → Calls {side = client_side} (Listening given) old new → ClientIsCalm old.owner new.owner
      → Can TheClient (ListensAt (Some given)) between next → given ≡ port_at told → v.closing ≡ false
      → GoesLed read [] begun next (next_listen told) server new reports w
  told_listens given did calm can same open_now = record {
    lead = Even;
    left = [];
    so = (
      ap (λ (b : Between). is_called b.near) can.1,
      record {
        sound = ap (λ (n : Near). is_sound_at n.standing) (is ∙ form) ∙ (told_fetches port so.0.op v).0;
        dials = ap (λ (n : Near). wants_port n.connection) (is ∙ form) ∙ (told_fetches port so.0.op v).1;
      },
    );
    goes = record {
      world = w;
      leads = leads_none read w;
      moment = moment;
      ahead = ahead;
      marked = refl;
      together = together_of read begun moment ahead between next (next_listen told) server (led_client (Told port) old) new reports w t
          (record {
            view = ap (λ n. data_closed (taken n)) is;
            said = ap (λ n. option_to_list (report_of n)) is;
            queue = ap₂ (λ (s : Stand client_side) (b : Between). s.unheard ++ b.control.to_client) did.1 can.1;
            to_server = ap (λ (b : Between). b.control.to_server) can.1;
            ways = ap (λ (b : Between). b.data_ways) can.1;
            far = ap (λ (b : Between). b.far) can.1;
            untold = λ e. (ap is_taking (sym did.0.1.1) ∙ e, ap (λ (l : Channel). l.untold) did.0.1.1);
            unwritten = ap (λ (l : Channel). l.unwritten) did.0.1.1;
          })
          (record {
            bare = λ e. ap (λ (l : Channel). l.untold) did.0.1.1 ∙ t.takes.bare (ap (λ (l : Channel). l.stands) (sym did.0.1.1) ∙ e);
          })
          (record {
            spare = λ e. none_unwritten;
            bare = λ e. none_unwritten;
          })
          (record {
            had = λ e. absurd (both (t.keeping.had e) none_had);
            shut = λ e. is_false (is_near_held w.link) (λ h. both (t.keeping.had h) none_had);
            over = λ e. is_false (is_near_held w.link) (λ h. both (t.keeping.had h) none_had);
          });
    };
  }
    where
      is : u ≡ led_by (Told port) v
      is =
          did.0.0.0.0 calm ∙ ap (λ p. port_told p v) same ∙ told_port_at told v ∙ ap (λ p. listening p v) (sym so.1)
          ∙ ap (listening port) (sym (unclosed v open_now))

      form : led_by (Told port) v ≡ listening port (busy (Doing so.0.op Steps.Listen) Data.ListenWanted v)
      form = ap (listening port) so.0.view

      none_had : is_had between.near ≡ false
      none_had = by between.near can.0
        where
          by : (hold : Hold) → IsOver hold → is_had hold ≡ false
          by Has over = absurd over
          by hold over = refl

      none_unwritten : new.owner.channel.unwritten ≡ []
      none_unwritten = ap (λ (l : Channel). l.unwritten) did.0.1.1 ∙ t.gives.spare none_had

  -- it is to be told it still
  pub told_stays : data_closed u ≡ data_closed v → new.unheard ≡ [] → next.control.to_client ≡ [] → next.control.to_server ≡ between.control.to_server
      → next.data_ways ≡ between.data_ways → next.far ≡ between.far → is_called next.near ≡ false → StaysBare old.owner.channel new.owner.channel
      → GoesLed read [] begun next told server new reports w
  told_stays is unheard empty other ways far called bare = record {
    lead = Told port;
    left = [];
    so = (
      record {
        op = so.0.op;
        view = is ∙ so.0.view ∙ ap (busy (Doing so.0.op Steps.Listen) Data.ListenWanted) (sym is);
        owed = ap (λ (n : Near). n.owed) is ∙ so.0.owed;
        empty = ap₂ (λ a b. a ++ b) unheard empty;
        called = called;
      },
      so.1,
    );
    goes = record {
      world = w;
      leads = leads_none read w;
      moment = moment;
      ahead = ahead;
      marked = refl;
      together = together_of read begun moment ahead between next (next_listen told) server (led_client (Told port) old)
          (led_client (Told port) new) reports w t
          (record {
            view = ap (λ n. data_closed (taken (listening port n))) is;
            said = ap (λ n. option_to_list (report_of (listening port n))) is;
            queue = ap₂ (λ a b. a ++ b) unheard empty ∙ sym so.0.empty;
            to_server = other;
            ways = ways;
            far = far;
            untold = λ e. (bare.taking e, bare.untold (bare.taking e) ∙ sym (untold_before (bare.taking e)));
            unwritten = bare.unwritten ∙ sym unsent_before;
          })
          (record { bare = bare.bare }) (record { spare = λ e. bare.unwritten; bare = λ e. bare.unwritten })
          (record {
            had = λ e. absurd (true≢false (sym e ∙ ap is_near_held gone));
            shut = λ e. ap is_near_held gone;
            over = λ e. ap is_near_held gone;
          });
    };
  }
    where
      untold_before : is_taking old.owner.channel ≡ true → old.owner.channel.untold ≡ []
      untold_before = none_untold read begun server (led_client (Told port) old) reports w between (next_listen told) moment ahead t gone known

      unsent_before : old.owner.channel.unwritten ≡ []
      unsent_before = none_unsent read begun server (led_client (Told port) old) reports w between (next_listen told) moment ahead t gone known

  pub told_wants : is_asking_port (near.wants v) ≡ true
  told_wants = asks_port so.0.op v so.0.view

  pub told_never : (q : Wants) → near.wants v ≡ q → is_asking_port q ≡ false → ⊥
  told_never q is other = true≢false (sym told_wants ∙ ap is_asking_port is ∙ other)

  pub told_busy : is_busy v ≡ true
  told_busy = ap is_busy so.0.view

  pub told_said : report_of v ≡ None
  told_said = ap report_of so.0.view

  pub told_taken : data_closed (taken v) ≡ data_closed v
  told_taken = ap taken so.0.view ∙ sym so.0.view
