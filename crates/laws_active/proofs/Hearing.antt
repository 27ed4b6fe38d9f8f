-- Actions of a client in a world whose client heard, ahead of it, what is left of a 150 that a dial failed after: it hears that too; for all else nothing happens
-- there.
use Rattle.std.proofs.Common.{◌≡◌, ℕ, ◌+◌, ◌<◌, Bool, true, false, true≢false, List, [], ◌∷◌, ◌++◌, length, take, None, option_to_list, refl, sym, ap, ap₂, subst, ◌∙◌, append_assoc, arith, length-append}
use Rattle.std.proofs.Math.Seq.{take-append-add}
use Rattle.ftp_ports.specs.Actions.{HearsNext, Stand}
use Rattle.ftp_ports.specs.Channel.{Channel}
use Rattle.ftp_ports.specs.Machine.{held, seen}
use Rattle.ftp_ends.specs.declared.link.Wants.{Wants}
use Rattle.ftp_ends.specs.declared.link.Wants.TheVariants as Want
use Rattle.ftp_client_driver.specs.Side.{client_side}
use Rattle.ftp_client_model.specs.Calls as near
use Rattle.ftp_client_model.specs.Calls.{data_closed, is_busy, is_sound, report_of}
use Rattle.ftp_client_model.specs.View.{Flow, View as Near}
use Rattle.ftp_client_model.specs.declared.client.Replied.TheVariants as Replies
use Rattle.ftp_client_model.proofs.RepliesInFlight.{in_pieces}
use Rattle.ftp_operation.specs.Answer.{Said}
use Rattle.ftp_operation.specs.declared.op.Op.{Op}
use Rattle.ftp_server_driver.specs.alone.Side.{server_side}
use Rattle.ftp_server_model.specs.Machine.{Reading}
use Rattle.laws_world.specs.Agreement.{Order}
use Rattle.laws_world.specs.World.{Gone, World}
use Rattle.laws_drivers.specs.control.Alone.{ClientIsCalm}
use Rattle.laws_drivers.specs.control.Between.{Between}
use Rattle.laws_drivers.proofs.control.Taken.{taken}
use Rattle.laws_drivers.proofs.control.Worlds.{leads_none}
use Rattle.laws_drivers.proofs.world.Moves.{take_front}
use Rattle.laws_drivers.proofs.events.Holding.{is_called, unclosed}
use Rattle.laws_drivers.proofs.events.Stands.{ClientFetches as ClientRests, wants_port}
use Rattle.laws_transfers.specs.Ahead.{Ahead}
use Rattle.laws_transfers.proofs.Beside.{Together, is_taking}
use Rattle.laws_transfers.proofs.Blind.{hears_blind}
use Rattle.laws_transfers.proofs.Known.{Known, is_near_held}
use Rattle.laws_active.specs.Refusals.{Heard}
use Rattle.laws_active.proofs.Accepting.{awaiting}
use Rattle.laws_active.proofs.Alike.{together_of}
use Rattle.laws_active.proofs.Bare.{StaysBare, none_unsent, none_untold, same_bare}
use Rattle.laws_active.proofs.Calls.{Opens, listening}
use Rattle.laws_active.proofs.Gaining.{GainSo, GainsTo, IsHearing, IsIdle, heard_between, heard_client}
use Rattle.laws_active.proofs.Joining.{head_same, opens_on, tail}
use Rattle.laws_active.proofs.JoinedActions.{awaiting_wants, is_patient}

-- ---- what it wants

-- nothing, or a close
abbrev pub is_still : Wants → Bool
is_still Want.Nothing = true
is_still Want.CloseData = true
is_still other = false

still_wants : (op : Op (List ℕ)) (flow : Flow) (port : ℕ) (n : Near) (closing : Bool)
    → is_still (near.wants (record (listening op flow port n) { closing = closing })) ≡ true
unfolding near.wants
still_wants op flow port n true = refl
still_wants op flow port n false = refl

-- so one at its port, to which the 150 is to come, wants nothing else, even if it is to close
pub listening_never : {A : Type 0} (op : Op (List ℕ)) (flow : Flow) (port : ℕ) (n : Near) → data_closed n ≡ listening op flow port (data_closed n)
    → (q : Wants) → near.wants n ≡ q → is_still q ≡ false → A
listening_never op flow port n form q is other =
    let view : n ≡ record (listening op flow port (data_closed n)) { closing = n.closing } = ap (λ (m : Near). record m { closing = n.closing }) form in
    absurd (true≢false (sym (ap (λ m. is_still (near.wants m)) view ∙ still_wants op flow port (data_closed n) n.closing) ∙ ap is_still is ∙ other))

-- whether it has more to give is seen of one that wants neither
still_seen : (q : Wants) → is_still q ≡ true → (channel : Channel) → seen q channel ≡ channel
still_seen Want.Nothing e channel = refl
still_seen Want.CloseData e channel = refl
still_seen Want.Listen e channel = absurd (true≢false (sym e))
still_seen Want.Accept e channel = absurd (true≢false (sym e))
still_seen (Want.Connect endpoint) e channel = absurd (true≢false (sym e))
still_seen Want.Receive e channel = absurd (true≢false (sym e))
still_seen Want.Send e channel = absurd (true≢false (sym e))
still_seen Want.CloseAll e channel = absurd (true≢false (sym e))

patient_seen : (q : Wants) → is_patient q ≡ true → (channel : Channel) → seen q channel ≡ channel
patient_seen Want.Nothing e channel = refl
patient_seen Want.CloseData e channel = refl
patient_seen Want.Accept e channel = refl
patient_seen Want.Listen e channel = absurd (true≢false (sym e))
patient_seen (Want.Connect endpoint) e channel = absurd (true≢false (sym e))
patient_seen Want.Receive e channel = absurd (true≢false (sym e))
patient_seen Want.Send e channel = absurd (true≢false (sym e))
patient_seen Want.CloseAll e channel = absurd (true≢false (sym e))

-- ---- octets that it hears, beside those that a world's client heard

-- they end before these do, or go on after them
pub data Splits (heard octets rest more : List ℕ) : Type 0 where
  Within : (octet : ℕ) → (left : List ℕ) → octets ≡ heard ++ octet ∷ left → rest ≡ (octet ∷ left) ++ more → Splits heard octets rest more
  Beyond : (behind : List ℕ) → heard ≡ octets ++ behind → more ≡ behind ++ rest → Splits heard octets rest more

pub splits : (heard octets rest more : List ℕ) → heard ++ rest ≡ octets ++ more → Splits heard octets rest more
splits [] [] rest more e = Beyond [] refl (sym e)
splits [] (octet ∷ left) rest more e = Within octet left refl e
splits (one ∷ heard) [] rest more e = Beyond (one ∷ heard) refl (sym e)
splits (one ∷ heard) (other ∷ octets) rest more e = by (splits heard octets rest more (ap tail e))
  where
    by : Splits heard octets rest more → Splits (one ∷ heard) (other ∷ octets) rest more
    by (Within octet left is rest_is) = Within octet left (ap₂ (λ a l. a ∷ l) (sym (head_same one other e)) is) rest_is
    by (Beyond behind is more_is) = Beyond behind (ap₂ (λ a l. a ∷ l) (head_same one other e) is) more_is

-- after some of the 150 the others are to come
opens_after : (op : Op (List ℕ)) (flow : Flow) (port : ℕ) (heard left : List ℕ) (d : Near) → Opens op flow port d (heard ++ left)
    → Opens op flow port (near.hears d heard) left
opens_after op flow port [] left d o = o
opens_after op flow port (octet ∷ heard) left d o =
    opens_after op flow port heard left (near.hears_octet d octet) (opens_on op flow port d octet (heard ++ left) o)

module _ (read : Reading) (begun : List Order) (server : Stand server_side) (old new : Stand client_side) (reports : List Said) (w : World)
    (octets more : List ℕ) (between next : Between) (told : ℕ) (so : GainSo (Heard octets) more between told server old) (moment : ℕ) (ahead : Ahead)
    (t : Together read begun moment ahead (heard_between more between) told server (heard_client octets old) reports w) (gone : w.link ≡ Gone)
    (known : Known w) (failed : Bool) (was : failed ≡ true) where
  abbrev v : Near
  v = old.owner.end.view

  abbrev u : Near
  u = new.owner.end.view

  abbrev d : Near
  d = data_closed v

  abbrev h : IsHearing octets more between old
  h = so.0

  -- ---- how it stands

  form : d ≡ listening h.op h.flow h.port d
  form = (h.opens.fronts [] h.others h.octet (sym h.some)).0

  view : v ≡ record (listening h.op h.flow h.port d) { closing = v.closing }
  view = ap (λ (n : Near). record n { closing = v.closing }) form

  hearing_wants : is_still (near.wants v) ≡ true
  hearing_wants = ap (λ n. is_still (near.wants n)) view ∙ still_wants h.op h.flow h.port d v.closing

  pub hearing_never : {A : Type 0} → (q : Wants) → near.wants v ≡ q → is_still q ≡ false → A
  hearing_never q is other = listening_never h.op h.flow h.port v form q is other

  pub hearing_still : is_still (near.wants v) ≡ true
  hearing_still = hearing_wants

  pub hearing_busy : is_busy v ≡ true
  hearing_busy = ap is_busy view

  pub hearing_said : report_of v ≡ None
  hearing_said = ap report_of view

  pub hearing_taken : taken v ≡ v
  hearing_taken = ap taken view ∙ sym view

  -- ---- nothing happens in a world

  -- what its data connection was left as
  abbrev pub Bare : Type 0
  Bare = StaysBare old.owner.channel new.owner.channel

  pub bare_same : (channel : Channel) → new.owner.channel ≡ channel → channel.stands ≡ old.owner.channel.stands → channel.fate ≡ old.owner.channel.fate
      → channel.untold ≡ old.owner.channel.untold → channel.unwritten ≡ old.owner.channel.unwritten → Bare
  bare_same channel =
      same_bare read begun server (heard_client octets old) reports w (heard_between more between) told moment ahead t gone known new.owner.channel channel

  pub hearing_untold : is_taking old.owner.channel ≡ true → old.owner.channel.untold ≡ []
  hearing_untold = none_untold read begun server (heard_client octets old) reports w (heard_between more between) told moment ahead t gone known

  pub hearing_unsent : old.owner.channel.unwritten ≡ []
  hearing_unsent = none_unsent read begun server (heard_client octets old) reports w (heard_between more between) told moment ahead t gone known

  -- it is beside the drive's once that heard these
  hears_on : (left : List ℕ) → near.hears (data_closed u) left ≡ near.hears d octets → next.control.to_server ≡ between.control.to_server
      → next.data_ways ≡ between.data_ways → next.far ≡ between.far → Bare → GainSo (Heard left) more next told server new
      → GainsTo read [] begun next told server new reports w.marks failed w
  hears_on left is other ways far bare so_then = record {
    gain = Heard left;
    left = more;
    so = so_then;
    heard = λ e. was;
    goes = record {
      world = w;
      leads = leads_none read w;
      moment = moment;
      ahead = ahead;
      marked = refl;
      together = together_of read begun moment ahead (heard_between more between) (heard_between more next) told server (heard_client octets old)
          (heard_client left new) reports w t
          (record {
            view = ap (λ n. data_closed (taken n)) is;
            said = ap (λ n. option_to_list (report_of n)) is;
            queue = refl;
            to_server = other;
            ways = ways;
            far = far;
            untold = λ e. (bare.taking e, bare.untold (bare.taking e) ∙ sym (hearing_untold (bare.taking e)));
            unwritten = bare.unwritten ∙ sym hearing_unsent;
          })
          (record { bare = bare.bare }) (record { spare = λ e. bare.unwritten; bare = λ e. bare.unwritten })
          (record {
            had = λ e. absurd (true≢false (sym e ∙ ap is_near_held gone));
            shut = λ e. ap is_near_held gone;
            over = λ e. ap is_near_held gone;
          });
    };
  }

  -- a server that has no data connection is told nothing
  idle_still : next.control.to_server ≡ between.control.to_server → IsIdle next server
  idle_still other = record { free = so.1.free; none_comes = ap (λ q. server.unheard ++ q) other ∙ so.1.none_comes }

  -- it is to hear them still
  pub hearing_stays : data_closed u ≡ d → new.unheard ++ next.control.to_client ≡ old.unheard ++ between.control.to_client
      → next.control.to_server ≡ between.control.to_server → next.data_ways ≡ between.data_ways → next.far ≡ between.far → is_called next.near ≡ false → Bare
      → GainsTo read [] begun next told server new reports w.marks failed w
  hearing_stays is queue other ways far called bare =
      hears_on octets (ap (λ n. near.hears n octets) is) other ways far bare (
        record {
          op = h.op;
          flow = h.flow;
          few = h.few;
          port = h.port;
          octet = h.octet;
          others = h.others;
          some = h.some;
          opens = subst (λ n. Opens h.op h.flow h.port n octets) (sym is) h.opens;
          owed = ap (λ (n : Near). n.owed) is ∙ h.owed;
          queue = queue ∙ h.queue;
          called = called;
        },
        idle_still other,
      )

  -- ---- it hears octets

  module _ (heard : List ℕ) (calm : ClientIsCalm old.owner new.owner) (did : HearsNext heard old new) (same : next ≡ between) where
    abbrev pub rest : List ℕ
    rest = new.unheard ++ between.control.to_client

    pub hearing_queue : heard ++ rest ≡ octets ++ more
    hearing_queue = sym (append_assoc heard new.unheard between.control.to_client) ∙ ap (λ a. a ++ between.control.to_client) (sym did.next) ∙ h.queue

    hears : u ≡ near.hears v heard
    hears = (did.hears.0.0.0 calm).0 ∙ ap (λ o. near.hears v o) (ap (take (length heard)) did.next ∙ take_front heard new.unheard)

    channel : new.owner.channel ≡ old.owner.channel
    channel = did.hears.1 ∙ still_seen (near.wants v) hearing_wants old.owner.channel

    bare : Bare
    bare = bare_same old.owner.channel channel refl refl refl refl

    -- fewer than those
    pub hears_within : (octet : ℕ) (left : List ℕ) → octets ≡ heard ++ octet ∷ left → rest ≡ (octet ∷ left) ++ more
        → GainsTo read [] begun next told server new reports w.marks failed w
    hears_within octet left octets_is rest_is =
        hears_on (octet ∷ left) (ap (λ n. near.hears n (octet ∷ left)) is ∙ sym (in_pieces d heard (octet ∷ left)) ∙ ap (near.hears d) (sym octets_is))
        (ap (λ (b : Between). b.control.to_server) same) (ap (λ (b : Between). b.data_ways) same) (ap (λ (b : Between). b.far) same) bare (
          record {
            op = h.op;
            flow = h.flow;
            few = h.few;
            port = h.port;
            octet = octet;
            others = left;
            some = refl;
            opens = subst (λ n. Opens h.op h.flow h.port n (octet ∷ left)) (sym is)
                (opens_after h.op h.flow h.port heard (octet ∷ left) d (subst (Opens h.op h.flow h.port d) octets_is h.opens));
            owed = ap (λ (n : Near). n.owed) is ∙ front.1;
            queue = ap (λ (b : Between). new.unheard ++ b.control.to_client) same ∙ rest_is;
            called = ap (λ (b : Between). is_called b.near) same ∙ h.called;
          },
          idle_still (ap (λ (b : Between). b.control.to_server) same),
        )
      where
        front : (near.hears d heard ≡ listening h.op h.flow h.port (near.hears d heard)) × ((near.hears d heard).owed ≡ [])
        front = h.opens.fronts heard left octet (sym octets_is)

        is : data_closed u ≡ near.hears d heard
        is = ap data_closed hears ∙ sym (hears_blind heard v) ∙ unclosed (near.hears d heard) (ap (λ (n : Near). n.closing) front.0)

    -- more than those: it heard those, and then it hears the others; between, a world is beside it
    pub record HeardThose (behind : List ℕ) : Type 0 where
      pub mid : Stand client_side
      pub together : Together read begun moment ahead between told server mid reports w
      pub rests : ClientRests mid.owner
      pub alone : mid.owner.end.view.run ≡ None
      pub room : ClientIsCalm mid.owner new.owner
      pub hears : HearsNext behind mid new

    module _ (behind : List ℕ) (heard_is : heard ≡ octets ++ behind) (more_is : more ≡ behind ++ rest) where
      abbrev mid : Stand client_side
      mid = record old { owner = held (record old.owner.end { view = near.hears v octets }) old.owner.channel; unheard = behind ++ new.unheard }

      whole : near.hears d octets ≡ awaiting h.op Replies.Begun h.flow h.port (near.hears d octets)
      whole = h.opens.whole

      mid_is : data_closed (near.hears v octets) ≡ near.hears d octets
      mid_is = sym (hears_blind octets v) ∙ unclosed (near.hears d octets) (ap (λ (n : Near). n.closing) whole)

      mid_form : near.hears v octets ≡ record (awaiting h.op Replies.Begun h.flow h.port (near.hears d octets)) { closing = (near.hears v octets).closing }
      mid_form = ap (λ (n : Near). record n { closing = (near.hears v octets).closing }) (mid_is ∙ whole)

      mid_together : Together read begun moment ahead between told server mid reports w
      mid_together =
          together_of read begun moment ahead (heard_between more between) between told server (heard_client octets old) mid reports w t
          (record {
            view = ap (λ n. data_closed (taken n)) mid_is;
            said = ap (λ n. option_to_list (report_of n)) mid_is;
            queue = append_assoc behind new.unheard between.control.to_client ∙ sym more_is;
            to_server = refl;
            ways = refl;
            far = refl;
            untold = λ e. (e, refl);
            unwritten = refl;
          })
          (record { bare = t.takes.bare }) (record { spare = t.gives.spare; bare = t.gives.bare })
          (record {
            had = λ e. absurd (true≢false (sym e ∙ ap is_near_held gone));
            shut = λ e. ap is_near_held gone;
            over = λ e. ap is_near_held gone;
          })

      mid_rests : ClientRests mid.owner
      mid_rests = record { sound = ap (λ (n : Near). is_sound n.standing) mid_form; dials = ap (λ (n : Near). wants_port n.connection) mid_form }

      -- it goes on with no other operation
      mid_run : (near.hears v octets).run ≡ None
      mid_run = ap (λ (n : Near). n.run) mid_form

      unheard_is : old.unheard ≡ octets ++ (behind ++ new.unheard)
      unheard_is = did.next ∙ ap (λ l. l ++ new.unheard) heard_is ∙ append_assoc octets behind new.unheard

      mid_hears : HearsNext behind mid new
      mid_hears = record {
        hears = (
          ((λ e. (mid_view, may), λ e. absurd (e calm)), did.hears.0.1),
          channel ∙ sym (patient_seen (near.wants (near.hears v octets)) mid_wants old.owner.channel),
          λ e. absurd (true≢false (sym e)),
        );
        next = refl;
        left = did.left;
        written = did.written;
      }
        where
          mid_wants : is_patient (near.wants (near.hears v octets)) ≡ true
          mid_wants =
              ap (λ n. is_patient (near.wants n)) mid_form
              ∙ awaiting_wants h.op Replies.Begun h.flow h.port (near.hears d octets) (near.hears v octets).closing

          mid_view : u ≡ near.hears (near.hears v octets) (take (length behind) (behind ++ new.unheard))
          mid_view =
              hears ∙ ap (near.hears v) heard_is ∙ in_pieces v octets behind ∙ ap (near.hears (near.hears v octets)) (sym (take_front behind new.unheard))

          longer : length heard ≡ length octets + length behind
          longer = ap length heard_is ∙ length-append octets behind

          may : (k : ℕ) → k < length behind → near.may_hear (near.hears (near.hears v octets) (take k (behind ++ new.unheard))) ≡ true
          may k less =
              ap near.may_hear (sym (in_pieces v octets (take k (behind ++ new.unheard)))
              ∙ ap (near.hears v) (sym (take-append-add octets (behind ++ new.unheard) k) ∙ ap (take (length octets + k)) (sym unheard_is)))
              ∙ (did.hears.0.0.0 calm).1 (length octets + k) (subst (λ n. length octets + k < n) (sym longer) (omega (arith, less)))

      pub hears_beyond : HeardThose behind
      hears_beyond = record { mid = mid; together = mid_together; rests = mid_rests; alone = mid_run; room = calm; hears = mid_hears }
