-- A client that was dialled and has not accepted yet hears octets: a world's client heard the rest of the 150 and accepted, and what comes after that both hear
-- alike.
use Rattle.std.proofs.Common.{◌≡◌, inl, inr, ℕ, ◌<◌, Bool, true, false, true≢false, List, [], ◌∷◌, ◌++◌, take, option_to_list, refl, sym, ap, ap₂, subst, ◌∙◌, append-nil, arith}
use Rattle.ftp_ports.specs.Actions.{HearsNext, Stand}
use Rattle.ftp_ports.specs.Channel.{Channel}
use Rattle.ftp_ports.specs.Machine.{held, seen}
use Rattle.ftp_direct.specs.Direct.{State}
use Rattle.ftp_client_driver.specs.Side.{client_side}
use Rattle.ftp_client_model.specs.Calls as near
use Rattle.ftp_client_model.specs.Calls.{accepted, data_closed, hears_octet, is_down, is_sound, report_of}
use Rattle.ftp_client_model.specs.View.{Flow, Receiving, Sending, View as Near}
use Rattle.ftp_client_model.specs.declared.client.Replied.{Replied}
use Rattle.ftp_client_model.specs.declared.client.Replied.TheVariants as Replies
use Rattle.ftp_operation.specs.Answer.{Said}
use Rattle.ftp_operation.specs.declared.op.Op.{Op}
use Rattle.ftp_server_driver.specs.alone.Side.{server_side}
use Rattle.ftp_server_model.specs.Calls.{is_upload}
use Rattle.ftp_server_model.specs.Machine.{IsReading, Reading}
use Rattle.ftp_server_model.specs.View.{Transfer, View as Far}
use Rattle.ftp_server_model.specs.declared.session.ServerLink.{ServerLink}
use Rattle.ftp_server_model.specs.declared.session.ServerLink.TheVariants as FarData
use Rattle.laws_world.specs.Agreement.{Order}
use Rattle.laws_world.specs.Events.{ControlToClient, is_closed_by_near, pushed}
use Rattle.laws_world.specs.World.{World}
use Rattle.laws_agreement.specs.Over.{OverRuns}
use Rattle.laws_drivers.specs.control.Between.{Between}
use Rattle.laws_agreement.proofs.OverRunning.{over_lead}
use Rattle.laws_drivers.proofs.control.Taken.{taken}
use Rattle.laws_drivers.proofs.control.Worlds.{leads_none, leads_then}
use Rattle.laws_drivers.specs.world.Unaborted.{is_unaborted}
use Rattle.laws_drivers.proofs.events.Stands.{ClientFetches as ClientRests, ServerServes, wants_port}
use Rattle.laws_drivers.specs.world.Ahead.{accepts, is_asked}
use Rattle.laws_drivers.proofs.events.Fresh.{Fresh}
use Rattle.laws_transfers.specs.Ahead.{Ahead, Level, Listens, Opens as OpensAhead, Parted, is_left}
use Rattle.laws_transfers.proofs.Beside.{Goes, Together}
use Rattle.laws_transfers.proofs.Blind.{hears_blind}
use Rattle.laws_transfers.proofs.ClientHears.{client_heard}
use Rattle.laws_transfers.proofs.Known.{AreCarried, Known, is_near_held}
use Rattle.laws_transfers.proofs.Running.{hears_sound, world_known}
use Rattle.laws_active.specs.Lead.{Joined}
use Rattle.laws_active.proofs.Accepting.{Alike, Awaits, Failed, IsFew, Meets, Refused, Refuses, awaiting, has_come, is_transfer, joined_closing, joined_link, joining, joins, octet_met}
use Rattle.laws_active.proofs.Alike.{together_of}
use Rattle.laws_active.proofs.Calls.{Opens}
use Rattle.laws_active.proofs.Leading.{Comes, Stays, Waits, closes, joined_client, joined_channel, led_between}
use Rattle.laws_active.proofs.Ports.{Ports, hears_ports, is_attached, is_begun, is_ended_whole, is_joined}
use Rattle.laws_active.proofs.Keeping.{IsKeeping, hears_kept}
use Rattle.laws_active.proofs.Unsent.{fresh_kept, fresh_unaborted}

-- ---- one that is to hear more of the 150

-- its first octet is heard
pub opens_on : (op : Op (List ℕ)) (flow : Flow) (port : ℕ) (d : Near) (octet : ℕ) (more : List ℕ) → Opens op flow port d (octet ∷ more)
    → Opens op flow port (hears_octet d octet) more
opens_on op flow port d octet more o = record {
  fronts = λ front back next is. o.fronts (octet ∷ front) back next (ap (λ l. octet ∷ l) is);
  whole = o.whole;
  none = o.none;
}

-- how it is then
pub record On (d : Near) (octets : List ℕ) (closed : Bool) : Type 0 where
  pub stays : Stays d octets
  pub closes_so : closes stays ≡ closed
  pub owed : d.owed ≡ []
  pub open_now : d.closing ≡ false

pub comes_on : (op : Op (List ℕ)) (flow : Flow) → IsFew op flow → (port : ℕ) (d : Near) (octet : ℕ) (more : List ℕ) → Opens op flow port d (octet ∷ more)
    → On (hears_octet d octet) more (joined_closing flow)
comes_on op flow few port d octet [] o =
    let whole : hears_octet d octet ≡ awaiting op Replies.Begun flow port (hears_octet d octet) = o.whole in
    record {
      stays = Waits refl (record { op = op; few = few; replied = Replies.Begun; flow = flow; come = refl; port = port; is = whole });
      closes_so = refl;
      owed = o.none;
      open_now = ap (λ (n : Near). n.closing) whole;
    }
comes_on op flow few port d octet (next ∷ more) o =
    let on : Opens op flow port (hears_octet d octet) (next ∷ more) = opens_on op flow port d octet (next ∷ more) o in
    let first = on.fronts [] more next refl in
    record {
      stays = Comes op flow few port next more refl on;
      closes_so = refl;
      owed = first.1;
      open_now = ap (λ (n : Near). n.closing) first.0;
    }

-- the first octet, and those after it
pub head_same : (one other : ℕ) {rest more : List ℕ} → one ∷ rest ≡ other ∷ more → one ≡ other
head_same one other e = ap (first_of one) e
  where
    first_of : ℕ → List ℕ → ℕ
    first_of n [] = n
    first_of n (octet ∷ octets) = octet

abbrev pub tail : List ℕ → List ℕ
tail [] = []
tail (octet ∷ octets) = octets

-- ---- one that waits at its port

-- what it is once it accepts
pub joins_form : (d : Near) (a : Awaits d) → accepted true d ≡ joining a.op a.replied a.flow d
joins_form d a = ap (accepted true) a.is ∙ joins a.op a.replied a.flow a.few a.come a.port d

-- what it is once it has the link
pub joined_portless : (flow : Flow) → wants_port (joined_link flow) ≡ false
joined_portless (Sending [] mark) = refl
joined_portless (Sending (octet ∷ left) mark) = refl
joined_portless (Receiving decoder mark) = refl

joined_attached : (op : Op (List ℕ)) (replied : Replied) (flow : Flow) → has_come replied flow ≡ true → (n : Near)
    → (is_attached (joining op replied flow n).connection ≡ true) × (is_begun (joining op replied flow n).job ≡ true)
joined_attached op Replies.Begun (Sending [] mark) come n = (refl, refl)
joined_attached op Replies.Begun (Sending (octet ∷ left) mark) come n = (refl, refl)
joined_attached op Replies.Begun (Receiving decoder mark) come n = (refl, refl)
joined_attached op (Replies.Final code) (Receiving decoder mark) come n = (refl, refl)
joined_attached op (Replies.Final code) (Sending left mark) come n = absurd (true≢false (sym come))
joined_attached op Replies.Nothing flow come n = absurd (true≢false (sym come))

module _ (read : Reading) (reads : IsReading read) (from : State) (begun : List Order) (puts : AreCarried begun) (server : Stand server_side)
    (reports : List Said) (w : World) (serves : ServerServes server.owner) (known : Known w) (runs : OverRuns read from begun w) where
  module _ (moment : ℕ) (ahead : Ahead) (between : Between) (told octet : ℕ) (more : List ℕ) (d : Near) (a : Awaits d)
      (t : Together read begun moment ahead (led_between (Joined []) (octet ∷ more) between) told server (joined_client (accepted true d)) reports w)
      (lifts : joined_closing a.flow ≡ true → is_upload w.far.session.connection ≡ true) (none_owed : d.owed ≡ []) where
    abbrev v : Near
    v = accepted true d

    js : v ≡ joining a.op a.replied a.flow d
    js = ap (accepted true) a.is ∙ joins a.op a.replied a.flow a.few a.come a.port d

    abbrev one : Near
    one = hears_octet v octet

    abbrev hold : Between
    hold = led_between (Joined []) more between

    -- it read that octet, and hears it
    abbrev old : Stand client_side
    old = record (joined_client v) { unheard = octet ∷ [] }

    abbrev channel : Channel
    channel = seen (near.wants v) joined_channel

    abbrev new : Stand client_side
    new = record (joined_client v) { owner = held (record { view = one; refusals = 0 }) channel }

    before_t : Together read begun moment ahead hold told server old reports w
    before_t =
        together_of read begun moment ahead (led_between (Joined []) (octet ∷ more) between) hold told server (joined_client v) old reports w t
        (record { view = refl; said = refl; queue = refl; to_server = refl; ways = refl; far = refl; untold = λ e. (e, refl); unwritten = refl })
        (record { bare = λ e. refl }) (record { spare = λ e. refl; bare = λ e. refl })
        (record { had = t.keeping.had; shut = t.keeping.shut; over = t.keeping.over })

    fetches : ClientRests old.owner
    fetches = record {
      sound = ap (λ (n : Near). is_sound n.standing) js;
      dials = ap (λ (n : Near). wants_port n.connection) js ∙ joined_portless a.flow;
    }

    keeping : IsKeeping Fresh v
    keeping = subst (IsKeeping Fresh) (sym js) (record { job = (a.few.0, (refl, a.few.1)); run = refl })

    after : is_unaborted one.job ≡ true
    after = fresh_unaborted one (hears_kept Fresh fresh_kept (octet ∷ []) v keeping)

    near_is : w.near ≡ data_closed v
    near_is = t.beside.near ∙ ap (λ n. data_closed (taken n)) js ∙ ap data_closed (sym js)

    queue : w.control_to_client ≡ octet ∷ more
    queue = t.beside.to_client

    abbrev p : Near
    p = near.hears w.near (take 1 w.control_to_client)

    same : data_closed p ≡ data_closed one
    same = ap₂ (λ n q. data_closed (near.hears n (take 1 q))) near_is queue ∙ hears_blind (octet ∷ []) v

    unaborted : is_unaborted w.near.job ≡ true
    unaborted = ap (λ (n : Near). is_unaborted n.job) near_is ∙ ap (λ (n : Near). is_unaborted n.job) js

    then_unaborted : is_unaborted p.job ≡ true
    then_unaborted = ap (λ (n : Near). is_unaborted n.job) same ∙ after

    sound : is_sound one.standing ≡ true
    sound =
        ap (λ (n : Near). is_sound n.standing) (sym same)
        ∙ hears_sound read reads from begun puts w 1 runs t.beside.control t.beside.unready

    ports : Ports (pushed read ControlToClient 1 w)
    ports = hears_ports read reads from begun puts w 1 runs t.beside.control t.beside.unready unaborted then_unaborted

    did : HearsNext (octet ∷ []) old new
    did = record {
      hears = (((λ e. (refl, may), λ e. absurd (e refl)), inl refl), refl, λ e. absurd (true≢false (sym e)));
      next = refl;
      left = refl;
      written = refl;
    }
      where
        first : (k : ℕ) → k < 1 → 0 ≡ k
        first k less = omega (arith, less)

        may : (k : ℕ) → k < 1 → near.may_hear (near.hears v (take k (octet ∷ []))) ≡ true
        may k less =
            subst (λ n. near.may_hear (near.hears v (take n (octet ∷ []))) ≡ true) (first k less)
            (ap near.may_hear js ∙ ap (λ o. near.may_hear (joining a.op a.replied a.flow (record d { owed = o }))) none_owed)

    -- so a world goes on, and the drive's waits on
    pub record Heard : Type 0 where
      pub awaits : Awaits (hears_octet d octet)
      pub closes_so : joined_closing awaits.flow ≡ joined_closing a.flow
      pub goes : Goes read [] begun hold told server (joined_client (accepted true (hears_octet d octet))) reports w
      pub owed : (hears_octet d octet).owed ≡ []

    -- what a refusal would be
    refused_never : Refuses one → ⊥
    refused_never r =
        let joined : is_joined p.connection ≡ true = ap (λ (n : Near). is_joined n.connection) same ∙ ap is_joined r.connection in
        true≢false (sym (ports.final joined) ∙ ap (λ (n : Near). is_ended_whole n.job) same ∙ ap is_ended_whole r.job ∙ r.other)

    answered_never : is_transfer one.job ≡ false → joined_closing a.flow ≡ true → ⊥
    answered_never none closed =
        let gone : is_near_held w.link ≡ false = t.keeping.shut (ap (λ (n : Near). n.closing) js ∙ closed) in
        let link : is_closed_by_near w.link ≡ true = ap is_closed_by_near (known.takes (lifts closed) gone) in
        true≢false (sym (ports.closed link) ∙ ap (λ (n : Near). is_transfer n.job) same ∙ none)

    heard_on : (aw : Awaits (hears_octet d octet)) → joined_closing aw.flow ≡ joined_closing a.flow → one ≡ accepted true (hears_octet d octet) → Heard
    heard_on aw closed is =
        let u : Near = accepted true (hears_octet d octet) in
        let form : u ≡ joining aw.op aw.replied aw.flow (hears_octet d octet) =
        ap (accepted true) aw.is ∙ joins aw.op aw.replied aw.flow aw.few aw.come aw.port (hears_octet d octet) in
        let portless : wants_port one.connection ≡ false = ap (λ (n : Near). wants_port n.connection) (is ∙ form) ∙ joined_portless aw.flow in
        let went = client_heard read begun server old new reports w refl serves fetches portless known reads from puts runs (octet ∷ []) moment ahead
        hold told before_t did in
        let g = went.0 in
        record {
          awaits = aw;
          closes_so = closed;
          goes = record {
            world = g.world;
            leads = g.leads;
            moment = g.moment;
            ahead = g.ahead;
            marked = g.marked;
            together = together_of read begun g.moment g.ahead hold hold told server new (joined_client u) reports g.world
                (subst (λ l. Together read begun g.moment g.ahead hold told server new l g.world) (append-nil reports) g.together)
                (record {
                  view = ap (λ n. data_closed (taken n)) (sym is);
                  said = ap (λ n. option_to_list (report_of n)) (sym is);
                  queue = refl;
                  to_server = refl;
                  ways = refl;
                  far = refl;
                  untold = λ e. (e, refl);
                  unwritten = refl;
                })
                (record { bare = λ e. refl }) (record { spare = λ e. refl; bare = λ e. refl })
                (record {
                  had = λ e. refl;
                  shut = λ e. g.together.keeping.shut (ap (λ (n : Near). n.closing) is ∙ e);
                  over = λ e. absurd (true≢false e);
                });
          };
          owed =
              let p_is : data_closed p ≡ data_closed (joining aw.op aw.replied aw.flow (hears_octet d octet)) = same ∙ ap data_closed (is ∙ form) in
              let begun_so = joined_attached aw.op aw.replied aw.flow aw.come (hears_octet d octet) in
              sym (ap (λ (n : Near). n.owed) p_is)
              ∙ ports.owed (ap (λ (n : Near). is_attached n.connection) p_is ∙ begun_so.0) (ap (λ (n : Near). is_begun n.job) p_is ∙ begun_so.1);
        }

    pub joined_hears : Heard
    joined_hears = by (octet_met d a octet)
      where
        by : Meets (joined_closing a.flow) one (hears_octet d octet) → Heard
        by (Alike aw closed is) = heard_on aw closed is
        by (Failed none) = absurd (true≢false (sym sound ∙ none))
        by (Refused (inl answered)) = absurd (answered_never answered.0 answered.1)
        by (Refused (inr refuses)) = absurd (refused_never refuses)

-- ---- octets, one after another

-- a server that takes octets of an upload is ahead of none
upload_apart : (link : ServerLink Transfer) → is_upload link ≡ true → (accepts link ≡ false) × (is_asked link ≡ false)
    × ((accepted : Bool) → is_left accepted link ≡ false)
upload_apart (FarData.Transferring transfer) e = (refl, refl, λ accepted. left accepted)
  where
    left : (accepted : Bool) → is_left accepted (FarData.Transferring transfer) ≡ false
    left true = refl
    left false = refl
upload_apart FarData.Free e = absurd (true≢false (sym e))
upload_apart (FarData.Asked verb) e = absurd (true≢false (sym e))
upload_apart (FarData.Active endpoint) e = absurd (true≢false (sym e))
upload_apart FarData.Passive e = absurd (true≢false (sym e))
upload_apart FarData.Ready e = absurd (true≢false (sym e))
upload_apart (FarData.Opening transfer way) e = absurd (true≢false (sym e))

module _ (read : Reading) (reads : IsReading read) (from : State) (begun : List Order) (puts : AreCarried begun) (server : Stand server_side)
    (reports : List Said) (serves : ServerServes server.owner) where
  abbrev x : ServerLink Transfer
  x = server.owner.end.server.view.session.connection

  -- so a world's takes them too
  pub upload_there : (moment : ℕ) (ahead : Ahead) (between : Between) (told : ℕ) (client : Stand client_side) (w : World)
      → Together read begun moment ahead between told server client reports w → is_upload x ≡ true → is_upload w.far.session.connection ≡ true
  upload_there moment Level between told client w t e = ap (λ (f : Far). is_upload f.session.connection) t.beside.far ∙ e
  upload_there moment OpensAhead between told client w t e = absurd (true≢false (sym t.beside.fits ∙ (upload_apart x e).0))
  upload_there moment (Listens port) between told client w t e = absurd (true≢false (sym t.beside.fits ∙ (upload_apart x e).1))
  upload_there moment (Parted accepted) between told client w t e = absurd (true≢false (sym t.beside.fits ∙ (upload_apart x e).2 accepted))

  -- all of them are heard, by the drive's and in a world
  pub record HeardAll (octets : List ℕ) (rest : List ℕ) (d : Near) (closed : Bool) (between : Between) (told : ℕ) (w : World) : Type 0 where
    pub left : List ℕ
    pub more : List ℕ
    pub on : On (near.hears d octets) left closed
    pub queue : rest ≡ left ++ more
    pub goes : Goes read [] begun (led_between (Joined left) more between) told server (joined_client (accepted true (near.hears (near.hears d octets) left)))
        reports w

  module _ (closed : Bool) (lifted : closed ≡ true → is_upload x ≡ true) (between : Between) (told : ℕ) where
    abbrev Beside : List ℕ → List ℕ → Near → ℕ → Ahead → World → Type 0
    Beside octets more d moment ahead w =
        Together read begun moment ahead (led_between (Joined octets) more between) told server (joined_client (accepted true (near.hears d octets))) reports w

    pub all_heard : (heard rest octets more : List ℕ) (d : Near) → On d octets closed → heard ++ rest ≡ octets ++ more
        → (moment : ℕ) (ahead : Ahead) (w : World)
        → Beside octets more d moment ahead w → OverRuns read from begun w → HeardAll heard rest d closed between told w
    all_heard [] rest octets more d on queue moment ahead w t runs = record {
      left = octets;
      more = more;
      on = on;
      queue = queue;
      goes = record { world = w; leads = leads_none read w; moment = moment; ahead = ahead; marked = refl; together = t };
    }
    all_heard (octet ∷ heard) rest octets more d on queue moment ahead w t runs =
        by (λ octets more d on queue moment ahead w t runs. all_heard heard rest octets more d on queue moment ahead w t runs) on.stays on.closes_so
      where
        by : ((octets more : List ℕ) (d : Near) → On d octets closed → heard ++ rest ≡ octets ++ more → (moment : ℕ) (ahead : Ahead) (w : World)
            → Beside octets more d moment ahead w → OverRuns read from begun w → HeardAll heard rest d closed between told w)
            → (s : Stays d octets) → closes s ≡ closed → HeardAll (octet ∷ heard) rest d closed between told w
        by again (Comes op flow few port first others is o) closes_is =
            let both : octet ∷ (heard ++ rest) ≡ first ∷ (others ++ more) = queue ∙ ap (λ l. l ++ more) is in
            let same : octet ≡ first = head_same octet first both in
            let octets_is : octets ≡ octet ∷ others = is ∙ ap (λ h. h ∷ others) (sym same) in
            let o_here : Opens op flow port d (octet ∷ others) = subst (Opens op flow port d) octets_is o in
            let now = comes_on op flow few port d octet others o_here in
            let one = again others more (hears_octet d octet)
            (record { stays = now.stays; closes_so = now.closes_so ∙ closes_is; owed = now.owed; open_now = now.open_now })
            (ap tail both) moment ahead w
            (subst (λ l. Together read begun moment ahead (led_between (Joined others) more between) told server
            (joined_client (accepted true (near.hears d l)))
            reports w) octets_is t) runs in
            record { left = one.left; more = one.more; on = one.on; queue = one.queue; goes = one.goes }
        by again (Waits empty a) closes_is =
            let more_is : more ≡ octet ∷ (heard ++ rest) = ap (λ l. l ++ more) (sym empty) ∙ sym queue in
            let there : Together read begun moment ahead (led_between (Joined []) (octet ∷ (heard ++ rest)) between) told server
            (joined_client (accepted true d)) reports w =
            subst (λ m. Together read begun moment ahead (led_between (Joined []) m between) told server (joined_client (accepted true d)) reports w) more_is
            (subst (λ l. Together read begun moment ahead (led_between (Joined []) more between) told server (joined_client (accepted true (near.hears d l)))
            reports w) empty t) in
            let js = joins_form d a in
            let known : Known w = world_known read reads from begun puts w runs there.beside.control there.beside.unready in
            let h = joined_hears read reads from begun puts server reports w serves known runs moment ahead between told octet (heard ++ rest) d a there
            (λ e. upload_there moment ahead (led_between (Joined []) (octet ∷ (heard ++ rest)) between) told (joined_client (accepted true d)) w there
            (lifted (sym closes_is ∙ e))) on.owed in
            let aw = h.awaits in
            let next = again [] (heard ++ rest) (hears_octet d octet)
            (record {
              stays = Waits refl aw;
              closes_so = h.closes_so ∙ closes_is;
              owed = h.owed;
              open_now = ap (λ (n : Near). n.closing) aw.is;
            }) refl h.goes.moment h.goes.ahead h.goes.world h.goes.together
            (subst (λ l. OverRuns read from l h.goes.world) (append-nil begun)
            (over_lead read reads from begun h.goes.leads.events [] w h.goes.world h.goes.leads.timed runs h.goes.leads.leads)) in
            record {
              left = next.left;
              more = next.more;
              on = next.on;
              queue = next.queue;
              goes = record {
                world = next.goes.world;
                leads = leads_then read [] [] w h.goes.world next.goes.world h.goes.leads next.goes.leads;
                moment = next.goes.moment;
                ahead = next.goes.ahead;
                marked = next.goes.marked ∙ h.goes.marked;
                together = next.goes.together;
              };
            }
