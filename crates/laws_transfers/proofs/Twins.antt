-- A world that was told of the end of a link over which nothing was asked for, and its twin, which is the same but that its server waits at a port where nobody
-- comes: both go on alike. So no transfer begins there before another port is asked for, since none begins at that port.
use Rattle.std.proofs.Common.{◌≡◌, ◌⊎◌, inl, inr, ℕ, ◌<◌, ◌≤◌, Bool, true, false, true≢false, List, [], ◌∷◌, ◌++◌, length, take, option_to_list, refl, sym, ap, subst, ◌∙◌, append-nil}
use Rattle.std.specs.Prelude.{if◌then◌else◌}
use Rattle.std.proofs.lemmas.Bool.{and_right}
use Rattle.ftp_client_model.specs.Calls as near
use Rattle.ftp_client_model.specs.Calls.{data_closed, is_busy, is_busy_job, report_of}
use Rattle.ftp_client_model.specs.View.{View as Near}
use Rattle.ftp_client_model.specs.declared.client.Standing.TheVariants as Standings
use Rattle.ftp_direct.specs.Direct.{State, answer}
use Rattle.ftp_ends.specs.Link.{is_wanted}
use Rattle.ftp_ends.specs.declared.link.Wants.TheVariants as Want
use Rattle.ftp_operation.specs.declared.op.Op.{Op}
use Rattle.ftp_path.specs.Path.{Names}
use Rattle.ftp_server_model.specs.Calls as far
use Rattle.ftp_server_model.specs.Calls.{clock_step}
use Rattle.ftp_server_model.specs.Machine.{IsReading, Reading, hears, hears_octet, may_hear}
use Rattle.ftp_server_model.specs.View.{Session, Transfer, View as Far}
use Rattle.ftp_server_model.specs.declared.session.Keep.{Keep}
use Rattle.ftp_server_model.specs.declared.session.Pending.{Pending}
use Rattle.ftp_server_model.specs.declared.session.Pending.TheVariants as Pendings
use Rattle.ftp_server_model.specs.declared.session.ServerLink.{ServerLink}
use Rattle.ftp_server_model.specs.declared.session.ServerLink.TheVariants as Data
use Rattle.ftp_server_model.specs.declared.session.Way.TheVariants as Ways
use Rattle.ftp_tree.specs.Sound.{last_second}
use Rattle.ftp_wire.specs.Decoder.{Decoder}
use Rattle.laws_world.specs.Agreement.{Order, Single}
use Rattle.laws_world.specs.Events.{ControlToServer, is_asked_for, is_closed_by_near, is_gone, pushed}
use Rattle.laws_world.specs.Serving.{link_closed_by_near, near_closes}
use Rattle.laws_world.specs.World.{Gone, Mark, Stands, World}
use Rattle.laws_dialogues.specs.Dialogue.{Stands as StandsSo}
use Rattle.laws_dialogues.specs.Fetches.{Ask, IsAsk, Rise, linked}
use Rattle.laws_dialogues.specs.Login.{AtFree, AtOperation}
use Rattle.laws_dialogues.specs.Stage.{Way, rest}
use Rattle.laws_agreement.specs.Cut.{PlacedAt}
use Rattle.laws_agreement.specs.Follows.{Follows, IsFree, Phase}
use Rattle.laws_agreement.specs.Over.{OverRuns}
use Rattle.laws_agreement.specs.Rising.{Declined, Lift, Offered, Risen, Rising, Settled, Unjoined, held}
use Rattle.laws_agreement.specs.Runs.{IsFetching}
use Rattle.laws_agreement.specs.Stages.{AtFetch, Holds, Rises}
use Rattle.laws_agreement.proofs.Deliveries.{pushed_server as still_told}
use Rattle.laws_agreement.proofs.FetchRuns.{pushed_server, serving_first}
use Rattle.laws_agreement.proofs.FetchWants.{lasting_busy}
use Rattle.laws_agreement.proofs.OverRunning.{over_lead}
use Rattle.laws_agreement.proofs.PeekRuns.{halt_busy}
use Rattle.laws_agreement.proofs.Still.{IsSeen, no_octets, operation_on, rest_world, seen, seen_placed}
use Rattle.laws_drivers.proofs.control.Leaving.{is_entered, not_logging}
use Rattle.laws_drivers.proofs.control.Taken.{taken}
use Rattle.laws_drivers.proofs.control.Worlds.{LeadsOn}
use Rattle.laws_drivers.specs.world.Ahead.{is_asked}
use Rattle.laws_drivers.proofs.world.Moves.{Rested, begins, far_hears, far_says, far_saying, near_hears, near_says, near_saying}
use Rattle.laws_drivers.proofs.world.Running.{free_still, not_lost, under_still}
use Rattle.laws_drivers.proofs.world.Served.{Runs, far_shut, far_told, near_shut, rests, settled}
use Rattle.laws_drivers.proofs.world.Settling.{far_idle}
use Rattle.laws_transfers.specs.Actions.{AreGranted, IsCarried}
use Rattle.laws_transfers.proofs.Acting.{Acts, aside_idle, carry_not, idle_or_acts, is_acting}
use Rattle.laws_transfers.proofs.Halting.{halt_stands}
use Rattle.laws_transfers.proofs.Known.{AreCarried, both_carried, front_granted, last_carried}
use Rattle.laws_transfers.proofs.Running.{not_trailing}

-- waiting at a port
abbrev pub awaiting : Far → Far
awaiting f = record f { session = record f.session { connection = Data.Passive } }

abbrev pub twin : World → World
twin w = record w { far = awaiting w.far }

-- ---- what is done after an event

-- where there is no link, and the server wants nothing: a close of the client's, and a report is taken
gone_settles : (x : World) → x.link ≡ Gone → x.far.session.closing ≡ false → is_asked x.far.session.connection ≡ false
    → settled x ≡ record x { near = data_closed (taken x.near); reports = x.reports ++ option_to_list (report_of x.near) }
gone_settles x link unclosed none =
    let u : World = record x { near = data_closed x.near } in
    let shut : near_shut x ≡ u = by x.near.closing refl in
    ap (λ (y : World).
    let z : World = far_told (far_shut y) in record z { near = taken z.near; reports = z.reports ++ option_to_list (report_of z.near) }) shut
    ∙ ap (λ (z : World). record z { near = taken z.near; reports = z.reports ++ option_to_list (report_of z.near) }) (far_idle u unclosed none)
  where
    by : (closing : Bool) → x.near.closing ≡ closing → (if closing then near_closes x else x) ≡ record x { near = data_closed x.near }
    by true is = ap (λ l. link_closed_by_near l (record x { near = data_closed x.near })) link
    by false is = ap (λ c. record x { near = record x.near { closing = c } }) is

-- so it is of the twin
pub twin_settles : (x : World) → x.link ≡ Gone → x.far.session.closing ≡ false → is_asked x.far.session.connection ≡ false
    → settled (twin x) ≡ twin (settled x)
twin_settles x link unclosed none = gone_settles (twin x) link unclosed refl ∙ sym (ap twin (gone_settles x link unclosed none))

-- what is not at rest of it stays
pub gone_link : (x : World) → x.link ≡ Gone → x.far.session.closing ≡ false → is_asked x.far.session.connection ≡ false → (settled x).link ≡ Gone
gone_link x link unclosed none = ap (λ (y : World). y.link) (gone_settles x link unclosed none) ∙ link

pub gone_far : (x : World) → x.link ≡ Gone → x.far.session.closing ≡ false → is_asked x.far.session.connection ≡ false
    → (settled x).far.session.connection ≡ x.far.session.connection
gone_far x link unclosed none = ap (λ (y : World). y.far.session.connection) (gone_settles x link unclosed none)

-- it rests too
pub twin_rested : (w : World) → Rested w → Rested (twin w)
twin_rested w r = record {
  near_rests = r.near_rests;
  near_open = r.near_open;
  none = r.none;
  runs = record { running = r.runs.running; none_waits = r.runs.none_waits };
  far_open = r.far_open;
  none_asked = refl;
}

-- ---- one that has a twin

-- it has no link, and operations that were begun lead to its twin; REST refuses an offset of theirs
pub record HasTwin (read : Reading) (begun : List Order) (w : World) : Type 0 where
  pub from : State
  pub carried : AreCarried begun
  pub refused : AreGranted begun → ⊥
  pub link : w.link ≡ Gone
  pub none : w.far.session.connection ≡ Data.Free
  pub runs : OverRuns read from begun (twin w)

module _ (read : Reading) (reads : IsReading read) (begun : List Order) where
  -- events of both
  pub goes_on : (w new : World) (more : List Order) → HasTwin read begun w → AreCarried more → new.link ≡ Gone → new.far.session.connection ≡ Data.Free
      → LeadsOn read more (twin w) (twin new) → HasTwin read (begun ++ more) new
  goes_on w new more k carried link none leads = record {
    from = k.from;
    carried = both_carried begun more k.carried carried;
    refused = λ granted. k.refused (front_granted begun more granted);
    link = link;
    none = none;
    runs = over_lead read reads k.from begun leads.events more (twin w) (twin new) leads.timed k.runs leads.leads;
  }

  -- events that begin nothing
  pub stays_on : (w new : World) → HasTwin read begun w → new.link ≡ Gone → new.far.session.connection ≡ Data.Free → LeadsOn read [] (twin w) (twin new)
      → HasTwin read begun new
  stays_on w new k link none leads = subst (λ l. HasTwin read l new) (append-nil begun) (goes_on w new [] k tt link none leads)

  -- octets are said
  pub near_said : (octets rest : List ℕ) (w : World) → HasTwin read begun w → Rested w → w.near.owed ≡ octets ++ rest
      → HasTwin read begun (near_saying read octets rest w)
  near_said octets rest w k r owed =
      stays_on w (near_saying read octets rest w) k k.link k.none (near_says read octets rest (twin w) (twin_rested w r) owed)

  pub far_said : (octets rest : List ℕ) (w : World) → HasTwin read begun w → Rested w → w.far.owed ≡ octets ++ rest
      → HasTwin read begun (far_saying read octets rest w)
  far_said octets rest w k r owed =
      stays_on w (far_saying read octets rest w) k k.link k.none (far_says read octets rest (twin w) (twin_rested w r) owed)

  -- the client hears octets
  pub near_heard : (octet : ℕ) (octets rest : List ℕ) (w : World) → HasTwin read begun w → Rested w → w.control_to_client ≡ (octet ∷ octets) ++ rest
      → ((k : ℕ) → k < length (octet ∷ octets) → near.may_hear (near.hears w.near (take k w.control_to_client)) ≡ true)
      → rests (near.wants (near.data_closed (near.hears w.near (octet ∷ octets)))) ≡ true
      → HasTwin read begun (settled (record w { near = near.hears w.near (octet ∷ octets); control_to_client = rest; taken = octet ∷ octets }))
  near_heard octet octets rest w k r queue may wants =
      let now : World = record w { near = near.hears w.near (octet ∷ octets); control_to_client = rest; taken = octet ∷ octets } in
      stays_on w (settled now) k (gone_link now k.link r.far_open r.none_asked) (gone_far now k.link r.far_open r.none_asked ∙ k.none)
      (subst (λ x. LeadsOn read [] (twin w) x) (twin_settles now k.link r.far_open r.none_asked)
      (near_hears read octet octets rest (twin w) (twin_rested w r) queue may wants))

  -- an operation begins
  pub begun_too : (op : Op (List ℕ)) → IsCarried op → (moment : ℕ) → moment ≤ last_second → (w : World) → HasTwin read begun w → Rested w
      → near.is_busy w.near ≡ false → near.wants w.near ≡ Want.Nothing → rests (near.wants (near.data_closed (near.starts op w.near))) ≡ true
      → HasTwin read (begun ++ Single op moment ∷ [])
      (settled (record w { near = near.starts op w.near; far = clock_step moment w.far; marks = w.marks ++ [] ∷ []; taken = [] }))
  begun_too op carried moment timed w k r idle idles wants =
      let now : World = record w { near = near.starts op w.near; far = clock_step moment w.far; marks = w.marks ++ [] ∷ []; taken = [] } in
      let asks : is_asked_for (twin w) ≡ false = and_right (is_gone w.link) _ (ap (λ q. is_wanted q (far.wants (awaiting w.far))) idles) in
      goes_on w (settled now) (Single op moment ∷ []) k (carried, tt) (gone_link now k.link r.far_open r.none_asked)
      (gone_far now k.link r.far_open r.none_asked ∙ k.none)
      (subst (λ x. LeadsOn read (Single op moment ∷ []) (twin w) x) (twin_settles now k.link r.far_open r.none_asked)
      (begins read op moment timed (twin w) (twin_rested w r) k.link idle asks wants))

  -- the server hears an octet alike
  pub far_heard : (octet : ℕ) (rest : List ℕ) (w : World) → HasTwin read begun w → Rested w → w.control_to_server ≡ octet ∷ rest → may_hear w.far ≡ true
      → Runs (hears_octet read w.far octet) → hears_octet read (awaiting w.far) octet ≡ awaiting (hears_octet read w.far octet)
      → (hears_octet read w.far octet).session.closing ≡ false → (hears_octet read w.far octet).session.connection ≡ Data.Free
      → HasTwin read begun (settled (record w { far = hears_octet read w.far octet; control_to_server = rest; taken = octet ∷ [] }))
  far_heard octet rest w k r queue may runs same unclosed none =
      let now : World = record w { far = hears_octet read w.far octet; control_to_server = rest; taken = octet ∷ [] } in
      let unasked : is_asked now.far.session.connection ≡ false = ap is_asked none in
      stays_on w (settled now) k (gone_link now k.link unclosed unasked) (gone_far now k.link unclosed unasked ∙ none)
      (subst (λ x. LeadsOn read [] (twin w) x)
      (ap (λ f. settled (record (twin w) { far = f; control_to_server = rest; taken = octet ∷ [] })) same ∙ twin_settles now k.link unclosed unasked)
      (far_hears read octet rest (twin w) (twin_rested w r) queue may
      (record { running = ap (λ (f : Far). f.session.life) same ∙ runs.running; none_waits = ap (λ (f : Far). f.waiting) same ∙ runs.none_waits })))

-- ---- no transfer waits for who comes

abbrev is_awaited : ServerLink Transfer → Bool
is_awaited (Data.Opening transfer Ways.Accept) = true
is_awaited link = false

idle_unawaited : (link : ServerLink Transfer) → is_acting link ≡ false → is_awaited link ≡ false
idle_unawaited Data.Free is = refl
idle_unawaited (Data.Active endpoint) is = refl
idle_unawaited Data.Passive is = refl
idle_unawaited Data.Ready is = refl
idle_unawaited (Data.Asked verb) is = refl
idle_unawaited (Data.Opening transfer way) is = absurd (true≢false is)
idle_unawaited (Data.Transferring transfer) is = refl

held_unawaited : (past : Bool) (path : Names) (keep : Keep) (d : Decoder) → is_awaited (held past path keep d) ≡ false
held_unawaited false path keep d = refl
held_unawaited true path keep d = refl

module _ (read : Reading) (state : State) (ask : Ask) (good : IsAsk ask) (own : List Mark) where
  abbrev At : Way → World → Type 0
  At way b = AtFetch state ask read own way b

  stage_unawaited : (w : World) → PlacedAt At w → is_awaited w.far.session.connection ≡ false
  stage_unawaited w s = by (idle_or_acts read state ask good own w s)
    where
      of : IsSeen s.base w
      of = seen_placed At w s

      at : (link : ServerLink Transfer) (closing : Bool) (pending : Pending Names) → s.base.far.session ≡ linked link closing pending s.base.far.session
          → is_awaited link ≡ false → is_awaited w.far.session.connection ≡ false
      at link closing pending is none = ap (λ (t : Session). is_awaited t.connection) (of.session ∙ is) ∙ none

      at_held : (past : Bool) (path : Names) (keep : Keep) (d : Decoder)
          → s.base.far.session ≡ linked (held past path keep d) false Pendings.Nothing s.base.far.session → is_awaited w.far.session.connection ≡ false
      at_held past path keep d is = at (held past path keep d) false Pendings.Nothing is (held_unawaited past path keep d)

      by_lift : (rise : Rise) (lift : Lift) → Holds state ask own (Rises rise lift) s.way s.base → is_awaited w.far.session.connection ≡ false
      by_lift rise Offered h = at_held false _ _ _ h.session
      by_lift rise (Rising past octet more came queue mark notes) h = at_held past _ _ _ h.session
      by_lift rise (Risen past closed came queue mark notes) h = at_held past _ _ _ h.session
      by_lift rise (Settled begun mark notes fate left after) h = at _ _ _ h.session refl
      by_lift rise (Declined why door) h = at _ _ _ h.session refl
      by_lift rise Unjoined h = at _ _ _ h.session refl

      by : (is_acting w.far.session.connection ≡ false) ⊎ Acts read state ask good own s.way s.base → is_awaited w.far.session.connection ≡ false
      by (inl idle) = idle_unawaited w.far.session.connection idle
      by (inr (inl (port, begun, h))) = at _ _ _ h.session refl
      by (inr (inr (inl (c, h)))) = at _ _ _ h.session (carry_not is_awaited refl (λ listed octets. refl) ask.listed c.course)
      by (inr (inr (inr (rise, lift, h)))) = by_lift rise lift h

module _ (read : Reading) (reads : IsReading read) (begun : List Order) where
  -- a twin that hears an octet doesn't come to wait so
  pub none_begins : (octet : ℕ) (queue : List ℕ) (transfer : Transfer) (w : World) → HasTwin read begun w → w.control_to_server ≡ octet ∷ queue
      → w.control ≡ Stands → (hears_octet read (awaiting w.far) octet).session.connection ≡ Data.Opening transfer Ways.Accept → ⊥
  none_begins octet queue transfer w k some control awaited = true≢false (sym (ap is_awaited now_awaited) ∙ by k.runs)
    where
      new : World
      new = pushed read ControlToServer 1 (twin w)

      now_awaited : new.far.session.connection ≡ Data.Opening transfer Ways.Accept
      now_awaited = ap (λ q. (hears read (awaiting w.far) (take 1 q)).session.connection) some ∙ awaited

      by_phase : Phase read k.from begun new → is_awaited new.far.session.connection ≡ false
      by_phase (inl (linked, inl free)) = idle_unawaited new.far.session.connection (aside_idle new.far.session.connection (free_still read k.from begun new free).far.aside)
      by_phase (inl (linked, inr under)) = idle_unawaited new.far.session.connection (aside_idle new.far.session.connection (under_still read k.from begun new under).far.aside)
      by_phase (inr lost) = absurd (not_lost read k.from begun new control lost)

      by_fetching : IsFetching read k.from begun new → is_awaited new.far.session.connection ≡ false
      by_fetching f = stage_unawaited read f.now f.ask f.is_ask f.own new f.stands

      by : OverRuns read k.from begun (twin w) → is_awaited new.far.session.connection ≡ false
      by (inl (inl f)) = by_phase (still_told read reads k.from begun 1 (twin w) (record { unlinked = f.unlinked; phase = f.phase })).phase
      by (inl (inr (inl on))) =
          by_fetching (pushed_server read reads k.from begun 1 (twin w) on.fetching (twin w) (serving_first read reads k.from begun (twin w) on))
      by (inl (inr (inr (inl trailing)))) =
          absurd (not_trailing read reads k.from begun k.carried (twin w) (λ e. absurd (true≢false (sym e ∙ ap is_closed_by_near k.link))) trailing)
      by (inl (inr (inr (inr on)))) =
          let h = on.halting in absurd (true≢false (halt_stands h.now h.ask h.own (twin w) h.stands).unaccepting)
      by (inr (inl trying)) = absurd (last_carried trying.going.done _ begun trying.going.begun_is k.carried)
      by (inr (inr tailing)) = absurd (last_carried tailing.going.done _ begun tailing.going.begun_is k.carried)

-- ---- one that was told of the end

-- a server that stands so stands so at a port
waits_so : (state : State) (n : Near) (f : Far) → StandsSo state n f → StandsSo state n (awaiting f)
waits_so state n f s = record {
  meets = record {
    peer = s.meets.peer;
    here = s.meets.here;
    typed = s.meets.typed;
    own = s.meets.own;
    family = s.meets.family;
    all_ways = s.meets.all_ways;
  };
  far = record { aside = refl; closing = s.far.closing; life = s.far.life };
  sees = record { table = s.sees.table; known = s.sees.known; root = s.sees.root; rights = s.sees.rights; cwd = s.sees.cwd };
  settings = s.settings;
  facts = s.facts;
}

module _ (read : Reading) (reads : IsReading read) (from : State) (begun : List Order) (puts : AreCarried begun) (y : World) where
  -- a client that has no operation under way, and is logged in
  module _ (control : y.control ≡ Stands) (idle : is_busy y.near ≡ false)
      (entered : y.near.standing ≡ Standings.Entered) (link : y.link ≡ Gone) (none : y.far.session.connection ≡ Data.Free)
      (refused : AreGranted begun → ⊥) where
    twin_free : IsFree from begun y → IsFree from begun (twin y)
    unfolding is_entered
    twin_free f = by f.stands.here
      where
        by : AtFree f.now f.stands.way f.stands.base.near f.stands.base.far → IsFree from begun (twin y)
        by (inl (logging, waits)) =
            let standing = sym entered ∙ (seen (AtFree f.now) y f.stands).standing ∙ logging.logs.standing in
            absurd (true≢false (ap is_entered standing ∙ not_logging logging.place))
        by (inr (way, resting, stands)) = record {
          now = f.now;
          sound = f.sound;
          told = f.told;
          stands = record {
            base = twin f.stands.base;
            way = rest;
            cut = no_octets;
            is = ap twin (rest_world (AtFree f.now) y f.stands way);
            fits = (tt, (refl, refl));
            here = inr (refl, resting, waits_so f.now f.stands.base.near f.stands.base.far stands);
          };
        }

    twin_follows : Follows read from begun y → Follows read from begun (twin y)
    twin_follows f = record {
      unlinked = record { link = f.unlinked.link; to_server = f.unlinked.to_server; to_client = f.unlinked.to_client };
      untold = f.untold;
      phase = by f.phase;
    }
      where
        by : Phase read from begun y → Phase read from begun (twin y)
        by (inl (linked, inl free)) = inl (record { control = linked.control; cutoff = linked.cutoff }, inl (twin_free free))
        by (inl (linked, inr under)) =
            let result = answer under.now under.op under.moment in
            let s = under.stands in
            let of = seen (AtOperation read under.now under.op result) y s in
            elim (operation_on read under.now under.op result s.way s.base.near s.base.far s.here) [
              | inl moving ↦ absurd (true≢false (sym moving.busy ∙ ap is_busy_job (sym of.job) ∙ idle))
              | inr over ↦ absurd (true≢false (sym (ap (λ (n : Near). is_busy n) over.1.near) ∙ ap is_busy_job (sym of.job) ∙ idle))
            ]
        by (inr lost) = absurd (not_lost read from begun y control lost)

    -- has a twin
    pub parted : OverRuns read from begun y → HasTwin read begun y
    parted runs = record { from = from; carried = puts; refused = refused; link = link; none = none; runs = inl (inl (twin_follows (by runs))) }
      where
        by : OverRuns read from begun y → Follows read from begun y
        by (inl (inl f)) = f
        by (inl (inr (inl on))) =
            let f = on.fetching in absurd (true≢false (sym (lasting_busy read f.now f.ask f.is_ask.plan f.own y f.stands on.lasts) ∙ idle))
        by (inl (inr (inr (inl trailing)))) =
            absurd (not_trailing read reads from begun puts y (λ e. absurd (true≢false (sym e ∙ ap is_closed_by_near link))) trailing)
        by (inl (inr (inr (inr on)))) =
            let h = on.halting in absurd (true≢false (sym (halt_busy h.now h.ask h.own y h.stands) ∙ idle))
        by (inr (inl trying)) = absurd (last_carried trying.going.done _ begun trying.going.begun_is puts)
        by (inr (inr tailing)) = absurd (last_carried tailing.going.done _ begun tailing.going.begun_is puts)
