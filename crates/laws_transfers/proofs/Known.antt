-- What is so of every world that a session comes to in which files are put and fetched, where the client alone has left no link of which the server made
-- nothing yet; and that it is so where no ABOR was sent.
use Rattle.std.proofs.Common.{◌≡◌, ◌⊎◌, inl, inr, ℕ, Bool, true, false, true≢false, List, [], ◌∷◌, ◌++◌, Option, None, refl, sym, ap, subst, ◌∙◌}
use Rattle.std.specs.Prelude.{⊤}
use Rattle.ftp_ends.specs.Link.{same_host}
use Rattle.ftp_ends.specs.Reply.{Reply}
use Rattle.ftp_ends.specs.declared.link.Wants.{Wants}
use Rattle.ftp_ends.specs.declared.link.Wants.TheVariants as Want
use Rattle.ftp_operation.specs.declared.op.Op.{Op}
use Rattle.ftp_direct.specs.Direct.{State}
use Rattle.ftp_path.specs.Path.{Names}
use Rattle.ftp_wire.specs.Decoder.{Decoder}
use Rattle.ftp_client_model.specs.Calls as near
use Rattle.ftp_client_model.specs.Calls.{is_busy}
use Rattle.ftp_client_model.specs.Plan.{count_of}
use Rattle.ftp_client_model.specs.View.{Doing, Job, Transferring, View as Near}
use Rattle.ftp_client_model.specs.declared.client.Abort.TheVariants as Aborts
use Rattle.ftp_client_model.specs.declared.client.ClientLink.{ClientLink as NearConnection}
use Rattle.ftp_client_model.specs.declared.client.ClientLink.TheVariants as NearData
use Rattle.ftp_client_model.specs.declared.client.Replied.TheVariants as Replies
use Rattle.ftp_client_model.specs.declared.client.Step.TheVariants as Steps
use Rattle.ftp_endpoint.specs.declared.endpoint.Endpoint.{Endpoint}
use Rattle.ftp_server_model.specs.Calls.{is_upload}
use Rattle.ftp_server_model.specs.Machine.{Reading, is_transferring}
use Rattle.ftp_server_model.specs.View.{Transfer}
use Rattle.ftp_server_model.specs.declared.session.Keep.{Keep}
use Rattle.ftp_server_model.specs.declared.session.Pending.{Pending}
use Rattle.ftp_server_model.specs.declared.session.Pending.TheVariants as Pendings
use Rattle.ftp_server_model.specs.declared.session.ServerLink.{ServerLink}
use Rattle.ftp_server_model.specs.declared.session.ServerLink.TheVariants as FarData
use Rattle.ftp_server_model.specs.declared.session.Transfer.TheVariants as Transfers
use Rattle.laws_world.specs.Agreement.{Order, Single, Tries}
use Rattle.laws_world.specs.Events.{is_closed_by_far, is_closed_by_near}
use Rattle.laws_world.specs.World.{ClosedByFar, ClosedByNear, Link, Mark, Opened, World}
use Rattle.laws_dialogues.specs.Dialogue.{is_set_aside}
use Rattle.laws_dialogues.specs.Fetches.{Ask, Direction, Down, IsAsk, Rise, Up, busy, carrying, giving_of, linked}
use Rattle.laws_dialogues.specs.Stage.{Answering, Way}
use Rattle.laws_dialogues.proofs.Fetching.{own_host}
use Rattle.laws_agreement.specs.Cut.{PlacedAt, world_at}
use Rattle.laws_agreement.specs.Rising.{Closing, Declined, Lift, Offered, Risen, Rising, Settled, Shut, Unjoined, Vanished, held, lift_passes, sending}
use Rattle.laws_agreement.specs.Stages.{Answers, AtFetch, Awaits, Carries, Closed, Course, Dialled, Denied, Dials, Dismissed, Ended, Given, Giving as GivesOctets, Granted, Holds, IsLasting, Lost, PortAsked, PortDenied, PortSaid, PortTaken, PortTold, PortWanted, Ported, Refusing, Restarts, Retrieves, Rises, Sent, Severed, Stage, Tells, Unaccepted, Unclosed, Unopened, is_passing}
use Rattle.laws_agreement.proofs.FetchServed.{leads_still}
use Rattle.laws_agreement.proofs.FetchWants.{lasting_busy}
use Rattle.laws_agreement.proofs.Rests.{near_form}
use Rattle.laws_agreement.proofs.Still.{IsSeen, near_wants, no_octets, rest_placed, seen_placed}
use Rattle.laws_drivers.specs.world.Ahead.{is_open}
use Rattle.laws_drivers.specs.world.Unaborted.{is_unaborted}
use Rattle.laws_drivers.proofs.world.Known.{Dialling, Idling, aside_still, beside, is_doing, is_receive, one_way}
use Rattle.laws_transfers.specs.Actions.{AreGranted, IsCarried}

-- ---- the orders

-- each is such an operation
abbrev pub AreCarried : List Order → Type 0
AreCarried [] = ⊤
AreCarried (Single op moment ∷ orders) = IsCarried op × AreCarried orders
AreCarried (Tries upload moment ∷ orders) = ⊥

-- orders after orders
pub both_carried : (front given : List Order) → AreCarried front → AreCarried given → AreCarried (front ++ given)
both_carried [] given one other = other
both_carried (Single op moment ∷ front) given one other = (one.0, both_carried front given one.1 other)
both_carried (Tries upload moment ∷ front) given one other = absurd one

-- of the first of them
pub front_granted : (front given : List Order) → AreGranted (front ++ given) → AreGranted front
front_granted [] given granted = tt
front_granted (Single op moment ∷ front) given granted = (granted.0, front_granted front given granted.1)
front_granted (Tries upload moment ∷ front) given granted = tt

pub last_carried : (done : List Order) (order : Order) (begun : List Order) → begun ≡ done ++ order ∷ [] → AreCarried begun → AreCarried (order ∷ [])
last_carried done order begun is puts = by done (subst AreCarried is puts)
  where
    by : (done : List Order) → AreCarried (done ++ order ∷ []) → AreCarried (order ∷ [])
    by [] w = w
    by (Single op moment ∷ done) w = by done w.1
    by (Tries upload moment ∷ done) w = absurd w

-- ---- what is so

-- the client has octets to give, over a link that is open, to a server that takes them
pub record Lifting (w : World) : Type 0 where
  pub op : Op (List ℕ)
  pub octet : ℕ
  pub more : List ℕ
  pub mark : Option ℕ
  pub count : count_of op ≡ None
  pub near : w.near ≡ busy (sending op Replies.Begun (octet ∷ more) mark) NearData.Open w.near
  pub link : w.link ≡ Opened
  pub far : is_upload w.far.session.connection ≡ true

-- the server has octets to give
pub record Giving (w : World) : Type 0 where
  pub listed : Bool
  pub octet : ℕ
  pub more : List ℕ
  pub far : w.far.session.connection ≡ FarData.Transferring (giving_of listed (octet ∷ more))

-- it gives octets of a file or a listing
abbrev pub is_giving : ServerLink Transfer → Bool
is_giving (FarData.Transferring (Transfers.Download rest)) = true
is_giving (FarData.Transferring (Transfers.Listing rest)) = true
is_giving link = false

-- the client has not closed it
abbrev pub is_near_held : Link → Bool
is_near_held Opened = true
is_near_held ClosedByFar = true
is_near_held link = false

-- it is open at the server, for which nothing was asked yet
abbrev pub is_ready : ServerLink Transfer → Bool
is_ready FarData.Ready = true
is_ready link = false

pub record Known (w : World) : Type 0 where
  pub dials : (endpoint : Endpoint) → near.wants w.near ≡ Want.Connect endpoint → Dialling w
  pub says : is_unaborted w.near.job ≡ true → (octet : ℕ) (octets : List ℕ) → w.far.owed ≡ octet ∷ octets → w.control_to_server ≡ []
  pub lines : is_transferring w.far.session.connection ≡ true
      → (w.control_to_server ≡ []) ⊎ ((is_unaborted w.near.job ≡ false) × (is_giving w.far.session.connection ≡ true))
  pub idle : is_busy w.near ≡ false → Idling w
  pub still : is_upload w.far.session.connection ≡ false → w.data_to_server ≡ []
  pub closed : is_closed_by_near w.link ≡ true → is_upload w.far.session.connection ≡ true
  pub takes : is_upload w.far.session.connection ≡ true → is_near_held w.link ≡ false → w.link ≡ ClosedByNear
  pub left : is_closed_by_far w.link ≡ true → is_upload w.far.session.connection ≡ false
  pub sends : near.wants w.near ≡ Want.Send → Lifting w
  pub carries : is_giving w.far.session.connection ≡ true → Giving w
  pub down : near.wants w.near ≡ Want.Receive → is_open w.far.session.connection ≡ false → w.link ≡ ClosedByFar
  pub falls : is_receive (near.wants w.near) ≡ false → w.data_to_client ≡ []
  pub ended : is_near_held w.link ≡ false → w.data_to_client ≡ []

-- ---- by kinds of worlds

-- what a client wants that neither dials nor gives or takes octets
abbrev pub is_calm : Wants → Bool
is_calm (Want.Connect endpoint) = false
is_calm Want.Send = false
is_calm Want.Receive = false
is_calm other = true

calm_takes : (q : Wants) → is_calm q ≡ true → is_receive q ≡ false
calm_takes Want.Receive e = absurd (true≢false (sym e))
calm_takes Want.Send e = refl
calm_takes (Want.Connect endpoint) e = refl
calm_takes Want.Nothing e = refl
calm_takes Want.Listen e = refl
calm_takes Want.Accept e = refl
calm_takes Want.CloseData e = refl
calm_takes Want.CloseAll e = refl

abbrev Says : World → Type 0
Says w = (octet : ℕ) (octets : List ℕ) → w.far.owed ≡ octet ∷ octets → w.control_to_server ≡ []

-- nothing is dialled, given or taken
pub calm_known : (w : World) → Says w → is_calm (near.wants w.near) ≡ true → is_upload w.far.session.connection ≡ false
    → (is_transferring w.far.session.connection ≡ true → w.control_to_server ≡ []) → (is_busy w.near ≡ false → Idling w)
    → is_closed_by_near w.link ≡ false → w.data_to_server ≡ [] → is_giving w.far.session.connection ≡ false
    → w.data_to_client ≡ [] → Known w
calm_known w says calm none lines idle unclosed empty ungiven flat = record {
  dials = λ endpoint e. absurd (true≢false (sym calm ∙ ap is_calm e));
  says = λ unaborted. says;
  lines = λ e. inl (lines e);
  idle = idle;
  still = λ e. empty;
  closed = λ e. absurd (true≢false (sym e ∙ unclosed));
  takes = λ e h. absurd (true≢false (sym e ∙ none));
  left = λ e. none;
  sends = λ e. absurd (true≢false (sym calm ∙ ap is_calm e));
  carries = λ e. absurd (true≢false (sym e ∙ ungiven));
  down = λ e shut. absurd (true≢false (sym calm ∙ ap is_calm e));
  falls = λ e. flat;
  ended = λ e. flat;
}

-- a server that stands aside takes none, and has none open
pub aside_rests : (link : ServerLink Transfer) → is_set_aside link ≡ true → (is_upload link ≡ false) × (is_ready link ≡ false) × (is_giving link ≡ false)
aside_rests FarData.Free is = (refl, refl, refl)
aside_rests (FarData.Active endpoint) is = (refl, refl, refl)
aside_rests FarData.Passive is = (refl, refl, refl)
aside_rests FarData.Ready is = absurd (true≢false (sym is))
aside_rests (FarData.Asked verb) is = absurd (true≢false (sym is))
aside_rests (FarData.Opening transfer way) is = absurd (true≢false (sym is))
aside_rests (FarData.Transferring transfer) is = absurd (true≢false (sym is))

-- one that takes octets of an upload
pub held_takes : (past : Bool) (path : Names) (keep : Keep) (d : Decoder) → is_upload (held past path keep d) ≡ true
held_takes false path keep d = refl
held_takes true path keep d = refl

pub held_busy : (past : Bool) (path : Names) (keep : Keep) (d : Decoder) → is_ready (held past path keep d) ≡ false
held_busy false path keep d = refl
held_busy true path keep d = refl

held_gives : (past : Bool) (path : Names) (keep : Keep) (d : Decoder) → is_giving (held past path keep d) ≡ false
held_gives false path keep d = refl
held_gives true path keep d = refl

-- one that gives takes none
pub gives_none : (listed : Bool) (octets : List ℕ) → is_upload (FarData.Transferring (giving_of listed octets)) ≡ false
gives_none true octets = refl
gives_none false octets = refl

-- ---- while a file is put

module _ (read : Reading) (state : State) (ask : Ask) (good : IsAsk ask) (own : List Mark) where
  abbrev At : Way → World → Type 0
  At way b = AtFetch state ask read own way b

  abbrev Stood : Stage → Way → World → Type 0
  Stood stage way b = Holds state ask own stage way b

  abbrev carry : Course → (came queue : List ℕ) → Stage
  carry course came queue = Carries (record { course = course; came = came; queue = queue })

  pub stage_known : (w : World) (s : PlacedAt At w) → IsLasting state ask read own s.way s.base s.here → Known w
  unfolding near.wants
  stage_known w s lasts = by_here s.here lasts
    where
      seen : IsSeen s.base w
      seen = seen_placed At w s

      link_at : w.link ≡ s.base.link
      link_at = ap (λ (u : World). u.link) s.is ∙ (beside s.base s.way s.cut).0

      rising_at : w.data_to_server ≡ s.base.data_to_server
      rising_at = ap (λ (u : World). u.data_to_server) s.is ∙ (beside s.base s.way s.cut).1

      falling_at : w.data_to_client ≡ s.base.data_to_client
      falling_at = ap (λ (u : World). u.data_to_client) s.is ∙ (beside s.base s.way s.cut).2

      busy_now : is_busy w.near ≡ false → ⊥
      busy_now free = true≢false (sym (lasting_busy read state ask good.plan own w s lasts) ∙ free)

      link_is : (link : ServerLink Transfer) (closing : Bool) (pending : Pending Names) → s.base.far.session ≡ linked link closing pending s.base.far.session
          → w.far.session.connection ≡ link
      link_is link closing pending is = ap (λ v. v.connection) (seen.session ∙ is)

      -- replies alone are on their way
      replying : (rows : List Reply) → s.way ≡ Answering rows → w.control_to_server ≡ []
      replying rows way = ap (λ (u : World). u.control_to_server) s.is ∙ ap (λ v. (world_at s.base v s.cut).control_to_server) way

      calm : (job : Job) (connection : NearConnection) → s.base.near ≡ busy job connection s.base.near
          → is_calm (near.wants (busy job connection w.near)) ≡ true
          → (link : ServerLink Transfer) (closing : Bool) (pending : Pending Names) → s.base.far.session ≡ linked link closing pending s.base.far.session
          → is_upload link ≡ false → (is_transferring link ≡ true → w.control_to_server ≡ [])
          → (tie : Link) → s.base.link ≡ tie → is_closed_by_near tie ≡ false → s.base.data_to_server ≡ [] → is_giving link ≡ false
          → s.base.data_to_client ≡ [] → Known w
      calm job connection near_is wants link closing pending far_is none lines tie tied unclosed empty ungiven flat =
          let is = link_is link closing pending far_is in
          calm_known w (one_way At w s) (ap (λ v. is_calm (near.wants v)) (near_form s.base w seen job connection near_is) ∙ wants)
          (ap is_upload is ∙ none) (λ e. lines (sym (ap is_transferring is) ∙ e)) (λ free. absurd (busy_now free))
          (ap is_closed_by_near (link_at ∙ tied) ∙ unclosed) (rising_at ∙ empty) (ap is_giving is ∙ ungiven) (falling_at ∙ flat)

      -- where no transfer is under way
      quiet : (job : Job) (connection : NearConnection) → s.base.near ≡ busy job connection s.base.near
          → is_calm (near.wants (busy job connection w.near)) ≡ true
          → (link : ServerLink Transfer) (closing : Bool) (pending : Pending Names) → s.base.far.session ≡ linked link closing pending s.base.far.session
          → is_set_aside link ≡ true → (tie : Link) → s.base.link ≡ tie → is_closed_by_near tie ≡ false → s.base.data_to_server ≡ []
          → s.base.data_to_client ≡ [] → Known w
      quiet job connection near_is wants link closing pending far_is aside tie tied unclosed empty flat =
          calm job connection near_is wants link closing pending far_is (aside_rests link aside).0
          (λ e. absurd (true≢false (sym e ∙ aside_still link aside))) tie tied unclosed empty (aside_rests link aside).2 flat

      -- the client takes octets, over a link that it holds
      falling : (job : Job) → s.base.near ≡ busy job NearData.Open s.base.near → near.wants (busy job NearData.Open w.near) ≡ Want.Receive
          → (link : ServerLink Transfer) (pending : Pending Names) → s.base.far.session ≡ linked link false pending s.base.far.session
          → is_upload link ≡ false → (is_transferring link ≡ true → w.control_to_server ≡ [])
          → (is_giving link ≡ true → Giving w) → (tie : Link) → s.base.link ≡ tie → is_closed_by_near tie ≡ false → is_near_held tie ≡ true
          → (is_open link ≡ false → tie ≡ ClosedByFar) → s.base.data_to_server ≡ [] → Known w
      falling job near_is wants link pending far_is none lines gives tie tied unclosed has shut empty =
          let is = link_is link false pending far_is in
          let wants_now : near.wants w.near ≡ Want.Receive = ap near.wants (near_form s.base w seen job NearData.Open near_is) ∙ wants in
          record {
            dials = λ endpoint e. absurd (true≢false (ap is_receive (sym wants_now ∙ e)));
            says = λ unaborted. one_way At w s;
            lines = λ e. inl (lines (sym (ap is_transferring is) ∙ e));
            idle = λ free. absurd (busy_now free);
            still = λ e. rising_at ∙ empty;
            closed = λ e. absurd (true≢false (sym e ∙ ap is_closed_by_near (link_at ∙ tied) ∙ unclosed));
            takes = λ e h. absurd (true≢false (sym e ∙ ap is_upload is ∙ none));
            left = λ e. ap is_upload is ∙ none;
            sends = λ e. absurd (true≢false (ap is_receive (sym wants_now ∙ e)));
            carries = λ e. gives (sym (ap is_giving is) ∙ e);
            down = λ e h. link_at ∙ tied ∙ shut (sym (ap is_open is) ∙ h);
            falls = λ e. absurd (true≢false (sym (ap is_receive wants_now) ∙ e));
            ended = λ e. absurd (true≢false (sym has ∙ ap is_near_held (sym (link_at ∙ tied)) ∙ e));
          }

      -- an upload is under way, with answers to markers on their way
      lifting : (past : Bool) (path : Names) (keep : Keep) (d : Decoder) → s.base.far.session ≡ linked
          (held past path keep d) false Pendings.Nothing s.base.far.session
          → (rows : List Reply) → s.way ≡ Answering rows → ((endpoint : Endpoint) → near.wants w.near ≡ Want.Connect endpoint → ⊥)
          → (near.wants w.near ≡ Want.Send → Lifting w) → (is_near_held w.link ≡ false → w.link ≡ ClosedByNear) → is_closed_by_far w.link ≡ false
          → is_receive (near.wants w.near) ≡ false → s.base.data_to_client ≡ [] → Known w
      lifting past path keep d far_is rows way undialled sends takes unleft untaken flat =
          let is = link_is (held past path keep d) false Pendings.Nothing far_is in
          let held_now : is_upload w.far.session.connection ≡ true = ap is_upload is ∙ held_takes past path keep d in
          let alone : w.control_to_server ≡ [] = replying rows way in
          record {
            dials = λ endpoint e. absurd (undialled endpoint e);
            says = λ unaborted octet octets e. alone;
            lines = λ e. inl alone;
            idle = λ free. absurd (busy_now free);
            still = λ e. absurd (true≢false (sym held_now ∙ e));
            closed = λ e. held_now;
            takes = λ e h. takes h;
            left = λ e. absurd (true≢false (sym e ∙ unleft));
            sends = sends;
            carries = λ e. absurd (true≢false (sym e ∙ ap is_giving is ∙ held_gives past path keep d));
            down = λ e h. absurd (true≢false (sym (ap is_receive e) ∙ untaken));
            falls = λ e. falling_at ∙ flat;
            ended = λ e. falling_at ∙ flat;
          }

      -- a client that wants this dials nobody, and has none to give
      never : (job : Job) (connection : NearConnection) → s.base.near ≡ busy job connection s.base.near
          → is_calm (near.wants (busy job connection w.near)) ≡ true → is_calm (near.wants w.near) ≡ true
      never job connection near_is wants = ap (λ v. is_calm (near.wants v)) (near_form s.base w seen job connection near_is) ∙ wants

      -- the client dials
      dialling : (port : ℕ) → Stood (Dials port) s.way s.base → Known w
      dialling port h =
          let is : w ≡ world_at s.base (Answering []) no_octets = rest_placed At w s h.way_is in
          let far : w.far.session.connection ≡ FarData.Passive = link_is FarData.Passive false Pendings.Nothing h.session in
          record {
            dials = λ endpoint e. record {
              busy = lasting_busy read state ask good.plan own w s lasts;
              doing = ap (λ (n : Near). is_doing n.job) (near_form s.base w seen _ _ h.near);
              link = link_at ∙ h.link;
              far = far;
              owes = ap (λ (u : World). u.far.owed) is;
              to_client = falling_at ∙ h.to_client;
              same = ap (λ (u : World). same_host u.near.here u.far.context.peer) is
                  ∙ ap (λ host. same_host host s.base.far.context.peer) h.steady.here ∙ own_host s.base.far.context.peer;
            };
            says = λ unaborted. one_way At w s;
            lines = λ e. absurd (true≢false (sym e ∙ ap is_transferring far));
            idle = λ free. absurd (busy_now free);
            still = λ e. rising_at ∙ h.to_server;
            closed = λ e. absurd (true≢false (sym e ∙ ap is_closed_by_near (link_at ∙ h.link)));
            takes = λ e held. absurd (true≢false (sym e ∙ ap is_upload far));
            left = λ e. ap is_upload far;
            sends = λ e. absurd (not_send (sym (ap near.wants (near_form s.base w seen _ _ h.near)) ∙ e));
            carries = λ e. absurd (true≢false (sym e ∙ ap is_giving far));
            down = λ e none. absurd (not_take (sym (ap near.wants (near_form s.base w seen _ _ h.near)) ∙ e));
            falls = λ e. falling_at ∙ h.to_client;
            ended = λ e. falling_at ∙ h.to_client;
          }
        where
          is_send : Wants → Bool
          is_send Want.Send = true
          is_send other = false

          not_take : {endpoint : Endpoint} → Want.Connect endpoint ≡ Want.Receive → ⊥
          not_take e = true≢false (sym (ap is_receive e))

          not_send : {endpoint : Endpoint} → Want.Connect endpoint ≡ Want.Send → ⊥
          not_send e = true≢false (sym (ap is_send e))

      by_course : (course : Course) (came queue : List ℕ) → Stood (carry course came queue) s.way s.base → is_passing (carry course came queue) ≡ false
          → Known w
      by_course (GivesOctets begun octet more) came queue h lasts =
          let is = link_is (FarData.Transferring (giving_of ask.listed (octet ∷ more))) false Pendings.Nothing h.session in
          falling _ h.near refl (FarData.Transferring (giving_of ask.listed (octet ∷ more))) Pendings.Nothing h.session (gives_none ask.listed (octet ∷ more))
          (λ e. replying _ h.way_is) (λ e. record { listed = ask.listed; octet = octet; more = more; far = is }) _ h.link
          refl
          refl (λ e. absurd (true≢false e)) h.to_server
      by_course (Given heard true) came queue h lasts =
          falling _ h.near refl FarData.Free Pendings.Nothing h.session refl (λ e. absurd (true≢false (sym e))) (λ e. absurd (true≢false (sym e))) _ h.link
          refl refl (λ e. refl) h.to_server
      by_course (Given heard false) came queue h lasts = absurd (true≢false lasts)
      by_course (Ended begun true) came queue h lasts =
          quiet _ _ h.near refl _ false Pendings.Nothing h.session refl _ h.link refl h.to_server (h.to_client ∙ h.fine.2)
      by_course (Ended begun false) came queue h lasts =
          quiet _ _ h.near refl _ false Pendings.Nothing h.session refl _ h.link refl h.to_server (h.to_client ∙ h.fine.1.1)
      by_course (Severed begun) came queue h lasts =
          quiet _ _ h.near refl _ false Pendings.Nothing h.session refl _ h.link refl h.to_server (h.to_client ∙ h.fine.1.1)
      by_course (Refusing why Unclosed) came queue h lasts = absurd (true≢false lasts)
      by_course (Refusing why Closed) came queue h lasts =
          falling _ h.near refl FarData.Free Pendings.Nothing h.session refl (λ e. absurd (true≢false (sym e))) (λ e. absurd (true≢false (sym e))) _ h.link
          refl refl (λ e. refl) h.to_server
      by_course (Refusing why (Lost clean)) came queue h lasts =
          quiet _ _ h.near refl _ false Pendings.Nothing h.session refl _ h.link refl h.to_server (h.to_client ∙ h.fine.1.1)
      by_course Unopened came queue h lasts =
          quiet _ _ h.near refl _ false Pendings.Nothing h.session refl _ h.link refl h.to_server (h.to_client ∙ h.fine.1)

      by_lift : (rise : Rise) (lift : Lift) → Stood (Rises rise lift) s.way s.base → lift_passes lift ≡ false → Known w
      by_lift rise Offered h lasts =
          let calm_now = never _ _ h.near refl in
          let link : w.link ≡ Opened = link_at ∙ h.link in
          lifting false _ _ _ h.session _ h.way_is (λ endpoint e. true≢false (sym calm_now ∙ ap is_calm e)) (λ e. absurd (true≢false (sym calm_now
          ∙ ap is_calm e)))
          (λ e. absurd (true≢false (sym (ap is_near_held link) ∙ e))) (ap is_closed_by_far link)
          (calm_takes (near.wants w.near) calm_now) h.to_client
      by_lift rise (Rising past octet more came queue mark notes) h lasts =
          let form = near_form s.base w seen _ _ h.near in
          let link : w.link ≡ Opened = link_at ∙ h.link in
          lifting past _ _ _ h.session _ h.way_is (λ endpoint e. not_connect (sym (ap near.wants form) ∙ e))
          (λ e. record {
            op = ask.op;
            octet = octet;
            more = more;
            mark = mark;
            count = h.ready.2.all;
            near = form;
            link = link;
            far = ap is_upload (link_is _ false Pendings.Nothing h.session) ∙ held_takes past _ _ _;
          })
          (λ e. absurd (true≢false (sym (ap is_near_held link) ∙ e))) (ap is_closed_by_far link)
          (ap (λ n. is_receive (near.wants n)) form) h.to_client
        where
          is_send : Wants → Bool
          is_send Want.Send = true
          is_send other = false

          not_connect : {endpoint : Endpoint} → Want.Send ≡ Want.Connect endpoint → ⊥
          not_connect e = true≢false (ap is_send e)
      by_lift rise (Risen past true came queue mark notes) h lasts =
          let calm_now = never _ _ h.near refl in
          let link : w.link ≡ ClosedByNear = link_at ∙ h.link in
          lifting past _ _ _ h.session _ h.way_is (λ endpoint e. true≢false (sym calm_now ∙ ap is_calm e)) (λ e. absurd (true≢false (sym calm_now
          ∙ ap is_calm e)))
          (λ e. link) (ap is_closed_by_far link) (calm_takes (near.wants w.near) calm_now) h.to_client
      by_lift rise (Risen past false came queue mark notes) h lasts = absurd (true≢false lasts)
      by_lift rise (Settled begun mark notes fate left after) h lasts = quiet _ _ h.near refl _ false Pendings.Nothing h.session refl _ h.link refl
          h.to_server h.to_client
      by_lift rise (Declined why Shut) h lasts = quiet _ _ h.near refl _ false Pendings.Nothing h.session refl _ h.link refl h.to_server h.to_client
      by_lift rise (Declined why (Vanished broken)) h lasts = quiet _ _ h.near refl _ false Pendings.Nothing h.session refl _ h.link refl h.to_server
          h.to_client
      by_lift rise (Declined why Closing) h lasts = absurd (true≢false lasts)
      by_lift rise Unjoined h lasts = quiet _ _ h.near refl _ false Pendings.Nothing h.session refl _ h.link refl h.to_server h.to_client

      -- REST is asked for or answered over a link that the client dialled
      readied : {pending : Pending Names} → s.base.near ≡ busy (Doing ask.op Steps.Restart) NearData.Open s.base.near
          → s.base.far.session ≡ linked FarData.Ready false pending s.base.far.session → s.base.link ≡ Opened → s.base.data_to_server ≡ []
          → s.base.data_to_client ≡ [] → Known w
      readied near_is far_is tied empty flat =
          calm _ _ near_is refl FarData.Ready false _ far_is refl (λ e. absurd (true≢false (sym e))) _ tied refl empty refl flat

      -- before the 150 octets are taken, or nothing is done
      retrieves : Stood (Retrieves (Dialled true)) s.way s.base → Known w
      retrieves h = of ask.sends refl
        where
          job_by : Direction → Job
          job_by d = Transferring ask.op (record { replied = Replies.Nothing; abort = Aborts.Unsent; flow = carrying d ask.settings })

          of : (d : Direction) → ask.sends ≡ d → Known w
          of Down is =
              falling (job_by Down) (h.near ∙ ap (λ d. busy (job_by d) NearData.Open s.base.near) is) refl FarData.Ready _ h.session refl
              (λ e. absurd (true≢false (sym e))) (λ e. absurd (true≢false (sym e))) _ h.link refl refl (λ e. absurd (true≢false e)) h.to_server
          of (Up rise) is =
              calm (job_by (Up rise)) NearData.Open (h.near ∙ ap (λ d. busy (job_by d) NearData.Open s.base.near) is) refl FarData.Ready false _ h.session refl
              (λ e. absurd (true≢false (sym e))) _ h.link refl h.to_server refl h.to_client

      by_here : (here : At s.way s.base) → IsLasting state ask read own s.way s.base here → Known w
      by_here (inl l) lasts =
          let still = (leads_still read state ask good.plan own s.base w s.way seen l).0 in
          let rests = aside_rests w.far.session.connection still.far.aside in
          calm_known w (one_way At w s) (ap is_calm (near_wants w.near still.near)) rests.0
          (λ e. absurd (true≢false (sym e ∙ aside_still w.far.session.connection still.far.aside)))
          (λ free. absurd (busy_now free)) (ap is_closed_by_near (link_at ∙ l.link)) (rising_at ∙ l.to_server) rests.2 (falling_at ∙ l.to_client)
      by_here (inr (PortAsked closing, h)) lasts = absurd (true≢false lasts)
      by_here (inr (PortTold port, h)) lasts = quiet _ _ h.near refl _ false Pendings.Nothing h.session refl _ h.link refl h.to_server h.to_client
      by_here (inr (Dials port, h)) lasts = dialling port h
      by_here (inr (PortWanted connection pending, h)) lasts = absurd (true≢false lasts)
      by_here (inr (PortSaid port connection pending, h)) lasts = quiet _ _ h.near refl connection false pending h.session h.fine.0 _ h.link refl h.to_server
          h.to_client
      by_here (inr (PortTaken port true, h)) lasts = absurd (true≢false lasts)
      by_here (inr (PortTaken port false, h)) lasts = quiet _ _ h.near refl _ false Pendings.Nothing h.session refl _ h.link refl h.to_server h.to_client
      by_here (inr (PortDenied port connection, h)) lasts =
          quiet _ _ h.near refl connection false Pendings.Nothing h.session h.fine.0 _ h.link refl h.to_server h.to_client
      by_here (inr (Restarts at (Denied why) (Dialled true), h)) lasts = readied h.near h.session h.link h.to_server h.to_client
      by_here (inr (Restarts at Sent (Dialled true), h)) lasts = readied h.near h.session h.link h.to_server h.to_client
      by_here (inr (Restarts at Granted (Dialled true), h)) lasts = readied h.near h.session h.link h.to_server h.to_client
      by_here (inr (Restarts at (Denied why) (Dialled false), h)) lasts = quiet _ _ h.near refl _ false _ h.session refl _ h.link refl h.to_server h.to_client
      by_here (inr (Restarts at (Denied why) (Ported port), h)) lasts = quiet _ _ h.near refl _ false _ h.session refl _ h.link refl h.to_server h.to_client
      by_here (inr (Restarts at Sent (Dialled false), h)) lasts = quiet _ _ h.near refl _ false _ h.session refl _ h.link refl h.to_server h.to_client
      by_here (inr (Restarts at Granted (Dialled false), h)) lasts = quiet _ _ h.near refl _ false _ h.session refl _ h.link refl h.to_server h.to_client
      by_here (inr (Restarts at Sent (Ported port), h)) lasts = quiet _ _ h.near refl _ false _ h.session refl _ h.link refl h.to_server h.to_client
      by_here (inr (Restarts at Granted (Ported port), h)) lasts = quiet _ _ h.near refl _ false _ h.session refl _ h.link refl h.to_server h.to_client
      by_here (inr (Retrieves (Dialled true), h)) lasts = retrieves h
      by_here (inr (Retrieves (Dialled false), h)) lasts = quiet _ _ h.near refl _ false _ h.session refl _ h.link refl h.to_server h.to_client
      by_here (inr (Retrieves (Ported port), h)) lasts = quiet _ _ h.near refl _ false _ h.session refl _ h.link refl h.to_server h.to_client
      by_here (inr (Awaits port false, h)) lasts =
          calm _ _ h.near refl _ false Pendings.Nothing h.session refl (λ e. replying _ h.way_is) _ h.link refl h.to_server refl h.to_client
      by_here (inr (Awaits port true, h)) lasts =
          calm _ _ h.near refl _ false Pendings.Nothing h.session refl (λ e. replying _ h.way_is) _ h.link refl h.to_server refl h.to_client
      by_here (inr (Unaccepted port, h)) lasts = quiet _ _ h.near refl _ false Pendings.Nothing h.session refl _ h.link refl h.to_server h.to_client
      by_here (inr (Dismissed port why, h)) lasts = quiet _ _ h.near refl _ false Pendings.Nothing h.session refl _ h.link refl h.to_server h.to_client
      by_here (inr (Carries c, h)) lasts = by_course c.course c.came c.queue h lasts
      by_here (inr (Rises rise lift, h)) lasts = by_lift rise lift h lasts
      by_here (inr (Tells rise said after, h)) lasts = absurd (true≢false lasts)
      by_here (inr (Answers said leaves, h)) lasts = absurd (true≢false lasts)
