-- What a server of an upload does after it was told of the break, while the link is open to its client. It says what it owed before, and so does a world's, and
-- then the reply to the break, of which a world's has said nothing.
use Rattle.std.proofs.Common.{◌≡◌, ◌⊎◌, inl, inr, ℕ, false, true≢false, List, [], ◌∷◌, ◌++◌, refl, sym, ap, ap₂, ◌∙◌, append_assoc, append-nil}
use Rattle.ftp_ports.specs.Asking.{Came, Ended as EndedBy, Reset, Shut}
use Rattle.ftp_ports.specs.Actions.{Action, Done, Heard, Other, Read, Said as Says, Stand}
use Rattle.ftp_ports.specs.Channel.{Channel}
use Rattle.ftp_ports.specs.Machine.{Aside, Break, Closed, End, Failed, Gave, Got, Left, LetGo, Listening, Opened, Received, Waited, Wrote, awaits}
use Rattle.ftp_client_driver.specs.Side.{client_side}
use Rattle.ftp_ends.specs.Reply.{reply_octets}
use Rattle.ftp_ends.specs.declared.link.Wants.{Wants}
use Rattle.ftp_ends.specs.declared.link.Wants.TheVariants as Want
use Rattle.ftp_server_driver.specs.alone.Side.{server_side}
use Rattle.ftp_server_model.specs.Calls as far
use Rattle.ftp_server_model.specs.Calls.{clock_step}
use Rattle.ftp_server_model.specs.Machine.{IsReading, Reading}
use Rattle.ftp_server_model.specs.Replies.{fixed_reply}
use Rattle.ftp_server_model.specs.View.{View as Far}
use Rattle.laws_world.specs.Claims.{Beginning, IsFair}
use Rattle.laws_world.specs.World.{World}
use Rattle.laws_agreement.proofs.Chunks.{both_empty, cuts}
use Rattle.laws_drivers.proofs.world.Served.{far_wants}
use Rattle.laws_drivers.specs.control.Alone.{ServerIsCalm}
use Rattle.laws_drivers.specs.control.Between.{Between, CanTurn, Far as TheServer, Has, Has_lost, Server as ByServer, with_hold}
use Rattle.laws_drivers.specs.events.Actions.{ArePorts, listened_in}
use Rattle.laws_drivers.proofs.events.Holding.{is_had}
use Rattle.laws_drivers.specs.events.Moments.{AreMoments, begun_at}
use Rattle.laws_transfers.proofs.Beside.{is_taking}
use Rattle.laws_transfers.proofs.Known.{AreCarried}
use Rattle.laws_transfers.proofs.Lost.{with_lost}
use Rattle.laws_breaks.specs.downloads.Actions.{IsYielding}
use Rattle.laws_breaks.proofs.downloads.BothTold.{resplit}
use Rattle.laws_breaks.proofs.downloads.Drained.{dried, dry}
use Rattle.laws_breaks.proofs.downloads.Failing.{closes}
use Rattle.laws_breaks.proofs.downloads.Lagging.{OfMarks}
use Rattle.laws_breaks.proofs.downloads.Preceding.{behind, unaware}
use Rattle.laws_breaks.proofs.downloads.Seen.{Sees}
use Rattle.laws_breaks.proofs.downloads.Steps.{Again, server_step}
use Rattle.laws_breaks.proofs.downloads.Unsent.{AskAll, all_carried}
use Rattle.laws_breaks.proofs.uploads.Outliving.{Outlives, Taker, far_nothing, far_says, hears_none, idles, is_nothing, leaves, lets_go, reads_none, says_last, shut_now, wants_not}
use Rattle.laws_breaks.proofs.uploads.Standing.{says_first, standing}

-- where none is lost
none_lost : (octets : List ℕ) (m : Between) → octets ≡ [] → with_lost octets m ≡ m
none_lost octets m none =
    ap (λ o. with_lost o m) none ∙ ap (λ t. record m { data_ways = record m.data_ways { to_client = t } }) (append-nil m.data_ways.to_client)

module _ (read : Reading) (reads : IsReading read) (moments : ℕ → ℕ) (timed : AreMoments moments) (b : Beginning) (fair : IsFair b) {Are : OfMarks}
    (actions : List (Action client_side)) (puts : AskAll (begun_at moments actions)) (before : List (Action server_side)) (ports : ArePorts before)
    (p q : Between) (old new : Stand server_side) (client : Stand client_side)
    (l : Outlives read reads moments timed b fair Are actions p (listened_in before) old client) where
  abbrev count : ℕ
  count = listened_in before

  abbrev t : Taker read reads moments timed b fair actions p old
  t = l.taker

  abbrev w : World
  w = l.at.world

  abbrev f : Far
  f = old.owner.end.server.view

  -- what it says as it is told of the break
  abbrev reply : List ℕ
  reply = reply_octets (fixed_reply t.ends.text)

  abbrev Stays : Type 0
  Stays = Outlives read reads moments timed b fair Are actions q count new client

  -- it says these of what it owed before, and these of its reply
  module _ (front rest said left : List ℕ) (owed : t.were.owed ≡ front ++ rest) (whole : rest ++ reply ≡ said ++ left) (owes : (rest ≡ []) ⊎ (said ≡ []))
      (unsaid : t.said ≡ []) (view : new.owner.end.server.view ≡ record f { owed = left }) (unheard : new.unheard ≡ old.unheard)
      (channel : new.owner.channel ≡ old.owner.channel) (hold : q.far ≡ p.far) (same : behind q ≡ behind p)
      (ways : q.control.to_client ≡ p.control.to_client ++ (front ++ said)) where
    -- a world's server says the first ones, too
    abbrev then_far : Far
    then_far = record t.were { owed = rest }

    -- and they are on their way to its client
    abbrev then_near : Stand client_side
    then_near = unaware l.refusals l.near (l.queue ++ front) client.owner.channel

    abbrev says : Between
    says = record (behind p) { control = record (behind p).control { to_client = [] ++ front } }

    -- so it is beside both
    then_said : Again read reads moments timed b fair actions (behind q) count (standing then_far t.channel t.unheard) then_near w.marks
    then_said =
        let carried : AreCarried (begun_at moments actions) = all_carried (begun_at moments actions) puts in
        let virtual : Stand client_side = unaware l.refusals l.near l.queue client.owner.channel in
        let s = server_step read reads moments timed b fair (Says front) (standing t.were t.channel t.unheard) (standing then_far t.channel t.unheard) tt refl actions
        carried before ports (behind p) says refl virtual l.at (says_first front rest t.were t.channel t.unheard owed t.none_waits) tt in
        let got = resplit read reads moments timed b fair actions carried says (behind q) count (standing then_far t.channel t.unheard) virtual then_near s.0 refl
        (ap (λ (m : Between). m.control.to_server) same) (sym (append-nil (l.queue ++ front))) (ap (λ (m : Between). m.data_ways) same) refl
        (ap (λ (m : Between). m.near) same) in
        (got.0, got.1 ∙ s.1)

    -- the client has heard none of them
    unspoken : l.heard ≡ []
    unspoken = elim l.late [
      | inl none ↦ none
      | inr empty ↦
          (both_empty l.heard (client.unheard ++ p.control.to_client) (sym l.split ∙ ap₂ (λ q s. q ++ s) empty unsaid)).0
    ]

    -- it takes octets still
    takes : far.wants then_far ≡ Want.Receive
    takes = far_wants then_far t.running t.unshut ∙ sym (far_wants t.were t.running t.unshut) ∙ t.takes

    -- what is to be heard then
    split : (l.queue ++ front) ++ said ≡ l.heard ++ (client.unheard ++ q.control.to_client)
    split =
        append_assoc l.queue front said ∙ ap (λ o. o ++ (front ++ said)) (sym (append-nil l.queue) ∙ ap (λ o. l.queue ++ o) (sym unsaid) ∙ l.split)
        ∙ append_assoc l.heard (client.unheard ++ p.control.to_client) (front ++ said)
        ∙ ap (λ o. l.heard ++ o) (append_assoc client.unheard p.control.to_client (front ++ said) ∙ ap (λ o. client.unheard ++ o) (sym ways))

    -- so it goes on
    spoken : Stays
    spoken = record {
      taker = record {
        were = then_far;
        channel = t.channel;
        unheard = t.unheard;
        takes = takes;
        due = t.due;
        moment = t.moment;
        at_moment = t.at_moment;
        were_untold = t.were_untold;
        running = t.running;
        none_waits = t.none_waits;
        unshut = t.unshut;
        ends = record {
          session = t.ends.session;
          text = t.ends.text;
          is = t.ends.is;
          free = t.ends.free;
          life = t.ends.life;
          unshut = t.ends.unshut;
          refuses = t.ends.refuses;
        };
        said = said;
        left = left;
        far_is = view ∙ ap (λ (y : Far). record y { owed = left }) t.far_is;
        whole = whole;
        owes = owes;
        unread = unheard ∙ t.unread;
        untold = ap (λ (x : Channel). x.untold) channel ∙ t.untold;
        none = ap (λ (x : Channel). (dry x).unwritten) channel ∙ t.none;
        shut = ap is_taking channel ∙ t.shut;
        hold = hold ∙ t.hold;
      };
      refusals = l.refusals;
      near = l.near;
      queue = l.queue ++ front;
      at = then_said.0;
      linked = l.linked;
      unsent = l.unsent;
      marks = l.marks;
      are_marks = l.are_marks;
      asked = l.asked;
      transfer = l.transfer;
      last = l.last;
      are_broken = l.are_broken;
      marked = then_said.1 ∙ l.marked;
      stands = l.stands;
      calm = l.calm;
      heard = l.heard;
      view = l.view;
      split = split;
      late = inl unspoken;
    }

  -- so it says octets
  says_on : (octets : List ℕ) → ServerIsCalm old.owner new.owner → CanTurn (ByServer (Says octets)) p q → Done (Says octets) old new → Stays
  says_on octets calm can did = elim t.owes [
    | inl none ↦ says_last read reads moments timed b fair actions puts p count old client l q new octets calm can did none
    | inr unsaid ↦
        let there = far_says read reads moments timed b fair actions puts p count old client l octets new calm did in
        let all : t.were.owed ++ reply ≡ octets ++ there.0 = t.whole ∙ ap (λ o. o ++ t.left) unsaid ∙ there.2 in
        elim (cuts t.were.owed reply octets there.0 all) [
          | inl r ↦
              spoken octets r.more [] there.0 r.over r.left (inr refl) unsaid there.1 did.unheard did.gives.channel (ap (λ (m : Between). m.far) can)
              (ap behind can) (ap (λ (m : Between). m.control.to_client) can ∙ ap (λ o. p.control.to_client ++ o) (sym (append-nil octets)))
          | inr r ↦
              spoken t.were.owed [] (r.octet ∷ r.more) there.0 (sym (append-nil t.were.owed)) r.left (inl refl) unsaid there.1 did.unheard did.gives.channel
              (ap (λ (m : Between). m.far) can) (ap behind can) (ap (λ (m : Between). m.control.to_client) can ∙ ap (λ o. p.control.to_client ++ o) r.within)
        ]
  ]

  -- it wants nothing
  never : (q : Wants) → is_nothing q ≡ false → far.wants f ≡ q → ⊥
  never = wants_not read reads moments timed b fair actions puts p count old client l

  -- each action of it
  outlive_server : (action : Action server_side) → IsYielding action old.owner → ServerIsCalm old.owner new.owner → CanTurn (ByServer action) p q
      → Done action old new → Stays
  outlive_server (Heard octets) is calm can did = hears_none read reads moments timed b fair actions puts p count old client l q new octets calm can did
  outlive_server (Says octets) is calm can did = says_on octets calm can did
  outlive_server (Read octets) is calm can did = reads_none read reads moments timed b fair actions puts p count old client l q new octets can did
  outlive_server (Other (Aside asked)) is calm can did =
      idles read reads moments timed b fair actions puts p count old client l q new (ap (λ at. at.server.view) did.0.0.0)
      (ap (λ (y : Stand server_side). y.unheard) did.1) did.0.1 can
  outlive_server (Other (Listening port)) is calm can did = absurd (never Want.Listen refl did.0.2.0)
  outlive_server (Other (Opened host (Came from left written ∷ []) at_first so_far rest)) is calm can did = absurd (never Want.Accept refl did.0.2.0)
  outlive_server (Other (Got octets)) is calm can did = absurd (never Want.Receive refl did.0.2)
  outlive_server (Other (Received octets some)) is calm can did = absurd (never Want.Receive refl did.0.2.1)
  outlive_server (Other End) is calm can did = absurd (never Want.Receive refl did.0.2)
  outlive_server (Other (Gave some octets rest)) is calm can did = absurd (never Want.Send refl did.0.2)
  outlive_server (Other (Wrote octets)) is calm can did = absurd (shut_now read reads moments timed b fair actions puts p count old client l did.0.1.is_open)
  outlive_server (Other (Waited lost)) is calm can did =
      absurd (true≢false (sym did.0.2 ∙ ap awaits (far_nothing read reads moments timed b fair actions puts p count old client l)))
  outlive_server (Other (LetGo octets)) is calm can did = lets_go read reads moments timed b fair actions puts p count old client l q new octets can did
  outlive_server (Other (Left (EndedBy left written))) is calm can did = absurd (true≢false (ap is_had (sym can.0 ∙ t.hold)))
  outlive_server (Other (Left (Reset left written))) is calm can did =
      leaves read reads moments timed b fair actions puts p count old client l q new (Reset left written) (ap (λ (m : Between). m.far) can.1)
      (ap behind can.1) (ap (λ (m : Between). m.control.to_client) can.1) did
  outlive_server (Other (Left Shut)) is calm can did =
      leaves read reads moments timed b fair actions puts p count old client l q new Shut (ap (λ (m : Between). m.far) can ∙ t.hold)
      (ap behind can) (ap (λ (m : Between). m.control.to_client) can) did
  outlive_server (Other Closed) is calm can did = absurd (never Want.CloseData refl did.0.2)
  outlive_server (Other Failed) is calm can did = absurd (shut_now read reads moments timed b fair actions puts p count old client l did.0.1.1)
  outlive_server (Other Break) is calm can did = absurd (elim is [
    | inl sends ↦ never Want.Send refl sends
    | inr closing ↦ never Want.CloseData refl (closes f closing)
  ])
  outlive_server action is calm can did = absurd is

  -- as a world sees it
  pub outlive_turn : (action : Action server_side) → IsYielding action old.owner → ServerIsCalm old.owner new.owner → Sees action (dried old) p q → Done action old new
      → Outlives read reads moments timed b fair Are actions q (listened_in (action ∷ before)) new client
  outlive_turn (Other (Listening port)) is calm can did = absurd (never Want.Listen refl did.0.2.0)
  outlive_turn (Other Break) is calm can did = absurd (elim can [
    | inl sends ↦ lost_not sends.1.0
    | inr closing ↦ lost_not closing.1
  ])
    where
      lost_not : p.far ≡ Has → ⊥
      lost_not has = true≢false (ap is_had (sym has ∙ t.hold))
  outlive_turn (Other (Left (Reset left written))) is calm can did =
      outlive_server (Other (Left (Reset left written))) is calm
      (can.0, can.1 ∙ none_lost (dried old).owner.channel.unwritten (with_hold TheServer Has_lost p) t.none) did
  outlive_turn action is calm can did = outlive_server action is calm can did
