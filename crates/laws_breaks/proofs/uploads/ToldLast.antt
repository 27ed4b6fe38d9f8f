-- Each action of a client of an upload whose server was told of the break: it gives octets that nobody reads, or is told of the break itself.
use Rattle.std.proofs.Common.{◌≡◌, ◌⊎◌, inl, inr, ℕ, ◌<◌, Bool, true, false, true≢false, List, [], ◌∷◌, ◌++◌, length, take, Option, Some, None, refl, sym, ap, ap₂, subst, ◌∙◌}
use Rattle.std.specs.Prelude.{if◌then◌else◌}
use Rattle.ftp_ports.specs.Asking.{Asked, Connected, Ended as EndedBy, NotConnected, Reset, Shut}
use Rattle.ftp_ports.specs.Actions.{Calls, Action, Done, Heard, Other, Read, Said as Says, Stand, with_owner}
use Rattle.ftp_ports.specs.Channel.{Channel}
use Rattle.ftp_ports.specs.Machine.{Aside, Break, Closed, End, Failed, Gave, Got, Left, LetGo, Opened, Received, Refused, Waited, Wrote, awaits, rest_by}
use Rattle.ftp_ports.specs.declared.whole.Fate.TheVariants as Fates
use Rattle.ftp_ports.specs.declared.whole.Rest.{Rest}
use Rattle.ftp_client_driver.specs.Side.{Reporting, Starting, client_side}
use Rattle.ftp_client_model.specs.Calls as near
use Rattle.ftp_client_model.specs.Calls.{data_closed, data_fault, gives_data, hears, is_sound, may_hear, report_of, to_give}
use Rattle.ftp_client_model.specs.Dialogue.{has_begun}
use Rattle.ftp_client_model.specs.InFlight.{IsAtRest}
use Rattle.ftp_client_model.specs.View.{Transfer, View as Near}
use Rattle.ftp_client_model.specs.declared.client.ClientLink.TheVariants as NearData
use Rattle.ftp_client_model.specs.declared.client.Ending.TheVariants as Endings
use Rattle.ftp_client_model.specs.declared.client.Replied.TheVariants as Replies
use Rattle.ftp_ends.specs.Octets.{has_octets}
use Rattle.ftp_ends.specs.declared.link.Wants.TheVariants as Want
use Rattle.ftp_operation.specs.Answer.{Said}
use Rattle.ftp_operation.specs.declared.op.Op.{Op}
use Rattle.ftp_server_driver.specs.alone.Side.{server_side}
use Rattle.ftp_server_model.specs.Machine.{IsReading, Reading}
use Rattle.laws_world.specs.Claims.{Beginning, IsFair}
use Rattle.laws_world.specs.Events.{broken_by, is_gone, lends_none}
use Rattle.laws_world.specs.World.{Broken, Mark, World, marked_last}
use Rattle.laws_dialogues.specs.Fetches.{busy}
use Rattle.laws_agreement.specs.Rising.{replied_by, sending}
use Rattle.laws_drivers.proofs.world.Served.{rests}
use Rattle.laws_drivers.specs.control.Alone.{ClientIsCalm}
use Rattle.laws_drivers.specs.events.Moments.{AreMoments, begun_at, begun_by, number_in}
use Rattle.laws_drivers.specs.control.Between.{Between, Can, CanTurn, Client as ByClient, Near as TheClient}
use Rattle.laws_drivers.specs.control.Touches.{ToldBreak}
use Rattle.laws_drivers.proofs.control.Taken.{taken}
use Rattle.laws_drivers.specs.events.Actions.{ArePorts, listened_in}
use Rattle.laws_drivers.proofs.events.Holding.{both}
use Rattle.laws_drivers.proofs.events.Plain.{IsPlain, IsPlainBy, IsPlainJob, Whatever, hears_plain}
use Rattle.laws_transfers.proofs.Known.{AreCarried}
use Rattle.laws_breaks.specs.downloads.Claims.{ReportAlike}
use Rattle.laws_breaks.specs.downloads.Actions.{IsSuffering, MayMarkBreak}
use Rattle.laws_breaks.proofs.downloads.Lagging.{OfMarks}
use Rattle.laws_breaks.proofs.downloads.Preceding.{behind, unaware}
use Rattle.laws_breaks.proofs.downloads.Steps.{Again, client_step, idle_again}
use Rattle.laws_breaks.proofs.downloads.Unsent.{AskAll, Unsent, all_carried, unsent_kept}
use Rattle.laws_breaks.specs.uploads.Actions.{ClientGives}
use Rattle.laws_breaks.specs.uploads.Late.{uploading}
use Rattle.laws_breaks.proofs.uploads.Giving.{gives_is, gives_rest, uploads_give_late}
use Rattle.laws_breaks.proofs.uploads.GivingOn.{Follows, goes_on, heard_on, heard_part, says_on, stays, wants_alike}
use Rattle.laws_breaks.proofs.uploads.Late.{uploads_break_late}
use Rattle.laws_breaks.proofs.uploads.Leaving.{out_hold}
use Rattle.laws_breaks.proofs.uploads.Offering.{Offers}
use Rattle.laws_breaks.proofs.uploads.Outlasting.{Ups, at_rest, began_sending, busy_now, form, leaves_not, may_now, may_rest, none_less, none_reported, o as offers, of_reply, open_now, over_gives, reports_same, sound_now, under_way, ups, ups_begun, wants_not}
use Rattle.laws_breaks.proofs.uploads.Outliving.{Outlives, Taker, come_now, link_now, near_is}
use Rattle.laws_breaks.proofs.uploads.Rows.{last_may}
use Rattle.laws_breaks.proofs.uploads.Seen.{is_left}
use Rattle.laws_breaks.proofs.uploads.ServerCut.{Remains}
use Rattle.laws_breaks.proofs.uploads.Standing.{standing}
use Rattle.laws_breaks.proofs.uploads.TakerTold.{cut_heard, left_near, ways}

-- a break of the open link of an upload
fault_up : (op : Op (List ℕ)) (begun : Bool) (left : List ℕ) (mark : Option ℕ) (n : Near)
    → data_fault (busy (sending op (replied_by begun) left mark) NearData.Open n)
    ≡ busy (sending op (replied_by begun) left mark) (NearData.Over Endings.Broken) n
unfolding data_fault
fault_up op false left mark n = refl
fault_up op true [] mark n = refl
fault_up op true (octet ∷ more) mark n = refl

-- one whose link broke so rests
fault_rests : (op : Op (List ℕ)) (begun : Bool) (left : List ℕ) (mark : Option ℕ) (n : Near)
    → rests (near.wants (data_closed (busy (sending op (replied_by begun) left mark) (NearData.Over Endings.Broken) n))) ≡ true
unfolding near.wants
fault_rests op begun left mark n = refl

module _ (read : Reading) (reads : IsReading read) (moments : ℕ → ℕ) (timed : AreMoments moments) (b : Beginning) (fair : IsFair b) {Are : OfMarks}
    (actions : List (Action client_side)) (puts : AskAll (begun_at moments actions)) (before : List (Action server_side)) (ports : ArePorts before)
    (p : Between) (server : Stand server_side) (old : Stand client_side)
    (l : Outlives read reads moments timed b fair Are actions p (listened_in before) server old) where
  abbrev count : ℕ
  count = listened_in before

  abbrev t : Taker read reads moments timed b fair actions p server
  t = l.taker

  abbrev w : World
  w = l.at.world

  abbrev n : Near
  n = l.near

  abbrev c : Near
  c = old.owner.end.view

  abbrev were : Stand server_side
  were = standing t.were t.channel t.unheard

  abbrev virtual : Stand client_side
  virtual = unaware l.refusals n l.queue old.owner.channel

  -- all that was begun is carried
  carried : AreCarried (begun_at moments actions)
  carried = all_carried (begun_at moments actions) puts

  abbrev o : Offers w
  o = offers read reads moments timed b fair actions puts p count server old l

  -- it is at its upload, over a link that is open
  near_form : n ≡ busy (sending o.op (replied_by o.begun) o.left o.mark) NearData.Open n
  near_form = form read reads moments timed b fair actions puts p count server old l

  abbrev On : Action client_side → Between → Stand client_side → Type 0
  On action next new = Follows read reads moments timed b fair actions puts before ports p server old l action next new

  -- the drive's wants the same
  same_wants : near.wants c ≡ near.wants n
  same_wants = wants_alike read reads moments timed b fair actions puts before ports p server old l

  -- it leaves nothing
  never : (asked : Asked) (new : Stand client_side) → Calls {side = client_side} (Left asked) old new → ⊥
  never = leaves_not read reads moments timed b fair actions puts p count server old l

  -- one that gives octets heard its 150
  is_up : near.wants c ≡ Want.Send → n ≡ uploading o.op Replies.Begun o.left o.mark n
  is_up sends =
      subst (λ s. n ≡ uploading o.op (replied_by s) o.left o.mark n)
      (began_sending read reads moments timed b fair actions puts p count server old l sends) near_form

  -- one that heard nothing of the reply sends too
  sends_late : near.wants c ≡ Want.Send → near.wants (hears n l.heard) ≡ Want.Send
  sends_late sends = ap near.wants (sym l.view) ∙ sends

  -- it has octets to give
  some_left : near.wants c ≡ Want.Send → has_octets o.left ≡ true
  some_left sends = o.some (began_sending read reads moments timed b fair actions puts p count server old l sends)

  -- ---- it is told of the break, or is to be

  -- its form then
  pub near_lost : data_fault n ≡ busy (sending o.op (replied_by o.begun) o.left o.mark) (NearData.Over Endings.Broken) n
  near_lost = ap data_fault near_form ∙ fault_up o.op o.begun o.left o.mark n

  -- no port of it
  pub lost_plain : (Kept : Op (List ℕ) → Transfer → Type 0) → IsPlainBy Kept n → IsPlainBy Kept (data_fault n)
  lost_plain Kept plain =
      subst (IsPlainBy Kept) (sym near_lost) (record {
        job = subst (λ (v : Near). IsPlainJob Kept v.job) near_form plain.job;
        port = refl;
        run = refl;
      })

  -- it has not failed
  pub lost_sound : is_sound (data_fault n).standing ≡ true
  lost_sound = ap (λ (v : Near). is_sound v.standing) near_lost

  -- it has left the data connection
  abbrev pub left_so : Stand client_side
  left_so = left_near read reads moments timed b fair actions puts before ports p server t l.refusals n l.queue old.owner.channel l.at (data_fault n)

  abbrev pub ways_so : Between
  ways_so = ways read reads moments timed b fair actions puts before ports p server t l.refusals n l.queue old.owner.channel l.at

  -- a world's break tells both
  pub lost_remains : Remains w virtual left_so (behind p) ways_so
  lost_remains =
      let was : w.near ≡ n = near_is read reads moments timed b fair actions puts p count server old l in
      let link = link_now read reads moments timed b fair actions puts p count server old l in
      record {
        view = data_fault w.near;
        told = ap (λ k. broken_by k (lends_none w)) link;
        stands = ap is_gone link;
        holds = ap data_fault was ∙ near_lost ∙ ap (λ v. data_closed (taken v)) (sym near_lost);
        none = ap (λ v. report_of (data_fault v)) was ∙ ap report_of near_lost;
        unclosed = ap (λ v. (data_fault v).closing) was ∙ ap (λ (v : Near). v.closing) near_lost;
        rest = ap (λ v. rests (near.wants (data_closed (data_fault v)))) was ∙ ap (λ v. rests (near.wants (data_closed v))) near_lost
            ∙ fault_rests o.op o.begun o.left o.mark n;
        reports = ap report_of near_lost ∙ sym (ap report_of near_form);
        unheard = refl;
        not_taking = refl;
        takes = record { bare = λ e. refl };
        written = refl;
        control = refl;
        dry = refl;
        lost = refl;
      }

  -- it has no report, and it is lost where the control connection ends, as one that was told
  pub taker_alike : ReportAlike c (data_fault n)
  unfolding near.control_end
  taker_alike =
      let k = ups read reads moments timed b fair actions puts p count server old l in (
        ap report_of k.is ∙ sym (ap report_of near_lost),
        ap (λ v. report_of (near.control_end v)) k.is ∙ sym (ap (λ v. report_of (near.control_end v)) near_lost),
      )

  module _ (next : Between) (new : Stand client_side) (calm : ClientIsCalm old.owner new.owner) (sends : near.wants c ≡ Want.Send)
      (can : Can TheClient ToldBreak p next) (did : Calls {side = client_side} Break old new) where
    -- both orders
    late_break : data_fault (hears n l.heard) ≡ hears (data_fault n) l.heard
    late_break = by o.left (some_left sends) (is_up sends)
      where
        by : (left : List ℕ) → has_octets left ≡ true → n ≡ uploading o.op Replies.Begun left o.mark n
            → data_fault (hears n l.heard) ≡ hears (data_fault n) l.heard
        by [] e is = absurd (true≢false (sym e))
        by (octet ∷ more) e is =
            ap (λ v. data_fault (hears v l.heard)) is
            ∙ uploads_break_late o.op o.all Replies.Begun octet more o.mark n l.heard
            (ap (λ v. near.wants (hears v l.heard)) (sym is) ∙ sends_late sends)
            ∙ ap (λ v. hears (data_fault v) l.heard) (sym is)

    -- it hears what the drive's heard
    may_lost : (k : ℕ) → k < length l.heard → may_hear (hears (data_fault n) (take k l.heard)) ≡ true
    may_lost = elim (heard_part read reads moments timed b fair actions puts before ports p server old l) [
      | inl none ↦ none_less (data_fault n) l.heard none
      | inr last ↦
          let rests = at_rest read reads moments timed b fair actions puts p count server old l last.0 last.1 in
          last_may t.were.session t.ends.text (data_fault n)
          (record {
            ear = ap (λ (v : Near). v.ear) near_lost ∙ rests.ear;
            gathered = ap (λ (v : Near). v.gathered) near_lost ∙ rests.gathered;
          })
          (ap may_hear near_lost ∙ ap may_hear (sym near_form) ∙ may_rest read reads moments timed b fair actions puts p count server old l last.0 last.1)
          l.heard ((old.unheard ++ p.control.to_client) ++ t.left)
          (of_reply read reads moments timed b fair actions puts p count server old l last.0 last.1 l.heard (old.unheard ++ p.control.to_client) l.split)
    ]

    -- so a world is beside one that has left its data connection
    told_on : On (Other Break) next new
    told_on =
        let view : new.owner.end.view ≡ hears (data_fault n) l.heard = did.0.0.0.0 calm ∙ ap data_fault l.view ∙ late_break in
        let split : l.queue ++ t.said ≡ l.heard ++ (new.unheard ++ next.control.to_client) =
        l.split ∙ ap (λ o. l.heard ++ o) (ap₂ (λ (y : Stand client_side) (m : Between). y.unheard ++ m.control.to_client) (sym did.1) (sym can.1)) in
        let cut = cut_heard read reads moments timed b fair actions puts before ports p server t l.refusals n l.queue old.owner.channel l.at (data_fault n)
        lost_remains lost_sound (lost_plain Whatever l.at.plain) next new l.heard (calm ∙ l.calm) view
        (over_gives (data_fault n) Endings.Broken (ap (λ (v : Near). v.connection) near_lost)) may_lost split
        (ap (λ (m : Between). m.control.to_server) can.1) (ap (λ (m : Between). m.data_ways.to_client) can.1)
        (ap (λ (m : Between). out_hold m.near) can.1 ∙ sym (ap out_hold can.0)) (ap (λ (m : Between). m.far) can.1 ∙ t.hold) in
        let idle = idle_again read reads moments timed b fair (Other Break) actions cut.0 refl refl in
        inr (record {
          whole = record {
            at = idle.0;
            marks = marked_last (Broken w.came) l.marks;
            are_marks = (
              marked_last (Broken w.came) l.marks,
              l.are_broken w.came (come_now read reads moments timed b fair actions puts p count server old l),
              inl refl,
            );
            marked = idle.1 ∙ cut.1 ∙ ap (marked_last (Broken w.came)) l.marked;
            unsent = subst (IsPlainBy Unsent) (sym view) (hears_plain Unsent unsent_kept l.heard (data_fault n) (lost_plain Unsent l.unsent));
          };
          stands = ap (λ (x : Channel). x.stands) did.0.1 ∙ l.stands;
          far = ap (λ (m : Between). is_left m.far) can.1 ∙ ap is_left t.hold;
        })

  -- ---- it gives octets

  module _ (some : ℕ) (octets : List ℕ) (rest : Rest) (next : Between) (new : Stand client_side) (calm : ClientIsCalm old.owner new.owner)
      (can : next ≡ p) (did : Calls {side = client_side} (Gave some octets rest) old new) where
    sends : near.wants c ≡ Want.Send
    sends = did.0.2

    -- what one holds that heard nothing of the reply
    abbrev then_view : Near
    then_view = gives_data some n

    abbrev then_stand : Stand client_side
    then_stand = unaware l.refusals then_view l.queue new.owner.channel

    -- with these to give
    module _ (octet : ℕ) (more : List ℕ) (left_is : o.left ≡ octet ∷ more) where
      up_is : n ≡ uploading o.op Replies.Begun (octet ∷ more) o.mark n
      up_is = subst (λ left. n ≡ uploading o.op Replies.Begun left o.mark n) left_is (is_up sends)

      abbrev k : Ups read reads moments timed b fair actions puts p count server old l c
      k = ups read reads moments timed b fair actions puts p count server old l

      -- the drive's has replies
      begun : has_begun k.replied ≡ true
      begun = ups_begun read reads moments timed b fair actions puts p count server old l sends

      -- and the same octets to give
      drives : c ≡ uploading o.op k.replied (octet ∷ more) o.mark k.last
      drives = subst (λ left. c ≡ uploading o.op k.replied left o.mark k.last) left_is k.is

      -- one that heard nothing of the reply gives the same
      same_given : to_give c ≡ to_give n
      same_given = ap to_give drives ∙ ap (λ s. if s then octet ∷ more else []) begun ∙ sym (ap to_give up_is)

      -- and has more to give, or not, as the drive's
      same_rest : rest ≡ rest_by (near.wants then_view)
      same_rest =
          did.0.0.2 ∙ ap (λ v. rest_by (near.wants v)) (did.0.0.1.0.0 calm ∙ ap (gives_data some) drives)
          ∙ gives_rest o.op o.all some octet more o.mark k.last k.replied begun
          ∙ sym (ap (λ v. rest_by (near.wants (gives_data some v))) up_is ∙ gives_rest o.op o.all some octet more o.mark n Replies.Begun refl)

      -- so this is done
      done : Done (Other (Gave some octets rest)) virtual then_stand
      done = (
        (
          (did.0.0.0 ∙ ap (take some) same_given, ((λ same. refl, λ differ. absurd (differ refl)), inl refl), same_rest),
          did.0.1,
          sym same_wants ∙ sends,
        ),
        refl,
      )

      -- both orders
      late_gives : gives_data some (hears n l.heard) ≡ hears then_view l.heard
      late_gives =
          ap (λ v. gives_data some (hears v l.heard)) up_is
          ∙ uploads_give_late o.op o.all octet more o.mark n l.heard some (ap (λ v. near.wants (hears v l.heard)) (sym up_is) ∙ sends_late sends)
          ∙ ap (λ v. hears (gives_data some v) l.heard) (sym up_is)

      -- it sent no ABOR
      then_unsent : IsPlainBy Unsent then_view
      then_unsent =
          let plain : IsPlain o.op = (subst (λ (v : Near). IsPlainJob Unsent v.job) up_is l.unsent.job).0 in
          subst (λ v. IsPlainBy Unsent (gives_data some v)) (sym up_is)
          (gives_is o.op o.all some octet more o.mark n (λ v. IsPlainBy Unsent v) (record { job = (plain, λ all. refl); port = refl; run = refl })
          (λ first left. record { job = (plain, λ all. refl); port = refl; run = refl }))

      -- it is between two replies, where it was
      then_rests : IsAtRest n → may_hear n ≡ true → IsAtRest then_view × (may_hear then_view ≡ true)
      then_rests rests may =
          let may_up : may_hear (uploading o.op Replies.Begun (octet ∷ more) o.mark n) ≡ true = ap may_hear (sym up_is) ∙ may in
          subst (λ v. IsAtRest (gives_data some v) × (may_hear (gives_data some v) ≡ true)) (sym up_is)
          (gives_is o.op o.all some octet more o.mark n (λ v. IsAtRest v × (may_hear v ≡ true))
          (record { ear = rests.ear; gathered = rests.gathered }, may_up) (λ first left. (record { ear = rests.ear; gathered = rests.gathered }, may_up)))

      -- it may hear what the drive's heard
      then_may : (count : ℕ) → count < length l.heard → may_hear (hears then_view (take count l.heard)) ≡ true
      then_may = elim (heard_part read reads moments timed b fair actions puts before ports p server old l) [
        | inl none ↦ none_less then_view l.heard none
        | inr last ↦
            let rests = then_rests (at_rest read reads moments timed b fair actions puts p count server old l last.0 last.1)
            (may_rest read reads moments timed b fair actions puts p count server old l last.0 last.1) in
            last_may t.were.session t.ends.text then_view rests.0 rests.1 l.heard ((old.unheard ++ p.control.to_client) ++ t.left)
            (of_reply read reads moments timed b fair actions puts p count server old l last.0 last.1 l.heard (old.unheard ++ p.control.to_client) l.split)
      ]

      -- so it goes on
      gave_some : On (Other (Gave some octets rest)) next new
      gave_some =
          goes_on read reads moments timed b fair actions puts before ports p server old l (Other (Gave some octets rest))
          refl next new calm
          (ap (λ (m : Between). m.far) can) (λ marks. refl) refl (ap (λ (x : Channel). x.stands) did.0.1.0) then_view l.queue l.heard
          (client_step read reads moments timed b fair (Other (Gave some octets rest)) tt virtual then_stand (tt, refl) actions carried (behind p) (behind next)
          (ap behind can) count were l.at done)
          then_unsent (did.0.0.1.0.0 calm ∙ ap (gives_data some) l.view ∙ late_gives) then_may
          (l.split ∙ ap (λ o. l.heard ++ o) (ap₂ (λ (y : Stand client_side) (m : Between). y.unheard ++ m.control.to_client) (sym did.1) (sym can))) l.late

    -- whatever it has to give
    gave_on : On (Other (Gave some octets rest)) next new
    gave_on = by o.left (some_left sends) refl
      where
        by : (left : List ℕ) → has_octets left ≡ true → o.left ≡ left → On (Other (Gave some octets rest)) next new
        by [] e left_is = absurd (true≢false (sym e))
        by (octet ∷ more) e left_is = gave_some octet more left_is

  -- ---- where one that heard nothing of the reply does the same, and holds the same

  module _ (action : Action client_side) (next : Between) (new : Stand client_side) (calm : ClientIsCalm old.owner new.owner)
      (begins : begun_by (moments (number_in actions)) action ≡ []) (unmarked : (marks : List (List Mark)) → MayMarkBreak action old.owner marks marks)
      (number : number_in (action ∷ actions) ≡ number_in actions) (hold : next.far ≡ p.far) (view : new.owner.end.view ≡ c)
      (stands : new.owner.channel.stands ≡ old.owner.channel.stands) (other : new ≡ with_owner new.owner old)
      (ways : next.control.to_client ≡ p.control.to_client) where
    same_on : Again read reads moments timed b fair (action ∷ actions) (behind next) count were (unaware l.refusals n l.queue new.owner.channel) w.marks
        → On action next new
    same_on got =
        goes_on read reads moments timed b fair actions puts before ports p server old l action begins next new calm hold unmarked number stands n l.queue l.heard
        got l.unsent (view ∙ l.view) (may_now read reads moments timed b fair actions puts p count server old l)
        (l.split ∙ ap (λ o. l.heard ++ o) (ap₂ (λ (y : Stand client_side) q. y.unheard ++ q) (sym other) (sym ways))) l.late

  abbrev after : Stand client_side → Stand client_side
  after new = unaware l.refusals n l.queue new.owner.channel

  -- ---- each action

  pub outlast : (action : Action client_side) (next : Between) (new : Stand client_side) → ClientGives action old.owner new.owner
      → CanTurn (ByClient action) p next → Done action old new → On action next new
  outlast (Heard octets) next new is can did = heard_on read reads moments timed b fair actions puts before ports p server old l octets next new is.1 can did
  outlast (Says octets) next new is can did = says_on read reads moments timed b fair actions puts before ports p server old l octets next new is.1 can did
  outlast (Read octets) next new is can did =
      stays read reads moments timed b fair actions puts before ports p server old l (Read octets) refl next new is.1
      (ap (λ (m : Between). m.far) can.1) (λ marks. refl) refl (ap (λ o. o.channel.stands) did.owner) (ap (λ o. o.end.view) did.owner)
      (ap (λ o. o.channel) did.owner) (ap behind can.1)
      (ap (λ q. q ++ next.control.to_client) did.unheard ∙ sym (ap₂ (λ q o. q ++ o) did.heard can.0)) refl
  outlast (Other (Aside (Reporting None))) next new is can did =
      stays read reads moments timed b fair actions puts before ports p server old l (Other (Aside (Reporting None)))
      refl next new is.1 (ap (λ (m : Between). m.far) can) (λ marks. refl) refl (ap (λ (x : Channel). x.stands) did.0.1)
      (did.0.0.1.0 ∙ reports_same read reads moments timed b fair actions puts p count server old l) did.0.1 (ap behind can)
      (ap₂ (λ (y : Stand client_side) (m : Between). y.unheard ++ m.control.to_client) did.1 can) refl
  outlast (Other (Aside (Reporting (Some said)))) next new is can did =
      absurd (some_none (did.0.0.0 ∙ none_reported read reads moments timed b fair actions puts p count server old l))
    where
      is_there : Option Said → Bool
      is_there None = false
      is_there (Some said) = true

      some_none : ◌≡◌ {A = Option Said} (Some said) None → ⊥
      some_none e = true≢false (ap is_there e)
  outlast (Other (Aside (Starting op))) next new is can did =
      absurd (both (busy_now read reads moments timed b fair actions puts p count server old l) did.0.0.0)
  outlast (Other (Opened host (Connected endpoint left written ∷ []) at_first so_far rest)) next new is can did =
      absurd (wants_not read reads moments timed b fair actions puts p count server old l (Want.Connect endpoint) refl did.0.2.0)
  outlast (Other (Refused (NotConnected endpoint ∷ []))) next new is can did =
      absurd (wants_not read reads moments timed b fair actions puts p count server old l (Want.Connect endpoint) refl did.0.2.0)
  outlast (Other (Gave some octets rest)) next new is can did = gave_on some octets rest next new is.1 can did
  outlast (Other (Wrote octets)) next new is can did =
      same_on (Other (Wrote octets)) next new is.1 refl (λ marks. refl) refl (ap (λ (m : Between). m.far) can.1)
      (ap (λ o. o.view) did.0.0) did.0.1.stands did.1 (ap (λ (m : Between). m.control.to_client) can.1)
      (client_step read reads moments timed b fair (Other (Wrote octets)) tt virtual (after new) (tt, refl) actions carried (behind p) (behind next)
      (can.0, ap behind can.1) count were l.at ((refl, did.0.1, tt), refl))
  outlast (Other (Got octets)) next new is can did =
      absurd (wants_not read reads moments timed b fair actions puts p count server old l Want.Receive refl did.0.2)
  outlast (Other (Received octets some)) next new is can did =
      absurd (wants_not read reads moments timed b fair actions puts p count server old l Want.Receive refl did.0.2.1)
  outlast (Other End) next new is can did =
      absurd (wants_not read reads moments timed b fair actions puts p count server old l Want.Receive refl did.0.2)
  outlast (Other (Waited lost)) next new is can did =
      same_on (Other (Waited lost)) next new is.1 refl (λ marks. refl) refl (ap (λ (m : Between). m.far) can)
      (ap (λ o. o.view) did.0.0) did.0.1.holds.stands did.1 (ap (λ (m : Between). m.control.to_client) can)
      (client_step read reads moments timed b fair (Other (Waited lost)) tt virtual (after new) (tt, refl) actions carried (behind p) (behind next)
      (ap behind can) count were l.at ((refl, did.0.1, ap awaits (sym same_wants) ∙ did.0.2), refl))
  outlast (Other (LetGo octets)) next new is can did =
      same_on (Other (LetGo octets)) next new is.1 refl (λ marks. refl) refl (ap (λ (m : Between). m.far) can)
      (ap (λ o. o.view) did.0.0.0) (ap (λ (x : Channel). x.stands) did.0.1.1) did.1 (ap (λ (m : Between). m.control.to_client) can)
      (client_step read reads moments timed b fair (Other (LetGo octets)) tt virtual (after new) (tt, refl) actions carried (behind p) (behind next)
      (ap behind can) count were l.at (((refl, λ receives. did.0.0.1 (same_wants ∙ receives)), did.0.1, tt), refl))
  outlast (Other (Left (EndedBy left written))) next new is can did = absurd (never (EndedBy left written) new did)
  outlast (Other (Left (Reset left written))) next new is can did = absurd (never (Reset left written) new did)
  outlast (Other (Left Shut)) next new is can did = absurd (never Shut new did)
  outlast (Other Closed) next new is can did =
      absurd (wants_not read reads moments timed b fair actions puts p count server old l Want.CloseData refl
      (did.0.2 (sound_now read reads moments timed b fair actions puts p count server old l)
      (under_way read reads moments timed b fair actions puts p count server old l)))
  outlast (Other Failed) next new is can did =
      same_on (Other Failed) next new is.1 refl (λ marks. refl) refl (ap (λ (m : Between). m.far) can)
      (ap (λ o. o.view) did.0.0) (ap (λ (x : Channel). x.stands) did.0.1.0) did.1 (ap (λ (m : Between). m.control.to_client) can)
      (client_step read reads moments timed b fair (Other Failed) tt virtual (after new) (tt, refl) actions carried (behind p) (behind next)
      (ap behind can) count were l.at ((refl, did.0.1, tt), refl))
  outlast (Other Break) next new is can did = by is.0
    where
      closing_not : c.closing ≡ true → ⊥
      closing_not closing = true≢false (sym closing ∙ open_now read reads moments timed b fair actions puts p count server old l)

      by : IsSuffering (Other Break) old.owner ⊎ ((old.owner.channel.fate ≡ Fates.Failed) × ((near.wants c ≡ Want.Send) ⊎ (c.closing ≡ true)))
          → On (Other Break) next new
      by (inl suffers) = absurd (elim suffers.2 [
        | inl receives ↦ wants_not read reads moments timed b fair actions puts p count server old l Want.Receive refl receives
        | inr closing ↦ closing_not closing
      ])
      by (inr gives) = elim gives.1 [
        | inl sends ↦ told_on next new is.1 sends can did
        | inr closing ↦ absurd (closing_not closing)
      ]
  outlast action next new is can did = absurd is.0
