-- While what was asked for is under way something can happen: octets can move, a link can open, or an end is still to be told.
use Rattle.std.proofs.Common.{◌≡◌, ◌≢◌, inl, inr, ℕ, Bool, true, false, not, ◌&&◌, ◌||◌, List, [], ◌∷◌, length, Option, refl, sym, ap, subst, ◌∙◌, arith}
use Rattle.std.specs.Prelude.{nat_lt}
use Rattle.ftp_ends.specs.Link.{is_wanted}
use Rattle.ftp_ends.specs.Reply.{Reply}
use Rattle.ftp_ends.specs.declared.link.Wants.TheVariants as Want
use Rattle.ftp_direct.specs.Direct.{State}
use Rattle.ftp_client_model.specs.Calls as near
use Rattle.ftp_client_model.specs.Calls.{is_sound}
use Rattle.ftp_server_model.specs.Calls as far
use Rattle.ftp_server_model.specs.Machine.{Reading, IsReading}
use Rattle.ftp_server_model.specs.View.{View as Far}
use Rattle.ftp_server_model.specs.declared.session.Keep.{Keep}
use Rattle.ftp_server_model.specs.declared.session.Pending.TheVariants as Pendings
use Rattle.ftp_path.specs.Path.{Names}
use Rattle.ftp_wire.specs.Decoder.{Decoder}
use Rattle.laws_world.specs.Agreement.{Order}
use Rattle.laws_world.specs.Claims.{IsAnswered}
use Rattle.ftp_ends.specs.Octets.{has_octets}
use Rattle.laws_world.specs.Events.{DataToServer, DataToClient, IsQuiet, is_closed_by_far, is_closed_by_near, is_gone}
use Rattle.laws_world.specs.Still.{IsStill}
use Rattle.laws_world.specs.World.{World}
use Rattle.laws_world.proofs.StillLemmas.{still_is_quiet}
use Rattle.laws_dialogues.specs.Fetches.{Rise, linked}
use Rattle.laws_dialogues.specs.Stage.{Way, Asking, Answering, rest}
use Rattle.laws_dialogues.proofs.LoginTurns.{no_asking, no_reply}
use Rattle.laws_agreement.specs.Cut.{Cut, world_at, PlacedAt}
use Rattle.laws_agreement.specs.Rising.{Lift, Offered, Rising, Risen, Settled, Declined, Unjoined, Closing, Shut, Vanished, held, lift_passes}
use Rattle.laws_agreement.specs.Runs.{IsFetching, IsFetchingOn, Runs}
use Rattle.laws_agreement.specs.Stages as Stages
use Rattle.laws_agreement.specs.Stages.{Course, Giving, Given, Ended, Severed, Refusing, Unopened, Unclosed, Closed, Lost, NoReply, OneReply, BothReplies, Sent, Granted, Denied, Stage, PortAsked, PortTold, Dials, Restarts, Retrieves, Carries, Rises, Tells, Answers, Holds, AtFetch, IsLasting, at_port, PortWanted, PortSaid, PortTaken, PortDenied, Awaits, Unaccepted, Dismissed}
use Rattle.laws_agreement.proofs.FetchData.{given_of}
use Rattle.laws_agreement.proofs.FetchServed.{moves_on}
use Rattle.laws_agreement.proofs.Rests.{near_form, far_form}
use Rattle.laws_agreement.proofs.FetchTold.{closed_is}
use Rattle.laws_agreement.proofs.PeekQuiet.{halt_moves}
use Rattle.laws_agreement.proofs.Quiet.{can_move_first, can_take_now, follows_answered, follows_unblocked, never, quiet_at}
use Rattle.laws_agreement.proofs.Still.{IsSeen, rest_placed, seen_placed}

module _ (read : Reading) (from : State) (begun : List Order) (w : World) (on : IsFetchingOn read from begun w) (still : IsStill w) where
  abbrev f : IsFetching read from begun w
  f = on.fetching

  abbrev At : Way → World → Type 0
  At way b = AtFetch f.now f.ask read f.own way b

  abbrev s : PlacedAt At w
  s = on.fetching.stands

  -- both ends are in the world what they are in its base
  seen : IsSeen s.base w
  seen = seen_placed At w s

  abbrev Stood : Stage → Type 0
  Stood stage = Holds f.now f.ask f.own stage s.way s.base

  -- octets of the control connection are on their way
  moves : (stage : Stage) → Stood stage → is_sound s.base.near.standing ≡ true → s.way ≢ rest → ⊥
  moves stage h sound some = quiet_at s.base s.way s.cut s.fits sound (ap (λ s. s.life) h.session) some (subst IsStill s.is still)

  -- a way on which a line is asked is not at rest
  line_some : (line : List ℕ) → s.way ≡ Asking line → s.way ≢ rest
  line_some line is e = no_asking line [] (sym is ∙ e)

  -- a way on which a reply is answered is not at rest
  rows_some : (reply : Reply) (more : List Reply) → s.way ≡ Answering (reply ∷ more) → s.way ≢ rest
  rows_some reply more is e = no_reply reply more (sym is ∙ e)

  abbrev carry : Course → (came queue : List ℕ) → Stage
  carry course came queue = Carries (record { course = course; came = came; queue = queue })

  -- the link of the world is the one of its stage
  link_is : (stage : Stage) → Stood stage → w.link ≡ Stages.link_at f.now f.ask stage
  link_is stage h = ap (λ u. u.link) s.is ∙ by_way s.way s.cut ∙ h.link
    where
      by_way : (way : Way) (c : Cut) → (world_at s.base way c).link ≡ s.base.link
      by_way (Asking line) c = refl
      by_way (Answering rows) c = refl

  -- what is on its way to the client is the queue of the stage
  queue_is : (stage : Stage) → Stood stage → w.data_to_client ≡ Stages.queue_at f.now f.ask stage
  queue_is stage h = ap (λ u. u.data_to_client) s.is ∙ by_way s.way s.cut ∙ h.to_client
    where
      by_way : (way : Way) (c : Cut) → (world_at s.base way c).data_to_client ≡ s.base.data_to_client
      by_way (Asking line) c = refl
      by_way (Answering rows) c = refl

  -- an octet that stands in the queue is taken by the client
  taken : (octet : ℕ) (more : List ℕ) → w.data_to_client ≡ octet ∷ more → near.may_receive w.near ≡ true → ⊥
  taken octet more is receives =
      never _ (can_take_now (has_octets (far.to_give w.far) && (false || nat_lt (length w.data_to_client) 1)) (has_octets w.data_to_client) (near.may_receive w.near)
      (ap has_octets is) receives)
      (still.moved DataToClient 1 (omega arith) (omega arith))

  -- the server gives
  giving_moves : (octet : ℕ) (more came queue : List ℕ) → Stood (carry (Giving true octet more) came queue) → ⊥
  giving_moves octet more came queue h = by_queue queue (queue_is _ h)
    where
      receives : near.may_receive w.near ≡ true
      receives = ap near.may_receive (near_form s.base w seen _ _ h.near)

      due : far.to_give w.far ≡ octet ∷ more
      due = ap (λ v. far.given_by (far.connection_of v)) (far_form s.base w seen _ false _ h.session) ∙ given_of f.ask.listed (octet ∷ more)

      by_queue : (queue : List ℕ) → w.data_to_client ≡ queue → ⊥
      by_queue [] is =
          never _ (can_move_first w.data_to_client (has_octets (far.to_give w.far)) _ is (ap has_octets due)) (still.moved DataToClient 1 (omega arith) (omega arith))
      by_queue (x ∷ rest) is = taken x rest is receives

  -- all was given, and the client is to be told of the end
  given_moves : (came queue : List ℕ) → Stood (carry (Given BothReplies true) came queue) → ⊥
  given_moves came queue h = by_queue queue (queue_is _ h)
    where
      receives : near.may_receive w.near ≡ true
      receives = ap near.may_receive (near_form s.base w seen _ _ h.near)

      none : far.to_give w.far ≡ []
      none = ap (λ v. far.given_by (far.connection_of v)) (far_form s.base w seen _ false _ h.session)

      by_queue : (queue : List ℕ) → w.data_to_client ≡ queue → ⊥
      by_queue [] is =
          never (is_closed_by_far w.link && not (has_octets w.data_to_client) && not (has_octets (far.to_give w.far)))
          (λ i. is_closed_by_far (link_is _ h i) && not (has_octets (is i)) && not (has_octets (none i))) (still.ended DataToClient)
      by_queue (octet ∷ more) is = taken octet more is receives

  -- the link can open
  dials_open : (port : ℕ) → Stood (Dials port) → ⊥
  unfolding near.wants
  dials_open port h =
      let connects : near.wants w.near ≡ Want.Connect (record { host = s.base.near.peer; port = port }) = ap near.wants (near_form s.base w seen _ _ h.near) in
      let accepts : far.wants w.far ≡ Want.Accept = ap (λ s. far.wants (record w.far { session = s })) (far_form s.base w seen _ false _ h.session) in
      never (is_gone w.link && is_wanted (near.wants w.near) (far.wants w.far)) (λ i. is_gone (link_is _ h i) && is_wanted (connects i) (accepts i)) still.opened

  -- and so it can where the server connects
  awaits_open : (port : ℕ) → Stood (Awaits port true) → ⊥
  unfolding near.wants
  awaits_open port h =
      let accepts : near.wants w.near ≡ Want.Accept = ap near.wants (near_form s.base w seen _ _ h.near) in
      let connects : far.wants w.far ≡ Want.Connect (at_port s.base.near.here port) = ap (λ s. far.wants (record w.far { session = s })) (far_form s.base w seen _ false _ h.session) in
      never (is_gone w.link && is_wanted (near.wants w.near) (far.wants w.far)) (λ i. is_gone (link_is _ h i) && is_wanted (accepts i) (connects i)) still.opened

  -- while the transfer runs and its stage is not passing, the world is not still
  carry_moves : (course : Course) (came queue : List ℕ) → Stood (carry course came queue) → Stages.is_passing (carry course came queue) ≡ false → ⊥
  carry_moves (Giving false octet more) came queue h lasts = moves _ h (ap (λ v. is_sound v.standing) h.near) (rows_some _ _ h.way_is)
  carry_moves (Giving true octet more) came queue h lasts = giving_moves octet more came queue h
  carry_moves (Given heard false) came queue h lasts = absurd (cc)
  carry_moves (Given NoReply true) came queue h lasts = moves _ h (ap (λ v. is_sound v.standing) h.near) (rows_some _ _ h.way_is)
  carry_moves (Given OneReply true) came queue h lasts = moves _ h (ap (λ v. is_sound v.standing) h.near) (rows_some _ _ h.way_is)
  carry_moves (Given BothReplies true) came queue h lasts = given_moves came queue h
  carry_moves (Ended false clean) came queue h lasts = moves _ h (ap (λ v. is_sound v.standing) h.near) (rows_some _ _ h.way_is)
  carry_moves (Ended true clean) came queue h lasts = moves _ h (ap (λ v. is_sound v.standing) h.near) (rows_some _ _ h.way_is)
  carry_moves (Severed false) came queue h lasts = moves _ h (ap (λ v. is_sound v.standing) h.near) (rows_some _ _ h.way_is)
  carry_moves (Severed true) came queue h lasts = moves _ h (ap (λ v. is_sound v.standing) h.near) (rows_some _ _ h.way_is)
  carry_moves (Refusing why Unclosed) came queue h lasts = absurd (cc)
  carry_moves (Refusing why Closed) came queue h lasts = moves _ h (ap (λ v. is_sound v.standing) h.near) (rows_some _ _ h.way_is)
  carry_moves (Refusing why (Lost clean)) came queue h lasts = moves _ h (ap (λ v. is_sound v.standing) h.near) (rows_some _ _ h.way_is)
  carry_moves Unopened came queue h lasts = moves _ h (ap (λ v. is_sound v.standing) h.near) (rows_some _ _ h.way_is)

  -- an octet on its way is taken by the server
  taken_up : (octet : ℕ) (more : List ℕ) → w.data_to_server ≡ octet ∷ more → far.may_receive w.far ≡ true → ⊥
  taken_up octet more is receives =
      never _ (can_take_now (has_octets (near.to_give w.near) && (false || nat_lt (length w.data_to_server) 1)) (has_octets w.data_to_server) (far.may_receive w.far)
      (ap has_octets is) receives)
      (still.moved DataToServer 1 (omega arith) (omega arith))

  -- what is on its way to the server is the queue of the stage
  up_is : (stage : Stage) → Stood stage → w.data_to_server ≡ Stages.rising_at f.now f.ask stage
  up_is stage h = ap (λ u. u.data_to_server) s.is ∙ by_way s.way s.cut ∙ h.to_server
    where
      by_way : (way : Way) (c : Cut) → (world_at s.base way c).data_to_server ≡ s.base.data_to_server
      by_way (Asking line) c = refl
      by_way (Answering rows) c = refl

  -- a server of an upload that owes nothing may take
  held_receives : (past : Bool) (path : Names) (keep : Keep) (d : Decoder) (v : Far) → v.session ≡ linked (held past path keep d) false Pendings.Nothing v.session → v.owed ≡ [] → far.may_receive v ≡ true
  held_receives false path keep d v is none = λ i. far.may_receive (record v { session = is i; owed = none i })
  held_receives true path keep d v is none = λ i. far.may_receive (record v { session = is i; owed = none i })

  -- at rest the server owes nothing
  none_owed : s.way ≡ rest → w.far.owed ≡ []
  none_owed way = ap (λ u. u.far.owed) (rest_placed At w s way)

  -- the client gives
  rising_moves : (rise : Rise) (past : Bool) (octet : ℕ) (more came queue : List ℕ) (mark : Option ℕ) → Stood (Rises rise (Rising past octet more came queue mark [])) → ⊥
  rising_moves rise past octet more came queue mark h = by_queue queue (up_is _ h)
    where
      due : near.to_give w.near ≡ octet ∷ more
      due = ap near.to_give (near_form s.base w seen _ _ h.near)

      by_queue : (queue : List ℕ) → w.data_to_server ≡ queue → ⊥
      by_queue [] is =
          never _ (can_move_first w.data_to_server (has_octets (near.to_give w.near)) _ is (ap has_octets due)) (still.moved DataToServer 1 (omega arith) (omega arith))
      by_queue (x ∷ more) is = taken_up x more is (held_receives past _ _ _ w.far (far_form s.base w seen _ false _ h.session) (none_owed h.way_is))

  -- all was given, and the server is to be told of the end
  risen_moves : (rise : Rise) (past : Bool) (came queue : List ℕ) (mark : Option ℕ) → Stood (Rises rise (Risen past true came queue mark [])) → ⊥
  risen_moves rise past came queue mark h = by_queue queue (up_is _ h)
    where
      none : near.to_give w.near ≡ []
      none = ap near.to_give (near_form s.base w seen _ _ h.near)

      by_queue : (queue : List ℕ) → w.data_to_server ≡ queue → ⊥
      by_queue [] is =
          never (is_closed_by_near w.link && not (has_octets w.data_to_server) && not (has_octets (near.to_give w.near)))
          (λ i. is_closed_by_near (link_is _ h i) && not (has_octets (is i)) && not (has_octets (none i))) (still.ended DataToServer)
      by_queue (octet ∷ more) is = taken_up octet more is (held_receives past _ _ _ w.far (far_form s.base w seen _ false _ h.session) (none_owed h.way_is))

  -- while an upload is under way and its lift is not passing, the world is not still
  lift_moves : (rise : Rise) (lift : Lift) → Stood (Rises rise lift) → lift_passes lift ≡ false → ⊥
  lift_moves rise Offered h lasts = moves _ h (ap (λ v. is_sound v.standing) h.near) (rows_some _ _ h.way_is)
  lift_moves rise (Rising past octet more came queue mark []) h lasts = rising_moves rise past octet more came queue mark h
  lift_moves rise (Rising past octet more came queue mark (note ∷ notes)) h lasts = moves _ h (ap (λ v. is_sound v.standing) h.near) (rows_some _ _ h.way_is)
  lift_moves rise (Risen past false came queue mark notes) h lasts = absurd (cc)
  lift_moves rise (Risen past true came queue mark []) h lasts = risen_moves rise past came queue mark h
  lift_moves rise (Risen past true came queue mark (note ∷ notes)) h lasts = moves _ h (ap (λ v. is_sound v.standing) h.near) (rows_some _ _ h.way_is)
  lift_moves rise (Settled false mark notes fate left after) h lasts = moves _ h (ap (λ v. is_sound v.standing) h.near) (rows_some _ _ h.way_is)
  lift_moves rise (Settled true mark [] fate left after) h lasts = moves _ h (ap (λ v. is_sound v.standing) h.near) (rows_some _ _ h.way_is)
  lift_moves rise (Settled true mark (note ∷ notes) fate left after) h lasts = moves _ h (ap (λ v. is_sound v.standing) h.near) (rows_some _ _ h.way_is)
  lift_moves rise (Declined why Closing) h lasts = absurd (cc)
  lift_moves rise (Declined why Shut) h lasts = moves _ h (ap (λ v. is_sound v.standing) h.near) (rows_some _ _ h.way_is)
  lift_moves rise (Declined why (Vanished broken)) h lasts = moves _ h (ap (λ v. is_sound v.standing) h.near) (rows_some _ _ h.way_is)
  lift_moves rise Unjoined h lasts = moves _ h (ap (λ v. is_sound v.standing) h.near) (rows_some _ _ h.way_is)

  -- at every stage that lasts the world is not still
  here_moves : (here : At s.way s.base) → IsLasting f.now f.ask read f.own s.way s.base here → ⊥
  here_moves (inl l) lasts =
      let m = moves_on read f.now f.ask f.is_ask.plan f.own s.way s.base.near s.base.far l.on l.some in
      quiet_at s.base s.way s.cut s.fits m.0.near.sound m.0.far.life l.some (subst IsStill s.is still)
  here_moves (inr (PortAsked closing, h)) lasts = absurd (cc)
  here_moves (inr (PortTold port, h)) lasts = moves _ h (ap (λ v. is_sound v.standing) h.near) (rows_some _ _ h.way_is)
  here_moves (inr (Dials port, h)) lasts = dials_open port h
  here_moves (inr (PortWanted connection pending, h)) lasts = absurd (cc)
  here_moves (inr (PortSaid port connection pending, h)) lasts = moves _ h (ap (λ v. is_sound v.standing) h.near) (line_some _ h.way_is)
  here_moves (inr (PortTaken port true, h)) lasts = absurd (cc)
  here_moves (inr (PortTaken port false, h)) lasts = moves _ h (ap (λ v. is_sound v.standing) h.near) (rows_some _ _ h.way_is)
  here_moves (inr (PortDenied port connection, h)) lasts = moves _ h (ap (λ v. is_sound v.standing) h.near) (rows_some _ _ h.way_is)
  here_moves (inr (Restarts at Sent early, h)) lasts = moves _ h (ap (λ v. is_sound v.standing) h.near) (line_some _ h.way_is)
  here_moves (inr (Restarts at Granted early, h)) lasts = moves _ h (ap (λ v. is_sound v.standing) h.near) (rows_some _ _ h.way_is)
  here_moves (inr (Restarts at (Denied why) early, h)) lasts = moves _ h (ap (λ v. is_sound v.standing) h.near) (rows_some _ _ h.way_is)
  here_moves (inr (Retrieves early, h)) lasts = moves _ h (ap (λ v. is_sound v.standing) h.near) (line_some _ h.way_is)
  here_moves (inr (Awaits port false, h)) lasts = moves _ h (ap (λ v. is_sound v.standing) h.near) (rows_some _ _ h.way_is)
  here_moves (inr (Awaits port true, h)) lasts = awaits_open port h
  here_moves (inr (Unaccepted port, h)) lasts = moves _ h (ap (λ v. is_sound v.standing) h.near) (rows_some _ _ h.way_is)
  here_moves (inr (Dismissed port why, h)) lasts = moves _ h (ap (λ v. is_sound v.standing) h.near) (rows_some _ _ h.way_is)
  here_moves (inr (Carries c, h)) lasts = carry_moves c.course c.came c.queue h lasts
  here_moves (inr (Rises rise lift, h)) lasts = lift_moves rise lift h lasts
  here_moves (inr (Tells rise said after, h)) lasts = absurd (cc)
  here_moves (inr (Answers said leaves, h)) lasts = absurd (cc)

  -- while what was asked for is under way between two events the world is not still
  pub fetch_moves : ⊥
  fetch_moves = here_moves s.here on.lasts

-- in a world of a list of plain events that is still, all that was begun is answered
pub runs_answered : (read : Reading) → IsReading read → (from : State) (begun : List Order) (w : World) → Runs read from begun w → IsStill w → IsAnswered begun w
runs_answered read reads from begun w (inl h) still = follows_answered read from begun w h still
runs_answered read reads from begun w (inr (inl on)) still = absurd (fetch_moves read from begun w on still)
runs_answered read reads from begun w (inr (inr (inr on))) still =
    absurd (halt_moves on.halting.now on.halting.ask on.halting.own w on.halting.stands on.lasts still)
runs_answered read reads from begun w (inr (inr (inl t))) still =
    absurd (let e : true ≡ false = (subst IsStill (closed_is read reads from begun w t) still).ended DataToServer in cc)

-- a world of a list of plain events that is still is quiet
pub runs_quiet : (read : Reading) → IsReading read → (from : State) (begun : List Order) (w : World) → Runs read from begun w → IsStill w → IsQuiet w
runs_quiet read reads from begun w (inl h) still =
    elim (still_is_quiet w still) [ inl quiet ↦ quiet | inr blocked ↦ absurd (follows_unblocked read from begun w h still blocked.0 blocked.1) ]
runs_quiet read reads from begun w (inr (inl on)) still = absurd (fetch_moves read from begun w on still)
runs_quiet read reads from begun w (inr (inr (inr on))) still =
    absurd (halt_moves on.halting.now on.halting.ask on.halting.own w on.halting.stands on.lasts still)
runs_quiet read reads from begun w (inr (inr (inl t))) still =
    absurd (let e : true ≡ false = (subst IsStill (closed_is read reads from begun w t) still).ended DataToServer in cc)
