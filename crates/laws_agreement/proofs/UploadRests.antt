-- What both ends of an upload want of the world, and give, at each lift that outlasts an event.
use Rattle.std.proofs.Common.{◌≡◌, Bool, true, false, List, [], refl}
use Rattle.ftp_ends.specs.Link.{is_wanted}
use Rattle.ftp_ends.specs.declared.link.Wants.{Wants}
use Rattle.ftp_path.specs.Path.{Names}
use Rattle.ftp_wire.specs.Decoder.{Decoder}
use Rattle.ftp_direct.specs.Direct.{State}
use Rattle.ftp_client_model.specs.Calls as near
use Rattle.ftp_client_model.specs.Calls.{is_busy_job}
use Rattle.ftp_client_model.specs.View.{View as Near}
use Rattle.ftp_server_model.specs.Calls as far
use Rattle.ftp_server_model.specs.declared.session.Keep.{Keep}
use Rattle.ftp_server_model.specs.declared.session.Pending.{Pending}
use Rattle.ftp_server_model.specs.declared.session.Pending.TheVariants as Pendings
use Rattle.laws_world.specs.Events.{is_closed_by_near}
use Rattle.laws_world.specs.Serving.{far_served}
use Rattle.laws_world.specs.World.{World, Mark}
use Rattle.laws_dialogues.specs.Fetches.{Ask, Rise, linked}
use Rattle.laws_dialogues.specs.Stage.{Way}
use Rattle.laws_agreement.specs.Rising.{Lift, Offered, Rising, Risen, Settled, Declined, Unjoined, Closing, Shut, Vanished, held, lifts, lift_closing, lift_far, lift_link, lift_near, lift_passes, lift_queue}
use Rattle.laws_agreement.specs.Stages.{Rises, Holds}
use Rattle.laws_agreement.proofs.FetchLink.{far_linked}
use Rattle.laws_agreement.proofs.Rests.{Rests, near_form, rests_of}
use Rattle.laws_agreement.proofs.Still.{IsSeen}

-- a server that takes octets wants nothing but that, past a limit or not
held_rests : (past : Bool) (path : Names) (keep : Keep) (d : Decoder) (pending : Pending Names) (w : World)
    → far_served (record w { far = far_linked (linked (held past path keep d) false pending w.far.session) w.far })
    ≡ record w { far = far_linked (linked (held past path keep d) false pending w.far.session) w.far }
held_rests false path keep d pending w = refl
held_rests true path keep d pending w = refl

-- and gives none
held_gives : (past : Bool) (path : Names) (keep : Keep) (d : Decoder) → far.given_by (held past path keep d) ≡ []
held_gives false path keep d = refl
held_gives true path keep d = refl

module _ (state : State) (ask : Ask) (own : List Mark) (rise : Rise) where
  abbrev Stands : Lift → Way → World → Type 0
  Stands lift way b = Holds state ask own (Rises rise lift) way b

  -- at a lift that does not pass nothing is served and nothing is reported
  pub lift_rests : (lift : Lift) (b w : World) (way : Way) → IsSeen b w → Stands lift way b → lift_passes lift ≡ false → Rests w
  unfolding near.wants
  lift_rests Offered b w way seen h stays = rests_of b w seen _ _ h.near refl (λ w. refl) _ _ h.session (λ w. refl)
  lift_rests (Rising past octet more came queue mark notes) b w way seen h stays =
      rests_of b w seen _ _ h.near refl (λ w. refl) _ _ h.session (λ w. held_rests past _ _ _ Pendings.Nothing w)
  lift_rests (Risen past false came queue mark notes) b w way seen h stays = absurd (cc)
  lift_rests (Risen past true came queue mark notes) b w way seen h stays =
      rests_of b w seen _ _ h.near refl (λ w. refl) _ _ h.session (λ w. held_rests past _ _ _ Pendings.Nothing w)
  lift_rests (Settled begun mark notes fate left after) b w way seen h stays = rests_of b w seen _ _ h.near refl (λ w. refl) _ _ h.session (λ w. refl)
  lift_rests (Declined why Closing) b w way seen h stays = absurd (cc)
  lift_rests (Declined why Shut) b w way seen h stays = rests_of b w seen _ _ h.near refl (λ w. refl) _ _ h.session (λ w. refl)
  lift_rests (Declined why (Vanished broken)) b w way seen h stays = rests_of b w seen _ _ h.near refl (λ w. refl) _ _ h.session (λ w. refl)
  lift_rests Unjoined b w way seen h stays = rests_of b w seen _ _ h.near refl (λ w. refl) _ _ h.session (λ w. refl)

  -- the server has nothing to close then
  pub lift_open : (lift : Lift) → lift_passes lift ≡ false → lift_closing lift ≡ false
  lift_open Offered stays = refl
  lift_open (Rising past octet more came queue mark notes) stays = refl
  lift_open (Risen past closed came queue mark notes) stays = refl
  lift_open (Settled begun mark notes fate left after) stays = refl
  lift_open (Declined why door) stays = stays
  lift_open Unjoined stays = refl

  -- it gives no octets
  pub lift_gives : (lift : Lift) → far.given_by (lift_far state ask rise lift) ≡ []
  lift_gives Offered = refl
  lift_gives (Rising past octet more came queue mark notes) = held_gives past _ _ _
  lift_gives (Risen past closed came queue mark notes) = held_gives past _ _ _
  lift_gives (Settled begun mark notes fate left after) = refl
  lift_gives (Declined why door) = refl
  lift_gives Unjoined = refl

  -- the client of the world is that of the lift
  pub lift_form : (lift : Lift) (b w : World) → IsSeen b w → b.near ≡ lift_near state ask rise lift b.near → lift_passes lift ≡ false → w.near ≡ lift_near state ask rise lift w.near
  lift_form Offered b w seen is stays = near_form b w seen _ _ is
  lift_form (Rising past octet more came queue mark notes) b w seen is stays = near_form b w seen _ _ is
  lift_form (Risen past false came queue mark notes) b w seen is stays = absurd (cc)
  lift_form (Risen past true came queue mark notes) b w seen is stays = near_form b w seen _ _ is
  lift_form (Settled begun mark notes fate left after) b w seen is stays = near_form b w seen _ _ is
  lift_form (Declined why door) b w seen is stays = near_form b w seen _ _ is
  lift_form Unjoined b w seen is stays = near_form b w seen _ _ is

  -- it asks for no link
  pub lift_asks : (lift : Lift) → lift_passes lift ≡ false → (n : Near) (other : Wants) → is_wanted (near.wants (lift_near state ask rise lift n)) other ≡ false
  unfolding near.wants
  lift_asks Offered stays n other = refl
  lift_asks (Rising past octet more came queue mark notes) stays n other = refl
  lift_asks (Risen past false came queue mark notes) stays n other = absurd (cc)
  lift_asks (Risen past true came queue mark notes) stays n other = refl
  lift_asks (Settled begun mark notes fate left after) stays n other = refl
  lift_asks (Declined why Closing) stays n other = absurd (cc)
  lift_asks (Declined why Shut) stays n other = refl
  lift_asks (Declined why (Vanished broken)) stays n other = refl
  lift_asks Unjoined stays n other = refl

  -- it is busy
  pub lift_busy : (lift : Lift) (n : Near) → is_busy_job (lift_near state ask rise lift n).job ≡ true
  lift_busy Offered n = refl
  lift_busy (Rising past octet more came queue mark notes) n = refl
  lift_busy (Risen past closed came queue mark notes) n = refl
  lift_busy (Settled begun mark notes fate left after) n = refl
  lift_busy (Declined why door) n = refl
  lift_busy Unjoined n = refl

  -- but where octets are given or taken it has none to give
  pub lift_owes : (lift : Lift) → lifts lift ≡ false → (n : Near) → near.to_give (lift_near state ask rise lift n) ≡ []
  lift_owes Offered none n = refl
  lift_owes (Rising past octet more came queue mark notes) none n = absurd (cc)
  lift_owes (Risen past closed came queue mark notes) none n = absurd (cc)
  lift_owes (Settled begun mark notes fate left after) none n = refl
  lift_owes (Declined why Closing) none n = refl
  lift_owes (Declined why Shut) none n = refl
  lift_owes (Declined why (Vanished broken)) none n = refl
  lift_owes Unjoined none n = refl

-- nor has the client closed the link
pub lift_unclosed : (lift : Lift) → lifts lift ≡ false → is_closed_by_near (lift_link lift) ≡ false
lift_unclosed Offered none = refl
lift_unclosed (Rising past octet more came queue mark notes) none = absurd (cc)
lift_unclosed (Risen past closed came queue mark notes) none = absurd (cc)
lift_unclosed (Settled begun mark notes fate left after) none = refl
lift_unclosed (Declined why Closing) none = refl
lift_unclosed (Declined why Shut) none = refl
lift_unclosed (Declined why (Vanished broken)) none = refl
lift_unclosed Unjoined none = refl

-- nor are octets on their way
pub lift_empty : (lift : Lift) → lifts lift ≡ false → lift_queue lift ≡ []
lift_empty Offered none = refl
lift_empty (Rising past octet more came queue mark notes) none = absurd (cc)
lift_empty (Risen past closed came queue mark notes) none = absurd (cc)
lift_empty (Settled begun mark notes fate left after) none = refl
lift_empty (Declined why door) none = refl
lift_empty Unjoined none = refl
