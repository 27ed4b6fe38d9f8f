-- A client that was told that the data connection of a Peek broke, after ABOR, does each action as one does that was told that it ended, whether it dials or has
-- ports of its own.
use Rattle.std.proofs.Common.{[], ◌∷◌, ap}
use Rattle.ftp_ports.specs.Asking.{Came, Connected, Ended as EndedBy, NotConnected, Reset, Shut}
use Rattle.ftp_ports.specs.Actions.{Action, Done, Heard, Other, Read, Said as Says, Stand}
use Rattle.ftp_ports.specs.Machine.{Aside, Break, Closed, End, Failed, Gave, Got, Left, LetGo, Listening, Opened, Received, Refused, Waited, Wrote}
use Rattle.ftp_client_driver.specs.Side.{Reporting, Starting, client_side}
use Rattle.ftp_client_model.specs.View.{View as Near}
use Rattle.laws_drivers.specs.control.Between.{Between, CanTurn, Client}
use Rattle.laws_drivers.proofs.events.Holding.{both}
use Rattle.laws_transfers.proofs.Broke as dialling
use Rattle.laws_transfers.proofs.Broke.{IsBroke, IsShown, with_view}
use Rattle.laws_transfers.proofs.EitherEnd.{Common, common, is_wishing}
use Rattle.laws_active.specs.Refusals.{ClientTriesEitherWay}

-- an action that the other does, too
pub record DoneSo (action : Action client_side) (next : Between) (new shown : Stand client_side) : Type 0 where
  pub after : Stand client_side
  pub did : Done action shown after
  pub is : ClientTriesEitherWay action shown.owner after.owner
  pub shows : IsShown next new after

module _ (p q : Between) (old new : Stand client_side) (other : Near) (broke : IsBroke p old other) where
  both_are : Common old.owner.end.view other
  both_are = common old.owner.end.view other broke.apart

  pub broke_does : (action : Action client_side) → ClientTriesEitherWay action old.owner new.owner → Done action old new → CanTurn (Client action) p q
      → DoneSo action q new (with_view other old)
  broke_does (Other (Aside (Starting op))) is did can = absurd (both both_are.busy did.0.0.0)
  broke_does (Other (Listening port)) is did can = absurd (both (ap is_wishing did.0.2.0) both_are.wishes)
  broke_does (Other (Opened host (Came from left written ∷ []) at_first so_far rest)) is did can = absurd (both (ap is_wishing did.0.2.0) both_are.wishes)
  broke_does (Heard octets) is did can =
      let so = dialling.broke_does p q old new other broke (Heard octets) is did can in
      record { after = so.after; did = so.did; is = so.is; shows = so.shows }
  broke_does (Says octets) is did can =
      let so = dialling.broke_does p q old new other broke (Says octets) is did can in
      record { after = so.after; did = so.did; is = so.is; shows = so.shows }
  broke_does (Read octets) is did can =
      let so = dialling.broke_does p q old new other broke (Read octets) is did can in
      record { after = so.after; did = so.did; is = so.is; shows = so.shows }
  broke_does (Other (Aside (Reporting said))) is did can =
      let so = dialling.broke_does p q old new other broke (Other (Aside (Reporting said))) is did can in
      record { after = so.after; did = so.did; is = so.is; shows = so.shows }
  broke_does (Other (Opened host (Connected endpoint left written ∷ []) at_first so_far rest)) is did can =
      let so = dialling.broke_does p q old new other broke (Other (Opened host (Connected endpoint left written ∷ []) at_first so_far rest)) is did can in
      record { after = so.after; did = so.did; is = so.is; shows = so.shows }
  broke_does (Other (Refused (NotConnected endpoint ∷ []))) is did can =
      let so = dialling.broke_does p q old new other broke (Other (Refused (NotConnected endpoint ∷ []))) is did can in
      record { after = so.after; did = so.did; is = so.is; shows = so.shows }
  broke_does (Other (Refused asked)) is did can = absurd is.0
  broke_does (Other (Gave count octets rest)) is did can =
      let so = dialling.broke_does p q old new other broke (Other (Gave count octets rest)) is did can in
      record { after = so.after; did = so.did; is = so.is; shows = so.shows }
  broke_does (Other (Wrote octets)) is did can =
      let so = dialling.broke_does p q old new other broke (Other (Wrote octets)) is did can in
      record { after = so.after; did = so.did; is = so.is; shows = so.shows }
  broke_does (Other (Got octets)) is did can =
      let so = dialling.broke_does p q old new other broke (Other (Got octets)) is did can in
      record { after = so.after; did = so.did; is = so.is; shows = so.shows }
  broke_does (Other (Received octets count)) is did can =
      let so = dialling.broke_does p q old new other broke (Other (Received octets count)) is did can in
      record { after = so.after; did = so.did; is = so.is; shows = so.shows }
  broke_does (Other End) is did can =
      let so = dialling.broke_does p q old new other broke (Other End) is did can in
      record { after = so.after; did = so.did; is = so.is; shows = so.shows }
  broke_does (Other Failed) is did can =
      let so = dialling.broke_does p q old new other broke (Other Failed) is did can in
      record { after = so.after; did = so.did; is = so.is; shows = so.shows }
  broke_does (Other Break) is did can =
      let so = dialling.broke_does p q old new other broke (Other Break) is did can in
      record { after = so.after; did = so.did; is = so.is; shows = so.shows }
  broke_does (Other (Waited lost)) is did can =
      let so = dialling.broke_does p q old new other broke (Other (Waited lost)) is did can in
      record { after = so.after; did = so.did; is = so.is; shows = so.shows }
  broke_does (Other (LetGo octets)) is did can =
      let so = dialling.broke_does p q old new other broke (Other (LetGo octets)) is did can in
      record { after = so.after; did = so.did; is = so.is; shows = so.shows }
  broke_does (Other (Left (EndedBy left written))) is did can =
      let so = dialling.broke_does p q old new other broke (Other (Left (EndedBy left written))) is did can in
      record { after = so.after; did = so.did; is = so.is; shows = so.shows }
  broke_does (Other (Left (Reset left written))) is did can =
      let so = dialling.broke_does p q old new other broke (Other (Left (Reset left written))) is did can in
      record { after = so.after; did = so.did; is = so.is; shows = so.shows }
  broke_does (Other (Left Shut)) is did can =
      let so = dialling.broke_does p q old new other broke (Other (Left Shut)) is did can in
      record { after = so.after; did = so.did; is = so.is; shows = so.shows }
  broke_does (Other Closed) is did can =
      let so = dialling.broke_does p q old new other broke (Other Closed) is did can in
      record { after = so.after; did = so.did; is = so.is; shows = so.shows }
  broke_does action is did can = absurd is.0
