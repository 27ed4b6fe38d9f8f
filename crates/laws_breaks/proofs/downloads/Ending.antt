-- The actions of drives that are over, of which downloads broke for the client, put together.
use Rattle.std.specs.Prelude.{⊤}
use Rattle.std.proofs.Common.{◌⊎◌, inl, inr, List, [], ◌∷◌, ◌++◌, sym, ap, subst}
use Rattle.ftp_ports.specs.Actions.{Action, Other, Stand}
use Rattle.ftp_ports.specs.Machine.{Aside}
use Rattle.ftp_client_driver.specs.Side.{Begun, Starting, client_side}
use Rattle.laws_drivers.specs.events.Actions.{Along, AreMidst, IsMidst}
use Rattle.laws_drivers.specs.events.Answers.{actions_in, actions_of_drive}
use Rattle.laws_drivers.proofs.events.Along.{Went}
use Rattle.laws_drivers.proofs.events.Answers.{InMidst, none_to_close}
use Rattle.laws_drivers.proofs.events.Concluding.{AnswersGo, WentSo, agree_as_over}
use Rattle.laws_breaks.specs.downloads.Claims.{download_faults}
use Rattle.laws_breaks.specs.downloads.Actions.{AsksAll, ClientSuffers, IsToldShort}
use Rattle.laws_breaks.specs.downloads.Over.{OverDrivesAgree}
use Rattle.laws_breaks.proofs.downloads.Concluding.{breaks_agree}

-- what is begun in the midst of a drive
abbrev BeginNone : List (Action client_side) → Type 0
BeginNone [] = ⊤
BeginNone (Other (Aside (Starting op)) ∷ before) = ⊥
BeginNone (action ∷ before) = BeginNone before

none_before : (action : Action client_side) (before : List (Action client_side)) → BeginNone (action ∷ before) → BeginNone before
none_before (Other (Aside (Starting op))) before none = absurd none
none_before action before none = none

midst_none : (actions : List (Action client_side)) → AreMidst actions → BeginNone actions
midst_none [] midst = tt
midst_none (action ∷ before) midst = by action midst.1 (midst_none before midst.0)
  where
    by : (action : Action client_side) → IsMidst action → BeginNone before → BeginNone (action ∷ before)
    by (Other (Aside (Starting op))) is rest = absurd is
    by action is rest = rest

-- so it is the same operation still
asks_still : (more before : List (Action client_side)) → BeginNone more → AsksAll before → AsksAll (more ++ before)
asks_still [] before none asks = asks
asks_still (action ∷ more) before none asks = by action none (λ rest. asks_still more before rest asks)
  where
    by : (action : Action client_side) → BeginNone (action ∷ more) → (BeginNone more → AsksAll (more ++ before)) → AsksAll (action ∷ (more ++ before))
    by (Other (Aside (Starting op))) none still = absurd none
    by action none still = still none

-- one list of a client's actions after another
went_then : (more before : List (Action client_side)) (start mid now : Stand client_side) → BeginNone more → (second : Went ClientSuffers more mid now)
    → AsksAll before ⊎ Along (λ action at then. IsToldShort action at) more mid now second.0 → WentSo download_faults before start mid
    → WentSo download_faults (more ++ before) start now
went_then [] before start mid now none second short first = subst (λ n. WentSo download_faults before start n) (sym second.0) first
went_then (action ∷ more) before start mid now none second short first =
    let still = none_before action more none in
    let rest = went_then more before start mid second.0.0 still (second.0.1, second.1.0) (earlier short) first in
    ((second.0.0, rest.0, second.0.2), (rest.1, second.1.1), (rest.2, here short))
  where
    earlier : AsksAll before ⊎ Along (λ action at then. IsToldShort action at) (action ∷ more) mid now second.0
        → AsksAll before ⊎ Along (λ action at then. IsToldShort action at) more mid second.0.0 second.0.1
    earlier (inl asks) = inl asks
    earlier (inr along) = inr along.0

    here : AsksAll before ⊎ Along (λ action at then. IsToldShort action at) (action ∷ more) mid now second.0
        → AsksAll (more ++ before) ⊎ IsToldShort action second.0.0.owner
    here (inl asks) = inl (asks_still more before (none_before action more none) asks)
    here (inr along) = inr along.1

-- nothing was reported before the drive reported, and no other operation begun
in_midst : InMidst download_faults.IsAnswer
in_midst op answer old new a suffers = suffers.by.midst

-- the actions of a client's drives
drives_go : AnswersGo download_faults
drives_go [] start now answered none = (answered, tt, tt)
drives_go (asked ∷ before) start now answered none =
    let a = answered.2 in
    let by = answered.3.by in
    let more = actions_in download_faults.IsAnswer before start answered.0 answered.1 in
    let first = drives_go before start answered.0 answered.1 none in
    let drive : Went ClientSuffers (actions_of_drive a.drove) a.begun now = (a.drove.did.sums.led, by.asks) in
    let begun : WentSo download_faults (Other (Begun asked.0) ∷ more) start a.begun = (
      (answered.0, first.0, a.begins),
      (first.1, ((by.raised, none_to_close download_faults.IsAnswer before start answered.0 answered.1 none), by.calm)),
      (first.2, inr tt),
    ) in
    went_then (actions_of_drive a.drove) (Other (Begun asked.0) ∷ more) start a.begun now (midst_none a.drove.did.actions by.midst) drive answered.3.short begun

-- what both did before the end agrees
pub over_drives_agree : OverDrivesAgree
over_drives_agree b fair moments timed asked server over =
    let went = subst (λ d. WentSo download_faults d over.client_start over.client) (sym over.client_is)
    (drives_go asked over.client_start over.client over.answered (ap (λ v. v.closing) over.begins.client_view)) in
    (went.0, agree_as_over download_faults in_midst breaks_agree b fair moments timed asked server over went)
