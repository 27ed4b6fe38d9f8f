-- A client that has its data connection between both ends holds one that stands; and none is dialled by its server.
use Rattle.std.proofs.Common.{◌≡◌, true, false, true≢false, List, [], ◌∷◌, Some, None, refl, sym, ap, ◌∙◌}
use Rattle.ftp_ports.specs.Asking.{Came, Connected, Ended as EndedBy, NotConnected, Reset, Shut}
use Rattle.ftp_ports.specs.Actions.{Action, Done, Heard, Led, Other, Read, Said as Says, Stand}
use Rattle.ftp_ports.specs.Channel.{Channel}
use Rattle.ftp_ports.specs.Machine.{Aside, Break, Closed, End, Failed, Gave, Got, Held, Left, LetGo, Listening, Opened, Received, Refused, Waited, Wrote}
use Rattle.ftp_client_driver.specs.Side.{Reporting, Starting, client_side}
use Rattle.ftp_server_driver.specs.alone.Side.{Timed, server_side}
use Rattle.laws_drivers.specs.control.Between.{Between, Can, CanTurn, Client, Far as TheServer, Happened, Has_ended, Has_lost, Hold, Server, Turn, client_actions, server_actions}
use Rattle.laws_drivers.specs.control.Touches.{Accepts, Dials, Ends, IsDenied, IsMissed, Listens, None_of_it, Parts, Reads, Resets, Says as SaysOctets, Takes, ToldBreak, ToldEnd, Touch, Writes, touch_in}
use Rattle.laws_drivers.proofs.events.Holding.{is_called, is_had}
use Rattle.laws_breaks.proofs.downloads.Unbroken.{is_dialled}
use Rattle.laws_breaks.specs.uploads.Actions.{GivesAlong, IsGiving, IsLosing, LosesAlong}
use Rattle.laws_breaks.proofs.uploads.Leaving.{shut_stands}

pub record Holding (between : Between) (client : Stand client_side) : Type 0 where
  pub had : is_had between.near ≡ true → client.owner.channel.stands ≡ true
  pub uncalled : is_called between.near ≡ false

-- ---- an action of the server

-- none dials
losing_dials : (action : Action server_side) (at : Held Timed) → IsLosing action at → is_dialled (touch_in action) ≡ false
losing_dials (Heard octets) at is = refl
losing_dials (Says octets) at is = refl
losing_dials (Read octets) at is = refl
losing_dials (Other (Aside asked)) at is = refl
losing_dials (Other (Listening port)) at is = refl
losing_dials (Other (Opened host (Came from left written ∷ []) at_first so_far rest)) at is = refl
losing_dials (Other (Got octets)) at is = refl
losing_dials (Other (Received octets count)) at is = refl
losing_dials (Other End) at is = refl
losing_dials (Other (Gave count octets rest)) at is = refl
losing_dials (Other (Wrote octets)) at is = refl
losing_dials (Other (Waited lost)) at is = refl
losing_dials (Other (LetGo octets)) at is = refl
losing_dials (Other (Left (EndedBy left written))) at is = refl
losing_dials (Other (Left (Reset left written))) at is = refl
losing_dials (Other (Left Shut)) at is = refl
losing_dials (Other Closed) at is = refl
losing_dials (Other Failed) at is = refl
losing_dials (Other Break) at is = refl
losing_dials action at is = absurd is

-- so its client has what it had
far_near : (touch : Touch) (p q : Between) → is_dialled touch ≡ false → Can TheServer touch p q → q.near ≡ p.near
far_near None_of_it p q dials can = ap (λ (m : Between). m.near) can
far_near (SaysOctets octets) p q dials can = ap (λ (m : Between). m.near) can
far_near (Reads octets) p q dials can = ap (λ (m : Between). m.near) can.1
far_near Parts p q dials can = ap (λ (m : Between). m.near) can
far_near (Listens None) p q dials can = ap (λ (m : Between). m.near) can
far_near (Listens (Some port)) p q dials can = ap (λ (m : Between). m.near) can.1
far_near (Dials endpoint) p q dials can = absurd (true≢false dials)
far_near (Accepts host) p q dials can = ap (λ (m : Between). m.near) can.1
far_near (IsDenied endpoint) p q dials can = ap (λ (m : Between). m.near) can
far_near IsMissed p q dials can = ap (λ (m : Between). m.near) can
far_near (Writes octets) p q dials can = ap (λ (m : Between). m.near) can.1
far_near (Takes octets) p q dials can = ap (λ (m : Between). m.near) can.2
far_near Ends p q dials can = ap (λ (m : Between). m.near) can.1
far_near Resets p q dials can = ap (λ (m : Between). m.near) can.1
far_near ToldEnd p q dials can = ap (λ (m : Between). m.near) can.2
far_near ToldBreak p q dials can = ap (λ (m : Between). m.near) can.1

-- ---- an action of the client

module _ (p q : Between) (old new : Stand client_side) (h : Holding p old) where
  -- it has what it had, and that stands as before
  as_before : q.near ≡ p.near → new.owner.channel.stands ≡ old.owner.channel.stands → Holding q new
  as_before near stands = record { had = λ e. stands ∙ h.had (sym (ap is_had near) ∙ e); uncalled = ap is_called near ∙ h.uncalled }

  -- it has it no more
  left_now : (hold : Hold) → q.near ≡ hold → is_had hold ≡ false → is_called hold ≡ false → Holding q new
  left_now hold near not none = record { had = λ e. absurd (true≢false (sym e ∙ ap is_had near ∙ not)); uncalled = ap is_called near ∙ none }

  -- each action
  holds_on : (action : Action client_side) → IsGiving action old.owner → CanTurn (Client action) p q → Done action old new → Holding q new
  holds_on (Heard octets) is can did = as_before (ap (λ (m : Between). m.near) can) (ap (λ (l : Channel). l.stands) did.hears.1)
  holds_on (Says octets) is can did = as_before (ap (λ (m : Between). m.near) can) (ap (λ (l : Channel). l.stands) did.gives.channel)
  holds_on (Read octets) is can did = as_before (ap (λ (m : Between). m.near) can.1) (ap (λ o. o.channel.stands) did.owner)
  holds_on (Other (Aside (Reporting said))) is can did = as_before (ap (λ (m : Between). m.near) can) (ap (λ (l : Channel). l.stands) did.0.1)
  holds_on (Other (Aside (Starting op))) is can did = as_before (ap (λ (m : Between). m.near) can) (ap (λ (l : Channel). l.stands) did.0.1)
  holds_on (Other (Opened host (Connected endpoint left written ∷ []) at_first so_far rest)) is can did =
      record { had = λ e. did.0.1.stands; uncalled = ap (λ (m : Between). is_called m.near) can.2 }
  holds_on (Other (Refused (NotConnected endpoint ∷ []))) is can did =
      as_before (ap (λ (m : Between). m.near) can) (ap (λ (l : Channel). l.stands) did.0.1.1)
  holds_on (Other (Gave count octets rest)) is can did = as_before (ap (λ (m : Between). m.near) can) (ap (λ (l : Channel). l.stands) did.0.1.0)
  holds_on (Other (Wrote octets)) is can did = as_before (ap (λ (m : Between). m.near) can.1) did.0.1.stands
  holds_on (Other (Got octets)) is can did = as_before (ap (λ (m : Between). m.near) can.2) did.0.1.stands
  holds_on (Other (Received octets count)) is can did = as_before (ap (λ (m : Between). m.near) can) (ap (λ (l : Channel). l.stands) did.0.1.1)
  holds_on (Other End) is can did = as_before (ap (λ (m : Between). m.near) can.2) (ap (λ (l : Channel). l.stands) did.0.1.0)
  holds_on (Other (Waited lost)) is can did = as_before (ap (λ (m : Between). m.near) can) did.0.1.holds.stands
  holds_on (Other (LetGo octets)) is can did = as_before (ap (λ (m : Between). m.near) can) (ap (λ (l : Channel). l.stands) did.0.1.1)
  holds_on (Other (Left (EndedBy left written))) is can did = left_now Has_ended (ap (λ (m : Between). m.near) can.1) refl refl
  holds_on (Other (Left (Reset left written))) is can did = left_now Has_lost (ap (λ (m : Between). m.near) can.1) refl refl
  holds_on (Other (Left Shut)) is can did =
      let near : q.near ≡ p.near = ap (λ (m : Between). m.near) can in
      record {
        had = λ e. absurd (shut_stands old.owner.channel.stands old.owner.channel.left old.owner.channel.written old.owner.channel.unwritten
            (h.had (sym (ap is_had near) ∙ e)) did.0.1.ended);
        uncalled = ap is_called near ∙ h.uncalled;
      }
  holds_on (Other Closed) is can did = as_before (ap (λ (m : Between). m.near) can) (ap (λ (l : Channel). l.stands) did.0.1.0)
  holds_on (Other Failed) is can did = as_before (ap (λ (m : Between). m.near) can) (ap (λ (l : Channel). l.stands) did.0.1.0)
  holds_on (Other Break) is can did = left_now Has_lost (ap (λ (m : Between). m.near) can.1) refl refl
  holds_on action is can did = absurd is

-- ---- one after another

-- so it is of all actions
pub holding : (turns : List Turn) (between : Between) → Happened turns between
    → (server_start server : Stand server_side) (server_led : Led (server_actions turns) server_start server)
    → (client_start client : Stand client_side) (client_led : Led (client_actions turns) client_start client)
    → LosesAlong (server_actions turns) server_start server server_led → GivesAlong (client_actions turns) client_start client client_led
    → Holding between client
holding [] between happened server_start server server_led client_start client client_led takes gives = record {
  had = λ e. absurd (true≢false (sym e ∙ ap (λ (m : Between). is_had m.near) happened));
  uncalled = ap (λ (m : Between). is_called m.near) happened;
}
holding (Server action ∷ before) between happened server_start server server_led client_start client client_led takes gives =
    let h = holding before happened.0 happened.1 server_start server_led.0 server_led.1 client_start client client_led takes.0 gives in
    as_before happened.0 between client client h
    (far_near (touch_in action) happened.0 between (losing_dials action server_led.0.owner takes.1.0) happened.2) refl
holding (Client action ∷ before) between happened server_start server server_led client_start client client_led takes gives =
    let h = holding before happened.0 happened.1 server_start server server_led client_start client_led.0 client_led.1 takes gives.0 in
    holds_on happened.0 between client_led.0 client h action gives.1.0 happened.2 client_led.2
