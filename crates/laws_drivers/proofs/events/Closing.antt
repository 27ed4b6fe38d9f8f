-- A server that hears QUIT where nothing else is on its way keeps the map until its drive is over, while it closes a data connection or a port, too.
use Rattle.std.proofs.Common.{◌≡◌, inl, inr, ℕ, zero, suc, List, [], ◌∷◌, ◌++◌, drop, take, refl, sym, ap, ap₂, subst, ◌∙◌, append_assoc}
use Rattle.std.specs.Prelude.{⊤}
use Rattle.ftp_ports.specs.Asking.{Asked, Came, Connected, Ended as EndedBy, Listened, Lost, NotCame, NotConnected, Reset, Shut}
use Rattle.ftp_ports.specs.Actions.{Action, Done, Heard, Led, Other, Read, Said as Says, Stand}
use Rattle.ftp_ports.specs.Machine.{Aside, Closed, Left}
use Rattle.ftp_server_driver.specs.alone.Side.{Timed, server_side}
use Rattle.ftp_server_model.specs.Calls.{close_step}
use Rattle.ftp_server_model.specs.Machine.{IsReading, Reading, waited}
use Rattle.ftp_server_model.specs.View.{View}
use Rattle.ftp_tree.specs.Tree.{Table}
use Rattle.laws_drivers.specs.control.Alone.{ServerIsCalm}
use Rattle.laws_drivers.specs.control.Between.{Between, Can, Far as TheServer}
use Rattle.laws_drivers.specs.control.Quitting.{HappenedAlone, quit_octets, quitting}
use Rattle.laws_drivers.specs.control.Touches.{touch_of_leaving, touch_in}
use Rattle.laws_drivers.proofs.control.Quitting.{AtLine, Quits, action_keeps, keeps_at, none_waits}
use Rattle.laws_drivers.specs.events.Actions.{IsLast}
use Rattle.laws_drivers.proofs.events.Resting.{AtRest}
use Rattle.laws_drivers.proofs.events.Stands.{ServerServes}

-- ---- actions behind it

-- leaving a data connection moves no octet of the control connection
left_control : (asked : Asked) (a b : Between) → Can TheServer (touch_of_leaving asked) a b → b.control ≡ a.control
left_control (EndedBy left written) a b can = ap (λ (m : Between). m.control) can.1
left_control (Reset left written) a b can = ap (λ (m : Between). m.control) can.1
left_control (Listened port) a b can = ap (λ (m : Between). m.control) can
left_control (Came host left written) a b can = ap (λ (m : Between). m.control) can
left_control (Connected endpoint left written) a b can = ap (λ (m : Between). m.control) can
left_control NotCame a b can = ap (λ (m : Between). m.control) can
left_control (NotConnected endpoint) a b can = ap (λ (m : Between). m.control) can
left_control Shut a b can = ap (λ (m : Between). m.control) can
left_control Lost a b can = ap (λ (m : Between). m.control) can

-- between two lines it is so once a close that was wanted is done
closes_line : (table : Table) (v : View) → AtLine table v → AtLine table (close_step v)
closes_line table v at = record { ear = at.ear; waiting = at.waiting; owed = at.owed; idle = at.idle; map = at.map }

module _ (read : Reading) (reads : IsReading read) (table : Table) (old new : Stand server_side) (calm : ServerIsCalm old.owner new.owner) where
  -- a close is done
  closed_keeps : (a b : Between) → new.owner.end.server.view ≡ close_step old.owner.end.server.view
      → new.unheard ++ b.control.to_server ≡ old.unheard ++ a.control.to_server → Quits table old a → Quits table new b
  closed_keeps a b view coming (inl h) = inl (record {
    line = close_step h.line;
    at = closes_line table h.line h.at;
    front = h.front;
    octet = h.octet;
    back = h.back;
    whole = h.whole;
    coming = coming ∙ h.coming;
    view = view ∙ ap close_step h.view;
  })
  closed_keeps a b view coming (inr h) = inr (record {
    map = ap (λ (v : View). v.session.table) view ∙ h.map;
    waiting = ap (λ (v : View). v.waiting) view ∙ h.waiting;
    coming = coming ∙ h.coming;
  })

  -- each of them
  last_keeps : (action : Action server_side) → IsLast action → Done action old new → (a b : Between) → Can TheServer (touch_in action) a b → Quits table old a
      → Quits table new b
  last_keeps (Heard octets) is did a b can h = action_keeps read reads table old new calm (Heard octets) tt did a b can h
  last_keeps (Says octets) is did a b can h = action_keeps read reads table old new calm (Says octets) tt did a b can h
  last_keeps (Read octets) is did a b can h = action_keeps read reads table old new calm (Read octets) tt did a b can h
  last_keeps (Other (Aside asked)) is did a b can h = action_keeps read reads table old new calm (Other (Aside asked)) tt did a b can h
  last_keeps (Other (Left asked)) is did a b can h =
      keeps_at read reads table old new calm old.owner.end.server.view.context.moment a b (ap (λ (at : Timed). at.server.view) did.0.0)
      (ap₂ (λ u q. u ++ q) (ap (λ (s : Stand server_side). s.unheard) did.1) (ap (λ c. c.to_server) (left_control asked a b can))) h
  last_keeps (Other Closed) is did a b can h =
      let v : View = old.owner.end.server.view in
      closed_keeps a b (did.0.0.0.done calm ∙ ap (λ waits. waited waits (close_step v)) (none_waits read reads table old a h))
      (ap₂ (λ u (m : Between). u ++ m.control.to_server) (ap (λ (s : Stand server_side). s.unheard) did.1) can) h
  last_keeps action is did a b can h = absurd is

-- ---- where it was written

-- in so many of the last actions it did no more than that, and was refused nothing, and nothing failed
abbrev pub LeftSince : (count : ℕ) → (actions : List (Action server_side)) → (start now : Stand server_side) → Led actions start now → Type 0
LeftSince zero actions start now led = ⊤
LeftSince (suc count) [] start now led = ⊥
LeftSince (suc count) (action ∷ before) start now led =
    LeftSince count before start led.0 led.1 × IsLast action × ServerIsCalm led.0.owner now.owner

module _ (read : Reading) (reads : IsReading read) where
  -- what the server had done before, and that the actions after it keep the map
  pub record AtQuit (count : ℕ) (actions : List (Action server_side)) (start now : Stand server_side) (old last : Between) : Type 0 where
    pub mid : Stand server_side
    pub led : Led (drop count actions) start mid
    pub quits : (table : Table) → Quits table mid old → Quits table now last

  pub at_quit : (count : ℕ) (actions : List (Action server_side)) (start now : Stand server_side) (led : Led actions start now)
      → LeftSince count actions start now led
      → (old last : Between) → HappenedAlone (take count actions) old last → AtQuit count actions start now old last
  at_quit zero actions start now led served old last happened =
      record { mid = now; led = led; quits = λ table h. subst (Quits table now) (sym happened) h }
  at_quit (suc count) [] start now led served old last happened = absurd served
  at_quit (suc count) (action ∷ before) start now led served old last happened =
      let rest = at_quit count before start led.0 led.1 served.0 old happened.0 happened.1 in
      record {
        mid = rest.mid;
        led = rest.led;
        quits = λ table h. last_keeps read reads table led.0 now served.2 action served.1 led.2 happened.0 last happened.2 (rest.quits table h);
      }

-- a server at rest, to which nothing is on its way, hears QUIT next
pub begins_quit : (stand : Stand server_side) (between : Between) → ServerServes stand.owner → stand.unheard ++ between.control.to_server ≡ []
    → AtRest stand.owner.end.server.view → Quits stand.owner.end.server.view.session.table stand (quitting between)
begins_quit stand between serves none at = inl (record {
  line = stand.owner.end.server.view;
  at = record { ear = at.ear; waiting = serves.none_waits; owed = at.owed; idle = at.idle; map = refl };
  front = [];
  octet = 81;
  back = 85 ∷ 73 ∷ 84 ∷ 13 ∷ 10 ∷ [];
  whole = refl;
  coming = sym (append_assoc stand.unheard between.control.to_server quit_octets) ∙ ap (λ l. l ++ quit_octets) none;
  view = ap (λ e. record stand.owner.end.server.view { ear = e }) at.ear;
})
