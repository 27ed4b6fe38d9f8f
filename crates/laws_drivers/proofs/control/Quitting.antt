-- A server that hears QUIT where nothing else is on its way keeps the map until its drive is over.
use Rattle.std.proofs.Common.{◌≡◌, ◌⊎◌, inl, inr, ℕ, zero, suc, ◌≤◌, Bool, true, false, true≢false, List, [], ◌∷◌, ◌++◌, ◌||◌, ◌&&◌, not, length, drop, take, Some, None, refl, sym, ap, ap₂, subst, ◌∙◌, append_assoc, arith}
use Rattle.std.specs.Prelude.{◌-◌, if◌then◌else◌, nat_le}
use Rattle.ftp_command.specs.Line.{line_of}
use Rattle.ftp_command.specs.declared.command.Command.TheVariants as command
use Rattle.ftp_command.proofs.CarriedLemmas.{carried}
use Rattle.ftp_ports.specs.Actions.{Action, Done, Heard, HearsNext, Led, Other, Read, Said as Says, Says as SaysNext, Stand}
use Rattle.ftp_ports.specs.Machine.{Aside}
use Rattle.ftp_ends.specs.Ear.{quiet}
use Rattle.ftp_ends.specs.Octets.{has_octets}
use Rattle.ftp_ends.specs.declared.link.Wants.{Wants}
use Rattle.ftp_ends.specs.declared.link.Wants.TheVariants as Want
use Rattle.ftp_server_driver.specs.alone.Side.{Timed, ends_line, server_side}
use Rattle.ftp_server_model.specs.Calls.{clock_step, control_step, wants_of}
use Rattle.ftp_server_model.specs.InFlight.{ServerHearsLine, only_heard}
use Rattle.ftp_server_model.specs.Act.{forgets, is_in}
use Rattle.ftp_server_model.specs.Login.{quit}
use Rattle.ftp_server_model.specs.Machine.{IsReading, Reading, completed, heard_line, hears, hears_octet, is_connection_busy, is_idle, obeyed, turned, waited}
use Rattle.ftp_server_model.specs.Replies.{tells}
use Rattle.ftp_server_model.specs.declared.reply.FixedReply.TheVariants as Texts
use Rattle.ftp_server_model.specs.declared.room.TheConstants.{FREE_ROOM, OUTPUT_ROOM}
use Rattle.ftp_server_model.specs.declared.session.Pending.TheVariants as Pendings
use Rattle.ftp_server_model.specs.View.{Session, Transfer, View}
use Rattle.ftp_server_model.specs.declared.heard.HeardLine.TheVariants.{Asks}
use Rattle.ftp_server_model.specs.declared.session.ServerLink.{ServerLink}
use Rattle.ftp_server_model.specs.declared.session.ServerLink.TheVariants as Data
use Rattle.ftp_server_model.specs.declared.session.Transfer.TheVariants as Transfers
use Rattle.ftp_server_model.specs.declared.session.Way.TheVariants as Ways
use Rattle.ftp_server_model.proofs.CommandsInFlight.{command_is_heard, in_pieces, line_is_heard}
use Rattle.ftp_tree.specs.Tree.{Table}
use Rattle.laws_drivers.specs.control.Alone.{IsServingAlone, ServerIsCalm, ServesAlone}
use Rattle.laws_drivers.specs.control.Between.{Between, Can, Far as TheServer}
use Rattle.laws_drivers.specs.control.Quitting.{HappenedAlone, ServedAndLeft, quit_octets}
use Rattle.laws_drivers.specs.control.Touches.{touch_in}
use Rattle.laws_drivers.proofs.control.ServerSteps.{HearsAt, hears_at}

-- ---- QUIT is heard

-- nothing is wanted
is_nothing : Wants → Bool
is_nothing Want.Nothing = true
is_nothing wants = false

-- a data connection that asks for nothing is not busy
pub not_busy : (connection : ServerLink Transfer) → wants_of connection ≡ Want.Nothing → is_connection_busy connection ≡ false
unfolding is_nothing
not_busy (Data.Asked asked) e = absurd (true≢false (sym (ap is_nothing e)))
not_busy (Data.Opening transfer Ways.Accept) e = absurd (true≢false (sym (ap is_nothing e)))
not_busy (Data.Opening transfer (Ways.Connect endpoint)) e = absurd (true≢false (sym (ap is_nothing e)))
not_busy (Data.Transferring (Transfers.Upload path keep d)) e = absurd (true≢false (sym (ap is_nothing e)))
not_busy (Data.Transferring Transfers.OverLimit) e = absurd (true≢false (sym (ap is_nothing e)))
not_busy (Data.Transferring (Transfers.Download rest)) e = absurd (true≢false (sym (ap is_nothing e)))
not_busy (Data.Transferring (Transfers.Listing rest)) e = absurd (true≢false (sym (ap is_nothing e)))
not_busy connection e = refl

-- between two lines, owing nothing, with this map
pub record AtLine (table : Table) (v : View) : Type 0 where
  pub ear : v.ear ≡ quiet
  pub waiting : v.waiting ≡ None
  pub owed : v.owed ≡ []
  pub idle : is_connection_busy v.session.connection ≡ false
  pub map : v.session.table ≡ table

-- QUIT needs no login
allowed : (is_in : Bool) → (is_in || true) ≡ true
allowed true = refl
allowed false = refl

-- what QUIT leaves
record HasQuit (v new : View) : Type 0 where
  pub table : new.session.table ≡ v.session.table
  pub waiting : new.waiting ≡ None

-- QUIT acted on keeps the map, and no line waits
quit_keeps : (v : View) → is_connection_busy v.session.connection ≡ false → v.owed ≡ [] → HasQuit v (heard_line (Asks command.Quit) v)
unfolding obeyed
quit_keeps v idle owed =
    let u : View = record v { waiting = Some (Asks command.Quit) } in
    let now : View = record v { waiting = None } in
    let s : Session = record v.session { pending = Pendings.Nothing } in
    let may : is_idle u ≡ true = ap₂ (λ b o. not b && nat_le (length o) (OUTPUT_ROOM - FREE_ROOM)) idle owed in
    let done : HasQuit v (completed (turned (quit s) now)) = record { table = refl; waiting = refl } in
    let obeys : HasQuit v (obeyed (Asks command.Quit) now) =
    subst (λ b. HasQuit v (completed (turned (if b then quit s else tells Texts.NotLoggedIn (forgets command.Quit s)) now)))
    (sym (allowed (is_in s.access))) done in
    subst (λ b. HasQuit v (if b then obeyed (Asks command.Quit) now else u)) (sym may) obeys

-- none of none
drop_none : (count : ℕ) (owed : List ℕ) → owed ≡ [] → drop count owed ≡ []
drop_none zero owed e = e
drop_none (suc count) [] e = refl
drop_none (suc count) (octet ∷ owed) e = absurd (true≢false (ap has_octets e))

-- ---- the server's actions after it was written

-- a part of it is heard, and the rest is coming
pub record Hearing (table : Table) (stand : Stand server_side) (between : Between) : Type 0 where
  pub line : View
  pub at : AtLine table line
  pub front : List ℕ
  pub octet : ℕ
  pub back : List ℕ
  pub whole : front ++ octet ∷ back ≡ quit_octets
  pub coming : stand.unheard ++ between.control.to_server ≡ octet ∷ back
  pub view : stand.owner.end.server.view ≡ only_heard line front

-- all of it was heard, and nothing is coming
pub record HasHeard (table : Table) (stand : Stand server_side) (between : Between) : Type 0 where
  pub map : stand.owner.end.server.view.session.table ≡ table
  pub waiting : stand.owner.end.server.view.waiting ≡ None
  pub coming : stand.unheard ++ between.control.to_server ≡ []

-- one of both
abbrev pub Quits : Table → Stand server_side → Between → Type 0
Quits table stand between = Hearing table stand between ⊎ HasHeard table stand between

-- a line that is heard in part and owes nothing owes nothing after it said some
line_says : (table : Table) (count : ℕ) (v : View) → AtLine table v → AtLine table (control_step count v)
line_says table count v at = record {
  ear = at.ear;
  waiting = at.waiting;
  owed = drop_none count v.owed at.owed;
  idle = at.idle;
  map = at.map;
}

-- so it is at any moment
line_at : (table : Table) (moment : ℕ) (v : View) → AtLine table v → AtLine table (clock_step moment v)
line_at table moment v at = record { ear = at.ear; waiting = at.waiting; owed = at.owed; idle = at.idle; map = at.map }

-- the next octet of octets
next_of : (octet : ℕ) (rest back : List ℕ) (other : ℕ) → octet ∷ rest ≡ other ∷ back → (octet ≡ other) × (rest ≡ back)
next_of octet rest back other e = (ap (head_or 0) e, ap (drop 1) e)
  where
    head_or : ℕ → List ℕ → ℕ
    head_or n [] = n
    head_or n (x ∷ xs) = x

module _ (read : Reading) (reads : IsReading read) (table : Table) where
  -- the last octet is heard, or another
  hears_part : (line : View) → AtLine table line → (front : List ℕ) (octet : ℕ) (back : List ℕ) → front ++ octet ∷ back ≡ quit_octets
      → (new : Stand server_side) (between : Between) → new.unheard ++ between.control.to_server ≡ back
      → new.owner.end.server.view ≡ hears_octet read (only_heard line front) octet → Quits table new between
  hears_part line at front octet back whole new between coming view = by back whole coming
    where
      heard : ServerHearsLine read (line_of command.Quit) line
      heard = line_is_heard read (line_of command.Quit) line (carried command.Quit tt tt) at.ear

      is : (rest : List ℕ) → front ++ octet ∷ rest ≡ quit_octets → new.owner.end.server.view ≡ hears read line (front ++ octet ∷ [])
      is rest whole = view ∙ ap (λ v. hears_octet read v octet) (sym (heard.cut front rest octet whole)) ∙ sym (in_pieces read line front (octet ∷ []))

      by : (back : List ℕ) → front ++ octet ∷ back ≡ quit_octets → new.unheard ++ between.control.to_server ≡ back → Quits table new between
      by [] whole coming =
          let all = is [] whole ∙ ap (hears read line) whole ∙ command_is_heard read command.Quit line reads tt tt at.ear in
          let keeps = quit_keeps line at.idle at.owed in
          inr (record {
            map = ap (λ (v : View). v.session.table) all ∙ keeps.table ∙ at.map;
            waiting = ap (λ (v : View). v.waiting) all ∙ keeps.waiting;
            coming = coming;
          })
      by (next ∷ back) whole coming =
          let longer : (front ++ octet ∷ []) ++ next ∷ back ≡ quit_octets = append_assoc front (octet ∷ []) (next ∷ back) ∙ whole in
          inl (record {
            line = line;
            at = at;
            front = front ++ octet ∷ [];
            octet = next;
            back = back;
            whole = longer;
            coming = coming;
            view = is (next ∷ back) whole ∙ heard.cut (front ++ octet ∷ []) back next longer;
          })

  -- no line waits
  pub none_waits : (stand : Stand server_side) (between : Between) → Quits table stand between → stand.owner.end.server.view.waiting ≡ None
  none_waits stand between (inl hearing) = ap (λ (v : View). v.waiting) hearing.view ∙ hearing.at.waiting
  none_waits stand between (inr heard) = heard.waiting

  module _ (old new : Stand server_side) (calm : ServerIsCalm old.owner new.owner) where
    -- nothing is heard but, maybe, the moment, and nothing of it comes or goes
    pub keeps_at : (moment : ℕ) (a b : Between) → new.owner.end.server.view ≡ clock_step moment old.owner.end.server.view
        → new.unheard ++ b.control.to_server ≡ old.unheard ++ a.control.to_server → Quits table old a → Quits table new b
    keeps_at moment a b view coming (inl h) = inl (record {
      line = clock_step moment h.line;
      at = line_at table moment h.line h.at;
      front = h.front;
      octet = h.octet;
      back = h.back;
      whole = h.whole;
      coming = coming ∙ h.coming;
      view = view ∙ ap (clock_step moment) h.view;
    })
    keeps_at moment a b view coming (inr h) = inr (record {
      map = ap (λ (v : View). v.session.table) view ∙ h.map;
      waiting = ap (λ (v : View). v.waiting) view ∙ h.waiting;
      coming = coming ∙ h.coming;
    })

    -- octets are said
    says : (octets : List ℕ) (a b : Between) → SaysNext octets old new → b.control.to_server ≡ a.control.to_server → Quits table old a → Quits table new b
    says octets a b did queue h = by h
      where
        is : new.owner.end.server.view ≡ control_step did.gives.count old.owner.end.server.view
        is = did.gives.gave.0.done calm ∙ ap (λ waits. waited waits (control_step did.gives.count old.owner.end.server.view)) (none_waits old a h)

        coming : new.unheard ++ b.control.to_server ≡ old.unheard ++ a.control.to_server
        coming = ap₂ (λ u q. u ++ q) did.unheard queue

        by : Quits table old a → Quits table new b
        by (inl h) = inl (record {
          line = control_step did.gives.count h.line;
          at = line_says table did.gives.count h.line h.at;
          front = h.front;
          octet = h.octet;
          back = h.back;
          whole = h.whole;
          coming = coming ∙ h.coming;
          view = is ∙ ap (control_step did.gives.count) h.view;
        })
        by (inr h) = inr (record {
          map = ap (λ (v : View). v.session.table) is ∙ h.map;
          waiting = ap (λ (v : View). v.waiting) is ∙ h.waiting;
          coming = coming ∙ h.coming;
        })

    -- octets are heard
    heard_next : (octets : List ℕ) (a : Between) → HearsNext octets old new → Quits table old a → Quits table new a
    heard_next [] a did h =
        let heard = hears_at read reads (ends_line old.unheard) [] old.owner.end new.owner.end did.hears.0.1 calm (none_waits old a h) in
        keeps_at heard.moment a a heard.is (ap (λ u. u ++ a.control.to_server) (sym did.next)) h
    heard_next (octet ∷ []) a did h =
        let heard = hears_at read reads (ends_line old.unheard) (octet ∷ []) old.owner.end new.owner.end did.hears.0.1 calm (none_waits old a h) in by heard h
      where
        queue : old.unheard ++ a.control.to_server ≡ octet ∷ (new.unheard ++ a.control.to_server)
        queue = ap (λ u. u ++ a.control.to_server) did.next

        by : HearsAt read (octet ∷ []) old.owner.end.server.view new.owner.end.server.view → Quits table old a → Quits table new a
        by heard (inl h) =
            let first = next_of octet (new.unheard ++ a.control.to_server) h.back h.octet (sym queue ∙ h.coming) in
            hears_part (clock_step heard.moment h.line) (line_at table heard.moment h.line h.at) h.front h.octet h.back h.whole new a first.1
            (heard.is ∙ ap₂ (λ v x. hears_octet read (clock_step heard.moment v) x) h.view first.0)
        by heard (inr h) = absurd (true≢false (ap has_octets (sym queue ∙ h.coming)))
    heard_next (octet ∷ next ∷ octets) a did h = absurd (too_many octets did.hears.0.0)
      where
        too_many : (octets : List ℕ) → suc (suc (length octets)) ≤ 1 → ⊥
        too_many octets few = omega (arith, few)

    -- an action
    pub action_keeps : (action : Action server_side) → IsServingAlone action → Done action old new → (a b : Between) → Can TheServer (touch_in action) a b → Quits table old a
        → Quits table new b
    action_keeps (Heard octets) is did a b can h = subst (Quits table new) (sym can) (heard_next octets a did h)
    action_keeps (Says octets) is did a b can h = says octets a b did (ap (λ (m : Between). m.control.to_server) can) h
    action_keeps (Read octets) is did a b can h =
        keeps_at old.owner.end.server.view.context.moment a b (ap (λ o. o.end.server.view) did.owner)
        (ap (λ u. u ++ b.control.to_server) did.unheard ∙ sym can.0 ∙ ap (λ u. u ++ a.control.to_server) (sym did.heard)) h
    action_keeps (Other (Aside tt)) is did a b can h =
        keeps_at old.owner.end.server.view.context.moment a b (ap (λ (at : Timed). at.server.view) did.0.0.0)
        (ap₂ (λ (s : Stand server_side) (m : Between). s.unheard ++ m.control.to_server) did.1 can) h
    action_keeps action is did a b can h = absurd is

module _ (read : Reading) (reads : IsReading read) where
  -- what is so where QUIT was written
  pub record AtQuit (count : ℕ) (actions : List (Action server_side)) (start now : Stand server_side) (old last : Between) : Type 0 where
    pub mid : Stand server_side
    pub led : Led (drop count actions) start mid
    pub serves : ServesAlone (drop count actions) start mid led
    pub quits : (table : Table) → Quits table mid old → Quits table now last

  -- the actions after it keep that
  pub at_quit : (count : ℕ) (actions : List (Action server_side)) (start now : Stand server_side) (led : Led actions start now)
      → ServedAndLeft count actions start now led
      → (old last : Between) → HappenedAlone (take count actions) old last → AtQuit count actions start now old last
  at_quit zero actions start now led served old last happened =
      record { mid = now; led = led; serves = served; quits = λ table h. subst (Quits table now) (sym happened) h }
  at_quit (suc count) [] start now led served old last happened = absurd served
  at_quit (suc count) (action ∷ before) start now led served old last happened =
      let rest = at_quit count before start led.0 led.1 served.0 old happened.0 happened.1 in
      record {
        mid = rest.mid;
        led = rest.led;
        serves = rest.serves;
        quits = λ table h. action_keeps read reads table led.0 now served.2 action served.1 led.2 happened.0 last happened.2 (rest.quits table h);
      }
