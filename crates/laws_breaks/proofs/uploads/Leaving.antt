-- A client that has still to leave a data connection of which the server was told that it broke: it wrote not all, or did not end it yet. A world is beside one
-- that has left it; what the drive's client does to it is of no matter there.
use Rattle.std.proofs.Common.{◌≡◌, ◌⊎◌, inl, inr, ℕ, Bool, true, false, true≢false, List, [], ◌∷◌, ◌++◌, Option, None, refl, sym, ap, ap₂, subst, ◌∙◌, append-nil}
use Rattle.ftp_ports.specs.Asking.{Asked, Connected, Ended as EndedBy, NotConnected, Reset, Shut}
use Rattle.ftp_ports.specs.Actions.{Calls, Action, Done, Heard, Other, Read, Said as Says, Stand, with_owner}
use Rattle.ftp_ports.specs.Channel.{IsEnded, IsLeft, Channel, no_channel}
use Rattle.ftp_ports.specs.Machine.{Aside, Break, Closed, End, Failed, Gave, Got, Held, Left, LetGo, Opened, Received, Refused, Waited, Wrote, seen}
use Rattle.ftp_ports.specs.declared.whole.Fate.TheVariants as Fates
use Rattle.ftp_client_driver.specs.Side.{Reporting, Starting, client_side}
use Rattle.ftp_client_model.specs.Calls as near
use Rattle.ftp_client_model.specs.Failing.{Client}
use Rattle.ftp_client_model.specs.View.{View as Near}
use Rattle.ftp_ends.specs.declared.link.Wants.{Wants}
use Rattle.ftp_ends.specs.declared.link.Wants.TheVariants as Want
use Rattle.ftp_server_driver.specs.alone.Side.{server_side}
use Rattle.ftp_server_model.specs.Machine.{IsReading, Reading}
use Rattle.ftp_server_model.specs.View.{Transfer, View as Far}
use Rattle.ftp_server_model.specs.declared.session.ServerLink.{ServerLink}
use Rattle.ftp_server_model.specs.declared.session.ServerLink.TheVariants as Data
use Rattle.laws_world.specs.Claims.{Beginning, IsFair}
use Rattle.laws_world.specs.World.{World}
use Rattle.laws_drivers.specs.control.Alone.{reports_of, reports_in}
use Rattle.laws_drivers.specs.events.Moments.{AreMoments, begun_at, begun_by, number_in}
use Rattle.laws_drivers.specs.control.Between.{Between, CanTurn, Client as ByClient, Has, Has_ended, Has_lost, Hold, Is_called}
use Rattle.laws_drivers.proofs.control.Taken.{taken, taken_wants}
use Rattle.laws_drivers.specs.world.Ahead.{is_open}
use Rattle.laws_drivers.proofs.events.FarForms.{told_passive}
use Rattle.laws_drivers.proofs.events.Holding.{both, is_called, is_false, is_had, unclosed}
use Rattle.laws_drivers.proofs.events.NearForms.{no_close}
use Rattle.laws_drivers.proofs.events.Plain.{IsPlainBy, IsPlainly}
use Rattle.laws_transfers.specs.Ahead.{Ahead, Level, Listens, Opens, Parted}
use Rattle.laws_transfers.proofs.Beside.{Together, is_taking}
use Rattle.laws_transfers.proofs.ClientStays.{client_keeps}
use Rattle.laws_transfers.proofs.Known.{AreCarried, Known, is_giving, is_near_held}
use Rattle.laws_transfers.proofs.Simulating.{known}
use Rattle.laws_breaks.specs.downloads.Actions.{IsSuffering, MayMarkBreak}
use Rattle.laws_breaks.proofs.downloads.Faults.{closing_same}
use Rattle.laws_breaks.proofs.downloads.Lagging.{OfMarks, Then, Whole, feeding_at}
use Rattle.laws_breaks.proofs.downloads.Simulating.{steps_on}
use Rattle.laws_breaks.proofs.downloads.Steps.{Again, idle_again, same_again}
use Rattle.laws_breaks.proofs.downloads.Unsent.{AskAll, Unsent, all_carried}
use Rattle.laws_breaks.specs.uploads.Actions.{ClientGives}
use Rattle.laws_breaks.proofs.uploads.Seen.{dry, is_left}

-- ---- one that has left it

-- it has no data connection
abbrev pub gone_held : Held Client → Held Client
gone_held at = record at { channel = no_channel None }

abbrev pub gone : Stand client_side → Stand client_side
gone client = with_owner (gone_held client.owner) client

-- it has it no more
abbrev pub out_hold : Hold → Hold
out_hold Has_ended = Has_ended
out_hold hold = Has_lost

pub out_had : (hold : Hold) → is_had (out_hold hold) ≡ false
out_had Has_ended = refl
out_had hold = refl

-- and nothing of it goes to the server
abbrev pub lost : Between → Between
lost m = record m { near = out_hold m.near; data_ways = record m.data_ways { to_server = [] } }

-- a call that leaves what is heard and said
besides : (old new : Stand client_side) → new ≡ with_owner new.owner old → gone new ≡ with_owner (gone_held new.owner) (gone old)
besides old new is = ap (with_owner (gone_held new.owner)) is

-- where the end is the same so is one that has left
gone_same : (old new : Stand client_side) → new ≡ with_owner new.owner old → new.owner.end ≡ old.owner.end → gone new ≡ gone old
gone_same old new is end = ap gone is ∙ ap (λ e. with_owner (record { end = e; channel = no_channel None }) old) end

-- it has no more to give
abbrev pub is_send : Wants → Bool
is_send Want.Send = true
is_send other = false

pub seen_none : (q : Wants) → is_send q ≡ false → no_channel None ≡ seen q (no_channel None)
seen_none Want.Send e = absurd (true≢false e)
seen_none Want.Nothing e = refl
seen_none Want.Listen e = refl
seen_none Want.Accept e = refl
seen_none (Want.Connect endpoint) e = refl
seen_none Want.Receive e = refl
seen_none Want.CloseData e = refl
seen_none Want.CloseAll e = refl

-- a server that gives has it open
giving_open : (link : ServerLink Transfer) → is_giving link ≡ true → is_open link ≡ true
giving_open (Data.Transferring transfer) e = refl
giving_open link e = absurd (true≢false (sym e))

-- what stands is not left by its port
pub shut_stands : (stands : Bool) (left written : Option (List ℕ)) (unwritten : List ℕ) → stands ≡ true → IsEnded stands left written unwritten Shut → ⊥
shut_stands true left written unwritten e (inl ended) = true≢false (ap is_shut ended.1)
  where
    is_shut : Asked → Bool
    is_shut Shut = true
    is_shut asked = false
shut_stands true left written unwritten e (inr reset) = true≢false (ap is_shut reset)
  where
    is_shut : Asked → Bool
    is_shut Shut = true
    is_shut asked = false
shut_stands false left written unwritten e shut = true≢false (sym e)

left_had : (hold : Hold) → is_left hold ≡ true → is_had hold ≡ false
left_had Has e = absurd (true≢false (sym e))
left_had hold e = refl

left_called : (hold : Hold) → is_left hold ≡ true → is_called hold ≡ false
left_called Has e = absurd (true≢false (sym e))
left_called Is_called e = absurd (true≢false (sym e))
left_called hold e = refl

module _ (read : Reading) (reads : IsReading read) (moments : ℕ → ℕ) (timed : AreMoments moments) (b : Beginning) (fair : IsFair b) where
  abbrev W : (Are : OfMarks) (actions : List (Action client_side)) (between : Between) (count : ℕ) (server : Stand server_side) (client : Stand client_side)
      → Type 0
  W Are actions between count server client = Whole read reads moments timed b fair Are actions between count server client

  -- a world is beside one that has left its data connection, of which the server has none
  pub record Leaves (Are : OfMarks) (actions : List (Action client_side)) (between : Between) (count : ℕ) (server : Stand server_side)
      (client : Stand client_side) : Type 0 where
    pub whole : W Are actions (lost between) count server (gone client)
    pub stands : client.owner.channel.stands ≡ true
    pub far : is_left between.far ≡ true

  -- nothing is left of its data connection, and a world that saw it lie dry is beside it
  pub record HasLeft (Are : OfMarks) (actions : List (Action client_side)) (between : Between) (count : ℕ) (server : Stand server_side)
      (client : Stand client_side) : Type 0 where
    pub whole : W Are actions (dry between) count server client
    pub near : is_left between.near ≡ true
    pub far : is_left between.far ≡ true
    pub written : client.owner.channel.unwritten ≡ []

  module _ {Are : OfMarks} (actions : List (Action client_side)) (puts : AskAll (begun_at moments actions)) (p q : Between) (count : ℕ)
      (server : Stand server_side) (old new : Stand client_side) (l : Leaves Are actions p count server old) where
    abbrev o : W Are actions (lost p) count server (gone old)
    o = l.whole

    abbrev w : World
    w = o.at.world

    abbrev t : Together read (begun_at moments actions) o.at.last o.at.ahead (lost p) count server (gone old) (reports_in actions) w
    t = o.at.together

    abbrev v : Near
    v = old.owner.end.view

    carried : AreCarried (begun_at moments actions)
    carried = all_carried (begun_at moments actions) puts

    known_now : Known w
    known_now = known read reads moments timed b fair actions (lost p) count server (gone old) _ o.at carried

    not_held : is_near_held w.link ≡ false
    not_held = is_false (is_near_held w.link) (λ e. both (t.keeping.had e) (out_had p.near))

    -- the server has none open
    pub far_shut : is_open w.far.session.connection ≡ false
    far_shut = by o.at.ahead t
      where
        by : (ahead : Ahead) → Together read (begun_at moments actions) o.at.last ahead (lost p) count server (gone old) (reports_in actions) w
            → is_open w.far.session.connection ≡ false
        by Level s =
            ap (λ (f : Far). is_open f.session.connection) s.beside.far
            ∙ is_false (is_open server.owner.end.server.view.session.connection) (λ e. both (s.holds.had e) (left_had p.far l.far))
        by Opens s = absurd (both (s.holds.opened refl) (left_called p.far l.far))
        by (Listens port) s =
            ap (λ (f : Far). is_open f.session.connection) s.beside.far
            ∙ ap is_open (told_passive server.owner.end.server.view.session.connection s.beside.fits port server.owner.end.server.view)
        by (Parted accepted) s = ap (λ (f : Far). is_open f.session.connection) s.beside.far

    -- it gives and takes none
    no_send : near.wants v ≡ Want.Send → ⊥
    no_send wants =
        let open_now : v.closing ≡ false = no_close v Want.Send wants refl in
        let taken_is : w.near ≡ taken v = t.beside.near ∙ unclosed (taken v) open_now in
        both (ap is_near_held (known_now.sends (ap near.wants taken_is ∙ taken_wants v ∙ wants)).link) not_held

    no_receive : near.wants v ≡ Want.Receive → ⊥
    no_receive wants =
        let there = feeding_at read reads moments timed b fair actions puts (lost p) count server (gone old) o.at o.unsent wants in
        elim there.1.far [
          | inl free ↦ both (ap is_near_held (known_now.down (ap near.wants there.0 ∙ wants) far_shut)) not_held
          | inr going ↦ elim going.1 [
            | inl gives ↦ both (giving_open w.far.session.connection gives) far_shut
            | inr ready ↦ both (ap is_open ready.0) far_shut
          ]
        ]

    not_sends : is_send (near.wants v) ≡ false
    not_sends = by (near.wants v) refl
      where
        by : (q : Wants) → near.wants v ≡ q → is_send q ≡ false
        by Want.Send is = absurd (no_send is)
        by q is = refl

    -- ---- it goes on so

    on : (action : Action client_side) → W (Then action old.owner Are) (action ∷ actions) (lost q) count server (gone new) → new.owner.channel.stands ≡ old.owner.channel.stands
        → is_left q.far ≡ true → Leaves (Then action old.owner Are) (action ∷ actions) q count server new
    on action whole stands far = record { whole = whole; stands = stands ∙ l.stands; far = far }

    -- nothing is done of one that has left
    idles : (action : Action client_side) → new ≡ with_owner new.owner old → new.owner.end ≡ old.owner.end → lost q ≡ lost p
        → begun_by (moments (number_in actions)) action ≡ [] → reports_of action ≡ [] → MayMarkBreak action old.owner o.marks o.marks
        → new.owner.channel.stands ≡ old.owner.channel.stands → is_left q.far ≡ true → Leaves (Then action old.owner Are) (action ∷ actions) q count server new
    idles action is end ways begins reports marks stands far =
        let got = idle_again read reads moments timed b fair action actions o.at begins reports in
        let whole : W (Then action old.owner Are) (action ∷ actions) (lost p) count server (gone old) =
        record { at = got.0; marks = o.marks; are_marks = (o.marks, o.are_marks, marks); marked = got.1 ∙ o.marked; unsent = o.unsent } in
        on action
        (subst (λ (m : Between). W (Then action old.owner Are) (action ∷ actions) m count server (gone new)) (sym ways)
        (subst (λ (c : Stand client_side). W (Then action old.owner Are) (action ∷ actions) (lost p) count server c)
        (sym (gone_same old new is end)) whole)) stands far

    -- one that has left does nothing as the drive's leaves its data connection
    after_left : (asked : Asked) → Again read reads moments timed b fair (Other (Left asked) ∷ actions) (lost p) count server (gone old) w.marks
    after_left asked = idle_again read reads moments timed b fair (Other (Left asked)) actions o.at refl refl

    after_marked : (asked : Asked) → (after_left asked).0.world.marks ≡ o.marks
    after_marked asked = (after_left asked).1 ∙ o.marked

    -- it leaves its data connection
    left_on : (asked : Asked) → Calls {side = client_side} (Left asked) old new → q.control ≡ p.control → q.far ≡ p.far → is_left q.near ≡ true
        → HasLeft (Then (Other (Left asked)) old.owner Are) (Other (Left asked) ∷ actions) q count server new
    left_on asked did control hold out =
        let channel : IsLeft asked old.owner.channel new.owner.channel = did.0.1 in
        let got = after_left asked in
        let dead : is_taking new.owner.channel ≡ false = ap (λ s. is_taking (record new.owner.channel { stands = s })) channel.stands in
        let view : new.owner.end.view ≡ v = ap (λ c. c.view) did.0.0 in
        let then_known = known read reads moments timed b fair (Other (Left asked) ∷ actions) (lost p) count server (gone old) _ got.0
        (all_carried (begun_at moments (Other (Left asked) ∷ actions)) (asked_too asked)) in
        let there = same_again read reads moments timed b fair (Other (Left asked) ∷ actions) got.0 got.0.world.marks (dry q) new
        (client_keeps read (begun_at moments (Other (Left asked) ∷ actions)) server (gone old) new (reports_in (Other (Left asked) ∷ actions)) got.0.world
        (ap (λ c. c.refusals) did.0.0) then_known got.0.last got.0.ahead (lost p) (dry q) count got.0.together view
        (ap (λ c. c.to_server) control)
        (ap₂ (λ (y : Stand client_side) c. y.unheard ++ c.to_client) (sym did.1) (sym control))
        (ap (λ o. server.owner.channel.untold ++ ([] ++ o)) (sym channel.unwritten)) (λ e. absurd (both e dead)) hold
        (record { bare = λ e. channel.untold }) (record { spare = λ e. channel.unwritten; bare = λ e. channel.unwritten })
        (λ e. absurd (both (got.0.together.keeping.had e) (out_had p.near)))
        (λ e. is_false (is_near_held got.0.world.link) (λ h. both (got.0.together.keeping.had h) (out_had p.near))))
        (ap (λ (n : Near). near.is_sound n.standing) view ∙ o.at.sound) (subst IsPlainly (sym view) o.at.plain)
        (λ called. absurd (both called (ap is_called hold ∙ left_called p.far l.far))) in
        record {
          whole = record {
            at = there.0;
            marks = o.marks;
            are_marks = (o.marks, o.are_marks, refl);
            marked = there.1 ∙ after_marked asked;
            unsent = subst (IsPlainBy Unsent) (sym view) o.unsent;
          };
          near = out;
          far = ap is_left hold ∙ l.far;
          written = channel.unwritten;
        }
      where
        asked_too : (asked : Asked) → AskAll (begun_at moments (Other (Left asked) ∷ actions))
        asked_too asked = subst AskAll (sym (append-nil (begun_at moments actions))) puts

    -- ---- each action of the client

    pub leave_step : (action : Action client_side) → ClientGives action old.owner new.owner → CanTurn (ByClient action) p q → Done action old new
        → Leaves (Then action old.owner Are) (action ∷ actions) q count server new ⊎ HasLeft (Then action old.owner Are) (action ∷ actions) q count server new
    leave_step (Heard octets) is can did =
        let none : no_channel None ≡ seen (near.wants v) (no_channel None) = seen_none (near.wants v) not_sends in
        inl (on (Heard octets)
        (steps_on read reads moments timed b fair actions carried (lost p) (lost q) count server (gone old) (gone new) o (Heard octets) tt (tt, is.1)
        (tt, is.1) refl
        (ap lost can) (record { hears = (did.hears.0, none, did.hears.2); next = did.next; left = did.left; written = did.written }))
        (ap (λ (x : Channel). x.stands) did.hears.1) (ap (λ (m : Between). is_left m.far) can ∙ l.far))
    leave_step (Says octets) is can did =
        inl (on (Says octets)
        (steps_on read reads moments timed b fair actions carried (lost p) (lost q) count server (gone old) (gone new) o (Says octets) tt (tt, is.1)
        (tt, is.1) refl
        (ap lost can) (record {
          gives = record { count = did.gives.count; owed = did.gives.owed; gave = did.gives.gave; channel = refl };
          wrote = did.wrote;
          left = did.left;
          unheard = did.unheard;
        })) (ap (λ (x : Channel). x.stands) did.gives.channel) (ap (λ (m : Between). is_left m.far) can ∙ l.far))
    leave_step (Read octets) is can did =
        inl (on (Read octets)
        (steps_on read reads moments timed b fair actions carried (lost p) (lost q) count server (gone old) (gone new) o (Read octets) tt (tt, is.1)
        (tt, is.1) refl
        (can.0, ap lost can.1) (record {
          due = did.due;
          owner = ap gone_held did.owner;
          heard = did.heard;
          read = did.read;
          ended = did.ended;
          unheard = did.unheard;
          written = did.written;
        })) (ap (λ x. x.channel.stands) did.owner) (ap (λ (m : Between). is_left m.far) can.1 ∙ l.far))
    leave_step (Other (Aside (Reporting said))) is can did =
        inl (on (Other (Aside (Reporting said)))
        (steps_on read reads moments timed b fair actions carried (lost p) (lost q) count server (gone old) (gone new) o (Other (Aside (Reporting said))) tt
        (tt, is.1) (tt, is.1) refl (ap lost can) ((did.0.0, refl, did.0.2), besides old new did.1))
        (ap (λ (x : Channel). x.stands) did.0.1) (ap (λ (m : Between). is_left m.far) can ∙ l.far))
    leave_step (Other (Aside (Starting op))) is can did =
        inl (on (Other (Aside (Starting op)))
        (steps_on read reads moments timed b fair actions carried (lost p) (lost q) count server (gone old) (gone new) o (Other (Aside (Starting op))) tt
        (is.0.0, is.1) (is.0.0, is.1) refl (ap lost can) ((did.0.0, refl, did.0.2), besides old new did.1))
        (ap (λ (x : Channel). x.stands) did.0.1) (ap (λ (m : Between). is_left m.far) can ∙ l.far))
    leave_step (Other (Refused (NotConnected endpoint ∷ []))) is can did =
        inl (on (Other (Refused (NotConnected endpoint ∷ [])))
        (steps_on read reads moments timed b fair actions carried (lost p) (lost q) count server (gone old) (gone new) o
        (Other (Refused (NotConnected endpoint ∷ []))) tt (tt, is.1) (tt, is.1) refl (ap lost can) ((did.0.0, (tt, refl), did.0.2), besides old new did.1))
        (ap (λ (x : Channel). x.stands) did.0.1.1) (ap (λ (m : Between). is_left m.far) can ∙ l.far))
    leave_step (Other (Opened host (Connected endpoint left written ∷ []) at_first so_far rest)) is can did = absurd (both l.stands did.0.1.none)
    leave_step (Other (Gave some octets rest)) is can did = absurd (no_send did.0.2)
    leave_step (Other (Got octets)) is can did = absurd (no_receive did.0.2)
    leave_step (Other (Received octets some)) is can did = absurd (no_receive did.0.2.1)
    leave_step (Other End) is can did = absurd (no_receive did.0.2)
    leave_step (Other (Wrote octets)) is can did =
        inl (idles (Other (Wrote octets)) did.1 did.0.0 (ap lost can.1) refl refl refl did.0.1.stands (ap (λ (m : Between). is_left m.far) can.1 ∙ l.far))
    leave_step (Other (Waited other)) is can did =
        inl (idles (Other (Waited other)) did.1 did.0.0 (ap lost can) refl refl refl did.0.1.holds.stands (ap (λ (m : Between). is_left m.far) can ∙ l.far))
    leave_step (Other (LetGo octets)) is can did =
        inl (idles (Other (LetGo octets)) did.1 did.0.0.0 (ap lost can) refl refl refl (ap (λ (x : Channel). x.stands) did.0.1.1)
        (ap (λ (m : Between). is_left m.far) can ∙ l.far))
    leave_step (Other Failed) is can did =
        inl (idles (Other Failed) did.1 did.0.0 (ap lost can) refl refl refl (ap (λ (x : Channel). x.stands) did.0.1.0)
        (ap (λ (m : Between). is_left m.far) can ∙ l.far))
    leave_step (Other (Left (EndedBy left written))) is can did =
        inr (left_on (EndedBy left written) did (ap (λ (m : Between). m.control) can.1) (ap (λ (m : Between). m.far) can.1)
        (ap (λ (m : Between). is_left m.near) can.1))
    leave_step (Other (Left (Reset left written))) is can did =
        inr (left_on (Reset left written) did (ap (λ (m : Between). m.control) can.1) (ap (λ (m : Between). m.far) can.1)
        (ap (λ (m : Between). is_left m.near) can.1))
    leave_step (Other (Left Shut)) is can did =
        absurd (shut_stands old.owner.channel.stands old.owner.channel.left old.owner.channel.written old.owner.channel.unwritten l.stands did.0.1.ended)
    leave_step (Other Closed) is can did = absurd (both l.stands did.0.1.1)
    leave_step (Other Break) is can did = by is.0
      where
        closes : v.closing ≡ true → Leaves (Then (Other Break) old.owner Are) (Other Break ∷ actions) q count server new
        closes closing =
            let view : new.owner.end.view ≡ v = did.0.0.0.0 is.1 ∙ closing_same v closing in
            idles (Other Break) did.1 (λ i. record { view = view i; refusals = is.1 i })
            (ap lost can.1 ∙ ap (λ h. record (lost p) { near = h }) (sym (ap out_hold can.0))) refl refl (inl refl) (ap (λ (x : Channel). x.stands) did.0.1)
            (ap (λ (m : Between). is_left m.far) can.1 ∙ l.far)

        by : IsSuffering (Other Break) old.owner
            ⊎ ((old.owner.channel.fate ≡ Fates.Failed) × ((near.wants v ≡ Want.Send) ⊎ (v.closing ≡ true)))
            → Leaves (Then (Other Break) old.owner Are) (Other Break ∷ actions) q count server new ⊎ HasLeft (Then (Other Break) old.owner Are)
            (Other Break ∷ actions) q count server new
        by (inl suffers) = elim suffers.2 [
          | inl wants ↦ absurd (no_receive wants)
          | inr closing ↦ inl (closes closing)
        ]
        by (inr told) = elim told.1 [
          | inl wants ↦ absurd (no_send wants)
          | inr closing ↦ inl (closes closing)
        ]
    leave_step action is can did = absurd is.0
