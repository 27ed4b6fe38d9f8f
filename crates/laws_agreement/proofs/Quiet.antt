-- Where an operation is under way, octets are: some are owed, or some are in a queue and may be taken.
use Rattle.std.proofs.Common.{◌≡◌, ◌≢◌, ◌⊎◌, inl, inr, ℕ, ◌≤◌, Bool, true, false, not, ◌&&◌, ◌||◌, List, [], ◌∷◌, ◌++◌, length, Some, None, refl, sym, ap, subst, ◌∙◌, arith}
use Rattle.std.specs.Prelude.{IsTrue, nat_lt, nat_le}
use Rattle.ftp_ends.specs.Reply.{Reply}
use Rattle.ftp_direct.specs.Direct.{State, answer}
use Rattle.ftp_client_model.specs.Calls as near
use Rattle.ftp_client_model.specs.Calls.{is_busy_job, is_sound, report_of, report_of_job}
use Rattle.ftp_server_model.specs.Machine as machine
use Rattle.ftp_server_model.specs.Machine.{Reading, is_running}
use Rattle.laws_world.specs.Agreement.{Order}
use Rattle.laws_world.specs.Claims.{IsAnswered}
use Rattle.ftp_ends.specs.Octets.{has_octets}
use Rattle.laws_world.specs.Events.{Queue, ControlToServer, ControlToClient, DataToServer, DataToClient, can_begin, in_queue, is_gone, is_asked_for}
use Rattle.laws_world.specs.Still.{IsStill, IsBlocked}
use Rattle.laws_world.specs.World.{World}
use Rattle.ftp_server_model.specs.declared.session.Life.TheVariants as Lives
use Rattle.laws_dialogues.specs.Dialogue.{Ends}
use Rattle.laws_dialogues.specs.Login.{AtFree, AtOperation}
use Rattle.laws_dialogues.specs.Stage.{calm, Way, Asking, Answering, rest}
use Rattle.laws_agreement.specs.Cut.{Cut, Fits, coming, world_at}
use Rattle.laws_agreement.specs.Follows.{IsFree, IsUnder, Phase, Follows}
use Rattle.laws_agreement.proofs.Events.{no_data}
use Rattle.laws_agreement.proofs.Still.{IsLike, free_set, row_like, IsSeen, seen, IsMoving, free_job, operation_on}

-- ---- an octet that can move

-- one that is owed moves into an empty queue
pub can_move_first : (moving : List ℕ) (owes taken : Bool) → moving ≡ [] → owes ≡ true → ((owes && (false || nat_lt (length moving) 1)) || taken) ≡ true
can_move_first moving owes taken empty some = λ i. (some i && (false || nat_lt (length (empty i)) 1)) || taken

-- one that stands in a queue is taken by who may take it
pub can_take_now : (a b c : Bool) → b ≡ true → c ≡ true → (a || (true && b && c)) ≡ true
can_take_now true b c one other = refl
can_take_now false b c one other = λ i. true && one i && other i

-- nothing is both true and false
pub never : (b : Bool) → b ≡ true → b ≡ false → ⊥
never b is other = let e : true ≡ false = sym is ∙ other in cc

-- of octets that are to come some are in the queue, or it is empty and some are owed
pub some_octets : (moving owed : List ℕ) (octet : ℕ) (more : List ℕ) → moving ++ owed ≡ octet ∷ more
    → ((moving ≡ []) × (has_octets owed ≡ true)) ⊎ (has_octets moving ≡ true)
some_octets [] owed octet more is = inl (refl, ap has_octets is)
some_octets (x ∷ moving) owed octet more is = inr refl

-- the server hears a line
server_hears : (b : World) (text : List ℕ) (c : Cut) → b.far.session.life ≡ Lives.Running → machine.may_hear (world_at b (Asking text) c).far ≡ true
server_hears b text c free = ap (λ life. is_running life && true && nat_le 0 4096) free

-- the client hears replies
client_hears : (b : World) (rows : List Reply) (c : Cut) → Fits (Answering rows) c → is_sound b.near.standing ≡ true
    → near.may_hear (near.hears (calm b.near) c.held) ≡ true
client_hears b rows c fits waits = (λ i. is_sound (like.standing i) && nat_le (length (like.owed i)) 1024) ∙ ap (λ b. b && true) waits
  where
    like : IsLike b.near (near.hears (calm b.near) c.held)
    like = row_like b.near rows c.held (coming c) fits.0 fits.1

-- octets that are on their way can move, or be taken
pub quiet_at : (b : World) (way : Way) (c : Cut) → Fits way c → is_sound b.near.standing ≡ true → b.far.session.life ≡ Lives.Running → way ≢ rest
    → IsStill (world_at b way c) → ⊥
quiet_at b (Asking text) c fits waits free some still =
    elim (some_octets c.moving c.owed fits.1.octet (fits.1.more ++ []) fits.1.is) [
      | inl owes ↦ never _ (can_move_first c.moving (has_octets c.owed) _ owes.0 owes.1) (still.moved ControlToServer 1 (omega arith) (omega arith))
      | inr moves ↦ never _ (can_take_now _ (has_octets c.moving) (machine.may_hear (world_at b (Asking text) c).far) moves (server_hears b text c free))
          (still.moved ControlToServer 1 (omega arith) (omega arith))
    ]
quiet_at b (Answering []) c fits waits free some still = some refl
quiet_at b (Answering (reply ∷ more)) c fits waits free some still =
    elim (some_octets c.moving c.owed fits.1.octet _ fits.1.is) [
      | inl owes ↦ never _ (can_move_first c.moving (has_octets c.owed) _ owes.0 owes.1) (still.moved ControlToClient 1 (omega arith) (omega arith))
      | inr moves ↦ never _ (can_take_now _ (has_octets c.moving) (near.may_hear (near.hears (calm b.near) c.held)) moves (client_hears b (reply ∷ more) c fits waits))
          (still.moved ControlToClient 1 (omega arith) (omega arith))
    ]

-- neither queue of the control connection is blocked
unblocked_at : (b : World) (way : Way) (c : Cut) → Fits way c → is_sound b.near.standing ≡ true → b.far.session.life ≡ Lives.Running
    → (IsBlocked ControlToServer (world_at b way c) → ⊥) × (IsBlocked ControlToClient (world_at b way c) → ⊥)
unblocked_at b (Asking text) c fits waits free = (
  λ blocked. never (machine.may_hear (world_at b (Asking text) c).far) (server_hears b text c free) blocked.refused,
  λ blocked. let full : 4096 ≤ 0 = blocked.full in absurd (omega (arith, full)),
)
unblocked_at b (Answering rows) c fits waits free = (
  λ blocked. let full : 4096 ≤ 0 = blocked.full in absurd (omega (arith, full)),
  λ blocked. never (near.may_hear (near.hears (calm b.near) c.held)) (client_hears b rows c fits waits) blocked.refused,
)

-- ---- so nothing is left open

-- a world with an operation under way and no report to take is not still
under_moves : (read : Reading) (from : State) (begun : List Order) (w : World) → IsUnder read from begun w → report_of w.near ≡ None → IsStill w → ⊥
under_moves read from begun w u untold still = by_place (operation_on read u.now u.op (answer u.now u.op u.moment) u.stands.way u.stands.base.near u.stands.base.far u.stands.here)
  where
    like : IsSeen u.stands.base w
    like = seen (λ way n f. AtOperation read u.now u.op (answer u.now u.op u.moment) way n f) w u.stands

    by_place : IsMoving u.now.table (answer u.now u.op u.moment).1.table u.stands.way u.stands.base.near u.stands.base.far
        ⊎ ((u.stands.way ≡ rest) × Ends (answer u.now u.op u.moment) u.stands.base.near u.stands.base.far) → ⊥
    by_place (inl moving) =
        quiet_at u.stands.base u.stands.way u.stands.cut u.stands.fits moving.set.near.sound moving.set.far.life moving.some (subst IsStill u.stands.is still)
    by_place (inr ends) = let e : None ≡ Some (answer u.now u.op u.moment).0 = sym untold ∙ ap report_of_job (like.job ∙ ap (λ v. v.job) ends.1.near) in cc

-- a client that is not busy can begin, if the link is gone and none is asked for
begins_freely : (w : World) → is_busy_job w.near.job ≡ false → is_gone w.link ≡ true → is_asked_for w ≡ false → IsTrue (can_begin w)
begins_freely w idle gone asks = λ i. not (idle i) && gone i && not (asks i)

-- a world that follows what was begun and is still has answered all of it, and can begin more
pub follows_answered : (read : Reading) (from : State) (begun : List Order) (w : World) → Follows read from begun w → IsStill w → IsAnswered begun w
follows_answered read from begun w h still = by_phase h.phase
  where
    gone : is_gone w.link ≡ true
    gone = ap is_gone h.unlinked.link

    by_phase : Phase read from begun w → IsAnswered begun w
    by_phase (inl (l, inl f)) = record {
      reported = f.told.all;
      free = begins_freely w (ap is_busy_job ((seen (AtFree f.now) w f.stands).job ∙ free_job f.now f.stands.way f.stands.base.near f.stands.base.far f.stands.here)) gone
          (no_data read from begun w h).asks;
    }
    by_phase (inl (l, inr u)) = absurd (under_moves read from begun w u h.untold still)
    by_phase (inr l) = record { reported = l.told.all; free = begins_freely w (ap is_busy_job l.near.job) gone (no_data read from begun w h).asks }

-- ---- no queue is blocked

-- an empty queue is not
empty_unblocked : (queue : Queue) (w : World) → in_queue queue w ≡ [] → IsBlocked queue w → ⊥
empty_unblocked queue w empty blocked = let none : length (in_queue queue w) ≡ 0 = ap length empty in absurd (omega (arith, blocked.full, none))

-- nor is one of a world that follows what was begun
pub follows_unblocked : (read : Reading) (from : State) (begun : List Order) (w : World) → Follows read from begun w → IsStill w
    → (queue : Queue) → IsBlocked queue w → ⊥
follows_unblocked read from begun w h still = by_queue
  where
    free_world : (f : IsFree from begun w) → (IsBlocked ControlToServer w → ⊥) × (IsBlocked ControlToClient w → ⊥)
    free_world f =
        let set = free_set f.now f.stands.way f.stands.base.near f.stands.base.far f.stands.here in
        subst (λ u. (IsBlocked ControlToServer u → ⊥) × (IsBlocked ControlToClient u → ⊥)) (sym f.stands.is)
        (unblocked_at f.stands.base f.stands.way f.stands.cut f.stands.fits set.near.sound set.far.life)

    by_phase : Phase read from begun w → (IsBlocked ControlToServer w → ⊥) × (IsBlocked ControlToClient w → ⊥)
    by_phase (inl (l, inl f)) = free_world f
    by_phase (inl (l, inr u)) = absurd (under_moves read from begun w u h.untold still)
    by_phase (inr l) = (empty_unblocked ControlToServer w l.to_server, empty_unblocked ControlToClient w l.to_client)

    by_queue : (queue : Queue) → IsBlocked queue w → ⊥
    by_queue ControlToServer = (by_phase h.phase).0
    by_queue ControlToClient = (by_phase h.phase).1
    by_queue DataToServer = empty_unblocked DataToServer w h.unlinked.to_server
    by_queue DataToClient = empty_unblocked DataToClient w h.unlinked.to_client
