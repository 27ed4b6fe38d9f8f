-- Every event keeps what follows, and so every list of them.
use Rattle.std.proofs.Common.{◌≡◌, ◌⊎◌, inl, inr, ℕ, ◌==◌, List, [], ◌++◌, Bool, true, false, not, ◌&&◌, ◌||◌, None, refl, sym, ap, subst, ◌∙◌, append-nil}
use Rattle.std.specs.Prelude.{IsTrue, if◌then◌else◌}
use Rattle.ftp_direct.specs.Direct.{State, answer}
use Rattle.ftp_client_model.specs.Calls as near
use Rattle.ftp_client_model.specs.Calls.{is_busy_job, report_of}
use Rattle.ftp_ends.specs.Link.{is_wanted}
use Rattle.ftp_ends.specs.declared.link.Wants.TheVariants as Want
use Rattle.ftp_server_model.specs.Calls as far
use Rattle.ftp_server_model.specs.Machine.{Reading, IsReading}
use Rattle.ftp_server_model.specs.View.{Transfer}
use Rattle.ftp_server_model.specs.declared.session.ServerLink.{ServerLink}
use Rattle.ftp_server_model.specs.declared.session.ServerLink.TheVariants as FarData
use Rattle.laws_world.specs.Agreement.{Order, begun_by_event}
use Rattle.ftp_ends.specs.Octets.{has_octets}
use Rattle.laws_world.specs.Events.{ControlToServer, ControlToClient, DataToServer, DataToClient, Event, Deliver, Open, Refuse, End, Break, EndControl, Next, Upload, Happens, can_happen, ends_control, is_asked_for, is_gone, is_left_by_near, is_left_by_far, is_parted}
use Rattle.laws_world.specs.Serving.{after_event}
use Rattle.laws_world.specs.World.{World}
use Rattle.laws_dialogues.specs.Dialogue.{is_set_aside, Ends}
use Rattle.laws_dialogues.specs.Login.{AtOperation}
use Rattle.laws_dialogues.specs.Stage.{rest}
use Rattle.laws_agreement.specs.Follows.{IsUnder, IsLost, IsUnlinked, Phase, Follows}
use Rattle.laws_agreement.proofs.Deliveries.{delivers_server, delivers_client, holds_lent}
use Rattle.laws_agreement.proofs.Parting.{parts_from_free, parts_from_under}
use Rattle.laws_agreement.proofs.Phases.{HasFollowed, free_still}
use Rattle.laws_agreement.proofs.Still.{IsSeen, seen, IsStill, IsMoving, still_as, near_wants, operation_on, told_waits}

-- ---- what is never possible

-- the client connects to nothing and gives nothing, and the server gives nothing
pub record HasNoData (w : World) : Type 0 where
  pub near_gives : near.to_give w.near ≡ []
  pub far_gives : far.to_give w.far ≡ []
  pub asks : is_asked_for w ≡ false

-- a data connection on which no transfer is under way has nothing to give
pub given_none : (connection : ServerLink Transfer) → is_set_aside connection ≡ true → far.given_by connection ≡ []
given_none FarData.Free aside = refl
given_none FarData.Passive aside = refl
given_none (FarData.Active endpoint) aside = refl
given_none FarData.Ready aside = refl
given_none (FarData.Asked asked) aside = refl
given_none (FarData.Opening transfer way) aside = refl
given_none (FarData.Transferring transfer) aside = absurd (cc)

-- what is joined with false is false
pub and_false : (b : Bool) → (b && false) ≡ false
and_false true = refl
and_false false = refl

-- in a world where neither end wants anything there is no data to give and no link to ask for
pub still_data : (w : World) → IsStill w → HasNoData w
still_data w s = record {
  near_gives = rw (s.near.closing, s.near.connection) refl;
  far_gives = ap (λ (b : Bool). far.given_by (if b then FarData.Free else w.far.session.connection)) s.far.closing ∙ given_none w.far.session.connection s.far.aside;
  asks = ap (λ q. is_gone w.link && is_wanted q (far.wants w.far)) (near_wants w.near s.near) ∙ and_false (is_gone w.link);
}

-- and neither is there where the control connection has ended
lost_data : (from : State) (begun : List Order) (w : World) → IsLost from begun w → HasNoData w
unfolding near.wants
lost_data from begun w l = record {
  near_gives = rw (l.near.closing, l.near.connection) refl;
  far_gives = rw (l.far.closing, l.far.connection) refl;
  asks = ap (λ q. is_gone w.link && is_wanted q (far.wants w.far)) leaves ∙ and_false (is_gone w.link);
}
  where
    leaves : near.wants w.near ≡ Want.CloseAll
    leaves = rw (l.near.closing, l.near.standing) refl

-- in a world with an operation under way neither end wants anything
pub under_still : (read : Reading) (from : State) (begun : List Order) (w : World) → IsUnder read from begun w → IsStill w
under_still read from begun w u = by_place (operation_on read u.now u.op (answer u.now u.op u.moment) u.stands.way u.stands.base.near u.stands.base.far u.stands.here)
  where
    like : IsSeen u.stands.base w
    like = seen (λ way n f. AtOperation read u.now u.op (answer u.now u.op u.moment) way n f) w u.stands

    by_place : IsMoving u.now.table (answer u.now u.op u.moment).1.table u.stands.way u.stands.base.near u.stands.base.far
        ⊎ ((u.stands.way ≡ rest) × Ends (answer u.now u.op u.moment) u.stands.base.near u.stands.base.far) → IsStill w
    by_place (inl moving) = still_as u.stands.base w like moving.set.near moving.set.far
    by_place (inr ends) = still_as u.stands.base w like (told_waits (answer u.now u.op u.moment).0 u.stands.base.near ends.1.near) ends.1.stands.far

-- in a world that follows the operations begun there is no data to give and no link to ask for
pub no_data : (read : Reading) (from : State) (begun : List Order) (w : World) → Follows read from begun w → HasNoData w
no_data read from begun w h = by_phase h.phase
  where
    by_phase : Phase read from begun w → HasNoData w
    by_phase (inl (l, inl f)) = still_data w (free_still from begun w f)
    by_phase (inl (l, inr u)) = still_data w (under_still read from begun w u)
    by_phase (inr l) = lost_data from begun w l

-- a client with an operation under way begins no other
pub under_busy : (read : Reading) (from : State) (begun : List Order) (w : World) → IsUnder read from begun w → is_busy_job w.near.job ≡ true
under_busy read from begun w u = by_place (operation_on read u.now u.op (answer u.now u.op u.moment) u.stands.way u.stands.base.near u.stands.base.far u.stands.here)
  where
    like : IsSeen u.stands.base w
    like = seen (λ way n f. AtOperation read u.now u.op (answer u.now u.op u.moment) way n f) w u.stands

    by_place : IsMoving u.now.table (answer u.now u.op u.moment).1.table u.stands.way u.stands.base.near u.stands.base.far
        ⊎ ((u.stands.way ≡ rest) × Ends (answer u.now u.op u.moment) u.stands.base.near u.stands.base.far) → is_busy_job w.near.job ≡ true
    by_place (inl moving) = ap is_busy_job like.job ∙ moving.busy
    by_place (inr ends) = ap is_busy_job (like.job ∙ ap (λ v. v.job) ends.1.near)

-- with nothing due and nothing in the queue no octet can move
pub both_false : (due queue : List ℕ) (a b c : Bool) → due ≡ [] → queue ≡ [] → ((has_octets due && a) || (b && has_octets queue && c)) ≡ false
both_false due queue a b c none empty =
    ap (λ l. (has_octets l && a) || (b && has_octets queue && c)) none ∙ ap (λ l. b && has_octets l && c) empty ∙ ap (λ (d : Bool). d && c) (and_false b)

-- what is false does not hold
pub never : (b : Bool) → b ≡ false → IsTrue b → ⊥
never b is holds = let e : true ≡ false = sym holds ∙ is in cc

-- in each phase the client has not left the control connection
not_left_near : (read : Reading) (from : State) (begun : List Order) (w : World) → Phase read from begun w → is_left_by_near w.control ≡ false
not_left_near read from begun w (inl (l, open_phase)) = ap is_left_by_near l.control
not_left_near read from begun w (inr l) = ap is_left_by_near l.control

-- in each phase the server has not left the control connection
not_left_far : (read : Reading) (from : State) (begun : List Order) (w : World) → Phase read from begun w → is_left_by_far w.control ≡ false
not_left_far read from begun w (inl (l, open_phase)) = ap is_left_by_far l.control
not_left_far read from begun w (inr l) = ap is_left_by_far l.control

-- nothing is begun
abbrev pub IsNoBeginning : Event → Type 0
IsNoBeginning (Next op moment) = ⊥
IsNoBeginning (Upload upload moment) = ⊥
IsNoBeginning event = Unit {0}

module _ (read : Reading) (reads : IsReading read) (from : State) where
  abbrev Holds : List Order → World → Type 0
  Holds begun w = Follows read from begun w

  -- what the event before took is no longer lent
  lent : (begun : List Order) (w : World) → Holds begun w → HasFollowed read from begun (record w { taken = [] })
  lent begun w h = holds_lent read reads from begun w (record { unlinked = h.unlinked; phase = h.phase })

  -- a world that follows the operations begun still does when what the event before took is not lent any more
  pub lent_again : (begun : List Order) (w : World) → Holds begun w → Holds begun (record w { taken = [] })
  lent_again begun w h = let l = lent begun w h in record { unlinked = l.unlinked; untold = h.untold; phase = l.phase }

  -- a world that follows the operations begun follows them with none added
  same : (begun : List Order) (w : World) → Holds begun w → Holds (begun ++ []) w
  same begun w h = subst (λ l. Holds l w) (sym (append-nil begun)) h

  -- a world that follows the operations begun still does behind the end of the control connection
  ends_follows : (begun : List Order) (w new : World) → Holds begun w → Happens read EndControl w true new → Holds begun new
  ends_follows begun w new h e =
      let u : World = record w { taken = [] } in
      let hu = lent_again begun w h in
      subst (Holds begun) (sym e.1) (by_phase u hu.unlinked hu.untold e.0 hu.phase)
    where
      by_phase : (u : World) → IsUnlinked u → report_of u.near ≡ None → IsTrue (not (is_parted u.control)) → Phase read from begun u → Holds begun (after_event (ends_control u))
      by_phase u unlinked untold can (inl (l, inl f)) = parts_from_free read from begun u unlinked f
      by_phase u unlinked untold can (inl (l, inr under)) = parts_from_under read from begun u unlinked untold under
      by_phase u unlinked untold can (inr l) = absurd (never _ (ap (λ c. not (is_parted c)) l.control) can)

  -- a world that follows the operations begun still does behind each event that begins nothing
  pub happens : (begun : List Order) (event : Event) (w new : World) → IsNoBeginning event → Holds begun w → Happens read event w true new → Holds (begun ++ begun_by_event event true) new
  happens begun (Deliver ControlToServer count) w new plain h e = same begun new (delivers_server read reads from begun _ count _ new (lent begun w h) e.1)
  happens begun (Deliver ControlToClient count) w new plain h e = same begun new (delivers_client read reads from begun _ count _ new (lent begun w h) e.1)
  happens begun (Deliver DataToServer count) w new plain h e =
      absurd (never (can_happen (Deliver DataToServer count) w) (both_false (near.to_give w.near) w.data_to_server _ (not (count == 0)) _ (no_data read from begun w h).near_gives h.unlinked.to_server) e.0)
  happens begun (Deliver DataToClient count) w new plain h e =
      absurd (never (can_happen (Deliver DataToClient count) w) (both_false (far.to_give w.far) w.data_to_client _ (not (count == 0)) _ (no_data read from begun w h).far_gives h.unlinked.to_client) e.0)
  happens begun Open w new plain h e = absurd (never (is_asked_for w) (no_data read from begun w h).asks e.0)
  happens begun Refuse w new plain h e = absurd (never (is_asked_for w) (no_data read from begun w h).asks e.0)
  happens begun (End ControlToServer) w new plain h e = absurd (never _ (rw (not_left_near read from begun w h.phase) refl) e.0)
  happens begun (End ControlToClient) w new plain h e = absurd (never _ (rw (not_left_far read from begun w h.phase) refl) e.0)
  happens begun (End DataToServer) w new plain h e = absurd (never _ (rw h.unlinked.link refl) e.0)
  happens begun (End DataToClient) w new plain h e = absurd (never _ (rw h.unlinked.link refl) e.0)
  happens begun Break w new plain h e = absurd (never _ (rw h.unlinked.link refl) e.0)
  happens begun EndControl w new plain h e = same begun new (ends_follows begun w new h e)
  happens begun (Next op moment) w new plain h e = absurd plain
  happens begun (Upload upload moment) w new plain h e = absurd plain
