-- A delivery over the control connection keeps what follows.
use Rattle.std.proofs.Common.{◌≡◌, ◌⊎◌, inl, inr, ℕ, Bool, true, false, List, [], ◌∷◌, take, None, refl, sym, ap, subst, ◌∙◌}
use Rattle.ftp_ends.specs.Reply.{Reply}
use Rattle.ftp_direct.specs.Direct.{State, answer}
use Rattle.ftp_client_model.specs.View.{View as Near}
use Rattle.ftp_server_model.specs.Machine.{Reading, IsReading}
use Rattle.ftp_server_model.specs.View.{View as Far}
use Rattle.laws_world.specs.Agreement.{Order}
use Rattle.laws_world.specs.Events.{ControlToServer, ControlToClient, pulled, pushed, filled, DeliversBy}
use Rattle.laws_world.specs.World.{World, Mark}
use Rattle.laws_dialogues.specs.Login.{AtFree, AtOperation}
use Rattle.laws_dialogues.specs.Stage.{Way, Asking, Answering, Turns}
use Rattle.laws_agreement.specs.Cut.{Crossed, Cut, PlacedAt, world_at, of_ends, StandsAt, Goes}
use Rattle.laws_agreement.specs.Follows.{Told, IsLost, IsLinked, Phase, Follows}
use Rattle.laws_agreement.proofs.Keeps.{no_pull_to_server, no_pull_to_client, no_push_to_server, no_push_to_client, pulls_to_server, pulls_to_client, pushes_to_server, pushes_to_client}
use Rattle.laws_agreement.proofs.Phases.{HasFollowed, turns_free, turns_under, follows_after}

-- ---- a predicate on both ends

-- no line crosses replies
abbrev pub NoCross : List ℕ → List Reply → World → Type 0
NoCross text replies b = ⊥

-- a predicate on both ends that has its turns leads from each of its bases to such a base again
pub ends_go : (read : Reading) (At : Way → Near → Far → Type 0) → Turns read At → Goes read (of_ends At) (of_ends At) NoCross
ends_go read At turns = record {
  held = λ way b here. here;
  asked = λ text b here. turns.asked text b.near b.far here;
  told = λ reply more b here. inl (turns.told reply more b.near b.far here);
}

-- where no line crosses replies, a client that has heard octets stays placed
not_crossed : (P : World → Type 0) (w : World) → P w ⊎ Crossed NoCross w → P w
not_crossed P w (inl holds) = holds
not_crossed P w (inr c) = absurd c.here

-- ---- what is lent is of no matter

-- the world of a stage and a cut with other octets lent is that of a base with them
pub taken_at : (b : World) (way : Way) (c : Cut) (octets : List ℕ) → record (world_at b way c) { taken = octets } ≡ world_at (record b { taken = octets }) way c
taken_at b (Asking text) c octets = refl
taken_at b (Answering rows) c octets = refl

-- a world is placed as it was whatever octets are lent, where so much is so of its base
abbrev pub placed_taken : {At : Way → World → Type 0} {w : World} (octets : List ℕ) (s : PlacedAt At w) → At s.way (record s.base { taken = octets })
    → PlacedAt At (record w { taken = octets })
placed_taken octets s here = record {
  base = record s.base { taken = octets };
  way = s.way;
  cut = s.cut;
  is = ap (λ (u : World). record u { taken = octets }) s.is ∙ taken_at s.base s.way s.cut octets;
  fits = s.fits;
  here = here;
}

-- a world stands so too
stands_taken : (At : Way → Near → Far → Type 0) (octets : List ℕ) (w : World) → StandsAt At w → StandsAt At (record w { taken = octets })
stands_taken At octets w s = placed_taken {At = of_ends At} octets s s.here

-- ---- a movement of octets of the control connection

-- all else is as it was
pub record IsMove (w new : World) : Type 0 where
  pub marks : new.marks ≡ w.marks
  pub reports : new.reports ≡ w.reports
  pub control : new.control ≡ w.control
  pub cutoff : new.cutoff ≡ w.cutoff
  pub link : new.link ≡ w.link
  pub to_server : new.data_to_server ≡ w.data_to_server
  pub to_client : new.data_to_client ≡ w.data_to_client

-- behind a movement the orders have the items and reports that they had
told_moved : (from : State) (begun : List Order) (w new : World) (now : State) → IsMove w new → Told from begun w.marks None w.reports now → Told from begun new.marks None new.reports now
told_moved from begun w new now move t =
    subst (λ marks. Told from begun marks None new.reports now) (sym move.marks) (subst (λ reports. Told from begun w.marks None reports now) (sym move.reports) t)

-- behind a movement they have them too with marks that are not yet all those of the world
reports_moved : (from : State) (done : List Order) (marks : List (List Mark)) (w new : World) (now : State) → IsMove w new → Told from done marks None w.reports now → Told from done marks None new.reports now
reports_moved from done marks w new now move t = subst (λ reports. Told from done marks None reports now) (sym move.reports) t

-- a movement that lets the ends stand where they stood, and what is lost be lost, keeps what has followed
pub moves_follow : (read : Reading) (from : State) (begun : List Order) (w new : World) → IsReading read → IsMove w new
    → ((At : Way → Near → Far → Type 0) → Turns read At → StandsAt At w → StandsAt At new) → (IsLost from begun w → IsLost from begun new)
    → HasFollowed read from begun w → HasFollowed read from begun new
moves_follow read from begun w new reads move on lost h = record {
  unlinked = record { link = move.link ∙ h.unlinked.link; to_server = move.to_server ∙ h.unlinked.to_server; to_client = move.to_client ∙ h.unlinked.to_client };
  phase = by_phase h.phase;
}
  where
    linked : IsLinked w → IsLinked new
    linked l = record { control = move.control ∙ l.control; cutoff = move.cutoff ∙ l.cutoff }

    by_phase : Phase read from begun w → Phase read from begun new
    by_phase (inl (l, inl f)) = inl (
      linked l,
      inl (record {
        now = f.now;
        sound = f.sound;
        told = told_moved from begun w new f.now move f.told;
        stands = on (AtFree f.now) (turns_free read f.now reads) f.stands;
      }),
    )
    by_phase (inl (l, inr u)) = inl (
      linked l,
      inr (record {
        done = u.done;
        marks = u.marks;
        op = u.op;
        moment = u.moment;
        begun_is = u.begun_is;
        marks_are = move.marks ∙ u.marks_are;
        now = u.now;
        sound = u.sound;
        told = reports_moved from u.done u.marks w new u.now move u.told;
        alone = u.alone;
        sent = u.sent;
        stands = on (AtOperation read u.now u.op (answer u.now u.op u.moment)) (turns_under read from begun w reads u) u.stands;
      }),
    )
    by_phase (inr l) = inr (lost l)

-- ---- the movements

module _ (read : Reading) (reads : IsReading read) (from : State) (begun : List Order) where
  abbrev Holds : World → Type 0
  Holds w = HasFollowed read from begun w

  -- what has followed holds whatever octets are lent
  pub holds_taken : (octets : List ℕ) (w : World) → Holds w → Holds (record w { taken = octets })
  holds_taken octets w h =
      moves_follow read from begun w (record w { taken = octets }) reads
      (record { marks = refl; reports = refl; control = refl; cutoff = refl; link = refl; to_server = refl; to_client = refl })
      (λ At turns s. stands_taken At octets w s)
      (λ l. record { now = l.now; cutoff = l.cutoff; cut_is = l.cut_is; early = l.early; told = l.told; near = l.near; far = l.far; table = l.table; control = l.control; to_server = l.to_server; to_client = l.to_client })
      h

  -- an output call of the client keeps what has followed
  pub pulled_server : (n : ℕ) (w : World) → Holds w → Holds (pulled ControlToServer w n)
  pulled_server n w h =
      moves_follow read from begun w (pulled ControlToServer w n) reads
      (record { marks = refl; reports = refl; control = refl; cutoff = refl; link = refl; to_server = refl; to_client = refl })
      (λ At turns s. pulls_to_server read (of_ends At) (of_ends At) NoCross (ends_go read At turns) n w s)
      (λ l. subst (IsLost from begun) (sym (no_pull_to_server n w l.near.owed)) l)
      h

  -- an output call of the server keeps what has followed
  pub pulled_client : (n : ℕ) (w : World) → Holds w → Holds (pulled ControlToClient w n)
  pulled_client n w h =
      moves_follow read from begun w (pulled ControlToClient w n) reads
      (record { marks = refl; reports = refl; control = refl; cutoff = refl; link = refl; to_server = refl; to_client = refl })
      (λ At turns s. pulls_to_client read (of_ends At) (of_ends At) NoCross (ends_go read At turns) n w s)
      (λ l. subst (IsLost from begun) (sym (no_pull_to_client n w l.far.owed l.far.waiting)) l)
      h

  -- octets that the server takes keep what has followed
  pub pushed_server : (n : ℕ) (w : World) → Holds w → Holds (pushed read ControlToServer n w)
  pushed_server n w h =
      moves_follow read from begun w (pushed read ControlToServer n w) reads
      (record { marks = refl; reports = refl; control = refl; cutoff = refl; link = refl; to_server = refl; to_client = refl })
      (λ At turns s. pushes_to_server read (of_ends At) (of_ends At) NoCross (ends_go read At turns) n w s)
      (λ l. subst (IsLost from begun) (sym (no_push_to_server read n w l.to_server)) l)
      h

  -- octets that the client takes keep what has followed
  pub pushed_client : (n : ℕ) (w : World) → Holds w → Holds (pushed read ControlToClient n w)
  pushed_client n w h =
      moves_follow read from begun w (pushed read ControlToClient n w) reads
      (record { marks = refl; reports = refl; control = refl; cutoff = refl; link = refl; to_server = refl; to_client = refl })
      (λ At turns s. not_crossed (StandsAt At) (pushed read ControlToClient n w) (pushes_to_client read (of_ends At) (of_ends At) NoCross (ends_go read At turns) n w s))
      (λ l. subst (IsLost from begun) (sym (no_push_to_client read n w l.to_client)) l)
      h

  -- output calls of the client, one after the other, keep what has followed
  pub filled_server : (counts : List ℕ) (w : World) → Holds w → Holds (filled ControlToServer w counts)
  filled_server [] w h = h
  filled_server (count ∷ counts) w h = filled_server counts (pulled ControlToServer w count) (pulled_server count w h)

  -- output calls of the server, one after the other, keep what has followed
  pub filled_client : (counts : List ℕ) (w : World) → Holds w → Holds (filled ControlToClient w counts)
  filled_client [] w h = h
  filled_client (count ∷ counts) w h = filled_client counts (pulled ControlToClient w count) (pulled_client count w h)

  -- a delivery to the server, of none or of some octets, leads to a world that follows
  pub delivers_server : (none : Bool) (count : ℕ) (w new : World) → Holds w → DeliversBy none read ControlToServer count w new → Follows read from begun new
  delivers_server true count w new h m =
      subst (Follows read from begun) (sym m.is) (follows_after read from begun _ (pulled_server m.gave w h))
  delivers_server false count w new h d =
      let full = filled_server d.counts w h in
      let lent = holds_taken (take d.taken (filled ControlToServer w d.counts).control_to_server) (filled ControlToServer w d.counts) full in
      subst (Follows read from begun) (sym d.is) (follows_after read from begun _ (pushed_server d.taken _ lent))

  -- a delivery to the client, of none or of some octets, leads to a world that follows
  pub delivers_client : (none : Bool) (count : ℕ) (w new : World) → Holds w → DeliversBy none read ControlToClient count w new → Follows read from begun new
  delivers_client true count w new h m =
      subst (Follows read from begun) (sym m.is) (follows_after read from begun _ (pulled_client m.gave w h))
  delivers_client false count w new h d =
      let full = filled_client d.counts w h in
      let lent = holds_taken (take d.taken (filled ControlToClient w d.counts).control_to_client) (filled ControlToClient w d.counts) full in
      subst (Follows read from begun) (sym d.is) (follows_after read from begun _ (pushed_client d.taken _ lent))

  -- what has followed holds with no octets lent
  pub holds_lent : (w : World) → Holds w → Holds (record w { taken = [] })
  holds_lent w h = holds_taken [] w h
