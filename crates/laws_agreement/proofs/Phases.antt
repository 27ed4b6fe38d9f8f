-- What every event leaves: octets, and the reports that are taken.
use Rattle.std.proofs.Common.{◌≡◌, ◌⊎◌, inl, inr, ℕ, suc, ◌+◌, false, List, [], ◌∷◌, ◌++◌, length, None, refl, sym, ap, subst, ◌∙◌, arith, length-append}
use Rattle.ftp_operation.specs.Answer.{Said}
use Rattle.ftp_operation.specs.declared.op.Op.{Op}
use Rattle.ftp_direct.specs.Direct.{State, answer}
use Rattle.ftp_client_model.specs.Calls as near
use Rattle.ftp_client_model.specs.Calls.{report_of, report_of_job, reported_by}
use Rattle.ftp_client_model.specs.View.{View as Near, Job, Idle}
use Rattle.ftp_client_model.specs.declared.client.Failure.TheVariants as Failures
use Rattle.ftp_client_model.specs.declared.client.Standing.TheVariants as Standings
use Rattle.ftp_server_model.specs.declared.session.Life.TheVariants as Lives
use Rattle.ftp_ends.specs.declared.link.Wants.TheVariants as Want
use Rattle.ftp_server_model.specs.Calls as far
use Rattle.ftp_server_model.specs.Machine.{Reading, IsReading}
use Rattle.ftp_server_model.specs.View.{View as Far}
use Rattle.laws_world.specs.Agreement.{Order, Single, Item, state_after, ItemHolds}
use Rattle.laws_world.specs.Outcome.{Whole}
use Rattle.laws_world.specs.Serving.{near_served_by, far_served_by, near_served, far_served, served, left_by_near, left_by_far, collected_by, collected, after_event}
use Rattle.laws_world.specs.World.{World, Mark, Parted}
use Rattle.laws_dialogues.specs.Dialogue.{Ends, told}
use Rattle.laws_dialogues.specs.Login.{AtFree, AtOperation}
use Rattle.laws_dialogues.specs.Stage.{calm, Way, rest, Turns}
use Rattle.laws_dialogues.proofs.LoginTurns.{free_turns}
use Rattle.laws_dialogues.proofs.Sound.{each-stays-sound}
use Rattle.laws_dialogues.proofs.Theorems.{operation-leads}
use Rattle.laws_agreement.specs.Cut.{world_at, StandsAt}
use Rattle.laws_agreement.specs.Follows.{Told, IsFree, IsUnder, IsLost, IsLinked, IsUnlinked, Phase, Follows}
use Rattle.laws_agreement.proofs.Items.{state_more, one_told}
use Rattle.laws_agreement.proofs.Still.{seen, IsStill, IsMoving, no_octets, rest_world, still_as, after_as_is, after_reports, free_set, free_job, operation_on, told_waits}

-- ---- one operation more is done whole

-- an operation that is whole
abbrev pub whole_item : Op (List ℕ) → ℕ → Item
whole_item op moment = record { moment = moment; first = record { op = op; outcome = Whole; marks = [] }; more = [] }

-- an operation that is done whole, without marks, holds as an item in each state
pub whole_holds : (now : State) (op : Op (List ℕ)) (moment index : ℕ) → ItemHolds now (Single op moment) [] None index (whole_item op moment)
whole_holds now op moment index =
    record { is_of = (refl, refl, refl); holds = (record { can_be = tt; allowed = tt; few = omega arith }, tt); marked = refl }

-- a list with one more at its end is longer by one
pub length-more : {X : Type 0} (xs : List X) (x : X) → length (xs ++ x ∷ []) ≡ suc (length xs)
length-more xs x = omega (arith, length-append xs (x ∷ []))

-- two lists of one length are of one length with one more at the end of each
pub both_longer : {X Y : Type 0} (xs : List X) (ys : List Y) (x : X) (y : Y) → length xs ≡ length ys → length (xs ++ x ∷ []) ≡ length (ys ++ y ∷ [])
both_longer xs ys x y same = length-more xs x ∙ ap suc same ∙ sym (length-more ys y)

-- what is told of the orders done is told of one operation more, with its answer and the state behind it
pub told_whole : (from : State) (done : List Order) (marks : List (List Mark)) (reports : List Said) (now : State) (op : Op (List ℕ)) (moment : ℕ)
    → Told from done marks None reports now
    → Told from (done ++ Single op moment ∷ []) (marks ++ [] ∷ []) None (reports ++ (answer now op moment).0 ∷ []) (answer now op moment).1
told_whole from done marks reports now op moment t = record {
  items = t.items ++ whole_item op moment ∷ [];
  all = both_longer reports done (answer now op moment).0 (Single op moment) t.all;
  hold = one_told reports from 0 (length done) done marks None t.items (Single op moment) [] (whole_item op moment) (answer now op moment).0 t.all t.hold (let e : length done ≡ 0 + length done = omega arith in e)
      (whole_holds (state_after from t.items) op moment (length done)) (tt, ap (λ s. (answer s op moment).0) (sym t.now_is));
  now_is = sym (state_more from t.items (whole_item op moment) ∙ ap (λ s. (answer s op moment).1) (sym t.now_is));
}

-- ---- turns

-- with no operation under way each turn leads to where none is under way
pub turns_free : (read : Reading) (now : State) → IsReading read → Turns read (AtFree now)
turns_free read now reads = free_turns read now reads

-- under an operation each turn leads to where it is under way or has ended
pub turns_under : (read : Reading) (from : State) (begun : List Order) (w : World) → IsReading read → (u : IsUnder read from begun w) → Turns read (AtOperation read u.now u.op (answer u.now u.op u.moment))
turns_under read from begun w reads u = operation-leads read u.now u.op u.moment reads u.alone u.sent u.sound

-- ---- after an event

-- a world with no operation under way is left as it is
pub free_still : (from : State) (begun : List Order) (w : World) → IsFree from begun w → IsStill w
free_still from begun w f =
    let set = free_set f.now f.stands.way f.stands.base.near f.stands.base.far f.stands.here in
    still_as f.stands.base w (seen (AtFree f.now) w f.stands) set.near set.far

-- a world with no operation under way has no report to take
pub free_untold : (from : State) (begun : List Order) (w : World) → IsFree from begun w → report_of w.near ≡ None
free_untold from begun w f =
    ap report_of_job ((seen (AtFree f.now) w f.stands).job ∙ free_job f.now f.stands.way f.stands.base.near f.stands.base.far f.stands.here)

-- what is left of a world whose operation is answered
abbrev reported : Said → World → World
reported said w = record w { near = near.reports w.near; reports = w.reports ++ said ∷ [] }

-- at rest, once the report is taken, the world is its base with an idle client and the new reports
reported_at : (said : Said) (reports : List Said) (w b : World) → w ≡ world_at b rest no_octets → b.near ≡ told said b.near
    → record w { near = near.reports w.near; reports = reports } ≡ world_at (record b { near = record b.near { job = Idle }; reports = reports }) rest no_octets
reported_at said reports w b is ends =
    let taken : World → World = λ u. record u { near = near.reports u.near; reports = reports } in
    let by_job : Job → World = λ j. record (world_at b rest no_octets) { near = reported_by j (calm b.near); reports = reports } in
    ap taken is ∙ ap by_job (ap (λ v. v.job) ends)

-- ends at which an operation has ended are free in the next state once the client is idle
rests_behind : (said : Said) (next : State) (n : Near) (f : Far) → Ends (said, next) n f → AtFree next rest (record n { job = Idle }) f
rests_behind said next n f ends = inr (
  refl,
  (let idle : Near → Near = λ v. record v { job = Idle } in ap idle ends.near),
  record {
    meets = record { peer = ends.stands.meets.peer; here = ends.stands.meets.here; typed = ends.stands.meets.typed; own = ends.stands.meets.own; family = ends.stands.meets.family; all_ways = ends.stands.meets.all_ways };
    far = ends.stands.far;
    sees = ends.stands.sees;
    settings = ends.stands.settings;
    facts = ends.stands.facts;
  },
)

-- the report of an operation that is answered is taken
under_ends : (read : Reading) (from : State) (begun : List Order) (w : World) (u : IsUnder read from begun w) → u.stands.way ≡ rest
    → Ends (answer u.now u.op u.moment) u.stands.base.near u.stands.base.far
    → (after_event w ≡ reported (answer u.now u.op u.moment).0 w) × IsFree from begun (reported (answer u.now u.op u.moment).0 w)
under_ends read from begun w u way ends =
    let At : Way → Near → Far → Type 0 = λ way n f. AtOperation read u.now u.op (answer u.now u.op u.moment) way n f in
    let s : StandsAt At w = u.stands in
    let said : Said = (answer u.now u.op u.moment).0 in
    let t = told_whole from u.done u.marks w.reports u.now u.op u.moment u.told in
    let told_is : Told from begun w.marks None (w.reports ++ said ∷ []) (answer u.now u.op u.moment).1 =
    subst (λ b. Told from b w.marks None (w.reports ++ said ∷ []) (answer u.now u.op u.moment).1) (sym u.begun_is)
    (subst (λ marks. Told from (u.done ++ Single u.op u.moment ∷ []) marks None (w.reports ++ said ∷ []) (answer u.now u.op u.moment).1) (sym u.marks_are) t) in
    let b : World = s.base in (
      after_reports w said (still_as b w (seen At w s) (told_waits said b.near ends.near) ends.stands.far)
          (ap report_of_job ((seen At w s).job ∙ ap (λ v. v.job) ends.near)),
      record {
        now = (answer u.now u.op u.moment).1;
        sound = each-stays-sound u.now u.op u.moment u.alone u.sent u.sound;
        told = told_is;
        stands = record {
          base = record b { near = record b.near { job = Idle }; reports = w.reports ++ said ∷ [] };
          way = rest;
          cut = no_octets;
          is = reported_at said (w.reports ++ said ∷ []) w b (rest_world At w s way) ends.near;
          fits = (tt, (refl, refl));
          here = rests_behind said (answer u.now u.op u.moment).1 b.near b.far ends;
        };
      },
    )

-- ---- the control connection has ended

-- a client that lost its connection and is not closing wants to close all
lost_near_wants : (n : Near) → n.standing ≡ Standings.Failed Failures.Lost → n.closing ≡ false → near.wants n ≡ Want.CloseAll
unfolding near.wants
lost_near_wants n standing closing = rw (closing, standing) refl

-- a server whose session is cut and is not closing wants to close all
lost_far_wants : (f : Far) → f.session.life ≡ Lives.Cut → f.session.closing ≡ false → far.wants f ≡ Want.CloseAll
lost_far_wants f life closing = rw (closing, life) refl

-- neither end wants anything but to leave, which both have
pub lost_is_still : (w : World) → w.near.standing ≡ Standings.Failed Failures.Lost → w.near.closing ≡ false → w.far.session.life ≡ Lives.Cut → w.far.session.closing ≡ false
    → w.control ≡ Parted → served w ≡ w
lost_is_still w standing near_closing life far_closing control =
    let n : near_served w ≡ w = ap (λ q. near_served_by q w) (lost_near_wants w.near standing near_closing) ∙ ap (λ c. left_by_near c w) control in
    let f : far_served w ≡ w = ap (λ q. far_served_by q w) (lost_far_wants w.far life far_closing) ∙ ap (λ c. left_by_far c w) control in
    ap (λ u. far_served (far_served (far_served (near_served (near_served u))))) n
    ∙ ap (λ u. far_served (far_served (far_served (near_served u)))) n ∙ ap (λ u. far_served (far_served (far_served u))) n
    ∙ ap (λ u. far_served (far_served u)) f ∙ ap (λ u. far_served u) f ∙ f

-- serving leaves a world whose control connection is lost as it is
pub lost_served : (from : State) (begun : List Order) (w : World) → IsLost from begun w → served w ≡ w
lost_served from begun w l = lost_is_still w l.near.standing l.near.closing l.far.life l.far.closing l.control

-- a world whose control connection is lost is left as it is after an event
pub lost_stays : (from : State) (begun : List Order) (w : World) → IsLost from begun w → after_event w ≡ w
lost_stays from begun w l = ap collected (lost_served from begun w l) ∙ ap (λ o. collected_by o w) (ap report_of_job l.near.job)

-- ---- every event ends so

-- what an event has done, before the report is taken
pub record HasFollowed (read : Reading) (from : State) (begun : List Order) (w : World) : Type 0 where
  pub unlinked : IsUnlinked w
  pub phase : Phase read from begun w

-- a world with the control connection and the cutoff of a linked one is linked
linked_on : (w new : World) → new.control ≡ w.control → new.cutoff ≡ w.cutoff → IsLinked w → IsLinked new
linked_on w new control cutoff l = record { control = control ∙ l.control; cutoff = cutoff ∙ l.cutoff }

-- a world that has followed what was begun follows it after the event, when the report is taken
pub follows_after : (read : Reading) (from : State) (begun : List Order) (w : World) → HasFollowed read from begun w → Follows read from begun (after_event w)
follows_after read from begun w h = by_phase h.phase
  where
    as_is : after_event w ≡ w → report_of w.near ≡ None → Follows read from begun (after_event w)
    as_is is untold = subst (Follows read from begun) (sym is) (record { unlinked = h.unlinked; untold = untold; phase = h.phase })

    by_under : IsLinked w → (u : IsUnder read from begun w)
        → IsMoving u.now.table (answer u.now u.op u.moment).1.table u.stands.way u.stands.base.near u.stands.base.far
        ⊎ ((u.stands.way ≡ rest) × Ends (answer u.now u.op u.moment) u.stands.base.near u.stands.base.far)
        → Follows read from begun (after_event w)
    by_under l u (inl moving) =
        let At : Way → Near → Far → Type 0 = λ way n f. AtOperation read u.now u.op (answer u.now u.op u.moment) way n f in
        let untold : report_of w.near ≡ None = ap report_of_job (seen At w u.stands).job ∙ moving.untold in
        as_is (after_as_is w (still_as u.stands.base w (seen At w u.stands) moving.set.near moving.set.far) untold) untold
    by_under l u (inr ends) =
        let done = under_ends read from begun w u ends.0 ends.1 in
        let new : World = reported (answer u.now u.op u.moment).0 w in
        subst (Follows read from begun) (sym done.0) (record {
          unlinked = record { link = h.unlinked.link; to_server = h.unlinked.to_server; to_client = h.unlinked.to_client };
          untold = free_untold from begun new done.1;
          phase = inl (linked_on w new refl refl l, inl done.1);
        })

    by_phase : Phase read from begun w → Follows read from begun (after_event w)
    by_phase (inl (l, inl free)) = as_is (after_as_is w (free_still from begun w free) (free_untold from begun w free)) (free_untold from begun w free)
    by_phase (inl (l, inr u)) = by_under l u (operation_on read u.now u.op (answer u.now u.op u.moment) u.stands.way u.stands.base.near u.stands.base.far u.stands.here)
    by_phase (inr lost) = as_is (lost_stays from begun w lost) (ap report_of_job lost.near.job)
