-- A world whose control connection ends for both ends at once, whatever its link is.
use Rattle.std.proofs.Common.{◌≡◌, Bool, true, false, [], ◌++◌, length, Some, None, option_to_list, not, refl, sym, ap, ap₂, subst, ◌∙◌}
use Rattle.std.specs.Prelude.{if◌then◌else◌}
use Rattle.ftp_client_model.specs.Calls as near
use Rattle.ftp_client_model.specs.View.{View as Near, fails_by}
use Rattle.ftp_client_model.specs.declared.client.Failure.TheVariants as Failures
use Rattle.ftp_client_model.specs.declared.client.Standing.{Standing}
use Rattle.ftp_client_model.specs.declared.client.Standing.TheVariants as Stands
use Rattle.ftp_ends.specs.declared.link.Wants.TheVariants as Want
use Rattle.ftp_server_model.specs.Calls as far
use Rattle.ftp_server_model.specs.Calls.{close_step}
use Rattle.ftp_server_model.specs.Machine.{Reading, waited}
use Rattle.ftp_server_model.specs.View.{View as Far}
use Rattle.ftp_server_model.specs.declared.session.Life.TheVariants as Lives
use Rattle.laws_world.specs.Events.{EndControl, ends_control, is_parted, lends_none}
use Rattle.laws_world.specs.Serving.{after_event, far_served, far_served_by, left_by_far, left_by_near, link_closed_by_far, link_closed_by_near, near_served, near_served_by, served}
use Rattle.laws_world.specs.World.{ClosedByFar, ClosedByNear, Gone, Link, Opened, Parted, World}
use Rattle.laws_drivers.proofs.control.Worlds.{LeadsOn, collected_is, one_leads}

-- both ends were told, and since another world nothing came but closes
record IsParted (old w : World) : Type 0 where
  near_failed : near.is_sound w.near.standing ≡ false
  far_cut : w.far.session.life ≡ Lives.Cut
  none_waits : w.far.waiting ≡ None
  control : w.control ≡ Parted
  job : w.near.job ≡ old.near.job
  reports : w.reports ≡ old.reports
  table : w.far.session.table ≡ old.far.session.table
  marks : w.marks ≡ old.marks
  cutoff : w.cutoff ≡ old.cutoff

-- a client that was told is served, and that is so still
near_parts : (old w : World) → IsParted old w → IsParted old (near_served w)
unfolding near.wants
near_parts old w p = by w.near.closing refl
  where
    kept : (u : World) → u.near.standing ≡ w.near.standing → u.near.job ≡ w.near.job → u.far ≡ w.far → u.control ≡ w.control → u.reports ≡ w.reports
        → u.marks ≡ w.marks → u.cutoff ≡ w.cutoff → IsParted old u
    kept u standing job f control reports marks cutoff = record {
      near_failed = ap near.is_sound standing ∙ p.near_failed;
      far_cut = ap (λ (v : Far). v.session.life) f ∙ p.far_cut;
      none_waits = ap (λ (v : Far). v.waiting) f ∙ p.none_waits;
      control = control ∙ p.control;
      job = job ∙ p.job;
      reports = reports ∙ p.reports;
      table = ap (λ (v : Far). v.session.table) f ∙ p.table;
      marks = marks ∙ p.marks;
      cutoff = cutoff ∙ p.cutoff;
    }

    shut : (link : Link) → IsParted old (link_closed_by_near link (record w { near = near.data_closed w.near }))
    shut Gone = kept (record w { near = near.data_closed w.near }) refl refl refl refl refl refl refl
    shut Opened = kept (link_closed_by_near Opened (record w { near = near.data_closed w.near })) refl refl refl refl refl refl refl
    shut ClosedByNear = kept (record w { near = near.data_closed w.near }) refl refl refl refl refl refl refl
    shut ClosedByFar = kept (link_closed_by_near ClosedByFar (record w { near = near.data_closed w.near })) refl refl refl refl refl refl refl

    by : (closing : Bool) → w.near.closing ≡ closing → IsParted old (near_served w)
    by true is =
        let wants : near.wants w.near ≡ Want.CloseData =
        ap (λ c. if c then Want.CloseData else (if near.is_sound w.near.standing then near.link_wants w.near.connection w.near else Want.CloseAll)) is in
        subst (IsParted old) (sym (ap (λ q. near_served_by q w) wants)) (shut w.link)
    by false is =
        let wants : near.wants w.near ≡ Want.CloseAll =
        ap₂ (λ c s. if c then Want.CloseData else (if s then near.link_wants w.near.connection w.near else Want.CloseAll)) is p.near_failed in
        subst (IsParted old) (sym (ap (λ q. near_served_by q w) wants ∙ ap (λ c. left_by_near c w) p.control)) p

-- and a server
far_parts : (old w : World) → IsParted old w → IsParted old (far_served w)
unfolding far.data_closed
far_parts old w p = by w.far.session.closing refl
  where
    kept : (u : World) → u.near ≡ w.near → u.far ≡ close_step w.far → u.control ≡ w.control → u.reports ≡ w.reports → u.marks ≡ w.marks
        → u.cutoff ≡ w.cutoff → IsParted old u
    kept u n f control reports marks cutoff = record {
      near_failed = ap (λ (v : Near). near.is_sound v.standing) n ∙ p.near_failed;
      far_cut = ap (λ (v : Far). v.session.life) f ∙ p.far_cut;
      none_waits = ap (λ (v : Far). v.waiting) f ∙ p.none_waits;
      control = control ∙ p.control;
      job = ap (λ (v : Near). v.job) n ∙ p.job;
      reports = reports ∙ p.reports;
      table = ap (λ (v : Far). v.session.table) f ∙ p.table;
      marks = marks ∙ p.marks;
      cutoff = cutoff ∙ p.cutoff;
    }

    shut : (link : Link) → IsParted old (link_closed_by_far link (record w { far = close_step w.far }))
    shut Gone = kept (record w { far = close_step w.far }) refl refl refl refl refl refl
    shut Opened = kept (link_closed_by_far Opened (record w { far = close_step w.far })) refl refl refl refl refl refl
    shut ClosedByNear = kept (link_closed_by_far ClosedByNear (record w { far = close_step w.far })) refl refl refl refl refl refl
    shut ClosedByFar = kept (record w { far = close_step w.far }) refl refl refl refl refl refl

    by : (closing : Bool) → w.far.session.closing ≡ closing → IsParted old (far_served w)
    by true is =
        let done = far.is_done w.far.session.life w.far.owed in
        let wants : far.wants w.far ≡ Want.CloseData =
        ap (λ c. if c then Want.CloseData else (if done then Want.CloseAll else far.wants_of w.far.session.connection)) is in
        let closed : far.data_closed w.far ≡ close_step w.far = ap (λ q. waited q (close_step w.far)) p.none_waits in
        subst (IsParted old)
        (sym (ap (λ q. far_served_by q w) wants ∙ ap (λ (f : Far). link_closed_by_far w.link (record w { far = f })) closed)) (shut w.link)
    by false is =
        let wants : far.wants w.far ≡ Want.CloseAll =
        ap₂ (λ c l. if c then Want.CloseData else (if far.is_done l w.far.owed then Want.CloseAll else far.wants_of w.far.session.connection)) is p.far_cut in
        subst (IsParted old) (sym (ap (λ q. far_served_by q w) wants ∙ ap (λ c. left_by_far c w) p.control)) p

-- both are served
parted_served : (old w : World) → IsParted old w → IsParted old (served w)
parted_served old w p =
    let one = near_parts old w p in
    let two = near_parts old (near_served w) one in
    let n : World = near_served (near_served (near_served w)) in
    let three : IsParted old n = near_parts old (near_served (near_served w)) two in
    let four = far_parts old n three in
    let five = far_parts old (far_served n) four in far_parts old (far_served (far_served n)) five

-- a client that was told has failed
cut_failed : (v : Near) → near.is_sound (near.control_end v).standing ≡ false
unfolding near.control_end
cut_failed v = by v.standing
  where
    by : (standing : Standing) → near.is_sound (fails_by standing Failures.Lost (record v { standing = standing })).standing ≡ false
    by (Stands.Failed before) = refl
    by standing = refl

-- whether a close is wanted is of no matter to its report
pub cut_report : (closing : Bool) (v : Near)
    → near.report_of (near.control_end (record v { closing = closing })) ≡ near.report_of (near.control_end v)
unfolding near.control_end
cut_report closing v = by v.standing
  where
    by : (standing : Standing) → near.report_of (fails_by standing Failures.Lost (record v { standing = standing; closing = closing }))
        ≡ near.report_of (fails_by standing Failures.Lost (record v { standing = standing }))
    by (Stands.Failed before) = refl
    by standing = refl

cut_far : (v : Far) → (far.control_end v).session.life ≡ Lives.Cut
unfolding far.control_end
cut_far v = refl

cut_waits : (v : Far) → (far.control_end v).waiting ≡ None
unfolding far.control_end
cut_waits v = refl

cut_table : (v : Far) → (far.control_end v).session.table ≡ v.session.table
unfolding far.control_end
cut_table v = refl

-- what is left, once it ended
pub record HasParted (read : Reading) (w : World) : Type 0 where
  pub new : World
  pub leads : LeadsOn read [] w new
  pub reports : new.reports ≡ w.reports ++ option_to_list (near.report_of (near.control_end w.near))
  pub table : new.far.session.table ≡ w.far.session.table
  pub marks : new.marks ≡ w.marks
  pub cutoff : new.cutoff ≡ Some (length w.marks)

-- the control connection of a world ends
pub parts : (read : Reading) (w : World) → is_parted w.control ≡ false → HasParted read w
parts read w stands =
    let ended : World = ends_control (lends_none w) in
    let new : World = after_event ended in
    let first : IsParted ended ended = record {
      near_failed = cut_failed w.near;
      far_cut = cut_far w.far;
      none_waits = cut_waits w.far;
      control = refl;
      job = refl;
      reports = refl;
      table = refl;
      marks = refl;
      cutoff = refl;
    } in
    let p : IsParted ended (served ended) = parted_served ended ended first in
    let is = collected_is (served ended) in
    record {
      new = new;
      leads = one_leads read EndControl w new tt (ap not stands, refl);
      reports = ap (λ (u : World). u.reports) is ∙ ap₂ (λ r j. r ++ option_to_list (near.report_of_job j)) p.reports p.job;
      table = ap (λ (u : World). u.far.session.table) is ∙ p.table ∙ cut_table w.far;
      marks = ap (λ (u : World). u.marks) is ∙ p.marks;
      cutoff = ap (λ (u : World). u.cutoff) is ∙ p.cutoff;
    }
