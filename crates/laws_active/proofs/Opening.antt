-- What a world is once a link that the server dialled is open: either end may have closed it at once, where there is nothing to go over it.
use Rattle.std.proofs.Common.{◌≡◌, Bool, true, false, true≢false, [], ◌++◌, None, option_to_list, refl, sym, ap, ◌∙◌, append-nil}
use Rattle.ftp_client_model.specs.Calls.{data_closed, report_of}
use Rattle.ftp_server_model.specs.Calls.{close_step}
use Rattle.ftp_server_model.specs.View.{View as Far}
use Rattle.laws_world.specs.Events.{is_closed_by_far, is_closed_by_near}
use Rattle.laws_world.specs.World.{Opened, World, port_at}
use Rattle.laws_drivers.proofs.control.Taken.{taken}
use Rattle.laws_drivers.specs.world.Ahead.{is_asked}
use Rattle.laws_drivers.proofs.world.Ahead.{closed_is}
use Rattle.laws_drivers.proofs.world.Served.{settled}
use Rattle.laws_drivers.proofs.world.Settling.{none_taken}
use Rattle.laws_drivers.proofs.events.Holding.{unclosed}
use Rattle.laws_transfers.specs.Ahead.{Listened, far_ahead}
use Rattle.laws_transfers.proofs.Ahead.{far_settles, next_ahead}
use Rattle.laws_transfers.proofs.Known.{is_near_held}
use Rattle.laws_transfers.proofs.Settling.{NearSettles, Same, near_settles}

-- what is due is done, and what lies between is the same; one that the client has closed then it wanted closed
pub record OpensTo (old new : World) : Type 0 where
  pub near : new.near ≡ data_closed (taken old.near)
  pub far : new.far ≡ close_step old.far
  pub reports : new.reports ≡ old.reports
  pub same : Same old new
  pub shut : old.near.closing ≡ true → is_near_held new.link ≡ false
  pub left : is_closed_by_near new.link ≡ true → old.near.closing ≡ true

-- one end at most wants it closed
pub opens_to : (w : World) → w.link ≡ Opened → report_of w.near ≡ None → is_asked w.far.session.connection ≡ false
    → (w.near.closing ≡ true → w.far.session.closing ≡ false) → w.data_to_client ≡ [] → OpensTo w (settled w)
opens_to w link none unasked one flat = by w.near.closing refl
  where
    level : (asked : Bool) → asked ≡ false → (f : Far) → far_ahead (next_ahead asked (port_at w.listens)) f ≡ close_step f
    level true e f = absurd (true≢false e)
    level false e f = refl

    told : (asked : Bool) → asked ≡ false → Listened (next_ahead asked (port_at w.listens)) w.listens (settled w).listens → (settled w).listens ≡ w.listens
    told true e l = absurd (true≢false e)
    told false e l = l

    by : (closing : Bool) → w.near.closing ≡ closing → OpensTo w (settled w)
    by true is =
        let s : NearSettles w (settled w) =
        near_settles w (one is) unasked (λ e. absurd (true≢false (sym e ∙ ap is_closed_by_far link))) (λ e. flat) in
        record {
          near = s.near;
          far = s.far ∙ sym (closed_is w.far (one is));
          reports = s.reports ∙ ap (λ o. w.reports ++ option_to_list o) none ∙ append-nil w.reports;
          same = s.same;
          shut = s.closed;
          left = λ e. is;
        }
    by false is =
        let s = far_settles w none is (ap is_closed_by_near link) in
        record {
          near = s.near ∙ sym (none_taken w.near none) ∙ sym (unclosed (taken w.near) is);
          far = s.far ∙ level (is_asked w.far.session.connection) unasked w.far;
          reports = s.reports;
          same = record {
            to_server = s.same.to_server;
            to_client = s.same.to_client;
            rising = s.same.data_to_server;
            falling = s.same.data_to_client;
            control = s.same.control;
            marks = s.same.marks;
            cutoff = s.same.cutoff;
            listens = told (is_asked w.far.session.connection) unasked s.listens;
          };
          shut = λ e. absurd (true≢false (sym e ∙ is));
          left = λ e. absurd (true≢false (sym e ∙ s.same.link));
        }
