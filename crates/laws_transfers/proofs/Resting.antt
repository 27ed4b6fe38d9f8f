-- Where each operation of a client that put and fetched has its report and it is logged in, nothing is on its way to the server, which is between two lines.
use Rattle.std.proofs.Common.{◌≡◌, inl, inr, true, false, true≢false, List, length, None, is_some, sym, ap, ◌∙◌}
use Rattle.ftp_client_model.specs.declared.client.Standing.TheVariants as Standings
use Rattle.ftp_direct.specs.Direct.{State}
use Rattle.ftp_server_model.specs.Machine.{IsReading, Reading}
use Rattle.ftp_server_model.specs.View.{Session}
use Rattle.laws_world.specs.Agreement.{Order, Single}
use Rattle.laws_world.specs.Events.{is_closed_by_near}
use Rattle.laws_world.specs.World.{World}
use Rattle.laws_dialogues.specs.Dialogue.{is_set_aside}
use Rattle.laws_dialogues.specs.Login.{AtFree}
use Rattle.laws_agreement.specs.Follows.{IsFree, Phase}
use Rattle.laws_agreement.specs.Over.{OverRuns}
use Rattle.laws_agreement.proofs.Still.{rest_world, seen}
use Rattle.laws_drivers.proofs.control.Leaving.{is_entered, not_logging, not_more}
use Rattle.laws_drivers.proofs.events.Resting.{Idles}
use Rattle.laws_transfers.proofs.Known.{AreCarried, is_ready, last_carried}
use Rattle.laws_transfers.proofs.Running.{not_trailing}

module _ (read : Reading) (reads : IsReading read) (from : State) (begun : List Order) (carried : AreCarried begun) where
  -- all that was begun is reported, so no operation is under way
  free_by : (w : World) → (is_closed_by_near w.link ≡ true → is_ready w.far.session.connection ≡ false) → w.cutoff ≡ None → length w.reports ≡ length begun
      → OverRuns read from begun w → IsFree from begun w
  free_by w unready stands all (inl (inl h)) = by h.phase
    where
      by : Phase read from begun w → IsFree from begun w
      by (inl (l, inl f)) = f
      by (inl (l, inr u)) = absurd (not_more (length w.reports) begun u.done (Single u.op u.moment) u.begun_is u.told.all all)
      by (inr l) = absurd (true≢false (sym (ap is_some l.cut_is) ∙ ap is_some stands))
  free_by w unready stands all (inl (inr (inl on))) =
      let f = on.fetching in absurd (not_more (length w.reports) begun f.done (Single f.ask.op f.moment) f.begun_is f.told.all all)
  free_by w unready stands all (inl (inr (inr (inl trailing)))) = absurd (not_trailing read reads from begun carried w unready trailing)
  free_by w unready stands all (inl (inr (inr (inr on)))) =
      let f = on.halting in absurd (not_more (length w.reports) begun f.done (Single f.ask.op f.moment) f.begun_is f.told.all all)
  free_by w unready stands all (inr (inl t)) = absurd (last_carried t.going.done _ begun t.going.begun_is carried)
  free_by w unready stands all (inr (inr t)) = absurd (last_carried t.going.done _ begun t.going.begun_is carried)

  -- no octet is on its way to the server, which is between two lines, owes none, and at no transfer, once the client is logged in
  free_idle : (w : World) → IsFree from begun w → w.near.standing ≡ Standings.Entered → Idles w
  unfolding is_entered
  free_idle w f entered = by f.stands.here
    where
      by : AtFree f.now f.stands.way f.stands.base.near f.stands.base.far → Idles w
      by (inl (logging, idle)) =
          let standing = sym entered ∙ (seen (AtFree f.now) w f.stands).standing ∙ logging.logs.standing in
          absurd (true≢false (ap is_entered standing ∙ not_logging logging.place))
      by (inr (way, resting, stands)) =
          let is = rest_world (AtFree f.now) w f.stands way in
          record {
            to_server = ap (λ (u : World). u.control_to_server) is;
            far = record {
              ear = ap (λ (u : World). u.far.ear) is;
              owed = ap (λ (u : World). u.far.owed) is;
              aside = ap (λ (s : Session). is_set_aside s.connection) (seen (AtFree f.now) w f.stands).session ∙ stands.far.aside;
            };
          }

  pub idles : (w : World) → (is_closed_by_near w.link ≡ true → is_ready w.far.session.connection ≡ false) → w.cutoff ≡ None → length w.reports ≡ length begun
      → OverRuns read from begun w → w.near.standing ≡ Standings.Entered → Idles w
  idles w unready stands all runs entered = free_idle w (free_by w unready stands all runs) entered
