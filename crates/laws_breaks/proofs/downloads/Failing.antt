-- A server that is told of the break of a data connection that it gave all for, or refused: nothing happens in a world, but that a moment is told. What it did
-- not write is on its way there, as if it had left then.
use Rattle.std.proofs.Common.{◌≡◌, ℕ, true, false, List, [], ◌++◌, refl, sym, ap, subst, ◌∙◌, append-nil}
use Rattle.std.specs.Prelude.{if◌then◌else◌}
use Rattle.ftp_ports.specs.Actions.{Calls, Stand}
use Rattle.ftp_ports.specs.Machine.{Break}
use Rattle.ftp_client_driver.specs.Side.{client_side}
use Rattle.ftp_ends.specs.declared.link.Wants.TheVariants as Want
use Rattle.ftp_operation.specs.Answer.{Said}
use Rattle.ftp_server_driver.specs.alone.Side.{server_side}
use Rattle.ftp_server_model.specs.Calls as far
use Rattle.ftp_server_model.specs.Calls.{break_step, breaks, clock_step, wants_of}
use Rattle.ftp_server_model.specs.Machine.{Reading, later}
use Rattle.ftp_server_model.specs.View.{Session, View as Far}
use Rattle.ftp_server_model.specs.declared.session.ServerLink.TheVariants as Data
use Rattle.laws_world.specs.Agreement.{Order}
use Rattle.laws_world.specs.World.{World}
use Rattle.laws_drivers.specs.control.Alone.{ServerIsCalm}
use Rattle.laws_drivers.specs.control.Between.{Between, Far as TheServer, Has, Has_lost, with_hold}
use Rattle.laws_drivers.proofs.control.Calm.{first_is_calm}
use Rattle.laws_drivers.specs.world.Ahead.{is_open}
use Rattle.laws_drivers.proofs.events.FarForms.{none_later}
use Rattle.laws_drivers.proofs.events.Holding.{both, is_called}
use Rattle.laws_drivers.proofs.events.Stands.{ServerServes}
use Rattle.laws_transfers.specs.Ahead.{Ahead, Fits, far_ahead}
use Rattle.laws_transfers.proofs.Ahead.{keeps}
use Rattle.laws_transfers.proofs.Beside.{Goes, Together}
use Rattle.laws_transfers.proofs.FarForms.{shut_untaken}
use Rattle.laws_transfers.proofs.Known.{Known}
use Rattle.laws_transfers.proofs.Lost.{with_lost}
use Rattle.laws_transfers.proofs.ServerStays.{none_there, server_stays}

-- what is to close wants nothing else
pub closes : (v : Far) → v.session.closing ≡ true → far.wants v ≡ Want.CloseData
closes v is =
    ap (λ c. if c then Want.CloseData else (if far.is_done v.session.life v.owed then Want.CloseAll else wants_of v.session.connection)) is

-- ---- what it holds then

module _ (old new : Stand server_side) (calm : ServerIsCalm old.owner new.owner) (before : ServerServes old.owner) where
  abbrev x : Far
  x = old.owner.end.server.view

  -- a break of one that is to close moves nothing but the clock
  pub closing_is : (did : Calls {side = server_side} Break old new) → x.session.closing ≡ true → new.owner.end.server.view ≡ clock_step did.0.0.0 x
  closing_is did closing =
      let acts = did.0.0.3 in
      let calls = did.0.0.4 in
      let first : did.0.0.1.counts ≡ old.owner.end.server.counts =
      first_is_calm old.owner.end.server.counts did.0.0.1.counts new.owner.end.server.counts acts.counted calls.counted calm in
      let mid : did.0.0.1.view ≡ clock_step did.0.0.0 x = acts.done first ∙ none_later (clock_step did.0.0.0 x) before.none_waits in
      let same : break_step (clock_step did.0.0.0 x) ≡ clock_step did.0.0.0 x =
      ap (λ c. breaks (if c then Data.Free else x.session.connection) (clock_step did.0.0.0 x)) closing in
      calls.done (calm ∙ sym first) ∙ ap (λ f. later (break_step f)) mid ∙ ap later same ∙ none_later (clock_step did.0.0.0 x) before.none_waits

  -- and it serves on
  pub told_serves : Calls {side = server_side} Break old new → x.session.closing ≡ true → ServerServes new.owner
  told_serves did closing =
      let is : new.owner.end.server.view ≡ clock_step did.0.0.0 x = closing_is did closing in
      record {
        running = ap (λ (f : Far). f.session.life) is ∙ before.running;
        none_waits = ap (λ (f : Far). f.waiting) is ∙ before.none_waits;
      }

-- ---- beside a world

module _ (read : Reading) (orders : List Order) (old new : Stand server_side) (client : Stand client_side) (reports : List Said) (w : World)
    (calm : ServerIsCalm old.owner new.owner) (before : ServerServes old.owner) (known : Known w) where
  abbrev v : Far
  v = old.owner.end.server.view

  abbrev u : Far
  u = new.owner.end.server.view

  -- a world stays beside: the octets that were not written are on their way
  pub server_told_late : (m moment : ℕ) (ahead : Ahead) (between : Between) (told : ℕ) → Together read orders moment ahead between told old client reports w
      → u ≡ clock_step m v → v.session.closing ≡ true → between.far ≡ Has → new.unheard ≡ old.unheard
      → new.owner.channel.untold ≡ old.owner.channel.untold → new.owner.channel.unwritten ≡ []
      → Goes read [] orders (with_lost old.owner.channel.unwritten (with_hold TheServer Has_lost between)) told new client reports w
  server_told_late m moment ahead between told t is closing has unheard same none =
      let session : u.session ≡ v.session = ap (λ (f : Far). f.session) is in
      let shut : is_open v.session.connection ≡ false = t.holds.shut closing in
      let shut_now : is_open u.session.connection ≡ false = ap (λ (s : Session). is_open s.connection) session ∙ shut in
      let untold : new.owner.channel.untold ≡ [] =
      same ∙ none_there read orders old new client reports w calm before known moment ahead between told t (shut_untaken v.session.connection shut) in
      let sent : List ℕ = between.data_ways.to_client ++ old.owner.channel.unwritten in
      server_stays read orders old new client reports w calm before known moment ahead ahead between
      (with_lost old.owner.channel.unwritten (with_hold TheServer Has_lost between)) told told t
      (subst (λ (s : Session). Fits ahead s.connection) (sym session) t.beside.fits)
      (ap (clock_step moment) (sym ((keeps ahead v t.beside.fits).clock m)) ∙ ap (λ f. clock_step moment (far_ahead ahead f)) (sym is)) (λ l. l) (λ e. e)
      (ap (λ q. q ++ between.control.to_server) (sym unheard)) refl
      (ap (λ o. o ++ (between.data_ways.to_server ++ client.owner.channel.unwritten)) (sym same))
      (ap (λ o. client.owner.channel.untold ++ o) (sym (append-nil sent) ∙ ap (λ o. sent ++ o) (sym none))) refl
      (record {
        shut = λ e. shut_now;
        had = λ e. absurd (both e shut_now);
        called = λ c e. absurd (both c refl);
        opened = λ e. absurd (both (t.holds.opened e) (ap is_called has));
      })
      (record { bare = λ e. untold; spare = λ e. untold; over = λ e. untold; shut = λ e. shut_now })
      (record { spare = λ e. none; bare = λ e. none })
