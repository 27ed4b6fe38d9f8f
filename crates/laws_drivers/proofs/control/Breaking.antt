-- A drive that broke off, as its actions, a beginning of what it said last, and the end of the control connection.
use Rattle.std.proofs.Common.{◌≡◌, ◌⊎◌, inl, inr, ℕ, zero, suc, List, [], ◌∷◌, take, drop, Option, refl, sym, ap, ◌∙◌, take_all, arith}
use Rattle.std.specs.Io.KnownBytes.{Appends}
use Rattle.ftp_ports.specs.Actions.{Says as SaysNext, Stand}
use Rattle.ftp_ports.specs.Machine.{Gives, Held}
use Rattle.ftp_client_driver.specs.Side.{client_machine, client_side}
use Rattle.ftp_client_model.specs.Calls as near
use Rattle.ftp_client_model.specs.Failing.{Client}
use Rattle.ftp_client_model.specs.View.{View as Near, fails_by}
use Rattle.ftp_client_model.specs.declared.client.Failure.TheVariants as Failures
use Rattle.ftp_client_model.specs.declared.client.Standing.{Standing}
use Rattle.ftp_client_model.specs.declared.client.Standing.TheVariants as Stands
use Rattle.ftp_server_driver.specs.alone.Side.{Timed, server_machine, server_side}
use Rattle.ftp_server_model.specs.Calls as far
use Rattle.ftp_server_model.specs.Calls.{control_step}
use Rattle.ftp_server_model.specs.Machine.{waited}
use Rattle.ftp_server_model.specs.View.{View as Far}
use Rattle.laws_drivers.specs.control.Alone.{ServerAttends}
use Rattle.laws_drivers.specs.control.Broken.{ClientsAreCut, ServersAreCut}
use Rattle.laws_drivers.proofs.control.Moments.{IsStill, still_is}
use Rattle.laws_drivers.proofs.control.Simulating.{ends_so}
use Rattle.laws_drivers.proofs.control.Worlds.{wants_none, wants_owed}
use Rattle.laws_drivers.specs.control.Alone.{ClientAttends, ClientIsCalm, IsAskingAlone, IsServingAlone, ServerIsCalm}

-- the first of the first octets of a list are its first
firsts : (n count : ℕ) (owed : List ℕ) → (m : ℕ) × (take n (take count owed) ≡ take m owed)
firsts zero count owed = (0, refl)
firsts (suc n) zero owed = (0, refl)
firsts (suc n) (suc count) [] = (0, refl)
firsts (suc n) (suc count) (octet ∷ owed) =
    let rest = firsts n count owed in
    (suc rest.0, ap (λ l. octet ∷ l) rest.1)

-- none are the first of none
nothing_is : (n : ℕ) (last owed : List ℕ) → last ≡ [] → take n last ≡ take 0 owed
nothing_is n last owed none = ap (take n) none ∙ take_all n [] (omega arith)

-- ---- a server

-- a beginning of what it said last: so many of the octets that it owed
record Front (front : List ℕ) (v told : Far) : Type 0 where
  pub count : ℕ
  pub is : front ≡ take count v.owed
  pub cut : far.control_end told ≡ far.control_end (control_step count v)

-- what a server gave last, of which a beginning was written
server_front : (n : ℕ) (last : List ℕ) (old given : Held Timed) → ServerAttends old → given.end.server.counts ≡ old.end.server.counts
    → ((last ≡ []) × (given ≡ old)) ⊎ Gives server_machine last old given → Front (take n last) old.end.server.view given.end.server.view
unfolding far.control_end
server_front n last old given attends calm (inl none) = record {
  count = 0;
  is = nothing_is n last old.end.server.view.owed none.0;
  cut = ap (λ (h : Held Timed). far.control_end h.end.server.view) none.1;
}
server_front n last old given attends calm (inr gives) =
    let v : Far = old.end.server.view in
    let is : given.end.server.view ≡ control_step gives.count v =
    gives.gave.0.done calm ∙ ap (λ q. waited q (control_step gives.count v)) attends.none_waits in
    let first = firsts n gives.count v.owed in
    record { count = first.0; is = ap (take n) gives.owed ∙ first.1; cut = ap far.control_end is }

-- what it holds then
server_there : (count : ℕ) → Held Timed → Held Timed
server_there count old = record old { end = record old.end { server = record old.end.server { view = control_step count old.end.server.view } } }

-- it attends as before
server_attends : (count : ℕ) (old : Held Timed) → ServerAttends old → ServerAttends (server_there count old)
unfolding server_there
server_attends count old attends =
    let still = still_is old.end.server.view attends.wants in
    let there : IsStill (control_step count old.end.server.view) = record { still = still.still; wants = still.wants; closing = still.closing } in
    record {
      wants = wants_none (control_step count old.end.server.view) there attends.running;
      running = attends.running;
      none_waits = attends.none_waits;
    }

-- that beginning is said by an action
server_says : (front : List ℕ) (count : ℕ) (old : Stand server_side) (written : Option (List ℕ)) → ServerAttends old.owner
    → front ≡ take count old.owner.end.server.view.owed
    → Appends old.written written front → SaysNext front old (record old { owner = server_there count old.owner; written = written })
unfolding server_there
server_says front count old written attends is wrote =
    let v : Far = old.owner.end.server.view in
    record {
      gives = record {
        count = count;
        owed = is;
        gave = (
          record {
            done = λ calm. sym (ap (λ q. waited q (control_step count v)) attends.none_waits);
            failed = λ course moved. absurd (moved refl);
            counted = ((0, omega arith, refl), ((0, omega arith, refl), omega arith));
          },
          refl,
        );
        channel = refl;
      };
      wrote = wrote;
      left = refl;
      unheard = refl;
    }

-- a server that broke off is told of the end after that
pub servers_are_cut : ServersAreCut
unfolding server_there
servers_are_cut cause failed start now broke alone calm =
    let cuts = broke.breaks.cuts in
    let breaks = cuts.breaks in
    let mid = cuts.mid in
    let attends = ends_so IsServingAlone ServerIsCalm ServerAttends broke.breaks.actions start mid cuts.led alone in
    let same : breaks.given.end.server.counts ≡ mid.owner.end.server.counts = ap (λ (at : Timed). at.server.counts) (sym breaks.lets.0) ∙ calm in
    let f = server_front breaks.wrote.0 broke.breaks.last mid.owner breaks.given attends same breaks.gives in
    let says = server_says (take breaks.wrote.0 broke.breaks.last) f.count mid broke.off.written attends f.is breaks.wrote.2 in
    record {
      served = record mid { owner = server_there f.count mid.owner; written = broke.off.written };
      led = (mid, cuts.led, says);
      alone = (alone, tt, refl, server_attends f.count mid.owner attends);
      told = ap (λ (at : Timed). at.server.view) (broke.end ∙ broke.is_cut.0) ∙ ap (λ (at : Timed). far.control_end at.server.view) breaks.lets.0 ∙ f.cut;
    }

-- ---- a client

record NearFront (front : List ℕ) (v told : Near) : Type 0 where
  pub count : ℕ
  pub is : front ≡ take count v.owed
  pub cut : near.report_of (near.control_end told) ≡ near.report_of (near.control_end (near.gives_control count v))

-- what it owes is of no matter to its report
owed_report : (owed : List ℕ) (v : Near) → near.report_of (near.control_end (record v { owed = owed })) ≡ near.report_of (near.control_end v)
unfolding near.control_end
owed_report owed v = by v.standing
  where
    by : (standing : Standing) → near.report_of (fails_by standing Failures.Lost (record v { owed = owed })) ≡ near.report_of
        (fails_by standing Failures.Lost v)
    by (Stands.Failed before) = refl
    by standing = refl

-- the same of a client
client_front : (n : ℕ) (last : List ℕ) (old given : Held Client) → ((last ≡ []) × (given ≡ old)) ⊎ Gives client_machine last old given
    → NearFront (take n last) old.end.view given.end.view
client_front n last old given (inl none) = record {
  count = 0;
  is = nothing_is n last old.end.view.owed none.0;
  cut = ap (λ (h : Held Client). near.report_of (near.control_end h.end.view)) none.1 ∙ sym (owed_report (drop 0 old.end.view.owed) old.end.view);
}
client_front n last old given (inr gives) =
    let v : Near = old.end.view in
    let first = firsts n gives.count v.owed in
    record {
      count = first.0;
      is = ap (take n) gives.owed ∙ first.1;
      cut = ap (λ u. near.report_of (near.control_end u)) gives.gave.0 ∙ owed_report (drop gives.count v.owed) v
          ∙ sym (owed_report (drop first.0 v.owed) v);
    }

-- what it holds then
client_there : (count : ℕ) → Held Client → Held Client
client_there count old = record old { end = record old.end { view = near.gives_control count old.end.view } }

-- that beginning is said by an action
client_says : (front : List ℕ) (count : ℕ) (old : Stand client_side) (written : Option (List ℕ)) → front ≡ take count old.owner.end.view.owed
    → Appends old.written written front → SaysNext front old (record old { owner = client_there count old.owner; written = written })
unfolding client_there
client_says front count old written is wrote = record {
  gives = record { count = count; owed = is; gave = (refl, refl); channel = refl };
  wrote = wrote;
  left = refl;
  unheard = refl;
}

-- a client that broke off is told of the end after that
pub clients_are_cut : ClientsAreCut
unfolding client_there
clients_are_cut cause failed start now said broke alone =
    let cuts = broke.breaks.cuts in
    let breaks = cuts.breaks in
    let mid = cuts.mid in
    let up = broke.gave_up in
    let attends = ends_so IsAskingAlone ClientIsCalm ClientAttends broke.breaks.actions start mid cuts.led alone in
    let f = client_front breaks.wrote.0 broke.breaks.last mid.owner breaks.given breaks.gives in
    let says = client_says (take breaks.wrote.0 broke.breaks.last) f.count mid now.written f.is breaks.wrote.2 in
    let closed = ap near.report_of (up.closes.0.0 ∙ ap (λ (c : Client). near.data_closed c.view) (up.keeps ∙ up.stays)) in
    record {
      stood = record mid { owner = client_there f.count mid.owner; written = now.written };
      led = (mid, cuts.led, says);
      alone = (alone, tt, refl, wants_owed (drop f.count mid.owner.end.view.owed) mid.owner.end.view ∙ attends);
      told = up.reports.0.0 ∙ closed ∙ ap near.report_of up.is_cut.0.0 ∙ ap (λ (c : Client). near.report_of (near.control_end c.view)) breaks.lets.0 ∙ f.cut;
    }
