-- Each action of a server that serves control alone, as events of a world.
use Rattle.std.proofs.Common.{◌≡◌, ℕ, suc, ◌≤◌, Bool, true, false, List, [], ◌∷◌, ◌++◌, length, drop, None, refl, sym, ap, ap₂, subst, ◌∙◌, append_assoc, take-append-drop, arith}
use Rattle.ftp_ports.specs.Actions.{HearsNext, ReadsNext, Says as SaysNext, Stand, Calls}
use Rattle.ftp_ports.specs.Machine.{Aside}
use Rattle.ftp_client_driver.specs.Side.{client_side}
use Rattle.ftp_client_model.specs.Calls as near
use Rattle.ftp_operation.specs.Answer.{Said}
use Rattle.ftp_server_driver.specs.alone.Side.{HearsBy, Timed, ends_line, server_side}
use Rattle.ftp_server_model.specs.Calls as far
use Rattle.ftp_server_model.specs.Calls.{clock_step, control_step}
use Rattle.ftp_server_model.specs.Machine.{IsReading, MayHear, Reading, hears, hears_octet, may_hear, waited}
use Rattle.ftp_server_model.specs.View.{View as Far}
use Rattle.laws_world.specs.Agreement.{Order}
use Rattle.laws_world.specs.World.{World}
use Rattle.laws_drivers.specs.control.Alike.{IsAlike}
use Rattle.laws_drivers.specs.control.Alone.{ClientAttends, ServerAttends}
use Rattle.laws_drivers.specs.control.Between.{Far as TheServer, Ways, sent}
use Rattle.laws_drivers.proofs.control.Calm.{first_is_calm}
use Rattle.laws_drivers.proofs.control.Moments.{IsStill, octet_moment, still_is}
use Rattle.laws_drivers.proofs.control.Taken.{reports_is, taken_none, taken_wants}
use Rattle.laws_drivers.proofs.control.Worlds.{LeadsOn, Ready, far_hears, far_says, leads_none}

-- events lead on to a world that is alike again
pub record Goes (read : Reading) (begun : List Order) (ways : Ways) (server : Stand server_side) (client : Stand client_side) (reports : List Said)
    (w : World) : Type 0 where
  pub world : World
  pub leads : LeadsOn read begun w world
  pub alike : IsAlike ways server client reports world

-- none is needed
pub stays : (read : Reading) (ways : Ways) (server : Stand server_side) (client : Stand client_side) (reports : List Said) (w : World)
    → IsAlike ways server client reports w → Goes read [] ways server client reports w
stays read ways server client reports w alike = record { world = w; leads = leads_none read w; alike = alike }

-- a world that is alike two drives that attend is at rest but for octets
pub is_ready : (ways : Ways) (server : Stand server_side) (client : Stand client_side) (reports : List Said) (w : World)
    → IsAlike ways server client reports w → ServerAttends server.owner → ClientAttends client.owner → Ready w
is_ready ways server client reports w alike serves asks =
    let near_is = alike.near ∙ reports_is client.owner.end.view in
    let still = still_is server.owner.end.server.view serves.wants in
    let still_there : IsStill (clock_step alike.moment server.owner.end.server.view) =
    record { still = still.still; wants = still.wants; closing = still.closing } in
    record {
      near_wants = ap near.wants near_is ∙ taken_wants client.owner.end.view ∙ asks;
      none = ap near.report_of near_is ∙ taken_none client.owner.end.view;
      still = subst IsStill (sym alike.far) still_there;
      running = ap (λ (f : Far). f.session.life) alike.far ∙ serves.running;
      none_waits = ap (λ (f : Far). f.waiting) alike.far ∙ serves.none_waits;
    }

-- octets were heard, whatever moment was told before
pub record HearsAt (read : Reading) (octets : List ℕ) (old new : Far) : Type 0 where
  pub moment : ℕ
  pub may : MayHear read (clock_step moment old) octets
  pub is : new ≡ hears read (clock_step moment old) octets

module _ (read : Reading) (reads : IsReading read) where
  -- so it is whether the octet ends a line or not
  pub hears_at : (ends : Bool) (octets : List ℕ) (old new : Timed) → HearsBy ends octets old new → new.server.counts ≡ old.server.counts
      → old.server.view.waiting ≡ None
      → HearsAt read octets old.server.view new.server.view
  hears_at true octets old new heard calm none =
      let acts = heard.3 in
      let calls = heard.4 read reads in
      let first : heard.1.counts ≡ old.server.counts = first_is_calm old.server.counts heard.1.counts new.server.counts acts.counted calls.counted calm in
      let told : heard.1.view ≡ clock_step heard.0 old.server.view =
      acts.done first ∙ ap (λ waits. waited waits (clock_step heard.0 old.server.view)) none in
      let same = calm ∙ sym first in
      record {
        moment = heard.0;
        may = subst (λ (f : Far). MayHear read f octets) told (calls.may same);
        is = calls.done same ∙ ap (λ (f : Far). hears read f octets) told;
      }
  hears_at false octets old new heard calm none =
      let calls = heard.0 read reads in
      record { moment = old.server.view.context.moment; may = calls.may calm; is = calls.done calm }

  module _ (old new : Stand server_side) (client : Stand client_side) (reports : List Said) (w : World)
      (calm : new.owner.end.server.counts ≡ old.owner.end.server.counts)
      (before : ServerAttends old.owner) (after : ServerAttends new.owner) (asks : ClientAttends client.owner) where
    -- what the server holds is the same, but for the moment
    server_same : (ways next : Ways) (moment : ℕ) → IsAlike ways old client reports w
        → new.owner.end.server.view ≡ clock_step moment old.owner.end.server.view
        → old.unheard ++ ways.to_server ≡ new.unheard ++ next.to_server → next.to_client ≡ ways.to_client → Goes read [] next new client reports w
    server_same ways next moment alike is queue other = stays read next new client reports w (record {
      moment = alike.moment;
      near = alike.near;
      far = alike.far ∙ ap (clock_step alike.moment) (sym is);
      to_server = alike.to_server ∙ queue;
      to_client = alike.to_client ∙ ap (λ q. client.unheard ++ q) (sym other);
      reported = alike.reported;
      control = alike.control;
      link = alike.link;
      marks = alike.marks;
      cutoff = alike.cutoff;
    })

    -- octets are said
    pub server_said : (octets : List ℕ) (ways : Ways) → IsAlike ways old client reports w → SaysNext octets old new
        → Goes read [] (sent TheServer octets ways) new client reports w
    server_said octets ways alike says =
        let v : Far = old.owner.end.server.view in
        let count = says.gives.count in
        let rest : List ℕ = drop count v.owed in
        let is : new.owner.end.server.view ≡ control_step count v =
        says.gives.gave.0.done calm ∙ ap (λ waits. waited waits (control_step count v)) before.none_waits in
        let owed : w.far.owed ≡ octets ++ rest =
        ap (λ (f : Far). f.owed) alike.far ∙ sym (take-append-drop count v.owed) ∙ ap (λ o. o ++ rest) (sym says.gives.owed) in
        record {
          world = _;
          leads = far_says read octets rest w (is_ready ways old client reports w alike before asks) owed;
          alike = record {
            moment = alike.moment;
            near = alike.near;
            far = ap (λ (f : Far). record f { owed = rest }) alike.far ∙ ap (clock_step alike.moment) (sym is);
            to_server = alike.to_server ∙ ap (λ u. u ++ ways.to_server) (sym says.unheard);
            to_client = ap (λ q. q ++ octets) alike.to_client ∙ append_assoc client.unheard ways.to_client octets;
            reported = alike.reported;
            control = alike.control;
            link = alike.link;
            marks = alike.marks;
            cutoff = alike.cutoff;
          };
        }

    -- octets are read: no event
    pub server_read : (octets : List ℕ) (ways next : Ways) → IsAlike ways old client reports w → ReadsNext octets old new
        → ways.to_server ≡ octets ++ next.to_server → next.to_client ≡ ways.to_client → Goes read [] next new client reports w
    server_read octets ways next alike did front other =
        server_same ways next old.owner.end.server.view.context.moment alike (ap (λ o. o.end.server.view) did.owner)
        (ap₂ (λ u q. u ++ q) did.heard front ∙ ap (λ u. u ++ next.to_server) (sym did.unheard)) other

    -- it is asked whether it is done: no event
    pub server_aside : (ways : Ways) → IsAlike ways old client reports w → Calls {side = server_side} (Aside tt) old new
        → Goes read [] ways new client reports w
    server_aside ways alike did =
        server_same ways ways old.owner.end.server.view.context.moment alike (ap (λ (at : Timed). at.server.view) did.0.0.0)
        (ap (λ (s : Stand server_side). s.unheard ++ ways.to_server) (sym did.1)) refl

    -- an octet is heard
    pub server_heard : (octets : List ℕ) (ways : Ways) → IsAlike ways old client reports w → HearsNext octets old new → Goes read [] ways new client reports w
    server_heard [] ways alike did =
        let heard = hears_at (ends_line old.unheard) [] old.owner.end new.owner.end did.hears.0.1 calm before.none_waits in
        server_same ways ways heard.moment alike heard.is (ap (λ u. u ++ ways.to_server) did.next) refl
    server_heard (octet ∷ []) ways alike did =
        let v : Far = old.owner.end.server.view in
        let heard = hears_at (ends_line old.unheard) (octet ∷ []) old.owner.end new.owner.end did.hears.0.1 calm before.none_waits in
        let still = (still_is v before.wants).still in
        let is : hears_octet read w.far octet ≡ clock_step alike.moment new.owner.end.server.view =
        ap (λ (f : Far). hears_octet read f octet) alike.far ∙ octet_moment read octet alike.moment v still
        ∙ ap (clock_step alike.moment) (sym (octet_moment read octet heard.moment v still)) ∙ ap (clock_step alike.moment) (sym heard.is) in
        let queue : w.control_to_server ≡ octet ∷ (new.unheard ++ ways.to_server) = alike.to_server ∙ ap (λ u. u ++ ways.to_server) did.next in
        record {
          world = _;
          leads = far_hears read octet (new.unheard ++ ways.to_server) w (is_ready ways old client reports w alike before asks) queue
              (ap may_hear alike.far ∙ heard.may.0) (ap far.wants is ∙ after.wants);
          alike = record {
            moment = alike.moment;
            near = alike.near;
            far = is;
            to_server = refl;
            to_client = alike.to_client;
            reported = alike.reported;
            control = alike.control;
            link = alike.link;
            marks = alike.marks;
            cutoff = alike.cutoff;
          };
        }
    server_heard (octet ∷ next ∷ octets) ways alike did = absurd (too_many octets did.hears.0.0)
      where
        too_many : (octets : List ℕ) → suc (suc (length octets)) ≤ 1 → ⊥
        too_many octets few = omega (arith, few)
