-- Each action of a client that asks over control alone, as events of a world.
use Rattle.std.proofs.Common.{◌≡◌, ℕ, ◌<◌, ◌≤◌, true, false, List, [], ◌∷◌, ◌++◌, length, take, drop, Option, option_to_list, refl, sym, ap, ap₂, subst, ◌∙◌, append_assoc, append-nil, take-append-drop, arith, length-append}
use Rattle.std.proofs.lemmas.List.{take-append-le}
use Rattle.ftp_ports.specs.Asking.{Shut}
use Rattle.ftp_ports.specs.Actions.{Calls, HearsNext, ReadsNext, Says as SaysNext, Stand}
use Rattle.ftp_ports.specs.Machine.{Aside, Closed, Left}
use Rattle.ftp_client_driver.specs.Side.{Reporting, Starting, client_side}
use Rattle.ftp_client_model.specs.Calls as near
use Rattle.ftp_client_model.specs.View.{View as Near}
use Rattle.ftp_operation.specs.Answer.{Said}
use Rattle.ftp_operation.specs.declared.op.Op.{Op}
use Rattle.ftp_server_driver.specs.alone.Side.{server_side}
use Rattle.ftp_server_model.specs.Calls.{clock_step}
use Rattle.ftp_server_model.specs.Machine.{Reading}
use Rattle.ftp_tree.specs.Sound.{last_second}
use Rattle.laws_world.specs.Agreement.{Single}
use Rattle.laws_world.specs.Claims.{AreUnmarked}
use Rattle.laws_world.specs.World.{Mark, World}
use Rattle.laws_drivers.specs.control.Alike.{IsAlike}
use Rattle.laws_drivers.specs.control.Alone.{ClientAttends, ServerAttends}
use Rattle.laws_drivers.specs.control.Between.{Near as TheClient, Ways, sent}
use Rattle.laws_drivers.proofs.control.ServerSteps.{Goes, is_ready, stays}
use Rattle.laws_drivers.proofs.control.Taken.{free_none, free_same, hears_alike, none_closing, reports_is, taken, taken_none, taken_twice}
use Rattle.laws_drivers.proofs.control.Worlds.{begins, near_hears, near_says}

-- the first octets of a list are its beginning
take_front : (xs ys : List ℕ) → take (length xs) (xs ++ ys) ≡ xs
take_front [] ys = refl
take_front (x ∷ xs) ys = ap (λ l. x ∷ l) (take_front xs ys)

-- an operation that begins has no mark
more_unmarked : (marks : List (List Mark)) → AreUnmarked marks → AreUnmarked (marks ++ [] ∷ [])
more_unmarked [] unmarked = (refl, tt)
more_unmarked (mark ∷ marks) unmarked = (unmarked.0, more_unmarked marks unmarked.1)

module _ (read : Reading) (server : Stand server_side) (old new : Stand client_side) (reports : List Said) (w : World)
    (calm : new.owner.end.refusals ≡ old.owner.end.refusals) (serves : ServerAttends server.owner) (before : ClientAttends old.owner)
    (after : ClientAttends new.owner) where
  -- what the client holds is the same, but for its report, which may be taken
  client_same : (ways next : Ways) (more : List Said) → IsAlike ways server old reports w → taken new.owner.end.view ≡ taken old.owner.end.view
      → option_to_list (near.report_of old.owner.end.view) ≡ more ++ option_to_list (near.report_of new.owner.end.view)
      → next.to_server ≡ ways.to_server → old.unheard ++ ways.to_client ≡ new.unheard ++ next.to_client → Goes read [] next server new (reports ++ more) w
  client_same ways next more alike is said other queue = stays read next server new (reports ++ more) w (record {
    moment = alike.moment;
    near = alike.near ∙ reports_is old.owner.end.view ∙ sym is ∙ sym (reports_is new.owner.end.view);
    far = alike.far;
    to_server = alike.to_server ∙ ap (λ q. server.unheard ++ q) (sym other);
    to_client = alike.to_client ∙ queue;
    reported = alike.reported ∙ ap (λ l. reports ++ l) said ∙ sym (append_assoc reports more (option_to_list (near.report_of new.owner.end.view)));
    control = alike.control;
    link = alike.link;
    marks = alike.marks;
    cutoff = alike.cutoff;
  })

  -- it holds the same
  client_keeps : (ways next : Ways) → IsAlike ways server old reports w → new.owner.end.view ≡ old.owner.end.view
      → next.to_server ≡ ways.to_server → old.unheard ++ ways.to_client ≡ new.unheard ++ next.to_client → Goes read [] next server new (reports ++ []) w
  client_keeps ways next alike is other queue =
      client_same ways next [] alike (ap taken is) (ap (λ (v : Near). option_to_list (near.report_of v)) (sym is)) other queue

  -- octets are said
  pub client_said : (octets : List ℕ) (ways : Ways) → IsAlike ways server old reports w → SaysNext octets old new
      → Goes read [] (sent TheClient octets ways) server new (reports ++ []) w
  client_said octets ways alike says =
      let v : Near = old.owner.end.view in
      let count = says.gives.count in
      let rest : List ℕ = drop count v.owed in
      let is : new.owner.end.view ≡ near.gives_control count v = says.gives.gave.0 in
      let near_is : w.near ≡ taken v = alike.near ∙ reports_is v in
      let owed : w.near.owed ≡ octets ++ rest =
      ap (λ (n : Near). n.owed) near_is ∙ sym (take-append-drop count v.owed) ∙ ap (λ o. o ++ rest) (sym says.gives.owed) in
      record {
        world = _;
        leads = near_says read octets rest w (is_ready ways server old reports w alike serves before) owed;
        alike = record {
          moment = alike.moment;
          near = ap (λ (n : Near). record n { owed = rest }) near_is ∙ ap taken (sym is) ∙ sym (reports_is new.owner.end.view);
          far = alike.far;
          to_server = ap (λ q. q ++ octets) alike.to_server ∙ append_assoc server.unheard ways.to_server octets;
          to_client = alike.to_client ∙ ap (λ u. u ++ ways.to_client) (sym says.unheard);
          reported = alike.reported ∙ ap (λ (u : Near). reports ++ option_to_list (near.report_of u)) (sym is)
              ∙ ap (λ r. r ++ option_to_list (near.report_of new.owner.end.view)) (sym (append-nil reports));
          control = alike.control;
          link = alike.link;
          marks = alike.marks;
          cutoff = alike.cutoff;
        };
      }

  -- octets are read: no event
  pub client_read : (octets : List ℕ) (ways next : Ways) → IsAlike ways server old reports w → ReadsNext octets old new
      → ways.to_client ≡ octets ++ next.to_client → next.to_server ≡ ways.to_server → Goes read [] next server new (reports ++ []) w
  client_read octets ways next alike did front other =
      client_keeps ways next alike (ap (λ o. o.end.view) did.owner) other
      (ap₂ (λ u q. u ++ q) did.heard front ∙ ap (λ u. u ++ next.to_client) (sym did.unheard))

  -- octets were heard
  heard_is : (octets : List ℕ) → HearsNext octets old new → new.owner.end.view ≡ near.hears old.owner.end.view octets
  heard_is octets did =
      (did.hears.0.0.0 calm).0 ∙ ap (λ o. near.hears old.owner.end.view o) (ap (take (length octets)) did.next ∙ take_front octets new.unheard)

  -- octets are heard
  pub client_heard : (octets : List ℕ) (ways : Ways) → IsAlike ways server old reports w → HearsNext octets old new
      → Goes read [] ways server new (reports ++ []) w
  client_heard [] ways alike did = client_keeps ways ways alike (heard_is [] did) refl (ap (λ u. u ++ ways.to_client) did.next)
  client_heard (octet ∷ octets) ways alike did =
      let v : Near = old.owner.end.view in
      let all : List ℕ = octet ∷ octets in
      let near_is : w.near ≡ taken v = alike.near ∙ reports_is v in
      let is = heard_is all did in
      let same = hears_alike all v in
      let heard : near.hears w.near all ≡ near.hears (taken v) all = ap (λ n. near.hears n all) near_is in
      let may : (k : ℕ) → k < length all → near.may_hear (near.hears w.near (take k w.control_to_client)) ≡ true = λ k less.
      ap₂ (λ n q. near.may_hear (near.hears n (take k q))) near_is alike.to_client
      ∙ ap (λ q. near.may_hear (near.hears (taken v) q)) (take-append-le k old.unheard ways.to_client (enough k less))
      ∙ (hears_alike (take k old.unheard) v).may ∙ (did.hears.0.0.0 calm).1 k less in
      record {
        world = _;
        leads = near_hears read octet octets (new.unheard ++ ways.to_client) w (is_ready ways server old reports w alike serves before)
            (alike.to_client ∙ ap (λ u. u ++ ways.to_client) did.next ∙ append_assoc all new.unheard ways.to_client) may
            (ap near.wants heard ∙ same.wants ∙ ap near.wants (sym is) ∙ after);
        alike = record {
          moment = alike.moment;
          near = ap taken heard ∙ same.view ∙ ap taken (sym is) ∙ sym (reports_is new.owner.end.view);
          far = alike.far;
          to_server = alike.to_server;
          to_client = refl;
          reported = ap₂ (λ r n. r ++ option_to_list (near.report_of n)) alike.reported heard
              ∙ append_assoc reports (option_to_list (near.report_of v)) (option_to_list (near.report_of (near.hears (taken v) all)))
              ∙ ap (λ l. reports ++ l) same.report ∙ ap (λ (u : Near). reports ++ option_to_list (near.report_of u)) (sym is)
              ∙ ap (λ r. r ++ option_to_list (near.report_of new.owner.end.view)) (sym (append-nil reports));
          control = alike.control;
          link = alike.link;
          marks = alike.marks;
          cutoff = alike.cutoff;
        };
      }
    where
      enough : (k : ℕ) → k < length (octet ∷ octets) → k ≤ length old.unheard
      enough k less = subst (λ u. k ≤ length u) (sym did.next) (omega (arith, less, length-append (octet ∷ octets) new.unheard))

  -- the report is taken: no event
  pub client_reports : (said : Option Said) (ways : Ways) → IsAlike ways server old reports w → Calls {side = client_side} (Aside (Reporting said)) old new
      → Goes read [] ways server new (reports ++ option_to_list said) w
  client_reports said ways alike did =
      let v : Near = old.owner.end.view in
      let is : new.owner.end.view ≡ taken v = did.0.0.1.0 ∙ reports_is v in
      let none : option_to_list (near.report_of new.owner.end.view) ≡ [] = ap (λ (u : Near). option_to_list (near.report_of u)) is
      ∙ ap option_to_list (taken_none v) in
      client_same ways ways (option_to_list said) alike (ap taken is ∙ taken_twice v)
      (ap option_to_list (sym did.0.0.0) ∙ sym (append-nil (option_to_list said)) ∙ ap (λ l. option_to_list said ++ l) (sym none)) refl
      (ap (λ (s : Stand client_side). s.unheard ++ ways.to_client) (sym did.1))

  -- an operation begins
  pub client_begins : (op : Op (List ℕ)) (moment : ℕ) → moment ≤ last_second → (ways : Ways) → IsAlike ways server old reports w
      → Calls {side = client_side} (Aside (Starting op)) old new → Goes read (Single op moment ∷ []) ways server new (reports ++ []) w
  client_begins op moment timed ways alike did =
      let v : Near = old.owner.end.view in
      let free : near.is_busy v ≡ false = did.0.0.0 in
      let is : new.owner.end.view ≡ near.starts op v = did.0.0.1.0.0 calm in
      let near_is : w.near ≡ v = alike.near ∙ reports_is v ∙ free_same v free in
      let begun : near.starts op w.near ≡ new.owner.end.view = ap (near.starts op) near_is ∙ sym is in
      record {
        world = _;
        leads = begins read op moment timed w (is_ready ways server old reports w alike serves before) alike.link
            (ap near.is_busy near_is ∙ free) (ap near.wants begun ∙ after);
        alike = record {
          moment = moment;
          near = ap taken begun ∙ sym (reports_is new.owner.end.view);
          far = ap (clock_step moment) alike.far;
          to_server = alike.to_server;
          to_client = alike.to_client ∙ ap (λ (s : Stand client_side). s.unheard ++ ways.to_client) (sym did.1);
          reported = ap₂ (λ r n. r ++ option_to_list (near.report_of n)) (alike.reported ∙ ap (λ o. reports ++ option_to_list o) (free_none v free)) begun;
          control = alike.control;
          link = alike.link;
          marks = more_unmarked w.marks alike.marks;
          cutoff = alike.cutoff;
        };
      }

  -- the port is shut: no event
  pub client_shuts : (ways : Ways) → IsAlike ways server old reports w → Calls {side = client_side} (Left Shut) old new
      → Goes read [] ways server new (reports ++ []) w
  client_shuts ways alike did =
      client_keeps ways ways alike (ap (λ c. c.view) did.0.0) refl (ap (λ (s : Stand client_side). s.unheard ++ ways.to_client) (sym did.1))

  -- it is told so: no event
  pub client_closed : (ways : Ways) → IsAlike ways server old reports w → Calls {side = client_side} Closed old new
      → Goes read [] ways server new (reports ++ []) w
  client_closed ways alike did =
      let v : Near = old.owner.end.view in
      let is : new.owner.end.view ≡ v = did.0.0.0 ∙ ap (λ c. record v { closing = c }) (sym (none_closing v before)) in
      client_keeps ways ways alike is refl (ap (λ (s : Stand client_side). s.unheard ++ ways.to_client) (sym did.1))
