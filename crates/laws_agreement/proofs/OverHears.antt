-- Octets of the control connection, heard by a client with a run and by one without.
use Rattle.std.proofs.Common.{◌≡◌, ℕ, ◌==◌, Bool, true, false, List, [], ◌∷◌, ◌++◌, Option, None, refl, sym, ap, subst, ◌∙◌, append-nil}
use Rattle.std.specs.Prelude.{if◌then◌else◌, flat_map, map}
use Rattle.ftp_nvt.specs.Fold.{Unfinished, line_out, unit_says}
use Rattle.ftp_nvt.specs.Lines.{NvtEvent, line, owed}
use Rattle.ftp_nvt.specs.Telnet.{TelnetUnit, data_octet, command, option, subnegotiation, unit_ended, owed_of, is_verb}
use Rattle.ftp_nvt.specs.declared.line.Stage.{Stage}
use Rattle.ftp_nvt.specs.declared.line.Stage.TheVariants.{Start, Inside, AfterReturn, Past}
use Rattle.ftp_nvt.specs.declared.line.TheConstants.{LF}
use Rattle.ftp_nvt.specs.declared.telnet.TelnetState.{TelnetState}
use Rattle.ftp_nvt.specs.declared.telnet.TelnetState.TheVariants as At
use Rattle.ftp_nvt.specs.declared.telnet.TheConstants.{IAC, SB, SE, DO, WILL}
use Rattle.ftp_ends.specs.Ear.{ear}
use Rattle.ftp_operation.specs.declared.op.Op.{Op}
use Rattle.ftp_client_model.specs.Calls.{hears, hears_octet, events_taken, report_of_job, reply_limit}
use Rattle.ftp_client_model.specs.Tries.{Run}
use Rattle.ftp_client_model.specs.View.{View}
use Rattle.laws_agreement.proofs.OverClient.{Works, Beside, Under, Behind, on, off, under, event_beside}
use Rattle.laws_agreement.proofs.OverTold.{some_told}

-- ---- an octet says one thing at most

-- one at most
abbrev Few : {X : Type 0} → List X → Type 0
Few [] = Unit {0}
Few (x ∷ []) = Unit {0}
Few (x ∷ y ∷ more) = ⊥

-- with nothing behind it
few_nil : {X : Type 0} (xs : List X) → Few xs → Few (xs ++ [])
few_nil xs few = subst Few (sym (append-nil xs)) few

-- one of two
if_few : {X : Type 0} (b : Bool) (xs ys : List X) → Few xs → Few ys → Few (if b then xs else ys)
if_few true xs ys one other = one
if_few false xs ys one other = other

-- of a line
line_few : (limit : ℕ) (stage : Stage) (u : Unfinished) (octet : ℕ) → Few (line_out limit stage u octet)
line_few limit Past u octet = tt
line_few limit Start u octet = if_few (u.count == limit) _ _ tt (if_few (octet == LF) _ _ tt tt)
line_few limit Inside u octet = if_few (u.count == limit) _ _ tt (if_few (octet == LF) _ _ tt tt)
line_few limit AfterReturn u octet = if_few (u.count == limit) _ _ tt (if_few (octet == LF) _ _ tt tt)

-- as many of what is made of them
map_few : (xs : List (List ℕ)) → Few xs → Few (map owed xs)
map_few [] few = tt
map_few (x ∷ []) few = tt
map_few (x ∷ y ∷ more) few = absurd few

-- of a unit
unit_few : (limit : ℕ) (u : Unfinished) (unit : TelnetUnit) → Few (unit_says limit u unit)
unit_few limit u (data_octet octet) =
    few_nil {X = NvtEvent} (line_out limit u.stage u octet ++ []) (few_nil {X = NvtEvent} (line_out limit u.stage u octet) (line_few limit u.stage u octet))
unit_few limit u (command octet) = tt
unit_few limit u (option verb octet) = map_few (owed_of (option verb octet)) (if_few (verb == DO) _ _ tt (if_few (verb == WILL) _ _ tt tt))
unit_few limit u subnegotiation = tt

-- at most one unit ends with an octet
ended_few : (limit : ℕ) (u : Unfinished) (place : TelnetState) (octet : ℕ) → Few (flat_map (unit_says limit u) (unit_ended place octet))
ended_few limit u place octet = by_units (unit_ended place octet) (units_few place)
  where
    units_few : (place : TelnetState) → Few (unit_ended place octet)
    units_few At.Between = if_few (octet == IAC) _ _ tt tt
    units_few At.Command = if_few (octet == IAC) _ _ tt (if_few (octet == SB) _ _ tt (if_few (is_verb octet) _ _ tt tt))
    units_few (At.Option verb) = tt
    units_few At.Inside = tt
    units_few At.InsideCommand = if_few (octet == SE) _ _ tt tt

    by_units : (units : List TelnetUnit) → Few units → Few (flat_map (unit_says limit u) units)
    by_units [] few = tt
    by_units (unit ∷ []) few = few_nil {X = NvtEvent} (unit_says limit u unit) (unit_few limit u unit)
    by_units (unit ∷ other ∷ more) few = absurd few

-- ---- heard by both

module _ (run : Run) (op : Op (List ℕ)) where
  -- what an octet says is taken by both
  events_beside : (events : List NvtEvent) → Few events → (v : View) → Works run op v.job v.connection → Beside run op (events_taken events (on run op v)) (events_taken events (off run op v))
  events_beside [] few v w = under run op v w
  events_beside (event ∷ []) few v w = event_beside run op event v w
  events_beside (event ∷ other ∷ more) few v w = absurd few

  -- an octet
  octet_beside : (octet : ℕ) (v : View) → Works run op v.job v.connection → Beside run op (hears_octet (on run op v) octet) (hears_octet (off run op v) octet)
  octet_beside octet v w =
      events_beside ((ear reply_limit).out v.ear octet) (ended_few reply_limit v.ear.line v.ear.place octet) (record v { ear = (ear reply_limit).step v.ear octet }) w

  -- before each of some octets nothing was answered yet
  abbrev pub Untold : List ℕ → View → Type 0
  Untold octets v = (front back : List ℕ) (octet : ℕ) → front ++ octet ∷ back ≡ octets → report_of_job (hears (off run op v) front).job ≡ None

  -- one octet more
  octet_then : (octets : List ℕ) (x y : View) → ((next : View) → y ≡ off run op next → Works run op next.job next.connection → Beside run op (hears (on run op next) octets) (hears (off run op next) octets))
      → ((last : ℕ) (more : List ℕ) → octets ≡ last ∷ more → report_of_job y.job ≡ None) → Beside run op x y → Beside run op (hears x octets) (hears y octets)
  octet_then octets x y k untold (Under next real_is alone_is works) =
      subst (λ x. Beside run op (hears x octets) (hears y octets)) (sym real_is)
      (subst (λ y. Beside run op (hears (on run op next) octets) (hears y octets)) (sym alone_is) (k next alone_is works))
  octet_then [] x y k untold (Behind next said alone_is real_is) = Behind next said alone_is real_is
  octet_then (last ∷ more) x y k untold (Behind next said alone_is real_is) = absurd (some_told y.job said (ap (λ u. u.job) alone_is) (untold last more refl))

  -- octets, where the operation is answered with the last of them at most
  pub hears_beside : (octets : List ℕ) (v : View) → Works run op v.job v.connection → Untold octets v → Beside run op (hears (on run op v) octets) (hears (off run op v) octets)
  hears_beside [] v w untold = under run op v w
  hears_beside (octet ∷ octets) v w untold =
      octet_then octets (hears_octet (on run op v) octet) (hears_octet (off run op v) octet)
      (λ next is works. hears_beside octets next works (λ front back last whole.
      ap (λ u. report_of_job (hears u front).job) (sym is) ∙ untold (octet ∷ front) back last (ap (λ l. octet ∷ l) whole)))
      (λ last more some. untold (octet ∷ []) more last (ap (λ l. octet ∷ l) (sym some)))
      (octet_beside octet v w)
