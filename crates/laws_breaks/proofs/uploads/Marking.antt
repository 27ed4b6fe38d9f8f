-- What may mark begins, reports and numbers the same as what the client did, and all that is begun asks for all.
use Rattle.std.proofs.Common.{◌≡◌, inl, inr, ℕ, suc, false, true≢false, List, [], ◌∷◌, ◌++◌, refl, sym, ap, ◌∙◌, append-nil}
use Rattle.ftp_ports.specs.Actions.{Action, Led, Other, Stand}
use Rattle.ftp_ports.specs.Machine.{Aside, Break, Held}
use Rattle.ftp_client_driver.specs.Side.{Starting, client_side}
use Rattle.ftp_ends.specs.declared.link.Wants.{Wants}
use Rattle.ftp_ends.specs.declared.link.Wants.TheVariants as Want
use Rattle.ftp_server_driver.specs.alone.Side.{Timed, server_side}
use Rattle.ftp_server_model.specs.Calls as far
use Rattle.laws_drivers.specs.control.Alone.{reports_of, reports_in}
use Rattle.laws_drivers.specs.events.Moments.{begun_at, begun_by, number_in}
use Rattle.laws_drivers.specs.control.Between.{Client as ByClient, Server as ByServer, Turn, client_actions, server_actions}
use Rattle.laws_drivers.proofs.world.Known.{is_receive}
use Rattle.laws_drivers.proofs.events.FarForms.{no_close}
use Rattle.laws_breaks.specs.downloads.Actions.{IsYielding}
use Rattle.laws_breaks.proofs.downloads.Unsent.{AskAll, both_all}
use Rattle.laws_breaks.specs.uploads.Actions.{ClientGives, GivesAlong}

-- ---- what may mark

-- a break that a server is told of may mark an operation where it wants octets, those of an upload
abbrev pub with_cut : Wants → List (Action client_side) → List (Action client_side)
with_cut Want.Receive actions = Other Break ∷ actions
with_cut wants actions = actions

-- those that may mark an operation: what the client did, and breaks that the server was told of while it took octets
abbrev pub marking : (turns : List Turn) (start now : Stand server_side) → Led (server_actions turns) start now → List (Action client_side)
marking [] start now led = []
marking (ByServer (Other Break) ∷ before) start now led = with_cut (far.wants led.0.owner.end.server.view) (marking before start led.0 led.1)
marking (ByServer action ∷ before) start now led = marking before start led.0 led.1
marking (ByClient action ∷ before) start now led = action ∷ marking before start now led

-- ---- a break of the server's

-- one of what it gives, or is to close, is of none that takes octets
pub takes_none : (at : Held Timed) → IsYielding (Other Break) at → is_receive (far.wants at.end.server.view) ≡ false
takes_none at (inl sends) = ap is_receive sends
takes_none at (inr closing) = by (far.wants at.end.server.view) refl
  where
    by : (wants : Wants) → far.wants at.end.server.view ≡ wants → is_receive wants ≡ false
    by Want.Receive is = absurd (true≢false (sym closing ∙ no_close at.end.server.view Want.Receive is refl))
    by wants is = refl

-- it is no operation
cut_number : (wants : Wants) (actions : List (Action client_side)) → number_in (with_cut wants actions) ≡ number_in actions
cut_number Want.Receive actions = refl
cut_number wants actions = refl

-- it begins none
cut_begun : (moments : ℕ → ℕ) (wants : Wants) (actions : List (Action client_side)) → begun_at moments (with_cut wants actions) ≡ begun_at moments actions
cut_begun moments Want.Receive actions = append-nil (begun_at moments actions)
cut_begun moments wants actions = refl

-- it reports none
cut_reports : (wants : Wants) (actions : List (Action client_side)) → reports_in (with_cut wants actions) ≡ reports_in actions
cut_reports Want.Receive actions = append-nil (reports_in actions)
cut_reports wants actions = refl

-- ---- all of them

-- they are as many operations
pub same_number : (turns : List Turn) (start now : Stand server_side) (led : Led (server_actions turns) start now)
    → number_in (marking turns start now led) ≡ number_in (client_actions turns)
same_number [] start now led = refl
same_number (ByServer (Other Break) ∷ before) start now led =
    cut_number (far.wants led.0.owner.end.server.view) (marking before start led.0 led.1) ∙ same_number before start led.0 led.1
same_number (ByServer action ∷ before) start now led = same_number before start led.0 led.1
same_number (ByClient (Other (Aside (Starting op))) ∷ before) start now led = ap suc (same_number before start now led)
same_number (ByClient action ∷ before) start now led = same_number before start now led

-- these are begun
pub same_begun : (moments : ℕ → ℕ) (turns : List Turn) (start now : Stand server_side) (led : Led (server_actions turns) start now)
    → begun_at moments (marking turns start now led) ≡ begun_at moments (client_actions turns)
same_begun moments [] start now led = refl
same_begun moments (ByServer (Other Break) ∷ before) start now led =
    cut_begun moments (far.wants led.0.owner.end.server.view) (marking before start led.0 led.1) ∙ same_begun moments before start led.0 led.1
same_begun moments (ByServer action ∷ before) start now led = same_begun moments before start led.0 led.1
same_begun moments (ByClient action ∷ before) start now led =
    ap (λ l. l ++ begun_by (moments (number_in (marking before start now led))) action) (same_begun moments before start now led)
    ∙ ap (λ k. begun_at moments (client_actions before) ++ begun_by (moments k) action) (same_number before start now led)

-- these are reported
pub same_reports : (turns : List Turn) (start now : Stand server_side) (led : Led (server_actions turns) start now)
    → reports_in (marking turns start now led) ≡ reports_in (client_actions turns)
same_reports [] start now led = refl
same_reports (ByServer (Other Break) ∷ before) start now led =
    cut_reports (far.wants led.0.owner.end.server.view) (marking before start led.0 led.1) ∙ same_reports before start led.0 led.1
same_reports (ByServer action ∷ before) start now led = same_reports before start led.0 led.1
same_reports (ByClient action ∷ before) start now led = ap (λ r. r ++ reports_of action) (same_reports before start now led)

-- ---- what was begun

-- an action begins an operation that asks for all, or nothing
by_all : (moment : ℕ) (action : Action client_side) (old new : client_side.End) → ClientGives action old new → AskAll (begun_by moment action)
by_all moment (Other (Aside (Starting op))) old new is = ((is.0.0.0.0, is.0.1), tt)
by_all moment action old new is = tt

-- so all actions do
pub in_all : (moments : ℕ → ℕ) (actions : List (Action client_side)) (start now : Stand client_side) (led : Led actions start now)
    → GivesAlong actions start now led → AskAll (begun_at moments actions)
in_all moments [] start now led gives = tt
in_all moments (action ∷ before) start now led gives =
    both_all (begun_at moments before) (begun_by (moments (number_in before)) action) (in_all moments before start led.0 led.1 gives.0)
    (by_all (moments (number_in before)) action led.0.owner now.owner gives.1)
