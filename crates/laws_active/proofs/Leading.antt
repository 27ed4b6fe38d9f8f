-- A client, and what lies between, once it did what a world's client did ahead of it: so all that is asked of a world beside both drives is asked of these.
use Rattle.std.proofs.Common.{◌≡◌, ℕ, Bool, true, false, true≢false, List, [], ◌∷◌, ◌++◌, Some, None, refl, sym, ap, ◌∙◌, append_assoc}
use Rattle.ftp_ports.specs.Actions.{Stand}
use Rattle.ftp_ports.specs.Channel.{Channel}
use Rattle.ftp_ports.specs.Machine.{held}
use Rattle.ftp_ports.specs.declared.whole.Fate.TheVariants.{Sound}
use Rattle.ftp_ports.specs.declared.whole.Rest.TheVariants.{Nothing}
use Rattle.ftp_client_driver.specs.Side.{client_side}
use Rattle.ftp_client_model.specs.Calls.{data_closed}
use Rattle.ftp_client_model.specs.View.{Doing, Flow, View as Near}
use Rattle.ftp_client_model.specs.declared.client.ClientLink.TheVariants as Data
use Rattle.ftp_client_model.specs.declared.client.Step.TheVariants as Steps
use Rattle.ftp_operation.specs.declared.op.Op.{Op}
use Rattle.laws_world.specs.World.{next_listen}
use Rattle.laws_dialogues.specs.Fetches.{busy}
use Rattle.laws_drivers.specs.control.Between.{Awaits, Between, Can, Far as TheServer, Has, Has_ended, Hold, Is_called}
use Rattle.laws_drivers.specs.control.Touches.{Accepts, Dials, Ends, IsDenied, IsMissed, Listens, None_of_it, Parts, Reads, Resets, Says, Takes, ToldBreak, ToldEnd, Touch, Writes}
use Rattle.laws_drivers.proofs.events.Holding.{is_called}
use Rattle.laws_active.specs.Lead.{Even, Joined, Lead, Told, led_by}
use Rattle.laws_active.proofs.Accepting.{Awaits as AwaitsHere, IsFew, joined_closing}
use Rattle.laws_active.proofs.Calls.{Opens}

-- ---- the client that is ahead

-- a data connection over which nothing went yet
abbrev pub joined_channel : Channel
joined_channel = record { stands = true; fate = Sound; rest = Nothing; left = None; written = None; unwritten = []; untold = []; asked = None }

abbrev pub with_view : Near → Stand client_side → Stand client_side
with_view view c = record c { owner = held (record c.owner.end { view = view }) c.owner.channel }

-- a client that has it, and has read nothing that it did not hear
abbrev pub joined_client : Near → Stand client_side
joined_client view = record {
  owner = held (record { view = view; refusals = 0 }) joined_channel;
  left = record { octets = None; ended = false };
  unheard = [];
  written = None;
}

abbrev pub led_client : Lead → Stand client_side → Stand client_side
led_client Even c = c
led_client (Told port) c = with_view (led_by (Told port) c.owner.end.view) c
led_client (Joined octets) c = joined_client (led_by (Joined octets) c.owner.end.view)

-- these are left to be read of what comes to it, and it has the data connection
abbrev pub led_between : Lead → (more : List ℕ) → Between → Between
led_between Even more between = between
led_between (Told port) more between = between
led_between (Joined octets) more between = record between { control = record between.control { to_client = more }; near = Has }

-- so many ports were told
abbrev pub led_told : Lead → ℕ → ℕ
led_told (Told port) told = next_listen told
led_told lead told = told

-- ---- what is so of the drive's

-- it is to be told a port, and nothing comes to it
pub record IsTold (between : Between) (c : Stand client_side) : Type 0 where
  pub op : Op (List ℕ)
  pub view : data_closed c.owner.end.view ≡ busy (Doing op Steps.Listen) Data.ListenWanted c.owner.end.view
  pub owed : c.owner.end.view.owed ≡ []
  pub empty : c.unheard ++ between.control.to_client ≡ []
  pub called : is_called between.near ≡ false

-- it was dialled, and these octets, of the 150, come before it can accept; or it waits for who came
pub data Stays (v : Near) (octets : List ℕ) : Type 0 where
  Comes : (op : Op (List ℕ)) → (flow : Flow) → IsFew op flow → (port octet : ℕ) → (more : List ℕ) → octets ≡ octet ∷ more → Opens op flow port v octets
      → Stays v octets
  Waits : octets ≡ [] → AwaitsHere v → Stays v octets

-- a world's client has closed the link at once
abbrev pub closes : {v : Near} {octets : List ℕ} → Stays v octets → Bool
closes (Comes op flow few port octet more is o) = joined_closing flow
closes (Waits is a) = joined_closing a.flow

-- so it does or not
abbrev pub StaysSo : Near → List ℕ → Bool → Type 0
StaysSo v octets closed = (s : Stays v octets) × (closes s ≡ closed)

pub record IsJoined (octets more : List ℕ) (between : Between) (c : Stand client_side) : Type 0 where
  pub closed : Bool
  pub stays : StaysSo (data_closed c.owner.end.view) octets closed
  pub owed : c.owner.end.view.owed ≡ []
  pub queue : c.unheard ++ between.control.to_client ≡ octets ++ more
  pub called : between.near ≡ Is_called

abbrev pub IsLed : Lead → (more : List ℕ) → Between → Stand client_side → Type 0
IsLed Even more between c = is_called between.near ≡ false
IsLed (Told port) more between c = IsTold between c
IsLed (Joined octets) more between c = IsJoined octets more between c

-- ---- what a server does lies between as ever

-- so it is after an action of a server, but a dial
pub record Follows (touch : Touch) (octets more : List ℕ) (old new : Between) : Type 0 where
  pub rest : List ℕ
  pub can : Can TheServer touch (led_between (Joined octets) more old) (led_between (Joined octets) rest new)
  pub queue : (unheard : List ℕ) → unheard ++ old.control.to_client ≡ octets ++ more → unheard ++ new.control.to_client ≡ octets ++ rest
  pub called : new.near ≡ Is_called

-- one that was dialled waits at no port any more, and has ended nothing
pub not_awaiting : (hold : Hold) (port : ℕ) → hold ≡ Is_called → hold ≡ Awaits port → ⊥
not_awaiting hold port one other = true≢false (sym (ap is_called one) ∙ ap is_called other)

pub not_ended : (hold : Hold) → hold ≡ Is_called → hold ≡ Has_ended → ⊥
not_ended hold one other = true≢false (sym (ap is_called one) ∙ ap is_called other)

module _ (octets more : List ℕ) (old new : Between) (called : old.near ≡ Is_called) where
  -- the client reads no more of what comes to it, and is called still
  stays : (touch : Touch) → new.control.to_client ≡ old.control.to_client → new.near ≡ old.near
      → Can TheServer touch (led_between (Joined octets) more old) (led_between (Joined octets) more new) → Follows touch octets more old new
  stays touch same near can = record {
    rest = more;
    can = can;
    queue = λ unheard q. ap (λ o. unheard ++ o) same ∙ q;
    called = near ∙ called;
  }

  -- nothing is another
  idle : (touch : Touch) → new ≡ old → (led_between (Joined octets) more new ≡ led_between (Joined octets) more old
      → Can TheServer touch (led_between (Joined octets) more old) (led_between (Joined octets) more new)) → Follows touch octets more old new
  idle touch same can =
      stays touch (ap (λ (b : Between). b.control.to_client) same) (ap (λ (b : Between). b.near) same) (can (ap (led_between (Joined octets) more) same))

  -- nothing that the client reads or holds is another
  moves : (touch : Touch) (b : Between) → new ≡ b → b.control.to_client ≡ old.control.to_client → b.near ≡ old.near
      → (led_between (Joined octets) more new ≡ led_between (Joined octets) more b
      → Can TheServer touch (led_between (Joined octets) more old) (led_between (Joined octets) more new)) → Follows touch octets more old new
  moves touch b is same near can =
      stays touch (ap (λ (m : Between). m.control.to_client) is ∙ same) (ap (λ (m : Between). m.near) is ∙ near)
      (can (ap (led_between (Joined octets) more) is))

  pub server_follows : (touch : Touch) → Can TheServer touch old new → Follows touch octets more old new
  server_follows None_of_it can = idle None_of_it can (λ e. e)
  server_follows Parts can = idle Parts can (λ e. e)
  server_follows (Listens None) can = idle (Listens None) can (λ e. e)
  server_follows (IsDenied endpoint) can = idle (IsDenied endpoint) can (λ e. e)
  server_follows IsMissed can = idle IsMissed can (λ e. e)
  server_follows (Says said) can = record {
    rest = more ++ said;
    can = ap (led_between (Joined octets) (more ++ said)) can;
    queue = λ unheard q.
        ap (λ (b : Between). unheard ++ b.control.to_client) can ∙ sym (append_assoc unheard old.control.to_client said) ∙ ap (λ o. o ++ said) q
        ∙ append_assoc octets more said;
    called = ap (λ (b : Between). b.near) can ∙ called;
  }
  server_follows (Reads read) can = moves (Reads read) _ can.1 refl refl (λ e. (can.0, e))
  server_follows (Listens (Some port)) can = moves (Listens (Some port)) _ can.1 refl refl (λ e. (can.0, e))
  server_follows (Dials endpoint) can = absurd (not_awaiting old.near endpoint.port called can.1)
  server_follows (Accepts host) can = moves (Accepts host) _ can.1 refl refl (λ e. (can.0, e))
  server_follows (Writes wrote) can = moves (Writes wrote) _ can.1 refl refl (λ e. (can.0, e))
  server_follows (Takes took) can = moves (Takes took) _ can.2 refl refl (λ e. (can.0, can.1, e))
  server_follows Ends can = moves Ends _ can.1 refl refl (λ e. (can.0, e))
  server_follows Resets can = moves Resets _ can.1 refl refl (λ e. (can.0, e))
  server_follows ToldEnd can = absurd (not_ended old.near called can.0)
  server_follows ToldBreak can = moves ToldBreak _ can.1 refl refl (λ e. (can.0, e))
