-- How a world's client is ahead of a drive's, and what is so of the drive's then; what an action does to that.
use Rattle.std.proofs.Common.{◌≡◌, inl, inr, ℕ, Bool, true, false, true≢false, List, [], ◌∷◌, ◌++◌, Some, None, refl, sym, ap, ◌∙◌}
use Rattle.ftp_ports.specs.Actions.{Stand}
use Rattle.ftp_direct.specs.Direct.{State, answer}
use Rattle.std.specs.List.{flat_map}
use Rattle.ftp_nvt.specs.Lines.{written_line, written_octet}
use Rattle.ftp_client_driver.specs.Side.{client_side}
use Rattle.ftp_client_model.specs.Calls as near
use Rattle.ftp_client_model.specs.Calls.{accepted, data_closed, is_sound, listening}
use Rattle.ftp_command.specs.Line.{line_of}
use Rattle.ftp_client_model.specs.Plan.{is_extended, own_endpoint, port_command}
use Rattle.ftp_client_model.specs.View.{Doing, View as Near}
use Rattle.ftp_client_model.specs.declared.client.ClientLink.TheVariants as Data
use Rattle.ftp_client_model.specs.declared.client.Replied.TheVariants as Replies
use Rattle.ftp_client_model.specs.declared.client.Step.TheVariants as Steps
use Rattle.ftp_operation.specs.declared.op.Op.{Op}
use Rattle.ftp_server_driver.specs.alone.Side.{server_side}
use Rattle.ftp_server_model.specs.Machine.{IsReading, Reading}
use Rattle.laws_world.specs.Agreement.{Order}
use Rattle.laws_world.specs.Events.{is_closed_by_near}
use Rattle.laws_world.specs.World.{Stands, World, port_at}
use Rattle.laws_dialogues.specs.Fetches.{busy}
use Rattle.laws_dialogues.specs.Login.{AtFree, AtOperation}
use Rattle.laws_dialogues.specs.Stage.{Answering, Asking, Way}
use Rattle.laws_agreement.specs.Cut.{Fits, PlacedAt, coming, of_ends, world_at}
use Rattle.laws_agreement.specs.Follows.{Phase}
use Rattle.laws_agreement.specs.Over.{OverRuns}
use Rattle.laws_agreement.specs.Stages.{AtFetch}
use Rattle.laws_agreement.proofs.Still.{row_like}
use Rattle.laws_drivers.specs.control.Between.{Between, Can, Far as TheServer, Near as TheClient}
use Rattle.laws_drivers.specs.control.Touches.{Accepts, Dials, Ends, IsDenied, IsMissed, Listens, None_of_it, Parts, Reads, Resets, Says, Takes, ToldBreak, ToldEnd, Touch, Writes}
use Rattle.laws_drivers.specs.world.Unaborted.{is_unaborted}
use Rattle.laws_drivers.proofs.world.Running.{halt_aborted, not_lost}
use Rattle.laws_drivers.proofs.events.Holding.{is_called}
use Rattle.laws_drivers.proofs.events.Stands.{ClientFetches as ClientRests, wants_port}
use Rattle.laws_transfers.proofs.Known.{AreCarried, is_ready, last_carried}
use Rattle.laws_transfers.proofs.Running.{not_trailing}
use Rattle.laws_active.specs.Lead.{Even, Joined, Lead, Told, led_by}
use Rattle.laws_active.proofs.Accepting.{joining, joins}
use Rattle.laws_active.proofs.Joining.{joined_portless, joins_form}
use Rattle.laws_active.proofs.Leading.{Comes, IsJoined, IsTold, Stays, Waits, led_client}
use Rattle.laws_active.proofs.Lifting.{Lifted}
use Rattle.laws_active.proofs.Telling.{has_any}

-- ---- what is so then

-- of the drive's client, of what lies between, and of the server where the client's link is closed at once
abbrev pub LedSo : Lead → (more : List ℕ) → Between → (told : ℕ) → Stand server_side → Stand client_side → Type 0
LedSo Even more between told server c = (is_called between.near ≡ false) × ClientRests c.owner
LedSo (Told port) more between told server c = IsTold between c × (port ≡ port_at told)
LedSo (Joined octets) more between told server c = (j : IsJoined octets more between c) × (j.closed ≡ true → Lifted between server)

-- ---- how the client that is ahead stands

pub told_fetches : (port : ℕ) (op : Op (List ℕ)) (n : Near)
    → let m : Near = listening port (busy (Doing op Steps.Listen) Data.ListenWanted n) in
    (is_sound m.standing ≡ true) × (wants_port m.connection ≡ false) × (is_unaborted m.job ≡ true)
unfolding near.listening
told_fetches port op n = (refl, refl, refl)

pub stays_joined : (d : Near) (octets : List ℕ) → Stays d octets → let m : Near = accepted true (near.hears d octets) in
    (is_sound m.standing ≡ true) × (wants_port m.connection ≡ false) × (is_unaborted m.job ≡ true)
stays_joined d octets (Comes op flow few port octet more is o) =
    let form : accepted true (near.hears d octets) ≡ joining op Replies.Begun flow (near.hears d octets) =
    ap (accepted true) o.whole ∙ joins op Replies.Begun flow few refl port (near.hears d octets) in (
      ap (λ (n : Near). is_sound n.standing) form,
      ap (λ (n : Near). wants_port n.connection) form ∙ joined_portless flow,
      ap (λ (n : Near). is_unaborted n.job) form,
    )
stays_joined d octets (Waits is a) =
    let form : accepted true (near.hears d octets) ≡ joining a.op a.replied a.flow d =
    ap (λ l. accepted true (near.hears d l)) is ∙ joins_form d a in (
      ap (λ (n : Near). is_sound n.standing) form,
      ap (λ (n : Near). wants_port n.connection) form ∙ joined_portless a.flow,
      ap (λ (n : Near). is_unaborted n.job) form,
    )

pub led_fetches : (lead : Lead) (more : List ℕ) (between : Between) (told : ℕ) (server : Stand server_side) (c : Stand client_side)
    → LedSo lead more between told server c → ClientRests (led_client lead c).owner
led_fetches Even more between told server c so = so.1
led_fetches (Told port) more between told server c so =
    let one = told_fetches port so.0.op c.owner.end.view in
    let is : led_by (Told port) c.owner.end.view ≡ listening port (busy (Doing so.0.op Steps.Listen) Data.ListenWanted c.owner.end.view) =
    ap (listening port) so.0.view in
    record {
      sound = ap (λ (n : Near). is_sound n.standing) is ∙ one.0;
      dials = ap (λ (n : Near). wants_port n.connection) is ∙ one.1;
    }
led_fetches (Joined octets) more between told server c so =
    let one = stays_joined (data_closed c.owner.end.view) octets so.0.stays.0 in record { sound = one.0; dials = one.1 }

-- one that is ahead sent no ABOR
pub told_unaborted : (port : ℕ) (between : Between) (c : Stand client_side) → IsTold between c
    → is_unaborted (led_client (Told port) c).owner.end.view.job ≡ true
told_unaborted port between c is_told =
    ap (λ n. is_unaborted (listening port n).job) is_told.view ∙ (told_fetches port is_told.op c.owner.end.view).2

pub joined_unaborted : (octets more : List ℕ) (between : Between) (c : Stand client_side) → IsJoined octets more between c
    → is_unaborted (led_client (Joined octets) c).owner.end.view.job ≡ true
joined_unaborted octets more between c j = (stays_joined (data_closed c.owner.end.view) octets j.stays.0).2

-- ---- what an action does to who is called

-- a client that was not dialled is not by what it does
pub near_uncalled : (touch : Touch) (old new : Between) → Can TheClient touch old new → is_called old.near ≡ false → is_called new.near ≡ false
near_uncalled None_of_it old new can e = ap (λ (b : Between). is_called b.near) can ∙ e
near_uncalled Parts old new can e = ap (λ (b : Between). is_called b.near) can ∙ e
near_uncalled (Says said) old new can e = ap (λ (b : Between). is_called b.near) can ∙ e
near_uncalled (Reads read) old new can e = ap (λ (b : Between). is_called b.near) can.1 ∙ e
near_uncalled (Listens None) old new can e = ap (λ (b : Between). is_called b.near) can ∙ e
near_uncalled (Listens (Some port)) old new can e = ap (λ (b : Between). is_called b.near) can.1
near_uncalled (Dials endpoint) old new can e = ap (λ (b : Between). is_called b.near) can.2
near_uncalled (Accepts host) old new can e = ap (λ (b : Between). is_called b.near) can.1
near_uncalled (IsDenied endpoint) old new can e = ap (λ (b : Between). is_called b.near) can ∙ e
near_uncalled IsMissed old new can e = ap (λ (b : Between). is_called b.near) can ∙ e
near_uncalled (Writes wrote) old new can e = ap (λ (b : Between). is_called b.near) can.1 ∙ e
near_uncalled (Takes took) old new can e = ap (λ (b : Between). is_called b.near) can.2 ∙ e
near_uncalled Ends old new can e = ap (λ (b : Between). is_called b.near) can.1
near_uncalled Resets old new can e = ap (λ (b : Between). is_called b.near) can.1
near_uncalled ToldEnd old new can e = ap (λ (b : Between). is_called b.near) can.2 ∙ e
near_uncalled ToldBreak old new can e = ap (λ (b : Between). is_called b.near) can.1

-- what the client holds and has to read stays by what a server does that neither dials nor says
abbrev pub is_apart : Touch → Bool
is_apart (Dials endpoint) = false
is_apart (Says said) = false
is_apart touch = true

pub far_apart : (touch : Touch) (old new : Between) → is_apart touch ≡ true → Can TheServer touch old new
    → (new.near ≡ old.near) × (new.control.to_client ≡ old.control.to_client)
far_apart None_of_it old new e can = (ap (λ (b : Between). b.near) can, ap (λ (b : Between). b.control.to_client) can)
far_apart Parts old new e can = (ap (λ (b : Between). b.near) can, ap (λ (b : Between). b.control.to_client) can)
far_apart (Says said) old new e can = absurd (true≢false (sym e))
far_apart (Reads read) old new e can = (ap (λ (b : Between). b.near) can.1, ap (λ (b : Between). b.control.to_client) can.1)
far_apart (Listens None) old new e can = (ap (λ (b : Between). b.near) can, ap (λ (b : Between). b.control.to_client) can)
far_apart (Listens (Some port)) old new e can = (ap (λ (b : Between). b.near) can.1, ap (λ (b : Between). b.control.to_client) can.1)
far_apart (Dials endpoint) old new e can = absurd (true≢false (sym e))
far_apart (Accepts host) old new e can = (ap (λ (b : Between). b.near) can.1, ap (λ (b : Between). b.control.to_client) can.1)
far_apart (IsDenied endpoint) old new e can = (ap (λ (b : Between). b.near) can, ap (λ (b : Between). b.control.to_client) can)
far_apart IsMissed old new e can = (ap (λ (b : Between). b.near) can, ap (λ (b : Between). b.control.to_client) can)
far_apart (Writes wrote) old new e can = (ap (λ (b : Between). b.near) can.1, ap (λ (b : Between). b.control.to_client) can.1)
far_apart (Takes took) old new e can = (ap (λ (b : Between). b.near) can.2, ap (λ (b : Between). b.control.to_client) can.2)
far_apart Ends old new e can = (ap (λ (b : Between). b.near) can.1, ap (λ (b : Between). b.control.to_client) can.1)
far_apart Resets old new e can = (ap (λ (b : Between). b.near) can.1, ap (λ (b : Between). b.control.to_client) can.1)
far_apart ToldEnd old new e can = (ap (λ (b : Between). b.near) can.2, ap (λ (b : Between). b.control.to_client) can.2)
far_apart ToldBreak old new e can = (ap (λ (b : Between). b.near) can.1, ap (λ (b : Between). b.control.to_client) can.1)

-- ---- a client that owes octets

-- what it was told to say it owes
any_behind : (front : List ℕ) (octet : ℕ) (more : List ℕ) → has_any (front ++ octet ∷ more) ≡ true
any_behind [] octet more = refl
any_behind (one ∷ front) octet more = refl

-- the server owes nothing then
placed_sides : (At : Way → World → Type 0) (w : World) → PlacedAt At w → has_any w.near.owed ≡ true → w.far.owed ≡ []
placed_sides At w s some = by s.way s.is s.fits
  where
    by : (way : Way) → w ≡ world_at s.base way s.cut → Fits way s.cut → w.far.owed ≡ []
    by (Asking text) is fits = ap (λ (u : World). u.far.owed) is
    by (Answering rows) is fits =
        let none : w.near.owed ≡ [] =
        ap (λ (u : World). u.near.owed) is ∙ (row_like s.base.near rows s.cut.held (coming s.cut) fits.0 fits.1).owed in
        absurd (true≢false (sym some ∙ ap has_any none))

module _ (read : Reading) (reads : IsReading read) (from : State) (begun : List Order) (puts : AreCarried begun) where
  pub world_sides : (w : World) → OverRuns read from begun w → w.control ≡ Stands
      → (is_closed_by_near w.link ≡ true → is_ready w.far.session.connection ≡ false) → is_unaborted w.near.job ≡ true
      → has_any w.near.owed ≡ true → w.far.owed ≡ []
  world_sides w runs control unready unaborted some = by runs
    where
      by_phase : Phase read from begun w → w.far.owed ≡ []
      by_phase (inl (linked, inl free)) = placed_sides (of_ends (AtFree free.now)) w free.stands some
      by_phase (inl (linked, inr under)) =
          placed_sides (of_ends (AtOperation read under.now under.op (answer under.now under.op under.moment))) w under.stands some
      by_phase (inr lost) = absurd (not_lost read from begun w control lost)

      by : OverRuns read from begun w → w.far.owed ≡ []
      by (inl (inl f)) = by_phase f.phase
      by (inl (inr (inl on))) = let f = on.fetching in placed_sides (AtFetch f.now f.ask read f.own) w f.stands some
      by (inl (inr (inr (inl trailing)))) = absurd (not_trailing read reads from begun puts w unready trailing)
      by (inl (inr (inr (inr halting)))) = let h = halting.halting in absurd (true≢false (sym unaborted ∙ halt_aborted h.now h.ask h.own w h.stands))
      by (inr (inl trying)) = absurd (last_carried trying.going.done _ begun trying.going.begun_is puts)
      by (inr (inr tailing)) = absurd (last_carried tailing.going.done _ begun tailing.going.begun_is puts)

-- one that was told a port owes PORT or EPRT
pub told_owes : (port : ℕ) (op : Op (List ℕ)) (n : Near) → has_any (listening port (busy (Doing op Steps.Listen) Data.ListenWanted n)).owed ≡ true
unfolding near.listening
told_owes port op n = by n.owed (line_of (port_command (is_extended there op) (own_endpoint there)))
  where
    there : Near
    there = record n { connection = Data.Listening port }

    by : (owed text : List ℕ) → has_any (owed ++ written_line text) ≡ true
    by [] text = any_behind (flat_map written_octet text) 13 (10 ∷ [])
    by (octet ∷ owed) text = refl
