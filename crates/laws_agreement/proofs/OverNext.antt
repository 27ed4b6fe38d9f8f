-- The next operation of a run begins as soon as the one before is answered: as if its report were taken first, and the next then begun by itself.
use Rattle.std.proofs.Common.{◌≡◌, ℕ, ◌+◌, ◌%◌, Bool, true, false, List, [], ◌∷◌, ◌++◌, Option, Some, None, refl, sym, ap, ◌∙◌}
use Rattle.std.specs.Prelude.{if◌then◌else◌}
use Rattle.ftp_command.specs.declared.command.Command.{Command}
use Rattle.ftp_operation.specs.Answer.{Said}
use Rattle.ftp_operation.specs.Operation.{can_be_sent}
use Rattle.ftp_operation.specs.declared.op.Op.{Op}
use Rattle.ftp_path.specs.Path.{Names}
use Rattle.ftp_client_model.specs.Calls as near
use Rattle.ftp_client_model.specs.Calls.{started_by, unsendable_by}
use Rattle.ftp_client_model.specs.Dialogue.{sends_if, last_job, placed, begins}
use Rattle.ftp_client_model.specs.Octets.{flow_of}
use Rattle.ftp_client_model.specs.Plan.{command_of, first_step}
use Rattle.ftp_client_model.specs.View.{View as Near, Job, Doing, Told}
use Rattle.ftp_client_model.specs.declared.client.Standing.TheVariants as Standings
use Rattle.ftp_client_model.specs.declared.client.Step.{Step}
use Rattle.ftp_client_model.specs.declared.client.Step.TheVariants as Steps
use Rattle.ftp_server_model.specs.Calls as far
use Rattle.ftp_server_model.specs.View.{View as Far, Transfer}
use Rattle.ftp_server_model.specs.declared.session.ServerLink.{ServerLink as FarConnection}
use Rattle.ftp_server_model.specs.declared.session.ServerLink.TheVariants as FarData
use Rattle.ftp_server_model.specs.declared.session.Pending.{Pending}
use Rattle.ftp_server_model.specs.declared.session.Pending.TheVariants as Pendings
use Rattle.laws_world.specs.Events.{operation_begins}
use Rattle.laws_world.specs.Serving.{near_served, far_served, served, collected, after_event}
use Rattle.laws_world.specs.World.{World, Gone, ClosedByNear, port_at}
use Rattle.laws_dialogues.specs.Dialogue.{resting}
use Rattle.laws_dialogues.specs.Fetches.{leaving, linked}
use Rattle.laws_dialogues.specs.Stage.{calm, still, rest}
use Rattle.laws_agreement.specs.Cut.{world_at}
use Rattle.laws_agreement.specs.Stages.{Leaving, Aside, LinkLeft, LinkParting, is_to_close}
use Rattle.laws_agreement.proofs.FetchLink.{far_linked}
use Rattle.laws_agreement.proofs.FetchTold.{told_at, taken_base}
use Rattle.laws_agreement.proofs.OverClient.{begins_job}
use Rattle.laws_agreement.proofs.Still.{no_octets}

-- ---- what a close that is wanted changes

-- nothing of what a step sends
sends_closing : (closes : Bool) (command : Option (Command (List ℕ))) (v : Near) → sends_if command (record v { closing = closes }) ≡ record (sends_if command v) { closing = closes }
sends_closing closes None v = refl
sends_closing closes (Some command) v = refl

-- nor of a step
placed_closing : (closes : Bool) (next : Op (List ℕ)) (step : Step) (v : Near) → placed next step (record v { closing = closes }) ≡ record (placed next step v) { closing = closes }
placed_closing closes next Steps.Kind v = sends_closing closes (command_of v next Steps.Kind) (record v { job = Doing next Steps.Kind })
placed_closing closes next Steps.Structure v = sends_closing closes (command_of v next Steps.Structure) (record v { job = Doing next Steps.Structure })
placed_closing closes next Steps.Mode v = sends_closing closes (command_of v next Steps.Mode) (record v { job = Doing next Steps.Mode })
placed_closing closes next Steps.Listen v = refl
placed_closing closes next Steps.Port v = sends_closing closes (command_of v next Steps.Port) (record v { job = Doing next Steps.Port })
placed_closing closes next Steps.Passive v = sends_closing closes (command_of v next Steps.Passive) (record v { job = Doing next Steps.Passive })
placed_closing closes next Steps.Connect v = sends_closing closes (command_of v next Steps.Connect) (record v { job = Doing next Steps.Connect })
placed_closing closes next Steps.Restart v = sends_closing closes (command_of v next Steps.Restart) (record v { job = Doing next Steps.Restart })
placed_closing closes next Steps.Source v = sends_closing closes (command_of v next Steps.Source) (record v { job = Doing next Steps.Source })
placed_closing closes next Steps.Last v = sends_closing closes (command_of v next Steps.Last) (record v { job = last_job next (flow_of next) })

-- nor of an operation that begins
begins_closing : (next : Op (List ℕ)) (said : Said) (closes : Bool) (n : Near) → begins next (calm (leaving said closes n)) ≡ record (begins next (calm (resting n))) { closing = closes }
begins_closing next said closes n =
    begins_job next (Told said) (record (calm (resting n)) { closing = closes }) ∙ placed_closing closes next (first_step n.settings next) (calm (resting n))

-- ---- a client that begins an operation wants a port at most

-- what serving a client leaves, and nothing more is wanted
record Serves (before : Near) (listens : ℕ) : Type 0 where
  after : Near
  next : ℕ
  first : (w : World) → near_served (record w { near = before; listens = listens }) ≡ record w { near = after; listens = next }
  again : (w : World) → near_served (record w { near = after; listens = next }) ≡ record w { near = after; listens = next }
  open_still : before ≡ record before { closing = false }

-- a step that sends wants nothing
sends_serves : (command : Option (Command (List ℕ))) (job : Job) (n : Near) (listens : ℕ) → Serves (sends_if command (record (calm (resting n)) { job = job })) listens
unfolding near.wants
sends_serves None job n listens = record { after = record (calm (resting n)) { job = job }; next = listens; first = λ w. refl; again = λ w. refl; open_still = refl }
sends_serves (Some command) job n listens =
    record { after = sends_if (Some command) (record (calm (resting n)) { job = job }); next = listens; first = λ w. refl; again = λ w. refl; open_still = refl }

-- a step that listens wants its port
placed_serves : (next : Op (List ℕ)) (step : Step) (n : Near) (listens : ℕ) → Serves (placed next step (calm (resting n))) listens
unfolding near.wants near.listening
placed_serves next Steps.Listen n listens = record {
  after = near.listening (port_at listens) (placed next Steps.Listen (calm (resting n)));
  next = (listens + 1) % 16384;
  first = λ w. refl;
  again = λ w. refl;
  open_still = refl;
}
placed_serves next Steps.Kind n listens = sends_serves (command_of (calm (resting n)) next Steps.Kind) (Doing next Steps.Kind) n listens
placed_serves next Steps.Structure n listens = sends_serves (command_of (calm (resting n)) next Steps.Structure) (Doing next Steps.Structure) n listens
placed_serves next Steps.Mode n listens = sends_serves (command_of (calm (resting n)) next Steps.Mode) (Doing next Steps.Mode) n listens
placed_serves next Steps.Port n listens = sends_serves (command_of (calm (resting n)) next Steps.Port) (Doing next Steps.Port) n listens
placed_serves next Steps.Passive n listens = sends_serves (command_of (calm (resting n)) next Steps.Passive) (Doing next Steps.Passive) n listens
placed_serves next Steps.Connect n listens = sends_serves (command_of (calm (resting n)) next Steps.Connect) (Doing next Steps.Connect) n listens
placed_serves next Steps.Restart n listens = sends_serves (command_of (calm (resting n)) next Steps.Restart) (Doing next Steps.Restart) n listens
placed_serves next Steps.Source n listens = sends_serves (command_of (calm (resting n)) next Steps.Source) (Doing next Steps.Source) n listens
placed_serves next Steps.Last n listens = sends_serves (command_of (calm (resting n)) next Steps.Last) (last_job next (flow_of next)) n listens

-- ---- the world where it begins

module _ (said : Said) (next : Op (List ℕ)) (b : World) where
  -- the report of the one before is taken, and the next has begun
  abbrev pub begun_base : FarConnection Transfer → Pending Names → World
  begun_base connection pending =
      record (world_at (taken_base said connection pending Gone b) rest no_octets) { near = begins next (calm (resting b.near)); marks = b.marks ++ [] ∷ [] }

  -- the next has begun, and what the one before left is to be closed still
  abbrev pub going_on : Leaving → World
  going_on leaves =
      record (told_at said leaves b) { near = begins next (calm (leaving said (is_to_close leaves) b.near)); marks = b.marks ++ [] ∷ []; reports = b.reports ++ said ∷ [] }

  -- a client that begins the next is served a port at most
  serves : Serves (begins next (calm (resting b.near))) b.listens
  serves = placed_serves next (first_step b.near.settings next) b.near b.listens

  -- the client beginning with a close still wanted
  abbrev closing_near : Near
  closing_near = record (begins next (calm (resting b.near))) { closing = true }

  -- nothing is to be closed
  begins_aside : (connection : FarConnection Transfer) (pending : Pending Names) → going_on (Aside false connection pending) ≡ begun_base connection pending
  begins_aside connection pending =
      ap (λ v. record (begun_base connection pending) { near = v }) (begins_closing next said false b.near ∙ sym serves.open_still)

  -- once the client has closed, three times served is once
  thrice : (w u : World) → u ≡ record u { near = begins next (calm (resting b.near)); listens = b.listens } → near_served w ≡ u → served w ≡ served u
  thrice w u is once =
      let x : World = record u { near = serves.after; listens = serves.next } in
      let one : near_served u ≡ x = ap near_served is ∙ serves.first u in
      let two : near_served x ≡ x = serves.again u in
      let far : World → World = λ y. far_served (far_served (far_served y)) in
      ap (λ y. far (near_served (near_served y))) once ∙ ap (λ y. far (near_served y)) one ∙ ap far two
      ∙ sym (ap (λ y. far (near_served (near_served y))) one ∙ ap (λ y. far (near_served y)) two ∙ ap far two)

  -- a port of the client is to be closed
  begins_port : (connection : FarConnection Transfer) (pending : Pending Names) → served (going_on (Aside true connection pending)) ≡ served (begun_base connection pending)
  unfolding near.wants
  begins_port connection pending =
      let w : World = record (begun_base connection pending) { near = closing_near } in
      ap (λ v. served (record (begun_base connection pending) { near = v })) (begins_closing next said true b.near)
      ∙ thrice w (begun_base connection pending) refl (ap (λ v. record (begun_base connection pending) { near = v }) (sym serves.open_still))

  -- the server has closed the link
  begins_left : served (going_on LinkLeft) ≡ served (begun_base FarData.Free Pendings.Nothing)
  unfolding near.wants
  begins_left =
      let u : World = begun_base FarData.Free Pendings.Nothing in
      let w : World = record (going_on LinkLeft) { near = closing_near } in
      ap (λ v. served (record (going_on LinkLeft) { near = v })) (begins_closing next said true b.near)
      ∙ thrice w u refl (ap (λ v. record u { near = v }) (sym serves.open_still))

  -- the server is to close it too
  begins_parting : served (going_on LinkParting) ≡ served (begun_base FarData.Free Pendings.Nothing)
  unfolding near.wants far.data_closed
  begins_parting =
      let u : World = begun_base FarData.Free Pendings.Nothing in
      let f : Far = still (far_linked (linked FarData.Free true Pendings.Nothing b.far.session) b.far) in
      let half : World = record u { link = ClosedByNear; far = f } in
      let w : World = record (going_on LinkParting) { near = closing_near } in
      let once : near_served w ≡ half = ap (λ v. record half { near = v }) (sym serves.open_still) in
      let x : World = record u { near = serves.after; listens = serves.next } in
      let y : World = record half { near = serves.after; listens = serves.next } in
      let fars : World → World = λ y. far_served (far_served (far_served y)) in
      let one : near_served half ≡ y = serves.first half in
      let two : near_served y ≡ y = serves.again half in
      let there : near_served u ≡ x = serves.first u in
      let stays : near_served x ≡ x = serves.again u in
      let same : fars y ≡ fars x = refl in
      ap (λ v. served (record (going_on LinkParting) { near = v })) (begins_closing next said true b.near)
      ∙ ap (λ y. fars (near_served (near_served y))) once ∙ ap (λ y. fars (near_served y)) one ∙ ap fars two ∙ same
      ∙ sym (ap (λ y. fars (near_served (near_served y))) there ∙ ap (λ y. fars (near_served y)) stays ∙ ap fars stays)

  -- the report is taken, and the next begun by itself, at the moment that the server has
  pub begins_at : (moment : ℕ) (connection : FarConnection Transfer) (pending : Pending Names) → can_be_sent next ≡ true → b.far.context.moment ≡ moment
      → operation_begins next moment (world_at (taken_base said connection pending Gone b) rest no_octets) ≡ begun_base connection pending
  unfolding near.starts far.clocked
  begins_at moment connection pending can at =
      let w : World = world_at (taken_base said connection pending Gone b) rest no_octets in
      let starts : near.starts next (calm (resting b.near)) ≡ begins next (calm (resting b.near)) =
      ap (λ (b : Bool). if b then started_by Standings.Entered next (calm (resting n)) else unsendable_by Standings.Entered (calm (resting n))) can in
      let clock : ℕ → Far = λ m. record w.far { context = record w.far.context { moment = m } } in
      (λ i. record w { far = clock (sym at i); near = starts i; marks = b.marks ++ [] ∷ [] })
    where
      n : Near
      n = b.near

  -- however the one before leaves its link, the next goes on as if it were begun by itself
  pub goes_on_aside : (closes : Bool) (connection : FarConnection Transfer) (pending : Pending Names) → after_event (going_on (Aside closes connection pending)) ≡ after_event (begun_base connection pending)
  goes_on_aside false connection pending = ap after_event (begins_aside connection pending)
  goes_on_aside true connection pending = ap collected (begins_port connection pending)

  -- so it is where the server has closed the link
  pub goes_on_left : after_event (going_on LinkLeft) ≡ after_event (begun_base FarData.Free Pendings.Nothing)
  goes_on_left = ap collected begins_left

  -- and where it is to close it too
  pub goes_on_parting : after_event (going_on LinkParting) ≡ after_event (begun_base FarData.Free Pendings.Nothing)
  goes_on_parting = ap collected begins_parting
