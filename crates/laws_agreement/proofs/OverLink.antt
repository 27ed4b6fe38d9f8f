-- What becomes of the data connection, at a client that is at an operation of an upload over breaks, beside one that is at that operation alone.
use Rattle.std.proofs.Common.{◌≡◌, ℕ, List, [], ◌∷◌, Bool, true, false, None, refl, sym, subst, ◌∙◌}
use Rattle.std.specs.Prelude.{if◌then◌else◌}
use Rattle.ftp_operation.specs.Answer.{Said, Foreign, Unopened}
use Rattle.ftp_operation.specs.declared.op.Op.{Op}
use Rattle.ftp_endpoint.specs.declared.host.Host.{Host}
use Rattle.ftp_ends.specs.Link.{same_host}
use Rattle.ftp_client_model.specs.Tries.{Run, next_in}
use Rattle.ftp_client_model.specs.Calls.{heard_flow, receives_octet, receives, with_flow, listening_by, listening, connected, accepted, opened_by, data_opened, unopened_by, data_refused, ending_of, over_by, data_end, data_fault, heard_by, went, goes_by, gives_data, control_end}
use Rattle.ftp_client_model.specs.Dialogue.{goes_on}
use Rattle.ftp_client_model.specs.Plan.{next_step}
use Rattle.ftp_client_model.specs.View.{View, Job, Idle, Waiting, Doing, Transferring, Told, fails_by}
use Rattle.ftp_client_model.specs.declared.client.Ending.{Ending}
use Rattle.ftp_client_model.specs.declared.client.Ending.TheVariants as Endings
use Rattle.ftp_client_model.specs.declared.client.Failure.TheVariants as Failures
use Rattle.ftp_client_model.specs.declared.client.ClientLink.{ClientLink}
use Rattle.ftp_client_model.specs.declared.client.ClientLink.TheVariants as Data
use Rattle.ftp_client_model.specs.declared.client.Standing.{Standing}
use Rattle.ftp_client_model.specs.declared.client.Standing.TheVariants as Stands
use Rattle.ftp_client_model.specs.declared.client.Step.TheVariants as Steps
use Rattle.laws_agreement.proofs.OverClient.{on, off, AtWork, Works, Beside, Along, at_link, along, amid_along, under, if_beside, lost_none, fails_beside, placed_amid, goes_on_beside, finishes_beside, carries_beside, aborts_amid}

module _ (run : Run) (op : Op (List ℕ)) where
  -- ---- the data connection

  -- while a close is wanted nothing is told to either
  unless_beside : (f : View → View) (v : View) → Works run op v.job v.connection → Beside run op (f (on run op v)) (f (off run op v))
      → Beside run op (if v.closing then (on run op) v else f (on run op v)) (if v.closing then (off run op) v else f (off run op v))
  unless_beside f v w k = if_beside run op v.closing (on run op v) (f (on run op v)) (off run op v) (f (off run op v)) (under run op v w) k

  -- a wanted port is there
  pub listening_along : (port : ℕ) (v : View) → Works run op v.job v.connection → Along run op (listening port (on run op v)) (listening port (off run op v))
  unfolding listening
  listening_along port v w = by_closing v.closing
    where
      by_link : (connection : ClientLink) (job : Job) → Works run op job connection → Along run op (listening_by connection job port (on run op v)) (listening_by connection job port (off run op v))
      by_link Data.ListenWanted (Doing other Steps.Listen) e =
          let x : View = record v { connection = Data.Listening port } in
          amid_along run op (goes_on other Steps.Listen (on run op x)) (goes_on other Steps.Listen (off run op x)) (placed_amid run op other e (next_step v.settings other Steps.Listen) x)
      by_link connection job e = along run op v w

      by_closing : (b : Bool) → Along run op (if b then (on run op) v else listening_by v.connection v.job port (on run op v)) (if b then (off run op) v else listening_by v.connection v.job port (off run op v))
      by_closing true = along run op v w
      by_closing false = by_link v.connection v.job w

  -- the link that was dialled is there at both
  connected_beside : (job : Job) (connection : ClientLink) (v : View) → Works run op job connection → Works run op v.job v.connection → Beside run op (connected job (on run op v)) (connected job (off run op v))
  connected_beside (Doing other Steps.Connect) connection v e w = goes_on_beside run op other e Steps.Connect (record v { connection = Data.Open })
  connected_beside job connection v e w = under run op v w

  -- the link at the port is there at both, or another that is closed
  accepted_beside : (ours : Bool) (v : View) → AtWork run op v.job → Beside run op (accepted ours (on run op v)) (accepted ours (off run op v))
  accepted_beside true v w = carries_beside run op (record v { connection = Data.Open }) w
  accepted_beside false v w = carries_beside run op (record v { connection = Data.Over Endings.Foreign; closing = true }) w

  -- by how the link is opened
  opened_by_beside : (connection : ClientLink) (host : Host) (v : View) → v.connection ≡ connection → Works run op v.job v.connection
      → Beside run op (opened_by connection host (on run op v)) (opened_by connection host (off run op v))
  opened_by_beside (Data.Connecting endpoint) host v is w = connected_beside v.job v.connection v w w
  opened_by_beside (Data.Accepting port) host v is w =
      accepted_beside (same_host host v.peer) v (at_link run op v.job v.connection (λ free. let e : Data.Accepting port ≡ Data.Free = sym is ∙ free in cc) w)
  opened_by_beside Data.Free host v is w = under run op v w
  opened_by_beside Data.ListenWanted host v is w = under run op v w
  opened_by_beside (Data.Listening port) host v is w = under run op v w
  opened_by_beside Data.Open host v is w = under run op v w
  opened_by_beside (Data.Over ending) host v is w = under run op v w

  -- the link is open
  pub data_opened_beside : (host : Host) (v : View) → Works run op v.job v.connection → Beside run op (data_opened host (on run op v)) (data_opened host (off run op v))
  unfolding data_opened
  data_opened_beside host v w = unless_beside (λ x. opened_by x.connection host x) v w (opened_by_beside v.connection host v refl w)

  -- by how the link was to be opened
  unopened_beside : (connection : ClientLink) (v : View) → v.connection ≡ connection → Works run op v.job v.connection → Beside run op (unopened_by connection (on run op v)) (unopened_by connection (off run op v))
  unopened_beside (Data.Connecting endpoint) v is w =
      finishes_beside run op Unopened v (at_link run op v.job v.connection (λ free. let e : Data.Connecting endpoint ≡ Data.Free = sym is ∙ free in cc) w)
  unopened_beside (Data.Accepting port) v is w =
      carries_beside run op (record v { connection = Data.Over Endings.Broken; closing = true }) (at_link run op v.job v.connection (λ free. let e : Data.Accepting port ≡ Data.Free = sym is ∙ free in cc) w)
  unopened_beside Data.Free v is w = under run op v w
  unopened_beside Data.ListenWanted v is w = under run op v w
  unopened_beside (Data.Listening port) v is w = under run op v w
  unopened_beside Data.Open v is w = under run op v w
  unopened_beside (Data.Over ending) v is w = under run op v w

  -- the link is not had
  pub data_refused_beside : (v : View) → Works run op v.job v.connection → Beside run op (data_refused (on run op v)) (data_refused (off run op v))
  unfolding data_refused
  data_refused_beside v w = unless_beside (λ x. unopened_by x.connection x) v w (unopened_beside v.connection v refl w)

  -- an open link is over at both
  over_beside : (connection : ClientLink) (ending : Ending) (v : View) → v.connection ≡ connection → Works run op v.job v.connection → Beside run op (over_by connection ending (on run op v)) (over_by connection ending (off run op v))
  over_beside Data.Open ending v is w =
      carries_beside run op (record v { connection = Data.Over ending }) (at_link run op v.job v.connection (λ free. let e : Data.Open ≡ Data.Free = sym is ∙ free in cc) w)
  over_beside Data.Free ending v is w = under run op v w
  over_beside Data.ListenWanted ending v is w = under run op v w
  over_beside (Data.Listening port) ending v is w = under run op v w
  over_beside (Data.Connecting endpoint) ending v is w = under run op v w
  over_beside (Data.Accepting port) ending v is w = under run op v w
  over_beside (Data.Over before) ending v is w = under run op v w

  -- the server closed the link
  pub data_end_beside : (v : View) → Works run op v.job v.connection → Beside run op (data_end (on run op v)) (data_end (off run op v))
  unfolding data_end
  data_end_beside v w = unless_beside (λ x. over_by x.connection (ending_of x.job) x) v w (over_beside v.connection (ending_of v.job) v refl w)

  -- the link broke
  pub data_fault_beside : (v : View) → Works run op v.job v.connection → Beside run op (data_fault (on run op v)) (data_fault (off run op v))
  unfolding data_fault
  data_fault_beside v w = unless_beside (λ x. over_by x.connection Endings.Broken x) v w (over_beside v.connection Endings.Broken v refl w)

  -- octets of it went out
  pub gives_data_beside : (count : ℕ) (v : View) → Works run op v.job v.connection → Beside run op (gives_data count (on run op v)) (gives_data count (off run op v))
  unfolding gives_data
  gives_data_beside count v w = by_job v.job w
    where
      by_job : (job : Job) → Works run op job v.connection → Beside run op (goes_by count job (on run op v)) (goes_by count job (off run op v))
      by_job (Transferring other transfer) e = carries_beside run op (record v { job = Transferring other (record transfer { flow = went count transfer.flow }) }) e
      by_job (Doing other step) e = under run op v w
      by_job (Waiting other) e = under run op v w
      by_job Idle e = under run op v w
      by_job (Told said) e = under run op v w

  -- the control connection ended
  pub control_end_beside : (v : View) → Works run op v.job v.connection → Beside run op (control_end (on run op v)) (control_end (off run op v))
  unfolding control_end
  control_end_beside v w = fails_beside run op v.standing Failures.Lost v w

  -- an octet of it is taken
  octet_along : (octet : ℕ) (v : View) → Works run op v.job v.connection → Along run op (receives_octet (on run op v) octet) (receives_octet (off run op v) octet)
  octet_along octet v w = by_job v.job w
    where
      by_job : (job : Job) → Works run op job v.connection → Along run op (heard_by job octet (on run op v)) (heard_by job octet (off run op v))
      by_job (Transferring other transfer) e =
          let heard = record transfer { flow = heard_flow transfer.abort transfer.flow octet } in
          let x : View = record v { job = Transferring other heard } in
          amid_along run op (with_flow other transfer heard.flow (on run op v)) (with_flow other transfer heard.flow (off run op v)) (aborts_amid run op x e)
      by_job (Doing other step) e = along run op v w
      by_job (Waiting other) e = along run op v w
      by_job Idle e = along run op v w
      by_job (Told said) e = along run op v w

  -- octets of it are taken
  pub receives_along : (octets : List ℕ) (v : View) → Works run op v.job v.connection → Along run op (receives (on run op v) octets) (receives (off run op v) octets)
  receives_along [] v w = along run op v w
  receives_along (octet ∷ octets) v w =
      let o = octet_along octet v w in
      subst (λ x. Along run op (receives x octets) (receives (receives_octet (off run op v) octet) octets)) (sym o.real_is)
      (subst (λ x. Along run op (receives (on run op o.view) octets) (receives x octets)) (sym o.alone_is) (receives_along octets o.view o.works))

  -- nothing follows what a failure tells
  fails_none : (standing : Standing) (v : View) (said : Said) → Works run op v.job v.connection → (fails_by standing Failures.Lost (off run op v)).job ≡ Told said → next_in run op said ≡ None
  fails_none (Stands.Failed before) v said w is = absurd (subst (λ j. Works run op j v.connection) is w)
  fails_none Stands.Greeting v said w is = lost_none run op v.job v.connection said w is
  fails_none Stands.User v said w is = lost_none run op v.job v.connection said w is
  fails_none Stands.Pass v said w is = lost_none run op v.job v.connection said w is
  fails_none Stands.Entered v said w is = lost_none run op v.job v.connection said w is

  -- nor the end of the control connection
  pub control_end_none : (v : View) (said : Said) → Works run op v.job v.connection → (control_end (off run op v)).job ≡ Told said → next_in run op said ≡ None
  unfolding control_end
  control_end_none v said w is = fails_none v.standing v said w is
