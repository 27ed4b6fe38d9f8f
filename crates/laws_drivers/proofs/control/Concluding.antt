-- What follows of a world that is alike both drives: agreement, and the direct run.
use Rattle.std.proofs.Common.{◌≡◌, List, ◌++◌, option_to_list, refl, ap, ◌∙◌}
use Rattle.ftp_client_model.specs.Calls.{control_end, report_of}
use Rattle.ftp_operation.specs.Answer.{Said}
use Rattle.ftp_server_driver.specs.alone.Side.{Timed, ended}
use Rattle.ftp_server_model.specs.Calls as far
use Rattle.ftp_server_model.specs.Machine.{ReadingExists}
use Rattle.ftp_server_model.specs.View.{View as Far}
use Rattle.ftp_tree.specs.Tree.{Table}
use Rattle.laws_world.specs.Agreement.{Order}
use Rattle.laws_world.specs.Claims.{AgreesAlways, state_of}
use Rattle.laws_world.proofs.AgreementLemmas.{unmarked_is_direct}
use Rattle.laws_drivers.specs.control.Alone.{begun_in, reports_in}
use Rattle.laws_drivers.specs.control.Between.{client_actions}
use Rattle.laws_drivers.specs.control.Claims.{DrivesAgree, DrivesAreTheDirectRun, EndsKeepTheMap, PartingAgrees}
use Rattle.laws_drivers.proofs.control.Simulating.{drives_are_of_worlds}
use Rattle.laws_drivers.proofs.control.Taken.{reports_is}
use Rattle.laws_drivers.proofs.events.Agreeing.{world_agrees, world_parting_agrees}
use Rattle.laws_drivers.proofs.events.Answers.{agree_same, none_untaken}
use Rattle.laws_drivers.proofs.events.Moments.{in_single}

-- a world that is alike both drives agrees, and so do they
pub drives_agree_by : AgreesAlways → ReadingExists → DrivesAgree
drives_agree_by always reading b fair moment timed turns between server client did =
    let o = drives_are_of_worlds reading.0 reading.1 b moment timed turns between server client did in
    let alike = o.alike in (
      o.world.marks,
      alike.marks,
      world_agrees always reading b fair (begun_in moment (client_actions turns)) o.world.marks server.owner.end.server.view.session.table o.world
          (record { events = o.events; timed = o.timed; leads = o.leads }) (ap (λ (f : Far). f.session.table) alike.far) refl
          (reports_in (client_actions turns) ++ option_to_list (report_of client.owner.end.view)) alike.reported alike.cutoff,
    )

-- agreement without marks is the direct run, where all is reported
pub drives_are_the_direct_run_by : AgreesAlways → ReadingExists → DrivesAreTheDirectRun
drives_are_the_direct_run_by always reading b fair moment timed turns between server client did free told =
    let agree = drives_agree_by always reading b fair moment timed turns between server client did in
    let reports : List Said = reports_in (client_actions turns) in
    let begun : List Order = begun_in moment (client_actions turns) in
    let table : Table = server.owner.end.server.view.session.table in
    unmarked_is_direct (state_of b) begun agree.0 reports table (in_single (λ n. moment) (client_actions turns)) agree.1 told
    (agree_same (state_of b) begun begun agree.0 (reports ++ option_to_list (report_of client.owner.end.view)) reports table table refl
    (none_untaken client reports free) refl agree.2)

-- ---- the end of a server

-- being told keeps the map
cut_keeps : (at : Timed) → (ended at).server.view.session.table ≡ at.server.view.session.table
unfolding far.control_end
cut_keeps at = refl

-- so does leaving after it
pub ends_keep_the_map : EndsKeepTheMap
ends_keep_the_map asked old new led =
    let table : Timed → Table = λ at. at.server.view.session.table in
    let cut = led.1.2 in
    ap table led.2.0.0 ∙ ap table cut.cut.0 ∙ cut_keeps led.1.0.owner.end ∙ ap (λ s. table s.owner.end) led.1.1

-- ---- where the control connection ends

-- one more event ends the control connection for both
pub parting_agrees_by : AgreesAlways → ReadingExists → PartingAgrees
parting_agrees_by always reading b fair moment timed turns between server client did =
    let o = drives_are_of_worlds reading.0 reading.1 b moment timed turns between server client did in
    let alike = o.alike in
    let v = client.owner.end.view in (
      o.world.marks,
      alike.marks,
      world_parting_agrees always reading b fair (begun_in moment (client_actions turns)) o.world.marks server.owner.end.server.view.session.table o.world
          (record { events = o.events; timed = o.timed; leads = o.leads }) (ap (λ (f : Far). f.session.table) alike.far) refl
          (reports_in (client_actions turns)) v alike.control alike.reported
          (ap (λ n. report_of (control_end n)) (alike.near ∙ reports_is v)),
    )
