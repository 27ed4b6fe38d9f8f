-- What follows of a world that has such marks, reports and map: they agree, and so they do where its control connection ends then.
use Rattle.std.proofs.Common.{◌≡◌, ℕ, List, [], ◌++◌, length, Option, Some, None, option_to_list, ap, ap₂, subst, ◌∙◌, append_assoc, append-nil}
use Rattle.ftp_client_model.specs.Calls.{control_end, report_of}
use Rattle.ftp_client_model.specs.View.{View as Near}
use Rattle.ftp_operation.specs.Answer.{Said}
use Rattle.ftp_server_model.specs.Machine.{ReadingExists}
use Rattle.ftp_tree.specs.Tree.{Table}
use Rattle.laws_world.specs.Agreement.{Agrees, Order, WorldAgrees}
use Rattle.laws_world.specs.Claims.{AgreesAlways, Beginning, IsFair, state_of, world_of}
use Rattle.laws_world.specs.Events.{is_parted}
use Rattle.laws_world.specs.World.{Mark, Stands, World}
use Rattle.laws_drivers.proofs.control.Taken.{cut_alike, taken}
use Rattle.laws_drivers.proofs.control.Worlds.{LeadsOn, leads_then}
use Rattle.laws_drivers.proofs.events.Parting.{parts}

module _ (always : AgreesAlways) (reading : ReadingExists) (b : Beginning) (fair : IsFair b) (begun : List Order) (marks : List (List Mark)) (table : Table)
    (w : World) (leads : LeadsOn reading.0 begun (world_of b) w) (map : w.far.session.table ≡ table) (marked : w.marks ≡ marks) where
  -- the world agrees, and so do they
  pub world_agrees : (said : List Said) → w.reports ≡ said → w.cutoff ≡ None → Agrees (state_of b) begun marks None said table
  world_agrees said reported cutoff =
      let agree : WorldAgrees (state_of b) begun w = always reading.0 reading.1 b fair leads.events begun w leads.timed leads.leads in
      subst (λ (t : Table). Agrees (state_of b) begun marks None said t) map
      (subst (λ (m : List (List Mark)). Agrees (state_of b) begun m None said w.far.session.table) marked
      (subst (λ (r : List Said). Agrees (state_of b) begun w.marks None r w.far.session.table) reported
      (subst (λ (c : Option ℕ). Agrees (state_of b) begun w.marks c w.reports w.far.session.table) cutoff agree)))

  -- one more event ends the control connection for both, and the client reports what is left
  pub world_parting_agrees : (reports : List Said) (v : Near) → w.control ≡ Stands → w.reports ≡ reports ++ option_to_list (report_of v)
      → report_of (control_end w.near) ≡ report_of (control_end (taken v))
      → Agrees (state_of b) begun marks (Some (length marks)) (reports ++ option_to_list (report_of (control_end v))) table
  world_parting_agrees reports v control reported near =
      let read = reading.0 in
      let p = parts read w (ap is_parted control) in
      let all = subst (λ (l : List Order). LeadsOn read l (world_of b) p.new) (append-nil begun)
      (leads_then read begun [] (world_of b) w p.new leads p.leads) in
      let agree : WorldAgrees (state_of b) begun p.new = always read reading.1 b fair all.events begun p.new all.timed all.leads in
      let said : List Said = reports ++ option_to_list (report_of (control_end v)) in
      let told : p.new.reports ≡ said =
      p.reports ∙ ap₂ (λ r n. r ++ option_to_list n) reported near
      ∙ append_assoc reports (option_to_list (report_of v)) (option_to_list (report_of (control_end (taken v)))) ∙ ap (λ l. reports ++ l) (cut_alike v) in
      subst (λ (t : Table). Agrees (state_of b) begun marks (Some (length marks)) said t) (p.table ∙ map)
      (subst (λ (m : List (List Mark)). Agrees (state_of b) begun m (Some (length m)) said p.new.far.session.table) marked
      (subst (λ (r : List Said). Agrees (state_of b) begun w.marks (Some (length w.marks)) r p.new.far.session.table) told
      (subst (λ (c : Option ℕ). Agrees (state_of b) begun w.marks c p.new.reports p.new.far.session.table) p.cutoff
      (subst (λ (m : List (List Mark)). Agrees (state_of b) begun m p.new.cutoff p.new.reports p.new.far.session.table) p.marks agree))))
