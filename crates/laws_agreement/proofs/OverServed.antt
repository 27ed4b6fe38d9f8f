-- What is served behind an event, in a world whose client has a run, beside one whose client has none.
use Rattle.std.proofs.Common.{◌≡◌, ℕ, ◌+◌, ◌%◌, Bool, true, false, List, [], ◌∷◌, ◌++◌, Option, Some, None, refl, sym, ap, subst, ◌∙◌}
use Rattle.std.specs.Prelude.{if◌then◌else◌}
use Rattle.ftp_operation.specs.Answer.{Said}
use Rattle.ftp_operation.specs.declared.op.Op.{Op}
use Rattle.ftp_client_model.specs.Calls as near
use Rattle.ftp_client_model.specs.Calls.{is_sound, link_wants, report_of_job, reported_by, listening_by}
use Rattle.ftp_client_model.specs.Tries.{Run}
use Rattle.ftp_client_model.specs.View.{View as Near, Job, Idle, Waiting, Doing, Transferring, Told}
use Rattle.ftp_client_model.specs.declared.client.ClientLink.{ClientLink}
use Rattle.ftp_client_model.specs.declared.client.ClientLink.TheVariants as Data
use Rattle.ftp_ends.specs.declared.link.Wants.{Wants}
use Rattle.ftp_ends.specs.declared.link.Wants.TheVariants as Want
use Rattle.ftp_server_model.specs.Calls as far
use Rattle.laws_world.specs.Serving.{near_served_by, far_served_by, near_served, far_served, served, link_closed_by_near, link_closed_by_far, left_by_near, left_by_far, collected_by, collected, after_event}
use Rattle.laws_world.specs.World.{World, Link, Gone, Opened, ClosedByNear, ClosedByFar, Control, Stands, LeftByNear, LeftByFar, Parted, Mark, port_at}
use Rattle.laws_agreement.proofs.OverClient.{Works}
use Rattle.laws_agreement.proofs.OverLink.{listening_along}

-- the world with this client, whose run is this, and with these marks and reports and this cutoff
abbrev pub with_run : Option Run → List (List Mark) → List Said → Option ℕ → Near → World → World
with_run run marks reports cutoff n u = record u { near = record n { run = run }; marks = marks; reports = reports; cutoff = cutoff }

-- and by itself
abbrev pub by_itself : Near → World → World
by_itself n u = record u { near = record n { run = None } }

-- what a client wants is the same with any run
pub wants_same : (run : Option Run) (n : Near) → near.wants (record n { run = run }) ≡ near.wants n
unfolding near.wants
wants_same run n = ap (λ q. if n.closing then Want.CloseData else (if is_sound n.standing then q else Want.CloseAll)) (by_link n.connection)
  where
    by_link : (connection : ClientLink) → link_wants connection (record n { run = run }) ≡ link_wants connection n
    by_link Data.Free = refl
    by_link Data.ListenWanted = refl
    by_link (Data.Listening port) = refl
    by_link (Data.Connecting endpoint) = refl
    by_link (Data.Accepting port) = refl
    by_link Data.Open = refl
    by_link (Data.Over ending) = refl

-- the marks, the reports and the cutoff by itself
abbrev pub Kept : List (List Mark) → List Said → Option ℕ → World → Type 0
Kept marks reports cutoff u = (u.marks ≡ marks) × (u.reports ≡ reports) × (u.cutoff ≡ cutoff)

module _ (run : Option Run) (marks own_marks : List (List Mark)) (reports own_reports : List Said) (cutoff own_cutoff : Option ℕ) (Fine : Near → Type 0) where
  -- both are the same but for the run, the marks and the reports
  pub record Alike (real alone : World) : Type 0 where
    pub near : Near
    pub base : World
    pub real_is : real ≡ with_run run marks reports cutoff near base
    pub alone_is : alone ≡ by_itself near base
    pub fine : Fine near
    pub kept : Kept own_marks own_reports own_cutoff base

  -- a world is like itself but for the run, the marks and the reports
  pub alike : (n : Near) (u : World) → Fine n → Kept own_marks own_reports own_cutoff u → Alike (with_run run marks reports cutoff n u) (by_itself n u)
  alike n u f k = record { near = n; base = u; real_is = refl; alone_is = refl; fine = f; kept = k }

  -- and then something more
  pub alike_then : (g : World → World) → ((n : Near) (u : World) → Fine n → Kept own_marks own_reports own_cutoff u → Alike (g (with_run run marks reports cutoff n u)) (g (by_itself n u)))
      → (a b : World) → Alike a b → Alike (g a) (g b)
  alike_then g k a b m =
      subst (λ x. Alike (g x) (g b)) (sym m.real_is) (subst (λ y. Alike (g (with_run run marks reports cutoff m.near m.base)) (g y)) (sym m.alone_is) (k m.near m.base m.fine m.kept))

  module _ (closes : (n : Near) → Fine n → Fine (record n { closing = false }))
      (listens : (port : ℕ) (n : Near) → Fine n → (x : Near) × (near.listening port (record n { run = run }) ≡ record x { run = run }) × (near.listening port (record n { run = None }) ≡ record x { run = None }) × Fine x) where
    near_closes_alike : (link : Link) (n : Near) (u : World) → Fine n → Kept own_marks own_reports own_cutoff u
        → Alike (link_closed_by_near link (with_run run marks reports cutoff (record n { closing = false }) u)) (link_closed_by_near link (by_itself (record n { closing = false }) u))
    near_closes_alike Gone n u f k = alike (record n { closing = false }) u (closes n f) k
    near_closes_alike Opened n u f k = alike (record n { closing = false }) (record u { link = ClosedByNear }) (closes n f) k
    near_closes_alike ClosedByNear n u f k = alike (record n { closing = false }) u (closes n f) k
    near_closes_alike ClosedByFar n u f k = alike (record n { closing = false }) (record u { link = Gone; data_to_server = []; data_to_client = [] }) (closes n f) k

    -- the client leaves both
    near_leaves_alike : (control : Control) (n : Near) (u : World) → Fine n → Kept own_marks own_reports own_cutoff u
        → Alike (left_by_near control (with_run run marks reports cutoff n u)) (left_by_near control (by_itself n u))
    near_leaves_alike Stands n u f k = alike n (record u { control = LeftByNear }) f k
    near_leaves_alike LeftByNear n u f k = alike n u f k
    near_leaves_alike LeftByFar n u f k = alike n (record u { control = Parted; control_to_server = []; control_to_client = [] }) f k
    near_leaves_alike Parted n u f k = alike n u f k

    -- what the client wants is served at both
    near_by_alike : (wants : Wants) (n : Near) (u : World) → Fine n → Kept own_marks own_reports own_cutoff u
        → Alike (near_served_by wants (with_run run marks reports cutoff n u)) (near_served_by wants (by_itself n u))
    near_by_alike Want.CloseData n u f k = near_closes_alike u.link n u f k
    near_by_alike Want.Listen n u f k =
        let l = listens (port_at u.listens) n f in
        let next : World = record u { listens = (u.listens + 1) % 16384 } in
        record {
          near = l.0;
          base = next;
          real_is = ap (λ v. record next { near = v; marks = marks; reports = reports; cutoff = cutoff }) l.1;
          alone_is = ap (λ v. record next { near = v }) l.2;
          fine = l.3;
          kept = k;
        }
    near_by_alike Want.CloseAll n u f k = near_leaves_alike u.control n u f k
    near_by_alike wants n u f k = alike n u f k

    -- one thing that the client wants is served at both
    near_alike : (n : Near) (u : World) → Fine n → Kept own_marks own_reports own_cutoff u → Alike (near_served (with_run run marks reports cutoff n u)) (near_served (by_itself n u))
    near_alike n u f k =
        subst (λ q. Alike (near_served_by q (with_run run marks reports cutoff n u)) (near_served_by (near.wants (record n { run = None })) (by_itself n u))) (sym (wants_same run n))
        (subst (λ q. Alike (near_served_by (near.wants n) (with_run run marks reports cutoff n u)) (near_served_by q (by_itself n u))) (sym (wants_same None n)) (near_by_alike (near.wants n) n u f k))

    -- the server closes its side of both
    far_closes_alike : (link : Link) (n : Near) (u : World) → Fine n → Kept own_marks own_reports own_cutoff u
        → Alike (link_closed_by_far link (record (with_run run marks reports cutoff n u) { far = far.data_closed u.far })) (link_closed_by_far link (record (by_itself n u) { far = far.data_closed u.far }))
    far_closes_alike Gone n u f k = alike n (record u { far = far.data_closed u.far }) f k
    far_closes_alike Opened n u f k = alike n (record u { far = far.data_closed u.far; link = ClosedByFar }) f k
    far_closes_alike ClosedByNear n u f k = alike n (record u { far = far.data_closed u.far; link = Gone; data_to_server = []; data_to_client = [] }) f k
    far_closes_alike ClosedByFar n u f k = alike n (record u { far = far.data_closed u.far }) f k

    -- the server leaves both
    far_leaves_alike : (control : Control) (n : Near) (u : World) → Fine n → Kept own_marks own_reports own_cutoff u
        → Alike (left_by_far control (with_run run marks reports cutoff n u)) (left_by_far control (by_itself n u))
    far_leaves_alike Stands n u f k = alike n (record u { control = LeftByFar }) f k
    far_leaves_alike LeftByNear n u f k = alike n (record u { control = Parted; control_to_server = []; control_to_client = [] }) f k
    far_leaves_alike LeftByFar n u f k = alike n u f k
    far_leaves_alike Parted n u f k = alike n u f k

    -- what the server wants is served at both
    far_by_alike : (wants : Wants) (n : Near) (u : World) → Fine n → Kept own_marks own_reports own_cutoff u
        → Alike (far_served_by wants (with_run run marks reports cutoff n u)) (far_served_by wants (by_itself n u))
    far_by_alike Want.CloseData n u f k = far_closes_alike u.link n u f k
    far_by_alike Want.Listen n u f k = alike n (record u { far = far.listening (port_at u.listens) u.far; listens = (u.listens + 1) % 16384 }) f k
    far_by_alike Want.CloseAll n u f k = far_leaves_alike u.control n u f k
    far_by_alike wants n u f k = alike n u f k

    -- one thing that the server wants is served at both
    far_alike : (n : Near) (u : World) → Fine n → Kept own_marks own_reports own_cutoff u → Alike (far_served (with_run run marks reports cutoff n u)) (far_served (by_itself n u))
    far_alike n u f k = far_by_alike (far.wants u.far) n u f k

    -- all that is served behind an event
    pub fars_alike : (a b : World) → Alike a b → Alike (far_served (far_served (far_served a))) (far_served (far_served (far_served b)))
    fars_alike a b m =
        alike_then (λ x. far_served x) far_alike (far_served (far_served a)) (far_served (far_served b))
        (alike_then (λ x. far_served x) far_alike (far_served a) (far_served b) (alike_then (λ x. far_served x) far_alike a b m))

    -- the client of both is served
    pub nears_alike : (a b : World) → Alike a b → Alike (near_served a) (near_served b)
    nears_alike a b m = alike_then (λ x. near_served x) near_alike a b m

    -- all that is wanted is served at both
    pub served_alike : (a b : World) → Alike a b → Alike (served a) (served b)
    served_alike a b m =
        fars_alike (near_served (near_served (near_served a))) (near_served (near_served (near_served b)))
        (nears_alike (near_served (near_served a)) (near_served (near_served b)) (nears_alike (near_served a) (near_served b) (nears_alike a b m)))

-- ---- an operation is under way

module _ (run : Run) (op : Op (List ℕ)) (marks own_marks : List (List Mark)) (reports own_reports : List Said) (cutoff own_cutoff : Option ℕ) where
  -- it is under way at both
  abbrev pub IsWorking : Near → Type 0
  IsWorking n = Works run op n.job n.connection

  -- two worlds whose operation is under way
  abbrev pub Working : World → World → Type 0
  Working real alone = Alike (Some run) marks own_marks reports own_reports cutoff own_cutoff IsWorking real alone

  -- both are told the port
  listens_on : (port : ℕ) (n : Near) → IsWorking n
      → (x : Near) × (near.listening port (record n { run = Some run }) ≡ record x { run = Some run }) × (near.listening port (record n { run = None }) ≡ record x { run = None }) × IsWorking x
  listens_on port n w = let l = listening_along run op port n w in (l.view, l.real_is, l.alone_is, l.works)

  -- a job that is under way has nothing to report
  pub works_untold : (job : Job) (connection : ClientLink) → Works run op job connection → report_of_job job ≡ None
  works_untold (Doing other step) connection w = refl
  works_untold (Transferring other transfer) connection w = refl
  works_untold (Waiting other) connection w = refl
  works_untold Idle connection w = refl
  works_untold (Told said) connection w = absurd w

  -- what is served
  pub working_served : (a b : World) → Working a b → Working (served a) (served b)
  working_served a b m = served_alike (Some run) marks own_marks reports own_reports cutoff own_cutoff IsWorking (λ n w. w) listens_on a b m

  -- no report is taken
  pub working_collected : (a b : World) → Working a b → Working (collected a) (collected b)
  working_collected a b m =
      alike_then (Some run) marks own_marks reports own_reports cutoff own_cutoff IsWorking (λ x. collected x)
      (λ n u f k.
      let none = works_untold n.job n.connection f in
      subst (λ o. Working (collected_by o (with_run (Some run) marks reports cutoff n u)) (collected_by o (by_itself n u))) (sym none)
      (alike (Some run) marks own_marks reports own_reports cutoff own_cutoff IsWorking n u f k))
      a b m

  -- behind an event
  pub working_after : (a b : World) → Working a b → Working (after_event a) (after_event b)
  working_after a b m = working_collected (served a) (served b) (working_served a b m)

-- ---- it is answered

module _ (said : Said) (marks own_marks : List (List Mark)) (reports own_reports : List Said) (cutoff own_cutoff : Option ℕ) where
  -- the answer is told, and no link is left
  abbrev pub IsTold : Near → Type 0
  IsTold n = (n.job ≡ Told said) × (n.connection ≡ Data.Free)

  -- two worlds whose operation is answered
  abbrev pub Telling : World → World → Type 0
  Telling real alone = Alike None marks own_marks reports own_reports cutoff own_cutoff IsTold real alone

  -- no port is told then
  listens_none : (port : ℕ) (n : Near) → IsTold n → near.listening port (record n { run = None }) ≡ record n { run = None }
  unfolding near.listening
  listens_none port n t = by_closing n.closing
    where
      none : (connection : ClientLink) → connection ≡ Data.Free → listening_by connection n.job port (record n { run = None }) ≡ record n { run = None }
      none connection free = ap (λ c. listening_by c n.job port (record n { run = None })) free

      by_closing : (b : Bool) → (if b then record n { run = None } else listening_by n.connection n.job port (record n { run = None })) ≡ record n { run = None }
      by_closing true = refl
      by_closing false = none n.connection t.1

  -- both are served
  told_served : (a b : World) → Telling a b → Telling (served a) (served b)
  told_served a b m =
      served_alike None marks own_marks reports own_reports cutoff own_cutoff IsTold (λ n t. t) (λ port n t. (n, listens_none port n t, listens_none port n t, t)) a b m

  -- behind the event the report is taken at both
  pub record Collected (real alone : World) : Type 0 where
    pub real_is : real ≡ record alone { marks = marks; reports = reports ++ said ∷ []; cutoff = cutoff }
    pub marks_are : alone.marks ≡ own_marks
    pub reports_are : alone.reports ≡ own_reports ++ said ∷ []
    pub cutoff_is : alone.cutoff ≡ own_cutoff
    pub idle : alone.near.job ≡ Idle

  -- behind the event both have taken the report
  pub told_after : (a b : World) → Telling a b → Collected (after_event a) (after_event b)
  told_after a b m =
      let s = told_served a b m in
      subst (λ x. Collected (collected x) (collected (served b))) (sym s.real_is)
      (subst (λ y. Collected (collected (with_run None marks reports cutoff s.near s.base)) (collected y)) (sym s.alone_is) (by_job s.near s.base s.fine s.kept))
    where
      by_job : (n : Near) (u : World) → IsTold n → Kept own_marks own_reports own_cutoff u → Collected (collected (with_run None marks reports cutoff n u)) (collected (by_itself n u))
      by_job n u t k =
          subst (λ o. Collected (collected_by o (with_run None marks reports cutoff n u)) (collected_by o (by_itself n u))) (sym (ap report_of_job t.0))
          (record { real_is = refl; marks_are = k.0; reports_are = ap (λ r. r ++ said ∷ []) k.1; cutoff_is = k.2; idle = ap (λ j. (reported_by j (record n { run = None })).job) t.0 })

-- ---- nothing is under way

module _ (marks own_marks : List (List Mark)) (reports own_reports : List Said) (cutoff own_cutoff : Option ℕ) where
  -- the client has nothing under way
  abbrev pub IsIdle : Near → Type 0
  IsIdle n = n.job ≡ Idle

  -- two worlds in which nothing is under way
  abbrev pub Resting : World → World → Type 0
  Resting real alone = Alike None marks own_marks reports own_reports cutoff own_cutoff IsIdle real alone

  -- no port is told then
  listens_idle : (port : ℕ) (n : Near) → IsIdle n → near.listening port (record n { run = None }) ≡ record n { run = None }
  unfolding near.listening
  listens_idle port n idle = by_closing n.closing
    where
      none : (connection : ClientLink) → listening_by connection Idle port (record n { run = None }) ≡ record n { run = None }
      none Data.Free = refl
      none Data.ListenWanted = refl
      none (Data.Listening other) = refl
      none (Data.Connecting endpoint) = refl
      none (Data.Accepting other) = refl
      none Data.Open = refl
      none (Data.Over ending) = refl

      by_closing : (b : Bool) → (if b then record n { run = None } else listening_by n.connection n.job port (record n { run = None })) ≡ record n { run = None }
      by_closing true = refl
      by_closing false = ap (λ j. listening_by n.connection j port (record n { run = None })) idle ∙ none n.connection

  -- behind an event
  pub record Rested (real alone : World) : Type 0 where
    pub real_is : real ≡ record alone { marks = marks; reports = reports; cutoff = cutoff }
    pub marks_are : alone.marks ≡ own_marks
    pub reports_are : alone.reports ≡ own_reports
    pub cutoff_is : alone.cutoff ≡ own_cutoff
    pub idle : alone.near.job ≡ Idle

  -- behind an event both are alike still
  pub idle_after : (a b : World) → Resting a b → Rested (after_event a) (after_event b)
  idle_after a b m =
      let s = served_alike None marks own_marks reports own_reports cutoff own_cutoff IsIdle (λ n t. t) (λ port n t. (n, listens_idle port n t, listens_idle port n t, t)) a b m in
      subst (λ x. Rested (collected x) (collected (served b))) (sym s.real_is)
      (subst (λ y. Rested (collected (with_run None marks reports cutoff s.near s.base)) (collected y)) (sym s.alone_is) (by_job s.near s.base s.fine s.kept))
    where
      by_job : (n : Near) (u : World) → IsIdle n → Kept own_marks own_reports own_cutoff u → Rested (collected (with_run None marks reports cutoff n u)) (collected (by_itself n u))
      by_job n u t k =
          subst (λ o. Rested (collected_by o (with_run None marks reports cutoff n u)) (collected_by o (by_itself n u))) (sym (ap report_of_job t))
          (record { real_is = refl; marks_are = k.0; reports_are = k.1; cutoff_is = k.2; idle = t })
