-- An operation is begun: it waits for the login, its first line is owed, or it is answered at once as one that can't be sent.
use Rattle.std.proofs.Common.{◌≡◌, inl, inr, ℕ, Bool, true, false, List, [], ◌∷◌, ◌++◌, Option, Some, None, refl, sym, ap, subst, ◌∙◌, append-nil}
use Rattle.std.specs.Prelude.{if◌then◌else◌}
use Rattle.ftp_nvt.specs.Lines.{written_line}
use Rattle.ftp_ends.specs.Reply.{Reply}
use Rattle.ftp_operation.specs.Answer.{Said, BadOperation}
use Rattle.ftp_operation.specs.Operation.{can_be_sent}
use Rattle.ftp_operation.specs.declared.op.Op.{Op}
use Rattle.ftp_direct.specs.Direct.{State, answer, chosen, done, first_refusal}
use Rattle.ftp_client_model.specs.Calls as near
use Rattle.ftp_client_model.specs.Calls.{is_sound, started_by, unsendable_by}
use Rattle.ftp_client_model.specs.Dialogue.{begins}
use Rattle.ftp_client_model.specs.View.{View as Near, Job, Idle, Waiting, Told as Answered, done_with}
use Rattle.ftp_client_model.specs.declared.client.Standing.{Standing}
use Rattle.ftp_client_model.specs.declared.client.Standing.TheVariants as Standings
use Rattle.ftp_client_model.proofs.RepliesInFlight.{fronts_are_alike}
use Rattle.ftp_server_model.specs.Calls as far
use Rattle.ftp_server_model.specs.Machine.{Reading, IsReading, waited}
use Rattle.ftp_server_model.specs.View.{View as Far}
use Rattle.laws_world.specs.Agreement.{Order, Single}
use Rattle.laws_world.specs.Events.{operation_begins}
use Rattle.laws_world.specs.Serving.{after_event}
use Rattle.laws_world.specs.World.{World, Mark}
use Rattle.laws_dialogues.specs.Dialogue.{HasNoTransfer, Passes, Stands, Ends, resting}
use Rattle.laws_dialogues.specs.Login.{LoginPlace, Greets, AsksUser, WantsPass, AsksPass, Answers, standing_in_login, way_at_login, IsAccessOf, Logging, AtFree, IsOnWay}
use Rattle.laws_dialogues.specs.Operations.{LeadsBy}
use Rattle.laws_dialogues.specs.Stage.{calm, still, Way, Asking, Answering, rest, AreWritten, line_octets, IsAlone, behind}
use Rattle.laws_dialogues.proofs.Theorems.{each-leads}
use Rattle.laws_agreement.specs.Cut.{Cut, Flows, FlowsRow, Fits, coming, world_at, StandsAt}
use Rattle.laws_agreement.specs.Follows.{Told, IsFree, IsLinked, IsUnlinked, Follows}
use Rattle.laws_agreement.proofs.Keeps.{line_is_some, anew}
use Rattle.laws_agreement.proofs.Phases.{told_whole, follows_after, free_still, free_untold}
use Rattle.laws_agreement.proofs.Still.{seen, IsStill, after_reports, no_octets, rest_world, free_job}

-- ---- the clock

-- the server at another moment
abbrev pub at_moment : ℕ → Far → Far
at_moment moment f = record f { context = record f.context { moment = moment } }

-- at another moment of the server the login is at the same place
access_at : (place : LoginPlace) (state : State) (moment : ℕ) (n : Near) (f : Far) → IsAccessOf place state n f → IsAccessOf place state n (at_moment moment f)
access_at Greets state moment n f is = is
access_at AsksUser state moment n f is = is
access_at WantsPass state moment n f is = is
access_at AsksPass state moment n f is = is
access_at (Answers admitted to_pass) state moment n f is = is

-- the login goes on, whatever the client has to do behind it
abbrev pub with_job : Job → Near → Near
with_job job n = record n { job = job; run = None }

-- whatever the client has to do behind it, the login is at the same place
access_job : (place : LoginPlace) (state : State) (job : Job) (n : Near) (f : Far) → IsAccessOf place state n f → IsAccessOf place state (with_job job n) f
access_job Greets state job n f is = is
access_job AsksUser state job n f is = is
access_job WantsPass state job n f is = is
access_job AsksPass state job n f is = is
access_job (Answers admitted to_pass) state job n f is = is

-- what is on its way at a place of the login is the same whatever the client has to do behind it
same_way : (place : LoginPlace) (job : Job) (n : Near) → way_at_login place n ≡ way_at_login place (with_job job n)
same_way Greets job n = refl
same_way AsksUser job n = refl
same_way WantsPass job n = refl
same_way AsksPass job n = refl
same_way (Answers admitted to_pass) job n = refl

-- the login goes on with another job of the client and at another moment of the server
logging_with : (state : State) (way : Way) (job : Job) (moment : ℕ) (n : Near) (f : Far) → Logging state way n f → Logging state way (with_job job n) (at_moment moment f)
logging_with state way job moment n f l = record {
  place = l.place;
  way_is = l.way_is ∙ same_way l.place job n;
  logs = record {
    standing = l.logs.standing;
    connection = l.logs.connection;
    closing = l.logs.closing;
    run = refl;
    user = l.logs.user;
    pass = l.logs.pass;
    far = record { aside = l.logs.far.aside; closing = l.logs.far.closing; life = l.logs.far.life };
    settings = l.logs.settings;
    facts = l.logs.facts;
    table = l.logs.table;
    access = access_at l.place state moment (with_job job n) f (access_job l.place state job n f l.logs.access);
    meets = record { peer = l.logs.meets.peer; here = l.logs.meets.here; typed = l.logs.meets.typed; own = l.logs.meets.own; family = l.logs.meets.family; all_ways = l.logs.meets.all_ways };
    leads_to = l.logs.leads_to;
    opens = l.logs.opens;
  };
}

-- both ends stand at another moment of the server as they did
stands_at_moment : (state : State) (moment : ℕ) (n : Near) (f : Far) → Stands state n f → Stands state n (at_moment moment f)
stands_at_moment state moment n f s = record {
  meets = record { peer = s.meets.peer; here = s.meets.here; typed = s.meets.typed; own = s.meets.own; family = s.meets.family; all_ways = s.meets.all_ways };
  far = record { aside = s.far.aside; closing = s.far.closing; life = s.far.life };
  sees = s.sees;
  settings = s.settings;
  facts = s.facts;
}

-- ---- what the client makes of it

-- a client that is in the login lets the operation wait
started_waits : (place : LoginPlace) (op : Op (List ℕ)) (v : Near) → started_by (standing_in_login place) op v ≡ record v { job = Waiting op }
started_waits Greets op v = refl
started_waits AsksUser op v = refl
started_waits WantsPass op v = refl
started_waits AsksPass op v = refl
started_waits (Answers admitted true) op v = refl
started_waits (Answers admitted false) op v = refl

-- an operation that can be sent, begun in the login, waits, and the client has no run
starts_waits : (place : LoginPlace) (op : Op (List ℕ)) (v : Near) → can_be_sent op ≡ true → v.standing ≡ standing_in_login place → near.starts op v ≡ with_job (Waiting op) v
unfolding near.starts
starts_waits place op v can is =
    ap (λ (b : Bool). if b then started_by v.standing op (record v { run = None }) else unsendable_by v.standing v) can
    ∙ ap (λ s. started_by s op (record v { run = None })) is ∙ started_waits place op (record v { run = None })

-- a client that has entered and is at rest begins an operation that can be sent at once
starts_begins : (op : Op (List ℕ)) (n : Near) → can_be_sent op ≡ true → near.starts op (calm (resting n)) ≡ begins op (record (calm (resting n)) { job = Idle })
unfolding near.starts
starts_begins op n can =
    ap (λ (b : Bool). if b then started_by Standings.Entered op (calm (resting n)) else unsendable_by Standings.Entered (calm (resting n))) can

-- a client that has not failed answers BadOperation to an operation that can't be sent
unsendable_is : (s : Standing) (v : Near) → is_sound s ≡ true → unsendable_by s v ≡ done_with BadOperation v
unsendable_is Standings.Greeting v sound = refl
unsendable_is Standings.User v sound = refl
unsendable_is Standings.Pass v sound = refl
unsendable_is Standings.Entered v sound = refl
unsendable_is (Standings.Failed failure) v sound = absurd (cc)

-- an operation that can't be sent, begun at a client that has not failed, is answered BadOperation at once
starts_not : (op : Op (List ℕ)) (v : Near) → can_be_sent op ≡ false → is_sound v.standing ≡ true → near.starts op v ≡ with_job (Answered BadOperation) v
unfolding near.starts
starts_not op v cannot sound =
    ap (λ (b : Bool). if b then started_by v.standing op (record v { run = None }) else unsendable_by v.standing v) cannot
    ∙ unsendable_is v.standing v sound

-- ---- in the login: it waits

-- what the client has heard is of no matter to what it is to do
row_with : (job : Job) (n : Near) (rows : List Reply) (held incoming : List ℕ) → AreWritten rows → FlowsRow rows held incoming
    → with_job job (near.hears (calm n) held) ≡ near.hears (calm (with_job job n)) held
row_with job n [] held incoming fine flow =
    subst (λ k. with_job job (near.hears (calm n) k) ≡ near.hears (calm (with_job job n)) k) (sym flow.0) refl
row_with job n (reply ∷ more) held incoming fine flow =
    let leaves = fronts_are_alike reply.code reply.lines held flow.more flow.octet fine.0 flow.whole in
    let to : Near → Near = λ v. with_job job v in
    ap to (leaves.is (calm n) (record { ear = refl; gathered = refl })) ∙ sym (leaves.is (calm (with_job job n)) (record { ear = refl; gathered = refl }))

-- the world with an operation that waits
waits_at : (job : Job) (moment : ℕ) (marks : List (List Mark)) (b : World) (way : Way) (c : Cut) → Fits way c
    → record (world_at b way c) { far = far.clocked moment (world_at b way c).far; near = with_job job (world_at b way c).near; marks = marks }
    ≡ world_at (record b { near = with_job job b.near; far = at_moment moment b.far; marks = marks }) way c
unfolding far.clocked
waits_at job moment marks b (Asking text) c fits = refl
waits_at job moment marks b (Answering rows) c fits =
    ap (λ v. record (world_at b (Answering rows) c) { far = at_moment moment (record (still b.far) { owed = c.owed }); near = v; marks = marks })
    (row_with job b.near rows c.held (coming c) fits.0 fits.1)

-- a line is owed, or nothing
lined : (b : World) (line : Option (List ℕ))
    → record b { near = record (calm b.near) { owed = line_octets line }; far = still b.far; control_to_server = []; control_to_client = [] }
    ≡ world_at b (behind line []) (record { held = []; moving = []; owed = line_octets line })
lined b None = refl
lined b (Some text) = refl

-- a line that is owed as a whole, or no line, fits a cut with nothing held and nothing moving
fits_line : (line : Option (List ℕ)) → IsAlone line [] → Fits (behind line []) (record { held = []; moving = []; owed = line_octets line })
fits_line None fine = (tt, (refl, refl))
fits_line (Some text) fine = (fine.0, subst (λ l. Flows (written_line text) [] l []) (append-nil (written_line text)) (anew (written_line text) [] (line_is_some text)))

-- the direct run answers BadOperation to an operation that can't be sent, and leaves the state as it was
pub answer_not : (op : Op (List ℕ)) (moment : ℕ) (now : State) → can_be_sent op ≡ false → answer now op moment ≡ (BadOperation, now)
unfolding answer
answer_not op moment now cannot = ap (λ (b : Bool). if b then chosen (first_refusal now op) now (done now op moment) else (BadOperation, now)) cannot

module _ (read : Reading) (reads : IsReading read) (from : State) (begun : List Order) (op : Op (List ℕ)) (moment : ℕ) where
  -- ---- one that can be sent

  -- begun while the login is under way, it waits, and the world stands on the way to the goal
  begins_login : (now : State) (Along Goal : Near → Far → Type 0) (w : World) → can_be_sent op ≡ true → (s : StandsAt (AtFree now) w) → Logging now s.way s.base.near s.base.far
      → StandsAt (IsOnWay read now op Along Goal) (operation_begins op moment w)
  begins_login now Along Goal w can s logging =
      let marks : List (List Mark) = w.marks ++ [] ∷ [] in
      let begin : World → World = λ u. record u { far = far.clocked moment u.far; near = with_job (Waiting op) u.near; marks = marks } in
      let standing : w.near.standing ≡ standing_in_login logging.place = (seen (AtFree now) w s).standing ∙ logging.logs.standing in
      record {
        base = record s.base { near = with_job (Waiting op) s.base.near; far = at_moment moment s.base.far; marks = marks };
        way = s.way;
        cut = s.cut;
        is = ap (λ v. record w { far = far.clocked moment w.far; near = v; marks = marks }) (starts_waits logging.place op w.near can standing)
            ∙ ap begin s.is ∙ waits_at (Waiting op) moment marks s.base s.way s.cut s.fits;
        fits = s.fits;
        here = inl (logging_with now s.way (Waiting op) moment s.base.near s.base.far logging, refl);
      }

  -- begun at rest, where it leads to the goal, it owes its first line if it has one, and the world stands on the way to the goal
  begins_rest : (now : State) (Along Goal : Near → Far → Type 0) (w : World) → ((n : Near) (f : Far) → Stands now n f → LeadsBy read Along Goal op n f) → can_be_sent op ≡ true → (s : StandsAt (AtFree now) w) → s.way ≡ rest → s.base.near ≡ resting s.base.near → Stands now s.base.near s.base.far
      → StandsAt (IsOnWay read now op Along Goal) (operation_begins op moment w)
  unfolding far.clocked
  begins_rest now Along Goal w leads can s way entered stands =
      let b : World = s.base in
      let f : Far = at_moment moment b.far in
      let on : LeadsBy read Along Goal op b.near f = leads b.near f (stands_at_moment now moment b.near b.far stands) in
      let marks : List (List Mark) = w.marks ++ [] ∷ [] in
      let begin : World → World = λ u. record u { far = far.clocked moment u.far; near = near.starts op u.near; marks = marks } in
      let start : near.starts op (calm b.near) ≡ record (calm on.near) { owed = line_octets on.line } =
      ap (λ v. near.starts op (calm v)) entered ∙ starts_begins op b.near can ∙ on.begins_so Idle in
      let by_near : Near → World = λ v. record (world_at b rest no_octets) { far = still f; near = v; marks = marks } in
      record {
        base = record b { near = on.near; far = f; marks = marks };
        way = behind on.line [];
        cut = record { held = []; moving = []; owed = line_octets on.line };
        is = ap begin (rest_world (AtFree now) w s way) ∙ ap by_near start ∙ lined (record b { near = on.near; far = f; marks = marks }) on.line;
        fits = fits_line on.line on.fine;
        here = inr (on.left, on.leads);
      }

  -- begun where no operation is under way, in the login or at rest, it stands on the way to the goal
  pub begins_stands : (now : State) (Along Goal : Near → Far → Type 0) (w : World) → ((n : Near) (f : Far) → Stands now n f → LeadsBy read Along Goal op n f) → can_be_sent op ≡ true
      → (s : StandsAt (AtFree now) w) → AtFree now s.way s.base.near s.base.far → StandsAt (IsOnWay read now op Along Goal) (operation_begins op moment w)
  begins_stands now Along Goal w leads can s (inl (logging, idle)) = begins_login now Along Goal w can s logging
  begins_stands now Along Goal w leads can s (inr (way, entered, stands)) = begins_rest now Along Goal w leads can s way entered stands

  -- a free world follows the operations with this one behind them, if it can be sent and has no transfer
  begins_sent : (w : World) → can_be_sent op ≡ true → IsUnlinked w → IsLinked w → (f : IsFree from begun w) → HasNoTransfer op → Follows read from (begun ++ Single op moment ∷ []) (after_event (operation_begins op moment w))
  begins_sent w can unlinked linked f alone = follows_after read from (begun ++ Single op moment ∷ []) (operation_begins op moment w) (record {
    unlinked = record { link = unlinked.link; to_server = unlinked.to_server; to_client = unlinked.to_client };
    phase = inl (
      record { control = linked.control; cutoff = linked.cutoff },
      inr (record {
        done = begun;
        marks = w.marks;
        op = op;
        moment = moment;
        begun_is = refl;
        marks_are = refl;
        now = f.now;
        sound = f.sound;
        told = f.told;
        alone = alone;
        sent = can;
        stands = begins_stands f.now (Passes f.now.table (answer f.now op moment).1.table) (Ends (answer f.now op moment)) w
            (λ n g stands. each-leads read f.now op moment n g reads alone can f.sound stands) can f.stands f.stands.here;
      }),
    );
  })

  -- ---- one that can't be sent

  -- where no operation is under way, none is at another moment of the server
  free_clocked : (now : State) (way : Way) (n : Near) (f : Far) → AtFree now way n f → AtFree now way n (at_moment moment f)
  free_clocked now way n f (inl (logging, idle)) =
      let to : Near → Type 0 = λ v. Logging now way v (at_moment moment f) in
      let same : with_job Idle n ≡ n = λ i. record n { job = sym idle i; run = sym logging.logs.run i } in
      inl (subst to same (logging_with now way Idle moment n f logging), idle)
  free_clocked now way n f (inr (is, entered, stands)) = inr (is, entered, stands_at_moment now moment n f stands)

  -- the world behind it
  abbrev left_by : World → World
  left_by w = record w { far = at_moment moment w.far; marks = w.marks ++ [] ∷ []; reports = w.reports ++ BadOperation ∷ [] }

  -- the world of a stage and a cut with another moment, marks and reports is that of a base with them
  clocked_at : (marks : List (List Mark)) (reports : List Said) (b : World) (way : Way) (c : Cut)
      → record (world_at b way c) { far = at_moment moment (world_at b way c).far; marks = marks; reports = reports }
      ≡ world_at (record b { far = at_moment moment b.far; marks = marks; reports = reports }) way c
  clocked_at marks reports b (Asking text) c = refl
  clocked_at marks reports b (Answering rows) c = refl

  -- the clock changes nothing but the moment of a server that waits for nothing
  clocked_is : (f : Far) → f.waiting ≡ None → far.clocked moment f ≡ at_moment moment f
  unfolding far.clocked
  clocked_is f none = ap (λ waiting. waited waiting (at_moment moment f)) none

  -- where no operation is under way, the client has no run
  run_none : (now : State) (way : Way) (n : Near) (f : Far) → AtFree now way n f → n.run ≡ None
  run_none now way n f (inl (logging, idle)) = logging.logs.run
  run_none now way n f (inr (is, entered, stands)) = ap (λ v. v.run) entered

  -- behind one that can't be sent a free world has the new moment, an empty row of marks and the report BadOperation, and no more
  refused_is : (w : World) → can_be_sent op ≡ false → IsFree from begun w → after_event (operation_begins op moment w) ≡ left_by w
  refused_is w cannot f =
      let s = f.stands in
      let like = seen (AtFree f.now) w s in
      let waits = free_still from begun w f in
      let far : far.clocked moment w.far ≡ at_moment moment w.far = clocked_is w.far like.waiting in
      let near : near.starts op w.near ≡ with_job (Answered BadOperation) w.near = starts_not op w.near cannot waits.near.sound in
      let u : World = record w { far = at_moment moment w.far; near = with_job (Answered BadOperation) w.near; marks = w.marks ++ [] ∷ [] } in
      let begun_is : operation_begins op moment w ≡ u = λ i. record w { far = far i; near = near i; marks = w.marks ++ [] ∷ [] } in
      let still_u : IsStill u = record {
        near = record { sound = waits.near.sound; connection = waits.near.connection; closing = waits.near.closing };
        far = record { aside = waits.far.aside; closing = waits.far.closing; life = waits.far.life };
      } in
      let idle : w.near.job ≡ Idle = like.job ∙ free_job f.now s.way s.base.near s.base.far s.here in
      let none : w.near.run ≡ None = like.run ∙ run_none f.now s.way s.base.near s.base.far s.here in
      ap after_event begun_is ∙ after_reports u BadOperation still_u refl
      ∙ (λ i. record (left_by w) { near = record w.near { job = sym idle i; run = sym none i } })

  -- such an order has its report at once
  pub refused_so : (order : Order) (w : World) → can_be_sent op ≡ false → IsUnlinked w → IsLinked w → (f : IsFree from begun w)
      → Told from (begun ++ order ∷ []) (w.marks ++ [] ∷ []) None (w.reports ++ BadOperation ∷ []) f.now
      → Follows read from (begun ++ order ∷ []) (after_event (operation_begins op moment w))
  refused_so order w cannot unlinked linked f told =
      let s = f.stands in
      let new : World = left_by w in
      let lends : World → World = λ u. record u { far = at_moment moment u.far; marks = new.marks; reports = new.reports } in
      let free : IsFree from (begun ++ order ∷ []) new = record {
        now = f.now;
        sound = f.sound;
        told = told;
        stands = record {
          base = record s.base { far = at_moment moment s.base.far; marks = new.marks; reports = new.reports };
          way = s.way;
          cut = s.cut;
          is = ap lends s.is ∙ clocked_at new.marks new.reports s.base s.way s.cut;
          fits = s.fits;
          here = free_clocked f.now s.way s.base.near s.base.far s.here;
        };
      } in
      subst (Follows read from (begun ++ order ∷ [])) (sym (refused_is w cannot f)) (record {
        unlinked = record { link = unlinked.link; to_server = unlinked.to_server; to_client = unlinked.to_client };
        untold = free_untold from begun w f;
        phase = inl (record { control = linked.control; cutoff = linked.cutoff }, inl free);
      })

  -- a free world follows the operations with this one behind them, if it can't be sent
  begins_refused : (w : World) → can_be_sent op ≡ false → IsUnlinked w → IsLinked w → IsFree from begun w → Follows read from (begun ++ Single op moment ∷ []) (after_event (operation_begins op moment w))
  begins_refused w cannot unlinked linked f =
      let told = told_whole from begun w.marks w.reports f.now op moment f.told in
      refused_so (Single op moment) w cannot unlinked linked f
      (subst (λ done. Told from (begun ++ Single op moment ∷ []) (w.marks ++ [] ∷ []) None (w.reports ++ done.0 ∷ []) done.1) (answer_not op moment f.now cannot) told)

  -- a free world follows the operations with this one behind them, if it has no transfer or can't be sent
  pub begins_free : (w : World) → IsUnlinked w → IsLinked w → IsFree from begun w → (can_be_sent op ≡ true → HasNoTransfer op) → Follows read from (begun ++ Single op moment ∷ []) (after_event (operation_begins op moment w))
  begins_free w unlinked linked f alone = by_sent (can_be_sent op) refl
    where
      by_sent : (b : Bool) → can_be_sent op ≡ b → Follows read from (begun ++ Single op moment ∷ []) (after_event (operation_begins op moment w))
      by_sent true can = begins_sent w can unlinked linked f (alone can)
      by_sent false cannot = begins_refused w cannot unlinked linked f
