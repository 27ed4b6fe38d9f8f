-- Octets move in a world whose client has a run as they move in one whose client has none.
use Rattle.std.proofs.Common.{◌≡◌, ℕ, ◌+◌, ◌≤◌, List, [], ◌∷◌, ◌++◌, length, take, drop, Option, Some, None, refl, sym, ap, subst, ◌∙◌, append_assoc}
use Rattle.std.proofs.Math.Seq.{take-append_seam, drop-append_seam}
use Rattle.std.proofs.lemmas.List.{take-append-drop}
use Rattle.std.specs.Prelude.{not}
use Rattle.ftp_operation.specs.Answer.{Said}
use Rattle.ftp_operation.specs.declared.op.Op.{Op}
use Rattle.ftp_client_model.specs.Calls as near
use Rattle.ftp_client_model.specs.Calls.{report_of_job}
use Rattle.ftp_client_model.specs.Tries.{Run}
use Rattle.ftp_client_model.specs.View.{View as Near, Job, Idle, Waiting, Doing, Transferring, Told as Answered}
use Rattle.ftp_server_model.specs.Calls as far
use Rattle.ftp_server_model.specs.Machine as machine
use Rattle.ftp_server_model.specs.Machine.{Reading}
use Rattle.laws_world.specs.Events.{ControlToServer, ControlToClient, DataToServer, DataToClient, pulled, pushed, filled}
use Rattle.laws_world.specs.World.{World, Mark, counted}
use Rattle.laws_agreement.proofs.OverClient.{Works, Beside, Under, Behind}
use Rattle.laws_agreement.proofs.OverLink.{gives_data_beside, receives_along}
use Rattle.laws_agreement.proofs.OverHears.{hears_beside}
use Rattle.laws_agreement.proofs.OverServed.{with_run, by_itself, Kept, alike, alike_then, Working}
use Rattle.laws_agreement.proofs.OverTold.{some_told}

-- a client that has told nothing is not told
pub untold_job : (job : Job) → ((said : Said) → job ≡ Answered said → ⊥) → report_of_job job ≡ None
untold_job (Answered said) never = absurd (never said refl)
untold_job Idle never = refl
untold_job (Waiting op) never = refl
untold_job (Doing op step) never = refl
untold_job (Transferring op transfer) never = refl

module _ (run : Run) (op : Op (List ℕ)) (marks own_marks : List (List Mark)) (reports own_reports : List Said) (cutoff own_cutoff : Option ℕ) where
  -- two worlds that are at the same
  abbrev Both : World → World → Type 0
  Both a b = Working run op marks own_marks reports own_reports cutoff own_cutoff a b

  -- the operation is under way
  abbrev Fine : Near → Type 0
  Fine n = Works run op n.job n.connection

  -- a world whose client has the run
  abbrev real : Near → World → World
  real n u = with_run (Some run) marks reports cutoff n u

  -- a world is at the same as itself without the run
  both : (n : Near) (u : World) → Fine n → Kept own_marks own_reports own_cutoff u → Both (real n u) (by_itself n u)
  both n u f k = alike (Some run) marks own_marks reports own_reports cutoff own_cutoff Fine n u f k

  -- and then something more
  both_then : (g : World → World) → ((n : Near) (u : World) → Fine n → Kept own_marks own_reports own_cutoff u → Both (g (real n u)) (g (by_itself n u))) → (a b : World) → Both a b → Both (g a) (g b)
  both_then g k a b m = alike_then (Some run) marks own_marks reports own_reports cutoff own_cutoff Fine g k a b m

  -- ---- what does not ask the client

  -- what is lent is of no matter
  pub lent_both : (octets : List ℕ) (a b : World) → Both a b → Both (record a { taken = octets }) (record b { taken = octets })
  lent_both octets a b m = both_then (λ x. record x { taken = octets }) (λ n u f k. both n (record u { taken = octets }) f k) a b m

  -- the client owes a line
  pub pulled_server : (count : ℕ) (a b : World) → Both a b → Both (pulled ControlToServer a count) (pulled ControlToServer b count)
  pulled_server count a b m =
      both_then (λ x. pulled ControlToServer x count)
      (λ n u f k. both (record n { owed = drop count n.owed }) (record u { control_to_server = u.control_to_server ++ take count n.owed }) f k) a b m

  -- the server owes replies
  pub pulled_client : (count : ℕ) (a b : World) → Both a b → Both (pulled ControlToClient a count) (pulled ControlToClient b count)
  pulled_client count a b m =
      both_then (λ x. pulled ControlToClient x count)
      (λ n u f k. both n (record u { control_to_client = u.control_to_client ++ take count u.far.owed; far = far.gives_control count u.far }) f k) a b m

  -- it does so call after call
  pub filled_server : (counts : List ℕ) (a b : World) → Both a b → Both (filled ControlToServer a counts) (filled ControlToServer b counts)
  filled_server [] a b m = m
  filled_server (count ∷ counts) a b m = filled_server counts (pulled ControlToServer a count) (pulled ControlToServer b count) (pulled_server count a b m)

  -- so does it call after call
  pub filled_client : (counts : List ℕ) (a b : World) → Both a b → Both (filled ControlToClient a counts) (filled ControlToClient b counts)
  filled_client [] a b m = m
  filled_client (count ∷ counts) a b m = filled_client counts (pulled ControlToClient a count) (pulled ControlToClient b count) (pulled_client count a b m)

  -- the server hears
  pub pushed_server : (read : Reading) (count : ℕ) (a b : World) → Both a b → Both (pushed read ControlToServer count a) (pushed read ControlToServer count b)
  pushed_server read count a b m =
      both_then (λ x. pushed read ControlToServer count x)
      (λ n u f k. both n (record u { far = machine.hears read u.far (take count u.control_to_server); control_to_server = drop count u.control_to_server }) f k) a b m

  -- the server gives octets of the link
  pub pulled_down : (count : ℕ) (a b : World) → Both a b → Both (pulled DataToClient a count) (pulled DataToClient b count)
  pulled_down count a b m =
      both_then (λ x. pulled DataToClient x count)
      (λ n u f k. both n (record u { data_to_client = u.data_to_client ++ take count (far.to_give u.far); far = far.gives_data count u.far }) f k) a b m

  -- call after call
  pub filled_down : (counts : List ℕ) (a b : World) → Both a b → Both (filled DataToClient a counts) (filled DataToClient b counts)
  filled_down [] a b m = m
  filled_down (count ∷ counts) a b m = filled_down counts (pulled DataToClient a count) (pulled DataToClient b count) (pulled_down count a b m)

  -- the client takes them
  pub pushed_down : (read : Reading) (count : ℕ) (a b : World) → Both a b → Both (pushed read DataToClient count a) (pushed read DataToClient count b)
  pushed_down read count a b m =
      both_then (λ x. pushed read DataToClient count x)
      (λ n u f k.
      let r = receives_along run op (take count u.data_to_client) n f in
      let base : World = record u { data_to_client = drop count u.data_to_client; came = counted (u.came + count) } in
      let by_real : Near → World = λ v. record base { near = v; marks = marks; reports = reports; cutoff = cutoff } in
      let by_alone : Near → World = λ v. record base { near = v } in
      record { near = r.view; base = base; real_is = ap by_real r.real_is; alone_is = ap by_alone r.alone_is; fine = r.works; kept = k })
      a b m

  -- the server takes octets of the link
  pub pushed_up : (read : Reading) (count : ℕ) (a b : World) → Both a b → Both (pushed read DataToServer count a) (pushed read DataToServer count b)
  pushed_up read count a b m =
      both_then (λ x. pushed read DataToServer count x)
      (λ n u f k. both n (record u { far = far.receives u.far (take count u.data_to_server); data_to_server = drop count u.data_to_server; came = counted (u.came + count) }) f k) a b m

  -- ---- what asks the client

  -- a client with the run beside one without it, in worlds that are the same but for them
  pub record Parted (a b : World) : Type 0 where
    pub real_near : Near
    pub alone_near : Near
    pub base : World
    pub real_is : a ≡ record base { near = real_near; marks = marks; reports = reports; cutoff = cutoff }
    pub alone_is : b ≡ record base { near = alone_near }
    pub beside : Beside run op real_near alone_near
    pub kept : Kept own_marks own_reports own_cutoff base

  -- and then something more
  pub both_parted : (g : World → World) → ((n : Near) (u : World) → Fine n → Kept own_marks own_reports own_cutoff u → Parted (g (real n u)) (g (by_itself n u))) → (a b : World) → Both a b → Parted (g a) (g b)
  both_parted g k a b m =
      subst (λ x. Parted (g x) (g b)) (sym m.real_is) (subst (λ y. Parted (g (real m.near m.base)) (g y)) (sym m.alone_is) (k m.near m.base m.fine m.kept))

  -- where nothing is told, both are at the same
  pub parted_both : (a b : World) → report_of_job b.near.job ≡ None → Parted a b → Both a b
  parted_both a b none p = by_beside p.real_near p.alone_near p.real_is p.alone_is p.beside
    where
      by_beside : (x y : Near) → a ≡ record p.base { near = x; marks = marks; reports = reports; cutoff = cutoff } → b ≡ record p.base { near = y } → Beside run op x y → Both a b
      by_beside x y real_is alone_is (Under n x_is y_is works) =
          let by_real : Near → World = λ v. record p.base { near = v; marks = marks; reports = reports; cutoff = cutoff } in
          let by_alone : Near → World = λ v. record p.base { near = v } in
          record { near = n; base = p.base; real_is = real_is ∙ ap by_real x_is; alone_is = alone_is ∙ ap by_alone y_is; fine = works; kept = p.kept }
      by_beside x y real_is alone_is (Behind n said y_is x_is) =
          absurd (some_told b.near.job said (ap (λ u. u.near.job) alone_is ∙ ap (λ v. v.job) y_is) none)

  -- the client gives octets of the link
  pub pulled_up : (count : ℕ) (a b : World) → Both a b → Parted (pulled DataToServer a count) (pulled DataToServer b count)
  pulled_up count a b m =
      both_parted (λ x. pulled DataToServer x count)
      (λ n u f k. record {
        real_near = near.gives_data count (record n { run = Some run });
        alone_near = near.gives_data count (record n { run = None });
        base = record u { data_to_server = u.data_to_server ++ take count (near.to_give n) };
        real_is = refl;
        alone_is = refl;
        beside = gives_data_beside run op count n f;
        kept = k;
      })
      a b m

  -- the client hears, where it tells nothing before the last octet
  pub pushed_client : (read : Reading) (count : ℕ) (a b : World) → count ≤ length b.control_to_client
      → ((k : ℕ) → ((pushed read ControlToClient k b).control_to_client ≡ [] → ⊥) → report_of_job (pushed read ControlToClient k b).near.job ≡ None)
      → Both a b → Parted (pushed read ControlToClient count a) (pushed read ControlToClient count b)
  pushed_client read count a b few untold m =
      let g : World → World = λ x. pushed read ControlToClient count x in
      let quiet : ((k : ℕ) → ((pushed read ControlToClient k (by_itself m.near m.base)).control_to_client ≡ [] → ⊥) → report_of_job (pushed read ControlToClient k (by_itself m.near m.base)).near.job ≡ None) =
      subst (λ y. (k : ℕ) → ((pushed read ControlToClient k y).control_to_client ≡ [] → ⊥) → report_of_job (pushed read ControlToClient k y).near.job ≡ None) m.alone_is untold in
      subst (λ x. Parted (g x) (g b)) (sym m.real_is) (subst (λ y. Parted (g (real m.near m.base)) (g y)) (sym m.alone_is) (heard m.near m.base m.fine m.kept quiet))
    where
      heard : (n : Near) (u : World) → Fine n → Kept own_marks own_reports own_cutoff u
          → ((k : ℕ) → ((pushed read ControlToClient k (by_itself n u)).control_to_client ≡ [] → ⊥) → report_of_job (pushed read ControlToClient k (by_itself n u)).near.job ≡ None)
          → Parted (pushed read ControlToClient count (real n u)) (pushed read ControlToClient count (by_itself n u))
      heard n u f k quiet = record {
        real_near = near.hears (record n { run = Some run }) (take count u.control_to_client);
        alone_near = near.hears (record n { run = None }) (take count u.control_to_client);
        base = record u { control_to_client = drop count u.control_to_client };
        real_is = refl;
        alone_is = refl;
        beside = hears_beside run op (take count u.control_to_client) n f (λ front back octet whole. before front back octet whole);
        kept = k;
      }
        where
          before : (front back : List ℕ) (octet : ℕ) → front ++ octet ∷ back ≡ take count u.control_to_client → report_of_job (near.hears (record n { run = None }) front).job ≡ None
          before front back octet whole =
              let all : u.control_to_client ≡ front ++ (octet ∷ back ++ drop count u.control_to_client) =
              sym (take-append-drop count u.control_to_client) ∙ ap (λ l. l ++ drop count u.control_to_client) (sym whole) ∙ append_assoc front (octet ∷ back) (drop count u.control_to_client) in
              let taken : take (length front) u.control_to_client ≡ front = ap (take (length front)) all ∙ take-append_seam front (octet ∷ back ++ drop count u.control_to_client) in
              let left : drop (length front) u.control_to_client ≡ octet ∷ back ++ drop count u.control_to_client = ap (drop (length front)) all ∙ drop-append_seam front (octet ∷ back ++ drop count u.control_to_client) in
              ap (λ l. report_of_job (near.hears (record n { run = None }) l).job) (sym taken) ∙ quiet (length front) (λ empty. let e : octet ∷ (back ++ drop count u.control_to_client) ≡ [] = sym left ∙ empty in cc)
