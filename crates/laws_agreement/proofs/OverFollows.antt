-- Where the last operation of an upload over breaks is answered and nothing follows it, the world follows with that upload.
use Rattle.std.proofs.Common.{◌≡◌, inl, inr, ℕ, suc, ◌+◌, true, false, List, [], ◌∷◌, ◌++◌, length, Option, Some, None, refl, sym, ap, subst, ◌∙◌, arith, length-append}
use Rattle.ftp_operation.specs.Answer.{Said}
use Rattle.ftp_direct.specs.Direct.{State}
use Rattle.ftp_server_model.specs.Machine.{Reading}
use Rattle.ftp_client_model.specs.Calls.{is_busy_job}
use Rattle.ftp_client_model.specs.View.{Idle}
use Rattle.laws_world.specs.Agreement.{Order, Tries}
use Rattle.laws_world.specs.World.{World, Mark}
use Rattle.laws_dialogues.specs.Login.{AtFree}
use Rattle.laws_dialogues.specs.Stage.{Way, Asking, Answering}
use Rattle.laws_agreement.specs.Cut.{Cut, world_at, StandsAt}
use Rattle.laws_agreement.specs.Follows.{Told, IsFree, IsLost, Phase, Follows}
use Rattle.laws_agreement.specs.Over.{Going, orders_alone, marks_of}
use Rattle.laws_agreement.specs.Tried.{Tried, tried_marks, tried_said, all_marks, IsLastOfRun}
use Rattle.laws_agreement.proofs.Events.{under_busy}
use Rattle.laws_agreement.proofs.OverFold.{early_matches, late_matches, told_folded}
use Rattle.laws_agreement.proofs.Phases.{length-more}

-- with other marks, reports and another cutoff
abbrev pub with_told : List (List Mark) → List Said → Option ℕ → World → World
with_told marks reports cutoff w = record w { marks = marks; reports = reports; cutoff = cutoff }

-- the world of a stage and a cut with them is that of a base with them
told_base : (marks : List (List Mark)) (reports : List Said) (cutoff : Option ℕ) (b : World) (way : Way) (c : Cut)
    → with_told marks reports cutoff (world_at b way c) ≡ world_at (with_told marks reports cutoff b) way c
told_base marks reports cutoff b (Asking text) c = refl
told_base marks reports cutoff b (Answering rows) c = refl

-- as many marks as there are operations
many_marks : (past : List Tried) → length (tried_marks past) ≡ length past
many_marks [] = refl
many_marks (one ∷ past) = ap suc (many_marks past)

module _ (read : Reading) (from : State) (begun : List Order) (w : World) (g : Going begun w) (reports : List Said) (said : Said) (all : length reports ≡ length g.done) (last : IsLastOfRun g.run g.op (Some said)) where
  -- the marks and the reports of it as one
  abbrev own_marks : List (List Mark)
  own_marks = g.marks ++ all_marks g.past g.own ∷ []

  -- its reports, with its own as one
  abbrev own_reports : List Said
  own_reports = reports ++ said ∷ []

  -- the reports of each by itself
  abbrev each_reports : List Said
  each_reports = reports ++ (tried_said g.past ++ said ∷ [])

  -- the control connection stands, or it has ended behind the last
  pub data Ends (cutoff other : Option ℕ) : Type 0 where
    Stands : cutoff ≡ None → other ≡ None → Ends cutoff other
    Parts : cutoff ≡ Some (length (marks_of g)) → other ≡ Some (length own_marks) → Ends cutoff other

  -- no report is owed
  free_folded : (v : World) → v.marks ≡ marks_of g → v.reports ≡ each_reports → IsFree from (orders_alone g) v → IsFree from (g.done ++ Tries g.upload g.moment ∷ []) (with_told own_marks own_reports None v)
  free_folded v marks reports_are f = record {
    now = f.now;
    sound = f.sound;
    told = told_folded g.upload g.moment g.run g.op g.own g.past g.chain from g.done g.marks reports said None None f.now all g.each last ((λ k few. tt), (λ k few. tt))
        (subst (λ r. Told from (orders_alone g) (marks_of g) None r f.now) reports_are (subst (λ m. Told from (orders_alone g) m None v.reports f.now) marks f.told));
    stands =
        let s : StandsAt (AtFree f.now) v = f.stands in
        record {
          base = with_told own_marks own_reports None s.base;
          way = s.way;
          cut = s.cut;
          is = ap (with_told own_marks own_reports None) s.is ∙ told_base own_marks own_reports None s.base s.way s.cut;
          fits = s.fits;
          here = s.here;
        };
  }

  -- the control connection has ended
  lost_folded : (v : World) → v.marks ≡ marks_of g → v.reports ≡ each_reports → v.cutoff ≡ Some (length (marks_of g)) → IsLost from (orders_alone g) v
      → IsLost from (g.done ++ Tries g.upload g.moment ∷ []) (with_told own_marks own_reports (Some (length own_marks)) v)
  lost_folded v marks reports_are cut l =
      let cutoff_is : l.cutoff ≡ length (marks_of g) = (let e : Some l.cutoff ≡ Some (length (marks_of g)) = sym l.cut_is ∙ cut in cc) in
      let many : length (marks_of g) ≡ suc (length g.done + length g.past) =
      omega (arith, length-append g.marks (tried_marks g.past ++ g.own ∷ []), length-append (tried_marks g.past) (g.own ∷ []), many_marks g.past, g.each) in
      let one : length own_marks ≡ suc (length g.done) = omega (arith, length-more g.marks (all_marks g.past g.own), g.each) in
      let behind : length (g.done ++ Tries g.upload g.moment ∷ []) ≡ suc (length g.done) = length-more g.done (Tries g.upload g.moment) in
      record {
        now = l.now;
        cutoff = length own_marks;
        cut_is = refl;
        early = omega (arith, one, behind);
        told = told_folded g.upload g.moment g.run g.op g.own g.past g.chain from g.done g.marks reports said (Some (length (marks_of g))) (Some (length own_marks)) l.now all g.each last
            (early_matches (length g.done) (length g.past) (length (marks_of g)) (length own_marks) many one, late_matches (length g.done) (length g.past) (length (marks_of g)) (length own_marks) many one)
            (subst (λ c. Told from (orders_alone g) (marks_of g) (Some c) each_reports l.now) cutoff_is
            (subst (λ r. Told from (orders_alone g) (marks_of g) (Some l.cutoff) r l.now) reports_are (subst (λ m. Told from (orders_alone g) m (Some l.cutoff) v.reports l.now) marks l.told)));
        near = l.near;
        far = l.far;
        table = l.table;
        control = l.control;
        to_server = l.to_server;
        to_client = l.to_client;
      }

  -- where the operations follow one by one, the upload follows
  pub follows_folded : (v : World) (cutoff : Option ℕ) → v.near.job ≡ Idle → v.marks ≡ marks_of g → v.reports ≡ each_reports → Ends v.cutoff cutoff
      → Follows read from (orders_alone g) v → Follows read from begun (with_told own_marks own_reports cutoff v)
  follows_folded v cutoff idle marks reports_are ends h =
      subst (λ b. Follows read from b (with_told own_marks own_reports cutoff v)) (sym g.begun_is)
      (record { unlinked = record { link = h.unlinked.link; to_server = h.unlinked.to_server; to_client = h.unlinked.to_client }; untold = h.untold; phase = by_ends ends h.phase })
    where
      by_ends : Ends v.cutoff cutoff → Phase read from (orders_alone g) v → Phase read from (g.done ++ Tries g.upload g.moment ∷ []) (with_told own_marks own_reports cutoff v)
      by_ends (Stands none other) (inl (l, inl f)) =
          subst (λ c. Phase read from (g.done ++ Tries g.upload g.moment ∷ []) (with_told own_marks own_reports c v)) (sym other)
          (inl (record { control = l.control; cutoff = refl }, inl (free_folded v marks reports_are f)))
      by_ends (Parts some other) (inl (l, inl f)) = absurd (let e : None ≡ Some (length (marks_of g)) = sym l.cutoff ∙ some in cc)
      by_ends either (inl (l, inr u)) = absurd (let e : false ≡ true = ap is_busy_job (sym idle) ∙ under_busy read from (orders_alone g) v u in cc)
      by_ends (Stands none other) (inr l) = absurd (let e : None ≡ Some l.cutoff = sym none ∙ l.cut_is in cc)
      by_ends (Parts some other) (inr l) =
          subst (λ c. Phase read from (g.done ++ Tries g.upload g.moment ∷ []) (with_told own_marks own_reports c v)) (sym other)
          (inr (lost_folded v marks reports_are some l))
