-- Where an operation has just been answered: both ends, as they are before its report is taken; and the next of a run begins there.
use Rattle.std.proofs.Common.{◌≡◌, ◌⊎◌, inl, inr, ℕ, Bool, true, false, List, [], ◌∷◌, ◌++◌, Some, None, refl, sym, ap, subst, ◌∙◌}
use Rattle.ftp_operation.specs.Answer.{Said}
use Rattle.ftp_operation.specs.Operation.{can_be_sent}
use Rattle.ftp_operation.specs.declared.op.Op.{Op}
use Rattle.ftp_path.specs.Path.{Names}
use Rattle.ftp_direct.specs.Direct.{State, answer}
use Rattle.ftp_client_model.specs.Calls.{report_of_job}
use Rattle.ftp_client_model.specs.Dialogue.{begins}
use Rattle.ftp_client_model.specs.View.{Job, Told as Answered}
use Rattle.ftp_server_model.specs.Machine.{Reading}
use Rattle.ftp_server_model.specs.View.{Transfer}
use Rattle.ftp_server_model.specs.declared.session.ServerLink.{ServerLink as FarConnection}
use Rattle.ftp_server_model.specs.declared.session.ServerLink.TheVariants as FarData
use Rattle.ftp_server_model.specs.declared.session.Pending.{Pending}
use Rattle.ftp_server_model.specs.declared.session.Pending.TheVariants as Pendings
use Rattle.laws_world.specs.Agreement.{Order}
use Rattle.laws_world.specs.Events.{operation_begins}
use Rattle.laws_world.specs.Serving.{after_event}
use Rattle.laws_world.specs.World.{World, Gone}
use Rattle.laws_dialogues.specs.Dialogue.{Ends, FarWaits, is_set_aside}
use Rattle.laws_dialogues.specs.Fetches.{IsTimely, Rise, linked}
use Rattle.laws_dialogues.specs.Login.{AtOperation}
use Rattle.laws_dialogues.specs.Stage.{Way, Asking, Answering, calm, still, rest}
use Rattle.laws_agreement.specs.Cut.{Cut, world_at}
use Rattle.laws_agreement.specs.Follows.{IsUnder, IsUnlinked}
use Rattle.laws_agreement.specs.Rising.{Lift, Offered, Rising, Risen, Settled, Declined, Unjoined}
use Rattle.laws_agreement.specs.Runs.{IsFetching}
use Rattle.laws_agreement.specs.Stages.{PortAsked, PortTold, Dials, PortWanted, PortSaid, PortTaken, PortDenied, Restarts, Retrieves, Awaits, Unaccepted, Dismissed, Carries, Rises, Tells, Answers, Leaving, Aside, LinkOpen, LinkLeft, LinkParting, Holds, AtFetch, Fared, no_link}
use Rattle.laws_agreement.proofs.FetchLink.{far_linked}
use Rattle.laws_agreement.proofs.FetchServed.{leads_still}
use Rattle.laws_agreement.proofs.FetchTold.{told_at, taken_base, aside_served, left_served, parting_served, is_told}
use Rattle.laws_agreement.proofs.OverNext.{begins_at, goes_on_aside, goes_on_left, goes_on_parting}
use Rattle.laws_agreement.proofs.Still.{IsMoving, IsSeen, no_octets, operation_on, rest_world, seen, seen_placed}
use Rattle.laws_agreement.proofs.UploadTold as uploads

-- ---- both ends

-- the server is at no transfer, where the link is aside
abbrev pub AsideFine : Leaving → Type 0
AsideFine (Aside closes connection pending) = is_set_aside connection ≡ true
AsideFine leaves = Unit {0}

-- the link is open at both
abbrev pub is_open : Leaving → Bool
is_open LinkOpen = true
is_open leaves = false

-- the answer is told, over such a link
pub record IsToldAt (w : World) (said : Said) : Type 0 where
  pub base : World
  pub leaves : Leaving
  pub is : w ≡ told_at said leaves base
  pub aside : AsideFine leaves

-- ---- the next begins

-- behind the event the session is free, and the next operation goes on as if it were begun by itself then
pub record BeginsNext (w : World) (said : Said) (next : Op (List ℕ)) (moment : ℕ) : Type 0 where
  pub base : World
  pub connection : FarConnection Transfer
  pub pending : Pending Names
  pub free_is : after_event w ≡ world_at (taken_base said connection pending Gone base) rest no_octets
  pub goes : after_event (record w { near = begins next w.near; marks = w.marks ++ [] ∷ []; reports = w.reports ++ said ∷ [] }) ≡ after_event (operation_begins next moment (after_event w))

-- where an answer is told and the link is not open at both, the next operation goes on so
pub begins_next : (w : World) (said : Said) (t : IsToldAt w said) (next : Op (List ℕ)) (moment : ℕ) → is_open t.leaves ≡ false → can_be_sent next ≡ true → w.far.context.moment ≡ moment → BeginsNext w said next moment
begins_next w said t next moment shut can at = subst (λ u. BeginsNext u said next moment) (sym t.is) (by_leaving t.leaves t.aside shut (ap (λ u. u.far.context.moment) (sym t.is) ∙ at))
  where
    -- by how it leaves its link
    by_leaving : (leaves : Leaving) → AsideFine leaves → is_open leaves ≡ false → t.base.far.context.moment ≡ moment → BeginsNext (told_at said leaves t.base) said next moment
    by_leaving (Aside closes connection pending) aside shut at =
        let free = aside_served said closes connection aside pending t.base in
        record {
          base = t.base;
          connection = connection;
          pending = pending;
          free_is = free;
          goes = goes_on_aside said next t.base closes connection pending ∙ sym (ap after_event (ap (operation_begins next moment) free ∙ begins_at said next t.base moment connection pending can at));
        }
    by_leaving LinkLeft aside shut at =
        let free = left_served said t.base in
        record {
          base = t.base;
          connection = FarData.Free;
          pending = Pendings.Nothing;
          free_is = free;
          goes = goes_on_left said next t.base ∙ sym (ap after_event (ap (operation_begins next moment) free ∙ begins_at said next t.base moment FarData.Free Pendings.Nothing can at));
        }
    by_leaving LinkParting aside shut at =
        let free = parting_served said t.base in
        record {
          base = t.base;
          connection = FarData.Free;
          pending = Pendings.Nothing;
          free_is = free;
          goes = goes_on_parting said next t.base ∙ sym (ap after_event (ap (operation_begins next moment) free ∙ begins_at said next t.base moment FarData.Free Pendings.Nothing can at));
        }
    by_leaving LinkOpen aside shut at = absurd (cc)

-- ---- of a download, a listing or an upload

-- nothing that is told is none
pub some_told : (job : Job) (said : Said) → job ≡ Answered said → report_of_job job ≡ None → ⊥
some_told job said is none = let e : None ≡ Some said = sym none ∙ ap report_of_job is in cc

-- one answer is told
same_told : (said other : Said) → Answered said ≡ Answered other → said ≡ other
same_told said other is = let e : Some said ≡ Some other = ap report_of_job is in cc

-- what is so where it is told
pub record FetchTold (read : Reading) (from : State) (begun : List Order) (w : World) (f : IsFetching read from begun w) (said : Said) : Type 0 where
  pub at : IsToldAt w said
  pub timed : IsTimely f.ask.sends w.far.context.moment
  pub whole : is_open at.leaves ≡ true → Fared f.now f.ask [] said

module _ (read : Reading) (from : State) (begun : List Order) (w : World) (f : IsFetching read from begun w) (said : Said) (told : w.near.job ≡ Answered said) where
  -- both ends are those of the base
  abbrev s : IsSeen f.stands.base w
  s = seen_placed (λ way b. AtFetch f.now f.ask read f.own way b) w f.stands

  -- an operation that is under way is not told
  not_told : {X : Type 0} (job : Job) → f.stands.base.near.job ≡ job → report_of_job job ≡ None → X
  not_told job is none = absurd (some_told w.near.job said told (ap report_of_job (s.job ∙ is) ∙ none))

  -- the server's moment is that of the base
  moment_is : f.stands.base.far.context.moment ≡ w.far.context.moment
  moment_is = sym (ap (λ u. u.far.context.moment) f.stands.is ∙ by_way f.stands.way f.stands.cut)
    where
      by_way : (way : Way) (c : Cut) → (world_at f.stands.base way c).far.context.moment ≡ f.stands.base.far.context.moment
      by_way (Asking line) c = refl
      by_way (Answering rows) c = refl

  -- an upload that is under way has told nothing
  by_lift : (rise : Rise) (lift : Lift) → Holds f.now f.ask f.own (Rises rise lift) f.stands.way f.stands.base → FetchTold read from begun w f said
  by_lift rise Offered h = not_told _ (ap (λ v. v.job) h.near) refl
  by_lift rise (Rising past octet more came queue mark notes) h = not_told _ (ap (λ v. v.job) h.near) refl
  by_lift rise (Risen past closed came queue mark notes) h = not_told _ (ap (λ v. v.job) h.near) refl
  by_lift rise (Settled started mark notes fate left after) h = not_told _ (ap (λ v. v.job) h.near) refl
  by_lift rise (Declined why door) h = not_told _ (ap (λ v. v.job) h.near) refl
  by_lift rise Unjoined h = not_told _ (ap (λ v. v.job) h.near) refl

  -- an answer is told over the link that it leaves
  by_leaves : (answer : Said) (leaves : Leaving) → answer ≡ said → Holds f.now f.ask f.own (Answers answer leaves) f.stands.way f.stands.base → FetchTold read from begun w f said
  by_leaves answer leaves same h = record {
    at = record { base = f.stands.base; leaves = leaves; is = is_told read from begun w f answer leaves h ∙ ap (λ a. told_at a leaves f.stands.base) same; aside = aside leaves h };
    timed = subst (IsTimely f.ask.sends) moment_is h.timed;
    whole = λ opened. whole leaves h opened;
  }
    where
      aside : (leaves : Leaving) → Holds f.now f.ask f.own (Answers answer leaves) f.stands.way f.stands.base → AsideFine leaves
      aside (Aside closes connection pending) h = h.fine.1
      aside LinkOpen h = tt
      aside LinkLeft h = tt
      aside LinkParting h = tt

      whole : (leaves : Leaving) → Holds f.now f.ask f.own (Answers answer leaves) f.stands.way f.stands.base → is_open leaves ≡ true → Fared f.now f.ask [] said
      whole LinkOpen h opened = subst (Fared f.now f.ask []) same (h.fine [])
      whole (Aside closes connection pending) h opened = absurd (cc)
      whole LinkLeft h opened = absurd (cc)
      whole LinkParting h opened = absurd (cc)

  -- where it has just been answered, it is told over some link
  pub fetch_told : FetchTold read from begun w f said
  fetch_told = by_here f.stands.here
    where
      by_here : AtFetch f.now f.ask read f.own f.stands.way f.stands.base → FetchTold read from begun w f said
      by_here (inl l) = absurd (some_told w.near.job said told (leads_still read f.now f.ask f.is_ask.plan f.own f.stands.base w f.stands.way s l).1)
      by_here (inr (PortAsked closing, h)) = not_told _ (ap (λ v. v.job) h.near) refl
      by_here (inr (PortTold port, h)) = not_told _ (ap (λ v. v.job) h.near) refl
      by_here (inr (Dials port, h)) = not_told _ (ap (λ v. v.job) h.near) refl
      by_here (inr (PortWanted connection pending, h)) = not_told _ (ap (λ v. v.job) h.near) refl
      by_here (inr (PortSaid port connection pending, h)) = not_told _ (ap (λ v. v.job) h.near) refl
      by_here (inr (PortTaken port closing, h)) = not_told _ (ap (λ v. v.job) h.near) refl
      by_here (inr (PortDenied port connection, h)) = not_told _ (ap (λ v. v.job) h.near) refl
      by_here (inr (Restarts at restart early, h)) = not_told _ (ap (λ v. v.job) h.near) refl
      by_here (inr (Retrieves early, h)) = not_told _ (ap (λ v. v.job) h.near) refl
      by_here (inr (Awaits port begun, h)) = not_told _ (ap (λ v. v.job) h.near) refl
      by_here (inr (Unaccepted port, h)) = not_told _ (ap (λ v. v.job) h.near) refl
      by_here (inr (Dismissed port why, h)) = not_told _ (ap (λ v. v.job) h.near) refl
      by_here (inr (Carries c, h)) = not_told _ (ap (λ v. v.job) h.near) refl
      by_here (inr (Rises rise lift, h)) = by_lift rise lift h
      by_here (inr (Tells rise answer after, h)) =
          let same : answer ≡ said = same_told answer said (ap (λ v. v.job) (sym h.near) ∙ sym s.job ∙ told) in
          record {
            at = record { base = f.stands.base; leaves = no_link; is = uploads.is_told read from begun w f rise answer after h ∙ ap (λ a. told_at a no_link f.stands.base) same; aside = refl };
            timed = subst (IsTimely f.ask.sends) moment_is h.timed;
            whole = λ opened. absurd (cc);
          }
      by_here (inr (Answers answer leaves, h)) =
          by_leaves answer leaves (same_told answer said (ap (λ v. v.job) (sym h.near) ∙ sym s.job ∙ told)) h

-- ---- of an operation without a transfer

-- what is so where it is told
pub record UnderTold (read : Reading) (from : State) (begun : List Order) (w : World) (u : IsUnder read from begun w) (said : Said) : Type 0 where
  pub at : IsToldAt w said
  pub shut : is_open at.leaves ≡ false
  pub direct : said ≡ (answer u.now u.op u.moment).0

-- where an operation without a transfer is answered, it is told without a link, as the direct run answers it
pub under_told : (read : Reading) (from : State) (begun : List Order) (w : World) (u : IsUnder read from begun w) (said : Said) → IsUnlinked w → w.near.job ≡ Answered said → UnderTold read from begun w u said
under_told read from begun w u said unlinked told = by_place (operation_on read u.now u.op (answer u.now u.op u.moment) u.stands.way u.stands.base.near u.stands.base.far u.stands.here)
  where
    like : IsSeen u.stands.base w
    like = seen (λ way n f. AtOperation read u.now u.op (answer u.now u.op u.moment) way n f) w u.stands

    b : World
    b = u.stands.base

    by_place : IsMoving u.now.table (answer u.now u.op u.moment).1.table u.stands.way b.near b.far ⊎ ((u.stands.way ≡ rest) × Ends (answer u.now u.op u.moment) b.near b.far)
        → UnderTold read from begun w u said
    by_place (inl moving) = absurd (some_told w.near.job said told (ap report_of_job like.job ∙ moving.untold))
    by_place (inr ends) =
        let same : (answer u.now u.op u.moment).0 ≡ said = same_told _ said (ap (λ v. v.job) (sym ends.1.near) ∙ sym like.job ∙ told) in
        let is = rest_world (λ way n f. AtOperation read u.now u.op (answer u.now u.op u.moment) way n f) w u.stands ends.0 in
        let connection : FarConnection Transfer = b.far.session.connection in
        let pending : Pending Names = b.far.session.pending in
        let waits : FarWaits b.far = ends.1.stands.far in
        let session : b.far.session ≡ linked connection false pending b.far.session = λ i. record b.far.session { closing = waits.closing i; life = waits.life i } in
        let link : b.link ≡ Gone = ap (λ x. x.link) (sym is) ∙ unlinked.link in
        let up : b.data_to_server ≡ [] = ap (λ x. x.data_to_server) (sym is) ∙ unlinked.to_server in
        let down : b.data_to_client ≡ [] = ap (λ x. x.data_to_client) (sym is) ∙ unlinked.to_client in
        let told_is : w ≡ told_at (answer u.now u.op u.moment).0 (Aside false connection pending) b =
        is ∙ (λ i. record (world_at b rest no_octets) { near = calm (ends.1.near i); far = still (far_linked (session i) b.far); link = link i; data_to_server = up i; data_to_client = down i }) in
        record {
          at = record { base = b; leaves = Aside false connection pending; is = told_is ∙ ap (λ a. told_at a (Aside false connection pending) b) same; aside = waits.aside };
          shut = refl;
          direct = sym same;
        }
