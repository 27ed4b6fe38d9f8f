-- What was asked for is told, its link is closed, and its report is taken.
use Rattle.std.proofs.Common.{◌≡◌, inl, inr, ℕ, ◌+◌, ◌≤◌, Bool, true, false, List, [], ◌∷◌, ◌++◌, length, None, refl, sym, ap, subst, ◌∙◌, append-nil, arith}
use Rattle.std.specs.Prelude.{if◌then◌else◌}
use Rattle.std.specs.Option.{is_some}
use Rattle.ftp_operation.specs.Answer.{Said}
use Rattle.ftp_operation.specs.declared.op.Op.{Op}
use Rattle.ftp_path.specs.Path.{Names}
use Rattle.ftp_server_model.specs.declared.session.Pending.{Pending}
use Rattle.ftp_direct.specs.Direct.{State}
use Rattle.ftp_client_model.specs.Calls as near
use Rattle.ftp_client_model.specs.View.{View as Near}
use Rattle.ftp_server_model.specs.Calls as far
use Rattle.ftp_server_model.specs.Machine.{Reading, IsReading}
use Rattle.ftp_server_model.specs.View.{View as Far, Transfer}
use Rattle.ftp_server_model.specs.declared.session.ServerLink.{ServerLink as FarConnection}
use Rattle.ftp_server_model.specs.declared.session.ServerLink.TheVariants as FarData
use Rattle.ftp_server_model.specs.declared.session.Pending.TheVariants as Pendings
use Rattle.laws_world.specs.Agreement.{Order, Single, Item, item_did, state_after, ItemHolds, links_of}
use Rattle.laws_world.specs.Outcome.{Outcome}
use Rattle.laws_world.specs.Events.{DataToServer, link_breaks, told}
use Rattle.laws_world.specs.Serving.{after_event}
use Rattle.laws_world.specs.World.{World, Link, Gone, ClosedByNear, Mark, Broken, marked_last}
use Rattle.laws_dialogues.specs.Dialogue.{Stands, is_set_aside, resting}
use Rattle.laws_dialogues.specs.Fetches.{Ask, HasPlan, leaving, linked, kept, IsSteadySession}
use Rattle.laws_dialogues.specs.Stage.{calm, still, rest}
use Rattle.laws_agreement.specs.Cut.{world_at}
use Rattle.laws_agreement.specs.Follows.{Told, IsLinked, Follows}
use Rattle.laws_agreement.specs.Rising.{FaredTo}
use Rattle.laws_agreement.specs.Runs.{IsFetching, IsTrailing, Runs}
use Rattle.laws_agreement.specs.Stages.{Leaving, LinkOpen, LinkLeft, LinkParting, is_to_close, far_leaves, far_parting, link_left, Answers, Fared, Holds, Aside, pending_left}
use Rattle.laws_agreement.proofs.FetchLink.{far_linked}
use Rattle.laws_agreement.proofs.Items.{state_more, one_told}
use Rattle.laws_agreement.proofs.Phases.{both_longer, follows_after}
use Rattle.laws_agreement.proofs.Still.{rest_placed, no_octets}

-- ---- one operation more has its report

-- the item of one attempt: an operation, the moment it was begun at, how it came out, and the marks of its links
pub fared_item : Op (List ℕ) → ℕ → Outcome → List Mark → Item
fared_item op moment outcome own = record { moment = moment; first = record { op = op; outcome = outcome; marks = own }; more = [] }

-- what has a plan may use one link, so one mark at most is within what it may use
pub few_links : (ask : Ask) → HasPlan ask → (own : List Mark) → length own ≤ 1 → length own ≤ links_of ask.op
few_links ask plan own few = subst (λ how. length own ≤ (if is_some how then 1 else 0)) (sym plan.how_is) few

-- an operation whose answer fits how it came out holds as an item of one attempt
pub fared_holds : (now : State) (ask : Ask) (plan : HasPlan ask) (moment index : ℕ) (own : List Mark) (said : Said) (after : State) (f : FaredTo now ask own said after moment) → length own ≤ 1
    → ItemHolds now (Single ask.op moment) own None index (fared_item ask.op moment f.outcome own)
unfolding fared_item
fared_holds now ask plan moment index own said after f few = record {
  is_of = (refl, refl, refl);
  holds = (record { can_be = f.can_be; allowed = f.allowed index; few = few_links ask plan own few }, tt);
  marked = append-nil own;
}

-- what an operation has fared is what its item leaves
pub fared_leaves : (now : State) (ask : Ask) (own : List Mark) (said : Said) (after : State) (moment : ℕ) → (fares : FaredTo now ask own said after moment)
    → (item_did now (fared_item ask.op moment fares.outcome own)).1 ≡ after
unfolding fared_item
fared_leaves now ask own said after moment fares = ap (λ d. d.1) fares.did_so

-- where all before were told, and an operation has fared with its answer, all are told with it and its report, and it leaves its state
pub told_fared_to : (from : State) (done : List Order) (marks : List (List Mark)) (reports : List Said) (now : State) (ask : Ask) (plan : HasPlan ask) (moment : ℕ) (own : List Mark) (said : Said)
    (after : State) → Told from done marks None reports now → FaredTo now ask own said after moment → length own ≤ 1
    → Told from (done ++ Single ask.op moment ∷ []) (marks ++ own ∷ []) None (reports ++ said ∷ []) after
unfolding fared_item
told_fared_to from done marks reports now ask plan moment own said after t fares few =
    let op : Op (List ℕ) = ask.op in
    let there : FaredTo (state_after from t.items) ask own said after moment = subst (λ s. FaredTo s ask own said after moment) t.now_is fares in
    let item : Item = fared_item op moment there.outcome own in
    record {
      items = t.items ++ item ∷ [];
      all = both_longer reports done said (Single op moment) t.all;
      hold = one_told reports from 0 (length done) done marks None t.items (Single op moment) own item said t.all t.hold (let e : length done ≡ 0 + length done = omega arith in e)
          (fared_holds (state_after from t.items) ask plan moment (length done) own said after there few) (tt, ap (λ d. d.0) there.did_so);
      now_is = sym (state_more from t.items item ∙ ap (λ d. d.1) there.did_so);
    }

-- so it is of one that changes nothing
pub told_fared : (from : State) (done : List Order) (marks : List (List Mark)) (reports : List Said) (now : State) (ask : Ask) (plan : HasPlan ask) (moment : ℕ) (own : List Mark) (said : Said)
    → Told from done marks None reports now → Fared now ask own said → length own ≤ 1
    → Told from (done ++ Single ask.op moment ∷ []) (marks ++ own ∷ []) None (reports ++ said ∷ []) now
told_fared from done marks reports now ask plan moment own said t fares few =
    told_fared_to from done marks reports now ask plan moment own said now t
    (record { outcome = fares.outcome; can_be = fares.can_be; allowed = fares.allowed; did_so = fares.did_so moment }) few

-- ---- both ends behind it

-- ends that are steady stand, where the server is at no transfer and is not closing
pub steady_stands : (now : State) (n : Near) (f : Far) → IsSteadySession now (kept n f) → is_set_aside f.session.connection ≡ true → (connection : FarConnection Transfer) (pending : Pending Names)
    → f.session ≡ linked connection false pending f.session → Stands now n f
steady_stands now n f steady aside connection pending session = record {
  meets = record { peer = steady.peer; here = steady.here; typed = steady.typed; own = steady.own; family = steady.family; all_ways = steady.all_ways };
  far = record { aside = aside; closing = ap (λ s. s.closing) session; life = ap (λ s. s.life) session };
  sees = record { table = steady.table; known = steady.access; root = steady.root; rights = steady.rights; cwd = steady.cwd };
  settings = steady.settings;
  facts = steady.facts;
}

-- the world where an answer was told, and that where its report was taken
abbrev pub told_at : Said → Leaving → World → World
told_at said leaves b = record (world_at b rest no_octets) {
  near = calm (leaving said (is_to_close leaves) b.near);
  far = still (far_linked (linked (far_leaves leaves) (far_parting leaves) (pending_left leaves) b.far.session) b.far);
  link = link_left leaves;
  data_to_server = [];
  data_to_client = [];
}

abbrev pub taken_base : Said → FarConnection Transfer → Pending Names → Link → World → World
taken_base said connection pending link b = record b {
  near = resting b.near;
  far = far_linked (linked connection false pending b.far.session) b.far;
  link = link;
  data_to_server = [];
  data_to_client = [];
  reports = b.reports ++ said ∷ [];
}

-- where the server is at no transfer when the answer is told, the report is taken, and there is no link
pub aside_served : (said : Said) (closes : Bool) (connection : FarConnection Transfer) → is_set_aside connection ≡ true → (pending : Pending Names) (b : World)
    → after_event (told_at said (Aside closes connection pending) b) ≡ world_at (taken_base said connection pending Gone b) rest no_octets
unfolding near.wants
aside_served said true FarData.Free aside pending b = refl
aside_served said true FarData.Passive aside pending b = refl
aside_served said true (FarData.Active endpoint) aside pending b = refl
aside_served said false FarData.Free aside pending b = refl
aside_served said false FarData.Passive aside pending b = refl
aside_served said false (FarData.Active endpoint) aside pending b = refl
aside_served said closes FarData.Ready aside pending b = absurd (cc)
aside_served said closes (FarData.Asked asked) aside pending b = absurd (cc)
aside_served said closes (FarData.Opening transfer way) aside pending b = absurd (cc)
aside_served said closes (FarData.Transferring transfer) aside pending b = absurd (cc)

-- where the link is still open at the client, it is closed there and the report is taken; the server has yet to hear that end
open_served : (said : Said) (b : World) → after_event (told_at said LinkOpen b) ≡ world_at (taken_base said FarData.Ready Pendings.Nothing ClosedByNear b) rest no_octets
unfolding near.wants
open_served said b = refl

-- where the server has left the link already, the report is taken and the link is gone
pub left_served : (said : Said) (b : World) → after_event (told_at said LinkLeft b) ≡ world_at (taken_base said FarData.Free Pendings.Nothing Gone b) rest no_octets
unfolding near.wants
left_served said b = refl

-- where both ends have the link to close yet, they close it, the report is taken, and the link is gone
pub parting_served : (said : Said) (b : World) → after_event (told_at said LinkParting b) ≡ world_at (taken_base said FarData.Free Pendings.Nothing Gone b) rest no_octets
unfolding near.wants far.data_closed
parting_served said b = refl

module _ (read : Reading) (from : State) (begun : List Order) (w : World) (f : IsFetching read from begun w) (said : Said) where
  abbrev b : World
  b = f.stands.base

  abbrev Stood : Leaving → Type 0
  Stood leaves = Holds f.now f.ask f.own (Answers said leaves) f.stands.way b

  -- at an answer nothing is on its way on the control connection
  is_rest : (leaves : Leaving) → Stood leaves → w ≡ world_at b rest no_octets
  is_rest leaves h = rest_placed _ w f.stands h.way_is

  -- at an answer the world is the one where it was told
  pub is_told : (leaves : Leaving) → Stood leaves → w ≡ told_at said leaves b
  is_told leaves h =
      is_rest leaves h
      ∙ (λ i. record (world_at b rest no_octets) {
        near = calm (h.near i);
        far = still (far_linked (h.session i) b.far);
        link = h.link i;
        data_to_server = h.to_server i;
        data_to_client = h.to_client i;
      })

  -- with the answer as its report, all that was begun is told
  told_now : Fared f.now f.ask f.own said → length f.own ≤ 1 → Told from begun w.marks None (w.reports ++ said ∷ []) f.now
  told_now fares few =
      let t = told_fared from f.done f.marks w.reports f.now f.ask f.is_ask.plan f.moment f.own said f.told fares few in
      subst (λ done. Told from done w.marks None (w.reports ++ said ∷ []) f.now) (sym f.begun_is)
      (subst (λ marks. Told from (f.done ++ Single f.ask.op f.moment ∷ []) marks None (w.reports ++ said ∷ []) f.now) (sym f.marks_are) t)

  -- the session is free again
  freed : (leaves : Leaving) (connection : FarConnection Transfer) (pending : Pending Names) → Stood leaves → Fared f.now f.ask f.own said → length f.own ≤ 1 → is_set_aside connection ≡ true
      → Follows read from begun (world_at (taken_base said connection pending Gone b) rest no_octets)
  freed leaves connection pending h fares few aside =
      let is = is_rest leaves h in
      let new : World = world_at (taken_base said connection pending Gone b) rest no_octets in
      let told_is : Told from begun new.marks None new.reports f.now =
      subst (λ u. Told from begun u.marks None (u.reports ++ said ∷ []) f.now) is (told_now fares few) in
      record {
        unlinked = record { link = refl; to_server = refl; to_client = refl };
        untold = refl;
        phase = inl (
          subst (λ u. IsLinked (record new { control = u.control; cutoff = u.cutoff })) is (record { control = f.linked.control; cutoff = f.linked.cutoff }),
          inl (record {
            now = f.now;
            sound = f.sound;
            told = told_is;
            stands = record {
              base = taken_base said connection pending Gone b;
              way = rest;
              cut = no_octets;
              is = refl;
              fits = (tt, (refl, refl));
              here = inr (refl, refl, steady_stands f.now (resting b.near) (far_linked (linked connection false pending b.far.session) b.far) h.steady aside connection pending refl);
            };
          }),
        );
      }

  -- behind an answer its report is taken, and what was begun runs on: all is told, or a closed link trails
  pub answers_served : (leaves : Leaving) → Stood leaves → Runs read from begun (after_event w)
  answers_served (Aside closes connection pending) h =
      inl (subst (Follows read from begun) (sym (ap after_event (is_told (Aside closes connection pending) h) ∙ aside_served said closes connection h.fine.1 pending b))
      (freed (Aside closes connection pending) connection pending h h.fine.0 h.marked h.fine.1))
  answers_served LinkLeft h =
      inl (subst (Follows read from begun) (sym (ap after_event (is_told LinkLeft h) ∙ left_served said b)) (freed LinkLeft FarData.Free Pendings.Nothing h h.fine h.marked refl))
  answers_served LinkParting h =
      inl (subst (Follows read from begun) (sym (ap after_event (is_told LinkParting h) ∙ parting_served said b)) (freed LinkParting FarData.Free Pendings.Nothing h h.fine h.marked refl))
  answers_served LinkOpen h =
      let is = is_rest LinkOpen h in
      let new : World = world_at (taken_base said FarData.Ready Pendings.Nothing ClosedByNear b) rest no_octets in
      inr (inr (inl (subst (IsTrailing from begun) (sym (ap after_event (is_told LinkOpen h) ∙ open_served said b)) (record {
        done = f.done;
        marks = f.marks;
        reports = w.reports;
        ask = f.ask;
        plan = f.is_ask.plan;
        moment = f.moment;
        said = said;
        begun_is = f.begun_is;
        marks_are = sym (ap (λ u. u.marks) is) ∙ f.marks_are ∙ ap (λ own. f.marks ++ own ∷ []) h.marked;
        reports_are = ap (λ u. u.reports ++ said ∷ []) (sym is);
        now = f.now;
        sound = f.sound;
        told = f.told;
        fares = h.fine;
        linked = subst (λ u. IsLinked (record new { control = u.control; cutoff = u.cutoff })) is (record { control = f.linked.control; cutoff = f.linked.cutoff });
        stands = record {
          base = taken_base said FarData.Ready Pendings.Nothing ClosedByNear b;
          way = rest;
          cut = no_octets;
          is = refl;
          fits = (tt, (refl, refl));
          here = record {
            near = refl;
            session = refl;
            steady = h.steady;
            link = refl;
            to_server = refl;
            to_client = refl;
            way_is = refl;
          };
        };
      }))))

-- ---- the server is told that the client has closed a link that it had for no transfer

-- a mark that is added to the last of the marks is put behind those of the last operation
pub marks_last : (mark : Mark) (marks : List (List Mark)) (own : List Mark) → marked_last mark (marks ++ own ∷ []) ≡ marks ++ (own ++ mark ∷ []) ∷ []
marks_last mark [] own = refl
marks_last mark (one ∷ []) own = refl
marks_last mark (one ∷ next ∷ marks) own = ap (λ l. one ∷ l) (marks_last mark (next ∷ marks) own)

module _ (read : Reading) (reads : IsReading read) (from : State) (begun : List Order) (w : World) (t : IsTrailing from begun w) where
  abbrev pub at : World
  at = t.stands.base

  -- while a closed link trails nothing is on its way on the control connection
  pub trails_rest : w ≡ world_at at rest no_octets
  trails_rest = rest_placed _ w t.stands t.stands.here.way_is

  -- the world where it was closed
  abbrev pub closed_at : World
  closed_at = record (world_at at rest no_octets) {
    near = calm (resting at.near);
    far = still (far_linked (linked FarData.Ready false Pendings.Nothing at.far.session) at.far);
    link = ClosedByNear;
    data_to_server = [];
    data_to_client = [];
  }

  -- the world of a closed link that trails is the one where it was closed
  pub closed_is : w ≡ closed_at
  closed_is =
      trails_rest
      ∙ (λ i. record (world_at at rest no_octets) {
        near = calm (t.stands.here.near i);
        far = still (far_linked (t.stands.here.session i) at.far);
        link = t.stands.here.link i;
        data_to_server = t.stands.here.to_server i;
        data_to_client = t.stands.here.to_client i;
      })

  -- and behind that
  abbrev behind_at : List (List Mark) → World
  behind_at marks = record at {
    near = resting at.near;
    far = far_linked (linked FarData.Free false Pendings.Nothing at.far.session) at.far;
    link = Gone;
    data_to_server = [];
    data_to_client = [];
    marks = marks;
  }

  -- where the server is told of the end of that link, the link is gone, and the marks are as they were
  ended : told DataToServer closed_at ≡ world_at (behind_at at.marks) rest no_octets
  unfolding far.data_end
  ended = refl

  -- where that link breaks, it is gone, and the break is marked
  broke : link_breaks closed_at ≡ world_at (behind_at (marked_last (Broken at.came) at.marks)) rest no_octets
  unfolding far.data_fault
  broke = refl

  -- with one mark or none for it, the last operation is told as well
  pub reported : (own : List Mark) → length own ≤ 1 → Told from begun (t.marks ++ own ∷ []) None at.reports t.now
  reported own few =
      let told_now = told_fared from t.done t.marks t.reports t.now t.ask t.plan t.moment own t.said t.told (t.fares own) few in
      subst (λ done. Told from done (t.marks ++ own ∷ []) None at.reports t.now) (sym t.begun_is)
      (subst (λ reports. Told from (t.done ++ Single t.ask.op t.moment ∷ []) (t.marks ++ own ∷ []) None reports t.now)
      (sym t.reports_are ∙ ap (λ u. u.reports) trails_rest) told_now)

  -- while its link trails there are no marks for the last operation yet
  pub marks_at : at.marks ≡ t.marks ++ [] ∷ []
  marks_at = sym (ap (λ u. u.marks) trails_rest) ∙ t.marks_are

  -- behind the closed link, with marks that are told, what was begun follows as before
  freed_with : (marks : List (List Mark)) → Told from begun marks None at.reports t.now → Follows read from begun (after_event (world_at (behind_at marks) rest no_octets))
  freed_with marks told_is =
      let new : World = world_at (behind_at marks) rest no_octets in
      follows_after read from begun new (record {
        unlinked = record { link = refl; to_server = refl; to_client = refl };
        phase = inl (
          subst (λ u. IsLinked (record new { control = u.control; cutoff = u.cutoff })) trails_rest (record { control = t.linked.control; cutoff = t.linked.cutoff }),
          inl (record {
            now = t.now;
            sound = t.sound;
            told = told_is;
            stands = record {
              base = behind_at marks;
              way = rest;
              cut = no_octets;
              is = refl;
              fits = (tt, (refl, refl));
              here = inr (refl, refl, steady_stands t.now (resting at.near) (far_linked (linked FarData.Free false Pendings.Nothing at.far.session) at.far) t.stands.here.steady refl FarData.Free Pendings.Nothing refl);
            };
          }),
        );
      })

  -- where the server is told of the end of the link that trails, what was begun follows
  pub trailing_ends : Follows read from begun (after_event (told DataToServer w))
  trailing_ends =
      subst (λ u. Follows read from begun (after_event u)) (sym (ap (told DataToServer) closed_is ∙ ended))
      (freed_with at.marks (subst (λ marks. Told from begun marks None at.reports t.now) (sym marks_at) (reported [] (omega arith))))

  -- where the link that trails breaks, what was begun follows
  pub trailing_breaks : Follows read from begun (after_event (link_breaks w))
  trailing_breaks =
      subst (λ u. Follows read from begun (after_event u)) (sym (ap link_breaks closed_is ∙ broke))
      (freed_with (marked_last (Broken at.came) at.marks)
      (subst (λ marks. Told from begun marks None at.reports t.now) (sym (ap (marked_last (Broken at.came)) marks_at ∙ marks_last (Broken at.came) t.marks []))
      (reported (Broken at.came ∷ []) (omega arith))))
