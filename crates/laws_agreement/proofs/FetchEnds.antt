-- Every event of the link keeps what follows of what is asked for.
use Rattle.std.proofs.Common.{◌≡◌, ◌⊎◌, inl, inr, ℕ, Bool, true, false, List, [], ◌∷◌, ◌++◌, refl, sym, ap, subst, ◌∙◌}
use Rattle.ftp_direct.specs.Direct.{State}
use Rattle.ftp_client_model.specs.Calls as near
use Rattle.ftp_ends.specs.Link.{is_connecting}
use Rattle.ftp_server_model.specs.Machine.{Reading, IsReading}
use Rattle.laws_world.specs.Agreement.{Order}
use Rattle.laws_world.specs.Events.{DataToClient, link_breaks, link_opens, link_refused, told, broken_by, refused_by, is_asked_for, is_gone, is_closed_by_far}
use Rattle.laws_world.specs.Serving.{after_event}
use Rattle.laws_world.specs.World.{World, Link, Gone, Opened, ClosedByNear, ClosedByFar, Mark, Broken, Refused, marked_last, with_mark, gone}
use Rattle.laws_dialogues.specs.Stage.{Way, Asking, Answering}
use Rattle.laws_agreement.specs.Cut.{Cut, world_at, PlacedAt}
use Rattle.laws_agreement.specs.PeekStages.{AtHalt}
use Rattle.laws_agreement.specs.Runs.{IsFetching, IsFetchingOn, Runs}
use Rattle.laws_agreement.specs.Stages.{Dials, Awaits, Holds, AtFetch, IsLasting}
use Rattle.laws_agreement.proofs.FetchEvents.{stage_breaks, stage_ends}
use Rattle.laws_agreement.proofs.FetchOpenings.{accepted_placed, unaccepted_placed, opened_placed, refused_placed}
use Rattle.laws_agreement.proofs.FetchRuns.{Fetches, IsKept, OnOrHalted, fetch_after, fetching_marked, fetching_moved, runs_after}
use Rattle.laws_agreement.proofs.FetchTold.{marks_last}
use Rattle.laws_agreement.proofs.FetchWants.{dials_or_none}
use Rattle.laws_agreement.proofs.Still.{rest_placed}

module _ (read : Reading) (reads : IsReading read) (from : State) (begun : List Order) where
  abbrev Fetching : World → Type 0
  Fetching w = IsFetching read from begun w

  abbrev At : (w : World) → Fetching w → Way → World → Type 0
  At w f way b = AtFetch f.now f.ask read f.own way b

  -- the base that it stands on has the link of the world
  base_link : (w : World) (f : Fetching w) → f.stands.base.link ≡ w.link
  base_link w f = sym (ap (λ u. u.link) f.stands.is ∙ by_way f.stands.way f.stands.cut)
    where
      by_way : (way : Way) (c : Cut) → (world_at f.stands.base way c).link ≡ f.stands.base.link
      by_way (Asking line) c = refl
      by_way (Answering rows) c = refl

  -- the base that it stands on counts as many octets come over the link as the world
  base_came : (w : World) (f : Fetching w) → f.stands.base.came ≡ w.came
  base_came w f = sym (ap (λ u. u.came) f.stands.is ∙ by_way f.stands.way f.stands.cut)
    where
      by_way : (way : Way) (c : Cut) → (world_at f.stands.base way c).came ≡ f.stands.base.came
      by_way (Asking line) c = refl
      by_way (Answering rows) c = refl

  -- the base that it stands on has the octets that are on the link to the client in the world
  base_queue : (w : World) (f : Fetching w) → f.stands.base.data_to_client ≡ w.data_to_client
  base_queue w f = sym (ap (λ u. u.data_to_client) f.stands.is ∙ by_way f.stands.way f.stands.cut)
    where
      by_way : (way : Way) (c : Cut) → (world_at f.stands.base way c).data_to_client ≡ f.stands.base.data_to_client
      by_way (Asking line) c = refl
      by_way (Answering rows) c = refl

  -- what a break leaves as it is
  pub record IsBreak (w new : World) : Type 0 where
    pub marks : new.marks ≡ marked_last (Broken w.came) w.marks
    pub reports : new.reports ≡ w.reports
    pub control : new.control ≡ w.control
    pub cutoff : new.cutoff ≡ w.cutoff

  -- however the link stands, a break adds its mark and keeps reports, control connection and cutoff
  pub breaks_by : (w : World) (link : Link) → IsBreak w (with_mark (Broken w.came) (gone (broken_by link w)))
  breaks_by w Gone = record { marks = refl; reports = refl; control = refl; cutoff = refl }
  breaks_by w Opened = record { marks = refl; reports = refl; control = refl; cutoff = refl }
  breaks_by w ClosedByNear = record { marks = refl; reports = refl; control = refl; cutoff = refl }
  breaks_by w ClosedByFar = record { marks = refl; reports = refl; control = refl; cutoff = refl }

  -- a link that stands breaks, and what was asked for is under way
  pub breaks_fetching : (w : World) → IsFetchingOn read from begun w → is_gone w.link ≡ false → Fetching (link_breaks w)
  breaks_fetching w on some = by_here f.stands.here on.lasts
    where
      f : Fetching w
      f = on.fetching

      left : IsBreak w (link_breaks w)
      left = breaks_by w w.link

      marked : (link_breaks w).marks ≡ f.marks ++ (f.own ++ Broken f.stands.base.came ∷ []) ∷ []
      marked =
          left.marks ∙ ap (marked_last (Broken w.came)) f.marks_are ∙ marks_last (Broken w.came) f.marks f.own
          ∙ ap (λ came. f.marks ++ (f.own ++ Broken came ∷ []) ∷ []) (sym (base_came w f))

      by_here : (here : At w f f.stands.way f.stands.base) → IsLasting f.now f.ask read f.own f.stands.way f.stands.base here → Fetching (link_breaks w)
      by_here (inl l) lasts = absurd (let e : true ≡ false = sym (ap is_gone (sym (base_link w f) ∙ l.link)) ∙ some in cc)
      by_here (inr (stage, h)) lasts =
          let breaks = stage_breaks read f.now f.ask f.is_ask f.sound f.own stage f.stands.way f.stands.base f.stands.cut f.stands.fits h lasts
          (ap is_gone (base_link w f) ∙ some) in
          let own : List Mark = f.own ++ Broken f.stands.base.came ∷ [] in
          (fetching_marked read reads from begun w (link_breaks w) f own marked left.reports left.control left.cutoff
          (subst (λ u. PlacedAt (λ way b. AtFetch f.now f.ask read own way b) (link_breaks u)) (sym f.stands.is) breaks))

  -- and the list runs on
  pub fetch_breaks : (w : World) → IsFetchingOn read from begun w → is_gone w.link ≡ false → Runs read from begun (after_event (link_breaks w))
  fetch_breaks w on some = fetch_after read reads from begun (link_breaks w) (breaks_fetching w on some)

  -- the server has closed the link and it is empty, the client is told, and what was asked for is under way
  pub ends_fetching : (w : World) → IsFetchingOn read from begun w → is_closed_by_far w.link ≡ true → w.data_to_client ≡ [] → Fetching (told DataToClient w)
  ends_fetching w on left empty = by_here f.stands.here on.lasts
    where
      f : Fetching w
      f = on.fetching

      by_here : (here : At w f f.stands.way f.stands.base) → IsLasting f.now f.ask read f.own f.stands.way f.stands.base here → Fetching (told DataToClient w)
      by_here (inl l) lasts = absurd (let e : false ≡ true = sym (ap is_closed_by_far (sym (base_link w f) ∙ l.link)) ∙ left in cc)
      by_here (inr (stage, h)) lasts =
          let ends = stage_ends read f.now f.ask f.is_ask f.sound f.own stage f.stands.way f.stands.base f.stands.cut f.stands.fits h
          (ap is_closed_by_far (base_link w f) ∙ left) lasts (base_queue w f ∙ empty) in
          (fetching_moved read reads from begun w (told DataToClient w) f (record { marks = refl; reports = refl; control = refl; cutoff = refl })
          (subst (λ u. PlacedAt (At w f) (told DataToClient u)) (sym f.stands.is) ends))

  -- and the list runs on
  pub fetch_ends : (w : World) → IsFetchingOn read from begun w → is_closed_by_far w.link ≡ true → w.data_to_client ≡ [] → Runs read from begun (after_event (told DataToClient w))
  fetch_ends w on left empty = fetch_after read reads from begun (told DataToClient w) (ends_fetching w on left empty)

  -- what a refusal leaves as it is
  record IsRefusal (w new : World) : Type 0 where
    marks : new.marks ≡ marked_last Refused w.marks
    reports : new.reports ≡ w.reports
    control : new.control ≡ w.control
    cutoff : new.cutoff ≡ w.cutoff

  -- whichever end connects, a refusal adds its mark and keeps reports, control connection and cutoff
  refuses_by : (w : World) (connects : Bool) → IsRefusal w (with_mark Refused (refused_by connects w))
  refuses_by w true = record { marks = refl; reports = refl; control = refl; cutoff = refl }
  refuses_by w false = record { marks = refl; reports = refl; control = refl; cutoff = refl }

  -- a link that is asked for opens, and what was asked for is under way, or a Peek has sent ABOR
  pub opens_fetching : (w : World) (on : IsFetchingOn read from begun w) → is_asked_for w ≡ true → OnOrHalted read reads from begun w on.fetching (link_opens w)
  opens_fetching w on asks = by_dial (dials_or_none read f.now f.ask f.is_ask.plan f.own w f.stands on.lasts)
    where
      f : Fetching w
      f = on.fetching

      kept : IsKept w (link_opens w)
      kept = record { marks = refl; reports = refl; control = refl; cutoff = refl }

      by_enough : Fetches read reads from begun f.now f.ask f.own (link_opens w) ⊎ AtHalt f.now f.ask f.own (link_opens w) → OnOrHalted read reads from begun w f (link_opens w)
      by_enough (inl placed) = inl (fetching_moved read reads from begun w (link_opens w) f kept placed)
      by_enough (inr halts) = inr halts

      by_dial : ((port : ℕ) × Holds f.now f.ask f.own (Dials port) f.stands.way f.stands.base)
          ⊎ (((port : ℕ) × Holds f.now f.ask f.own (Awaits port true) f.stands.way f.stands.base) ⊎ (is_asked_for w ≡ false)) → OnOrHalted read reads from begun w f (link_opens w)
      by_dial (inl (port, h)) =
          let is = rest_placed _ w f.stands h.way_is in
          inl (fetching_moved read reads from begun w (link_opens w) f kept
          (opened_placed read f.now f.ask f.is_ask f.sound f.own port w f.stands.base f.stands.way f.stands.cut is h))
      by_dial (inr (inl (port, h))) =
          let is = rest_placed _ w f.stands h.way_is in
          by_enough (accepted_placed read f.now f.ask f.is_ask f.sound f.own port w f.stands.base f.stands.way f.stands.cut is h)
      by_dial (inr (inr none)) = absurd (let e : true ≡ false = sym asks ∙ none in cc)

  -- and the list runs on
  pub fetch_opens : (w : World) → IsFetchingOn read from begun w → is_asked_for w ≡ true → Runs read from begun (after_event (link_opens w))
  fetch_opens w on asks = runs_after read reads from begun w (link_opens w) on.fetching (record { marks = refl; reports = refl; control = refl; cutoff = refl }) (opens_fetching w on asks)

  -- a link that is asked for is refused, and what was asked for is under way
  pub refuses_fetching : (w : World) → IsFetchingOn read from begun w → is_asked_for w ≡ true → Fetching (link_refused w)
  refuses_fetching w on asks = by_dial (dials_or_none read f.now f.ask f.is_ask.plan f.own w f.stands on.lasts)
    where
      f : Fetching w
      f = on.fetching

      left : IsRefusal w (link_refused w)
      left = refuses_by w (is_connecting (near.wants w.near))

      by_dial : ((port : ℕ) × Holds f.now f.ask f.own (Dials port) f.stands.way f.stands.base)
          ⊎ (((port : ℕ) × Holds f.now f.ask f.own (Awaits port true) f.stands.way f.stands.base) ⊎ (is_asked_for w ≡ false)) → Fetching (link_refused w)
      by_dial (inl (port, h)) =
          let is = rest_placed _ w f.stands h.way_is in
          (fetching_marked read reads from begun w (link_refused w) f (f.own ++ Refused ∷ [])
          (left.marks ∙ ap (marked_last Refused) f.marks_are ∙ marks_last Refused f.marks f.own) left.reports left.control left.cutoff
          (refused_placed read f.now f.ask f.is_ask f.sound f.own port w f.stands.base f.stands.way f.stands.cut is h))
      by_dial (inr (inl (port, h))) =
          let is = rest_placed _ w f.stands h.way_is in
          (fetching_marked read reads from begun w (link_refused w) f (f.own ++ Refused ∷ [])
          (left.marks ∙ ap (marked_last Refused) f.marks_are ∙ marks_last Refused f.marks f.own) left.reports left.control left.cutoff
          (unaccepted_placed read f.now f.ask f.is_ask f.sound f.own port w f.stands.base f.stands.way f.stands.cut is h))
      by_dial (inr (inr none)) = absurd (let e : true ≡ false = sym asks ∙ none in cc)

  -- and the list runs on
  pub fetch_refuses : (w : World) → IsFetchingOn read from begun w → is_asked_for w ≡ true → Runs read from begun (after_event (link_refused w))
  fetch_refuses w on asks = fetch_after read reads from begun (link_refused w) (refuses_fetching w on asks)
