-- Every event keeps what follows of a Peek that has sent ABOR.
use Rattle.std.proofs.Common.{◌≡◌, inl, ℕ, Bool, true, false, ◌&&◌, List, [], ◌∷◌, ◌++◌, refl, sym, ap, subst, ◌∙◌}
use Rattle.ftp_ends.specs.Link.{is_wanted}
use Rattle.ftp_ends.specs.declared.link.Wants.{Wants}
use Rattle.ftp_direct.specs.Direct.{State}
use Rattle.ftp_client_model.specs.Calls as near
use Rattle.ftp_client_model.specs.Calls.{is_busy_job}
use Rattle.ftp_client_model.specs.View.{Job}
use Rattle.ftp_client_model.specs.declared.client.ClientLink.{ClientLink as NearConnection}
use Rattle.ftp_server_model.specs.Calls as far
use Rattle.ftp_server_model.specs.Machine.{Reading, IsReading}
use Rattle.laws_world.specs.Agreement.{Order}
use Rattle.laws_world.specs.Events.{Queue, ControlToServer, ControlToClient, DataToServer, DataToClient, DeliversBy, filled, is_asked_for, is_closed_by_far, is_closed_by_near, is_gone, link_breaks, pulled, told}
use Rattle.laws_world.specs.Serving.{after_event}
use Rattle.laws_world.specs.World.{World, Link, Mark, Broken, marked_last}
use Rattle.laws_dialogues.specs.Fetches.{Ask, busy}
use Rattle.laws_agreement.specs.PeekStages.{AtHalt, Gave, Gives, Halt, Halted, Halts}
use Rattle.laws_agreement.specs.Runs.{IsHalting, IsHaltingOn, Runs}
use Rattle.laws_agreement.specs.Stages.{Closed, Lost, Unclosed}
use Rattle.laws_agreement.proofs.Events.{and_false}
use Rattle.laws_agreement.proofs.FetchEnds.{breaks_by}
use Rattle.laws_agreement.proofs.FetchRuns.{IsKept, asked_marked, halt_after, moved_on, on_or_told}
use Rattle.laws_agreement.proofs.FetchTold.{marks_last}
use Rattle.laws_agreement.proofs.PeekEvents.{halt_breaks, halt_ends, halt_pushes_up}
use Rattle.laws_agreement.proofs.PeekHears.{halt_pulls_down, halt_pushes_down}
use Rattle.laws_agreement.proofs.PeekLink.{halt_pulls, halt_pulls_up, halt_pushes}
use Rattle.laws_agreement.proofs.PeekServed.{near_at}
use Rattle.laws_agreement.proofs.Placing.{at_halt}

-- what is lent is of no matter
pub halt_taken : (state : State) (ask : Ask) (own : List Mark) (octets : List ℕ) (w : World) → AtHalt state ask own w
    → AtHalt state ask own (record w { taken = octets })
halt_taken state ask own octets w a =
    let h = a.here in
    record {
      halt = a.halt;
      said = a.said;
      came = a.came;
      queue = a.queue;
      base = record a.base { taken = octets };
      cuts = a.cuts;
      is = ap (λ (u : World). record u { taken = octets }) a.is;
      fits = a.fits;
      here = at_halt h.near h.session h.steady h.timed h.link h.to_server h.to_client h.empty h.marked h.settled h.fares;
    }

-- ---- what the client wants and gives

module _ (state : State) (ask : Ask) (own : List Mark) (w : World) (a : AtHalt state ask own w) where
  -- it asks for no link
  asks_as : (job : Job) (connection : NearConnection) → a.base.near ≡ busy job connection a.base.near
      → ((far : Wants) → is_wanted (near.wants (busy job connection w.near)) far ≡ false) → is_asked_for w ≡ false
  asks_as job connection is none =
      ap (λ v. is_gone w.link && is_wanted (near.wants v) (far.wants w.far)) (near_at state ask own a.base w a.cuts a.is job connection is)
      ∙ ap (λ (b : Bool). is_gone w.link && b) (none (far.wants w.far)) ∙ and_false (is_gone w.link)

  -- no link is asked for
  pub halt_asks_none : is_asked_for w ≡ false
  unfolding near.wants
  halt_asks_none = by_halt a.halt a.here
    where
      by_halt : (halt : Halt) → Halts state ask own halt a.said a.came a.queue a.base → is_asked_for w ≡ false
      by_halt (Gives octet more) h = asks_as _ _ h.near (λ far. refl)
      by_halt (Gave whole heard asked Unclosed) h = asks_as _ _ h.near (λ far. refl)
      by_halt (Gave whole heard asked Closed) h = asks_as _ _ h.near (λ far. refl)
      by_halt (Gave whole heard asked (Lost true)) h = asks_as _ _ h.near (λ far. refl)
      by_halt (Gave whole heard asked (Lost false)) h = asks_as _ _ h.near (λ far. refl)
      by_halt (Halted whole true) h = asks_as _ _ h.near (λ far. refl)
      by_halt (Halted whole false) h = asks_as _ _ h.near (λ far. refl)

  -- it is busy
  pub halt_busy : is_busy_job w.near.job ≡ true
  halt_busy = ap (λ v. is_busy_job v.job) (near_at state ask own a.base w a.cuts a.is _ _ a.here.near)

  -- it gives no octets, and has not closed the link
  pub record HaltGivesNone : Type 0 where
    pub due : near.to_give w.near ≡ []
    pub queue : w.data_to_server ≡ []
    pub closed : is_closed_by_near w.link ≡ false

  pub halt_gives_none : HaltGivesNone
  halt_gives_none = by_halt a.halt a.here
    where
      none_with : (job : Job) (connection : NearConnection) → a.base.near ≡ busy job connection a.base.near → near.to_give (busy job connection w.near) ≡ []
          → (link : Link) → a.base.link ≡ link
          → is_closed_by_near link ≡ false → a.base.data_to_server ≡ [] → HaltGivesNone
      none_with job connection near_is none link link_is open_link empty = record {
        due = ap near.to_give (near_at state ask own a.base w a.cuts a.is job connection near_is) ∙ none;
        queue = ap (λ u. u.data_to_server) a.is ∙ empty;
        closed = ap is_closed_by_near (ap (λ u. u.link) a.is ∙ link_is) ∙ open_link;
      }

      by_halt : (halt : Halt) → Halts state ask own halt a.said a.came a.queue a.base → HaltGivesNone
      by_halt (Gives octet more) h = none_with _ _ h.near refl _ h.link refl h.to_server
      by_halt (Gave whole true asked Unclosed) h = none_with _ _ h.near refl _ h.link refl h.to_server
      by_halt (Gave whole true asked Closed) h = none_with _ _ h.near refl _ h.link refl h.to_server
      by_halt (Gave whole false asked Unclosed) h = none_with _ _ h.near refl _ h.link refl h.to_server
      by_halt (Gave whole false asked Closed) h = none_with _ _ h.near refl _ h.link refl h.to_server
      by_halt (Gave whole heard asked (Lost true)) h = none_with _ _ h.near refl _ h.link refl h.to_server
      by_halt (Gave whole heard asked (Lost false)) h = none_with _ _ h.near refl _ h.link refl h.to_server
      by_halt (Halted whole true) h = none_with _ _ h.near refl _ h.link refl h.to_server
      by_halt (Halted whole false) h = none_with _ _ h.near refl _ h.link refl h.to_server

-- ---- in a list of events

module _ (read : Reading) (reads : IsReading read) (from : State) (begun : List Order) where
  abbrev Halting : World → Type 0
  Halting w = IsHalting from begun w

  abbrev Stood : State → Ask → List Mark → World → Type 0
  Stood now ask own w = AtHalt now ask own w

  -- nothing was marked, reported or left
  moved : (w new : World) (f : Halting w) → IsKept w new → AtHalt f.now f.ask f.own new → Halting new
  moved w new f kept halts = asked_marked read reads from begun Stood Stood w new f f.own (kept.marks ∙ f.marks_are) kept.reports kept.control kept.cutoff halts

  -- with other octets lent
  pub halting_taken : (octets : List ℕ) (w : World) → Halting w → Halting (record w { taken = octets })
  unfolding moved asked_marked
  halting_taken octets w f =
      moved w (record w { taken = octets }) f (record { marks = refl; reports = refl; control = refl; cutoff = refl })
      (halt_taken f.now f.ask f.own octets w f.stands)

  pub halting_on_taken : (octets : List ℕ) (w : World) → IsHaltingOn from begun w → IsHaltingOn from begun (record w { taken = octets })
  unfolding halting_taken moved asked_marked halt_taken
  halting_on_taken octets w on = record { halting = halting_taken octets w on.halting; lasts = on.lasts }

  -- an output call of either end, by the queue that it fills
  pulls : (queue : Queue) (n : ℕ) (w : World) (f : Halting w) → (halts : AtHalt f.now f.ask f.own (pulled queue w n)) → Halting (pulled queue w n)
  pulls ControlToServer n w f halts = moved w (pulled ControlToServer w n) f (record { marks = refl; reports = refl; control = refl; cutoff = refl }) halts
  pulls ControlToClient n w f halts = moved w (pulled ControlToClient w n) f (record { marks = refl; reports = refl; control = refl; cutoff = refl }) halts
  pulls DataToServer n w f halts = moved w (pulled DataToServer w n) f (record { marks = refl; reports = refl; control = refl; cutoff = refl }) halts
  pulls DataToClient n w f halts = moved w (pulled DataToClient w n) f (record { marks = refl; reports = refl; control = refl; cutoff = refl }) halts

  -- output calls, one after the other
  fills_up : (counts : List ℕ) (w : World) → Halting w → Halting (filled ControlToServer w counts)
  fills_up [] w f = f
  fills_up (count ∷ counts) w f =
      fills_up counts (pulled ControlToServer w count) (pulls ControlToServer count w f (halt_pulls_up read f.now f.ask f.own count w f.stands))

  fills_down : (counts : List ℕ) (w : World) → Halting w → Halting (filled ControlToClient w counts)
  fills_down [] w f = f
  fills_down (count ∷ counts) w f =
      fills_down counts (pulled ControlToClient w count) (pulls ControlToClient count w f (halt_pulls_down read f.now f.ask f.own count w f.stands))

  fills_data : (counts : List ℕ) (w : World) → Halting w → Halting (filled DataToClient w counts)
  fills_data [] w f = f
  fills_data (count ∷ counts) w f =
      fills_data counts (pulled DataToClient w count) (pulls DataToClient count w f (halt_pulls read f.now f.ask f.own count w f.stands))

  -- a delivery of octets of ABOR
  pub halt_delivers_server : (none : Bool) (count : ℕ) (w new : World) → Halting w → DeliversBy none read ControlToServer count w new → Runs read from begun new
  halt_delivers_server true count w new f m =
      subst (Runs read from begun) (sym m.is) (halt_after read reads from begun _
      (pulls ControlToServer m.gave w f (halt_pulls_up read f.now f.ask f.own m.gave w f.stands)))
  halt_delivers_server false count w new f d =
      let lent = halting_taken _ (filled ControlToServer w d.counts) (fills_up d.counts w f) in
      subst (Runs read from begun) (sym d.is)
      (moved_on read reads from begun Stood _ _ lent (record { marks = refl; reports = refl; control = refl; cutoff = refl })
      (inl (halt_pushes_up read reads lent.now lent.ask lent.own d.taken _ lent.stands)))

  -- a delivery of octets of replies
  pub halt_delivers_client : (none : Bool) (count : ℕ) (w new : World) → Halting w → DeliversBy none read ControlToClient count w new → Runs read from begun new
  halt_delivers_client true count w new f m =
      subst (Runs read from begun) (sym m.is) (halt_after read reads from begun _
      (pulls ControlToClient m.gave w f (halt_pulls_down read f.now f.ask f.own m.gave w f.stands)))
  halt_delivers_client false count w new f d =
      let lent = halting_taken _ (filled ControlToClient w d.counts) (fills_down d.counts w f) in
      subst (Runs read from begun) (sym d.is)
      (moved_on read reads from begun Stood _ _ lent (record { marks = refl; reports = refl; control = refl; cutoff = refl })
      (halt_pushes_down read lent.now lent.ask lent.own d.taken _ lent.stands))

  -- a delivery of octets of the link
  pub halt_delivers_data : (none : Bool) (count : ℕ) (w new : World) → Halting w → DeliversBy none read DataToClient count w new → Runs read from begun new
  halt_delivers_data true count w new f m =
      subst (Runs read from begun) (sym m.is) (halt_after read reads from begun _
      (pulls DataToClient m.gave w f (halt_pulls read f.now f.ask f.own m.gave w f.stands)))
  halt_delivers_data false count w new f d =
      let lent = halting_taken _ (filled DataToClient w d.counts) (fills_data d.counts w f) in
      subst (Runs read from begun) (sym d.is)
      (moved_on read reads from begun Stood _ _ lent (record { marks = refl; reports = refl; control = refl; cutoff = refl })
      (inl (halt_pushes read lent.now lent.ask lent.own d.taken _ lent.stands)))

  -- the link breaks
  pub halting_breaks : (w : World) → IsHaltingOn from begun w → is_gone w.link ≡ false → Runs read from begun (after_event (link_breaks w))
  halting_breaks w on some =
      let f = on.halting in
      let left = breaks_by read reads from begun w w.link in
      on_or_told read reads from begun Stood w (link_breaks w) f (f.own ++ Broken f.stands.base.came ∷ [])
      (left.marks ∙ ap (marked_last (Broken w.came)) f.marks_are ∙ marks_last (Broken w.came) f.marks f.own
      ∙ ap (λ (u : World). f.marks ++ (f.own ++ Broken u.came ∷ []) ∷ []) f.stands.is)
      left.reports left.control left.cutoff (halt_breaks read reads f.now f.ask f.own w f.stands on.lasts some)

  -- the client is told that it is closed
  pub halting_ends : (w : World) → IsHaltingOn from begun w → is_closed_by_far w.link ≡ true → Runs read from begun (after_event (told DataToClient w))
  halting_ends w on left =
      let f = on.halting in
      moved_on read reads from begun Stood w (told DataToClient w) f (record { marks = refl; reports = refl; control = refl; cutoff = refl })
      (halt_ends read reads f.now f.ask f.own w f.stands on.lasts left)
