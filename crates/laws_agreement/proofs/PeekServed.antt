-- What a world does for its ends behind an event of a Peek that has sent ABOR: nothing, or the link is closed.
use Rattle.std.proofs.Common.{◌≡◌, ℕ, Bool, true, false, List, ◌∷◌, None, refl, sym, ap, subst, ◌∙◌}
use Rattle.ftp_operation.specs.Answer.{Said}
use Rattle.ftp_direct.specs.Direct.{State}
use Rattle.ftp_client_model.specs.Calls as near
use Rattle.ftp_client_model.specs.Calls.{report_of, report_of_job}
use Rattle.ftp_client_model.specs.View.{View as Near, Job}
use Rattle.ftp_client_model.specs.declared.client.ClientLink.{ClientLink as NearConnection}
use Rattle.ftp_server_model.specs.Calls as far
use Rattle.ftp_server_model.specs.View.{Transfer}
use Rattle.ftp_server_model.specs.declared.session.ServerLink.{ServerLink as FarConnection}
use Rattle.ftp_server_model.specs.declared.session.ServerLink.TheVariants as FarData
use Rattle.ftp_server_model.specs.declared.session.Pending.TheVariants as Pendings
use Rattle.ftp_server_model.specs.InFlight.{only_heard}
use Rattle.laws_world.specs.Serving.{near_served, far_served, collected, collected_by, after_event}
use Rattle.laws_world.specs.World.{World, Opened, ClosedByFar, Mark}
use Rattle.laws_dialogues.specs.Fetches.{Ask, busy, linked}
use Rattle.laws_dialogues.specs.Stage.{still}
use Rattle.laws_agreement.specs.Crossing.{AreCut, Cuts, crossing_at}
use Rattle.laws_agreement.specs.PeekStages.{AtHalt, Gave, Gives, Halt, Halted, Halts, halt_asked, halt_rows, is_halt_passing}
use Rattle.laws_agreement.specs.Stages.{Closed, Lost, Unclosed}
use Rattle.laws_agreement.proofs.FetchLink.{far_linked}
use Rattle.laws_agreement.proofs.Placing.{at_halt}
use Rattle.laws_agreement.proofs.Rests.{Rests, after_rests, far_rests, giving_rests, near_rests}

module _ (state : State) (ask : Ask) (own : List Mark) where
  abbrev Stands : Halt → Said → (came queue : List ℕ) → World → Type 0
  Stands halt said came queue b = Halts state ask own halt said came queue b

  -- the client of such a world is busy as that of its base
  pub near_at : (b w : World) (c : Cuts) → w ≡ crossing_at b c → (job : Job) (connection : NearConnection) → b.near ≡ busy job connection b.near
      → w.near ≡ busy job connection w.near
  near_at b w c is job connection near_is =
      let put : Near → Near = λ v. record v { ear = c.ear; gathered = c.gathered; owed = c.up.owed } in
      subst (λ u. u.near ≡ busy job connection u.near) (sym is) (ap put near_is)

  -- and its server has that session
  pub far_at : (b w : World) (c : Cuts) → w ≡ crossing_at b c → (connection : FarConnection Transfer) (closing : Bool)
      → b.far.session ≡ linked connection closing Pendings.Nothing b.far.session → w.far.session ≡ linked connection closing Pendings.Nothing w.far.session
  far_at b w c is connection closing far_is = subst (λ u. u.far.session ≡ linked connection closing Pendings.Nothing u.far.session) (sym is) far_is

  -- by both forms nothing is served and nothing is reported
  rests_as : (b w : World) (c : Cuts) → w ≡ crossing_at b c → (job : Job) (connection : NearConnection) → b.near ≡ busy job connection b.near
      → report_of_job job ≡ None
      → ((w : World) → near_served (record w { near = busy job connection w.near }) ≡ record w { near = busy job connection w.near })
      → (far : FarConnection Transfer) → b.far.session ≡ linked far false Pendings.Nothing b.far.session
      → ((w : World) → far_served (record w { far = far_linked (linked far false Pendings.Nothing w.far.session) w.far })
      ≡ record w { far = far_linked (linked far false Pendings.Nothing w.far.session) w.far })
      → Rests w
  rests_as b w c is job connection near_is none near_stays far far_is far_stays = record {
    near = near_rests w job connection (near_at b w c is job connection near_is) (near_stays w);
    far = far_rests w far false Pendings.Nothing (far_at b w c is far false far_is) (far_stays w);
    none = ap (λ v. report_of_job v.job) (near_at b w c is job connection near_is) ∙ none;
  }

  -- where nothing is to be closed, nothing is served and nothing is reported
  pub halt_rests : (halt : Halt) (said : Said) (came queue : List ℕ) (b w : World) (c : Cuts) → w ≡ crossing_at b c → Stands halt said came queue b
      → is_halt_passing halt ≡ false → Rests w
  unfolding near.wants
  halt_rests (Gives octet more) said came queue b w c is h lasts =
      rests_as b w c is _ _ h.near refl (λ w. refl) _ h.session (λ w. giving_rests ask.listed (octet ∷ more) Pendings.Nothing w)
  halt_rests (Gave whole heard asked Unclosed) said came queue b w c is h lasts = absurd (cc)
  halt_rests (Gave whole heard asked Closed) said came queue b w c is h lasts = rests_as b w c is _ _ h.near refl (λ w. refl) _ h.session (λ w. refl)
  halt_rests (Gave whole heard asked (Lost true)) said came queue b w c is h lasts = rests_as b w c is _ _ h.near refl (λ w. refl) _ h.session (λ w. refl)
  halt_rests (Gave whole heard asked (Lost false)) said came queue b w c is h lasts = rests_as b w c is _ _ h.near refl (λ w. refl) _ h.session (λ w. refl)
  halt_rests (Halted whole true) said came queue b w c is h lasts = rests_as b w c is _ _ h.near refl (λ w. refl) _ h.session (λ w. refl)
  halt_rests (Halted whole false) said came queue b w c is h lasts = absurd (cc)

  -- ---- the server closes the link

  -- the world behind it
  abbrev closed_base : World → World
  closed_base b = record b { far = far_linked (linked FarData.Free false Pendings.Nothing b.far.session) b.far; link = ClosedByFar }

  -- the world where the server is to close it
  parting_world : World → Cuts → World
  parting_world b c = record (crossing_at b c) {
    far = record (only_heard (still (far_linked (linked FarData.Free true Pendings.Nothing b.far.session) b.far)) c.up.held) { owed = c.down.owed };
    link = Opened;
  }

  -- served once, the server has closed it, and wants nothing more
  parting_serves : (b : World) (c : Cuts) → far_served (parting_world b c) ≡ crossing_at (closed_base b) c
  unfolding parting_world far.data_closed
  parting_serves b c = refl

  closed_stays : (b : World) (c : Cuts) → far_served (crossing_at (closed_base b) c) ≡ crossing_at (closed_base b) c
  closed_stays b c = refl

  -- behind an event the link is closed
  link_closes : (w b : World) (c : Cuts) → w ≡ crossing_at b c → near_served w ≡ w → report_of w.near ≡ None
      → b.far.session ≡ linked FarData.Free true Pendings.Nothing b.far.session
      → b.link ≡ Opened → after_event w ≡ crossing_at (closed_base b) c
  unfolding parting_world
  link_closes w b c is near none session link =
      let parts : w ≡ parting_world b c =
      is ∙ (λ i. record (crossing_at b c) {
        far = record
            (only_heard (still (far_linked (session i) b.far)) c.up.held) { owed = c.down.owed };
        link = link i;
      }) in
      let same : report_of (crossing_at (closed_base b) c).near ≡ None = ap (λ u. report_of u.near) (sym is) ∙ none in
      ap (λ u. collected (far_served (far_served (far_served (near_served (near_served u)))))) near
      ∙ ap (λ u. collected (far_served (far_served (far_served (near_served u))))) near ∙ ap (λ u. collected (far_served (far_served (far_served u)))) near
      ∙ ap (λ u. collected (far_served (far_served (far_served u)))) parts
      ∙ ap (λ u. collected (far_served (far_served u))) (parting_serves b c) ∙ ap (λ u. collected (far_served u)) (closed_stays b c) ∙ ap collected
      (closed_stays b c)
      ∙ ap (λ o. collected_by o (crossing_at (closed_base b) c)) same

  -- behind what is served nothing is to be closed
  pub record HaltServed (w new : World) : Type 0 where
    pub placed : AtHalt state ask own new
    pub lasts : is_halt_passing placed.halt ≡ false
    pub marks : new.marks ≡ w.marks
    pub reports : new.reports ≡ w.reports
    pub control : new.control ≡ w.control
    pub cutoff : new.cutoff ≡ w.cutoff

  -- where the link is to be closed it is
  closes : (next : Halt) (said : Said) (came queue : List ℕ) (w b : World) (c : Cuts) → w ≡ crossing_at b c → near_served w ≡ w → report_of w.near ≡ None
      → b.far.session ≡ linked FarData.Free true Pendings.Nothing b.far.session → b.link ≡ Opened → AreCut (halt_asked next) (halt_rows next) c
      → Stands next said came queue (closed_base b) → is_halt_passing next ≡ false → HaltServed w (after_event w)
  closes next said came queue w b c is near none session link fits h lasts =
      let new_is : after_event w ≡ crossing_at (closed_base b) c = link_closes w b c is near none session link in
      record {
        placed = record { halt = next; said = said; came = came; queue = queue; base = closed_base b; cuts = c; is = new_is; fits = fits; here = h };
        lasts = lasts;
        marks = ap (λ u. u.marks) new_is ∙ sym (ap (λ u. u.marks) is);
        reports = ap (λ u. u.reports) new_is ∙ sym (ap (λ u. u.reports) is);
        control = ap (λ u. u.control) new_is ∙ sym (ap (λ u. u.control) is);
        cutoff = ap (λ u. u.cutoff) new_is ∙ sym (ap (λ u. u.cutoff) is);
      }

  -- whatever is to be served, a Peek goes on
  pub halt_serves : (w : World) → AtHalt state ask own w → HaltServed w (after_event w)
  unfolding near.wants
  halt_serves w a = by_halt a.halt a.said a.came a.queue a.base a.cuts a.is a.fits a.here
    where
      lasting : (halt : Halt) (said : Said) (came queue : List ℕ) (b : World) (c : Cuts) → w ≡ crossing_at b c → AreCut (halt_asked halt) (halt_rows halt) c
          → Stands halt said came queue b → is_halt_passing halt ≡ false → HaltServed w (after_event w)
      lasting halt said came queue b c is fits h lasts =
          subst (HaltServed w) (sym (after_rests w (halt_rests halt said came queue b w c is h lasts))) (record {
            placed = record { halt = halt; said = said; came = came; queue = queue; base = b; cuts = c; is = is; fits = fits; here = h };
            lasts = lasts;
            marks = refl;
            reports = refl;
            control = refl;
            cutoff = refl;
          })

      by_halt : (halt : Halt) (said : Said) (came queue : List ℕ) (b : World) (c : Cuts) → w ≡ crossing_at b c → AreCut (halt_asked halt) (halt_rows halt) c
          → Stands halt said came queue b → HaltServed w (after_event w)
      by_halt (Gives octet more) said came queue b c is fits h = lasting (Gives octet more) said came queue b c is fits h refl
      by_halt (Gave whole heard asked Unclosed) said came queue b c is fits h =
          closes (Gave whole heard asked Closed) said came queue w b c is (near_rests w _ _ (near_at b w c is _ _ h.near) refl)
          (ap (λ v. report_of_job v.job) (near_at b w c is _ _ h.near))
          h.session h.link fits
          (at_halt h.near refl h.steady h.timed refl h.to_server h.to_client tt h.marked h.settled h.fares)
          refl
      by_halt (Gave whole heard asked Closed) said came queue b c is fits h = lasting (Gave whole heard asked Closed) said came queue b c is fits h refl
      by_halt (Gave whole heard asked (Lost clean)) said came queue b c is fits h =
          lasting (Gave whole heard asked (Lost clean)) said came queue b c is fits h refl
      by_halt (Halted whole false) said came queue b c is fits h =
          closes (Halted whole true) said came queue w b c is (near_rests w _ _ (near_at b w c is _ _ h.near) refl)
          (ap (λ v. report_of_job v.job) (near_at b w c is _ _ h.near))
          h.session h.link fits
          (at_halt h.near refl h.steady h.timed refl h.to_server h.to_client tt h.marked h.settled h.fares)
          refl
      by_halt (Halted whole true) said came queue b c is fits h = lasting (Halted whole true) said came queue b c is fits h refl
