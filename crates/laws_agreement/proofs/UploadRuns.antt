-- Every delivery of octets of an upload, and the end that the server is told, keep what follows.
use Rattle.std.proofs.Common.{◌≡◌, ℕ, ◌≤◌, Bool, true, false, List, [], ◌∷◌, length, take, refl, sym, ap, subst, ◌∙◌, arith}
use Rattle.ftp_direct.specs.Direct.{State}
use Rattle.ftp_server_model.specs.Machine.{Reading, IsReading}
use Rattle.laws_world.specs.Agreement.{Order}
use Rattle.laws_world.specs.Events.{DataToServer, pulled, pushed, filled, DeliversBy, told, is_closed_by_near}
use Rattle.laws_world.specs.Serving.{after_event}
use Rattle.laws_world.specs.World.{World, Link}
use Rattle.laws_dialogues.specs.Stage.{Way, Asking, Answering}
use Rattle.laws_dialogues.specs.Uploads.{note_replies}
use Rattle.laws_agreement.specs.Cut.{Cut, Fits, PlacedAt, world_at}
use Rattle.laws_agreement.specs.Rising.{Lift, Offered, Rising, Risen, Settled, Declined, Unjoined, lifts}
use Rattle.laws_agreement.specs.Runs.{IsFetching, Runs}
use Rattle.laws_agreement.specs.Stages.{AtFetch, Rises, Holds}
use Rattle.laws_agreement.proofs.Deliveries.{placed_taken}
use Rattle.laws_agreement.proofs.FetchRuns.{IsKept, fetch_after, fetching_moved, holds_taken, no_change}
use Rattle.laws_agreement.proofs.UploadData.{AtRise, rise_ends, rise_is, rise_pulls, rise_pushes}

module _ (read : Reading) (reads : IsReading read) (from : State) (begun : List Order) where
  abbrev Fetching : World → Type 0
  Fetching w = IsFetching read from begun w

  abbrev pub Climbing : (w : World) → Fetching w → World → Type 0
  Climbing w f new = PlacedAt (AtRise read f.now f.ask f.own) new

  -- a world whose octets have moved
  pub record Moved (w : World) (f : Fetching w) (new : World) : Type 0 where
    pub climbing : Climbing w f new
    pub kept : IsKept w new

  -- the client gives octets
  pub moved_pulls : (n : ℕ) (w : World) (f : Fetching w) (u : World) → Moved w f u → Moved w f (pulled DataToServer u n)
  moved_pulls n w f u m = record {
    climbing = rise_pulls read f.now f.ask f.own n u m.climbing;
    kept = record { marks = m.kept.marks; reports = m.kept.reports; control = m.kept.control; cutoff = m.kept.cutoff };
  }

  -- call after call
  pub moved_filled : (counts : List ℕ) (w : World) (f : Fetching w) (u : World) → Moved w f u → Moved w f (filled DataToServer u counts)
  moved_filled [] w f u m = m
  moved_filled (count ∷ counts) w f u m = moved_filled counts w f (pulled DataToServer u count) (moved_pulls count w f u m)

  -- what is lent is of no matter
  pub moved_taken : (octets : List ℕ) (w : World) (f : Fetching w) (u : World) → Moved w f u → Moved w f (record u { taken = octets })
  moved_taken octets w f u m =
      let s = m.climbing in
      record {
        climbing = placed_taken octets s (record {
          rise = s.here.rise;
          lift = s.here.lift;
          rises = s.here.rises;
          holds = holds_taken read reads from begun w f octets (Rises s.here.rise s.here.lift) s.way s.base s.here.holds;
        });
        kept = record { marks = m.kept.marks; reports = m.kept.reports; control = m.kept.control; cutoff = m.kept.cutoff };
      }

  -- the server takes octets
  pub moved_pushes : (n : ℕ) (w : World) (f : Fetching w) (u : World) → n ≤ length u.data_to_server → Moved w f u → Moved w f (pushed read DataToServer n u)
  moved_pushes n w f u few m = record {
    climbing = rise_pushes read f.now f.ask f.own n u few m.climbing;
    kept = record { marks = m.kept.marks; reports = m.kept.reports; control = m.kept.control; cutoff = m.kept.cutoff };
  }

  -- the upload is under way still
  pub moved_is : (w : World) (f : Fetching w) (u : World) → Moved w f u → Fetching u
  moved_is w f u m = fetching_moved read reads from begun w u f m.kept (rise_is read f.now f.ask f.own u m.climbing)

  -- a delivery of octets of the link to the server
  pub upload_delivers : (none : Bool) (count : ℕ) (w new : World) (f : Fetching w) → Climbing w f w → DeliversBy none read DataToServer count w new → Runs read from begun new
  upload_delivers true count w new f climbing m =
      subst (Runs read from begun) (sym m.is)
      (fetch_after read reads from begun _ (moved_is w f _ (moved_pulls m.gave w f w (record { climbing = climbing; kept = no_change read reads from begun w }))))
  upload_delivers false count w new f climbing d =
      let full = moved_filled d.counts w f w (record { climbing = climbing; kept = no_change read reads from begun w }) in
      let lent = moved_taken (take d.taken (filled DataToServer w d.counts).data_to_server) w f (filled DataToServer w d.counts) full in
      let few : d.taken ≤ length (filled DataToServer w d.counts).data_to_server = omega (arith, d.takes.within) in
      subst (Runs read from begun) (sym d.is) (fetch_after read reads from begun _ (moved_is w f _ (moved_pushes d.taken w f _ few lent)))

  -- a link that the client has not closed is not closed by it
  not_closed : (link other : Link) → link ≡ other → is_closed_by_near other ≡ false → is_closed_by_near link ≡ true → ⊥
  not_closed link other is none some = let e : true ≡ false = sym some ∙ ap is_closed_by_near is ∙ none in cc

  -- the server is told that the client has closed the link
  pub upload_ends : (w : World) (f : Fetching w) → Climbing w f w → is_closed_by_near w.link ≡ true → w.data_to_server ≡ [] → Runs read from begun (after_event (told DataToServer w))
  upload_ends w f s closed empty = by_lift s.here.lift s.here.rises s.here.holds
    where
      by_way : (way : Way) (c : Cut) → ((world_at s.base way c).link ≡ s.base.link) × ((world_at s.base way c).data_to_server ≡ s.base.data_to_server)
      by_way (Asking line) c = (refl, refl)
      by_way (Answering rows) c = (refl, refl)

      link_is : w.link ≡ s.base.link
      link_is = ap (λ u. u.link) s.is ∙ (by_way s.way s.cut).0

      by_lift : (lift : Lift) → lifts lift ≡ true → Holds f.now f.ask f.own (Rises s.here.rise lift) s.way s.base → Runs read from begun (after_event (told DataToServer w))
      by_lift (Rising past octet more came queue mark notes) rises h = absurd (not_closed w.link _ (link_is ∙ h.link) refl closed)
      by_lift (Risen past false came queue mark notes) rises h = absurd (not_closed w.link _ (link_is ∙ h.link) refl closed)
      by_lift (Risen past true came queue mark notes) rises h =
          let none : queue ≡ [] = sym (ap (λ u. u.data_to_server) s.is ∙ (by_way s.way s.cut).1 ∙ h.to_server) ∙ empty in
          let way : Way = Answering (note_replies notes) in
          let fits : Fits way s.cut = subst (λ way. Fits way s.cut) h.way_is s.fits in
          let is : w ≡ world_at s.base way s.cut = s.is ∙ ap (λ way. world_at s.base way s.cut) h.way_is in
          let stands : Holds f.now f.ask f.own (Rises s.here.rise (Risen past true came queue mark notes)) way s.base =
          subst (λ way. Holds f.now f.ask f.own (Rises s.here.rise (Risen past true came queue mark notes)) way s.base) h.way_is h in
          let ended = rise_ends read f.now f.ask f.is_ask f.sound f.own s.here.rise past came mark notes s.base s.cut fits
          (subst (λ q. Holds f.now f.ask f.own (Rises s.here.rise (Risen past true came q mark notes)) way s.base) none stands) in
          fetch_after read reads from begun (told DataToServer w)
          (fetching_moved read reads from begun w (told DataToServer w) f (record { marks = refl; reports = refl; control = refl; cutoff = refl })
          (subst (λ u. PlacedAt (λ way b. AtFetch f.now f.ask read f.own way b) (told DataToServer u)) (sym is) ended))
      by_lift Offered rises h = absurd (cc)
      by_lift (Settled started mark notes fate left after) rises h = absurd (cc)
      by_lift (Declined why door) rises h = absurd (cc)
      by_lift Unjoined rises h = absurd (cc)
