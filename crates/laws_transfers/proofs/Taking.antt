-- The server of a world that takes octets of an upload runs on, takes still and wants no close; one that is told of their end runs on.
use Rattle.std.proofs.Common.{◌≡◌, inl, inr, ℕ, ◌≤◌, true, false, true≢false, List, [], ◌∷◌, length, sym, ap, subst, ◌∙◌}
use Rattle.ftp_direct.specs.Direct.{State}
use Rattle.ftp_ends.specs.Octets.{has_octets}
use Rattle.ftp_client_model.specs.Calls as near
use Rattle.ftp_server_model.specs.Calls.{is_upload}
use Rattle.ftp_server_model.specs.Machine.{IsReading, Reading}
use Rattle.ftp_server_model.specs.View.{Session, View as Far}
use Rattle.laws_world.specs.Agreement.{Order}
use Rattle.laws_world.specs.Events.{DataToServer, is_closed_by_near, pushed, told}
use Rattle.laws_world.specs.World.{ClosedByNear, World}
use Rattle.laws_dialogues.specs.Stage.{Answering, Way}
use Rattle.laws_dialogues.specs.Uploads.{note_replies}
use Rattle.laws_agreement.specs.Cut.{Fits, PlacedAt, world_at}
use Rattle.laws_agreement.specs.Over.{OverRuns}
use Rattle.laws_agreement.specs.Rising.{Declined, Lift, Offered, Risen, Rising, Settled, Unjoined, lifts}
use Rattle.laws_agreement.specs.Runs.{IsFetching, IsFetchingOn}
use Rattle.laws_agreement.specs.Stages.{Holds, Rises}
use Rattle.laws_agreement.proofs.FetchRuns.{no_change}
use Rattle.laws_agreement.proofs.FetchWants.{rises_or_none}
use Rattle.laws_agreement.proofs.Rests.{near_form}
use Rattle.laws_agreement.proofs.Still.{IsSeen, seen_placed}
use Rattle.laws_agreement.proofs.UploadData.{AtRise, rise_ends, rise_is}
use Rattle.laws_agreement.proofs.UploadRuns.{moved_pushes}
use Rattle.laws_drivers.proofs.world.Known.{beside}
use Rattle.laws_drivers.proofs.world.Served.{Runs}
use Rattle.laws_transfers.proofs.Halting.{halt_unclosed}
use Rattle.laws_transfers.proofs.Known.{AreCarried, held_takes, is_ready, last_carried}
use Rattle.laws_transfers.proofs.Running.{not_trailing, stage_serves}

-- it runs, takes octets and wants no close
pub record TakesOn (f : Far) : Type 0 where
  pub runs : Runs f
  pub unclosed : f.session.closing ≡ false
  pub takes : is_upload f.session.connection ≡ true

module _ (read : Reading) (reads : IsReading read) (from : State) (begun : List Order) (puts : AreCarried begun) where
  -- at a lift
  rise_takes : (w : World) (f : IsFetching read from begun w) (u : World) → PlacedAt (AtRise read f.now f.ask f.own) u → TakesOn u.far
  rise_takes w f u s =
      let runs = stage_serves read f.now f.ask f.is_ask f.own u (rise_is read f.now f.ask f.own u s) in
      by runs s.here.lift s.here.rises s.here.holds
    where
      of : IsSeen s.base u
      of = seen_placed (AtRise read f.now f.ask f.own) u s

      by : Runs u.far → (lift : Lift) → lifts lift ≡ true → Holds f.now f.ask f.own (Rises s.here.rise lift) s.way s.base → TakesOn u.far
      by runs (Rising past octet more came queue mark notes) rises h = record {
        runs = runs;
        unclosed = ap (λ (x : Session). x.closing) (of.session ∙ h.session);
        takes = ap (λ (x : Session). is_upload x.connection) (of.session ∙ h.session) ∙ held_takes past _ _ _;
      }
      by runs (Risen past closed came queue mark notes) rises h = record {
        runs = runs;
        unclosed = ap (λ (x : Session). x.closing) (of.session ∙ h.session);
        takes = ap (λ (x : Session). is_upload x.connection) (of.session ∙ h.session) ∙ held_takes past _ _ _;
      }
      by runs Offered rises h = absurd (true≢false (sym rises))
      by runs (Settled started mark notes fate left after) rises h = absurd (true≢false (sym rises))
      by runs (Declined why door) rises h = absurd (true≢false (sym rises))
      by runs Unjoined rises h = absurd (true≢false (sym rises))

  -- ---- octets are taken

  some_octets : (octet : ℕ) (queue all : List ℕ) → all ≡ octet ∷ queue → all ≡ [] → ⊥
  some_octets octet queue all some none = true≢false (ap has_octets (sym some ∙ none))

  pub takes_on : (w : World) (count octet : ℕ) (queue : List ℕ) → w.data_to_server ≡ octet ∷ queue → count ≤ length w.data_to_server
      → OverRuns read from begun w → (is_closed_by_near w.link ≡ true → is_ready w.far.session.connection ≡ false)
      → TakesOn (pushed read DataToServer count w).far
  takes_on w count octet queue some few runs unready = by runs
    where
      on_way : (on : IsFetchingOn read from begun w) → TakesOn (pushed read DataToServer count w).far
      on_way on =
          let f = on.fetching in
          elim (rises_or_none read f.now f.ask f.is_ask.plan f.own w f.stands on.lasts) [
            | inl climbing ↦ rise_takes w f (pushed read DataToServer count w)
                (moved_pushes read reads from begun count w f w few (record { climbing = climbing; kept = no_change read reads from begun w })).climbing
            | inr none ↦ absurd (some_octets octet queue w.data_to_server some none.queue)
          ]

      by : OverRuns read from begun w → TakesOn (pushed read DataToServer count w).far
      by (inl (inl f)) = absurd (some_octets octet queue w.data_to_server some f.unlinked.to_server)
      by (inl (inr (inl on))) = on_way on
      by (inl (inr (inr (inl trailing)))) = absurd (not_trailing read reads from begun puts w unready trailing)
      by (inl (inr (inr (inr on)))) =
          let h = on.halting in
          absurd (some_octets octet queue w.data_to_server some (ap (λ (u : World). u.data_to_server) h.stands.is ∙ h.stands.here.to_server))
      by (inr (inl trying)) = absurd (last_carried trying.going.done _ begun trying.going.begun_is puts)
      by (inr (inr tailing)) = absurd (last_carried tailing.going.done _ begun tailing.going.begun_is puts)

  -- ---- the end is told

  rise_over : (w : World) (f : IsFetching read from begun w) → PlacedAt (AtRise read f.now f.ask f.own) w → w.link ≡ ClosedByNear → w.data_to_server ≡ []
      → Runs (told DataToServer w).far × (near.to_give w.near ≡ [])
  rise_over w f s closed empty = by_lift s.here.lift s.here.rises s.here.holds
    where
      link_is : w.link ≡ s.base.link
      link_is = ap (λ (u : World). u.link) s.is ∙ (beside s.base s.way s.cut).0

      by_lift : (lift : Lift) → lifts lift ≡ true → Holds f.now f.ask f.own (Rises s.here.rise lift) s.way s.base
          → Runs (told DataToServer w).far × (near.to_give w.near ≡ [])
      by_lift (Rising past octet more came queue mark notes) rises h =
          absurd (true≢false (sym (ap is_closed_by_near closed) ∙ ap is_closed_by_near (link_is ∙ h.link)))
      by_lift (Risen past false came queue mark notes) rises h =
          absurd (true≢false (sym (ap is_closed_by_near closed) ∙ ap is_closed_by_near (link_is ∙ h.link)))
      by_lift (Risen past true came queue mark notes) rises h =
          let none : queue ≡ [] = sym (ap (λ (u : World). u.data_to_server) s.is ∙ (beside s.base s.way s.cut).1 ∙ h.to_server) ∙ empty in
          let way : Way = Answering (note_replies notes) in
          let fits : Fits way s.cut = subst (λ way. Fits way s.cut) h.way_is s.fits in
          let is : w ≡ world_at s.base way s.cut = s.is ∙ ap (λ way. world_at s.base way s.cut) h.way_is in
          let stands : Holds f.now f.ask f.own (Rises s.here.rise (Risen past true came queue mark notes)) way s.base =
          subst (λ way. Holds f.now f.ask f.own (Rises s.here.rise (Risen past true came queue mark notes)) way s.base) h.way_is h in
          let ended = rise_ends read f.now f.ask f.is_ask f.sound f.own s.here.rise past came mark notes s.base s.cut fits
          (subst (λ q. Holds f.now f.ask f.own (Rises s.here.rise (Risen past true came q mark notes)) way s.base) none stands) in
          let form = near_form s.base w (seen_placed (AtRise read f.now f.ask f.own) w s) _ _ h.near in (
            subst (λ u. Runs (told DataToServer u).far) (sym is)
                (stage_serves read f.now f.ask f.is_ask f.own (told DataToServer (world_at s.base way s.cut)) ended),
            ap near.to_give form,
          )
      by_lift Offered rises h = absurd (true≢false (sym rises))
      by_lift (Settled started mark notes fate left after) rises h = absurd (true≢false (sym rises))
      by_lift (Declined why door) rises h = absurd (true≢false (sym rises))
      by_lift Unjoined rises h = absurd (true≢false (sym rises))

  pub ends_on : (w : World) → w.link ≡ ClosedByNear → w.data_to_server ≡ [] → OverRuns read from begun w
      → (is_closed_by_near w.link ≡ true → is_ready w.far.session.connection ≡ false)
      → Runs (told DataToServer w).far × (near.to_give w.near ≡ [])
  ends_on w closed empty runs unready = by runs
    where
      on_way : (on : IsFetchingOn read from begun w) → Runs (told DataToServer w).far × (near.to_give w.near ≡ [])
      on_way on =
          let f = on.fetching in
          elim (rises_or_none read f.now f.ask f.is_ask.plan f.own w f.stands on.lasts) [
            | inl climbing ↦ rise_over w f climbing closed empty
            | inr none ↦ absurd (true≢false (sym (ap is_closed_by_near closed) ∙ none.closed))
          ]

      by : OverRuns read from begun w → Runs (told DataToServer w).far × (near.to_give w.near ≡ [])
      by (inl (inl f)) = absurd (true≢false (sym (ap is_closed_by_near closed) ∙ ap is_closed_by_near f.unlinked.link))
      by (inl (inr (inl on))) = on_way on
      by (inl (inr (inr (inl trailing)))) = absurd (not_trailing read reads from begun puts w unready trailing)
      by (inl (inr (inr (inr on)))) =
          let h = on.halting in absurd (true≢false (sym (ap is_closed_by_near closed) ∙ halt_unclosed h.now h.ask h.own w h.stands))
      by (inr (inl trying)) = absurd (last_carried trying.going.done _ begun trying.going.begun_is puts)
      by (inr (inr tailing)) = absurd (last_carried tailing.going.done _ begun tailing.going.begun_is puts)
