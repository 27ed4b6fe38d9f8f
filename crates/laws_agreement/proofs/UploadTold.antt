-- An upload is told, and its report is taken: the server has the state behind it.
use Rattle.std.proofs.Common.{◌≡◌, inl, inr, false, List, [], ◌∷◌, ◌++◌, None, refl, sym, ap, subst, ◌∙◌}
use Rattle.ftp_operation.specs.Answer.{Said}
use Rattle.ftp_direct.specs.Direct.{State}
use Rattle.ftp_server_model.specs.Machine.{Reading}
use Rattle.ftp_server_model.specs.declared.session.Pending.TheVariants as Pendings
use Rattle.ftp_server_model.specs.declared.session.ServerLink.TheVariants as FarData
use Rattle.laws_world.specs.Agreement.{Order, Single}
use Rattle.laws_world.specs.Serving.{after_event}
use Rattle.laws_world.specs.World.{World, Gone}
use Rattle.laws_dialogues.specs.Dialogue.{resting}
use Rattle.laws_dialogues.specs.Fetches.{IsTimely, Rise, linked}
use Rattle.laws_dialogues.specs.Stage.{calm, still, rest}
use Rattle.laws_agreement.specs.Cut.{world_at}
use Rattle.laws_agreement.specs.Follows.{Told, IsLinked, Follows}
use Rattle.laws_agreement.specs.Rising.{FaredTo}
use Rattle.laws_agreement.specs.Runs.{IsFetching}
use Rattle.laws_agreement.specs.Stages.{Tells, Holds, no_link}
use Rattle.laws_agreement.proofs.FetchLink.{far_linked}
use Rattle.laws_agreement.proofs.FetchTold.{aside_served, steady_stands, taken_base, told_at, told_fared_to}
use Rattle.laws_agreement.proofs.Still.{rest_placed, no_octets}

module _ (read : Reading) (from : State) (begun : List Order) (w : World) (f : IsFetching read from begun w) (rise : Rise) (said : Said) (after : State)
    (h : Holds f.now f.ask f.own (Tells rise said after) f.stands.way f.stands.base) where
  abbrev b : World
  b = f.stands.base

  -- nothing is on its way
  is_rest : w ≡ world_at b rest no_octets
  is_rest = rest_placed _ w f.stands h.way_is

  -- the world is the one where it was told
  pub is_told : w ≡ told_at said no_link b
  is_told =
      is_rest
      ∙ (λ i. record (world_at b rest no_octets) {
        near = calm (h.near i);
        far = still (far_linked (h.session i) b.far);
        link = h.link i;
        data_to_server = h.to_server i;
        data_to_client = h.to_client i;
      })

  -- it fared so at its moment
  fares : FaredTo f.now f.ask f.own said after f.moment
  fares = subst (FaredTo f.now f.ask f.own said after) (subst (λ d. IsTimely d f.moment) h.fine.2 f.timely) h.fine.0

  -- with the answer as its report, all that was begun is told
  told_now : Told from begun w.marks None (w.reports ++ said ∷ []) after
  told_now =
      let t = told_fared_to from f.done f.marks w.reports f.now f.ask f.is_ask.plan f.moment f.own said after f.told fares h.marked in
      subst (λ done. Told from done w.marks None (w.reports ++ said ∷ []) after) (sym f.begun_is)
      (subst (λ marks. Told from (f.done ++ Single f.ask.op f.moment ∷ []) marks None (w.reports ++ said ∷ []) after) (sym f.marks_are) t)

  -- behind it the session is free again
  pub tells_served : Follows read from begun (after_event w)
  tells_served =
      let new : World = world_at (taken_base said FarData.Free Pendings.Nothing Gone b) rest no_octets in
      let told_is : Told from begun new.marks None new.reports after = subst (λ u. Told from begun u.marks None (u.reports ++ said ∷ []) after) is_rest told_now in
      subst (Follows read from begun) (sym (ap after_event is_told ∙ aside_served said false FarData.Free refl Pendings.Nothing b))
      (record {
        unlinked = record { link = refl; to_server = refl; to_client = refl };
        untold = refl;
        phase = inl (
          subst (λ u. IsLinked (record new { control = u.control; cutoff = u.cutoff })) is_rest (record { control = f.linked.control; cutoff = f.linked.cutoff }),
          inl (record {
            now = after;
            sound = h.fine.1;
            told = told_is;
            stands = record {
              base = taken_base said FarData.Free Pendings.Nothing Gone b;
              way = rest;
              cut = no_octets;
              is = refl;
              fits = (tt, (refl, refl));
              here = inr (refl, refl, steady_stands after (resting b.near) (far_linked (linked FarData.Free false Pendings.Nothing b.far.session) b.far) h.steady refl FarData.Free Pendings.Nothing refl);
            };
          }),
        );
      })
