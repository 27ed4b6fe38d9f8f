-- Ends of a world that want nothing of it: behind an event it stays as it is.
use Rattle.std.proofs.Common.{◌≡◌, ℕ, Bool, true, false, List, None, refl, sym, ap, ◌∙◌}
use Rattle.ftp_operation.specs.declared.op.Op.{Op}
use Rattle.ftp_path.specs.Path.{Names}
use Rattle.ftp_client_model.specs.Calls as near
use Rattle.ftp_client_model.specs.Calls.{report_of, report_of_job}
use Rattle.ftp_client_model.specs.View.{View as Near, Flow, Job}
use Rattle.ftp_client_model.specs.declared.client.ClientLink.{ClientLink as NearConnection}
use Rattle.ftp_client_model.specs.declared.client.ClientLink.TheVariants as NearData
use Rattle.ftp_client_model.specs.declared.client.Replied.TheVariants as Replies
use Rattle.ftp_server_model.specs.View.{Session, Transfer}
use Rattle.ftp_server_model.specs.declared.session.ServerLink.{ServerLink as FarConnection}
use Rattle.ftp_server_model.specs.declared.session.ServerLink.TheVariants as FarData
use Rattle.ftp_server_model.specs.declared.session.Pending.{Pending}
use Rattle.laws_world.specs.Serving.{near_served, far_served, collected, collected_by, after_event}
use Rattle.laws_world.specs.World.{World}
use Rattle.laws_dialogues.specs.Dialogue.{is_set_aside}
use Rattle.laws_dialogues.specs.Fetches.{busy, giving_of, linked}
use Rattle.laws_dialogues.proofs.Offering.{by_flow, with_flow}
use Rattle.laws_agreement.proofs.FetchLink.{far_linked}
use Rattle.laws_agreement.proofs.Still.{IsSeen}

-- ---- both ends of a world as those of its base

-- a client whose base is busy with a job and a connection is itself busy with them
pub near_form : (b w : World) → IsSeen b w → (job : Job) (connection : NearConnection) → b.near ≡ busy job connection b.near → w.near ≡ busy job connection w.near
near_form b w seen job connection is = λ i. record w.near {
  standing = (seen.standing ∙ ap (λ v. v.standing) is) i;
  job = (seen.job ∙ ap (λ v. v.job) is) i;
  run = (seen.run ∙ ap (λ v. v.run) is) i;
  connection = (seen.connection ∙ ap (λ v. v.connection) is) i;
  closing = (seen.closing ∙ ap (λ v. v.closing) is) i;
}

-- a server whose base has this connection, closing or not, and this pending has them itself
pub far_form : (b w : World) → IsSeen b w → (connection : FarConnection Transfer) (closing : Bool) (pending : Pending Names) → b.far.session ≡ linked connection closing pending b.far.session
    → w.far.session ≡ linked connection closing pending w.far.session
far_form b w seen connection closing pending is = seen.session ∙ is ∙ ap (linked connection closing pending) (sym seen.session)

-- nothing is served and nothing is reported
pub record Rests (w : World) : Type 0 where
  pub near : near_served w ≡ w
  pub far : far_served w ≡ w
  pub none : report_of w.near ≡ None

-- a world where nothing is served and nothing is reported stays behind an event
pub after_rests : (w : World) → Rests w → after_event w ≡ w
after_rests w r =
    ap (λ u. collected (far_served (far_served (far_served (near_served (near_served u)))))) r.near
    ∙ ap (λ u. collected (far_served (far_served (far_served (near_served u))))) r.near ∙ ap (λ u. collected (far_served (far_served (far_served u)))) r.near
    ∙ ap (λ u. collected (far_served (far_served u))) r.far ∙ ap (λ u. collected (far_served u)) r.far ∙ ap collected r.far ∙ ap (λ o. collected_by o w) r.none

-- a client with this job and this connection, and a server with this one, neither of which wants anything of the world
pub near_rests : (w : World) (job : Job) (connection : NearConnection) → w.near ≡ busy job connection w.near
    → near_served (record w { near = busy job connection w.near }) ≡ record w { near = busy job connection w.near } → near_served w ≡ w
near_rests w job connection is rests =
    let put : Near → World = λ v. record w { near = v } in
    ap near_served (ap put is) ∙ rests ∙ ap put (sym is)

-- a server with this connection, closing or not, and this pending wants nothing, if in this form it wants nothing
pub far_rests : (w : World) (connection : FarConnection Transfer) (closing : Bool) (pending : Pending Names) → w.far.session ≡ linked connection closing pending w.far.session
    → far_served (record w { far = far_linked (linked connection closing pending w.far.session) w.far }) ≡ record w { far = far_linked (linked connection closing pending w.far.session) w.far }
    → far_served w ≡ w
far_rests w connection closing pending is rests =
    let put : Session → World = λ s. record w { far = far_linked s w.far } in
    ap far_served (ap put is) ∙ rests ∙ ap put (sym is)

-- a server that gives wants nothing but that
pub giving_rests : (listed : Bool) (octets : List ℕ) (pending : Pending Names) (w : World)
    → far_served (record w { far = far_linked (linked (FarData.Transferring (giving_of listed octets)) false pending w.far.session) w.far })
    ≡ record w { far = far_linked (linked (FarData.Transferring (giving_of listed octets)) false pending w.far.session) w.far }
giving_rests false octets pending w = refl
giving_rests true octets pending w = refl

-- nor does a server without a transfer
pub aside_rests : (connection : FarConnection Transfer) → is_set_aside connection ≡ true → (pending : Pending Names) (w : World)
    → far_served (record w { far = far_linked (linked connection false pending w.far.session) w.far }) ≡ record w { far = far_linked (linked connection false pending w.far.session) w.far }
aside_rests FarData.Free aside pending w = refl
aside_rests FarData.Passive aside pending w = refl
aside_rests (FarData.Active endpoint) aside pending w = refl
aside_rests FarData.Ready aside pending w = absurd (cc)
aside_rests (FarData.Asked asked) aside pending w = absurd (cc)
aside_rests (FarData.Opening transfer way) aside pending w = absurd (cc)
aside_rests (FarData.Transferring transfer) aside pending w = absurd (cc)

-- by both forms
pub rests_of : (b w : World) → IsSeen b w → (job : Job) (connection : NearConnection) → b.near ≡ busy job connection b.near → report_of_job job ≡ None
    → ((w : World) → near_served (record w { near = busy job connection w.near }) ≡ record w { near = busy job connection w.near })
    → (far : FarConnection Transfer) (pending : Pending Names) → b.far.session ≡ linked far false pending b.far.session
    → ((w : World) → far_served (record w { far = far_linked (linked far false pending w.far.session) w.far }) ≡ record w { far = far_linked (linked far false pending w.far.session) w.far })
    → Rests w
rests_of b w seen job connection near_is none near_stays far pending far_is far_stays = record {
  near = near_rests w job connection (near_form b w seen job connection near_is) (near_stays w);
  far = far_rests w far false pending (far_form b w seen far false pending far_is) (far_stays w);
  none = ap report_of_job (seen.job ∙ ap (λ v. v.job) near_is) ∙ none;
}

-- a client whose own command was sent over an open link wants nothing but octets, whichever way they go
pub offer_rests : (op : Op (List ℕ)) (flow : Flow) (w : World)
    → near_served (record w { near = busy (with_flow op Replies.Nothing flow) NearData.Open w.near }) ≡ record w { near = busy (with_flow op Replies.Nothing flow) NearData.Open w.near }
unfolding near.wants
offer_rests op flow w =
    by_flow (λ flow. near_served (record w { near = busy (with_flow op Replies.Nothing flow) NearData.Open w.near }) ≡ record w { near = busy (with_flow op Replies.Nothing flow) NearData.Open w.near })
    (λ d mark. refl) (λ mark. refl) (λ octet left mark. refl) flow
