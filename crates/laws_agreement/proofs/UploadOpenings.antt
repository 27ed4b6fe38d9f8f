-- The server has connected to the client's port for an upload.
use Rattle.std.proofs.Common.{◌≡◌, inr, ℕ, true, false, List, [], ◌∷◌, None, refl, sym, ap, ◌∙◌, arith}
use Rattle.std.specs.Prelude.{if◌then◌else◌}
use Rattle.ftp_ends.specs.Link.{same_host}
use Rattle.ftp_wire.specs.Decoder.{no_octets}
use Rattle.ftp_direct.specs.Direct.{State}
use Rattle.ftp_client_model.specs.Calls as near
use Rattle.ftp_client_model.specs.Dialogue.{answers_once_over, sends_abort}
use Rattle.ftp_client_model.specs.Octets.{has_settled}
use Rattle.ftp_client_model.specs.View.{View as Near, Transfer as ClientTransfer, Flow, Sending}
use Rattle.ftp_client_model.specs.declared.client.Abort.TheVariants as Aborts
use Rattle.ftp_client_model.specs.declared.client.ClientLink.TheVariants as NearData
use Rattle.ftp_client_model.specs.declared.client.Replied.TheVariants as Replies
use Rattle.ftp_server_model.specs.Calls as far
use Rattle.ftp_server_model.specs.Machine.{Reading}
use Rattle.ftp_server_model.specs.View.{View as Far}
use Rattle.ftp_server_model.specs.declared.session.Pending.TheVariants as Pendings
use Rattle.ftp_server_model.specs.declared.session.ServerLink.TheVariants as FarData
use Rattle.ftp_server_model.specs.declared.session.Way.TheVariants as Ways
use Rattle.laws_world.specs.Events.{link_opens}
use Rattle.laws_world.specs.World.{World, Opened, Mark}
use Rattle.laws_dialogues.specs.Dialogue.{IsSound}
use Rattle.laws_dialogues.specs.Fetches.{Ask, HasUpload, IsAsk, Rise, busy, carried, linked}
use Rattle.laws_dialogues.specs.Stage.{calm, still, Way, rest}
use Rattle.laws_dialogues.proofs.Fetching.{own_host}
use Rattle.laws_dialogues.proofs.Offering.{up_job}
use Rattle.laws_dialogues.proofs.Sending.{gave_at, giving_at}
use Rattle.laws_agreement.specs.Cut.{world_at, PlacedAt}
use Rattle.laws_agreement.specs.Rising.{Lift, Rising, Risen, held, sending}
use Rattle.laws_agreement.specs.Stages.{Awaits, Rises, Holds, AtFetch, at_port}
use Rattle.laws_agreement.proofs.FetchLink.{far_linked}
use Rattle.laws_agreement.proofs.Placing.{at_stage}
use Rattle.laws_agreement.proofs.Still.{no_octets as no_cut}
use Rattle.laws_agreement.proofs.UploadFates.{keep_few}

module _ (read : Reading) (state : State) (ask : Ask) (good : IsAsk ask) (sound : IsSound state) (own : List Mark) (rise : Rise) (upload : HasUpload ask rise) (port : ℕ) (w b : World) (way : Way)
    (is : w ≡ world_at b rest no_cut) (h : Holds state ask own (Awaits port true) way b) where
  abbrev At : Way → World → Type 0
  At way b = AtFetch state ask read own way b

  -- the client, with this text to give, waits at its port
  abbrev waits_with : List ℕ → Near
  waits_with text = busy (sending ask.op Replies.Begun text None) (NearData.Accepting port) b.near

  -- it waits so
  waits : (text : List ℕ) → rise.text ≡ text → b.near ≡ waits_with text
  waits text e = h.near ∙ ap (λ job. busy job (NearData.Accepting port) b.near) (up_job ask rise upload.sends_is Replies.Begun) ∙ ap waits_with e

  -- the server's host is the client's peer
  peer_is : same_host b.far.context.here b.near.peer ≡ true
  peer_is = ap (same_host b.far.context.here) h.steady.peer ∙ own_host b.far.context.here

  -- a client with octets gives them over the link
  some_near : (octet : ℕ) (more : List ℕ) → rise.text ≡ octet ∷ more
      → near.data_opened b.far.context.here (calm b.near) ≡ calm (giving_at ask.op upload.all b.near Replies.Begun (octet ∷ more) None)
  unfolding near.data_opened
  some_near octet more e =
      let v : Near = calm (giving_at ask.op upload.all b.near Replies.Begun (octet ∷ more) None) in
      let flow : Flow = Sending (octet ∷ more) None in
      let transfer : ClientTransfer = record { replied = Replies.Begun; abort = Aborts.Unsent; flow = flow } in
      ap (λ n. near.data_opened b.far.context.here (calm n)) (waits (octet ∷ more) e)
      ∙ ap (λ same. near.accepted same (calm (waits_with (octet ∷ more)))) peer_is
      ∙ ap (λ count. answers_once_over (if has_settled count flow then sends_abort ask.op transfer v else v)) upload.all

  -- one without any closes it
  none_near : rise.text ≡ [] → near.data_opened b.far.context.here (calm b.near) ≡ calm (gave_at ask.op upload.all b.near None)
  unfolding near.data_opened
  none_near e =
      ap (λ n. near.data_opened b.far.context.here (calm n)) (waits [] e) ∙ ap (λ same. near.accepted same (calm (waits_with []))) peer_is

  -- the server behind it
  abbrev taking_far : Far
  taking_far = far_linked (linked (held false (rise.path state) (rise.keep state) (no_octets ask.settings)) false Pendings.Nothing b.far.session) b.far

  -- it takes octets
  takes_far : far.data_opened b.near.here (still b.far) ≡ still taking_far
  unfolding far.data_opened
  takes_far =
      ap (λ s. far.data_opened b.near.here (still (far_linked s b.far))) h.session
      ∙ ap (λ t. far.data_opened b.near.here (still (far_linked (linked (FarData.Opening t (Ways.Connect (at_port b.near.here port))) false Pendings.Nothing b.far.session) b.far)))
      (ap (λ d. carried d ask state) upload.sends_is)

  -- both ends behind it
  abbrev accepted_base : Near → World
  accepted_base n = record b { near = n; far = taking_far; link = Opened; came = 0 }

  -- a link that came leads to this lift
  accepts : (n : Near) (lift : Lift) → near.data_opened b.far.context.here (calm b.near) ≡ calm n → Holds state ask own (Rises rise lift) rest (accepted_base n) → PlacedAt At (link_opens w)
  accepts n lift near holds = record {
    base = accepted_base n;
    way = rest;
    cut = no_cut;
    is = ap link_opens is ∙ (λ i. record (accepted_base n) { near = near i; far = takes_far i; control_to_server = []; control_to_client = [] });
    fits = (tt, (refl, refl));
    here = inr (Rises rise lift, holds);
  }

  -- a link that came after the 150 is placed
  pub upload_accepted : PlacedAt At (link_opens w)
  upload_accepted = by_text rise.text refl
    where
      by_text : (text : List ℕ) → rise.text ≡ text → PlacedAt At (link_opens w)
      by_text [] e =
          accepts (gave_at ask.op upload.all b.near None) (Risen false false [] [] None []) (none_near e)
          (at_stage refl refl h.steady h.timed (h.ready.0, h.ready.1, upload) refl h.to_server h.to_client refl h.marked refl
          (h.fine, sym e, λ past. absurd (cc), (tt, λ past. (omega (arith, keep_few state ask good rise upload h.ready.1 h.fine sound), refl))))
      by_text (octet ∷ more) e =
          accepts (giving_at ask.op upload.all b.near Replies.Begun (octet ∷ more) None) (Rising false octet more [] [] None []) (some_near octet more e)
          (at_stage refl refl h.steady h.timed (h.ready.0, h.ready.1, upload) refl h.to_server h.to_client refl h.marked refl
          (h.fine, sym e, λ past. absurd (cc), (tt, λ past. (omega (arith, keep_few state ask good rise upload h.ready.1 h.fine sound), refl))))
