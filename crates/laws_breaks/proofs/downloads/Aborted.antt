-- A Peek that sent ABOR: its server gives, and no reply is on its way to it, or the server has let the link go.
use Rattle.std.proofs.Common.{◌≡◌, ◌⊎◌, inl, inr, ℕ, Bool, true, false, List, [], ◌∷◌, None, refl, ap, ◌∙◌}
use Rattle.ftp_direct.specs.Direct.{State}
use Rattle.ftp_server_model.specs.View.{Session, Transfer as Transfers}
use Rattle.ftp_server_model.specs.declared.session.ServerLink.{ServerLink}
use Rattle.ftp_server_model.specs.declared.session.ServerLink.TheVariants as Data
use Rattle.laws_world.specs.World.{Mark, Opened, World}
use Rattle.laws_dialogues.specs.Fetches.{Ask, giving_of}
use Rattle.laws_agreement.specs.Crossing.{AreCut}
use Rattle.laws_agreement.specs.PeekStages.{AtHalt, Gave, Gives, Halt, Halted, Halts, halt_asked, halt_rows}
use Rattle.laws_agreement.proofs.Chunks.{both_empty}
use Rattle.laws_agreement.proofs.PeekServed.{near_at}
use Rattle.laws_transfers.proofs.Known.{is_giving}
use Rattle.ftp_wire.specs.Decoder.{decoder_of, no_octets}
use Rattle.laws_world.specs.Outcome.{mark_in}
use Rattle.laws_breaks.proofs.downloads.Laden.{Awaiting}

-- who gives octets is giving
gives_on : (listed : Bool) (octets : List ℕ) → is_giving (Data.Transferring (giving_of listed octets)) ≡ true
gives_on true octets = refl
gives_on false octets = refl

-- its server gives, and no reply is on its way to it
pub record Waits (w : World) : Type 0 where
  pub gives : is_giving w.far.session.connection ≡ true
  pub awaiting : Awaiting w.near
  pub quiet : w.control_to_client ≡ []
  pub link : w.link ≡ Opened

-- so it is, or the server has let the link go
pub halt_waits : (now : State) (ask : Ask) (own : List Mark) (w : World) → AtHalt now ask own w → Waits w ⊎ (w.far.session.connection ≡ Data.Free)
halt_waits now ask own w a = by a.halt a.here a.fits
  where
    link_is : {link : ServerLink Transfers} → a.base.far.session.connection ≡ link → w.far.session.connection ≡ link
    link_is is = ap (λ (u : World). u.far.session.connection) a.is ∙ is

    by : (halt : Halt) → Halts now ask own halt a.said a.came a.queue a.base → AreCut (halt_asked halt) (halt_rows halt) a.cuts
        → Waits w ⊎ (w.far.session.connection ≡ Data.Free)
    by (Gives octet more) h fits = inl (record {
      gives = ap is_giving (link_is (ap (λ (s : Session). s.connection) h.session)) ∙ gives_on ask.listed (octet ∷ more);
      awaiting = record {
        op = ask.op;
        decoder = decoder_of ask.settings a.came;
        mark = mark_in (no_octets ask.settings) None a.came;
        near = near_at now ask own a.base w a.cuts a.is _ _ h.near;
      };
      quiet = ap (λ (u : World). u.control_to_client) a.is ∙ (both_empty a.cuts.down.moving a.cuts.down.owed fits.down.1).0;
      link = ap (λ (u : World). u.link) a.is ∙ h.link;
    })
    by (Gave whole heard asked gap) h fits = inr (link_is (ap (λ (s : Session). s.connection) h.session))
    by (Halted whole left) h fits = inr (link_is (ap (λ (s : Session). s.connection) h.session))
