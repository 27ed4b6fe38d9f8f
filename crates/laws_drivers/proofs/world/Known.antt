-- What is so of worlds that a session comes to: of one whose client dials, of one at which no operation is under way, and of the octets on their way.
use Rattle.std.proofs.Common.{◌≡◌, ℕ, Bool, true, false, true≢false, List, [], ◌∷◌, refl, sym, ap, ◌∙◌}
use Rattle.ftp_ends.specs.Link.{same_host}
use Rattle.ftp_ends.specs.declared.link.Wants.{Wants}
use Rattle.ftp_ends.specs.declared.link.Wants.TheVariants as Want
use Rattle.ftp_client_model.specs.Calls as near
use Rattle.ftp_client_model.specs.Calls.{is_busy}
use Rattle.ftp_client_model.specs.View.{Doing, Job}
use Rattle.ftp_server_model.specs.Machine.{is_transferring}
use Rattle.ftp_server_model.specs.View.{Transfer}
use Rattle.ftp_server_model.specs.declared.session.ServerLink.{ServerLink}
use Rattle.ftp_server_model.specs.declared.session.ServerLink.TheVariants as FarData
use Rattle.laws_world.specs.World.{Gone, World}
use Rattle.laws_dialogues.specs.Dialogue.{is_set_aside}
use Rattle.laws_dialogues.specs.Stage.{Answering, Asking, Way}
use Rattle.laws_agreement.specs.Cut.{Cut, PlacedAt, world_at}

-- ---- what is so

-- an operation is at a step before its transfer
abbrev pub is_doing : Job → Bool
is_doing (Doing op step) = true
is_doing job = false

-- the client dials a server that waits for it, and nothing else is to be said or moved
pub record Dialling (w : World) : Type 0 where
  pub busy : is_busy w.near ≡ true
  pub doing : is_doing w.near.job ≡ true
  pub link : w.link ≡ Gone
  pub far : w.far.session.connection ≡ FarData.Passive
  pub owes : w.far.owed ≡ []
  pub to_client : w.data_to_client ≡ []
  pub same : same_host w.near.here w.far.context.peer ≡ true

-- it takes octets
abbrev pub is_receive : Wants → Bool
is_receive Want.Receive = true
is_receive other = false

-- no operation is under way: no link stands or is wanted
pub record Idling (w : World) : Type 0 where
  pub link : w.link ≡ Gone
  pub to_client : w.data_to_client ≡ []
  pub wants : near.wants w.near ≡ Want.Nothing
  pub far : is_transferring w.far.session.connection ≡ false

-- no transfer is under way where nothing is asked for or waits
pub aside_still : (link : ServerLink Transfer) → is_set_aside link ≡ true → is_transferring link ≡ false
aside_still (FarData.Opening transfer way) is = absurd (true≢false (sym is))
aside_still (FarData.Transferring transfer) is = absurd (true≢false (sym is))
aside_still link is = refl

-- octets are on their way in one direction at most
pub one_way : (At : Way → World → Type 0) (w : World) → PlacedAt At w → (octet : ℕ) (octets : List ℕ) → w.far.owed ≡ octet ∷ octets → w.control_to_server ≡ []
one_way At w s octet octets owes = by s.way s.cut s.is
  where
    has_any : List ℕ → Bool
    has_any [] = false
    has_any (octet ∷ octets) = true

    by : (way : Way) (c : Cut) → w ≡ world_at s.base way c → w.control_to_server ≡ []
    by (Asking text) c is = let none : w.far.owed ≡ [] = ap (λ (u : World). u.far.owed) is in absurd (true≢false (ap has_any (sym owes ∙ none)))
    by (Answering rows) c is = ap (λ (u : World). u.control_to_server) is

-- what goes beside the control connection is that of the base
pub beside : (b : World) (way : Way) (c : Cut)
    → ((world_at b way c).link ≡ b.link) × ((world_at b way c).data_to_server ≡ b.data_to_server) × ((world_at b way c).data_to_client ≡ b.data_to_client)
beside b (Asking text) c = (refl, refl, refl)
beside b (Answering rows) c = (refl, refl, refl)
