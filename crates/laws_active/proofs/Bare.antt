-- A client's data connection while no link stands in a world: nothing is on its way over it, and what an action leaves of it has nothing either.
use Rattle.std.proofs.Common.{◌≡◌, ℕ, true, false, true≢false, ◌&&◌, List, [], ◌++◌, sym, ap, ap₂, ◌∙◌}
use Rattle.ftp_ports.specs.Actions.{Stand}
use Rattle.ftp_ports.specs.Channel.{Channel}
use Rattle.ftp_client_driver.specs.Side.{client_side}
use Rattle.ftp_operation.specs.Answer.{Said}
use Rattle.ftp_server_driver.specs.alone.Side.{server_side}
use Rattle.ftp_server_model.specs.Calls.{is_upload}
use Rattle.ftp_server_model.specs.Machine.{Reading}
use Rattle.laws_world.specs.Agreement.{Order}
use Rattle.laws_world.specs.Events.{is_closed_by_near}
use Rattle.laws_world.specs.World.{Gone, World}
use Rattle.laws_agreement.proofs.Chunks.{both_empty}
use Rattle.laws_drivers.specs.control.Between.{Between}
use Rattle.laws_drivers.proofs.events.Holding.{is_false, is_sound}
use Rattle.laws_transfers.specs.Ahead.{Ahead}
use Rattle.laws_transfers.proofs.Beside.{Together, is_taking}
use Rattle.laws_transfers.proofs.Known.{Known, is_near_held}

-- what an action leaves of it
pub record StaysBare (old new : Channel) : Type 0 where
  pub taking : is_taking new ≡ true → is_taking old ≡ true
  pub untold : is_taking old ≡ true → new.untold ≡ []
  pub bare : new.stands ≡ false → new.untold ≡ []
  pub unwritten : new.unwritten ≡ []

-- so it is of one that was left
pub left_bare : (old new : Channel) → new.stands ≡ false → new.untold ≡ [] → new.unwritten ≡ [] → StaysBare old new
left_bare old new stands untold unwritten = record {
  taking = λ e. absurd (true≢false (sym e ∙ ap (λ s. s && is_sound new.fate) stands));
  untold = λ e. untold;
  bare = λ e. untold;
  unwritten = unwritten;
}

module _ (read : Reading) (begun : List Order) (server : Stand server_side) (c : Stand client_side) (reports : List Said) (w : World)
    (between : Between) (told : ℕ) (moment : ℕ) (ahead : Ahead) (t : Together read begun moment ahead between told server c reports w)
    (gone : w.link ≡ Gone) (known : Known w) where
  -- nothing is on its way over it
  untaken : is_upload w.far.session.connection ≡ false
  untaken =
      is_false (is_upload w.far.session.connection)
      (λ e. true≢false (sym (ap is_closed_by_near (known.takes e (ap is_near_held gone))) ∙ ap is_closed_by_near gone))

  pub none_untold : is_taking c.owner.channel ≡ true → c.owner.channel.untold ≡ []
  none_untold e =
      (both_empty c.owner.channel.untold (between.data_ways.to_client ++ server.owner.channel.unwritten)
      (sym (t.beside.falling e) ∙ known.ended (ap is_near_held gone))).0

  -- nor came any over one that does not stand
  pub none_bare : c.owner.channel.stands ≡ false → c.owner.channel.untold ≡ []
  none_bare e = t.takes.bare e

  pub none_unsent : c.owner.channel.unwritten ≡ []
  none_unsent =
      (both_empty between.data_ways.to_server c.owner.channel.unwritten
      (both_empty server.owner.channel.untold (between.data_ways.to_server ++ c.owner.channel.unwritten) (sym t.beside.rising ∙ known.still untaken)).1).1

  -- so it is of one that is the same
  pub same_bare : (new channel : Channel) → new ≡ channel → channel.stands ≡ c.owner.channel.stands → channel.fate ≡ c.owner.channel.fate
      → channel.untold ≡ c.owner.channel.untold → channel.unwritten ≡ c.owner.channel.unwritten → StaysBare c.owner.channel new
  same_bare new channel is stands fate untold unwritten = record {
    taking = λ e. ap₂ (λ s f. s && is_sound f) (sym stands) (sym fate) ∙ ap is_taking (sym is) ∙ e;
    untold = λ e. ap (λ (l : Channel). l.untold) is ∙ untold ∙ none_untold e;
    bare = λ e. ap (λ (l : Channel). l.untold) is ∙ untold ∙ none_bare (sym stands ∙ ap (λ (l : Channel). l.stands) (sym is) ∙ e);
    unwritten = ap (λ (l : Channel). l.unwritten) is ∙ unwritten ∙ none_unsent;
  }
