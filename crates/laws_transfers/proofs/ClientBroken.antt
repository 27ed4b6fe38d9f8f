-- A client that sent ABOR is told that its data connection broke, since the server reset it: a world's is told of the end (RFC 959, section 4.1.3).
use Rattle.std.proofs.Common.{◌≡◌, ℕ, Bool, ◌&&◌, true, false, List, [], ◌++◌, refl, sym, ap, ◌∙◌}
use Rattle.ftp_ends.specs.declared.link.Wants.TheVariants as Want
use Rattle.ftp_ports.specs.Actions.{Calls, Stand}
use Rattle.ftp_ports.specs.Channel.{Channel, with_fate}
use Rattle.ftp_ports.specs.Machine.{Break}
use Rattle.ftp_ports.specs.declared.whole.Fate.TheVariants.{Broken}
use Rattle.ftp_client_driver.specs.Side.{client_side}
use Rattle.ftp_client_model.specs.Calls as near
use Rattle.ftp_client_model.specs.Calls.{data_end}
use Rattle.ftp_client_model.specs.View.{View as Near}
use Rattle.ftp_direct.specs.Direct.{State}
use Rattle.ftp_operation.specs.Answer.{Said}
use Rattle.ftp_server_driver.specs.alone.Side.{server_side}
use Rattle.ftp_server_model.specs.Machine.{IsReading, Reading}
use Rattle.ftp_server_model.specs.View.{View as Far}
use Rattle.laws_world.specs.Agreement.{Order}
use Rattle.laws_world.specs.Events.{is_closed_by_far}
use Rattle.laws_world.specs.World.{ClosedByFar, World}
use Rattle.laws_agreement.specs.Over.{OverRuns}
use Rattle.laws_agreement.proofs.Chunks.{both_empty}
use Rattle.laws_drivers.specs.control.Alone.{ClientIsCalm}
use Rattle.laws_drivers.specs.control.Between.{Between, Has_lost}
use Rattle.laws_drivers.specs.world.Ahead.{is_open}
use Rattle.laws_drivers.specs.world.Unaborted.{is_unaborted}
use Rattle.laws_drivers.proofs.events.FarForms.{told_passive}
use Rattle.laws_drivers.proofs.events.Holding.{both, is_called, is_false, is_had}
use Rattle.laws_drivers.proofs.events.NearForms.{taking_of}
use Rattle.laws_drivers.proofs.events.Stands.{ClientFetches, ServerServes, wants_port}
use Rattle.laws_transfers.specs.Ahead.{Ahead, Level, Listens, Opens, Parted}
use Rattle.laws_transfers.proofs.Aborted as ends
use Rattle.laws_transfers.proofs.Aborted.{aborted_ends}
use Rattle.laws_transfers.proofs.Beside.{Together, is_taking}
use Rattle.laws_transfers.proofs.ClientTaking.{taking_is}
use Rattle.laws_transfers.proofs.Known.{AreCarried, Known}

-- nothing goes to the client any more, which was told of the break
abbrev pub with_none : Between → Between
with_none between = record between { data_ways = record between.data_ways { to_client = [] }; near = Has_lost }

-- octets of one that broke are not taken
broken_takes : (channel : Channel) → is_taking (with_fate Broken channel) ≡ false
broken_takes channel = by channel.stands
  where
    by : (stands : Bool) → (stands && false) ≡ false
    by true = refl
    by false = refl

module _ (read : Reading) (reads : IsReading read) (from : State) (begun : List Order) (puts : AreCarried begun) (server : Stand server_side)
    (old new : Stand client_side) (reports : List Said) (w : World) (calm : ClientIsCalm old.owner new.owner) (serves : ServerServes server.owner)
    (before : ClientFetches old.owner) (portless : wants_port (data_end old.owner.end.view).connection ≡ false) (known : Known w)
    (runs : OverRuns read from begun w) where
  abbrev v : Near
  v = old.owner.end.view

  abbrev x : Far
  x = server.owner.end.server.view

  -- a world's is told of the end there, as this client
  abbrev pub Breaks : (between : Between) (told : ℕ) → Type 0
  Breaks between told = ends.Breaks read reads from begun puts server old new reports w serves before portless known runs (with_none between) told

  module _ (moment : ℕ) (ahead : Ahead) (between : Between) (told : ℕ) (t : Together read begun moment ahead between told server old reports w)
      (did : Calls {side = client_side} Break old new) (aborted : is_unaborted v.job ≡ false) (wants : near.wants v ≡ Want.Receive)
      (untold : old.owner.channel.untold ≡ []) (unheld : is_had between.far ≡ false) (uncalled : is_called between.far ≡ false) where
    channel : new.owner.channel ≡ with_fate Broken old.owner.channel
    channel = did.0.1

    shut : is_open x.session.connection ≡ false
    shut = is_false (is_open x.session.connection) (λ e. both (t.holds.had e) unheld)

    shut_there : (ahead : Ahead) → Together read begun moment ahead between told server old reports w → is_open w.far.session.connection ≡ false
    shut_there Level t = ap (λ (f : Far). is_open f.session.connection) t.beside.far ∙ shut
    shut_there Opens t = absurd (both (t.holds.opened refl) uncalled)
    shut_there (Listens port) t =
        ap (λ (f : Far). is_open f.session.connection) t.beside.far ∙ ap is_open (told_passive x.session.connection t.beside.fits port x)
    shut_there (Parted accepted) t = ap (λ (f : Far). is_open f.session.connection) t.beside.far

    link : w.link ≡ ClosedByFar
    link = known.down (ap near.wants (taking_is read begun moment ahead between told server old reports w t (taking_of v wants)) ∙ wants) (shut_there ahead t)

    none_rises : w.data_to_server ≡ []
    none_rises = known.still (known.left (ap is_closed_by_far link))

    unwritten : new.owner.channel.unwritten ≡ []
    unwritten =
        let rest = (both_empty server.owner.channel.untold (between.data_ways.to_server ++ old.owner.channel.unwritten) (sym t.beside.rising ∙ none_rises)).1 in
        ap (λ (l : Channel). l.unwritten) channel ∙ (both_empty between.data_ways.to_server old.owner.channel.unwritten rest).1

    pub client_breaks : Breaks between told
    client_breaks =
        aborted_ends read reads from begun puts server old new reports w serves before portless known runs moment ahead between (with_none between) told t
        (did.0.0.0.0 calm) (ap (λ (y : Stand client_side). y.unheard) did.1) refl refl refl (ap is_taking channel ∙ broken_takes old.owner.channel)
        (record { bare = λ e. ap (λ (l : Channel). l.untold) channel ∙ untold }) unwritten (shut_there ahead t) aborted wants
