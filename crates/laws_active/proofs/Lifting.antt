-- A server that takes octets of an upload goes on to do so while its client was dialled and has not accepted: none comes, and it is told of no end.
use Rattle.std.proofs.Common.{◌≡◌, Bool, true, false, true≢false, [], ◌∷◌, ◌++◌, take, refl, sym, ap, subst, ◌∙◌}
use Rattle.ftp_ends.specs.declared.link.Wants.{Wants}
use Rattle.ftp_ends.specs.declared.link.Wants.TheVariants as Want
use Rattle.ftp_ports.specs.Asking.{Came, Connected, Ended as EndedBy, Reset, Shut}
use Rattle.ftp_ports.specs.Actions.{Action, Done, Heard, Other, Read, Said as Says, Stand}
use Rattle.ftp_ports.specs.Channel.{Channel}
use Rattle.ftp_ports.specs.Machine.{Aside, Closed, End, Gave, Got, Left, LetGo, Listening, Opened, Received, Waited, Wrote}
use Rattle.ftp_server_driver.specs.alone.Side.{HearsBy, ends_line, server_side}
use Rattle.ftp_server_model.specs.Calls as far
use Rattle.ftp_server_model.specs.Calls.{is_upload, receives, wants_of}
use Rattle.ftp_server_model.specs.Machine.{IsReading, Reading, hears}
use Rattle.ftp_server_model.specs.View.{Transfer, View as Far}
use Rattle.ftp_server_model.specs.declared.session.ServerLink.{ServerLink}
use Rattle.ftp_server_model.specs.declared.session.ServerLink.TheVariants as Data
use Rattle.ftp_server_model.specs.declared.session.Transfer.TheVariants as Transfers
use Rattle.laws_drivers.specs.control.Between.{Between, Can, Far as TheServer, Is_called}
use Rattle.laws_drivers.specs.control.Touches.{touch_in}
use Rattle.laws_agreement.proofs.Chunks.{both_empty}
use Rattle.laws_drivers.proofs.world.Served.{far_wants}
use Rattle.laws_drivers.proofs.events.FarForms.{no_close, none_later}
use Rattle.laws_drivers.proofs.events.Stands.{ServerServes}
use Rattle.laws_active.specs.Actions.{ServerTransfersEitherWay}
use Rattle.laws_active.proofs.Leading.{not_ended}

-- it takes octets, and none came that it was not told, nor is on its way
pub record Lifted (between : Between) (server : Stand server_side) : Type 0 where
  pub takes : is_upload server.owner.end.server.view.session.connection ≡ true
  pub none_comes : between.data_ways.to_server ≡ []
  pub untold : server.owner.channel.untold ≡ []

-- what it wants then, where it wants no close
abbrev is_receive : Wants → Bool
is_receive Want.Receive = true
is_receive other = false

abbrev is_close : Wants → Bool
is_close Want.CloseData = true
is_close other = false

upload_receives : (link : ServerLink Transfer) → is_upload link ≡ true → wants_of link ≡ Want.Receive
upload_receives (Data.Transferring (Transfers.Upload path keep d)) e = refl
upload_receives (Data.Transferring Transfers.OverLimit) e = refl
upload_receives (Data.Transferring (Transfers.Download octets)) e = absurd (true≢false (sym e))
upload_receives (Data.Transferring (Transfers.Listing octets)) e = absurd (true≢false (sym e))
upload_receives Data.Free e = absurd (true≢false (sym e))
upload_receives (Data.Asked verb) e = absurd (true≢false (sym e))
upload_receives (Data.Active endpoint) e = absurd (true≢false (sym e))
upload_receives Data.Passive e = absurd (true≢false (sym e))
upload_receives Data.Ready e = absurd (true≢false (sym e))
upload_receives (Data.Opening transfer way) e = absurd (true≢false (sym e))

module _ (read : Reading) (reads : IsReading read) (old new : Stand server_side) (before : ServerServes old.owner) (between next : Between)
    (quiet : old.unheard ++ between.control.to_server ≡ []) (called : between.near ≡ Is_called) (l : Lifted between old) where
  abbrev v : Far
  v = old.owner.end.server.view

  abbrev u : Far
  u = new.owner.end.server.view

  -- it wants nothing but octets or a close
  wants_none : (q : Wants) → far.wants v ≡ q → is_receive q ≡ false → is_close q ≡ false → ⊥
  wants_none q is other apart =
      let unclosed : v.session.closing ≡ false = no_close v q is apart in
      true≢false (sym (ap is_receive (far_wants v before.running unclosed ∙ upload_receives v.session.connection l.takes)) ∙ ap is_receive is ∙ other)

  -- it holds the same
  same : u.session.connection ≡ v.session.connection → next.data_ways.to_server ≡ between.data_ways.to_server → new.owner.channel.untold ≡ [] → Lifted next new
  same is ways untold = record { takes = ap is_upload is ∙ l.takes; none_comes = ways ∙ l.none_comes; untold = untold }

  view_same : u ≡ v → u.session.connection ≡ v.session.connection
  view_same is = ap (λ (f : Far). f.session.connection) is

  pub lifts_on : (action : Action server_side) → ServerTransfersEitherWay action old.owner new.owner → Can TheServer (touch_in action) between next → Done action old new
      → Lifted next new
  lifts_on (Heard octets) is can did =
      let none : old.unheard ≡ [] = (both_empty old.unheard between.control.to_server quiet).0 in
      let none_heard : octets ≡ [] = (both_empty octets new.unheard (sym did.next ∙ none)).0 in
      let alone = subst (λ o. HearsBy (ends_line o) octets old.owner.end new.owner.end) none did.hears.0.1 in
      same (view_same ((alone.0 read reads).done is.1 ∙ ap (hears read v) none_heard)) (ap (λ (b : Between). b.data_ways.to_server) can)
      (ap (λ (x : Channel). x.untold) did.hears.1 ∙ l.untold)
  lifts_on (Says octets) is can did =
      same (ap (λ (f : Far). f.session.connection) (did.gives.gave.0.done is.1) ∙ ap (λ (f : Far). f.session.connection) (none_later _ before.none_waits))
      (ap (λ (b : Between). b.data_ways.to_server) can) (ap (λ (x : Channel). x.untold) did.gives.channel ∙ l.untold)
  lifts_on (Read octets) is can did =
      same (ap (λ o. o.end.server.view.session.connection) did.owner) (ap (λ (b : Between). b.data_ways.to_server) can.1)
      (ap (λ o. o.channel.untold) did.owner ∙ l.untold)
  lifts_on (Other (Aside tt)) is can did =
      same (ap (λ at. at.server.view.session.connection) did.0.0.0) (ap (λ (b : Between). b.data_ways.to_server) can)
      (ap (λ (x : Channel). x.untold) did.0.1 ∙ l.untold)
  lifts_on (Other (Listening port)) is can did = absurd (wants_none Want.Listen did.0.2.0 refl refl)
  lifts_on (Other (Opened host (Came from left written ∷ []) at_first so_far rest)) is can did = absurd (wants_none Want.Accept did.0.2.0 refl refl)
  lifts_on (Other (Opened host (Connected endpoint left written ∷ []) at_first so_far rest)) is can did =
      absurd (wants_none (Want.Connect endpoint) did.0.2.0 refl refl)
  lifts_on (Other (Got octets)) is can did =
      let none = both_empty octets next.data_ways.to_server (sym can.1 ∙ l.none_comes) in
      record { takes = ap is_upload (ap (λ at. at.server.view.session.connection) did.0.0) ∙ l.takes; none_comes = none.1; untold = did.0.1.untold ∙ none.0 }
  lifts_on (Other (Received octets count)) is can did =
      let none = both_empty (take count octets) new.owner.channel.untold (sym did.0.1.0 ∙ l.untold) in
      same (view_same (did.0.0.0.done is.1 ∙ ap (receives v) none.0)) (ap (λ (b : Between). b.data_ways.to_server) can) none.1
  lifts_on (Other End) is can did = absurd (not_ended between.near called can.0)
  lifts_on (Other (Gave count octets rest)) is can did = absurd (wants_none Want.Send did.0.2 refl refl)
  lifts_on (Other (Wrote octets)) is can did =
      same (ap (λ at. at.server.view.session.connection) did.0.0) (ap (λ (b : Between). b.data_ways.to_server) can.1) (did.0.1.untold ∙ l.untold)
  lifts_on (Other (Waited lost)) is can did =
      same (ap (λ at. at.server.view.session.connection) did.0.0) (ap (λ (b : Between). b.data_ways.to_server) can) (did.0.1.holds.untold ∙ l.untold)
  lifts_on (Other (LetGo octets)) is can did =
      same (ap (λ at. at.server.view.session.connection) did.0.0.0) (ap (λ (b : Between). b.data_ways.to_server) can)
      (both_empty octets new.owner.channel.untold (sym did.0.1.0 ∙ l.untold)).1
  lifts_on (Other (Left (EndedBy left written))) is can did =
      same (ap (λ at. at.server.view.session.connection) did.0.0) (ap (λ (b : Between). b.data_ways.to_server) can.1) did.0.1.untold
  lifts_on (Other (Left (Reset left written))) is can did =
      same (ap (λ at. at.server.view.session.connection) did.0.0) (ap (λ (b : Between). b.data_ways.to_server) can.1) did.0.1.untold
  lifts_on (Other (Left Shut)) is can did =
      same (ap (λ at. at.server.view.session.connection) did.0.0) (ap (λ (b : Between). b.data_ways.to_server) can) did.0.1.untold
  lifts_on (Other Closed) is can did =
      same (ap (λ (f : Far). f.session.connection) (did.0.0.0.done is.1) ∙ ap (λ (f : Far). f.session.connection) (none_later _ before.none_waits))
      (ap (λ (b : Between). b.data_ways.to_server) can) (ap (λ (x : Channel). x.untold) did.0.1.0 ∙ l.untold)
  lifts_on action is can did = absurd is.0
