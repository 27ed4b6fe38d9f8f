-- A drive in which no tree is exchanged is a drive of its own.
use Rattle.std.proofs.Common.{◌≡◌, Bool, List, [], ◌∷◌, Result, Ok, Err, ap, arith, map}
use Rattle.std.specs.Prelude.{⊤}
use Rattle.ftp_ports.proofs.Courses.{carries}
use Rattle.ftp_ports.proofs.Idling.{carrier, stood_so}
use Rattle.ftp_ports.proofs.Totals.{cuts, sums}
use Rattle.ftp_ports.specs.Actions.{Action, Led, Other, Stand}
use Rattle.ftp_ports.specs.Driving.{Fails}
use Rattle.ftp_ports.specs.Machine.{Left, move_of}
use Rattle.ftp_ports.specs.declared.cause.Cause.{Cause}
use Rattle.ftp_server_driver.specs.alone.Driving.{BrokeOff, Drives, Drove}
use Rattle.ftp_server_driver.specs.alone.Side.{server_machine, server_side}
use Rattle.ftp_server_driver.proofs.shared.Lowering.{Lowered, alone_at, down_breaks, down_action, down_left, lowered}
use Rattle.ftp_server_driver.proofs.shared.Onward.{among_nowhere}
use Rattle.ftp_server_driver.proofs.shared.Whole.{broke_among, drove_among}
use Rattle.ftp_server_driver.specs.shared.Among.{BrokeOffAmong, DrivesAmong, DroveAmong, ended_so}
use Rattle.ftp_server_driver.specs.shared.Lending.{lent_at, lent_side}

module _ (start : Stand server_side) (unwritten : start.owner.channel.unwritten ≡ []) (untold : start.owner.channel.untold ≡ []) where
  -- one that came to its end
  drove_alone : (now : Stand server_side) → DroveAmong [] (lent_at start) (lent_at now) → Drove start now
  drove_alone now drove =
      let actions : List (Action lent_side) = drove.did.actions in
      let led = drove.did.sums.led in
      let down : Lowered actions (lent_at start) led.0 = lowered actions (lent_at start) led.0 drove.brings led.1 in
      let last : Action server_side = Other (Left drove.asked) in
      let all : Led (last ∷ map down_action actions) start now = (alone_at led.0, down.led, down_left drove.asked led.0 (lent_at now) led.2) in
      record {
        asked = drove.asked;
        did = record {
          actions = map down_action actions;
          sums = sums (last ∷ map down_action actions) start now all;
          carries = carries move_of (carrier server_machine) (last ∷ map down_action actions) start now all unwritten untold;
        };
        over = drove.over;
      }

  -- one that broke off
  broke_alone : (cause : Cause) (failed : Bool) (now : Stand server_side) → BrokeOffAmong cause failed [] (lent_at start) (lent_at now)
      → BrokeOff cause failed start now
  broke_alone cause failed now broke =
      let breaks = broke.breaks in
      let actions : List (Action lent_side) = breaks.actions in
      let mid : Stand lent_side = breaks.cuts.mid in
      let off : Stand server_side = alone_at broke.off in
      let down : Lowered actions (lent_at start) mid = lowered actions (lent_at start) mid broke.brings breaks.cuts.led in
      let fails : Fails cause start off = record {
        mid = alone_at mid;
        leads = record { actions = map down_action actions; led = down.led };
        octets = breaks.last;
        breaks = down_breaks breaks.last mid broke.off breaks.cuts.breaks;
        spent = λ is. omega (arith, breaks.spent is, down.steps);
      } in
      record {
        off = off;
        breaks = record {
          actions = fails.leads.actions;
          last = fails.octets;
          cuts = cuts cause start off fails;
          spent = fails.spent;
          stood = fails.mid.owner.channel;
          carries = carries move_of (carrier server_machine) fails.leads.actions start fails.mid fails.leads.led unwritten untold;
          lets = stood_so server_machine fails.octets fails.mid off fails.breaks;
          why = breaks.why;
        };
        stays = ap alone_at broke.stays;
        cut = broke.cut;
        is_cut = broke.is_cut;
        end = broke.end;
        asked = broke.asked;
        left = broke.left;
        fair = broke.fair;
      }

  -- what is said of a session among others is said of a server of its own
  pub alone : (failed : Bool) (now : Stand server_side) (r : Result ⊤ Cause) → DrivesAmong failed [] (lent_at start) (lent_at now) (ended_so r)
      → Drives failed start now r
  alone failed now (Ok over) drives = drove_alone now drives
  alone failed now (Err cause) drives = broke_alone cause failed now drives

  -- and the other way
  pub among : (failed : Bool) (now : Stand server_side) (r : Result ⊤ Cause) → Drives failed start now r
      → DrivesAmong failed [] (lent_at start) (lent_at now) (ended_so r)
  among failed now (Ok over) drives = drove_among [] (lent_at start) unwritten untold start now (among_nowhere (lent_at start))
      (record { actions = drives.did.actions; asked = drives.asked; led = drives.did.sums.led; over = drives.over })
  among failed now (Err cause) drives = broke_among [] (lent_at start) unwritten untold cause failed start now (among_nowhere (lent_at start)) (record {
    off = drives.off;
    fails = record {
      mid = drives.breaks.cuts.mid;
      leads = record { actions = drives.breaks.actions; led = drives.breaks.cuts.led };
      octets = drives.breaks.last;
      breaks = drives.breaks.cuts.breaks;
      spent = drives.breaks.spent;
    };
    why = drives.breaks.why;
    stays = drives.stays;
    cut = drives.cut;
    is_cut = drives.is_cut;
    end = drives.end;
    asked = drives.asked;
    left = drives.left;
    fair = drives.fair;
  })
