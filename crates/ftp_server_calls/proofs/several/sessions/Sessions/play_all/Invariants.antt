use Rattle.std.proofs.Common.{◌≡◌, length, take}
use Rattle.ftp_server_calls.specs.one.Cues.{gifts_of}
use Rattle.ftp_server_calls.specs.several.Playing.{AreTaken, turns_of}
use Rattle.ftp_server_calls.specs.several.Slots.{slots_seen}
use Rattle.ftp_server_calls.proofs.several.sessions.Sessions.play_all.Given as goal

abbrev pub invariant-loop-turn : goal.invariant-loop-turn
invariant-loop-turn g l =
    let slots = slots_seen g.T.Tree.table g.T.Tree.failures g.F.Far.server in
    record {
      made : AreTaken l.calm (turns_of (take l.turn-index l.turns)) (gifts_of l.gifts.items) (slots l.fn.self) (slots l.self);
      long : length l.gifts.items ≡ l.turn-index;
    }
