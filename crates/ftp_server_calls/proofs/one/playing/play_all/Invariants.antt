use Rattle.std.proofs.Common.{◌≡◌, length, take}
use Rattle.ftp_server_calls.specs.one.Cues.{cues_of, gifts_of}
use Rattle.ftp_server_calls.specs.one.Making.{ArePlayed}
use Rattle.ftp_server_calls.proofs.one.playing.play_all.Given as goal

abbrev pub invariant-loop-cue : goal.invariant-loop-cue
invariant-loop-cue g l =
    let server = g.S.Far.server in
    record {
      made : ArePlayed l.calm (cues_of (take l.cue-index l.cues)) (gifts_of l.gifts.items) (server l.fn.server) (server l.server);
      long : length l.gifts.items ≡ l.cue-index;
    }
