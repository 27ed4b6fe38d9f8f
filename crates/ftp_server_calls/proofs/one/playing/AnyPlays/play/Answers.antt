use Rattle.ftp_server_calls.proofs.one.PlayLemmas.{keeps_apart, plays_as}
use Rattle.ftp_server_calls.specs.one.Cues.{cues_of, gifts_of}
use Rattle.ftp_server_calls.proofs.one.playing.AnyPlays.play.Goals as goal

pub returns-clause-plays : goal.returns-clause-plays
returns-clause-plays g c =
    let server = g.S.Far.server in let played = c.in_ok-played.played in
    plays_as played.calm (cues_of c.args.cues.now) (gifts_of played.gifts.items) (server c.args.self.now) (server c.play_all.new.server) c.in_ok-played.ensures.made

pub returns-clause-apart : goal.returns-clause-apart
returns-clause-apart g c =
    let server = g.S.Far.server in let played = c.in_ok-played.played in
    let old = server c.args.self.now in let new = server c.play_all.new.server in
    keeps_apart played.calm (cues_of c.args.cues.now) (gifts_of played.gifts.items) old new
    (plays_as played.calm (cues_of c.args.cues.now) (gifts_of played.gifts.items) old new c.in_ok-played.ensures.made)
