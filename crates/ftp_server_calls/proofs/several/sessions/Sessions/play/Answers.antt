use Rattle.ftp_server_calls.specs.one.Cues.{gifts_of}
use Rattle.ftp_server_calls.proofs.several.PlayLemmas.{each_is_own, keeps_company, plays_as}
use Rattle.ftp_server_calls.specs.several.Playing.{turns_of}
use Rattle.ftp_server_calls.specs.several.Slots.{slots_seen}
use Rattle.ftp_server_calls.proofs.several.sessions.Sessions.play.Goals as goal

pub returns-clause-plays : goal.returns-clause-plays
returns-clause-plays g c =
    let slots = slots_seen g.T.Tree.table g.T.Tree.failures g.F.Far.server in let played = c.in_ok-played.played in
    plays_as played.calm (turns_of c.args.turns.now) (gifts_of played.gifts.items) (slots c.args.self.now) (slots c.play_all.new.self) c.in_ok-played.ensures.made

pub returns-clause-own : goal.returns-clause-own
returns-clause-own g c =
    let slots = slots_seen g.T.Tree.table g.T.Tree.failures g.F.Far.server in let played = c.in_ok-played.played in
    let old = slots c.args.self.now in let new = slots c.play_all.new.self in
    each_is_own played.calm (turns_of c.args.turns.now) (gifts_of played.gifts.items) old new
    (plays_as played.calm (turns_of c.args.turns.now) (gifts_of played.gifts.items) old new c.in_ok-played.ensures.made)

pub returns-clause-unseen : goal.returns-clause-unseen
returns-clause-unseen g c =
    let slots = slots_seen g.T.Tree.table g.T.Tree.failures g.F.Far.server in let played = c.in_ok-played.played in
    let old = slots c.args.self.now in let new = slots c.play_all.new.self in
    keeps_company played.calm (turns_of c.args.turns.now) (gifts_of played.gifts.items) old new
    (plays_as played.calm (turns_of c.args.turns.now) (gifts_of played.gifts.items) old new c.in_ok-played.ensures.made)
