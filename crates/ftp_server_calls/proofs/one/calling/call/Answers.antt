use Rattle.ftp_server_model.proofs.CountLemmas.{sure_course}
use Rattle.ftp_server_calls.proofs.one.CallLemmas.{on_course}
use Rattle.ftp_server_calls.specs.one.Cues.{cue_of}
use Rattle.ftp_server_calls.proofs.one.calling.call.Goals as goal

pub returns-clause-makes : goal.returns-clause-makes
returns-clause-makes g c =
    let server = g.S.Far.server in let old = server c.args.server.now in let new = server c.make.new.server in
    on_course (cue_of c.args.cue.now) c.make.result old new
    (sure_course old.counts new.counts (g.met.S.SureFar.never c.args.server.now) (g.met.S.SureFar.never c.make.new.server)) c.make.ensures.makes
