use Rattle.std.proofs.Common.{◌++◌, [], ap, inl, inr}
use Rattle.tool_job.specs.single.Parents.{entering, making}
use Rattle.tool_job.proofs.AskingLemmas.{ends_behind, exchanged_then}
use Rattle.tool_job.proofs.single.parents.MakingSessionTaskResultAnswerGlobalSessionFault.play.Goals as goal

pub returns-then-not-is_refused : goal.returns-then-not-is_refused
returns-then-not-is_refused g c =
    let e = c.enter-entered.ensures in (
      e.0,
      e.1,
      λ done. ends_behind c.args.self.now.path.now [] (entering c.as_bytes.result.now) e.0 c.enter-entered.result (inl (ap entering c.as_bytes.ensures.value)) e.2 done,
    )

pub returns-in-Some : goal.returns-in-Some
returns-in-Some g c =
    let e = c.enter-entered.ensures in
    let m = c.in-Some.ensures in (
      e.0 ++ m.0,
      exchanged_then g.S.ClientSession.answers c.args.slot.now c.enter-entered.new.slot c.make_above.new.slot e.0 m.0 e.1 m.1,
      λ done. absurd (m.2 done),
    )

pub returns : goal.returns
returns g c =
    let answers = g.S.ClientSession.answers in
    let e = c.enter-entered.ensures in
    let m = c.make_above.ensures in
    let k = c.make.ensures in
    let old = c.args.slot.now in
    let mid = c.make_above.new.slot in (
      (e.0 ++ m.0) ++ k.0,
      exchanged_then answers old mid c.make.new.slot (e.0 ++ m.0) k.0 (exchanged_then answers old c.enter-entered.new.slot mid e.0 m.0 e.1 m.1) k.1,
      λ done. ends_behind c.args.self.now.path.now (e.0 ++ m.0) (making c.as_bytes-whole.result.now) k.0 c.make.result
          (inr (c.trim_end_matches.result.now, c.trim_end_matches.ensures.matches, ap making c.as_bytes-whole.ensures.value)) k.2 done,
    )
