use Rattle.std.proofs.lemmas.Result.{on_ok_weaker}
use Rattle.ftp_pair_events.specs.events.Shown.{mark_of}
use Rattle.ftp_pair_events.proofs.events.Marking.{marks_last}
use Rattle.ftp_pair_events.proofs.events.link.mark_last.Goals as goal

pub returns-clause-ok : goal.returns-clause-ok
returns-clause-ok g c =
    on_ok_weaker c.add-added.result (λ h. marks_last mark_of (λ r. r.items) c.args.marks.now.items c.keep.new.items.items c.pop.new.self.items c.args.mark c.in-Some.last c.add-added.new.marks
    c.in-Some.ensures.items c.keep.ensures h) c.add-added.ensures.ok
