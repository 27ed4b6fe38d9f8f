use Rattle.std.proofs.Common.{◌≡◌, ◌+◌, ◌++◌, length, take, sym, ap, ◌∙◌, arith}
use Rattle.ftp_tree.proofs.DeviceLemmas.{install-no, map-tells}
use Rattle.ftp_tree.specs.Tree.{install_refusal, octets_or_none, under}
use Rattle.ftp_disk_tree.specs.Note.{taken}
use Rattle.ftp_disk_tree.specs.Stray.{front_of}
use Rattle.ftp_disk_tree.proofs.PutLemmas.{absent-kept, put-absent, put-as, put-done, put-free}
use Rattle.ftp_disk_tree.proofs.disk.DiskTreeTreeGlobal.put.Goals as goal

pub returns-in-Some-clause-told : goal.returns-in-Some-clause-told
returns-in-Some-clause-told g c = map-tells (Unit {0}) _ c.in-Some.fault c.args.self.now.device (install-no _ _ _) (sym c.put_refusal.ensures ∙ c.in-Some.is)

pub returns-in-Some-old_file-clause-done : goal.returns-in-Some-old_file-clause-done
returns-in-Some-old_file-clause-done g c =
    let holds = g.K.Held.holds in
    let part = under c.args.self.now.nodes c.args.root.now in
    let there = take c.args.keep (octets_or_none part c.args.path.now) in
    let came = taken c.args.came.written.events in
    let none = put-free part c.args.path.now there came c.len.result (sym c.put_refusal.ensures ∙ c.in_default.is) c.len.ensures in
    let put = put-as c.put_at.result holds c.put_at.new.self.version c.args.self.now.nodes c.put_at.new.self.nodes c.args.root.now c.args.path.now
    (front_of holds c.in-Some-old_file.old.front ++ came) (there ++ came) c.args.moment.seconds c.args.self.now.device c.put_at.new.self.device
    (ap (λ front. front ++ came) c.in-Some-old_file.ensures.1) c.put_at.ensures.put in
    λ calm. put-done c.put_at.result holds c.put_at.new.self.version c.args.self.now.nodes c.put_at.new.self.nodes c.args.root.now c.args.path.now (there ++ came)
    c.args.moment.seconds c.args.self.now.device c.put_at.new.self.device none put calm

pub put_new-requires-clause-absent : goal.put_new-requires-clause-absent
put_new-requires-clause-absent g c = put-absent _ c.args.path.now _ (sym c.put_refusal.ensures ∙ c.in_default.is) c.in-None.ensures

pub put_new-requires-clause-free : goal.put_new-requires-clause-free
put_new-requires-clause-free g c =
    let part = under c.args.self.now.nodes c.args.root.now in
    let none = sym c.put_refusal.ensures ∙ c.in_default.is in
    let kept = absent-kept part c.args.path.now c.args.keep (put-absent part c.args.path.now _ none c.in-None.ensures) in
    let many : length (taken c.args.came.written.events) ≡ length (take c.args.keep (octets_or_none part c.args.path.now)) + c.len.result = omega (arith, ap length kept, c.len.ensures) in
    ap (install_refusal part c.args.path.now) many ∙ none

pub returns-in-None-clause-put : goal.returns-in-None-clause-put
returns-in-None-clause-put g c =
    let part = under c.args.self.now.nodes c.args.root.now in
    let there = take c.args.keep (octets_or_none part c.args.path.now) in
    let came = taken c.args.came.written.events in
    let kept = absent-kept part c.args.path.now c.args.keep (put-absent part c.args.path.now _ (sym c.put_refusal.ensures ∙ c.in_default.is) c.in-None.ensures) in
    put-as c.put_new.result g.K.Held.holds c.put_new.new.self.version c.args.self.now.nodes c.put_new.new.self.nodes c.args.root.now c.args.path.now
    came (there ++ came) c.args.moment.seconds c.args.self.now.device c.put_new.new.self.device (ap (λ front. front ++ came) kept) c.put_new.ensures.put

pub returns-in-None-clause-done : goal.returns-in-None-clause-done
returns-in-None-clause-done g c =
    let part = under c.args.self.now.nodes c.args.root.now in
    let there = take c.args.keep (octets_or_none part c.args.path.now) in
    let came = taken c.args.came.written.events in
    let none = sym c.put_refusal.ensures ∙ c.in_default.is in
    let kept = absent-kept part c.args.path.now c.args.keep (put-absent part c.args.path.now _ none c.in-None.ensures) in
    let put = put-as c.put_new.result g.K.Held.holds c.put_new.new.self.version c.args.self.now.nodes c.put_new.new.self.nodes c.args.root.now c.args.path.now
    came (there ++ came) c.args.moment.seconds c.args.self.now.device c.put_new.new.self.device (ap (λ front. front ++ came) kept) c.put_new.ensures.put in
    λ calm. put-done c.put_new.result g.K.Held.holds c.put_new.new.self.version c.args.self.now.nodes c.put_new.new.self.nodes c.args.root.now c.args.path.now (there ++ came)
    c.args.moment.seconds c.args.self.now.device c.put_new.new.self.device (put-free part c.args.path.now there came c.len.result none c.len.ensures) put calm
