use Rattle.std.proofs.Common.{◌≡◌, ap, arith, false, sym, ◌∙◌}
use Rattle.ftp_disk_scan.specs.loading.Compared.{all_agree}
use Rattle.ftp_disk_tree.proofs.StrayLemmas.{nothing_found, other_found, same_found}
use Rattle.ftp_disk_tree.proofs.disk.DiskTree.look_again.Goals as goal

pub returns-in_err-findings-clause-strays : goal.returns-in_err-findings-clause-strays
returns-in_err-findings-clause-strays g c = omega (arith, nothing_found c.none-self.result.pairs c.none-self.ensures)

pub returns-then-is_empty-clause-strays : goal.returns-then-is_empty-clause-strays
returns-then-is_empty-clause-strays g c =
    let same : c.adopt.new.self.pairs ≡ c.in_ok-findings.findings.changes.compared.pairs = c.adopt.ensures ∙ ap (λ compared. compared.pairs) c.compared.ensures in
    omega (arith, same_found c.adopt.new.self.pairs (ap all_agree same ∙ sym c.is_empty.ensures ∙ c.if-is_empty.true))

pub returns-in_err-take-clause-strays : goal.returns-in_err-take-clause-strays
returns-in_err-take-clause-strays g c =
    let same : c.adopt.new.self.pairs ≡ c.in_ok-findings.findings.changes.compared.pairs = c.adopt.ensures ∙ ap (λ compared. compared.pairs) c.compared.ensures in
    let kept : c.take.new.self.compared.pairs ≡ c.adopt.new.self.pairs = ap (λ compared. compared.pairs) c.take.ensures.compared in
    let differ : all_agree c.take.new.self.compared.pairs ≡ false = ap all_agree (kept ∙ same) ∙ sym c.is_empty.ensures ∙ c.if-is_empty.false in
    omega (arith, c.take.ensures.strays, other_found c.take.new.self.compared.pairs differ)

pub returns-clause-strays : goal.returns-clause-strays
returns-clause-strays g c =
    let same : c.adopt.new.self.pairs ≡ c.in_ok-findings.findings.changes.compared.pairs = c.adopt.ensures ∙ ap (λ compared. compared.pairs) c.compared.ensures in
    let kept : c.take.new.self.compared.pairs ≡ c.adopt.new.self.pairs = ap (λ compared. compared.pairs) c.take.ensures.compared in
    let differ : all_agree c.take.new.self.compared.pairs ≡ false = ap all_agree (kept ∙ same) ∙ sym c.is_empty.ensures ∙ c.if-is_empty.false in
    omega (arith, c.take.ensures.strays, other_found c.take.new.self.compared.pairs differ)
