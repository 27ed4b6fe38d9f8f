use Rattle.std.proofs.Common.{◌≡◌, ◌<◌, length, ap, sym, ◌∙◌, arith}
use Rattle.std.proofs.lemmas.Grind.{common_steps}
use Rattle.ftp_path.specs.Path.{text_of, is_path_text}
use Rattle.ftp_path.proofs.PathLemmas.{text_of-kept, text_of-none, kept-path_text, kept-le}
use Rattle.ftp_path.proofs.TextLemmas.{root-text}
use Rattle.ftp_path.proofs.path.Path.text.Goals as goal

pub returns-then-is_empty-clause-text : goal.returns-then-is_empty-clause-text
returns-then-is_empty-clause-text g c =
    let text = c.self.inside.octets.items in
    let none : length text ≡ 0 = grind (arith, common_steps) in
    c.as_slice.ensures ∙ sym (text_of-none text c.self.invariant.joins none) ∙ ap text_of c.self.view_is

pub returns-else-is_empty-clause-text : goal.returns-else-is_empty-clause-text
returns-else-is_empty-clause-text g c =
    let text = c.self.inside.octets.items in
    let some : 0 < length text = grind (arith, common_steps) in
    c.as_slice-else-is_empty.ensures.value ∙ sym (text_of-kept text c.self.invariant.joins some) ∙ ap text_of c.self.view_is

pub returns-then-is_empty-clause-path_text : goal.returns-then-is_empty-clause-path_text
returns-then-is_empty-clause-path_text g c = ap is_path_text c.as_slice.ensures ∙ root-text

pub returns-else-is_empty-clause-path_text : goal.returns-else-is_empty-clause-path_text
returns-else-is_empty-clause-path_text g c =
    let text = c.self.inside.octets.items in
    let some : 0 < length text = grind (arith, common_steps) in
    ap is_path_text c.as_slice-else-is_empty.ensures.value ∙ kept-path_text text c.self.invariant some

pub returns-else-is_empty-clause-bound : goal.returns-else-is_empty-clause-bound
returns-else-is_empty-clause-bound g c = rw c.as_slice-else-is_empty.ensures.value (kept-le c.self.inside.octets.items c.self.invariant)
