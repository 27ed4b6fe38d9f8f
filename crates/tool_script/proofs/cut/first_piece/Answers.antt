use Rattle.std.proofs.Common.{◌==◌, ◌∷◌, ◌∙◌, drop, sym, ap}
use Rattle.std.specs.List.{slice_split}
use Rattle.tool_script.proofs.CutLemmas.{first_cut, none_cut}
use Rattle.tool_script.proofs.cut.first_piece.Goals as goal

pub returns-in_default-clause-parts : goal.returns-in_default-clause-parts
returns-in_default-clause-parts c = none_cut c.args.octet c.args.text.now c.in_default.ensures

pub returns-clause-parts : goal.returns-clause-parts
returns-clause-parts c =
    let text = c.args.text.now in
    let at = c.in-Some.at in
    first_cut c.args.octet text at c.in-Some.ensures
    ∙ ap (λ l. l ∷ slice_split (λ other. other == c.args.octet) (drop 1 (drop at text))) (sym c.split_at.ensures.front)
    ∙ ap (λ l. c.split_at.result.0.now ∷ slice_split (λ other. other == c.args.octet) l) (sym (c.split_at-2.ensures.back ∙ ap (drop 1) c.split_at.ensures.back))
