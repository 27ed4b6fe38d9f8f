use Rattle.std.proofs.Common.{rules, tests, arith, ◌≡◌, ◌==◌, ◌++◌, ◌∷◌, [], true, false, length}
use Rattle.std.proofs.lemmas.Result.{err_from_is_err_and}
use Rattle.tool_script.specs.declared.script.Script.{Script}
use Rattle.tool_script.proofs.ScriptLemmas.{all_ended, not_ended, refused_before}
use Rattle.tool_script.proofs.script.script_between.Goals as goal

pub returns-in_err-script : goal.returns-in_err-script
returns-in_err-script g c =
    let p = err_from_is_err_and c.from_residual.result c.from_residual.ensures.1 in
    let is : c.args.pieces.now ≡ c.in-Some.lines.now ++ c.in-Some.rest.now ∷ [] = first_of (search rules, cc) in
    rw (p.1, p.2) (refused_before {Y = Script g.row.A.Denot} (λ piece. piece.now) (λ script. ((script.login.user, script.login.pass), script.orders.items))
    c.args.pieces.now c.in-Some.lines.now c.in-Some.rest.now c.in_err-script.field-0.0 is c.in_err-script.ensures)

pub returns-then-is_empty : goal.returns-then-is_empty
returns-then-is_empty g c =
    let is : c.args.pieces.now ≡ c.in-Some.lines.now ++ c.in-Some.rest.now ∷ [] = first_of (search rules, cc) in
    let none : (length c.in-Some.rest.now.now == 0) ≡ true = first_of (search (rules, tests), grind arith) in
    all_ended (λ piece. piece.now) c.args.pieces.now c.in-Some.lines.now c.in-Some.rest.now _ is none c.in_ok-script.ensures

pub returns-else-is_empty : goal.returns-else-is_empty
returns-else-is_empty g c =
    let is : c.args.pieces.now ≡ c.in-Some.lines.now ++ c.in-Some.rest.now ∷ [] = first_of (search rules, cc) in
    let some : (length c.in-Some.rest.now.now == 0) ≡ false = first_of (search (rules, tests), grind arith) in
    not_ended (λ piece. piece.now) c.args.pieces.now c.in-Some.lines.now c.in-Some.rest.now _ is some c.in_ok-script.ensures
