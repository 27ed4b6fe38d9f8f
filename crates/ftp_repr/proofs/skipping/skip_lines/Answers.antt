use Rattle.std.proofs.Common.{◌≡◌, ℕ, List, suc, ◌+◌, ◌<◌, length, drop, ap, subst, ◌∙◌, arith}
use Rattle.std.proofs.lemmas.List.{length-drop}
use Rattle.ftp_repr.proofs.SkipLemmas.{goes, IsPlain, run_place, run_goes, pair_goes, pair_inside, goes_cut, place_cut, inside_cut}
use Rattle.ftp_settings.specs.declared.representation.Kind.TheVariants.{Ascii}
use Rattle.ftp_repr.proofs.skipping.skip_lines.Goals as goal

pub returns-then-more-run : goal.returns-then-more-run
returns-then-more-run c =
    let b = c.args.piece.now in
    let at = c.loop-at.at in
    let run = c.plain_run-run.result in
    let P : List ℕ → Type 0 = λ l. IsPlain l run in
    let plain : IsPlain (drop at b) run = subst P c.split_at.ensures.back c.plain_run-run.ensures.run in
    place_cut b at c.args.left c.loop-at.more c.loop-at.more (omega arith) c.loop-at.invariant.goes
    (run_place (drop at b) run c.loop-at.more plain (omega arith))

pub returns-then-more-eq1 : goal.returns-then-more-eq1
returns-then-more-eq1 c =
    let b = c.args.piece.now in
    let at = c.loop-at.at in
    let run = c.plain_run-run.result in
    let P : List ℕ → Type 0 = λ l. IsPlain l run in
    let plain : IsPlain (drop at b) run = subst P c.split_at.ensures.back c.plain_run-run.ensures.run in
    let less : run < length (drop at b) = omega (arith, length-drop at b) in
    inside_cut b at c.args.left (run + 1) (omega arith) (omega arith) (pair_inside (drop at b) run plain less)

pub loop-at-preserved-then-at-piece : goal.loop-at-preserved-then-at-piece
loop-at-preserved-then-at-piece c =
    let b = c.args.piece.now in
    let at = c.loop-at.at in
    let run = c.plain_run-run.result in
    let P : List ℕ → Type 0 = λ l. IsPlain l run in
    let plain : IsPlain (drop at b) run = subst P c.split_at.ensures.back c.plain_run-run.ensures.run in
    let less : run < length (drop at b) = omega (arith, length-drop at b) in
    let same : at + run + 1 ≡ at + suc run = omega arith in
    let e : goes Ascii b (at + run + 1) ≡ goes Ascii b at + (run + 2) =
    ap (goes Ascii b) same ∙ goes_cut b at (suc run) (omega arith) ∙ ap (λ n. goes Ascii b at + n) (pair_goes (drop at b) run plain less) in
    record { within = omega arith; goes = omega (arith, e, c.loop-at.invariant.goes) }

pub loop-at-preserved : goal.loop-at-preserved
loop-at-preserved c =
    let b = c.args.piece.now in
    let at = c.loop-at.at in
    let run = c.plain_run-run.result in
    let P : List ℕ → Type 0 = λ l. IsPlain l run in
    let plain : IsPlain (drop at b) run = subst P c.split_at.ensures.back c.plain_run-run.ensures.run in
    let e : goes Ascii b (at + run) ≡ goes Ascii b at + run =
    goes_cut b at run (omega arith) ∙ ap (λ n. goes Ascii b at + n) (run_goes (drop at b) run run plain (omega arith)) in
    record { within = omega (arith, plain.within, length-drop at b); goes = omega (arith, e, c.loop-at.invariant.goes) }
