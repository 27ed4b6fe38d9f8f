use Rattle.std.proofs.Common.{◌+◌, ◌≤◌, ℕ, List, length, take, drop, ap, subst, arith}
use Rattle.ftp_repr.specs.Runs.{IsRun, is_changed}
use Rattle.ftp_settings.specs.declared.representation.Kind.TheVariants.{Ascii}
use Rattle.ftp_settings.specs.declared.representation.Structure.TheVariants.{File}
use Rattle.ftp_repr.proofs.LineEndLemmas.{run_behind, run_in_front, passed_more}
use Rattle.ftp_repr.proofs.run.before_pair.Goals as goal

pub returns-then-run-lt-LANES : goal.returns-then-run-lt-LANES
returns-then-run-lt-LANES c =
    let piece = c.args.piece.now in
    let at = c.loop-at.at in
    let run = c.run_in_lanes-run.result in
    let P : List ℕ → Type 0 = λ l. IsRun (is_changed Ascii File) (take 32 l) run in
    let front : IsRun (is_changed Ascii File) (take 32 (drop at piece)) run = subst P c.split_at.ensures.back c.run_in_lanes-run.ensures.run in
    let long : 32 ≤ length (drop at piece) = omega (arith, ap length c.split_at.ensures.back, c.split_at.ensures.back_len) in
    record { run = run_behind (is_changed Ascii File) piece at run c.loop-at.invariant.within c.loop-at.invariant.passed (run_in_front (is_changed Ascii File) (drop at piece) 32 run long c.if-run-lt-LANES.true front) }

pub loop-at-preserved : goal.loop-at-preserved
loop-at-preserved c =
    let piece = c.args.piece.now in
    let at = c.loop-at.at in
    let run = c.run_in_lanes-run.result in
    let P : List ℕ → Type 0 = λ l. IsRun (is_changed Ascii File) (take 32 l) run in
    let within : at + 32 ≤ length piece = omega arith in
    let full : 32 ≤ run = omega (arith, c.if-run-lt-LANES.false) in
    record {
      within = within;
      passed = passed_more (is_changed Ascii File) piece at 32 run full c.loop-at.invariant.passed (subst P c.split_at.ensures.back c.run_in_lanes-run.ensures.run);
    }

pub returns : goal.returns
returns c =
    let piece = c.args.piece.now in
    let at = c.loop-at.at in
    let P : List ℕ → Type 0 = λ l. IsRun (is_changed Ascii File) l c.run_one_by_one.result in
    record { run = run_behind (is_changed Ascii File) piece at c.run_one_by_one.result c.loop-at.invariant.within c.loop-at.invariant.passed (subst P c.split_at-2.ensures.back c.run_one_by_one.ensures.run) }
