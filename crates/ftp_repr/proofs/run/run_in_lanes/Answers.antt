use Rattle.std.proofs.Common.{◌≡◌, ℕ, length, take, ◌==◌, sym, subst, arith}
use Rattle.std.specs.List.{prefix_len}
use Rattle.std.proofs.Math.Bool.{not}
use Rattle.std.proofs.lemmas.List.{length-take-le}
use Rattle.ftp_repr.specs.Runs.{IsRun, is_changed}
use Rattle.ftp_settings.specs.declared.representation.Kind.TheVariants.{Ascii}
use Rattle.ftp_settings.specs.declared.representation.Structure.TheVariants.{File}
use Rattle.ftp_repr.proofs.LineEndLemmas.{run_is, either_len, first_lane}
use Rattle.ftp_repr.proofs.run.run_in_lanes.Goals as goal

pub returns : goal.returns
returns c =
    let v = take 32 c.args.piece.now in
    let long : length v ≡ 32 = length-take-le 32 c.args.piece.now c.requires in
    let feed = first_lane v 10 long in
    let back = first_lane v 13 long in
    let both = either_len (λ d. d == 10) (λ d. d == 13) v in
    let is : c.min.result ≡ prefix_len (λ d. not (is_changed Ascii File d)) v = omega (arith, c.min.ensures, c.min-first.ensures, feed, back, both) in
    let P : ℕ → Type 0 = λ n. IsRun (is_changed Ascii File) v n in
    record { run = subst P (sym is) (run_is (is_changed Ascii File) v) }
