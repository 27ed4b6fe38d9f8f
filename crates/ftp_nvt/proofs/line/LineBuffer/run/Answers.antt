use Rattle.std.proofs.Common.{rules, arith, length, take, ◌≡◌, ◌≤◌, ◌+◌, ◌++◌, ◌∙◌, ap, false, length-take, get_or, ℕ, List, min, ◌<◌}
use Rattle.memchr.specs.Find.{is_byte3}
use Rattle.ftp_nvt.proofs.BufferLemmas.{run_reads}
use Rattle.ftp_nvt.proofs.CutLemmas.{all_take, NoEnds, no_line_end, no_return, no_command}
use Rattle.ftp_nvt.proofs.line.LineBuffer.run.Goals as goal

none : (piece : List ℕ) (run taken room : ℕ) → taken ≡ min run room → run ≤ length piece → ((k : ℕ) → k < run → is_byte3 10 13 255 (get_or piece k 0) ≡ false) → NoEnds (take taken piece)
none piece run taken room is within plain =
    all_take (λ x. is_byte3 10 13 255 x ≡ false) piece taken (omega arith) (λ k less. plain k (omega arith))

pub returns : goal.returns
returns g c = record {
  within = search rules;
  some = search rules;
  bare =
      let plain = c.plain_run.ensures in
      no_command _ (none c.args.piece.now c.plain_run.result c.min-taken.result _ c.min-taken.ensures plain.within plain.plain);
  reads =
      let taken = c.min-taken.result in
      let piece = c.args.piece.now in
      let put = c.put_run.ensures in
      let plain = c.plain_run.ensures in
      let ends : NoEnds (take taken piece) = none piece c.plain_run.result taken _ c.min-taken.ensures plain.within plain.plain in
      let fits : c.args.self.now.count + length (take taken piece) ≤ c.args.self.now.limit =
      omega (arith, length-take taken piece, c.min-taken.ensures, c.args.self.now.within) in
      run_reads c.args.self.now c.put_run.new.self (take taken piece) c.requires.stage (put.stage ∙ c.requires.stage) put.limit
      (put.count ∙ ap (λ l. c.args.self.now.count + length l) c.split_at.ensures.front)
      (put.text ∙ ap (λ l. c.args.self.now.text.items ++ l) c.split_at.ensures.front)
      (no_line_end (take taken piece) ends) (no_return (take taken piece) ends) fits;
}
