use Rattle.std.proofs.Common.{rules, arith, length, take, get_or, ◌≡◌, ◌<◌, ◌≤◌, ◌+◌, ◌∷◌, [], ◌++◌, ◌∙◌, ap, sym, subst, refl, false, ℕ, List, ◌==◌}
use Rattle.std.proofs.lemmas.Grind.{take_at_read}
use Rattle.memchr.specs.Find.{is_byte2}
use Rattle.ftp_nvt.specs.Lines.{IsNoneOf}
use Rattle.ftp_nvt.proofs.BufferLemmas.{skip_reads, skip_through}
use Rattle.ftp_nvt.proofs.CutLemmas.{all_take, all_append, first_false, second_false}
use Rattle.ftp_nvt.proofs.line.LineBuffer.skip.Goals as goal

no_line_end : (piece : List ℕ) (run : ℕ) → run ≤ length piece → ((k : ℕ) → k < run → is_byte2 10 255 (get_or piece k 0) ≡ false) → IsNoneOf 10 (take run piece)
no_line_end piece run within plain =
    all_take (λ x. (x == 10) ≡ false) piece run within (λ k less. first_false _ (get_or piece k 0 == 255) (plain k less))

no_command : (piece : List ℕ) (run : ℕ) → run ≤ length piece → ((k : ℕ) → k < run → is_byte2 10 255 (get_or piece k 0) ≡ false) → IsNoneOf 255 (take run piece)
no_command piece run within plain =
    all_take (λ x. (x == 255) ≡ false) piece run within (λ k less. second_false (get_or piece k 0 == 10) _ (plain k less))

line_end_behind : (piece : List ℕ) (run : ℕ) → run < length piece → get_or piece run 0 ≡ 10 → take (run + 1) piece ≡ take run piece ++ 10 ∷ []
line_end_behind piece run inside is = (take_at_read piece run 0 inside).1 ∙ ap (λ x. take run piece ++ x ∷ []) is

pub returns-then-piece-taken-eq-LF : goal.returns-then-piece-taken-eq-LF
returns-then-piece-taken-eq-LF g c = record {
  within = search rules;
  some = omega arith;
  bare =
      let piece = c.args.piece.now in
      let run = c.skipped_run-taken.result in
      let skipped = c.skipped_run-taken.ensures in
      subst (λ l. IsNoneOf 255 l) (sym (line_end_behind piece run c.if-taken-piece.true c.if-piece-taken-eq-LF.true))
      (all_append _ (take run piece) (10 ∷ []) (no_command piece run skipped.within skipped.plain) (refl, tt));
  reads =
      let piece = c.args.piece.now in
      let run = c.skipped_run-taken.result in
      let skipped = c.skipped_run-taken.ensures in
      skip_through c.args.self.now _ piece run c.requires.stage refl refl (no_line_end piece run skipped.within skipped.plain)
      (line_end_behind piece run c.if-taken-piece.true c.if-piece-taken-eq-LF.true);
}

pub returns : goal.returns
returns g c = record {
  within = c.skipped_run-taken.ensures.within;
  some = search rules;
  bare =
      no_command c.args.piece.now c.skipped_run-taken.result c.skipped_run-taken.ensures.within c.skipped_run-taken.ensures.plain;
  reads =
      let skipped = c.skipped_run-taken.ensures in
      skip_reads c.args.self.now (take c.skipped_run-taken.result c.args.piece.now) c.requires.stage (no_line_end c.args.piece.now c.skipped_run-taken.result skipped.within skipped.plain);
}
