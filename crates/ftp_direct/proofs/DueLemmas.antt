-- What is due to an operation that gets a file's octets, or puts some from an offset on, as its parts were found.
use Rattle.std.proofs.Common.{◌≡◌, ◌+◌, ℕ, min, not, List, length, take, drop, Some, None, is_some, ap, sym, ◌∙◌}
use Rattle.std.specs.Option.{unwrap_or}
use Rattle.std.proofs.lemmas.List.{take_min}
use Rattle.std.proofs.Math.Seq.{take-length}
use Rattle.ftp_path.specs.Path.{Names, resolved}
use Rattle.ftp_tree.specs.Tree.{Table, octets_or_none, under, whenever}
use Rattle.ftp_tree.specs.declared.fault.TreeFault.TheVariants.{BadOffset}
use Rattle.ftp_operation.specs.declared.op.How.{How}
use Rattle.ftp_operation.specs.declared.op.Op.TheVariants as Ops
use Rattle.ftp_operation.specs.Answer.{Octets}
use Rattle.ftp_direct.specs.Direct.{chosen, counted_place, due, here, offset_refusal, or_refused, no_place_refusal, put, put_refusal, refused_file, refused_name, refused_there, skipped}

module _ (table : Table) (root cwd : Names) (text : List ℕ) (path : Names) (at : path ≡ resolved cwd text) where
  seen : Names → List ℕ
  seen p = octets_or_none (under table root) p

  pub get_due : (how : How) (end : ℕ) → refused_file (here table root cwd) text ≡ None → end ≡ length (octets_or_none (under table root) path)
      → (Octets (drop 0 (take end (octets_or_none (under table root) path))), here table root cwd) ≡ due (here table root cwd) (Ops.Get text how) 0
  unfolding seen
  get_due how end free all =
      let old = here table root cwd in
      ap (λ octets. (Octets octets, old)) (ap (λ n. take n (seen path)) all ∙ take-length (seen path) ∙ ap seen at)
      ∙ ap (λ refusal. chosen refusal old (Octets (seen (resolved cwd text)), old)) (sym free)

  pub peek_due : (how : How) (count end : ℕ) → refused_file (here table root cwd) text ≡ None → end ≡ min count (length (octets_or_none (under table root) path))
      → (Octets (drop 0 (take end (octets_or_none (under table root) path))), here table root cwd) ≡ due (here table root cwd) (Ops.Peek text count how) 0
  unfolding seen
  peek_due how count end free all =
      let old = here table root cwd in
      ap (λ octets. (Octets octets, old)) (ap (λ n. take n (seen path)) all ∙ take_min count (seen path) ∙ ap (λ p. take count (seen p)) at)
      ∙ ap (λ refusal. chosen refusal old (Octets (take count (seen (resolved cwd text))), old)) (sym free)

  pub from_due : (offset : ℕ) (how : How) (place end : ℕ) → offset_refusal offset how ≡ None → refused_file (here table root cwd) text ≡ None
      → Some place ≡ counted_place how.representation.kind (octets_or_none (under table root) path) offset → end ≡ length (octets_or_none (under table root) path)
      → (Octets (drop place (take end (octets_or_none (under table root) path))), here table root cwd) ≡ due (here table root cwd) (Ops.GetFrom text offset how) 0
  unfolding seen
  from_due offset how place end takes free led all =
      let old = here table root cwd in
      let file = seen (resolved cwd text) in
      let leads = led ∙ ap (λ p. counted_place how.representation.kind (seen p) offset) at in
      ap (λ octets. (Octets (drop place octets), old)) (ap (λ n. take n (seen path)) all ∙ take-length (seen path) ∙ ap seen at)
      ∙ ap (λ p. chosen (refused_there (whenever (not (is_some p)) BadOffset)) old (Octets (drop (unwrap_or p 0) file), old)) leads
      ∙ ap (λ refusal. chosen (or_refused refusal (refused_there (no_place_refusal old (resolved cwd text) how offset))) old (Octets (drop (skipped old (resolved cwd text) how offset) file), old)) (sym free)
      ∙ ap (λ refusal. chosen (or_refused refusal (or_refused (refused_file old text) (refused_there (no_place_refusal old (resolved cwd text) how offset)))) old (Octets (drop (skipped old (resolved cwd text) how offset) file), old)) (sym takes)

  pub put_from_due : (offset : ℕ) (how : How) (place : ℕ) (octets : List ℕ) (moment : ℕ) → offset_refusal offset how ≡ None
      → Some place ≡ counted_place how.representation.kind (octets_or_none (under table root) path) offset
      → chosen (put_refusal (here table root cwd) path (place + length octets)) (here table root cwd)
      (put (here table root cwd) path (take place (octets_or_none (under table root) path)) octets moment)
      ≡ due (here table root cwd) (Ops.PutFrom text offset octets how) moment
  unfolding seen
  put_from_due offset how place octets moment takes led =
      let old = here table root cwd in
      let named = resolved cwd text in
      let leads = led ∙ ap (λ p. counted_place how.representation.kind (seen p) offset) at in
      ap (λ p. chosen (put_refusal old p (place + length octets)) old (put old p (take place (seen p)) octets moment)) at
      ∙ ap (λ p. chosen (or_refused (refused_name (whenever (not (is_some p)) BadOffset)) (put_refusal old named (unwrap_or p 0 + length octets))) old
      (put old named (take (unwrap_or p 0) (seen named)) octets moment)) leads
      ∙ ap (λ refusal. chosen (or_refused refusal (or_refused (refused_name (no_place_refusal old named how offset)) (put_refusal old named (skipped old named how offset + length octets)))) old
      (put old named (take (skipped old named how offset) (seen named)) octets moment)) (sym takes)
