use Rattle.std.proofs.Common.{◌≡◌, ◌++◌, ◌∷◌, [], ◌∙◌, ap, append_assoc}
use Rattle.ftp_reply.specs.Reply.{code_text}
use Rattle.ftp_reply.proofs.WritingLemmas.{code_decimal, put_is}
use Rattle.ftp_reply.proofs.writing.put_marked.Goals as goal

pub returns-clause-ok : goal.returns-clause-ok
returns-clause-ok g c =
    let out = c.args.out.now.items in
    let code = code_text c.args.code in
    let digits : c.as_bytes-digits.result.now ≡ code = c.as_bytes-digits.ensures.value ∙ c.format.ensures.text ∙ code_decimal c.args.code c.requires in
    let put : c.extend_from_slice.new.self.items ≡ out ++ code =
    c.in_ok-extend_from_slice.ensures.items ∙ ap (λ l. l ++ c.as_bytes-digits.result.now) c.in_ok-reserve.ensures.items ∙ ap (λ l. out ++ l) digits in
    let marked : c.push.new.self.items ≡ (out ++ code) ++ c.args.mark ∷ [] = c.in_ok-push.ensures.items ∙ ap (λ l. l ++ c.args.mark ∷ []) put in
    put_is c.extend_from_slice-2.result c.extend_from_slice-2.new.self.items _ _ _ c.extend_from_slice-2.ensures.items
    (ap (λ l. l ++ c.args.text.now) marked ∙ append_assoc (out ++ code) (c.args.mark ∷ []) c.args.text.now ∙ append_assoc out code (c.args.mark ∷ c.args.text.now))
