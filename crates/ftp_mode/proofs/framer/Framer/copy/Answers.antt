use Rattle.std.proofs.Common.{◌≡◌, ◌+◌, ◌-◌, ◌++◌, take, drop, ap, sym, ◌∙◌, arith}
use Rattle.ftp_mode.proofs.RunLemmas.{block_rest}
use Rattle.ftp_mode.proofs.framer.Framer.copy.Goals as goal

pub returns-clause-copied : goal.returns-clause-copied
returns-clause-copied c =
    let xs = c.args.self.now.block.items in
    let made = c.copy_header-made.result.0 in
    let next = c.copy_header-made.result.1 in
    let count = c.copy_octets-count.result in
    let room = c.copy_header-made.new.room in
    let after = c.copy_octets-count.new.room in
    let same : next + count - 3 ≡ next - 3 + count = omega arith in
    ap (λ l. take (made + count) after ++ l) (block_rest c.args.descriptor xs (next + count) (omega arith) ∙ ap (λ k. drop k xs) same)
    ∙ c.copy_octets-count.ensures.copied
    ∙ ap (λ l. take made room ++ l) (sym (block_rest c.args.descriptor xs next (omega arith)))
    ∙ c.copy_header-made.ensures.copied
