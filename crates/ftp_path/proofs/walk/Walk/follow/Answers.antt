use Rattle.std.proofs.Common.{◌-◌, ◌∷◌, ◌++◌, [], ap, sym, ◌∙◌, take, length, rules}
use Rattle.std.specs.List.{suffix_len}
use Rattle.ftp_path.specs.Path.{parent}
use Rattle.ftp_path.specs.Kept.{is_no_slash}
use Rattle.ftp_path.proofs.PathLemmas.{truncated, pushed, component-from, followed-above, followed-name}
use Rattle.ftp_path.proofs.walk.Walk.follow.Goals as goal

pub invariant_of-self : goal.invariant_of-self
invariant_of-self c =
    let text = c.self.inside.octets.items in
    (truncated text c.self.invariant _ (c.truncate.ensures.items ∙ ap (λ n. take n text) (c.parent_len-kept.ensures.value ∙ ap (λ t. length t - suffix_len is_no_slash t - 1) c.as_slice.ensures.value))).0

pub returns-then-is_above : goal.returns-then-is_above
returns-then-is_above c =
    let text = c.self.inside.octets.items in
    let cut = truncated text c.self.invariant _ (c.truncate.ensures.items ∙ ap (λ n. take n text) (c.parent_len-kept.ensures.value ∙ ap (λ t. length t - suffix_len is_no_slash t - 1) c.as_slice.ensures.value)) in
    cut.1 ∙ ap parent c.self.view_is ∙ sym (followed-above c.args.self.now c.args.component.now (sym c.is_here.ensures ∙ c.if-is_here.false) (sym c.is_above.ensures ∙ c.if-is_above.true))

pub invariant_of-self-2 : goal.invariant_of-self-2
invariant_of-self-2 c =
    let text = c.self.inside.octets.items in
    let name = component-from c.args.component.now c.requires.octets (sym c.is_here.ensures ∙ c.if-is_here.false) (sym c.is_above.ensures ∙ c.if-is_above.false) in
    (pushed text c.self.invariant c.args.component.now name _ (search rules)).0

pub returns : goal.returns
returns c =
    let text = c.self.inside.octets.items in
    let name = component-from c.args.component.now c.requires.octets (sym c.is_here.ensures ∙ c.if-is_here.false) (sym c.is_above.ensures ∙ c.if-is_above.false) in
    (pushed text c.self.invariant c.args.component.now name _ (search rules)).1 ∙ ap (λ names. names ++ c.args.component.now ∷ []) c.self.view_is
    ∙ sym (followed-name c.args.self.now c.args.component.now (sym c.is_here.ensures ∙ c.if-is_here.false) (sym c.is_above.ensures ∙ c.if-is_above.false))
