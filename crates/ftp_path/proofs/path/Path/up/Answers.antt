use Rattle.std.proofs.Common.{◌-◌, take, length, ap, ◌∙◌}
use Rattle.std.specs.List.{suffix_len}
use Rattle.ftp_path.specs.Path.{fits, parent}
use Rattle.ftp_path.specs.Kept.{is_no_slash, names_of}
use Rattle.ftp_path.proofs.PathLemmas.{parent-fits, truncated}
use Rattle.ftp_path.proofs.path.Path.up.Goals as goal

pub invariant_of-self : goal.invariant_of-self
invariant_of-self g c =
    let text = c.self.inside.octets.items in
    let cut = truncated text c.self.invariant.joins _ (c.truncate.ensures.items ∙ ap (λ n. take n text) (c.parent_len-kept.ensures.value ∙ ap (λ t. length t - suffix_len is_no_slash t - 1) c.as_slice.ensures.value)) in
    record { joins = cut.0; within = ap fits cut.1 ∙ parent-fits (names_of text) c.self.invariant.within }

pub returns : goal.returns
returns g c =
    let text = c.self.inside.octets.items in
    let cut = truncated text c.self.invariant.joins _ (c.truncate.ensures.items ∙ ap (λ n. take n text) (c.parent_len-kept.ensures.value ∙ ap (λ t. length t - suffix_len is_no_slash t - 1) c.as_slice.ensures.value)) in
    cut.1 ∙ ap parent c.self.view_is
