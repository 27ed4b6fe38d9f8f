use Rattle.std.proofs.Common.{◌-◌, take, length, ap, sym, ◌∙◌}
use Rattle.std.specs.List.{suffix_len}
use Rattle.ftp_path.specs.Path.{parent, fits}
use Rattle.ftp_path.specs.Kept.{is_no_slash}
use Rattle.ftp_path.proofs.PathLemmas.{truncated}
use Rattle.ftp_path.proofs.path.Path.parent_key.Goals as goal

pub returns : goal.returns
returns g c =
    let text = c.self.inside.octets.items in
    let cut = truncated text c.self.invariant.joins _ (ap (λ t. take c.parent_len.result t) c.as_slice.ensures.value ∙ ap (λ n. take n text) (c.parent_len.ensures.value ∙ ap (λ t. length t - suffix_len is_no_slash t - 1) c.as_slice-2.ensures.value)) in
    record { joined = cut.0; names = cut.1 ∙ ap parent c.self.view_is; fits = ap fits (sym c.self.view_is) ∙ c.self.invariant.within }
