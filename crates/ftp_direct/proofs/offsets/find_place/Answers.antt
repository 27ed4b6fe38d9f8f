use Rattle.std.proofs.Common.{◌∙◌, Some, None, ap, nat_le, sym, if◌then◌else◌}
use Rattle.ftp_settings.specs.declared.representation.Kind.TheVariants.{Ascii}
use Rattle.ftp_direct.specs.Direct.{place_in}
use Rattle.ftp_direct.proofs.PlaceLemmas.{in_image, in_none}
use Rattle.ftp_direct.proofs.offsets.find_place.Goals as goal

pub returns-in-Image-clause-place : goal.returns-in-Image-clause-place
returns-in-Image-clause-place g c = λ stray.
    rw c.in-Image.is (
    c.if_within.ensures ∙ ap (λ n. if nat_le c.args.offset n then Some c.args.offset else None) c.len_at.ensures ∙ sym (in_image _ c.args.offset))

pub returns-in-None-clause-place : goal.returns-in-None-clause-place
returns-in-None-clause-place g c = λ stray.
    let none = rw c.in-None.is at c.in_ok-file-in-Ascii.ensures.octets in
    rw c.in-Ascii.is (c.if_within-in-None.ensures ∙ sym (ap (λ octets. place_in Ascii octets c.args.offset) none ∙ in_none Ascii c.args.offset))
