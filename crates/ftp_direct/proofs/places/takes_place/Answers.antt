use Rattle.std.proofs.Common.{◌∙◌, ap, sym}
use Rattle.std.specs.Prelude.{not}
use Rattle.ftp_path.specs.Path.{is_within}
use Rattle.ftp_path.specs.Kept.{names_of}
use Rattle.ftp_direct.proofs.OntoLemmas.{both_files, no_source, no_target}
use Rattle.ftp_direct.proofs.places.takes_place.Goals as goal

pub returns-then-not-is_file : goal.returns-then-not-is_file
returns-then-not-is_file g c = sym (no_source _ _ _ (sym c.is_file.ensures ∙ c.if-not-is_file.true))

pub returns-then-not-is_file-2 : goal.returns-then-not-is_file-2
returns-then-not-is_file-2 g c =
    sym (no_target _ _ _ (sym c.is_file.ensures ∙ c.if-not-is_file.false) (sym c.is_file-2.ensures ∙ c.if-not-is_file-2.true))

pub returns : goal.returns
returns g c =
    ap not (c.is_within.ensures ∙ ap (λ path. is_within path (names_of c.key-2.result.now)) c.key.ensures.names ∙ ap (is_within c.args.from.now) c.key-2.ensures.names)
    ∙ sym (both_files _ _ _ (sym c.is_file.ensures ∙ c.if-not-is_file.false) (sym c.is_file-2.ensures ∙ c.if-not-is_file-2.false))
