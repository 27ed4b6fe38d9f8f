use Rattle.std.proofs.Common.{◌≡◌, true, false, refl, sym, ◌∙◌}
use Rattle.std.specs.Option.{option_map}
use Rattle.ftp_path.specs.Path.{IsPathText}
use Rattle.ftp_facts.specs.declared.fault.FactFault.TheVariants.{BadFact, BadMoment}
use Rattle.ftp_facts.specs.declared.name.FactName.TheVariants.{Kind, Size, Modify, Perm}
use Rattle.ftp_facts.specs.Entry.{Refuses, texts_of}
use Rattle.ftp_facts.specs.Moment.{moment_value}
use Rattle.ftp_facts.specs.Value.{number_value}
use Rattle.ftp_facts.proofs.FactLemmas.{filled, not_empty, emptied}
use Rattle.ftp_facts.proofs.EntryLemmas.{HasParts-fits, NoParts-refuses, fault_passes, is_sized, is_sound, no_name, no_number, not_sound, size_fits}
use Rattle.ftp_facts.proofs.reading.see.Goals as goal

pub returns-in_err-parts-clause-refuses : goal.returns-in_err-parts-clause-refuses
returns-in_err-parts-clause-refuses c =
    let line = c.args.line.now in
    let fault = c.in_err-parts.field-0.0 in
    fault_passes c.from_residual.result fault fault (Refuses line) c.from_residual.ensures.1 refl (NoParts-refuses line fault c.in_err-parts.ensures.silent)

pub returns-then-is_empty-clause-refuses : goal.returns-then-is_empty-clause-refuses
returns-then-is_empty-clause-refuses c =
    let parts = c.in_ok-parts.parts in
    let empty = emptied parts.name.now c.is_empty.result c.if-is_empty.true c.is_empty.ensures in
    no_name c.args.line.now parts.name.now (texts_of parts) c.in_ok-parts.ensures.parts empty

pub returns-in_err-read_size-clause-refuses : goal.returns-in_err-read_size-clause-refuses
returns-in_err-read_size-clause-refuses c =
    let line = c.args.line.now in
    let parts = c.in_ok-parts.parts in
    let err = c.in_err-read_size.ensures in
    fault_passes c.from_residual-in_err-read_size.result c.in_err-read_size.field-0.0 BadFact (Refuses line) c.from_residual-in_err-read_size.ensures.1 err.fault
    (no_number line parts.name.now (texts_of parts) c.in_ok-parts.ensures.parts (not_sound number_value (texts_of parts Size) err.silent))

pub returns-in_err-read_modify-clause-refuses : goal.returns-in_err-read_modify-clause-refuses
returns-in_err-read_modify-clause-refuses c =
    let line = c.args.line.now in
    let parts = c.in_ok-parts.parts in
    let err = c.in_err-read_modify.ensures in
    let named = not_empty parts.name.now (filled parts.name.now c.is_empty.result c.if-is_empty.false c.is_empty.ensures) in
    let sized = is_sized line parts.name.now (texts_of parts) c.in_ok-read_size.field-0 c.in_ok-parts.ensures.parts named c.in_ok-read_size.ensures.says in
    fault_passes c.from_residual-in_err-read_modify.result c.in_err-read_modify.field-0.0 BadMoment (Refuses line) c.from_residual-in_err-read_modify.ensures.1 err.fault
    (parts.name.now, texts_of parts, sized, not_sound moment_value (texts_of parts Modify) err.silent)

pub returns-then-not-is_path_text-clause-refuses : goal.returns-then-not-is_path_text-clause-refuses
returns-then-not-is_path_text-clause-refuses c =
    let line = c.args.line.now in
    let parts = c.in_ok-parts.parts in
    let named = not_empty parts.name.now (filled parts.name.now c.is_empty.result c.if-is_empty.false c.is_empty.ensures) in
    let sized = is_sized line parts.name.now (texts_of parts) c.in_ok-read_size.field-0 c.in_ok-parts.ensures.parts named c.in_ok-read_size.ensures.says in
    let other : ¬ (IsPathText parts.name.now) =
    λ is.
    let yes : c.is_path_text.result ≡ true = c.is_path_text.ensures.1 is in
    let never : true ≡ false = sym yes ∙ c.if-not-is_path_text.true in
    cc
    in
    (parts.name.now, texts_of parts, sized, is_sound moment_value (texts_of parts Modify) (option_map (λ moment. moment.seconds) c.in_ok-read_modify.field-0) c.in_ok-read_modify.ensures.says, other)

pub returns-clause-fits : goal.returns-clause-fits
returns-clause-fits c =
    let line = c.args.line.now in
    let parts = c.in_ok-parts.parts in
    let fits = HasParts-fits line parts.name.now (texts_of parts) c.in_ok-parts.ensures.parts in
    record {
      name = c.is_path_text.ensures.0 c.if-not-is_path_text.false;
      kind = fits Kind;
      size = size_fits (texts_of parts Size) c.in_ok-read_size.field-0 c.in_ok-read_size.ensures.says;
      perm = fits Perm;
    }
