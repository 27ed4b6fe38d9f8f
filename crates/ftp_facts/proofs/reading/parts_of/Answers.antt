use Rattle.std.proofs.Common.{◌≡◌, ℕ, List, Option, subst}
use Rattle.ftp_facts.specs.declared.fault.FactFault.TheVariants.{BadFact}
use Rattle.ftp_facts.specs.declared.name.FactName.{FactName}
use Rattle.ftp_facts.specs.declared.name.FactName.TheVariants.{Kind, Size, Modify, Perm}
use Rattle.ftp_facts.specs.declared.reading.Parts.{Parts}
use Rattle.ftp_facts.specs.Entry.{NoParts, texts_of}
use Rattle.ftp_facts.specs.Fact.{HasValue}
use Rattle.ftp_facts.specs.Name.{fact_word}
use Rattle.ftp_facts.proofs.EntryLemmas.{no_parts, has_space, parts_are, fault_passes}
use Rattle.ftp_facts.proofs.reading.parts_of.Goals as goal

-- of some octets each value is that of its fact
each : (octets : List ℕ) (parts : Parts) → HasValue octets (fact_word Kind) (texts_of parts Kind) → HasValue octets (fact_word Size) (texts_of parts Size)
    → HasValue octets (fact_word Modify) (texts_of parts Modify) → HasValue octets (fact_word Perm) (texts_of parts Perm) → (fact : FactName) → HasValue octets (fact_word fact) (texts_of parts fact)
each octets parts k s m p Kind = k
each octets parts k s m p Size = s
each octets parts k s m p Modify = m
each octets parts k s m p Perm = p

pub returns-in_err-value_of-clause-silent : goal.returns-in_err-value_of-clause-silent
returns-in_err-value_of-clause-silent c =
    let line = c.args.line.now in
    let octets = c.in-Some.facts.now in
    let name = c.in-Some.name.now in
    let cut = c.in-Some.ensures in
    let err = c.in_err-value_of.ensures in
    fault_passes c.from_residual.result c.in_err-value_of.field-0.0 BadFact (NoParts line) c.from_residual.ensures.1 err.fault (has_space line octets name cut.some, no_parts line octets name cut.some cut.first err.silent)

worded : (octets word fact : List ℕ) (value : Option (List ℕ)) → word ≡ fact → HasValue octets word value → HasValue octets fact value
worded octets word fact value is has = let P : List ℕ → Type 0 = λ w. HasValue octets w value in subst P is has

pub returns-clause-parts : goal.returns-clause-parts
returns-clause-parts c =
    let cut = c.in-Some.ensures in
    let octets = c.in-Some.facts.now in
    let parts : Parts =
    record { name = c.in-Some.name; kind = c.in_ok-value_of.field-0; size = c.in_ok-value_of-2.field-0; modify = c.in_ok-value_of-3.field-0; perm = c.in_ok-value_of-4.field-0 } in
    parts_are c.args.line.now octets c.in-Some.name.now (texts_of parts) cut.some cut.first
    (each octets parts (worded octets c.word.result.now (fact_word Kind) (texts_of parts Kind) c.word.ensures.word c.in_ok-value_of.ensures.value)
    (worded octets c.word-2.result.now (fact_word Size) (texts_of parts Size) c.word-2.ensures.word c.in_ok-value_of-2.ensures.value)
    (worded octets c.word-3.result.now (fact_word Modify) (texts_of parts Modify) c.word-3.ensures.word c.in_ok-value_of-3.ensures.value)
    (worded octets c.word-4.result.now (fact_word Perm) (texts_of parts Perm) c.word-4.ensures.word c.in_ok-value_of-4.ensures.value))
