use Rattle.std.proofs.Common.{◌+◌, length, sym, ◌∙◌}
use Rattle.std.proofs.lemmas.List.{take_rest}
use Rattle.ftp_path.specs.Kept.{names_of}
use Rattle.ftp_path.proofs.KeyLemmas.{name_in-without, name_in-same, below-text, some_named}
use Rattle.ftp_path.proofs.key.name_in.Goals as goal
use Rattle.ftp_path.proofs.key.name_in.Goals.{then-not-is_within-via-then-not-is_within, then-not-is_within-via-else-not-is_within+then-key-above}

pub returns-then-not-is_within : goal.returns-then-not-is_within
returns-then-not-is_within c =
    elim c.then-not-is_within.branch [
      | then-not-is_within-via-then-not-is_within w ↦ sym (name_in-without (names_of c.args.above.now) (names_of c.args.key.now) (sym c.is_within.ensures ∙ w.if-not-is_within.true))
      | then-not-is_within-via-else-not-is_within+then-key-above w ↦
          sym (name_in-same c.args.above.now c.args.key.now c.requires.above c.requires.key (sym c.is_within.ensures ∙ w.if-not-is_within.false) w.if-key-above.true)
    ]

pub returns-then-contains : goal.returns-then-contains
returns-then-contains c =
    let below = below-text c.args.above.now c.args.key.now _ c.requires.above c.requires.key c.requires.short (sym c.is_within.ensures ∙ c.if-not-is_within.false) c.if-key-above.false
    (take_rest c.args.key.now (length c.args.above.now + 1)) in
    sym (below.several (sym c.contains.ensures.value ∙ c.if-contains.true))

pub returns : goal.returns
returns c =
    let below = below-text c.args.above.now c.args.key.now _ c.requires.above c.requires.key c.requires.short (sym c.is_within.ensures ∙ c.if-not-is_within.false) c.if-key-above.false
    (take_rest c.args.key.now (length c.args.above.now + 1)) in
    let alone = sym c.contains.ensures.value ∙ c.if-contains.false in
    some_named (λ name. name.octets.now) c.new.result _ c.new.ensures.name (c.new.ensures.named.1 (below.named alone)) ∙ sym (below.alone alone)
