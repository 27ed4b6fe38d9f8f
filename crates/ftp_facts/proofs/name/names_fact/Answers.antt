use Rattle.std.proofs.Common.{rules, ap, ◌∙◌}
use Rattle.std.specs.Str.{str_eq_ignore_ascii_case}
use Rattle.std.specs.List.{list_any, slice_split}
use Rattle.std.proofs.lemmas.Iterator.Search.{any_from_yields_List}
use Rattle.std.proofs.lemmas.Iterator.Splits.{YieldsList-from_slice_split}
use Rattle.ftp_facts.specs.Listed.{is_semicolon}
use Rattle.ftp_facts.proofs.name.names_fact.Goals as goal

pub returns : goal.returns
returns c =
    any_from_yields_List (λ each. str_eq_ignore_ascii_case each c.word-word.result.now) _ _ c.any.result c.any.ensures.ran
    (YieldsList-from_slice_split _ is_semicolon c.args.text.now c.split.ensures.rest c.split.ensures.done c.split.ensures.closure (search rules))
    (search rules)
    ∙ ap (λ word. list_any (λ each. str_eq_ignore_ascii_case each word) (slice_split is_semicolon c.args.text.now)) c.word-word.ensures.word
