use Rattle.std.proofs.Common.{◌≡◌, ◌+◌, ◌-◌, ◌<◌, length, take, drop, fold, ap, sym, ◌∙◌, arith, rules}
use Rattle.std.specs.List.{slice_split}
use Rattle.std.proofs.lemmas.List.{length-drop}
use Rattle.ftp_path.specs.Path.{is_slash, is_part, followed}
use Rattle.ftp_path.proofs.PathLemmas.{cut-first, cut-none, followed-le, rest-behind}
use Rattle.ftp_path.proofs.walk.Walk.follow_all.Goals as goal

pub follow-requires-clause-octets : goal.follow-requires-clause-octets
follow-requires-clause-octets c =
    let cut = cut-first c.loop-end.rest.now c.in-Some.end c.loop-end.invariant.octets (search rules) (search rules) (search rules) in
    ap is_part c.split_at.ensures.front ∙ cut.front

pub loop-end-preserved : goal.loop-end-preserved
loop-end-preserved c =
    let text = c.loop-end.rest.now in
    let end = c.in-Some.end in
    let inside : end < length text = search rules in
    let cut = cut-first text end c.loop-end.invariant.octets inside (search rules) (search rules) in
    let behind : take (length c.split_at.result.1.now - 1) (drop 1 c.split_at.result.1.now) ≡ drop (end + 1) text =
    ap (λ more. take (length more - 1) (drop 1 more)) c.split_at.ensures.back ∙ rest-behind text end in
    let before = c.split_at.ensures.front in
    let wide = followed-le c.loop-end.self c.split_at.result.0.now in
    let stepped = c.follow.ensures in
    rw behind (record {
      octets = cut.back;
      room = rw stepped (omega (arith, length-drop (end + 1) text, c.split_at.ensures.front_len));
      leads = ap (λ path. fold followed path (slice_split is_slash (drop (end + 1) text))) (stepped ∙ ap (followed c.loop-end.self) before) ∙ ap (fold followed c.loop-end.self) (sym cut.parts) ∙ c.loop-end.invariant.leads;
    })

pub follow-requires-2-clause-octets : goal.follow-requires-2-clause-octets
follow-requires-2-clause-octets c = (cut-none c.loop-end.rest.now c.loop-end.invariant.octets (search rules)).1

pub returns : goal.returns
returns c =
    let cut = cut-none c.loop-end.rest.now c.loop-end.invariant.octets (search rules) in
    c.follow-2.ensures ∙ ap (fold followed c.loop-end.self) (sym cut.0) ∙ c.loop-end.invariant.leads
