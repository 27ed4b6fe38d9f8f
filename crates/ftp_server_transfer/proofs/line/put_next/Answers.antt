use Rattle.std.proofs.Common.{◌≡◌, ◌+◌, ◌-◌, ◌<◌, ◌++◌, ◌∙◌, ap, length, rules, arith, sym}
use Rattle.std.proofs.lemmas.Option.{slice_get_within}
use Rattle.ftp_tree.specs.Entries.{shown_entry}
use Rattle.ftp_server_transfer.specs.Lines.{line_of_entry}
use Rattle.ftp_server_transfer.proofs.ListingLemmas.{no_more, with_line}
use Rattle.ftp_server_transfer.proofs.line.put_next.Goals as goal

pub returns-then-len-ge-ENOUGH-clause-lines : goal.returns-then-len-ge-ENOUGH-clause-lines
returns-then-len-ge-ENOUGH-clause-lines g c =
    let line_of = line_of_entry c.args.what.now c.args.path.now in
    let next : c.loop-found.place + 1 ≡ c.in-Some-checked_add.next = search rules in
    with_line line_of c.args.entries.now c.loop-found.place c.in-Some-checked_add.next (shown_entry c.in-Some.found) _
    c.loop-found.line.items c.put_line.new.line.items c.in-Some.ensures next c.in_ok-put_line.ensures.line c.loop-found.invariant.left

pub loop-found-smaller : goal.loop-found-smaller
loop-found-smaller g c =
    let all = c.args.entries.now in
    let n = c.loop-found.place in
    let within = slice_get_within all n (shown_entry c.in-Some.found) (sym c.in-Some.ensures) in
    let next : n + 1 ≡ c.in-Some-checked_add.next = search rules in
    let less : length all - c.in-Some-checked_add.next < length all - n = omega (arith, within, next) in
    less

pub loop-found-preserved : goal.loop-found-preserved
loop-found-preserved g c =
    let line_of = line_of_entry c.args.what.now c.args.path.now in
    let next : c.loop-found.place + 1 ≡ c.in-Some-checked_add.next = search rules in
    record {
      few = search rules;
      left = with_line line_of c.args.entries.now c.loop-found.place c.in-Some-checked_add.next (shown_entry c.in-Some.found) _
          c.loop-found.line.items c.put_line.new.line.items c.in-Some.ensures next c.in_ok-put_line.ensures.line c.loop-found.invariant.left;
    }

pub returns-clause-lines : goal.returns-clause-lines
returns-clause-lines g c =
    let line_of = line_of_entry c.args.what.now c.args.path.now in
    let none = no_more line_of c.args.entries.now c.loop-found.place c.in_default.ensures in
    c.loop-found.invariant.left ∙ ap (λ l. c.loop-found.line.items ++ l) none
