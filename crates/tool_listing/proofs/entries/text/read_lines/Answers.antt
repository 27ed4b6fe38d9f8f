use Rattle.std.proofs.Common.{refl, rules}
use Rattle.ftp_facts.specs.Listing.{lines_of}
use Rattle.tool_listing.proofs.entries.TextLemmas.{line_more, none_left}
use Rattle.tool_listing.proofs.entries.text.read_lines.Goals as goal

pub loop-rest-preserved : goal.loop-rest-preserved
loop-rest-preserved c =
    line_more (λ lines. lines) (λ line lines. refl) c.loop-rest.lines.items c.push.new.self.items (lines_of c.args.text.now) c.loop-rest.rest.now
    c.cut_line.result.0.now c.cut_line.result.1.now c.cut_line.ensures.lines (search rules) c.loop-rest.invariant

pub returns : goal.returns
returns c = none_left (λ lines. lines) refl c.loop-rest.lines.items (lines_of c.args.text.now) c.loop-rest.rest.now (search rules) c.loop-rest.invariant
