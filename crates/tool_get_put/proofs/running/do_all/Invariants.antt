use Rattle.std.proofs.Common.{◌≡◌, List, flat_map, map}
use Rattle.std.specs.Io.KnownBytes.{Appends}
use Rattle.tool_script.specs.Report.{report}
use Rattle.tool_script.specs.Status.{worst_of}
use Rattle.tool_session.specs.Talking.{HasExchanged, SessionExchange}
use Rattle.tool_get_put.specs.Running.{replies_in, request_of, requests_in}
use Rattle.tool_get_put.proofs.running.do_all.Given as goal

-- the orders so far were asked, and the reports of their answers written
abbrev pub invariant-loop-order : goal.invariant-loop-order
invariant-loop-order g l =
    (heard : List SessionExchange) × HasExchanged g.S.ClientSession.answers l.fn.slot heard l.slot × (requests_in heard ≡ map request_of l.yielded)
    × Appends (g.W.Write.contents l.fn.out) (g.W.Write.contents l.out) (flat_map report (replies_in heard)) × (l.worst ≡ worst_of (replies_in heard))
