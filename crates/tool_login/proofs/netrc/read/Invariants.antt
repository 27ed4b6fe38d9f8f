use Rattle.std.proofs.Common.{◌≡◌, take}
use Rattle.std.specs.List.{fold}
use Rattle.tool_login.specs.Netrc.{start, step}
use Rattle.tool_login.proofs.netrc.read.Given as goal

-- the reader stands where the octets so far lead
abbrev pub invariant-loop-octet : goal.invariant-loop-octet
invariant-loop-octet l =
    (l.reader.spot, l.reader.word.items, l.reader.search) ≡ fold (step l.wanted.host.now l.wanted.user.now) start (take l.octet-index l.text)
