use Rattle.std.proofs.Common.{◌≡◌, take}
use Rattle.std.specs.Str.Parse.{AllDigits, digits_value}
use Rattle.ftp_endpoint.proofs.decimal.value.Given as goal

abbrev pub invariant-loop-c : goal.invariant-loop-c
invariant-loop-c l =
    AllDigits 10 (take l.c-index l.text) × (l.value ≡ digits_value 10 (take l.c-index l.text))
