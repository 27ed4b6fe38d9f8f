-- How many octets there are, as people read it: in units of 1,024, as curl, wget and lftp count (the prefixes of IEC 80000-13).
use Rattle.std.specs.Prelude.{ℕ, ◌*◌, ◌/◌, ◌%◌, nat_lt, if◌then◌else◌}
use Rattle.tool_terminal.specs.declared.progress.measure.Unit.{Unit}
use Rattle.tool_terminal.specs.declared.progress.measure.Unit.TheVariants.{Octet, Kibi, Mebi, Gibi, Tebi}
use Rattle.tool_terminal.specs.declared.progress.measure.Measure.{Measure}

-- how many octets one of a unit has
abbrev pub octets_of : Unit → ℕ
octets_of Octet = 1
octets_of Kibi = 1024
octets_of Mebi = 1048576
octets_of Gibi = 1073741824
octets_of Tebi = 1099511627776

-- the greatest unit of which so many octets have one; a single octet is the unit of less
abbrev pub unit_for : ℕ → Unit
unit_for count =
    if nat_lt count (octets_of Kibi) then Octet
    else if nat_lt count (octets_of Mebi) then Kibi
    else if nat_lt count (octets_of Gibi) then Mebi
    else if nat_lt count (octets_of Tebi) then Gibi
    else Tebi

-- so many octets in a unit: how many whole ones, and how many tenths of one behind them, rounded down, so that no more is told than is there
abbrev pub measured : Unit → ℕ → Measure
measured unit count =
    let one = octets_of unit in
    record { whole = count / one; tenths = count % one * 10 / one; unit = unit }
