-- The last octets of a part that an earlier run left of a download, which come once more (own choice).
use Rattle.std.specs.Prelude.{ℕ, ◌-◌, length}
use Rattle.tool_resume.specs.declared.overlap.Overlap.{Overlap}

-- how many are awaited still: those that did not come yet
abbrev pub awaited : Overlap → ℕ
awaited overlap = length overlap.octets.items - overlap.agreed
