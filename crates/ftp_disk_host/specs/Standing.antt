-- When the octets of an open file may be others than before.
use Rattle.std.specs.Prelude.{◌≡◌, ◌⊎◌}
use Rattle.ftp_disk_host.specs.declared.standing.Standing.{Standing}

-- another name, another number of names, other permissions or another owner: each touches the inode of a file, and none its octets
abbrev pub TellsWhy : (before now : Standing) → Type 0
TellsWhy before now =
    ¬ ((now.is_named ≡ before.is_named) × (now.links ≡ before.links) × (now.mode ≡ before.mode) × (now.owner ≡ before.owner) × (now.group ≡ before.group))

-- A file has the same octets by what a system tells: as many, of the same moment; and its inode was not touched since, or it is known why. The moment can
-- be set back, the time of that touch can't.
abbrev pub KeepsOctets : (before now : Standing) → Type 0
KeepsOctets before now =
    (now.look.len ≡ before.look.len) × (now.look.modified ≡ before.look.modified)
    × ((now.look.touched ≡ before.look.touched) ⊎ TellsWhy before now)
