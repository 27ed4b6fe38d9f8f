-- What an account may change of what it sees of the map (own choice). Whoever is logged in may look and fetch.
use Rattle.std.specs.Prelude.{Bool, true, false, not, ◌&&◌, ◌||◌, if◌then◌else◌}
use Rattle.ftp_operation.specs.declared.rights.Rights.{Rights}

-- all of them but to rename onto a file: RNTO onto what stands is refused to whoever has these
abbrev pub all_rights : Rights
all_rights = record { put = true; replace = true; delete = true; make_dir = true; remove_dir = true; rename = true; onto = false }

-- none: to look and to fetch alone
abbrev pub no_rights : Rights
no_rights = record { put = false; replace = false; delete = false; make_dir = false; remove_dir = false; rename = false; onto = false }

-- to put files and make directories where nothing stands
abbrev pub adding_rights : Rights
adding_rights = record { put = true; replace = false; delete = false; make_dir = true; remove_dir = false; rename = false; onto = false }

-- a file may be put where one stands, or where none does
abbrev pub may_put : Rights → (stands : Bool) → Bool
may_put rights stands = if rights.put then rights.replace || not stands else rights.replace && stands

-- any of them is had
abbrev pub may_change : Rights → Bool
may_change rights =
    (rights.put || rights.replace || rights.delete) || (rights.make_dir || rights.remove_dir) || rights.rename || rights.onto

-- these and those
abbrev pub joined : Rights → Rights → Rights
joined one other = record {
  put = one.put || other.put;
  replace = one.replace || other.replace;
  delete = one.delete || other.delete;
  make_dir = one.make_dir || other.make_dir;
  remove_dir = one.remove_dir || other.remove_dir;
  rename = one.rename || other.rename;
  onto = one.onto || other.onto;
}
