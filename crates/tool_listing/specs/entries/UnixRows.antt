-- Worked rows: lines of LIST as servers write them. Each is a theorem that computes.
use Rattle.std.specs.Prelude.{◌≡◌, true, codes, [], ◌∷◌, ◌++◌, Some, None}
use Rattle.ftp_facts.specs.Fact.{dir_word, file_word}
use Rattle.tool_listing.specs.entries.Columns.{entries_of_columns, lines_without_column}
use Rattle.tool_listing.specs.entries.Text.{is_total, odd_name}
use Rattle.tool_listing.specs.entries.UnixLine.{unix_value}
use Rattle.tool_listing.specs.declared.entries.unix_entry.UnixKind.TheVariants.{File, Dir, Link, Other}

-- of `vsftpd`, `proftpd` and `ls -l`, with a time of day in place of the year
abbrev pub TimesRead : Type 0
TimesRead =
    (unix_value (codes "-rw-r--r--    1 0        0            1234 Nov 28 12:34 a b") ≡ Some (record { kind = File; size = 1234; day = None; name = codes "a b" }))
    × (unix_value (codes "drwxr-xr-x   2 user     group        4096 Nov  8  7:05 pub") ≡ Some (record { kind = Dir; size = 4096; day = None; name = codes "pub" }))
    × (unix_value (codes "lrwxrwxrwx 1 u g 4 Nov 28 12:34 x -> y") ≡ Some (record { kind = Link; size = 4; day = None; name = codes "x" }))
    × (unix_value (codes "-rw-r--r-- 1 u g 3 Nov 28 12:34 x -> y") ≡ Some (record { kind = File; size = 3; day = None; name = codes "x -> y" }))
    × (unix_value (codes "prw-r--r--+ 1 u g 0 Nov 28 12:34 p") ≡ Some (record { kind = Other; size = 0; day = None; name = codes "p" }))
    × (unix_value (codes "-rwsr-xr-t 1 u g 3 Nov 28 12:34  x") ≡ Some (record { kind = File; size = 3; day = None; name = codes " x" }))

-- of this house, and of others in another year
abbrev pub YearsRead : Type 0
YearsRead =
    (unix_value (codes "drwxr-xr-x 1 ftp ftp          0 Jan  1  1970 d") ≡ Some (record { kind = Dir; size = 0; day = Some 0; name = codes "d" }))
    × (unix_value (codes "-rw-r--r--    1 0        0               3 Jan 02  1970 x") ≡ Some (record { kind = File; size = 3; day = Some 86_400; name = codes "x" }))

-- no lines of that form: a count of blocks, a device, no name, an unknown month, a day of three digits, a year of two, and a listing of another kind
abbrev pub OthersRead : Type 0
OthersRead =
    (unix_value (codes "total 12") ≡ None)
    × (is_total (codes "total 12") ≡ true)
    × (unix_value (codes "brw-rw---- 1 root disk 8, 0 Nov 28 12:34 sda") ≡ None)
    × (unix_value (codes "-rw-r--r-- 1 u g 3 Nov 28 12:34 ") ≡ None)
    × (unix_value (codes "-rw-r--r-- 1 u g 3 nov 28 12:34 x") ≡ None)
    × (unix_value (codes "-rw-r--r-- 1 u g 3 Nov 128 12:34 x") ≡ None)
    × (unix_value (codes "-rw-r--r-- 1 u g 3 Nov 28 70 x") ≡ None)
    × (unix_value (codes "11-28-26  12:34PM                    3 x") ≡ None)
    × (odd_name (codes "Type=file;Size=3; caf" ++ 233 ∷ []) ≡ codes "caf" ++ 233 ∷ [])
    × (odd_name (codes "Type=file") ≡ [])

-- the entries that lines of LIST say: a count of blocks, the directory itself and its parent are none; a directory has no size, a link no type
abbrev pub ColumnsRead : Type 0
ColumnsRead =
    (entries_of_columns
    (codes "total 12"
    ∷ codes "drwxr-xr-x   2 user     group        4096 Nov  8  7:05 ."
    ∷ codes "drwxr-xr-x   2 user     group        4096 Nov  8  7:05 pub"
    ∷ codes "-rw-r--r--    1 0        0            1234 Nov 28 12:34 a b"
    ∷ codes "lrwxrwxrwx 1 u g 4 Nov 28 12:34 x -> y"
    ∷ [])
    ≡ record { name = codes "pub"; kind = Some dir_word; size = None; modify = None; perm = None }
    ∷ record { name = codes "a b"; kind = Some file_word; size = Some 1234; modify = None; perm = None }
    ∷ record { name = codes "x"; kind = None; size = None; modify = None; perm = None }
    ∷ [])
    × (lines_without_column (codes "total 12" ∷ codes "11-28-26  12:34PM                    3 x" ∷ []) ≡ codes "11-28-26  12:34PM                    3 x" ∷ [])
