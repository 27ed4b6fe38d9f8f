-- Lines of LIST in the columns of `ls -l`, as most servers write them, and this house's own (own choice; RFC 959, section 4.1.3, leaves the form open):
-- rights, links, owner, group, size, month, day, year or time of day, each behind one or more spaces, and behind one space the name.
use Rattle.std.specs.Prelude.{ℕ, ◌==◌, ◌&&◌, ◌||◌, Bool, false, nat_le, nat_eq, codes, List, [], ◌∷◌, ◌++◌, length, take, drop, Option, Some, None, option_map, if◌then◌else◌}
use Rattle.std.specs.Char.{is_ascii_digit}
use Rattle.std.specs.Cmp.Lexicographic.{pointwise}
use Rattle.std.specs.List.{after_first, before_first, list_all, list_any, prefix_len, starts_with}
use Rattle.ftp_endpoint.specs.Number.{colon}
use Rattle.ftp_facts.specs.Fact.{space}
use Rattle.ftp_facts.specs.Moment.{moment_value, two_digits}
use Rattle.ftp_facts.specs.Value.{and_then, number_value}
use Rattle.tool_listing.specs.declared.entries.unix_entry.UnixKind.{UnixKind}
use Rattle.tool_listing.specs.declared.entries.unix_entry.UnixKind.TheVariants as Kinds
use Rattle.tool_listing.specs.declared.entries.unix_entry.UnixLine.{UnixLine}

-- what a line tells: what stands there, a file's octets counted, the second at which the day begins on which it was changed, where its year is told, and
-- the name
pub record Told : Type 0 where
  pub kind : UnixKind
  pub size : ℕ
  pub day : Option ℕ
  pub name : List ℕ

-- the same of a line as it is lent
abbrev pub told : UnixLine → Told
told line = record { kind = line.kind; size = line.size; day = option_map (λ day. day.seconds) line.day; name = line.name.now }

-- ---- columns

abbrev pub is_blank : ℕ → Bool
is_blank octet = octet == space

-- the octets of the first column
abbrev pub first_column : List ℕ → List ℕ
first_column line = before_first is_blank line

-- what stands behind it and one space
abbrev pub behind_one : List ℕ → List ℕ
behind_one line = after_first is_blank line

-- the same behind all spaces that follow
abbrev pub behind_column : List ℕ → List ℕ
behind_column line = drop (prefix_len is_blank (behind_one line)) (behind_one line)

-- ---- kind and rights

abbrev pub kind_value : ℕ → Option UnixKind
kind_value letter =
    if letter == 45 then Some Kinds.File else if letter == 100 then Some Kinds.Dir else if letter == 108 then Some Kinds.Link
    else if list_any (λ other. other == letter) (codes "bcps") then Some Kinds.Other else None

-- a letter of rights
abbrev pub is_right : ℕ → Bool
is_right letter = list_any (λ other. other == letter) (codes "rwxsStTlL-")

-- the kind that rights begin with: nine letters follow, and perhaps a sign of more rights
abbrev pub rights_value : List ℕ → Option UnixKind
rights_value [] = None
rights_value (letter ∷ rights) =
    if ((length rights == 9) || (length rights == 10)) && list_all is_right (take 9 rights) then kind_value letter else None

-- ---- the date

-- the number of a month, from its three letters
abbrev pub month_value : List ℕ → Option ℕ
month_value word =
    if pointwise nat_eq word (codes "Jan") then Some 1
    else if pointwise nat_eq word (codes "Feb") then Some 2
    else if pointwise nat_eq word (codes "Mar") then Some 3
    else if pointwise nat_eq word (codes "Apr") then Some 4
    else if pointwise nat_eq word (codes "May") then Some 5
    else if pointwise nat_eq word (codes "Jun") then Some 6
    else if pointwise nat_eq word (codes "Jul") then Some 7
    else if pointwise nat_eq word (codes "Aug") then Some 8
    else if pointwise nat_eq word (codes "Sep") then Some 9
    else if pointwise nat_eq word (codes "Oct") then Some 10
    else if pointwise nat_eq word (codes "Nov") then Some 11
    else if pointwise nat_eq word (codes "Dec") then Some 12
    else None

-- the day of a month: one digit or two
abbrev pub day_value : List ℕ → Option ℕ
day_value text = if nat_le (length text) 2 then number_value text else None

-- a time of day in place of the year: four or five octets, digits but for a colon before the last two
abbrev pub is_time : List ℕ → Bool
is_time (a ∷ sign ∷ b ∷ c ∷ []) = (sign == colon) && list_all is_ascii_digit (a ∷ b ∷ c ∷ [])
is_time (a ∷ b ∷ sign ∷ c ∷ d ∷ []) = (sign == colon) && list_all is_ascii_digit (a ∷ b ∷ c ∷ d ∷ [])
is_time text = false

-- the second at which a day begins, in UTC
abbrev pub begins_at : (year : List ℕ) → (month day : ℕ) → Option ℕ
begins_at year month day = if length year == 4 then moment_value (year ++ (two_digits month ++ (two_digits day ++ codes "000000"))) else None

-- the day of a month and a year; none where there is a time in place of the year
abbrev pub date_value : (month day : ℕ) → (year : List ℕ) → Option (Option ℕ)
date_value month day year = if is_time year then Some None else option_map Some (begins_at year month day)

-- ---- the name

-- before the arrow of a link
abbrev pub before_arrow : List ℕ → List ℕ
before_arrow [] = []
before_arrow (octet ∷ name) = if starts_with nat_eq (octet ∷ name) (codes " -> ") then [] else octet ∷ before_arrow name

-- of a link the arrow and where it leads stand behind the name
abbrev pub name_in : UnixKind → List ℕ → List ℕ
name_in Kinds.Link name = before_arrow name
name_in kind name = name

-- ---- a line

-- the year or the time, one space and the name
abbrev pub behind_day : UnixKind → (size month day : ℕ) → List ℕ → Option Told
behind_day kind size month day rest =
    let name = name_in kind (behind_one rest) in
    if length name == 0 then None
    else option_map (λ date. record { kind = kind; size = size; day = date; name = name }) (date_value month day (first_column rest))

-- the month and the day, and what is behind them
abbrev pub behind_size : UnixKind → ℕ → List ℕ → Option Told
behind_size kind size rest =
    and_then (month_value (first_column rest))
    (λ month. and_then (day_value (first_column (behind_column rest))) (λ day. behind_day kind size month day (behind_column (behind_column rest))))

-- links are a number; owner and group any octets; the size a number
abbrev pub behind_rights : UnixKind → List ℕ → Option Told
behind_rights kind rest =
    let sized = behind_column (behind_column (behind_column rest)) in
    and_then (number_value (first_column rest)) (λ links. and_then (number_value (first_column sized)) (λ size. behind_size kind size (behind_column sized)))

-- what a line of LIST tells; nothing where it is none of this form, as `total 12`
abbrev pub unix_value : List ℕ → Option Told
unix_value line = and_then (rights_value (first_column line)) (λ kind. behind_rights kind (behind_column line))
