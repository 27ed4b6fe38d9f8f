-- Which texts are user names and passwords (RFC 959, section 5.3.2; the limits are own choices).
use Rattle.std.specs.Prelude.{ℕ, ◌&&◌, ◌==◌, Bool, not, nat_le, List, length}
use Rattle.std.specs.List.{list_all}

-- neither NUL nor LF nor CR, so that a line can carry it
abbrev pub is_login_octet : ℕ → Bool
is_login_octet octet = not (octet == 0) && not (octet == 10) && not (octet == 13)

-- the most octets of a user name, and of a password
abbrev pub login_limit : ℕ
login_limit = 255

-- a user name: 1 to 255 such octets
abbrev pub is_user : List ℕ → Bool
is_user user = nat_le 1 (length user) && nat_le (length user) login_limit && list_all is_login_octet user

-- a password: 0 to 255 such octets
abbrev pub is_password : List ℕ → Bool
is_password pass = nat_le (length pass) login_limit && list_all is_login_octet pass
