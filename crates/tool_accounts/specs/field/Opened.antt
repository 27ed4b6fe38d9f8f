-- What opens the field that is made of an input.
use Rattle.std.specs.Prelude.{◌≡◌, ℕ, List, Ok, IsTrue}
use Rattle.ftp_secret.specs.Secret.{opens, read}
use Rattle.ftp_secret.specs.declared.secret.Secret.{Secret}

-- a field says a secret that a password opens
abbrev pub OpensBy : (text password : List ℕ) → Type 0
OpensBy text password = (secret : Secret) × (read text ≡ Ok secret) × IsTrue (opens secret password)
