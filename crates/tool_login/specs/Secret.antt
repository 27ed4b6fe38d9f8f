-- Where the password of a user is taken from (own choice).
use Rattle.std.specs.Prelude.{◌&&◌, Bool, not, if◌then◌else◌}
use Rattle.tool_login.specs.declared.source.Known.{Known}
use Rattle.tool_login.specs.declared.source.PasswordSource.{PasswordSource}
use Rattle.tool_login.specs.declared.source.PasswordSource.TheVariants as Sources

-- the environment has one, which is sent for no user whom a URL names, since whoever made the URL chose the host, and not for anonymous
abbrev pub may_be_environment : Known → Bool
may_be_environment known = known.in_environment && not known.is_of_url && not known.is_anonymous

-- the first that has one of: the URL, the file that is named, the entry of a `.netrc` for the host and the user, the environment; anonymous needs none
abbrev pub source_of : Known → PasswordSource
source_of known =
    if known.in_url then Sources.Url
    else (if known.in_file then Sources.File
    else (if known.in_netrc then Sources.Netrc
    else (if may_be_environment known then Sources.Environment
    else (if known.is_anonymous then Sources.Guest else Sources.Nowhere))))
