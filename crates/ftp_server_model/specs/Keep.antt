-- What an upload keeps of the file that stands at its path (RFC 959, section 4.1.3: STOR, APPE; RFC 3659, section 5: REST), and whether
-- others changed what stands there since it began (own choice).
use Rattle.std.specs.Prelude.{ℕ, Bool, true, false, not, List, length, take, nat_le}
use Rattle.ftp_server_model.specs.declared.session.Keep.{Keep}
use Rattle.ftp_server_model.specs.declared.session.Keep.TheVariants.{First, All, FirstOvertaken, AllOvertaken}

-- how many octets its restart markers count before those that came
abbrev pub kept_count : Keep → ℕ
kept_count (First count) = count
kept_count (All count) = count
kept_count (FirstOvertaken count) = count
kept_count (AllOvertaken count) = count

-- of the octets that stand there, those that are kept
abbrev pub kept_of : Keep → List ℕ → List ℕ
kept_of (First count) octets = take count octets
kept_of (All count) octets = octets
kept_of (FirstOvertaken count) octets = take count octets
kept_of (AllOvertaken count) octets = octets

-- fewer octets stand there than are to be kept
abbrev pub lacks : Keep → List ℕ → Bool
lacks (First count) octets = not (nat_le count (length octets))
lacks (All count) octets = false
lacks (FirstOvertaken count) octets = not (nat_le count (length octets))
lacks (AllOvertaken count) octets = false

-- others changed what stands there
abbrev pub is_overtaken : Keep → Bool
is_overtaken (First count) = false
is_overtaken (All count) = false
is_overtaken (FirstOvertaken count) = true
is_overtaken (AllOvertaken count) = true

-- the same once they did
abbrev pub overtaken_keep : Keep → Keep
overtaken_keep (First count) = FirstOvertaken count
overtaken_keep (All count) = AllOvertaken count
overtaken_keep (FirstOvertaken count) = FirstOvertaken count
overtaken_keep (AllOvertaken count) = AllOvertaken count
