-- What a sender has still to give.
use Rattle.std.specs.Prelude.{◌≡◌, ◌⊎◌, ℕ, List, [], Bool, true, false, length, take, if◌then◌else◌, Option, Some, None}
use Rattle.ftp_repr.specs.Signs.{Sign, signs_of}
use Rattle.ftp_repr.specs.Runs.{IsRun, is_changed}
use Rattle.ftp_repr.specs.declared.item.Item.{Item}
use Rattle.ftp_repr.specs.declared.item.Item.TheVariants.{Octets, EndRecord, EndFile}
use Rattle.ftp_settings.specs.Representation.{Form}
use Rattle.ftp_repr.specs.declared.sender.Sender.{Sender}

-- its type and structure
abbrev pub sender_form : Sender → Form
sender_form s = record { kind = s.kind; structure = s.structure }

-- the end of file was given
abbrev pub has_sent_end : Sender → Bool
has_sent_end s = s.ended

-- the signs still to come, where these octets of the file are; behind its end there are none
abbrev pub still_to_send : Sender → List ℕ → List Sign
still_to_send s b = if s.ended then [] else signs_of (sender_form s) b

-- an item stands for so many octets in front of a piece: a run that goes as itself, one octet that goes as two, or one that
-- ends a record; the end of file stands for none
abbrev pub StandsFor : Form → List ℕ → ℕ → Item → Type 0
StandsFor f b n (Octets octets) =
    (IsRun (is_changed f.kind f.structure) b n × (octets.now ≡ take n b)) ⊎ ((n ≡ 1) × (length octets.now ≡ 2))
StandsFor f b n EndRecord = n ≡ 1
StandsFor f b n EndFile = b ≡ []

-- behind this item the end of file was given
abbrev pub is_end : Option Item → Bool
is_end None = false
is_end (Some (Octets octets)) = false
is_end (Some EndRecord) = false
is_end (Some EndFile) = true
