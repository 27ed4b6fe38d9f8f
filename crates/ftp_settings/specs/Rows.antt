-- Worked rows: the defaults, the eight representations one by one, and octets of a marker. Each is a theorem that computes.
use Rattle.std.specs.Prelude.{ℕ, ◌≡◌, Bool, true, false}
use Rattle.ftp_settings.specs.Marker.{is_marker_octet}
use Rattle.ftp_settings.specs.Representation.{defaults, has_markers}
use Rattle.ftp_settings.specs.declared.representation.Kind.{Kind}
use Rattle.ftp_settings.specs.declared.representation.Kind.TheVariants.{Ascii, Image}
use Rattle.ftp_settings.specs.declared.representation.Mode.{Mode}
use Rattle.ftp_settings.specs.declared.representation.Mode.TheVariants.{Stream, Block}
use Rattle.ftp_settings.specs.declared.representation.Representation.{Representation}
use Rattle.ftp_settings.specs.declared.representation.Structure.{Structure}
use Rattle.ftp_settings.specs.declared.representation.Structure.TheVariants.{File, Record}

abbrev pub shaped : Kind → Structure → Mode → Representation
shaped kind structure mode = record { kind = kind; structure = structure; mode = mode }

-- RFC 959, section 5.1: the default values for the transfer parameters
abbrev pub DefaultsStated : Type 0
DefaultsStated = defaults ≡ shaped Ascii File Stream

-- seven of the eight have no markers; the eighth has type I, structure F and mode B
abbrev pub OneHasMarkers : Type 0
OneHasMarkers =
    (has_markers (shaped Ascii File Stream) ≡ false)
    × (has_markers (shaped Ascii File Block) ≡ false)
    × (has_markers (shaped Ascii Record Stream) ≡ false)
    × (has_markers (shaped Ascii Record Block) ≡ false)
    × (has_markers (shaped Image File Stream) ≡ false)
    × (has_markers (shaped Image File Block) ≡ true)
    × (has_markers (shaped Image Record Stream) ≡ false)
    × (has_markers (shaped Image Record Block) ≡ false)

-- RFC 959, section 3.4.2: printable characters, and none of them a space: `!`, `0`, `A`, `~`; not NUL, CR, SP, DEL, 255
abbrev pub OctetsOfMarkers : Type 0
OctetsOfMarkers =
    (is_marker_octet 33 ≡ true)
    × (is_marker_octet 48 ≡ true)
    × (is_marker_octet 65 ≡ true)
    × (is_marker_octet 126 ≡ true)
    × (is_marker_octet 0 ≡ false)
    × (is_marker_octet 13 ≡ false)
    × (is_marker_octet 32 ≡ false)
    × (is_marker_octet 127 ≡ false)
    × (is_marker_octet 255 ≡ false)
