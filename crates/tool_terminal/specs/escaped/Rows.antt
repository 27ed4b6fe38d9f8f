-- Worked rows: what is shown of octets. Each is a theorem that computes.
use Rattle.std.specs.Prelude.{◌≡◌, codes, [], ◌∷◌}
use Rattle.tool_terminal.specs.escaped.Shown.{octets_shown}

-- text, control characters, marks of direction, and octets of no character
abbrev pub CharactersShown : Type 0
CharactersShown =
    (octets_shown (codes "a b.txt") ≡ codes "a b.txt")
    × (octets_shown (97 ∷ 27 ∷ codes "[2J") ≡ codes "a\\x1b[2J")
    × (octets_shown (10 ∷ 127 ∷ []) ≡ codes "\\x0a\\x7f")
    × (octets_shown (codes "\\x41") ≡ codes "\\\\x41")
    × (octets_shown (0xC3 ∷ 0xA9 ∷ []) ≡ 0xC3 ∷ 0xA9 ∷ [])
    × (octets_shown (0xC2 ∷ 0x9B ∷ []) ≡ codes "\\xc2\\x9b")
    × (octets_shown (0x9B ∷ []) ≡ codes "\\x9b")
    × (octets_shown (0xE2 ∷ 0x80 ∷ 0xAE ∷ []) ≡ codes "\\xe2\\x80\\xae")
    × (octets_shown (0xE2 ∷ 0x82 ∷ 0xAC ∷ []) ≡ 0xE2 ∷ 0x82 ∷ 0xAC ∷ [])
    × (octets_shown (0xF0 ∷ 0x9F ∷ 0x98 ∷ 0x80 ∷ []) ≡ 0xF0 ∷ 0x9F ∷ 0x98 ∷ 0x80 ∷ [])
    × (octets_shown (0xC0 ∷ 0x9B ∷ []) ≡ codes "\\xc0\\x9b")
    × (octets_shown (97 ∷ 0xE2 ∷ 0x80 ∷ 0x8B ∷ 98 ∷ []) ≡ codes "a\\xe2\\x80\\x8bb")
    × (octets_shown (0xE2 ∷ 0x81 ∷ 0xA0 ∷ []) ≡ codes "\\xe2\\x81\\xa0")
    × (octets_shown (0xEF ∷ 0xBB ∷ 0xBF ∷ []) ≡ codes "\\xef\\xbb\\xbf")
    × (octets_shown (0xEF ∷ 0xBC ∷ 0xA1 ∷ []) ≡ 0xEF ∷ 0xBC ∷ 0xA1 ∷ [])
    × (octets_shown (0xF3 ∷ 0xA0 ∷ 0x81 ∷ 0x81 ∷ []) ≡ codes "\\xf3\\xa0\\x81\\x81")
    × (octets_shown (0xE2 ∷ 0x82 ∷ []) ≡ codes "\\xe2\\x82")
