-- Sessions below several roots: none sees what those below other roots do.
use Rattle.std.specs.Prelude.{◌≡◌, ℕ, Bool, true, false, List, [], ◌∷◌, Some, slice_get, if◌then◌else◌}
use Rattle.ftp_path.specs.Path.{Names, is_within}
use Rattle.ftp_server_model.specs.Machine.{Reading, is_transferring}
use Rattle.ftp_server_model.specs.Play.{Gift, CallIsAt, IsAt, only_at}
use Rattle.ftp_server_model.specs.View.{View}
use Rattle.laws_server.specs.several.Several.{Slot, Several, Turn, called, lent_to}

-- who is logged in has this root, and so has whose transfer stands
pub record IsInSlot (root : Names) (v : View) : Type 0 where
  pub known : IsAt root v
  pub held : is_transferring v.session.connection ≡ true → v.session.root ≡ root

-- each session has a root
abbrev pub AreInSlot : (ℕ → Names) → List Slot → Type 0
AreInSlot roots slots = (slot : ℕ) (sits : Slot) → slice_get slots slot ≡ Some sits → IsInSlot (roots slot) sits.view

-- each login that succeeds in a turn is to the root of its session
abbrev pub TurnIsAt : Reading → (ℕ → Names) → Turn → Several → Type 0
TurnIsAt read roots turn s = (sits : Slot) → slice_get s.slots turn.slot ≡ Some sits → CallIsAt read (roots turn.slot) turn.cue (lent_to s.table sits)

-- so it is in all of them
abbrev pub TurnsAreAt : Reading → (ℕ → Names) → List Turn → Several → Type 0
TurnsAreAt read roots [] s = Unit {0}
TurnsAreAt read roots (turn ∷ turns) s = TurnIsAt read roots turn s × TurnsAreAt read roots turns (called read turn s).1

-- some of the sessions have this root, and the others have roots that have no path with it in common
pub record IsCompany (root : Names) (ours : ℕ → Bool) (roots : ℕ → Names) : Type 0 where
  pub same : (slot : ℕ) → ours slot ≡ true → roots slot ≡ root
  pub apart : (slot : ℕ) (path : Names) → ours slot ≡ false → is_within root path ≡ true → is_within (roots slot) path ≡ false

-- what they are given
unfoldable pub given_to_us : Reading → (ours : ℕ → Bool) → List Turn → Several → List Gift
given_to_us read ours [] s = []
given_to_us read ours (turn ∷ turns) s =
    if ours turn.slot then (called read turn s).0 ∷ given_to_us read ours turns (called read turn s).1
    else given_to_us read ours turns (called read turn s).1

-- their turns alone
unfoldable pub our_turns : (ours : ℕ → Bool) → List Turn → List Turn
our_turns ours [] = []
our_turns ours (turn ∷ turns) = if ours turn.slot then turn ∷ our_turns ours turns else our_turns ours turns

-- with that part of the map alone which stands at and below the root
abbrev pub alone_below : Names → Several → Several
alone_below root s = record s { table = only_at root s.table }

-- whatever the others do, and whichever octets they say: sessions below a root are given what they are given without them, and without their files
abbrev pub CompanyIsUnseen : Type 0
CompanyIsUnseen =
    (read : Reading) (root : Names) (ours : ℕ → Bool) (roots : ℕ → Names) (turns : List Turn) (s : Several)
    → IsCompany root ours roots → AreInSlot roots s.slots → TurnsAreAt read roots turns s
    → given_to_us read ours turns s ≡ given_to_us read ours (our_turns ours turns) (alone_below root s)
