-- A look at a path before it is read.
use Rattle.std.specs.Prelude.{◌≡◌, ◌⊎◌, false, true, List, ℕ, Option, None, Some, Result, Ok, Err}
use Rattle.ftp_path.specs.Path.{Names, fits}
use Rattle.ftp_tree.specs.Change.{Failures, IsSteady, TellsOne}
use Rattle.ftp_direct.specs.declared.refusal.Refusal.{Refusal}
use Rattle.ftp_direct.specs.declared.refusal.Refusal.TheVariants.{LocalFault, Unavailable}
use Rattle.ftp_direct.specs.Direct.{State, named, refused_file}

-- no path was seen: it was past the limits of paths, which nothing was asked about, or the device failed at the look
abbrev pub IsUnseen : Names → (long why : Refusal) → (before after : Failures) → Type 0
IsUnseen path long why before after = ((why ≡ long) × (fits path ≡ false) × IsSteady before after) ⊎ ((why ≡ LocalFault) × TellsOne before after)

-- the path was looked at, or there is a refusal to tell
abbrev pub LooksAtPath : Names → (long : Refusal) → Result Names Refusal → (before after : Failures) → Type 0
LooksAtPath path long (Ok found) before after = (found ≡ path) × (fits path ≡ true) × IsSteady before after
LooksAtPath path long (Err why) before after = IsUnseen path long why before after

-- the path of a file was looked at, or no file stands there by the map as it was found, or the device failed at the look
abbrev pub SeesFile : State → List ℕ → Result Names Refusal → (before after : Failures) → Type 0
SeesFile state text (Ok found) before after = (found ≡ named state text) × (refused_file state text ≡ None) × IsSteady before after
SeesFile state text (Err why) before after =
    ((why ≡ Unavailable) × (refused_file state text ≡ Some Unavailable) × IsSteady before after) ⊎ ((why ≡ LocalFault) × TellsOne before after)

-- what an account may not do by the map as it was found is a refusal, or the device failed at the look
abbrev pub Bars : (due why : Option Refusal) → (before after : Failures) → Type 0
Bars due why before after = ((why ≡ due) × IsSteady before after) ⊎ ((why ≡ Some LocalFault) × TellsOne before after)
