-- An octet of a control connection says one thing at most.
use Rattle.std.proofs.Common.{◌≡◌, ℕ, ◌≤◌, ◌⊎◌, inl, inr, Bool, true, false, List, [], ◌∷◌, ◌++◌, refl, sym, subst, arith, append-nil, length}
use Rattle.std.specs.Prelude.{flat_map, if◌then◌else◌, ◌==◌}
use Rattle.ftp_nvt.proofs.CutLemmas.{decided as is_so}
use Rattle.ftp_nvt.proofs.FoldLemmas.{ends as units}
use Rattle.ftp_nvt.specs.Lines.{NvtEvent, line, too_long, owed}
use Rattle.ftp_nvt.specs.Telnet.{TelnetUnit, data_octet, option, subnegotiation, command}
use Rattle.ftp_nvt.specs.declared.line.Stage.{Stage}
use Rattle.ftp_nvt.specs.declared.line.Stage.TheVariants as Lined
use Rattle.ftp_ends.specs.Ear.{Ear, Unfinished, ear_out, ended_text, line_out, unit_says, within_out}

-- an answer that is owed has three octets at most
abbrev pub IsSmallEvent : NvtEvent → Type 0
IsSmallEvent (line text) = Unit {0}
IsSmallEvent too_long = Unit {0}
IsSmallEvent (owed answer) = length answer ≤ 3

-- nothing is said, or one thing
abbrev pub SaysOne : List NvtEvent → Type 0
SaysOne events = (events ≡ []) ⊎ ((event : NvtEvent) × (events ≡ event ∷ []) × IsSmallEvent event)

within_one : (limit : ℕ) (u : Unfinished) (c : ℕ) → SaysOne (within_out limit u c)
within_one limit u c = by (u.count == limit) (c == 10)
  where
    by : (full ends : Bool) → SaysOne (if full then too_long ∷ [] else (if ends then line (ended_text u.stage u.text) ∷ [] else []))
    by true ends = inr (too_long, refl, tt)
    by false true = inr (line (ended_text u.stage u.text), refl, tt)
    by false false = inl refl

line_one : (limit : ℕ) (stage : Stage) (u : Unfinished) (c : ℕ) → SaysOne (line_out limit stage u c)
line_one limit Lined.Start u c = within_one limit u c
line_one limit Lined.Inside u c = within_one limit u c
line_one limit Lined.AfterReturn u c = within_one limit u c
line_one limit Lined.Past u c = inl refl

with_none : (events : List NvtEvent) → SaysOne events → SaysOne (events ++ [])
with_none events one = subst SaysOne (sym (append-nil events)) one

unit_one : (limit : ℕ) (u : Unfinished) (unit : TelnetUnit) → SaysOne (unit_says limit u unit)
unit_one limit u (data_octet c) = with_none (line_out limit u.stage u c ++ []) (with_none (line_out limit u.stage u c) (line_one limit u.stage u c))
unit_one limit u (option verb c) =
    elim (is_so (verb == 253)) [
      | inl e ↦ rw e (inr (owed (255 ∷ 252 ∷ c ∷ []), refl, omega arith))
      | inr e ↦ rw e (elim (is_so (verb == 251)) [
        | inl f ↦ rw f (inr (owed (255 ∷ 254 ∷ c ∷ []), refl, omega arith))
        | inr f ↦ rw f (inl refl)
      ])
    ]
unit_one limit u subnegotiation = inl refl
unit_one limit u (command c) = inl refl

-- an octet says nothing, or one thing
pub out_one : (limit : ℕ) (e : Ear) (c : ℕ) → SaysOne (ear_out limit e c)
out_one limit e c =
    let P : List TelnetUnit → Type 0 = λ us. SaysOne (flat_map (unit_says limit e.line) us) in
    elim (units e.place c) [
      | inl f ↦ subst P (sym f) (inl refl)
      | inr f ↦ subst P (sym f.1) (with_none (unit_says limit e.line f.0) (unit_one limit e.line f.0))
    ]
