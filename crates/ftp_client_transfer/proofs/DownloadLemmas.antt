-- What octets leave of a download.
use Rattle.std.proofs.Common.{◌≡◌, ◌∙◌, ◌⊎◌, inl, inr, ℕ, ◌≤◌, ◌<◌, Bool, true, false, List, [], ◌∷◌, Option, Some, None, length, refl, sym, ap, arith}
use Rattle.std.specs.Prelude.{is_some}
use Rattle.std.specs.Option.{option_or}
use Rattle.ftp_client_model.specs.Octets.{flow_octet, has_enough, has_settled, last_mark}
use Rattle.ftp_client_model.specs.View.{Flow, Sending, Receiving}
use Rattle.ftp_wire.specs.Hearing.{EndsBy, HasNoMarker, Hears, Marks}
use Rattle.ftp_wire.specs.declared.decoded.Decoded.{Decoded}
use Rattle.ftp_wire.specs.declared.decoded.Decoded.TheVariants.{More, Faulty, Over, NoMemory}
use Rattle.ftp_wire.specs.Decoder.{Decoder, decoded_octet, octet_says}
use Rattle.ftp_facts.specs.Value.{number_value}
use Rattle.ftp_mode.specs.Said.{Said, says, marker}
use Rattle.ftp_client_steps.specs.Hearing.{NotYet, heard_all}
use Rattle.ftp_operation.specs.declared.op.Op.{Op}
use Rattle.ftp_client_model.specs.Plan.{count_of}
use Rattle.ftp_client_transfer.specs.Heard.{goes_on}

-- what is known of the last marker, where one came last or none
abbrev pub noted : Option ℕ → List ℕ → Option ℕ → Option ℕ
noted None text mark = mark
noted (Some held) text mark = option_or (number_value text) mark

pub noted_some : (told : Option ℕ) (text : List ℕ) (mark : Option ℕ) → is_some told ≡ true → noted told text mark ≡ option_or (number_value text) mark
noted_some None text mark is = absurd (cc is)
noted_some (Some held) text mark is = refl

pub noted_none : (told : Option ℕ) (text : List ℕ) (mark : Option ℕ) → is_some told ≡ false → noted told text mark ≡ mark
noted_none None text mark is = refl
noted_none (Some held) text mark is = absurd (cc is)

unmarked : (mark : Option ℕ) (said : List Said) → HasNoMarker said → last_mark mark said ≡ mark
unmarked mark [] none = refl
unmarked mark (says sign ∷ more) none = unmarked mark more none
unmarked mark (marker text ∷ more) none = absurd none

marked_last : (told : Option ℕ) (text : List ℕ) (d : Decoder) (said : List Said) (mark : Option ℕ) → Marks told text d said → last_mark mark said ≡ noted told text mark
marked_last None text d said mark none = unmarked mark said none
marked_last (Some held) text d said mark (rest, is, none, count) =
    ap (last_mark mark) is ∙ unmarked (option_or (number_value text) mark) rest none

ends_at : (most : ℕ) (d : Decoder) (octet : ℕ) (heard : Decoded) (new : Decoder) → goes_on heard ≡ true → EndsBy most d octet heard new → new ≡ decoded_octet d octet
ends_at most d octet More new on ends = ends.2
ends_at most d octet (Faulty fault) new on ends = ends.1
ends_at most d octet Over new on ends = absurd (cc on)
ends_at most d octet NoMemory new on ends = absurd (cc on)

-- what was heard of octets is what they leave one by one
pub hears_all : (most : ℕ) (d : Decoder) (octets : List ℕ) (told : Option ℕ) (text : List ℕ) (heard : Decoded) (new : Decoder) (mark : Option ℕ)
    → goes_on heard ≡ true → Hears most d octets told text heard new → heard_all (Receiving d mark) octets ≡ Receiving new (noted told text mark)
hears_all most d [] told text heard new mark on hears =
    ap (λ e. Receiving e mark) (sym hears.2) ∙ ap (λ t. Receiving new (noted t text mark)) (sym hears.0)
hears_all most d (octet ∷ []) told text heard new mark on hears =
    ap (λ e. Receiving e (last_mark mark (octet_says d octet))) (sym (ends_at most d octet heard new on hears.1))
    ∙ ap (Receiving new) (marked_last told text d (octet_says d octet) mark hears.0)
hears_all most d (octet ∷ next ∷ octets) told text heard new mark on hears =
    ap (λ m. heard_all (Receiving (decoded_octet d octet) m) (next ∷ octets)) (unmarked mark (octet_says d octet) hears.0.unmarked)
    ∙ hears_all most (decoded_octet d octet) (next ∷ octets) told text heard new mark on hears.1

-- an upload hears none
pub heard_sending : (left : List ℕ) (mark : Option ℕ) (octets : List ℕ) → heard_all (Sending left mark) octets ≡ Sending left mark
heard_sending left mark [] = refl
heard_sending left mark (octet ∷ octets) = heard_sending left mark octets

-- one octet at a time, or of no Peek
pub not_yet : (op : Op (List ℕ)) (flow : Flow) (octets : List ℕ) (most : ℕ) → length octets ≤ most → (most ≤ 1) ⊎ (count_of op ≡ None) → NotYet op flow octets
not_yet op flow [] most short one = tt
not_yet op flow (octet ∷ []) most short one = tt
not_yet op flow (octet ∷ next ∷ octets) most short (inl one) = absurd (omega (arith, short, one))
not_yet op flow (octet ∷ next ∷ octets) most short (inr none) = (
  ap (λ count. has_settled count (flow_octet flow octet)) none,
  not_yet op (flow_octet flow octet) (next ∷ octets) most (omega (arith, short)) (inr none),
)
