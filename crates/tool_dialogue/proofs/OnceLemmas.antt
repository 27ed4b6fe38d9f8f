-- No input is answered in two ways.
use Rattle.std.proofs.Common.{◌≡◌, ℕ, ◌⊎◌, inl, inr, Bool, true, false, not, Option, Some, None, List, [], ◌∷◌, ◌++◌, refl, sym, ap, ◌∙◌, append-nil, append_assoc}
use Rattle.std.specs.Prelude.{if◌then◌else◌}
use Rattle.std.specs.Io.KnownBytes.{Appends}
use Rattle.ftp_server_model.proofs.LinesDecided.{reading_exists}
use Rattle.ftp_server_model.specs.Machine.{Reading}
use Rattle.tool_dialogue.proofs.TalkLemmas.{talks-append, talks-over}
use Rattle.tool_dialogue.specs.Converses.{ConversesBy}
use Rattle.tool_dialogue.specs.Dialogue.{dialogue, greeted_talk, is_over, runs}
use Rattle.tool_dialogue.specs.Laws.{ConversesOnce}

-- of two fronts of one list, one is a front of the other
abbrev pub Fronts : List ℕ → List ℕ → Type 0
Fronts xs ys = ((more : List ℕ) × (ys ≡ xs ++ more)) ⊎ ((more : List ℕ) × (xs ≡ ys ++ more))

fronts-cons : (x y : ℕ) (xs ys : List ℕ) → x ≡ y → Fronts xs ys → Fronts (x ∷ xs) (y ∷ ys)
fronts-cons x y xs ys same (inl (more, e)) = inl (more, ap (λ z. z ∷ ys) (sym same) ∙ ap (λ l. x ∷ l) e)
fronts-cons x y xs ys same (inr (more, e)) = inr (more, ap (λ z. z ∷ xs) same ∙ ap (λ l. y ∷ l) e)

fronts : (xs ys ps qs : List ℕ) → xs ++ ps ≡ ys ++ qs → Fronts xs ys
fronts [] ys ps qs same = inl (ys, refl)
fronts (x ∷ xs) [] ps qs same = inr (x ∷ xs, refl)
fronts (x ∷ xs) (y ∷ ys) ps qs same =
    let head : x ≡ y = cc in
    let tail : xs ++ ps ≡ ys ++ qs = cc in
    fronts-cons x y xs ys head (fronts xs ys ps qs tail)

-- octets of an input that QUIT is among, or that are all of it
pub record IsHeardOf (read : Reading) (input octets : List ℕ) : Type 0 where
  pub left : List ℕ
  pub whole : input ≡ octets ++ left
  pub ends : (is_over read octets ≡ true) ⊎ (left ≡ [])

over : (b : Bool) → not b ≡ true → b ≡ false
over false e = refl
over true e = absurd (let wrong : false ≡ true = e in cc)

nothing_left : (xs ys : List ℕ) → xs ++ ys ≡ xs → ys ≡ []
nothing_left [] ys e = e
nothing_left (x ∷ xs) ys e = nothing_left xs ys (let tail : xs ++ ys ≡ xs = cc in tail)

front_empty : (xs ys : List ℕ) → xs ++ ys ≡ [] → xs ≡ []
front_empty [] ys e = refl
front_empty (x ∷ xs) ys e = absurd (let wrong : x ∷ (xs ++ ys) ≡ [] = e in cc)

-- the longer of two adds nothing
longer : (read : Reading) (input xs ys more : List ℕ) → ys ≡ xs ++ more → IsHeardOf read input xs → IsHeardOf read input ys → dialogue read ys ≡ dialogue read xs
longer read input xs ys more same one other = by one.ends
  where
    by : (is_over read xs ≡ true) ⊎ (one.left ≡ []) → dialogue read ys ≡ dialogue read xs
    by (inl quit) =
        ap (dialogue read) same ∙ talks-append read greeted_talk xs more
        ∙ talks-over read (dialogue read xs) more (over (runs (dialogue read xs).view) quit)
    by (inr none) =
        let all : xs ++ (more ++ other.left) ≡ xs =
        sym (append_assoc xs more other.left) ∙ ap (λ l. l ++ other.left) (sym same) ∙ sym other.whole
        ∙ one.whole ∙ ap (λ l. xs ++ l) none ∙ append-nil xs in
        let empty = front_empty more other.left (nothing_left xs (more ++ other.left) all) in
        ap (dialogue read) (same ∙ ap (λ l. xs ++ l) empty ∙ append-nil xs)

same_dialogue : (read : Reading) (input xs ys : List ℕ) → IsHeardOf read input xs → IsHeardOf read input ys → dialogue read xs ≡ dialogue read ys
same_dialogue read input xs ys one other = by (fronts xs ys one.left other.left (sym one.whole ∙ other.whole))
  where
    by : Fronts xs ys → dialogue read xs ≡ dialogue read ys
    by (inl (more, same)) = sym (longer read input xs ys more same one other)
    by (inr (more, same)) = longer read input ys xs more same other one

heard_of : (read : Reading) (most : ℕ) (input output : List ℕ) (after new : Option (List ℕ)) (status : ℕ)
    → (c : ConversesBy read most (Some input) after (Some output) new status) → IsHeardOf read input (c.reads.front ++ c.reads.piece)
heard_of read most input output None new status c = absurd c.reads.given
heard_of read most input output (Some left) new status c = record { left = left; whole = c.reads.given; ends = c.whole }

written : (output : List ℕ) (new now : Option (List ℕ)) (text other : List ℕ) → Appends (Some output) new text → Appends (Some output) now other → text ≡ other → new ≡ now
written output None now text other p q same = absurd p
written output (Some a) None text other p q same = absurd q
written output (Some a) (Some b) text other p q same = ap Some (p ∙ ap (λ l. output ++ l) same ∙ sym q)

pub converses_once : ConversesOnce
converses_once input output after other new now most few status code p q =
    let read = reading_exists.0 in
    let c = p read reading_exists.1 in
    let d = q read reading_exists.1 in
    let same = same_dialogue read input (c.reads.front ++ c.reads.piece) (d.reads.front ++ d.reads.piece)
    (heard_of read most input output after new status c) (heard_of read few input output other now code d) in (
      written output new now _ _ c.wrote d.wrote (ap (λ t. t.text) same),
      c.says ∙ ap (λ t. if t.refused then 1 else 0) same ∙ sym d.says,
    )
