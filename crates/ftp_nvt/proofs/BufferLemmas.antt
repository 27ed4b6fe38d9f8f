-- What an unfinished line has read, step by step.
use Rattle.std.proofs.Common.{◌≡◌, ◌≢◌, ℕ, ◌+◌, ◌-◌, ◌<◌, ◌≤◌, List, [], ◌∷◌, ◌++◌, true, false, ◌==◌, ◌&&◌, ◌⊎◌, inl, inr, refl, ap, sym, subst, ◌∙◌, append_assoc, append-nil, arith, length, length-append, take, ne_eqb}
use Rattle.std.specs.Prelude.{nat_le, if◌then◌else◌}
use Rattle.ftp_nvt.specs.Lines.{NvtEvent, line, cut, last_octet, text_behind, text_of, without_return, lines, settled}
use Rattle.ftp_nvt.specs.Event.{event_list}
use Rattle.ftp_nvt.specs.LineBuffer.{IsWithin, StandsAtStage, Stands, CanHaveRead, Reads, Steps}
use Rattle.ftp_nvt.specs.declared.event.Event.{Event}
use Rattle.ftp_nvt.specs.declared.event.Event.TheVariants.{More, Line}
use Rattle.ftp_nvt.specs.declared.line.Stage.{Stage}
use Rattle.ftp_nvt.specs.declared.line.Stage.TheVariants.{Start, Inside, AfterReturn, Past}
use Rattle.ftp_nvt.specs.declared.line.LineBuffer.{LineBuffer}
use Rattle.ftp_nvt.proofs.CutLemmas.{decided, no_leb, NoLineEnd, NoReturn, rest-append-octet, lines-append-octet, cut-append-inside, lines-append-inside, lines-append-past, text_behind-append, text_behind-append-plain, last_octet-append, last_octet-append-plain, text_of-return}

-- what a buffer read in two pieces, it read in one
pub Reads-trans : {A : Type 0} (a b c : LineBuffer A) (xs ys : List ℕ) (first second : List NvtEvent) → Reads a xs first b → Reads b ys second c → Reads a (xs ++ ys) (first ++ second) c
Reads-trans a b c xs ys first second before later = record {
  limit = later.limit ∙ before.limit;
  has_read = λ octets h. subst (λ l. CanHaveRead c l) (append_assoc octets xs ys) (later.has_read (octets ++ xs) (before.has_read octets h));
  said = λ octets h.
      ap (lines a.limit) (sym (append_assoc octets xs ys))
      ∙ ap (λ n. lines n (octets ++ xs ++ ys)) (sym before.limit)
      ∙ later.said (octets ++ xs) (before.has_read octets h)
      ∙ ap (λ n. lines n (octets ++ xs) ++ second) before.limit
      ∙ ap (λ l. l ++ second) (before.said octets h)
      ∙ append_assoc (lines a.limit octets) first second;
}

-- a buffer that stays as it is has read nothing more
pub Reads-nil : {A : Type 0} (buffer : LineBuffer A) → Reads buffer [] [] buffer
Reads-nil buffer = record {
  limit = refl;
  has_read = λ octets h. subst (λ l. CanHaveRead buffer l) (sym (append-nil octets)) h;
  said = λ octets h. ap (lines buffer.limit) (append-nil octets) ∙ sym (append-nil (lines buffer.limit octets));
}

-- one octet
pub Steps-Reads : {A : Type 0} (old new : LineBuffer A) (octet : ℕ) (event : Event) → Steps old octet event new → Reads old (octet ∷ []) (event_list event new.text.items) new
Steps-Reads old new octet event step = record {
  limit = step.limit;
  has_read = λ octets h. record { stands = subst (λ r. Stands new r) (sym (rest-append-octet octets octet)) (step.stands (cut octets).rest h.stands) };
  said = λ octets h.
      lines-append-octet old.limit octets octet ∙ ap (λ l. lines old.limit octets ++ l) (step.said (cut octets).rest h.stands);
}

-- where a buffer stands, at an equal place
at_place : (s t : Stage) (limit count : ℕ) (text rest : List ℕ) → s ≡ t → StandsAtStage s limit count text rest → StandsAtStage t limit count text rest
at_place s t limit count text rest is stands = subst (λ v. StandsAtStage v limit count text rest) is stands

-- in a line that keeps the limit so far
abbrev pub IsOpen : Stage → Type 0
IsOpen stage = (stage ≡ Inside) ⊎ (stage ≡ AfterReturn)

within : (s : Stage) (limit count : ℕ) (text rest : List ℕ) → IsOpen s → StandsAtStage s limit count text rest → IsWithin count text rest
within s limit count text rest (inl is) stands = (at_place s Inside limit count text rest is stands).0
within s limit count text rest (inr is) stands = (at_place s AfterReturn limit count text rest is stands).0

text-nil : text_of [] ≡ []
unfolding text_behind
text-nil = refl

-- a buffer between lines is ready for a new one
pub begin_reads : {A : Type 0} (old new : LineBuffer A) → old.stage ≡ Start → new.stage ≡ Inside → new.limit ≡ old.limit → new.count ≡ 0 → new.text.items ≡ [] → Reads old [] [] new
begin_reads old new is at same none empty = record {
  limit = same;
  has_read = λ octets h.
      let rest : (cut octets).rest ≡ [] = at_place old.stage Start old.limit old.count old.text.items (cut octets).rest is h.stands in
      let ready : StandsAtStage Inside new.limit new.count new.text.items [] = (record { counted = none; said = empty ∙ sym text-nil }, refl) in
      let placed : Stands new [] = at_place Inside new.stage new.limit new.count new.text.items [] (sym at) ready in
      record { stands = subst (λ l. Stands new (cut l).rest) (sym (append-nil octets)) (subst (λ r. Stands new r) (sym rest) placed) };
  said = λ octets h. ap (lines old.limit) (append-nil octets) ∙ sym (append-nil (lines old.limit octets));
}

-- a buffer past the limit stays there up to an LF
pub skip_reads : {A : Type 0} (buffer : LineBuffer A) (plain : List ℕ) → buffer.stage ≡ Past → NoLineEnd plain → Reads buffer plain [] buffer
skip_reads buffer plain is none = record {
  limit = refl;
  has_read = λ octets h.
      let past = at_place buffer.stage Past buffer.limit buffer.count buffer.text.items (cut octets).rest is h.stands in
      let further : StandsAtStage Past buffer.limit buffer.count buffer.text.items (cut (octets ++ plain)).rest =
      subst (λ r. buffer.limit < length r) (sym (ap (λ k. k.rest) (cut-append-inside octets plain none))) (omega (arith, past, length-append (cut octets).rest plain)) in
      record { stands = at_place Past buffer.stage buffer.limit buffer.count buffer.text.items (cut (octets ++ plain)).rest (sym is) further };
  said = λ octets h.
      let past = at_place buffer.stage Past buffer.limit buffer.count buffer.text.items (cut octets).rest is h.stands in
      lines-append-past buffer.limit octets plain none past ∙ sym (append-nil (lines buffer.limit octets));
}

-- the LF of a line that was too long
pub skip_ends : {A : Type 0} (old new : LineBuffer A) → old.stage ≡ Past → new.stage ≡ Start → new.limit ≡ old.limit → Steps old 10 More new
skip_ends old new is at same = record {
  limit = same;
  stands = λ rest stands. at_place Start new.stage new.limit new.count new.text.items [] (sym at) refl;
  said = λ rest stands.
      let past = at_place old.stage Past old.limit old.count old.text.items rest is stands in
      let other : (length rest == old.limit) ≡ false = ne_eqb _ _ (λ e. omega (arith, past)) in
      let skips : nat_le old.limit (length rest) ≡ true = search (arith, past) in
      rw (other, skips) refl;
}

-- octets without CR and LF that keep the limit
pub run_reads : {A : Type 0} (old new : LineBuffer A) (plain : List ℕ) → old.stage ≡ Inside → new.stage ≡ Inside → new.limit ≡ old.limit → new.count ≡ old.count + length plain
    → new.text.items ≡ old.text.items ++ plain → NoLineEnd plain → NoReturn plain → old.count + length plain ≤ old.limit → Reads old plain [] new
run_reads old new plain is at same count text none free fits = record {
  limit = same;
  has_read = λ octets h.
      let rest = (cut octets).rest in
      let before = at_place old.stage Inside old.limit old.count old.text.items rest is h.stands in
      let counted : new.count ≡ length (rest ++ plain) = count ∙ ap (λ n. n + length plain) before.0.counted ∙ sym (length-append rest plain) in
      let said : new.text.items ≡ text_of (rest ++ plain) = text ∙ ap (λ l. l ++ plain) before.0.said ∙ sym (text_behind-append-plain 10 rest plain before.1 free) in
      let later : StandsAtStage Inside new.limit new.count new.text.items (rest ++ plain) = (record { counted = counted; said = said }, last_octet-append-plain 10 rest plain before.1 free) in
      let placed : Stands new (rest ++ plain) = at_place Inside new.stage new.limit new.count new.text.items (rest ++ plain) (sym at) later in
      record { stands = subst (λ r. Stands new r) (sym (ap (λ k. k.rest) (cut-append-inside octets plain none))) placed };
  said = λ octets h.
      let before = at_place old.stage Inside old.limit old.count old.text.items (cut octets).rest is h.stands in
      lines-append-inside old.limit octets plain none (subst (λ n. n + length plain ≤ old.limit) before.0.counted fits) ∙ sym (append-nil (lines old.limit octets));
}

below_settled : (limit : ℕ) (rest : List ℕ) (octet : ℕ) → length rest < limit → settled limit rest octet ≡ (if octet == 10 then line (text_of (without_return rest)) ∷ [] else [])
below_settled limit rest octet less =
    let other : (length rest == limit) ≡ false = ne_eqb _ _ (λ e. omega arith) in
    let still : nat_le limit (length rest) ≡ false = no_leb _ _ less in
    rw (other, still) refl

-- an LF that ends a line
pub end_steps : {A : Type 0} (old new : LineBuffer A) → IsOpen old.stage → old.count < old.limit → new.limit ≡ old.limit → new.stage ≡ Start
    → ((old.stage ≡ Inside) → new.text.items ≡ old.text.items) → ((old.stage ≡ AfterReturn) → new.text.items ≡ take (length old.text.items - 1) old.text.items) → Steps old 10 Line new
end_steps old new is_open less same at keeps drops = record {
  limit = same;
  stands = λ rest stands. at_place Start new.stage new.limit new.count new.text.items [] (sym at) refl;
  said = λ rest stands.
      let here = within old.stage old.limit old.count old.text.items rest is_open stands in
      below_settled old.limit rest 10 (omega (arith, here.counted, less)) ∙ ap (λ l. line l ∷ []) (sym (text_is rest stands is_open));
}
  where
    text_is : (rest : List ℕ) → Stands old rest → IsOpen old.stage → new.text.items ≡ text_of (without_return rest)
    text_is rest stands (inl is) =
        let here = at_place old.stage Inside old.limit old.count old.text.items rest is stands in
        keeps is ∙ here.0.said ∙ ap text_of (whole rest here.1)
      where
        whole : (rest : List ℕ) → (last_octet 10 rest == 13) ≡ false → rest ≡ without_return rest
        whole rest e = rw e refl
    text_is rest stands (inr is) =
        let here = at_place old.stage AfterReturn old.limit old.count old.text.items rest is stands in
        drops is ∙ ap (λ l. take (length l - 1) l) here.0.said ∙ text_of-return rest here.1

-- NUL right behind CR
pub nul_steps : {A : Type 0} (old new : LineBuffer A) → old.stage ≡ AfterReturn → old.count < old.limit → new.limit ≡ old.limit → new.stage ≡ Inside
    → new.count ≡ old.count + 1 → new.text.items ≡ old.text.items → Steps old 0 More new
nul_steps old new is less same at count text = record {
  limit = same;
  stands = λ rest stands.
      let here = at_place old.stage AfterReturn old.limit old.count old.text.items rest is stands in
      let said : text_of (rest ++ 0 ∷ []) ≡ text_of rest = text_behind-append 10 rest 0 ∙ ap (λ b. text_of rest ++ (if b && true then [] else 0 ∷ [])) here.1 ∙ append-nil (text_of rest) in
      let last : (last_octet 10 (rest ++ 0 ∷ []) == 13) ≡ false = ap (λ c. c == 13) (last_octet-append 10 rest 0) in
      let counted : new.count ≡ length (rest ++ 0 ∷ []) = omega (arith, count, here.0.counted, length-append rest (0 ∷ [])) in
      at_place Inside new.stage new.limit new.count new.text.items (rest ++ 0 ∷ []) (sym at) (record { counted = counted; said = text ∙ here.0.said ∙ sym said }, last);
  said = λ rest stands.
      let here = at_place old.stage AfterReturn old.limit old.count old.text.items rest is stands in
      below_settled old.limit rest 0 (omega (arith, here.0.counted, less));
}

-- any other octet of a line
pub octet_steps : {A : Type 0} (old new : LineBuffer A) (octet : ℕ) → IsOpen old.stage → ((old.stage ≡ AfterReturn) → octet ≢ 0) → octet ≢ 10 → old.count < old.limit
    → new.limit ≡ old.limit → new.stage ≡ (if octet == 13 then AfterReturn else Inside) → new.count ≡ old.count + 1 → new.text.items ≡ old.text.items ++ octet ∷ [] → Steps old octet More new
octet_steps old new octet is_open no_nul no_end less same at count text = record {
  limit = same;
  stands = λ rest stands.
      let here = within old.stage old.limit old.count old.text.items rest is_open stands in
      let said : text_of (rest ++ octet ∷ []) ≡ text_of rest ++ octet ∷ [] = text_behind-append 10 rest octet ∙ ap (λ b. text_of rest ++ (if b then [] else octet ∷ [])) (kept rest stands is_open) in
      let facts : IsWithin new.count new.text.items (rest ++ octet ∷ []) = record { counted = omega (arith, count, here.counted, length-append rest (octet ∷ [])); said = text ∙ ap (λ l. l ++ octet ∷ []) here.said ∙ sym said } in
      let last : (last_octet 10 (rest ++ octet ∷ []) == 13) ≡ (octet == 13) = ap (λ c. c == 13) (last_octet-append 10 rest octet) in
      let inner : (octet == 10) ≡ false = ne_eqb octet 10 no_end in
      rw inner (elim (decided (octet == 13)) [
        | inl e ↦ at_place AfterReturn new.stage new.limit new.count new.text.items (rest ++ octet ∷ []) (sym (at ∙ ap (λ b. if b then AfterReturn else Inside) e)) (facts, last ∙ e)
        | inr e ↦ at_place Inside new.stage new.limit new.count new.text.items (rest ++ octet ∷ []) (sym (at ∙ ap (λ b. if b then AfterReturn else Inside) e)) (facts, last ∙ e)
      ]);
  said = λ rest stands.
      let here = within old.stage old.limit old.count old.text.items rest is_open stands in
      below_settled old.limit rest octet (omega (arith, here.counted, less)) ∙ ap (λ b. if b then line (text_of (without_return rest)) ∷ [] else []) (ne_eqb octet 10 no_end);
}
  where
    kept : (rest : List ℕ) → Stands old rest → IsOpen old.stage → ((last_octet 10 rest == 13) && (octet == 0)) ≡ false
    kept rest stands (inl is) = ap (λ b. b && (octet == 0)) (at_place old.stage Inside old.limit old.count old.text.items rest is stands).1
    kept rest stands (inr is) =
        let e : (octet == 0) ≡ false = ne_eqb octet 0 (no_nul is) in
        rw ((at_place old.stage AfterReturn old.limit old.count old.text.items rest is stands).1, e) refl

-- a step told in equal words
pub step_as : {A : Type 0} (old new : LineBuffer A) (octet told : ℕ) (event said : Event) → told ≡ octet → said ≡ event → Steps old octet event new → Steps old told said new
step_as old new octet told event said same is step =
    subst (λ o. Steps old o said new) (sym same) (subst (λ e. Steps old octet e new) (sym is) step)

-- the rest of a line that was too long, and its LF
pub skip_through : {A : Type 0} (old new : LineBuffer A) (piece : List ℕ) (at : ℕ) → old.stage ≡ Past → new.stage ≡ Start → new.limit ≡ old.limit
    → NoLineEnd (take at piece) → take (at + 1) piece ≡ take at piece ++ 10 ∷ [] → Reads old (take (at + 1) piece) [] new
skip_through old new piece at is ends same none octets =
    let P : List ℕ → Type 0 = λ l. Reads old l [] new in
    subst P (sym octets) (Reads-trans old old new (take at piece) (10 ∷ []) [] [] (skip_reads old (take at piece) is none) (Steps-Reads old new 10 More (skip_ends old new is ends same)))
