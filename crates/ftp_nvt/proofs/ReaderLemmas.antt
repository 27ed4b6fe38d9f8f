-- An ear, seen as the fold behind what it has heard.
use Rattle.std.proofs.Common.{◌≡◌, ℕ, ◌≤◌, inl, inr, List, [], ◌∷◌, ◌++◌, ◌==◌, refl, sym, ap, subst, ◌∙◌, append_assoc, append-nil, arith, length, lt_irrefl}
use Rattle.std.specs.Prelude.{if◌then◌else◌}
use Rattle.std.specs.List.{flat_map}
use Rattle.ftp_nvt.specs.Lines.{cut, last_octet, text_of}
use Rattle.ftp_nvt.specs.Telnet.{TelnetUnit, place_behind, unit_ended, place_from, units_from, units, place_in_unit, bare_of, bare}
use Rattle.ftp_nvt.specs.LineBuffer.{StandsAtStage}
use Rattle.ftp_nvt.specs.Ear.{limit_of}
use Rattle.ftp_nvt.specs.declared.ear.Ear.{Ear as Reader}
use Rattle.ftp_nvt.specs.declared.line.Stage.{Stage}
use Rattle.ftp_nvt.specs.declared.line.Stage.TheVariants.{Start, Inside, AfterReturn, Past}
use Rattle.ftp_nvt.specs.declared.telnet.TelnetState.{TelnetState}
use Rattle.ftp_nvt.specs.declared.telnet.TelnetState.TheVariants as At
use Rattle.ftp_pieces.specs.Machine.{after}
use Rattle.ftp_nvt.specs.Fold.{Unfinished, no_line, liner, line_at, Ear, quiet, ear, ReaderIsEar}
use Rattle.ftp_nvt.proofs.FoldLemmas.{Stands, StandsBehind, same_line, stands_nil, say_all, first_stands}

-- what is kept of a line stands where the buffer does
line_stands : (stage : Stage) (limit count : ℕ) (text rest : List ℕ) → count ≤ limit → StandsAtStage stage limit count text rest → Stands limit (line_at stage count text) rest
line_stands Start limit count text rest keeps is = let P : List ℕ → Type 0 = λ r. Stands limit no_line r in subst P (sym is) (stands_nil limit)
line_stands Inside limit count text rest keeps (here, last) =
    inl (
      omega (arith, here.counted, keeps),
      same_line Inside (if last_octet 10 rest == 13 then AfterReturn else Inside) count (length rest) text (text_of rest)
          (sym (ap (λ b. if b then AfterReturn else Inside) last)) here.counted here.said,
    )
line_stands AfterReturn limit count text rest keeps (here, last) =
    inl (
      omega (arith, here.counted, keeps),
      same_line AfterReturn (if last_octet 10 rest == 13 then AfterReturn else Inside) count (length rest) text (text_of rest)
          (sym (ap (λ b. if b then AfterReturn else Inside) last)) here.counted here.said,
    )
line_stands Past limit count text rest keeps over = inr (over, refl)

-- it stands in one way
one_line : (limit : ℕ) (u v : Unfinished) (rest : List ℕ) → Stands limit u rest → Stands limit v rest → u ≡ v
one_line limit u v rest (inl (a, p)) (inl (b, q)) = p ∙ sym q
one_line limit u v rest (inl (a, p)) (inr (b, q)) = absurd (lt_irrefl limit (omega (arith, a, b)))
one_line limit u v rest (inr (a, p)) (inl (b, q)) = absurd (lt_irrefl limit (omega (arith, a, b)))
one_line limit u v rest (inr (a, p)) (inr (b, q)) = p ∙ sym q

bare-append : (us vs : List TelnetUnit) → flat_map bare_of (us ++ vs) ≡ flat_map bare_of us ++ flat_map bare_of vs
bare-append [] vs = refl
bare-append (u ∷ us) vs = ap (λ l. bare_of u ++ l) (bare-append us vs) ∙ sym (append_assoc (bare_of u) (flat_map bare_of us) (flat_map bare_of vs))

-- where octets lead an ear
record Leads (limit : ℕ) (e : Ear) (at : TelnetState) (before : List ℕ) : Type 0 where
  place : e.place ≡ at
  stands : StandsBehind limit e.line before

leads : (limit : ℕ) (at : TelnetState) (u : Unfinished) (before octets : List ℕ) → StandsBehind limit u before
    → Leads limit (after (ear limit) (record { place = at; line = u }) octets) (place_from at octets) (before ++ flat_map bare_of (units_from at octets))
leads limit at u before [] h =
    let P : List ℕ → Type 0 = λ l. StandsBehind limit u l in record { place = refl; stands = subst P (sym (append-nil before)) h }
leads limit at u before (c ∷ cs) h =
    let us : List TelnetUnit = unit_ended at c in
    let s = say_all limit u before at c h in
    let rest = leads limit (place_behind at c) (after (liner limit) u (flat_map bare_of us)) (before ++ flat_map bare_of us) cs s.stands in
    let vs : List TelnetUnit = units_from (place_behind at c) cs in
    let same : (before ++ flat_map bare_of us) ++ flat_map bare_of vs ≡ before ++ flat_map bare_of (us ++ vs) =
    append_assoc before (flat_map bare_of us) (flat_map bare_of vs) ∙ ap (λ l. before ++ l) (sym (bare-append us vs)) in
    let P : List ℕ → Type 0 = λ l. StandsBehind limit (after (ear limit) (record { place = at; line = u }) (c ∷ cs)).line l in
    record { place = rest.place; stands = subst P same rest.stands }

pub same_ear : (p q : TelnetState) (u v : Unfinished) → p ≡ q → u ≡ v → (let a : Ear = record { place = p; line = u } in let b : Ear = record { place = q; line = v } in a ≡ b)
same_ear p q u v e f i = record { place = e i; line = f i }

pub reader_is_ear : {A : Type 0} (reader : Reader A) → ReaderIsEar reader
unfolding place_in_unit bare units
reader_is_ear reader octets h =
    let limit : ℕ = limit_of reader in
    let l = leads limit At.Between no_line [] octets (first_stands limit) in
    let now = line_stands reader.line.stage limit reader.line.count reader.line.text.items (cut (bare octets)).rest reader.line.within h.line.stands in
    same_ear reader.place (after (ear limit) quiet octets).place (line_at reader.line.stage reader.line.count reader.line.text.items) (after (ear limit) quiet octets).line
    (h.place ∙ sym l.place)
    (one_line limit (line_at reader.line.stage reader.line.count reader.line.text.items) (after (ear limit) quiet octets).line (cut (bare octets)).rest now l.stands)
