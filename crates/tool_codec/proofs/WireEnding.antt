-- The end of a wire.
use Rattle.std.proofs.Common.{◌≡◌, ℕ, ◌<◌, ◌^◌, ◌∙◌, List, [], ◌∷◌, ◌++◌, length, true, false, refl, sym, ap, subst, append_assoc, append-nil, ◌⊎◌, inl, inr}
use Rattle.std.specs.Prelude.{Bool, if◌then◌else◌, ◌==◌, ◌||◌}
use Rattle.std.proofs.lemmas.Bool.{eqb-true}
use Rattle.ftp_pieces.specs.Machine.{after, gives}
use Rattle.ftp_repr.specs.Signs.{end_record, end_file}
use Rattle.ftp_settings.specs.Representation.{Form, form_of}
use Rattle.ftp_repr.specs.Content.{content}
use Rattle.ftp_repr.specs.Receiving.{Taking, fresh, receiving}
use Rattle.ftp_repr.specs.Received.{ReceivesSigns, receiver_form, taking_at_stage}
use Rattle.ftp_settings.specs.declared.representation.Kind.{Kind}
use Rattle.ftp_settings.specs.declared.representation.Structure.{Structure}
use Rattle.ftp_settings.specs.declared.representation.Structure.TheVariants.{File, Record}
use Rattle.ftp_repr.proofs.ContentLemmas.{gives-receiving}
use Rattle.ftp_pieces.proofs.MachineLemmas.{after-append, gives-append}
use Rattle.ftp_mode.specs.declared.fault.FrameFault.{FrameFault}
use Rattle.ftp_mode.specs.declared.fault.FrameFault.TheVariants.{EndedEarly}
use Rattle.ftp_settings.specs.declared.representation.Mode.{Mode}
use Rattle.ftp_settings.specs.declared.representation.Mode.TheVariants.{Stream, Block as Blocks}
use Rattle.ftp_mode.specs.Said.{Said, says, file_signs}
use Rattle.ftp_mode.specs.Stream.{code_said}
use Rattle.ftp_mode.specs.Block.{has, ends_of, octets_of}
use Rattle.ftp_mode.specs.Units.{WireUnit, one, escape, whole, unit_said, unit_ends, units_said, IsText}
use Rattle.ftp_mode.specs.Reading.{Reading, Place, going, failed, is_complete, is_complete_at, at_wire_end, reader, start}
use Rattle.ftp_mode.specs.Deframing.{reading}
use Rattle.ftp_mode.specs.Laws.{unsaid_end, ended_content, settled_content}
use Rattle.ftp_mode.proofs.ExactLemmas.{to_reads, says_front, fails_fault, early_reads, early_faults}
use Rattle.tool_codec.proofs.Hearing.{file-append}
use Rattle.tool_codec.specs.Receiving.{read_by, said_by, StandsAfter, WholeAfter}
use Rattle.tool_codec.specs.WireReading.{ReadsAs, SettlesFile, ReadsNoFile}
use Rattle.ftp_settings.specs.declared.representation.Representation.{Representation}
use Rattle.tool_codec.specs.declared.receiving.Receiving.{Receiving}

-- THE END OF FILE

-- what is said ends with the end of file
abbrev pub Ends : List Said → Type 0
Ends said = (front : List Said) × (said ≡ front ++ says end_file ∷ [])

ends_behind : (a b : List Said) → Ends b → Ends (a ++ b)
ends_behind a b end = (a ++ end.0, ap (λ l. a ++ l) end.1 ∙ sym (append_assoc a end.0 (says end_file ∷ [])))

code_is : (code : ℕ) (two three : Bool) → (code == 2) ≡ two → (code == 3) ≡ three → (two || three) ≡ true → Ends (code_said code)
code_is code true three a b e = subst (λ c. Ends (code_said c)) (sym (eqb-true code 2 a)) ([], refl)
code_is code false true a b e = subst (λ c. Ends (code_said c)) (sym (eqb-true code 3 b)) (says end_record ∷ [], refl)
code_is code false false a b e = absurd (cc)

descriptor_ends : (d : ℕ) → has d 64 ≡ true → Ends (ends_of d)
descriptor_ends d h = ((if has d 128 then says end_record ∷ [] else []), ap (λ b. (if has d 128 then says end_record ∷ [] else []) ++ (if b then says end_file ∷ [] else [])) h)

unit_is_last : (u : WireUnit) → unit_ends u ≡ true → Ends (unit_said u)
unit_is_last (one c) e = absurd (cc)
unit_is_last (escape code) e = code_is code (code == 2) (code == 3) refl refl e
unit_is_last (whole b) e = ends_behind (octets_of b.descriptor b.octets) (ends_of b.descriptor) (descriptor_ends b.descriptor e)

text_ends : (m : Mode) (s : Structure) (w : List ℕ) (said : List Said) → IsText m s w said → Ends said
text_ends m s w said t = subst Ends (sym t.says) (ends_behind (units_said t.units) (unit_said t.last) (unit_is_last t.last t.ends))

-- behind an end of file a receiver gives nothing
over_by : (f : Form) (t : Taking) (ended : Bool) → t.ended ≡ ended → (after (receiving f) t (end_file ∷ [])).ended ≡ true
over_by f t true e = rw e refl
over_by f t false e = rw e refl

gives_by : (f : Form) (t : Taking) → t.ended ≡ true → gives (receiving f) t (end_file ∷ []) ≡ []
gives_by f t e = rw e refl

said_twice : (f : Form) (said : List Said) → Ends said → gives (receiving f) fresh (file_signs said ++ end_file ∷ []) ≡ gives (receiving f) fresh (file_signs said)
said_twice f said end =
    let ss = file_signs said in
    let t = after (receiving f) fresh (file_signs end.0) in
    let same : after (receiving f) fresh ss ≡ after (receiving f) t (end_file ∷ []) =
    ap (λ l. after (receiving f) fresh (file_signs l)) end.1 ∙ ap (after (receiving f) fresh) (file-append end.0 (says end_file ∷ []))
    ∙ after-append (receiving f) fresh (file_signs end.0) (end_file ∷ []) in
    let ended : (after (receiving f) fresh ss).ended ≡ true = ap (λ z. z.ended) same ∙ over_by f t t.ended refl in
    gives-append (receiving f) fresh ss (end_file ∷ []) ∙ ap (λ l. gives (receiving f) fresh ss ++ l) (gives_by f (after (receiving f) fresh ss) ended)
    ∙ append-nil (gives (receiving f) fresh ss)

behind_text : (m : Mode) (k : Kind) (s : Structure) (w : List ℕ) → unsaid_end m s ≡ [] → IsText m s w (gives reader (start m s) w)
    → gives (receiving (record { kind = k; structure = s })) fresh (file_signs (gives reader (start m s) w) ++ end_file ∷ []) ≡ ended_content m (record { kind = k; structure = s }) w
behind_text m k s w none text =
    let f : Form = record { kind = k; structure = s } in
    let said = gives reader (start m s) w in
    said_twice f said (text_ends m s w said text) ∙ gives-receiving f (file_signs said)
    ∙ ap (λ l. content f (file_signs l)) (sym (ap (λ l. said ++ l) none ∙ append-nil said))

end_by : (m : Mode) (k : Kind) (s : Structure) (w : List ℕ) → length w < 2 ^ 64 → is_complete (after reader (start m s) w)
    → gives (receiving (record { kind = k; structure = s })) fresh (file_signs (gives reader (start m s) w) ++ end_file ∷ []) ≡ ended_content m (record { kind = k; structure = s }) w
end_by Stream k File w fits done =
    let f : Form = record { kind = k; structure = File } in
    let said = gives reader (start Stream File) w in
    gives-receiving f (file_signs said ++ end_file ∷ []) ∙ ap (content f) (sym (file-append said (says end_file ∷ [])))
end_by Stream k Record w fits done =
    let said = gives reader (start Stream Record) w in
    behind_text Stream k Record w refl (to_reads Stream Record w said fits (record { complete = done; says = sym (append-nil said) }))
end_by Blocks k s w fits done =
    let said = gives reader (start Blocks s) w in
    behind_text Blocks k s w refl (to_reads Blocks s w said fits (record { complete = done; says = sym (append-nil said) }))

-- the end of the connection ends the file, whether an end of file came or not
pub end_content : (m : Mode) (f : Form) (w : List ℕ) → length w < 2 ^ 64 → is_complete (after reader (start m f.structure) w)
    → gives (receiving f) fresh (file_signs (gives reader (start m f.structure) w) ++ end_file ∷ []) ≡ ended_content m f w
end_content m f w fits done = end_by m f.kind f.structure w fits done

-- THE END OF THE INPUT

done_by : (n : ℕ) (p : Place) (b : Bool) → is_complete_at p ≡ b → is_complete (if b then going n p else failed EndedEarly) → is_complete (going n p)
done_by n p true e done = e
done_by n p false e done = absurd done

at_end_done : (t : Reading) → is_complete (at_wire_end t) → is_complete t
at_end_done (going n p) done = done_by n p (is_complete_at p) refl done
at_end_done (failed fault) done = absurd done

pub end_whole : {A : Type 0} (r : Representation) (wire written : List ℕ) (ended : Bool) (old new : Receiving A) (state : Reading)
    → length wire < 2 ^ 64 → StandsAfter r wire written old → ended ≡ true → state ≡ at_wire_end (reading old.deframer) → is_complete state
    → ReceivesSigns old.receiver (end_file ∷ []) new.receiver old.settled.items new.settled.items → WholeAfter r wire written ended new
end_whole r wire written ended old new state fits stands done is complete receives =
    let f = form_of r in
    let said = file_signs (said_by r wire) in
    let P : Reading → Type 0 = λ t. is_complete t in
    let ends : is_complete (read_by r wire) = at_end_done (read_by r wire) (subst P (is ∙ ap at_wire_end stands.state) complete) in
    let last = gives (receiving (receiver_form old.receiver)) (taking_at_stage old.receiver) (end_file ∷ []) in
    record {
      whole = done;
      complete = ends;
      settled = ap (λ l. written ++ l) receives.added ∙ sym (append_assoc written old.settled.items last)
          ∙ ap (λ l. l ++ last) (stands.settled ∙ sym (gives-receiving f said))
          ∙ ap (λ g. gives (receiving f) fresh said ++ gives (receiving g) (taking_at_stage old.receiver) (end_file ∷ [])) stands.form
          ∙ ap (λ t. gives (receiving f) fresh said ++ gives (receiving f) t (end_file ∷ [])) stands.taken
          ∙ sym (gives-append (receiving f) fresh said (end_file ∷ []))
          ∙ end_content r.mode f wire fits ends;
    }

-- WHAT A WIRE SAYS

pub settles_of : (r : Representation) (w : List ℕ) → length w < 2 ^ 64 → SettlesFile r w (settled_content r.mode (form_of r) w)
settles_of r w fits = (said_by r w, says_front r.mode r.structure w (said_by r w) fits refl, refl)

pub reads_of : (r : Representation) (w : List ℕ) → length w < 2 ^ 64 → is_complete (read_by r w) → ReadsAs r w (ended_content r.mode (form_of r) w)
reads_of r w fits done =
    let said = said_by r w ++ unsaid_end r.mode r.structure in
    (said, to_reads r.mode r.structure w said fits (record { complete = done; says = refl }), refl)

pub stops_of : (r : Representation) (w : List ℕ) (ended : Bool) (end : Type 0) (fault : FrameFault) → length w < 2 ^ 64 → (ended ≡ true → end)
    → ((read_by r w ≡ failed fault) ⊎ ((fault ≡ EndedEarly) × (ended ≡ true) × (at_wire_end (read_by r w) ≡ failed EndedEarly))) → ReadsNoFile r w end fault
stops_of r w ended end fault fits done stops = elim stops [
  | inl fails ↦ inl (fails_fault r.mode r.structure w fault fits fails)
  | inr early ↦ inr (
    early.0,
    done early.1,
    ((λ said reads. early_reads r.mode r.structure w said early.2 reads), (λ other is. early_faults r.mode r.structure w other fits early.2 is)),
  )
]
