-- What went in one call, by what was read in it and what was sent.
use Rattle.std.proofs.Common.{◌≡◌, ◌∙◌, ℕ, List, [], ◌++◌, Bool, true, Option, Some, None, IsTrue, inl, refl, sym, ap, subst, append-nil}
use Rattle.std.specs.Prelude.{◌⊎◌}
use Rattle.std.specs.Io.KnownBytes.{Appends, Consumes, Keeps}
use Rattle.ftp_wire.specs.Decoder.{Decoder}
use Rattle.ftp_client_stream.specs.SourceTransfer.{Gives, Reads, SendsFront, Stays, left_to_go}
use Rattle.ftp_client_stream.specs.SinkTransfer.{Pours}
use Rattle.ftp_client_stream.specs.declared.source_transfer.SourceTransfer.{SourceTransfer}

-- a link that keeps what it had was given nothing
keeps_appends : (before after : Option (List ℕ)) → Keeps before after → Appends before after []
keeps_appends None after keeps = tt
keeps_appends (Some x) None keeps = absurd keeps
keeps_appends (Some x) (Some y) keeps = keeps ∙ sym (append-nil x)

keeps_same : (known : Option (List ℕ)) → Keeps known known
keeps_same None = tt
keeps_same (Some x) = refl

keeps_consumes : (before after : Option (List ℕ)) → Keeps before after → Consumes before after []
keeps_consumes None after keeps = tt
keeps_consumes (Some x) None keeps = absurd keeps
keeps_consumes (Some x) (Some y) keeps = sym keeps

-- where nothing came all is as it was
pub pours_none : (before after : Option (List ℕ)) (d : Decoder) → Keeps before after → Pours before after d d
pours_none before after d keeps = record { came = []; taken = keeps_consumes before after keeps; heard = refl }

-- where nothing moves nothing went
pub gives_none : {D A : Type 0} (gave : D → List ℕ) (left : D → ℕ) (link : Option (List ℕ)) (d : SourceTransfer D A) → Gives gave left link link d d
gives_none gave left link d = record {
  drew = [];
  went = [];
  given = sym (append-nil (gave d.source));
  written = keeps_appends link link (keeps_same link);
  text = λ more is. refl;
  last = λ is. inl is;
}

-- a source that failed leaves all as it was
pub gives_stays : {D A : Type 0} (gave : D → List ℕ) (left : D → ℕ) (link : Option (List ℕ)) (old new : SourceTransfer D A)
    → Stays gave old new → Gives gave left link link old new
gives_stays gave left link old new stays = record {
  drew = [];
  went = [];
  given = stays.given ∙ sym (append-nil (gave old.source));
  written = keeps_appends link link (keeps_same link);
  text = λ more is. sym (stays.text more);
  last = λ is. inl (sym stays.last ∙ is);
}

-- what was read did not go where a link failed
pub gives_read : {D A : Type 0} (gave : D → List ℕ) (left : D → ℕ) (before after : Option (List ℕ)) (old new : SourceTransfer D A)
    → Reads gave left old new → Keeps before after → Gives gave left before after old new
gives_read gave left before after old new reads keeps = record {
  drew = reads.drew;
  went = [];
  given = reads.given;
  written = keeps_appends before after keeps;
  text = λ more is. sym (reads.text more is);
  last = reads.last;
}

-- octets were read, and then octets went
pub gives_sent : {D A : Type 0} (gave : D → List ℕ) (left : D → ℕ) (before after : Option (List ℕ)) (old between new : SourceTransfer D A)
    → Reads gave left old between → SendsFront before after between new → Gives gave left before after old new
gives_sent gave left before after old between new reads sends = record {
  drew = reads.drew;
  went = sends.went;
  given = ap gave sends.source ∙ reads.given;
  written = sends.written;
  text = λ more is. sym (reads.text more (λ was. is (sends.last ∙ was))) ∙ sends.text more;
  last = λ is. subst (λ source. IsTrue old.is_last ⊎ (left source ≡ 0)) (sym sends.source) (reads.last (sym sends.last ∙ is));
}
