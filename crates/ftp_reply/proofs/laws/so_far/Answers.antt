use Rattle.std.proofs.Common.{◌++◌, ◌∷◌, [], refl, subst}
use Rattle.ftp_reply.specs.Reader.{GivesRightly}
use Rattle.ftp_reply.proofs.HeardLemmas.{line_is_heard}
use Rattle.ftp_reply.proofs.LawLemmas.{heard_more, heard_reply}
use Rattle.ftp_reply.proofs.laws.so_far.Goals as goal

pub returns-clause-goes_on : goal.returns-clause-goes_on
returns-clause-goes_on c = λ old new line all replies heard stands.
    let right = subst (GivesRightly stands.0 line) heard (line_is_heard old stands.0 line stands.1) in
    (stands.0 ++ line ∷ [], right, heard_more all replies stands.0 line stands.2)

pub returns-clause-ends : goal.returns-clause-ends
returns-clause-ends c = λ old line code lines all replies heard stands.
    let right = subst (GivesRightly stands.0 line) heard (line_is_heard old stands.0 line stands.1) in
    ([], refl, heard_reply (all ++ line ∷ []) replies (stands.0 ++ line ∷ []) code lines right (heard_more all replies stands.0 line stands.2))
