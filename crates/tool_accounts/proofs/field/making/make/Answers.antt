use Rattle.std.proofs.Common.{◌<◌, length, arith, ◌∙◌, refl, subst, sym}
use Rattle.std.specs.Io.KnownBytes.{Appends}
use Rattle.ftp_ports.specs.Beginning.{AppendsFront}
use Rattle.tool_accounts.proofs.field.Ending.{ends_done, ends_failed, ends_refused}
use Rattle.tool_accounts.proofs.field.Opening.{field_is}
use Rattle.tool_accounts.specs.field.Making.{Reads}
use Rattle.tool_terminal.specs.declared.status.Status.TheVariants.{Failed}
use Rattle.tool_accounts.proofs.field.making.make.Goals as goal

-- there is no such password
pub returns-in-Err : goal.returns-in-Err
returns-in-Err g c =
    let before = g.R.Read.remaining c.args.reader.now in
    let after = g.R.Read.remaining c.read_all.new.reader in
    let reads = subst (λ octets. Reads before after octets) (sym c.as_slice.ensures.value) c.in-Ok.ensures in
    ends_refused c.args.rounds c.args.salt.now before after (g.W.Write.contents c.args.writer.now) c.as_slice.result.now c.in-Err.fault c.refused.result
    c.refused.ensures reads c.in-Err.ensures

-- LF has room after a field
pub push-requires : goal.push-requires
push-requires g c =
    let field = field_is c.args.rounds c.args.salt.now c.as_slice.result.now c.in-Ok-field_of.field.items c.in-Ok-field_of.ensures in
    let short : length c.in-Ok-field_of.field.items < 255 = omega (arith, field.short) in
    (omega arith, short)

-- the field was written
pub returns-in-Ok-put : goal.returns-in-Ok-put
returns-in-Ok-put g c =
    let before = g.R.Read.remaining c.args.reader.now in
    let after = g.R.Read.remaining c.read_all.new.reader in
    let old = g.W.Write.contents c.args.writer.now in
    let new = g.W.Write.contents c.put.new.writer in
    let reads = subst (λ octets. Reads before after octets) (sym c.as_slice.ensures.value) c.in-Ok.ensures in
    let wrote = subst (λ octets. Appends old new octets) (c.as_slice-2.ensures.value ∙ c.push.ensures.items) c.in-Ok-put.ensures.ok in
    ends_done c.args.rounds c.args.salt.now before after old new c.as_slice.result.now c.in-Ok-field_of.field.items reads c.in-Ok-field_of.ensures wrote

-- a beginning of it was
pub returns-in-Err-put : goal.returns-in-Err-put
returns-in-Err-put g c =
    let before = g.R.Read.remaining c.args.reader.now in
    let after = g.R.Read.remaining c.read_all.new.reader in
    let old = g.W.Write.contents c.args.writer.now in
    let new = g.W.Write.contents c.put.new.writer in
    let reads = subst (λ octets. Reads before after octets) (sym c.as_slice.ensures.value) c.in-Ok.ensures in
    let wrote = subst (λ octets. AppendsFront old new octets) (c.as_slice-2.ensures.value ∙ c.push.ensures.items) c.put.ensures.front in
    ends_failed c.args.rounds c.args.salt.now before after old new c.as_slice.result.now c.in-Ok-field_of.field.items Failed
    refl reads c.in-Ok-field_of.ensures wrote
