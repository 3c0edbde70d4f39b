use Rattle.std.proofs.lemmas.Result.{err_from_is_err_and}
use mathlib.Core.Path.{◌∙◌, sym}
use Rattle.superblock.proofs.Told.{super_told, read_passed, read_refused}
use Rattle.format.specs.Format.{fields_read}
use Rattle.format.proofs.read_fields.Goals as goal

pub returns-in_err-read_superblock : goal.returns-in_err-read_superblock
unfolding fields_read
returns-in_err-read_superblock c =
    let p = err_from_is_err_and c.from_residual.result c.from_residual.ensures.1 in
    rw (p.1, p.2, read_refused _ (sym c.read_superblock.ensures ∙ c.in_err-read_superblock.was))

pub fields_of-requires : goal.fields_of-requires
fields_of-requires c = (super_told c.args.b.now (read_passed _ (sym c.read_superblock.ensures ∙ c.in_ok-read_superblock.was))).size

pub returns : goal.returns
unfolding fields_read
returns c = rw (c.fields_of.ensures, read_passed _ (sym c.read_superblock.ensures ∙ c.in_ok-read_superblock.was))
