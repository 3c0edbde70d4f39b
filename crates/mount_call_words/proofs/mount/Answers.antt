use mathlib.Core.Path.{◌∙◌, sym}
use Rattle.mount_call_words.specs.Words.{mount_given}
use Rattle.mount_call_words.proofs.Mounted.{mounted_so}
use Rattle.mount_call_words.proofs.mount.Goals as goal

pub returns : goal.returns
unfolding mount_given
returns c =
    let e = sym c.is_roomy.ensures.value ∙ c.if-not-is_roomy.false in
    let t = c.tell_mounted.ensures in
    let o = c.mount in
    let x = o.ensures in
    rw e (mounted_so _ _ _ (record { answer = o.result.answer; mount = o.result.mount; cnv = _; seq = _ }) _ x.answer x.mount x.cnvs x.seqs (t _ _))
