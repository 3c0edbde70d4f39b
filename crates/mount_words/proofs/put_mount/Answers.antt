use Prim.Native.Nat.{ℕ}
use native.Mathlib.Omega.{arith}
use mathlib.Core.Path.{◌≡◌, ◌∙◌}
use mathlib.Core.List.{List}
use lib.ListN.{set}
use lib.Seq.{sets}
use Rattle.types.specs.declared.Mount.{Mount}
use Rattle.types.specs.Codes.{flag_code}
use Rattle.answer_words.proofs.Front.{put_front}
use Rattle.mount_words.specs.Words.{volume_words, explicit_at, mount_words, with_state}
use Rattle.mount_words.proofs.put_mount.Goals as goal

-- the words as they are stored, one part after the other
stored : (w : List ℕ) (m : Mount) {l l' : List ℕ} {e : ℕ} → l ≡ sets w 0 (volume_words m.volume) → l' ≡ with_state l m
    → e ≡ flag_code m.volume.explicit → set l' explicit_at e ≡ sets w 0 (mount_words m)
unfolding mount_words with_state
stored w m a b c = rw (c, b, a)

pub returns : goal.returns
unfolding mount_words
returns c =
    let a = c.args in
    stored a.w.now a.m c.put_volume.ensures c.put_mark.ensures c.flag_code.ensures
    ∙ put_front a.w.now (mount_words a.m) (omega arith)
