-- A mount value is within its types: its numbers of files by the report's header, what the super block gives by its bytes, and its account by both
-- limits.
-- Assumes nothing.
use Rattle.std.specs.Prelude.{Ok, Err}
use mathlib.Core.Path.{◌≡◌, refl}
use mathlib.Core.List.{List}
use Prim.Native.Nat.{ℕ, ◌≤◌, ◌<◌, ◌^◌}
use native.Mathlib.Omega.{arith}
use lib.ListN.{get_or}
use Rattle.types.specs.Blocks.{most_files}
use Rattle.types.specs.declared.Account.{Account}
use Rattle.types.specs.Answers.{MountAnswer}
use Rattle.types.proofs.Volumes.{BoundedVolume}
use Rattle.account.specs.Account.{is_active}
use Rattle.account.proofs.Laws.{Small, count_most}
use Rattle.superblock.specs.declared.SuperBlock.{SuperBlock}
use Rattle.superblock.proofs.Bounds.{zero_bytes, BoundedFields, fields_bounded}
use Rattle.options.specs.Options.{Options}
use Rattle.mount.specs.Mount.{explicit_of, mount_of, mount_answer, mount_outcome}
use Rattle.mount.proofs.Mounted.{answer_few, mounted-told}

-- THE MOUNT VALUE

of_bounded : (x : MountAnswer) (block : ℕ) (f : SuperBlock) (o : Options) (open_limit active_limit : ℕ) (seq : List ℕ) → BoundedFields f
    → ((c s : ℕ) → x ≡ Ok (c, s) → (c ≤ most_files) × (s ≤ most_files)) → BoundedVolume (mount_of x block f o open_limit active_limit seq).volume
unfolding mount_of
of_bounded (Err x) block f o open_limit active_limit seq fields few =
    record {
      conventional = omega arith;
      sequential = omega arith;
      owner = omega arith;
      group = omega arith;
      mode = omega arith;
      bytes = zero_bytes 16;
      sixteen = refl;
    }
of_bounded (Ok (c, s)) block f o open_limit active_limit seq fields few =
    record {
      conventional = omega (arith, (few c s refl).0);
      sequential = omega (arith, (few c s refl).1);
      owner = fields.owner;
      group = fields.group;
      mode = fields.mode;
      bytes = fields.bytes;
      sixteen = fields.sixteen;
    }

-- numbers of 32 bits
abbrev pub ShortAccount : Account → Type 0
ShortAccount a = Small a × (a.open_limit < 2 ^ 32) × (a.active_limit < 2 ^ 32)

of_short : (x : MountAnswer) (block : ℕ) (f : SuperBlock) (o : Options) (open_limit active_limit : ℕ) (seq : List ℕ)
    → open_limit < 2 ^ 32 → active_limit < 2 ^ 32 → ((c s : ℕ) → x ≡ Ok (c, s) → (c ≤ most_files) × (s ≤ most_files))
    → ShortAccount (mount_of x block f o open_limit active_limit seq).account
unfolding mount_of
of_short (Err x) block f o open_limit active_limit seq first second few =
    (record { opened = omega arith; active = omega arith }, omega arith, omega arith)
of_short (Ok (c, s)) block f o open_limit active_limit seq first second few =
    (record { opened = omega arith; active = omega (arith, count_most (is_active (explicit_of o)) seq s, (few c s refl).1) }, first, second)

module _ (block : ℕ) (superblock options report : List ℕ) (open_limit active_limit : ℕ) (cnv seq : List ℕ) where
  pub files_few : (c s : ℕ) → (mount_outcome block superblock options report open_limit active_limit cnv seq).answer ≡ Ok (c, s) → (c ≤ most_files) × (s ≤ most_files)
  files_few c s e = answer_few _ _ _ _ _ _ _ c s (mounted-told block superblock options report open_limit active_limit cnv seq c s e)

  pub mount_bounded : ((k : ℕ) → get_or superblock k 0 < 256)
      → BoundedVolume (mount_outcome block superblock options report open_limit active_limit cnv seq).mount.volume
  unfolding mount_outcome
  mount_bounded bytes =
      of_bounded (mount_answer block superblock options report open_limit active_limit cnv seq) block _ _ _ _ _ (fields_bounded superblock bytes) files_few

  pub account_short : open_limit < 2 ^ 32 → active_limit < 2 ^ 32
      → ShortAccount (mount_outcome block superblock options report open_limit active_limit cnv seq).mount.account
  unfolding mount_outcome
  account_short first second =
      of_short (mount_answer block superblock options report open_limit active_limit cnv seq) block _ _ _ _ _ first second files_few
