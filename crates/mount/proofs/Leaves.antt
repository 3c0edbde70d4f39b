-- What a mount answered 0 tells, and what it leaves. Whoever uses these opens nothing of the mount's definition.
-- Assumes nothing.
use Rattle.std.specs.Prelude.{Ok}
use mathlib.Core.Bool.{false}
use mathlib.Core.List.{List}
use mathlib.Core.Path.{◌≡◌, refl, ◌∙◌}
use Prim.Native.Nat.{ℕ}
use lib.ListN.{length}
use Rattle.types.specs.declared.Row.{Row}
use Rattle.types.specs.Answers.{MountAnswer}
use Rattle.types.specs.Numbers.{mount_number}
use Rattle.types.proofs.NumberLaws.{mounted-zero}
use Rattle.table.specs.Rows.{rows_lent}
use Rattle.account.specs.Account.{is_active}
use Rattle.account.specs.Counts.{count_in}
use Rattle.superblock.specs.SuperBlock.{super_read, found_in, fields_in}
use Rattle.options.specs.Options.{options_of}
use Rattle.files.specs.Files.{cnv_rows, seq_rows}
use Rattle.mount.specs.Fill.{fill}
use Rattle.mount.specs.Mount.{Mounting, file_zones, explicit_of, aggregated, volume_of, account_of, mount_of, table_after, mount_outcome}
use Rattle.mount.proofs.Mounted.{Accepted, mounted-told, mounted_given}

module _ (block : ℕ) (superblock options report : List ℕ) (open_limit active_limit : ℕ) (cnv seq : List ℕ) where
  abbrev pub cnvs : List Row
  cnvs = cnv_rows (aggregated superblock) (file_zones report)

  abbrev pub seqs : List Row
  seqs = seq_rows (file_zones report)

  -- its checks are passed
  abbrev pub Accepts : Type 0
  Accepts = Accepted block (found_in (super_read superblock)) (options_of options) (aggregated superblock) report (rows_lent (length cnv)) (rows_lent (length seq)) (length cnvs) (length seqs)

  answered : mount_number (mount_outcome block superblock options report open_limit active_limit cnv seq).answer ≡ 0 → (mount_outcome block superblock options report open_limit active_limit cnv seq).answer ≡ Ok (length cnvs, length seqs)
  answered zeroed =
      let (c, (s, e)) = mounted-zero (mount_outcome block superblock options report open_limit active_limit cnv seq).answer zeroed in
      let t = mounted-told block superblock options report open_limit active_limit cnv seq c s e in
      let n = t.cnvs in
      let m = t.seqs in
      let same : ◌≡◌ {A = MountAnswer} (Ok (c, s)) (Ok (length cnvs, length seqs)) = cc in
      e ∙ same

  pub accepts : mount_number (mount_outcome block superblock options report open_limit active_limit cnv seq).answer ≡ 0 → Accepts
  accepts e = mounted-told block superblock options report open_limit active_limit cnv seq (length cnvs) (length seqs) (answered e)

  -- and what it leaves then
  abbrev pub leaves : Mounting
  leaves =
      let asked = options_of options in
      record {
        answer = Ok (length cnvs, length seqs);
        mount = record {
          volume = volume_of (length cnvs) (length seqs) block (fields_in (super_read superblock)) asked;
          readonly = false;
          account = account_of (count_in (is_active (explicit_of asked)) (fill seq seqs) (length seqs)) open_limit active_limit;
        };
        cnv = fill cnv cnvs;
        seq = fill seq seqs;
      }

  pub mount_leaves : Accepts → mount_outcome block superblock options report open_limit active_limit cnv seq ≡ leaves
  unfolding mount_outcome table_after mount_of
  mount_leaves t = rw (mounted_given block superblock options report open_limit active_limit cnv seq (length cnvs) (length seqs) t) refl
