-- What finding a name answers: of no file's name, of a file that the mount doesn't have, and of one that it has.
-- Assumes nothing.
use Rattle.std.specs.Prelude.{Err, Some, None}
use Prim.Native.Nat.{ℕ}
use native.Mathlib.Omega.{arith}
use mathlib.Core.Path.{◌≡◌, ◌∙◌, ap}
use mathlib.Core.Bool.{true}
use mathlib.Core.List.{List}
use lib.ListN.{length}
use Rattle.types.specs.declared.Mount.{Mount}
use Rattle.types.specs.declared.FileKind.{FileKind}
use Rattle.types.specs.declared.Refusal.TheVariants as refusal
use Rattle.table.specs.Rows.{Slot}
use Rattle.names.specs.Names.{Name}
use Rattle.names.specs.Facts.{NameTells}
use Rattle.names.specs.Names.{name_of, named}
use Rattle.names.proofs.Naming.{unnamed, named_file, named_none}
use Rattle.checks.specs.Checks.{counts_fit, lookup_of, sound_slot}
use Rattle.inspect.specs.Find.{found_file, found_name, find_of}
use Rattle.checks.proofs.Laws.{counts_most, lookup_some, lookup_none, file_found}

module _ (m : Mount) (cnv seq name : List ℕ) (h : counts_fit m (length cnv) (length seq) ≡ true) where
  -- past the counts
  find_counted : (x : Name) → named m.volume name ≡ x → find_of m cnv seq name ≡ found_name m cnv seq x
  find_counted x e = rw (h, e)

  -- a text that is the name of no file
  pub find_unnamed : NameTells name None → find_of m cnv seq name ≡ Err refusal.NoFile
  find_unnamed t = find_counted None (unnamed m.volume name (λ k n l. t k n (omega (arith, counts_most m (length cnv) (length seq) h k))))

  -- the name of a file that the mount doesn't have
  pub find_none : (k : FileKind) (n : ℕ) → name ≡ name_of k n → lookup_of m.volume cnv seq k n ≡ None → find_of m cnv seq name ≡ Err refusal.NoFile
  find_none k n t e = find_counted None (named_none m.volume name k n t (lookup_none m.volume cnv seq k n e))

  -- and of one that it has
  pub find_file : (k : FileKind) (n : ℕ) (x : Slot) → name ≡ name_of k n → lookup_of m.volume cnv seq k n ≡ Some x
      → find_of m cnv seq name ≡ found_file k n (sound_slot m k x)
  find_file k n x t e =
      find_counted (Some (k, n)) (named_file m.volume name k n t (lookup_some m.volume cnv seq k n x e)) ∙ ap (found_file k n) (file_found m cnv seq k n h e)
