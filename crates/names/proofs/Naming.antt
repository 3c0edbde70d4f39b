-- Names: two names of files are the same only of the same file, and a mount's file is found by its name and by no other.
-- Assumes nothing.
use Rattle.std.specs.Prelude.{Some, None}
use Prim.Native.Nat.{ℕ, zero, suc, ◌≤◌, ◌<◌}
use native.Mathlib.Omega.{arith}
use native.Mathlib.Decide.{dec_le}
use native.Mathlib.Nat.{lt_of_not-le}
use mathlib.Core.Path.{◌≡◌, refl, sym, ◌∙◌}
use mathlib.Core.List.{List}
use lib.ListN.{length, take, drop, take-append-drop}
use Rattle.text.specs.Text.{decimal}
use Rattle.text.proofs.Decimal.{decimal-same}
use Rattle.text.proofs.Same.{same_refl, not_same}
use Rattle.types.specs.declared.Volume.{Volume}
use Rattle.types.specs.declared.FileKind.{FileKind}
use Rattle.types.specs.declared.FileKind.TheVariants.{Conventional, Sequential}
use Rattle.types.specs.Kinds.{files_of}
use Rattle.names.specs.Names.{prefix_of, name_of, file_named, named}

-- THE FIRST FOUR BYTES, and the rest

pub name_prefix : (k : FileKind) (n : ℕ) → take 4 (name_of k n) ≡ prefix_of k
unfolding name_of
name_prefix Conventional n = refl
name_prefix Sequential n = refl

pub name_digits : (k : FileKind) (n : ℕ) → drop 4 (name_of k n) ≡ decimal n
unfolding name_of
name_digits Conventional n = refl
name_digits Sequential n = refl

-- a name read by its parts
pub name_is : (name : List ℕ) (k : FileKind) (n : ℕ) → take 4 name ≡ prefix_of k → drop 4 name ≡ decimal n → name ≡ name_of k n
unfolding name_of
name_is name k n e f = sym (take-append-drop 4 name) ∙ rw (e, f)

name_length : (k : FileKind) (n : ℕ) → 4 ≤ length (name_of k n)
unfolding name_of
name_length Conventional n = omega arith
name_length Sequential n = omega arith

-- a shorter text is no name
pub name_short : (name : List ℕ) → length name < 4 → (k : FileKind) (n : ℕ) → name ≡ name_of k n → ⊥
name_short name h k n e = let l : length (name_of k n) < 4 = rw e at h in omega (arith, name_length k n)

pub name_number_lem : (k : FileKind) (n i : ℕ) → name_of k n ≡ name_of k i → n ≡ i
unfolding name_of
name_number_lem Conventional n i e = decimal-same n i (cc)
name_number_lem Sequential n i e = decimal-same n i (cc)

pub name_kind : (n i : ℕ) → name_of Conventional n ≡ name_of Sequential i → ⊥
unfolding name_of
name_kind n i e = let z : ◌≡◌ {A = ℕ} 99 115 = cc in omega arith

-- A FILE OF A NAME

-- none, where the name is that of none of them
file_unnamed : (k : FileKind) (files : ℕ) (name : List ℕ) → ((n : ℕ) → n < files → name ≡ name_of k n → ⊥) → file_named k files name ≡ None
unfolding file_named
file_unnamed k zero name h = refl
file_unnamed k (suc n) name h =
    rw (not_same name (name_of k n) (h n (omega arith))) (file_unnamed k n name (λ i l. h i (omega arith)))

-- and the file whose name it is
file_named_lem : (k : FileKind) (files n : ℕ) → n < files → file_named k files (name_of k n) ≡ Some (k, n)
unfolding file_named
file_named_lem k zero n h = absurd (omega arith)
file_named_lem k (suc i) n h = elim (dec_le i n) [
  | yes p ↦ let e : n ≡ i = omega arith in rw (e, same_refl (name_of k i))
  | no p ↦
      rw (not_same (name_of k n) (name_of k i) (λ e. let q : n ≡ i = name_number_lem k n i e in omega arith)) (file_named_lem k i n (lt_of_not-le p))
]

module _ (v : Volume) (name : List ℕ) where
  -- a text that is the name of none of the mount's files
  pub unnamed : ((k : FileKind) (n : ℕ) → n < files_of k v → name ≡ name_of k n → ⊥) → named v name ≡ None
  unfolding named
  unnamed h = rw (file_unnamed Conventional v.conventional name (h Conventional), file_unnamed Sequential v.sequential name (h Sequential))

  -- the name of file n of a kind, where the mount has it, and where it hasn't
  pub named_file : (k : FileKind) (n : ℕ) → name ≡ name_of k n → n < files_of k v → named v name ≡ Some (k, n)
  unfolding named
  named_file Conventional n e l = rw (e, file_named_lem Conventional v.conventional n l)
  named_file Sequential n e l =
      rw (
        file_unnamed Conventional v.conventional name (λ i g q. name_kind i n (sym q ∙ e)),
        e,
        file_named_lem Sequential v.sequential n l,
      )

  pub named_none : (k : FileKind) (n : ℕ) → name ≡ name_of k n → files_of k v ≤ n → named v name ≡ None
  named_none k n e l = unnamed (λ j i g q. other k j i g (sym e ∙ q) l)
    where
      other : (k j : FileKind) (i : ℕ) → i < files_of j v → name_of k n ≡ name_of j i → files_of k v ≤ n → ⊥
      other Conventional Conventional i g q l = let s : n ≡ i = name_number_lem Conventional n i q in omega arith
      other Conventional Sequential i g q l = name_kind n i q
      other Sequential Conventional i g q l = name_kind i n (sym q)
      other Sequential Sequential i g q l = let s : n ≡ i = name_number_lem Sequential n i q in omega arith
