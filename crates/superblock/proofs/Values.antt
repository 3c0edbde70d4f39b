-- The checks of the values, made before others: what they refuse, else what the others find.
-- Assumes nothing.
use Rattle.std.specs.Prelude.{Ok, Err}
use mathlib.Core.Path.{◌≡◌, ◌∙◌, sym, ap}
use Prim.Native.Nat.{ℕ}
use Rattle.types.specs.declared.Refusal.{Refusal}
use Rattle.types.specs.declared.Refusal.TheVariants.{SuperFeatures, SuperOwner, SuperPerm}
use Rattle.types.specs.Answers.{Verdict}
use Rattle.types.specs.Verdicts.{refuse, and_then}
use Rattle.types.proofs.VerdictLaws.{refuse_then, then_after}
use Rattle.superblock.specs.SuperBlock.{unknown_features, no_owner, has_perm, wrong_perm, values_check}

pub values_then : (features uid gid perm : ℕ) (rest : Verdict) → and_then (values_check features uid gid perm (Ok tt)) rest ≡ values_check features uid gid perm rest
values_then features uid gid perm rest =
    then_after (unknown_features features) SuperFeatures _ rest
    ∙ ap (refuse (unknown_features features) SuperFeatures)
    (then_after (no_owner features uid gid) SuperOwner _ rest
    ∙ ap (refuse (no_owner features uid gid) SuperOwner) (refuse_then (wrong_perm (has_perm features) perm) SuperPerm rest))

-- so where they are passed the others decide, and what they refuse is refused
pub values_passed : (features uid gid perm : ℕ) (rest : Verdict) → values_check features uid gid perm (Ok tt) ≡ Ok tt → values_check features uid gid perm rest ≡ rest
unfolding and_then
values_passed features uid gid perm rest e = sym (values_then features uid gid perm rest) ∙ ap (λ v. and_then v rest) e

pub values_refused : (features uid gid perm : ℕ) {x : Refusal} (rest : Verdict) → values_check features uid gid perm (Ok tt) ≡ Err x → values_check features uid gid perm rest ≡ Err x
unfolding and_then
values_refused features uid gid perm rest e = sym (values_then features uid gid perm rest) ∙ ap (λ v. and_then v rest) e
