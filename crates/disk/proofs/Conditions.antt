-- Conditions: equal where their codes are, worse after a harm, never better.
-- Assumes nothing.
use mathlib.Core.Bool.{Bool, true, false, not, cond}
use mathlib.Core.Path.{◌≡◌, refl, sym, ap, ◌∙◌}
use Prim.Native.Nat.{ℕ, ◌≤◌}
use native.Mathlib.Omega.{arith}
use lib.Dec.{leb, eqb}
use borrow.Author.Tests.{leb-true, eqb-true, le-leb}
use Rattle.types.specs.declared.FileKind.{FileKind}
use Rattle.types.specs.declared.FileKind.TheVariants.{Conventional, Sequential}
use Rattle.types.specs.declared.Condition.{Condition}
use Rattle.types.specs.declared.Condition.TheVariants.{Healthy, ReadOnly, Offline}
use Rattle.types.specs.Codes.{condition_code}
use Rattle.types.specs.Predicates.{is_conventional, is_healthy}
use Rattle.disk.specs.Disk.{Harm, none, to_read_only, to_offline, worsened}

-- "its condition may not be better than a seq row's": h is not better than c
abbrev pub not_better : Condition → Condition → Bool
not_better c h = leb (condition_code c) (condition_code h)

pub healthy-is : (h : Condition) → is_healthy h ≡ true → h ≡ Healthy
healthy-is Healthy e = refl
healthy-is ReadOnly e = cc
healthy-is Offline e = cc

pub sequential-is : (k : FileKind) → not (is_conventional k) ≡ true → k ≡ Sequential
sequential-is Conventional e = cc
sequential-is Sequential e = refl

abbrev from_code : ℕ → Condition
from_code n = cond (eqb n 0) Healthy (cond (eqb n 1) ReadOnly Offline)

code_back : (c : Condition) → from_code (condition_code c) ≡ c
code_back Healthy = refl
code_back ReadOnly = refl
code_back Offline = refl

same_code : (c h : Condition) → condition_code c ≡ condition_code h → c ≡ h
same_code c h e = sym (code_back c) ∙ ap from_code e ∙ code_back h

pub same_condition : (c h : Condition) → eqb (condition_code c) (condition_code h) ≡ true → c ≡ h
same_condition c h e = same_code c h (eqb-true _ _ e)

pub not_better_self : (h : Condition) → not_better h h ≡ true
not_better_self h = le-leb (condition_code h) (condition_code h) (omega arith)

-- a zone that is healthy is known to be
pub healthy_known : (c h : Condition) → not_better c h ≡ true → h ≡ Healthy → h ≡ c
healthy_known c h n e = same_code h c (omega (arith, leb-true (condition_code c) (condition_code h) n, ap condition_code e))

-- A HARM

worsens : (h : Condition) (e : Harm) → condition_code h ≤ condition_code (worsened h e)
worsens h none = omega arith
worsens Healthy to_read_only = omega arith
worsens ReadOnly to_read_only = omega arith
worsens Offline to_read_only = omega arith
worsens Healthy to_offline = omega arith
worsens ReadOnly to_offline = omega arith
worsens Offline to_offline = omega arith

pub not_better_lem : (c h : Condition) (e : Harm) → not_better c h ≡ true → not_better c (worsened h e) ≡ true
not_better_lem c h e n = le-leb (condition_code c) (condition_code (worsened h e)) (omega (arith, leb-true (condition_code c) (condition_code h) n, worsens h e))

pub healthy_before : (h : Condition) (e : Harm) → worsened h e ≡ Healthy → h ≡ Healthy
healthy_before h e f = same_code h Healthy (omega (arith, worsens h e, ap condition_code f))

pub unhealthy_still : (h : Condition) (e : Harm) → is_healthy h ≡ false → is_healthy (worsened h e) ≡ false
unhealthy_still h none f = f
unhealthy_still Healthy to_read_only f = refl
unhealthy_still ReadOnly to_read_only f = refl
unhealthy_still Offline to_read_only f = refl
unhealthy_still h to_offline f = refl

pub offline_still : (h : Condition) (e : Harm) → h ≡ Offline → worsened h e ≡ Offline
offline_still h e f = rw f (by e)
  where
    by : (e : Harm) → worsened Offline e ≡ Offline
    by none = refl
    by to_read_only = refl
    by to_offline = refl
