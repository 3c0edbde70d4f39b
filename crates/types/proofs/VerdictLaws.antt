-- A chain of checks that is passed passed each of them, and the other way round. Whoever uses these opens no chain.
-- Assumes nothing.
use Rattle.std.specs.Prelude.{Ok, Err}
use mathlib.Core.Path.{◌≡◌, refl}
use mathlib.Core.Bool.{Bool, true, false}
use Rattle.types.specs.declared.Refusal.{Refusal}
use Rattle.types.specs.Answers.{Verdict}
use Rattle.types.specs.declared.Command.{Command}
use Rattle.types.specs.Answers.{Answer}
use Rattle.types.specs.declared.Granted.TheVariants.{Issue}
use Rattle.types.specs.Verdicts.{refuse, and_then, answer_after, giving}

-- one check
pub check_passed : {t : Bool} (x : Refusal) {rest : Verdict} → refuse t x rest ≡ Ok tt → (t ≡ false) × (rest ≡ Ok tt)
unfolding refuse
check_passed {t} x {rest} e = by t e
  where
    by : (t : Bool) → refuse t x rest ≡ Ok tt → (t ≡ false) × (rest ≡ Ok tt)
    by true e = (cc, cc)
    by false e = (refl, e)

pub check_passes : {t : Bool} (x : Refusal) {rest v : Verdict} → t ≡ false → rest ≡ v → refuse t x rest ≡ v
unfolding refuse
check_passes x e g = rw e g

-- checks whose finding is a verdict already
pub then_passed : (v : Verdict) {rest : Verdict} → and_then v rest ≡ Ok tt → (v ≡ Ok tt) × (rest ≡ Ok tt)
unfolding and_then
then_passed (Ok tt) e = (refl, e)
then_passed (Err x) e = (cc, cc)

pub then_passes : {v rest w : Verdict} → v ≡ Ok tt → rest ≡ w → and_then v rest ≡ w
unfolding and_then
then_passes e g = rw e g

-- the answer after them: a command is issued only where they are passed
pub after_passed : (v : Verdict) {rest : Answer} {c : Command} → answer_after v rest ≡ Ok (Issue c) → (v ≡ Ok tt) × (rest ≡ Ok (Issue c))
unfolding answer_after
after_passed (Ok tt) e = (refl, e)
after_passed (Err x) e = (cc, cc)

pub after-passes : {v : Verdict} {rest : Answer} → v ≡ Ok tt → answer_after v rest ≡ rest
unfolding answer_after
after-passes e = rw e

-- A chain is its checks one after the other: each is made of its own, and the rest where it is passed. So `?` goes through it.
pub refuse_then : (t : Bool) (x : Refusal) (rest : Verdict) → and_then (refuse t x (Ok tt)) rest ≡ refuse t x rest
unfolding refuse and_then
refuse_then true x rest = refl
refuse_then false x rest = refl

pub then_after : (t : Bool) (x : Refusal) (v rest : Verdict) → and_then (refuse t x v) rest ≡ refuse t x (and_then v rest)
unfolding refuse and_then
then_after true x v rest = refl
then_after false x v rest = refl

-- what is given was given by checks that are passed, and what is refused they refuse
pub given : {A : Type 0} (v : Verdict) {a b : A} → giving v a ≡ Ok b → (v ≡ Ok tt) × (a ≡ b)
given (Ok tt) e = (refl, cc)
given (Err x) e = (cc, cc)

pub not_given : {A : Type 0} (v : Verdict) (a : A) {x : Refusal} → giving v a ≡ Err x → v ≡ Err x
not_given (Ok _) a e = cc
not_given (Err y) a e = cc
