-- What is possible stays possible: no step is answered 10, and none about a file that there is is answered 1. And so of every run, from a mount answered 0.
-- Assumes nothing.
use Prim.Native.Nat.{◌<◌}
use native.Mathlib.Omega.{arith}
use mathlib.Core.Path.{sym, subst}
use mathlib.Core.Logic.{◌≢◌}
use mathlib.Core.List.{List, [], ◌∷◌}
use Rattle.types.specs.declared.Volume.{Volume}
use Rattle.types.specs.Codes.{kind_from}
use Rattle.types.specs.Kinds.{files_of}
use Rattle.types.specs.Numbers.{answer_number}
use Rattle.mount.specs.Mount.{Mounting, mount_outcome}
use Rattle.mount.proofs.Leaves.{accepts, mount_leaves}
use Rattle.mount.proofs.Counted.{mount_true}
use Rattle.account.specs.Counts.{TrueCounts}
use Rattle.calls.specs.Calls as calls
use Rattle.completion.specs.Completions as completions
use Rattle.engine.specs.Engine.{State, mounted, Input, call, completion, step, run}
use Rattle.engine.specs.Frame.{kind_in, number_in}
use Rattle.consistency.specs.Possible.{Possible, impossible, MountedPossible, StaysPossible, NeverImpossible, FilesAreFound, NoneIs, RunNeverImpossible, RunFindsFiles}
use Rattle.engine.proofs.Laws.{call_by, completion_by_lem, run_fixes}
use Rattle.consistency.proofs.Mounted.{leaves_possible}
use Rattle.consistency.proofs.Kept.{input_possible}
use Rattle.consistency.proofs.Replies.{file_ordinary, call_answer, completion_ordinary, completion_answer}

-- A MOUNT ANSWERED 0 leaves what is possible.
pub mounted-possible : MountedPossible
unfolding MountedPossible
mounted-possible block superblock options report open_limit active_limit cnv seq zeroed =
    let t = accepts block superblock options report open_limit active_limit cnv seq zeroed in
    let left = mount_leaves block superblock options report open_limit active_limit cnv seq t in
    let account = mount_true block superblock options report open_limit active_limit cnv seq zeroed in
    subst (λ (o : Mounting). Possible (mounted o)) (sym left)
    (leaves_possible block superblock options report open_limit active_limit cnv seq t (subst (λ (o : Mounting). TrueCounts o.mount o.seq) left account))

-- WHAT IS POSSIBLE STAYS POSSIBLE.
pub stays_possible : StaysPossible
unfolding StaysPossible step
stays_possible s x p = input_possible p x

-- NO STEP IS ANSWERED 10.
pub never_impossible : NeverImpossible
unfolding NeverImpossible step
never_impossible s (call kind n x) p =
    call_by s.mount s.cnv s.seq (λ d. answer_number d.outcome.answer ≢ impossible) kind n x (λ e. call_answer p (kind_from kind) n x) (rw p.counts (λ q. omega arith))
never_impossible s (completion kind n x) p =
    completion_by_lem s.mount s.cnv s.seq (λ d. answer_number d.outcome.answer ≢ impossible) kind n x (λ e. completion_answer p (kind_from kind) n x) (rw p.counts (λ q. omega arith))

-- NOTHING ABOUT A FILE THAT THERE IS IS ANSWERED 1.
pub files_are_found : FilesAreFound
unfolding FilesAreFound step calls.effect_by completions.effect_by
files_are_found s (call kind n x) p (is, h) = rw is (file_ordinary p (kind_from kind) n x h).found
files_are_found s (completion kind n x) p (is, h) = rw is (completion_ordinary p (kind_from kind) n x h).found

-- A RUN, from a mount answered 0

pub run-possible : (s : State) (xs : List Input) → Possible s → Possible (run s xs).state
unfolding run StaysPossible
run-possible s [] p = p
run-possible s (x ∷ xs) p = run-possible (step s x).state xs (stays_possible s x p)

run_answers : (s : State) (xs : List Input) → Possible s → NoneIs impossible (run s xs).replies
unfolding run NoneIs StaysPossible NeverImpossible
run_answers s [] p = tt
run_answers s (x ∷ xs) p = (never_impossible s x p, run_answers (step s x).state xs (stays_possible s x p))

pub run_never_impossible : RunNeverImpossible
unfolding RunNeverImpossible MountedPossible
run_never_impossible block superblock options report open_limit active_limit cnv seq zeroed inputs = run_answers _ inputs (mounted-possible block superblock options report open_limit active_limit cnv seq zeroed)

pub run_finds_files : RunFindsFiles
unfolding RunFindsFiles MountedPossible FilesAreFound
run_finds_files block superblock options report open_limit active_limit cnv seq zeroed inputs x (is, h) =
    let s = mounted (mount_outcome block superblock options report open_limit active_limit cnv seq) in
    let p = run-possible s inputs (mounted-possible block superblock options report open_limit active_limit cnv seq zeroed) in
    files_are_found (run s inputs).state x p (is, subst (λ (v : Volume). number_in x < files_of (kind_from (kind_in x)) v) (sym (run_fixes s inputs)) h)
