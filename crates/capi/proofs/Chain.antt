-- The words of a caller in C hold the engine's mount value, from a mount on.
-- Assumes nothing.
use Rattle.std.specs.Prelude.{Ok, Err}
use Prim.Native.Nat.{ℕ, ◌≤◌, ◌<◌, ◌^◌}
use native.Mathlib.Omega.{arith}
use mathlib.Core.Bool.{Bool, true, false}
use mathlib.Core.List.{List, [], ◌∷◌, map}
use mathlib.Core.Logic.{◌≢◌}
use mathlib.Core.Path.{◌≡◌, refl, ap, ◌∙◌, sym, subst}
use lib.ListN.{length, drop, length-append}
use borrow.Author.Tests.{le-leb}
use Rattle.types.specs.Answers.{MountAnswer}
use Rattle.types.specs.Mounts.{empty_mount}
use Rattle.types.specs.Numbers.{answer_number, mount_number}
use Rattle.types.proofs.Tests.{both, and_left}
use Rattle.wire.specs.Le.{le}
use Rattle.mount.specs.Mount.{mount_of, table_after, mount_answer, mount_outcome}
use Rattle.mount.proofs.Bounds.{mount_bounded, account_short}
use Rattle.engine.specs.Engine.{State, mounted, Input, step, run}
use Rattle.engine.specs.Frame.{Frame}
use Rattle.engine.proofs.Laws.{step_fixes, step_limits, step_small}
use Rattle.engine.proofs.Frame.{frame}
use Rattle.answer_words.specs.Answers.{answer_length, answer_words, written}
use Rattle.mount_words.specs.Words.{mount_words, account_words, possible, mount_from, with_state, with_counts, Holds}
use Rattle.mount_words.proofs.Laws.{BoundedAccount, written_back, state_back, state_stays}
use Rattle.step_words.specs.Words.{Changed, told, usable, step_words}
use Rattle.mount_call_words.specs.Words.{told_mounted, roomy, mount_given}
use Rattle.capi.specs.Chain.{state_in, Keeps, run_words, Typed, Empty, StepKept, RefusedKept, MountKept, MountEmpty, ChainKept}
use Rattle.capi.proofs.Refused.{LeavesAll}

-- A STEP of usable words
usable-possible : (w u : List ℕ) (room : ℕ) → usable w u room ≡ true → possible w u ≡ true
unfolding usable
usable-possible w u room h = and_left _ _ h

-- an account that is read from words is made of numbers of 32 bits
words_bounded : (w u : List ℕ) → BoundedAccount (mount_from w u).account
unfolding mount_from
words_bounded w u = record { opened = omega arith; active = omega arith; open_limit = omega arith; active_limit = omega arith }

-- and so is what a step makes of it
step_bounded : (w u cnv seq : List ℕ) (x : Input) → BoundedAccount (step (state_in w u cnv seq) x).state.mount.account
step_bounded w u cnv seq x =
    let s = state_in w u cnv seq in
    let b = words_bounded w u in
    let (first, second) = step_limits s x in
    let small = step_small s x (record { opened = b.opened; active = b.active }) in
    record {
      opened = small.opened;
      active = small.active;
      open_limit = subst (λ (n : ℕ). n < 2 ^ 32) (sym first) b.open_limit;
      active_limit = subst (λ (n : ℕ). n < 2 ^ 32) (sym second) b.active_limit;
    }

words_step : (w u cnv seq : List ℕ) (x : Input) → possible w u ≡ true
    → let m = (step (state_in w u cnv seq) x).state.mount in Holds (with_state w m) (with_counts u m.account) m
words_step w u cnv seq x h =
    let s = state_in w u cnv seq in
    let (first, second) = step_limits s x in
    state_back w u (step s x).state.mount h (record { volume = step_fixes s x; open_limit = first; active_limit = second }) (step_bounded w u cnv seq x)

step-told : (w u cnv seq : List ℕ) (x : Input) (a : List ℕ) → usable w u (length a) ≡ true
    → step_words w u cnv seq x a ≡ told w u a (step (state_in w u cnv seq) x)
unfolding step_words
step-told w u cnv seq x a h = rw h

words-usable : (w u a : List ℕ) → possible w u ≡ true → answer_length ≤ length a → usable w u (length a) ≡ true
unfolding usable
words-usable w u a h room = both h (le-leb _ _ room)

-- the number, the tables, and the words
step_of : (w u cnv seq : List ℕ) (x : Input) (a : List ℕ) → usable w u (length a) ≡ true → let t = step (state_in w u cnv seq) x in
    ((step_words w u cnv seq x a).number ≡ answer_number t.reply) × Keeps (step_words w u cnv seq x a) t.state
step_of w u cnv seq x a h =
    rw (step-told w u cnv seq x a h) (refl, record { words = words_step w u cnv seq x (usable-possible w u (length a) h); cnv = refl; seq = refl })

pub step_kept : StepKept
unfolding StepKept
step_kept = step_of

-- A REFUSAL leaves the state, and so every word
refused_by : (w u cnv seq : List ℕ) (x : Input) (a : List ℕ) (t : Bool) → usable w u (length a) ≡ t → LeavesAll w u cnv seq x a t
unfolding Frame
refused_by w u cnv seq x a false h e f = record { words = refl; account = refl; cnv = refl; seq = refl }
refused_by w u cnv seq x a true h e f =
    let same = (frame (state_in w u cnv seq) x).refused e f in
    let (words, account) = state_stays w u (usable-possible w u (length a) h) in
    record {
      words = ap (λ (s : State). with_state w s.mount) same ∙ words;
      account = ap (λ (s : State). with_counts u s.mount.account) same ∙ account;
      cnv = ap (λ (s : State). s.cnv) same;
      seq = ap (λ (s : State). s.seq) same;
    }

pub refused_kept : RefusedKept
unfolding RefusedKept step_words
refused_kept w u cnv seq x a = refused_by w u cnv seq x a (usable w u (length a)) refl

-- A MOUNT
module _ (block : ℕ) (superblock options report : List ℕ) (open_limit active_limit : ℕ) (cnv seq w u a : List ℕ) (h : roomy (length w) (length u) (length a) ≡ true) where
  mount_told : mount_given block superblock options report open_limit active_limit cnv seq w u a
      ≡ told_mounted w u a (mount_outcome block superblock options report open_limit active_limit cnv seq)
  unfolding mount_given
  mount_told = rw h

  mount_keeps : Typed superblock open_limit active_limit
      → Keeps (mount_given block superblock options report open_limit active_limit cnv seq w u a) (mounted (mount_outcome block superblock options report open_limit active_limit cnv seq))
  mount_keeps typed =
      let m = (mount_outcome block superblock options report open_limit active_limit cnv seq).mount in
      let volume = mount_bounded block superblock options report open_limit active_limit cnv seq typed.bytes in
      let (small, first, second) = account_short block superblock options report open_limit active_limit cnv seq typed.opened typed.active in
      let account : BoundedAccount m.account = record { opened = small.opened; active = small.active; open_limit = first; active_limit = second } in
      rw mount_told (record { words = written_back w u m volume account; cnv = refl; seq = refl })

  -- a refused one hands out the empty mount value, and leaves both tables
  refused_mount : (x : MountAnswer) → mount_answer block superblock options report open_limit active_limit cnv seq ≡ x → mount_number x ≢ 0
      → mount_outcome block superblock options report open_limit active_limit cnv seq ≡ record { answer = x; mount = empty_mount; cnv = cnv; seq = seq }
  unfolding mount_outcome mount_of table_after
  refused_mount (Err y) e n = rw e refl
  refused_mount (Ok (c, s)) e n = absurd (n refl)

  empty_told : (x : MountAnswer) → Empty (told_mounted w u a (record { answer = x; mount = empty_mount; cnv = cnv; seq = seq })) w u cnv seq
  unfolding mount_words account_words le
  empty_told x = record { words = refl; account = refl; cnv = refl; seq = refl }

  mount_emptied : (mount_given block superblock options report open_limit active_limit cnv seq w u a).number ≢ 0
      → Empty (mount_given block superblock options report open_limit active_limit cnv seq w u a) w u cnv seq
  unfolding mount_outcome
  mount_emptied n =
      let x = mount_answer block superblock options report open_limit active_limit cnv seq in
      let e = refused_mount x refl (subst (λ (g : Changed). g.number ≢ 0) mount_told n) in
      subst (λ (g : Changed). Empty g w u cnv seq) (sym (mount_told ∙ ap (told_mounted w u a) e)) (empty_told x)

pub mount_kept : MountKept
unfolding MountKept
mount_kept block superblock options report open_limit active_limit cnv seq w u a typed h =
    mount_keeps block superblock options report open_limit active_limit cnv seq w u a h typed

pub mount_empty : MountEmpty
unfolding MountEmpty
mount_empty block superblock options report open_limit active_limit cnv seq w u a h =
    mount_emptied block superblock options report open_limit active_limit cnv seq w u a h

-- THE CHAIN

-- words for an answer that have room for it still have, once it is written
room_stays : (a vs : List ℕ) → answer_length ≤ length (written a (answer_words vs))
unfolding written answer_words
room_stays a vs = omega (arith, length-append (answer_words vs) (drop (length (answer_words vs)) a))

chain_run : (xs : List Input) (g : Changed) (s : State) → answer_length ≤ length g.answer → Keeps g s
    → ((run_words g xs).numbers ≡ map answer_number (run s xs).replies) × Keeps (run_words g xs).last (run s xs).state
unfolding run_words run
chain_run [] g s room k = (refl, k)
chain_run (x ∷ xs) g s room k =
    let same : state_in g.mount g.account g.cnv g.seq ≡ s = rw (k.words.1, k.cnv, k.seq) in
    let ready = words-usable g.mount g.account g.answer k.words.0 room in
    let next = step_words g.mount g.account g.cnv g.seq x g.answer in
    let (number, kept) = step_of g.mount g.account g.cnv g.seq x g.answer ready in
    let roomy : answer_length ≤ length next.answer = rw (step-told g.mount g.account g.cnv g.seq x g.answer ready) (room_stays g.answer _) in
    let (numbers, last) = chain_run xs next (step s x).state roomy (subst (λ (t : State). Keeps next (step t x).state) same kept) in
    (ap (λ (n : ℕ). n ∷ (run_words next xs).numbers) (number ∙ ap (λ (t : State). answer_number (step t x).reply) same) ∙ ap (λ (l : List ℕ). answer_number (step s x).reply ∷ l) numbers, last)

pub chain_kept : ChainKept
unfolding ChainKept
chain_kept block superblock options report open_limit active_limit cnv seq w u a typed h xs =
    chain_run xs (mount_given block superblock options report open_limit active_limit cnv seq w u a) (mounted (mount_outcome block superblock options report open_limit active_limit cnv seq))
    (rw (mount_told block superblock options report open_limit active_limit cnv seq w u a h) (room_stays a _))
    (mount_keeps block superblock options report open_limit active_limit cnv seq w u a h typed)
