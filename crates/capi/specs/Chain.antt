-- The chain from bytes to the words of a caller in C: the words that `zonefs_mount` leaves hold the mount value with its account, they go on holding
-- that of the engine through every call and completion, and a refused one leaves every word as it was.
use Rattle.std.specs.Prelude.{ℕ, ◌^◌, ◌<◌, true, List, [], ◌∷◌, map, ◌≢◌, ◌≡◌, length, get_or, replicate}
use Rattle.types.specs.Numbers.{answer_number}
use Rattle.mount.specs.Mount.{mount_outcome}
use Rattle.engine.specs.Engine.{State, mounted, Input, step, run}
use Rattle.answer_words.specs.Answers.{written}
use Rattle.mount_words.specs.Words.{mount_length, account_length, mount_from, Holds}
use Rattle.step_words.specs.Words.{Changed, usable, step_words}
use Rattle.mount_call_words.specs.Words.{roomy, mount_given}

-- ---- one call or completion

-- the state that a caller's words and tables hold
abbrev pub state_in : List ℕ → List ℕ → List ℕ → List ℕ → State
state_in w u cnv seq = record { mount = mount_from w u; cnv = cnv; seq = seq }

-- what a function gives is this state
pub record Keeps (g : Changed) (s : State) : Type 0 where
  pub words : Holds g.mount g.account s.mount
  pub cnv : g.cnv ≡ s.cnv
  pub seq : g.seq ≡ s.seq

-- "All but 7 change nothing", down to the words, those answered 0 aside
pub record Unchanged (g : Changed) (w u c s : List ℕ) : Type 0 where
  pub words : g.mount ≡ w
  pub account : g.account ≡ u
  pub cnv : g.cnv ≡ c
  pub seq : g.seq ≡ s

-- ---- a list of them, one after the other, with the same words for their answers

pub record WordRun : Type 0 where
  pub numbers : List ℕ
  pub last : Changed

unfoldable pub run_words : Changed → List Input → WordRun
run_words g [] = record { numbers = []; last = g }
run_words g (x ∷ xs) =
    let next = step_words g.mount g.account g.cnv g.seq x g.answer in
    let rest = run_words next xs in
    record { numbers = next.number ∷ rest.numbers; last = rest.last }

-- ---- a mount

-- what C's types say of what it is handed: bytes, and limits of 32 bits
pub record Typed (superblock : List ℕ) (open_limit active_limit : ℕ) : Type 0 where
  pub bytes : (k : ℕ) → get_or superblock k 0 < 256
  pub opened : open_limit < 2 ^ 32
  pub active : active_limit < 2 ^ 32

-- what a refused one leaves: zeros in the words of the mount and of its account, and both tables as they were
pub record Empty (g : Changed) (w u c s : List ℕ) : Type 0 where
  pub words : g.mount ≡ written w (replicate mount_length 0)
  pub account : g.account ≡ written u (replicate account_length 0)
  pub cnv : g.cnv ≡ c
  pub seq : g.seq ≡ s

-- ---- the claims

-- a step of usable words is the engine's: its number, its tables, and words that hold its mount value
unfoldable pub StepKept : Type 0
StepKept =
    (w u cnv seq : List ℕ) (x : Input) (a : List ℕ) → usable w u (length a) ≡ true → let t = step (state_in w u cnv seq) x in
    ((step_words w u cnv seq x a).number ≡ answer_number t.reply) × Keeps (step_words w u cnv seq x a) t.state

-- of any words and tables whatever, a call or completion that is answered neither 0 nor 7 leaves every one as it was
unfoldable pub RefusedKept : Type 0
RefusedKept =
    (w u cnv seq : List ℕ) (x : Input) (a : List ℕ) → let g = step_words w u cnv seq x a in g.number ≢ 0 → g.number ≢ 7 → Unchanged g w u cnv seq

-- the words that a mount leaves hold its mount value, whatever stood there
unfoldable pub MountKept : Type 0
MountKept =
    (block : ℕ) (superblock options report : List ℕ) (open_limit active_limit : ℕ) (cnv seq w u a : List ℕ)
    → Typed superblock open_limit active_limit → roomy (length w) (length u) (length a) ≡ true
    → Keeps (mount_given block superblock options report open_limit active_limit cnv seq w u a) (mounted (mount_outcome block superblock options report open_limit active_limit cnv seq))

-- and a refused mount leaves zeros
unfoldable pub MountEmpty : Type 0
MountEmpty =
    (block : ℕ) (superblock options report : List ℕ) (open_limit active_limit : ℕ) (cnv seq w u a : List ℕ)
    → roomy (length w) (length u) (length a) ≡ true
    → let g = mount_given block superblock options report open_limit active_limit cnv seq w u a in g.number ≢ 0 → Empty g w u cnv seq

-- THE CHAIN: after it, any list of calls and completions gives the engine's numbers, tables and mount value
unfoldable pub ChainKept : Type 0
ChainKept =
    (block : ℕ) (superblock options report : List ℕ) (open_limit active_limit : ℕ) (cnv seq w u a : List ℕ)
    → Typed superblock open_limit active_limit → roomy (length w) (length u) (length a) ≡ true → (xs : List Input)
    → let given = run_words (mount_given block superblock options report open_limit active_limit cnv seq w u a) xs in
    let kept = run (mounted (mount_outcome block superblock options report open_limit active_limit cnv seq)) xs in
    (given.numbers ≡ map answer_number kept.replies) × Keeps given.last kept.state
