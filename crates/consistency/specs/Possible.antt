-- Number 10, "mount value or tables impossible": what is possible, and that it stays possible. So from a mount answered 0 nothing is ever
-- answered 10, and nothing about a file that there is is answered 1: whatever is called, and whatever the disk tells, the truth or not.
use Rattle.std.specs.Prelude.{ℕ, ◌<◌, ◌≡◌, ◌≢◌, true, List, [], ◌∷◌, length, Ok}
use Rattle.types.specs.declared.Volume.{Volume}
use Rattle.types.specs.declared.Row.{Row}
use Rattle.types.specs.declared.FileKind.{FileKind}
use Rattle.types.specs.Answers.{Answer}
use Rattle.types.specs.declared.Refusal.TheVariants as refusal
use Rattle.types.specs.declared.Outstanding.{Outstanding}
use Rattle.types.specs.declared.Outstanding.TheVariants.{Idle, Busy, Unknown}
use Rattle.types.specs.Codes.{is_kind, kind_from}
use Rattle.types.specs.Kinds.{of_kind, files_of}
use Rattle.types.specs.Numbers.{refusal_number, answer_number, mount_number}
use Rattle.table.specs.Rows.{row_at}
use Rattle.mount.specs.Mount.{mount_outcome}
use Rattle.account.specs.Counts.{TrueCounts}
use Rattle.checks.specs.Checks.{counts_fit, sound_row}
use Rattle.held.specs.Held.{issuable}
use Rattle.engine.specs.Engine.{State, mounted, Input, step, run}
use Rattle.engine.specs.Frame.{kind_in, number_in}

-- ---- "Number 10", the other way round

-- there is a file n of this kind
abbrev pub IsFile : State → FileKind → ℕ → Type 0
IsFile s k n = n < files_of k s.mount.volume

-- nothing is held, or some call on its file, "with row and mount as they are but nothing held, would issue" the held command, the read-only mark
-- aside (02); 02: "10 takes a held open or close as its file stood before that call, account and limits aside"
abbrev pub HeldPossible : Volume → FileKind → Row → Outstanding → Type 0
HeldPossible v k r Idle = Unit
HeldPossible v k r (Busy c) = issuable v.explicit v.block k r c ≡ true
HeldPossible v k r Unknown = ⊥

-- its row is one, breaks no rule, and holds nothing that it can't
pub record RowPossible (s : State) (k : FileKind) (n : ℕ) : Type 0 where
  pub row : Row
  pub reads : row_at (of_kind k s.cnv s.seq) n ≡ Ok row
  pub sound : sound_row s.mount.volume.block k row ≡ true
  pub held : HeldPossible s.mount.volume k row row.outstanding

pub record Possible (s : State) : Type 0 where
  -- no "more files of either kind than rows lent or than 1,022", which 02 raises to 65,535, no "wrong block", 02: no "account above the seq file
  -- count"
  pub counts : counts_fit s.mount (length s.cnv) (length s.seq) ≡ true
  -- 02: "both numbers are the true counts", so neither is "0 in what the named row counts in", whatever the row
  pub account : TrueCounts s.mount s.seq
  -- no "row that breaks these", and no "held command that no call on its file .. would issue", the mark aside, of whatever file
  pub rows : (k : FileKind) (n : ℕ) → IsFile s k n → RowPossible s k n

-- ---- of one step

-- "mount value or tables impossible"
abbrev pub impossible : ℕ
impossible = refusal_number refusal.Impossible

-- "no such file or name"
abbrev pub no_file : ℕ
no_file = refusal_number refusal.NoFile

-- a mount answered 0 leaves what is possible
unfoldable pub MountedPossible : Type 0
MountedPossible =
    (block : ℕ) (superblock options report : List ℕ) (open_limit active_limit : ℕ) (cnv seq : List ℕ) → let o = mount_outcome block superblock options report open_limit active_limit cnv seq in
    mount_number o.answer ≡ 0 → Possible (mounted o)

-- and so does every step, from what is possible
unfoldable pub StaysPossible : Type 0
StaysPossible = (s : State) (x : Input) → Possible s → Possible (step s x).state

-- no step is answered 10, be it a call or a completion
unfoldable pub NeverImpossible : Type 0
NeverImpossible = (s : State) (x : Input) → Possible s → answer_number (step s x).reply ≢ impossible

-- the input names a file of those that there are
abbrev pub NamesFile : State → Input → Type 0
NamesFile s x = (is_kind (kind_in x) ≡ true) × IsFile s (kind_from (kind_in x)) (number_in x)

-- and no call or completion of a file that there is is answered 1
unfoldable pub FilesAreFound : Type 0
FilesAreFound = (s : State) (x : Input) → Possible s → NamesFile s x → answer_number (step s x).reply ≢ no_file

-- ---- of a run, from a mount answered 0

-- none of these answers has the number
unfoldable pub NoneIs : ℕ → List Answer → Type 0
NoneIs number [] = Unit
NoneIs number (a ∷ rest) = (answer_number a ≢ number) × NoneIs number rest

-- whatever comes in, no reply is 10
unfoldable pub RunNeverImpossible : Type 0
RunNeverImpossible =
    (block : ℕ) (superblock options report : List ℕ) (open_limit active_limit : ℕ) (cnv seq : List ℕ) → let o = mount_outcome block superblock options report open_limit active_limit cnv seq in
    mount_number o.answer ≡ 0 → (inputs : List Input) → NoneIs impossible (run (mounted o) inputs).replies

-- and neither a call nor a completion of a file of the mount is answered 1 after it
unfoldable pub RunFindsFiles : Type 0
RunFindsFiles =
    (block : ℕ) (superblock options report : List ℕ) (open_limit active_limit : ℕ) (cnv seq : List ℕ) → let o = mount_outcome block superblock options report open_limit active_limit cnv seq in
    mount_number o.answer ≡ 0 → (inputs : List Input) (x : Input) → NamesFile (mounted o) x
    → answer_number (step (run (mounted o) inputs).state x).reply ≢ no_file
