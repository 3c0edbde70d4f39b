-- Where a command that a call would issue lies in its file, and how long it is.
-- Assumes nothing.
use Rattle.std.specs.Prelude.{Ok}
use Prim.Native.Nat.{ℕ, ◌+◌, ◌-◌, ◌≤◌}
use native.Mathlib.Omega.{arith}
use mathlib.Core.Path.{◌≡◌, refl, sym, ap, ◌∙◌}
use mathlib.Core.Bool.{Bool, true, false, false≢true}
use borrow.Author.Tests.{eqb-false}
use Rattle.types.specs.declared.Row.{Row}
use Rattle.types.specs.declared.FileKind.{FileKind}
use Rattle.types.specs.declared.Command.{Command}
use Rattle.types.specs.declared.CommandKind.{CommandKind}
use Rattle.types.specs.declared.CommandKind.TheVariants as kind
use Rattle.types.specs.declared.Movement.TheVariants.{Advances}
use Rattle.types.specs.declared.Granted.TheVariants.{Issue}
use Rattle.types.specs.Blocks.{bytes_of}
use Rattle.types.specs.Commands.{movement_of, is_read}
use Rattle.decision.specs.Decision.{file_command, read_count, answer_on}
use Rattle.decision.proofs.Laws.{read_issued, write_issued, truncate_issued, flush_issued, open_issued, close_issued}
use Rattle.held.specs.Held.{call_for, opens_before, stood_before, issuable}
use Rattle.held.proofs.Issuable.{issuable_call, again_opens}

pub record InFile (r : Row) (c : Command) : Type 0 where
  pub low : bytes_of r.start ≤ c.address
  pub high : c.address + c.length ≤ bytes_of r.start + r.capacity
  -- without a length it is at the start
  pub first : c.length ≡ 0 → c.address ≡ bytes_of r.start
  -- "a byte length (0 but for reads and writes)": so its length is the count that a success answers
  pub none : is_read c.kind ≡ false → (movement_of c.kind ≡ Advances → ⊥) → c.length ≡ 0

whole_file : (k : CommandKind) (r : Row) → InFile r (file_command k r)
whole_file k r = record { low = omega arith; high = omega arith; first = λ e. omega arith; none = λ e f. refl }

issued_in : (explicit : Bool) (block : ℕ) (k : FileKind) (r : Row) (j : CommandKind) (o n : ℕ) (c : Command) → answer_on explicit block k r (call_for r j o n) ≡ Ok (Issue c) → InFile r c
issued_in explicit block k r kind.Read o n c g =
    let w = read_issued r o n c g in
    let room : o + n ≤ r.capacity = w.checked.fits in
    let more = eqb-false (read_count r.size o n) 0 w.some in
    rw (← w.command) (record { low = omega arith; high = omega arith; first = λ e. absurd (more e); none = λ e f. absurd (false≢true (sym e)) })
issued_in explicit block k r kind.Write o n c g =
    let w = write_issued explicit block k r o n c g in
    let room : o + n ≤ r.capacity = w.checked.fits in
    let more = eqb-false n 0 w.some in
    rw (← w.command) (record { low = omega arith; high = omega arith; first = λ e. absurd (more e); none = λ e f. absurd (f refl) })
issued_in explicit block k r kind.Reset o n c g = rw (← (truncate_issued k r 0 c g).command) (whole_file _ r)
issued_in explicit block k r kind.Finish o n c g = rw (← (truncate_issued k r r.capacity c g).command) (whole_file _ r)
issued_in explicit block k r kind.Flush o n c g = rw (← (flush_issued r c g).command) (whole_file _ r)
issued_in explicit block k r kind.Open o n c g = rw (← (open_issued explicit k r c g).command) (whole_file _ r)
issued_in explicit block k r kind.Close o n c g = rw (← (close_issued explicit k r c g).command) (whole_file _ r)

pub issuable_in : (explicit : Bool) (block : ℕ) (k : FileKind) (r : Row) (c : Command) → issuable explicit block k r c ≡ true → InFile r c
issuable_in explicit block k r c h =
    let there = c.address - bytes_of r.start in
    let n = opens_before c.kind r.opens in
    let at = issued_in explicit block k (stood_before r c) c.kind there c.length c (ap (answer_on explicit block k (stood_before r c)) (again_opens r n c.kind there c.length) ∙ issuable_call explicit block k r c h) in
    record { low = at.low; high = at.high; first = at.first; none = at.none }
